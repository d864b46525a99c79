-- The bar first, then all parts, then some part.
use mathlib.Core.Path.{◌≡◌, refl}
use mathlib.Core.Bool.{Bool, true, false, not, ◌&&◌, ◌||◌, cond, false≢true}
use Prim.Native.Nat.{ℕ}
use Rattle.std.proofs.Common.{Ok}
use Rattle.judge.specs.First.{first, passes, refuses}
use Rattle.judge.specs.Checks.{trailer_right}
use Rattle.judge.specs.Code.{trailer_grant, granted}
use Rattle.judge.specs.declared.checks.Grant.TheVariants.{Whole, InParts}
use Rattle.judge.proofs.checks.write_rule.Goals as goal

wholly : (a x b : Bool) (m : ℕ) → (a && x && b) ≡ true → Ok Whole ≡ granted (cond (not (a || x || b)) (refuses 7) passes) (cond (a && x && b) Whole (InParts m))
unfolding granted
wholly true true true m h = refl
wholly true true false m h = absurd (false≢true h)
wholly true false b m h = absurd (false≢true h)
wholly false x b m h = absurd (false≢true h)

pub returns-then-mute : goal.returns-then-mute
unfolding first granted
returns-then-mute c = rw c.if-mute.true

pub returns-then-a-bits : goal.returns-then-a-bits
unfolding first granted trailer_right trailer_grant
returns-then-a-bits c = rw c.if-mute.false (wholly c.args.p.a c.args.p.bits c.args.p.b c.args.m c.if-a-bits.true)

pub returns-then-a-bits-2 : goal.returns-then-a-bits-2
unfolding first granted trailer_right trailer_grant
returns-then-a-bits-2 c = rw (c.if-mute.false, c.if-a-bits.false, c.if-a-bits-2.true)

pub returns : goal.returns
unfolding first granted trailer_right trailer_grant
returns c = rw (c.if-mute.false, c.if-a-bits-2.false)
