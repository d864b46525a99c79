-- `trailer_rule` goes by the column.
use mathlib.Core.Path.{◌≡◌, refl, ◌∙◌}
use mathlib.Core.Bool.{Bool, true, false, not, ◌&&◌, ◌||◌, cond}
use Prim.Native.Nat.{ℕ}
use Rattle.std.proofs.Common.{Ok, Err}
use Rattle.access.specs.Rights.{mute_of, writable_of}
use Rattle.access.specs.declared.rights.Operation.TheVariants.{Write}
use Rattle.judge.specs.First.{first, passes, refuses}
use Rattle.judge.specs.Checks.{is_forbidden, trailer_right, right_of}
use Rattle.judge.specs.Code.{trailer_grant, granted}
use Rattle.judge.specs.declared.checks.Grant.{Grant}
use Rattle.judge.specs.declared.checks.Grant.TheVariants.{InParts}
use Rattle.judge.proofs.checks.trailer_rule.Goals as goal

barred : (t : Bool) (m : ℕ) → cond t (Err 7) (Ok (InParts m)) ≡ granted (cond (not (not t && true)) (refuses 7) passes) (InParts m)
unfolding granted
barred true m = refl
barred false m = refl

write_way : (t r : Bool) (v : Grant) → granted (cond (t || not r) (refuses 7) passes) v ≡ granted (cond (not (not t && r)) (refuses 7) passes) v
write_way true r v = refl
write_way false true v = refl
write_way false false v = refl

pub returns-in-Read : goal.returns-in-Read
unfolding first granted is_forbidden trailer_right right_of trailer_grant
returns-in-Read c = c.read_rule.ensures
    ∙ rw (c.is_mute.ensures, c.in-Read.is) (barred (mute_of c.args.l c.args.m) c.args.m)

pub returns-in-Write : goal.returns-in-Write
unfolding first is_forbidden right_of
returns-in-Write c = let l = c.args.l in
    let m = c.args.m in
    c.write_rule.ensures
    ∙ rw (c.is_mute-in-Write.ensures, c.writable.ensures, c.in-Write.is)
    (write_way (mute_of l m) (trailer_right Write (writable_of l m)) (trailer_grant Write (writable_of l m) m))

pub returns-in-Increment : goal.returns-in-Increment
unfolding first granted is_forbidden
returns-in-Increment c = rw c.in-Increment.is

pub returns-in-Decrement : goal.returns-in-Decrement
unfolding first granted is_forbidden
returns-in-Decrement c = rw c.in-Decrement.is
