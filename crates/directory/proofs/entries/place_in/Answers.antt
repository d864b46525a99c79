-- An entry that is the wanted number, an entry more, and no entry left.
use mathlib.Core.Path.{◌≡◌, refl, ◌∙◌}
use Prim.Native.Nat.{◌+◌}
use native.Mathlib.Omega.{arith}
use borrow.Author.Rules.{rules}
use Rattle.directory.proofs.Numbers.{match_here, no_match, none_left}
use Rattle.directory.proofs.entries.place_in.Goals as goal

pub loop-k-init : goal.loop-k-init
loop-k-init c = (search rules, search rules, refl)

pub returns-then-number-wanted : goal.returns-then-number-wanted
returns-then-number-wanted c = let l = c.loop-k in
    let a = c.args in
    match_here a.block l.invariant.1 l.k (search rules) (a.before + l.k) a.wanted _ c.number.ensures.0 c.if-number-wanted.true ∙ l.invariant.2

pub loop-k-preserved : goal.loop-k-preserved
loop-k-preserved c = let l = c.loop-k in
    let a = c.args in
    let v = l.invariant in
    let next : a.before + (l.k + 1) ≡ a.before + l.k + 1 = omega arith in
    (search rules, v.1, no_match a.block v.1 l.k (search rules) (a.before + l.k) a.wanted _ c.number.ensures.0 (a.before + (l.k + 1)) c.if-number-wanted.false next ∙ v.2)

pub returns : goal.returns
returns c = let l = c.loop-k in
    let a = c.args in
    none_left a.block l.invariant.1 l.k (a.before + l.k) a.wanted (search rules) ∙ l.invariant.2
