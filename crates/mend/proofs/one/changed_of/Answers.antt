-- The bits of no byte, and a byte more.
use Prim.Native.Nat.{◌-◌}
use lib.Dec.{eqb}
use lib.ListN.{get_or}
use Rattle.mend.proofs.Changed.{start, differs, bit_small, room, turn}
use native.Mathlib.Omega.{arith}
use borrow.Author.Rules.{rules}
use Rattle.mend.proofs.one.changed_of.Goals as goal

pub loop-i-init : goal.loop-i-init
loop-i-init c = start c.args.before c.args.after (search rules)

pub overflow_mul-bits : goal.overflow_mul-bits
overflow_mul-bits c = let a = c.args in
    let l = c.loop-i in
    omega (arith, room a.before a.after (search rules) (search rules) l.i l.bits l.invariant (omega arith))

pub overflow_add-bits : goal.overflow_add-bits
overflow_add-bits c = let a = c.args in
    let l = c.loop-i in
    let t = eqb (get_or a.before (l.i - 1) 0) (get_or a.after (l.i - 1) 0) in
    omega (arith, differs t, bit_small t, room a.before a.after (search rules) (search rules) l.i l.bits l.invariant (omega arith))

pub loop-i-preserved : goal.loop-i-preserved
loop-i-preserved c = let a = c.args in
    let l = c.loop-i in
    turn a.before a.after (search rules) (search rules) l.i l.bits l.invariant (omega arith) (l.i - 1) c.from.result (omega arith) (omega arith) c.from.ensures
