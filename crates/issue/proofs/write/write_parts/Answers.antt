-- One part, or two.
use mathlib.Core.Path.{sym, ◌∙◌, ap}
use Prim.Native.Nat.{ℕ, ◌+◌}
use native.Mathlib.Omega.{arith}
use lib.Seq.{length-take-le}
use Rattle.issue.specs.Write.{directory_blocks, directory_bytes}
use Rattle.issue.proofs.Filling.{to_end, two_filled}
use Rattle.issue.proofs.write.write_parts.Goals as goal

pub slice_bounds-write_part-end : goal.slice_bounds-write_part-end
slice_bounds-write_part-end c = let l = rw c.in-Two.is at c.requires in sym (length-take-le 30 c.args.numbers.now (omega (arith, l)))

pub write_part-requires-in-Two : goal.write_part-requires-in-Two
write_part-requires-in-Two c = let l = rw c.in-Two.is at c.requires in
    (ap (λ (n : ℕ). n + 2) (length-take-le 30 c.args.numbers.now (omega (arith, l))), omega arith)

pub returns-in-One : goal.returns-in-One
unfolding directory_blocks directory_bytes
returns-in-One c = rw c.in-One.is c.write_part.ensures

pub returns-in-Two : goal.returns-in-Two
returns-in-Two c = let l = rw c.in-Two.is at c.requires in
    let a = c.args in
    rw c.in-Two.is
    (c.write_part-in-Two-2.ensures ∙ rw (c.write_part-in-Two.ensures, to_end 30 a.numbers.now) (two_filled a.image.now a.infos a.numbers.now l))
