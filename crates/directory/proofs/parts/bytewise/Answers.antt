-- One byte more; and no byte is left.
use mathlib.Core.Path.{◌∙◌, ap}
use Prim.Native.Nat.{ℕ, ◌+◌}
use lib.ListN.{drop, drop_of_length-le}
use Rattle.directory.specs.Checksum.{bytes_on}
use Rattle.directory.proofs.Blocks.{turn}
use Rattle.directory.proofs.parts.bytewise.Goals as goal

pub loop-b-preserved : goal.loop-b-preserved
loop-b-preserved c = let l = c.loop-b in
    let bytes = c.args.bytes.now in
    ap (λ (x : ℕ). bytes_on x (drop (l.b-index + 1) bytes)) c.step-c.ensures ∙ turn bytes l.c l.b-index c.loop-b-test.true ∙ l.invariant

pub returns : goal.returns
unfolding bytes_on
returns c = rw (drop_of_length-le c.args.bytes.now c.loop-b-test.false) at c.loop-b.invariant
