-- `decode` reads the value and the address byte where all sixteen bytes agree.
use Rattle.value.specs.Block.{decode_of}
use Rattle.value.proofs.block.decode.Goals as goal

pub returns-then-agrees : goal.returns-then-agrees
unfolding decode_of
returns-then-agrees c = rw (← c.agrees.ensures, c.if-agrees.true, c.word-value.ensures)

pub returns : goal.returns
unfolding decode_of
returns c = rw (← c.agrees.ensures, c.if-agrees.false)
