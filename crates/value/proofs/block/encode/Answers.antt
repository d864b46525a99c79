-- `encode` lays out the bits as the definition does, since 32 bits are the bits of their whole number.
use native.Mathlib.Omega.{arith}
use Rattle.value.specs.Block.{encode_of}
use Rattle.value.proofs.Blocks.{bits_signed}
use Rattle.value.proofs.Words.{inverse_four}
use Rattle.value.proofs.block.encode.Goals as goal

pub returns : goal.returns
unfolding encode_of
returns c = let v = c.args.value in
    let i = inverse_four v (omega arith) in
    rw (c.four-plain.ensures, c.four-inverted.ensures, i.0, i.1, i.2, i.3, bits_signed v (omega arith))
