-- `bits_of` is blocked, or the bits of the group asked for.
use Rattle.access.specs.Bits.{bits_of, group_bits, bit_of}
use Rattle.access.proofs.bits.bits_of.Goals as goal

pub returns-in-First : goal.returns-in-First
unfolding bits_of group_bits bit_of
returns-in-First c = rw (← c.is_well_formed.ensures, c.if-not-is_well_formed.false, c.in-First.is, c.bits_at.ensures)

pub returns-in-Second : goal.returns-in-Second
unfolding bits_of group_bits bit_of
returns-in-Second c = rw (← c.is_well_formed.ensures, c.if-not-is_well_formed.false, c.in-Second.is, c.bits_at-in-Second.ensures)

pub returns-in-Third : goal.returns-in-Third
unfolding bits_of group_bits bit_of
returns-in-Third c = rw (← c.is_well_formed.ensures, c.if-not-is_well_formed.false, c.in-Third.is, c.bits_at-in-Third.ensures)

pub returns-in-Trailer : goal.returns-in-Trailer
unfolding bits_of group_bits bit_of
returns-in-Trailer c = rw (← c.is_well_formed.ensures, c.if-not-is_well_formed.false, c.in-Trailer.is, c.bits_at-in-Trailer.ensures)

pub returns-then-not-is_well_formed : goal.returns-then-not-is_well_formed
unfolding bits_of
returns-then-not-is_well_formed c = rw (← c.is_well_formed.ensures, c.if-not-is_well_formed.true)
