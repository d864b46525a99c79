-- Each byte by the code of its part.
use Rattle.record.specs.Record.{record_of}
use Rattle.record.proofs.encode.Goals as goal

pub returns : goal.returns
unfolding record_of
returns c = rw (c.four-value.ensures, c.value_bits.ensures, c.address_byte-address.ensures, c.full_code-full.ensures, c.block_byte-block.ensures, c.stage_code-code.ensures, c.sector_byte-sector.ensures, c.who_code-who.ensures)
