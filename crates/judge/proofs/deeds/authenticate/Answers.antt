-- 2, 5 and 4 in their order.
use mathlib.Core.Path.{◌∙◌}
use Rattle.access.proofs.BitLaws.{closed, opened}
use Rattle.judge.specs.First.{first, ruled}
use Rattle.judge.specs.Checks.{no_block, is_blocked, wrong_key, authenticate_checks}
use Rattle.judge.proofs.deeds.authenticate.Goals as goal

pub returns-in-None : goal.returns-in-None
unfolding authenticate_checks first ruled no_block is_blocked
returns-in-None c = c.refused.ensures ∙ rw (← c.has_block.ensures, c.if-has_block.true, ← c.sector_of-s.ensures, ← c.trailer_of.ensures, ← c.content-t.ensures, ← c.access_bytes_of.ensures, closed _ _ _ c.bits_of.ensures c.in-None.is)

pub returns-then-is_key : goal.returns-then-is_key
unfolding authenticate_checks first ruled no_block is_blocked wrong_key
returns-then-is_key c = rw (← c.has_block.ensures, c.if-has_block.true, ← c.sector_of-s.ensures, ← c.trailer_of.ensures, ← c.content-t.ensures, ← c.access_bytes_of.ensures, (opened _ _ _ c.bits_of.ensures _ c.in-Some.is).0, ← c.is_key.ensures, c.if-is_key.true)

pub returns-else-is_key : goal.returns-else-is_key
unfolding authenticate_checks first ruled no_block is_blocked wrong_key
returns-else-is_key c = c.refused-else-is_key.ensures ∙ rw (← c.has_block.ensures, c.if-has_block.true, ← c.sector_of-s.ensures, ← c.trailer_of.ensures, ← c.content-t.ensures, ← c.access_bytes_of.ensures, (opened _ _ _ c.bits_of.ensures _ c.in-Some.is).0, ← c.is_key.ensures, c.if-is_key.false)

pub returns-else-has_block : goal.returns-else-has_block
unfolding authenticate_checks first ruled no_block
returns-else-has_block c = c.refused-else-has_block.ensures ∙ rw (← c.has_block.ensures, c.if-has_block.false)
