-- 2 and 3, then what the sector says.
use Rattle.judge.specs.First.{first}
use Rattle.judge.specs.Checks.{no_block, other_sector, memory_checks}
use Rattle.judge.specs.Code.{granted, verdict_of}
use Rattle.judge.proofs.Guard.{decided}
use Rattle.judge.proofs.checks.memory_verdict.Goals as goal

pub returns-then-not-has_block : goal.returns-then-not-has_block
unfolding verdict_of memory_checks no_block first granted
returns-then-not-has_block c = rw (← c.has_block.ensures, c.if-not-has_block.true)

pub returns-then-not-in_sector : goal.returns-then-not-in_sector
unfolding verdict_of memory_checks no_block other_sector first granted
returns-then-not-in_sector c = rw (← c.has_block.ensures, c.if-not-has_block.false, ← c.sector_of-s.ensures, ← c.in_sector.ensures, c.if-not-in_sector.true)

pub returns : goal.returns
unfolding no_block other_sector
returns c = decided _ _ _ _ _ _ _
    (rw (← c.has_block.ensures, c.if-not-has_block.false))
    (rw (← c.sector_of-s.ensures, ← c.in_sector.ensures, c.if-not-in_sector.false))
    (rw (c.access_bytes_of.ensures, c.content-t.ensures, c.trailer_of.ensures, c.sector_of-s.ensures))
    c.letter_of.ensures
    c.guarded.ensures
