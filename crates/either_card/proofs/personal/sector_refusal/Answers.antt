-- 5 where the nibbles disagree; then the bar of a readable key B, and the right itself.
use Rattle.access.proofs.BitLaws.{closed, opened}
use Rattle.judge.specs.Checks.{is_blocked, right_of}
use Rattle.either_card.specs.Code.{sector_refusal}
use Rattle.either_card.proofs.personal.sector_refusal.Goals as goal

pub returns-in_default : goal.returns-in_default
unfolding sector_refusal is_blocked
returns-in_default c = rw (closed _ _ _ c.bits_of.ensures c.in_default.is)

pub returns-in_default-bits_of : goal.returns-in_default-bits_of
unfolding sector_refusal is_blocked
returns-in_default-bits_of c = rw (closed _ _ _ c.bits_of-2.ensures c.in_default-bits_of.is)

pub returns-then-is_mute : goal.returns-then-is_mute
unfolding sector_refusal is_blocked right_of
returns-then-is_mute c = let n = opened _ _ _ c.bits_of.ensures _ c.in-Some.is in
    let m = opened _ _ _ c.bits_of-2.ensures _ c.in-Some-bits_of.is in
    rw (n.0, ← m.1, ← c.is_mute.ensures, c.if-is_mute.true)

pub returns-then-may : goal.returns-then-may
unfolding sector_refusal is_blocked right_of
returns-then-may c = let n = opened _ _ _ c.bits_of.ensures _ c.in-Some.is in
    let m = opened _ _ _ c.bits_of-2.ensures _ c.in-Some-bits_of.is in
    rw (n.0, ← n.1, ← m.1, ← c.is_mute.ensures, c.if-is_mute.false, ← c.may.ensures, c.if-may.true)

pub returns : goal.returns
unfolding sector_refusal is_blocked right_of
returns c = let n = opened _ _ _ c.bits_of.ensures _ c.in-Some.is in
    let m = opened _ _ _ c.bits_of-2.ensures _ c.in-Some-bits_of.is in
    rw (n.0, ← n.1, ← m.1, ← c.is_mute.ensures, c.if-is_mute.false, ← c.may.ensures, c.if-may.false)
