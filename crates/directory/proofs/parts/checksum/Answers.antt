-- The first word stands for C7h; and eight bytes more.
use mathlib.Core.Path.{refl, ◌∙◌, ap, ap₂}
use Rattle.directory.specs.Checksum.{shifted, shifts, byte_on, bytes_on, checksum_of}
use Rattle.directory.specs.Code.{feed, standing}
use Rattle.directory.proofs.Blocks.{two_halves}
use Rattle.directory.proofs.parts.checksum.Goals as goal

pub loop-eight-init : goal.loop-eight-init
unfolding checksum_of feed byte_on shifts shifted
loop-eight-init c = refl

pub loop-eight-preserved : goal.loop-eight-preserved
loop-eight-preserved c = let l = c.loop-eight in
    let given = c.in-Some.ensures in
    ap₂ bytes_on (c.eight_more-s.ensures ∙ ap (bytes_on (standing l.s)) given.cases.0) given.cases.1
    ∙ two_halves (standing l.s) l.left.now
    ∙ l.invariant
