-- What `give` hands over is the answer to the session that `decode` found, or to none.
use mathlib.Core.Path.{◌≡◌, sym, ◌∙◌}
use Rattle.crossing.proofs.Laws.{no_value}
use Rattle.chip.specs.Chip.{chip_answer, chip_image}
use Rattle.chip.proofs.Laws.{with_session, without_session}
use Rattle.chip.proofs.tirlwheel_sealed_frame.Goals as goal
use Rattle.chip.proofs.tirlwheel_sealed_frame.Goals.{in-Some, in-None}

told : (c : goal.After-give) → (c.match-decode.a ≡ chip_answer c.args.image.now c.args.session.now c.args.frame.now) × (c.match-decode.image ≡ chip_image c.args.image.now c.args.session.now c.args.frame.now)
told c = let args = c.args in
    let image = args.image.now in
    let bytes = args.session.now in
    let frame = args.frame.now in
    let d = c.decode.ensures in
    elim c.match-decode.branch [
      | in-Some w ↦ let law = with_session image bytes frame _ (sym d ∙ w.in-Some.is) in (w.a-is ∙ w.step-a.ensures.value ∙ law.0, w.image-is ∙ w.step-a.ensures.image_after ∙ law.1)
      | in-None w ↦ let law = without_session image bytes frame (sym d ∙ w.in-None.is) in (w.a-is ∙ w.no_session-a.ensures ∙ law.0, w.image-is ∙ law.1)
    ]

pub returns-clause-value : goal.returns-clause-value
returns-clause-value c = c.give.ensures.value ∙ no_value _ _ ∙ rw (told c).0

pub returns-clause-session_after : goal.returns-clause-session_after
returns-clause-session_after c = c.give.ensures.session_after ∙ rw (told c).0

pub returns-clause-reply_after : goal.returns-clause-reply_after
returns-clause-reply_after c = c.give.ensures.reply_after ∙ rw (told c).0

pub returns-clause-image_after : goal.returns-clause-image_after
returns-clause-image_after c = (told c).1
