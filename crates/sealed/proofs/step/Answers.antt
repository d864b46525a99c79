-- The bare answer to the inner bytes, or the refusal.
use mathlib.Core.Path.{◌≡◌, ap, ◌∙◌}
use Rattle.card.specs.Step.{answered}
use Rattle.sealed.specs.Sealed.{sealed_act_of, sealed_of, sealed_answer_of, sealed_image_after}
use Rattle.sealed.proofs.Acts.{with_seal_lem, without_seal}
use Rattle.sealed.proofs.step.Goals as goal
use Rattle.sealed.proofs.step.Goals.{in-Some, in-None}

pub returns : goal.returns
unfolding sealed_answer_of
returns c =
    let entered = c.args in
    let image = entered.image.now in
    let frame = entered.frame.now in
    let s = entered.s in
    let met = c.match-inner in
    let told : (met.a ≡ answered image s (sealed_act_of image s frame)) × (met.image ≡ sealed_image_after image s frame) =
    elim met.branch [
      | in-Some w ↦ let passed = w.in-Some.ensures in
          let law = with_seal_lem image s frame passed.0 in (w.a-is ∙ w.step-a.ensures.value ∙ rw passed.1 law.0, w.image-is ∙ w.step-a.ensures.image_after ∙ rw passed.1 law.1)
      | in-None w ↦ let law = without_seal image s frame _ w.in-None.ensures w.first_refusal.ensures in (w.a-is ∙ w.refusal-a.ensures ∙ rw w.number.ensures law.0, w.image-is ∙ law.1)
    ] in
    record { value = c.sealed.ensures ∙ ap sealed_of told.0; image_after = told.1 }
