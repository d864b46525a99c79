-- The session that was found, or none.
use mathlib.Core.Path.{refl, sym, ◌∙◌}
use Rattle.session.specs.Session.{coherent_of}
use Rattle.judge.specs.Checks.{incoherent}
use Rattle.record.specs.Record.{stray_of}
use Rattle.record.proofs.Laws.{session_found, session_missing}
use Rattle.kept.proofs.Stray.{no_session_sealed_kept}
use Rattle.keptchip.proofs.answer.Goals as goal

pub returns-in-Some : goal.returns-in-Some
returns-in-Some c = let e = session_found _ _ (sym c.decode.ensures ∙ c.in-Some.is) in rw e c.sealed_step.ensures

pub returns-in-None : goal.returns-in-None
unfolding incoherent coherent_of
returns-in-None c = let args = c.args in
    let law = no_session_sealed_kept args.image.now args.k args.f stray_of refl args.frame.now in
    rw (session_missing _ (sym c.decode.ensures ∙ c.in-None.is)) (record { value = c.sealed_no_session.ensures ∙ sym law.0; image_after = sym law.1 })
