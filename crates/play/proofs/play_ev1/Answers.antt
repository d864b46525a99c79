-- An EV1's script, on the card that it names.
use mathlib.Core.Path.{refl, sym, ◌∙◌}
use Rattle.script.specs.Lock.{ev1_script_of}
use Rattle.play.specs.Run.{reading_for, ev1_card_of}
use Rattle.play.specs.Printout.{ev1_printout_of}
use Rattle.play.proofs.Whole.{refusal_printed, lawful_choice, refused_choice, finished}
use Rattle.play.proofs.play_ev1.Goals as goal

pub put_run-requires : goal.put_run-requires
unfolding reading_for ev1_script_of
put_run-requires c = (lawful_choice _ _ _ (sym c.ev1_script.ensures ∙ c.in-Ok.is)).0

pub returns-in-Ok : goal.returns-in-Ok
unfolding reading_for ev1_script_of ev1_card_of ev1_printout_of
returns-in-Ok c = let k = (lawful_choice _ _ _ (sym c.ev1_script.ensures ∙ c.in-Ok.is)).1 in
    let p = finished _ _ _ _ _ refl (rw k at c.put_run.ensures) in record { value = p.0; out_after = p.1.0; upper_bound = p.1.1 }

pub returns-in-Err : goal.returns-in-Err
unfolding ev1_script_of ev1_printout_of
returns-in-Err c = let p = finished _ _ _ _ _ (refusal_printed _ _ _ _ (refused_choice _ _ _ (sym c.ev1_script.ensures ∙ c.in-Err.is))) c.put_refusal.ensures in record { value = p.0; out_after = p.1.0; upper_bound = p.1.1 }
