-- What is read of an EV1's script is its choice, with the refusal where there is one.
use mathlib.Core.Path.{sym, ◌∙◌}
use Rattle.script.specs.Lock.{ev1_script_of}
use Rattle.play.specs.Run.{reading_for}
use Rattle.play.proofs.Whole.{lawful_choice, refused_choice}
use Rattle.play.proofs.refusal_for.Goals as goal

pub returns-in-Ok : goal.returns-in-Ok
unfolding reading_for ev1_script_of
returns-in-Ok c = rw c.in-Ev1.is (sym (lawful_choice _ _ _ (sym c.ev1_script.ensures ∙ c.in-Ok.is)).0)

pub returns-in-Err : goal.returns-in-Err
unfolding reading_for ev1_script_of
returns-in-Err c = rw c.in-Ev1.is (sym (refused_choice _ _ _ (sym c.ev1_script.ensures ∙ c.in-Err.is)))
