-- An event leaves what its act leaves, and a run cut anywhere is two runs.
-- Assumes nothing.
use mathlib.Core.Path.{◌≡◌, refl, ap}
use mathlib.Core.List.{List, [], ◌∷◌, ◌++◌}
use mathlib.Core.Bool.{Bool, true, false, cond}
use Rattle.card.specs.Effects.{session_of, image_of}
use Rattle.card.specs.Step.{answered}
use Rattle.card.specs.Answers.{Answer}
use Rattle.sealed.specs.Sealed.{inner_of, sealed_of}
use Rattle.either_card.specs.Personal.{acknowledged}
use Rattle.either_card.specs.Either.{personal, given_for, card_answer_of, card_image_after, sealed_card_of, sealed_card_answer_of, sealed_card_image_after}
use Rattle.either_card.specs.Answers.{CardAnswer}
use Rattle.runs.specs.Run.{State, Sent, reset, bare, sealed, answer_to, image_upon, after, run_of, answers_of, frame_in, act_of, acted}

-- a 40h leaves the session that its act leaves
pub same_session : (t : Bool) (a : Answer) → (cond t (acknowledged a) a).session ≡ a.session
unfolding acknowledged
same_session true a = refl
same_session false a = refl

pub after_acts : (st : State) (e : Sent) → after st e ≡ acted (answer_to st e).card st (frame_in e) (act_of st e)
unfolding after answer_to image_upon act_of answered card_answer_of card_image_after given_for sealed_card_answer_of sealed_card_of sealed_of sealed_card_image_after image_of session_of
after_acts st reset = refl
after_acts st (bare frame) = rw (same_session (personal st.card st.session frame))
after_acts st (sealed frame) = rw (same_session (personal st.card st.session (inner_of frame)))

pub answers_cut : (st : State) (past rest : List Sent) → answers_of st (past ++ rest) ≡ answers_of st past ++ answers_of (run_of st past) rest
unfolding answers_of run_of
answers_cut st [] rest = refl
answers_cut st (e ∷ past) rest = ap (λ (rest : List CardAnswer). answer_to st e ∷ rest) (answers_cut (after st e) past rest)

pub run_cut : (st : State) (past rest : List Sent) → run_of st (past ++ rest) ≡ run_of (run_of st past) rest
unfolding run_of
run_cut st [] rest = refl
run_cut st (e ∷ past) rest = run_cut (after st e) past rest
