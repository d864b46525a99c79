-- With figures too an event leaves what its act leaves; and where its act is the one without figures, so are answer and state.
-- Assumes nothing.
use mathlib.Core.Path.{◌≡◌, refl, ap}
use mathlib.Core.List.{List, [], ◌∷◌, ◌++◌}
use Rattle.card.specs.Effects.{session_of, image_of}
use Rattle.card.specs.Step.{answered}
use Rattle.sealed.specs.Sealed.{inner_of, sealed_of}
use Rattle.either_card.specs.Either.{personal, given_for, card_answer_of, card_image_after, sealed_card_of, sealed_card_answer_of, sealed_card_image_after}
use Rattle.either_card.specs.Answers.{CardAnswer}
use Rattle.kept.specs.Kept.{settled_by, kept_for, kept_answer_of, kept_image_after, sealed_kept_of, sealed_kept_answer_of, sealed_kept_image_after}
use Rattle.runs.specs.Run.{Sent, reset, bare, sealed, answer_to, image_upon, after, frame_in, act_of}
use Rattle.runs.specs.Kept.{KeptState, kept_answer_to, figures_upon, kept_image_upon, kept_after, kept_run_of, kept_answers_of, kept_act_in, kept_acted}
use Rattle.runs.proofs.Laws.{same_session}

pub kept_after_acts : (st : KeptState) (e : Sent) → kept_after st e ≡ kept_acted (kept_answer_to st e).card st (frame_in e) (kept_act_in st e)
unfolding kept_after kept_answer_to figures_upon kept_image_upon kept_act_in kept_answer_of kept_image_after kept_for sealed_kept_answer_of sealed_kept_of sealed_kept_image_after settled_by answered given_for sealed_card_of sealed_of image_of session_of
kept_after_acts st reset = refl
kept_after_acts st (bare frame) = rw (same_session (personal st.state.card st.state.session frame))
kept_after_acts st (sealed frame) = rw (same_session (personal st.state.card st.state.session (inner_of frame)))

-- the same act, the same answer and the same state afterwards
pub same_answer : (st : KeptState) (e : Sent) → kept_act_in st e ≡ act_of st.state e → kept_answer_to st e ≡ answer_to st.state e
unfolding kept_answer_to kept_act_in kept_answer_of kept_for sealed_kept_answer_of sealed_kept_of answer_to act_of card_answer_of sealed_card_answer_of
same_answer st reset h = refl
same_answer st (bare frame) h = rw h
same_answer st (sealed frame) h = rw h

pub same_image : (st : KeptState) (e : Sent) → kept_act_in st e ≡ act_of st.state e → kept_image_upon st e ≡ image_upon st.state e
unfolding kept_image_upon kept_act_in kept_image_after sealed_kept_image_after image_upon act_of card_image_after sealed_card_image_after
same_image st reset h = refl
same_image st (bare frame) h = rw h
same_image st (sealed frame) h = rw h

pub same_state : (st : KeptState) (e : Sent) → kept_act_in st e ≡ act_of st.state e → (kept_after st e).state ≡ after st.state e
unfolding kept_after after
same_state st e h = rw (same_answer st e h, same_image st e h)

-- a run cut anywhere is two runs
pub kept_answers_cut : (st : KeptState) (past rest : List Sent) → kept_answers_of st (past ++ rest) ≡ kept_answers_of st past ++ kept_answers_of (kept_run_of st past) rest
unfolding kept_answers_of kept_run_of
kept_answers_cut st [] rest = refl
kept_answers_cut st (e ∷ past) rest = ap (λ (rest : List CardAnswer). kept_answer_to st e ∷ rest) (kept_answers_cut (kept_after st e) past rest)

pub kept_run_cut : (st : KeptState) (past rest : List Sent) → kept_run_of st (past ++ rest) ≡ kept_run_of (kept_run_of st past) rest
unfolding kept_run_of
kept_run_cut st [] rest = refl
kept_run_cut st (e ∷ past) rest = kept_run_cut (kept_after st e) past rest
