-- A run with figures: what lasts is a state and its figures, and each event is answered by the entries that keep them.
use Rattle.std.specs.Prelude.{List, [], ◌∷◌, ℕ}
use Rattle.judge.specs.declared.Act.{Act}
use Rattle.judge.specs.declared.Act.TheVariants.{Halted}
use Rattle.edition.specs.declared.CardRecord.{CardRecord}
use Rattle.either_card.specs.Answers.{CardAnswer}
use Rattle.tally.specs.Full.{full_figures}
use Rattle.tally.specs.declared.change.Figures.{Figures}
use Rattle.kept.specs.Kept.{settled_by, figures_by, bare_kept, sealed_kept, kept_answer_of, kept_image_after, sealed_kept_answer_of, sealed_kept_image_after, kept_reset_of}
use Rattle.runs.specs.Run.{State, begin, Sent, reset, bare, sealed, acted}

-- what lasts from one event to the next
pub record KeptState : Type 0 where
  pub state : State
  pub figures : Figures

-- a card as it is opened: a fresh session, and the figures of an opening of its image
abbrev pub opening : CardRecord → List ℕ → KeptState
opening k image = record { state = begin k image; figures = full_figures image }

-- the answer to an event
unfoldable pub kept_answer_to : KeptState → Sent → CardAnswer
kept_answer_to st reset = (kept_reset_of st.state.card st.figures).answer
kept_answer_to st (bare frame) = (kept_answer_of st.state.image st.state.card st.figures st.state.session frame).answer
kept_answer_to st (sealed frame) = (sealed_kept_answer_of st.state.image st.state.card st.figures st.state.session frame).answer

-- the figures after it, and the image; the record and the session are those of the answer
unfoldable pub figures_upon : KeptState → Sent → Figures
figures_upon st reset = (kept_reset_of st.state.card st.figures).figures
figures_upon st (bare frame) = (kept_answer_of st.state.image st.state.card st.figures st.state.session frame).figures
figures_upon st (sealed frame) = (sealed_kept_answer_of st.state.image st.state.card st.figures st.state.session frame).figures

unfoldable pub kept_image_upon : KeptState → Sent → List ℕ
kept_image_upon st reset = st.state.image
kept_image_upon st (bare frame) = kept_image_after st.state.image st.state.card st.figures st.state.session frame
kept_image_upon st (sealed frame) = sealed_kept_image_after st.state.image st.state.card st.figures st.state.session frame

unfoldable pub kept_after : KeptState → Sent → KeptState
kept_after st e =
    record {
      state = record { card = (kept_answer_to st e).card; image = kept_image_upon st e; session = (kept_answer_to st e).answer.session };
      figures = figures_upon st e;
    }

-- the run: what there is after some events, and the answers to them
unfoldable pub kept_run_of : KeptState → List Sent → KeptState
kept_run_of st [] = st
kept_run_of st (e ∷ es) = kept_run_of (kept_after st e) es

unfoldable pub kept_answers_of : KeptState → List Sent → List CardAnswer
kept_answers_of st [] = []
kept_answers_of st (e ∷ es) = kept_answer_to st e ∷ kept_answers_of (kept_after st e) es

-- the act of an event; a field reset does what a Halt does
unfoldable pub kept_act_in : KeptState → Sent → Act
kept_act_in st reset = Halted
kept_act_in st (bare frame) = bare_kept st.state.image st.state.card st.figures st.state.session frame
kept_act_in st (sealed frame) = sealed_kept st.state.image st.state.card st.figures st.state.session frame

-- what an act makes of the state and of the figures; the record is then this one
abbrev pub kept_acted : CardRecord → KeptState → List ℕ → Act → KeptState
kept_acted k st frame act = record { state = acted k st.state frame act; figures = figures_by (settled_by st.state.image st.figures act frame) st.figures }
