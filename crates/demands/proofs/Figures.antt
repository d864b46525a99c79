-- The total on the card: from an opening the figures stay a full count, event by event, so nothing is refused for them.
-- Assumes nothing.
use mathlib.Core.Path.{◌≡◌, refl, sym, ◌∙◌, ap}
use mathlib.Core.Bool.{Bool, true, false, cond, ◌||◌}
use mathlib.Core.List.{List, [], ◌∷◌}
use Prim.Native.Nat.{ℕ}
use native.Mathlib.Omega.{arith}
use lib.Dec.{eqb}
use lib.ListN.{length}
use Rattle.layout.specs.Layout.{sectors_of, is_trailer}
use Rattle.layout.specs.declared.Block.{Block}
use Rattle.memory.specs.Memory.{sixteen_of, store_of}
use Rattle.value.specs.Whole.{signed}
use Rattle.value.specs.Block.{encode_of}
use Rattle.value.proofs.Blocks.{encode_length}
use Rattle.session.specs.declared.Session.{Session}
use Rattle.judge.specs.First.{Outcome, passes, refuses, first, ruled}
use Rattle.judge.specs.Checks.{no_card, incoherent, frame_checks, writable_by}
use Rattle.judge.specs.declared.Act.{Act}
use Rattle.judge.specs.declared.Act.TheVariants.{Refused, Authenticated, Shown, TrailerShown, WriteWaits, ValueWaits, Stored, TrailerStored, Loaded, Moved, Halted}
use Rattle.card.specs.Effects.{image_of}
use Rattle.sealed.specs.Sealed.{inner_of, unsealed}
use Rattle.edition.specs.Edition.{wrong_size}
use Rattle.edition.specs.declared.CardRecord.{CardRecord}
use Rattle.either_card.specs.Either.{card_act_of, sealed_card_act_of}
use Rattle.either_card.specs.Answers.{CardAnswer}
use Rattle.either_card.proofs.Sealed.{inner_card_act}
use Rattle.tally.specs.Change.{in_range}
use Rattle.tally.specs.Full.{counts, full_figures}
use Rattle.tally.specs.declared.change.Figures.{Figures}
use Rattle.std.specs.Prelude.{Option, Some}
use Rattle.tally.proofs.Laws.{opening_fits, opening_counts, not_counted, change_counts, opening_stays}
use Rattle.kept.specs.Kept.{settled_at, settled_by, lastly, kept_answer_of, kept_image_after, sealed_kept_answer_of, sealed_kept_image_after}
use Rattle.kept.proofs.Laws.{in_range_lem, kept_card}
use Rattle.runs.specs.Run.{State, Sent, reset, bare, sealed, answer_to, run_of, answers_of, frame_in, act_of}
use Rattle.runs.specs.Kept.{KeptState, opening, kept_act_in, kept_after, kept_run_of, kept_answers_of}
use Rattle.runs.proofs.Kept.{kept_after_acts, same_answer, same_state, kept_answers_cut, kept_run_cut}
use Rattle.laws.specs.Accepted.{Accepted}
use Rattle.laws.proofs.Lengths.{sixteen_length, mixed_length}
use Rattle.laws.proofs.Laws.{image_length}
use Rattle.laws.proofs.Keeps.{behind}
use Rattle.demands.specs.Figures.{FullCount, TotalOnTheCard, NoneLost, Demand3Kept, OneWayKept, NoneEverKept, KeptEventByEvent, AsBareKept, settled_in}
use Rattle.demands.proofs.Demand3.{demand_3}
use Rattle.demands.proofs.OneWay.{one_way, none_ever}

module _ (image : List ℕ) where
  -- sixteen bytes stored into any block, on figures of an opening
  stored_on : (b : Block) (bytes : List ℕ) → length bytes ≡ 16 → settled_at image (full_figures image) b bytes ≡ Some (full_figures (store_of image b bytes))
  unfolding settled_at
  stored_on b bytes l = go (counts (length image) b) refl
    where
      go : (t : Bool) → counts (length image) b ≡ t → settled_at image (full_figures image) b bytes ≡ Some (full_figures (store_of image b bytes))
      go true c = rw c (change_counts image b bytes l c)
      go false c = rw c (ap Some (sym (opening_stays image b bytes l c).1))

  -- a trailer does not count
  trailer_on : (b : Block) (bytes : List ℕ) → length bytes ≡ 16 → is_trailer b ≡ true → ◌≡◌ {A = Option Figures} (Some (full_figures image)) (Some (full_figures (store_of image b bytes)))
  trailer_on b bytes l t =
      ap Some (sym (opening_stays image b bytes l (not_counted (length image) b (ap (λ (x : Bool). eqb b.0 0 || x) t ∙ out (eqb b.0 0)))).1)
    where
      out : (x : Bool) → (x || true) ≡ true
      out true = refl
      out false = refl

  -- so every accepted act leaves the figures of an opening afterwards
  counts_on : (s : Session) (frame : List ℕ) (act : Act) → Accepted image s frame act
      → settled_by image (full_figures image) act frame ≡ Some (full_figures (image_of image s.auth act frame))
  unfolding settled_by image_of
  counts_on s frame (Refused n) h = refl
  counts_on s frame (Authenticated t l) h = refl
  counts_on s frame (Shown b) h = refl
  counts_on s frame (TrailerShown b m) h = refl
  counts_on s frame (WriteWaits b) h = refl
  counts_on s frame (ValueWaits b k) h = refl
  counts_on s frame (Stored b) h = stored_on b (sixteen_of frame) (sixteen_length frame)
  counts_on s frame (TrailerStored b m) h = trailer_on b _ (mixed_length (writable_by s.auth m) image b frame) h.3
  counts_on s frame (Loaded v a) h = refl
  counts_on s frame (Moved b v a) h = stored_on b (encode_of (signed v) a) (encode_length (signed v) a)
  counts_on s frame Halted h = refl

-- with a checksum too 11 and 12 are judged first
sealed_early : (image : List ℕ) (k : CardRecord) (s : Session) (frame : List ℕ) (n : ℕ)
    → cond (wrong_size k.edition (length image)) (refuses 11) (cond (no_card image) (refuses 11) (cond (incoherent image s) (refuses 12) passes)) ≡ refuses n
    → sealed_card_act_of image k s frame ≡ Refused n
unfolding sealed_card_act_of frame_checks first ruled
sealed_early image k s frame n e = go (wrong_size k.edition (length image)) (no_card image) (incoherent image s) (unsealed frame) e
  where
    outcome : Outcome → ℕ
    outcome passes = 0
    outcome (refuses m) = m

    go : (w x y u : Bool) → cond w (refuses 11) (cond x (refuses 11) (cond y (refuses 12) passes)) ≡ refuses n
        → cond w (Refused 11) (ruled (cond x (refuses 11) (cond y (refuses 12) (cond u (refuses 14) passes))) (card_act_of image k s (inner_of frame))) ≡ Refused n
    go true x y u q = ap Refused (ap outcome q)
    go false true y u q = ap Refused (ap outcome q)
    go false false true u q = ap Refused (ap outcome q)
    go false false false u q = let z : ◌≡◌ {A = ℕ} 0 1 = cc in absurd (omega arith)

-- figures in range: past the checks of the frame only the new figures can refuse
pub in_range_act : (st : KeptState) (e : Sent) → in_range st.figures ≡ true → kept_act_in st e ≡ lastly (settled_in st e) (act_of st.state e)
unfolding kept_act_in act_of settled_by
in_range_act st reset fits = refl
in_range_act st (bare frame) fits = kept_card st.state.image st.state.card st.figures st.state.session frame fits
in_range_act st (sealed frame) fits =
    in_range_lem st.state.image st.state.card st.figures st.state.session (inner_of frame) fits _ (sealed_early st.state.image st.state.card st.state.session frame)

-- the figures are those of an opening
abbrev pub Counted : KeptState → Type 0
Counted st = st.figures ≡ full_figures st.state.image

-- then an event does what it does without figures, and they are so again
pub still_counted : (st : KeptState) (e : Sent) → Counted st → (kept_act_in st e ≡ act_of st.state e) × Counted (kept_after st e)
still_counted st e c =
    let fits : in_range st.figures ≡ true = ap in_range c ∙ opening_fits st.state.image in
    let kept : settled_in st e ≡ Some (full_figures (image_of st.state.image st.state.session.auth (act_of st.state e) (frame_in e))) =
    ap (λ (f : Figures). settled_by st.state.image f (act_of st.state e) (frame_in e)) c ∙ counts_on st.state.image st.state.session (frame_in e) (act_of st.state e) (behind st.state e) in
    let act : kept_act_in st e ≡ act_of st.state e = in_range_act st e fits ∙ ap (λ (x : Option Figures). lastly x (act_of st.state e)) kept in
    (act, rw (kept_after_acts st e, act, kept))

pub counted_run : (st : KeptState) (events : List Sent) → Counted st → Counted (kept_run_of st events)
unfolding kept_run_of
counted_run st [] c = c
counted_run st (e ∷ es) c = counted_run (kept_after st e) es (still_counted st e c).1

pub full_count : FullCount
full_count k image events = counted_run (opening k image) events refl

-- the image keeps its length
kept_length : (st : KeptState) (events : List Sent) → length (kept_run_of st events).state.image ≡ length st.state.image
unfolding kept_run_of
kept_length st [] = refl
kept_length st (e ∷ es) = kept_length (kept_after st e) es ∙ rw (kept_after_acts st e) (image_length st.state.image st.state.session (frame_in e) (kept_act_in st e))

pub total_on_the_card : TotalOnTheCard
total_on_the_card k image card events =
    let last = (kept_run_of (opening k image) events).state.image in
    let full = opening_counts last (λ z. card (ap sectors_of (sym (kept_length (opening k image) events)) ∙ z)) in
    rw (full_count k image events) (full.1, full.2)

same_run : (st : KeptState) (events : List Sent) → Counted st → (kept_answers_of st events ≡ answers_of st.state events) × ((kept_run_of st events).state ≡ run_of st.state events)
unfolding kept_answers_of answers_of kept_run_of run_of
same_run st [] c = (refl, refl)
same_run st (e ∷ es) c =
    let n = still_counted st e c in
    let rest = same_run (kept_after st e) es n.1 in
    let left = same_state st e n.0 in (
      ap (λ (a : CardAnswer). a ∷ kept_answers_of (kept_after st e) es) (same_answer st e n.0)
          ∙ ap (λ (rest : List CardAnswer). answer_to st.state e ∷ rest) (rest.0 ∙ ap (λ (x : State). answers_of x es) left),
      rest.1 ∙ ap (λ (x : State). run_of x es) left,
    )

pub none_lost : NoneLost
none_lost k image events = same_run (opening k image) events refl

pub demand_3_kept : Demand3Kept
demand_3_kept k image b v a here events unwritten own = rw (none_lost k image events).1 (demand_3 k image b v a here events unwritten own)

pub one_way_kept : OneWayKept
one_way_kept k image t top rides most events unwritten = rw (none_lost k image events).1 (one_way k image t top rides most events unwritten)

pub none_ever_kept : NoneEverKept
none_ever_kept k image t rides none events unwritten = rw (none_lost k image events).1 (none_ever k image t rides none events unwritten)

pub kept_event_by_event : (st : KeptState) (past : List Sent) (event : Sent) (future : List Sent) → KeptEventByEvent st past event future
unfolding kept_answers_of kept_run_of
kept_event_by_event st past event future =
    let left = kept_run_cut st past (event ∷ []) in
    record { answers = rw left (kept_answers_cut st past (event ∷ future)); left = left }

pub as_bare_kept : (image : List ℕ) (k : CardRecord) (f : Figures) (s : Session) (frame : List ℕ) → AsBareKept image k f s frame
unfolding sealed_kept_answer_of sealed_kept_image_after kept_answer_of kept_image_after
as_bare_kept image k f s frame e = rw (inner_card_act image k s frame e) (refl, refl)
