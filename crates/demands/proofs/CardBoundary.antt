-- The exported calls of a card with its record: each gives what is owed by the contract that its source states; and called one after the other they are the run.
-- Assumes nothing.
use Rattle.std.proofs.Common.{None, Option, Some}
use mathlib.Core.Path.{◌≡◌, refl, sym, ◌∙◌, ap}
use mathlib.Core.List.{List, [], ◌∷◌}
use Prim.Native.Nat.{ℕ}
use native.Mathlib.Omega.{arith}
use base.Fml.{Lft}
use lib.ListN.{length, replicate}
use denote.Bor.{Bor}
use denote.Ref.{MutBor}
use Rattle.session.specs.Session.{fresh_of}
use Rattle.session.specs.declared.Session.{Session}
use Rattle.card.specs.Effects.{refused_sign}
use Rattle.card.specs.declared.Sign.TheVariants.{Nothing}
use Rattle.sealed.specs.Sealed.{sealed_reply, sealed_of}
use Rattle.record.specs.Record.{record_of}
use Rattle.record.proofs.Laws.{reads_back}
use Rattle.edition.specs.Bytes.{record_bytes, found_in}
use Rattle.edition.specs.declared.CardRecord.{CardRecord}
use Rattle.edition.proofs.Laws.{found_back, found_writes}
use Rattle.crossing.specs.Crossing.{packed_with}
use Rattle.cardedge.specs.CardEdge.{card_frame_of, card_frame_image}
use Rattle.cardedge.specs.CardEdge as edge
use Rattle.cardchip.specs.CardChip.{card_sealed_of, card_sealed_image}
use Rattle.cardchip.specs.CardChip as chip
use Rattle.runs.specs.Run.{State, begin, Sent, reset, bare, sealed, answer_to, image_upon, after, run_of}
use Rattle.demands.specs.CardBoundary.{CardLent, card_lent_of, card_state_of, CardGiven, card_given_by, card_given_for, card_given, CardDemand1, RecordsCross, card_calls_of, CardCallsAreTheRun}
use Rattle.demands.proofs.Demand1.{demand_1}
use Rattle.demands.proofs.Boundary.{zeros_are_fresh, Small, small_after}
use Rattle.demands.proofs.OneCardEdge.{CardFrameMeets, CardSealedMeets, CardResetMeets}

pub card_demand_1 : (k : CardRecord) (l : CardLent) (e : Sent) → CardDemand1 k l e
card_demand_1 k l e four c r m =
    let q = (demand_1 (card_state_of k l) e).refuses r m in
    rw (c, q.0, q.1, zeros_are_fresh.1, found_writes l.card k four c)

pub records_cross : RecordsCross
unfolding record_bytes
records_cross = (refl, found_back)

-- a state crosses as four and twelve bytes and comes back
crosses : (st : State) (e : Sent) → Small st → card_given (card_lent_of st) e ≡ card_given_by st e
crosses st e h =
    let back : card_state_of st.card (card_lent_of st) ≡ st = ap (λ (s : Session). record { card = st.card; image = st.image; session = s }) (reads_back st.session h) in
    rw (found_back st.card) (ap (λ (x : State). card_given_by x e) back)

calls_run : (st : State) (events : List Sent) → Small st → (card_calls_of (card_lent_of st) events ≡ card_lent_of (run_of st events)) × Small (run_of st events)
unfolding card_calls_of run_of after
calls_run st [] h = (refl, h)
calls_run st (e ∷ es) h = rw (crosses st e h) (calls_run (after st e) es (small_after st e h))

pub card_calls_are_the_run : CardCallsAreTheRun
card_calls_are_the_run k image past e =
    let r : (card_calls_of (card_lent_of (begin k image)) past ≡ card_lent_of (run_of (begin k image) past)) × Small (run_of (begin k image) past) = calls_run (begin k image) past (omega arith) in
    let zero : card_lent_of (begin k image) ≡ record { image = image; card = record_bytes k; bytes = replicate 12 0 } = rw zeros_are_fresh.1 in
    let left : card_calls_of (record { image = image; card = record_bytes k; bytes = replicate 12 0 }) past ≡ card_lent_of (run_of (begin k image) past) = ap (λ (l : CardLent). card_calls_of l past) (sym zero) ∙ r.0 in
    (left, rw left (crosses (run_of (begin k image) past) e r.1))

-- what a call gave, put together
abbrev gave : ℕ → List ℕ → List ℕ → List ℕ → List ℕ → CardGiven
gave r i c s p = record { result = r; reply = p; left = record { image = i; card = c; bytes = s } }

-- by what the four bytes hold: a record, or none
module _ (image card session frame : List ℕ) where
  abbrev lent : CardLent
  lent = record { image = image; card = card; bytes = session }

  bare_owed : (f : Option CardRecord)
      → (let a = edge.answer_on card f image session frame in
      gave (packed_with a.answer.number a.answer.sign a.nak) (edge.image_on f image session frame) a.card (record_of a.answer.session) a.answer.reply
      ≡ card_given_for f lent (bare frame))
  unfolding answer_to image_upon refused_sign
  bare_owed (Some k) = refl
  bare_owed None = rw zeros_are_fresh.1

  sealed_owed : (f : Option CardRecord)
      → (let a = chip.answer_on card f image session frame in
      gave (packed_with a.answer.number a.answer.sign a.nak) (chip.image_on f image session frame) a.card (record_of a.answer.session) a.answer.reply
      ≡ card_given_for f lent (sealed frame))
  unfolding answer_to image_upon refused_sign sealed_of sealed_reply
  sealed_owed (Some k) = refl
  sealed_owed None = rw zeros_are_fresh.1

-- each exported call gives what is owed, for any image, any four and twelve bytes and any frame
module _ (κ₀ κ₁ κ₂ κ₃ κ₄ : Lft) (image card session : MutBor (List ℕ)) (frame : Bor (List ℕ)) (reply : MutBor (List ℕ)) (r : ℕ) (i c s p : List ℕ) where
  pub card_frame_owed : CardFrameMeets κ₀ κ₁ κ₂ κ₃ κ₄ image card session frame reply r i c s p
      → gave r i c s p ≡ card_given (record { image = image.now; card = card.now; bytes = session.now }) (bare frame.now)
  unfolding card_frame_of card_frame_image
  card_frame_owed m = rw (m.0, m.1.0, m.1.1.0, m.1.1.1.0, m.1.1.1.1) (bare_owed image.now card.now session.now frame.now (found_in card.now))

  pub card_sealed_owed : CardSealedMeets κ₀ κ₁ κ₂ κ₃ κ₄ image card session frame reply r i c s p
      → gave r i c s p ≡ card_given (record { image = image.now; card = card.now; bytes = session.now }) (sealed frame.now)
  unfolding card_sealed_of card_sealed_image
  card_sealed_owed m = rw (m.0, m.1.0, m.1.1.0, m.1.1.1.0, m.1.1.1.1) (sealed_owed image.now card.now session.now frame.now (found_in card.now))

-- a field reset is told no image, and leaves the four bytes as they are
pub card_reset_owed : (κ₀ κ₁ κ₂ : Lft) (image : List ℕ) (card : Bor (List ℕ)) (session reply : MutBor (List ℕ)) (r : ℕ) (s p : List ℕ) → length card.now ≡ 4
    → CardResetMeets κ₀ κ₁ κ₂ card session reply r s p → gave r image card.now s p ≡ card_given (record { image = image; card = card.now; bytes = session.now }) reset
unfolding answer_to image_upon
card_reset_owed κ₀ κ₁ κ₂ image card session reply r s p four m = rw (m.0, m.1.0, m.1.1) (go (found_in card.now) refl)
  where
    go : (f : Option CardRecord) → found_in card.now ≡ f
        → gave (packed_with 0 Nothing 0) image card.now (record_of fresh_of) (replicate 16 0) ≡ card_given_for f (record { image = image; card = card.now; bytes = session.now }) reset
    go (Some k) e = rw (found_writes card.now k four e)
    go None e = rw zeros_are_fresh.1
