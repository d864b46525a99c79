-- The exported calls: each gives what is owed by the contract that its source states; and called one after the other they are the run.
-- Assumes nothing.
use Rattle.std.proofs.Common.{Ok, Some}
use mathlib.Core.Path.{◌≡◌, refl, sym, ◌∙◌, ap}
use mathlib.Core.Bool.{true}
use mathlib.Core.List.{List, [], ◌∷◌, map}
use Prim.Native.Nat.{ℕ, ◌<◌}
use native.Mathlib.Omega.{arith}
use base.Fml.{Lft}
use lib.ListN.{replicate}
use denote.Bor.{Bor}
use denote.Ref.{MutBor}
use Rattle.memory.specs.Memory.{content_of}
use Rattle.value.specs.Block.{decode_of, agreeing, bits_in, address_in}
use Rattle.value.proofs.Blocks.{decode_small}
use Rattle.value.proofs.Sums.{ruled_back}
use Rattle.session.specs.Session.{fresh_of}
use Rattle.session.specs.declared.Kind.{Kind}
use Rattle.session.specs.declared.Kind.TheVariants.{Increment, Decrement, Restore}
use Rattle.session.specs.declared.Session.{Session}
use Rattle.judge.specs.Judge.{total_for}
use Rattle.judge.specs.declared.Act.{Act}
use Rattle.judge.specs.declared.Act.TheVariants.{Refused, Authenticated, Shown, TrailerShown, WriteWaits, ValueWaits, Stored, TrailerStored, Loaded, Moved, Halted}
use Rattle.card.specs.Effects.{packed_of, session_of}
use Rattle.record.specs.Record.{value_bits, record_of, session_from}
use Rattle.record.proofs.Laws.{reads_back, from_small}
use Rattle.edition.specs.Edition.{old_card}
use Rattle.edition.specs.declared.CardRecord.{CardRecord}
use Rattle.either_card.proofs.Laws.{old_card_lem}
use Rattle.either_card.proofs.Sealed.{old_sealed}
use Rattle.script.specs.Script.{Reading, lawful, reading_of}
use Rattle.script.specs.Lock.{ev1_reading_of}
use Rattle.runs.specs.Run.{State, begin, Sent, reset, bare, sealed, answer_to, image_upon, after, run_of, frame_in, act_of, acted}
use Rattle.laws.specs.Accepted.{Accepted}
use Rattle.runs.proofs.Laws.{after_acts}
use Rattle.laws.proofs.Keeps.{behind}
use Rattle.play.specs.Text.{put_of}
use Rattle.play.specs.Run.{sent_of, events_in, ev1_card_of}
use Rattle.play.specs.Printout.{played_of, printed, printout_of, ev1_printout_of}
use Rattle.demands.specs.Demand1.{Row, table, asked, no_reply, Met}
use Rattle.demands.specs.Boundary.{Lent, state_of, lent_of, Given, given, BoundaryDemand1, ZerosAreFresh, RegisterFits, calls_of, CallsAreTheRun}
use Rattle.demands.proofs.Demand1.{demand_1}
use Rattle.demands.proofs.OneEdge.{FrameMeets, SealedMeets, ResetMeets, PlayMeets, PlayEv1Meets}

pub zeros_are_fresh : ZerosAreFresh
unfolding record_of
zeros_are_fresh = (ap session_from (sym zero) ∙ reads_back fresh_of (omega arith), zero)
  where
    zero : record_of fresh_of ≡ replicate 12 0
    zero = refl

-- a result has 32 bits
result_small : (k : Kind) (w o x : ℕ) → w < 4294967296 → total_for k w o ≡ Ok x → x < 4294967296
unfolding total_for
result_small Increment w o x h e = (ruled_back _ _ x e).2
result_small Decrement w o x h e = (ruled_back _ _ x e).2
result_small Restore w o x h e = let q : w ≡ x = cc in rw q at h

reads : (block : List ℕ) → agreeing block ≡ true → decode_of block ≡ Some (bits_in block, address_in block)
unfolding decode_of
reads block e = rw e

-- the register of a state has 32 bits, and keeps them
abbrev pub Small : State → Type 0
Small st = value_bits st.session.register < 4294967296

small_act : (st : State) (frame : List ℕ) (act : Act) → Accepted st.image st.session frame act → Small st → Small (acted st.card st frame act)
unfolding session_of
small_act st frame (Refused n) a h = omega arith
small_act st frame (Authenticated t l) a h = omega arith
small_act st frame (Shown b) a h = h
small_act st frame (TrailerShown b m) a h = h
small_act st frame (WriteWaits b) a h = h
small_act st frame (ValueWaits b k) a h = h
small_act st frame (Stored b) a h = h
small_act st frame (TrailerStored b m) a h = h
small_act st frame (Loaded v d) a h =
    let block = content_of st.image a.source in
    result_small a.kind _ (bits_in frame) v (decode_small block _ _ (reads block a.countable.value)) a.result
small_act st frame (Moved b v d) a h = h
small_act st frame Halted a h = omega arith

pub small_after : (st : State) (e : Sent) → Small st → Small (after st e)
small_after st e h = rw (after_acts st e) (small_act st (frame_in e) (act_of st e) (behind st e) h)

pub register_fits : (l : Lent) (e : Sent) → RegisterFits l e
unfolding after
register_fits l e = small_after (state_of l) e (from_small l.bytes)

-- demand 1, for whatever is lent
pub boundary_demand_1 : (l : Lent) (e : Sent) → BoundaryDemand1 l e
boundary_demand_1 l e =
    let d = demand_1 (state_of l) e in
    let refuses : (r : Row) → Met r (asked (state_of l) e) (table (state_of l) e)
    → given l e ≡ record { result = packed_of r.number r.air; reply = no_reply e; left = record { image = l.image; bytes = replicate 12 0 } } = λ r m.
    let q = d.refuses r m in
    rw (q.0, q.1, zeros_are_fresh.1) in
    record {
      refuses = refuses;
      alone = λ h.
          let m = d.alone (λ z. h (let w : (answer_to (state_of l) e).answer.number ≡ 0 = z in omega arith)) in
          (m.0, m.1, ap (λ (g : Given). g.result) (refuses m.0 m.1));
    }

-- a session crosses as twelve bytes and comes back; an old card has no record to lend
crosses : (st : State) → st.card ≡ old_card → Small st → state_of (lent_of st) ≡ st
crosses st o h = ap (λ (s : Session). record { card = old_card; image = st.image; session = s }) (reads_back st.session h) ∙ ap (λ (k : CardRecord). record { card = k; image = st.image; session = st.session }) (sym o)

-- and stays one
old_stays : (st : State) (e : Sent) → st.card ≡ old_card → (answer_to st e).card ≡ old_card
unfolding answer_to
old_stays st reset o = o
old_stays st (bare frame) o = rw (old_card_lem st.image st.card st.session frame (ap (λ (k : CardRecord). k.edition) o)).0 o
old_stays st (sealed frame) o = rw (old_sealed st.image st.card st.session frame (ap (λ (k : CardRecord). k.edition) o)).0 o

calls_run : (st : State) (events : List Sent) → st.card ≡ old_card → Small st → (calls_of (lent_of st) events ≡ lent_of (run_of st events)) × ((run_of st events).card ≡ old_card) × Small (run_of st events)
unfolding calls_of run_of after
calls_run st [] o h = (refl, o, h)
calls_run st (e ∷ es) o h = rw (crosses st o h) (calls_run (after st e) es (old_stays st e o) (small_after st e h))

pub calls_are_the_run : CallsAreTheRun
calls_are_the_run image past e =
    let r : (calls_of (lent_of (begin old_card image)) past ≡ lent_of (run_of (begin old_card image) past)) × ((run_of (begin old_card image) past).card ≡ old_card) × Small (run_of (begin old_card image) past) =
    calls_run (begin old_card image) past refl (omega arith) in
    let zero : lent_of (begin old_card image) ≡ record { image = image; bytes = replicate 12 0 } = rw zeros_are_fresh.1 in
    let left : calls_of (record { image = image; bytes = replicate 12 0 }) past ≡ lent_of (run_of (begin old_card image) past) = ap (λ (l : Lent). calls_of l past) (sym zero) ∙ r.0 in
    (left, rw (left, crosses (run_of (begin old_card image) past) r.1 r.2))

-- what a call gave, put together
abbrev gave : ℕ → List ℕ → List ℕ → List ℕ → Given
gave r i s p = record { result = r; reply = p; left = record { image = i; bytes = s } }

-- each exported call gives what is owed, for any image, any twelve bytes and any frame
module _ (κ₀ κ₁ κ₂ κ₃ : Lft) (image session : MutBor (List ℕ)) (frame : Bor (List ℕ)) (reply : MutBor (List ℕ)) (r : ℕ) (i s p : List ℕ) where
  pub frame_owed : FrameMeets κ₀ κ₁ κ₂ κ₃ image session frame reply r i s p → gave r i s p ≡ given (record { image = image.now; bytes = session.now }) (bare frame.now)
  unfolding answer_to image_upon
  frame_owed m = let o = old_card_lem image.now old_card (session_from session.now) frame.now refl in rw (o.0, o.1, m.0, m.1.0, m.1.1.0, m.1.1.1)

  pub sealed_frame_owed : SealedMeets κ₀ κ₁ κ₂ κ₃ image session frame reply r i s p
      → gave r i s p ≡ given (record { image = image.now; bytes = session.now }) (sealed frame.now)
  unfolding answer_to image_upon
  sealed_frame_owed m = let o = old_sealed image.now old_card (session_from session.now) frame.now refl in rw (o.0, o.1, m.0, m.1.0, m.1.1.0, m.1.1.1)

-- a field reset is told no image, and leaves it
pub reset_owed : (κ₀ κ₁ : Lft) (image : List ℕ) (session reply : MutBor (List ℕ)) (r : ℕ) (s p : List ℕ) → ResetMeets κ₀ κ₁ session reply r s p
    → gave r image s p ≡ given (record { image = image; bytes = session.now }) reset
unfolding answer_to image_upon
reset_owed κ₀ κ₁ image session reply r s p m = rw (m.0, m.1.0, m.1.1)

-- and the player's call prints the run of a lawful script's events on its image
pub play_prints : (κ₀ κ₁ : Lft) (script : Bor (List ℕ)) (printout : MutBor (List ℕ)) (r : ℕ) (last : List ℕ) (events : List (List ℕ)) → PlayMeets κ₀ κ₁ script printout r last
    → reading_of script.now ≡ lawful events → last ≡ put_of printout.now 0 (played_of old_card script.now (map sent_of events))
unfolding printout_of printed events_in
play_prints κ₀ κ₁ script printout r last events m e = m.1 ∙ ap (λ (w : Reading). put_of printout.now 0 (printed old_card script.now w)) e

-- an EV1's call prints the run of its script's events, on the card that the script names
pub play_ev1_prints : (κ₀ κ₁ : Lft) (script : Bor (List ℕ)) (printout : MutBor (List ℕ)) (r : ℕ) (last : List ℕ) (events : List (List ℕ)) → PlayEv1Meets κ₀ κ₁ script printout r last
    → ev1_reading_of script.now ≡ lawful events → last ≡ put_of printout.now 0 (played_of (ev1_card_of script.now) script.now (map sent_of events))
unfolding ev1_printout_of printed events_in
play_ev1_prints κ₀ κ₁ script printout r last events m e = m.1 ∙ ap (λ (w : Reading). put_of printout.now 0 (printed (ev1_card_of script.now) script.now w)) e
