-- Demand 2: value blocks there and back, and a run cut anywhere is two runs.
-- Assumes nothing.
use Rattle.std.proofs.Common.{Ok}
use mathlib.Core.Path.{◌≡◌, refl}
use mathlib.Core.Bool.{Bool, true, false}
use mathlib.Core.List.{List, [], ◌∷◌}
use Prim.Native.Nat.{ℕ}
use lib.IntN.{ℤ}
use borrow.Author.Tests.{ne_eqb}
use Rattle.value.specs.Whole.{bits}
use Rattle.value.specs.Sum.{total_of}
use Rattle.value.proofs.Blocks.{decode_encode_whole, encode_decode}
use Rattle.session.specs.declared.Session.{Session}
use Rattle.card.specs.Effects.{image_of}
use Rattle.sealed.specs.Sealed.{inner_of, unsealed, sealed_of}
use Rattle.edition.specs.declared.Edition.TheVariants.{Old}
use Rattle.edition.specs.declared.CardRecord.{CardRecord}
use Rattle.either_card.specs.Either.{card_answer_of, card_image_after, sealed_card_of, sealed_card_answer_of, sealed_card_image_after}
use Rattle.either_card.specs.Code.{given_of}
use Rattle.either_card.proofs.Laws.{refusal_given, old_card_lem}
use Rattle.either_card.proofs.Sealed.{inner_card_act, old_sealed}
use Rattle.runs.proofs.Laws.{answers_cut, run_cut}
use Rattle.laws.proofs.Keeps.{unsealed_refused}
use Rattle.runs.specs.Run.{State, Sent, reset, bare, sealed, answer_to, image_upon, after, run_of, answers_of}
use Rattle.demands.specs.Demand2.{ReadsBack, Rewritten, EventByEvent, AsBare, AsBefore, bare_of, SameRun}

pub reads_back : (value : ℤ) (address : ℕ) → ReadsBack value address
unfolding total_of
reads_back value address h =
    let e : total_of value ≡ Ok (bits value) = rw h in
    let r = decode_encode_whole value (bits value) address e in
    (bits value, r.0, r.1)

pub rewritten : (block : List ℕ) → Rewritten block
rewritten block v address e = encode_decode block v address e

pub event_by_event : (st : State) (past : List Sent) (event : Sent) (future : List Sent) → EventByEvent st past event future
unfolding answers_of run_of
event_by_event st past event future =
    let left = run_cut st past (event ∷ []) in
    record { answers = rw left (answers_cut st past (event ∷ future)); left = left }

pub sealed_as_bare : (image : List ℕ) (k : CardRecord) (s : Session) (frame : List ℕ) → AsBare image k s frame
unfolding sealed_card_answer_of sealed_card_image_after card_answer_of card_image_after
sealed_as_bare image k s frame e = rw (inner_card_act image k s frame e) (refl, refl)

pub as_before : (image : List ℕ) (k : CardRecord) (s : Session) (frame : List ℕ) → k.edition ≡ Old → AsBefore image k s frame
as_before image k s frame e =
    let p = old_card_lem image k s frame e in
    let q = old_sealed image k s frame e in
    record { bare_answer = p.0; bare_image = p.1; sealed_answer = q.0; sealed_image = q.1 }

-- an event leaves what its bare event leaves
bare_after : (st : State) (e : Sent) → after st e ≡ after st (bare_of e)
unfolding after answer_to image_upon card_answer_of card_image_after sealed_card_answer_of sealed_card_of sealed_of sealed_card_image_after image_of given_of
bare_after st reset = refl
bare_after st (bare frame) = refl
bare_after st (sealed frame) = go (unsealed frame) refl
  where
    go : (u : Bool) → unsealed frame ≡ u → after st (sealed frame) ≡ after st (bare_of (sealed frame))
    go true u =
        let r = unsealed_refused st.image st.card st.session frame u in
        rw (u, r.1, refusal_given st.image st.card st.session (inner_of frame) r.0 (ne_eqb r.0 0 r.2))
    go false u = rw (u, inner_card_act st.image st.card st.session frame u)

pub same_run : SameRun
unfolding run_of
same_run st [] = refl
same_run st (e ∷ es) = rw (bare_after st e) (same_run (after st (bare_of e)) es)
