-- What is kept of a run, in whatever form: answers one after the other; nothing of a refused script, and all of a lawful one.
-- Assumes nothing.
use mathlib.Core.Path.{◌≡◌, refl, sym}
use mathlib.Core.Bool.{true}
use mathlib.Core.List.{List, [], ◌∷◌, ◌++◌, map}
use Prim.Native.Nat.{ℕ, ◌+◌}
use native.Mathlib.Omega.{arith}
use lib.ListN.{length}
use Rattle.std.proofs.Common.{is_err, Ok}
use Rattle.session.specs.Session.{fresh_of}
use Rattle.session.specs.declared.Session.{Session}
use Rattle.edition.specs.declared.CardRecord.{CardRecord}
use Rattle.either_card.specs.Answers.{CardAnswer}
use Rattle.layout.specs.Layout.{blocks_of}
use Rattle.script.specs.Script.{refusal_in, image_size, image_part, event_count, events_start, events_from, events_on}
use Rattle.runs.specs.Run.{Sent, begin, run_of, answers_of}
use Rattle.play.specs.Text.{put_of, Put}
use Rattle.play.specs.Run.{sent_of, events_in, reading_for, events_of}
use Rattle.play.specs.Results.{kept_of}
use Rattle.play.specs.Printout.{header_line, event_lines, changed_from, played_of, printed}
use Rattle.play.proofs.Put.{put_nothing, then}
use Rattle.play.proofs.Whole.{no_events, reading, its_sent}

module _ (f : ℕ → CardAnswer → List ℕ) where
  pub kept_none : (i : ℕ) → kept_of f i [] ≡ []
  unfolding kept_of
  kept_none i = refl

  pub kept_more : (i : ℕ) (a : CardAnswer) (rest : List CardAnswer) → kept_of f i (a ∷ rest) ≡ f i a ++ kept_of f (i + 1) rest
  unfolding kept_of
  kept_more i a rest = refl

  module _ (card : CardRecord) where
    -- session, record, image, end of the results and results after the events of a script
    abbrev pub Run : List ℕ → List ℕ → List ℕ → Session → CardRecord → List ℕ → ℕ → List ℕ → Type 0
    Run script image results s k last end kept =
        (s ≡ (run_of (begin card image) (events_of card.edition script)).session)
        × ((k ≡ (run_of (begin card image) (events_of card.edition script)).card)
        × ((last ≡ (run_of (begin card image) (events_of card.edition script)).image)
        × ((end ≡ length (kept_of f 1 (answers_of (begin card image) (events_of card.edition script)))) × (kept ≡ put_of results 0 (kept_of f 1 (answers_of (begin card image) (events_of card.edition script)))))))

    -- a refused script has no events, and nothing is played
    pub nothing_played : (script image results : List ℕ) (s : Session) → is_err (refusal_in (reading_for card.edition script)) ≡ true → s ≡ fresh_of → Run script image results s card image 0 results
    unfolding run_of answers_of kept_of
    nothing_played script image results s h q = rw (no_events card.edition script h) (q, (refl, (refl, (refl, sym (put_nothing results 0)))))

    -- the events of any other are played to the end
    pub played : (script image results last kept : List ℕ) (s : Session) (k : CardRecord) (end : ℕ)
        → Put results 0 (kept_of f 1 (answers_of (begin card image) (events_of card.edition script))) kept end
        → s ≡ (run_of (begin card image) (events_of card.edition script)).session
        → k ≡ (run_of (begin card image) (events_of card.edition script)).card
        → last ≡ (run_of (begin card image) (events_of card.edition script)).image → Run script image results s k last end kept
    played script image results last kept s k end p es ek er = (es, (ek, (er, (omega (arith, p.moved), p.here))))

    -- and those that a walk over a lawful script meets are its events
    module _ (script : List ℕ) (h : refusal_in (reading_for card.edition script) ≡ Ok tt) (count start : ℕ) (ec : count ≡ event_count script) (es : start ≡ events_start script) where
      abbrev events : List Sent
      events = map sent_of (events_on (events_from script count start))

      pub walk_played : (image results last kept : List ℕ) (s : Session) (k : CardRecord) (end : ℕ)
          → Put results 0 (kept_of f 1 (answers_of (begin card image) events)) kept end
          → s ≡ (run_of (begin card image) events).session
          → k ≡ (run_of (begin card image) events).card
          → last ≡ (run_of (begin card image) events).image → Run script image results s k last end kept
      walk_played image results last kept s k end p eu ek er =
          let all : events ≡ events_of card.edition script = rw (ec, es) (its_sent card script h) in
          played script image results last kept s k end (rw all at p) (rw all at eu) (rw all at ek) (rw all at er)

-- and a printout is made of the lines of the events that a walk over a lawful script meets
module _ (card : CardRecord) (script : List ℕ) (h : refusal_in (reading_for card.edition script) ≡ Ok tt) (count start : ℕ) (ec : count ≡ event_count script) (es : start ≡ events_start script) where
  abbrev lines : List Sent
  lines = map sent_of (events_on (events_from script count start))

  pub walk_assembled : (out o₁ o₂ o₃ first image image' : List ℕ) (size blocks t₁ t₂ t₃ : ℕ) → first ≡ image_part script → image ≡ first
      → size ≡ image_size script → blocks ≡ blocks_of size
      → Put out 0 (header_line size count) o₁ t₁
      → Put o₁ t₁ (event_lines card.edition 1 (answers_of (begin card image) lines)) o₂ t₂
      → image' ≡ (run_of (begin card image) lines).image
      → Put o₂ t₂ (changed_from first image' blocks 0) o₃ t₃ → Put out 0 (printed card script (reading_for card.edition script)) o₃ t₃
  unfolding played_of printed events_in
  walk_assembled out o₁ o₂ o₃ first image image' size blocks t₁ t₂ t₃ ef ei ez eb p₁ p₂ er p₃ =
      rw (reading card script h, ← ef, ← ez, ← ec, ← es) (then p₁ (then (rw ei at p₂) (rw (er, ei, eb) at p₃)))
