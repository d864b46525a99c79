-- A lawful script as a whole, and its printout in three parts.
-- Assumes nothing.
use mathlib.Core.Path.{◌≡◌, refl, sym, ◌∙◌, ap}
use mathlib.Core.Bool.{Bool, true, false, ◌||◌, false≢true}
use mathlib.Core.List.{List, [], ◌∷◌, ◌++◌, map}
use Prim.Native.Nat.{ℕ, ◌+◌, ◌*◌, ◌≤◌}
use native.Mathlib.Omega.{arith}
use lib.Dec.{eqb, ltb}
use lib.ListN.{length, take, drop, length-drop}
use lib.Seq.{length-take-le, take_all}
use borrow.Author.Tests.{ltb-true, ltb-false, eqb-false, le-leb}
use Rattle.layout.specs.Layout.{sectors_of, blocks_of}
use Rattle.layout.proofs.Laws.{at_most, card_bytes}
use Rattle.edition.specs.Edition.{wrong_size}
use Rattle.edition.specs.declared.Edition.{Edition}
use Rattle.edition.specs.declared.Edition.TheVariants.{Old, Ev1}
use Rattle.edition.specs.declared.CardRecord.{CardRecord}
use Rattle.edition.specs.Edition.{Choice}
use Rattle.either_card.specs.Answers.{CardAnswer}
use Rattle.std.specs.Prelude.{Ok, Err}
use Rattle.script.specs.declared.Refusal.{Refusal}
use Rattle.script.specs.declared.lock.Unlawful.{Unlawful}
use Rattle.script.specs.declared.Refusal.TheVariants.{CutShort, NoSuchSize, TooManyEvents, EventTooLong, LeftOver, TooManyTypes, UnknownType}
use Rattle.script.specs.contracts.Refusal.{the_type}
use denote.Enum.Declared.{tag_of}
use Rattle.std.specs.Result.{is_err, result_map_both}
use Rattle.script.specs.Script.{number_of, Judged, Reading, lawful, refused, refusal_in, read_as, left_over, image_size, image_part, event_count, events_start, Walk, walked, stopped, events_from, no_size, body_of, ended_at, reading_of, stop_in, events_on}
use Rattle.script.specs.Lock.{lock_refusal, locked_at, ev1_reading_of, chosen_in}
use Rattle.script.proofs.Long.{long_refused, long_refused_ev1}
use Rattle.runs.specs.Run.{begin, run_of, answers_of}
use Rattle.play.specs.Text.{put_of, Put}
use Rattle.play.specs.Puts.{Puts}
use Rattle.play.specs.declared.text.Printer.{Printer}
use Rattle.play.specs.Run.{sent_of, events_in, reading_for, events_of}
use Rattle.play.specs.Results.{result_of, results_of, card_result_of, card_results_of, kept_of}
use Rattle.play.specs.Printout.{refusal_line, header_line, event_line, event_lines, changed_from, played_of, printed, printout_of, ev1_printout_of}
use Rattle.play.proofs.Put.{put_length, put_nothing, puts_then}
use Rattle.play.proofs.Walks.{through}

-- what is known of a script that comes through to the end of its events
pub record Lawful (edition : Edition) (script : List ℕ) : Type 0 where
  pub known : eqb (sectors_of (image_size script)) 0 ≡ false
  pub there : 2 + image_size script ≤ length script
  pub few : event_count script ≤ 1000
  pub rest : body_of edition script ≡ events_from script (event_count script) (events_start script)

sized : (x y : Bool) → (x || y) ≡ false → y ≡ false
sized true y e = absurd (false≢true (sym e))
sized false y e = e

through_body : (edition : Edition) (script : List ℕ) → stop_in (body_of edition script) ≡ Ok tt → Lawful edition script
unfolding body_of stop_in no_size
through_body edition script h =
    go (ltb (length script) 2) refl (no_size edition (image_size script)) refl (ltb (length script) (2 + image_size script)) refl
    (ltb (length script) (4 + image_size script)) refl (ltb 1000 (event_count script)) refl
  where
    go : (t : Bool) → ltb (length script) 2 ≡ t → (u : Bool) → no_size edition (image_size script) ≡ u → (v : Bool) → ltb (length script) (2 + image_size script) ≡ v
        → (w : Bool) → ltb (length script) (4 + image_size script) ≡ w → (x : Bool) → ltb 1000 (event_count script) ≡ x → Lawful edition script
    go true e u f v g w i x j = let q : ◌≡◌ {A = Judged} (Err CutShort) (Ok tt) = rw e at h in cc
    go false e true f v g w i x j = let q : ◌≡◌ {A = Judged} (Err NoSuchSize) (Ok tt) = rw (e, f) at h in cc
    go false e false f true g w i x j = let q : ◌≡◌ {A = Judged} (Err CutShort) (Ok tt) = rw (e, f, g) at h in cc
    go false e false f false g true i x j = let q : ◌≡◌ {A = Judged} (Err CutShort) (Ok tt) = rw (e, f, g, i) at h in cc
    go false e false f false g false i true j = let q : ◌≡◌ {A = Judged} (Err TooManyEvents) (Ok tt) = rw (e, f, g, i, j) at h in cc
    go false e false f false g false i false j =
        record { known = sized (wrong_size edition (image_size script)) _ f; there = ltb-false (length script) (2 + image_size script) g; few = ltb-false 1000 (event_count script) j; rest = rw (e, f, g, i, j) }

-- a size that a card has
pub size_fits : (size : ℕ) → eqb (sectors_of size) 0 ≡ false → (size ≤ 4096) × (blocks_of size ≤ 256)
size_fits size h = let few = (at_most size).1 in (omega (arith, card_bytes size (eqb-false (sectors_of size) 0 h)), few)

-- how a script of either edition ends after its events
abbrev end_for : Edition → List ℕ → Walk → Reading
end_for Old script w = ended_at script w
end_for Ev1 script w = locked_at script w

by_end : (edition : Edition) (script : List ℕ) → reading_for edition script ≡ end_for edition script (body_of edition script)
unfolding reading_for reading_of ev1_reading_of
by_end Old script = refl
by_end Ev1 script = refl

-- a reading without a refusal comes from a walk without one, and has its events
not_stopped : (edition : Edition) (script : List ℕ) (w : Walk) → refusal_in (end_for edition script w) ≡ Ok tt → stop_in w ≡ Ok tt
unfolding ended_at locked_at refusal_in stop_in
not_stopped edition script (walked es place) h = refl
not_stopped Old script (stopped r) h = h
not_stopped Ev1 script (stopped r) h = h

read_lawful : (j : Judged) (es : List (List ℕ)) → refusal_in (read_as j es) ≡ Ok tt → read_as j es ≡ lawful es
unfolding read_as refusal_in
read_lawful (Ok u) es h = refl
read_lawful (Err r) es h = cc

its_events : (edition : Edition) (script : List ℕ) (es : List (List ℕ)) (place : ℕ) → refusal_in (end_for edition script (walked es place)) ≡ Ok tt → end_for edition script (walked es place) ≡ lawful es
unfolding ended_at locked_at
its_events Old script es place = read_lawful (left_over script place) es
its_events Ev1 script es place = read_lawful (lock_refusal script place) es

pub parts : (edition : Edition) (script : List ℕ) → refusal_in (reading_for edition script) ≡ Ok tt → Lawful edition script
parts edition script h = through_body edition script (not_stopped edition script (body_of edition script) (ap refusal_in (sym (by_end edition script)) ∙ h))

abbrev walk : List ℕ → Walk
walk script = events_from script (event_count script) (events_start script)

abbrev pub its_walk : List ℕ → List (List ℕ)
its_walk script = events_on (walk script)

-- lines one after the other
lines_kept : (edition : Edition) (i : ℕ) (answers : List CardAnswer) → kept_of (event_line edition) i answers ≡ event_lines edition i answers
unfolding kept_of event_lines
lines_kept edition i [] = refl
lines_kept edition i (a ∷ rest) = ap (λ (text : List ℕ). event_line edition i a ++ text) (lines_kept edition (i + 1) rest)

module _ (card : CardRecord) (script : List ℕ) (h : refusal_in (reading_for card.edition script) ≡ Ok tt) where
  abbrev its : Lawful card.edition script
  its = parts card.edition script h

  pub image_length : length (image_part script) ≡ image_size script
  unfolding image_part
  image_length =
      let r : 2 + image_size script ≤ length script = its.there in
      rw (le-leb (2 + image_size script) (length script) r)
      (length-take-le (image_size script) (drop 2 script) (simp length-drop (omega arith)))

  pub events_lawful : stop_in (walk script) ≡ Ok tt
  events_lawful = ap stop_in (sym its.rest) ∙ not_stopped card.edition script (body_of card.edition script) (ap refusal_in (sym (by_end card.edition script)) ∙ h)

  pub reading : reading_for card.edition script ≡ lawful (its_walk script)
  reading =
      let t = through script (event_count script) (events_start script) events_lawful in
      let e : reading_for card.edition script ≡ end_for card.edition script (walked (its_walk script) t.0) = by_end card.edition script ∙ ap (end_for card.edition script) (its.rest ∙ t.1) in
      e ∙ its_events card.edition script (its_walk script) t.0 (ap refusal_in (sym e) ∙ h)

  abbrev whole : List ℕ
  whole = printed card script (reading_for card.edition script)

  printout : whole ≡ played_of card script (map sent_of (its_walk script))
  unfolding printed events_in
  printout = ap (printed card script) reading

  -- the events of the card's run
  pub its_sent : map sent_of (its_walk script) ≡ events_of card.edition script
  unfolding events_of events_in
  its_sent = ap events_in (sym reading)

  -- header, events and changed blocks, one after the other
  pub assembled : {p₀ p₁ p₂ p₃ : Printer} (first image image' : List ℕ) (size count blocks : ℕ) → first ≡ image_part script → image ≡ first
      → size ≡ image_size script → count ≡ event_count script → blocks ≡ blocks_of size
      → Puts p₀ (header_line size count) p₁
      → Puts p₁ (kept_of (event_line card.edition) 1 (answers_of (begin card image) (events_of card.edition script))) p₂
      → image' ≡ (run_of (begin card image) (events_of card.edition script)).image
      → Puts p₂ (changed_from first image' blocks 0) p₃ → Puts p₀ whole p₃
  unfolding played_of
  assembled first image image' size count blocks ef ei es ec eb x₁ x₂ er x₃ =
      rw (printout, its_sent, ← ef, ← es, ← ec) (puts_then x₁ (puts_then (rw (ei, lines_kept) at x₂) (rw (er, ei, eb) at x₃)))

-- a refusal is printed as such
pub refusal_printed : (card : CardRecord) (script : List ℕ) (reading : Reading) (r : Refusal) → refusal_in reading ≡ Err r → refusal_line r ≡ printed card script reading
unfolding printed refusal_in
refusal_printed card script (lawful events) r e = cc
refusal_printed card script (refused n) r e = let p : n ≡ r = cc in rw p

-- what is read of an EV1's script is its refusal, or the choice of a lawful one
module _ (choice : Choice) where
  pub lawful_choice : (reading : Reading) (c : Choice) → chosen_in reading choice ≡ Ok c → (refusal_in reading ≡ Ok tt) × (c ≡ choice)
  unfolding chosen_in refusal_in
  lawful_choice (lawful events) c e = (refl, cc)
  lawful_choice (refused r) c e = (cc, cc)

  pub refused_choice : (reading : Reading) (u : Unlawful) → chosen_in reading choice ≡ Err u → refusal_in reading ≡ Err u.refusal
  unfolding chosen_in refusal_in
  refused_choice (lawful events) u e = cc
  refused_choice (refused n) u e = let p : record { refusal = n; choice = choice } ≡ u = cc in ap (λ (v : Unlawful). Err v.refusal) p

  pub refusal_of_choice : (reading : Reading) → result_map_both (λ c. tt) (λ (u : Unlawful). u.refusal) (chosen_in reading choice) ≡ refusal_in reading
  unfolding chosen_in refusal_in
  refusal_of_choice (lawful events) = refl
  refusal_of_choice (refused r) = refl

-- the number of a refusal, as the code reads it
pub as_number : (r : Refusal) → tag_of the_type r + 20 ≡ number_of r
unfolding number_of
as_number CutShort = refl
as_number NoSuchSize = refl
as_number TooManyEvents = refl
as_number EventTooLong = refl
as_number LeftOver = refl
as_number TooManyTypes = refl
as_number UnknownType = refl

-- a refused script has no events
pub no_events : (edition : Edition) (script : List ℕ) → is_err (refusal_in (reading_for edition script)) ≡ true → events_of edition script ≡ []
unfolding events_of events_in refusal_in
no_events edition script = go (reading_for edition script)
  where
    go : (reading : Reading) → is_err (refusal_in reading) ≡ true → events_in reading ≡ []
    go (lawful events) e = cc
    go (refused r) e = refl

-- and what is not lawful is refused
not_lawful : (j : Judged) → (j ≡ Ok tt → ⊥) → is_err j ≡ true
not_lawful (Ok tt) h = absurd (h refl)
not_lawful (Err r) h = refl

-- so it leaves what it found, and no answer
module _ (card : CardRecord) (image : List ℕ) (edition : Edition) (script : List ℕ) where
  pub unplayed_run : (refusal_in (reading_for edition script) ≡ Ok tt → ⊥) → run_of (begin card image) (events_of edition script) ≡ begin card image
  unfolding run_of
  unplayed_run h = ap (run_of (begin card image)) (no_events edition script (not_lawful _ h))

  pub unplayed_answers : (refusal_in (reading_for edition script) ≡ Ok tt → ⊥) → answers_of (begin card image) (events_of edition script) ≡ []
  unfolding answers_of
  unplayed_answers h = ap (answers_of (begin card image)) (no_events edition script (not_lawful _ h))

-- and puts nothing
pub ruleset unplayed = (unplayed_run, unplayed_answers, put_nothing)

-- the results of all answers
pub results_kept : (i : ℕ) (answers : List CardAnswer) → kept_of (λ n. result_of) i answers ≡ results_of answers
unfolding kept_of results_of
results_kept i [] = refl
results_kept i (a ∷ rest) = ap (λ (text : List ℕ). result_of a ++ text) (results_kept (i + 1) rest)

pub card_results_kept : (i : ℕ) (answers : List CardAnswer) → kept_of (λ n. card_result_of) i answers ≡ card_results_of answers
unfolding kept_of card_results_of
card_results_kept i [] = refl
card_results_kept i (a ∷ rest) = ap (λ (text : List ℕ). card_result_of a ++ text) (card_results_kept (i + 1) rest)

-- what the code needs on its way, in the words of its callees
module _ (card : CardRecord) (script : List ℕ) (h : refusal_in (reading_for card.edition script) ≡ Ok tt) where
  pub blocks_ready : (size blocks at len : ℕ) → size ≡ image_size script → blocks ≡ blocks_of size
      → at ≤ 64 + 48 * 1000 → 65536 ≤ len → (blocks ≤ 256) × (at + 48 * blocks + 64 ≤ len)
  blocks_ready size blocks at len es eb r l =
      let k : blocks ≤ 256 = rw (eb, es) (size_fits (image_size script) (parts card.edition script h).known).1 in
      (k, omega arith)

  pub space_fits : (size : ℕ) (space : List ℕ) → size ≡ image_size script → 4096 ≡ length space → (size ≤ length space) × (length (take size space) ≡ size)
  space_fits size space e l =
      let k : size ≤ 4096 = rw e (size_fits (image_size script) (parts card.edition script h).known).0 in
      let r : size ≤ length space = omega arith in
      (r, length-take-le size space r)

-- the promise of the whole
pub finished : (out text last whole : List ℕ) (r : ℕ) → text ≡ whole → Put out 0 text last r
    → (r ≡ length whole) × ((last ≡ put_of out 0 whole) × (r ≤ length last))
finished out text last whole r e p =
    let m : r ≡ 0 + length text = p.moved in
    let l : length last ≡ length out = ap (λ (l : List ℕ). length l) p.here ∙ put_length out 0 text (omega (arith, p.fits)) in
    (omega (arith, ap (λ (l : List ℕ). length l) e), (p.here ∙ ap (put_of out 0) e, omega (arith, p.fits)))

-- an input that goes on past the longest lawful script prints what its first 23,101 bytes print, on an EV1 its first 23,103
pub long_printout : (script : List ℕ) → printout_of (take 23101 script) ≡ printout_of script
unfolding printout_of printed
long_printout script = go (ltb 23100 (length script)) refl
  where
    go : (u : Bool) → ltb 23100 (length script) ≡ u → printout_of (take 23101 script) ≡ printout_of script
    go false e = ap printout_of (take_all 23101 script (let h : length script ≤ 23100 = ltb-false 23100 (length script) e in omega arith))
    go true e = let r = long_refused script (ltb-true 23100 (length script) e) in rw (r.1, r.2)

pub long_ev1_printout : (script : List ℕ) → ev1_printout_of (take 23103 script) ≡ ev1_printout_of script
unfolding ev1_printout_of printed
long_ev1_printout script = go (ltb 23102 (length script)) refl
  where
    go : (u : Bool) → ltb 23102 (length script) ≡ u → ev1_printout_of (take 23103 script) ≡ ev1_printout_of script
    go false e = ap ev1_printout_of (take_all 23103 script (let h : length script ≤ 23102 = ltb-false 23102 (length script) e in omega arith))
    go true e = let r = long_refused_ev1 script (ltb-true 23102 (length script) e) in rw (r.1, r.2)
