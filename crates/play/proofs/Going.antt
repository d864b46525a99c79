-- The run's invariant: what is kept so far, with what is still ahead, is the whole.
-- Assumes nothing.
use mathlib.Core.Path.{◌≡◌, refl, sym, ◌∙◌, ap}
use mathlib.Core.List.{List, [], ◌∷◌, ◌++◌, map, append_assoc, append-nil}
use Prim.Native.Nat.{ℕ, ◌+◌, ◌*◌, ◌-◌, ◌<◌, ◌≤◌}
use native.Mathlib.Omega.{arith}
use native.Mathlib.Nat.{mul-one, mul-suc, mul-le-mul_left}
use native.Mathlib.Numerals.{add-one}
use lib.ListN.{length}
use Rattle.session.specs.Session.{fresh_of}
use Rattle.session.specs.declared.Session.{Session}
use Rattle.edition.specs.declared.CardRecord.{CardRecord}
use Rattle.either_card.specs.Answers.{CardAnswer}
use Rattle.std.specs.Prelude.{Ok}
use Rattle.script.specs.Script.{refusal_in, event_count, events_start, frame_at, next_at, walked, events_from}
use Rattle.reader.specs.Reader.{step_at, bytes_of}
use Rattle.reader.specs.declared.Step.{Step}
use Rattle.reader.proofs.Laws.{lawful_event}
use Rattle.runs.specs.Run.{State, begin, Sent, answer_to, image_upon, after, run_of, answers_of}
use Rattle.play.specs.Puts.{Puts}
use Rattle.play.specs.declared.text.Printer.{Printer}
use Rattle.play.specs.Run.{sent_of, reading_for, events_of}
use Rattle.play.specs.Results.{kept_of}
use Rattle.play.proofs.Put.{puts_nothing, puts_then}
use Rattle.play.proofs.Walks.{next_event, last_event, through}
use Rattle.play.proofs.Whole.{parts, its_walk, its_sent, events_lawful}

-- a record, an image and a session
abbrev at_rest : CardRecord → List ℕ → Session → State
at_rest k image s = record { card = k; image = image; session = s }

-- the room of one answer more
more_room : (w i : ℕ) → w * (i + 1) ≡ w * i + w
more_room w i = ap (λ (n : ℕ). w * n) (add-one i) ∙ mul-suc w i

-- answers that take w bytes at most, as they are kept
module _ (w : ℕ) (kept : ℕ → CardAnswer → List ℕ) (card : CardRecord) (script : List ℕ) (image₀ : List ℕ) (p₀ : Printer) where
  abbrev all : List Sent
  all = events_of card.edition script

  -- before the answer to event i, with some events left
  pub record Going (image : List ℕ) (p : Printer) (k : CardRecord) (s : Session) (place i left : ℕ) : Type 0 where
    pub rest : List (List ℕ)
    pub done : List ℕ
    pub last : ℕ
    pub ahead : events_from script left place ≡ walked rest last
    pub puts : Puts p₀ done p
    pub so_far : done ++ kept_of kept i (answers_of (at_rest k image s) (map sent_of rest)) ≡ kept_of kept 1 (answers_of (begin card image₀) all)
    pub ran : run_of (at_rest k image s) (map sent_of rest) ≡ run_of (begin card image₀) all
    pub same_image : length image ≡ length image₀
    pub few : i + left ≤ 1001
    pub room : p.at + w ≤ p₀.at + w * i
    pub fits : p₀.at + w * 1000 ≤ length p₀.out.now

  pub started : (h : refusal_in (reading_for card.edition script) ≡ Ok tt) (s : Session) (count start : ℕ) → s ≡ fresh_of → count ≡ event_count script → start ≡ events_start script
      → p₀.at + w * 1000 ≤ length p₀.out.now → Going image₀ p₀ card s start 1 count
  started h s count start e ec ea r =
      let t = through script (event_count script) (events_start script) (events_lawful card script h) in
      let l = parts card.edition script h in
      record {
        rest = its_walk script;
        done = [];
        last = t.0;
        ahead = rw (ec, ea) t.1;
        puts = puts_nothing p₀ (omega arith);
        so_far = rw (e, its_sent card script h);
        ran = rw (e, its_sent card script h);
        same_image = refl;
        few = omega (arith, l.few);
        room = rw (mul-one w) (omega arith);
        fits = r;
      }

  module _ {image : List ℕ} {p : Printer} {k : CardRecord} {s : Session} {place i left : ℕ} (g : Going image p k s place i left) where
    -- there is room for an answer
    pub answer_room : 0 < left → p.at + w ≤ length p.out.now
    answer_room h =
        let few : i ≤ 1000 = omega (arith, g.few) in
        omega (arith, mul-le-mul_left w few, g.room, g.fits, g.puts.put.same_length)

    -- what the walk found here is the event that is due
    pub due : (here : Step) (frame : List ℕ) → 0 < left → here ≡ step_at script place → frame ≡ bytes_of script here.found → frame ≡ frame_at script place
    due here frame h e f =
        let n = next_event script left place g.rest g.last h g.ahead in
        f ∙ ap (λ (x : Step). bytes_of script x.found) e ∙ lawful_event script place n.0

    pub turn : (a : CardAnswer) (frame image' : List ℕ) (p' : Printer) (place' : ℕ) → 0 < left → frame ≡ frame_at script place → a ≡ answer_to (at_rest k image s) (sent_of frame)
        → image' ≡ image_upon (at_rest k image s) (sent_of frame) → length image' ≡ length image → Puts p (kept i a) p' → p'.at ≤ p.at + w
        → place' ≡ next_at script place → Going image' p' a.card a.answer.session place' (i + 1) (left - 1)
    unfolding answers_of run_of after kept_of
    turn a frame image' p' place' h f ea ei li x b ep =
        let n = (next_event script left place g.rest g.last h g.ahead).1 in
        let ra : g.rest ≡ frame ∷ n.0 = n.1 ∙ ap (λ (x : List ℕ). x ∷ n.0) (sym f) in
        record {
          rest = n.0;
          done = g.done ++ kept i a;
          last = g.last;
          ahead = rw ep n.2;
          puts = puts_then g.puts x;
          so_far =
              append_assoc g.done (kept i a) _
              ∙ rw (ei, ea) (ap (λ (es : List (List ℕ)). g.done ++ kept_of kept i (answers_of (at_rest k image s) (map sent_of es))) (sym ra) ∙ g.so_far);
          ran = rw (ei, ea) (ap (λ (es : List (List ℕ)). run_of (at_rest k image s) (map sent_of es)) (sym ra) ∙ g.ran);
          same_image = li ∙ g.same_image;
          few = omega (arith, g.few);
          room = rw (more_room w i) (omega (arith, g.room));
          fits = g.fits;
        }

    module _ (h : left ≤ 0) where
      over : g.rest ≡ []
      over = last_event script left place g.rest g.last h g.ahead

      pub end_kept : Puts p₀ (kept_of kept 1 (answers_of (begin card image₀) all)) p
      unfolding answers_of kept_of
      end_kept =
          let e : g.done ≡ kept_of kept 1 (answers_of (begin card image₀) all) =
          sym (append-nil g.done) ∙ ap (λ (es : List (List ℕ)). g.done ++ kept_of kept i (answers_of (at_rest k image s) (map sent_of es))) (sym over) ∙ g.so_far in
          rw (← e) g.puts

      pub end_state : at_rest k image s ≡ run_of (begin card image₀) all
      unfolding run_of
      end_state = ap (λ (es : List (List ℕ)). run_of (at_rest k image s) (map sent_of es)) (sym over) ∙ g.ran

      pub end_place : p.at ≤ p₀.at + w * 1000
      end_place =
          let few : i ≤ 1000 + 1 = omega (arith, g.few) in
          omega (arith, mul-le-mul_left w few, more_room w 1000, g.room)
