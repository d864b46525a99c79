-- A script longer than any lawful one: what lies beyond changes nothing. The longest has 23,100 bytes, an EV1's two more.
-- Assumes nothing.
use mathlib.Core.Path.{◌≡◌, refl, sym, ◌∙◌, ap}
use mathlib.Core.Bool.{Bool, true, false, cond, ◌||◌, false≢true}
use mathlib.Core.List.{List, [], ◌∷◌}
use Prim.Native.Nat.{ℕ, zero, suc, ◌+◌, ◌*◌, ◌<◌, ◌≤◌}
use native.Mathlib.Omega.{arith}
use lib.Dec.{ltb, eqb}
use lib.ListN.{length, get_or, take}
use lib.Seq.{get_or-take, length-take-le, take_all}
use borrow.Author.Tests.{ltb-true, ltb-false, eqb-false, lt-ltb, le-ltb}
use Rattle.layout.specs.Layout.{sectors_of}
use Rattle.layout.proofs.Laws.{card_bytes, at_most}
use Rattle.edition.specs.Edition.{wrong_size}
use Rattle.edition.specs.Bytes.{is_usage}
use Rattle.edition.specs.declared.Edition.{Edition}
use Rattle.edition.specs.declared.Edition.TheVariants.{Old, Ev1}
use Rattle.std.specs.Prelude.{Err}
use Rattle.script.specs.declared.Refusal.{Refusal}
use Rattle.script.specs.declared.Refusal.TheVariants.{CutShort, NoSuchSize, TooManyEvents, EventTooLong, LeftOver, TooManyTypes, UnknownType}
use Rattle.script.specs.Script.{Judged, Reading, refused, read_as, count_at, image_size, event_count, events_start, event_refusal, frame_at, next_at, Walk, walked, stopped, before, onward, events_from, no_size, body_of, left_over, ended_at, reading_of}
use Rattle.script.specs.Lock.{lock_refusal, locked_at, ev1_reading_of}

-- two scripts, each longer than a lawful one, that begin alike
module _ (most : ℕ) (enough : 23100 ≤ most) (s t : List ℕ) (ls : most < length s) (lt : most < length t) (alike : (i : ℕ) → i < most + 1 → get_or s i 0 ≡ get_or t i 0) where
  -- both are refused, for one reason
  abbrev Same : Reading → Reading → Type 0
  Same p q = (k : Refusal) × (p ≡ refused k) × (q ≡ refused k)

  -- or both walks come to one place, which has bytes after it
  data Walks : Walk → Walk → Type 0 where
    both_walked : (es fs : List (List ℕ)) (place : ℕ) → place ≤ 23100 → Walks (walked es place) (walked fs place)
    both_stopped : (k : Refusal) → Walks (stopped k) (stopped k)

  more : (f g : List ℕ) (p q : Walk) → Walks p q → Walks (before f p) (before g q)
  unfolding before
  more f g p q (both_walked es fs place h) = both_walked (f ∷ es) (g ∷ fs) place h
  more f g p q (both_stopped k) = both_stopped k

  walk : (n at : ℕ) → at + 19 * n ≤ 23100 → Walks (events_from s n at) (events_from t n at)
  unfolding events_from event_refusal onward next_at
  walk zero at h = both_walked [] [] at (omega arith)
  walk (suc n) at h = go (ltb 18 (get_or s at 0)) refl (λ next room. walk n next room)
    where
      first : get_or t at 0 ≡ get_or s at 0
      first = sym (alike at (omega arith))

      go : (u : Bool) → ltb 18 (get_or s at 0) ≡ u → ((next : ℕ) → next + 19 * n ≤ 23100 → Walks (events_from s n next) (events_from t n next))
          → Walks (events_from s (suc n) at) (events_from t (suc n) at)
      go true e later = rw (lt-ltb at (length s) (omega arith), lt-ltb at (length t) (omega arith), first, e) (both_stopped EventTooLong)
      go false e later =
          let c : get_or s at 0 ≤ 18 = ltb-false 18 (get_or s at 0) e in
          rw (lt-ltb at (length s) (omega arith), lt-ltb at (length t) (omega arith), first, e, le-ltb (length s) (at + 1 + get_or s at 0) (omega arith), le-ltb (length t) (at + 1 + get_or s at 0) (omega arith))
          (more (frame_at s at) (frame_at t at) _ _ (later (at + 1 + get_or s at 0) (omega arith)))

  ends : (p q : Walk) → Walks p q → Same (ended_at s p) (ended_at t q)
  unfolding ended_at left_over read_as
  ends p q (both_walked es fs place h) = (LeftOver, rw (lt-ltb place (length s) (omega arith)), rw (lt-ltb place (length t) (omega arith)))
  ends p q (both_stopped k) = (k, refl, refl)

  count : (at : ℕ) → at < 23100 → count_at t at ≡ count_at s at
  unfolding count_at
  count at h = rw (alike at (omega arith), alike (at + 1) (omega arith))

  size : image_size t ≡ image_size s
  unfolding image_size
  size = count 0 (omega arith)

  other : (x y : Bool) → (x || y) ≡ false → y ≡ false
  other true y e = absurd (false≢true (sym e))
  other false y e = e

  known : (edition : Edition) → no_size edition (image_size s) ≡ false → image_size s ≤ 4096
  unfolding no_size
  known edition h =
      omega (arith, card_bytes (image_size s) (eqb-false (sectors_of (image_size s)) 0 (other (wrong_size edition (image_size s)) (eqb (sectors_of (image_size s)) 0) h)), (at_most (image_size s)).1)

  -- so the walks over their events end alike
  alike_bodies : (edition : Edition) → Walks (body_of edition s) (body_of edition t)
  unfolding body_of event_count events_start
  alike_bodies edition = rw (size, le-ltb (length s) 2 (omega arith), le-ltb (length t) 2 (omega arith)) (go (no_size edition (image_size s)) refl)
    where
      tail : List ℕ → Walk
      tail x =
          cond (ltb (length x) (2 + image_size s)) (stopped CutShort)
          (cond (ltb (length x) (4 + image_size s)) (stopped CutShort)
          (cond (ltb 1000 (count_at x (2 + image_size s))) (stopped TooManyEvents) (events_from x (count_at x (2 + image_size s)) (4 + image_size s))))

      go : (u : Bool) → no_size edition (image_size s) ≡ u → Walks (cond u (stopped NoSuchSize) (tail s)) (cond u (stopped NoSuchSize) (tail t))
      go true e = both_stopped NoSuchSize
      go false e =
          let k : image_size s ≤ 4096 = known edition e in
          rw (le-ltb (length s) (2 + image_size s) (omega arith), le-ltb (length t) (2 + image_size s) (omega arith), le-ltb (length s) (4 + image_size s) (omega arith), le-ltb (length t) (4 + image_size s) (omega arith), count (2 + image_size s) (omega arith))
          (few k (ltb 1000 (count_at s (2 + image_size s))) refl)
        where
          few : image_size s ≤ 4096 → (v : Bool) → ltb 1000 (count_at s (2 + image_size s)) ≡ v
              → Walks (cond v (stopped TooManyEvents) (events_from s (count_at s (2 + image_size s)) (4 + image_size s))) (cond v (stopped TooManyEvents) (events_from t (count_at s (2 + image_size s)) (4 + image_size s)))
          few k true f = both_stopped TooManyEvents
          few k false f =
              let n : count_at s (2 + image_size s) ≤ 1000 = ltb-false 1000 (count_at s (2 + image_size s)) f in
              walk (count_at s (2 + image_size s)) (4 + image_size s) (omega arith)

  -- and both are refused for one reason
  alike_long : Same (reading_of s) (reading_of t)
  unfolding reading_of
  alike_long = ends _ _ (alike_bodies Old)

  -- an EV1's too, whose third section both have with something after it
  module _ (more-enough : 23102 ≤ most) where
    abbrev by_tests : Bool → Bool → Bool → Judged
    by_tests x y z = cond x (Err TooManyTypes) (cond y (Err LeftOver) (cond z (Err LeftOver) (Err UnknownType)))

    section : (place : ℕ) → place ≤ 23100 → (k : Refusal) × (lock_refusal s place ≡ Err k) × (lock_refusal t place ≡ Err k)
    unfolding lock_refusal left_over
    section place h =
        rw (lt-ltb place (length s) (omega arith), lt-ltb place (length t) (omega arith), lt-ltb (place + 1) (length s) (omega arith), lt-ltb (place + 1) (length t) (omega arith), lt-ltb (place + 2) (length s) (omega arith), lt-ltb (place + 2) (length t) (omega arith), ← (alike place (omega arith)), ← (alike (place + 1) (omega arith)))
        (go (ltb 1 (get_or s place 0)) (eqb (get_or s place 0) 0) (is_usage (get_or s (place + 1) 0)))
      where
        go : (x y z : Bool) → (k : Refusal) × (by_tests x y z ≡ Err k) × (by_tests x y z ≡ Err k)
        go true y z = (TooManyTypes, refl, refl)
        go false true z = (LeftOver, refl, refl)
        go false false true = (LeftOver, refl, refl)
        go false false false = (UnknownType, refl, refl)

    locked_ends : (p q : Walk) → Walks p q → Same (locked_at s p) (locked_at t q)
    unfolding locked_at read_as
    locked_ends p q (both_walked es fs place h) = let r = section place h in (r.0, rw r.1, rw r.2)
    locked_ends p q (both_stopped k) = (k, refl, refl)

    alike_long_ev1 : Same (ev1_reading_of s) (ev1_reading_of t)
    unfolding ev1_reading_of
    alike_long_ev1 = locked_ends _ _ (alike_bodies Ev1)

-- the first bytes of a script that is too long, one more than are lawful, are those of the whole
module _ (most : ℕ) (s : List ℕ) (h : most < length s) where
  cut_length : length (take (most + 1) s) ≡ most + 1
  cut_length = length-take-le (most + 1) s (omega arith)

  cut_alike : (i : ℕ) → i < most + 1 → get_or (take (most + 1) s) i 0 ≡ get_or s i 0
  cut_alike i k = get_or-take (most + 1) s i 0 k

-- a script that is too long is refused as its first 23,101 bytes are
pub long_refused : (s : List ℕ) → 23100 < length s → (k : Refusal) × (reading_of (take 23101 s) ≡ refused k) × (reading_of s ≡ refused k)
long_refused s h =
    let l : length (take 23101 s) ≡ 23101 = cut_length 23100 s h in
    alike_long 23100 (omega arith) (take 23101 s) s (omega arith) h (cut_alike 23100 s h)

-- and an EV1's as its first 23,103
pub long_refused_ev1 : (s : List ℕ) → 23102 < length s → (k : Refusal) × (ev1_reading_of (take 23103 s) ≡ refused k) × (ev1_reading_of s ≡ refused k)
long_refused_ev1 s h =
    let l : length (take 23103 s) ≡ 23103 = cut_length 23102 s h in
    alike_long_ev1 23102 (omega arith) (take 23103 s) s (omega arith) h (cut_alike 23102 s h) (omega arith)

-- so the first 23,101 bytes of any script are read as the whole is, and the first 23,103 of an EV1's
module _ (most : ℕ) (reading : List ℕ → Reading) (refused_so : (s : List ℕ) → most < length s → (k : Refusal) × (reading (take (most + 1) s) ≡ refused k) × (reading s ≡ refused k)) where
  cut_read : (s : List ℕ) → reading (take (most + 1) s) ≡ reading s
  cut_read s = go (ltb most (length s)) refl
    where
      go : (u : Bool) → ltb most (length s) ≡ u → reading (take (most + 1) s) ≡ reading s
      go false e = ap reading (take_all (most + 1) s (let h : length s ≤ most = ltb-false most (length s) e in omega arith))
      go true e = let r = refused_so s (ltb-true most (length s) e) in r.1 ∙ sym r.2

pub long_script : (s : List ℕ) → reading_of (take 23101 s) ≡ reading_of s
long_script s = cut_read 23100 reading_of long_refused s

pub long_script_ev1 : (s : List ℕ) → ev1_reading_of (take 23103 s) ≡ ev1_reading_of s
long_script_ev1 s = cut_read 23102 ev1_reading_of long_refused_ev1 s
