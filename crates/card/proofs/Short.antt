-- The code's shortcut changes nothing: where every part of a trailer is written, the sixteen bytes of the frame are what is written.
-- Assumes nothing.
use mathlib.Core.Path.{◌≡◌, refl, sym, ◌∙◌, ap}
use mathlib.Core.Bool.{Bool, true, false, cond, ◌&&◌, false≢true}
use mathlib.Core.List.{List, ◌++◌}
use Prim.Native.Nat.{ℕ}
use lib.ListN.{take, drop, take-append-drop}
use lib.Seq.{drop-drop}
use Rattle.memory.specs.Memory.{sixteen_of, content_of, store_of}
use Rattle.access.specs.declared.rights.Parts.{Parts}
use Rattle.session.specs.declared.Session.{Session}
use Rattle.judge.specs.Checks.{writable_by}
use Rattle.judge.specs.Code.{shortened}
use Rattle.judge.specs.declared.Act.{Act}
use Rattle.judge.specs.declared.Act.TheVariants.{Refused, Authenticated, Shown, TrailerShown, WriteWaits, ValueWaits, Stored, TrailerStored, Loaded, Moved, Halted}
use Rattle.card.specs.Trailer.{join_of, mixed_of}
use Rattle.card.specs.Effects.{number_of, sign_of, reply_of, session_of, image_of}
use Rattle.card.specs.Step.{answered}

-- three parts of one are that one
join_same : (x : List ℕ) → join_of x x x ≡ x
unfolding join_of
join_same x = ap (λ (l : List ℕ). take 6 x ++ l) (ap (λ (l : List ℕ). take 4 (drop 6 x) ++ l) (sym (drop-drop 4 6 x)) ∙ take-append-drop 4 (drop 6 x)) ∙ take-append-drop 6 x

all_new : (p : Parts) (old new : List ℕ) → (p.a && p.bits && p.b) ≡ true → mixed_of p old new ≡ new
unfolding mixed_of
all_new p old new h = go p.a p.bits p.b h
  where
    go : (a bits b : Bool) → (a && bits && b) ≡ true → join_of (cond a new old) (cond bits new old) (cond b new old) ≡ new
    go true true true e = join_same new
    go true true false e = absurd (false≢true e)
    go true false b e = absurd (false≢true e)
    go false bits b e = absurd (false≢true e)

module _ (image : List ℕ) (s : Session) where
  abbrev every : ℕ → Bool
  every m = (writable_by s.auth m).a && (writable_by s.auth m).bits && (writable_by s.auth m).b

  pub short_answer : (act : Act) → answered image s (shortened s.auth act) ≡ answered image s act
  unfolding shortened answered number_of sign_of reply_of session_of
  short_answer (Refused n) = refl
  short_answer (Authenticated t l) = refl
  short_answer (Shown b) = refl
  short_answer (TrailerShown b m) = refl
  short_answer (WriteWaits b) = refl
  short_answer (ValueWaits b k) = refl
  short_answer (Stored b) = refl
  short_answer (TrailerStored b m) = go (every m)
    where
      go : (t : Bool) → answered image s (cond t (Stored b) (TrailerStored b m)) ≡ answered image s (TrailerStored b m)
      go true = refl
      go false = refl
  short_answer (Loaded v a) = refl
  short_answer (Moved b v a) = refl
  short_answer Halted = refl

  pub short_image : (frame : List ℕ) (act : Act) → image_of image s.auth (shortened s.auth act) frame ≡ image_of image s.auth act frame
  unfolding shortened image_of
  short_image frame (Refused n) = refl
  short_image frame (Authenticated t l) = refl
  short_image frame (Shown b) = refl
  short_image frame (TrailerShown b m) = refl
  short_image frame (WriteWaits b) = refl
  short_image frame (ValueWaits b k) = refl
  short_image frame (Stored b) = refl
  short_image frame (TrailerStored b m) = go (every m) refl
    where
      go : (t : Bool) → every m ≡ t → image_of image s.auth (cond t (Stored b) (TrailerStored b m)) frame ≡ image_of image s.auth (TrailerStored b m) frame
      go true e = ap (store_of image b) (sym (all_new (writable_by s.auth m) (content_of image b) (sixteen_of frame) e))
      go false e = refl
  short_image frame (Loaded v a) = refl
  short_image frame (Moved b v a) = refl
  short_image frame Halted = refl
