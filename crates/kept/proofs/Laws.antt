-- The ways of a frame with its figures: what is judged early, what is stored, and that the code's shortcut changes nothing of it.
-- Assumes nothing.
use Rattle.std.proofs.Common.{Err, None, Ok, Option, Result, Some}
use mathlib.Core.Path.{◌≡◌, refl, sym, ◌∙◌, ap}
use mathlib.Core.Bool.{Bool, true, false, not, cond, ◌&&◌, ◌||◌}
use mathlib.Core.List.{List, [], ◌∷◌, ◌++◌}
use mathlib.Core.Logic.{◌⊎◌, inl, inr}
use Prim.Native.Nat.{ℕ}
use native.Mathlib.Omega.{arith}
use lib.Dec.{eqb}
use lib.ListN.{length}
use Rattle.layout.specs.Layout.{is_trailer}
use Rattle.layout.specs.declared.Block.{Block}
use Rattle.session.specs.Session.{Register}
use Rattle.session.specs.declared.Session.{Session}
use Rattle.value.specs.declared.sum.SumError.{SumError}
use Rattle.value.specs.declared.sum.SumError.TheVariants as total
use Rattle.frame.specs.Command.{byte_in, command_of}
use Rattle.frame.specs.declared.Command.{Command}
use Rattle.frame.specs.declared.Command.TheVariants.{Unknown, Authenticate, Read, Write, Store, Begin, Apply, Transfer, Halt}
use Rattle.judge.specs.First.{Outcome, passes, refuses, check, first, ruled}
use Rattle.judge.specs.Checks.{writable_by, no_card, incoherent, frame_checks}
use Rattle.judge.specs.Judge.{trailer_bits, load_of, applied_of, move_of, shown_of, stored_of, done_of, commanded_of, judge_of}
use Rattle.judge.specs.Code.{shortened}
use Rattle.judge.specs.declared.Act.{Act}
use Rattle.judge.specs.declared.Act.TheVariants.{Refused, Authenticated, Shown, TrailerShown, WriteWaits, ValueWaits, Stored, TrailerStored, Loaded, Moved, Halted}
use Rattle.card.specs.Effects.{number_of, image_of}
use Rattle.card.proofs.Short.{short_image}
use Rattle.sealed.specs.Sealed.{inner_of, unsealed}
use Rattle.edition.specs.Edition.{usage_of, wrong_size}
use Rattle.edition.specs.declared.CardRecord.{CardRecord}
use Rattle.edition.specs.Edition.{Choice}
use Rattle.either_card.specs.Personal.{read_zero, chosen, choosing}
use Rattle.either_card.specs.Either.{personal, card_act_of, sealed_card_act_of, given_for}
use Rattle.either_card.proofs.Laws.{short_given, refusal_given}
use Rattle.either_card.proofs.Sealed.{inner_card_act}
use Rattle.tally.specs.Change.{in_range}
use Rattle.tally.specs.declared.change.Figures.{Figures}
use Rattle.std.specs.Prelude.{Option, Some, None}
use Rattle.tally.proofs.Laws.{not_counted}
use Rattle.kept.specs.Kept.{settled_at, settled_by, lastly, figures_by, kept_checks, kept_act_of, kept_for, kept_answer_of, kept_image_after, sealed_kept, sealed_kept_image_after, sealed_kept_of, sealed_kept_answer_of}
use Rattle.kept.specs.Code.{refused_kept, after12}
use Rattle.kept.specs.Answers.{KeptAnswer}
use Rattle.edition.specs.declared.Usage.{Usage}

-- of the acts only two bring new content
pub others : (image : List ℕ) (f : Figures) (act : Act) (frame : List ℕ)
    → ((b : Block) → act ≡ Stored b → ⊥) → ((b : Block) (v a : ℕ) → act ≡ Moved b v a → ⊥) → Some f ≡ settled_by image f act frame
unfolding settled_by
others image f (Refused n) frame h j = refl
others image f (Authenticated t l) frame h j = refl
others image f (Shown b) frame h j = refl
others image f (TrailerShown b m) frame h j = refl
others image f (WriteWaits b) frame h j = refl
others image f (ValueWaits b k) frame h j = refl
others image f (Stored b) frame h j = absurd (h b refl)
others image f (TrailerStored b m) frame h j = refl
others image f (Loaded v a) frame h j = refl
others image f (Moved b v a) frame h j = absurd (j b v a refl)
others image f Halted frame h j = refl

-- in its parts only a trailer is stored
abbrev pub Trailing : Act → Type 0
Trailing (Refused n) = Unit {0}
Trailing (Authenticated t l) = Unit {0}
Trailing (Shown b) = Unit {0}
Trailing (TrailerShown b m) = Unit {0}
Trailing (WriteWaits b) = Unit {0}
Trailing (ValueWaits b k) = Unit {0}
Trailing (Stored b) = Unit {0}
Trailing (TrailerStored b m) = is_trailer b ≡ true
Trailing (Loaded v a) = Unit {0}
Trailing (Moved b v a) = Unit {0}
Trailing Halted = Unit {0}

trailing_ruled : (o : Outcome) (act : Act) → Trailing act → Trailing (ruled o act)
unfolding ruled
trailing_ruled passes act h = h
trailing_ruled (refuses n) act h = tt

trailing_load : (t : Result ℕ SumError) (a : ℕ) → Trailing (load_of t a)
unfolding load_of
trailing_load (Ok v) a = tt
trailing_load (Err total.Negative) a = tt
trailing_load (Err total.Outside) a = tt

trailing_move : (r : Register) (b : Block) → Trailing (move_of r b)
unfolding move_of
trailing_move None b = tt
trailing_move (Some (v, a)) b = tt

trailing_shown : (image : List ℕ) (b : Block) → Trailing (shown_of image b)
unfolding shown_of
trailing_shown image b = go (is_trailer b)
  where
    go : (t : Bool) → Trailing (cond t (TrailerShown b (trailer_bits image b)) (Shown b))
    go true = tt
    go false = tt

trailing_stored : (image : List ℕ) (b : Block) → Trailing (stored_of image b)
unfolding stored_of
trailing_stored image b = go (is_trailer b) refl
  where
    go : (t : Bool) → is_trailer b ≡ t → Trailing (cond t (TrailerStored b (trailer_bits image b)) (Stored b))
    go true e = e
    go false e = tt

trailing_done : (image : List ℕ) (s : Session) (c : Command) (frame : List ℕ) → Trailing (done_of image s c frame)
unfolding done_of applied_of
trailing_done image s Unknown frame = tt
trailing_done image s (Authenticate b l) frame = tt
trailing_done image s (Read b) frame = trailing_shown image b
trailing_done image s (Write b) frame = tt
trailing_done image s (Store b) frame = trailing_stored image b
trailing_done image s (Begin b k) frame = tt
trailing_done image s (Apply b k) frame = trailing_load _ _
trailing_done image s (Transfer b) frame = trailing_move s.register b
trailing_done image s Halt frame = tt

trailing_judged : (image : List ℕ) (s : Session) (frame : List ℕ) → Trailing (judge_of image s frame)
unfolding judge_of commanded_of
trailing_judged image s frame = trailing_ruled _ _ (trailing_ruled _ _ (trailing_done image s _ frame))

trailing_chosen : (x : Choice) (u : Option Usage) (n : ℕ) → Trailing (choosing x u n)
unfolding choosing
trailing_chosen x u n = go (eqb n 0) x u
  where
    go : (t : Bool) (x : Choice) (u : Option Usage) → Trailing (cond t (chosen x u) (Refused n))
    go false x u = tt
    go true x None = tt
    go true None (Some u) = tt
    go true (Some v) (Some u) = tt

pub trailing_card : (image : List ℕ) (k : CardRecord) (s : Session) (frame : List ℕ) → Trailing (card_act_of image k s frame)
unfolding card_act_of
trailing_card image k s frame = go (wrong_size k.edition (length image)) (personal k s frame)
  where
    go : (w p : Bool)
        → Trailing (cond w (Refused 11) (cond p (choosing k.choice (usage_of (byte_in frame 1)) (number_of (judge_of image s read_zero))) (judge_of image s frame)))
    go true p = tt
    go false true = trailing_chosen k.choice (usage_of (byte_in frame 1)) _
    go false false = trailing_judged image s frame

module _ (image : List ℕ) (k : CardRecord) (f : Figures) (s : Session) (frame : List ℕ) where
  -- a trailer does not count, so the code's shortcut for trailers settles nothing
  short_settled : (act : Act) → Trailing act → settled_by image f (shortened s.auth act) frame ≡ settled_by image f act frame
  unfolding shortened settled_by settled_at
  short_settled (Refused n) h = refl
  short_settled (Authenticated t l) h = refl
  short_settled (Shown b) h = refl
  short_settled (TrailerShown b m) h = refl
  short_settled (WriteWaits b) h = refl
  short_settled (ValueWaits b q) h = refl
  short_settled (Stored b) h = refl
  short_settled (TrailerStored b m) h = go ((writable_by s.auth m).a && (writable_by s.auth m).bits && (writable_by s.auth m).b)
    where
      out : (x : Bool) → (x || true) ≡ true
      out true = refl
      out false = refl

      go : (t : Bool) → settled_by image f (cond t (Stored b) (TrailerStored b m)) frame ≡ Some f
      go true = rw (not_counted (length image) b (ap (λ (t : Bool). eqb b.0 0 || t) h ∙ out (eqb b.0 0)))
      go false = refl
  short_settled (Loaded v a) h = refl
  short_settled (Moved b v a) h = refl
  short_settled Halted h = refl

  -- an act and what is left of it: the answer, the figures and the image of the code are those of what the act comes to
  pub kept_way : (last p a : Act) → a ≡ shortened s.auth p → Trailing p → last ≡ lastly (settled_by image f p frame) p → (x : Option Figures) → x ≡ settled_by image f a frame
      → (◌≡◌ {A = KeptAnswer} (record { answer = given_for image k s frame (lastly x a); figures = figures_by x f }) (kept_for image k f s frame last))
      × (image_of image s.auth (lastly x a) frame ≡ image_of image s.auth last frame)
  unfolding kept_for image_of settled_by
  kept_way last p a ea h el x ex =
      let short : x ≡ settled_by image f p frame = ex ∙ ap (λ (y : Act). settled_by image f y frame) ea ∙ short_settled p h in
      rw (el, ea, ← short) (go x (sym short))
    where
      go : (x : Option Figures) → settled_by image f p frame ≡ x
          → (◌≡◌ {A = KeptAnswer} (record { answer = given_for image k s frame (lastly x (shortened s.auth p)); figures = figures_by x f })
          (record { answer = given_for image k s frame (lastly x p); figures = figures_by (settled_by image f (lastly x p) frame) f }))
          × (image_of image s.auth (lastly x (shortened s.auth p)) frame ≡ image_of image s.auth (lastly x p) frame)
      go (Some g) e = (rw (short_given image k s frame p, e), short_image image s frame p)
      go None e = (refl, refl)

-- 11 and 12 are judged by the entries themselves
outcome : Outcome → ℕ
outcome passes = 0
outcome (refuses n) = n

refused : Outcome → ℕ
refused passes = 0
refused (refuses n) = 1

abbrev pub early : Bool → Bool → Bool → Outcome
early w x y = cond w (refuses 11) (cond x (refuses 11) (cond y (refuses 12) passes))

abbrev pub Early : List ℕ → CardRecord → Session → Act → Type 0
Early image k s act = (n : ℕ) → early (wrong_size k.edition (length image)) (no_card image) (incoherent image s) ≡ refuses n → act ≡ Refused n

pub early_card : (image : List ℕ) (k : CardRecord) (s : Session) (frame : List ℕ) → Early image k s (card_act_of image k s frame)
unfolding frame_checks first card_act_of judge_of ruled number_of choosing refused outcome
early_card image k s frame n e = go (wrong_size k.edition (length image)) (no_card image) (incoherent image s) (personal k s frame) e
  where
    go : (w x y p : Bool) → early w x y ≡ refuses n
        → cond w (Refused 11)
        (cond p (choosing k.choice (usage_of (byte_in frame 1)) (number_of (ruled (cond x (refuses 11) (cond y (refuses 12) passes)) (commanded_of image s (command_of s.stage read_zero) read_zero))))
        (ruled (cond x (refuses 11) (cond y (refuses 12) passes)) (commanded_of image s (command_of s.stage frame) frame)))
        ≡ Refused n
    go true x y p q = ap Refused (ap outcome q)
    go false true y true q = ap Refused (ap outcome q)
    go false true y false q = ap Refused (ap outcome q)
    go false false true true q = ap Refused (ap outcome q)
    go false false true false q = ap Refused (ap outcome q)
    go false false false p q = let z : ◌≡◌ {A = ℕ} 0 1 = ap refused q in absurd (omega (arith, z))

pub early_sealed : (image : List ℕ) (k : CardRecord) (s : Session) (frame : List ℕ) → Early image k s (sealed_card_act_of image k s frame)
unfolding frame_checks first sealed_card_act_of ruled refused outcome
early_sealed image k s frame n e = go (wrong_size k.edition (length image)) (no_card image) (incoherent image s) e
  where
    go : (w x y : Bool) → early w x y ≡ refuses n
        → cond w (Refused 11) (ruled (cond x (refuses 11) (cond y (refuses 12) (cond (unsealed frame) (refuses 14) passes))) (card_act_of image k s (inner_of frame))) ≡ Refused n
    go true x y q = ap Refused (ap outcome q)
    go false true y q = ap Refused (ap outcome q)
    go false false true q = ap Refused (ap outcome q)
    go false false false q = let z : ◌≡◌ {A = ℕ} 0 1 = ap refused q in absurd (omega (arith, z))

module _ (image : List ℕ) (k : CardRecord) (f : Figures) (s : Session) (frame : List ℕ) where
  -- figures in range: past 11 and 12 only the new ones can refuse
  pub in_range_lem : in_range f ≡ true → (act : Act) → Early image k s act → kept_act_of image k f s frame act ≡ lastly (settled_by image f act frame) act
  unfolding kept_act_of kept_checks frame_checks first ruled settled_by
  in_range_lem fits act h = rw fits (go (wrong_size k.edition (length image)) (no_card image) (incoherent image s) h)
    where
      go : (w x y : Bool) → ((n : ℕ) → early w x y ≡ refuses n → act ≡ Refused n)
          → ruled (cond w (refuses 11) (cond x (refuses 11) (cond y (refuses 12) passes))) (lastly (settled_by image f act frame) act) ≡ lastly (settled_by image f act frame) act
      go true x y h = let e = h 11 refl in rw e
      go false true y h = let e = h 11 refl in rw e
      go false false true h = let e = h 12 refl in rw e
      go false false false h = refl

  -- figures outside: 11, 12 or 29
  pub out_of_range : in_range f ≡ false → (act : Act) (n : ℕ)
      → first (check 11 (wrong_size k.edition (length image)) ∷ (frame_checks image s ++ (check 29 true ∷ []))) ≡ refuses n → kept_act_of image k f s frame act ≡ Refused n
  unfolding kept_act_of kept_checks ruled
  out_of_range out act n e = rw (out, e)

  pub kept_card : in_range f ≡ true → kept_act_of image k f s frame (card_act_of image k s frame) ≡ lastly (settled_by image f (card_act_of image k s frame) frame) (card_act_of image k s frame)
  kept_card fits = in_range_lem fits (card_act_of image k s frame) (early_card image k s frame)

  -- so what the code makes of a bare frame is what is owed
  pub step_way : (t : Bool) → t ≡ in_range f → (a : Act)
      → ((t ≡ true) × (a ≡ shortened s.auth (card_act_of image k s frame)))
      ⊎ ((t ≡ false) × (n : ℕ) × (first (check 11 (wrong_size k.edition (length image)) ∷ (frame_checks image s ++ (check 29 true ∷ []))) ≡ refuses n) × (a ≡ Refused n))
      → (x : Option Figures) → x ≡ settled_by image f a frame
      → (◌≡◌ {A = KeptAnswer} (record { answer = given_for image k s frame (lastly x a); figures = figures_by x f }) (kept_answer_of image k f s frame))
      × (image_of image s.auth (lastly x a) frame ≡ kept_image_after image k f s frame)
  unfolding kept_answer_of kept_image_after settled_by shortened
  step_way t told a (inl w) x e =
      kept_way image k f s frame _ (card_act_of image k s frame) a w.1 (trailing_card image k s frame) (kept_card (sym told ∙ w.0)) x e
  step_way t told a (inr w) x e =
      kept_way image k f s frame _ (Refused w.1) a w.3 tt (out_of_range (sym told ∙ w.0) (card_act_of image k s frame) w.1 w.2) x e

-- with its checksum: the inner bytes' own act, or the refusal
module _ (image : List ℕ) (k : CardRecord) (f : Figures) (s : Session) (frame : List ℕ) where
  pub with_seal_lem : unsealed frame ≡ false
      → (kept_answer_of image k f s (inner_of frame) ≡ kept_for image k f s (inner_of frame) (sealed_kept image k f s frame))
      × (kept_image_after image k f s (inner_of frame) ≡ sealed_kept_image_after image k f s frame)
  unfolding kept_answer_of kept_image_after sealed_kept_image_after
  with_seal_lem e = rw (inner_card_act image k s frame e) (refl, refl)

  pub answered_by_inner : unsealed frame ≡ false → sealed_kept_answer_of image k f s frame ≡ sealed_kept_of (kept_answer_of image k f s (inner_of frame))
  unfolding sealed_kept_answer_of
  answered_by_inner e = ap sealed_kept_of (sym (with_seal_lem e).0)

  pub stored_by_inner : unsealed frame ≡ false → sealed_kept_image_after image k f s frame ≡ kept_image_after image k f s (inner_of frame)
  stored_by_inner e = sym (with_seal_lem e).1

  refused_kept_lem : unsealed frame ≡ true → (n : ℕ)
      → first (check 11 (wrong_size k.edition (length image)) ∷ (frame_checks image s ++ (check (after12 f) true ∷ []))) ≡ refuses n
      → (sealed_kept image k f s frame ≡ Refused n) × (eqb n 0 ≡ false)
  unfolding kept_act_of kept_checks sealed_card_act_of frame_checks first ruled settled_by after12 outcome
  refused_kept_lem u n q = rw u (go (wrong_size k.edition (length image)) (no_card image) (incoherent image s) (in_range f) q)
    where
      inner : Act
      inner = card_act_of image k s (inner_of frame)

      go : (w x y r : Bool) → cond w (refuses 11) (cond x (refuses 11) (cond y (refuses 12) (refuses (cond r 14 29)))) ≡ refuses n
          → (ruled (cond w (refuses 11) (cond x (refuses 11) (cond y (refuses 12) (cond (not r) (refuses 29) passes))))
          (lastly (settled_by image f (cond w (Refused 11) (ruled (cond x (refuses 11) (cond y (refuses 12) (refuses 14))) inner)) (inner_of frame))
          (cond w (Refused 11) (ruled (cond x (refuses 11) (cond y (refuses 12) (refuses 14))) inner)))
          ≡ Refused n)
          × (eqb n 0 ≡ false)
      go true x y r q = let e : 11 ≡ n = ap outcome q in rw (← e) (refl, refl)
      go false true y r q = let e : 11 ≡ n = ap outcome q in rw (← e) (refl, refl)
      go false false true r q = let e : 12 ≡ n = ap outcome q in rw (← e) (refl, refl)
      go false false false true q = let e : 14 ≡ n = ap outcome q in rw (← e) (refl, refl)
      go false false false false q = let e : 29 ≡ n = ap outcome q in rw (← e) (refl, refl)

  pub without_seal : unsealed frame ≡ true → (n : ℕ)
      → first (check 11 (wrong_size k.edition (length image)) ∷ (frame_checks image s ++ (check (after12 f) true ∷ []))) ≡ refuses n
      → (refused_kept k f s n ≡ kept_for image k f s (inner_of frame) (sealed_kept image k f s frame)) × (image ≡ sealed_kept_image_after image k f s frame)
  unfolding refused_kept kept_for sealed_kept_image_after image_of settled_by
  without_seal e n q =
      let r = refused_kept_lem e n q in
      (rw (r.0, refusal_given image k s (inner_of frame) n r.1), rw r.0)

-- the code's way where the frame passes 14
pub ruleset by_inner = (answered_by_inner, stored_by_inner)
