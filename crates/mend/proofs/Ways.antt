-- The ways out of the code for one block and for the call, in the words of its tests.
-- Assumes nothing.
use mathlib.Core.Path.{◌≡◌, refl, sym, ◌∙◌, ap}
use mathlib.Core.Bool.{Bool, true, false, cond}
use mathlib.Core.List.{List}
use Prim.Native.Nat.{ℕ, ◌≤◌}
use native.Mathlib.Omega.{arith}
use lib.Dec.{eqb, ltb}
use lib.ListN.{length, replicate}
use borrow.Author.Tests.{ltb-false}
use Rattle.layout.specs.Layout.{sectors_of}
use Rattle.layout.specs.declared.Block.{Block}
use Rattle.memory.specs.Memory.{content_of, store_of}
use Rattle.memory.proofs.Laws.{store_length}
use Rattle.value.specs.Whole.{signed}
use Rattle.value.specs.Block.{encode_of}
use Rattle.value.proofs.Blocks.{encode_length}
use Rattle.mend.specs.Rule.{mended_of}
use Rattle.mend.specs.One.{changed_of, name_refusal, outcome_of, rewritten, block_outcome, block_after}
use Rattle.mend.specs.All.{all_after, rows_of, padded, call_refusal, mended_image, report_of}
use Rattle.std.specs.Prelude.{Option, Some, None, Result, Ok, Err, is_ok}
use Rattle.mend.specs.declared.BlockRefusal.{BlockRefusal}
use Rattle.mend.specs.declared.BlockRefusal.TheVariants.{NoMajority}
use Rattle.mend.specs.declared.CallRefusal.{CallRefusal}
use Rattle.mend.specs.declared.CallRefusal.TheVariants.{NoCard, TooManyNames}

pub not_ok : {R : Type 0} {r : R} {u : Unit {0}} → ◌≡◌ {A = Result (Unit {0}) R} (Err r) (Ok u) → ⊥
not_ok z = let q : ◌≡◌ {A = ℕ} 0 1 = cc in omega arith

-- an outcome and an image are those of a block
abbrev pub Outcome : List ℕ → Block → Result ℕ BlockRefusal → List ℕ → Type 0
Outcome image b o last = (o ≡ block_outcome image b) × (last ≡ block_after image b)

module _ (image : List ℕ) (b : Block) where
  pub turned_down : (r : BlockRefusal) → name_refusal (length image) b ≡ Err r → Outcome image b (Err r) image
  unfolding block_outcome block_after
  turned_down r e = (rw e, rw e)

  module _ (u : Unit {0}) (asked : name_refusal (length image) b ≡ Ok u) (before : List ℕ) (held : before ≡ content_of image b) (m : Option (ℕ × ℕ)) (said : m ≡ mended_of before) where
    read : (m' : Option (ℕ × ℕ)) → m ≡ m' → mended_of (content_of image b) ≡ m'
    read m' e = ap mended_of (sym held) ∙ sym said ∙ e

    pub tied : m ≡ None → Outcome image b (Err NoMajority) image
    unfolding block_outcome block_after outcome_of rewritten
    tied e = let p = read None e in (rw (asked, p), rw (asked, p))

    pub done : (v a changed : ℕ) (after last : List ℕ) → m ≡ Some (v, a) → after ≡ encode_of (signed v) a → changed ≡ changed_of before after → last ≡ store_of image b after
        → Outcome image b (Ok changed) last
    unfolding block_outcome block_after outcome_of rewritten
    done v a changed after last e f g h = let p = read (Some (v, a)) e in (rw (asked, p, g, f, held), rw (asked, p, h, f))

-- the length stays
rewritten_length : (image : List ℕ) (b : Block) (m : Option (ℕ × ℕ)) → length (rewritten image b m) ≡ length image
unfolding rewritten
rewritten_length image b (Some m) = store_length image b (encode_of (signed m.0) m.1) (encode_length (signed m.0) m.1)
rewritten_length image b None = refl

pub after_length : (image : List ℕ) (b : Block) → length (block_after image b) ≡ length image
unfolding block_after
after_length image b = go (is_ok (name_refusal (length image) b))
  where
    go : (t : Bool) → length (cond t (rewritten image b (mended_of (content_of image b))) image) ≡ length image
    go false = refl
    go true = rewritten_length image b (mended_of (content_of image b))

-- a refusal, an image and a report are those of a call
abbrev pub Called : List ℕ → List ℕ → Result (Unit {0}) CallRefusal → List ℕ → List ℕ → Type 0
Called image names r last report = (r ≡ call_refusal (length image) (length names)) × ((last ≡ mended_image image names) × (report ≡ report_of image names))

module _ (image names : List ℕ) where
  pub call_refused : (r : CallRefusal) → call_refusal (length image) (length names) ≡ Err r → Called image names (Err r) image (replicate 768 0)
  unfolding mended_image report_of
  call_refused r e = (sym e, (rw e, rw e))

  pub call_done : (u : Unit {0}) → call_refusal (length image) (length names) ≡ Ok u → (last report : List ℕ) → last ≡ all_after image names → report ≡ padded (rows_of image names) → Called image names (Ok u) last report
  unfolding mended_image report_of
  call_done u z last report e f = (sym z, (rw z e, rw z f))

  pub few : (u : Unit {0}) → call_refusal (length image) (length names) ≡ Ok u → length names ≤ 256
  unfolding call_refusal
  few u z = go (eqb (sectors_of (length image)) 0) refl (ltb 256 (length names)) refl
    where
      go : (t : Bool) → eqb (sectors_of (length image)) 0 ≡ t → (w : Bool) → ltb 256 (length names) ≡ w → length names ≤ 256
      go true e w f = let q : ◌≡◌ {A = Result (Unit {0}) CallRefusal} (Err NoCard) (Ok u) = rw e at z in absurd (not_ok q)
      go false e true f = let q : ◌≡◌ {A = Result (Unit {0}) CallRefusal} (Err TooManyNames) (Ok u) = rw (e, f) at z in absurd (not_ok q)
      go false e false f = ltb-false 256 (length names) f
