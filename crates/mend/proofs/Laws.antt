-- The laws of mending.
-- Assumes nothing.
use mathlib.Core.Path.{◌≡◌, refl, sym, ◌∙◌, ap}
use mathlib.Core.Bool.{Bool, true, false, cond, ◌||◌}
use mathlib.Core.List.{List, [], ◌∷◌}
use Prim.Native.Nat.{ℕ, ◌<◌}
use lib.Dec.{eqb}
use lib.ListN.{length}
use borrow.Author.Tests.{eq-eqb, eqb-true, eqb-false}
use Rattle.layout.specs.Layout.{block_at, has_block, is_trailer}
use Rattle.layout.specs.declared.Block.{Block}
use Rattle.memory.specs.Memory.{content_of, store_of}
use Rattle.memory.proofs.Laws.{store_back, store_other, store_same}
use Rattle.value.specs.Whole.{signed}
use Rattle.value.specs.Block.{encode_of}
use Rattle.value.proofs.Blocks.{encode_length, decode_encode, encode_decode, decode_small}
use Rattle.mend.specs.Rule.{mended_of}
use Rattle.mend.specs.One.{changed_of, name_refusal, outcome_of, rewritten, block_outcome, block_after}
use Rattle.mend.specs.All.{all_after, call_refusal, mended_image}
use Rattle.mend.specs.Laws.{Bytes, quiet, MendedIsValue, SoundStays, TornByte, SecondTime, NotNamed, OthersStay, KeptStay}
use Rattle.std.specs.Prelude.{Option, Some, None, Result, Ok, Err, is_ok}
use Rattle.mend.specs.declared.BlockRefusal.{BlockRefusal}
use Rattle.mend.specs.declared.BlockRefusal.TheVariants.{NoBlock, NotData, NoMajority}
use Rattle.mend.proofs.Ways.{not_ok, after_length}
use Rattle.mend.proofs.Majority.{whole, torn, mended_small}

-- nothing changed
changed_none : (xs : List ℕ) → changed_of xs xs ≡ 0
unfolding changed_of
changed_none [] = refl
changed_none (x ∷ xs) = rw (eq-eqb x x refl, changed_none xs)

-- a block that may be mended is there, and is neither block 0 nor a trailer
module _ (bytes : ℕ) (b : Block) where
  pub here : name_refusal bytes b ≡ Ok tt → has_block bytes b ≡ true
  unfolding name_refusal
  here e = go (has_block bytes b) refl
    where
      go : (t : Bool) → has_block bytes b ≡ t → has_block bytes b ≡ true
      go true f = f
      go false f = let q : ◌≡◌ {A = Result (Unit {0}) BlockRefusal} (Err NoBlock) (Ok tt) = rw f at e in absurd (not_ok q)

  kept : (eqb b.0 0 || is_trailer b) ≡ true → name_refusal bytes b ≡ Err (cond (has_block bytes b) NotData NoBlock)
  unfolding name_refusal
  kept e = rw e (go (has_block bytes b))
    where
      go : (t : Bool) → ◌≡◌ {A = Result (Unit {0}) BlockRefusal} (cond t (Err NotData) (Err NoBlock)) (Err (cond t NotData NoBlock))
      go true = refl
      go false = refl

module _ (image : List ℕ) (b : Block) where
  -- refused by its address, or without a majority: all stays
  pub refused : (r : BlockRefusal) → name_refusal (length image) b ≡ Err r → (block_after image b ≡ image) × (block_outcome image b ≡ Err r)
  unfolding block_after block_outcome
  refused r e = (rw e, rw e)

  pub tied : name_refusal (length image) b ≡ Ok tt → mended_of (content_of image b) ≡ None
      → (block_after image b ≡ image) × (block_outcome image b ≡ Err NoMajority)
  unfolding block_after block_outcome rewritten outcome_of
  tied e f = (rw (e, f), rw (e, f))

  module _ (v a : ℕ) (e : name_refusal (length image) b ≡ Ok tt) (m : mended_of (content_of image b) ≡ Some (v, a)) where
    pub stored : block_after image b ≡ store_of image b (encode_of (signed v) a)
    unfolding block_after rewritten
    stored = rw (e, m)

    pub told : block_outcome image b ≡ Ok (changed_of (content_of image b) (encode_of (signed v) a))
    unfolding block_outcome outcome_of
    told = rw (e, m)

    pub reads : content_of (block_after image b) b ≡ encode_of (signed v) a
    reads = rw stored (store_back image b (encode_of (signed v) a) (encode_length (signed v) a) (here (length image) b e))

  -- a block that is sound
  sound : (v a : ℕ) → name_refusal (length image) b ≡ Ok tt → content_of image b ≡ encode_of (signed v) a → v < 4294967296 → a < 256
      → (block_outcome image b ≡ Ok 0) × (block_after image b ≡ image)
  sound v a e held hv ha =
      let m : mended_of (content_of image b) ≡ Some (v, a) = ap mended_of held ∙ whole v a hv ha in (
        told v a e m ∙ rw (← held, changed_none (content_of image b)),
        stored v a e m ∙ rw (← held) (store_same image b),
      )

-- the address byte of a value block
address_small : (block : List ℕ) (v a : ℕ) → Bytes block → encode_of (signed v) a ≡ block → a < 256
unfolding encode_of
address_small block v a byte e = rw (← e) at (byte 12)

pub mended_is_value : MendedIsValue
mended_is_value image b v a byte e m =
    rw (reads image b v a e m) (decode_encode v a (mended_small (content_of image b) v a byte m).0)

pub sound_stays : SoundStays
sound_stays image b v a byte e d =
    let s = encode_decode (content_of image b) v a d in
    sound image b v a e (sym s) (decode_small (content_of image b) v a d) (address_small (content_of image b) v a byte s)

pub torn_byte : TornByte
torn_byte image b block v a i w byte d h e held =
    let s = encode_decode block v a d in
    let hv = decode_small block v a d in
    let m : mended_of (content_of image b) ≡ Some (v, a) =
    ap mended_of held ∙ rw (← s) (torn v a hv (address_small block v a byte s) i w h) in
    (ap is_ok (told image b v a e m), reads image b v a e m ∙ s)

pub second_time : SecondTime
second_time image b byte = go (name_refusal (length image) b) refl (mended_of (content_of image b)) refl
  where
    go : (r : Result (Unit {0}) BlockRefusal) → name_refusal (length image) b ≡ r → (m : Option (ℕ × ℕ)) → mended_of (content_of image b) ≡ m
        → (block_after (block_after image b) b ≡ block_after image b) × (block_outcome (block_after image b) b ≡ quiet (block_outcome image b))
    go (Err n) e m f = let r = refused image b n e in rw r.0 (r.0, r.1 ∙ rw r.1)
    go (Ok u) e None f = let r = tied image b e f in rw r.0 (r.0, r.1 ∙ rw r.1)
    go (Ok u) e (Some (v, a)) f =
        let l : name_refusal (length (block_after image b)) b ≡ Ok tt = rw (after_length image b) e in
        let n = mended_small (content_of image b) v a byte f in
        let s = sound (block_after image b) b v a l (reads image b v a e f) n.0 n.1 in
        (s.1, s.0 ∙ rw (told image b v a e f))

-- one named block leaves every other as it is
pub other : (image : List ℕ) (b j : Block) → (b.0 ≡ j.0 → ⊥) → content_of (block_after image b) j ≡ content_of image j
other image b j ne = go (name_refusal (length image) b) refl (mended_of (content_of image b)) refl
  where
    go : (r : Result (Unit {0}) BlockRefusal) → name_refusal (length image) b ≡ r → (m : Option (ℕ × ℕ)) → mended_of (content_of image b) ≡ m → content_of (block_after image b) j ≡ content_of image j
    go (Err n) e m f = rw (refused image b n e).0
    go (Ok u) e None f = rw (tied image b e f).0
    go (Ok u) e (Some (v, a)) f = rw (stored image b v a e f) (store_other image b (encode_of (signed v) a) (encode_length (signed v) a) j ne)

-- and block 0 and the trailers as they are
kept_one_lem : (image : List ℕ) (b j : Block) → (eqb j.0 0 || is_trailer j) ≡ true → content_of (block_after image b) j ≡ content_of image j
kept_one_lem image b j k = go (eqb b.0 j.0) refl
  where
    go : (t : Bool) → eqb b.0 j.0 ≡ t → content_of (block_after image b) j ≡ content_of image j
    go true e =
        let s : b ≡ j = ap block_at (eqb-true b.0 j.0 e) in
        rw s (rw (refused image j _ (kept (length image) j k)).0)
    go false e = other image b j (eqb-false b.0 j.0 e)

all_others : (image names : List ℕ) (j : Block) → NotNamed j names → content_of (all_after image names) j ≡ content_of image j
unfolding all_after
all_others image [] j h = refl
all_others image (n ∷ ns) j h = all_others (block_after image (block_at n)) ns j h.1 ∙ other image (block_at n) j h.0

all_kept : (image names : List ℕ) (j : Block) → (eqb j.0 0 || is_trailer j) ≡ true → content_of (all_after image names) j ≡ content_of image j
unfolding all_after
all_kept image [] j k = refl
all_kept image (n ∷ ns) j k = all_kept (block_after image (block_at n)) ns j k ∙ kept_one_lem image (block_at n) j k

by_call : (image names : List ℕ) (j : Block) (t : Bool) → content_of (all_after image names) j ≡ content_of image j
    → content_of (cond t (all_after image names) image) j ≡ content_of image j
by_call image names j true e = e
by_call image names j false e = refl

pub others_stay : OthersStay
unfolding mended_image
others_stay image names j h = by_call image names j (is_ok (call_refusal (length image) (length names))) (all_others image names j h)

pub kept_stay : KeptStay
unfolding mended_image
kept_stay image names j k = by_call image names j (is_ok (call_refusal (length image) (length names))) (all_kept image names j k)
