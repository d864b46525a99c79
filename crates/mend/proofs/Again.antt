-- A call that is made again changes nothing.
-- Assumes nothing.
use mathlib.Core.Path.{◌≡◌, refl, sym, ◌∙◌, ap, ap₂}
use mathlib.Core.Bool.{Bool, true, false}
use mathlib.Core.List.{List, [], ◌∷◌}
use Prim.Native.Nat.{ℕ, zero, suc, ◌<◌}
use native.Mathlib.Omega.{arith}
use lib.Dec.{eqb}
use lib.ListN.{length}
use borrow.Author.Tests.{eqb-true, eqb-false}
use Rattle.layout.specs.Layout.{block_at}
use Rattle.layout.specs.declared.Block.{Block}
use Rattle.memory.specs.Memory.{content_of}
use Rattle.memory.proofs.Laws.{content_length, store_same}
use Rattle.value.specs.Whole.{signed}
use Rattle.value.specs.Block.{encode_of}
use Rattle.value.proofs.Blocks.{encode_length}
use Rattle.mend.specs.Rule.{mended_of}
use Rattle.mend.specs.One.{changed_of, name_refusal, block_outcome, block_after}
use Rattle.mend.specs.All.{all_after, call_refusal, mended_image}
use Rattle.mend.specs.Laws.{Bytes, quiet, ImageBytes, NoneTold, SecondCall}
use Rattle.std.specs.Prelude.{Option, Some, None, Result, Ok, Err, IfOk}
use Rattle.mend.specs.declared.BlockRefusal.{BlockRefusal}
use Rattle.mend.specs.declared.CallRefusal.{CallRefusal}
use Rattle.mend.proofs.Ways.{not_ok, after_length}
use Rattle.mend.proofs.Majority.{mended_small}
use Rattle.mend.proofs.Laws.{refused, tied, stored, told, reads, other, second_time}

-- lists of one length of which no byte changed are the same
unchanged : (xs ys : List ℕ) → length xs ≡ length ys → changed_of xs ys ≡ 0 → xs ≡ ys
unfolding changed_of
unchanged [] [] l e = refl
unchanged [] (y ∷ ys) l e = absurd (omega arith)
unchanged (x ∷ xs) [] l e = absurd (omega arith)
unchanged (x ∷ xs) (y ∷ ys) l e = go (eqb x y) refl (changed_of xs ys) refl (λ h. unchanged xs ys (omega arith) h)
  where
    go : (t : Bool) → eqb x y ≡ t → (n : ℕ) → changed_of xs ys ≡ n → (changed_of xs ys ≡ 0 → xs ≡ ys) → x ∷ xs ≡ y ∷ ys
    go true f n g rest = ap₂ ◌∷◌ (eqb-true x y f) (rest (omega (arith, rw f at e)))
    go false f n g rest = absurd (omega (arith, rw f at e))

-- nothing is told of a block; then nothing changes
abbrev Quiet : List ℕ → Block → Type 0
Quiet image b = IfOk (block_outcome image b) (λ changed. changed ≡ 0)

quiet_stays : (image : List ℕ) (b : Block) → Quiet image b → block_after image b ≡ image
quiet_stays image b q = go (name_refusal (length image) b) refl (mended_of (content_of image b)) refl
  where
    go : (r : Result (Unit {0}) BlockRefusal) → name_refusal (length image) b ≡ r → (m : Option (ℕ × ℕ)) → mended_of (content_of image b) ≡ m → block_after image b ≡ image
    go (Err n) e m f = (refused image b n e).0
    go (Ok u) e None f = (tied image b e f).0
    go (Ok u) e (Some (v, a)) f =
        let n : changed_of (content_of image b) (encode_of (signed v) a) ≡ 0 = rw (told image b v a e f) at q in
        let s : content_of image b ≡ encode_of (signed v) a =
        unchanged (content_of image b) (encode_of (signed v) a) (content_length image b ∙ sym (encode_length (signed v) a)) n in
        stored image b v a e f ∙ rw (← s) (store_same image b)

-- what is told of a block depends on its bytes and the image's length
same_outcome : (x y : List ℕ) (b : Block) → length x ≡ length y → content_of x b ≡ content_of y b → block_outcome x b ≡ block_outcome y b
unfolding block_outcome
same_outcome x y b l e = rw (l, e)

quiet_kept : (image : List ℕ) (b c : Block) → Quiet image b → Quiet (block_after image c) b
quiet_kept image b c q = go (eqb c.0 b.0) refl
  where
    go : (t : Bool) → eqb c.0 b.0 ≡ t → Quiet (block_after image c) b
    go true e =
        let s : c ≡ b = ap block_at (eqb-true c.0 b.0 e) in
        rw (s, quiet_stays image b q) q
    go false e =
        rw (same_outcome (block_after image c) image b (after_length image c) (other image c b (eqb-false c.0 b.0 e))) q

quiet_all : (image names : List ℕ) (b : Block) → Quiet image b → Quiet (all_after image names) b
unfolding all_after
quiet_all image [] b q = q
quiet_all image (n ∷ ns) b q = quiet_all (block_after image (block_at n)) ns b (quiet_kept image b (block_at n) q)

-- bytes stay bytes
abbrev Each : List ℕ → Type 0
Each [] = Unit {0}
Each (x ∷ xs) = (x < 256) × Each xs

each : (xs : List ℕ) → Each xs → Bytes xs
each [] h i = omega arith
each (x ∷ xs) h zero = h.0
each (x ∷ xs) h (suc i) = each xs h.1 i

encoded_bytes : (v a : ℕ) → a < 256 → Bytes (encode_of (signed v) a)
unfolding encode_of
encoded_bytes v a h =
    each (encode_of (signed v) a) (
      omega arith,
      (
        omega arith,
        (
          omega arith,
          (
            omega arith,
            (
              omega arith,
              (
                omega arith,
                (
                  omega arith,
                  (
                    omega arith,
                    (
                      omega arith,
                      (
                        omega arith,
                        (
                          omega arith,
                          (
                            omega arith,
                            (h, (omega arith, (h, (omega arith, tt)))),
                          ),
                        ),
                      ),
                    ),
                  ),
                ),
              ),
            ),
          ),
        ),
      ),
    )

bytes_after : (image : List ℕ) (b : Block) → ImageBytes image → ImageBytes (block_after image b)
bytes_after image b byte j = go (eqb b.0 j.0) refl (name_refusal (length image) b) refl (mended_of (content_of image b)) refl
  where
    go : (w : Bool) → eqb b.0 j.0 ≡ w → (r : Result (Unit {0}) BlockRefusal) → name_refusal (length image) b ≡ r → (m : Option (ℕ × ℕ)) → mended_of (content_of image b) ≡ m
        → Bytes (content_of (block_after image b) j)
    go false d r e m f = rw (other image b j (eqb-false b.0 j.0 d)) (byte j)
    go true d (Err n) e m f = rw (refused image b n e).0 (byte j)
    go true d (Ok u) e None f = rw (tied image b e f).0 (byte j)
    go true d (Ok u) e (Some (v, a)) f =
        let s : j ≡ b = ap block_at (sym (eqb-true b.0 j.0 d)) in
        rw (s, reads image b v a e f) (encoded_bytes v a (mended_small (content_of image b) v a (byte b) f).1)

nothing_told : (r : Result ℕ BlockRefusal) → IfOk (quiet r) (λ changed. changed ≡ 0)
nothing_told (Ok changed) = refl
nothing_told (Err refusal) = tt

-- every name is quiet after a call
abbrev Quieted : List ℕ → List ℕ → Type 0
Quieted image [] = Unit {0}
Quieted image (n ∷ ns) = Quiet image (block_at n) × Quieted image ns

quieted : (image names : List ℕ) → ImageBytes image → Quieted (all_after image names) names
unfolding all_after
quieted image [] byte = tt
quieted image (n ∷ ns) byte =
    let q : Quiet (block_after image (block_at n)) (block_at n) =
    rw (second_time image (block_at n) (byte (block_at n))).1 (nothing_told (block_outcome image (block_at n))) in
    (quiet_all (block_after image (block_at n)) ns (block_at n) q, quieted (block_after image (block_at n)) ns (bytes_after image (block_at n) byte))

-- and then nothing is left to do
quiet_call : (image names : List ℕ) → Quieted image names → (all_after image names ≡ image) × NoneTold image names
unfolding all_after
quiet_call image [] q = (refl, tt)
quiet_call image (n ∷ ns) q =
    let s : block_after image (block_at n) ≡ image = quiet_stays image (block_at n) q.0 in
    let r = quiet_call image ns q.1 in
    (rw s r.0, (q.0, rw s r.1))

all_length : (image names : List ℕ) → length (all_after image names) ≡ length image
unfolding all_after
all_length image [] = refl
all_length image (n ∷ ns) = all_length (block_after image (block_at n)) ns ∙ after_length image (block_at n)

pub second_call : SecondCall
unfolding mended_image
second_call image names byte = go (call_refusal (length image) (length names)) refl
  where
    go : (r : Result (Unit {0}) CallRefusal) → call_refusal (length image) (length names) ≡ r
        → (mended_image (mended_image image names) names ≡ mended_image image names)
        × (call_refusal (length image) (length names) ≡ Ok tt → NoneTold (mended_image image names) names)
    go (Ok u) e =
        let r = quiet_call (all_after image names) names (quieted image names byte) in
        rw (e, all_length image names, e) (r.0, λ z. r.1)
    go (Err n) e = rw (e, e) (refl, λ z. absurd (not_ok z))
