-- What was stored reads back, every other block is as it was, and the length stays.
-- Assumes nothing.
use mathlib.Core.Path.{◌≡◌, refl, sym, ◌∙◌, ap}
use mathlib.Core.Bool.{Bool, true, false}
use mathlib.Core.List.{List, ◌++◌, append_assoc}
use Prim.Native.Nat.{ℕ, ◌+◌, ◌*◌, ◌-◌, ◌<◌, ◌≤◌}
use native.Mathlib.Omega.{arith}
use lib.ListN.{length, take, drop, length-append, length-drop, take-append-drop}
use lib.Seq.{take_at, drop_at, length-take-le, take-append-le, drop-append-le, drop-append-add, drop-drop}
use lib.Dec.{ltb}
use borrow.Author.Tests.{ltb-true, ltb-false}
use Rattle.layout.specs.Layout.{has_block}
use Rattle.layout.specs.declared.Block.{Block}
use Rattle.layout.proofs.Laws.{room}
use Rattle.memory.specs.Memory.{content_of, store_of}

-- a block is sixteen bytes, whether the image has it or not
pub content_length : (image : List ℕ) (b : Block) → length (content_of image b) ≡ 16
unfolding content_of
content_length image b = go (has_block (length image) b) refl
  where
    go : (t : Bool) → has_block (length image) b ≡ t → length (content_of image b) ≡ 16
    go true e =
        let r : 16 * b.0 + 16 ≤ length image = room (length image) b e in
        rw e (length-take-le 16 (drop (16 * b.0) image) (simp length-drop (omega arith)))
    go false e = rw e

-- sixteen bytes that end within the first of two lists
front : (xs ys : List ℕ) (m : ℕ) → m + 16 ≤ length xs → take 16 (drop m (xs ++ ys)) ≡ take 16 (drop m xs)
front xs ys m h = ap (take 16) (drop-append-le m xs ys (omega arith)) ∙ take-append-le 16 (drop m xs) ys (simp length-drop (omega arith))

-- sixteen bytes put at 16 k, where there is room for them
abbrev put : ℕ → List ℕ → List ℕ → List ℕ
put k bytes image = take (16 * k) image ++ (bytes ++ drop (16 * k + 16) image)

module _ (k : ℕ) (bytes image : List ℕ) (fits : 16 * k + 16 ≤ length image) (l : length bytes ≡ 16) where
  head_length : length (take (16 * k) image) ≡ 16 * k
  head_length = length-take-le (16 * k) image (omega arith)

  put_back : take 16 (drop (16 * k) (put k bytes image)) ≡ bytes
  put_back =
      ap (take 16) (drop_at (take (16 * k) image) (bytes ++ drop (16 * k + 16) image) (16 * k) head_length)
      ∙ take_at bytes (drop (16 * k + 16) image) 16 l

  put_length : length (put k bytes image) ≡ length image
  put_length = simp (length-append, head_length, length-drop, l) (omega arith)

  put_below : (j : ℕ) → j < k → take 16 (drop (16 * j) (put k bytes image)) ≡ take 16 (drop (16 * j) image)
  put_below j h =
      let head = take (16 * k) image in
      front head (bytes ++ drop (16 * k + 16) image) (16 * j) (omega (arith, head_length))
      ∙ sym (front head (drop (16 * k) image) (16 * j) (omega (arith, head_length)))
      ∙ ap (λ (x : List ℕ). take 16 (drop (16 * j) x)) (take-append-drop (16 * k) image)

  put_above : (j : ℕ) → k < j → take 16 (drop (16 * j) (put k bytes image)) ≡ take 16 (drop (16 * j) image)
  put_above j h =
      let head = take (16 * k) image in
      let t = 16 * j - (16 * k + 16) in
      let n : length (head ++ bytes) ≡ 16 * k + 16 = simp (length-append, head_length, l) in
      let e : 16 * j ≡ length (head ++ bytes) + t = omega arith in
      let f : (16 * k + 16) + t ≡ 16 * j = omega arith in
      ap (take 16)
      (ap (drop (16 * j)) (sym (append_assoc head bytes (drop (16 * k + 16) image)))
      ∙ ap (λ (m : ℕ). drop m ((head ++ bytes) ++ drop (16 * k + 16) image)) e
      ∙ drop-append-add (head ++ bytes) (drop (16 * k + 16) image) t
      ∙ drop-drop t (16 * k + 16) image
      ∙ ap (λ (m : ℕ). drop m image) f)

  put_other : (j : ℕ) → (k ≡ j → ⊥) → take 16 (drop (16 * j) (put k bytes image)) ≡ take 16 (drop (16 * j) image)
  put_other j ne = go (ltb j k) refl
    where
      go : (t : Bool) → ltb j k ≡ t → take 16 (drop (16 * j) (put k bytes image)) ≡ take 16 (drop (16 * j) image)
      go true e = put_below j (ltb-true j k e)
      go false e = let h : k ≤ j = ltb-false j k e in put_above j (omega arith)

module _ (image : List ℕ) (b : Block) (bytes : List ℕ) (l : length bytes ≡ 16) where
  -- the length stays
  pub store_length : length (store_of image b bytes) ≡ length image
  unfolding store_of
  store_length = go (has_block (length image) b) refl
    where
      go : (t : Bool) → has_block (length image) b ≡ t → length (store_of image b bytes) ≡ length image
      go true e = rw e (put_length b.0 bytes image (room (length image) b e) l)
      go false e = rw e

  -- what was stored reads back
  pub store_back : has_block (length image) b ≡ true → content_of (store_of image b bytes) b ≡ bytes
  unfolding content_of store_of
  store_back e = rw (store_length, e) (put_back b.0 bytes image (room (length image) b e) l)

  -- every other block is as it was
  pub store_other : (j : Block) → (b.0 ≡ j.0 → ⊥) → content_of (store_of image b bytes) j ≡ content_of image j
  unfolding content_of store_of
  store_other j ne = go (has_block (length image) b) refl (has_block (length image) j) refl
    where
      go : (t : Bool) → has_block (length image) b ≡ t → (u : Bool) → has_block (length image) j ≡ u → content_of (store_of image b bytes) j ≡ content_of image j
      go true e true f = rw (store_length, f, e) (put_other b.0 bytes image (room (length image) b e) l j.0 ne)
      go true e false f = rw (store_length, f)
      go false e u f = rw e

-- a block stored where it stands
pub store_same : (image : List ℕ) (b : Block) → store_of image b (content_of image b) ≡ image
unfolding store_of content_of
store_same image b = go (has_block (length image) b) refl
  where
    go : (t : Bool) → has_block (length image) b ≡ t → store_of image b (content_of image b) ≡ image
    go true e =
        let n = 16 * b.0 in
        rw e
        (ap (λ (l : List ℕ). take n image ++ (take 16 (drop n image) ++ l)) (sym (drop-drop 16 n image))
        ∙ ap (λ (l : List ℕ). take n image ++ l) (take-append-drop 16 (drop n image))
        ∙ take-append-drop n image)
    go false e = rw e
