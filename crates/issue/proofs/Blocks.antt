-- Bytes put into some blocks, sixteen to a block: what they leave, what reads back, and what stays.
-- Assumes nothing.
use mathlib.Core.Path.{◌≡◌, refl, sym, ◌∙◌, ap₂}
use mathlib.Core.Bool.{Bool, true, false}
use mathlib.Core.List.{List, [], ◌∷◌, ◌++◌}
use Prim.Native.Nat.{ℕ, ◌*◌, ◌≤◌}
use native.Mathlib.Omega.{arith}
use lib.Dec.{leb}
use lib.ListN.{length, take, drop, length-append, length-drop, take-append-drop}
use lib.Seq.{take_all, drop_at, take-append-le, drop-append-le, length-take-le}
use borrow.Author.Tests.{le-leb, leb-true}
use Rattle.layout.specs.Layout.{block_at, has_block}
use Rattle.layout.specs.declared.Block.{Block}
use Rattle.memory.specs.Memory.{sixteen_of, content_of, store_of}
use Rattle.memory.proofs.Laws.{content_length, store_length, store_back, store_other, store_same}
use Rattle.issue.specs.Write.{filled}
use Rattle.issue.specs.Laws.{NotAmong}

pub sixteen_length : (xs : List ℕ) → length (sixteen_of xs) ≡ 16
unfolding sixteen_of
sixteen_length xs = go (leb 16 (length xs)) refl
  where
    go : (t : Bool) → leb 16 (length xs) ≡ t → length (sixteen_of xs) ≡ 16
    go true e = rw e (length-take-le 16 xs (leb-true 16 (length xs) e))
    go false e = rw e

pub sixteen_take : (xs : List ℕ) → 16 ≤ length xs → sixteen_of xs ≡ take 16 xs
unfolding sixteen_of
sixteen_take xs h = rw (le-leb 16 (length xs) h)

pub sixteen_front : (xs ys : List ℕ) → 16 ≤ length xs → sixteen_of (xs ++ ys) ≡ sixteen_of xs
sixteen_front xs ys h =
    sixteen_take (xs ++ ys) (simp length-append (omega arith)) ∙ take-append-le 16 xs ys h ∙ sym (sixteen_take xs h)

-- some blocks and then others
pub filled_append : (image ns ms xs ys : List ℕ) → length xs ≡ 16 * length ns → filled image (ns ++ ms) (xs ++ ys) ≡ filled (filled image ns xs) ms ys
unfolding filled
filled_append image [] ms [] ys e = refl
filled_append image [] ms (x ∷ xs) ys e = absurd (omega arith)
filled_append image (n ∷ ns) ms xs ys e =
    let h : 16 ≤ length xs = omega arith in
    ap₂ (λ (s t : List ℕ). filled (store_of image (block_at n) s) (ns ++ ms) t) (sixteen_front xs ys h) (drop-append-le 16 xs ys h)
    ∙ filled_append (store_of image (block_at n) (sixteen_of xs)) ns ms (drop 16 xs) ys (simp length-drop (omega arith))

-- the length stays
pub filled_length : (image ns bytes : List ℕ) → length (filled image ns bytes) ≡ length image
unfolding filled
filled_length image [] bytes = refl
filled_length image (n ∷ ns) bytes =
    filled_length (store_of image (block_at n) (sixteen_of bytes)) ns (drop 16 bytes) ∙ store_length image (block_at n) (sixteen_of bytes) (sixteen_length bytes)

-- a block that is not among them stays
pub filled_other : (image ns bytes : List ℕ) (j : Block) → NotAmong j.0 ns → content_of (filled image ns bytes) j ≡ content_of image j
unfolding filled
filled_other image [] bytes j a = refl
filled_other image (n ∷ ns) bytes j a =
    filled_other (store_of image (block_at n) (sixteen_of bytes)) ns (drop 16 bytes) j a.1
    ∙ store_other image (block_at n) (sixteen_of bytes) (sixteen_length bytes) j a.0

-- what some blocks hold
abbrev pub held : List ℕ → List ℕ → List ℕ
held image [] = []
held image (n ∷ ns) = content_of image (block_at n) ++ held image ns

-- the image has the blocks, and no two of them are the same
abbrev pub Apart : List ℕ → List ℕ → Type 0
Apart image [] = Unit {0}
Apart image (n ∷ ns) = (has_block (length image) (block_at n) ≡ true) × (NotAmong n ns × Apart image ns)

apart_on : (image last ns : List ℕ) → length last ≡ length image → Apart image ns → Apart last ns
apart_on image last [] l a = tt
apart_on image last (n ∷ ns) l a = (rw l a.0, (a.1.0, apart_on image last ns l a.1.1))

-- what was put there reads back
pub filled_back : (image ns bytes : List ℕ) → Apart image ns → length bytes ≡ 16 * length ns → held (filled image ns bytes) ns ≡ bytes
unfolding filled
filled_back image [] [] a e = refl
filled_back image [] (x ∷ xs) a e = absurd (omega arith)
filled_back image (n ∷ ns) bytes a e =
    let b = block_at n in
    let first = store_of image b (sixteen_of bytes) in
    let l : length first ≡ length image = store_length image b (sixteen_of bytes) (sixteen_length bytes) in
    let h : 16 ≤ length bytes = omega arith in
    let rest : held (filled first ns (drop 16 bytes)) ns ≡ drop 16 bytes =
    filled_back first ns (drop 16 bytes) (apart_on image first ns l a.1.1) (simp length-drop (omega arith)) in
    let one : content_of (filled first ns (drop 16 bytes)) b ≡ take 16 bytes =
    filled_other first ns (drop 16 bytes) b a.1.0 ∙ store_back image b (sixteen_of bytes) (sixteen_length bytes) a.0 ∙ sixteen_take bytes h in
    ap₂ (λ (x y : List ℕ). x ++ y) one rest ∙ take-append-drop 16 bytes

-- blocks that are filled with what they hold
pub filled_same : (image ns : List ℕ) → filled image ns (held image ns) ≡ image
unfolding filled
filled_same image [] = refl
filled_same image (n ∷ ns) =
    let b = block_at n in
    let c = content_of image b in
    let l : length c ≡ 16 = content_length image b in
    let s : sixteen_of (c ++ held image ns) ≡ c =
    sixteen_front c (held image ns) (omega arith) ∙ sixteen_take c (omega arith) ∙ take_all 16 c (omega arith) in
    rw (s, drop_at c (held image ns) 16 l, store_same image b) (filled_same image ns)
