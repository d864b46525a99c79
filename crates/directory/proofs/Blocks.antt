-- The checksum over a part, block by block.
-- Assumes nothing.
use mathlib.Core.Path.{◌≡◌, refl, sym, ◌∙◌, ap}
use mathlib.Core.List.{List, [], ◌∷◌, ◌++◌, append-nil}
use Prim.Native.Nat.{ℕ, suc, ◌+◌, ◌-◌, ◌≤◌, ◌<◌}
use native.Mathlib.Numerals.{add-one}
use native.Mathlib.Omega.{arith}
use lib.Dec.{eqb}
use lib.Bits.{bit_xor}
use lib.ListN.{length, take, drop, get_or, take-append-drop, drop_of_length-le, get_or-append}
use lib.Seq.{drop-cons, drop-append-le}
use Rattle.directory.specs.Checksum.{shifted, shifts, byte_on, bytes_on, checksum_of}
use Rattle.directory.specs.Code.{first_of, end_of, contents}
use Rattle.directory.specs.Directory.{part_of, right_bytes, is_intact}
use Rattle.directory.specs.declared.Part.{Part}
use Rattle.directory.specs.declared.Part.TheVariants.{First, Second}
use Rattle.layout.specs.Layout.{block_at}
use Rattle.memory.specs.Memory.{content_of}
use Rattle.memory.proofs.Laws.{content_length}

pub bytes_append : (c : ℕ) (xs ys : List ℕ) → bytes_on c (xs ++ ys) ≡ bytes_on (bytes_on c xs) ys
unfolding bytes_on
bytes_append c [] ys = refl
bytes_append c (x ∷ xs) ys = bytes_append (byte_on c x) xs ys

-- one byte more of a loop
pub turn : (bytes : List ℕ) (c i : ℕ) → i < length bytes → bytes_on (shifts 8 (bit_xor c (get_or bytes i 0))) (drop (i + 1) bytes) ≡ bytes_on c (drop i bytes)
unfolding bytes_on byte_on
turn bytes c i h = rw (add-one, drop-cons bytes i 0 h)

-- the bytes of a block, byte by byte
module _ (l : List ℕ) (n : length l ≡ 16) where
  abbrev bytes_to : List ℕ → List ℕ
  bytes_to rest = get_or l 1 0 ∷ get_or l 2 0 ∷ get_or l 3 0 ∷ get_or l 4 0 ∷ get_or l 5 0 ∷ get_or l 6 0 ∷ get_or l 7 0 ∷ rest

  spread : drop 1 l ≡ bytes_to (drop 8 l)
  spread =
      rw (
        drop-cons l 1 0 (omega arith),
        drop-cons l 2 0 (omega arith),
        drop-cons l 3 0 (omega arith),
        drop-cons l 4 0 (omega arith),
        drop-cons l 5 0 (omega arith),
        drop-cons l 6 0 (omega arith),
        drop-cons l 7 0 (omega arith),
      )

  pub first_eight : get_or l 0 0 ∷ bytes_to [] ≡ take 8 l
  first_eight = sym (ap (take 8) (drop-cons l 0 0 (omega arith) ∙ ap (λ (x : List ℕ). get_or l 0 0 ∷ x) spread))

  pub last_eight : get_or l 8 0 ∷ get_or l 9 0 ∷ get_or l 10 0 ∷ get_or l 11 0 ∷ get_or l 12 0 ∷ get_or l 13 0 ∷ get_or l 14 0 ∷ get_or l 15 0 ∷ [] ≡ drop 8 l
  last_eight =
      let end : length l ≤ 16 = omega arith in
      rw (
        drop-cons l 8 0 (omega arith),
        drop-cons l 9 0 (omega arith),
        drop-cons l 10 0 (omega arith),
        drop-cons l 11 0 (omega arith),
        drop-cons l 12 0 (omega arith),
        drop-cons l 13 0 (omega arith),
        drop-cons l 14 0 (omega arith),
        drop-cons l 15 0 (omega arith),
        drop_of_length-le l end,
      )

  -- 67h brings a register of zeros to C7h
  pub opened : bytes_on (bytes_on 0 (0x67 ∷ bytes_to [])) (drop 8 l) ≡ bytes_on 0xC7 (drop 1 l)
  unfolding bytes_on byte_on shifts shifted
  opened = sym (ap (bytes_on 0xC7) spread)

pub two_halves : (c : ℕ) (l : List ℕ) → bytes_on (bytes_on c (take 8 l)) (drop 8 l) ≡ bytes_on c l
two_halves c l = sym (bytes_append c (take 8 l) (drop 8 l)) ∙ ap (bytes_on c) (take-append-drop 8 l)

-- a part is its first block, and the others after it
module _ (image : List ℕ) where
  abbrev rest_of : Part → List ℕ
  rest_of part = contents image (end_of part - (first_of part + 1)) (first_of part + 1)

  blocks : (part : Part) → part_of image part ≡ content_of image (block_at (first_of part)) ++ rest_of part
  unfolding part_of contents
  blocks First = rw append-nil
  blocks Second = rw append-nil

  module _ (part : Part) where
    abbrev head : List ℕ
    head = content_of image (block_at (first_of part))

    one : 1 ≤ length head
    one = omega (arith, content_length image (block_at (first_of part)))

    module _ (first end : ℕ) (from : first ≡ first_of part) (to : end ≡ end_of part) where
      -- the register after the first block, and after them all
      pub begun : (c : ℕ) → c ≡ bytes_on 0xC7 (drop 1 (content_of image (block_at first)))
          → bytes_on c (contents image (end - (first + 1)) (first + 1)) ≡ checksum_of (drop 1 (part_of image part))
      unfolding checksum_of
      begun c e = rw (e, from, to, blocks part, drop-append-le 1 head (rest_of part) one, bytes_append 0xC7 (drop 1 head) (rest_of part))

      pub compared : (r : ℕ) → r ≡ checksum_of (drop 1 (part_of image part)) → eqb r (get_or (content_of image (block_at first)) 0 0) ≡ is_intact image part
      unfolding is_intact right_bytes
      compared r e = rw (e, from, blocks part, get_or-append head (rest_of part) 0 0 one)

  -- a block more, and none
  pub next_block : (b end c d : ℕ) → b < end → d ≡ bytes_on c (content_of image (block_at b)) → bytes_on d (contents image (end - (b + 1)) (b + 1)) ≡ bytes_on c (contents image (end - b) b)
  unfolding contents
  next_block b end c d h e =
      let n : end - b ≡ suc (end - (b + 1)) = omega arith in
      rw (n, bytes_append c (content_of image (block_at b)) (contents image (end - (b + 1)) (b + 1)), e)

  pub no_block : (b end c : ℕ) → end ≤ b → bytes_on c (contents image (end - b) b) ≡ c
  unfolding contents bytes_on
  no_block b end c h =
      let n : end - b ≡ 0 = omega arith in
      rw n
