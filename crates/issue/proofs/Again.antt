-- A directory that is accepted, read and written again, is the one that was there.
-- Assumes nothing.
use mathlib.Core.Path.{◌≡◌, refl, ◌∙◌, ap, ap₂}
use mathlib.Core.Bool.{Bool, true, false, ◌&&◌}
use mathlib.Core.List.{List, [], ◌∷◌, ◌++◌}
use Prim.Native.Nat.{ℕ, zero, suc, ◌+◌, ◌*◌, ◌-◌, ◌/◌, ◌%◌, ◌≤◌, ◌<◌}
use native.Mathlib.Omega.{arith}
use lib.Dec.{eqb, leb, ltb}
use lib.ListN.{length, drop, get_or, get_or-append}
use lib.Seq.{take_at, drop_at, set-get_or, get_or-append-add}
use borrow.Author.Tests.{eqb-true, leb-true, ltb-true, ltb-false}
use Rattle.layout.specs.Layout.{block_at, sectors_of}
use Rattle.memory.specs.Memory.{content_of, byte_of}
use Rattle.memory.proofs.Laws.{store_same}
use Rattle.directory.specs.Checksum.{checksum_of}
use Rattle.directory.specs.Directory.{announced_of, version_of, part_of, right_bytes, is_intact, info_of, numbers_of, entries_in, entries_of}
use Rattle.std.specs.Prelude.{Option, Some, None}
use Rattle.directory.specs.Lookup.{is_right}
use Rattle.directory.specs.declared.Version.{Version}
use Rattle.directory.specs.declared.Version.TheVariants.{One, Two}
use Rattle.directory.specs.declared.Part.{Part}
use Rattle.directory.specs.declared.Part.TheVariants.{First, Second}
use Rattle.directory.proofs.Places.{first_entries}
use Rattle.directory.proofs.Range.{Small, byte_small}
use Rattle.issue.specs.Write.{part_bytes, directory_bytes, directory_blocks, digit_of, announcing, announced, written_as}
use Rattle.issue.specs.Read.{infos_of, bytes_of}
use Rattle.issue.specs.Laws.{Bytes}
use Rattle.issue.proofs.Choice.{and_both, needed_of}
use Rattle.issue.proofs.Blocks.{filled_same}
use Rattle.issue.proofs.Lists.{bytes_append, bytes_length}
use Rattle.issue.proofs.Versions.{whole_of, whole_held, first_length, second_length}

-- bytes, as numbers and as bytes again
pub bytes_back : (n : ℕ) (xs : List ℕ) → length xs ≡ 2 * n → Bytes xs → bytes_of (numbers_of xs) ≡ xs
unfolding bytes_of numbers_of
bytes_back n [] e b = refl
bytes_back n (x ∷ []) e b = absurd (omega arith)
bytes_back zero (x ∷ y ∷ xs) e b = absurd (omega arith)
bytes_back (suc n) (x ∷ y ∷ xs) e b =
    let s : x < 256 = b 0 in
    let low : (x + 256 * y) % 256 ≡ x = omega arith in
    let high : (x + 256 * y) / 256 ≡ y = omega arith in
    let rest : bytes_of (numbers_of xs) ≡ xs = bytes_back n xs (omega arith) (λ i. b (suc (suc i))) in
    rw (low, high, rest)

-- a part that is right, made again of its info byte and its numbers
same_part : (part : List ℕ) (n : ℕ) → length part ≡ 2 * n + 2 → Bytes part → right_bytes part ≡ true
    → part_bytes (get_or part 1 0) (bytes_of (numbers_of (drop 2 part))) ≡ part
unfolding part_bytes right_bytes
same_part [] n e b r = absurd (omega arith)
same_part (c ∷ []) n e b r = absurd (omega arith)
same_part (c ∷ i ∷ rest) n e b r =
    let q : bytes_of (numbers_of rest) ≡ rest = bytes_back n rest (omega arith) (λ j. b (suc (suc j))) in
    rw q (ap (λ (x : ℕ). x ∷ i ∷ rest) (eqb-true (checksum_of (i ∷ rest)) c r))

bytes_both : (xs ys : List ℕ) → Bytes xs → Bytes ys → Bytes (xs ++ ys)
bytes_both xs ys p q i = go (ltb i (length xs)) refl
  where
    go : (t : Bool) → ltb i (length xs) ≡ t → get_or (xs ++ ys) i 0 < 256
    go true e = rw (get_or-append xs ys 0 i (ltb-true i (length xs) e)) (p i)
    go false e =
        let h : length xs ≤ i = ltb-false i (length xs) e in
        let n : i ≡ length xs + (i - length xs) = omega arith in
        rw (ap (λ (k : ℕ). get_or (xs ++ ys) k 0) n, get_or-append-add xs ys (i - length xs) 0) (q (i - length xs))

module _ (image : List ℕ) (byte : Bytes image) where
  content_bytes : (n : ℕ) → Bytes (content_of image (block_at n))
  unfolding Small byte_of
  content_bytes n i = byte_small image byte (block_at n) i

  part_bytes_lem : (p : Part) → Bytes (part_of image p)
  unfolding part_of
  part_bytes_lem First = bytes_both (content_of image (block_at 1)) (content_of image (block_at 2)) (content_bytes 1) (content_bytes 2)
  part_bytes_lem Second =
      bytes_both (content_of image (block_at 64)) (content_of image (block_at 65) ++ content_of image (block_at 66)) (content_bytes 64)
      (bytes_both (content_of image (block_at 65)) (content_of image (block_at 66)) (content_bytes 65) (content_bytes 66))

  -- all parts of a version that is accepted
  directory_same : (v : Version) → is_right image v ≡ true → directory_bytes (infos_of image v) (bytes_of (entries_of image v)) v ≡ whole_of image v
  unfolding directory_bytes is_right is_intact infos_of info_of entries_of entries_in
  directory_same One e =
      same_part (part_of image First) 15 (first_length image) (part_bytes_lem First) e
  directory_same Two e =
      let a = and_both (right_bytes (part_of image First)) (right_bytes (part_of image Second)) e in
      let p = numbers_of (drop 2 (part_of image First)) in
      let q = numbers_of (drop 2 (part_of image Second)) in
      let l : length (bytes_of p) ≡ 30 = bytes_length p ∙ ap (λ (n : ℕ). 2 * n) (first_entries image) in
      rw (bytes_append p q, take_at (bytes_of p) (bytes_of q) 30 l, drop_at (bytes_of p) (bytes_of q) 30 l)
      (ap₂ (λ (x y : List ℕ). x ++ y)
      (same_part (part_of image First) 15 (first_length image) (part_bytes_lem First) a.0)
      (same_part (part_of image Second) 23 (second_length image) (part_bytes_lem Second) a.1))

-- what an announcing byte that names a version has said
pub record Said (b sectors : ℕ) (v : Version) : Type 0 where
  pub high : 128 ≤ b
  pub digit : b % 4 ≡ digit_of v
  pub room : needed_of v ≤ sectors

pub said : (b sectors : ℕ) (v : Version) → announced_of b sectors ≡ Some v → Said b sectors v
unfolding announced_of
said b sectors v e = go (leb 128 b) refl (eqb (b % 4) 1 && leb 16 sectors) refl (eqb (b % 4) 2 && leb 40 sectors) refl
  where
    none : ◌≡◌ {A = Option Version} None (Some v) → Said b sectors v
    none q = let z : ◌≡◌ {A = ℕ} 0 1 = cc in absurd (omega arith)

    go : (t : Bool) → leb 128 b ≡ t → (x : Bool) → (eqb (b % 4) 1 && leb 16 sectors) ≡ x → (y : Bool) → (eqb (b % 4) 2 && leb 40 sectors) ≡ y → Said b sectors v
    go false f x g y k = none (rw f at e)
    go true f true g y k =
        let q : One ≡ v = let k : Some One ≡ Some v = rw (f, g) at e in cc in
        let a = and_both (eqb (b % 4) 1) (leb 16 sectors) g in
        rw (← q) (record { high = leb-true 128 b f; digit = eqb-true (b % 4) 1 a.0; room = leb-true 16 sectors a.1 })
    go true f false g true k =
        let q : Two ≡ v = let z : Some Two ≡ Some v = rw (f, g, k) at e in cc in
        let a = and_both (eqb (b % 4) 2) (leb 40 sectors) k in
        rw (← q) (record { high = leb-true 128 b f; digit = eqb-true (b % 4) 2 a.0; room = leb-true 40 sectors a.1 })
    go true f false g false k = none (rw (f, g, k) at e)

-- a byte that announces a version announces it again as it is
byte_again : (b n : ℕ) → b < 256 → 128 ≤ b → b % 4 ≡ n → announcing b n ≡ b
unfolding announcing
byte_again b n s h e =
    let q : b % 128 ≡ b - 128 = omega arith in
    rw q (omega arith)

module _ (image : List ℕ) (byte : Bytes image) (v : Version) (e : version_of image ≡ Some v) where
  pub announces_version : Said (byte_of image (block_at 3) 9) (sectors_of (length image)) v
  unfolding version_of
  announces_version = said (byte_of image (block_at 3) 9) (sectors_of (length image)) v e

  announced_same : announced image (digit_of v) ≡ image
  unfolding announced byte_of Small
  announced_same =
      let a = announces_version in
      let c = content_of image (block_at 3) in
      let b : announcing (get_or c 9 0) (digit_of v) ≡ get_or c 9 0 =
      byte_again (get_or c 9 0) (digit_of v) (byte_small image byte (block_at 3) 9) a.high a.digit in
      rw (b, set-get_or c 9 0) (store_same image (block_at 3))

  pub written_same : is_right image v ≡ true → written_as image (infos_of image v) (bytes_of (entries_of image v)) v ≡ image
  unfolding written_as
  written_same r =
      rw (directory_same image byte v r, ← (whole_held image v), filled_same image (directory_blocks v)) announced_same
