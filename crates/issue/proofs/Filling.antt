-- A part filled byte by byte, and put into its blocks.
-- Assumes nothing.
use mathlib.Core.Path.{◌≡◌, refl, sym, ◌∙◌, ap, ap₂}
use mathlib.Core.List.{List, [], ◌∷◌, ◌++◌, append-nil, append_assoc}
use Prim.Native.Nat.{ℕ, suc, ◌+◌, ◌*◌, ◌-◌, ◌≤◌, ◌<◌}
use native.Mathlib.Numerals.{add-one}
use native.Mathlib.Omega.{arith}
use Rattle.layout.specs.Layout.{block_at}
use Rattle.memory.specs.Memory.{sixteen_of, store_of}
use lib.ListN.{length, take, drop, set, get_or, length-drop, length-set, drop_of_length-le}
use lib.Seq.{take_all, take-suc, drop-cons, drop-drop, drop-set-add, drop-set-lt, set_at, length-take-le}
use Rattle.directory.specs.Checksum.{checksum_of}
use Rattle.directory.specs.declared.Version.TheVariants.{Two}
use Rattle.issue.specs.Write.{part_bytes, blocks_on, filled, directory_bytes, directory_blocks}
use Rattle.issue.proofs.Blocks.{filled_append}

-- after i numbers' bytes: behind the place of the checksum stand the info byte and those bytes
pub record Begun (info : ℕ) (numbers part : List ℕ) (i : ℕ) : Type 0 where
  pub size : length part ≡ length numbers + 2
  pub upto : i ≤ length numbers
  pub so_far : drop 1 part ≡ info ∷ (take i numbers ++ drop (i + 2) part)

pub start : (info : ℕ) (numbers part : List ℕ) → length part ≡ length numbers + 2 → Begun info numbers (set part 1 info) 0
start info numbers [] l = absurd (omega arith)
start info numbers (a ∷ []) l = absurd (omega arith)
start info numbers (a ∷ b ∷ part) l = record { size = l; upto = omega arith; so_far = refl }

module _ (info : ℕ) (numbers part : List ℕ) (i : ℕ) (f : Begun info numbers part i) where
  pub place : i < length numbers → i + 2 < length part
  place h = omega (arith, f.size)

  turned : i < length numbers → (v : ℕ) → v ≡ get_or numbers i 0 → drop 1 (set part (i + 2) v) ≡ info ∷ (take (i + 1) numbers ++ drop (i + 1 + 2) (set part (i + 2) v))
  turned h v e =
      let n : i + 2 ≡ 1 + suc i = omega arith in
      let m : i + 1 + 2 ≡ suc (i + 2) = omega arith in
      let k : i + 2 < length part = place h in
      let u : i ≤ length numbers = f.upto in
      let after : drop (suc (i + 2)) (set part (i + 2) v) ≡ drop (suc (i + 2)) part = drop-set-lt (suc (i + 2)) part (i + 2) v (omega arith) in
      let whole : drop 1 part ≡ info ∷ (take i numbers ++ (get_or part (i + 2) 0 ∷ drop (suc (i + 2)) part)) =
      f.so_far ∙ ap (λ (l : List ℕ). info ∷ (take i numbers ++ l)) (drop-cons part (i + 2) 0 k) in
      let put : drop 1 (set part (i + 2) v) ≡ info ∷ (take i numbers ++ (v ∷ drop (suc (i + 2)) part)) =
      ap (λ (x : ℕ). drop 1 (set part x v)) n
      ∙ drop-set-add 1 part (suc i) v
      ∙ ap (λ (l : List ℕ). set l (suc i) v) whole
      ∙ ap (λ (l : List ℕ). info ∷ l) (set_at (take i numbers) (get_or part (i + 2) 0) (drop (suc (i + 2)) part) v i (length-take-le i numbers u)) in
      put
      ∙ rw (m, after, add-one i, take-suc numbers i 0 h, ← e)
      (ap (λ (l : List ℕ). info ∷ l) (sym (append_assoc (take i numbers) (v ∷ []) (drop (suc (i + 2)) part))))

  pub turn : i < length numbers → (v : ℕ) → v ≡ get_or numbers i 0 → Begun info numbers (set part (i + 2) v) (i + 1)
  turn h v e = record { size = simp length-set f.size; upto = omega arith; so_far = turned h v e }

  pub rest : length numbers ≤ i → drop 1 part ≡ info ∷ numbers
  rest h =
      let l : length part ≤ i + 2 = omega (arith, f.size) in
      f.so_far ∙ rw (drop_of_length-le part l, take_all i numbers h) (ap (λ (x : List ℕ). info ∷ x) (append-nil numbers))

set_first : (part : List ℕ) (v : ℕ) → 0 < length part → set part 0 v ≡ v ∷ drop 1 part
set_first [] v h = absurd (omega arith)
set_first (x ∷ xs) v h = refl

-- a part of a slice that goes to its end
pub to_end : (k : ℕ) (l : List ℕ) → take (length l - k) (drop k l) ≡ drop k l
to_end k l = take_all (length l - k) (drop k l) (simp length-drop (omega arith))

pub done : (info : ℕ) (numbers part : List ℕ) (i c : ℕ) → Begun info numbers part i → length numbers ≤ i → c ≡ checksum_of (take (length part - 1) (drop 1 part)) → set part 0 c ≡ part_bytes info numbers
unfolding part_bytes
done info numbers part i c f h e =
    let r : drop 1 part ≡ info ∷ numbers = rest info numbers part i f h in
    let q : c ≡ checksum_of (info ∷ numbers) = e ∙ ap checksum_of (to_end 1 part ∙ r) in
    set_first part c (omega (arith, f.size)) ∙ ap₂ (λ (x : ℕ) (l : List ℕ). x ∷ l) q r

pub part_length : (info : ℕ) (numbers : List ℕ) → length (part_bytes info numbers) ≡ length numbers + 2
unfolding part_bytes
part_length info numbers = omega arith

-- one block more of a part, and no block left
module _ (image bytes : List ℕ) (first k end : ℕ) where
  pub next_block : (next block : List ℕ) → k < end → block ≡ sixteen_of (take (length bytes - 16 * k) (drop (16 * k) bytes)) → next ≡ store_of image (block_at (first + k)) block
      → filled next (blocks_on (first + (k + 1)) (end - (k + 1))) (drop (16 * (k + 1)) bytes) ≡ filled image (blocks_on (first + k) (end - k)) (drop (16 * k) bytes)
  unfolding filled
  next_block next block h e f =
      let n : end - k ≡ suc (end - (k + 1)) = omega arith in
      let a : first + (k + 1) ≡ first + k + 1 = omega arith in
      let b : 16 * (k + 1) ≡ 16 * k + 16 = omega arith in
      rw (n, a, b, ← (drop-drop 16 (16 * k) bytes), f, e, to_end (16 * k) bytes)

  pub no_block : end ≤ k → filled image (blocks_on (first + k) (end - k)) (drop (16 * k) bytes) ≡ image
  unfolding filled
  no_block h = let n : end - k ≡ 0 = omega arith in rw n

-- the parts of version 2, one after the other
pub two_filled : (image infos numbers : List ℕ) → length numbers ≡ 76
    → filled (filled image (1 ∷ 2 ∷ []) (part_bytes (get_or infos 0 0) (take 30 numbers))) (64 ∷ 65 ∷ 66 ∷ []) (part_bytes (get_or infos 1 0) (drop 30 numbers))
    ≡ filled image (directory_blocks Two) (directory_bytes infos numbers Two)
unfolding directory_blocks directory_bytes
two_filled image infos numbers l =
    let n : length (take 30 numbers) ≡ 30 = length-take-le 30 numbers (omega arith) in
    let m : length (part_bytes (get_or infos 0 0) (take 30 numbers)) ≡ 32 = part_length (get_or infos 0 0) (take 30 numbers) ∙ rw n in
    sym
    (filled_append image (1 ∷ 2 ∷ []) (64 ∷ 65 ∷ 66 ∷ [])
    (part_bytes (get_or infos 0 0) (take 30 numbers))
    (part_bytes (get_or infos 1 0) (drop 30 numbers))
    m)
