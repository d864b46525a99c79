-- Where the bytes of a part stand: its info byte and its entries, block by block.
-- Assumes nothing.
use mathlib.Core.Path.{◌≡◌, refl, sym, ◌∙◌}
use mathlib.Core.Bool.{Bool, true, false}
use mathlib.Core.List.{List, ◌++◌}
use Prim.Native.Nat.{ℕ, ◌+◌, ◌*◌, ◌-◌, ◌/◌, ◌%◌, ◌≤◌, ◌<◌}
use native.Mathlib.Omega.{arith}
use lib.Dec.{ltb}
use lib.ListN.{length, drop, get_or, length-append, length-drop, get_or-append, get_or-eq_default}
use lib.Seq.{get_or-drop, get_or-append-add}
use borrow.Author.Tests.{ltb-true, ltb-false, eq-eqb, ne_eqb}
use Rattle.memory.specs.Memory.{content_of, byte_of}
use Rattle.memory.proofs.Laws.{content_length}
use Rattle.directory.specs.Directory.{part_of, info_of, numbers_of, entries_in, entries_of, entry_at}
use Rattle.std.specs.Prelude.{Some, None}
use Rattle.directory.specs.Code.{number_at}
use Rattle.directory.specs.Lookup.{place_from}
use Rattle.directory.specs.declared.Version.{Version}
use Rattle.directory.specs.declared.Version.TheVariants.{One, Two}
use Rattle.directory.specs.declared.Part.TheVariants.{First, Second}
use Rattle.directory.proofs.Numbers.{numbers_length, number_at_lem, stays, goes_on}
use Rattle.layout.specs.Layout.{block_at}

-- two bytes as a number
abbrev pair_at : List ℕ → ℕ → ℕ
pair_at xs i = get_or xs i 0 + 256 * get_or xs (i + 1) 0

module _ (a b : List ℕ) (n : length a ≡ 16) (i : ℕ) where
  pair_low : i + 1 < 16 → pair_at (a ++ b) i ≡ pair_at a i
  pair_low h = rw (get_or-append a b 0 i (omega arith), get_or-append a b 0 (i + 1) (omega arith))

  pair_high : pair_at (a ++ b) (16 + i) ≡ pair_at b i
  pair_high =
      let p : 16 + i ≡ length a + i = omega arith in
      let q : 16 + i + 1 ≡ length a + (i + 1) = omega arith in
      rw (q, p, get_or-append-add a b i 0, get_or-append-add a b (i + 1) 0)

-- entry k of a part, counted from 1, stands at its byte 2 k
entry_in : (part : List ℕ) (n k : ℕ) → length part ≡ 2 * n + 2 → 0 < k → get_or (numbers_of (drop 2 part)) (k - 1) 0 ≡ pair_at part (2 * k)
entry_in part n k l h =
    let p : 2 + 2 * (k - 1) ≡ 2 * k = omega arith in
    let q : 2 + (2 * (k - 1) + 1) ≡ 2 * k + 1 = omega arith in
    number_at_lem (k - 1) n (drop 2 part) (simp length-drop (omega arith))
    ∙ rw (get_or-drop 2 part (2 * (k - 1)) 0, get_or-drop 2 part (2 * (k - 1) + 1) 0, p, q)

module _ (image : List ℕ) where
  abbrev held : ℕ → List ℕ
  held n = content_of image (block_at n)

  sixteen : (n : ℕ) → length (held n) ≡ 16
  sixteen n = content_length image (block_at n)

  pub info_first : byte_of image (block_at 1) 1 ≡ info_of image First
  unfolding byte_of info_of part_of
  info_first = sym (get_or-append (held 1) (held 2) 0 1 (omega (arith, sixteen 1)))

  pub info_second : byte_of image (block_at 64) 1 ≡ info_of image Second
  unfolding byte_of info_of part_of
  info_second = sym (get_or-append (held 64) (held 65 ++ held 66) 0 1 (omega (arith, sixteen 64)))

  first_length : length (part_of image First) ≡ 32
  unfolding part_of
  first_length = simp (length-append, sixteen)

  second_length : length (part_of image Second) ≡ 48
  unfolding part_of
  second_length = simp (length-append, sixteen)

  pub first_entries : length (entries_in image First) ≡ 15
  unfolding entries_in
  first_entries = numbers_length 15 (drop 2 (part_of image First)) (simp (length-drop, first_length))

  pub second_entries : length (entries_in image Second) ≡ 23
  unfolding entries_in
  second_entries = numbers_length 23 (drop 2 (part_of image Second)) (simp (length-drop, second_length))

  -- the place of a number, in the first part or past it
  pub in_version : (v : Version) (w r : ℕ) → place_from 1 w (entries_in image First) ≡ Some r → place_from 1 w (entries_of image v) ≡ Some r
  unfolding entries_of
  in_version One w r e = e
  in_version Two w r e = stays (entries_in image First) (entries_in image Second) 1 w r e

  pub past_first_part : (w : ℕ) → place_from 1 w (entries_in image First) ≡ None → place_from 16 w (entries_in image Second) ≡ place_from 1 w (entries_of image Two)
  unfolding entries_of
  past_first_part w z =
      let l : 1 + length (entries_in image First) ≡ 16 = omega (arith, first_entries) in
      rw l at (goes_on (entries_in image First) (entries_in image Second) 1 w z)

  entry_of_first : (k : ℕ) → 0 < k → get_or (entries_in image First) (k - 1) 0 ≡ pair_at (part_of image First) (2 * k)
  unfolding entries_in
  entry_of_first k h = entry_in (part_of image First) 15 k first_length h

  entry_of_second : (k : ℕ) → 0 < k → get_or (entries_in image Second) (k - 1) 0 ≡ pair_at (part_of image Second) (2 * k)
  unfolding entries_in
  entry_of_second k h = entry_in (part_of image Second) 23 k second_length h

  -- the two bytes that the code reads
  read : (first k q i : ℕ) → k / 8 ≡ q → 2 * (k % 8) ≡ i → number_at image first k ≡ pair_at (held (first + q)) i
  unfolding byte_of
  read first k q i e f = rw (e, f)

  in_first : (k : ℕ) → k < 16 → number_at image 1 k ≡ pair_at (part_of image First) (2 * k)
  unfolding part_of
  in_first k h = go (ltb k 8) refl
    where
      go : (t : Bool) → ltb k 8 ≡ t → number_at image 1 k ≡ pair_at (held 1 ++ held 2) (2 * k)
      go true e =
          let l : k < 8 = ltb-true k 8 e in
          read 1 k 0 (2 * k) (omega arith) (omega arith) ∙ sym (pair_low (held 1) (held 2) (sixteen 1) (2 * k) (omega arith))
      go false e =
          let l : 8 ≤ k = ltb-false k 8 e in
          let q : k / 8 ≡ 1 = omega arith in
          let r : k % 8 ≡ k - 8 = omega (arith, q) in
          let m : 2 * k ≡ 16 + 2 * (k - 8) = omega arith in
          rw m (read 1 k 1 (2 * (k - 8)) q (omega (arith, r)) ∙ sym (pair_high (held 1) (held 2) (sixteen 1) (2 * (k - 8))))

  in_second : (k : ℕ) → k < 24 → number_at image 64 k ≡ pair_at (part_of image Second) (2 * k)
  unfolding part_of
  in_second k h = go (ltb k 8) refl (ltb k 16) refl
    where
      go : (t : Bool) → ltb k 8 ≡ t → (u : Bool) → ltb k 16 ≡ u → number_at image 64 k ≡ pair_at (held 64 ++ (held 65 ++ held 66)) (2 * k)
      go true e u f =
          let l : k < 8 = ltb-true k 8 e in
          read 64 k 0 (2 * k) (omega arith) (omega arith) ∙ sym (pair_low (held 64) (held 65 ++ held 66) (sixteen 64) (2 * k) (omega arith))
      go false e true f =
          let l : 8 ≤ k = ltb-false k 8 e in
          let n : k < 16 = ltb-true k 16 f in
          let q : k / 8 ≡ 1 = omega arith in
          let r : k % 8 ≡ k - 8 = omega (arith, q) in
          let m : 2 * k ≡ 16 + 2 * (k - 8) = omega arith in
          rw m
          (read 64 k 1 (2 * (k - 8)) q (omega (arith, r))
          ∙ sym (pair_high (held 64) (held 65 ++ held 66) (sixteen 64) (2 * (k - 8)) ∙ pair_low (held 65) (held 66) (sixteen 65) (2 * (k - 8)) (omega arith)))
      go false e false f =
          let l : 16 ≤ k = ltb-false k 16 f in
          let q : k / 8 ≡ 2 = omega arith in
          let r : k % 8 ≡ k - 16 = omega (arith, q) in
          let m : 2 * k ≡ 16 + (16 + 2 * (k - 16)) = omega arith in
          rw m
          (read 64 k 2 (2 * (k - 16)) q (omega (arith, r))
          ∙ sym (pair_high (held 64) (held 65 ++ held 66) (sixteen 64) (16 + 2 * (k - 16)) ∙ pair_high (held 65) (held 66) (sixteen 65) (2 * (k - 16))))

  -- the ways out of `entry_at`
  module _ (place : ℕ) where
    pub no_place : place ≡ 0 → 0 ≡ entry_at image place
    unfolding entry_at
    no_place e = rw (eq-eqb place 0 e)

    pub first_place : (place ≡ 0 → ⊥) → place ≤ 15 → number_at image 1 place ≡ entry_at image place
    unfolding entry_at entries_of
    first_place ne h =
        in_first place (omega arith)
        ∙ sym
        (rw (ne_eqb place 0 ne)
        (get_or-append (entries_in image First) (entries_in image Second) 0 (place - 1) (omega (arith, first_entries))
        ∙ entry_of_first place (omega arith)))

    pub second_place : 15 < place → place ≤ 38 → number_at image 64 (place - 15) ≡ entry_at image place
    unfolding entry_at entries_of
    second_place l h =
        let e : place - 1 ≡ length (entries_in image First) + (place - 15 - 1) = omega (arith, first_entries) in
        in_second (place - 15) (omega arith)
        ∙ sym
        (rw (ne_eqb place 0 (λ z. omega arith), e)
        (get_or-append-add (entries_in image First) (entries_in image Second) (place - 15 - 1) 0 ∙ entry_of_second (place - 15) (omega arith)))

    pub past_places : 38 < place → 0 ≡ entry_at image place
    unfolding entry_at entries_of
    past_places l =
        let n : length (entries_in image First ++ entries_in image Second) ≤ place - 1 =
        simp (length-append, first_entries, second_entries) (omega arith) in
        sym (rw (ne_eqb place 0 (λ z. omega arith)) (get_or-eq_default (entries_in image First ++ entries_in image Second) 0 n))
