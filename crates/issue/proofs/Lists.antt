-- The list, filled number by number.
-- Assumes nothing.
use mathlib.Core.Path.{◌≡◌, refl, sym, ◌∙◌, ap}
use mathlib.Core.List.{List, [], ◌∷◌, ◌++◌, append_assoc}
use Prim.Native.Nat.{ℕ, suc, ◌+◌, ◌*◌, ◌-◌, ◌/◌, ◌%◌, ◌≤◌, ◌<◌}
use native.Mathlib.Numerals.{add-one}
use borrow.Rule.Slice.PartMut.{put_mid, Post-is}
use Rattle.std.specs.Int.{w16, to_le_bytes}
use native.Mathlib.Omega.{arith}
use lib.ListN.{length, take, drop, get_or, replicate, length-append, length-replicate}
use lib.Seq.{take_all, take_at, drop_at, take-suc, drop-drop, length-take-le}
use Rattle.directory.specs.Directory.{entries_in, entries_of, entry_at}
use Rattle.directory.specs.Lookup.{entry_count}
use Rattle.directory.specs.declared.Version.{Version}
use Rattle.directory.specs.declared.Version.TheVariants.{One, Two}
use Rattle.directory.specs.declared.Part.TheVariants.{First, Second}
use Rattle.directory.proofs.Places.{first_entries, second_entries}
use Rattle.directory.proofs.Every.{counted, entry_read}
use Rattle.issue.specs.Read.{bytes_of, list_of}

pub bytes_append : (xs ys : List ℕ) → bytes_of (xs ++ ys) ≡ bytes_of xs ++ bytes_of ys
unfolding bytes_of
bytes_append [] ys = refl
bytes_append (x ∷ xs) ys = ap (λ (l : List ℕ). (x % 256) ∷ (x / 256) ∷ l) (bytes_append xs ys)

pub bytes_length : (xs : List ℕ) → length (bytes_of xs) ≡ 2 * length xs
unfolding bytes_of
bytes_length [] = refl
bytes_length (x ∷ xs) = omega (arith, bytes_length xs)

-- a version's entries are the first entries of version 2
pub entries_first : (image : List ℕ) (v : Version) → take (entry_count v) (entries_of image Two) ≡ entries_of image v
unfolding entries_of
entries_first image One = take_at (entries_in image First) (entries_in image Second) 15 (first_entries image)
entries_first image Two = take_all 38 (entries_in image First ++ entries_in image Second) (simp (length-append, first_entries image, second_entries image) (omega arith))

pub few : (v : Version) → entry_count v ≤ 38
few One = omega arith
few Two = omega arith

-- after i numbers: their bytes, and zeros behind them
pub record Listed (image : List ℕ) (count : ℕ) (numbers : List ℕ) (i : ℕ) : Type 0 where
  pub short : count ≤ 38
  pub upto : i ≤ count
  pub so_far : numbers ≡ bytes_of (take i (entries_of image Two)) ++ replicate (76 - 2 * i) 0

pub start : (image numbers : List ℕ) (v : Version) (count : ℕ) → count ≡ entry_count v → numbers ≡ replicate 76 0 → Listed image count numbers 0
unfolding bytes_of
start image numbers v count c e = record { short = omega (arith, few v); upto = omega arith; so_far = e }

-- two bytes put in the place of two
two_put : (l put : List ℕ) (at : ℕ) → put_mid at (at + 2 - at) l put ≡ (take at l ++ put) ++ drop (at + 2) l
two_put l put at = rw (Post-is at (at + 2) l (omega arith)) (sym (append_assoc (take at l) put (drop (at + 2) l)))

-- the two bytes of a number
two_bytes : (n : ℕ) → n < 65536 → to_le_bytes w16 n ≡ (n % 256) ∷ (n / 256) ∷ []
two_bytes n h = let q : n / 256 % 256 ≡ n / 256 = omega arith in rw q

module _ (image : List ℕ) (count : ℕ) (numbers : List ℕ) (i : ℕ) (f : Listed image count numbers i) where
  abbrev es : List ℕ
  es = entries_of image Two

  front : List ℕ
  front = bytes_of (take i es)

  size : length es ≡ 38
  size = counted image Two

  front_length : length front ≡ 2 * i
  unfolding front
  front_length =
      let u : i ≤ length es = omega (arith, f.short, f.upto, size) in
      bytes_length (take i es) ∙ ap (λ (n : ℕ). 2 * n) (length-take-le i es u)

  pub whole_length : length numbers ≡ 76
  unfolding front
  whole_length =
      ap length f.so_far
      ∙ simp (length-append, length-replicate, front_length) (omega (arith, f.short, f.upto))

  module _ (h : i < count) (n : ℕ) (small : n < 65536) (e : n ≡ entry_at image (i + 1)) where
    entry : n ≡ get_or es i 0
    entry =
        let s : i + 1 - 1 ≡ i = omega arith in
        e ∙ entry_read image Two (i + 1) (omega arith) (omega (arith, f.short, size)) ∙ ap (λ (k : ℕ). get_or es k 0) s

    more : bytes_of (take (i + 1) es) ≡ front ++ ((n % 256) ∷ (n / 256) ∷ [])
    unfolding front bytes_of
    more =
        let u : i < length es = omega (arith, f.short, size) in
        rw (add-one i, take-suc es i 0 u, ← entry) (bytes_append (take i es) (n ∷ []))

    pub turn : (put : List ℕ) → put ≡ to_le_bytes w16 n → Listed image count (put_mid (2 * i) (2 * i + 2 - 2 * i) numbers put) (i + 1)
    unfolding front
    turn put p =
        let z : 76 - 2 * i ≡ suc (suc (76 - 2 * (i + 1))) = omega (arith, f.short) in
        let zeros : List ℕ = replicate (76 - 2 * (i + 1)) 0 in
        let k : numbers ≡ front ++ (0 ∷ 0 ∷ zeros) = f.so_far ∙ rw z in
        let head : take (2 * i) numbers ≡ front = ap (take (2 * i)) k ∙ take_at front (0 ∷ 0 ∷ zeros) (2 * i) front_length in
        let tail : drop (2 * i + 2) numbers ≡ zeros =
        sym (drop-drop 2 (2 * i) numbers) ∙ ap (λ (l : List ℕ). drop 2 (drop (2 * i) l)) k ∙ ap (drop 2) (drop_at front (0 ∷ 0 ∷ zeros) (2 * i) front_length) in
        record {
          short = f.short;
          upto = omega arith;
          so_far = two_put numbers put (2 * i) ∙ rw (p, two_bytes n small, head, tail, more);
        }

  pub finished : (v : Version) → count ≡ entry_count v → count ≤ i → numbers ≡ list_of (entries_of image v)
  unfolding list_of front
  finished v c h =
      let n : i ≡ entry_count v = omega (arith, f.upto) in
      f.so_far ∙ rw (counted image v, n, entries_first image v)
