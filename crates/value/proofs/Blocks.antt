-- Value blocks there and back.
-- Assumes nothing.
use Rattle.std.proofs.Common.{None, Ok, Option, Some}
use mathlib.Core.Path.{◌≡◌, refl, sym, ◌∙◌, ap, ap₂}
use mathlib.Core.Bool.{Bool, true, false, ◌&&◌, cond}
use mathlib.Core.List.{List, [], ◌∷◌}
use Prim.Native.Nat.{ℕ, suc, ◌+◌, ◌*◌, ◌-◌, ◌/◌, ◌%◌, ◌<◌}
use native.Mathlib.Omega.{arith}
use lib.Dec.{eqb, ltb}
use lib.IntN.{ℤ, pos, negsuc}
use lib.ListN.{length}
use lib.Pow.{shr-shr}
use mir.Val.{to_z, sel}
use mir.ValLaws.{of_z-to_z}
use mir.Syntax.{w32}
use borrow.Author.Tests.{eq-eqb, eqb-true}
use Rattle.value.specs.Whole.{signed, bits}
use Rattle.value.specs.Block.{encode_of, decode_of, agreeing, bits_in, address_in, same}
use Rattle.value.specs.Sum.{total_of}
use Rattle.value.proofs.Sums.{total_back}

-- 32 bits are read as the language reads a signed number
pub signed_kit : (v : ℕ) → signed v ≡ to_z w32 v
signed_kit v = go (ltb v 2147483648)
  where
    go : (t : Bool) → cond t (pos v) (negsuc (4294967296 - suc v)) ≡ sel t (pos v) (negsuc (4294967296 - suc v))
    go true = refl
    go false = refl

-- 32 bits, read as a whole number, are its bits
pub bits_signed : (v : ℕ) → v < 4294967296 → bits (signed v) ≡ v
bits_signed v h = ap bits (signed_kit v) ∙ of_z-to_z w32 v (record { fits = h })

pub same_refl : (xs : List ℕ) → same xs xs ≡ true
same_refl [] = refl
same_refl (x ∷ xs) = rw (eq-eqb x x refl) (same_refl xs)

pub and_left : (a b : Bool) → (a && b) ≡ true → a ≡ true
and_left true b e = refl
and_left false b e = e

and_right : (a b : Bool) → (a && b) ≡ true → b ≡ true
and_right true b e = e
and_right false b e = cc

pub same_eq : (xs ys : List ℕ) → same xs ys ≡ true → xs ≡ ys
same_eq [] [] e = refl
same_eq [] (y ∷ ys) e = cc
same_eq (x ∷ xs) [] e = cc
same_eq (x ∷ xs) (y ∷ ys) e =
    ap₂ ◌∷◌ (eqb-true x y (and_left (eqb x y) (same xs ys) e)) (same_eq xs ys (and_right (eqb x y) (same xs ys) e))

pub encode_length : (z : ℤ) (a : ℕ) → length (encode_of z a) ≡ 16
unfolding encode_of
encode_length z a = refl

-- four bytes of 32 bits, put together again
pub four_back : (v : ℕ) → v < 4294967296 → v % 256 + 256 * (v / 256 % 256) + 65536 * (v / 65536 % 256) + 16777216 * (v / 16777216 % 256) ≡ v
four_back v h =
    let e₁ : v ≡ v % 256 + 256 * (v / 256) = omega arith in
    let e₂ : v / 256 ≡ v / 256 % 256 + 256 * (v / 65536) = rw (← (shr-shr v 8 8)) (omega arith) in
    let e₃ : v / 65536 ≡ v / 65536 % 256 + 256 * (v / 16777216) = rw (← (shr-shr v 16 8)) (omega arith) in
    let e₄ : v / 16777216 % 256 ≡ v / 16777216 = omega arith in
    omega arith

bits_back : (v a : ℕ) → v < 4294967296 → bits_in (encode_of (signed v) a) ≡ v
unfolding encode_of
bits_back v a h = simp (bits_signed v h) (four_back v h)

address_back : (z : ℤ) (a : ℕ) → address_in (encode_of z a) ≡ a
unfolding encode_of
address_back z a = refl

-- what is encoded decodes to itself
pub decode_encode : (v a : ℕ) → v < 4294967296 → decode_of (encode_of (signed v) a) ≡ Some (v, a)
unfolding decode_of agreeing
decode_encode v a h = rw (bits_back v a h, address_back (signed v) a, same_refl (encode_of (signed v) a))

-- and so for every whole number that is a value
pub decode_encode_whole : (z : ℤ) (r a : ℕ) → total_of z ≡ Ok r → (decode_of (encode_of z a) ≡ Some (r, a)) × (signed r ≡ z)
decode_encode_whole z r a e =
    let back = total_back z r e in
    (ap (λ (x : ℤ). decode_of (encode_of x a)) (sym back.0) ∙ decode_encode r a back.1, back.0)

-- a value and its address byte, each by itself
pub value_and_address : {x y v a : ℕ} → ◌≡◌ {A = Option (ℕ × ℕ)} (Some (x, y)) (Some (v, a)) → (x ≡ v) × (y ≡ a)
value_and_address {x} {y} {v} {a} e = let p : ◌≡◌ {A = ℕ × ℕ} (x, y) (v, a) = cc in (ap (λ (w : ℕ × ℕ). w.0) p, ap (λ (w : ℕ × ℕ). w.1) p)

decoded : (block : List ℕ) (v a : ℕ) → decode_of block ≡ Some (v, a) → (encode_of (signed v) a ≡ block) × (bits_in block ≡ v)
unfolding decode_of agreeing
decoded block v a e = go (agreeing block) refl
  where
    go : (t : Bool) → agreeing block ≡ t → (encode_of (signed v) a ≡ block) × (bits_in block ≡ v)
    go true q =
        let p : ◌≡◌ {A = Option (ℕ × ℕ)} (Some (bits_in block, address_in block)) (Some (v, a)) = rw q at e in
        let w = value_and_address p in
        (sym (same_eq block (encode_of (signed (bits_in block)) (address_in block)) q ∙ rw (w.0, w.1)), w.0)
    go false q =
        let p : ◌≡◌ {A = Option (ℕ × ℕ)} None (Some (v, a)) = rw q at e in
        (cc, cc)

-- what decodes is encoded again byte for byte
pub encode_decode : (block : List ℕ) (v a : ℕ) → decode_of block ≡ Some (v, a) → encode_of (signed v) a ≡ block
encode_decode block v a e = (decoded block v a e).0

bits_small : (z : ℤ) (a : ℕ) → bits_in (encode_of z a) < 4294967296
unfolding encode_of
bits_small z a = omega arith

-- the value of a block that decodes has 32 bits
pub decode_small : (block : List ℕ) (v a : ℕ) → decode_of block ≡ Some (v, a) → v < 4294967296
decode_small block v a e = let d = decoded block v a e in rw (ap bits_in d.0 ∙ d.1) at (bits_small (signed v) a)

-- what an answer of `decode` says, in the words of the code that asked
module _ (block : List ℕ) (r : Option (ℕ × ℕ)) (asked : r ≡ decode_of block) where
  pub read_none : r ≡ None → agreeing block ≡ false
  unfolding decode_of
  read_none e = go (agreeing block) refl
    where
      go : (t : Bool) → agreeing block ≡ t → agreeing block ≡ false
      go false q = q
      go true q = let p : ◌≡◌ {A = Option (ℕ × ℕ)} None (Some (bits_in block, address_in block)) = sym e ∙ rw q at asked in cc

  pub read_value : (v a : ℕ) → r ≡ Some (v, a) → (agreeing block ≡ true) × (v ≡ bits_in block) × (a ≡ address_in block)
  unfolding decode_of
  read_value v a e = go (agreeing block) refl
    where
      go : (t : Bool) → agreeing block ≡ t → (agreeing block ≡ true) × (v ≡ bits_in block) × (a ≡ address_in block)
      go true q = let p : ◌≡◌ {A = Option (ℕ × ℕ)} (Some (v, a)) (Some (bits_in block, address_in block)) = sym e ∙ rw q at asked in let w = value_and_address p in (q, w.0, w.1)
      go false q = let p : ◌≡◌ {A = Option (ℕ × ℕ)} (Some (v, a)) None = sym e ∙ rw q at asked in (cc, cc, cc)
