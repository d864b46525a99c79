-- Access bytes there and back, and when a sector is blocked.
-- Assumes nothing.
use Rattle.std.proofs.Common.{None, Option, Some}
use mathlib.Core.Path.{◌≡◌, refl, ap, sym, ◌∙◌}
use mathlib.Core.Bool.{Bool, true, false, ◌&&◌}
use Prim.Native.Nat.{ℕ, ◌+◌, ◌*◌, ◌/◌, ◌%◌, ◌<◌}
use native.Mathlib.Omega.{arith}
use lib.Pow.{shr-shr}
use borrow.Author.Tests.{eqb-true, eq-eqb}
use Rattle.layout.specs.declared.Group.{Group}
use Rattle.layout.specs.declared.Group.TheVariants.{First, Second, Third, Trailer}
use Rattle.access.specs.declared.bits.AccessBytes.{AccessBytes}
use Rattle.access.specs.Bits.{C1, C2, C3, inverted_c1, inverted_c2, inverted_c3, agree, well_formed, bit_of, group_bits, bits_of, nibble_of, encode_bits}

-- every nibble makes fifteen with its inverse
abbrev pub Agree : AccessBytes → Type 0
Agree x = (C1 x + inverted_c1 x ≡ 15) × (C2 x + inverted_c2 x ≡ 15) × (C3 x + inverted_c3 x ≡ 15)

well_formed_lem : (x : AccessBytes) → Agree x → well_formed x ≡ true
unfolding well_formed
well_formed_lem x h = rw (eq-eqb _ 15 h.0, eq-eqb _ 15 h.1, eq-eqb _ 15 h.2)

three : (a b c : Bool) → (a && b && c) ≡ true → (a ≡ true) × (b ≡ true) × (c ≡ true)
three true true true e = (refl, refl, refl)
three true true false e = (refl, refl, e)
three true false c e = (refl, e, cc)
three false b c e = (e, cc, cc)

agrees : (x : AccessBytes) → well_formed x ≡ true → Agree x
unfolding well_formed
agrees x e =
    let t = three (agree (C1 x) (inverted_c1 x)) (agree (C2 x) (inverted_c2 x)) (agree (C3 x) (inverted_c3 x)) e in
    (eqb-true _ 15 t.0, eqb-true _ 15 t.1, eqb-true _ 15 t.2)

-- a sector is blocked exactly when some nibble and its inverse disagree
pub not_blocked : (x : AccessBytes) (g : Group) → Agree x → bits_of x g ≡ Some (group_bits x g)
unfolding bits_of
not_blocked x g h = rw (well_formed_lem x h)

pub blocked : (x : AccessBytes) (g : Group) → (Agree x → ⊥) → bits_of x g ≡ None
unfolding bits_of
blocked x g h = go (well_formed x) refl
  where
    go : (t : Bool) → well_formed x ≡ t → bits_of x g ≡ None
    go true e = absurd (h (agrees x e))
    go false e = rw e

-- what an answer of the leaf says, in the words of the code that asked
module _ (x : AccessBytes) (g : Group) (r : Option ℕ) (asked : r ≡ bits_of x g) where
  pub closed : r ≡ None → well_formed x ≡ false
  unfolding bits_of
  closed e = go (well_formed x) refl
    where
      go : (t : Bool) → well_formed x ≡ t → well_formed x ≡ false
      go false q = q
      go true q = let p : None ≡ Some (group_bits x g) = sym e ∙ rw q at asked in cc

  pub opened : (n : ℕ) → r ≡ Some n → (well_formed x ≡ true) × (n ≡ group_bits x g)
  unfolding bits_of
  opened n e = go (well_formed x) refl
    where
      go : (t : Bool) → well_formed x ≡ t → (well_formed x ≡ true) × (n ≡ group_bits x g)
      go true q = let p : Some n ≡ Some (group_bits x g) = sym e ∙ rw q at asked in (q, cc)
      go false q = let p : Some n ≡ None = sym e ∙ rw q at asked in (cc, cc)

-- of four things, the one of a group
abbrev pub one_of : Group → ℕ → ℕ → ℕ → ℕ → ℕ
one_of First a b c d = a
one_of Second a b c d = b
one_of Third a b c d = c
one_of Trailer a b c d = d

-- the bit of a group in a nibble that was put together from four bits
nibble_bit : (bit : ℕ → ℕ) → ((n : ℕ) → bit n < 2) → (a b c d : ℕ) (g : Group) → bit_of (nibble_of bit a b c d) g ≡ bit (one_of g a b c d)
unfolding bit_of nibble_of
nibble_bit bit h a b c d First = omega (arith, h a, h b, h c, h d)
nibble_bit bit h a b c d Second = omega (arith, h a, h b, h c, h d)
nibble_bit bit h a b c d Third = omega (arith, h a, h b, h c, h d)
nibble_bit bit h a b c d Trailer = omega (arith, h a, h b, h c, h d)

nibble_small : (bit : ℕ → ℕ) → ((n : ℕ) → bit n < 2) → (a b c d : ℕ) → nibble_of bit a b c d < 16
unfolding nibble_of
nibble_small bit h a b c d = omega (arith, h a, h b, h c, h d)

one_small : (g : Group) (a b c d : ℕ) → a < 8 → b < 8 → c < 8 → d < 8 → one_of g a b c d < 8
one_small First a b c d p q r s = p
one_small Second a b c d p q r s = q
one_small Third a b c d p q r s = r
one_small Trailer a b c d p q r s = s

abbrev high : ℕ → ℕ
high n = n / 4 % 2

abbrev middle : ℕ → ℕ
middle n = n / 2 % 2

abbrev low : ℕ → ℕ
low n = n % 2

high_bit : (n : ℕ) → high n < 2
high_bit n = omega arith

middle_bit : (n : ℕ) → middle n < 2
middle_bit n = omega arith

low_bit : (n : ℕ) → low n < 2
low_bit n = omega arith

three_bits : (n : ℕ) → n < 8 → 4 * high n + 2 * middle n + low n ≡ n
three_bits n h =
    let halves : n / 2 ≡ n / 2 % 2 + 2 * (n / 4) = rw (← (shr-shr n 1 1)) (omega arith) in
    omega arith

module _ (a b c d : ℕ) where
  -- the three nibbles that go into the bytes
  small : (nibble_of high a b c d < 16) × (nibble_of middle a b c d < 16) × (nibble_of low a b c d < 16)
  small = (nibble_small high high_bit a b c d, nibble_small middle middle_bit a b c d, nibble_small low low_bit a b c d)

  -- and come out of them
  nibbles :
      (C1 (encode_bits a b c d) ≡ nibble_of high a b c d)
      × (C2 (encode_bits a b c d) ≡ nibble_of middle a b c d)
      × (C3 (encode_bits a b c d) ≡ nibble_of low a b c d)
  unfolding encode_bits
  nibbles = let s = small in omega arith

  encoded_agrees : Agree (encode_bits a b c d)
  unfolding encode_bits
  encoded_agrees = let s = small in omega arith

  -- the access bytes of four groups' bits split back into those groups
  pub split_back : (g : Group) → a < 8 → b < 8 → c < 8 → d < 8 → bits_of (encode_bits a b c d) g ≡ Some (one_of g a b c d)
  unfolding group_bits
  split_back g p q r s =
      not_blocked (encode_bits a b c d) g encoded_agrees
      ∙ rw (nibbles.0, nibbles.1, nibbles.2, nibble_bit high high_bit a b c d g, nibble_bit middle middle_bit a b c d g, nibble_bit low low_bit a b c d g)
      (ap Some (three_bits (one_of g a b c d) (one_small g a b c d p q r s)))
