-- Four bytes as a word, and the sixteen of a block compared by words.
-- Assumes nothing.
use mathlib.Core.Path.{◌≡◌, refl, sym, ◌∙◌, ap}
use mathlib.Core.Bool.{Bool, true, false, ◌&&◌}
use mathlib.Core.List.{List, [], ◌∷◌}
use Prim.Native.Nat.{ℕ, zero, suc, ◌-◌, ◌/◌, ◌%◌, ◌<◌}
use native.Mathlib.Omega.{arith}
use lib.Dec.{eqb}
use lib.ListN.{get_or, length}
use borrow.Author.Tests.{eq-eqb, eqb-true}
use Rattle.value.specs.Whole.{signed}
use Rattle.value.specs.Block.{word_of, encode_of, agreeing, same}
use Rattle.value.proofs.Blocks.{bits_signed, same_refl, same_eq, four_back}

-- a list of n, element by element
abbrev pub elements : ℕ → (ℕ → ℕ) → List ℕ
elements zero f = []
elements (suc n) f = f 0 ∷ elements n (λ (i : ℕ). f (suc i))

pub listed : (n : ℕ) (xs : List ℕ) → length xs ≡ n → xs ≡ elements n (λ (i : ℕ). get_or xs i 0)
listed zero [] e = refl
listed zero (x ∷ xs) e = absurd (omega arith)
listed (suc n) [] e = absurd (omega arith)
listed (suc n) (x ∷ xs) e = ap (λ (l : List ℕ). x ∷ l) (listed n xs (omega arith))

-- the bytes of a word, and those of equal words
abbrev pub Bytes : ℕ → ℕ → ℕ → ℕ → ℕ → Type 0
Bytes n a b c d = (n % 256 ≡ a) × (n / 256 % 256 ≡ b) × (n / 65536 % 256 ≡ c) × (n / 16777216 % 256 ≡ d)

pub word_bytes : (a b c d : ℕ) → a < 256 → b < 256 → c < 256 → d < 256 → Bytes (word_of a b c d) a b c d
word_bytes a b c d ha hb hc hd = omega arith

word_eq : (a b c d a' b' c' d' : ℕ) → a < 256 → b < 256 → c < 256 → d < 256 → a' < 256 → b' < 256 → c' < 256 → d' < 256
    → word_of a b c d ≡ word_of a' b' c' d' → (a ≡ a') × (b ≡ b') × (c ≡ c') × (d ≡ d')
word_eq a b c d a' b' c' d' ha hb hc hd ha' hb' hc' hd' e = omega arith

less : (x : ℕ) → 255 - x < 256
less x = omega arith

-- inverted bytes make the inverted word
inverse_word_lem : (a b c d : ℕ) → a < 256 → b < 256 → c < 256 → d < 256 → word_of (255 - a) (255 - b) (255 - c) (255 - d) ≡ 4294967295 - word_of a b c d
inverse_word_lem a b c d ha hb hc hd = omega arith

pub inverse_four : (v : ℕ) → v < 4294967296 → Bytes (4294967295 - v) (255 - v % 256) (255 - v / 256 % 256) (255 - v / 65536 % 256) (255 - v / 16777216 % 256)
inverse_four v h =
    let b₀ = v % 256 in
    let b₁ = v / 256 % 256 in
    let b₂ = v / 65536 % 256 in
    let b₃ = v / 16777216 % 256 in
    let whole : word_of (255 - b₀) (255 - b₁) (255 - b₂) (255 - b₃) ≡ 4294967295 - v =
    inverse_word_lem b₀ b₁ b₂ b₃ (omega arith) (omega arith) (omega arith) (omega arith) ∙ ap (λ (n : ℕ). 4294967295 - n) (four_back v h) in
    rw (← whole) (word_bytes (255 - b₀) (255 - b₁) (255 - b₂) (255 - b₃) (less b₀) (less b₁) (less b₂) (less b₃))

three : (x y z : Bool) → ((x && y) && z) ≡ true → (x ≡ true) × (y ≡ true) × (z ≡ true)
three true true true e = (refl, refl, refl)
three true true false e = (refl, refl, e)
three true false z e = (refl, e, cc)
three false y z e = (e, cc, cc)

iff_eq : (x y : Bool) → (x ≡ true → y ≡ true) → (y ≡ true → x ≡ true) → x ≡ y
iff_eq true y f g = sym (f refl)
iff_eq false true f g = g refl
iff_eq false false f g = refl

module _ (block : List ℕ) (sixteen : length block ≡ 16) (byte : (i : ℕ) → get_or block i 0 < 256) where
  abbrev b : ℕ → ℕ
  b i = get_or block i 0

  abbrev plain : ℕ
  plain = word_of (b 0) (b 1) (b 2) (b 3)

  -- the comparisons, of three words and three bytes
  abbrev Words : Type 0
  Words =
      (word_of (b 4) (b 5) (b 6) (b 7) ≡ 4294967295 - plain)
      × (word_of (b 8) (b 9) (b 10) (b 11) ≡ plain)
      × (b 13 ≡ 255 - b 12)
      × (b 14 ≡ b 12)
      × (b 15 ≡ 255 - b 12)

  plain_small : plain < 4294967296
  plain_small = omega (arith, byte 0, byte 1, byte 2, byte 3)

  -- the block that the first word and byte 12 call for
  abbrev called : List ℕ
  called =
      b 0 ∷ b 1 ∷ b 2 ∷ b 3 ∷ (255 - b 0) ∷ (255 - b 1) ∷ (255 - b 2) ∷ (255 - b 3) ∷ b 0 ∷ b 1 ∷ b 2 ∷ b 3 ∷ b 12 ∷ (255 - b 12) ∷ b 12 ∷ (255 - b 12) ∷ []

  encoded : encode_of (signed plain) (b 12) ≡ called
  unfolding encode_of
  encoded =
      let e = word_bytes (b 0) (b 1) (b 2) (b 3) (byte 0) (byte 1) (byte 2) (byte 3) in
      rw (bits_signed plain plain_small, e.0, e.1, e.2, e.3)

  bytes : Words → block ≡ encode_of (signed plain) (b 12)
  bytes w =
      let inverse =
      word_eq (b 4) (b 5) (b 6) (b 7) (255 - b 0) (255 - b 1) (255 - b 2) (255 - b 3) (byte 4) (byte 5) (byte 6) (byte 7)
      (less (b 0)) (less (b 1)) (less (b 2)) (less (b 3)) (w.0 ∙ sym (inverse_word_lem (b 0) (b 1) (b 2) (b 3) (byte 0) (byte 1) (byte 2) (byte 3))) in
      let again =
      word_eq (b 8) (b 9) (b 10) (b 11) (b 0) (b 1) (b 2) (b 3) (byte 8) (byte 9) (byte 10) (byte 11)
      (byte 0) (byte 1) (byte 2) (byte 3) w.1 in
      listed 16 block sixteen
      ∙ rw (inverse.0, inverse.1, inverse.2, inverse.3, again.0, again.1, again.2, again.3, w.2, w.3, w.4)
      (sym encoded)

  words : block ≡ encode_of (signed plain) (b 12) → Words
  words e =
      let at : (i : ℕ) → b i ≡ get_or called i 0 = λ i. ap (λ (l : List ℕ). get_or l i 0) (e ∙ encoded) in (
        rw (at 4, at 5, at 6, at 7) (inverse_word_lem (b 0) (b 1) (b 2) (b 3) (byte 0) (byte 1) (byte 2) (byte 3)),
        rw (at 8, at 9, at 10, at 11),
        at 13,
        at 14,
        at 15,
      )

  -- the code's comparison is the definition's
  pub words_agree :
      ((eqb (word_of (b 4) (b 5) (b 6) (b 7)) (4294967295 - plain) && eqb (word_of (b 8) (b 9) (b 10) (b 11)) plain)
      && (eqb (b 13) (255 - b 12) && eqb (b 14) (b 12) && eqb (b 15) (255 - b 12)))
      ≡ agreeing block
  unfolding agreeing
  words_agree =
      iff_eq _ _
      (λ e.
      let t = three _ _ _ e in
      let u = three _ _ _ t.2 in
      let w : Words = (eqb-true _ _ t.0, eqb-true _ _ t.1, eqb-true _ _ u.0, eqb-true _ _ u.1, eqb-true _ _ u.2) in
      ap (same block) (sym (bytes w)) ∙ same_refl block)
      (λ e.
      let w : Words = words (same_eq block (encode_of (signed plain) (b 12)) e) in
      rw (eq-eqb _ _ w.0, eq-eqb _ _ w.1, eq-eqb _ _ w.2, eq-eqb _ _ w.3, eq-eqb _ _ w.4))
