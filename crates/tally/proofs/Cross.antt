-- The figures cross there and back.
-- Assumes nothing.
use Rattle.std.proofs.Common.{◌≡◌, ℕ, ◌+◌, ◌*◌, ◌/◌, ◌%◌, ◌<◌, List, [], ◌∷◌, ◌++◌, sym, ◌∙◌, ap₂, arith}
use Rattle.value.specs.Block.{word_of, four_of}
use Rattle.value.proofs.Blocks.{four_back}
use Rattle.value.proofs.Words.{listed, word_bytes}
use Rattle.tally.specs.Bytes.{eight_at, eight_of, figures_in, figures_bytes}
use Rattle.tally.specs.Cross.{BytesBack, FiguresBack}

-- four bytes are those of the word that they make
four_of_lem : (a b c d : ℕ) → a < 256 → b < 256 → c < 256 → d < 256 → four_of (word_of a b c d) ≡ a ∷ b ∷ c ∷ d ∷ []
four_of_lem a b c d p q r s = let e = word_bytes a b c d p q r s in rw (e.0, e.1, e.2, e.3)

-- two halves are those of the number that they make
halves : (low high : ℕ) → low < 4294967296 → ((low + 4294967296 * high) % 4294967296 ≡ low) × ((low + 4294967296 * high) / 4294967296 ≡ high)
halves low high h = (omega arith, omega arith)

word_small : (a b c d : ℕ) → a < 256 → b < 256 → c < 256 → d < 256 → word_of a b c d < 4294967296
word_small a b c d p q r s = omega arith

-- eight bytes are those of the number that they make
eight_of_lem : (a b c d e f g h : ℕ) → a < 256 → b < 256 → c < 256 → d < 256 → e < 256 → f < 256 → g < 256 → h < 256
    → eight_of (word_of a b c d + 4294967296 * word_of e f g h) ≡ a ∷ b ∷ c ∷ d ∷ e ∷ f ∷ g ∷ h ∷ []
eight_of_lem a b c d e f g h p₀ p₁ p₂ p₃ p₄ p₅ p₆ p₇ =
    let w = halves (word_of a b c d) (word_of e f g h) (word_small a b c d p₀ p₁ p₂ p₃) in
    ap₂ (λ (x y : ℕ). four_of x ++ four_of y) w.0 w.1 ∙ ap₂ (λ (x y : List ℕ). x ++ y) (four_of_lem a b c d p₀ p₁ p₂ p₃) (four_of_lem e f g h p₄ p₅ p₆ p₇)

pub bytes_back : BytesBack
unfolding figures_in figures_bytes
bytes_back bytes n s =
    ap₂ (λ (x y : List ℕ). x ++ y) (eight_of_lem _ _ _ _ _ _ _ _ (s 0) (s 1) (s 2) (s 3) (s 4) (s 5) (s 6) (s 7))
    (eight_of_lem _ _ _ _ _ _ _ _ (s 8) (s 9) (s 10) (s 11) (s 12) (s 13) (s 14) (s 15))
    ∙ sym (listed 16 bytes n)

-- a number is what its eight bytes make
number_back : (n : ℕ) → n < 18446744073709551616 → eight_at (eight_of n) 0 ≡ n
number_back n h =
    let e : n % 4294967296 + 4294967296 * (n / 4294967296) ≡ n = omega arith in
    ap₂ (λ (x y : ℕ). x + 4294967296 * y) (four_back (n % 4294967296) (omega arith)) (four_back (n / 4294967296) (omega arith)) ∙ e

pub figures_back : FiguresBack
unfolding figures_in figures_bytes
figures_back f c s = rw (number_back f.count c, number_back f.sum s)
