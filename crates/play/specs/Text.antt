-- Text as bytes, and text put into a buffer.
use Rattle.std.specs.Prelude.{◌≡◌, cond, List, [], ◌∷◌, ◌++◌, ℕ, ◌+◌, ◌/◌, ◌%◌, ◌≤◌, ltb, length, take, drop}

-- a buffer with a text in it from a place on
unfoldable pub put_of : List ℕ → ℕ → List ℕ → List ℕ
put_of out at text = take at out ++ (text ++ drop (at + length text) out)

-- a text was put from a place on: what the buffer holds, the place after the text, that it fits, and that the buffer is as long as before
pub record Put (out : List ℕ) (at : ℕ) (text last : List ℕ) (next : ℕ) : Type 0 where
  pub here : last ≡ put_of out at text
  pub moved : next ≡ at + length text
  pub fits : next ≤ length out
  pub same_length : length last ≡ length out

abbrev pub space : ℕ
space = 32

abbrev pub newline : ℕ
newline = 10

-- the words and signs of the printout in ASCII: `script`, `card`, `events`, `block`; `A`, `N`, `-`
abbrev pub script_word : List ℕ
script_word = 115 ∷ 99 ∷ 114 ∷ 105 ∷ 112 ∷ 116 ∷ []

abbrev pub card_word : List ℕ
card_word = 99 ∷ 97 ∷ 114 ∷ 100 ∷ []

abbrev pub events_word : List ℕ
events_word = 101 ∷ 118 ∷ 101 ∷ 110 ∷ 116 ∷ 115 ∷ []

abbrev pub block_word : List ℕ
block_word = 98 ∷ 108 ∷ 111 ∷ 99 ∷ 107 ∷ []

abbrev pub letter_a : ℕ
letter_a = 65

abbrev pub letter_n : ℕ
letter_n = 78

abbrev pub dash : ℕ
dash = 45

-- a decimal digit
abbrev pub digit : ℕ → ℕ
digit n = 48 + n % 10

-- a number below 10,000 in decimal
unfoldable pub decimal_of : ℕ → List ℕ
decimal_of n =
    cond (ltb n 10) (digit n ∷ [])
    (cond (ltb n 100) (digit (n / 10) ∷ digit n ∷ [])
    (cond (ltb n 1000) (digit (n / 100) ∷ digit (n / 10) ∷ digit n ∷ [])
    (digit (n / 1000) ∷ digit (n / 100) ∷ digit (n / 10) ∷ digit n ∷ [])))

-- a hexadecimal digit, letters in capitals
unfoldable pub hex_digit : ℕ → ℕ
hex_digit n = cond (ltb n 10) (48 + n) (55 + n)

-- bytes in hexadecimal, two digits each
unfoldable pub hex_of : List ℕ → List ℕ
hex_of [] = []
hex_of (b ∷ bs) = hex_digit (b / 16) ∷ hex_digit (b % 16) ∷ hex_of bs
