-- The rule for sixteen bytes: three readings of the value, four of the address byte, and what most of them say.
use Rattle.std.specs.Prelude.{Bool, cond, ◌&&◌, ◌||◌, List, ℕ, ◌-◌, eqb, get_or, Option, Some, None}
use Rattle.value.specs.Block.{word_of}

-- the readings of the value, each a whole number: bytes 0 to 3; bytes 4 to 7, inverted; bytes 8 to 11
abbrev pub first_value : List ℕ → ℕ
first_value block = word_of (get_or block 0 0) (get_or block 1 0) (get_or block 2 0) (get_or block 3 0)

abbrev pub second_value : List ℕ → ℕ
second_value block = 4294967295 - word_of (get_or block 4 0) (get_or block 5 0) (get_or block 6 0) (get_or block 7 0)

abbrev pub third_value : List ℕ → ℕ
third_value block = word_of (get_or block 8 0) (get_or block 9 0) (get_or block 10 0) (get_or block 11 0)

-- the readings of the address byte: byte 12; byte 13, inverted; byte 14; byte 15, inverted
abbrev pub first_address : List ℕ → ℕ
first_address block = get_or block 12 0

abbrev pub second_address : List ℕ → ℕ
second_address block = 255 - get_or block 13 0

abbrev pub third_address : List ℕ → ℕ
third_address block = get_or block 14 0

abbrev pub fourth_address : List ℕ → ℕ
fourth_address block = 255 - get_or block 15 0

-- at least two of three readings agree; and what those say
abbrev pub two_agree : ℕ → ℕ → ℕ → Bool
two_agree a b c = (eqb a b || eqb a c) || eqb b c

abbrev pub majority_of_three : ℕ → ℕ → ℕ → ℕ
majority_of_three a b c = cond (eqb b c) b a

-- at least three of four readings agree; and what those say
abbrev pub three_agree : ℕ → ℕ → ℕ → ℕ → Bool
three_agree p q r s = (((eqb p q && eqb p r) || (eqb p q && eqb p s)) || (eqb p r && eqb p s)) || (eqb q r && eqb q s)

abbrev pub majority_of_four : ℕ → ℕ → ℕ → ℕ → ℕ
majority_of_four p q r s = cond (eqb q r && eqb q s) q p

-- three readings of a value and four of an address byte: what the majorities say; or one of the two has no majority
unfoldable pub majority_rule : ℕ → ℕ → ℕ → ℕ → ℕ → ℕ → ℕ → Option (ℕ × ℕ)
majority_rule a b c p q r s =
    cond (two_agree a b c && three_agree p q r s) (Some (majority_of_three a b c, majority_of_four p q r s)) None

-- what a block is mended to: a value, as its bits, and an address byte; or there is no majority
unfoldable pub mended_of : List ℕ → Option (ℕ × ℕ)
mended_of block =
    majority_rule (first_value block) (second_value block) (third_value block)
    (first_address block) (second_address block) (third_address block) (fourth_address block)
