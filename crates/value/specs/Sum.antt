-- Sums of values, exact in the whole numbers.
use Rattle.std.specs.Prelude.{Bool, true, false, cond, ℕ, ℤ, pos, negsuc, ◌+ℤ◌, ◌-ℤ◌, Err, Ok, Result}
use Rattle.value.specs.Whole.{signed, bits, in_range}
use Rattle.value.specs.declared.sum.SumError.{SumError}
use Rattle.value.specs.declared.sum.SumError.TheVariants.{Negative, Outside}

-- a whole number as a value, refused where it is out of range
unfoldable pub total_of : ℤ → Result ℕ SumError
total_of z = cond (in_range z) (Ok (bits z)) (Err Outside)

-- below zero (`negsuc n` is -n - 1)
unfoldable pub is_negative : ℤ → Bool
is_negative (pos n) = false
is_negative (negsuc n) = true

-- an operand below zero is refused before its result is looked at
unfoldable pub ruled_of : ℤ → ℤ → Result ℕ SumError
ruled_of operand result = cond (is_negative operand) (Err Negative) (total_of result)

abbrev pub plus_of : ℕ → ℕ → Result ℕ SumError
plus_of value operand = ruled_of (signed operand) (signed value +ℤ signed operand)

abbrev pub minus_of : ℕ → ℕ → Result ℕ SumError
minus_of value operand = ruled_of (signed operand) (signed value -ℤ signed operand)
