-- The figures are whole numbers; the code holds each as its 64 bits.
use Rattle.std.specs.Prelude.{ℕ, suc, ◌-◌, Bool, cond, ◌&&◌, ℤ, pos, negsuc, int_le, nat_lt}
use Rattle.std.proofs.Common.{of_z}
use Rattle.std.specs.Int.{w64}

-- the whole number that 64 bits stand for: below 2^63 itself, else less 2^64 (`negsuc n` is -n - 1)
abbrev pub whole : ℕ → ℤ
whole n = cond (nat_lt n 9223372036854775808) (pos n) (negsuc (18446744073709551616 - suc n))

-- and the bits of a whole number
abbrev pub held : ℤ → ℕ
held z = of_z w64 z

-- from low to high, both ends included
abbrev pub within : ℤ → ℤ → ℤ → Bool
within low high z = int_le low z && int_le z high
