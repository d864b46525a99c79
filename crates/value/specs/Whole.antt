-- Values are whole numbers; the code holds each as its 32 bits.
use Rattle.std.specs.Prelude.{Bool, ◌&&◌, cond, ℕ, suc, ◌-◌, ltb, ℤ, pos, negsuc}
use Rattle.std.specs.Int.Signed.{le_z}
use Rattle.std.proofs.Common.{of_z}
use Rattle.std.specs.Int.{w32}

-- the whole number that 32 bits stand for: below 2,147,483,648 itself, else less 4,294,967,296 (`negsuc n` is -n - 1)
abbrev pub signed : ℕ → ℤ
signed n = cond (ltb n 2147483648) (pos n) (negsuc (4294967296 - suc n))

-- and the bits of a whole number in range
abbrev pub bits : ℤ → ℕ
bits z = of_z w32 z

-- from -2,147,483,648 to 2,147,483,647
abbrev pub in_range : ℤ → Bool
in_range z = le_z (negsuc 2147483647) z && le_z z (pos 2147483647)
