-- What a caller knows who has no NAK's value.
-- Assumes nothing.
use Rattle.std.proofs.Common.{◌≡◌, ℕ, arith}
use Rattle.card.specs.Effects.{packed_of}
use Rattle.card.specs.declared.Sign.{Sign}
use Rattle.crossing.specs.Crossing.{packed_with}

-- without a value it is number and sign alone
pub no_value : (number : ℕ) (sign : Sign) → packed_with number sign 0 ≡ packed_of number sign
no_value number sign = omega arith
