-- An answer as C sees it.
use Rattle.std.specs.Prelude.{ℕ, ◌+◌, ◌*◌}
use Rattle.card.specs.Effects.{packed_of}
use Rattle.card.specs.declared.Sign.{Sign}

-- number, sign and the NAK's value in one: the number in the low byte, then the sign's, then the value
abbrev pub packed_with : ℕ → Sign → ℕ → ℕ
packed_with number sign nak = packed_of number sign + 65536 * nak
