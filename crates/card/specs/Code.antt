-- What only contracts inside this crate cite. What the card means does not rest on it.
use Rattle.std.specs.Prelude.{cond, ℕ, ltb}
use Rattle.access.specs.Rights.{readable_of}

-- how far a Read of a trailer with the bits m sees: past 2, the hiding of key B, where that key can be read
unfoldable pub sight_of : ℕ → ℕ
sight_of m = cond (readable_of m) 3 2

-- a byte is shown where it is hidden less well than the sight goes
unfoldable pub seen_of : ℕ → ℕ → ℕ → ℕ
seen_of hiding sight byte = cond (ltb hiding sight) byte 0
