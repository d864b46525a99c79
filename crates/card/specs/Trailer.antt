-- A trailer in its parts: key A in bytes 0 to 5, the access bits and the user byte in 6 to 9, key B in 10 to 15.
use Rattle.std.specs.Prelude.{Bool, cond, List, ◌++◌, ℕ, take, drop, replicate}
use Rattle.access.specs.declared.rights.Parts.{Parts}

abbrev pub zeros : List ℕ
zeros = replicate 16 0

-- key A of one, bytes 6 to 9 of another, key B of a third
unfoldable pub join_of : List ℕ → List ℕ → List ℕ → List ℕ
join_of p q r = take 6 p ++ (take 4 (drop 6 q) ++ drop 10 r)

-- as a Read shows it: no key A ever, and key B only where it can be read
unfoldable pub shown_trailer : Bool → List ℕ → List ℕ
shown_trailer readable trailer = join_of zeros trailer (cond readable trailer zeros)

-- as it is written: those parts are new, and the rest is kept
unfoldable pub mixed_of : Parts → List ℕ → List ℕ → List ℕ
mixed_of p old new = join_of (cond p.a new old) (cond p.bits new old) (cond p.b new old)
