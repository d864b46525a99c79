-- One result: what it means that a promise names a single result.
use Rattle.std.specs.Prelude.{◌≡◌}

-- any two results that meet a promise are equal
abbrev pub OneResult : {R : Type 0} → (R → Type 0) → Type 0
OneResult {R} Meets = (r r' : R) → Meets r → Meets r' → r ≡ r'
