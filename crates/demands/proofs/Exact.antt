-- A promise that names the result itself has one result.
-- Assumes nothing.
use mathlib.Core.Path.{◌≡◌, sym, ◌∙◌}
use Rattle.demands.specs.One.{OneResult}

pub exact : {R : Type 0} {x : R} → OneResult (λ (r : R). r ≡ x)
exact r r' p q = p ∙ sym q
