-- A list of checks in the order in which they apply, and the first that does.
use Rattle.std.specs.Prelude.{ℕ, Bool, cond, List, [], ◌∷◌}
use Rattle.judge.specs.declared.Act.{Act}
use Rattle.judge.specs.declared.Act.TheVariants.{Refused}

-- the number of a refusal, and whether it applies
pub data Check : Type 0 where
  check : ℕ → Bool → Check

-- what a list of checks comes to
pub data Outcome : Type 0 where
  passes : Outcome
  refuses : ℕ → Outcome

-- the first that applies
unfoldable pub first : List Check → Outcome
first [] = passes
first (check n applies ∷ cs) = cond applies (refuses n) (first cs)

-- the act that an outcome leaves
unfoldable pub ruled : Outcome → Act → Act
ruled passes act = act
ruled (refuses n) act = Refused n
