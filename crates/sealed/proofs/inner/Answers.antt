-- All but the last two bytes of what passes.
use mathlib.Core.Path.{refl, sym, ◌∙◌}
use native.Mathlib.Omega.{arith}
use borrow.Author.Tests.{not-true, not-false}
use Rattle.sealed.specs.Sealed.{inner_of}
use Rattle.sealed.proofs.Ways.{long}
use Rattle.sealed.proofs.inner.Goals as goal

pub overflow_sub-end : goal.overflow_sub-end
overflow_sub-end c = omega (arith, long _ _ c.is_sealed.ensures c.if-is_sealed.true)

pub returns-then-is_sealed : goal.returns-then-is_sealed
unfolding inner_of
returns-then-is_sealed c = (not-true _ (sym c.is_sealed.ensures ∙ c.if-is_sealed.true), refl)

pub returns : goal.returns
returns c = not-false _ (sym c.is_sealed.ensures ∙ c.if-is_sealed.false)
