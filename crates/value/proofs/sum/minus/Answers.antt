-- The three ways out of `minus`: an operand below zero, a result below the range, within.
use mathlib.Core.Path.{sym, ◌∙◌}
use native.Mathlib.Omega.{arith}
use Rattle.value.proofs.Sums.{below_zero_lem, minus_low, minus_in}
use Rattle.value.proofs.sum.minus.Goals as goal

pub returns-then-is_negative : goal.returns-then-is_negative
returns-then-is_negative c = below_zero_lem c.args.value c.args.operand (omega arith) (omega arith) _ (sym c.is_negative.ensures ∙ c.if-is_negative.true)

pub returns-then-from-less : goal.returns-then-from-less
returns-then-from-less c = minus_low c.args.value c.args.operand (omega arith) (omega arith) (sym c.is_negative.ensures ∙ c.if-is_negative.false) (omega arith)

pub returns : goal.returns
returns c = minus_in c.args.value c.args.operand (omega arith) (omega arith) (sym c.is_negative.ensures ∙ c.if-is_negative.false) c.lowered.result (omega arith) (omega arith)
