-- The three ways out of `plus`: an operand below zero, a result above the range, within.
use mathlib.Core.Path.{sym, ◌∙◌}
use native.Mathlib.Omega.{arith}
use Rattle.value.proofs.Sums.{below_zero_lem, plus_high, plus_in}
use Rattle.value.proofs.sum.plus.Goals as goal

pub returns-then-is_negative : goal.returns-then-is_negative
returns-then-is_negative c = below_zero_lem c.args.value c.args.operand (omega arith) (omega arith) _ (sym c.is_negative.ensures ∙ c.if-is_negative.true)

pub returns-then-sum-ge4294967296 : goal.returns-then-sum-ge4294967296
returns-then-sum-ge4294967296 c = plus_high c.args.value c.args.operand (omega arith) (omega arith) (sym c.is_negative.ensures ∙ c.if-is_negative.false) (omega arith)

pub returns : goal.returns
returns c = plus_in c.args.value c.args.operand (omega arith) (omega arith) (sym c.is_negative.ensures ∙ c.if-is_negative.false) c.lowered.result (omega arith) (omega arith)

pub lowered-requires : goal.lowered-requires
lowered-requires c = omega arith
