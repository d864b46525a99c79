-- From 2^31 on, 32 bits stand for a number below zero.
use native.Mathlib.Omega.{arith}
use Rattle.value.proofs.Sums.{negative_is}
use Rattle.value.proofs.sum.is_negative.Goals as goal

pub returns : goal.returns
returns c = negative_is c.args.operand (omega arith)
