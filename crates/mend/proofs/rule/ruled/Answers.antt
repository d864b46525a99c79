-- Both majorities, or none.
use Rattle.mend.specs.Rule.{majority_rule}
use Rattle.mend.proofs.rule.ruled.Goals as goal

pub returns-then-agreed : goal.returns-then-agreed
unfolding majority_rule
returns-then-agreed c = rw (c.majority_of_three-value.ensures, c.majority_of_four-address.ensures, ← c.two_agree.ensures, ← c.three_agree.ensures, c.if-agreed.true)

pub returns : goal.returns
unfolding majority_rule
returns c = rw (← c.two_agree.ensures, ← c.three_agree.ensures, c.if-agreed.false)
