-- By the test.

use Rattle.mend.proofs.rule.majority_of_four.Goals as goal

pub returns-then-q-r : goal.returns-then-q-r
returns-then-q-r c = rw c.if-q-r.true

pub returns : goal.returns
returns c = rw c.if-q-r.false
