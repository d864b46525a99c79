-- By the edition.
use Rattle.edition.proofs.is_wrong_size.Goals as goal

pub returns-in-Old : goal.returns-in-Old
returns-in-Old c = rw c.in-Old.is

pub returns-in-Ev1 : goal.returns-in-Ev1
returns-in-Ev1 c = rw c.in-Ev1.is
