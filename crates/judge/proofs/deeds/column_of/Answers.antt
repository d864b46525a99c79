-- `column_of` goes by the command.
use mathlib.Core.Path.{◌∙◌}
use Rattle.judge.specs.Code.{column_of}
use Rattle.judge.proofs.deeds.column_of.Goals as goal

pub returns-in-Unknown : goal.returns-in-Unknown
unfolding column_of
returns-in-Unknown c = rw c.in-Unknown.is

pub returns-in-Authenticate : goal.returns-in-Authenticate
unfolding column_of
returns-in-Authenticate c = rw c.in-Authenticate.is

pub returns-in-Read : goal.returns-in-Read
unfolding column_of
returns-in-Read c = rw c.in-Read.is

pub returns-in-Write : goal.returns-in-Write
unfolding column_of
returns-in-Write c = rw c.in-Write.is

pub returns-in-Store : goal.returns-in-Store
unfolding column_of
returns-in-Store c = rw c.in-Store.is

pub returns-in-Begin : goal.returns-in-Begin
unfolding column_of
returns-in-Begin c = c.kind_column.ensures ∙ rw c.in-Begin.is

pub returns-in-Apply : goal.returns-in-Apply
unfolding column_of
returns-in-Apply c = c.kind_column-in-Apply.ensures ∙ rw c.in-Apply.is

pub returns-in-Transfer : goal.returns-in-Transfer
unfolding column_of
returns-in-Transfer c = rw c.in-Transfer.is

pub returns-in-Halt : goal.returns-in-Halt
unfolding column_of
returns-in-Halt c = rw c.in-Halt.is
