-- The verdict stops the command, or says what it is given.
use mathlib.Core.Path.{◌∙◌, ap}
use Rattle.std.proofs.Common.{Ok}
use native.Mathlib.Omega.{arith}
use Rattle.frame.proofs.Came.{operand_length}
use Rattle.frame.specs.declared.Command.TheVariants.{Read, Write, Store, Begin, Apply, Transfer}
use Rattle.judge.specs.First.{first, ruled}
use Rattle.judge.specs.Judge.{done_of}
use Rattle.judge.specs.Code.{numbered, shown_as, stored_as}
use Rattle.judge.specs.declared.checks.Grant.TheVariants.{Whole, InParts}
use Rattle.judge.proofs.Lists.{stopped, passed, no_parts, no_more}
use Rattle.judge.proofs.deeds.perform.Goals as goal

pub apply-requires : goal.apply-requires
apply-requires c = omega (arith, operand_length _ _ _ _ _ c.requires.1 c.in-Apply.is)

pub returns-in-Err : goal.returns-in-Err
returns-in-Err c = c.refused.ensures ∙ stopped _ _ _ _ _ _ _ c.requires.0 c.column_of.ensures c.block_of.ensures c.memory_verdict.ensures _ (ap numbered c.in-Err.is)

pub returns-in-Read : goal.returns-in-Read
unfolding first ruled shown_as stored_as done_of
returns-in-Read c = passed _ _ _ _ _ _ _ c.requires.0 c.column_of.ensures c.block_of.ensures c.memory_verdict.ensures (InParts _) (c.in-Ok-InParts.is ∙ ap Ok c.in-Ok-InParts.field-0-is) (Read _) c.in-Read.is

pub returns-in-Write : goal.returns-in-Write
unfolding first ruled shown_as stored_as done_of
returns-in-Write c = passed _ _ _ _ _ _ _ c.requires.0 c.column_of.ensures c.block_of.ensures c.memory_verdict.ensures (InParts _) (c.in-Ok-InParts.is ∙ ap Ok c.in-Ok-InParts.field-0-is) (Write _) c.in-Write.is

pub returns-in-Store : goal.returns-in-Store
unfolding first ruled shown_as stored_as done_of
returns-in-Store c = passed _ _ _ _ _ _ _ c.requires.0 c.column_of.ensures c.block_of.ensures c.memory_verdict.ensures (InParts _) (c.in-Ok-InParts.is ∙ ap Ok c.in-Ok-InParts.field-0-is) (Store _) c.in-Store.is

pub returns-in_default : goal.returns-in_default
returns-in_default c = let d = c.in_default in no_parts _ _ _ _ _ _ _ c.requires.0 c.column_of.ensures c.block_of.ensures c.memory_verdict.ensures _ (c.in-Ok-InParts.is ∙ ap Ok c.in-Ok-InParts.field-0-is) d.not-Read d.not-Write d.not-Store _

pub returns-in-Read-c : goal.returns-in-Read-c
unfolding first ruled shown_as stored_as done_of
returns-in-Read-c c = passed _ _ _ _ _ _ _ c.requires.0 c.column_of.ensures c.block_of.ensures c.memory_verdict.ensures Whole (c.in-Ok-Whole.is ∙ ap Ok c.in-Ok-Whole.field-0-is) (Read _) c.in-Read-c.is

pub returns-in-Write-c : goal.returns-in-Write-c
unfolding first ruled shown_as stored_as done_of
returns-in-Write-c c = passed _ _ _ _ _ _ _ c.requires.0 c.column_of.ensures c.block_of.ensures c.memory_verdict.ensures Whole (c.in-Ok-Whole.is ∙ ap Ok c.in-Ok-Whole.field-0-is) (Write _) c.in-Write-c.is

pub returns-in-Store-c : goal.returns-in-Store-c
unfolding first ruled shown_as stored_as done_of
returns-in-Store-c c = passed _ _ _ _ _ _ _ c.requires.0 c.column_of.ensures c.block_of.ensures c.memory_verdict.ensures Whole (c.in-Ok-Whole.is ∙ ap Ok c.in-Ok-Whole.field-0-is) (Store _) c.in-Store-c.is

pub returns-in-Begin : goal.returns-in-Begin
unfolding done_of
returns-in-Begin c = c.begin.ensures ∙ passed _ _ _ _ _ _ _ c.requires.0 c.column_of.ensures c.block_of.ensures c.memory_verdict.ensures Whole (c.in-Ok-Whole.is ∙ ap Ok c.in-Ok-Whole.field-0-is) (Begin _ _) c.in-Begin.is

pub returns-in-Apply : goal.returns-in-Apply
unfolding done_of
returns-in-Apply c = c.apply.ensures ∙ passed _ _ _ _ _ _ _ c.requires.0 c.column_of.ensures c.block_of.ensures c.memory_verdict.ensures Whole (c.in-Ok-Whole.is ∙ ap Ok c.in-Ok-Whole.field-0-is) (Apply _ _) c.in-Apply.is

pub returns-in-Transfer : goal.returns-in-Transfer
unfolding done_of
returns-in-Transfer c = c.transfer.ensures ∙ passed _ _ _ _ _ _ _ c.requires.0 c.column_of.ensures c.block_of.ensures c.memory_verdict.ensures Whole (c.in-Ok-Whole.is ∙ ap Ok c.in-Ok-Whole.field-0-is) (Transfer _) c.in-Transfer.is

pub returns-in_default-c : goal.returns-in_default-c
returns-in_default-c c = let d = c.in_default-c in no_more _ _ _ _ _ _ _ c.requires.0 c.column_of.ensures c.block_of.ensures c.memory_verdict.ensures d.not-Read d.not-Write d.not-Store d.not-Begin d.not-Apply d.not-Transfer _
