-- Each part by its codes.
use Rattle.record.specs.Record.{named_by}
use Rattle.record.proofs.named_by.Goals as goal

pub returns : goal.returns
unfolding named_by
returns c = rw (c.register_by-register.ensures, c.word-value.ensures, c.stage_by-stage.ensures, c.auth_by-auth.ensures)
