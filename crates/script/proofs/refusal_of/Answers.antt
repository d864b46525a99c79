-- The body, then the end.
use mathlib.Core.Path.{sym, ◌∙◌}
use Rattle.std.proofs.lemmas.Result.{err_from_is_err_and}
use Rattle.script.specs.Script.{reading_of}
use Rattle.script.proofs.Ways.{ended_early, ended_late}
use Rattle.script.proofs.refusal_of.Goals as goal

pub returns-in_err-end : goal.returns-in_err-end
unfolding reading_of
returns-in_err-end c = let p = err_from_is_err_and c.from_residual.result c.from_residual.ensures.1 in
    rw (p.1, p.2) (ended_early _ _ _ (sym c.body.ensures ∙ c.in_err-end.was))

pub returns : goal.returns
unfolding reading_of
returns c = c.left_over.ensures ∙ ended_late _ _ _ (sym c.body.ensures ∙ c.in_ok-end.was)
