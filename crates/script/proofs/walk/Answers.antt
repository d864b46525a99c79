-- The loop's invariant: what is left to walk comes to what the whole comes to.
use mathlib.Core.Path.{◌≡◌, sym, ◌∙◌}
use Prim.Native.Nat.{◌+◌, ◌-◌}
use native.Mathlib.Omega.{arith}
use Rattle.std.proofs.lemmas.Result.{err_from_is_err_and}
use Rattle.script.proofs.Ways.{stops, goes_on, all_walked}
use Rattle.script.proofs.walk.Goals as goal

pub returns-in_err-event_refusal : goal.returns-in_err-event_refusal
returns-in_err-event_refusal c = let p = err_from_is_err_and c.from_residual.result c.from_residual.ensures.1 in
    rw (p.1, p.2) (stops _ _ _ (omega arith) _ (sym c.event_refusal.ensures ∙ c.in_err-event_refusal.was) ∙ c.loop.invariant)

pub loop-preserved : goal.loop-preserved
loop-preserved c = let left : c.args.count - (c.loop.counter + 1) ≡ c.args.count - c.loop.counter - 1 = omega arith in
    rw (c.next_at-at.ensures, left) (goes_on _ _ _ (omega arith) (sym c.event_refusal.ensures ∙ c.in_ok-event_refusal.was) ∙ c.loop.invariant)

pub returns : goal.returns
returns c = all_walked _ _ (c.args.count - c.loop.counter) (omega arith) ∙ c.loop.invariant
