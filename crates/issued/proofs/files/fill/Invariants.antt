-- What was read stands within the space. The measure is the room that is left.
use Rattle.std.proofs.Common.{length, ◌-◌, ◌≤◌}
use Rattle.issued.proofs.files.fill.Given as goal

abbrev pub invariant-loop-done : goal.invariant-loop-done
invariant-loop-done g l = l.done ≤ length l.space

abbrev pub decreases-loop-done : goal.decreases-loop-done
decreases-loop-done g l = length l.space - l.done
