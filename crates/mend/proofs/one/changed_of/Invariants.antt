use mathlib.Core.Path.{◌≡◌}
use lib.ListN.{drop}
use Rattle.mend.specs.One.{changed_of}
use Rattle.mend.proofs.one.changed_of.Given as goal

-- the bits are those of the bytes from i on
abbrev pub invariant-loop-i : goal.invariant-loop-i
invariant-loop-i l = l.bits ≡ changed_of (drop l.i l.before) (drop l.i l.after)
