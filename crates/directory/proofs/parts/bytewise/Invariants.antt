use mathlib.Core.Path.{◌≡◌}
use lib.ListN.{drop}
use Rattle.directory.specs.Checksum.{bytes_on}
use Rattle.directory.proofs.parts.bytewise.Given as goal

-- what is left, fed to the register as it stands, gives what all the bytes give
abbrev pub invariant-loop-b : goal.invariant-loop-b
invariant-loop-b l = bytes_on l.c (drop l.b-index l.bytes) ≡ bytes_on l.register l.bytes
