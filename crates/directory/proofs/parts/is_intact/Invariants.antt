use mathlib.Core.Path.{◌≡◌}
use Prim.Native.Nat.{◌-◌}
use lib.ListN.{drop}
use Rattle.directory.specs.Checksum.{bytes_on, checksum_of}
use Rattle.directory.specs.Code.{standing, contents}
use Rattle.directory.specs.Directory.{part_of}
use Rattle.directory.proofs.parts.is_intact.Given as goal

-- the blocks that are left, fed to the register that the word stands for, give the checksum
abbrev pub invariant-loop-b : goal.invariant-loop-b
invariant-loop-b l = bytes_on (standing l.s) (contents l.image (l.end - l.b) l.b) ≡ checksum_of (drop 1 (part_of l.image l.fn.part))
