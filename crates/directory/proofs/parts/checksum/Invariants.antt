use mathlib.Core.Path.{◌≡◌}
use lib.ListN.{length}
use Rattle.directory.specs.Checksum.{bytes_on, checksum_of}
use Rattle.directory.specs.Code.{standing}
use Rattle.directory.proofs.parts.checksum.Given as goal

-- what is left, fed to the register that the word stands for, gives the checksum
abbrev pub invariant-loop-eight : goal.invariant-loop-eight
invariant-loop-eight l = bytes_on (standing l.s) l.left ≡ checksum_of l.bytes

abbrev pub decreases-loop-eight : goal.decreases-loop-eight
decreases-loop-eight l = length l.left
