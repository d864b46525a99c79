use mathlib.Core.Path.{◌≡◌}
use Prim.Native.Nat.{◌+◌, ◌*◌, ◌-◌, ◌/◌}
use lib.ListN.{length, drop}
use Rattle.issue.specs.Write.{blocks_on, filled}
use Rattle.issue.proofs.write.store_blocks.Given as goal

-- what is left to store
abbrev pub invariant-loop-k : goal.invariant-loop-k
invariant-loop-k l = filled l.image (blocks_on (l.first + l.k) (length l.bytes / 16 - l.k)) (drop (16 * l.k) l.bytes) ≡ filled l.initial.image (blocks_on l.first (length l.bytes / 16)) l.bytes
