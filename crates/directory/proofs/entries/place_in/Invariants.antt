use mathlib.Core.Path.{◌≡◌}
use Prim.Native.Nat.{◌+◌, ◌*◌, ◌≤◌}
use lib.ListN.{length, drop}
use Rattle.directory.specs.Directory.{numbers_of}
use Rattle.directory.specs.Lookup.{place_from}
use Rattle.directory.proofs.entries.place_in.Given as goal

-- the place is the one that is found from entry k on
abbrev pub invariant-loop-k : goal.invariant-loop-k
invariant-loop-k l =
    (l.k ≤ 8) × (length l.block ≡ 16)
    × (place_from (l.before + l.k) l.wanted (numbers_of (drop (2 * l.k) l.block)) ≡ place_from (l.before + l.fn.from) l.wanted (numbers_of (drop (2 * l.fn.from) l.block)))
