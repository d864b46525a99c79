use mathlib.Core.Path.{◌≡◌}
use Prim.Native.Nat.{◌+◌, ◌≤◌}
use lib.ListN.{length, take}
use Rattle.play.specs.Text.{hex_of}
use Rattle.play.specs.Puts.{Puts}
use Rattle.play.proofs.text.Printer.hex.Given as goal

abbrev pub invariant-loop-b : goal.invariant-loop-b
invariant-loop-b l = Puts l.initial.self (hex_of (take l.b-index l.b-items)) l.self × (length l.b-items ≡ 16) × (l.initial.self.at + 32 ≤ length l.initial.self.out.now)
