-- Each of the eight rows is the one that is printed beside its bits.
use Prim.Native.Nat.{ℕ, ◌%◌}
use native.Mathlib.Omega.{arith}
use Rattle.access.specs.Rights.{look_up, no_trailer, trailer_table, trailer_row}
use Rattle.access.proofs.Eight.{indexed}
use Rattle.access.proofs.rights.trailer_row.Goals as goal

pub returns : goal.returns
unfolding trailer_table trailer_row
returns c = indexed (λ (k : ℕ). look_up no_trailer k trailer_table) _ (c.args.bits % 8) (omega arith)
