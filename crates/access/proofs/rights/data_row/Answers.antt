-- Each of the eight rows is the one that is printed beside its bits.
use Prim.Native.Nat.{ℕ, ◌%◌}
use native.Mathlib.Omega.{arith}
use Rattle.access.specs.Rights.{look_up, no_data, data_table, data_row}
use Rattle.access.proofs.Eight.{indexed}
use Rattle.access.proofs.rights.data_row.Goals as goal

pub returns : goal.returns
unfolding data_table data_row
returns c = indexed (λ (k : ℕ). look_up no_data k data_table) _ (c.args.bits % 8) (omega arith)
