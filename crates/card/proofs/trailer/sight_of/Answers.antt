-- Each of the eight goes by what the row of its bits says of key B.
use mathlib.Core.Bool.{cond}
use Prim.Native.Nat.{ℕ, ◌%◌}
use native.Mathlib.Omega.{arith}
use Rattle.access.specs.Rights.{is_yes, look_up, no_trailer, trailer_table, trailer_row, readable_of}
use Rattle.access.proofs.Eight.{indexed}
use Rattle.card.specs.Code.{sight_of}
use Rattle.card.proofs.trailer.sight_of.Goals as goal

pub returns : goal.returns
unfolding trailer_table trailer_row readable_of sight_of
returns c = indexed (λ (k : ℕ). cond (is_yes (look_up no_trailer k trailer_table).3) 3 2) _ (c.args.m % 8) (omega arith)
