-- The loop's invariant: the digits of the first bytes are put.
use mathlib.Core.Path.{◌≡◌}
use native.Mathlib.Omega.{arith}
use lib.ListN.{take}
use lib.Seq.{take_all, length-take-le}
use Rattle.play.specs.Text.{hex_of}
use Rattle.play.proofs.Put.{puts_nothing, puts_then, hex_length, hex_more}
use borrow.Author.Rules.{rules}
use Rattle.play.proofs.text.Printer.hex.Goals as goal

pub loop-b-init : goal.loop-b-init
unfolding hex_of
loop-b-init c = (puts_nothing _ (omega arith), search rules, c.requires)

pub put-requires : goal.put-requires
put-requires c = let v = c.loop-b.invariant in
    omega (arith, v.0.put.moved, v.0.put.same_length, hex_length (take c.loop-b.b-index c.args.bytes), length-take-le c.loop-b.b-index c.args.bytes (search rules))

pub loop-b-preserved : goal.loop-b-preserved
loop-b-preserved c = let v = c.loop-b.invariant in
    (rw (← hex_more c.args.bytes c.loop-b.b-index (search rules)) (rw (c.high_digit.ensures, c.low_digit.ensures) at (puts_then v.0 c.put.ensures)), v.1, v.2)

pub returns : goal.returns
returns c = let v = c.loop-b.invariant in
    let e : take c.loop-b.b-index c.args.bytes ≡ c.args.bytes = take_all c.loop-b.b-index c.args.bytes (search rules) in
    let p = rw e at v.0 in
    record { puts = p; value = omega (arith, p.put.moved, hex_length c.args.bytes) }
