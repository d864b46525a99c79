-- Within the frame its byte, past it 0.
use mathlib.Core.Path.{refl, sym}
use lib.ListN.{get_or-eq_default}
use Rattle.frame.specs.Command.{byte_in}
use Rattle.frame.proofs.byte.Goals as goal

pub returns-then-i-frame : goal.returns-then-i-frame
unfolding byte_in
returns-then-i-frame c = refl

pub returns : goal.returns
unfolding byte_in
returns c = sym (get_or-eq_default c.args.frame.now 0 c.if-i-frame.false)
