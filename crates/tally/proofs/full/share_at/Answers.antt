-- Block 0 and the trailers are left out.
use Rattle.tally.proofs.Ways.{left_out, looked_at}
use Rattle.tally.proofs.full.share_at.Goals as goal

pub returns-then-out : goal.returns-then-out
returns-then-out c = left_out _ _ (rw (← c.is_trailer.ensures) c.if-out.true)

pub returns : goal.returns
returns c = let h = c in
    looked_at _ _ (rw (← h.is_trailer.ensures) h.if-out.false) _ h.content.ensures _ c.share_of.ensures
