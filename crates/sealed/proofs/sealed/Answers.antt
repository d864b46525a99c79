-- Only the reply is another.
use Rattle.sealed.specs.Sealed.{sealed_of}
use Rattle.sealed.proofs.sealed.Goals as goal

pub returns : goal.returns
unfolding sealed_of
returns c = rw c.reply_of.ensures
