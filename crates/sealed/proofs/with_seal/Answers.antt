-- The reply stands in the first sixteen of eighteen bytes, and its checksum in the last two.
use mathlib.Core.Path.{◌∙◌}
use Rattle.std.proofs.Common.{rules}
use Rattle.sealed.proofs.Ways.{put_two}
use Rattle.sealed.proofs.with_seal.Goals as goal

pub returns : goal.returns
returns c = rw c.copy_from_slice.ensures.after (put_two c.args.reply _ (search rules) (c.two-seal.ensures ∙ rw c.crc_a.ensures))
