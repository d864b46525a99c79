-- Data has its checksum, and nothing else has any bytes.
use mathlib.Core.Path.{◌∙◌}
use Rattle.sealed.specs.Sealed.{sealed_reply}
use Rattle.sealed.proofs.Ways.{no_data_lem}
use Rattle.std.proofs.Common.{rules}
use Rattle.sealed.proofs.reply_of.Goals as goal

pub returns-in-Data : goal.returns-in-Data
unfolding sealed_reply
returns-in-Data c = c.with_seal.ensures ∙ rw c.in-Data.is

pub returns-in_default : goal.returns-in_default
returns-in_default c = no_data_lem _ _ (search rules)
