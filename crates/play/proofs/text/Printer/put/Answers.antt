-- One copy.
use mathlib.Core.Path.{refl}
use Rattle.play.proofs.Put.{put_part, put_text}
use Rattle.play.proofs.text.Printer.put.Goals as goal

pub returns : goal.returns
returns c = record { put = put_text _ c.requires (put_part _ _ _ _ c.copy_from_slice.ensures.after) refl; same_buffer = refl }
