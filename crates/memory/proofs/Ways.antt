-- A byte of a block, read where it stands in the image.
-- Assumes nothing.
use mathlib.Core.Path.{◌≡◌, ◌∙◌}
use mathlib.Core.List.{List}
use Prim.Native.Nat.{ℕ, ◌+◌, ◌<◌}
use lib.ListN.{take, drop, get_or}
use lib.Seq.{get_or-take, get_or-drop}

pub byte_read : (image : List ℕ) (n i : ℕ) → i < 16 → get_or (take 16 (drop n image)) i 0 ≡ get_or image (n + i) 0
byte_read image n i h = get_or-take 16 (drop n image) i 0 h ∙ get_or-drop n image i 0
