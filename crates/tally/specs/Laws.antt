-- What the figures can be relied on for: what a change gives, and that the figures of an opening are the full count and one store after the other keeps them so.
use Rattle.std.specs.Prelude.{◌≡◌, ℕ, ◌<◌, true, false, ◌||◌, List, length, pos, negsuc, ◌+ℤ◌, ◌-ℤ◌, ◌==◌, ◌≢◌, Some, Ok}
use Rattle.layout.specs.Layout.{sectors_of, has_block, is_trailer}
use Rattle.layout.specs.declared.Block.{Block}
use Rattle.memory.specs.Memory.{content_of, store_of}
use Rattle.tally.specs.Whole.{whole}
use Rattle.tally.specs.Change.{count_fits, sum_fits, in_range, count_share, sum_share, settled_of}
use Rattle.tally.specs.Full.{counts, count_of, sum_of, full_figures, opened_of}
use Rattle.tally.specs.declared.change.Figures.{Figures}

-- the ends of the ranges: the count from 0 to 255, the sum from -547,608,330,240 to 547,608,329,985 (`negsuc n` is -n - 1)
abbrev pub CountEnds : Type 0
CountEnds =
    (count_fits (negsuc 0) ≡ false) × (count_fits (pos 0) ≡ true) × (count_fits (pos 255) ≡ true) × (count_fits (pos 256) ≡ false)

abbrev pub SumEnds : Type 0
SumEnds =
    (sum_fits (negsuc 547608330240) ≡ false)
    × (sum_fits (negsuc 547608330239) ≡ true)
    × (sum_fits (pos 547608329985) ≡ true)
    × (sum_fits (pos 547608329986) ≡ false)

-- figures that are kept are in range, and are the given ones less the old share, plus the new one
abbrev pub KeptIs : Type 0
KeptIs =
    (f g : Figures) (old new : List ℕ) → settled_of f old new ≡ Some g
    → (in_range g ≡ true)
    × (whole g.count ≡ (whole f.count -ℤ count_share old) +ℤ count_share new)
    × (whole g.sum ≡ (whole f.sum -ℤ sum_share old) +ℤ sum_share new)

-- the step between is not judged: figures in range stay as they are with a block that stays, whatever is left of them without it
abbrev pub SameContent : Type 0
SameContent =
    (f : Figures) (block : List ℕ) → f.count < 18446744073709551616 → f.sum < 18446744073709551616 → in_range f ≡ true
    → settled_of f block block ≡ Some f

-- a full count is in range
abbrev pub FullFits : Type 0
FullFits = (image : List ℕ) → (count_fits (count_of image) ≡ true) × (sum_fits (sum_of image) ≡ true)

-- the figures of an opening are in range
abbrev pub OpeningFits : Type 0
OpeningFits = (image : List ℕ) → in_range (full_figures image) ≡ true

-- and, read as whole numbers, they are the full count of the card
abbrev pub OpeningCounts : Type 0
OpeningCounts =
    (image : List ℕ) → (sectors_of (length image) ≢ 0)
    → (opened_of image ≡ Ok (full_figures image))
    × (whole (full_figures image).count ≡ count_of image)
    × (whole (full_figures image).sum ≡ sum_of image)

-- block 0 and the trailers never count, and every other block of the card does
abbrev pub NotCounted : Type 0
NotCounted = (bytes : ℕ) (b : Block) → (b.0 == 0 || is_trailer b) ≡ true → counts bytes b ≡ false

abbrev pub Counted : Type 0
Counted = (bytes : ℕ) (b : Block) → has_block bytes b ≡ true → (b.0 == 0 || is_trailer b) ≡ false → counts bytes b ≡ true

-- sixteen bytes stored into a block that counts: the old content's share goes off both figures, and the new one's comes on
abbrev pub StoreOne : Type 0
StoreOne =
    (image : List ℕ) (b : Block) (bytes : List ℕ) → length bytes ≡ 16 → counts (length image) b ≡ true
    → (count_of (store_of image b bytes) ≡ (count_of image -ℤ count_share (content_of image b)) +ℤ count_share bytes)
    × (sum_of (store_of image b bytes) ≡ (sum_of image -ℤ sum_share (content_of image b)) +ℤ sum_share bytes)

-- stored into any other, block 0 and the trailers among them: both figures stay
abbrev pub StoreOther : Type 0
StoreOther =
    (image : List ℕ) (b : Block) (bytes : List ℕ) → length bytes ≡ 16 → counts (length image) b ≡ false
    → (count_of (store_of image b bytes) ≡ count_of image) × (sum_of (store_of image b bytes) ≡ sum_of image)

-- so the figures of an opening, changed with a block that counts, are those of an opening afterwards, and never outside
abbrev pub ChangeCounts : Type 0
ChangeCounts =
    (image : List ℕ) (b : Block) (bytes : List ℕ) → length bytes ≡ 16 → counts (length image) b ≡ true
    → settled_of (full_figures image) (content_of image b) bytes ≡ Some (full_figures (store_of image b bytes))

-- and with any other block the opening stays
abbrev pub OpeningStays : Type 0
OpeningStays =
    (image : List ℕ) (b : Block) (bytes : List ℕ) → length bytes ≡ 16 → counts (length image) b ≡ false
    → (opened_of (store_of image b bytes) ≡ opened_of image) × (full_figures (store_of image b bytes) ≡ full_figures image)
