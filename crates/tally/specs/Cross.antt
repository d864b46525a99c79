-- The figures cross there and back: nothing is lost of them as sixteen bytes, and nothing of sixteen bytes as figures.
use Rattle.std.specs.Prelude.{◌≡◌, ℕ, ◌<◌, List, length, slice_index}
use Rattle.tally.specs.Bytes.{figures_in, figures_bytes}
use Rattle.tally.specs.declared.change.Figures.{Figures}

-- any sixteen bytes come back as they were
abbrev pub BytesBack : Type 0
BytesBack = (bytes : List ℕ) → length bytes ≡ 16 → ((i : ℕ) → slice_index bytes i < 256) → figures_bytes (figures_in bytes) ≡ bytes

-- and so do any figures of 64 bits
abbrev pub FiguresBack : Type 0
FiguresBack = (f : Figures) → f.count < 18446744073709551616 → f.sum < 18446744073709551616 → figures_in (figures_bytes f) ≡ f
