-- The figures as sixteen bytes: the count, then the sum, each as its 64 bits, low byte first. Any sixteen bytes are figures.
use Rattle.std.specs.Prelude.{ℕ, ◌+◌, ◌*◌, ◌/◌, ◌%◌, List, ◌++◌, slice_index}
use Rattle.value.specs.Block.{word_of, four_of}
use Rattle.tally.specs.declared.change.Figures.{Figures}

-- the 64 bits that eight bytes hold, from a place on
abbrev pub eight_at : List ℕ → ℕ → ℕ
eight_at bytes i =
    word_of (slice_index bytes i) (slice_index bytes (i + 1)) (slice_index bytes (i + 2)) (slice_index bytes (i + 3))
    + 4294967296 * word_of (slice_index bytes (i + 4)) (slice_index bytes (i + 5)) (slice_index bytes (i + 6)) (slice_index bytes (i + 7))

-- the eight bytes of 64 bits
abbrev pub eight_of : ℕ → List ℕ
eight_of n = four_of (n % 4294967296) ++ four_of (n / 4294967296)

-- there and back
unfoldable pub figures_in : List ℕ → Figures
figures_in bytes = record { count = eight_at bytes 0; sum = eight_at bytes 8 }

unfoldable pub figures_bytes : Figures → List ℕ
figures_bytes f = eight_of f.count ++ eight_of f.sum
