-- The two figures, their ranges, and what they become as one block's content changes.
use Rattle.std.specs.Prelude.{ℕ, ◌+◌, ◌-◌, ◌*◌, ◌%◌, Bool, cond, ◌&&◌, List, ℤ, pos, ◌+ℤ◌, ◌-ℤ◌, neg_ℤ, None, Option, Some}
use Rattle.value.specs.Whole.{signed}
use Rattle.value.specs.Block.{decode_of}
use Rattle.tally.specs.Whole.{whole, held, within}
use Rattle.tally.specs.declared.change.Figures.{Figures}

-- a count and a sum, as figures
abbrev pub figures_of : ℤ → ℤ → Figures
figures_of count sum = record { count = held count; sum = held sum }

-- the count is from 0 to 255
abbrev pub count_fits : ℤ → Bool
count_fits = within (pos 0) (pos 255)

-- the sum is from 255 times -2,147,483,648 to 255 times 2,147,483,647
abbrev pub sum_fits : ℤ → Bool
sum_fits = within (neg_ℤ (pos (255 * 2147483648))) (pos (255 * 2147483647))

-- both figures are in range
unfoldable pub in_range : Figures → Bool
in_range f = count_fits (whole f.count) && sum_fits (whole f.sum)

-- the share of sixteen bytes, by what they read as: in the count, 1 for a value block, else 0
unfoldable pub count_by : Option (ℕ × ℕ) → ℤ
count_by (Some (value, address)) = pos 1
count_by None = pos 0

-- and in the sum, the value of a value block, else 0
unfoldable pub sum_by : Option (ℕ × ℕ) → ℤ
sum_by (Some (value, address)) = signed value
sum_by None = pos 0

abbrev pub count_share : List ℕ → ℤ
count_share block = count_by (decode_of block)

abbrev pub sum_share : List ℕ → ℤ
sum_share block = sum_by (decode_of block)

-- a new count and a new sum: kept where both are in range, else refused as outside
unfoldable pub kept_of : ℤ → ℤ → Option Figures
kept_of count sum = cond (count_fits count && sum_fits sum) (Some (figures_of count sum)) None

-- the figures after a block's content went from old to new: the given ones less the old share, plus the new one.
-- Only the new figures are judged: neither the step between nor the given ones
unfoldable pub settled_of : Figures → List ℕ → List ℕ → Option Figures
settled_of f old new =
    kept_of ((whole f.count -ℤ count_share old) +ℤ count_share new) ((whole f.sum -ℤ sum_share old) +ℤ sum_share new)

-- how the code does it: figures added and taken off by their 64 bits, whatever is carried out at the top left out
unfoldable pub added_to : Figures → Figures → Figures
added_to f g =
    record { count = (f.count + g.count) % 18446744073709551616; sum = (f.sum + g.sum) % 18446744073709551616 }

unfoldable pub taken_from : Figures → Figures → Figures
taken_from f g =
    record {
      count = (f.count + (18446744073709551616 - g.count)) % 18446744073709551616;
      sum = (f.sum + (18446744073709551616 - g.sum)) % 18446744073709551616;
    }
