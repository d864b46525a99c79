-- The full count of an image, and its opening.
use Rattle.std.specs.Prelude.{ℕ, zero, suc, Bool, cond, not, ◌&&◌, ◌||◌, List, length, ℤ, pos, ◌+ℤ◌, ◌==◌, Result, Ok, Err}
use Rattle.layout.specs.Layout.{block_at, sectors_of, blocks_of, has_block, is_trailer}
use Rattle.layout.specs.declared.Block.{Block}
use Rattle.memory.specs.Memory.{content_of}
use Rattle.tally.specs.Change.{figures_of, count_share, sum_share}
use Rattle.tally.specs.declared.change.Figures.{Figures}
use Rattle.tally.specs.declared.Refusal.{Refusal}
use Rattle.tally.specs.declared.Refusal.TheVariants.{NoCard}

-- a block counts where the card has it, and it is neither block 0 nor a trailer
unfoldable pub counts : ℕ → Block → Bool
counts bytes b = has_block bytes b && not (b.0 == 0 || is_trailer b)

-- a block's share, by its content; 0 where it does not count
unfoldable pub share_at : (List ℕ → ℤ) → List ℕ → Block → ℤ
share_at share image b = cond (counts (length image) b) (share (content_of image b)) (pos 0)

-- the shares of the first n blocks, added up
unfoldable pub total_to : (List ℕ → ℤ) → List ℕ → ℕ → ℤ
total_to share image zero = pos 0
total_to share image (suc n) = total_to share image n +ℤ share_at share image (block_at n)

-- the full count: how many value blocks there are on a card, and the sum of their values
abbrev pub count_of : List ℕ → ℤ
count_of image = total_to count_share image (blocks_of (length image))

abbrev pub sum_of : List ℕ → ℤ
sum_of image = total_to sum_share image (blocks_of (length image))

-- as figures
abbrev pub full_figures : List ℕ → Figures
full_figures image = figures_of (count_of image) (sum_of image)

-- a refusal's number
abbrev pub refusal_number : Refusal → ℕ
refusal_number NoCard = 11

-- an opening: the full count, and 11 where no card has this size
unfoldable pub opened_of : List ℕ → Result Figures Refusal
opened_of image = cond (sectors_of (length image) == 0) (Err NoCard) (Ok (full_figures image))
