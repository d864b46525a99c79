-- The named blocks in their order, and the whole call.
use Rattle.std.specs.Prelude.{cond, List, [], ◌∷◌, ◌++◌, ℕ, ◌-◌, ◌/◌, ◌%◌, eqb, ltb, length, replicate, Result, Ok, Err, is_ok}
use Rattle.layout.specs.Layout.{block_at, sectors_of}
use Rattle.mend.specs.One.{block_number, block_outcome, block_after}
use Rattle.mend.specs.declared.BlockRefusal.{BlockRefusal}
use Rattle.mend.specs.declared.CallRefusal.{CallRefusal}
use Rattle.mend.specs.declared.CallRefusal.TheVariants.{NoCard, TooManyNames}

-- the image after all names, each block mended in the image that those before it left
unfoldable pub all_after : List ℕ → List ℕ → List ℕ
all_after image [] = image
all_after image (n ∷ ns) = all_after (block_after image (block_at n)) ns

-- three bytes for a name: 0, then what changed, low byte first; or the refusal's number, and no change
unfoldable pub row_of : Result ℕ BlockRefusal → List ℕ
row_of (Ok changed) = 0 ∷ (changed % 256) ∷ (changed / 256) ∷ []
row_of (Err refusal) = block_number refusal ∷ 0 ∷ 0 ∷ []

-- the rows of all names
unfoldable pub rows_of : List ℕ → List ℕ → List ℕ
rows_of image [] = []
rows_of image (n ∷ ns) = row_of (block_outcome image (block_at n)) ++ rows_of (block_after image (block_at n)) ns

-- a report has 768 bytes: the rows, and zeros behind them
unfoldable pub padded : List ℕ → List ℕ
padded rows = rows ++ replicate (768 - length rows) 0

-- its number
abbrev pub call_number : CallRefusal → ℕ
call_number NoCard = 11
call_number TooManyNames = 30

-- the refusal of the call: no card has this size; then more than 256 names
unfoldable pub call_refusal : ℕ → ℕ → Result (Unit {0}) CallRefusal
call_refusal bytes names = cond (eqb (sectors_of bytes) 0) (Err NoCard) (cond (ltb 256 names) (Err TooManyNames) (Ok tt))

-- the image after the call
unfoldable pub mended_image : List ℕ → List ℕ → List ℕ
mended_image image names = cond (is_ok (call_refusal (length image) (length names))) (all_after image names) image

-- and the report: nothing but zeros where the call is refused
unfoldable pub report_of : List ℕ → List ℕ → List ℕ
report_of image names =
    cond (is_ok (call_refusal (length image) (length names))) (padded (rows_of image names)) (replicate 768 0)
