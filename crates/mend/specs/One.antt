-- One named block: its refusal, the image afterwards, and which of its sixteen bytes changed.
use Rattle.std.specs.Prelude.{cond, ◌||◌, List, [], ◌∷◌, ℕ, ◌+◌, ◌*◌, eqb, length, Option, Some, None, Result, Ok, Err, is_ok}
use Rattle.std.specs.Result.{result_and}
use Rattle.layout.specs.Layout.{has_block, is_trailer}
use Rattle.layout.specs.declared.Block.{Block}
use Rattle.memory.specs.Memory.{content_of, store_of}
use Rattle.value.specs.Whole.{signed}
use Rattle.value.specs.Block.{encode_of}
use Rattle.mend.specs.Rule.{mended_of}
use Rattle.mend.specs.declared.BlockRefusal.{BlockRefusal}
use Rattle.mend.specs.declared.BlockRefusal.TheVariants.{NoBlock, NotData, NoMajority}

-- what changed between two lists of bytes, as a number: bit i is set where byte i differs
unfoldable pub changed_of : List ℕ → List ℕ → ℕ
changed_of [] ys = 0
changed_of (x ∷ xs) [] = 0
changed_of (x ∷ xs) (y ∷ ys) = cond (eqb x y) 0 1 + 2 * changed_of xs ys

-- a refusal's number
abbrev pub block_number : BlockRefusal → ℕ
block_number NoBlock = 2
block_number NotData = 6
block_number NoMajority = 19

-- the refusal of a block by its address: the image has no such block; then block 0 or a trailer
unfoldable pub name_refusal : ℕ → Block → Result (Unit {0}) BlockRefusal
name_refusal bytes b = cond (has_block bytes b) (cond (eqb b.0 0 || is_trailer b) (Err NotData) (Ok tt)) (Err NoBlock)

-- sixteen bytes that are mended, and what changed in them; or they have no majority
unfoldable pub outcome_of : List ℕ → Option (ℕ × ℕ) → Result ℕ BlockRefusal
outcome_of block (Some m) = Ok (changed_of block (encode_of (signed m.0) m.1))
outcome_of block None = Err NoMajority

-- the image with a block rewritten in full; as it was without a majority
unfoldable pub rewritten : List ℕ → Block → Option (ℕ × ℕ) → List ℕ
rewritten image b (Some m) = store_of image b (encode_of (signed m.0) m.1)
rewritten image b None = image

-- one named block: what changed in it, or its refusal
unfoldable pub block_outcome : List ℕ → Block → Result ℕ BlockRefusal
block_outcome image b = result_and (name_refusal (length image) b) (outcome_of (content_of image b) (mended_of (content_of image b)))

-- and the image afterwards
unfoldable pub block_after : List ℕ → Block → List ℕ
block_after image b = cond (is_ok (name_refusal (length image) b)) (rewritten image b (mended_of (content_of image b))) image
