-- What mending can be relied on for: what is mended, what stays, and that a torn byte always comes back.
use Rattle.std.specs.Prelude.{◌≡◌, true, cond, ◌||◌, List, [], ◌∷◌, ℕ, ◌+◌, ◌<◌, ◌≤◌, eqb, length, get_or, set, replicate, Some, None, Result, Ok, Err, IsOk, IfOk}
use Rattle.layout.specs.Layout.{block_at, is_trailer}
use Rattle.layout.specs.declared.Block.{Block}
use Rattle.memory.specs.Memory.{content_of}
use Rattle.value.specs.Block.{decode_of}
use Rattle.mend.specs.Rule.{first_value, second_value, third_value, first_address, second_address, third_address, fourth_address, mended_of}
use Rattle.mend.specs.One.{name_refusal, block_outcome, block_after}
use Rattle.mend.specs.All.{call_refusal, mended_image}
use Rattle.mend.specs.declared.BlockRefusal.{BlockRefusal}

-- the numbers of a list are bytes
abbrev pub Bytes : List ℕ → Type 0
Bytes block = (i : ℕ) → get_or block i 0 < 256

-- how many of some readings say this
unfoldable pub count_of : ℕ → List ℕ → ℕ
count_of v [] = 0
count_of v (r ∷ rs) = cond (eqb r v) 1 0 + count_of v rs

abbrev pub values_of : List ℕ → List ℕ
values_of block = first_value block ∷ second_value block ∷ third_value block ∷ []

abbrev pub addresses_of : List ℕ → List ℕ
addresses_of block = first_address block ∷ second_address block ∷ third_address block ∷ fourth_address block ∷ []

-- where two readings of the value say v, and three of the address byte say a, the block is mended to v and a
abbrev pub ByMajority : Type 0
ByMajority =
    (block : List ℕ) (v a : ℕ) → 2 ≤ count_of v (values_of block) → 3 ≤ count_of a (addresses_of block) → mended_of block ≡ Some (v, a)

-- and nowhere else
abbrev pub OnlyByMajority : Type 0
OnlyByMajority =
    (block : List ℕ) (v a : ℕ) → mended_of block ≡ Some (v, a)
    → (2 ≤ count_of v (values_of block)) × (3 ≤ count_of a (addresses_of block))

-- a block that was mended is a value block of the majority's value and address byte
abbrev pub MendedIsValue : Type 0
MendedIsValue =
    (image : List ℕ) (b : Block) (v a : ℕ) → Bytes (content_of image b) → name_refusal (length image) b ≡ Ok tt
    → mended_of (content_of image b) ≡ Some (v, a) → decode_of (content_of (block_after image b) b) ≡ Some (v, a)

-- a sound block is accepted, and stays as it is
abbrev pub SoundStays : Type 0
SoundStays =
    (image : List ℕ) (b : Block) (v a : ℕ) → Bytes (content_of image b) → name_refusal (length image) b ≡ Ok tt
    → decode_of (content_of image b) ≡ Some (v, a)
    → (block_outcome image b ≡ Ok 0) × (block_after image b ≡ image)

-- a value block with one byte torn, whichever it is and whatever stands there, is mended to the block before the tear
abbrev pub TornByte : Type 0
TornByte =
    (image : List ℕ) (b : Block) (block : List ℕ) (v a i torn : ℕ) → Bytes block → decode_of block ≡ Some (v, a) → i < 16
    → name_refusal (length image) b ≡ Ok tt → content_of image b ≡ set block i torn
    → IsOk (block_outcome image b) × (content_of (block_after image b) b ≡ block)

-- no byte is told of what is mended, and a refusal stays
abbrev pub quiet : Result ℕ BlockRefusal → Result ℕ BlockRefusal
quiet (Ok changed) = Ok 0
quiet (Err refusal) = Err refusal

-- a second time nothing changes: the image and the refusal are as the first time, and no byte is told
abbrev pub SecondTime : Type 0
SecondTime =
    (image : List ℕ) (b : Block) → Bytes (content_of image b)
    → (block_after (block_after image b) b ≡ block_after image b)
    × (block_outcome (block_after image b) b ≡ quiet (block_outcome image b))

-- the blocks of an image hold bytes
abbrev pub ImageBytes : List ℕ → Type 0
ImageBytes image = (b : Block) → Bytes (content_of image b)

-- no byte is told of any name
abbrev pub NoneTold : List ℕ → List ℕ → Type 0
NoneTold image [] = Unit {0}
NoneTold image (n ∷ ns) = IfOk (block_outcome image (block_at n)) (λ changed. changed ≡ 0) × NoneTold (block_after image (block_at n)) ns

-- and so for a whole call that is made again
abbrev pub SecondCall : Type 0
SecondCall =
    (image names : List ℕ) → ImageBytes image
    → (mended_image (mended_image image names) names ≡ mended_image image names)
    × (call_refusal (length image) (length names) ≡ Ok tt → NoneTold (mended_image image names) names)

-- a block is not among some names
abbrev pub NotNamed : Block → List ℕ → Type 0
NotNamed j [] = Unit {0}
NotNamed j (n ∷ ns) = (n ≡ j.0 → ⊥) × NotNamed j ns

-- a block that is not named stays as it is
abbrev pub OthersStay : Type 0
OthersStay = (image names : List ℕ) (j : Block) → NotNamed j names → content_of (mended_image image names) j ≡ content_of image j

-- and so do block 0 and the trailers, named or not
abbrev pub KeptStay : Type 0
KeptStay =
    (image names : List ℕ) (j : Block) → (eqb j.0 0 || is_trailer j) ≡ true → content_of (mended_image image names) j ≡ content_of image j

-- sixteen zeros, and sixteen bytes FFh, have no majority
abbrev pub ZerosTie : Type 0
ZerosTie = (mended_of (replicate 16 0) ≡ None) × (mended_of (replicate 16 255) ≡ None)

-- nor have three readings of a value that differ, though at each place two of them have the same byte
abbrev pub NotByteByByte : Type 0
NotByteByByte =
    mended_of (0x01 ∷ 0x00 ∷ 0x00 ∷ 0x00 ∷ 0xFF ∷ 0xFE ∷ 0xFF ∷ 0xFF ∷ 0x00 ∷ 0x00 ∷ 0x01 ∷ 0x00 ∷ 0x04 ∷ 0xFB ∷ 0x04 ∷ 0xFB ∷ [])
    ≡ None
