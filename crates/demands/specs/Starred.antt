-- The starred bench examples, 1 to 9, as one table: a question, and the answer that the card owes.
use Rattle.std.specs.Prelude.{◌≡◌, Bool, true, false, List, [], ◌∷◌, map, ℕ, ◌+◌, ℤ, pos, negsuc, Err, None, Ok, Option, Result, Some}
use Rattle.layout.specs.Layout.{block_at, sector_of, is_trailer, group_of, group_number}
use Rattle.layout.specs.declared.Group.{Group}
use Rattle.layout.specs.declared.Group.TheVariants.{First, Second, Third, Trailer}
use Rattle.access.specs.Bits.{bits_of}
use Rattle.value.specs.Whole.{signed, bits}
use Rattle.value.specs.Block.{encode_of, decode_of}
use Rattle.value.specs.declared.sum.SumError.{SumError}
use Rattle.value.specs.declared.sum.SumError.TheVariants.{Negative, Outside}
use Rattle.session.specs.declared.Kind.TheVariants.{Increment, Decrement}
use Rattle.judge.specs.Judge.{total_for, load_of}
use Rattle.card.specs.Effects.{number_of}

-- what an example asks
pub data Question : Type 0 where
  -- the sector of a block
  sector_of_block : ℕ → Question
  -- whether a block is a trailer
  trailer? : ℕ → Question
  -- the access group of an offset in a large sector
  large_group : ℕ → Question
  -- the bits of a group under three access bytes
  access : ℕ → ℕ → ℕ → Group → Question
  -- the value block of a value and an address
  encode : ℤ → ℕ → Question
  -- what sixteen bytes hold
  decode : List ℕ → Question
  -- a value plus, and minus, an operand
  plus : ℤ → ℤ → Question
  minus : ℤ → ℤ → Question

-- what it is owed
pub data Owed : Type 0 where
  number : ℕ → Owed
  yes_no : Bool → Owed
  -- C1 C2 C3 as a binary number
  three_bits : ℕ → Owed
  blocked : Owed
  bytes : List ℕ → Owed
  value_at : ℤ → ℕ → Owed
  no_value_block : Owed
  sum : ℤ → Owed
  refused : ℕ → Owed

abbrev pub access_answer : Option ℕ → Owed
access_answer (Some n) = three_bits n
access_answer None = blocked

abbrev pub decode_answer : Option (ℕ × ℕ) → Owed
decode_answer (Some (v, a)) = value_at (signed v) a
decode_answer None = no_value_block

-- an operand below zero and a sum that leaves the range are refused, each with the card's own number for it
abbrev pub sum_answer : Result ℕ SumError → Owed
sum_answer (Ok v) = sum (signed v)
sum_answer (Err Negative) = refused (number_of (load_of (Err Negative) 0))
sum_answer (Err Outside) = refused (number_of (load_of (Err Outside) 0))

-- the answer of the definitions; block 128 is the first of a large sector
unfoldable pub answer : Question → Owed
answer (sector_of_block b) = number (sector_of (block_at b)).0
answer (trailer? b) = yes_no (is_trailer (block_at b))
answer (large_group o) = number (group_number (group_of (block_at (128 + o))))
answer (access x y z g) = access_answer (bits_of (record { 0 = x; 1 = y; 2 = z }) g)
answer (encode v a) = bytes (encode_of v a)
answer (decode b) = decode_answer (decode_of b)
answer (plus v x) = sum_answer (total_for Increment (bits v) (bits x))
answer (minus v x) = sum_answer (total_for Decrement (bits v) (bits x))

pub record Line : Type 0 where
  pub asks : Question
  pub owes : Owed

infix 3 ◌⇒◌
abbrev pub ◌⇒◌ : Question → Owed → Line
q ⇒ a = record { asks = q; owes = a }

-- the table; `negsuc n` is -n - 1
unfoldable pub starred : List Line
starred =
    -- 1: the sectors of blocks 127, 128 and 255
    (sector_of_block 127 ⇒ number 31)
    ∷ (sector_of_block 128 ⇒ number 32)
    ∷ (sector_of_block 255 ⇒ number 39)
    -- 2: blocks 3, 143 and 255 are trailers; 131 is not
    ∷ (trailer? 3 ⇒ yes_no true)
    ∷ (trailer? 143 ⇒ yes_no true)
    ∷ (trailer? 255 ⇒ yes_no true)
    ∷ (trailer? 131 ⇒ yes_no false)
    -- 3: offsets in a large sector
    ∷ (large_group 4 ⇒ number 0)
    ∷ (large_group 5 ⇒ number 1)
    ∷ (large_group 9 ⇒ number 1)
    ∷ (large_group 10 ⇒ number 2)
    ∷ (large_group 14 ⇒ number 2)
    -- 4: FF 07 80, the trailer 001 and the data groups 000
    ∷ (access 0xFF 0x07 0x80 Trailer ⇒ three_bits 0b001)
    ∷ (access 0xFF 0x07 0x80 First ⇒ three_bits 0b000)
    ∷ (access 0xFF 0x07 0x80 Second ⇒ three_bits 0b000)
    ∷ (access 0xFF 0x07 0x80 Third ⇒ three_bits 0b000)
    -- 5: 00 00 00
    ∷ (access 0x00 0x00 0x00 Trailer ⇒ blocked)
    ∷ (access 0x00 0x00 0x00 First ⇒ blocked)
    ∷ (access 0x00 0x00 0x00 Second ⇒ blocked)
    ∷ (access 0x00 0x00 0x00 Third ⇒ blocked)
    -- 6: 1,234,567 at 17
    ∷ (encode (pos 1234567) 17
    ⇒ bytes (0x87 ∷ 0xD6 ∷ 0x12 ∷ 0x00 ∷ 0x78 ∷ 0x29 ∷ 0xED ∷ 0xFF ∷ 0x87 ∷ 0xD6 ∷ 0x12 ∷ 0x00 ∷ 0x11 ∷ 0xEE ∷ 0x11 ∷ 0xEE ∷ []))
    -- 7: -1 at 0, there and back, and with the last byte 00
    ∷ (encode (negsuc 0) 0
    ⇒ bytes (0xFF ∷ 0xFF ∷ 0xFF ∷ 0xFF ∷ 0x00 ∷ 0x00 ∷ 0x00 ∷ 0x00 ∷ 0xFF ∷ 0xFF ∷ 0xFF ∷ 0xFF ∷ 0x00 ∷ 0xFF ∷ 0x00 ∷ 0xFF ∷ []))
    ∷ (decode (0xFF ∷ 0xFF ∷ 0xFF ∷ 0xFF ∷ 0x00 ∷ 0x00 ∷ 0x00 ∷ 0x00 ∷ 0xFF ∷ 0xFF ∷ 0xFF ∷ 0xFF ∷ 0x00 ∷ 0xFF ∷ 0x00 ∷ 0xFF ∷ [])
    ⇒ value_at (negsuc 0) 0)
    ∷ (decode (0xFF ∷ 0xFF ∷ 0xFF ∷ 0xFF ∷ 0x00 ∷ 0x00 ∷ 0x00 ∷ 0x00 ∷ 0xFF ∷ 0xFF ∷ 0xFF ∷ 0xFF ∷ 0x00 ∷ 0xFF ∷ 0x00 ∷ 0x00 ∷ [])
    ⇒ no_value_block)
    -- 8: 2,147,483,647 plus 1, and 0 minus 1
    ∷ (plus (pos 2147483647) (pos 1) ⇒ refused 10)
    ∷ (minus (pos 0) (pos 1) ⇒ sum (negsuc 0))
    -- 9: -1 and 0, each minus -2,147,483,648
    ∷ (minus (negsuc 0) (negsuc 2147483647) ⇒ refused 13)
    ∷ (minus (pos 0) (negsuc 2147483647) ⇒ refused 13)
    ∷ []

-- the one statement: every question has the answer that is owed
abbrev pub Right : List Line → Type 0
Right rows = map (λ (r : Line). answer r.asks) rows ≡ map (λ (r : Line). r.owes) rows
