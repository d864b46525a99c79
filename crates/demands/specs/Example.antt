-- Runs that meet the premises, with the numbers of their answers. Of demand 3: a load transferred twice, one refused for its range, a wrong checksum, another block written, a second load; and on a
-- 4K card a Restore, a field reset and a Halt. Of a ride card: a decrement of -50 refused and the Transfer after it too, and a load transferred into another block. Of the total: a value block
-- written over, a value moved, a wrong checksum, and figures at the end of their range.
use Rattle.std.specs.Prelude.{◌≡◌, List, [], ◌∷◌, ◌++◌, map, ℕ, zero, suc, ℤ, pos, negsuc, replicate, None, Some, Ok}
use Rattle.layout.specs.Layout.{block_at, sector_at, trailer_of}
use Rattle.layout.specs.declared.Block.{Block}
use Rattle.layout.specs.declared.Sector.{Sector}
use Rattle.memory.specs.Memory.{content_of}
use Rattle.value.specs.Block.{encode_of, decode_of}
use Rattle.edition.specs.Edition.{old_card}
use Rattle.edition.specs.declared.Edition.TheVariants.{Ev1}
use Rattle.edition.specs.declared.Usage.TheVariants.{Shortened}
use Rattle.edition.specs.declared.CardRecord.{CardRecord}
use Rattle.either_card.specs.Answers.{CardAnswer}
use Rattle.tally.specs.Whole.{whole}
use Rattle.tally.specs.Change.{figures_of}
use Rattle.tally.specs.Full.{opened_of}
use Rattle.tally.specs.declared.change.Figures.{Figures}
use Rattle.checksum.specs.Checksum.{crc_of, two_of}
use Rattle.runs.specs.Run.{begin, Sent, reset, bare, sealed, run_of, answers_of}
use Rattle.runs.specs.Watch.{noted}
use Rattle.runs.specs.Kept.{KeptState, opening, figures_upon, kept_after, kept_run_of, kept_answers_of}
use Rattle.demands.specs.Demand3.{NotWritten, OwnTransfers, opened, booked}
use Rattle.demands.specs.OneWay.{RideSector}

-- a frame with its checksum
abbrev pub with_checksum : List ℕ → Sent
with_checksum bytes = sealed (bytes ++ two_of (crc_of bytes))

-- both keys FF six times, and these access bytes
abbrev pub trailer_with : List ℕ → List ℕ
trailer_with bits = replicate 6 0xFF ++ (bits ++ (0x69 ∷ replicate 6 0xFF))

-- the transport configuration
abbrev pub transport : List ℕ
transport = trailer_with (0xFF ∷ 0x07 ∷ 0x80 ∷ [])

abbrev pub blank_sectors : ℕ → List ℕ
blank_sectors zero = []
blank_sectors (suc n) = replicate 48 0 ++ (transport ++ blank_sectors n)

-- authenticate with key A for a block
abbrev pub login : ℕ → List ℕ
login b = 0x60 ∷ b ∷ replicate 6 0xFF

-- a run in which a block counts from v to w
pub record CountedRun (k : CardRecord) (image : List ℕ) (b : Block) (v w a : ℕ) (change : ℤ) (events : List Sent) (numbers : List ℕ) : Type 0 where
  pub begins : decode_of (content_of image b) ≡ Some (v, a)
  pub unwritten : NotWritten b (begin k image) events
  pub own : OwnTransfers b (begin k image) events
  pub answered : map (λ (x : CardAnswer). x.answer.number) (answers_of (begin k image) events) ≡ numbers
  pub counted : (noted (booked b) opened (begin k image) events).sum ≡ change
  pub ends : decode_of (content_of (run_of (begin k image) events).image b) ≡ Some (w, a)

-- a 1K card whose block 4 holds 100 with address byte 4
unfoldable pub purse_card : List ℕ
purse_card = blank_sectors 1 ++ ((encode_of (pos 100) 4 ++ (replicate 32 0 ++ transport)) ++ blank_sectors 14)

unfoldable pub purse_events : List Sent
purse_events =
    -- increment by 5, transfer twice
    with_checksum (login 4)
    ∷ bare (0xC1 ∷ 4 ∷ [])
    ∷ with_checksum (5 ∷ 0 ∷ 0 ∷ 0 ∷ [])
    ∷ bare (0xB0 ∷ 4 ∷ [])
    ∷ with_checksum (0xB0 ∷ 4 ∷ [])
    -- an increment by 2,147,483,647 leaves the range; a wrong checksum
    ∷ bare (0xC1 ∷ 4 ∷ [])
    ∷ bare (0xFF ∷ 0xFF ∷ 0xFF ∷ 0x7F ∷ [])
    ∷ sealed (0x30 ∷ 4 ∷ 0 ∷ 0 ∷ [])
    -- write the block beside it, decrement by 3, transfer
    ∷ bare (login 4)
    ∷ bare (0xA0 ∷ 5 ∷ [])
    ∷ with_checksum (replicate 16 0x11)
    ∷ bare (0xC0 ∷ 4 ∷ [])
    ∷ bare (3 ∷ 0 ∷ 0 ∷ 0 ∷ [])
    ∷ bare (0xB0 ∷ 4 ∷ [])
    ∷ []

abbrev pub PurseRun : Type 0
PurseRun = CountedRun old_card purse_card (block_at 4) 100 102 4 (pos 2) purse_events (0 ∷ 0 ∷ 0 ∷ 0 ∷ 0 ∷ 0 ∷ 10 ∷ 14 ∷ 0 ∷ 0 ∷ 0 ∷ 0 ∷ 0 ∷ 0 ∷ [])

-- a 4K card whose block 129, in its first large sector, holds 7 with address byte 200
unfoldable pub large_card : List ℕ
large_card = blank_sectors 32 ++ (replicate 16 0 ++ (encode_of (pos 7) 200 ++ (replicate 208 0 ++ (transport ++ replicate 1792 0))))

unfoldable pub large_events : List Sent
large_events =
    -- a Restore, whatever its operand, transferred into its own block and into another
    bare (login 129)
    ∷ bare (0xC2 ∷ 129 ∷ [])
    ∷ bare (0xFF ∷ 0xFF ∷ 0xFF ∷ 0xFF ∷ [])
    ∷ with_checksum (0xB0 ∷ 129 ∷ [])
    ∷ bare (0xB0 ∷ 130 ∷ [])
    -- after a field reset nothing is left to transfer
    ∷ reset
    ∷ bare (0xB0 ∷ 129 ∷ [])
    -- decrement by 2, and a Halt before the Transfer; then with it
    ∷ bare (login 129)
    ∷ bare (0xC0 ∷ 129 ∷ [])
    ∷ bare (2 ∷ 0 ∷ 0 ∷ 0 ∷ [])
    ∷ with_checksum (0x50 ∷ 0 ∷ [])
    ∷ bare (0xB0 ∷ 129 ∷ [])
    ∷ bare (login 129)
    ∷ bare (0xC0 ∷ 129 ∷ [])
    ∷ bare (2 ∷ 0 ∷ 0 ∷ 0 ∷ [])
    ∷ bare (0xB0 ∷ 129 ∷ [])
    ∷ []

abbrev pub LargeRun : Type 0
LargeRun = CountedRun old_card large_card (block_at 129) 7 5 200 (negsuc 1) large_events (0 ∷ 0 ∷ 0 ∷ 0 ∷ 0 ∷ 0 ∷ 3 ∷ 0 ∷ 0 ∷ 0 ∷ 0 ∷ 3 ∷ 0 ∷ 0 ∷ 0 ∷ 0 ∷ [])

-- a 1K card whose sector 1 has the bits 001 throughout, with 50 in block 4 and 30 in block 5
unfoldable pub ride_card : List ℕ
ride_card =
    blank_sectors 1 ++ ((encode_of (pos 50) 4 ++ (encode_of (pos 30) 5 ++ (replicate 16 0 ++ trailer_with (0xFF ∷ 0x00 ∷ 0xF0 ∷ [])))) ++ blank_sectors 14)

abbrev pub ride_sector : Sector
ride_sector = sector_at 1

unfoldable pub ride_events : List Sent
ride_events =
    -- a decrement of -50, and a Transfer all the same
    bare (login 4)
    ∷ bare (0xC0 ∷ 4 ∷ [])
    ∷ bare (0xCE ∷ 0xFF ∷ 0xFF ∷ 0xFF ∷ [])
    ∷ bare (0xB0 ∷ 4 ∷ [])
    -- a decrement of 1, transferred into the other block
    ∷ with_checksum (login 4)
    ∷ with_checksum (0xC0 ∷ 4 ∷ [])
    ∷ bare (1 ∷ 0 ∷ 0 ∷ 0 ∷ [])
    ∷ with_checksum (0xB0 ∷ 5 ∷ [])
    ∷ []

-- one block has risen, and the largest has not
pub record RideRun : Type 0 where
  pub rides : RideSector ride_card ride_sector
  pub unwritten : NotWritten (trailer_of ride_sector) (begin old_card ride_card) ride_events
  pub answered : map (λ (x : CardAnswer). x.answer.number) (answers_of (begin old_card ride_card) ride_events) ≡ 0 ∷ 0 ∷ 13 ∷ 3 ∷ 0 ∷ 0 ∷ 0 ∷ 0 ∷ []
  pub largest : decode_of (content_of (run_of (begin old_card ride_card) ride_events).image (block_at 4)) ≡ Some (50, 4)
  pub risen : decode_of (content_of (run_of (begin old_card ride_card) ride_events).image (block_at 5)) ≡ Some (49, 4)

-- an EV1 that is open to a choice
abbrev pub ev1_card : CardRecord
ev1_card = record { edition = Ev1; choice = None }

-- its twin of the ride card: 4K, the same sector 1
unfoldable pub ev1_ride_card : List ℕ
ev1_ride_card =
    blank_sectors 1
    ++ ((encode_of (pos 50) 4 ++ (encode_of (pos 30) 5 ++ (replicate 16 0 ++ trailer_with (0xFF ∷ 0x00 ∷ 0xF0 ∷ [])))) ++ (blank_sectors 30 ++ replicate 2048 0))

unfoldable pub ev1_ride_events : List Sent
ev1_ride_events =
    -- a type is chosen in sector 0; a second choice is refused, the first one stays
    bare (login 0)
    ∷ with_checksum (0x40 ∷ 0x40 ∷ [])
    ∷ bare (0x40 ∷ 0x20 ∷ [])
    -- a decrement of 1, transferred into the other block; 40h outside sector 0, with the register full
    ∷ with_checksum (login 4)
    ∷ bare (0xC0 ∷ 4 ∷ [])
    ∷ with_checksum (1 ∷ 0 ∷ 0 ∷ 0 ∷ [])
    ∷ bare (0xB0 ∷ 5 ∷ [])
    ∷ bare (0x40 ∷ 0x20 ∷ [])
    -- a decrement of -50, a wrong checksum, a field reset
    ∷ bare (login 4)
    ∷ bare (0xC0 ∷ 4 ∷ [])
    ∷ bare (0xCE ∷ 0xFF ∷ 0xFF ∷ 0xFF ∷ [])
    ∷ sealed (0x30 ∷ 4 ∷ 0 ∷ 0 ∷ [])
    ∷ reset
    ∷ []

pub record Ev1RideRun : Type 0 where
  pub rides : RideSector ev1_ride_card ride_sector
  pub unwritten : NotWritten (trailer_of ride_sector) (begin ev1_card ev1_ride_card) ev1_ride_events
  pub answered :
      map (λ (x : CardAnswer). x.answer.number) (answers_of (begin ev1_card ev1_ride_card) ev1_ride_events) ≡ 0 ∷ 0 ∷ 18 ∷ 0 ∷ 0 ∷ 0 ∷ 0 ∷ 3 ∷ 0 ∷ 0 ∷ 13 ∷ 14 ∷ 0 ∷ []
  pub values : map (λ (x : CardAnswer). x.nak) (answers_of (begin ev1_card ev1_ride_card) ev1_ride_events) ≡ 0 ∷ 0 ∷ 4 ∷ 0 ∷ 0 ∷ 0 ∷ 0 ∷ 0 ∷ 0 ∷ 0 ∷ 4 ∷ 5 ∷ 0 ∷ []
  pub chosen : (run_of (begin ev1_card ev1_ride_card) ev1_ride_events).card ≡ record { edition = Ev1; choice = Some Shortened }
  pub largest : decode_of (content_of (run_of (begin ev1_card ev1_ride_card) ev1_ride_events).image (block_at 4)) ≡ Some (50, 4)
  pub risen : decode_of (content_of (run_of (begin ev1_card ev1_ride_card) ev1_ride_events).image (block_at 5)) ≡ Some (49, 4)

-- the figures after each event of a run
unfoldable pub figures_along : KeptState → List Sent → List Figures
figures_along st [] = []
figures_along st (e ∷ es) = figures_upon st e ∷ figures_along (kept_after st e) es

-- a 1K card with 100 in block 4 and -30 in block 5
unfoldable pub total_card : List ℕ
total_card = blank_sectors 1 ++ ((encode_of (pos 100) 4 ++ (encode_of (negsuc 29) 5 ++ (replicate 16 0 ++ transport))) ++ blank_sectors 14)

unfoldable pub total_events : List Sent
total_events =
    -- block 4 is written over by what is no value block
    with_checksum (login 4)
    ∷ bare (0xA0 ∷ 4 ∷ [])
    ∷ with_checksum (replicate 16 0x11)
    -- a Restore of block 5, transferred into block 6
    ∷ bare (0xC2 ∷ 5 ∷ [])
    ∷ with_checksum (0 ∷ 0 ∷ 0 ∷ 0 ∷ [])
    ∷ bare (0xB0 ∷ 6 ∷ [])
    -- a wrong checksum; then block 5 less 5, and a field reset
    ∷ sealed (0x30 ∷ 4 ∷ 0 ∷ 0 ∷ [])
    ∷ bare (login 4)
    ∷ bare (0xC0 ∷ 5 ∷ [])
    ∷ bare (5 ∷ 0 ∷ 0 ∷ 0 ∷ [])
    ∷ with_checksum (0xB0 ∷ 5 ∷ [])
    ∷ reset
    ∷ []

-- what is answered, and count and sum after each event (`negsuc n` is -n - 1)
pub record FiguresRun (st : KeptState) (events : List Sent) (numbers : List ℕ) (counts sums : List ℤ) : Type 0 where
  pub answered : map (λ (x : CardAnswer). x.answer.number) (kept_answers_of st events) ≡ numbers
  pub counted : map (λ (f : Figures). whole f.count) (figures_along st events) ≡ counts
  pub summed : map (λ (f : Figures). whole f.sum) (figures_along st events) ≡ sums

pub record TotalRun : Type 0 where
  pub opened : opened_of total_card ≡ Ok (figures_of (pos 2) (pos 70))
  pub run :
      FiguresRun (opening old_card total_card) total_events (0 ∷ 0 ∷ 0 ∷ 0 ∷ 0 ∷ 0 ∷ 14 ∷ 0 ∷ 0 ∷ 0 ∷ 0 ∷ 0 ∷ [])
      (pos 2 ∷ pos 2 ∷ pos 1 ∷ pos 1 ∷ pos 1 ∷ pos 2 ∷ pos 2 ∷ pos 2 ∷ pos 2 ∷ pos 2 ∷ pos 2 ∷ pos 2 ∷ [])
      (pos 70 ∷ pos 70 ∷ negsuc 29 ∷ negsuc 29 ∷ negsuc 29 ∷ negsuc 59 ∷ negsuc 59 ∷ negsuc 59 ∷ negsuc 59 ∷ negsuc 59 ∷ negsuc 64 ∷ negsuc 64 ∷ [])
  pub anew : opened_of (kept_run_of (opening old_card total_card) total_events).state.image ≡ Ok (figures_of (pos 2) (negsuc 64))

-- the same card with a count of 255, which no opening gives
abbrev pub counted_full : KeptState
counted_full = record { state = begin old_card total_card; figures = figures_of (pos 255) (pos 0) }

unfoldable pub full_events : List Sent
full_events =
    -- one value block more is refused
    bare (login 4)
    ∷ bare (0xA0 ∷ 6 ∷ [])
    ∷ with_checksum (encode_of (pos 7) 6)
    -- one in the place of another is not
    ∷ bare (login 4)
    ∷ with_checksum (0xA0 ∷ 4 ∷ [])
    ∷ bare (encode_of (pos 7) 4)
    ∷ []

abbrev pub FullRun : Type 0
FullRun =
    FiguresRun counted_full full_events (0 ∷ 0 ∷ 29 ∷ 0 ∷ 0 ∷ 0 ∷ []) (pos 255 ∷ pos 255 ∷ pos 255 ∷ pos 255 ∷ pos 255 ∷ pos 255 ∷ [])
    (pos 0 ∷ pos 0 ∷ pos 0 ∷ pos 0 ∷ pos 0 ∷ negsuc 92 ∷ [])
