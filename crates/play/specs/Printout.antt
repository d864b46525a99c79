-- The printout: every byte of it, as a definition of the script's bytes.
use Rattle.std.specs.Prelude.{cond, List, [], ◌∷◌, ◌++◌, ℕ, zero, suc, ◌+◌, ◌%◌}
use Rattle.layout.specs.Layout.{block_at, blocks_of}
use Rattle.memory.specs.Memory.{content_of}
use Rattle.value.specs.Block.{same}
use Rattle.card.specs.declared.Sign.{Sign}
use Rattle.card.specs.declared.Sign.TheVariants.{Ack, Nak, Data, Nothing}
use Rattle.edition.specs.Edition.{old_card}
use Rattle.edition.specs.declared.Edition.{Edition}
use Rattle.edition.specs.declared.Edition.TheVariants.{Old, Ev1}
use Rattle.edition.specs.declared.CardRecord.{CardRecord}
use Rattle.either_card.specs.Answers.{CardAnswer}
use Rattle.script.specs.declared.Refusal.{Refusal}
use Rattle.script.specs.Script.{number_of, Reading, lawful, refused, image_size, image_part, event_count, reading_of}
use Rattle.script.specs.Lock.{ev1_reading_of}
use Rattle.runs.specs.Run.{begin, Sent, run_of, answers_of}
use Rattle.play.specs.Text.{space, newline, script_word, card_word, events_word, block_word, letter_a, letter_n, dash, decimal_of, hex_digit, hex_of}
use Rattle.play.specs.Run.{events_in, ev1_card_of}

-- `script`, a space and the number of the refusal
unfoldable pub refusal_line : Refusal → List ℕ
refusal_line r = script_word ++ (space ∷ (decimal_of (number_of r) ++ (newline ∷ [])))

-- `card`, the image's size, `events` and how many they are
unfoldable pub header_line : ℕ → ℕ → List ℕ
header_line size count =
    card_word ++ (space ∷ (decimal_of size ++ (space ∷ (events_word ++ (space ∷ (decimal_of count ++ (newline ∷ [])))))))

-- a NAK: N, and an EV1's value after it as one hexadecimal digit
unfoldable pub nak_mark : Edition → ℕ → List ℕ
nak_mark Old value = letter_n ∷ []
nak_mark Ev1 value = letter_n ∷ hex_digit (value % 16) ∷ []

-- what an answer shows: A, N, - or the reply
unfoldable pub mark_of : Edition → Sign → ℕ → List ℕ → List ℕ
mark_of edition Ack value reply = letter_a ∷ []
mark_of edition Nak value reply = nak_mark edition value
mark_of edition Data value reply = hex_of reply
mark_of edition Nothing value reply = dash ∷ []

-- an event's number, its result and what it shows
unfoldable pub event_line : Edition → ℕ → CardAnswer → List ℕ
event_line edition i a =
    decimal_of i ++ (space ∷ (decimal_of a.answer.number ++ (space ∷ (mark_of edition a.answer.sign a.nak a.answer.reply ++ (newline ∷ [])))))

unfoldable pub event_lines : Edition → ℕ → List CardAnswer → List ℕ
event_lines edition i [] = []
event_lines edition i (a ∷ rest) = event_line edition i a ++ event_lines edition (i + 1) rest

-- `block`, its address and its bytes
unfoldable pub block_line : ℕ → List ℕ → List ℕ
block_line b bytes = block_word ++ (space ∷ (decimal_of b ++ (space ∷ (hex_of bytes ++ (newline ∷ [])))))

-- a line for a block that differs between two images
unfoldable pub change_line : List ℕ → List ℕ → ℕ → List ℕ
change_line old new b =
    cond (same (content_of old (block_at b)) (content_of new (block_at b))) [] (block_line b (content_of new (block_at b)))

-- such lines for n blocks from b on
unfoldable pub changed_from : List ℕ → List ℕ → ℕ → ℕ → List ℕ
changed_from old new zero b = []
changed_from old new (suc n) b = change_line old new b ++ changed_from old new n (b + 1)

-- a lawful script: the header, a line for each event of its run, and the blocks that differ at the end
unfoldable pub played_of : CardRecord → List ℕ → List Sent → List ℕ
played_of k script events =
    header_line (image_size script) (event_count script)
    ++ (event_lines k.edition 1 (answers_of (begin k (image_part script)) events)
    ++ changed_from (image_part script) (run_of (begin k (image_part script)) events).image (blocks_of (image_size script)) 0)

unfoldable pub printed : CardRecord → List ℕ → Reading → List ℕ
printed k script (lawful events) = played_of k script (events_in (lawful events))
printed k script (refused r) = refusal_line r

-- the whole printout of any script, on an old card
unfoldable pub printout_of : List ℕ → List ℕ
printout_of script = printed old_card script (reading_of script)

-- and on an EV1, with the choice that its script names
unfoldable pub ev1_printout_of : List ℕ → List ℕ
ev1_printout_of script = printed (ev1_card_of script) script (ev1_reading_of script)
