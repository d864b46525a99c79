-- The demands at the exported calls of a card with its record: a board lends an image, four bytes and twelve bytes of any content, and makes one call after the other.
use Rattle.std.specs.Prelude.{◌≡◌, List, [], ◌∷◌, ℕ, length, replicate, None, Option, Some}
use Rattle.card.specs.declared.Sign.TheVariants.{Nothing}
use Rattle.record.specs.Record.{record_of, session_from}
use Rattle.edition.specs.Edition.{old_card}
use Rattle.edition.specs.Bytes.{record_bytes, found_in}
use Rattle.edition.specs.declared.CardRecord.{CardRecord}
use Rattle.crossing.specs.Crossing.{packed_with}
use Rattle.runs.specs.Run.{State, begin, Sent, reset, bare, sealed, answer_to, image_upon, run_of}
use Rattle.demands.specs.Demand1.{Row, table, asked, no_reply, Met, owed_for}

-- what a board lends to a call, and has back from it
pub record CardLent : Type 0 where
  pub image : List ℕ
  pub card : List ℕ
  pub bytes : List ℕ

abbrev pub card_lent_of : State → CardLent
card_lent_of st = record { image = st.image; card = record_bytes st.card; bytes = record_of st.session }

-- four bytes that are a record, and twelve bytes, for a state
abbrev pub card_state_of : CardRecord → CardLent → State
card_state_of k l = record { card = k; image = l.image; session = session_from l.bytes }

-- what a call gives: number, sign and value in one, the reply, and what was lent as it is afterwards
pub record CardGiven : Type 0 where
  pub result : ℕ
  pub reply : List ℕ
  pub left : CardLent

abbrev pub card_given_by : State → Sent → CardGiven
card_given_by st e =
    record {
      result = packed_with (answer_to st e).answer.number (answer_to st e).answer.sign (answer_to st e).nak;
      reply = (answer_to st e).answer.reply;
      left = record { image = image_upon st e; card = record_bytes (answer_to st e).card; bytes = record_of (answer_to st e).answer.session };
    }

-- where the four bytes are no record: a reset is accepted, every frame gets 11; the four bytes and the image stay
abbrev pub without_card : CardLent → Sent → CardGiven
without_card l reset = record { result = packed_with 0 Nothing 0; reply = no_reply reset; left = record { image = l.image; card = l.card; bytes = replicate 12 0 } }
without_card l (bare frame) = record { result = packed_with 11 Nothing 0; reply = no_reply (bare frame); left = record { image = l.image; card = l.card; bytes = replicate 12 0 } }
without_card l (sealed frame) = record { result = packed_with 11 Nothing 0; reply = no_reply (sealed frame); left = record { image = l.image; card = l.card; bytes = replicate 12 0 } }

-- what is owed for whatever is lent
abbrev pub card_given_for : Option CardRecord → CardLent → Sent → CardGiven
card_given_for (Some k) l e = card_given_by (card_state_of k l) e
card_given_for None l e = without_card l e

abbrev pub card_given : CardLent → Sent → CardGiven
card_given l e = card_given_for (found_in l.card) l e

-- demand 1 for any twelve bytes and any record: a row that is met refuses, with twelve zeros for the session and the four bytes as they were
abbrev pub CardDemand1 : CardRecord → CardLent → Sent → Type 0
CardDemand1 k l e =
    length l.card ≡ 4 → found_in l.card ≡ Some k → (r : Row) → Met r (asked (card_state_of k l) e) (table (card_state_of k l) e)
    → card_given l e
    ≡ record {
      result = packed_with r.number r.air (owed_for (card_state_of k l) e r).nak;
      reply = no_reply e;
      left = record { image = l.image; card = l.card; bytes = replicate 12 0 };
    }

-- four zeros are an old card, both ways; and every record comes back from its bytes
abbrev pub RecordsCross : Type 0
RecordsCross = (record_bytes old_card ≡ replicate 4 0) × ((k : CardRecord) → found_in (record_bytes k) ≡ Some k)

-- calls one after the other, each on what the one before left
unfoldable pub card_calls_of : CardLent → List Sent → CardLent
card_calls_of l [] = l
card_calls_of l (e ∷ es) = card_calls_of (card_given l e).left es

-- from a record and twelve zeros they are the run
abbrev pub CardCallsAreTheRun : Type 0
CardCallsAreTheRun =
    (k : CardRecord) (image : List ℕ) (past : List Sent) (e : Sent)
    → (card_calls_of (record { image = image; card = record_bytes k; bytes = replicate 12 0 }) past ≡ card_lent_of (run_of (begin k image) past))
    × (card_given (card_calls_of (record { image = image; card = record_bytes k; bytes = replicate 12 0 }) past) e ≡ card_given_by (run_of (begin k image) past) e)
