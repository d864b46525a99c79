-- Demand 1: any image, session and frame get the card's answer or one numbered refusal, each exactly when the table says.
use Rattle.std.specs.Prelude.{◌≡◌, Bool, true, false, not, cond, ◌||◌, List, [], ◌∷◌, ℕ, eqb, ◌+ℤ◌, ◌-ℤ◌, length, replicate, None, Option, Some}
use Rattle.layout.specs.Layout.{is_trailer, block_at}
use Rattle.layout.specs.declared.Block.{Block}
use Rattle.memory.specs.Memory.{content_of}
use Rattle.access.specs.declared.rights.Letter.{Letter}
use Rattle.access.specs.declared.rights.Operation.{Operation}
use Rattle.access.specs.declared.rights.Operation.TheVariants as column
use Rattle.value.specs.Block.{bits_in}
use Rattle.value.specs.Sum.{is_negative}
use Rattle.value.specs.Whole.{signed, in_range}
use Rattle.session.specs.Session.{fresh_of, is_empty}
use Rattle.session.specs.declared.Kind.{Kind}
use Rattle.session.specs.declared.Kind.TheVariants.{Increment, Decrement, Restore}
use Rattle.session.specs.declared.Session.{Session}
use Rattle.frame.specs.Command.{byte_in, command_of}
use Rattle.frame.specs.declared.Command.{Command}
use Rattle.frame.specs.declared.Command.TheVariants.{Unknown, Authenticate, Read, Write, Store, Begin, Apply, Transfer, Halt}
use Rattle.judge.specs.Checks.{no_card, incoherent, no_block, other_sector, is_blocked, access_of, wrong_key, is_forbidden, kind_column, no_right, no_value}
use Rattle.card.specs.declared.Sign.{Sign}
use Rattle.card.specs.declared.Sign.TheVariants.{Nak, Nothing}
use Rattle.sealed.specs.Sealed.{inner_of, unsealed}
use Rattle.edition.specs.Edition.{usage_of, wrong_size}
use Rattle.edition.specs.Edition.{Choice}
use Rattle.edition.specs.declared.CardRecord.{CardRecord}
use Rattle.either_card.specs.Nak.{nak_of}
use Rattle.either_card.specs.Personal.{is_personal}
use Rattle.either_card.specs.Answers.{CardAnswer}
use Rattle.runs.specs.Run.{State, Sent, reset, bare, sealed, answer_to, image_upon}
use Rattle.edition.specs.declared.Usage.{Usage}

-- what is asked of a card: a command of either edition, or an EV1's 40h with its type byte
pub data Wanted : Type 0 where
  shared : Command → Wanted
  personalize : ℕ → Wanted

-- a row of the table: its number, what goes on the air, and to which frames it applies
pub record Row : Type 0 where
  pub number : ℕ
  pub air : Sign
  pub applies : Wanted → Bool

abbrev pub row : ℕ → Sign → (Wanted → Bool) → Row
row n air applies = record { number = n; air = air; applies = applies }

-- whom a row concerns: every frame
abbrev pub any_frame : Bool → Wanted → Bool
any_frame t w = t

-- a frame that is no command
abbrev pub unknown : Wanted → Bool
unknown (shared Unknown) = true
unknown (shared (Authenticate b l)) = false
unknown (shared (Read b)) = false
unknown (shared (Write b)) = false
unknown (shared (Store b)) = false
unknown (shared (Begin b k)) = false
unknown (shared (Apply b k)) = false
unknown (shared (Transfer b)) = false
unknown (shared Halt) = false
unknown (personalize code) = false

-- an Authenticate, by its key letter and its block; a memory command, by its column of rights and its block: a second frame as its first, a Transfer in the column of decrement, 40h as a Read of block 0
abbrev pub block_command : (Letter → Block → Bool) → (Operation → Block → Bool) → Wanted → Bool
block_command p q (shared Unknown) = false
block_command p q (shared (Authenticate b l)) = p l b
block_command p q (shared (Read b)) = q column.Read b
block_command p q (shared (Write b)) = q column.Write b
block_command p q (shared (Store b)) = q column.Write b
block_command p q (shared (Begin b k)) = q (kind_column k) b
block_command p q (shared (Apply b k)) = q (kind_column k) b
block_command p q (shared (Transfer b)) = q column.Decrement b
block_command p q (shared Halt) = false
block_command p q (personalize code) = q column.Read (block_at 0)

-- of these: Authenticate alone, memory commands alone, by column or by block, and both by block
abbrev pub authenticate : (Letter → Block → Bool) → Wanted → Bool
authenticate p c = block_command p (λ o b. false) c

abbrev pub by_column : (Operation → Block → Bool) → Wanted → Bool
by_column q c = block_command (λ l b. false) q c

abbrev pub memory : (Block → Bool) → Wanted → Bool
memory p c = by_column (λ o b. p b) c

abbrev pub naming : (Block → Bool) → Wanted → Bool
naming p c = block_command (λ l b. p b) (λ o b. p b) c

-- both frames of a value operation, its second one, a Transfer
abbrev pub frames : (Block → Bool) → (Kind → Block → Bool) → Bool → Wanted → Bool
frames first second transfer (shared Unknown) = false
frames first second transfer (shared (Authenticate b l)) = false
frames first second transfer (shared (Read b)) = false
frames first second transfer (shared (Write b)) = false
frames first second transfer (shared (Store b)) = false
frames first second transfer (shared (Begin b k)) = first b
frames first second transfer (shared (Apply b k)) = second k b
frames first second transfer (shared (Transfer b)) = transfer
frames first second transfer (shared Halt) = false
frames first second transfer (personalize code) = false

abbrev pub value_operation : (Block → Bool) → Wanted → Bool
value_operation p c = frames p (λ k b. p b) false c

abbrev pub operand : (Kind → Block → Bool) → Wanted → Bool
operand p c = frames (λ b. false) p false c

abbrev pub transfer : Bool → Wanted → Bool
transfer t c = frames (λ b. false) (λ k b. false) t c

-- 13: the operand of an increment or a decrement is below zero
abbrev pub below_zero : List ℕ → Kind → Block → Bool
below_zero frame Increment b = is_negative (signed (bits_in frame))
below_zero frame Decrement b = is_negative (signed (bits_in frame))
below_zero frame Restore b = false

-- 10: the exact result is out of range, whatever the operand's sign; a Restore's is the value itself
abbrev pub out_of_range : List ℕ → List ℕ → Kind → Block → Bool
out_of_range image frame Increment b = not (in_range (signed (bits_in (content_of image b)) +ℤ signed (bits_in frame)))
out_of_range image frame Decrement b = not (in_range (signed (bits_in (content_of image b)) -ℤ signed (bits_in frame)))
out_of_range image frame Restore b = false

-- 40h alone, by its type byte
abbrev pub personal : (ℕ → Bool) → Wanted → Bool
personal p (shared c) = false
personal p (personalize code) = p code

-- 17: none of the four types; 18: the choice is locked
abbrev pub no_usage : Option Usage → Bool
no_usage (Some u) = false
no_usage None = true

abbrev pub is_locked : Choice → Bool
is_locked None = false
is_locked (Some u) = true

-- the table from 1 on, top to bottom
abbrev pub command_rows : CardRecord → List ℕ → Session → List ℕ → List Row
command_rows k image s frame =
    row 1 Nothing unknown
    ∷ row 2 Nak (naming (no_block image))
    ∷ row 3 Nak (memory (other_sector s.auth))
    ∷ row 5 Nak (naming (λ b. is_blocked (access_of image b)))
    ∷ row 4 Nothing (authenticate (λ l b. wrong_key image l b frame))
    ∷ row 6 Nak (by_column (λ o b. is_forbidden o (eqb b.0 0) (is_trailer b)))
    ∷ row 7 Nak (by_column (λ o b. no_right (access_of image b) s.auth o b))
    ∷ row 8 Nak (value_operation (no_value image))
    ∷ row 9 Nak (transfer (is_empty s.register))
    ∷ row 13 Nak (operand (below_zero frame))
    ∷ row 10 Nak (operand (out_of_range image frame))
    ∷ row 17 Nak (personal (λ code. no_usage (usage_of code)))
    ∷ row 18 Nak (personal (λ code. is_locked k.choice))
    ∷ []

-- 11: no card of this edition has an image of that length
abbrev pub no_card_for : CardRecord → List ℕ → Bool
no_card_for k image = wrong_size k.edition (length image) || no_card image

-- the whole table for what is sent: 11 and 12 first; with a checksum 14 comes next, and from there on the inner bytes are the frame; a field reset is never refused
abbrev pub table : State → Sent → List Row
table st reset = []
table st (bare frame) =
    row 11 Nothing (any_frame (no_card_for st.card st.image))
    ∷ row 12 Nothing (any_frame (incoherent st.image st.session))
    ∷ command_rows st.card st.image st.session frame
table st (sealed frame) =
    row 11 Nothing (any_frame (no_card_for st.card st.image))
    ∷ row 12 Nothing (any_frame (incoherent st.image st.session))
    ∷ row 14 Nak (any_frame (unsealed frame))
    ∷ command_rows st.card st.image st.session (inner_of frame)

-- what the frame asks for, and the reply of a refusal: sixteen zeros, or eighteen
abbrev pub wanted_of : CardRecord → Session → List ℕ → Wanted
wanted_of k s frame = cond (is_personal k.edition s.stage frame) (personalize (byte_in frame 1)) (shared (command_of s.stage frame))

abbrev pub asked : State → Sent → Wanted
asked st reset = shared Halt
asked st (bare frame) = wanted_of st.card st.session frame
asked st (sealed frame) = wanted_of st.card st.session (inner_of frame)

abbrev pub no_reply : Sent → List ℕ
no_reply reset = replicate 16 0
no_reply (bare frame) = replicate 16 0
no_reply (sealed frame) = replicate 18 0

-- a row is met: it applies, and none above it does
pub data Met (r : Row) (w : Wanted) : List Row → Type 0 where
  here : (below : List Row) → r.applies w ≡ true → Met r w (r ∷ below)
  below : (above : Row) (rest : List Row) → above.applies w ≡ false → Met r w rest → Met r w (above ∷ rest)

-- the answer that a row owes: its number and sign, zeros, a fresh session; the NAK's value by the register that was handed in; the record as it was
abbrev pub owed_for : State → Sent → Row → CardAnswer
owed_for st e r =
    record {
      answer = record { number = r.number; sign = r.air; reply = no_reply e; session = fresh_of };
      nak = nak_of st.card.edition st.session.register r.air r.number;
      card = st.card;
    }

pub record Demand1 (st : State) (e : Sent) : Type 0 where
  -- a row that is met refuses, and the image stays as it was
  pub refuses : (r : Row) → Met r (asked st e) (table st e) → (answer_to st e ≡ owed_for st e r) × (image_upon st e ≡ st.image)
  -- and nothing else does: a number other than 0 is that of a row that is met
  pub alone : ((answer_to st e).answer.number ≡ 0 → ⊥) → (r : Row) × Met r (asked st e) (table st e) × ((answer_to st e).answer.number ≡ r.number)
