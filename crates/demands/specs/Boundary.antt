-- The demands at the exported calls: a board lends an image and twelve bytes of any content, and makes one call after the other.
use Rattle.std.specs.Prelude.{◌≡◌, List, [], ◌∷◌, ℕ, ◌%◌, ◌<◌, replicate}
use Rattle.session.specs.Session.{fresh_of}
use Rattle.card.specs.Effects.{packed_of}
use Rattle.record.specs.Record.{value_bits, record_of, session_from}
use Rattle.edition.specs.Edition.{old_card}
use Rattle.runs.specs.Run.{State, begin, Sent, answer_to, image_upon, run_of}
use Rattle.demands.specs.Demand1.{Row, table, asked, no_reply, Met}

-- what a board lends to a call, and has back from it
pub record Lent : Type 0 where
  pub image : List ℕ
  pub bytes : List ℕ

-- twelve bytes for a session, and a session as twelve bytes; these calls are the old edition's
abbrev pub state_of : Lent → State
state_of l = record { card = old_card; image = l.image; session = session_from l.bytes }

abbrev pub lent_of : State → Lent
lent_of st = record { image = st.image; bytes = record_of st.session }

-- what a call gives: number and sign in one, the reply, and what was lent as it is afterwards
pub record Given : Type 0 where
  pub result : ℕ
  pub reply : List ℕ
  pub left : Lent

abbrev pub given_by : State → Sent → Given
given_by st e =
    record { result = packed_of (answer_to st e).answer.number (answer_to st e).answer.sign; reply = (answer_to st e).answer.reply; left = record { image = image_upon st e; bytes = record_of (answer_to st e).answer.session } }

-- what is owed for whatever is lent
abbrev pub given : Lent → Sent → Given
given l e = given_by (state_of l) e

-- demand 1: a row that is met refuses, with twelve zeros for the session; and nothing else does
pub record BoundaryDemand1 (l : Lent) (e : Sent) : Type 0 where
  pub refuses : (r : Row) → Met r (asked (state_of l) e) (table (state_of l) e)
      → given l e ≡ record { result = packed_of r.number r.air; reply = no_reply e; left = record { image = l.image; bytes = replicate 12 0 } }
  pub alone : ((given l e).result % 256 ≡ 0 → ⊥)
      → (r : Row) × Met r (asked (state_of l) e) (table (state_of l) e) × ((given l e).result ≡ packed_of r.number r.air)

-- twelve zeros are the fresh session, both ways
abbrev pub ZerosAreFresh : Type 0
ZerosAreFresh = (session_from (replicate 12 0) ≡ fresh_of) × (record_of fresh_of ≡ replicate 12 0)

-- whatever is lent, the register of the answer has 32 bits, so that no session loses anything as twelve bytes
abbrev pub RegisterFits : Lent → Sent → Type 0
RegisterFits l e = value_bits (answer_to (state_of l) e).answer.session.register < 4294967296

-- calls one after the other, each on what the one before left
unfoldable pub calls_of : Lent → List Sent → Lent
calls_of l [] = l
calls_of l (e ∷ es) = calls_of (given l e).left es

-- from twelve zeros they are the run: after any of them the board holds the run's image and its session's record, and the next call gives what the run gives there
abbrev pub CallsAreTheRun : Type 0
CallsAreTheRun =
    (image : List ℕ) (past : List Sent) (e : Sent)
    → (calls_of (record { image = image; bytes = replicate 12 0 }) past ≡ lent_of (run_of (begin old_card image) past))
    × (given (calls_of (record { image = image; bytes = replicate 12 0 }) past) e ≡ given_by (run_of (begin old_card image) past) e)
