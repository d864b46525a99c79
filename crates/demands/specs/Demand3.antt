-- Demand 3: a block that begins as a value block keeps its count.
use Rattle.std.specs.Prelude.{◌≡◌, Bool, true, false, not, ◌||◌, cond, List, ℕ, eqb, ℤ, pos, neg_ℤ, ◌+ℤ◌, Some}
use Rattle.layout.specs.declared.Block.{Block}
use Rattle.memory.specs.Memory.{content_of}
use Rattle.value.specs.Whole.{signed}
use Rattle.value.specs.Block.{decode_of, bits_in}
use Rattle.session.specs.declared.Kind.{Kind}
use Rattle.session.specs.declared.Kind.TheVariants.{Increment, Decrement, Restore}
use Rattle.session.specs.declared.Stage.{Stage}
use Rattle.session.specs.declared.Stage.TheVariants as stage
use Rattle.judge.specs.declared.Act.{Act}
use Rattle.judge.specs.declared.Act.TheVariants.{Refused, Authenticated, Shown, TrailerShown, WriteWaits, ValueWaits, Stored, TrailerStored, Loaded, Moved, Halted}
use Rattle.edition.specs.declared.CardRecord.{CardRecord}
use Rattle.runs.specs.Run.{State, begin, Sent, run_of}
use Rattle.runs.specs.Watch.{noted, always, every_act}

-- what an act is to the count of a block: an accepted Write, or Transfer, into some block; a load; the register emptied; or nothing
pub data Deed : Type 0 where
  written : Block → Deed
  transferred : Block → Deed
  loaded : Deed
  emptied : Deed
  nothing : Deed

abbrev pub deed_of : Act → Deed
deed_of (Refused n) = emptied
deed_of (Authenticated t l) = emptied
deed_of (Shown c) = nothing
deed_of (TrailerShown c m) = nothing
deed_of (WriteWaits c) = nothing
deed_of (ValueWaits c k) = nothing
deed_of (Stored c) = written c
deed_of (TrailerStored c m) = written c
deed_of (Loaded v a) = loaded
deed_of (Moved c v a) = transferred c
deed_of Halted = emptied

-- an accepted Write into the block; an accepted Transfer into it
abbrev pub is_write : Block → Deed → Bool
is_write b (written c) = eqb c.0 b.0
is_write b (transferred c) = false
is_write b loaded = false
is_write b emptied = false
is_write b nothing = false

abbrev pub is_transfer : Block → Deed → Bool
is_transfer b (written c) = false
is_transfer b (transferred c) = eqb c.0 b.0
is_transfer b loaded = false
is_transfer b emptied = false
is_transfer b nothing = false

-- a load comes from the block whose second frame was awaited
abbrev pub awaited_of : Block → Stage → Bool
awaited_of b stage.Idle = false
awaited_of b (stage.WriteWaits c) = false
awaited_of b (stage.ValueWaits k c) = eqb c.0 b.0

-- noted along a run: whether the register holds a load from the block
abbrev pub own_after : Block → Bool → Stage → Deed → Bool
own_after b own w (written c) = own
own_after b own w (transferred c) = own
own_after b own w loaded = awaited_of b w
own_after b own w emptied = false
own_after b own w nothing = own

abbrev pub own_load : Block → Bool → State → List ℕ → Act → Bool
own_load b own st frame act = own_after b own st.session.stage (deed_of act)

-- the premise: the block receives no accepted Write, and accepted Transfers only of loads from itself
abbrev pub NotWritten : Block → State → List Sent → Type 0
NotWritten b st events = every_act (λ act. not (is_write b (deed_of act))) st events ≡ true

abbrev pub OwnTransfers : Block → State → List Sent → Type 0
OwnTransfers b st events = always (own_load b) (λ own st frame act. not (is_transfer b (deed_of act)) || own) false st events ≡ true

-- the books: what the last load changes, whether it has been counted, and the sum of what was
pub record Books : Type 0 where
  pub change : ℤ
  pub counted : Bool
  pub sum : ℤ

abbrev pub opened : Books
opened = record { change = pos 0; counted = true; sum = pos 0 }

-- the change that the second frame of a value operation asks for
abbrev pub change_of : Kind → List ℕ → ℤ
change_of Increment frame = signed (bits_in frame)
change_of Decrement frame = neg_ℤ (signed (bits_in frame))
change_of Restore frame = pos 0

abbrev pub change_by : Stage → List ℕ → ℤ
change_by stage.Idle frame = pos 0
change_by (stage.WriteWaits c) frame = pos 0
change_by (stage.ValueWaits k c) frame = change_of k frame

-- a load is counted at its first Transfer into the block
abbrev pub settled : Books → Books
settled k = record { change = k.change; counted = true; sum = cond k.counted k.sum (k.sum +ℤ k.change) }

abbrev pub entered : Block → Books → Stage → List ℕ → Deed → Books
entered b k w frame (written c) = k
entered b k w frame (transferred c) = cond (eqb c.0 b.0) (settled k) k
entered b k w frame loaded = record { change = change_by w frame; counted = false; sum = k.sum }
entered b k w frame emptied = k
entered b k w frame nothing = k

abbrev pub booked : Block → Books → State → List ℕ → Act → Books
booked b k st frame act = entered b k st.session.stage frame (deed_of act)

-- after any such run of a card of either edition from a fresh session the block is a value block, with the same address byte, and its value is the first one plus what was counted
abbrev pub Demand3 : Type 0
Demand3 =
    (k : CardRecord) (image : List ℕ) (b : Block) (v a : ℕ) → decode_of (content_of image b) ≡ Some (v, a)
    → (events : List Sent) → NotWritten b (begin k image) events → OwnTransfers b (begin k image) events
    → (w : ℕ) × (decode_of (content_of (run_of (begin k image) events).image b) ≡ Some (w, a))
    × (signed w ≡ signed v +ℤ (noted (booked b) opened (begin k image) events).sum)
