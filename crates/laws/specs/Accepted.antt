-- What stands behind an act of the judgement.
use Rattle.std.specs.Prelude.{◌≡◌, true, false, List, ℕ, eqb, length, Ok, Some}
use Rattle.layout.specs.Layout.{has_block, sector_of, is_trailer}
use Rattle.layout.specs.declared.Block.{Block}
use Rattle.layout.specs.declared.Sector.{Sector}
use Rattle.memory.specs.Memory.{content_of}
use Rattle.access.specs.Bits.{well_formed}
use Rattle.access.specs.declared.rights.Letter.{Letter}
use Rattle.access.specs.declared.rights.Operation.{Operation}
use Rattle.access.specs.declared.rights.Operation.TheVariants as column
use Rattle.value.specs.Block.{agreeing, bits_in, address_in}
use Rattle.session.specs.Session.{in_sector}
use Rattle.session.specs.Session.{Auth}
use Rattle.session.specs.declared.Kind.{Kind}
use Rattle.session.specs.declared.Stage.TheVariants as stage
use Rattle.session.specs.declared.Session.{Session}
use Rattle.judge.specs.Checks.{guard_of, access_of, is_key, is_forbidden, no_right, kind_column}
use Rattle.judge.specs.Judge.{total_for, trailer_bits}
use Rattle.judge.specs.declared.Act.{Act}
use Rattle.judge.specs.declared.Act.TheVariants.{Refused, Authenticated, Shown, TrailerShown, WriteWaits, ValueWaits, Stored, TrailerStored, Loaded, Moved, Halted}

-- a memory command on a block passed 2, 3, 5, 6 and 7
pub record Allowed (image : List ℕ) (auth : Auth) (o : Operation) (b : Block) : Type 0 where
  pub has : has_block (length image) b ≡ true
  pub own : in_sector auth (sector_of b) ≡ true
  pub opened : well_formed (access_of image b) ≡ true
  pub lawful : is_forbidden o (eqb b.0 0) (is_trailer b) ≡ false
  pub entitled : no_right (access_of image b) auth o b ≡ false

-- a value operation of a kind may begin on a block: its checks passed, 8 among them
pub record Countable (image : List ℕ) (auth : Auth) (k : Kind) (b : Block) : Type 0 where
  pub allowed : Allowed image auth (kind_column k) b
  pub value : agreeing (content_of image b) ≡ true

-- Authenticate named a block of the sector and passed 2, 5 and 4
pub record Admitted (image : List ℕ) (t : Sector) (l : Letter) (frame : List ℕ) : Type 0 where
  pub block : Block
  pub sector : t ≡ sector_of block
  pub has : has_block (length image) block ≡ true
  pub opened : well_formed (access_of image block) ≡ true
  pub key : is_key (guard_of image block) l frame ≡ true

-- the second frame of a value operation passed its checks, 13 and 10, and this is what it loaded
pub record Load (image : List ℕ) (s : Session) (frame : List ℕ) (v a : ℕ) : Type 0 where
  pub kind : Kind
  pub source : Block
  pub awaited : s.stage ≡ stage.ValueWaits kind source
  pub countable : Countable image s.auth kind source
  pub result : total_for kind (bits_in (content_of image source)) (bits_in frame) ≡ Ok v
  pub address : a ≡ address_in (content_of image source)

-- what stands behind each act: which frame was awaited, and what it has passed; a refusal has a number other than 0, and a Halt, or a field reset, asks for nothing
abbrev pub Accepted : List ℕ → Session → List ℕ → Act → Type 0
Accepted image s frame (Refused n) = n ≡ 0 → ⊥
Accepted image s frame (Authenticated t l) = (s.stage ≡ stage.Idle) × Admitted image t l frame
Accepted image s frame (Shown b) = (s.stage ≡ stage.Idle) × Allowed image s.auth column.Read b × (is_trailer b ≡ false)
Accepted image s frame (TrailerShown b m) = (s.stage ≡ stage.Idle) × Allowed image s.auth column.Read b × (is_trailer b ≡ true) × (m ≡ trailer_bits image b)
Accepted image s frame (WriteWaits b) = (s.stage ≡ stage.Idle) × Allowed image s.auth column.Write b
Accepted image s frame (ValueWaits b k) = (s.stage ≡ stage.Idle) × Countable image s.auth k b
Accepted image s frame (Stored b) = (s.stage ≡ stage.WriteWaits b) × Allowed image s.auth column.Write b × (length frame ≡ 16) × (is_trailer b ≡ false)
Accepted image s frame (TrailerStored b m) =
    (s.stage ≡ stage.WriteWaits b) × Allowed image s.auth column.Write b × (length frame ≡ 16) × (is_trailer b ≡ true) × (m ≡ trailer_bits image b)
Accepted image s frame (Loaded v a) = Load image s frame v a
Accepted image s frame (Moved b v a) = (s.stage ≡ stage.Idle) × Allowed image s.auth column.Decrement b × (s.register ≡ Some (v, a))
Accepted image s frame Halted = Unit {0}
