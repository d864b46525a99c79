-- The code's shortcut for trailers, against the judgement.
-- Assumes nothing.
use Rattle.std.proofs.Common.{Err, None, Ok, Result, Some}
use mathlib.Core.Path.{◌≡◌, refl, ◌∙◌, ap}
use mathlib.Core.Bool.{Bool, true, false, cond, ◌&&◌, false≢true}
use mathlib.Core.List.{List}
use Prim.Native.Nat.{ℕ}
use lib.ListN.{length}
use Rattle.layout.specs.Layout.{sector_of, is_trailer}
use Rattle.layout.specs.declared.Block.{Block}
use Rattle.access.specs.declared.rights.Letter.{Letter}
use Rattle.access.specs.declared.rights.Operation.TheVariants as column
use Rattle.value.specs.Block.{bits_in, address_in}
use Rattle.value.specs.declared.sum.SumError.{SumError}
use Rattle.value.specs.declared.sum.SumError.TheVariants.{Negative, Outside}
use Rattle.memory.specs.Memory.{content_of}
use Rattle.session.specs.Session.{coherent_of}
use Rattle.session.specs.Session.{Auth}
use Rattle.session.specs.Session.{Register}
use Rattle.session.specs.declared.Session.{Session}
use Rattle.frame.specs.Command.{command_of}
use Rattle.frame.specs.declared.Command.{Command}
use Rattle.frame.specs.declared.Command.TheVariants.{Unknown, Authenticate, Read, Write, Store, Begin, Apply, Transfer, Halt}
use Rattle.judge.specs.First.{Outcome, passes, refuses, first, ruled}
use Rattle.judge.specs.Checks.{no_card, incoherent, access_of, writable_by, authenticate_checks, checks_of, frame_checks}
use Rattle.judge.specs.Judge.{total_for, load_of, applied_of, move_of, trailer_bits, shown_of, stored_of, done_of, commanded_of, judge_of}
use Rattle.judge.specs.Code.{trailer_grant, grant_of, column_of, block_of, is_memory, shown_as, stored_as, done_with, coded_of, shortened}
use Rattle.judge.specs.declared.checks.Grant.TheVariants.{Whole, InParts}
use Rattle.judge.specs.declared.Act.{Act}
use Rattle.judge.specs.declared.Act.TheVariants.{Authenticated, Shown, TrailerShown, Stored, TrailerStored}

-- a refusal is no shortcut
pub short_ruled : (auth : Auth) (o : Outcome) (act : Act) → ruled o (shortened auth act) ≡ shortened auth (ruled o act)
unfolding ruled shortened
short_ruled auth passes act = refl
short_ruled auth (refuses n) act = refl

short_load : (auth : Auth) (t : Result ℕ SumError) (address : ℕ) → load_of t address ≡ shortened auth (load_of t address)
unfolding load_of shortened
short_load auth (Ok v) address = refl
short_load auth (Err Negative) address = refl
short_load auth (Err Outside) address = refl

short_move : (auth : Auth) (r : Register) (b : Block) → move_of r b ≡ shortened auth (move_of r b)
unfolding move_of shortened
short_move auth None b = refl
short_move auth (Some (v, a)) b = refl

module _ (image : List ℕ) (s : Session) (b : Block) where
  short_shown : shown_as b (grant_of (access_of image b) s.auth column.Read b) ≡ shortened s.auth (shown_of image b)
  unfolding shown_as grant_of trailer_grant shown_of shortened
  short_shown = go (is_trailer b) (trailer_bits image b)
    where
      go : (t : Bool) (m : ℕ) → shown_as b (cond t (InParts m) Whole) ≡ shortened s.auth (cond t (TrailerShown b m) (Shown b))
      go true m = refl
      go false m = refl

  short_stored : stored_as b (grant_of (access_of image b) s.auth column.Write b) ≡ shortened s.auth (stored_of image b)
  unfolding stored_as grant_of trailer_grant stored_of shortened
  short_stored = go (is_trailer b) (trailer_bits image b)
    where
      every : ℕ → Bool
      every m = (writable_by s.auth m).a && (writable_by s.auth m).bits && (writable_by s.auth m).b

      whole : (t : Bool) (m : ℕ) → stored_as b (cond t Whole (InParts m)) ≡ cond t (Stored b) (TrailerStored b m)
      whole true m = refl
      whole false m = refl

      go : (t : Bool) (m : ℕ) → stored_as b (cond t (cond (every m) Whole (InParts m)) Whole) ≡ shortened s.auth (cond t (TrailerStored b m) (Stored b))
      go true m = whole (every m) m
      go false m = refl

-- what a memory command does in the code is its deed, shortened
short_done : (image : List ℕ) (s : Session) (c : Command) (frame : List ℕ) → is_memory c ≡ true
    → done_with (grant_of (access_of image (block_of c)) s.auth (column_of c) (block_of c)) image s c frame ≡ shortened s.auth (done_of image s c frame)
unfolding is_memory column_of block_of done_of applied_of shortened
short_done image s Unknown frame h = absurd (false≢true h)
short_done image s (Authenticate b l) frame h = absurd (false≢true h)
short_done image s (Read b) frame h = short_shown image s b
short_done image s (Write b) frame h = refl
short_done image s (Store b) frame h = short_stored image s b
short_done image s (Begin b k) frame h = refl
short_done image s (Apply b k) frame h = short_load s.auth (total_for k (bits_in (content_of image b)) (bits_in frame)) (address_in (content_of image b))
short_done image s (Transfer b) frame h = short_move s.auth s.register b
short_done image s Halt frame h = absurd (false≢true h)

pub coded : (image : List ℕ) (s : Session) (c : Command) (frame : List ℕ) → is_memory c ≡ true → coded_of image s c frame ≡ shortened s.auth (commanded_of image s c frame)
unfolding coded_of commanded_of
coded image s c frame h = ap (ruled (first (checks_of image s c frame))) (short_done image s c frame h) ∙ short_ruled s.auth (first (checks_of image s c frame)) (done_of image s c frame)

-- an Authenticate past 11 and 12
module _ (image : List ℕ) (s : Session) (frame : List ℕ) (b : Block) (l : Letter) where
  asked : no_card image ≡ false → coherent_of (length image) s ≡ true → command_of s.stage frame ≡ Authenticate b l
      → ruled (first (authenticate_checks image l b frame)) (Authenticated (sector_of b) l) ≡ judge_of image s frame
  unfolding judge_of frame_checks first ruled incoherent commanded_of checks_of done_of
  asked card coherent asks = rw (card, coherent, asks)

  pub authenticated : (r : Act) → no_card image ≡ false → coherent_of (length image) s ≡ true → command_of s.stage frame ≡ Authenticate b l
      → r ≡ ruled (first (authenticate_checks image l b frame)) (Authenticated (sector_of b) l) → r ≡ shortened s.auth (judge_of image s frame)
  unfolding shortened
  authenticated r card coherent asks e =
      e ∙ short_ruled s.auth (first (authenticate_checks image l b frame)) (Authenticated (sector_of b) l) ∙ ap (shortened s.auth) (asked card coherent asks)
