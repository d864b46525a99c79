-- What a frame can be taken for.
-- Assumes nothing.
use mathlib.Core.Path.{◌≡◌, refl, sym, ◌∙◌}
use mathlib.Core.Bool.{Bool, true, false, cond}
use mathlib.Core.List.{List}
use Prim.Native.Nat.{ℕ}
use lib.Dec.{eqb}
use lib.ListN.{length}
use borrow.Author.Tests.{eqb-true}
use Rattle.layout.specs.declared.Block.{Block}
use Rattle.access.specs.declared.rights.Letter.{Letter}
use Rattle.session.specs.declared.Kind.{Kind}
use Rattle.session.specs.declared.Stage.{Stage}
use Rattle.session.specs.declared.Stage.TheVariants.{Idle, WriteWaits, ValueWaits}
use Rattle.frame.specs.Command.{eight_bytes_of, two_bytes_of, first_of, command_of}
use Rattle.frame.specs.declared.Command.{Command}
use Rattle.frame.specs.declared.Command.TheVariants.{Unknown, Authenticate, Read, Write, Store, Begin, Apply, Transfer, Halt}

-- what a frame was taken for, and from which stage
pub data Came (frame : List ℕ) : Stage → Command → Type 0 where
  unknown : {w : Stage} → Came frame w Unknown
  authenticate : (b : Block) (l : Letter) → Came frame Idle (Authenticate b l)
  reads : (b : Block) → Came frame Idle (Read b)
  writes : (b : Block) → Came frame Idle (Write b)
  stores : (b : Block) → length frame ≡ 16 → Came frame (WriteWaits b) (Store b)
  begins : (b : Block) (k : Kind) → Came frame Idle (Begin b k)
  applies : (b : Block) (k : Kind) → length frame ≡ 4 → Came frame (ValueWaits k b) (Apply b k)
  transfers : (b : Block) → Came frame Idle (Transfer b)
  halts : Came frame Idle Halt

either : (frame : List ℕ) (w : Stage) (t : Bool) (x y : Command) → Came frame w x → Came frame w y → Came frame w (cond t x y)
either frame w true x y p q = p
either frame w false x y p q = q

two : (frame : List ℕ) (code b : ℕ) → Came frame Idle (two_bytes_of code b)
unfolding two_bytes_of
two frame code b =
    either frame Idle (eqb code 0x30) _ _ (reads _)
    (either frame Idle (eqb code 0xA0) _ _ (writes _)
    (either frame Idle (eqb code 0xC1) _ _ (begins _ _)
    (either frame Idle (eqb code 0xC0) _ _ (begins _ _)
    (either frame Idle (eqb code 0xC2) _ _ (begins _ _)
    (either frame Idle (eqb code 0xB0) _ _ (transfers _)
    (either frame Idle (eqb code 0x50) _ _ (either frame Idle (eqb b 0) _ _ halts unknown) unknown))))))

eight : (frame : List ℕ) (code b : ℕ) → Came frame Idle (eight_bytes_of code b)
unfolding eight_bytes_of
eight frame code b =
    either frame Idle (eqb code 0x60) _ _ (authenticate _ _) (either frame Idle (eqb code 0x61) _ _ (authenticate _ _) unknown)

pub came : (w : Stage) (frame : List ℕ) → Came frame w (command_of w frame)
unfolding command_of first_of
came Idle frame =
    either frame Idle (eqb (length frame) 8) _ _ (eight frame _ _) (either frame Idle (eqb (length frame) 2) _ _ (two frame _ _) unknown)
came (WriteWaits b) frame = go (eqb (length frame) 16) refl
  where
    go : (t : Bool) → eqb (length frame) 16 ≡ t → Came frame (WriteWaits b) (cond t (Store b) Unknown)
    go true e = stores b (eqb-true (length frame) 16 e)
    go false e = unknown
came (ValueWaits k b) frame = go (eqb (length frame) 4) refl
  where
    go : (t : Bool) → eqb (length frame) 4 ≡ t → Came frame (ValueWaits k b) (cond t (Apply b k) Unknown)
    go true e = applies b k (eqb-true (length frame) 4 e)
    go false e = unknown

-- an operand has four bytes
pub operand_length : (w : Stage) (frame : List ℕ) (c : Command) (b : Block) (k : Kind) → c ≡ command_of w frame → c ≡ Apply b k → length frame ≡ 4
operand_length w frame c b k e a = go w (command_of w frame) (came w frame) (sym e ∙ a)
  where
    go : (v : Stage) (d : Command) → Came frame v d → d ≡ Apply b k → length frame ≡ 4
    go v _ unknown q = cc
    go _ _ (authenticate b' l) q = cc
    go _ _ (reads b') q = cc
    go _ _ (writes b') q = cc
    go _ _ (stores b' n) q = cc
    go _ _ (begins b' k') q = cc
    go _ _ (applies b' k' n) q = n
    go _ _ (transfers b') q = cc
    go _ _ halts q = cc
