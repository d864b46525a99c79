-- What held of a block's byte, of a part's checksum and of the desk's refusals when each had a function of its own.
-- Assumes nothing.
use mathlib.Core.Path.{◌≡◌, refl, sym, ◌∙◌}
use mathlib.Core.Bool.{Bool, true, false, ◌&&◌, false≢true}
use mathlib.Core.List.{List, [], ◌∷◌, ◌++◌}
use Prim.Native.Nat.{ℕ, suc, ◌+◌, ◌*◌, ◌<◌, ◌≤◌}
use native.Mathlib.Omega.{arith}
use lib.Dec.{eqb, leb}
use lib.ListN.{length, drop, get_or, get_or-append}
use lib.Seq.{get_or-take, get_or-drop, drop-cons, drop-append-le}
use borrow.Author.Tests.{eq-eqb, eqb-true, leb-true}
use Rattle.std.specs.Prelude.{Some, None, Err}
use Rattle.layout.specs.Layout.{sectors_of, has_block}
use Rattle.layout.specs.declared.Block.{Block}
use Rattle.memory.specs.Memory.{content_of, byte_of}
use Rattle.session.specs.declared.Kind.{Kind}
use Rattle.session.specs.declared.Session.{Session}
use Rattle.frame.specs.declared.Command.{Command}
use Rattle.frame.specs.declared.Command.TheVariants.{Unknown, Authenticate, Read, Write, Store, Begin, Apply, Transfer, Halt}
use Rattle.judge.specs.declared.Act.{Act}
use Rattle.judge.specs.Code.{is_memory, coded_of}
use Rattle.directory.specs.Checksum.{bytes_on, checksum_of}
use Rattle.directory.specs.Directory.{right_bytes}
use Rattle.directory.specs.Lookup.{intact_version, looked_up, lookup_of}
use Rattle.directory.specs.declared.Refusal.TheVariants as unread
use Rattle.directory.specs.declared.Version.{Version}
use Rattle.directory.specs.declared.Version.TheVariants.{One, Two}
use Rattle.directory.proofs.Blocks.{bytes_append}
use Rattle.issue.specs.Write.{version_for, version_to_write, write_refusal, directory_bytes, directory_blocks, filled, digit_of, announced, written_as, written, written_image}
use Rattle.issue.specs.declared.WriteRefusal.TheVariants as unwritten
use Rattle.issue.proofs.Choice.{and_both, Fits, needed_some}

-- a byte of a block that an image has
module _ (image : List ℕ) (b : Block) (t : Bool) (asked : t ≡ has_block (length image) b) where
  pub byte_in_lem : (at i : ℕ) → t ≡ true → at ≡ 16 * b.0 → i < 16 → get_or image (at + i) 0 ≡ byte_of image b i
  unfolding byte_of content_of
  byte_in_lem at i e s h = rw (← asked, e, s) (sym (get_or-take 16 (drop (16 * b.0) image) i 0 h ∙ get_or-drop (16 * b.0) image i 0))

-- eight bytes of a list, and the rest
module _ (l : List ℕ) (i : ℕ) (h : i + 8 ≤ length l) where
  abbrev pub eight_at : List ℕ
  eight_at =
      get_or l i 0 ∷ get_or l (i + 1) 0 ∷ get_or l (i + 2) 0 ∷ get_or l (i + 3) 0 ∷ get_or l (i + 4) 0 ∷ get_or l (i + 5) 0 ∷ get_or l (i + 6) 0 ∷ get_or l (i + 7) 0 ∷ []

  pub eight_at_lem : drop i l ≡ eight_at ++ drop (i + 8) l
  eight_at_lem =
      let e : (n : ℕ) → n < 8 → drop (i + n) l ≡ get_or l (i + n) 0 ∷ drop (i + (n + 1)) l = λ n k.
      let s : i + (n + 1) ≡ suc (i + n) = omega arith in rw s (drop-cons l (i + n) 0 (omega arith)) in
      let z : drop i l ≡ get_or l i 0 ∷ drop (i + 1) l =
      let s : i + 1 ≡ suc i = omega arith in rw s (drop-cons l i 0 (omega arith)) in
      rw (
        z,
        e 1 (omega arith),
        e 2 (omega arith),
        e 3 (omega arith),
        e 4 (omega arith),
        e 5 (omega arith),
        e 6 (omega arith),
        e 7 (omega arith),
      )

-- a part of two blocks, and one of three, begin with their checksum
module _ (a b : List ℕ) (n : length a ≡ 16) (r : ℕ) where
  pub right_two_lem : r ≡ bytes_on (bytes_on 0xC7 (drop 1 a)) b → eqb r (get_or a 0 0) ≡ right_bytes (a ++ b)
  unfolding right_bytes checksum_of
  right_two_lem e =
      rw (drop-append-le 1 a b (omega arith), bytes_append 0xC7 (drop 1 a) b, get_or-append a b 0 0 (omega arith), e)

  pub right_three_lem : (c : List ℕ) → r ≡ bytes_on (bytes_on (bytes_on 0xC7 (drop 1 a)) b) c → eqb r (get_or a 0 0) ≡ right_bytes (a ++ (b ++ c))
  unfolding right_bytes checksum_of
  right_three_lem c e =
      rw (
        drop-append-le 1 a (b ++ c) (omega arith),
        bytes_append 0xC7 (drop 1 a) (b ++ c),
        bytes_append (bytes_on 0xC7 (drop 1 a)) b c,
        get_or-append a (b ++ c) 0 0 (omega arith),
        e,
      )

-- an image of no card is not looked up
module _ (image : List ℕ) (w n : ℕ) (asked : n ≡ sectors_of (length image)) where
  pub no_card_lem : n ≡ 0 → Err unread.NoCard ≡ lookup_of image w
  unfolding lookup_of looked_up intact_version
  no_card_lem e = rw (← asked, eq-eqb n 0 e)

-- and no directory is written to it
module _ (image infos numbers : List ℕ) (n : ℕ) (asked : n ≡ sectors_of (length image)) where
  pub no_writing : n ≡ 0 → (Err unwritten.NoCard ≡ write_refusal (length image) (length numbers)) × (image ≡ written_image image infos numbers)
  unfolding written_image written version_to_write
  no_writing e = (rw (← asked, eq-eqb n 0 e), rw (← asked, eq-eqb n 0 e))

-- a directory of either version is its bytes in its blocks, announced
pub written_as_lem : (image infos numbers : List ℕ) (v : Version)
    → written_as image infos numbers v ≡ announced (filled image (directory_blocks v) (directory_bytes infos numbers v)) (digit_of v)
unfolding written_as
written_as_lem image infos numbers v = refl

-- so many bytes of numbers are for a version, or for none
pub data Choice (sectors bytes : ℕ) : Type 0 where
  one_of : (v : Version) → Fits sectors bytes v → version_for sectors bytes ≡ Some v → Choice sectors bytes
  no_version : version_for sectors bytes ≡ None → Choice sectors bytes

pub choice : (sectors bytes : ℕ) → Choice sectors bytes
unfolding version_for
choice sectors bytes = go (eqb bytes 30 && leb 16 sectors) refl (eqb bytes 76 && leb 40 sectors) refl
  where
    go : (t : Bool) → (eqb bytes 30 && leb 16 sectors) ≡ t → (u : Bool) → (eqb bytes 76 && leb 40 sectors) ≡ u → Choice sectors bytes
    go true e u f =
        let a = and_both (eqb bytes 30) (leb 16 sectors) e in
        Choice.one_of One (record { amount = eqb-true bytes 30 a.0; room = leb-true 16 sectors a.1 }) (rw e)
    go false e true f =
        let a = and_both (eqb bytes 76) (leb 40 sectors) f in
        Choice.one_of Two (record { amount = eqb-true bytes 76 a.0; room = leb-true 40 sectors a.1 }) (rw (e, f))
    go false e false f = Choice.no_version (rw (e, f))

-- fewer than sixteen sectors are for no version
pub none_small : (sectors bytes : ℕ) → sectors < 16 → version_for sectors bytes ≡ None
none_small sectors bytes h = go (choice sectors bytes)
  where
    go : Choice sectors bytes → version_for sectors bytes ≡ None
    go (Choice.one_of v f e) = absurd (omega (arith, f.room, needed_some v))
    go (Choice.no_version e) = e

-- a memory command is one of six, whatever the verdict on it
module _ (image : List ℕ) (s : Session) (c : Command) (frame : List ℕ) (memory : is_memory c ≡ true) where
  pub no_more : ((d : Block) → c ≡ Read d → ⊥) → ((d : Block) → c ≡ Write d → ⊥) → ((d : Block) → c ≡ Store d → ⊥)
      → ((d : Block) (k : Kind) → c ≡ Begin d k → ⊥) → ((d : Block) (k : Kind) → c ≡ Apply d k → ⊥) → ((d : Block) → c ≡ Transfer d → ⊥)
      → (act : Act) → act ≡ coded_of image s c frame
  unfolding is_memory
  no_more no_read no_write no_store no_begin no_apply no_transfer act = absurd (memory_of c memory refl)
    where
      memory_of : (x : Command) → is_memory x ≡ true → c ≡ x → ⊥
      memory_of Unknown h e = false≢true h
      memory_of (Authenticate d l) h e = false≢true h
      memory_of (Read d) h e = no_read d e
      memory_of (Write d) h e = no_write d e
      memory_of (Store d) h e = no_store d e
      memory_of (Begin d j) h e = no_begin d j e
      memory_of (Apply d j) h e = no_apply d j e
      memory_of (Transfer d) h e = no_transfer d e
      memory_of Halt h e = false≢true h
