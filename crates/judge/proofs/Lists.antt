-- Lists of checks, one part after the other; and what a verdict makes of a memory command.
-- Assumes nothing.
use mathlib.Core.Path.{◌≡◌, refl, sym, ◌∙◌, ap}
use mathlib.Core.Bool.{Bool, true, false, ◌||◌, false≢true}
use mathlib.Core.List.{List, [], ◌∷◌, ◌++◌}
use Prim.Native.Nat.{ℕ}
use native.Mathlib.Omega.{arith}
use lib.Dec.{eqb}
use Rattle.layout.specs.Layout.{is_trailer}
use Rattle.layout.specs.declared.Block.{Block}
use Rattle.access.specs.declared.rights.Letter.{Letter}
use Rattle.access.specs.declared.rights.Operation.{Operation}
use Rattle.access.specs.declared.rights.Operation.TheVariants as column
use Rattle.session.specs.Session.{is_empty}
use Rattle.session.specs.Session.{Auth}
use Rattle.session.specs.declared.Kind.{Kind}
use Rattle.session.specs.declared.Kind.TheVariants.{Increment, Decrement, Restore}
use Rattle.session.specs.declared.Session.{Session}
use Rattle.frame.specs.declared.Command.{Command}
use Rattle.frame.specs.declared.Command.TheVariants.{Unknown, Authenticate, Read, Write, Store, Begin, Apply, Transfer, Halt}
use Rattle.judge.specs.declared.Act.{Act}
use Rattle.judge.specs.declared.Act.TheVariants.{Refused}
use Rattle.std.proofs.Common.{Result, Ok, Err}
use Rattle.judge.specs.declared.Refusal.{Refusal}
use Rattle.judge.specs.declared.checks.Grant.{Grant}
use Rattle.judge.specs.declared.checks.Grant.TheVariants.{Whole, InParts}
use Rattle.judge.specs.First.{Check, check, Outcome, passes, refuses, first, ruled}
use Rattle.judge.specs.Checks.{access_of, no_value, is_forbidden, kind_column, memory_checks, checks_of}
use Rattle.judge.specs.Code.{numbered, grant_of, granted, verdict_of, column_of, block_of, is_memory, done_with, coded_of}

-- the first part refuses
pub stop : (xs ys : List Check) (n : ℕ) → first xs ≡ refuses n → first (xs ++ ys) ≡ refuses n
unfolding first
stop [] ys n e = cc
stop (check m true ∷ xs) ys n e = e
stop (check m false ∷ xs) ys n e = stop xs ys n e

-- the first part passes
pub pass : (xs ys : List Check) → first xs ≡ passes → first (xs ++ ys) ≡ first ys
unfolding first
pass [] ys e = refl
pass (check m true ∷ xs) ys e = cc
pass (check m false ∷ xs) ys e = pass xs ys e

-- what a memory command has to pass after the checks of every one
abbrev pub further_of : List ℕ → Session → Command → List Check
further_of image s Unknown = []
further_of image s (Authenticate b l) = []
further_of image s (Read b) = []
further_of image s (Write b) = []
further_of image s (Store b) = []
further_of image s (Begin b k) = check 8 (no_value image b) ∷ []
further_of image s (Apply b k) = check 8 (no_value image b) ∷ []
further_of image s (Transfer b) = check 9 (is_empty s.register) ∷ []
further_of image s Halt = []

-- a command's checks are the shared ones and then its own; of a value operation, 8 in both frames
begin_parts : (image : List ℕ) (s : Session) (b : Block) (k : Kind) (frame : List ℕ)
    → checks_of image s (Begin b k) frame ≡ memory_checks image s.auth (kind_column k) b ++ (check 8 (no_value image b) ∷ [])
unfolding checks_of
begin_parts image s b k frame = refl

apply_parts : (image : List ℕ) (s : Session) (b : Block) (k : Kind) (frame : List ℕ)
    → checks_of image s (Apply b k) frame ≡ memory_checks image s.auth (kind_column k) b ++ (check 8 (no_value image b) ∷ [])
unfolding checks_of
apply_parts image s b k frame = refl

two_parts : (image : List ℕ) (s : Session) (c : Command) (frame : List ℕ) → is_memory c ≡ true
    → checks_of image s c frame ≡ memory_checks image s.auth (column_of c) (block_of c) ++ further_of image s c
unfolding checks_of memory_checks column_of block_of is_memory
two_parts image s Unknown frame h = absurd (false≢true h)
two_parts image s (Authenticate b l) frame h = absurd (false≢true h)
two_parts image s (Read b) frame h = refl
two_parts image s (Write b) frame h = refl
two_parts image s (Store b) frame h = refl
two_parts image s (Begin b k) frame h = begin_parts image s b k frame
two_parts image s (Apply b k) frame h = apply_parts image s b k frame
two_parts image s (Transfer b) frame h = refl
two_parts image s Halt frame h = absurd (false≢true h)

-- what a verdict tells: the checks refused, or they passed and it is what was granted
told_stop : (o : Outcome) (g : Grant) (n : ℕ) → granted o g ≡ Err n → o ≡ refuses n
unfolding granted
told_stop passes g n e = let q : ◌≡◌ {A = ℕ} 0 1 = cc in absurd (omega (arith, q))
told_stop (refuses k) g n e = let q : k ≡ n = cc in ap refuses q

told_pass : (o : Outcome) (g v : Grant) → granted o g ≡ Ok v → (o ≡ passes) × (g ≡ v)
unfolding granted
told_pass passes g v e = let q : g ≡ v = cc in (refl, q)
told_pass (refuses k) g v e = let q : ◌≡◌ {A = ℕ} 0 1 = cc in absurd (omega (arith, q))

or_right : (x y : Bool) → (x || y) ≡ false → y ≡ false
or_right false y e = e
or_right true y e = absurd (false≢true (sym e))

-- a list that passes: its first check does not apply, and the rest passes
past : (n : ℕ) (applies : Bool) (cs : List Check) → first (check n applies ∷ cs) ≡ passes → (applies ≡ false) × (first cs ≡ passes)
unfolding first
past n true cs e = let q : ◌≡◌ {A = ℕ} 0 1 = cc in absurd (omega (arith, q))
past n false cs e = (refl, e)

-- 6 refuses a value operation on a trailer, so it never comes to parts
module _ (image : List ℕ) (auth : Auth) (b : Block) (m : ℕ) where
  no_value_lem : (o : Operation) → ((z t : Bool) → is_forbidden o z t ≡ (z || t)) → verdict_of image auth o b ≡ Ok (InParts m) → ⊥
  unfolding verdict_of grant_of memory_checks
  no_value_lem o value e =
      let f = told_pass (first (memory_checks image auth o b)) (grant_of (access_of image b) auth o b) (InParts m) e in
      let p = past 6 _ _ (past 5 _ _ (past 3 _ _ (past 2 _ _ f.0).1).1).1 in
      let t : is_trailer b ≡ false = or_right (eqb b.0 0) (is_trailer b) (sym (value (eqb b.0 0) (is_trailer b)) ∙ p.0) in
      let g : Whole ≡ InParts m = rw t at f.1 in
      let q : ◌≡◌ {A = ℕ} 0 1 = cc in
      absurd (omega (arith, q))

-- what the judgement hands on is a memory command
pub is_memory_lem : (c : Command) → (c ≡ Unknown → ⊥) → ((b : Block) (l : Letter) → c ≡ Authenticate b l → ⊥) → (c ≡ Halt → ⊥) → is_memory c ≡ true
unfolding is_memory
is_memory_lem Unknown u a h = absurd (u refl)
is_memory_lem (Authenticate b l) u a h = absurd (a b l refl)
is_memory_lem (Read b) u a h = refl
is_memory_lem (Write b) u a h = refl
is_memory_lem (Store b) u a h = refl
is_memory_lem (Begin b j) u a h = refl
is_memory_lem (Apply b j) u a h = refl
is_memory_lem (Transfer b) u a h = refl
is_memory_lem Halt u a h = absurd (h refl)

abbrev shared : List ℕ → Session → Command → List Check
shared image s c = memory_checks image s.auth (column_of c) (block_of c)

-- the code's way: the column and the block that it asked about, and the verdict on them, by the number of its refusal
module _ (image : List ℕ) (s : Session) (c : Command) (frame : List ℕ) (o : Operation) (b : Block) (v : Result Grant ℕ) (memory : is_memory c ≡ true)
    (asked : o ≡ column_of c) (about : b ≡ block_of c) (got : v ≡ verdict_of image s.auth o b) where
  judged : granted (first (shared image s c)) (grant_of (access_of image (block_of c)) s.auth (column_of c) (block_of c)) ≡ v
  unfolding verdict_of
  judged = rw (asked, about) at (sym got)

  pub stopped : (n : ℕ) → v ≡ Err n → Refused n ≡ coded_of image s c frame
  unfolding coded_of ruled
  stopped n e =
      let f : first (shared image s c) ≡ refuses n = told_stop (first (shared image s c)) _ n (judged ∙ e) in
      rw (two_parts image s c frame memory, stop (shared image s c) (further_of image s c) n f)

-- and the verdict that it got
module _ (image : List ℕ) (s : Session) (c : Command) (frame : List ℕ) (o : Operation) (b : Block) (v : Result Grant Refusal) (memory : is_memory c ≡ true)
    (asked : o ≡ column_of c) (about : b ≡ block_of c) (got : numbered v ≡ verdict_of image s.auth o b) where
  pub passed : (w : Grant) → v ≡ Ok w → (c' : Command) → c ≡ c'
      → ruled (first (further_of image s c')) (done_with w image s c' frame) ≡ coded_of image s c frame
  unfolding coded_of
  passed w e c' q =
      let f = told_pass (first (shared image s c)) _ w (judged image s c frame o b (numbered v) memory asked about got ∙ ap numbered e) in
      rw (← q) (rw (two_parts image s c frame memory, pass (shared image s c) (further_of image s c) f.0, f.1))

  -- only a Read and a Write come to parts of a trailer: 6 refuses the others
  pub no_parts : (m : ℕ) → v ≡ Ok (InParts m) → ((d : Block) → c ≡ Read d → ⊥) → ((d : Block) → c ≡ Write d → ⊥) → ((d : Block) → c ≡ Store d → ⊥) → (act : Act) → act ≡ coded_of image s c frame
  unfolding is_memory column_of block_of kind_column is_forbidden
  no_parts m e r w o act = absurd (parts_of c memory r w o (rw (asked, about) at (sym got ∙ ap numbered e)))
    where
      by_kind : (d : Block) (k : Kind) → verdict_of image s.auth (kind_column k) d ≡ Ok (InParts m) → ⊥
      by_kind d Increment = no_value_lem image s.auth d m column.Increment (λ z t. refl)
      by_kind d Decrement = no_value_lem image s.auth d m column.Decrement (λ z t. refl)
      by_kind d Restore = no_value_lem image s.auth d m column.Decrement (λ z t. refl)

      parts_of : (c : Command) → is_memory c ≡ true → ((d : Block) → c ≡ Read d → ⊥) → ((d : Block) → c ≡ Write d → ⊥) → ((d : Block) → c ≡ Store d → ⊥)
          → verdict_of image s.auth (column_of c) (block_of c) ≡ Ok (InParts m) → ⊥
      parts_of Unknown h r w o f = false≢true h
      parts_of (Authenticate d l) h r w o f = false≢true h
      parts_of (Read d) h r w o f = r d refl
      parts_of (Write d) h r w o f = w d refl
      parts_of (Store d) h r w o f = o d refl
      parts_of (Begin d j) h r w o f = by_kind d j f
      parts_of (Apply d j) h r w o f = by_kind d j f
      parts_of (Transfer d) h r w o f = no_value_lem image s.auth d m column.Decrement (λ z t. refl) f
      parts_of Halt h r w o f = false≢true h

  -- and what is no memory command does not come here
  pub no_more : ((d : Block) → c ≡ Read d → ⊥) → ((d : Block) → c ≡ Write d → ⊥) → ((d : Block) → c ≡ Store d → ⊥)
      → ((d : Block) (k : Kind) → c ≡ Begin d k → ⊥) → ((d : Block) (k : Kind) → c ≡ Apply d k → ⊥) → ((d : Block) → c ≡ Transfer d → ⊥)
      → (act : Act) → act ≡ coded_of image s c frame
  unfolding is_memory
  no_more no_read no_write no_store no_begin no_apply no_transfer act = absurd (memory_of c memory refl)
    where
      memory_of : (x : Command) → is_memory x ≡ true → c ≡ x → ⊥
      memory_of Unknown h e = false≢true h
      memory_of (Authenticate d l) h e = false≢true h
      memory_of (Read d) h e = no_read d e
      memory_of (Write d) h e = no_write d e
      memory_of (Store d) h e = no_store d e
      memory_of (Begin d j) h e = no_begin d j e
      memory_of (Apply d j) h e = no_apply d j e
      memory_of (Transfer d) h e = no_transfer d e
      memory_of Halt h e = false≢true h
