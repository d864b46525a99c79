-- Every act of the judgement is one that was accepted, or a refusal with a number.
-- Assumes nothing.
use Rattle.std.proofs.Common.{Err, None, Ok, Result, Some}
use mathlib.Core.Path.{◌≡◌, refl}
use mathlib.Core.Bool.{Bool, true, false, cond, not, ◌&&◌, false≢true}
use mathlib.Core.List.{List, [], ◌∷◌, ◌++◌}
use Prim.Native.Nat.{ℕ}
use native.Mathlib.Omega.{arith}
use lib.Dec.{eqb}
use lib.ListN.{length}
use borrow.Author.Tests.{eq-eqb, not-false}
use Rattle.layout.specs.Layout.{sector_of, is_trailer}
use Rattle.layout.specs.declared.Block.{Block}
use Rattle.memory.specs.Memory.{content_of}
use Rattle.access.specs.declared.rights.Letter.{Letter}
use Rattle.access.specs.declared.rights.Operation.{Operation}
use Rattle.access.specs.declared.rights.Operation.TheVariants as column
use Rattle.value.specs.Block.{bits_in, address_in}
use Rattle.value.specs.declared.sum.SumError.{SumError}
use Rattle.value.specs.declared.sum.SumError.TheVariants.{Negative, Outside}
use Rattle.session.specs.Session.{is_empty}
use Rattle.session.specs.Session.{Auth}
use Rattle.session.specs.declared.Kind.{Kind}
use Rattle.session.specs.declared.Stage.{Stage}
use Rattle.session.specs.declared.Stage.TheVariants.{Idle, WriteWaits, ValueWaits}
use Rattle.session.specs.Session.{Register}
use Rattle.session.specs.declared.Session.{Session}
use Rattle.frame.specs.Command.{command_of}
use Rattle.frame.specs.declared.Command.{Command}
use Rattle.frame.specs.declared.Command.TheVariants.{Read, Write, Store, Begin, Apply, Transfer}
use Rattle.frame.proofs.Came.{Came, unknown, authenticate, reads, writes, stores, begins, applies, transfers, halts, came}
use Rattle.judge.specs.First.{Check, check, passes, first, ruled}
use Rattle.judge.specs.Checks.{no_block, other_sector, is_blocked, wrong_key, no_value, kind_column, memory_checks, checks_of, authenticate_checks, frame_checks}
use Rattle.judge.specs.Judge.{total_for, load_of, applied_of, move_of, trailer_bits, shown_of, stored_of, done_of, commanded_of, judge_of}
use Rattle.judge.specs.declared.Act.{Act}
use Rattle.judge.specs.declared.Act.TheVariants.{Shown, TrailerShown, Stored, TrailerStored}
use Rattle.laws.specs.Accepted.{Allowed, Countable, Admitted, Accepted}

-- a list that passes: its first check does not apply, and the rest passes
next : (n : ℕ) (t : Bool) (cs : List Check) → first (check n t ∷ cs) ≡ passes → (t ≡ false) × (first cs ≡ passes)
unfolding first
next n true cs e = (cc, cc)
next n false cs e = (refl, e)

module _ (image : List ℕ) (auth : Auth) (o : Operation) (b : Block) where
  allowed : first (memory_checks image auth o b) ≡ passes → Allowed image auth o b
  unfolding memory_checks no_block other_sector is_blocked
  allowed e =
      let c2 = next _ _ _ e in
      let c3 = next _ _ _ c2.1 in
      let c5 = next _ _ _ c3.1 in
      let c6 = next _ _ _ c5.1 in
      let c7 = next _ _ _ c6.1 in
      record { has = not-false _ c2.0; own = not-false _ c3.0; opened = not-false _ c5.0; lawful = c6.0; entitled = c7.0 }

-- a list in two parts that passes: both pass
both : (xs ys : List Check) → first (xs ++ ys) ≡ passes → (first xs ≡ passes) × (first ys ≡ passes)
unfolding first
both [] ys e = (refl, e)
both (check n true ∷ xs) ys e = (cc, cc)
both (check n false ∷ xs) ys e = both xs ys e

-- no check's number is 0
abbrev numbered : List Check → Bool
numbered [] = true
numbered (check n t ∷ cs) = not (eqb n 0) && numbered cs

not_zero : (n : ℕ) (t : Bool) → (not (eqb n 0) && t) ≡ true → n ≡ 0 → ⊥
not_zero n t h z = let q : false ≡ true = rw (eq-eqb n 0 z) at h in absurd (false≢true q)

rest : (x y : Bool) → (x && y) ≡ true → y ≡ true
rest true y h = h
rest false y h = absurd (false≢true h)

module _ (image : List ℕ) (s : Session) (frame : List ℕ) where
  rule : (cs : List Check) (act : Act) → numbered cs ≡ true → (first cs ≡ passes → Accepted image s frame act) → Accepted image s frame (ruled (first cs) act)
  unfolding first ruled
  rule [] act h f = f refl
  rule (check n true ∷ cs) act h f = not_zero n (numbered cs) h
  rule (check n false ∷ cs) act h f = rule cs act (rest (not (eqb n 0)) (numbered cs) h) f

  countable : (k : Kind) (b : Block) → first (checks_of image s (Begin b k) frame) ≡ passes → Countable image s.auth k b
  unfolding checks_of no_value
  countable k b e =
      let p = both (memory_checks image s.auth (kind_column k) b) _ e in
      record { allowed = allowed image s.auth (kind_column k) b p.0; value = not-false _ (next _ _ _ p.1).0 }

  -- a Read is shown its data block, or a trailer by the trailer's bits
  shown : (b : Block) → s.stage ≡ Idle → Allowed image s.auth column.Read b → Accepted image s frame (shown_of image b)
  unfolding shown_of
  shown b w a = go (is_trailer b) refl
    where
      go : (t : Bool) → is_trailer b ≡ t → Accepted image s frame (cond t (TrailerShown b (trailer_bits image b)) (Shown b))
      go true e = (w, a, e, refl)
      go false e = (w, a, e)

  -- a Write is stored so too
  stored : (b : Block) → s.stage ≡ WriteWaits b → Allowed image s.auth column.Write b → length frame ≡ 16 → Accepted image s frame (stored_of image b)
  unfolding stored_of
  stored b w a l = go (is_trailer b) refl
    where
      go : (t : Bool) → is_trailer b ≡ t → Accepted image s frame (cond t (TrailerStored b (trailer_bits image b)) (Stored b))
      go true e = (w, a, l, e, refl)
      go false e = (w, a, l, e)

  load : (k : Kind) (b : Block) (t : Result ℕ SumError) → s.stage ≡ ValueWaits k b → Countable image s.auth k b
      → total_for k (bits_in (content_of image b)) (bits_in frame) ≡ t → Accepted image s frame (load_of t (address_in (content_of image b)))
  unfolding load_of
  load k b (Err Negative) w c e = λ h. omega arith
  load k b (Err Outside) w c e = λ h. omega arith
  load k b (Ok v) w c e = record { kind = k; source = b; awaited = w; countable = c; result = e; address = refl }

  move : (b : Block) (r : Register) → s.stage ≡ Idle → s.register ≡ r → Allowed image s.auth column.Decrement b → Accepted image s frame (move_of r b)
  unfolding move_of
  move b None w e a = λ h. omega arith
  move b (Some (v, x)) w e a = (w, a, e)

  admitted : (l : Letter) (b : Block) → first (authenticate_checks image l b frame) ≡ passes → Admitted image (sector_of b) l frame
  unfolding authenticate_checks no_block is_blocked wrong_key
  admitted l b e =
      let c2 = next _ _ _ e in
      let c5 = next _ _ _ c2.1 in
      let c4 = next _ _ _ c5.1 in
      record { block = b; sector = refl; has = not-false _ c2.0; opened = not-false _ c5.0; key = not-false _ c4.0 }

  command : (w : Stage) (c : Command) → s.stage ≡ w → Came frame w c → Accepted image s frame (commanded_of image s c frame)
  unfolding commanded_of checks_of done_of applied_of authenticate_checks memory_checks first ruled
  command w c e unknown = λ h. omega arith
  command w c e (authenticate b l) = rule (authenticate_checks image l b frame) _ refl (λ p. (e, admitted l b p))
  command w c e (reads b) = rule (checks_of image s (Read b) frame) _ refl (λ p. shown b e (allowed image s.auth column.Read b p))
  command w c e (writes b) = rule (checks_of image s (Write b) frame) _ refl (λ p. (e, allowed image s.auth column.Write b p))
  command w c e (stores b l) = rule (checks_of image s (Store b) frame) _ refl (λ p. stored b e (allowed image s.auth column.Write b p) l)
  command w c e (begins b k) = rule (checks_of image s (Begin b k) frame) _ refl (λ p. (e, countable k b p))
  command w c e (applies b k four) =
      rule (checks_of image s (Apply b k) frame) _ refl
      (λ p. load k b (total_for k (bits_in (content_of image b)) (bits_in frame)) e (countable k b p) refl)
  command w c e (transfers b) =
      rule (checks_of image s (Transfer b) frame) _ refl
      (λ p. move b s.register e refl (allowed image s.auth column.Decrement b (both (memory_checks image s.auth column.Decrement b) (check 9 (is_empty s.register) ∷ []) p).0))
  command w c e halts = tt

  -- every act of the judgement is accepted, or a refusal whose number is not 0
  pub sound : Accepted image s frame (judge_of image s frame)
  unfolding judge_of frame_checks
  sound = rule (frame_checks image s) _ refl (λ p. command s.stage (command_of s.stage frame) refl (came s.stage frame))
