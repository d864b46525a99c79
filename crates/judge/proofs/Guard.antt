-- Checks 5, 6 and 7 by the kind of block: a trailer's group is the last, and block 0 is no trailer.
-- Assumes nothing.
use Rattle.std.proofs.Common.{None, Some, Result}
use mathlib.Core.Path.{◌≡◌, refl, sym, ◌∙◌, ap}
use mathlib.Core.Bool.{Bool, true, false, not, cond, false≢true}
use mathlib.Core.List.{List, [], ◌∷◌}
use Prim.Native.Nat.{ℕ, ◌<◌}
use native.Mathlib.Omega.{arith}
use lib.Dec.{eqb}
use borrow.Author.Tests.{eqb-true, not-false}
use Rattle.layout.specs.Layout.{sector_of, is_trailer, group_at, group_of}
use Rattle.layout.specs.declared.Block.{Block}
use Rattle.layout.specs.declared.Group.{Group}
use Rattle.layout.specs.declared.Group.TheVariants.{First, Trailer}
use Rattle.layout.proofs.Laws.{trailer_group, group_trailer}
use Rattle.access.specs.Bits.{well_formed, group_bits}
use Rattle.access.specs.Rights.{writable_of}
use Rattle.access.specs.declared.bits.AccessBytes.{AccessBytes}
use Rattle.access.specs.declared.rights.Letter.{Letter}
use Rattle.access.specs.declared.rights.Operation.{Operation}
use Rattle.session.specs.Session.{in_sector}
use Rattle.session.specs.Session.{Auth}
use Rattle.layout.specs.declared.Sector.{Sector}
use Rattle.judge.specs.First.{check, first}
use Rattle.judge.specs.Checks.{access_of, no_block, other_sector, is_blocked, is_forbidden, right_of, has_right, writable_by, no_right, memory_checks}
use Rattle.judge.specs.Code.{trailer_grant, grant_of, granted, verdict_of, guarded_of, letter_of}
use Rattle.judge.specs.declared.checks.Grant.{Grant}
use Rattle.judge.specs.declared.checks.Grant.TheVariants.{Whole}

-- block 0 is in the first group
zero_first : (b : Block) → group_of b ≡ Trailer → eqb b.0 0 ≡ false
unfolding group_of group_at
zero_first b g = go (eqb b.0 0) refl
  where
    go : (t : Bool) → eqb b.0 0 ≡ t → t ≡ false
    go false e = refl
    go true e =
        let f : First ≡ Trailer = rw (eqb-true b.0 0 e) at g in
        let q : ◌≡◌ {A = ℕ} 0 1 = cc in
        absurd (omega (arith, q))

module _ (x : AccessBytes) (l : Letter) (o : Operation) (b : Block) (small : b.0 < 256) (n : ℕ) (well : well_formed x ≡ true) (own : n ≡ group_bits x (group_of b)) where
  pub trailer_way : (g : Group) → g ≡ group_of b → g ≡ Trailer
      → granted (first (check 6 (is_forbidden o false true) ∷ check 7 (not (right_of l o true n n)) ∷ [])) (trailer_grant o (writable_of l n) n) ≡ guarded_of x l o b
  unfolding first is_blocked
  trailer_way g e q =
      let t : group_of b ≡ Trailer = sym e ∙ q in
      let m : n ≡ group_bits x Trailer = own ∙ ap (group_bits x) t in
      rw (well, group_trailer b small t, zero_first b t, t, m)

  pub data_way : (g : Group) (m : ℕ) → g ≡ group_of b → (g ≡ Trailer → ⊥) → m ≡ group_bits x Trailer
      → granted (first (check 6 (is_forbidden o (eqb b.0 0) false) ∷ check 7 (not (right_of l o false n m)) ∷ [])) Whole ≡ guarded_of x l o b
  unfolding first is_blocked
  data_way g m e k h = go (is_trailer b) refl
    where
      go : (t : Bool) → is_trailer b ≡ t
          → granted (first (check 6 (is_forbidden o (eqb b.0 0) false) ∷ check 7 (not (right_of l o false n m)) ∷ [])) Whole
          ≡ granted
          (first
          (check 5 (is_blocked x)
          ∷ check 6 (is_forbidden o (eqb b.0 0) t)
          ∷ check 7 (not (right_of l o t (group_bits x (group_of b)) (group_bits x Trailer)))
          ∷ []))
          (cond t (trailer_grant o (writable_of l (group_bits x Trailer)) (group_bits x Trailer)) Whole)
      go false f = rw (well, own, h)
      go true f = absurd (k (e ∙ trailer_group b small f))

-- in its own sector a session has a letter, and its rights are the letter's
rights_of : (auth : Auth) (t : Sector) (o : Operation) (trailer : Bool) (n m : ℕ) → in_sector auth t ≡ true
    → (has_right auth o trailer n m ≡ right_of (letter_of auth) o trailer n m) × (writable_by auth m ≡ writable_of (letter_of auth) m)
unfolding in_sector has_right writable_by letter_of
rights_of None t o trailer n m h = absurd (false≢true h)
rights_of (Some (s, l)) t o trailer n m h = (refl, refl)

-- so past 2 and 3 the sector decides
pub decided : (image : List ℕ) (auth : Auth) (o : Operation) (b : Block) (x : AccessBytes) (l : Letter) (v : Result Grant ℕ) → no_block image b ≡ false
    → other_sector auth b ≡ false → x ≡ access_of image b → l ≡ letter_of auth → v ≡ guarded_of x l o b → v ≡ verdict_of image auth o b
unfolding verdict_of memory_checks grant_of no_right other_sector first
decided image auth o b x l v has own ex el g =
    let r = rights_of auth (sector_of b) o (is_trailer b) (group_bits x (group_of b)) (group_bits x Trailer) (not-false (in_sector auth (sector_of b)) own) in
    g ∙ rw (has, own, ← ex, r.0, r.1, el)
