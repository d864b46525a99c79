-- What access bytes say, in the words of the tests.
-- Assumes nothing.
use Rattle.std.proofs.Common.{None, Option, Some}
use mathlib.Core.Path.{◌≡◌}
use mathlib.Core.Bool.{true}
use mathlib.Core.List.{[], ◌∷◌}
use Prim.Native.Nat.{ℕ}
use Rattle.layout.specs.declared.Group.{Group}
use Rattle.layout.specs.declared.Group.TheVariants.{First, Second, Third, Trailer}
use Rattle.access.specs.Bits.{well_formed, group_bits, bits_of}
use Rattle.access.specs.declared.bits.AccessBytes.{AccessBytes}
use Rattle.std.specs.Prelude.{Ok, Err}
use Rattle.issue.specs.declared.AccessRefusal.TheVariants as refusal
use Rattle.access.proofs.BitLaws.{closed, opened}
use Rattle.issue.specs.Groups.{bits_in, told_by}

-- what access bytes say of their groups
module _ (x : AccessBytes) (r : Option ℕ) (asked : r ≡ bits_of x First) where
  pub all_blocked : r ≡ None → Err refusal.Blocked ≡ told_by x
  unfolding told_by
  all_blocked e = rw (closed x First r asked e)

  in_open : well_formed x ≡ true → (g : Group) → bits_in (bits_of x g) ≡ group_bits x g
  unfolding bits_of bits_in
  in_open w g = rw w

  pub all_told : (a b c d : ℕ) → r ≡ Some a → b ≡ bits_in (bits_of x Second) → c ≡ bits_in (bits_of x Third) → d ≡ bits_in (bits_of x Trailer)
      → Ok (a ∷ b ∷ c ∷ d ∷ []) ≡ told_by x
  unfolding told_by
  all_told a b c d e p q s =
      let o = opened x First r asked a e in
      let w : well_formed x ≡ true = o.0 in
      rw (w, o.1, p, q, s, in_open w Second, in_open w Third, in_open w Trailer)
