-- One result for the public function of `crossing`, on the contract that its source states: the number, and the record and the reply afterwards, for a reply of any type.
-- Assumes nothing.
use mathlib.Core.Path.{◌≡◌, sym, ◌∙◌}
use mathlib.Core.List.{List}
use Prim.Native.Nat.{ℕ}
use base.Fml.{Lft}
use denote.Ref.{MutBor, at_last}
use denote.RattleType.{RattleType}
use denote.Param.Laws.{Laws, IsCopy}
use mir.Syntax.{Dict}
use Rattle.std.specs.declared.clone.Clone as clone
use Rattle.card.specs.declared.Answer as with_reply
use Rattle.crossing.proofs.give.Reads as give-contract

module _ (R : RattleType) (laws : Laws R) (copied : IsCopy R) (clones : clone.Ghosts R.Denot) (dict : Dict)
    (κ₀ κ₁ κ₂ : Lft) (a : with_reply.Answer R.Denot) (nak : ℕ) (session : MutBor (List ℕ)) (reply : MutBor R.Denot) where
  -- the number, and the record and the reply afterwards
  abbrev pub GiveMeets : ℕ → List ℕ → R.Denot → Type 0
  GiveMeets r s p =
      give-contract.Post R laws copied clones dict (κ₀, (κ₁, (κ₂, tt))) (a, (nak, (session, (reply, tt)))) r
      (a, (nak, (at_last session s, (at_last reply p, tt))))

  pub give_lem : (r r' : ℕ) (s s' : List ℕ) (p p' : R.Denot) → GiveMeets r s p → GiveMeets r' s' p' → (r ≡ r') × (s ≡ s') × (p ≡ p')
  give_lem r r' s s' p p' m n = (m.0 ∙ sym n.0, m.1.0 ∙ sym n.1.0, m.1.1 ∙ sym n.1.1)
