-- One result for each public function of `reader`: of a call that is lent a walk, the step and the walk afterwards.
--     opened_says and the like    the contract that the source states is the fact above it, so a contract that is loosened breaks them
-- Assumes nothing.
use mathlib.Core.Path.{◌≡◌, refl, sym, ap, ◌∙◌}
use mathlib.Core.List.{List}
use Prim.Native.Nat.{ℕ}
use seplogic.Ra.Ura.{Ura}
use base.Logic.{SProp}
use base.Fml.{Lft}
use prog.Memory.{Memory}
use prog.Routine.{Routine}
use types.Logic.{Logic}
use contract.Monad.{Fun, fact}
use denote.Bor.{Bor}
use denote.RattleType.{RattleType}
use denote.Param.Laws.{Laws, IsCopy}
use mir.Syntax.{Dict}
use Rattle.std.specs.declared.clone.Clone as clone
use denote.Ref.{MutBor}
use denote.Triple.Clauses.{at_exit}
use Rattle.script.specs.Script.{events_start}
use Rattle.reader.specs.Reader.{step_at}
use Rattle.reader.specs.declared.Reader.{Reader}
use Rattle.std.specs.Prelude.{Option, Result}
use Rattle.reader.specs.declared.Event.{Event}
use Rattle.reader.specs.declared.Step.{Step}
use Rattle.reader.specs.contracts.open as open-contract
use Rattle.reader.specs.contracts.Reader.place as place-contract
use Rattle.reader.specs.contracts.Reader.peek as peek-contract
use Rattle.reader.specs.contracts.Reader.next as next-contract
use Rattle.reader.proofs.event_from.Reads as event-from-contract
use Rattle.reader.proofs.bytes_of.Reads as bytes-of-contract
use Rattle.demands.specs.One.{OneResult}
use Rattle.demands.proofs.Exact.{exact}

-- two walks over one script at one place are one
same_walk : (r r' : Reader) → r.script ≡ r'.script → r.at ≡ r'.at → r ≡ r'
same_walk r r' p q = λ i. record { script = p i; at = q i }

abbrev pub OpenedSaid : Bor (List ℕ) → Reader → Type 0
OpenedSaid script r = (r.script ≡ script) × (r.at ≡ events_start script.now)

pub opened : (script : Bor (List ℕ)) → OneResult (OpenedSaid script)
opened script r r' p q = same_walk r r' (p.0 ∙ sym q.0) (p.1 ∙ sym q.1)

abbrev pub PlaceSaid : Reader → ℕ → Type 0
PlaceSaid walk n = n ≡ walk.at

pub place : (walk : Reader) → OneResult (PlaceSaid walk)
place walk = exact

abbrev pub PeekSaid : Reader → Step → Type 0
PeekSaid walk s = s ≡ step_at walk.script.now walk.at

pub peek : (walk : Reader) → OneResult (PeekSaid walk)
peek walk = exact

-- the step, and the walk behind the reference afterwards
abbrev pub NextSaid : Reader → Step → Reader → Type 0
NextSaid walk s last = (s ≡ step_at walk.script.now walk.at) × (last.script ≡ walk.script) × (last.at ≡ s.next)

pub next : (walk : Reader) (s s' : Step) (last last' : Reader) → NextSaid walk s last → NextSaid walk s' last' → (s ≡ s') × (last ≡ last')
next walk s s' last last' p q =
    let e : s ≡ s' = p.0 ∙ sym q.0 in
    (e, same_walk last last' (p.1 ∙ sym q.1) (p.2 ∙ ap (λ (x : Step). x.next) e ∙ sym q.2))

module _ {M : Type 1} {𝓤 : Ura M} (𝓛 : Logic 𝓤) (mem : Memory → SProp 𝓤) (run : Routine → Fun 𝓤) (κ κ' : Lft) where
  pub opened_says : (script : Bor (List ℕ)) (r : Reader) → ◌≡◌ {A = SProp 𝓤}
      ((open-contract.clauses 𝓛 mem run (κ, tt) (script, tt)).ensures tt r (at_exit open-contract.ended (κ, tt) (script, tt) (tt, tt)))
      (fact 𝓤 (OpenedSaid script r))
  opened_says script r = refl

  pub place_says : (walk : Reader) (n : ℕ) → ◌≡◌ {A = SProp 𝓤}
      ((place-contract.clauses 𝓛 mem run (κ, tt) (walk, tt)).ensures tt n (at_exit place-contract.ended (κ, tt) (walk, tt) (tt, tt)))
      (fact 𝓤 (PlaceSaid walk n))
  place_says walk n = refl

  pub peek_says : (walk : Reader) (s : Step) → ◌≡◌ {A = SProp 𝓤}
      ((peek-contract.clauses 𝓛 mem run (κ, tt) (walk, tt)).ensures tt s (at_exit peek-contract.ended (κ, tt) (walk, tt) (tt, tt)))
      (fact 𝓤 (PeekSaid walk s))
  peek_says walk s = refl

  pub next_says : (walk : MutBor Reader) (s : Step) (last : Reader) → ◌≡◌ {A = SProp 𝓤}
      ((next-contract.clauses 𝓛 mem run (κ, (κ', tt)) (walk, tt)).ensures tt s (at_exit next-contract.ended (κ, (κ', tt)) (walk, tt) (last, tt)))
      (fact 𝓤 (NextSaid walk.now s last))
  next_says walk s last = refl

pub event_from_lem : (κ : Lft) (script : Bor (List ℕ)) (at : ℕ) → OneResult (λ r. event-from-contract.Post (κ, tt) (script, (at, tt)) r (script, (at, tt)))
event_from_lem κ script at = exact

pub bytes_of : (E : RattleType) (laws : Laws E) (copied : IsCopy E) (clones : clone.Ghosts E.Denot) (dict : Dict) (κ κ' : Lft) (script : Bor (List ℕ)) (found : Option (Result Event E.Denot)) (r r' : Bor (List ℕ))
    → bytes-of-contract.Post E laws copied clones dict (κ, (κ', tt)) (script, (found, tt)) r (script, (found, tt))
    → bytes-of-contract.Post E laws copied clones dict (κ, (κ', tt)) (script, (found, tt)) r' (script, (found, tt))
    → r.now ≡ r'.now
bytes_of E laws copied clones dict κ κ' script found r r' p q = p ∙ sym q
