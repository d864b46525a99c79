-- Each byte is what the closure gives at its place.
use mathlib.Core.Path.{◌≡◌, ◌∙◌, sym}
use Prim.Native.Nat.{ℕ, ◌<◌}
use lib.ListN.{get_or}
use Rattle.card.specs.Code.{seen_of}
use Rattle.card.proofs.Join.{hiding, from_elements, shown_each}
use borrow.Author.Rules.{rules}
use Rattle.card.proofs.trailer.shown.Goals as goal

pub returns : goal.returns
returns c =
    let each : (i : ℕ) → i < 16 → get_or c.from_fn.result i 0 ≡ seen_of (get_or hiding i 0) c.sight_of-sight.result (get_or c.args.trailer i 0) =
    λ i h. let at = c.from_fn.ensures.items.at i 0 h in search rules in
    from_elements 16 _ _ c.from_fn.ensures.items.long each ∙ rw c.sight_of-sight.ensures (sym (shown_each c.args.m c.args.trailer (search rules)))
