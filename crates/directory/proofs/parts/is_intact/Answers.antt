-- The first block, a block more, and no block left.
use mathlib.Core.Path.{sym, ◌∙◌, ap}
use mathlib.Core.List.{List}
use Prim.Native.Nat.{ℕ}
use lib.ListN.{drop}
use Rattle.directory.specs.Checksum.{bytes_on}
use Rattle.directory.specs.Code.{standing}
use Rattle.directory.proofs.Blocks.{begun, compared, next_block, no_block}
use Rattle.directory.proofs.parts.is_intact.Goals as goal

pub loop-b-init : goal.loop-b-init
loop-b-init c = let is = c.blocks_of-first.ensures in
    begun c.args.image.now c.args.part _ _ (ap (λ (x : ℕ × ℕ). x.0) is) (ap (λ (x : ℕ × ℕ). x.1) is) _
    (c.open-s.ensures ∙ ap (λ (l : List ℕ). bytes_on 0xC7 (drop 1 l)) c.content-head.ensures)

pub loop-b-preserved : goal.loop-b-preserved
loop-b-preserved c = let l = c.loop-b in
    next_block c.args.image.now l.b _ (standing l.s) _ c.loop-b-test.true (c.more-s.ensures ∙ ap (bytes_on (standing l.s)) c.content.ensures) ∙ l.invariant

pub returns : goal.returns
returns c = let l = c.loop-b in
    let is = c.blocks_of-first.ensures in
    rw c.content-head.ensures
    (compared c.args.image.now c.args.part _ _ (ap (λ (x : ℕ × ℕ). x.0) is) (ap (λ (x : ℕ × ℕ). x.1) is) _
    (c.register.ensures ∙ sym (no_block c.args.image.now l.b _ (standing l.s) c.loop-b-test.false) ∙ l.invariant))
