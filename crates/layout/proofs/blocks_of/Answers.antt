-- A card's image has a block for every sixteen bytes, and what is no card has none.
use mathlib.Core.Path.{◌≡◌, sym, ◌∙◌}
use mathlib.Core.Bool.{true, false, not}
use Prim.Native.Nat.{ℕ, ◌/◌}
use native.Mathlib.Omega.{arith}
use lib.Dec.{eqb}
use borrow.Author.Tests.{eqb-true, eqb-false, not-true, not-false}
use Rattle.layout.specs.Layout.{sectors_of, blocks_of}
use Rattle.layout.proofs.Laws.{no_blocks, card_bytes}
use Rattle.layout.proofs.blocks_of.Goals as goal

card_blocks : (bytes : ℕ) → not (eqb (sectors_of bytes) 0) ≡ true → bytes / 16 ≡ blocks_of bytes
card_blocks bytes h = omega (arith, card_bytes bytes (eqb-false (sectors_of bytes) 0 (not-true (eqb (sectors_of bytes) 0) h)))

other_blocks : (bytes : ℕ) → not (eqb (sectors_of bytes) 0) ≡ false → 0 ≡ blocks_of bytes
other_blocks bytes h = sym (no_blocks bytes (eqb-true (sectors_of bytes) 0 (not-false (eqb (sectors_of bytes) 0) h)))

pub returns-then-is_card : goal.returns-then-is_card
returns-then-is_card c = card_blocks _ (sym c.is_card.ensures ∙ c.if-is_card.true)

pub returns : goal.returns
returns c = other_blocks _ (sym c.is_card.ensures ∙ c.if-is_card.false)
