-- Three words and the address bytes agree exactly when all sixteen bytes do.
use Prim.Native.Nat.{ℕ}
use lib.ListN.{get_or}
use mir.Syntax.{w8}
use mir.Val.{Fits}
use Rattle.value.proofs.Words.{words_agree}
use borrow.Author.Rules.{rules}
use Rattle.value.proofs.block.agrees.Goals as goal

pub returns : goal.returns
returns c = let block = c.args.block in
    let byte : (i : ℕ) → Fits w8 (get_or block i 0) = λ i. search rules in
    rw (c.word-plain.ensures, c.word-inverted.ensures, c.word-again.ensures, c.is_address-address.ensures)
    (words_agree block (search rules) (λ i. (byte i).fits))
