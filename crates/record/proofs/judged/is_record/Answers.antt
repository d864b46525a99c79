-- The parts in turn.
use Prim.Native.Nat.{ℕ}
use lib.ListN.{get_or}
use mir.Syntax.{w8}
use mir.Val.{Fits}
use Rattle.record.proofs.Parts.{record_judged}
use borrow.Author.Rules.{rules}
use Rattle.record.proofs.judged.is_record.Goals as goal

pub returns : goal.returns
returns c = let bytes = c.args.bytes in
    let byte : (i : ℕ) → Fits w8 (get_or bytes i 0) = λ i. search rules in
    rw (c.is_register.ensures, c.is_stage.ensures, c.is_auth.ensures, c.word-value.ensures)
    (record_judged bytes (search rules) (λ i. (byte i).fits))
