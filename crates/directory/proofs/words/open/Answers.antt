-- The first word, which begins with the byte that makes C7h, and one word more.
use mathlib.Core.Path.{◌∙◌, ap}
use Prim.Native.Nat.{ℕ}
use lib.ListN.{drop}
use Rattle.directory.specs.Checksum.{bytes_on}
use Rattle.directory.proofs.Blocks.{opened}
use borrow.Author.Rules.{rules}
use Rattle.directory.proofs.words.open.Goals as goal

pub returns : goal.returns
returns c = let block = c.args.block in
    c.fold.ensures
    ∙ c.second_word.ensures _
    ∙ ap (λ (x : ℕ). bytes_on x (drop 8 block)) (c.word-first.ensures 0)
    ∙ opened block (search rules)
