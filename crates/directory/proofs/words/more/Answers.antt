-- Two words more.
use mathlib.Core.Path.{◌∙◌, ap}
use Prim.Native.Nat.{ℕ}
use lib.ListN.{drop}
use Rattle.directory.specs.Checksum.{bytes_on}
use Rattle.directory.proofs.Blocks.{two_halves}
use Rattle.directory.proofs.words.more.Goals as goal

pub returns : goal.returns
returns c = let block = c.args.block in
    c.fold.ensures
    ∙ c.second_word.ensures _
    ∙ ap (λ (x : ℕ). bytes_on x (drop 8 block)) (c.fold-half.ensures ∙ c.first_word.ensures _)
    ∙ two_halves _ block
