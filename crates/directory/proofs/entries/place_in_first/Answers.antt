-- In the first block, or past it.
use mathlib.Core.Path.{sym, ◌∙◌}
use Rattle.layout.specs.Layout.{block_at}
use Rattle.memory.specs.Memory.{content_of}
use Rattle.memory.proofs.Laws.{content_length}
use Rattle.directory.specs.Directory.{part_of, entries_in}
use Rattle.directory.proofs.Numbers.{in_first, past_first}
use Rattle.directory.proofs.entries.place_in_first.Goals as goal

pub returns-in-Some : goal.returns-in-Some
unfolding part_of entries_in
returns-in-Some c = let a = c.args in
    let found = sym c.place_in.ensures ∙ c.in-Some.is in
    sym (in_first _ (content_of a.image.now (block_at 2)) (content_length a.image.now (block_at 1)) 1 a.wanted _ (rw c.content-a.ensures at found))

pub returns : goal.returns
unfolding part_of entries_in
returns c = let a = c.args in
    let none = sym c.place_in.ensures ∙ c.in_default.is in
    c.place_in-2.ensures
    ∙ rw c.content-b.ensures (past_first _ (content_of a.image.now (block_at 2)) (content_length a.image.now (block_at 1)) 1 a.wanted (rw c.content-a.ensures at none))
