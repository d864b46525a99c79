-- In the first block, in the second, or past both.
use mathlib.Core.Path.{sym, ◌∙◌}
use mathlib.Core.List.{◌++◌}
use Rattle.layout.specs.Layout.{block_at}
use Rattle.memory.specs.Memory.{content_of}
use Rattle.memory.proofs.Laws.{content_length}
use Rattle.directory.specs.Directory.{part_of, entries_in}
use Rattle.directory.proofs.Numbers.{in_first, past_first, in_next, past_next}
use Rattle.directory.proofs.entries.place_in_second.Goals as goal

pub returns-in-Some : goal.returns-in-Some
unfolding part_of entries_in
returns-in-Some c = let a = c.args in
    let later = content_of a.image.now (block_at 65) ++ content_of a.image.now (block_at 66) in
    let found = sym c.place_in.ensures ∙ c.in-Some.is in
    sym (in_first _ later (content_length a.image.now (block_at 64)) 16 a.wanted _ (rw c.content-a.ensures at found))

pub returns-in-Some-place_in : goal.returns-in-Some-place_in
unfolding part_of entries_in
returns-in-Some-place_in c = let a = c.args in
    let later = content_of a.image.now (block_at 65) ++ content_of a.image.now (block_at 66) in
    let none = sym c.place_in.ensures ∙ c.in_default.is in
    let found = sym c.place_in-2.ensures ∙ c.in-Some-place_in.is in
    sym (in_next _ (content_of a.image.now (block_at 66)) (content_length a.image.now (block_at 65)) 23 a.wanted _ (rw c.content-b.ensures at found))
    ∙ past_first _ later (content_length a.image.now (block_at 64)) 16 a.wanted (rw c.content-a.ensures at none)

pub returns : goal.returns
unfolding part_of entries_in
returns c = let a = c.args in
    let later = content_of a.image.now (block_at 65) ++ content_of a.image.now (block_at 66) in
    let none = sym c.place_in.ensures ∙ c.in_default.is in
    let still_none = sym c.place_in-2.ensures ∙ c.in_default-place_in.is in
    c.place_in-3.ensures
    ∙ rw c.content-c.ensures (past_next _ (content_of a.image.now (block_at 66)) (content_length a.image.now (block_at 65)) 23 a.wanted (rw c.content-b.ensures at still_none))
    ∙ past_first _ later (content_length a.image.now (block_at 64)) 16 a.wanted (rw c.content-a.ensures at none)
