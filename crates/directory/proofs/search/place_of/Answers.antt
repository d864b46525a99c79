-- In the first part, which both versions have, or past it.
use mathlib.Core.Path.{sym, ◌∙◌}
use Rattle.directory.specs.Directory.{entries_of}
use Rattle.directory.proofs.Places.{in_version, past_first_part}
use Rattle.directory.proofs.search.place_of.Goals as goal

pub returns-in-Some : goal.returns-in-Some
returns-in-Some c = let a = c.args in sym (in_version a.image.now a.version a.wanted _ (sym c.place_in_first.ensures ∙ c.in-Some.is))

pub returns-in-One : goal.returns-in-One
unfolding entries_of
returns-in-One c = rw c.in-One.is (sym c.in_default.is ∙ c.place_in_first.ensures)

pub returns-in-Two : goal.returns-in-Two
returns-in-Two c = let a = c.args in
    c.place_in_second.ensures ∙ rw c.in-Two.is (past_first_part a.image.now a.wanted (sym c.place_in_first.ensures ∙ c.in_default.is))
