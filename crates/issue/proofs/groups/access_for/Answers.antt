-- The three nibbles, with their inverses.
use mathlib.Core.Path.{◌∙◌}
use Rattle.access.specs.Bits.{nibble_of, encode_bits}
use Rattle.issue.specs.Groups.{access_for}
use Rattle.issue.proofs.groups.access_for.Goals as goal

pub with_inverses-requires : goal.with_inverses-requires
with_inverses-requires c = (c.nibble-c1.ensures.1, c.nibble-c2.ensures.1, c.nibble-c3.ensures.1)

pub returns : goal.returns
unfolding access_for encode_bits nibble_of
returns c = c.with_inverses.ensures ∙ rw (c.nibble-c3.ensures.0, c.nibble-c2.ensures.0, c.nibble-c1.ensures.0)
