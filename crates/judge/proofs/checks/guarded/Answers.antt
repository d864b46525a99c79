-- Checks 5, 6 and 7 in their order, by the kind of block.
use mathlib.Core.Path.{◌∙◌, ap}
use Rattle.access.proofs.BitLaws.{closed, opened}
use Rattle.access.specs.Bits.{group_bits}
use Rattle.judge.specs.First.{first}
use Rattle.judge.specs.Checks.{is_blocked}
use Rattle.judge.specs.Code.{granted}
use Rattle.judge.proofs.Guard.{trailer_way, data_way}
use borrow.Author.Rules.{rules}
use Rattle.judge.proofs.checks.guarded.Goals as goal

pub returns-in_default : goal.returns-in_default
unfolding first is_blocked granted
returns-in_default c = rw (closed _ _ _ c.bits_of.ensures c.in_default.is)

pub returns-in_default-bits_of : goal.returns-in_default-bits_of
unfolding first is_blocked granted
returns-in_default-bits_of c = rw (closed _ _ _ c.bits_of-2.ensures c.in_default-bits_of.is)

pub returns-in-Trailer : goal.returns-in-Trailer
returns-in-Trailer c = let n = opened _ _ _ c.bits_of.ensures _ c.in-Some.is in
    let g = c.group_of-g.ensures in
    c.trailer_rule.ensures ∙ trailer_way _ _ _ _ (search rules) _ n.0 (n.1 ∙ ap (group_bits _) g) _ g c.in-Trailer.is

pub returns-in_default-g : goal.returns-in_default-g
returns-in_default-g c = let n = opened _ _ _ c.bits_of.ensures _ c.in-Some.is in
    let m = opened _ _ _ c.bits_of-2.ensures _ c.in-Some-bits_of.is in
    let g = c.group_of-g.ensures in
    c.data_rule.ensures ∙ data_way _ _ _ _ (search rules) _ n.0 (n.1 ∙ ap (group_bits _) g) _ _ g c.in_default-g.not-Trailer m.1
