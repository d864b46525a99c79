-- The new figures are in range, or not.
use Rattle.std.proofs.Common.{sym, ◌∙◌}
use Rattle.tally.proofs.Ways.{stays, leaves}
use Rattle.tally.proofs.change.after.Goals as goal

pub returns-then-in_range : goal.returns-then-in_range
returns-then-in_range c = let n = c in
    let b = n in
    let m = b in
    let o = m in
    let a = o.args in
    stays a.f _ _ _ _ a.old a.new b.taken-between.ensures.count_bound.0 b.taken-between.ensures.count_bound.1 o.share_of-less.ensures b.taken-between.ensures.value m.share_of-more.ensures n.added-next.ensures
    (sym c.in_range.ensures ∙ c.if-in_range.true)

pub returns : goal.returns
returns c = let n = c in
    let b = n in
    let m = b in
    let o = m in
    let a = o.args in
    leaves a.f _ _ _ _ a.old a.new b.taken-between.ensures.count_bound.0 b.taken-between.ensures.count_bound.1 o.share_of-less.ensures b.taken-between.ensures.value m.share_of-more.ensures n.added-next.ensures
    (sym c.in_range.ensures ∙ c.if-in_range.false)
