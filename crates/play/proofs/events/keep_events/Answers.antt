-- The loop's invariant is `Going`.
use mathlib.Core.Path.{◌≡◌, ap}
use Prim.Native.Nat.{◌+◌, ◌-◌}
use native.Mathlib.Omega.{arith}
use Rattle.runs.specs.Run.{State}
use Rattle.play.proofs.Going.{started, answer_room, due, turn, end_kept, end_state, end_place}
use Rattle.play.proofs.events.keep_events.Goals as goal

pub loop-i-init : goal.loop-i-init
loop-i-init g c = let e : c.event_count-count.result + 1 - 1 ≡ c.event_count-count.result = omega arith in
    rw e (started _ _ _ _ _ _ c.requires.lawful _ _ _ c.fresh-session.ensures c.event_count-count.ensures c.events_start-place.ensures c.requires.room)

pub keep-requires : goal.keep-requires
keep-requires g c = answer_room _ _ _ _ _ _ c.loop-i.invariant (omega arith)

pub loop-i-preserved : goal.loop-i-preserved
loop-i-preserved g c = let v = c.loop-i.invariant in
    let e : c.event_count-count.result + 1 - (c.loop-i.i + 1) ≡ c.event_count-count.result + 1 - c.loop-i.i - 1 = omega arith in
    rw e (turn _ _ _ _ _ _ v _ _ _ _ _ (omega arith) (due _ _ _ _ _ _ v _ _ (omega arith) c.event_from-here.ensures c.bytes_of-frame.ensures) c.event-a.ensures.value c.event-a.ensures.image_after c.event-a.auto.image c.keep.ensures.puts c.keep.ensures.upper_bound (ap (λ x. x.next) c.event_from-here.ensures))

-- no event at all
pub returns : goal.returns
returns g c = let v = c.loop-i.invariant in
    let e = end_state _ _ _ _ _ _ v (omega arith) in
    record { puts = end_kept _ _ _ _ _ _ v (omega arith); session_value = ap (λ (x : State). x.session) e; card_value = ap (λ (x : State). x.card) e; image_after = ap (λ (x : State). x.image) e; end_bound = end_place _ _ _ _ _ _ v (omega arith) }

-- after the last one
pub returns-2 : goal.returns-2
returns-2 g c = let v = c.loop-i.invariant in
    let t = turn _ _ _ _ _ _ v _ _ _ _ _ (omega arith) (due _ _ _ _ _ _ v _ _ (omega arith) c.event_from-here.ensures c.bytes_of-frame.ensures) c.event-a.ensures.value c.event-a.ensures.image_after c.event-a.auto.image c.keep.ensures.puts c.keep.ensures.upper_bound (ap (λ x. x.next) c.event_from-here.ensures) in
    let e = end_state _ _ _ _ _ _ t (omega arith) in
    record { puts = end_kept _ _ _ _ _ _ t (omega arith); session_value = ap (λ (x : State). x.session) e; card_value = ap (λ (x : State). x.card) e; image_after = ap (λ (x : State). x.image) e; end_bound = end_place _ _ _ _ _ _ t (omega arith) }
