-- A walk that is not stopped, event by event.
-- Assumes nothing.
use mathlib.Core.Path.{◌≡◌, refl, sym, ◌∙◌, ap}
use mathlib.Core.List.{List, [], ◌∷◌}
use Prim.Native.Nat.{ℕ, zero, suc, ◌-◌, ◌<◌, ◌≤◌}
use native.Mathlib.Omega.{arith}
use Rattle.std.specs.Prelude.{Ok, Err}
use Rattle.script.specs.Script.{Judged, event_refusal, frame_at, next_at, Walk, walked, stopped, before, onward, events_from, stop_in, events_on}

-- a walk that begins with an event
before_walked : (f : List ℕ) (w : Walk) (rest : List (List ℕ)) (end : ℕ) → before f w ≡ walked rest end → (more : List (List ℕ)) × (rest ≡ f ∷ more) × (w ≡ walked more end)
unfolding before
before_walked f (walked es place) rest end e = (es, cc, cc)
before_walked f (stopped r) rest end e = ([], cc, cc)

-- one event of a walk that is not stopped
pub next_event : (script : List ℕ) (left place : ℕ) (rest : List (List ℕ)) (end : ℕ) → 0 < left → events_from script left place ≡ walked rest end
    → (event_refusal script place ≡ Ok tt) × ((more : List (List ℕ)) × (rest ≡ frame_at script place ∷ more) × (events_from script (left - 1) (next_at script place) ≡ walked more end))
unfolding events_from onward
next_event script left place rest end h e = go (event_refusal script place) refl (ap (λ (n : ℕ). events_from script n place) (sym one_more) ∙ e)
  where
    one_more : left ≡ suc (left - 1)
    one_more = omega arith

    inner : Walk
    inner = events_from script (left - 1) (next_at script place)

    go : (j : Judged) → event_refusal script place ≡ j → onward j (before (frame_at script place) inner) ≡ walked rest end
        → (event_refusal script place ≡ Ok tt) × ((more : List (List ℕ)) × (rest ≡ frame_at script place ∷ more) × (inner ≡ walked more end))
    go (Ok u) j q = (j, before_walked (frame_at script place) inner rest end q)
    go (Err r) j q = cc

-- no event is left
pub last_event : (script : List ℕ) (left place : ℕ) (rest : List (List ℕ)) (end : ℕ) → left ≤ 0 → events_from script left place ≡ walked rest end → rest ≡ []
unfolding events_from
last_event script left place rest end h e =
    let none : left ≡ 0 = omega arith in
    let q : walked [] place ≡ walked rest end = ap (λ (n : ℕ). events_from script n place) (sym none) ∙ e in
    cc

-- a walk without a refusal came through
same_stop : (f : List ℕ) (w : Walk) → stop_in (before f w) ≡ stop_in w
unfolding before stop_in
same_stop f (walked es place) = refl
same_stop f (stopped r) = refl

before_through : (f : List ℕ) (w : Walk) (end : ℕ) → w ≡ walked (events_on w) end → before f w ≡ walked (events_on (before f w)) end
unfolding before events_on
before_through f (walked es place) end e = let q : place ≡ end = cc in rw q
before_through f (stopped r) end e = cc

pub through : (script : List ℕ) (n place : ℕ) → stop_in (events_from script n place) ≡ Ok tt → (end : ℕ) × (events_from script n place ≡ walked (events_on (events_from script n place)) end)
unfolding events_from onward stop_in events_on
through script zero place h = (place, refl)
through script (suc n) place h = go (event_refusal script place) h (through script n (next_at script place))
  where
    inner : Walk
    inner = events_from script n (next_at script place)

    whole : Judged → Walk
    whole j = onward j (before (frame_at script place) inner)

    go : (j : Judged) → stop_in (whole j) ≡ Ok tt → (stop_in inner ≡ Ok tt → (end : ℕ) × (inner ≡ walked (events_on inner) end))
        → (end : ℕ) × (whole j ≡ walked (events_on (whole j)) end)
    go (Ok u) q f = let r = f (sym (same_stop (frame_at script place) inner) ∙ q) in (r.0, before_through (frame_at script place) inner r.0 r.1)
    go (Err r) q f = cc
