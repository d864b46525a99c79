-- A walk, event by event, when its events are not kept; and readings, by how their walk ended.
-- Assumes nothing.
use mathlib.Core.Path.{◌≡◌, refl, sym, ap}
use mathlib.Core.List.{List}
use Prim.Native.Nat.{ℕ, suc, ◌-◌, ◌<◌}
use native.Mathlib.Omega.{arith}
use Rattle.std.specs.Prelude.{Ok, Err, None}
use Rattle.script.specs.declared.Refusal.{Refusal}
use Rattle.script.specs.Lock.{lock_refusal, lock_at, locked_at, choice_in, chosen_in}
use Rattle.script.specs.Script.{Judged, refusal_in, read_as, event_refusal, Walk, walked, stopped, frame_at, next_at, before, onward, events_from, left_over, ended_at, place_of}

module _ (script : List ℕ) (at : ℕ) (left : ℕ) (more : 0 < left) where
  one_more : left ≡ suc (left - 1)
  one_more = omega arith

  abbrev rest : Walk
  rest = events_from script (left - 1) (next_at script at)

  one_event : events_from script left at ≡ onward (event_refusal script at) (before (frame_at script at) rest)
  unfolding events_from
  one_event = ap (λ (n : ℕ). events_from script n at) one_more

  -- a walk with some events left is stopped, or goes on
  pub stops : (r : Refusal) → event_refusal script at ≡ Err r → Err r ≡ place_of (events_from script left at)
  unfolding onward place_of
  stops r e = rw (one_event, e)

  same_place : (event : List ℕ) (w : Walk) → place_of (before event w) ≡ place_of w
  unfolding before place_of
  same_place event (walked events place) = refl
  same_place event (stopped r) = refl

  pub goes_on : event_refusal script at ≡ Ok tt → place_of rest ≡ place_of (events_from script left at)
  unfolding onward
  goes_on e = rw (one_event, e) (sym (same_place (frame_at script at) rest))

-- a walk over no events
pub all_walked : (script : List ℕ) (at left : ℕ) → left ≡ 0 → Ok at ≡ place_of (events_from script left at)
unfolding events_from place_of
all_walked script at left none = rw none

-- what a judgement makes of the events is what it says
judged : (j : Judged) (events : List (List ℕ)) → refusal_in (read_as j events) ≡ j
unfolding read_as refusal_in
judged (Ok u) events = refl
judged (Err r) events = refl

-- the reading of an old card's script
module _ (script : List ℕ) where
  pub ended_early : (w : Walk) (r : Refusal) → place_of w ≡ Err r → Err r ≡ refusal_in (ended_at script w)
  unfolding place_of ended_at refusal_in
  ended_early (walked events place) r e = cc
  ended_early (stopped n) r e = let p : n ≡ r = cc in rw p

  pub ended_late : (w : Walk) (at : ℕ) → place_of w ≡ Ok at → left_over script at ≡ refusal_in (ended_at script w)
  unfolding place_of ended_at
  ended_late (walked events place) at e = let p : place ≡ at = cc in rw (judged (left_over script place) events, p)
  ended_late (stopped n) at e = cc

  -- and of an EV1's
  pub locked_early : (w : Walk) (r : Refusal) → place_of w ≡ Err r → Err (record { refusal = r; choice = None }) ≡ chosen_in (locked_at script w) (choice_in script w)
  unfolding place_of locked_at chosen_in choice_in
  locked_early (walked events place) r e = cc
  locked_early (stopped n) r e = let p : n ≡ r = cc in rw p

  pub locked_late : (w : Walk) (at : ℕ) (r : Refusal) → place_of w ≡ Ok at → lock_refusal script at ≡ Err r
      → Err (record { refusal = r; choice = lock_at script at }) ≡ chosen_in (locked_at script w) (choice_in script w)
  unfolding place_of locked_at read_as chosen_in choice_in
  locked_late (walked events place) at r e q = let p : place ≡ at = cc in rw (p, q)
  locked_late (stopped n) at r e q = cc

  pub locked : (w : Walk) (at : ℕ) → place_of w ≡ Ok at → lock_refusal script at ≡ Ok tt → Ok (lock_at script at) ≡ chosen_in (locked_at script w) (choice_in script w)
  unfolding place_of locked_at read_as chosen_in choice_in
  locked (walked events place) at e q = let p : place ≡ at = cc in rw (p, q)
  locked (stopped n) at e q = cc
