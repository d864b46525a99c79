-- What is seen of a run: each act, with the state that it meets and the frame that asked for it.
use Rattle.std.specs.Prelude.{Bool, true, ◌&&◌, List, [], ◌∷◌, ℕ}
use Rattle.judge.specs.declared.Act.{Act}
use Rattle.runs.specs.Run.{State, Sent, after, frame_in, act_of}

-- a watcher who notes something down at each act
module _ {X : Type 0} (note : X → State → List ℕ → Act → X) where
  -- the notes at the end
  unfoldable pub noted : X → State → List Sent → X
  noted x st [] = x
  noted x st (e ∷ es) = noted (note x st (frame_in e) (act_of st e)) (after st e) es

  -- every act passes a test, which may look at the notes so far
  unfoldable pub always : (X → State → List ℕ → Act → Bool) → X → State → List Sent → Bool
  always test x st [] = true
  always test x st (e ∷ es) = test x st (frame_in e) (act_of st e) && always test (note x st (frame_in e) (act_of st e)) (after st e) es

-- a watcher who notes nothing
abbrev pub nothing_noted : Unit {0} → State → List ℕ → Act → Unit {0}
nothing_noted x st frame act = x

-- every act of a run passes a test
abbrev pub every_act : (Act → Bool) → State → List Sent → Bool
every_act test st events = always nothing_noted (λ x st frame act. test act) tt st events
