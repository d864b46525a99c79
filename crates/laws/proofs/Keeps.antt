-- The principle for runs: what every accepted act keeps, every run keeps. Nothing above looks at the entry through which an event came.
-- Assumes nothing.
use Rattle.std.proofs.Common.{None, Option, Some}
use mathlib.Core.Path.{◌≡◌, refl, sym, ◌∙◌, ap}
use mathlib.Core.Bool.{Bool, true, false, cond, ◌&&◌, false≢true}
use mathlib.Core.List.{List, [], ◌∷◌, ◌++◌}
use Prim.Native.Nat.{ℕ}
use native.Mathlib.Omega.{arith}
use lib.Dec.{eqb}
use lib.ListN.{length}
use borrow.Author.Tests.{eqb-true, eqb-false}
use Rattle.layout.specs.Layout.{block_at, is_trailer, trailer_of, sector_of}
use Rattle.session.specs.declared.Session.{Session}
use Rattle.session.specs.declared.Stage.TheVariants.{Idle}
use Rattle.frame.specs.Command.{byte_in}
use Rattle.frame.specs.declared.Command.TheVariants.{Read}
use Rattle.judge.specs.First.{Check, check, Outcome, passes, refuses, first, ruled}
use Rattle.judge.specs.Checks.{no_card, incoherent, checks_of, frame_checks}
use Rattle.judge.specs.Judge.{shown_of, done_of, commanded_of, judge_of}
use Rattle.judge.specs.declared.Act.{Act}
use Rattle.judge.specs.declared.Act.TheVariants.{Refused, Shown}
use Rattle.card.specs.Effects.{number_of, reply_of}
use Rattle.card.specs.Step.{answered}
use Rattle.sealed.specs.Sealed.{inner_of, unsealed, sealed_of}
use Rattle.edition.specs.Edition.{usage_of, wrong_size}
use Rattle.edition.specs.Edition.{Choice}
use Rattle.edition.specs.declared.CardRecord.{CardRecord}
use Rattle.either_card.specs.Personal.{read_zero, chosen, choosing}
use Rattle.either_card.specs.Either.{personal, card_act_of, sealed_card_act_of, given_for, card_answer_of, sealed_card_of, sealed_card_answer_of}
use Rattle.either_card.proofs.Laws.{read_command, personal_idle}
use Rattle.either_card.proofs.Sealed.{inner_card_act}
use Rattle.runs.specs.Run.{State, Sent, reset, bare, sealed, answer_to, after, run_of, answers_of, frame_in, act_of, acted}
use Rattle.runs.specs.Watch.{noted, always}
use Rattle.runs.proofs.Laws.{after_acts}
use Rattle.laws.specs.Accepted.{Accepted}
use Rattle.laws.proofs.Sound.{sound}
use Rattle.edition.specs.declared.Usage.{Usage}

pub both_true : (x y : Bool) → (x && y) ≡ true → (x ≡ true) × (y ≡ true)
both_true true y e = (refl, e)
both_true false y e = (e, absurd (false≢true e))

module _ (image : List ℕ) (k : CardRecord) (s : Session) (frame : List ℕ) where
  -- a 40h that is let pass was let pass as a Read of block 0
  read_accepted : s.stage ≡ Idle → number_of (judge_of image s read_zero) ≡ 0 → Accepted image s frame (Shown (block_at 0))
  unfolding judge_of commanded_of done_of shown_of is_trailer trailer_of sector_of ruled number_of
  read_accepted w z =
      let asks = read_command s.stage w in
      go (first (frame_checks image s)) (first (checks_of image s (Read (block_at 0)) read_zero)) (rw asks at (sound image s read_zero)) (rw asks at z)
    where
      go : (o p : Outcome) → Accepted image s read_zero (ruled o (ruled p (Shown (block_at 0)))) → number_of (ruled o (ruled p (Shown (block_at 0)))) ≡ 0 → Accepted image s frame (Shown (block_at 0))
      go (refuses m) p a z = absurd (a z)
      go passes (refuses m) a z = absurd (a z)
      go passes passes a z = a

  choice_accepted : s.stage ≡ Idle → (choice : Choice) (asked : Option Usage) → number_of (judge_of image s read_zero) ≡ 0 → Accepted image s frame (chosen choice asked)
  choice_accepted w choice None z = λ h. omega arith
  choice_accepted w (Some v) (Some u) z = λ h. omega arith
  choice_accepted w None (Some u) z = read_accepted w z

  -- every act of a bare frame was accepted, or is a refusal
  card_sound : Accepted image s frame (card_act_of image k s frame)
  unfolding card_act_of choosing
  card_sound = go (wrong_size k.edition (length image)) (personal k s frame) refl
    where
      n : ℕ
      n = number_of (judge_of image s read_zero)

      asked : Option Usage
      asked = usage_of (byte_in frame 1)

      ruled_choice : s.stage ≡ Idle → (t : Bool) → eqb n 0 ≡ t → Accepted image s frame (cond t (chosen k.choice asked) (Refused n))
      ruled_choice w true e = choice_accepted w k.choice asked (eqb-true n 0 e)
      ruled_choice w false e = eqb-false n 0 e

      go : (t p : Bool) → personal k s frame ≡ p
          → Accepted image s frame (cond t (Refused 11) (cond p (cond (eqb n 0) (chosen k.choice asked) (Refused n)) (judge_of image s frame)))
      go true p e = λ h. omega arith
      go false true e = ruled_choice (personal_idle k.edition s.stage frame e) (eqb n 0) refl
      go false false e = sound image s frame

  -- a wrong checksum is refused with some number
  pub unsealed_refused : unsealed frame ≡ true → (n : ℕ) × (sealed_card_act_of image k s frame ≡ Refused n) × (n ≡ 0 → ⊥)
  unfolding sealed_card_act_of frame_checks first ruled
  unsealed_refused u = rw u (go (wrong_size k.edition (length image)) (no_card image) (incoherent image s))
    where
      go : (w x y : Bool)
          → (n : ℕ) × (cond w (Refused 11) (ruled (first (check 11 x ∷ check 12 y ∷ check 14 true ∷ [])) (card_act_of image k s (inner_of frame))) ≡ Refused n) × (n ≡ 0 → ⊥)
      go true x y = (11, refl, λ z. omega arith)
      go false true y = (11, refl, λ z. omega arith)
      go false false true = (12, refl, λ z. omega arith)
      go false false false = (14, refl, λ z. omega arith)

-- every event's act was accepted, or is a refusal
pub behind : (st : State) (e : Sent) → Accepted st.image st.session (frame_in e) (act_of st e)
unfolding act_of
behind st reset = tt
behind st (bare frame) = card_sound st.image st.card st.session frame
behind st (sealed frame) = go (unsealed frame) refl
  where
    go : (u : Bool) → unsealed frame ≡ u → Accepted st.image st.session (inner_of frame) (sealed_card_act_of st.image st.card st.session frame)
    go true u = let r = unsealed_refused st.image st.card st.session frame u in rw r.1 r.2
    go false u = rw (inner_card_act st.image st.card st.session frame u) (card_sound st.image st.card st.session (inner_of frame))

module _ {X : Type 0} (note : X → State → List ℕ → Act → X) (test : X → State → List ℕ → Act → Bool) where
  -- of a state: what an accepted act that passes the test keeps
  module _ (P : X → State → Type 0)
      (step : (x : X) (k : CardRecord) (st : State) (frame : List ℕ) (act : Act) → Accepted st.image st.session frame act → test x st frame act ≡ true → P x st
      → P (note x st frame act) (acted k st frame act)) where
    pub keeps : (x : X) (st : State) (events : List Sent) → always note test x st events ≡ true → P x st → P (noted note x st events) (run_of st events)
    unfolding always noted run_of
    keeps x st [] h p = p
    keeps x st (e ∷ es) h p =
        let t = both_true (test x st (frame_in e) (act_of st e)) _ h in
        keeps (note x st (frame_in e) (act_of st e)) (after st e) es t.1 (rw (after_acts st e) (step x _ st (frame_in e) (act_of st e) (behind st e) t.0 p))

  -- of two states that get the same events: a relation under which they have one record, are as long and in the same session; a frame that passes the test does the same to
  -- both, a Read of block 0 among them, and is answered alike; and what it does keeps the relation
  module _ (R : X → State → State → Type 0)
      (like : (x : X) (a b : State) → R x a b → (b.card ≡ a.card) × (length b.image ≡ length a.image) × (b.session ≡ a.session))
      (same : (x : X) (a b : State) (frame : List ℕ) → R x a b → (act : Act) → act ≡ card_act_of a.image a.card a.session frame → test x a frame act ≡ true
      → card_act_of b.image a.card a.session frame ≡ act)
      (shows : (x : X) (a b : State) (frame : List ℕ) (act : Act) → R x a b → Accepted a.image a.session frame act → reply_of b.image act ≡ reply_of a.image act)
      (step : (x : X) (k : CardRecord) (a b : State) (frame : List ℕ) (act : Act) → R x a b → Accepted a.image a.session frame act → Accepted b.image b.session frame act
      → test x a frame act ≡ true → R (note x a frame act) (acted k a frame act) (acted k b frame act)) where
    module _ (x : X) (a b : State) (r : R x a b) where
      same_checks : frame_checks b.image b.session ≡ frame_checks a.image a.session
      unfolding frame_checks no_card incoherent
      same_checks = let l = like x a b r in rw (l.1, l.2)

      -- what is refused for its checksum is refused alike
      same_refusal : (cs : List Check) (p q : Act) → ruled (first (cs ++ (check 14 true ∷ []))) p ≡ ruled (first (cs ++ (check 14 true ∷ []))) q
      unfolding first ruled
      same_refusal [] p q = refl
      same_refusal (check n true ∷ cs) p q = refl
      same_refusal (check n false ∷ cs) p q = same_refusal cs p q

      same_bare : (frame : List ℕ) → test x a frame (card_act_of a.image a.card a.session frame) ≡ true
          → card_act_of b.image b.card b.session frame ≡ card_act_of a.image a.card a.session frame
      same_bare frame h = let l = like x a b r in rw (l.0, l.2) (same x a b frame r _ refl h)

      same_sealed : (frame : List ℕ) (u : Bool) → unsealed frame ≡ u → test x a (inner_of frame) (sealed_card_act_of a.image a.card a.session frame) ≡ true
          → sealed_card_act_of b.image b.card b.session frame ≡ sealed_card_act_of a.image a.card a.session frame
      unfolding sealed_card_act_of
      same_sealed frame true u h =
          let l = like x a b r in
          rw (same_checks, u, l.0, l.1) (ap (λ (y : Act). cond (wrong_size a.card.edition (length a.image)) (Refused 11) y) (same_refusal (frame_checks a.image a.session) _ _))
      same_sealed frame false u h =
          let i = inner_card_act a.image a.card a.session frame u in
          inner_card_act b.image b.card b.session frame u ∙ same_bare (inner_of frame) (rw i at h) ∙ sym i

      same_act : (e : Sent) → test x a (frame_in e) (act_of a e) ≡ true → act_of b e ≡ act_of a e
      unfolding act_of
      same_act reset h = refl
      same_act (bare frame) h = same_bare frame h
      same_act (sealed frame) h = same_sealed frame (unsealed frame) refl h

      same_answer : (e : Sent) → act_of b e ≡ act_of a e → answer_to b e ≡ answer_to a e
      unfolding act_of answer_to card_answer_of given_for answered sealed_card_answer_of sealed_card_of sealed_of
      same_answer reset h = rw (like x a b r).0
      same_answer (bare frame) h =
          let l = like x a b r in
          rw (h, l.0, l.2, shows x a b frame (card_act_of a.image a.card a.session frame) r (behind a (bare frame)))
      same_answer (sealed frame) h =
          let l = like x a b r in
          rw (h, l.0, l.2, shows x a b (inner_of frame) (sealed_card_act_of a.image a.card a.session frame) r (behind a (sealed frame)))

    pub keeps_both : (x : X) (a b : State) (events : List Sent) → always note test x a events ≡ true → R x a b
        → R (noted note x a events) (run_of a events) (run_of b events) × (answers_of b events ≡ answers_of a events)
    unfolding always noted run_of answers_of
    keeps_both x a b [] h r = (r, refl)
    keeps_both x a b (e ∷ es) h r =
        let t = both_true (test x a (frame_in e) (act_of a e)) _ h in
        let act = same_act x a b r e t.0 in
        let told = same_answer x a b r e act in
        let next : R (note x a (frame_in e) (act_of a e)) (after a e) (after b e) =
        rw (after_acts a e, after_acts b e, act, told) (step x _ a b (frame_in e) (act_of a e) r (behind a e) (rw act at (behind b e)) t.0) in
        let later = keeps_both (note x a (frame_in e) (act_of a e)) (after a e) (after b e) es t.1 next in
        (later.0, rw (told, later.1))

-- two watchers as one: each notes what he would note alone, and both tests are passed together
module _ {X Y : Type 0} (f : X → State → List ℕ → Act → X) (g : Y → State → List ℕ → Act → Y) where
  abbrev pub beside : X × Y → State → List ℕ → Act → X × Y
  beside p st frame act = (f p.0 st frame act, g p.1 st frame act)

  pub beside_noted : (x : X) (y : Y) (st : State) (events : List Sent) → noted beside (x, y) st events ≡ (noted f x st events, noted g y st events)
  unfolding noted
  beside_noted x y st [] = refl
  beside_noted x y st (e ∷ es) = beside_noted (f x st (frame_in e) (act_of st e)) (g y st (frame_in e) (act_of st e)) (after st e) es

  module _ (t : X → State → List ℕ → Act → Bool) (u : Y → State → List ℕ → Act → Bool) where
    abbrev pub both : X × Y → State → List ℕ → Act → Bool
    both p st frame act = t p.0 st frame act && u p.1 st frame act

    pub beside_always : (x : X) (y : Y) (st : State) (events : List Sent) → always f t x st events ≡ true → always g u y st events ≡ true → always beside both (x, y) st events ≡ true
    unfolding always
    beside_always x y st [] h k = refl
    beside_always x y st (e ∷ es) h k =
        let p = both_true (t x st (frame_in e) (act_of st e)) _ h in
        let q = both_true (u y st (frame_in e) (act_of st e)) _ k in
        rw (p.0, q.0) (beside_always (f x st (frame_in e) (act_of st e)) (g y st (frame_in e) (act_of st e)) (after st e) es p.1 q.1)

-- a watcher who lets everything pass
pub unasked : {X : Type 0} (f : X → State → List ℕ → Act → X) (x : X) (st : State) (events : List Sent) → always f (λ x st frame act. true) x st events ≡ true
unfolding always
unasked f x st [] = refl
unasked f x st (e ∷ es) = unasked f (f x st (frame_in e) (act_of st e)) (after st e) es
