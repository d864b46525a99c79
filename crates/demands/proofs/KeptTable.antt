-- Demand 1 with figures: the judgement of what is sent goes by the table with 29 in its two places.
-- Assumes nothing.
use Rattle.std.proofs.Common.{Err, None, Ok, Option, Result, Some}
use mathlib.Core.Path.{◌≡◌, refl, sym, ◌∙◌, ap}
use mathlib.Core.Bool.{Bool, true, false, not, cond, ◌||◌, false≢true}
use mathlib.Core.List.{List, [], ◌∷◌, ◌++◌}
use mathlib.Core.Logic.{◌⊎◌, inl, inr}
use Prim.Native.Nat.{ℕ}
use native.Mathlib.Omega.{arith}
use lib.Dec.{eqb}
use lib.ListN.{length}
use borrow.Author.Tests.{ne_eqb}
use Rattle.layout.specs.Layout.{is_trailer}
use Rattle.layout.specs.declared.Block.{Block}
use Rattle.memory.specs.Memory.{sixteen_of, content_of}
use Rattle.value.specs.Whole.{signed}
use Rattle.value.specs.Block.{encode_of}
use Rattle.value.specs.declared.sum.SumError.{SumError}
use Rattle.value.specs.declared.sum.SumError.TheVariants as total
use Rattle.session.specs.Session.{Register}
use Rattle.session.specs.declared.Session.{Session}
use Rattle.frame.specs.Command.{byte_in, command_of}
use Rattle.frame.specs.declared.Command.{Command}
use Rattle.frame.specs.declared.Command.TheVariants.{Unknown, Authenticate, Read, Write, Store, Begin, Apply, Transfer, Halt}
use Rattle.judge.specs.First.{Outcome, passes, refuses, check, first, ruled}
use Rattle.judge.specs.Checks.{no_card, incoherent, checks_of, frame_checks}
use Rattle.judge.specs.Judge.{trailer_bits, load_of, applied_of, move_of, shown_of, stored_of, done_of, commanded_of, judge_of}
use Rattle.judge.specs.declared.Act.{Act}
use Rattle.judge.specs.declared.Act.TheVariants.{Refused, Authenticated, Shown, TrailerShown, WriteWaits, ValueWaits, Stored, TrailerStored, Loaded, Moved, Halted}
use Rattle.card.specs.Trailer.{zeros}
use Rattle.card.specs.Effects.{number_of, refused_sign, image_of}
use Rattle.card.specs.Step.{answered}
use Rattle.card.specs.declared.Sign.TheVariants.{Nothing}
use Rattle.sealed.specs.Sealed.{inner_of, unsealed, sealed_of}
use Rattle.sealed.proofs.Laws.{refused_none}
use Rattle.edition.specs.Edition.{usage_of, wrong_size}
use Rattle.edition.specs.Edition.{Choice}
use Rattle.edition.specs.declared.CardRecord.{CardRecord}
use Rattle.either_card.specs.Personal.{is_personal, read_zero, chosen, choosing}
use Rattle.either_card.specs.Either.{card_act_of, sealed_card_act_of, given_for, sealed_card_of}
use Rattle.either_card.specs.Code.{given_of}
use Rattle.either_card.specs.Answers.{CardAnswer}
use Rattle.either_card.proofs.Laws.{refusal_given}
use Rattle.either_card.proofs.Sealed.{inner_card_act}
use Rattle.tally.specs.Change.{in_range, settled_of}
use Rattle.tally.specs.Full.{counts}
use Rattle.tally.specs.declared.change.Figures.{Figures}
use Rattle.std.specs.Prelude.{Option, Some, None}
use Rattle.tally.proofs.Laws.{kept_is, not_counted}
use Rattle.kept.specs.Kept.{settled_at, settled_by, lastly, figures_by, kept_checks, kept_act_of, kept_for, kept_answer_of, kept_image_after, sealed_kept_of, sealed_kept_answer_of, sealed_kept_image_after}
use Rattle.kept.proofs.Laws.{out_of_range}
use Rattle.runs.specs.Run.{State, Sent, reset, bare, sealed, answer_to, frame_in, act_of}
use Rattle.runs.specs.Kept.{KeptState, opening, kept_act_in, kept_answer_to, figures_upon, kept_image_upon, kept_after, kept_run_of}
use Rattle.runs.proofs.Kept.{kept_after_acts, same_answer, same_state}
use Rattle.laws.specs.Accepted.{Accepted}
use Rattle.laws.proofs.Sound.{sound}
use Rattle.laws.proofs.Keeps.{unsealed_refused}
use Rattle.demands.specs.Demand1.{Wanted, shared, personalize, Row, row, any_frame, no_card_for, wanted_of, asked, table, Met, here, below, owed_for, Demand1}
use Rattle.demands.specs.Demand2.{bare_of}
use Rattle.demands.specs.Figures.{Never29, KeptSameRun, settled_in, AsWithout, Turned, Stores, InRange, StaysInRange, number_outside, OutOfRange, ResetKeeps, outside, moved_outside, new_outside, kept_table, Demand1Kept}
use Rattle.demands.proofs.Demand1.{rule, met_rule, none_else, Signed, met_sign, by_table, same_number, demand_1}
use Rattle.demands.proofs.Figures.{in_range_act, counted_run, still_counted}
use Rattle.edition.specs.declared.Usage.{Usage}

-- what a refusal gives, and what it leaves
owes : (st : KeptState) (e : Sent) (n : ℕ) → eqb n 0 ≡ false → kept_act_in st e ≡ Refused n → kept_answer_to st e ≡ owed_for st.state e (row n (refused_sign n) (any_frame true))
unfolding kept_act_in kept_answer_to kept_answer_of kept_for sealed_kept_answer_of sealed_kept_of sealed_card_of sealed_of given_of
owes st reset n z a = let q : ◌≡◌ {A = ℕ} 0 1 = cc in absurd (omega arith)
owes st (bare frame) n z a = rw (a, refusal_given st.state.image st.state.card st.state.session frame n z)
owes st (sealed frame) n z a = rw (a, refusal_given st.state.image st.state.card st.state.session (inner_of frame) n z, refused_none n zeros)

leaves : (st : KeptState) (e : Sent) (n : ℕ) → kept_act_in st e ≡ Refused n → (kept_image_upon st e ≡ st.state.image) × (figures_upon st e ≡ st.figures)
unfolding kept_act_in figures_upon kept_image_upon kept_answer_of kept_image_after kept_for sealed_kept_answer_of sealed_kept_of sealed_kept_image_after image_of settled_by
leaves st reset n a = (refl, refl)
leaves st (bare frame) n a = rw a (refl, refl)
leaves st (sealed frame) n a = rw a (refl, refl)

-- so a row refuses, once its answer is the one that it owes
turned : (st : KeptState) (e : Sent) (r : Row) → kept_act_in st e ≡ Refused r.number → kept_answer_to st e ≡ owed_for st.state e r → Turned st e r
turned st e r a answer =
    let left = leaves st e r.number a in
    record { answer = answer; image = left.0; figures = left.1 }

turned_by : (st : KeptState) (e : Sent) (r : Row) → (refused_sign r.number ≡ r.air) × (eqb r.number 0 ≡ false) → kept_act_in st e ≡ Refused r.number → Turned st e r
turned_by st e r g a = turned st e r a (owes st e r.number g.1 a ∙ rw g.0)

numbered : (st : KeptState) (e : Sent) → (kept_answer_to st e).answer.number ≡ number_of (kept_act_in st e)
unfolding kept_act_in kept_answer_to kept_answer_of kept_for sealed_kept_answer_of sealed_kept_of given_for answered sealed_card_of sealed_of number_of
numbered st reset = refl
numbered st (bare frame) = same_number (is_personal st.state.card.edition st.state.session.stage frame) _
numbered st (sealed frame) = same_number (is_personal st.state.card.edition st.state.session.stage (inner_of frame)) _

-- figures that leave their ranges are a store's
stores : (image : List ℕ) (f : Figures) (frame : List ℕ) (act : Act) → settled_by image f act frame ≡ None → Stores act
unfolding settled_by
stores image f frame (Stored b) h = inl (b, refl)
stores image f frame (Moved b v a) h = inr (b, v, a, refl)
stores image f frame (Refused n) h = let z : ◌≡◌ {A = ℕ} 0 1 = cc in absurd (omega arith)
stores image f frame (Authenticated t l) h = let z : ◌≡◌ {A = ℕ} 0 1 = cc in absurd (omega arith)
stores image f frame (Shown b) h = let z : ◌≡◌ {A = ℕ} 0 1 = cc in absurd (omega arith)
stores image f frame (TrailerShown b m) h = let z : ◌≡◌ {A = ℕ} 0 1 = cc in absurd (omega arith)
stores image f frame (WriteWaits b) h = let z : ◌≡◌ {A = ℕ} 0 1 = cc in absurd (omega arith)
stores image f frame (ValueWaits b k) h = let z : ◌≡◌ {A = ℕ} 0 1 = cc in absurd (omega arith)
stores image f frame (TrailerStored b m) h = let z : ◌≡◌ {A = ℕ} 0 1 = cc in absurd (omega arith)
stores image f frame (Loaded v a) h = let z : ◌≡◌ {A = ℕ} 0 1 = cc in absurd (omega arith)
stores image f frame Halted h = let z : ◌≡◌ {A = ℕ} 0 1 = cc in absurd (omega arith)

as_without : (st : KeptState) (e : Sent) → in_range st.figures ≡ true → (g : Figures) → settled_in st e ≡ Some g → AsWithout st e
unfolding kept_after
as_without st e fits g q =
    let act : kept_act_in st e ≡ act_of st.state e = in_range_act st e fits ∙ ap (λ (x : Option Figures). lastly x (act_of st.state e)) q in
    let figures : figures_upon st e ≡ g = ap (λ (x : KeptState). x.figures) (kept_after_acts st e) ∙ rw (act, q) in
    record { act = act; answer = same_answer st e act; left = same_state st e act; settles = q ∙ ap Some (sym figures) }

pub in_range_lem : InRange
unfolding refused_sign
in_range_lem st e fits = go (settled_in st e) refl
  where
    go : (x : Option Figures) → settled_in st e ≡ x → AsWithout st e ⊎ (Stores (act_of st.state e) × (settled_in st e ≡ None) × Turned st e (row 29 Nothing (any_frame true)))
    go (Some g) q = inl (as_without st e fits g q)
    go None q =
        inr (stores st.state.image st.figures (frame_in e) (act_of st.state e) q, q, turned_by st e (row 29 Nothing (any_frame true)) (refl, refl) (in_range_act st e fits ∙ ap (λ (x : Option Figures). lastly x (act_of st.state e)) q))

-- new figures that are kept are in range
module _ (image : List ℕ) (f g : Figures) (fits : in_range f ≡ true) where
  same_fits : ◌≡◌ {A = Option Figures} (Some f) (Some g) → in_range g ≡ true
  same_fits q = let e : f ≡ g = cc in rw (← e) fits

  at_fits : (b : Block) (new : List ℕ) → settled_at image f b new ≡ Some g → in_range g ≡ true
  unfolding settled_at
  at_fits b new q = go (counts (length image) b) q
    where
      go : (t : Bool) → cond t (settled_of f (content_of image b) new) (Some f) ≡ Some g → in_range g ≡ true
      go true q = (kept_is f g (content_of image b) new q).0
      go false q = same_fits q

  kept_fits : (frame : List ℕ) (act : Act) → settled_by image f act frame ≡ Some g → in_range g ≡ true
  unfolding settled_by
  kept_fits frame (Refused n) q = same_fits q
  kept_fits frame (Authenticated t l) q = same_fits q
  kept_fits frame (Shown b) q = same_fits q
  kept_fits frame (TrailerShown b m) q = same_fits q
  kept_fits frame (WriteWaits b) q = same_fits q
  kept_fits frame (ValueWaits b k) q = same_fits q
  kept_fits frame (Stored b) q = at_fits b (sixteen_of frame) q
  kept_fits frame (TrailerStored b m) q = same_fits q
  kept_fits frame (Loaded v a) q = same_fits q
  kept_fits frame (Moved b v a) q = at_fits b (encode_of (signed v) a) q
  kept_fits frame Halted q = same_fits q

after_fits : (st : KeptState) (e : Sent) → in_range st.figures ≡ true → in_range (kept_after st e).figures ≡ true
after_fits st e fits = rw (kept_after_acts st e) (go (settled_by st.state.image st.figures (kept_act_in st e) (frame_in e)) refl)
  where
    go : (x : Option Figures) → settled_by st.state.image st.figures (kept_act_in st e) (frame_in e) ≡ x → in_range (figures_by x st.figures) ≡ true
    go (Some g) q = kept_fits st.state.image st.figures g fits (frame_in e) (kept_act_in st e) q
    go None q = fits

pub stays_in_range : StaysInRange
unfolding kept_run_of
stays_in_range st [] fits = fits
stays_in_range st (e ∷ es) fits = stays_in_range (kept_after st e) es (after_fits st e fits)

-- figures outside, by what stands before 29
outside_number : (st : State) → first (check 11 (wrong_size st.card.edition (length st.image)) ∷ (frame_checks st.image st.session ++ (check 29 true ∷ []))) ≡ refuses (number_outside st)
unfolding frame_checks first
outside_number st = go (wrong_size st.card.edition (length st.image)) (no_card st.image) (incoherent st.image st.session)
  where
    go : (w x y : Bool) → cond w (refuses 11) (cond x (refuses 11) (cond y (refuses 12) (refuses 29))) ≡ refuses (cond (w || x) 11 (cond y 12 29))
    go true x y = refl
    go false true y = refl
    go false false true = refl
    go false false false = refl

outside_sign : (v y : Bool) → (refused_sign (cond v 11 (cond y 12 29)) ≡ Nothing) × (eqb (cond v 11 (cond y 12 29)) 0 ≡ false)
unfolding refused_sign
outside_sign true y = (refl, refl)
outside_sign false true = (refl, refl)
outside_sign false false = (refl, refl)

pub outside_refused : OutOfRange
unfolding kept_act_in
outside_refused st out frame =
    let n = number_outside st.state in
    let e = outside_number st.state in
    let sign = outside_sign (no_card_for st.state.card st.state.image) (incoherent st.state.image st.state.session) in (
      turned_by st (bare frame) (row n Nothing (any_frame true)) sign (out_of_range st.state.image st.state.card st.figures st.state.session frame out _ n e),
      turned_by st (sealed frame) (row n Nothing (any_frame true)) sign (out_of_range st.state.image st.state.card st.figures st.state.session (inner_of frame) out _ n e),
    )

-- a wrong checksum is refused with some number, whatever the figures
refused_seal : (st : KeptState) (frame : List ℕ) → unsealed frame ≡ true → (n : ℕ) × (kept_act_in st (sealed frame) ≡ Refused n) × (eqb n 0 ≡ false)
unfolding kept_act_in act_of settled_by
refused_seal st frame u = go (in_range st.figures) refl
  where
    go : (t : Bool) → in_range st.figures ≡ t → (n : ℕ) × (kept_act_in st (sealed frame) ≡ Refused n) × (eqb n 0 ≡ false)
    go true fits =
        let r = unsealed_refused st.state.image st.state.card st.state.session frame u in
        (r.0, in_range_act st (sealed frame) fits ∙ rw r.1, ne_eqb r.0 0 r.2)
    go false out =
        let n = number_outside st.state in (
          n,
          out_of_range st.state.image st.state.card st.figures st.state.session (inner_of frame) out _ n (outside_number st.state),
          (outside_sign (no_card_for st.state.card st.state.image) (incoherent st.state.image st.state.session)).1,
        )

-- an event leaves what its bare event leaves
alike : (st : KeptState) (e d : Sent) → (kept_answer_to st e).card ≡ (kept_answer_to st d).card → (kept_answer_to st e).answer.session ≡ (kept_answer_to st d).answer.session
    → kept_image_upon st e ≡ kept_image_upon st d → figures_upon st e ≡ figures_upon st d → kept_after st e ≡ kept_after st d
unfolding kept_after
alike st e d card session image figures = rw (card, session, image, figures)

reset_after : (st : KeptState) (frame : List ℕ) → unsealed frame ≡ true → kept_after st (sealed frame) ≡ kept_after st reset
unfolding kept_answer_to kept_image_upon figures_upon
reset_after st frame u =
    let r = refused_seal st frame u in
    let t = turned_by st (sealed frame) (row r.0 (refused_sign r.0) (any_frame true)) (refl, r.2) r.1 in
    alike st (sealed frame) reset (ap (λ (a : CardAnswer). a.card) t.answer) (ap (λ (a : CardAnswer). a.answer.session) t.answer) t.image t.figures

inner_after : (st : KeptState) (frame : List ℕ) → unsealed frame ≡ false → kept_after st (sealed frame) ≡ kept_after st (bare (inner_of frame))
unfolding kept_answer_to kept_image_upon figures_upon kept_answer_of kept_image_after kept_for sealed_kept_answer_of sealed_kept_of sealed_kept_image_after sealed_card_of sealed_of
inner_after st frame u =
    let i = inner_card_act st.state.image st.state.card st.state.session frame u in
    alike st (sealed frame) (bare (inner_of frame)) (rw i) (rw i) (rw i) (rw i)

bare_after : (st : KeptState) (e : Sent) → kept_after st e ≡ kept_after st (bare_of e)
bare_after st reset = refl
bare_after st (bare frame) = refl
bare_after st (sealed frame) = go (unsealed frame) refl
  where
    go : (u : Bool) → unsealed frame ≡ u → kept_after st (sealed frame) ≡ kept_after st (cond u reset (bare (inner_of frame)))
    go true u = reset_after st frame u
    go false u = inner_after st frame u

pub kept_same_run : KeptSameRun
unfolding kept_run_of
kept_same_run st [] = refl
kept_same_run st (e ∷ es) = rw (bare_after st e) (kept_same_run (kept_after st (bare_of e)) es)

pub reset_keeps : ResetKeeps
unfolding kept_answer_to kept_image_upon figures_upon
reset_keeps st = (refl, refl, refl)

-- what the last row asks of a command is what its act makes of the figures
module _ (image : List ℕ) (k : CardRecord) (f : Figures) (s : Session) (frame : List ℕ) where
  loads : (t : Result ℕ SumError) (a : ℕ) → outside (settled_by image f (load_of t a) frame) ≡ false
  unfolding load_of settled_by
  loads (Ok v) a = refl
  loads (Err total.Negative) a = refl
  loads (Err total.Outside) a = refl

  moves : (r : Register) (b : Block) → outside (settled_by image f (move_of r b) frame) ≡ moved_outside image f r b
  unfolding move_of settled_by
  moves None b = refl
  moves (Some (v, a)) b = refl

  shows : (b : Block) → outside (settled_by image f (shown_of image b) frame) ≡ false
  unfolding shown_of settled_by
  shows b = go (is_trailer b)
    where
      go : (t : Bool) → outside (settled_by image f (cond t (TrailerShown b (trailer_bits image b)) (Shown b)) frame) ≡ false
      go true = refl
      go false = refl

  writes : (b : Block) → outside (settled_by image f (stored_of image b) frame) ≡ outside (settled_at image f b (sixteen_of frame))
  unfolding stored_of settled_by settled_at
  writes b = go (is_trailer b) refl
    where
      out : (x : Bool) → (x || true) ≡ true
      out true = refl
      out false = refl

      go : (t : Bool) → is_trailer b ≡ t
          → outside (settled_by image f (cond t (TrailerStored b (trailer_bits image b)) (Stored b)) frame) ≡ outside (settled_at image f b (sixteen_of frame))
      go true e = rw (not_counted (length image) b (ap (λ (x : Bool). eqb b.0 0 || x) e ∙ out (eqb b.0 0)))
      go false e = refl

  done : (c : Command) → outside (settled_by image f (done_of image s c frame) frame) ≡ new_outside image f s frame (shared c)
  unfolding done_of applied_of settled_by
  done Unknown = refl
  done (Authenticate b l) = refl
  done (Read b) = shows b
  done (Write b) = refl
  done (Store b) = writes b
  done (Begin b q) = refl
  done (Apply b q) = loads _ _
  done (Transfer b) = moves s.register b
  done Halt = refl

  judged : number_of (judge_of image s frame) ≡ 0 → outside (settled_by image f (judge_of image s frame) frame) ≡ new_outside image f s frame (shared (command_of s.stage frame))
  unfolding judge_of commanded_of ruled number_of
  judged z = go (first (frame_checks image s)) (first (checks_of image s (command_of s.stage frame) frame)) (sound image s frame) z
    where
      act : Act
      act = done_of image s (command_of s.stage frame) frame

      go : (o p : Outcome) → Accepted image s frame (ruled o (ruled p act)) → number_of (ruled o (ruled p act)) ≡ 0
          → outside (settled_by image f (ruled o (ruled p act)) frame) ≡ new_outside image f s frame (shared (command_of s.stage frame))
      go (refuses n) p a z = absurd (a z)
      go passes (refuses n) a z = absurd (a z)
      go passes passes a z = done (command_of s.stage frame)

  chooses : (x : Choice) (u : Option Usage) (n : ℕ) → outside (settled_by image f (choosing x u n) frame) ≡ false
  unfolding choosing settled_by
  chooses x u n = go (eqb n 0) x u
    where
      go : (t : Bool) (x : Choice) (u : Option Usage) → outside (settled_by image f (cond t (chosen x u) (Refused n)) frame) ≡ false
      go false x u = refl
      go true x None = refl
      go true None (Some u) = refl
      go true (Some v) (Some u) = refl

  wanted : number_of (card_act_of image k s frame) ≡ 0 → outside (settled_by image f (card_act_of image k s frame) frame) ≡ new_outside image f s frame (wanted_of k s frame)
  unfolding card_act_of number_of
  wanted z = go (wrong_size k.edition (length image)) (is_personal k.edition s.stage frame) z
    where
      choice : Act
      choice = choosing k.choice (usage_of (byte_in frame 1)) (number_of (judge_of image s read_zero))

      go : (w p : Bool) → number_of (cond w (Refused 11) (cond p choice (judge_of image s frame))) ≡ 0
          → outside (settled_by image f (cond w (Refused 11) (cond p choice (judge_of image s frame))) frame)
          ≡ new_outside image f s frame (cond p (personalize (byte_in frame 1)) (shared (command_of s.stage frame)))
      go true p z = absurd (omega (arith, z))
      go false true z = chooses k.choice (usage_of (byte_in frame 1)) _
      go false false z = judged z

  -- the last row, below any others
  lasts : (x : Option Figures) (act : Act) → lastly x act ≡ cond (outside x) (Refused 29) act
  lasts (Some g) act = refl
  lasts None act = refl

  last_row : (p : Wanted → Bool) (w : Wanted) (rows : List Row) (act : Act) → number_of act ≡ 0
      → (number_of (rule w rows act) ≡ 0 → outside (settled_by image f (rule w rows act) frame) ≡ p w)
      → lastly (settled_by image f (rule w rows act) frame) (rule w rows act) ≡ rule w (rows ++ (row 29 Nothing p ∷ [])) act
  unfolding settled_by number_of
  last_row p w [] act z h = lasts (settled_by image f act frame) act ∙ ap (λ (t : Bool). cond t (Refused 29) act) (h z)
  last_row p w (r ∷ rows) act z h = go (r.applies w) h (last_row p w rows act z)
    where
      go : (t : Bool) → (number_of (cond t (Refused r.number) (rule w rows act)) ≡ 0 → outside (settled_by image f (cond t (Refused r.number) (rule w rows act)) frame) ≡ p w)
          → ((number_of (rule w rows act) ≡ 0 → outside (settled_by image f (rule w rows act) frame) ≡ p w)
          → lastly (settled_by image f (rule w rows act) frame) (rule w rows act) ≡ rule w (rows ++ (row 29 Nothing p ∷ [])) act)
          → lastly (settled_by image f (cond t (Refused r.number) (rule w rows act)) frame) (cond t (Refused r.number) (rule w rows act))
          ≡ cond t (Refused r.number) (rule w (rows ++ (row 29 Nothing p ∷ [])) act)
      go true h rest = refl
      go false h rest = rest h

-- the same with a checksum: 14 has a number
wanted_sealed : (image : List ℕ) (k : CardRecord) (f : Figures) (s : Session) (frame : List ℕ) → number_of (sealed_card_act_of image k s frame) ≡ 0
    → outside (settled_by image f (sealed_card_act_of image k s frame) (inner_of frame)) ≡ new_outside image f s (inner_of frame) (wanted_of k s (inner_of frame))
unfolding number_of
wanted_sealed image k f s frame z = go (unsealed frame) refl
  where
    go : (u : Bool) → unsealed frame ≡ u
        → outside (settled_by image f (sealed_card_act_of image k s frame) (inner_of frame)) ≡ new_outside image f s (inner_of frame) (wanted_of k s (inner_of frame))
    go true u = let r = unsealed_refused image k s frame u in absurd (r.2 (sym (ap number_of r.1) ∙ z))
    go false u = let i = inner_card_act image k s frame u in rw i (wanted image k f s (inner_of frame) (rw i at z))

-- 29 stands directly after 12
with_29 : (w x y r : Bool) (act : Act)
    → ruled (cond w (refuses 11) (cond x (refuses 11) (cond y (refuses 12) (cond (not r) (refuses 29) passes)))) (cond (w || x) (Refused 11) (cond y (Refused 12) act))
    ≡ cond (w || x) (Refused 11) (cond y (Refused 12) (cond (not r) (Refused 29) act))
unfolding ruled
with_29 true x y r act = refl
with_29 false true y r act = refl
with_29 false false true r act = refl
with_29 false false false true act = refl
with_29 false false false false act = refl

-- so 29 comes into its two places of the table of a frame without figures
module _ (st : KeptState) (frame : List ℕ) (act : Act) (z : number_of act ≡ 0) where
  placed_bare : act_of st.state (bare frame) ≡ rule (asked st.state (bare frame)) (table st.state (bare frame)) act
      → kept_act_in st (bare frame) ≡ rule (asked st.state (bare frame)) (kept_table st (bare frame)) act
  unfolding kept_act_in act_of kept_act_of kept_checks frame_checks first
  placed_bare t =
      let last = last_row st.state.image st.state.card st.figures st.state.session frame (new_outside st.state.image st.figures st.state.session frame)
      (asked st.state (bare frame)) (table st.state (bare frame)) act z (rw t at (wanted st.state.image st.state.card st.figures st.state.session frame)) in
      rw (t, last) (with_29 (wrong_size st.state.card.edition (length st.state.image)) (no_card st.state.image) (incoherent st.state.image st.state.session) (in_range st.figures) _)

  placed_sealed : act_of st.state (sealed frame) ≡ rule (asked st.state (sealed frame)) (table st.state (sealed frame)) act
      → kept_act_in st (sealed frame) ≡ rule (asked st.state (sealed frame)) (kept_table st (sealed frame)) act
  unfolding kept_act_in act_of kept_act_of kept_checks frame_checks first
  placed_sealed t =
      let last = last_row st.state.image st.state.card st.figures st.state.session (inner_of frame) (new_outside st.state.image st.figures st.state.session (inner_of frame))
      (asked st.state (sealed frame)) (table st.state (sealed frame)) act z (rw t at (wanted_sealed st.state.image st.state.card st.figures st.state.session frame)) in
      rw (t, last) (with_29 (wrong_size st.state.card.edition (length st.state.image)) (no_card st.state.image) (incoherent st.state.image st.state.session) (in_range st.figures) _)

-- the act of what is sent, by the table
by_kept_table : (st : KeptState) (e : Sent) → (act : Act) × (number_of act ≡ 0) × (kept_act_in st e ≡ rule (asked st.state e) (kept_table st e) act)
unfolding kept_act_in number_of
by_kept_table st reset = (Halted, refl, refl)
by_kept_table st (bare frame) = let t = by_table st.state (bare frame) in (t.0, t.1, placed_bare st frame t.0 t.1 t.2)
by_kept_table st (sealed frame) = let t = by_table st.state (sealed frame) in (t.0, t.1, placed_sealed st frame t.0 t.1 t.2)

signs : (st : KeptState) (e : Sent) → Signed (kept_table st e)
unfolding refused_sign
signs st reset = tt
signs st (bare frame) = (refl, refl, (refl, refl, (refl, refl, (refl, refl, (refl, refl, (refl, refl, (refl, refl, (refl, refl, (refl, refl, (refl, refl, (refl, refl, (refl, refl, (refl, refl, (refl, refl, (refl, refl, (refl, refl, (refl, refl, tt)))))))))))))))))
signs st (sealed frame) = (refl, refl, (refl, refl, (refl, refl, (refl, refl, (refl, refl, (refl, refl, (refl, refl, (refl, refl, (refl, refl, (refl, refl, (refl, refl, (refl, refl, (refl, refl, (refl, refl, (refl, refl, (refl, refl, (refl, refl, (refl, refl, tt))))))))))))))))))

pub demand_1_kept : (st : KeptState) (e : Sent) → Demand1Kept st e
demand_1_kept st e =
    let t = by_kept_table st e in
    let number : (kept_answer_to st e).answer.number ≡ number_of (rule (asked st.state e) (kept_table st e) t.0) = numbered st e ∙ ap number_of t.2 in
    record {
      refuses = λ r m.
          turned_by st e r (met_sign r (asked st.state e) (kept_table st e) (signs st e) m) (t.2 ∙ met_rule r (asked st.state e) (kept_table st e) t.0 m);
      alone = λ h. rw number (none_else (asked st.state e) (kept_table st e) t.0 t.1 (λ z. h (number ∙ z)));
    }

-- without figures there is no 29
abbrev No29 : List Row → Type 0
No29 [] = Unit {0}
No29 (r ∷ rows) = (eqb r.number 29 ≡ false) × No29 rows

met_other : (r : Row) (w : Wanted) (rows : List Row) → No29 rows → Met r w rows → eqb r.number 29 ≡ false
met_other r w rows p (here rest e) = p.0
met_other r w rows p (below above rest e m) = met_other r w rest p.1 m

no_29 : (st : State) (e : Sent) → No29 (table st e)
no_29 st reset = tt
no_29 st (bare frame) = (refl, (refl, (refl, (refl, (refl, (refl, (refl, (refl, (refl, (refl, (refl, (refl, (refl, (refl, (refl, tt)))))))))))))))
no_29 st (sealed frame) = (refl, (refl, (refl, (refl, (refl, (refl, (refl, (refl, (refl, (refl, (refl, (refl, (refl, (refl, (refl, (refl, tt))))))))))))))))

never : (st : State) (e : Sent) → (answer_to st e).answer.number ≡ 29 → Demand1 st e → ⊥
never st e q demand =
    let r = demand.alone (λ z. omega (arith, q, z)) in
    let n : r.0.number ≡ 29 = sym r.2 ∙ q in
    let z : eqb 29 29 ≡ false = rw n at (met_other r.0 (asked st e) (table st e) (no_29 st e) r.1) in
    false≢true (sym z)

pub never_29 : Never29
never_29 k image past event q =
    let st = kept_run_of (opening k image) past in
    let same = same_answer st event (still_counted st event (counted_run (opening k image) past refl)).0 in
    never st.state event (sym (ap (λ (a : CardAnswer). a.answer.number) same) ∙ q) (demand_1 st.state event)
