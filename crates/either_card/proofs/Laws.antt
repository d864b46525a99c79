-- The ways of a frame, and that an old card gets the old answers.
-- Assumes nothing.
use Rattle.std.proofs.Common.{None, Option, Some}
use mathlib.Core.Path.{◌≡◌, refl, sym, ◌∙◌, ap}
use mathlib.Core.Bool.{Bool, true, false, not, cond, ◌&&◌, ◌||◌, false≢true}
use mathlib.Core.List.{List, [], ◌∷◌}
use Prim.Native.Nat.{ℕ, ◌<◌}
use native.Mathlib.Omega.{arith}
use lib.Dec.{eqb}
use lib.ListN.{length}
use borrow.Author.Tests.{eqb-true, not-false}
use Rattle.layout.specs.Layout.{sectors_of, blocks_in, blocks_of, has_block, sector_of, trailer_of, is_trailer, group_at, group_of, block_at}
use Rattle.layout.specs.declared.Group.TheVariants.{First, Trailer}
use Rattle.layout.specs.declared.Sector.{Sector}
use Rattle.access.specs.Bits.{group_bits}
use Rattle.access.specs.declared.bits.AccessBytes.{AccessBytes}
use Rattle.access.specs.declared.rights.Letter.{Letter}
use Rattle.access.specs.declared.rights.Operation.TheVariants as Operation
use Rattle.session.specs.Session.{in_sector}
use Rattle.session.specs.Session.{Auth}
use Rattle.session.specs.Session.{Register}
use Rattle.session.specs.declared.Session.{Session}
use Rattle.session.specs.declared.Stage.{Stage}
use Rattle.session.specs.declared.Stage.TheVariants.{Idle, WriteWaits, ValueWaits}
use Rattle.frame.specs.Command.{byte_in, two_bytes_of, first_of, command_of}
use Rattle.frame.specs.declared.Command.TheVariants.{Read}
use Rattle.judge.specs.First.{passes, refuses, check, first, ruled}
use Rattle.judge.specs.Checks.{access_of, no_card, incoherent, no_block, other_sector, is_blocked, is_forbidden, right_of, has_right, no_right, memory_checks, checks_of, frame_checks}
use Rattle.judge.specs.Judge.{shown_of, done_of, commanded_of, judge_of}
use Rattle.judge.specs.Code.{shortened}
use Rattle.judge.specs.declared.Act.{Act}
use Rattle.judge.specs.declared.Act.TheVariants.{Refused, Shown}
use Rattle.card.specs.Effects.{number_of, refused_sign, sign_of, reply_of, session_of}
use Rattle.card.specs.Step.{answered, refusal_of, answer_of, image_after}
use Rattle.card.specs.Answers.{Answer}
use Rattle.card.specs.declared.Sign.{Sign}
use Rattle.card.specs.declared.Sign.TheVariants.{Ack, Nak, Data, Nothing}
use Rattle.card.proofs.Short.{short_answer}
use Rattle.edition.specs.Edition.{usage_of, wrong_size}
use Rattle.edition.specs.declared.Edition.{Edition}
use Rattle.edition.specs.declared.Edition.TheVariants.{Old, Ev1}
use Rattle.edition.specs.Edition.{Choice}
use Rattle.edition.specs.declared.CardRecord.{CardRecord}
use Rattle.either_card.specs.Nak.{value_of, nak_of}
use Rattle.either_card.specs.Personal.{is_personal, read_zero, chosen, choosing, acknowledged_sign, acknowledged, locked_with}
use Rattle.either_card.specs.Either.{personal, card_act_of, given_for, card_answer_of, card_image_after}
use Rattle.either_card.specs.Code.{sector_refusal, zero_refusal, read_refusal, given_of, acknowledged_with}
use Rattle.edition.specs.declared.Usage.{Usage}

pub read_command : (w : Stage) → w ≡ Idle → command_of w read_zero ≡ Read (block_at 0)
unfolding command_of first_of two_bytes_of byte_in
read_command w e = rw e

-- what a Read of block 0 is refused with on a 4K card
module _ (image : List ℕ) (size : length image ≡ 4096) where
  sector_number : (x : AccessBytes) (t : Sector) (l : Letter)
      → number_of (ruled (first (check 5 (is_blocked x) ∷ check 6 false ∷ check 7 (no_right x (Some (t, l)) Operation.Read (block_at 0)) ∷ [])) (shown_of image (block_at 0))) ≡ sector_refusal x l
  unfolding first ruled number_of shown_of trailer_of sector_of is_trailer group_of group_at no_right has_right sector_refusal
  sector_number x t l = go (is_blocked x) (right_of l Operation.Read false (group_bits x First) (group_bits x Trailer))
    where
      go : (y z : Bool)
          → number_of (ruled (cond y (refuses 5) (cond (not z) (refuses 7) passes)) (Shown (block_at 0))) ≡ cond y 5 (cond z 0 7)
      go true z = refl
      go false true = refl
      go false false = refl

  zero_number : (auth : Auth) → number_of (ruled (first (memory_checks image auth Operation.Read (block_at 0))) (shown_of image (block_at 0))) ≡ zero_refusal image auth
  unfolding memory_checks first ruled number_of no_block has_block blocks_of blocks_in sectors_of other_sector in_sector sector_of is_forbidden zero_refusal
  zero_number None = rw size
  zero_number (Some (t, l)) = rw size (go (eqb t.0 0))
    where
      x : AccessBytes
      x = access_of image (block_at 0)

      go : (y : Bool)
          → number_of (ruled (cond (not y) (refuses 3) (first (check 5 (is_blocked x) ∷ check 6 false ∷ check 7 (no_right x (Some (t, l)) Operation.Read (block_at 0)) ∷ []))) (shown_of image (block_at 0)))
          ≡ cond y (sector_refusal x l) 3
      go true = sector_number x t l
      go false = refl

  read_number : (s : Session) → s.stage ≡ Idle → number_of (judge_of image s read_zero) ≡ read_refusal image s
  unfolding judge_of frame_checks first ruled number_of no_card sectors_of commanded_of checks_of done_of read_refusal
  read_number s e = rw (size, read_command s.stage e) (go (incoherent image s))
    where
      act : Act
      act = ruled (first (memory_checks image s.auth Operation.Read (block_at 0))) (shown_of image (block_at 0))

      go : (t : Bool) → number_of (ruled (cond t (refuses 12) passes) act) ≡ cond t 12 (zero_refusal image s.auth)
      go true = refl
      go false = zero_number s.auth

pub personal_idle : (e : Edition) (w : Stage) (frame : List ℕ) → is_personal e w frame ≡ true → w ≡ Idle
unfolding is_personal
personal_idle Old w frame h = absurd (false≢true h)
personal_idle Ev1 Idle frame h = refl
personal_idle Ev1 (WriteWaits b) frame h = absurd (false≢true h)
personal_idle Ev1 (ValueWaits k b) frame h = absurd (false≢true h)

one_size : (bytes : ℕ) (frame : List ℕ) (e : Edition) (w : Stage) → is_personal e w frame ≡ true → wrong_size e bytes ≡ false → bytes ≡ 4096
unfolding is_personal
one_size bytes frame Old w h f = absurd (false≢true h)
one_size bytes frame Ev1 w h f = eqb-true bytes 4096 (not-false (eqb bytes 4096) f)

-- only a NAK of an EV1 has a value
no_data_value : (e : Edition) (r : Register) (n : ℕ) → nak_of e r Data n ≡ 0
no_data_value Old r n = refl
no_data_value Ev1 r n = refl

-- the value is one digit
pub value_small : (e : Edition) (r : Register) (sign : Sign) (n : ℕ) → nak_of e r sign n < 6
value_small Old r sign n = omega arith
value_small Ev1 r Ack n = omega arith
value_small Ev1 r Data n = omega arith
value_small Ev1 r Nothing n = omega arith
value_small Ev1 r Nak n = go r (eqb n 14)
  where
    go : (r : Register) (t : Bool) → value_of r t < 6
    go None true = omega arith
    go None false = omega arith
    go (Some (v, a)) true = omega arith
    go (Some (v, a)) false = omega arith

-- of a refusal there is nothing to acknowledge
refused_kept_lem : (t : Bool) → acknowledged_sign (cond t Nothing Nak) ≡ cond t Nothing Nak
refused_kept_lem true = refl
refused_kept_lem false = refl

module _ (image : List ℕ) (k : CardRecord) (s : Session) (frame : List ℕ) where
  -- a refusal: its number and sign, the value of its NAK, and the record kept
  pub refusal_given : (n : ℕ) → eqb n 0 ≡ false → given_for image k s frame (Refused n) ≡ given_of k s.register (refusal_of n)
  unfolding given_for given_of answered acknowledged number_of sign_of refused_sign reply_of session_of
  refusal_given n z = rw z (go (personal k s frame))
    where
      t : Bool
      t = eqb n 11 || eqb n 12 || eqb n 29 || eqb n 1 || eqb n 4

      go : (p : Bool)
          → record {
            answer = cond p (acknowledged (answered image s (Refused n))) (answered image s (Refused n));
            nak = nak_of k.edition s.register (cond t Nothing Nak) n;
            card = cond (p && false) (locked_with k (usage_of (byte_in frame 1))) k;
          }
          ≡ given_of k s.register (refusal_of n)
      go true = rw (refused_kept_lem t)
      go false = refl

  -- what an act of a 40h is answered, and what one of any other frame is
  pub personal_given : (act : Act) (t : Bool) → t ≡ personal k s frame → t ≡ true → acknowledged_with (given_of k s.register (answered image s act)) (byte_in frame 1) ≡ given_for image k s frame act
  unfolding given_for given_of acknowledged_with answered
  personal_given act t told e = rw (sym told ∙ e)

  pub plain_given : (act : Act) (t : Bool) → t ≡ personal k s frame → t ≡ false → given_of k s.register (answered image s act) ≡ given_for image k s frame act
  unfolding given_for given_of answered
  plain_given act t told e = rw (sym told ∙ e)

  -- the code's shortcut changes nothing of it
  pub short_given : (act : Act) → given_for image k s frame (shortened s.auth act) ≡ given_for image k s frame act
  unfolding given_for answered
  short_given act =
      let e = short_answer image s act in
      let n : number_of (shortened s.auth act) ≡ number_of act = ap (λ (a : Answer). a.number) e in
      let g : sign_of (shortened s.auth act) ≡ sign_of act = ap (λ (a : Answer). a.sign) e in
      let r : reply_of image (shortened s.auth act) ≡ reply_of image act = ap (λ (a : Answer). a.reply) e in
      let w : session_of s (shortened s.auth act) ≡ session_of s act = ap (λ (a : Answer). a.session) e in
      rw (n, g, r, w)

  -- the acts: 11 for an EV1 of another size
  pub wrong_size_act : wrong_size k.edition (length image) ≡ true → Refused 11 ≡ shortened s.auth (card_act_of image k s frame)
  unfolding card_act_of shortened
  wrong_size_act e = rw e

  -- past it: a 40h, or any other frame
  module _ (fits : wrong_size k.edition (length image) ≡ false) where
    choosing_short : (x : Choice) (u : Option Usage) (n : ℕ) → choosing x u n ≡ shortened s.auth (choosing x u n)
    unfolding choosing shortened
    choosing_short x u n = go (eqb n 0) x u
      where
        go : (t : Bool) (x : Choice) (u : Option Usage) → cond t (chosen x u) (Refused n) ≡ shortened s.auth (cond t (chosen x u) (Refused n))
        go false x u = refl
        go true x None = refl
        go true None (Some u) = refl
        go true (Some v) (Some u) = refl

    pub personal_act : personal k s frame ≡ true → (n : ℕ) → n ≡ read_refusal image s → (code : ℕ) → code ≡ byte_in frame 1
        → choosing k.choice (usage_of code) n ≡ shortened s.auth (card_act_of image k s frame)
    unfolding card_act_of
    personal_act it n q code r =
        let size : length image ≡ 4096 = one_size (length image) frame k.edition s.stage it fits in
        let idle : s.stage ≡ Idle = personal_idle k.edition s.stage frame it in
        let e : number_of (judge_of image s read_zero) ≡ n = read_number image size s idle ∙ sym q in
        rw (fits, it, e, r) (choosing_short k.choice (usage_of (byte_in frame 1)) n)

    pub other_act : personal k s frame ≡ false → shortened s.auth (judge_of image s frame) ≡ shortened s.auth (card_act_of image k s frame)
    unfolding card_act_of
    other_act e = rw (fits, e)

-- a card of the old edition gets the old answer, has no value of a NAK, keeps its record, and its image is the old one
pub old_card_lem : (image : List ℕ) (k : CardRecord) (s : Session) (frame : List ℕ) → k.edition ≡ Old
    → (card_answer_of image k s frame ≡ record { answer = answer_of image s frame; nak = 0; card = k }) × (card_image_after image k s frame ≡ image_after image s frame)
unfolding card_answer_of card_image_after card_act_of given_for is_personal answer_of image_after
old_card_lem image k s frame e = rw e (refl, refl)
