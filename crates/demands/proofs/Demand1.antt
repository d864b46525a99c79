-- Demand 1: the judgement of what is sent goes by the table, row by row.
-- Assumes nothing.
use Rattle.std.proofs.Common.{Err, None, Ok, Option, Some}
use mathlib.Core.Path.{◌≡◌, refl, ◌∙◌, ap}
use mathlib.Core.Bool.{Bool, true, false, not, cond, ◌||◌}
use mathlib.Core.List.{List, [], ◌∷◌}
use Prim.Native.Nat.{ℕ}
use native.Mathlib.Omega.{arith}
use lib.Dec.{eqb}
use lib.IntN.{◌+ℤ◌, ◌-ℤ◌}
use lib.ListN.{length}
use Rattle.layout.specs.Layout.{sector_of, is_trailer, block_at}
use Rattle.layout.specs.declared.Block.{Block}
use Rattle.memory.specs.Memory.{content_of}
use Rattle.access.specs.declared.rights.Operation.TheVariants as column
use Rattle.value.specs.Block.{bits_in, address_in}
use Rattle.value.specs.Sum.{total_of, is_negative, ruled_of}
use Rattle.value.specs.Whole.{signed, bits, in_range}
use Rattle.value.specs.declared.sum.SumError.TheVariants.{Negative, Outside}
use Rattle.session.specs.Session.{is_empty}
use Rattle.session.specs.declared.Kind.{Kind}
use Rattle.session.specs.declared.Kind.TheVariants.{Increment, Decrement, Restore}
use Rattle.session.specs.Session.{Register}
use Rattle.session.specs.declared.Session.{Session}
use Rattle.frame.specs.Command.{byte_in, command_of}
use Rattle.frame.specs.declared.Command.{Command}
use Rattle.frame.specs.declared.Command.TheVariants.{Unknown, Authenticate, Read, Write, Store, Begin, Apply, Transfer, Halt}
use Rattle.judge.specs.First.{Check, check, first, ruled}
use Rattle.judge.specs.Checks.{no_card, incoherent, no_block, other_sector, is_blocked, access_of, is_forbidden, no_right, memory_checks, checks_of, authenticate_checks, frame_checks}
use Rattle.judge.specs.Judge.{total_for, load_of, applied_of, move_of, trailer_bits, shown_of, stored_of, done_of, commanded_of, judge_of}
use Rattle.judge.specs.declared.Act.{Act}
use Rattle.judge.specs.declared.Act.TheVariants.{Refused, Authenticated, Shown, TrailerShown, Stored, TrailerStored, Loaded, Moved, Halted}
use Rattle.card.specs.Trailer.{zeros}
use Rattle.card.specs.Effects.{number_of, refused_sign, image_of}
use Rattle.card.specs.Step.{answered}
use Rattle.card.specs.Answers.{Answer}
use Rattle.card.specs.declared.Sign.TheVariants.{Nothing}
use Rattle.sealed.specs.Sealed.{inner_of, unsealed, sealed_of}
use Rattle.sealed.proofs.Laws.{refused_none}
use Rattle.edition.specs.Edition.{usage_of, wrong_size}
use Rattle.edition.specs.Edition.{Choice}
use Rattle.edition.specs.declared.CardRecord.{CardRecord}
use Rattle.either_card.specs.Personal.{is_personal, read_zero, choosing, acknowledged}
use Rattle.either_card.specs.Either.{card_act_of, sealed_card_act_of, given_for, card_answer_of, card_image_after, sealed_card_of, sealed_card_answer_of, sealed_card_image_after}
use Rattle.either_card.specs.Code.{given_of}
use Rattle.either_card.proofs.Laws.{read_command, personal_idle, refusal_given}
use Rattle.runs.specs.Run.{State, Sent, reset, bare, sealed, answer_to, image_upon, act_of}
use Rattle.demands.specs.Demand1.{Wanted, shared, personalize, Row, row, any_frame, no_usage, is_locked, no_card_for, command_rows, table, wanted_of, asked, Met, here, below, owed_for, Demand1}
use Rattle.edition.specs.declared.Usage.{Usage}

-- the act that a table of rows leaves of a command
abbrev pub rule : Wanted → List Row → Act → Act
rule c [] act = act
rule c (r ∷ rows) act = cond (r.applies c) (Refused r.number) (rule c rows act)

-- a list of checks as rows
abbrev rows_of : List Check → List Row
rows_of [] = []
rows_of (check n applies ∷ cs) = row n (refused_sign n) (any_frame applies) ∷ rows_of cs

by_rows : (c : Wanted) (cs : List Check) (act : Act) → ruled (first cs) act ≡ rule c (rows_of cs) act
unfolding first ruled
by_rows c [] act = refl
by_rows c (check n true ∷ cs) act = refl
by_rows c (check n false ∷ cs) act = by_rows c cs act

-- a row that is met decides, and without one the number is that of the act
pub met_rule : (r : Row) (c : Wanted) (rows : List Row) (act : Act) → Met r c rows → rule c rows act ≡ Refused r.number
met_rule r c rows act (here rest e) = rw e
met_rule r c rows act (below above rest e m) = rw e (met_rule r c rest act m)

pub none_else : (c : Wanted) (rows : List Row) (act : Act) → number_of act ≡ 0 → (number_of (rule c rows act) ≡ 0 → ⊥) → (r : Row) × Met r c rows × (number_of (rule c rows act) ≡ r.number)
unfolding number_of
none_else c [] act z h = absurd (h z)
none_else c (q ∷ rows) act z h = go (q.applies c) refl h (none_else c rows act z)
  where
    go : (t : Bool) → q.applies c ≡ t → (number_of (cond t (Refused q.number) (rule c rows act)) ≡ 0 → ⊥)
        → ((number_of (rule c rows act) ≡ 0 → ⊥) → (r : Row) × Met r c rows × (number_of (rule c rows act) ≡ r.number))
        → (r : Row) × Met r c (q ∷ rows) × (number_of (cond t (Refused q.number) (rule c rows act)) ≡ r.number)
    go true e k f = (q, here rows e, refl)
    go false e k f = let m = f k in (m.0, below q rows e m.1, m.2)

-- the signs of a table are the card's, and no number is 0
abbrev pub Signed : List Row → Type 0
Signed [] = Unit {0}
Signed (r ∷ rows) = (refused_sign r.number ≡ r.air) × (eqb r.number 0 ≡ false) × Signed rows

pub met_sign : (r : Row) (c : Wanted) (rows : List Row) → Signed rows → Met r c rows → (refused_sign r.number ≡ r.air) × (eqb r.number 0 ≡ false)
met_sign r c rows p (here rest e) = (p.0, p.1)
met_sign r c rows p (below above rest e m) = met_sign r c rest p.2 m

-- 13 before 10, and what is left is loaded
lastly : (negative fits : Bool) (v a : ℕ) → load_of (cond negative (Err Negative) (cond fits (Ok v) (Err Outside))) a ≡ cond negative (Refused 13) (cond (not fits) (Refused 10) (Loaded v a))
unfolding load_of
lastly true fits v a = refl
lastly false true v a = refl
lastly false false v a = refl

module _ (k : CardRecord) (image : List ℕ) (s : Session) (frame : List ℕ) where
  -- an accepted act that, once every row is passed, is what the command comes to
  abbrev Follows : Command → Type 0
  Follows c = (act : Act) × (number_of act ≡ 0) × (commanded_of image s c frame ≡ rule (shared c) (command_rows k image s frame) act)

  module _ (b : Block) where
    -- past the checks of a value operation
    apart : (q : Kind) (last : Act) → applied_of image q b frame ≡ last → commanded_of image s (Apply b q) frame ≡ rule (shared (Apply b q)) (rows_of (checks_of image s (Apply b q) frame)) last
    unfolding commanded_of done_of
    apart q last e = by_rows (shared (Apply b q)) (checks_of image s (Apply b q) frame) _ ∙ ap (rule (shared (Apply b q)) (rows_of (checks_of image s (Apply b q) frame))) e

    applied : (q : Kind) → Follows (Apply b q)
    unfolding number_of checks_of memory_checks applied_of total_for ruled_of total_of load_of
    applied Increment =
        let value = signed (bits_in (content_of image b)) in
        let z = value +ℤ signed (bits_in frame) in
        (Loaded (bits z) (address_in (content_of image b)), refl, apart Increment _ (lastly (is_negative (signed (bits_in frame))) (in_range z) (bits z) _))
    applied Decrement =
        let value = signed (bits_in (content_of image b)) in
        let z = value -ℤ signed (bits_in frame) in
        (Loaded (bits z) (address_in (content_of image b)), refl, apart Decrement _ (lastly (is_negative (signed (bits_in frame))) (in_range z) (bits z) _))
    applied Restore = (Loaded (bits_in (content_of image b)) (address_in (content_of image b)), refl, apart Restore _ refl)

    -- past 9 the register is full
    past_nine : (r : Register) → (act : Act) × (number_of act ≡ 0) × (cond (is_empty r) (Refused 9) (move_of r b) ≡ cond (is_empty r) (Refused 9) act)
    unfolding number_of move_of
    past_nine None = (Halted, refl, refl)
    past_nine (Some (v, a)) = (Moved b v a, refl, refl)

    moved : Follows (Transfer b)
    unfolding commanded_of checks_of memory_checks done_of
    moved =
        let n = past_nine s.register in
        let last : Act → Act = λ x. rule (shared (Transfer b)) (rows_of (memory_checks image s.auth column.Decrement b)) x in
        (n.0, n.1, by_rows (shared (Transfer b)) (checks_of image s (Transfer b) frame) _ ∙ ap last n.2)

    -- what is shown or stored is no refusal
    shown_0 : number_of (shown_of image b) ≡ 0
    unfolding number_of shown_of
    shown_0 = go (is_trailer b)
      where
        go : (t : Bool) → number_of (cond t (TrailerShown b (trailer_bits image b)) (Shown b)) ≡ 0
        go true = refl
        go false = refl

    stored_0 : number_of (stored_of image b) ≡ 0
    unfolding number_of stored_of
    stored_0 = go (is_trailer b)
      where
        go : (t : Bool) → number_of (cond t (TrailerStored b (trailer_bits image b)) (Stored b)) ≡ 0
        go true = refl
        go false = refl

  halts : Follows Halt
  unfolding number_of commanded_of checks_of done_of first ruled
  halts = (Halted, refl, refl)

  follows : (c : Command) → Follows c
  unfolding number_of commanded_of checks_of authenticate_checks memory_checks done_of first ruled
  follows Unknown = (Halted, refl, refl)
  follows (Authenticate b l) = (Authenticated (sector_of b) l, refl, by_rows (shared (Authenticate b l)) (authenticate_checks image l b frame) _)
  follows (Read b) = (_, shown_0 b, by_rows (shared (Read b)) (checks_of image s (Read b) frame) _)
  follows (Write b) = (_, refl, by_rows (shared (Write b)) (checks_of image s (Write b) frame) _)
  follows (Store b) = (_, stored_0 b, by_rows (shared (Store b)) (checks_of image s (Store b) frame) _)
  follows (Begin b q) = (_, refl, by_rows (shared (Begin b q)) (checks_of image s (Begin b q) frame) _)
  follows (Apply b q) = applied b q
  follows (Transfer b) = moved b
  follows Halt = halts

-- 40h: what a Read of block 0 is refused with, then 17 and 18
personal_rows : (x y c2 c3 c5 c6 c7 : Bool) (choice : Choice) (asked : Option Usage) (act : Act) → number_of act ≡ 0
    → choosing choice asked (number_of (cond x (Refused 11) (cond y (Refused 12) (cond c2 (Refused 2) (cond c3 (Refused 3) (cond c5 (Refused 5) (cond c6 (Refused 6) (cond c7 (Refused 7) act))))))))
    ≡ cond x (Refused 11) (cond y (Refused 12) (cond c2 (Refused 2) (cond c3 (Refused 3) (cond c5 (Refused 5) (cond c6 (Refused 6) (cond c7 (Refused 7)
    (cond (no_usage asked) (Refused 17) (cond (is_locked choice) (Refused 18) (Shown (block_at 0))))))))))
unfolding number_of choosing
personal_rows true y c2 c3 c5 c6 c7 choice asked act z = refl
personal_rows false true c2 c3 c5 c6 c7 choice asked act z = refl
personal_rows false false true c3 c5 c6 c7 choice asked act z = refl
personal_rows false false false true c5 c6 c7 choice asked act z = refl
personal_rows false false false false true c6 c7 choice asked act z = refl
personal_rows false false false false false true c7 choice asked act z = refl
personal_rows false false false false false false true choice asked act z = refl
personal_rows false false false false false false false choice None act z = rw z
personal_rows false false false false false false false None (Some u) act z = rw z
personal_rows false false false false false false false (Some v) (Some u) act z = rw z

module _ (k : CardRecord) (image : List ℕ) (s : Session) where
  -- 11 and 12 come first
  judged : (frame : List ℕ) (c : Command) → command_of s.stage frame ≡ c
      → (act : Act) × (number_of act ≡ 0)
      × (judge_of image s frame ≡ rule (shared c) (row 11 Nothing (any_frame (no_card image)) ∷ row 12 Nothing (any_frame (incoherent image s)) ∷ command_rows k image s frame) act)
  unfolding judge_of frame_checks
  judged frame c e =
      let f = follows k image s frame c in
      (f.0, f.1, by_rows (shared c) (frame_checks image s) _ ∙ rw (e, f.2))

  -- the act of a bare frame, by the table
  card_table : (frame : List ℕ)
      → (act : Act) × (number_of act ≡ 0)
      × (card_act_of image k s frame
      ≡ rule (wanted_of k s frame) (row 11 Nothing (any_frame (no_card_for k image)) ∷ row 12 Nothing (any_frame (incoherent image s)) ∷ command_rows k image s frame) act)
  unfolding card_act_of number_of
  card_table frame = go (wrong_size k.edition (length image)) (is_personal k.edition s.stage frame) refl
    where
      go : (w p : Bool) → is_personal k.edition s.stage frame ≡ p
          → (act : Act) × (number_of act ≡ 0)
          × (cond w (Refused 11) (cond p (choosing k.choice (usage_of (byte_in frame 1)) (number_of (judge_of image s read_zero))) (judge_of image s frame))
          ≡ rule (cond p (personalize (byte_in frame 1)) (shared (command_of s.stage frame)))
          (row 11 Nothing (any_frame (w || no_card image)) ∷ row 12 Nothing (any_frame (incoherent image s)) ∷ command_rows k image s frame) act)
      go true p e = (Halted, refl, refl)
      go false true e =
          let read = judged read_zero (Read (block_at 0)) (read_command s.stage (personal_idle k.edition s.stage frame e)) in (
            Shown (block_at 0),
            refl,
            rw read.2 (personal_rows (no_card image) (incoherent image s) (no_block image (block_at 0)) (other_sector s.auth (block_at 0)) (is_blocked (access_of image (block_at 0)))
                (is_forbidden column.Read true (is_trailer (block_at 0))) (no_right (access_of image (block_at 0)) s.auth column.Read (block_at 0)) k.choice (usage_of (byte_in frame 1)) read.0 read.1),
          )
      go false false e = judged frame (command_of s.stage frame) refl

-- with a checksum 14 stands after them
sealed_rows : (w x y u : Bool) (p : Act)
    → cond w (Refused 11) (ruled (first (check 11 x ∷ check 12 y ∷ check 14 u ∷ [])) (cond (w || x) (Refused 11) (cond y (Refused 12) p)))
    ≡ cond (w || x) (Refused 11) (cond y (Refused 12) (cond u (Refused 14) p))
unfolding first ruled
sealed_rows true x y u p = refl
sealed_rows false true y u p = refl
sealed_rows false false true u p = refl
sealed_rows false false false true p = refl
sealed_rows false false false false p = refl

-- the act of what is sent, by the table
pub by_table : (st : State) (e : Sent) → (act : Act) × (number_of act ≡ 0) × (act_of st e ≡ rule (asked st e) (table st e) act)
unfolding act_of number_of sealed_card_act_of frame_checks
by_table st reset = (Halted, refl, refl)
by_table st (bare frame) = card_table st.card st.image st.session frame
by_table st (sealed frame) =
    let f = card_table st.card st.image st.session (inner_of frame) in
    (f.0, f.1, rw f.2 (sealed_rows (wrong_size st.card.edition (length st.image)) (no_card st.image) (incoherent st.image st.session) (unsealed frame) _))

signs : (st : State) (e : Sent) → Signed (table st e)
unfolding refused_sign
signs st reset = tt
signs st (bare frame) = (refl, refl, (refl, refl, (refl, refl, (refl, refl, (refl, refl, (refl, refl, (refl, refl, (refl, refl, (refl, refl, (refl, refl, (refl, refl, (refl, refl, (refl, refl, (refl, refl, (refl, refl, tt)))))))))))))))
signs st (sealed frame) = (refl, refl, (refl, refl, (refl, refl, (refl, refl, (refl, refl, (refl, refl, (refl, refl, (refl, refl, (refl, refl, (refl, refl, (refl, refl, (refl, refl, (refl, refl, (refl, refl, (refl, refl, (refl, refl, tt))))))))))))))))

-- what a refusal gives and leaves, and the number of any answer
refused_as : (st : State) (e : Sent) (n : ℕ) → eqb n 0 ≡ false → act_of st e ≡ Refused n
    → (answer_to st e ≡ owed_for st e (row n (refused_sign n) (any_frame true))) × (image_upon st e ≡ st.image)
unfolding act_of answer_to image_upon card_answer_of card_image_after sealed_card_answer_of sealed_card_of sealed_card_image_after sealed_of image_of given_of
refused_as st reset n z a = let q : ◌≡◌ {A = ℕ} 0 1 = cc in absurd (omega arith)
refused_as st (bare frame) n z a = rw (a, refusal_given st.image st.card st.session frame n z) (refl, refl)
refused_as st (sealed frame) n z a = rw (a, refusal_given st.image st.card st.session (inner_of frame) n z, refused_none n zeros) (refl, refl)

pub same_number : (t : Bool) (a : Answer) → (cond t (acknowledged a) a).number ≡ a.number
unfolding acknowledged
same_number true a = refl
same_number false a = refl

numbered : (st : State) (e : Sent) → (answer_to st e).answer.number ≡ number_of (act_of st e)
unfolding act_of answer_to card_answer_of given_for answered sealed_card_answer_of sealed_card_of sealed_of number_of
numbered st reset = refl
numbered st (bare frame) = same_number (is_personal st.card.edition st.session.stage frame) _
numbered st (sealed frame) = same_number (is_personal st.card.edition st.session.stage (inner_of frame)) _

pub demand_1 : (st : State) (e : Sent) → Demand1 st e
demand_1 st e =
    let f = by_table st e in
    let number : (answer_to st e).answer.number ≡ number_of (rule (asked st e) (table st e) f.0) = numbered st e ∙ ap number_of f.2 in
    record {
      refuses = λ r m.
          let g = met_sign r (asked st e) (table st e) (signs st e) m in
          let p = refused_as st e r.number g.1 (f.2 ∙ met_rule r (asked st e) (table st e) f.0 m) in
          (p.0 ∙ rw g.0, p.1);
      alone = λ h. rw number (none_else (asked st e) (table st e) f.0 f.1 (λ z. h (number ∙ z)));
    }
