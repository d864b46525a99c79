-- Demand 3: the books of a block stay true, act by act.
-- Assumes nothing.
use Rattle.std.proofs.Common.{Ok, Some}
use mathlib.Core.Path.{◌≡◌, refl, sym, ◌∙◌, ap}
use mathlib.Core.Bool.{Bool, true, false, not, ◌||◌, cond}
use mathlib.Core.List.{List}
use Prim.Native.Nat.{ℕ, ◌<◌}
use lib.Dec.{eqb}
use lib.IntN.{ℤ, ◌+ℤ◌, +ℤ_assoc, +ℤ_idr}
use lib.ListN.{length}
use borrow.Author.Tests.{eqb-true, eqb-false, not-true}
use Rattle.layout.specs.Layout.{has_block, block_at}
use Rattle.layout.specs.declared.Block.{Block}
use Rattle.memory.specs.Memory.{content_of, store_of}
use Rattle.memory.proofs.Laws.{store_back, store_other}
use Rattle.value.specs.Whole.{signed}
use Rattle.value.specs.Block.{encode_of, decode_of, bits_in, address_in}
use Rattle.value.proofs.Blocks.{value_and_address, decode_encode, decode_small, encode_length, read_value}
use Rattle.value.proofs.Sums.{ruled_back}
use Rattle.session.specs.declared.Kind.{Kind}
use Rattle.session.specs.declared.Kind.TheVariants.{Increment, Decrement, Restore}
use Rattle.session.specs.Session.{Register}
use Rattle.judge.specs.Checks.{writable_by}
use Rattle.judge.specs.Judge.{total_for}
use Rattle.judge.specs.declared.Act.{Act}
use Rattle.judge.specs.declared.Act.TheVariants.{Refused, Authenticated, Shown, TrailerShown, WriteWaits, ValueWaits, Stored, TrailerStored, Loaded, Moved, Halted}
use Rattle.card.specs.Effects.{session_of, image_of}
use Rattle.runs.specs.Run.{State, begin, Sent, acted}
use Rattle.runs.specs.Watch.{noted, nothing_noted}
use Rattle.laws.specs.Accepted.{Accepted, Load}
use Rattle.laws.proofs.Lengths.{sixteen_length, mixed_length}
use Rattle.laws.proofs.Keeps.{both_true, keeps, beside, beside_noted, both, beside_always, unasked}
use Rattle.demands.specs.Demand3.{deed_of, is_write, is_transfer, own_load, Books, opened, change_of, settled, booked, Demand3}

-- a block that holds a value and an address byte
holds : (block : List ℕ) (v a : ℕ) → decode_of block ≡ Some (v, a) → (bits_in block ≡ v) × (address_in block ≡ a)
holds block v a e = let r = read_value block (decode_of block) refl v a e in (sym r.1, sym r.2)

-- what a value operation makes of a value, in whole numbers
result : (k : Kind) (w x : ℕ) (frame : List ℕ) → w < 4294967296 → total_for k w (bits_in frame) ≡ Ok x → (signed x ≡ signed w +ℤ change_of k frame) × (x < 4294967296)
unfolding total_for
result Increment w x frame h e = let b = ruled_back _ _ x e in (b.1, b.2)
result Decrement w x frame h e = let b = ruled_back _ _ x e in (b.1, b.2)
result Restore w x frame h e = let q : w ≡ x = cc in (ap signed (sym q) ∙ sym (+ℤ_idr (signed w)), rw q at h)

module _ (b : Block) (v a : ℕ) where
  -- what a register that holds a load of the block has in it, for a block with the value w
  abbrev Holds : Bool → Bool → ℤ → Register → ℕ → Type 0
  Holds false counted change r w = Unit {0}
  Holds true true change r w = r ≡ Some (w, a)
  Holds true false change r w = (x : ℕ) × (r ≡ Some (x, a)) × (signed x ≡ signed w +ℤ change) × (x < 4294967296)

  -- the books are true
  record True (own : Bool) (k : Books) (image : List ℕ) (r : Register) : Type 0 where
    value : ℕ
    here : decode_of (content_of image b) ≡ Some (value, a)
    sum : signed value ≡ signed v +ℤ k.sum
    held : Holds own k.counted k.change r value

  module _ (own : Bool) (k : Books) (st : State) (frame : List ℕ) (t : True own k st.image st.session.register) where
    -- another block was stored into
    stays : (c : Block) (bytes : List ℕ) → length bytes ≡ 16 → eqb c.0 b.0 ≡ false → True own k (store_of st.image c bytes) st.session.register
    stays c bytes l other =
        let e = store_other st.image c bytes l b (eqb-false c.0 b.0 other) in
        record { value = t.value; here = ap decode_of e ∙ t.here; sum = t.sum; held = t.held }

    -- nothing of the block is held
    empties : (r : Register) → True false k st.image r
    empties r = record { value = t.value; here = t.here; sum = t.sum; held = tt }

    -- a load from the block, or from another
    loads : (x d : ℕ) → Load st.image st.session frame x d
        → True (own_load b own st frame (Loaded x d)) (booked b k st frame (Loaded x d)) st.image (Some (x, d))
    loads x d l = rw l.awaited (go (eqb l.source.0 b.0) refl)
      where
        go : (u : Bool) → eqb l.source.0 b.0 ≡ u → True u (record { change = change_of l.kind frame; counted = false; sum = k.sum }) st.image (Some (x, d))
        go false e = record { value = t.value; here = t.here; sum = t.sum; held = tt }
        go true e =
            let q : l.source ≡ b = ap block_at (eqb-true l.source.0 b.0 e) in
            let h = holds (content_of st.image b) t.value a t.here in
            let w : bits_in (content_of st.image l.source) ≡ t.value = ap (λ (c : Block). bits_in (content_of st.image c)) q ∙ h.0 in
            let ad : d ≡ a = l.address ∙ ap (λ (c : Block). address_in (content_of st.image c)) q ∙ h.1 in
            let z = result l.kind t.value x frame (decode_small (content_of st.image b) t.value a t.here) (rw w at l.result) in
            record { value = t.value; here = t.here; sum = t.sum; held = (x, ap (λ (n : ℕ). Some (x, n)) ad, z.0, z.1) }

    -- a Transfer into another block, or of a load into this one
    moves : (c : Block) (x d : ℕ) → has_block (length st.image) c ≡ true → st.session.register ≡ Some (x, d) → (u : Bool) → eqb c.0 b.0 ≡ u → (not u || own) ≡ true
        → True own (cond u (settled k) k) (store_of st.image c (encode_of (signed x) d)) st.session.register
    moves c x d has full false e f = stays c (encode_of (signed x) d) (encode_length (signed x) d) e
    moves c x d has full true e f = brought k.counted refl
      where
        -- the block afterwards, once its value and address byte are known
        block_after_lem : (y : ℕ) → ◌≡◌ {A = Register} (Some (x, d)) (Some (y, a)) → y < 4294967296 → decode_of (content_of (store_of st.image c (encode_of (signed x) d)) b) ≡ Some (y, a)
        block_after_lem y q h =
            let p = value_and_address q in
            let put : content_of (store_of st.image c (encode_of (signed x) d)) c ≡ encode_of (signed x) d = store_back st.image c (encode_of (signed x) d) (encode_length (signed x) d) has in
            let there : content_of (store_of st.image c (encode_of (signed x) d)) b ≡ encode_of (signed y) a =
            ap (λ (j : Block). content_of (store_of st.image c (encode_of (signed x) d)) j) (ap block_at (sym (eqb-true c.0 b.0 e))) ∙ put ∙ rw (p.0, p.1) in
            ap decode_of there ∙ decode_encode y a h

        brought : (n : Bool) → k.counted ≡ n
            → True own (record { change = k.change; counted = true; sum = cond k.counted k.sum (k.sum +ℤ k.change) }) (store_of st.image c (encode_of (signed x) d)) st.session.register
        brought true n =
            let r : st.session.register ≡ Some (t.value, a) = rw (f, n) at t.held in
            let h = decode_small (content_of st.image b) t.value a t.here in
            rw (f, n) (record { value = t.value; here = block_after_lem t.value (sym full ∙ r) h; sum = t.sum; held = r })
        brought false n =
            let r : Holds true false k.change st.session.register t.value = rw (f, n) at t.held in
            rw (f, n)
            (record {
              value = r.0;
              here = block_after_lem r.0 (sym full ∙ r.1) r.3;
              sum = r.2 ∙ ap (λ (z : ℤ). z +ℤ k.change) t.sum ∙ +ℤ_assoc (signed v) k.sum k.change;
              held = r.1;
            })

    step : (act : Act) → Accepted st.image st.session frame act → not (is_write b (deed_of act)) ≡ true → (not (is_transfer b (deed_of act)) || own) ≡ true
        → True (own_load b own st frame act) (booked b k st frame act) (acted st.card st frame act).image (acted st.card st frame act).session.register
    unfolding image_of session_of
    step (Refused n) h w f = empties _
    step (Authenticated u l) h w f = empties _
    step (Shown c) h w f = t
    step (TrailerShown c m) h w f = t
    step (WriteWaits c) h w f = t
    step (ValueWaits c j) h w f = t
    step (Stored c) h w f = stays c _ (sixteen_length frame) (not-true _ w)
    step (TrailerStored c m) h w f = stays c _ (mixed_length (writable_by st.session.auth m) st.image c frame) (not-true _ w)
    step (Loaded x d) h w f = loads x d h
    step (Moved c x d) h w f = moves c x d h.1.has h.2 (eqb c.0 b.0) refl f
    step Halted h w f = empties _

-- three watchers side by side: one sees that the block is not written, one that only its own loads come into it, and one keeps its books
module _ (b : Block) where
  abbrev Notes : Type 0
  Notes = Unit {0} × (Bool × Books)

  abbrev watch : Notes → State → List ℕ → Act → Notes
  watch = beside nothing_noted (beside (own_load b) (booked b))

  abbrev unwritten_test : Unit {0} → State → List ℕ → Act → Bool
  unwritten_test x st frame act = not (is_write b (deed_of act))

  abbrev own_test : Bool → State → List ℕ → Act → Bool
  own_test own st frame act = not (is_transfer b (deed_of act)) || own

  abbrev no_test : Books → State → List ℕ → Act → Bool
  no_test k st frame act = true

  abbrev test : Notes → State → List ℕ → Act → Bool
  test = both nothing_noted (beside (own_load b) (booked b)) unwritten_test (both (own_load b) (booked b) own_test no_test)

  books : (st : State) (events : List Sent) → (noted watch (tt, (false, opened)) st events).1.1 ≡ noted (booked b) opened st events
  books st events =
      ap (λ (x : Notes). x.1.1) (beside_noted nothing_noted (beside (own_load b) (booked b)) tt (false, opened) st events)
      ∙ ap (λ (x : Bool × Books). x.1) (beside_noted (own_load b) (booked b) false opened st events)

pub demand_3 : Demand3
demand_3 k image b v a e events unwritten own =
    let P : Notes b → State → Type 0 = λ x st. True b v a x.1.0 x.1.1 st.image st.session.register in
    let start : P (tt, (false, opened)) (begin k image) = record { value = v; here = e; sum = sym (+ℤ_idr (signed v)); held = tt } in
    let passed = beside_always (own_load b) (booked b) (own_test b) (no_test b) false opened (begin k image) events own (unasked (booked b) opened (begin k image) events) in
    let t =
    keeps (watch b) (test b) P
    (λ x card st frame act h f p.
    let q = both_true (not (is_write b (deed_of act))) _ f in
    let r = both_true (not (is_transfer b (deed_of act)) || x.1.0) _ q.1 in
    step b v a x.1.0 x.1.1 st frame p act h q.0 r.0)
    (tt, (false, opened)) (begin k image) events
    (beside_always nothing_noted (beside (own_load b) (booked b)) (unwritten_test b) (both (own_load b) (booked b) (own_test b) (no_test b)) tt (false, opened) (begin k image) events unwritten passed)
    start in
    (t.value, t.here, t.sum ∙ ap (λ (k : Books). signed v +ℤ k.sum) (books b (begin k image) events))
