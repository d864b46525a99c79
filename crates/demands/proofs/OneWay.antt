-- A ride card cannot gain rides: act by act, no value of the sector and no load from it exceeds the bound.
-- Assumes nothing.
use Rattle.std.proofs.Common.{None, Ok, Option, Some}
use mathlib.Core.Path.{◌≡◌, refl, sym, ◌∙◌, ap}
use mathlib.Core.Bool.{Bool, true, false, not, ◌&&◌, ◌||◌, false≢true}
use mathlib.Core.List.{List}
use Prim.Native.Nat.{ℕ, ◌<◌}
use native.Mathlib.Omega.{arith}
use lib.Dec.{eqb, ltb}
use lib.IntN.{ℤ, pos, ◌-ℤ◌}
use lib.ListN.{length}
use lib.Signed.{le_z}
use borrow.Author.Tests.{eq-eqb, eqb-true, eqb-false, ltb-true, ltb-false, le-ltb, not-true}
use Rattle.layout.specs.Layout.{has_block, sector_of, trailer_of, is_trailer, group_of, sector_at}
use Rattle.layout.specs.declared.Block.{Block}
use Rattle.layout.specs.declared.Sector.{Sector}
use Rattle.layout.specs.declared.Group.{Group}
use Rattle.layout.specs.declared.Group.TheVariants.{First, Second, Third, Trailer}
use Rattle.layout.proofs.Laws.{trailer_in_sector, group_trailer, has_small}
use Rattle.memory.specs.Memory.{content_of, store_of}
use Rattle.memory.proofs.Laws.{store_back, store_other}
use Rattle.access.specs.Bits.{group_bits}
use Rattle.access.specs.Rights.{data_table, data_row, allows_of, keys_for, may_of, mute_of}
use Rattle.access.specs.declared.bits.AccessBytes.{AccessBytes}
use Rattle.access.specs.declared.rights.Letter.{Letter}
use Rattle.access.specs.declared.rights.Operation.{Operation}
use Rattle.access.specs.declared.rights.Operation.TheVariants as column
use Rattle.value.specs.Whole.{signed}
use Rattle.value.specs.Block.{encode_of, decode_of, agreeing, bits_in, address_in}
use Rattle.std.proofs.lemmas.Option.{none-some}
use Rattle.value.proofs.Blocks.{value_and_address, decode_encode, decode_small, encode_length}
use Rattle.value.proofs.Sums.{ruled_back}
use Rattle.session.specs.Session.{fresh_of, in_sector}
use Rattle.session.specs.Session.{Auth}
use Rattle.session.specs.declared.Kind.{Kind}
use Rattle.session.specs.declared.Kind.TheVariants.{Increment, Decrement, Restore}
use Rattle.session.specs.declared.Session.{Session}
use Rattle.judge.specs.Checks.{access_of, is_forbidden, kind_column, right_of, has_right, no_right, writable_by}
use Rattle.judge.specs.Judge.{total_for}
use Rattle.judge.specs.declared.Act.{Act}
use Rattle.judge.specs.declared.Act.TheVariants.{Refused, Authenticated, Shown, TrailerShown, WriteWaits, ValueWaits, Stored, TrailerStored, Loaded, Moved, Halted}
use Rattle.card.specs.Effects.{session_of, image_of}
use Rattle.runs.specs.Run.{State, begin, run_of}
use Rattle.runs.specs.Watch.{nothing_noted}
use Rattle.laws.specs.Accepted.{Allowed, Load, Accepted}
use Rattle.laws.proofs.Lengths.{sixteen_length, mixed_length}
use Rattle.laws.proofs.Laws.{block_eq}
use Rattle.laws.proofs.Keeps.{keeps}
use Rattle.demands.specs.Demand3.{deed_of, is_write}
use Rattle.demands.specs.OneWay.{access_in, RideSector, DataBlock, AtMost, OneWay, NoneEver}
use Rattle.demands.proofs.Order.{lower, above_itself}

-- a trailer is one, whatever sector it is asked of
trailer_is : (t : Sector) → is_trailer (trailer_of t) ≡ true
unfolding is_trailer trailer_of sector_of
trailer_is t = go (ltb t.0 40) refl
  where
    go : (u : Bool) → ltb t.0 40 ≡ u → is_trailer (trailer_of t) ≡ true
    go true e = eq-eqb _ _ (ap (λ (n : ℕ). (trailer_of (sector_at n)).0) (trailer_in_sector t (ltb-true t.0 40 e)))
    go false e = let h = ltb-false t.0 40 e in rw (le-ltb t.0 32 (omega (arith, h)), e)

-- under 001 no key may write or increment
never_write : (l : Letter) → may_of l column.Write 0b001 ≡ false
unfolding may_of keys_for data_row data_table allows_of
never_write l = refl

never_increment : (l : Letter) → may_of l column.Increment 0b001 ≡ false
unfolding may_of keys_for data_row data_table allows_of
never_increment l = refl

-- so 7 refuses it
barred : (x : AccessBytes) (auth : Auth) (o : Operation) (c : Block) → ((l : Letter) → may_of l o 0b001 ≡ false)
    → is_trailer c ≡ false → group_bits x (group_of c) ≡ 0b001 → no_right x auth o c ≡ true
unfolding no_right has_right right_of
barred x None o c n d g = refl
barred x (Some (u, l)) o c n d g = rw (d, g, n l) (go (mute_of l (group_bits x Trailer)))
  where
    go : (m : Bool) → not (not m && false) ≡ true
    go true = refl
    go false = refl

or_false : (x y : Bool) → (x || y) ≡ false → (x ≡ false) × (y ≡ false)
or_false false y e = (refl, e)
or_false true y e = (e, cc)

-- a value operation is not for block 0 nor for a trailer
not_forbidden : (k : Kind) (z u : Bool) → is_forbidden (kind_column k) z u ≡ false → (z ≡ false) × (u ≡ false)
unfolding is_forbidden kind_column
not_forbidden Increment z u e = or_false z u e
not_forbidden Decrement z u e = or_false z u e
not_forbidden Restore z u e = or_false z u e

agreed : (block : List ℕ) → agreeing block ≡ true → decode_of block ≡ Some (bits_in block, address_in block)
unfolding decode_of
agreed block e = rw e

module _ (t : Sector) (top : ℤ) where
  -- the bits of a data block of the sector
  ride_bits : (image : List ℕ) → RideSector image t → (c : Block) → sector_of c ≡ t → is_trailer c ≡ false → c.0 < 256 → group_bits (access_of image c) (group_of c) ≡ 0b001
  ride_bits image r c inside d small = rw inside (go (group_of c) refl)
    where
      go : (g : Group) → group_of c ≡ g → group_bits (access_in image t) g ≡ 0b001
      go First e = r.first
      go Second e = r.second
      go Third e = r.third
      go Trailer e = absurd (false≢true (sym d ∙ group_trailer c small e))

  -- what holds between any two events; a load counts for the sector while it is the authenticated one
  record Safe (image : List ℕ) (s : Session) : Type 0 where
    ride : RideSector image t
    below : AtMost top image t
    held : (l : Letter) (v a : ℕ) → s.auth ≡ Some (t, l) → s.register ≡ Some (v, a) → (le_z (signed v) top ≡ true) × (v < 4294967296)

  -- the trailer stays, and so do the bits
  ride_stays : (image image' : List ℕ) → content_of image' (trailer_of t) ≡ content_of image (trailer_of t) → RideSector image t → RideSector image' t
  ride_stays image image' e r = record { opened = rw e r.opened; first = rw e r.first; second = rw e r.second; third = rw e r.third }

  module _ (image : List ℕ) (s : Session) (frame : List ℕ) (safe : Safe image s) where
    -- the session changes but for who is authenticated and the register
    same_session : (s' : Session) → s'.auth ≡ s.auth → s'.register ≡ s.register → Safe image s'
    same_session s' ea er = record { ride = safe.ride; below = safe.below; held = λ l v a e f. safe.held l v a (sym ea ∙ e) (sym er ∙ f) }

    -- the register is empty
    emptied : (image' : List ℕ) (s' : Session) → image' ≡ image → s'.register ≡ None → Safe image' s'
    emptied image' s' ei er =
        record { ride = rw ei safe.ride; below = rw ei safe.below; held = λ l v a e f. absurd (none-some _ (sym er ∙ f)) }

    -- a store into a block that is neither the trailer nor a data block of the sector; or of a value that is not above the bound
    stored : (c : Block) (bytes : List ℕ) (s' : Session) → length bytes ≡ 16 → has_block (length image) c ≡ true → s'.auth ≡ s.auth → s'.register ≡ s.register
        → (c.0 ≡ (trailer_of t).0 → ⊥) → (DataBlock t c → (v a : ℕ) → decode_of bytes ≡ Some (v, a) → le_z (signed v) top ≡ true) → Safe (store_of image c bytes) s'
    stored c bytes s' l has ea er other fair =
        record {
          ride = ride_stays image (store_of image c bytes) (store_other image c bytes l (trailer_of t) other) safe.ride;
          below = λ b d v a e. go b d v a e (eqb c.0 b.0) refl;
          held = λ u v a e f. safe.held u v a (sym ea ∙ e) (sym er ∙ f);
        }
      where
        go : (b : Block) → DataBlock t b → (v a : ℕ) → decode_of (content_of (store_of image c bytes) b) ≡ Some (v, a) → (u : Bool) → eqb c.0 b.0 ≡ u → le_z (signed v) top ≡ true
        go b d v a e true q =
            let k : c ≡ b = block_eq c b (eqb-true c.0 b.0 q) in
            let put : content_of (store_of image c bytes) b ≡ bytes = ap (content_of (store_of image c bytes)) (sym k) ∙ store_back image c bytes l has in
            fair (rw k d) v a (sym (ap decode_of put) ∙ e)
        go b d v a e false q = safe.below b d v a (sym (ap decode_of (store_other image c bytes l b (eqb-false c.0 b.0 q))) ∙ e)

    -- no data block of the sector is written or incremented
    no_write : (c : Block) → Allowed image s.auth column.Write c → DataBlock t c → ⊥
    no_write c w d =
        let g = ride_bits image safe.ride c d.inside d.data_block (has_small (length image) c w.has) in
        false≢true (sym w.entitled ∙ barred (access_of image c) s.auth column.Write c never_write d.data_block g)

    -- who may use a block of the sector is authenticated for it
    own_sector : (auth : Auth) (c : Block) → sector_of c ≡ t → in_sector auth (sector_of c) ≡ true → (l : Letter) × (auth ≡ Some (t, l))
    unfolding in_sector
    own_sector None c e h = absurd (false≢true h)
    own_sector (Some (u, l)) c e h = (l, ap (λ (n : ℕ). Some (sector_at n, l)) (eqb-true u.0 (sector_of c).0 h ∙ ap (λ (k : Sector). k.0) e))

    -- what a value operation makes of a value that is not above the bound
    counted : (k : Kind) (w x : ℕ) → (kind_column k ≡ column.Increment → ⊥) → w < 4294967296 → le_z (signed w) top ≡ true
        → total_for k w (bits_in frame) ≡ Ok x → (le_z (signed x) top ≡ true) × (x < 4294967296)
    unfolding total_for kind_column
    counted Increment w x n h b e = absurd (n refl)
    counted Decrement w x n h b e =
        let r = ruled_back _ _ x e in
        (rw r.1 (lower (signed w) (signed (bits_in frame)) top r.0 b), r.2)
    counted Restore w x n h b e = let q : w ≡ x = cc in (rw (← q) b, rw (← q) h)

    loaded : (x d : ℕ) (s' : Session) → Load image s frame x d → s'.auth ≡ s.auth → s'.register ≡ Some (x, d) → Safe image s'
    unfolding in_sector
    loaded x d s' load ea er = record { ride = safe.ride; below = safe.below; held = held' }
      where
        held' : (l : Letter) (v a : ℕ) → s'.auth ≡ Some (t, l) → s'.register ≡ Some (v, a) → (le_z (signed v) top ≡ true) × (v < 4294967296)
        held' l v a e f =
            let source = load.source in
            let allowed = load.countable.allowed in
            let here : in_sector (Some (t, l)) (sector_of source) ≡ true = rw (sym ea ∙ e) at allowed.own in
            let inside : sector_of source ≡ t = ap sector_at (sym (eqb-true t.0 (sector_of source).0 here)) in
            let free = not_forbidden load.kind (eqb source.0 0) (is_trailer source) allowed.lawful in
            let d : DataBlock t source = record { inside = inside; data_block = free.1; not_zero = free.0 } in
            let block = content_of image source in
            let value = agreed block load.countable.value in
            let g = ride_bits image safe.ride source inside free.1 (has_small (length image) source allowed.has) in
            let down : kind_column load.kind ≡ column.Increment → ⊥ = λ q.
            false≢true (sym (rw q at allowed.entitled) ∙ barred (access_of image source) s.auth column.Increment source never_increment free.1 g) in
            let r = counted load.kind (bits_in block) x down (decode_small block _ _ value) (safe.below source d _ _ value) load.result in
            let v-is : x ≡ v = (value_and_address (sym er ∙ f)).0 in
            rw (← v-is) r

    -- a Transfer into a block of the sector brings a load from the sector
    moved : (c : Block) (x d : ℕ) → Allowed image s.auth column.Decrement c → s.register ≡ Some (x, d) → Safe (store_of image c (encode_of (signed x) d)) s
    unfolding kind_column
    moved c x d w full = stored c (encode_of (signed x) d) s (encode_length (signed x) d) w.has refl refl other fair
      where
        other : c.0 ≡ (trailer_of t).0 → ⊥
        other e =
            let free = not_forbidden Decrement (eqb c.0 0) (is_trailer c) w.lawful in
            false≢true (sym free.1 ∙ ap is_trailer (block_eq c (trailer_of t) e) ∙ trailer_is t)

        fair : DataBlock t c → (v a : ℕ) → decode_of (encode_of (signed x) d) ≡ Some (v, a) → le_z (signed v) top ≡ true
        fair b v a e =
            let o = own_sector s.auth c b.inside w.own in
            let h = safe.held o.0 x d o.1 full in
            let v-is : x ≡ v = (value_and_address (sym (decode_encode x d h.1) ∙ e)).0 in
            rw (← v-is) h.0

    step : (act : Act) → Accepted image s frame act → is_write (trailer_of t) (deed_of act) ≡ false → Safe (image_of image s.auth act frame) (session_of s act)
    unfolding image_of session_of
    step (Refused n) h k = emptied image fresh_of refl refl
    step (Authenticated u l) h k = emptied image _ refl refl
    step (Shown c) h k = safe
    step (TrailerShown c m) h k = safe
    step (WriteWaits c) h k = same_session _ refl refl
    step (ValueWaits c j) h k = same_session _ refl refl
    step (Stored c) h k =
        stored c _ _ (sixteen_length frame) h.1.has refl refl (eqb-false c.0 (trailer_of t).0 k) (λ d v a e. absurd (no_write c h.1 d))
    step (TrailerStored c m) h k =
        stored c _ _ (mixed_length (writable_by s.auth m) image c frame) h.1.has refl refl (eqb-false c.0 (trailer_of t).0 k) (λ d v a e. absurd (no_write c h.1 d))
    step (Loaded x d) h k = loaded x d _ h refl refl
    step (Moved c x d) h k = moved c x d h.1 h.2
    step Halted h k = emptied image fresh_of refl refl

pub one_way : OneWay
one_way card image t top ride below events k =
    let P : Unit {0} → State → Type 0 = λ x st. Safe t top st.image st.session in
    let start : P tt (begin card image) = record { ride = ride; below = below; held = λ l v a e f. absurd (none-some _ f) } in
    (keeps nothing_noted (λ x st frame act. not (is_write (trailer_of t) (deed_of act))) P
    (λ x _ st frame act h f safe. step t top st.image st.session frame safe act h (not-true _ f))
    tt (begin card image) events k start).below

pub none_ever : NoneEver
none_ever card image t ride none events k b d = go (decode_of (content_of (run_of (begin card image) events).image b)) refl
  where
    go : (r : Option (ℕ × ℕ)) → decode_of (content_of (run_of (begin card image) events).image b) ≡ r → r ≡ None
    go None e = refl
    go (Some (v, a)) e =
        let start : AtMost (signed v -ℤ pos 1) image t = λ c f w g q. absurd (none-some _ (sym (none c f) ∙ q)) in
        absurd (above_itself (signed v) (one_way card image t (signed v -ℤ pos 1) ride start events k b d v a e))
