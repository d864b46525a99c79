-- What holds of every act, for any image, session and frame, through whichever entry it came.
-- Assumes nothing.
use Rattle.std.proofs.Common.{None, Some}
use mathlib.Core.Path.{◌≡◌, refl, sym, ◌∙◌, ap}
use mathlib.Core.Bool.{Bool, true, false, ◌||◌, false≢true}
use mathlib.Core.List.{List}
use Prim.Native.Nat.{ℕ, ◌<◌}
use native.Mathlib.Omega.{arith}
use lib.Dec.{eqb}
use lib.ListN.{length}
use borrow.Author.Tests.{eqb-true, eq-eqb, ltb-true}
use Rattle.layout.specs.Layout.{sectors_of, blocks_in, blocks_of, has_sector, has_block, sector_of, trailer_of, is_trailer, block_at, sector_at}
use Rattle.layout.specs.declared.Block.{Block}
use Rattle.layout.specs.declared.Sector.{Sector}
use Rattle.layout.proofs.Laws.{trailer_in_sector, sector_exists, has_sector_lem, at_most}
use Rattle.memory.specs.Memory.{sixteen_of, content_of}
use Rattle.memory.proofs.Laws.{store_length, store_back, store_other}
use Rattle.access.specs.Bits.{access_bytes_of, well_formed}
use Rattle.access.specs.Rights.{readable_of}
use Rattle.access.specs.declared.rights.Operation.{Operation}
use Rattle.value.specs.Whole.{signed}
use Rattle.value.specs.Block.{encode_of}
use Rattle.value.proofs.Blocks.{encode_length}
use Rattle.session.specs.Session.{fresh_of, fits, coherent_of, in_sector}
use Rattle.session.specs.Session.{Auth}
use Rattle.session.specs.declared.Session.{Session}
use Rattle.judge.specs.Checks.{access_of, is_forbidden, writable_by}
use Rattle.judge.specs.Judge.{trailer_bits}
use Rattle.judge.specs.declared.Act.{Act}
use Rattle.judge.specs.declared.Act.TheVariants.{Refused, Authenticated, Shown, TrailerShown, WriteWaits, ValueWaits, Stored, TrailerStored, Loaded, Moved, Halted}
use Rattle.card.specs.Trailer.{zeros, shown_trailer, mixed_of}
use Rattle.card.specs.Effects.{number_of, session_of, reply_of, image_of}
use Rattle.laws.specs.Accepted.{Allowed, Accepted}
use Rattle.laws.proofs.Lengths.{sixteen_length, sixteen_same, mixed_length}

-- the act stores into the block: a Write's second frame or a Transfer
abbrev pub Touches : Act → Block → Type 0
Touches (Refused n) j = ⊥
Touches (Authenticated t l) j = ⊥
Touches (Shown b) j = ⊥
Touches (TrailerShown b m) j = ⊥
Touches (WriteWaits b) j = ⊥
Touches (ValueWaits b k) j = ⊥
Touches (Stored b) j = b.0 ≡ j.0
Touches (TrailerStored b m) j = b.0 ≡ j.0
Touches (Loaded v a) j = ⊥
Touches (Moved b v a) j = b.0 ≡ j.0
Touches Halted j = ⊥

pub block_eq : (b c : Block) → b.0 ≡ c.0 → b ≡ c
block_eq b c e = ap block_at e

or_left : (x y : Bool) → (x || y) ≡ false → x ≡ false
or_left false y e = refl
or_left true y e = e

-- the trailer of a block's sector is in that sector
trailer_sector : (bytes : ℕ) (b : Block) → has_block bytes b ≡ true → sector_of (trailer_of (sector_of b)) ≡ sector_of b
unfolding has_block blocks_of
trailer_sector bytes b h =
    let l : (sector_of b).0 < sectors_of bytes = sector_exists (sectors_of bytes) b (ltb-true b.0 (blocks_in (sectors_of bytes)) h) in
    ap sector_at (trailer_in_sector (sector_of b) (omega (arith, (at_most bytes).0)))

-- a session whose authenticated sector is that of a block of the image is coherent
in_own_sector : (bytes : ℕ) (b : Block) (auth : Auth) (quiet : Bool) → has_block bytes b ≡ true → in_sector auth (sector_of b) ≡ true → fits auth bytes quiet ≡ true
unfolding in_sector
in_own_sector bytes b None quiet h e = absurd (false≢true e)
in_own_sector bytes b (Some (t, l)) quiet h e =
    ap (λ (n : ℕ). has_sector bytes (sector_at n)) (eqb-true t.0 (sector_of b).0 e) ∙ has_sector_lem bytes b h

-- a session has one authenticated sector
one_sector : (auth : Auth) (t u : Sector) → in_sector auth t ≡ true → in_sector auth u ≡ true → t ≡ u
unfolding in_sector
one_sector None t u p q = absurd (false≢true p)
one_sector (Some (c, l)) t u p q = ap sector_at (sym (eqb-true c.0 t.0 p) ∙ eqb-true c.0 u.0 q)

-- any act; where it matters, one that was accepted
module _ (image : List ℕ) (s : Session) (frame : List ℕ) where
  -- a refusal leaves the image, gives the fresh session and sixteen zeros
  pub refusal_fresh : (act : Act) → (number_of act ≡ 0 → ⊥) → (image_of image s.auth act frame ≡ image) × (session_of s act ≡ fresh_of) × (reply_of image act ≡ zeros)
  unfolding number_of image_of session_of reply_of
  refusal_fresh (Refused n) h = (refl, refl, refl)
  refusal_fresh (Authenticated t l) h = absurd (h refl)
  refusal_fresh (Shown b) h = absurd (h refl)
  refusal_fresh (TrailerShown b m) h = absurd (h refl)
  refusal_fresh (WriteWaits b) h = absurd (h refl)
  refusal_fresh (ValueWaits b k) h = absurd (h refl)
  refusal_fresh (Stored b) h = absurd (h refl)
  refusal_fresh (TrailerStored b m) h = absurd (h refl)
  refusal_fresh (Loaded v a) h = absurd (h refl)
  refusal_fresh (Moved b v a) h = absurd (h refl)
  refusal_fresh Halted h = absurd (h refl)

  -- the image's length never changes
  pub image_length : (act : Act) → length (image_of image s.auth act frame) ≡ length image
  unfolding image_of
  image_length (Refused n) = refl
  image_length (Authenticated t l) = refl
  image_length (Shown b) = refl
  image_length (TrailerShown b m) = refl
  image_length (WriteWaits b) = refl
  image_length (ValueWaits b k) = refl
  image_length (Stored b) = store_length image b (sixteen_of frame) (sixteen_length frame)
  image_length (TrailerStored b m) = store_length image b _ (mixed_length (writable_by s.auth m) image b frame)
  image_length (Loaded v a) = refl
  image_length (Moved b v a) = store_length image b (encode_of (signed v) a) (encode_length (signed v) a)
  image_length Halted = refl

  -- a block that the act does not touch is as it was
  pub untouched : (act : Act) (j : Block) → (Touches act j → ⊥) → content_of (image_of image s.auth act frame) j ≡ content_of image j
  unfolding image_of
  untouched (Refused n) j h = refl
  untouched (Authenticated t l) j h = refl
  untouched (Shown b) j h = refl
  untouched (TrailerShown b m) j h = refl
  untouched (WriteWaits b) j h = refl
  untouched (ValueWaits b k) j h = refl
  untouched (Stored b) j h = store_other image b (sixteen_of frame) (sixteen_length frame) j h
  untouched (TrailerStored b m) j h = store_other image b _ (mixed_length (writable_by s.auth m) image b frame) j h
  untouched (Loaded v a) j h = refl
  untouched (Moved b v a) j h = store_other image b (encode_of (signed v) a) (encode_length (signed v) a) j h
  untouched Halted j h = refl

  -- whoever stores passed the checks of a Write or of a Transfer
  touched : (act : Act) → Accepted image s frame act → (j : Block) → Touches act j → (b : Block) × (b.0 ≡ j.0) × (well_formed (access_of image b) ≡ true) × (eqb b.0 0 ≡ false)
  unfolding is_forbidden
  touched (Refused n) h j t = absurd t
  touched (Authenticated u l) h j t = absurd t
  touched (Shown b) h j t = absurd t
  touched (TrailerShown b m) h j t = absurd t
  touched (WriteWaits b) h j t = absurd t
  touched (ValueWaits b k) h j t = absurd t
  touched (Stored b) h j t = (b, t, h.1.opened, h.1.lawful)
  touched (TrailerStored b m) h j t = (b, t, h.1.opened, h.1.lawful)
  touched (Loaded v a) h j t = absurd t
  touched (Moved b v a) h j t = (b, t, h.1.opened, or_left (eqb b.0 0) (is_trailer b) h.1.lawful)
  touched Halted h j t = absurd t

  -- block 0 never changes
  pub block_0 : (act : Act) → Accepted image s frame act → content_of (image_of image s.auth act frame) (block_at 0) ≡ content_of image (block_at 0)
  block_0 act h =
      untouched act (block_at 0)
      (λ t.
      let p = touched act h (block_at 0) t in
      let q : false ≡ true = sym p.3 ∙ eq-eqb p.0.0 0 p.1 in
      absurd (false≢true q))

  -- a blocked sector stays blocked whatever is done
  pub stays_blocked : (act : Act) → Accepted image s frame act → (b : Block) → has_block (length image) b ≡ true → well_formed (access_of image b) ≡ false
      → well_formed (access_of (image_of image s.auth act frame) b) ≡ false
  stays_blocked act h b has e =
      ap (λ (t : List ℕ). well_formed (access_bytes_of t)) (untouched act (trailer_of (sector_of b)) clear) ∙ e
    where
      clear : Touches act (trailer_of (sector_of b)) → ⊥
      clear t =
          let p = touched act h (trailer_of (sector_of b)) t in
          let same : sector_of p.0 ≡ sector_of b = ap sector_of (block_eq p.0 (trailer_of (sector_of b)) p.1) ∙ trailer_sector (length image) b has in
          let q : false ≡ true = sym e ∙ ap (λ (c : Sector). well_formed (access_bytes_of (content_of image (trailer_of c)))) (sym same) ∙ p.2 in
          absurd (false≢true q)

  -- an accepted Read shows a data block as it is; a trailer with its keys blanked by rule
  pub read_data : (b : Block) → Accepted image s frame (Shown b) → (is_trailer b ≡ false) × (reply_of image (Shown b) ≡ content_of image b)
  unfolding reply_of
  read_data b h = (h.2, refl)

  pub read_trailer : (b : Block) (m : ℕ) → Accepted image s frame (TrailerShown b m)
      → (is_trailer b ≡ true) × (reply_of image (TrailerShown b m) ≡ shown_trailer (readable_of (trailer_bits image b)) (content_of image b))
  unfolding reply_of
  read_trailer b m h = (h.2, rw h.3)

  -- an accepted Write leaves the sixteen bytes of its frame in a data block; of a trailer it changes the parts that this session may write
  pub write_stored : (b : Block) → Accepted image s frame (Stored b) → content_of (image_of image s.auth (Stored b) frame) b ≡ frame
  unfolding image_of
  write_stored b h = rw (sixteen_same frame h.2) (store_back image b frame h.2 h.1.has)

  pub write_trailer : (b : Block) (m : ℕ) → Accepted image s frame (TrailerStored b m)
      → content_of (image_of image s.auth (TrailerStored b m) frame) b ≡ mixed_of (writable_by s.auth (trailer_bits image b)) (content_of image b) frame
  unfolding image_of
  write_trailer b m h =
      rw (h.4, sixteen_same frame h.2) (store_back image b _ (rw (← (sixteen_same frame h.2)) (mixed_length (writable_by s.auth (trailer_bits image b)) image b frame)) h.1.has)

  -- the session is coherent afterwards
  pub stays_coherent : (act : Act) → Accepted image s frame act → coherent_of (length (image_of image s.auth act frame)) (session_of s act) ≡ true
  unfolding session_of coherent_of
  stays_coherent act h = rw (image_length act) (go act h)
    where
      held : (o : Operation) (b : Block) → Allowed image s.auth o b → (quiet : Bool) → fits s.auth (length image) quiet ≡ true
      held o b h quiet = in_own_sector (length image) b s.auth quiet h.has h.own

      go : (x : Act) → Accepted image s frame x → coherent_of (length image) (session_of s x) ≡ true
      go (Refused n) h = refl
      go (Authenticated t l) h = ap (has_sector (length image)) h.1.sector ∙ has_sector_lem (length image) h.1.block h.1.has
      go (Shown b) h = held _ b h.1 _
      go (TrailerShown b m) h = held _ b h.1 _
      go (WriteWaits b) h = held _ b h.1 _
      go (ValueWaits b k) h = held _ b h.1.allowed _
      go (Stored b) h = held _ b h.1 _
      go (TrailerStored b m) h = held _ b h.1 _
      go (Loaded v a) h = held _ h.source h.countable.allowed _
      go (Moved b v a) h = held _ b h.1 _
      go Halted h = refl

-- what such a Write stored, a permitted Read of a data block gives back
pub write_read : (image : List ℕ) (s later : Session) (frame read : List ℕ) (b : Block) → Accepted image s frame (Stored b)
    → Accepted (image_of image s.auth (Stored b) frame) later read (Shown b) → reply_of (image_of image s.auth (Stored b) frame) (Shown b) ≡ frame
write_read image s later frame read b h r = (read_data (image_of image s.auth (Stored b) frame) later read b r).1 ∙ write_stored image s frame b h

-- the block's sector is the one that an act is about
abbrev pub Concerns : Act → Session → Block → Type 0
Concerns (Refused n) s b = ⊥
Concerns (Authenticated t l) s b = t ≡ sector_of b
Concerns (Shown c) s b = sector_of c ≡ sector_of b
Concerns (TrailerShown c m) s b = sector_of c ≡ sector_of b
Concerns (WriteWaits c) s b = sector_of c ≡ sector_of b
Concerns (ValueWaits c k) s b = sector_of c ≡ sector_of b
Concerns (Stored c) s b = sector_of c ≡ sector_of b
Concerns (TrailerStored c m) s b = sector_of c ≡ sector_of b
Concerns (Loaded v a) s b = in_sector s.auth (sector_of b) ≡ true
Concerns (Moved c v a) s b = sector_of c ≡ sector_of b
Concerns Halted s b = ⊥

-- every command on a blocked sector is refused
pub blocked_refused : (image : List ℕ) (s : Session) (frame : List ℕ) (act : Act) → Accepted image s frame act → (b : Block) → well_formed (access_of image b) ≡ false → Concerns act s b → ⊥
blocked_refused image s frame act h b e = go act h
  where
    no : (c : Block) → sector_of c ≡ sector_of b → well_formed (access_of image c) ≡ true → ⊥
    no c q h =
        let z : false ≡ true = sym e ∙ ap (λ (t : Sector). well_formed (access_bytes_of (content_of image (trailer_of t)))) (sym q) ∙ h in
        false≢true z

    go : (x : Act) → Accepted image s frame x → Concerns x s b → ⊥
    go (Refused n) h q = q
    go (Authenticated t l) h q = no h.1.block (sym h.1.sector ∙ q) h.1.opened
    go (Shown c) h q = no c q h.1.opened
    go (TrailerShown c m) h q = no c q h.1.opened
    go (WriteWaits c) h q = no c q h.1.opened
    go (ValueWaits c k) h q = no c q h.1.allowed.opened
    go (Stored c) h q = no c q h.1.opened
    go (TrailerStored c m) h q = no c q h.1.opened
    go (Loaded v a) h q = no h.source (one_sector s.auth (sector_of h.source) (sector_of b) h.countable.allowed.own q) h.countable.allowed.opened
    go (Moved c v a) h q = no c q h.1.opened
    go Halted h q = q
