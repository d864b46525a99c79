-- The laws of the access bytes that the desk writes.
-- Assumes nothing.
use Rattle.std.proofs.Common.{Some}
use mathlib.Core.Path.{◌≡◌, refl, ◌∙◌, ap}
use mathlib.Core.Bool.{Bool, true, false, ◌&&◌}
use mathlib.Core.List.{List, [], ◌∷◌}
use Prim.Native.Nat.{ℕ, ◌<◌}
use native.Mathlib.Omega.{arith}
use lib.Dec.{eqb, ltb}
use lib.ListN.{length, get_or, set, length-set}
use lib.Seq.{get_or-set_same, get_or-set_other}
use borrow.Author.Tests.{ltb-true, lt-ltb}
use Rattle.layout.specs.Layout.{sectors_of, blocks_of, has_sector, has_block, trailer_of, group_number}
use Rattle.layout.specs.declared.Block.{Block}
use Rattle.layout.specs.declared.Sector.{Sector}
use Rattle.layout.specs.declared.Group.{Group}
use Rattle.layout.specs.declared.Group.TheVariants.{First, Second, Third, Trailer}
use Rattle.layout.proofs.Laws.{trailer_exists, at_most}
use Rattle.memory.specs.Memory.{content_of, byte_of, store_of}
use Rattle.memory.proofs.Laws.{content_length, store_length, store_back, store_other}
use Rattle.access.specs.Bits.{access_bytes_of, well_formed, group_bits, bits_of, nibble_of, encode_bits}
use Rattle.access.specs.declared.bits.AccessBytes.{AccessBytes}
use Rattle.access.proofs.BitLaws.{one_of, split_back, opened}
use Rattle.issue.specs.Groups.{are_bits, sector_refusal, access_refusal, access_for, with_access, access_image, told_by, read_access}
use Rattle.std.specs.Prelude.{Result, Ok, Err}
use Rattle.issue.specs.declared.AccessRefusal.{AccessRefusal}
use Rattle.issue.proofs.Choice.{not_ok}
use Rattle.issue.specs.Laws.{BitsBack, AccessBack, SectorsStay, TrailerStays, BySector, DeliveryBits}

-- what a call that is not refused has passed
pub record Passed (bytes : ℕ) (s : Sector) (bits : List ℕ) : Type 0 where
  pub card : eqb (sectors_of bytes) 0 ≡ false
  pub sector : has_sector bytes s ≡ true
  pub small : are_bits bits ≡ true

passed : (bytes : ℕ) (s : Sector) (bits : List ℕ) → access_refusal bytes s bits ≡ Ok tt → Passed bytes s bits
unfolding access_refusal sector_refusal
passed bytes s bits n = go (eqb (sectors_of bytes) 0) refl (has_sector bytes s) refl (are_bits bits) refl
  where
    go : (t : Bool) → eqb (sectors_of bytes) 0 ≡ t → (u : Bool) → has_sector bytes s ≡ u → (w : Bool) → are_bits bits ≡ w → Passed bytes s bits
    go true e u f w g = absurd (not_ok (rw e at n))
    go false e false f w g = absurd (not_ok (rw (e, f) at n))
    go false e true f false g = absurd (not_ok (rw (e, f, g) at n))
    go false e true f true g = record { card = e; sector = f; small = g }

four : (a b c d : Bool) → (((a && b) && c) && d) ≡ true → (a ≡ true) × (b ≡ true) × (c ≡ true) × (d ≡ true)
four true true true true e = (refl, refl, refl, refl)
four true true true false e = (refl, refl, refl, e)
four true true false d e = let q : false ≡ true = e in let z : ◌≡◌ {A = ℕ} 0 1 = cc in absurd (omega arith)
four true false c d e = let q : false ≡ true = e in let z : ◌≡◌ {A = ℕ} 0 1 = cc in absurd (omega arith)
four false b c d e = let q : false ≡ true = e in let z : ◌≡◌ {A = ℕ} 0 1 = cc in absurd (omega arith)

-- the bits of each group are what the four access bytes' nibbles were made of
bits_made : (bits : List ℕ) (g : Group) → are_bits bits ≡ true → bits_of (access_for bits) g ≡ Some (get_or bits (group_number g) 0)
unfolding are_bits access_for
bits_made bits g e =
    let a = get_or bits 0 0 in
    let b = get_or bits 1 0 in
    let c = get_or bits 2 0 in
    let d = get_or bits 3 0 in
    let f = four (ltb a 8) (ltb b 8) (ltb c 8) (ltb d 8) e in
    split_back a b c d g (ltb-true a 8 f.0) (ltb-true b 8 f.1) (ltb-true c 8 f.2) (ltb-true d 8 f.3) ∙ ap Some (pick g)
  where
    pick : (g : Group) → one_of g (get_or bits 0 0) (get_or bits 1 0) (get_or bits 2 0) (get_or bits 3 0) ≡ get_or bits (group_number g) 0
    pick First = refl
    pick Second = refl
    pick Third = refl
    pick Trailer = refl

-- the trailer with other access bytes
module _ (trailer : List ℕ) (x : AccessBytes) where
  with_length : length (with_access trailer x) ≡ length trailer
  unfolding with_access
  with_length = simp length-set

  with_back : length trailer ≡ 16 → access_bytes_of (with_access trailer x) ≡ x
  unfolding with_access access_bytes_of
  with_back l =
      let six : get_or (with_access trailer x) 6 0 ≡ x.0 =
      get_or-set_other (set (set trailer 6 x.0) 7 x.1) 8 6 x.2 0 (λ z. omega arith)
      ∙ get_or-set_other (set trailer 6 x.0) 7 6 x.1 0 (λ z. omega arith)
      ∙ get_or-set_same trailer 6 x.0 0 (omega arith) in
      let seven : get_or (with_access trailer x) 7 0 ≡ x.1 =
      get_or-set_other (set (set trailer 6 x.0) 7 x.1) 8 7 x.2 0 (λ z. omega arith)
      ∙ get_or-set_same (set trailer 6 x.0) 7 x.1 0 (simp length-set (omega arith)) in
      let eight : get_or (with_access trailer x) 8 0 ≡ x.2 =
      get_or-set_same (set (set trailer 6 x.0) 7 x.1) 8 x.2 0 (simp length-set (omega arith)) in
      rw (six, seven, eight)

  with_kept : (i : ℕ) → (i ≡ 6 → ⊥) → (i ≡ 7 → ⊥) → (i ≡ 8 → ⊥) → get_or (with_access trailer x) i 0 ≡ get_or trailer i 0
  unfolding with_access
  with_kept i p q r =
      get_or-set_other (set (set trailer 6 x.0) 7 x.1) 8 i x.2 0 r
      ∙ get_or-set_other (set trailer 6 x.0) 7 i x.1 0 q
      ∙ get_or-set_other trailer 6 i x.0 0 p

module _ (image : List ℕ) (s : Sector) (bits : List ℕ) where
  abbrev b : Block
  b = trailer_of s

  abbrev after : List ℕ
  after = with_access (content_of image b) (access_for bits)

  after_length : length after ≡ 16
  after_length = with_length (content_of image b) (access_for bits) ∙ content_length image b

  stored : access_refusal (length image) s bits ≡ Ok tt → access_image image s bits ≡ store_of image b after
  unfolding access_image
  stored e = rw e

  stays : (r : AccessRefusal) → access_refusal (length image) s bits ≡ Err r → access_image image s bits ≡ image
  unfolding access_image
  stays r e = rw e

  has_trailer : Passed (length image) s bits → has_block (length image) b ≡ true
  unfolding has_block has_sector blocks_of
  has_trailer p =
      let l : s.0 < sectors_of (length image) = ltb-true s.0 (sectors_of (length image)) p.sector in
      lt-ltb b.0 _ (trailer_exists (sectors_of (length image)) s (omega (arith, (at_most (length image)).0)) l)

  reads : access_refusal (length image) s bits ≡ Ok tt → access_bytes_of (content_of (access_image image s bits) b) ≡ access_for bits
  reads e =
      rw (stored e, store_back image b after after_length (has_trailer (passed (length image) s bits e)))
      (with_back (content_of image b) (access_for bits) (content_length image b))

  same_length : length (access_image image s bits) ≡ length image
  same_length = go (access_refusal (length image) s bits) refl
    where
      go : (r : Result (Unit {0}) AccessRefusal) → access_refusal (length image) s bits ≡ r → length (access_image image s bits) ≡ length image
      go (Ok u) e = rw (stored e) (store_length image b after after_length)
      go (Err r) e = rw (stays r e)

pub bits_back : BitsBack
bits_back image s bits g e =
    rw (reads image s bits e) (bits_made bits g (passed (length image) s bits e).small)

list_of_four : (l : List ℕ) → length l ≡ 4 → get_or l 0 0 ∷ get_or l 1 0 ∷ get_or l 2 0 ∷ get_or l 3 0 ∷ [] ≡ l
list_of_four [] e = absurd (omega arith)
list_of_four (a ∷ []) e = absurd (omega arith)
list_of_four (a ∷ b ∷ []) e = absurd (omega arith)
list_of_four (a ∷ b ∷ c ∷ []) e = absurd (omega arith)
list_of_four (a ∷ b ∷ c ∷ d ∷ []) e = refl
list_of_four (a ∷ b ∷ c ∷ d ∷ x ∷ l) e = absurd (omega arith)

pub access_back : AccessBack
unfolding read_access sector_refusal told_by
access_back image s bits l e =
    let p = passed (length image) s bits e in
    let x = access_for bits in
    let o : (g : Group) → (well_formed x ≡ true) × (get_or bits (group_number g) 0 ≡ group_bits x g) = λ g.
    opened x g (bits_of x g) refl (get_or bits (group_number g) 0) (bits_made bits g p.small) in
    rw (
      same_length image s bits,
      p.card,
      p.sector,
      reads image s bits e,
      (o First).0,
      ← (o First).1,
      ← (o Second).1,
      ← (o Third).1,
      ← (o Trailer).1,
      list_of_four bits l,
    )

pub sectors_stay : SectorsStay
sectors_stay image s bits j ne = go (access_refusal (length image) s bits) refl
  where
    go : (r : Result (Unit {0}) AccessRefusal) → access_refusal (length image) s bits ≡ r → content_of (access_image image s bits) j ≡ content_of image j
    go (Ok u) e =
        rw (stored image s bits e) (store_other image (trailer_of s) (after image s bits) (after_length image s bits) j ne)
    go (Err r) e = rw (stays image s bits r e)

pub trailer_stays : TrailerStays
unfolding byte_of
trailer_stays image s bits i p q r = go (access_refusal (length image) s bits) refl
  where
    go : (r : Result (Unit {0}) AccessRefusal) → access_refusal (length image) s bits ≡ r → byte_of (access_image image s bits) (trailer_of s) i ≡ byte_of image (trailer_of s) i
    go (Ok u) e =
        rw (stored image s bits e, store_back image (trailer_of s) (after image s bits) (after_length image s bits) (has_trailer image s bits (passed (length image) s bits e)))
        (with_kept (content_of image (trailer_of s)) (access_for bits) i p q r)
    go (Err r) e = rw (stays image s bits r e)

pub by_sector : BySector
unfolding access_refusal sector_refusal has_sector sectors_of are_bits
by_sector = (refl, refl, refl, refl)

pub delivery_bits : DeliveryBits
unfolding access_for encode_bits nibble_of
delivery_bits = refl
