-- What a card needs of the layout, over any number of sectors and not size by size.
-- Assumes nothing.
use mathlib.Core.Path.{◌≡◌, refl}
use mathlib.Core.Bool.{Bool, true, false}
use Prim.Native.Nat.{ℕ, ◌+◌, ◌*◌, ◌-◌, ◌/◌, ◌%◌, ◌<◌, ◌≤◌}
use native.Mathlib.Omega.{arith}
use lib.Dec.{ltb, leb, eqb}
use borrow.Author.Tests.{ltb-true, ltb-false, leb-true, leb-false, eqb-true, lt-ltb, le-ltb, eq-eqb}
use Rattle.layout.specs.declared.Block.{Block}
use Rattle.layout.specs.declared.Sector.{Sector}
use Rattle.layout.specs.declared.Group.TheVariants.{First, Second, Third, Trailer}
use Rattle.layout.specs.Layout.{sectors_of, blocks_in, blocks_of, has_sector, has_block, sector_of, trailer_of, is_trailer, group_at, group_of}

-- the definitions, case by case, as equations of numbers
blocks_small : (n : ℕ) → leb n 32 ≡ true → blocks_in n ≡ 4 * n
unfolding blocks_in
blocks_small n e = rw e

blocks_large : (n : ℕ) → leb n 32 ≡ false → blocks_in n ≡ 128 + 16 * (n - 32)
unfolding blocks_in
blocks_large n e = rw e

sector_small : (b : Block) → ltb b.0 128 ≡ true → (sector_of b).0 ≡ b.0 / 4
unfolding sector_of
sector_small b e = rw e

sector_large : (b : Block) → ltb b.0 128 ≡ false → (sector_of b).0 ≡ 32 + (b.0 - 128) / 16
unfolding sector_of
sector_large b e = rw e

trailer_small : (s : Sector) → s.0 < 32 → (trailer_of s).0 ≡ 4 * s.0 + 3
unfolding trailer_of
trailer_small s h = rw (lt-ltb s.0 32 h)

trailer_large : (s : Sector) → 32 ≤ s.0 → s.0 < 40 → (trailer_of s).0 ≡ 128 + 16 * (s.0 - 32) + 15
unfolding trailer_of
trailer_large s l h = rw (le-ltb s.0 32 l, lt-ltb s.0 40 h)

-- a block that exists has a sector that exists, and the other way round
pub sector_exists : (n : ℕ) (b : Block) → b.0 < blocks_in n → (sector_of b).0 < n
sector_exists n b h = go (leb n 32) refl (ltb b.0 128) refl
  where
    go : (t : Bool) → leb n 32 ≡ t → (u : Bool) → ltb b.0 128 ≡ u → (sector_of b).0 < n
    go true e true f = omega (arith, blocks_small n e, sector_small b f, leb-true n 32 e, ltb-true b.0 128 f)
    go true e false f = omega (arith, blocks_small n e, sector_large b f, leb-true n 32 e, ltb-false b.0 128 f)
    go false e true f = omega (arith, blocks_large n e, sector_small b f, leb-false n 32 e, ltb-true b.0 128 f)
    go false e false f = omega (arith, blocks_large n e, sector_large b f, leb-false n 32 e, ltb-false b.0 128 f)

pub block_exists : (n : ℕ) (b : Block) → (sector_of b).0 < n → b.0 < blocks_in n
block_exists n b h = go (leb n 32) refl (ltb b.0 128) refl
  where
    go : (t : Bool) → leb n 32 ≡ t → (u : Bool) → ltb b.0 128 ≡ u → b.0 < blocks_in n
    go true e true f = omega (arith, blocks_small n e, sector_small b f, leb-true n 32 e, ltb-true b.0 128 f)
    go true e false f = omega (arith, blocks_small n e, sector_large b f, leb-true n 32 e, ltb-false b.0 128 f)
    go false e true f = omega (arith, blocks_large n e, sector_small b f, leb-false n 32 e, ltb-true b.0 128 f)
    go false e false f = omega (arith, blocks_large n e, sector_large b f, leb-false n 32 e, ltb-false b.0 128 f)

-- a sector's trailer lies in the sector
pub trailer_in_sector : (s : Sector) → s.0 < 40 → (sector_of (trailer_of s)).0 ≡ s.0
trailer_in_sector s h = go (ltb s.0 32) refl
  where
    go : (t : Bool) → ltb s.0 32 ≡ t → (sector_of (trailer_of s)).0 ≡ s.0
    go true e =
        let l : s.0 < 32 = ltb-true s.0 32 e in
        let t : (trailer_of s).0 ≡ 4 * s.0 + 3 = trailer_small s l in
        omega (arith, sector_small (trailer_of s) (lt-ltb (trailer_of s).0 128 (omega arith)))
    go false e =
        let l : 32 ≤ s.0 = ltb-false s.0 32 e in
        let t : (trailer_of s).0 ≡ 128 + 16 * (s.0 - 32) + 15 = trailer_large s l h in
        omega (arith, sector_large (trailer_of s) (le-ltb (trailer_of s).0 128 (omega arith)))

-- and so it exists where the sector does
pub trailer_exists : (n : ℕ) (s : Sector) → s.0 < 40 → s.0 < n → (trailer_of s).0 < blocks_in n
trailer_exists n s h l = block_exists n (trailer_of s) (omega (arith, trailer_in_sector s h))

-- no block of the sector comes after it
pub trailer_last : (b : Block) → b.0 < 256 → b.0 ≤ (trailer_of (sector_of b)).0
trailer_last b h = go (ltb b.0 128) refl
  where
    go : (t : Bool) → ltb b.0 128 ≡ t → b.0 ≤ (trailer_of (sector_of b)).0
    go true e =
        let l : b.0 < 128 = ltb-true b.0 128 e in
        let q : (sector_of b).0 ≡ b.0 / 4 = sector_small b e in
        omega (arith, trailer_small (sector_of b) (omega arith))
    go false e =
        let l : 128 ≤ b.0 = ltb-false b.0 128 e in
        let q : (sector_of b).0 ≡ 32 + (b.0 - 128) / 16 = sector_large b e in
        omega (arith, trailer_large (sector_of b) (omega arith) (omega arith))

-- a block is a trailer exactly when its group is 3
at_trailer : (n o : ℕ) → 3 * n ≤ o → group_at n o ≡ Trailer
unfolding group_at
at_trailer n o h = rw (le-ltb o n (omega arith), le-ltb o (2 * n) (omega arith), le-ltb o (3 * n) h)

past_groups : (n o : ℕ) → group_at n o ≡ Trailer → 3 * n ≤ o
unfolding group_at
past_groups n o g = go (ltb o n) refl (ltb o (2 * n)) refl (ltb o (3 * n)) refl
  where
    go : (t : Bool) → ltb o n ≡ t → (u : Bool) → ltb o (2 * n) ≡ u → (v : Bool) → ltb o (3 * n) ≡ v → 3 * n ≤ o
    go t d u e false f = ltb-false o (3 * n) f
    go true d u e true f = let q : First ≡ Trailer = rw d at g in let z : ◌≡◌ {A = ℕ} 0 1 = cc in omega arith
    go false d true e true f = let q : Second ≡ Trailer = rw (d, e) at g in let z : ◌≡◌ {A = ℕ} 0 1 = cc in omega arith
    go false d false e true f = let q : Third ≡ Trailer = rw (d, e, f) at g in let z : ◌≡◌ {A = ℕ} 0 1 = cc in omega arith

pub trailer_group : (b : Block) → b.0 < 256 → is_trailer b ≡ true → group_of b ≡ Trailer
unfolding is_trailer group_of
trailer_group b h i = go (ltb b.0 128) refl
  where
    is : (trailer_of (sector_of b)).0 ≡ b.0
    is = eqb-true (trailer_of (sector_of b)).0 b.0 i

    go : (t : Bool) → ltb b.0 128 ≡ t → group_of b ≡ Trailer
    go true e =
        let l : b.0 < 128 = ltb-true b.0 128 e in
        let q : (sector_of b).0 ≡ b.0 / 4 = sector_small b e in
        let t : (trailer_of (sector_of b)).0 ≡ 4 * (sector_of b).0 + 3 = trailer_small (sector_of b) (omega arith) in
        rw e (at_trailer 1 (b.0 % 4) (omega (arith, is)))
    go false e =
        let l : 128 ≤ b.0 = ltb-false b.0 128 e in
        let q : (sector_of b).0 ≡ 32 + (b.0 - 128) / 16 = sector_large b e in
        let t : (trailer_of (sector_of b)).0 ≡ 128 + 16 * ((sector_of b).0 - 32) + 15 = trailer_large (sector_of b) (omega arith) (omega arith) in
        rw e (at_trailer 5 (b.0 % 16) (omega (arith, is)))

pub group_trailer : (b : Block) → b.0 < 256 → group_of b ≡ Trailer → is_trailer b ≡ true
unfolding is_trailer group_of
group_trailer b h g = eq-eqb (trailer_of (sector_of b)).0 b.0 (go (ltb b.0 128) refl)
  where
    go : (t : Bool) → ltb b.0 128 ≡ t → (trailer_of (sector_of b)).0 ≡ b.0
    go true e =
        let l : b.0 < 128 = ltb-true b.0 128 e in
        let q : (sector_of b).0 ≡ b.0 / 4 = sector_small b e in
        omega (arith, trailer_small (sector_of b) (omega arith), past_groups 1 (b.0 % 4) (rw e at g))
    go false e =
        let l : 128 ≤ b.0 = ltb-false b.0 128 e in
        let q : (sector_of b).0 ≡ 32 + (b.0 - 128) / 16 = sector_large b e in
        omega (arith, trailer_large (sector_of b) (omega arith) (omega arith), past_groups 5 (b.0 % 16) (rw e at g))

-- A length in bytes: no card has it, or a card of one to forty sectors, whose blocks are all of its bytes. Nothing else looks at a size.
pub data Size (bytes : ℕ) : Type 0 where
  no_card_lem : sectors_of bytes ≡ 0 → Size bytes
  card : 0 < sectors_of bytes → sectors_of bytes ≤ 40 → 16 * blocks_of bytes ≡ bytes → Size bytes

pub size_of : (bytes : ℕ) → Size bytes
unfolding sectors_of blocks_of blocks_in
size_of bytes = go (eqb bytes 1024) refl (eqb bytes 4096) refl
  where
    go : (t : Bool) → eqb bytes 1024 ≡ t → (u : Bool) → eqb bytes 4096 ≡ u → Size bytes
    go true e u f = let q = eqb-true bytes 1024 e in card (rw e (omega arith)) (rw e (omega arith)) (rw e (omega (arith, q)))
    go false e true f = let q = eqb-true bytes 4096 f in card (rw (e, f) (omega arith)) (rw (e, f) (omega arith)) (rw (e, f) (omega (arith, q)))
    go false e false f = no_card_lem (rw (e, f))

-- what is no card has no block
pub no_blocks : (bytes : ℕ) → sectors_of bytes ≡ 0 → blocks_of bytes ≡ 0
unfolding blocks_of blocks_in
no_blocks bytes e = rw e

-- no image has more than 40 sectors, 256 blocks, 4,096 bytes
few_blocks : (n : ℕ) → n ≤ 40 → blocks_in n ≤ 256
few_blocks n h = go (leb n 32) refl
  where
    go : (t : Bool) → leb n 32 ≡ t → blocks_in n ≤ 256
    go true e = omega (arith, blocks_small n e, leb-true n 32 e)
    go false e = omega (arith, blocks_large n e, leb-false n 32 e)

pub at_most : (bytes : ℕ) → (sectors_of bytes ≤ 40) × (blocks_of bytes ≤ 256)
unfolding blocks_of
at_most bytes = let h : sectors_of bytes ≤ 40 = go (size_of bytes) in (h, few_blocks (sectors_of bytes) h)
  where
    go : Size bytes → sectors_of bytes ≤ 40
    go (no_card_lem e) = omega arith
    go (card some few whole) = few

pub card_bytes : (bytes : ℕ) → (sectors_of bytes ≡ 0 → ⊥) → 16 * blocks_of bytes ≡ bytes
card_bytes bytes h = go (size_of bytes)
  where
    go : Size bytes → 16 * blocks_of bytes ≡ bytes
    go (no_card_lem e) = absurd (h e)
    go (card some few whole) = whole

-- an image has room for the sixteen bytes of each block that it has, and the block has a byte for its address
pub room : (bytes : ℕ) (b : Block) → has_block bytes b ≡ true → 16 * b.0 + 16 ≤ bytes
unfolding has_block
room bytes b h = go (size_of bytes)
  where
    l : b.0 < blocks_of bytes
    l = ltb-true b.0 (blocks_of bytes) h

    go : Size bytes → 16 * b.0 + 16 ≤ bytes
    go (no_card_lem e) = omega (arith, l, no_blocks bytes e)
    go (card some few whole) = omega (arith, l)

pub has_small : (bytes : ℕ) (b : Block) → has_block bytes b ≡ true → b.0 < 256
unfolding has_block
has_small bytes b h = omega (arith, ltb-true b.0 (blocks_of bytes) h, (at_most bytes).1)

-- an image that has the block has its sector and the sector's trailer
pub has_sector_lem : (bytes : ℕ) (b : Block) → has_block bytes b ≡ true → has_sector bytes (sector_of b) ≡ true
unfolding has_block has_sector blocks_of
has_sector_lem bytes b h =
    lt-ltb (sector_of b).0 (sectors_of bytes) (sector_exists (sectors_of bytes) b (ltb-true b.0 (blocks_in (sectors_of bytes)) h))
