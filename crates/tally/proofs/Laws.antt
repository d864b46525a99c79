-- A store changes one share of the full count; so the figures of an opening stay those of an opening.
-- Assumes nothing.
use Rattle.std.proofs.Common.{◌≡◌, ℕ, zero, suc, ◌-◌, ◌<◌, ◌≤◌, Bool, true, false, eqb, ltb, leb, List, length, ℤ, pos, negsuc, ◌+ℤ◌, ◌-ℤ◌, neg_ℤ, sym, refl, ap, ◌∙◌, ap₂, arith, ltb-true, le-ltb, lt-ltb, ne_eqb, eqb-true, leb-true}
use lib.IntN.{+ℤ_assoc, +ℤ_comm, +ℤ-neg_ℤ_cancel, -ℤ-+ℤ_cancel}
use lib.Signed.{le_z}
use borrow.Author.Tests.{eqb-false}
use Rattle.layout.specs.Layout.{block_at, sectors_of, blocks_of, has_block}
use Rattle.layout.specs.declared.Block.{Block}
use Rattle.layout.proofs.Laws.{at_most, no_blocks}
use Rattle.memory.specs.Memory.{content_of, store_of}
use Rattle.memory.proofs.Laws.{store_length, store_back, store_other}
use Rattle.tally.specs.Whole.{whole, held, within}
use Rattle.tally.specs.Change.{figures_of, count_fits, sum_fits, in_range, count_share, sum_share, kept_of, settled_of}
use Rattle.tally.specs.Full.{counts, share_at, total_to, count_of, sum_of, full_figures, opened_of}
use Rattle.tally.specs.Laws.{CountEnds, SumEnds, KeptIs, SameContent, NotCounted, Counted, FullFits, OpeningFits, OpeningCounts, StoreOne, StoreOther, ChangeCounts, OpeningStays}
use Rattle.tally.specs.declared.change.Figures.{Figures}
use Rattle.std.specs.Prelude.{Some, None, Ok}
use Rattle.tally.proofs.Bits.{both}
use Rattle.tally.proofs.Shares.{raised_count, raised_sum, and_false, total_fits, total_held}
use Rattle.tally.proofs.Ways.{kept_fit}

pub count_ends : CountEnds
count_ends = (refl, refl, refl, refl)

pub sum_ends : SumEnds
sum_ends = (refl, refl, refl, refl)

-- the bits of a whole number in range stand for it
in_held : (l h : ℕ) → l ≤ 1099511627776 → h ≤ 1099511627776 → (z : ℤ) → within (neg_ℤ (pos l)) (pos h) z ≡ true → whole (held z) ≡ z
in_held l h hl hh (pos n) e =
    let k : n ≤ h = leb-true n h (both (le_z (neg_ℤ (pos l)) (pos n)) (leb n h) e).1 in
    simp (lt-ltb n 9223372036854775808 (omega arith))
in_held zero h hl hh (negsuc n) e = let z : ◌≡◌ {A = ℕ} 0 1 = cc in absurd (omega arith)
in_held (suc l) h hl hh (negsuc n) e =
    let k : n ≤ l = leb-true n l (both (leb n l) true e).0 in
    let q : 18446744073709551616 - suc (18446744073709551616 - suc n) ≡ n = omega arith in
    simp (le-ltb (18446744073709551616 - suc n) 9223372036854775808 (omega arith)) (ap negsuc q)

-- and so for figures that are kept
kept_back : (count sum : ℤ) (g : Figures) → kept_of count sum ≡ Some g → (in_range g ≡ true) × (whole g.count ≡ count) × (whole g.sum ≡ sum)
unfolding kept_of in_range
kept_back count sum g e = go (count_fits count) refl (sum_fits sum) refl
  where
    go : (t : Bool) → count_fits count ≡ t → (u : Bool) → sum_fits sum ≡ u → (in_range g ≡ true) × (whole g.count ≡ count) × (whole g.sum ≡ sum)
    go true p true q =
        let k : Some (figures_of count sum) ≡ Some g = rw (p, q) at e in
        let same : figures_of count sum ≡ g = cc in
        let c = in_held 0 255 (omega arith) (omega arith) count p in
        let s = in_held 547608330240 547608329985 (omega arith) (omega arith) sum q in
        rw (← same, c, s, p, q) (refl, refl, refl)
    go true p false q = let k : None ≡ Some g = rw (p, q) at e in let z : ◌≡◌ {A = ℕ} 0 1 = cc in absurd (omega arith)
    go false p u q = let k : None ≡ Some g = rw p at e in let z : ◌≡◌ {A = ℕ} 0 1 = cc in absurd (omega arith)

pub kept_is : KeptIs
unfolding settled_of
kept_is f g old new e = kept_back _ _ g e

-- 64 bits are those of what they stand for
held_whole : (s : ℕ) → s < 18446744073709551616 → held (whole s) ≡ s
held_whole s h = go (ltb s 9223372036854775808) refl
  where
    go : (t : Bool) → ltb s 9223372036854775808 ≡ t → held (whole s) ≡ s
    go true e = simp e
    go false e = simp e (omega arith)

pub same_content : SameContent
unfolding settled_of in_range
same_content f block hc hs e =
    let w = both (count_fits (whole f.count)) (sum_fits (whole f.sum)) e in
    ap₂ kept_of (-ℤ-+ℤ_cancel (whole f.count) (count_share block)) (-ℤ-+ℤ_cancel (whole f.sum) (sum_share block))
    ∙ kept_fit (whole f.count) (whole f.sum) w.0 w.1
    ∙ ap₂ (λ (x y : ℕ). Some (record { count = x; sum = y })) (held_whole f.count hc) (held_whole f.sum hs)

pub full_fits : FullFits
full_fits image =
    let few = (at_most (length image)).1 in
    (total_fits count_share 0 1 raised_count image (blocks_of (length image)) few, total_fits sum_share 2147483648 2147483647 raised_sum image (blocks_of (length image)) few)

-- the bits of a full count stand for it
count_held : (image : List ℕ) → whole (figures_of (count_of image) (sum_of image)).count ≡ count_of image
count_held image = total_held count_share 0 1 raised_count image (blocks_of (length image)) (at_most (length image)).1

sum_held : (image : List ℕ) → whole (figures_of (count_of image) (sum_of image)).sum ≡ sum_of image
sum_held image = total_held sum_share 2147483648 2147483647 raised_sum image (blocks_of (length image)) (at_most (length image)).1

-- an opening of a card
opened_card : (image : List ℕ) → (sectors_of (length image) ≡ 0 → ⊥) → opened_of image ≡ Ok (full_figures image)
unfolding opened_of
opened_card image h = rw (ne_eqb (sectors_of (length image)) 0 h)

pub opening_counts : OpeningCounts
opening_counts image h = (opened_card image h, count_held image, sum_held image)

pub opening_fits : OpeningFits
unfolding in_range
opening_fits image = rw (count_held image, sum_held image, (full_fits image).0, (full_fits image).1)

pub not_counted : NotCounted
unfolding counts
not_counted bytes b e = rw e (and_false (has_block bytes b))

pub counted : Counted
unfolding counts
counted bytes b h e = rw (h, e)

-- a block that counts is there, and so is a card
counts_here : (bytes : ℕ) (b : Block) → counts bytes b ≡ true → has_block bytes b ≡ true
unfolding counts
counts_here bytes b c = go (has_block bytes b) refl
  where
    go : (t : Bool) → has_block bytes b ≡ t → t ≡ true
    go true e = refl
    go false e = rw e at c

card_here : (bytes : ℕ) (b : Block) → counts bytes b ≡ true → sectors_of bytes ≡ 0 → ⊥
unfolding has_block
card_here bytes b c z = omega (arith, ltb-true b.0 (blocks_of bytes) (counts_here bytes b c), no_blocks bytes z)

-- (t + x) with x exchanged
exchanged : (t x y : ℤ) → t +ℤ y ≡ ((t +ℤ x) -ℤ x) +ℤ y
exchanged t x y = ap (λ (z : ℤ). z +ℤ y) (sym (+ℤ-neg_ℤ_cancel t x))

-- and with another summand behind
behind : (t x y z : ℤ) → ((t -ℤ x) +ℤ y) +ℤ z ≡ ((t +ℤ z) -ℤ x) +ℤ y
behind t x y z =
    +ℤ_assoc (t -ℤ x) y z ∙ ap (λ (w : ℤ). (t -ℤ x) +ℤ w) (+ℤ_comm y z) ∙ sym (+ℤ_assoc (t -ℤ x) z y)
    ∙ ap (λ (w : ℤ). w +ℤ y)
    (+ℤ_assoc t (neg_ℤ x) z ∙ ap (λ (w : ℤ). t +ℤ w) (+ℤ_comm (neg_ℤ x) z) ∙ sym (+ℤ_assoc t z (neg_ℤ x)))

module _ (share : List ℕ → ℤ) (image : List ℕ) (b : Block) (bytes : List ℕ) (l : length bytes ≡ 16) where
  after : List ℕ
  after = store_of image b bytes

  same_length : length after ≡ length image
  unfolding after
  same_length = store_length image b bytes l

  -- the share of every other block stays
  other_share : (j : Block) → (b.0 ≡ j.0 → ⊥) → share_at share after j ≡ share_at share image j
  unfolding share_at after
  other_share j ne = rw (store_length image b bytes l, store_other image b bytes l j ne)

  -- the blocks below it keep their total
  below : (n : ℕ) → n ≤ b.0 → total_to share after n ≡ total_to share image n
  unfolding total_to
  below zero h = refl
  below (suc n) h = ap₂ ◌+ℤ◌ (below n (omega arith)) (other_share (block_at n) (λ e. omega arith))

  -- where it counts, its old share goes off and the new one comes on
  module _ (c : counts (length image) b ≡ true) where
    here : has_block (length image) b ≡ true
    here = counts_here (length image) b c

    old_share : share_at share image b ≡ share (content_of image b)
    unfolding share_at
    old_share = rw c

    new_share : share_at share after b ≡ share bytes
    unfolding share_at after
    new_share = rw (store_length image b bytes l, c) (ap share (store_back image b bytes l here))

    one_changes : (n : ℕ) → b.0 < n → total_to share after n ≡ (total_to share image n -ℤ share (content_of image b)) +ℤ share bytes
    unfolding total_to
    one_changes zero h = absurd (omega arith)
    one_changes (suc n) h = go (eqb b.0 n) refl (λ k. one_changes n k)
      where
        go : (t : Bool) → eqb b.0 n ≡ t → (b.0 < n → total_to share after n ≡ (total_to share image n -ℤ share (content_of image b)) +ℤ share bytes)
            → total_to share after (suc n) ≡ (total_to share image (suc n) -ℤ share (content_of image b)) +ℤ share bytes
        go true e rest =
            let q = eqb-true b.0 n e in
            let at : block_at n ≡ b = ap block_at (sym q) in
            rw (at, below n (omega arith), new_share, old_share) (exchanged (total_to share image n) (share (content_of image b)) (share bytes))
        go false e rest =
            let q = eqb-false b.0 n e in
            rw (rest (omega arith), other_share (block_at n) q)
            (behind (total_to share image n) (share (content_of image b)) (share bytes) (share_at share image (block_at n)))

    full_changes : total_to share after (blocks_of (length after)) ≡ (total_to share image (blocks_of (length image)) -ℤ share (content_of image b)) +ℤ share bytes
    unfolding has_block
    full_changes = rw same_length (one_changes (blocks_of (length image)) (ltb-true b.0 (blocks_of (length image)) here))

  -- where it does not, nothing changes
  module _ (c : counts (length image) b ≡ false) where
    out_share : share_at share after b ≡ share_at share image b
    unfolding share_at after
    out_share = rw (store_length image b bytes l, c)

    none_changes : (n : ℕ) → total_to share after n ≡ total_to share image n
    unfolding total_to
    none_changes zero = refl
    none_changes (suc n) = ap₂ ◌+ℤ◌ (none_changes n) (go (eqb b.0 n) refl)
      where
        go : (t : Bool) → eqb b.0 n ≡ t → share_at share after (block_at n) ≡ share_at share image (block_at n)
        go true e = let at : block_at n ≡ b = ap block_at (sym (eqb-true b.0 n e)) in rw at out_share
        go false e = other_share (block_at n) (eqb-false b.0 n e)

    full_stays : total_to share after (blocks_of (length after)) ≡ total_to share image (blocks_of (length image))
    full_stays = rw same_length (none_changes (blocks_of (length image)))

pub store_one : StoreOne
unfolding after
store_one image b bytes l c = (full_changes count_share image b bytes l c, full_changes sum_share image b bytes l c)

pub store_other_block : StoreOther
unfolding after
store_other_block image b bytes l c = (full_stays count_share image b bytes l c, full_stays sum_share image b bytes l c)

pub change_counts : ChangeCounts
unfolding settled_of
change_counts image b bytes l c =
    let one = store_one image b bytes l c in
    let fits = full_fits (store_of image b bytes) in
    rw (count_held image, sum_held image, ← one.0, ← one.1) (kept_fit _ _ fits.0 fits.1)

pub opening_stays : OpeningStays
unfolding opened_of
opening_stays image b bytes l c =
    let same = store_other_block image b bytes l c in
    (rw (same.0, same.1, store_length image b bytes l), rw (same.0, same.1))
