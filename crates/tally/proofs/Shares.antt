-- Shares as naturals moved up, one block's and many blocks'.
-- Assumes nothing.
use Rattle.std.proofs.Common.{◌≡◌, ℕ, zero, suc, ◌+◌, ◌*◌, ◌%◌, ◌<◌, ◌≤◌, Bool, true, false, cond, ◌&&◌, leb, List, length, ℤ, pos, neg_ℤ, sym, refl, ◌∙◌, mul-le-mul_right, suc-mul, arith, le-leb, None, Option, Some}
use lib.IntN.{sub_ℕ}
use Rattle.layout.specs.Layout.{block_at, has_block}
use Rattle.layout.specs.declared.Block.{Block}
use Rattle.memory.specs.Memory.{content_of}
use Rattle.value.specs.Block.{decode_of}
use Rattle.value.proofs.Ints.{sub_plus}
use Rattle.value.proofs.Sums.{lift, signed_is}
use Rattle.value.proofs.Blocks.{decode_small}
use Rattle.tally.specs.Whole.{whole, held, within}
use Rattle.tally.specs.Change.{count_by, sum_by, count_share, sum_share}
use Rattle.tally.specs.Full.{counts, share_at, total_to}
use Rattle.tally.proofs.Bits.{none_is, within_is, held_is, whole_held, bits_plus}

-- a share is a natural of at most mid + gap, less mid
pub record Raised (share : List ℕ → ℤ) (mid gap : ℕ) : Type 0 where
  pub up : List ℕ → ℕ
  pub is : (block : List ℕ) → share block ≡ sub_ℕ (up block) mid
  pub few : (block : List ℕ) → up block ≤ mid + gap
  pub mid_small : mid ≤ 2147483648
  pub gap_small : gap < 2147483648

count_up : Option (ℕ × ℕ) → ℕ
count_up (Some (v, a)) = 1
count_up None = 0

sum_up : Option (ℕ × ℕ) → ℕ
sum_up (Some (v, a)) = lift v
sum_up None = 2147483648

pub raised_count : Raised count_share 0 1
unfolding count_by count_up
raised_count = record {
  up = λ block. count_up (decode_of block);
  is = λ block. is (decode_of block);
  few = λ block. few (decode_of block);
  mid_small = omega arith;
  gap_small = omega arith;
}
  where
    is : (r : Option (ℕ × ℕ)) → count_by r ≡ sub_ℕ (count_up r) 0
    is (Some (v, a)) = refl
    is None = refl

    few : (r : Option (ℕ × ℕ)) → count_up r ≤ 0 + 1
    few (Some (v, a)) = omega arith
    few None = omega arith

pub raised_sum : Raised sum_share 2147483648 2147483647
unfolding sum_by sum_up
raised_sum = record {
  up = λ block. sum_up (decode_of block);
  is = λ block. is block (decode_of block) refl;
  few = λ block. few (decode_of block);
  mid_small = omega arith;
  gap_small = omega arith;
}
  where
    is : (block : List ℕ) (r : Option (ℕ × ℕ)) → decode_of block ≡ r → sum_by r ≡ sub_ℕ (sum_up r) 2147483648
    is block (Some (v, a)) e = signed_is v (decode_small block v a e)
    is block None e = refl

    few : (r : Option (ℕ × ℕ)) → sum_up r ≤ 2147483648 + 2147483647
    few (Some (v, a)) = omega arith
    few None = omega arith

-- so many times
abbrev pub times : ℕ → ℕ → ℕ
times g zero = 0
times g (suc n) = times g n + g

times_is : (g n : ℕ) → times g n ≡ n * g
times_is g zero = omega arith
times_is g (suc n) = rw (times_is g n, suc-mul n g)

times_few : (g n : ℕ) → n ≤ 255 → times g n ≤ 255 * g
times_few g n h = rw (times_is g n) (mul-le-mul_right g h)

times_small : (g n : ℕ) → g ≤ 2147483648 → times g n ≤ 2147483648 * n
times_small g zero h = omega arith
times_small g (suc n) h = omega (arith, times_small g n h)

pub and_false : (t : Bool) → (t && false) ≡ false
and_false true = refl
and_false false = refl

zero_counts_not : (bytes : ℕ) → counts bytes (block_at 0) ≡ false
unfolding counts
zero_counts_not bytes = and_false (has_block bytes (block_at 0))

module _ (share : List ℕ → ℤ) (mid gap : ℕ) (raised : Raised share mid gap) (image : List ℕ) where
  unfoldable pub up_at : Block → ℕ
  up_at b = cond (counts (length image) b) (raised.up (content_of image b)) mid

  at_is : (b : Block) → share_at share image b ≡ sub_ℕ (up_at b) mid
  unfolding share_at up_at
  at_is b = go (counts (length image) b) refl
    where
      go : (t : Bool) → counts (length image) b ≡ t → share_at share image b ≡ sub_ℕ (up_at b) mid
      go true e = rw e (raised.is (content_of image b))
      go false e = rw e (none_is mid)

  at_few : (b : Block) → up_at b ≤ mid + gap
  unfolding up_at
  at_few b = go (counts (length image) b) refl
    where
      go : (t : Bool) → counts (length image) b ≡ t → up_at b ≤ mid + gap
      go true e = rw e (raised.few (content_of image b))
      go false e = rw e (omega arith)

  -- the first n blocks together
  abbrev pub up_to : ℕ → ℕ
  up_to zero = 0
  up_to (suc n) = up_to n + up_at (block_at n)

  pub total_is : (n : ℕ) → total_to share image n ≡ sub_ℕ (up_to n) (times mid n)
  unfolding total_to
  total_is zero = refl
  total_is (suc n) = rw (total_is n, at_is (block_at n)) (sub_plus (up_to n) (times mid n) (up_at (block_at n)) mid)

  -- they are few, since block 0 does not count
  first_is : up_at (block_at 0) ≡ mid
  unfolding up_at
  first_is = rw (zero_counts_not (length image))

  up_low : (n : ℕ) → mid ≤ up_to (suc n)
  up_low zero = omega (arith, first_is)
  up_low (suc n) = omega (arith, up_low n)

  up_high : (n : ℕ) → up_to (suc n) ≤ mid + times mid n + times gap n
  up_high zero = omega (arith, first_is)
  up_high (suc n) = omega (arith, up_high n, at_few (block_at (suc n)))

  -- so the total is in range
  pub total_fits : (n : ℕ) → n ≤ 256 → within (neg_ℤ (pos (255 * mid))) (pos (255 * gap)) (total_to share image n) ≡ true
  total_fits n h = rw (total_is n, within_is (255 * mid) (255 * gap) (up_to n) (times mid n)) (go n h)
    where
      go : (n : ℕ) → n ≤ 256 → (leb (times mid n) (up_to n + 255 * mid) && leb (up_to n) (times mid n + 255 * gap)) ≡ true
      go zero h = rw (le-leb 0 (0 + 255 * mid) (omega arith), le-leb 0 (0 + 255 * gap) (omega arith))
      go (suc n) h =
          let low : times mid (suc n) ≤ up_to (suc n) + 255 * mid = omega (arith, up_low n, times_few mid n (omega arith)) in
          let high : up_to (suc n) ≤ times mid (suc n) + 255 * gap = omega (arith, up_high n, times_few gap n (omega arith)) in
          rw (le-leb _ _ low, le-leb _ _ high)

  module _ (n : ℕ) (few : n ≤ 256) where
    mids : times mid n ≤ 549755813888
    mids = omega (arith, times_small mid n raised.mid_small)

    ups : up_to n ≤ 1099511627776
    ups = go n few
      where
        go : (n : ℕ) → n ≤ 256 → up_to n ≤ 1099511627776
        go zero h = omega arith
        go (suc n) h =
            omega (arith, up_high n, times_small mid n raised.mid_small, times_small gap n (omega (arith, raised.gap_small)), raised.mid_small)

    -- its bits stand for it
    pub total_held : whole (held (total_to share image n)) ≡ total_to share image n
    total_held = rw (total_is n) (whole_held (up_to n) (times mid n) (omega (arith, mids)) (omega (arith, mids)) (omega (arith, ups)))

    -- one block more, by the bits
    pub total_next : (held (total_to share image n) + held (share_at share image (block_at n))) % 18446744073709551616 ≡ held (total_to share image (suc n))
    total_next =
        rw (total_is n, at_is (block_at n), total_is (suc n))
        (bits_plus (up_to n) (times mid n) (up_at (block_at n)) mid _ _ (omega (arith, mids, raised.mid_small))
        (held_is (up_to n) (times mid n) (omega (arith, mids)) (omega (arith, ups)))
        (held_is (up_at (block_at n)) mid (omega (arith, raised.mid_small)) (omega (arith, at_few (block_at n), raised.mid_small, raised.gap_small)))
        ∙ sym (held_is (up_to (suc n)) (times mid (suc n)) (omega (arith, mids, raised.mid_small))
        (omega (arith, ups, at_few (block_at n), raised.mid_small, raised.gap_small))))
