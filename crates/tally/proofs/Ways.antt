-- The ways out of the code, in the words of its tests.
-- Assumes nothing.
use Rattle.std.proofs.Common.{◌≡◌, ℕ, ◌+◌, ◌-◌, ◌*◌, ◌%◌, ◌<◌, ◌≤◌, Bool, true, false, cond, ◌&&◌, ◌||◌, eqb, ltb, leb, List, length, replicate, ℤ, pos, ◌+ℤ◌, ◌-ℤ◌, neg_ℤ, sym, refl, ap, ◌∙◌, ap₂, add-one, arith, ltb-false, ltb-true, leb-false, leb-true, None, Option, Some}
use native.Mathlib.Nat.{add-mod, add-mod_right}
use lib.IntN.{sub_ℕ}
use Rattle.layout.specs.Layout.{block_at, blocks_of, has_block, is_trailer}
use Rattle.layout.specs.declared.Block.{Block}
use Rattle.layout.proofs.Laws.{at_most}
use Rattle.memory.specs.Memory.{content_of}
use Rattle.value.specs.Whole.{signed}
use Rattle.value.specs.Block.{decode_of, agreeing, encode_of}
use Rattle.value.proofs.Ints.{sub_plus, sub_minus}
use Rattle.value.proofs.Sums.{lift, signed_is}
use Rattle.tally.specs.Whole.{whole, held, within}
use Rattle.tally.specs.Change.{figures_of, count_fits, sum_fits, in_range, count_by, sum_by, count_share, sum_share, added_to, taken_from, kept_of, settled_of}
use Rattle.tally.specs.Full.{counts, share_at, total_to, count_of, sum_of}
use Rattle.tally.specs.declared.change.Figures.{Figures}
use Rattle.std.specs.Prelude.{Some, None}
use Rattle.tally.proofs.Bits.{both, carry, whole_is, within_is, held_is, bits_minus, same_range, same_bits}
use Rattle.tally.proofs.Shares.{Raised, raised_count, raised_sum, and_false, total_next}

-- one comparison that is two
one_two : (x y a b c d : ℕ) → (x ≤ y → (a ≤ b) × (c ≤ d)) → (a ≤ b → c ≤ d → x ≤ y) → leb x y ≡ (leb a b && leb c d)
one_two x y a b c d there back = go (leb x y) refl (leb a b) refl (leb c d) refl
  where
    go : (t : Bool) → leb x y ≡ t → (u : Bool) → leb a b ≡ u → (w : Bool) → leb c d ≡ w → t ≡ (u && w)
    go true e true f true g = refl
    go true e false f w g = absurd (omega (arith, leb-false a b f, (there (leb-true x y e)).0))
    go true e true f false g = absurd (omega (arith, leb-false c d g, (there (leb-true x y e)).1))
    go false e true f true g = absurd (omega (arith, leb-false x y e, back (leb-true a b f) (leb-true c d g)))
    go false e false f w g = refl
    go false e true f false g = refl

-- bits moved up by the lower end: in range they are at most both ends together
module _ (l h s : ℕ) (hl : l ≤ 1099511627776) (hh : h ≤ 1099511627776) (hs : s < 18446744073709551616) where
  fits_at : (t : Bool) → ltb s 9223372036854775808 ≡ t
      → leb ((s + l) % 18446744073709551616) (l + h) ≡ (leb (cond t 0 18446744073709551616) (s + l) && leb s (cond t 0 18446744073709551616 + h))
  fits_at true e =
      let i : s < 9223372036854775808 = ltb-true s 9223372036854775808 e in
      one_two ((s + l) % 18446744073709551616) (l + h) 0 (s + l) s (0 + h) (λ a. (omega arith, omega arith)) (λ a b. omega arith)
  fits_at false e =
      let i : 9223372036854775808 ≤ s = ltb-false s 9223372036854775808 e in
      one_two ((s + l) % 18446744073709551616) (l + h) 18446744073709551616 (s + l) s (18446744073709551616 + h) (λ a. (omega arith, omega arith)) (λ a b. omega arith)

  pub fits_is : leb ((s + l) % 18446744073709551616) (l + h) ≡ within (neg_ℤ (pos l)) (pos h) (whole s)
  fits_is =
      fits_at (ltb s 9223372036854775808) refl ∙ sym (within_is l h s (carry s))
      ∙ ap (within (neg_ℤ (pos l)) (pos h)) (sym (whole_is s hs))

pub count_fits_is : (s : ℕ) → s < 18446744073709551616 → leb s 255 ≡ count_fits (whole s)
count_fits_is s h = let e : s ≡ (s + 0) % 18446744073709551616 = omega arith in ap (λ (x : ℕ). leb x 255) e ∙ fits_is 0 255 s (omega arith) (omega arith) h

pub sum_fits_is : (s x : ℕ) → s < 18446744073709551616 → x ≡ (s + 547608330240) % 18446744073709551616 → leb x 1095216660225 ≡ sum_fits (whole s)
sum_fits_is s x h e = rw e (fits_is 547608330240 547608329985 s (omega arith) (omega arith) h)

-- the bits of a value
pub extended_is : (v r : ℕ) → v < 4294967296 → r < 18446744073709551616 → (r + 2147483648) % 18446744073709551616 ≡ lift v → r ≡ held (signed v)
extended_is v r hv hr e =
    let i : r ≡ (lift v + 18446744071562067968) % 18446744073709551616 = omega arith in
    i ∙ sym (ap held (signed_is v hv) ∙ held_is (lift v) 2147483648 (omega arith) (omega arith))

-- the share of sixteen bytes
module _ (block : List ℕ) (d : Option (ℕ × ℕ)) (asked : d ≡ decode_of block) where
  pub no_share : d ≡ None → record { count = 0; sum = 0 } ≡ figures_of (count_share block) (sum_share block)
  unfolding count_by sum_by
  no_share e = rw (sym asked ∙ e)

  pub its_share : (v a s : ℕ) → d ≡ Some (v, a) → s ≡ held (signed v) → record { count = 1; sum = s } ≡ figures_of (count_share block) (sum_share block)
  unfolding count_by sum_by
  its_share v a s e f = rw (sym asked ∙ e, f)

-- taken off by the bits: added to again, they give what was there
taken_is : (s y r : ℕ) → r < 18446744073709551616 → y < 18446744073709551616 → (r + y) % 18446744073709551616 ≡ s → r ≡ (s + (18446744073709551616 - y)) % 18446744073709551616
taken_is s y r hr hy e = omega arith

pub both_taken : (f g : Figures) (x y : ℕ) → x < 18446744073709551616 → y < 18446744073709551616 → g.count < 18446744073709551616 → g.sum < 18446744073709551616
    → (x + g.count) % 18446744073709551616 ≡ f.count → (y + g.sum) % 18446744073709551616 ≡ f.sum → record { count = x; sum = y } ≡ taken_from f g
unfolding taken_from
both_taken f g x y hx hy hc hs c s =
    ap₂ (λ (i j : ℕ). record { count = i; sum = j }) (taken_is f.count g.count x hx hc c) (taken_is f.sum g.sum y hy hs s)

-- one figure changed by its bits
module _ (share : List ℕ → ℤ) (mid gap : ℕ) (raised : Raised share mid gap) (s : ℕ) (hs : s < 18446744073709551616) (old new : List ℕ) where
  pub bits : ℕ
  bits = ((s + (18446744073709551616 - held (share old))) % 18446744073709551616 + held (share new)) % 18446744073709551616

  o : ℕ
  o = raised.up old

  n : ℕ
  n = raised.up new

  few : (block : List ℕ) → (raised.up block < 4294967296) × (mid ≤ 2147483648)
  few block = (omega (arith, raised.few block, raised.mid_small, raised.gap_small), raised.mid_small)

  share_bits : (block : List ℕ) → held (share block) ≡ (raised.up block + (18446744073709551616 - mid)) % 18446744073709551616
  share_bits block =
      ap held (raised.is block) ∙ held_is (raised.up block) mid (omega (arith, few block)) (omega (arith, few block))

  bits_is : bits ≡ (s + n + (18446744073709551616 - o)) % 18446744073709551616
  unfolding bits o n
  bits_is =
      let a = s + mid + (18446744073709551616 - raised.up old) in
      let b = raised.up new + (18446744073709551616 - mid) in
      let i : a + b ≡ s + raised.up new + (18446744073709551616 - raised.up old) + 18446744073709551616 = omega (arith, few old) in
      let t : (s + (18446744073709551616 - held (share old))) % 18446744073709551616 ≡ a % 18446744073709551616 =
      bits_minus s (raised.up old) mid (held (share old)) (omega (arith, few old)) (share_bits old) (omega (arith, few old)) in
      rw (t, share_bits new)
      (sym (add-mod a b 18446744073709551616) ∙ ap (λ (x : ℕ). x % 18446744073709551616) i
      ∙ add-mod_right (s + raised.up new + (18446744073709551616 - raised.up old)) 18446744073709551616)

  new_is : (whole s -ℤ share old) +ℤ share new ≡ sub_ℕ (s + mid + n) (carry s + o + mid)
  unfolding o n
  new_is =
      rw (whole_is s hs, raised.is old, raised.is new, sub_minus s (carry s) (raised.up old) mid)
      (sub_plus (s + mid) (carry s + raised.up old) (raised.up new) mid)

  module _ (small_low : 255 * mid ≤ 1099511627776) (small-high : 255 * gap ≤ 1099511627776) where
    pub figure_fits : within (neg_ℤ (pos (255 * mid))) (pos (255 * gap)) ((whole s -ℤ share old) +ℤ share new) ≡ within (neg_ℤ (pos (255 * mid))) (pos (255 * gap)) (whole bits)
    unfolding o n
    figure_fits =
        ap (within (neg_ℤ (pos (255 * mid))) (pos (255 * gap))) new_is
        ∙ same_range (255 * mid) (255 * gap) s o n mid bits small_low small-high hs (few old).0 (few new).0 (omega (arith, few old)) bits_is

    pub figure_bits : within (neg_ℤ (pos (255 * mid))) (pos (255 * gap)) ((whole s -ℤ share old) +ℤ share new) ≡ true → held ((whole s -ℤ share old) +ℤ share new) ≡ bits
    unfolding o n
    figure_bits w =
        ap held new_is
        ∙ same_bits (255 * mid) (255 * gap) s o n mid bits small_low small-high hs (few old).0 (few new).0 (omega (arith, few old)) bits_is
        (sym (ap (within (neg_ℤ (pos (255 * mid))) (pos (255 * gap))) new_is) ∙ w)

pub kept_fit : (count sum : ℤ) → count_fits count ≡ true → sum_fits sum ≡ true → kept_of count sum ≡ Some (figures_of count sum)
unfolding kept_of
kept_fit count sum e f = rw (e, f)

-- both figures changed, as the code has them in hand
module _ (f less between more next : Figures) (old new : List ℕ) (hc : f.count < 18446744073709551616) (hs : f.sum < 18446744073709551616)
    (e₁ : less ≡ figures_of (count_share old) (sum_share old)) (e₂ : between ≡ taken_from f less)
    (e₃ : more ≡ figures_of (count_share new) (sum_share new)) (e₄ : next ≡ added_to between more) where
  next_count : next.count ≡ bits count_share 0 1 raised_count f.count hc old new
  unfolding added_to taken_from bits
  next_count = rw (e₄, e₂, e₁, e₃)

  next_sum : next.sum ≡ bits sum_share 2147483648 2147483647 raised_sum f.sum hs old new
  unfolding added_to taken_from bits
  next_sum = rw (e₄, e₂, e₁, e₃)

  new_count : ℤ
  new_count = (whole f.count -ℤ count_share old) +ℤ count_share new

  new_sum : ℤ
  new_sum = (whole f.sum -ℤ sum_share old) +ℤ sum_share new

  same_count : count_fits new_count ≡ count_fits (whole next.count)
  unfolding new_count
  same_count = figure_fits count_share 0 1 raised_count f.count hc old new (omega arith) (omega arith) ∙ ap (λ (x : ℕ). count_fits (whole x)) (sym next_count)

  same_sum : sum_fits new_sum ≡ sum_fits (whole next.sum)
  unfolding new_sum
  same_sum = figure_fits sum_share 2147483648 2147483647 raised_sum f.sum hs old new (omega arith) (omega arith) ∙ ap (λ (x : ℕ). sum_fits (whole x)) (sym next_sum)

  both_fit : (count_fits new_count && sum_fits new_sum) ≡ in_range next
  unfolding in_range
  both_fit = ap₂ ◌&&◌ same_count same_sum

  pub leaves : in_range next ≡ false → None ≡ settled_of f old new
  unfolding settled_of kept_of new_count new_sum
  leaves e = sym (rw (both_fit ∙ e))

  pub stays : in_range next ≡ true → Some next ≡ settled_of f old new
  unfolding settled_of new_count new_sum
  stays e =
      let w = both (count_fits new_count) (sum_fits new_sum) (both_fit ∙ e) in
      let c : held new_count ≡ next.count = figure_bits count_share 0 1 raised_count f.count hc old new (omega arith) (omega arith) w.0 ∙ sym next_count in
      let s : held new_sum ≡ next.sum = figure_bits sum_share 2147483648 2147483647 raised_sum f.sum hs old new (omega arith) (omega arith) w.1 ∙ sym next_sum in
      sym (kept_fit new_count new_sum w.0 w.1 ∙ ap₂ (λ (x y : ℕ). Some (record { count = x; sum = y })) c s)

-- the share of a block of the image
zeros_no_value : decode_of (replicate 16 0) ≡ None
unfolding decode_of agreeing encode_of
zeros_no_value = refl

module _ (image : List ℕ) (b : Block) where
  abbrev pub ShareAt : Figures → Type 0
  ShareAt r = r ≡ figures_of (share_at count_share image b) (share_at sum_share image b)

  pub left_out : (eqb b.0 0 || is_trailer b) ≡ true → ShareAt (record { count = 0; sum = 0 })
  unfolding share_at counts
  left_out e = rw (e, and_false (has_block (length image) b))

  pub looked_at : (eqb b.0 0 || is_trailer b) ≡ false → (block : List ℕ) → block ≡ content_of image b → (r : Figures) → r ≡ figures_of (count_share block) (sum_share block) → ShareAt r
  unfolding share_at counts content_of count_by sum_by
  looked_at e block f r g = go (has_block (length image) b) refl
    where
      go : (t : Bool) → has_block (length image) b ≡ t → ShareAt r
      go true h = rw (h, e) (g ∙ rw (f, h))
      go false h = rw h (g ∙ rw (f, h, zeros_no_value))

-- the loop over the blocks: the figures are those of the blocks so far
pub record Counting (image : List ℕ) (blocks : ℕ) (f : Figures) (i : ℕ) : Type 0 where
  pub upto : i ≤ blocks
  pub all : blocks ≡ blocks_of (length image)
  pub few : blocks ≤ 256
  pub so_far : f ≡ figures_of (total_to count_share image i) (total_to sum_share image i)

pub start : (image : List ℕ) (blocks : ℕ) → blocks ≡ blocks_of (length image) → Counting image blocks (record { count = 0; sum = 0 }) 0
unfolding total_to
start image blocks e = record { upto = omega arith; all = e; few = omega (arith, (at_most (length image)).1); so_far = refl }

pub turn : (image : List ℕ) (blocks : ℕ) (f share next : Figures) (i : ℕ) → Counting image blocks f i → i < blocks
    → ShareAt image (block_at i) share → next ≡ added_to f share → Counting image blocks next (i + 1)
unfolding added_to
turn image blocks f share next i c h e g =
    let n : i ≤ 256 = omega (arith, c.few) in
    record {
      upto = omega arith;
      all = c.all;
      few = c.few;
      so_far = g ∙ rw (c.so_far, e, add-one i, total_next count_share 0 1 raised_count image i n, total_next sum_share 2147483648 2147483647 raised_sum image i n);
    }

pub finished : (image : List ℕ) (blocks : ℕ) (f : Figures) (i : ℕ) → Counting image blocks f i → blocks ≤ i → f ≡ figures_of (count_of image) (sum_of image)
finished image blocks f i c h = let e : i ≡ blocks_of (length image) = omega (arith, c.upto, c.all) in c.so_far ∙ rw e
