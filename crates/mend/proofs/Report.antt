-- The report, filled row by row, and the image with it.
-- Assumes nothing.
use mathlib.Core.Path.{◌≡◌, refl, sym, ◌∙◌, ap}
use mathlib.Core.List.{List, [], ◌∷◌, ◌++◌, append_assoc, append-nil}
use Prim.Native.Nat.{ℕ, suc, ◌+◌, ◌*◌, ◌-◌, ◌<◌, ◌≤◌}
use native.Mathlib.Omega.{arith}
use native.Mathlib.Numerals.{add-one}
use borrow.Rule.Slice.PartMut.{put_mid, Post-is}
use lib.ListN.{length, take, drop, get_or, replicate, length-append, length-drop, take-append-drop, drop_of_length-le, length-replicate}
use lib.Seq.{drop-cons, take_at, drop_at, drop-drop, length-take-le}
use Rattle.layout.specs.Layout.{block_at}
use Rattle.mend.specs.One.{block_outcome, block_after}
use Rattle.mend.specs.All.{all_after, row_of, rows_of, padded}
use Rattle.std.specs.Prelude.{Result, Ok, Err}
use Rattle.mend.specs.declared.BlockRefusal.{BlockRefusal}
use Rattle.mend.proofs.Ways.{after_length}

-- a row put in the place of three bytes
pub row_put : (l row put : List ℕ) (at : ℕ) → put ≡ row → put_mid at (at + 3 - at) l put ≡ take at l ++ (row ++ drop (at + 3) l)
row_put l row put at e =
    rw (Post-is at (at + 3) l (omega arith), e)

row_length : (o : Result ℕ BlockRefusal) → length (row_of o) ≡ 3
unfolding row_of
row_length (Ok changed) = refl
row_length (Err refusal) = refl

-- after i names: what is left to do gives the rest of the rows and the last image, and behind the rows are zeros
pub record Filling (image₀ names image report : List ℕ) (i : ℕ) : Type 0 where
  pub few : length names ≤ 256
  pub upto : i ≤ length names
  pub size : length report ≡ 768
  pub same_image : length image ≡ length image₀
  pub images : all_after image₀ names ≡ all_after image (drop i names)
  pub rows : rows_of image₀ names ≡ take (3 * i) report ++ rows_of image (drop i names)
  pub rest : drop (3 * i) report ≡ replicate (768 - 3 * i) 0

pub start : (image names report : List ℕ) → length names ≤ 256 → report ≡ replicate 768 0 → Filling image names image report 0
start image names report h e = record {
  few = h;
  upto = omega arith;
  size = ap length e ∙ length-replicate {A = ℕ} 768 0;
  same_image = refl;
  images = refl;
  rows = refl;
  rest = e;
}

module _ (image₀ names image report : List ℕ) (i : ℕ) (f : Filling image₀ names image report i) where
  pub place : i < length names → (i < 256) × (length report ≡ 768)
  place h = (omega (arith, f.few), f.size)

  module _ (h : i < length names) (o : Result ℕ BlockRefusal) (image' report' : List ℕ)
      (told : o ≡ block_outcome image (block_at (get_or names i 0)))
      (stored : image' ≡ block_after image (block_at (get_or names i 0)))
      (put : report' ≡ take (3 * i) report ++ (row_of o ++ drop (3 * i + 3) report)) where
    split : drop i names ≡ get_or names i 0 ∷ drop (i + 1) names
    split = drop-cons names i 0 h ∙ rw (add-one i)

    head : List ℕ
    head = take (3 * i) report ++ row_of o

    head_length : length head ≡ 3 * (i + 1)
    unfolding head
    head_length =
        let s : length report ≡ 768 = f.size in
        let n : 3 * i ≤ length report = omega (arith, f.few) in
        simp (length-append, length-take-le (3 * i) report n, row_length) (omega arith)

    whole : report' ≡ head ++ drop (3 * i + 3) report
    unfolding head
    whole = put ∙ sym (append_assoc (take (3 * i) report) (row_of o) (drop (3 * i + 3) report))

    front : take (3 * (i + 1)) report' ≡ head
    front = ap (take (3 * (i + 1))) whole ∙ take_at head (drop (3 * i + 3) report) (3 * (i + 1)) head_length

    back : drop (3 * (i + 1)) report' ≡ drop (3 * i + 3) report
    back = ap (drop (3 * (i + 1))) whole ∙ drop_at head (drop (3 * i + 3) report) (3 * (i + 1)) head_length

    zeros : drop (3 * i + 3) report ≡ replicate (768 - 3 * (i + 1)) 0
    zeros =
        let n : 768 - 3 * i ≡ suc (suc (suc (768 - 3 * (i + 1)))) = omega (arith, f.few) in
        sym (drop-drop 3 (3 * i) report) ∙ ap (drop 3) f.rest ∙ rw n

    filled : length report' ≡ 768
    filled =
        let s : length report ≡ 768 = f.size in
        ap length whole ∙ simp (length-append, head_length, length-drop) (omega (arith, f.few))

    last_rows : rows_of image₀ names ≡ take (3 * (i + 1)) report' ++ rows_of image' (drop (i + 1) names)
    unfolding rows_of head
    last_rows =
        f.rows ∙ rw (split, front, ← told, ← stored)
        (sym (append_assoc (take (3 * i) report) (row_of o) (rows_of image' (drop (i + 1) names))))

    last_images : all_after image₀ names ≡ all_after image' (drop (i + 1) names)
    unfolding all_after
    last_images = f.images ∙ rw (split, stored)

    pub turn : Filling image₀ names image' report' (i + 1)
    turn = record {
      few = f.few;
      upto = omega arith;
      size = filled;
      same_image = ap length stored ∙ after_length image (block_at (get_or names i 0)) ∙ f.same_image;
      images = last_images;
      rows = last_rows;
      rest = back ∙ zeros;
    }

  pub finished : length names ≤ i → (image ≡ all_after image₀ names) × (report ≡ padded (rows_of image₀ names))
  unfolding all_after rows_of padded
  finished h =
      let none : drop i names ≡ [] = drop_of_length-le names h in
      let s : length report ≡ 768 = f.size in
      let n : 3 * i ≤ length report = omega (arith, f.few, f.upto) in
      let all : rows_of image₀ names ≡ take (3 * i) report = f.rows ∙ rw none (append-nil (take (3 * i) report)) in
      let l : length (take (3 * i) report) ≡ 3 * i = length-take-le (3 * i) report n in
      (sym (f.images ∙ rw none), sym (rw (all, l, ← f.rest) (take-append-drop (3 * i) report)))
