-- The blocks' invariant: what is put so far, with the lines of the blocks still ahead, are the lines of all.
-- Assumes nothing.
use mathlib.Core.Path.{◌≡◌, refl, sym, ◌∙◌, ap}
use mathlib.Core.Bool.{Bool, true, false, not, ◌&&◌}
use mathlib.Core.List.{List, [], ◌∷◌, ◌++◌, append_assoc, append-nil}
use lib.Dec.{eqb}
use Rattle.std.specs.Cmp.Lexicographic.{pointwise}
use Rattle.value.specs.Block.{same}
use Prim.Native.Nat.{ℕ, suc, ◌+◌, ◌*◌, ◌-◌, ◌<◌, ◌≤◌}
use native.Mathlib.Omega.{arith}
use native.Mathlib.Nat.{sub-zero}
use lib.ListN.{length}
use Rattle.play.specs.Puts.{Puts}
use Rattle.play.specs.declared.text.Printer.{Printer}
use Rattle.layout.specs.Layout.{block_at}
use Rattle.memory.specs.Memory.{content_of}
use Rattle.play.specs.Printout.{block_line, change_line, changed_from}
use Rattle.play.proofs.Put.{puts_nothing, puts_then}

module _ (old new : List ℕ) (p₀ : Printer) (count : ℕ) where
  pub record Changing (p : Printer) (b : ℕ) : Type 0 where
    pub done : List ℕ
    pub puts : Puts p₀ done p
    pub lines : done ++ changed_from old new (count - b) b ≡ changed_from old new count 0
    pub upto : b ≤ count
    pub few : count ≤ 256
    pub room : p.at ≤ p₀.at + 48 * b
    pub fits : p₀.at + 48 * count + 64 ≤ length p₀.out.now

  pub start : count ≤ 256 → p₀.at + 48 * count + 64 ≤ length p₀.out.now → Changing p₀ 0
  start c r =
      record {
        done = [];
        puts = puts_nothing p₀ (omega arith);
        lines = rw (sub-zero count);
        upto = omega arith;
        few = c;
        room = omega arith;
        fits = r;
      }

  module _ {p : Printer} {b : ℕ} (g : Changing p b) where
    pub turn : (p' : Printer) → b < count → Puts p (change_line old new b) p' → p'.at ≤ p.at + 48 → Changing p' (b + 1)
    unfolding changed_from
    turn p' h x k =
        let left : count - b ≡ suc (count - (b + 1)) = omega arith in
        record {
          done = g.done ++ change_line old new b;
          puts = puts_then g.puts x;
          lines = append_assoc g.done (change_line old new b) _ ∙ (ap (λ (n : ℕ). g.done ++ changed_from old new n b) (sym left) ∙ g.lines);
          upto = omega arith;
          few = g.few;
          room = omega (arith, g.room);
          fits = g.fits;
        }

    pub end_lines : count ≤ b → Puts p₀ (changed_from old new count 0) p
    unfolding changed_from
    end_lines h =
        let none : count - b ≡ 0 = omega arith in
        let e : g.done ≡ changed_from old new count 0 =
        sym (append-nil g.done) ∙ ap (λ (n : ℕ). g.done ++ changed_from old new n b) (sym none) ∙ g.lines in
        rw (← e) g.puts

-- two contents that are equal, byte for byte
pub alike : (x y : List ℕ) → pointwise eqb x y ≡ same x y
alike [] [] = refl
alike [] (y ∷ ys) = refl
alike (x ∷ xs) [] = refl
alike (x ∷ xs) (y ∷ ys) = ap (λ (b : Bool). eqb x y && b) (alike xs ys)

alike_unless : (t : Bool) → not t ≡ false → t ≡ true
alike_unless true e = refl
alike_unless false e = cc

unlike_where : (t : Bool) → not t ≡ true → t ≡ false
unlike_where true e = cc
unlike_where false e = refl

-- the line of a block, by its two contents
module _ (old new : List ℕ) (b : ℕ) {x y : List ℕ} {t : Bool} (p : x ≡ content_of old (block_at b)) (q : y ≡ content_of new (block_at b)) (e : t ≡ not (pointwise eqb x y)) where
  pub unchanged : t ≡ false → change_line old new b ≡ []
  unfolding change_line
  unchanged h = rw (← p, ← q, ← alike x y, alike_unless (pointwise eqb x y) (sym e ∙ h))

  pub changed : t ≡ true → change_line old new b ≡ block_line b y
  unfolding change_line
  changed h = rw (← p, ← q, ← alike x y, unlike_where (pointwise eqb x y) (sym e ∙ h))
