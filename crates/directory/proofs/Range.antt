-- An entry has two bytes, so a number above FFFFh is held nowhere.
-- Assumes nothing.
use mathlib.Core.Path.{◌≡◌, refl}
use mathlib.Core.Bool.{Bool, true, false}
use mathlib.Core.List.{List}
use Prim.Native.Nat.{ℕ, ◌+◌, ◌*◌, ◌-◌, ◌/◌, ◌%◌, ◌≤◌, ◌<◌}
use native.Mathlib.Omega.{arith}
use lib.Dec.{ltb, leb}
use lib.ListN.{length, take, drop, get_or, replicate, length-take, length-replicate, get_or-replicate, get_or-eq_default}
use lib.Seq.{get_or-take, get_or-drop}
use borrow.Author.Tests.{ltb-true, ltb-false, leb-true, leb-false}
use Rattle.layout.specs.Layout.{has_block, block_at}
use Rattle.layout.specs.declared.Block.{Block}
use Rattle.memory.specs.Memory.{content_of, byte_of}
use Rattle.directory.specs.Directory.{entries_of, entry_at}
use Rattle.directory.specs.Lookup.{lookup_of}
use Rattle.directory.specs.Code.{number_at}
use Rattle.directory.specs.Every.{ReadAll, TooLarge}
use Rattle.directory.specs.declared.Version.{Version}
use Rattle.std.specs.Prelude.{None, Ok}
use Rattle.directory.proofs.Places.{first_place, second_place, past_places}
use Rattle.directory.proofs.Every.{every_entry}

unfoldable pub Small : List ℕ → Type 0
Small l = (i : ℕ) → get_or l i 0 < 256

small_take : (n : ℕ) (l : List ℕ) → Small l → Small (take n l)
unfolding Small
small_take n l s i = go (ltb i n) refl
  where
    go : (t : Bool) → ltb i n ≡ t → get_or (take n l) i 0 < 256
    go true e = rw (get_or-take n l i 0 (ltb-true i n e)) (s i)
    go false e =
        let h : n ≤ i = ltb-false i n e in
        let z : get_or (take n l) i 0 ≡ 0 = get_or-eq_default (take n l) 0 (simp length-take (omega arith)) in
        omega arith

small_drop : (n : ℕ) (l : List ℕ) → Small l → Small (drop n l)
unfolding Small
small_drop n l s i = rw (get_or-drop n l i 0) (s (n + i))

small_zeros : (n : ℕ) → Small (replicate n 0)
unfolding Small
small_zeros n i = go (ltb i n) refl
  where
    go : (t : Bool) → ltb i n ≡ t → get_or (replicate n 0) i 0 < 256
    go true e =
        let z : ◌≡◌ {A = ℕ} (get_or (replicate n 0) i 0) 0 = get_or-replicate n i 0 0 (ltb-true i n e) in
        omega arith
    go false e =
        let h : n ≤ i = ltb-false i n e in
        let z : ◌≡◌ {A = ℕ} (get_or (replicate n 0) i 0) 0 = get_or-eq_default (replicate n 0) 0 (simp length-replicate h) in
        omega arith

module _ (image : List ℕ) (s : Small image) where
  pub byte_small : (b : Block) (i : ℕ) → byte_of image b i < 256
  unfolding byte_of content_of Small
  byte_small b i = go (has_block (length image) b) refl
    where
      go : (t : Bool) → has_block (length image) b ≡ t → byte_of image b i < 256
      go true e = rw e (small_take 16 (drop (16 * b.0) image) (small_drop (16 * b.0) image s) i)
      go false e = rw e (small_zeros 16 i)

  number_small : (first k : ℕ) → number_at image first k < 65536
  number_small first k =
      omega (arith, byte_small (block_at (first + k / 8)) (2 * (k % 8)), byte_small (block_at (first + k / 8)) (2 * (k % 8) + 1))

  entry_small : (place : ℕ) → 0 < place → entry_at image place < 65536
  entry_small place h = go (leb place 15) refl (leb place 38) refl
    where
      go : (t : Bool) → leb place 15 ≡ t → (u : Bool) → leb place 38 ≡ u → entry_at image place < 65536
      go true e u f = omega (arith, first_place image place (λ z. omega arith) (leb-true place 15 e), number_small 1 place)
      go false e true f = omega (arith, second_place image place (leb-false place 15 e) (leb-true place 38 f), number_small 64 (place - 15))
      go false e false f = omega (arith, past_places image place (leb-false place 38 f))

  by_reading : (v : Version) (wanted : ℕ) → 65535 < wanted → ReadAll image v wanted (lookup_of image wanted) → lookup_of image wanted ≡ Ok (record { found = None; count = length (entries_of image v) })
  by_reading v wanted h (ReadAll.lowest place held first a) = absurd (omega (arith, held.held, entry_small place held.from))
  by_reading v wanted h (ReadAll.nowhere none a) = a

pub too_large : TooLarge
unfolding Small
too_large image v wanted s ok h = by_reading image s v wanted h (every_entry image v wanted ok)
