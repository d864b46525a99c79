-- Which version is written for so many bytes of numbers.
-- Assumes nothing.
use mathlib.Core.Path.{◌≡◌, refl}
use mathlib.Core.Bool.{Bool, true, false, ◌&&◌}
use Prim.Native.Nat.{ℕ, ◌*◌, ◌≤◌}
use native.Mathlib.Omega.{arith}
use lib.Dec.{eqb, leb, ltb}
use borrow.Author.Tests.{eq-eqb, ne_eqb, eqb-true, le-leb, leb-true, le-ltb}
use Rattle.std.specs.Prelude.{Some, Result, Ok, Err}
use Rattle.layout.specs.Layout.{sectors_of}
use Rattle.directory.specs.Lookup.{entry_count}
use Rattle.directory.specs.declared.Version.{Version}
use Rattle.directory.specs.declared.Version.TheVariants.{One, Two}
use Rattle.issue.specs.Write.{version_for, version_to_write}

pub and_both : (t u : Bool) → (t && u) ≡ true → (t ≡ true) × (u ≡ true)
and_both true true e = (refl, refl)
and_both true false e = (refl, e)
and_both false u e = let q : false ≡ true = e in let z : ◌≡◌ {A = ℕ} 0 1 = cc in absurd (omega arith)

pub not_ok : {T R : Type 0} {r : R} {v : T} → ◌≡◌ {A = Result T R} (Err r) (Ok v) → ⊥
not_ok z = let q : ◌≡◌ {A = ℕ} 0 1 = cc in omega arith

-- the sectors that a version needs
abbrev pub needed_of : Version → ℕ
needed_of One = 16
needed_of Two = 40

-- so many bytes of numbers are for a version, and the card has the sectors for it
pub record Fits (sectors bytes : ℕ) (v : Version) : Type 0 where
  pub amount : bytes ≡ 2 * entry_count v
  pub room : needed_of v ≤ sectors

pub needed_some : (v : Version) → 16 ≤ needed_of v
needed_some One = omega arith
needed_some Two = omega arith

fits_version : (sectors bytes : ℕ) (v : Version) → Fits sectors bytes v → version_for sectors bytes ≡ Some v
unfolding version_for
fits_version sectors bytes One f = rw (eq-eqb bytes 30 f.amount, le-leb 16 sectors f.room)
fits_version sectors bytes Two f =
    rw (ne_eqb bytes 30 (λ z. omega (arith, f.amount)), eq-eqb bytes 76 f.amount, le-leb 40 sectors f.room)

-- a version that fits is written
pub fits_accepted : (bytes n : ℕ) (v : Version) → Fits (sectors_of bytes) n v → version_to_write bytes n ≡ Ok v
unfolding version_to_write
fits_accepted bytes n v f =
    let l : 16 ≤ sectors_of bytes = omega (arith, f.room, needed_some v) in
    rw (ne_eqb (sectors_of bytes) 0 (λ z. omega arith), le-ltb (sectors_of bytes) 16 l, fits_version (sectors_of bytes) n v f)

-- and no other
module _ (bytes n : ℕ) where
  abbrev s : ℕ
  s = sectors_of bytes

  pub accepted_fits : (v : Version) → version_to_write bytes n ≡ Ok v → Fits (sectors_of bytes) n v
  unfolding version_to_write version_for
  accepted_fits v w =
      go (eqb s 0) refl (ltb s 16) refl (eqb n 30 && leb 16 s) refl (eqb n 76 && leb 40 s) refl
    where
      go : (t : Bool) → eqb s 0 ≡ t → (u : Bool) → ltb s 16 ≡ u → (x : Bool) → (eqb n 30 && leb 16 s) ≡ x → (y : Bool) → (eqb n 76 && leb 40 s) ≡ y → Fits s n v
      go true e u f x g y h = absurd (not_ok (rw e at w))
      go false e true f x g y h = absurd (not_ok (rw (e, f) at w))
      go false e false f true g y h =
          let q : One ≡ v = let k : Ok One ≡ Ok v = rw (e, f, g) at w in cc in
          let a = and_both (eqb n 30) (leb 16 s) g in
          rw (← q) (record { amount = eqb-true n 30 a.0; room = leb-true 16 s a.1 })
      go false e false f false g true h =
          let q : Two ≡ v = let k : Ok Two ≡ Ok v = rw (e, f, g, h) at w in cc in
          let a = and_both (eqb n 76) (leb 40 s) h in
          rw (← q) (record { amount = eqb-true n 76 a.0; room = leb-true 40 s a.1 })
      go false e false f false g false h = absurd (not_ok (rw (e, f, g, h) at w))

pub amount_of : (bytes n : ℕ) (v : Version) → version_to_write bytes n ≡ Ok v → n ≡ 2 * entry_count v
amount_of bytes n v e = (accepted_fits bytes n v e).amount
