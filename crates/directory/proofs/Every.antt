-- The lookup's answer is the one from reading every entry.
-- Assumes nothing.
use mathlib.Core.Path.{◌≡◌, refl, sym, ◌∙◌, ap}
use mathlib.Core.Bool.{Bool, true, false}
use mathlib.Core.List.{List, [], ◌∷◌}
use Prim.Native.Nat.{ℕ, zero, suc, ◌+◌, ◌-◌, ◌≤◌, ◌<◌}
use native.Mathlib.Omega.{arith}
use lib.Dec.{eqb, leb}
use lib.ListN.{length, get_or, length-append, get_or-append}
use borrow.Author.Tests.{eqb-true, eqb-false, ne_eqb, leb-true, leb-false}
use Rattle.std.specs.Prelude.{Option, Some, None, Ok}
use Rattle.directory.specs.Directory.{entries_in, entries_of, entry_at}
use Rattle.directory.specs.Lookup.{entry_count, place_from, sector_of_place, intact_version, looked_of, searched, looked_up, lookup_of}
use Rattle.directory.specs.Every.{HeldAt, ReadAll, EveryEntry, NoEntry}
use Rattle.directory.specs.declared.Version.{Version}
use Rattle.directory.specs.declared.Version.TheVariants.{One, Two}
use Rattle.directory.specs.declared.Part.TheVariants.{First, Second}
use Rattle.directory.proofs.Places.{first_entries, second_entries}

-- what the place of a search says of every entry
data Seen (es : List ℕ) (p w : ℕ) (r : Option ℕ) : Type 0 where
  seen : (k : ℕ) → r ≡ Some (p + k) → k < length es → get_or es k 0 ≡ w → ((j : ℕ) → j < k → get_or es j 0 ≡ w → ⊥) → Seen es p w r
  unseen : r ≡ None → ((j : ℕ) → j < length es → get_or es j 0 ≡ w → ⊥) → Seen es p w r

-- one entry before that is another number
later : (e : ℕ) (es : List ℕ) (p w : ℕ) (r : Option ℕ) → (e ≡ w → ⊥) → Seen es (suc p) w r → Seen (e ∷ es) p w r
later e es p w r ne (seen k q h at before) = seen (suc k) (q ∙ (let n : suc p + k ≡ p + suc k = omega arith in ap Some n)) (omega arith) at (none k before)
  where
    none : (k : ℕ) → ((j : ℕ) → j < k → get_or es j 0 ≡ w → ⊥) → (j : ℕ) → j < suc k → get_or (e ∷ es) j 0 ≡ w → ⊥
    none k b zero h = ne
    none k b (suc j) h = b j (omega arith)
later e es p w r ne (unseen q before) = unseen q none
  where
    none : (j : ℕ) → j < suc (length es) → get_or (e ∷ es) j 0 ≡ w → ⊥
    none zero h = ne
    none (suc j) h = before j (omega arith)

look : (es : List ℕ) (p w : ℕ) → Seen es p w (place_from p w es)
unfolding place_from
look [] p w = unseen refl (λ j h. absurd (omega arith))
look (e ∷ es) p w = go (eqb e w) refl (look es (suc p) w)
  where
    go : (t : Bool) → eqb e w ≡ t → Seen es (suc p) w (place_from (suc p) w es) → Seen (e ∷ es) p w (place_from p w (e ∷ es))
    go true q rest = rw q (seen 0 (let n : p ≡ p + 0 = omega arith in ap Some n) (omega arith) (eqb-true e w q) (λ j h. absurd (omega arith)))
    go false q rest = rw q (later e es p w (place_from (suc p) w es) (eqb-false e w q) rest)

-- a version's entries are those that its places read
pub entry_read : (image : List ℕ) (v : Version) (place : ℕ) → 0 < place → place ≤ length (entries_of image v) → entry_at image place ≡ get_or (entries_of image v) (place - 1) 0
unfolding entry_at entries_of
entry_read image One place h l =
    rw (ne_eqb place 0 (λ z. omega arith)) (get_or-append (entries_in image First) (entries_in image Second) 0 (place - 1) (omega arith))
entry_read image Two place h l = rw (ne_eqb place 0 (λ z. omega arith))

pub counted : (image : List ℕ) (v : Version) → length (entries_of image v) ≡ entry_count v
unfolding entries_of
counted image One = first_entries image
counted image Two = simp (length-append, first_entries image, second_entries image)

few : (v : Version) → entry_count v ≤ 38
few One = omega arith
few Two = omega arith

-- a later place has a higher sector
sector_order : (p q : ℕ) → p ≤ q → q ≤ 38 → (sector_of_place p).0 ≤ (sector_of_place q).0
unfolding sector_of_place
sector_order p q h l = go (leb p 15) refl (leb q 15) refl (leb p 38) refl (leb q 38) refl
  where
    go : (a : Bool) → leb p 15 ≡ a → (b : Bool) → leb q 15 ≡ b → (c : Bool) → leb p 38 ≡ c → (d : Bool) → leb q 38 ≡ d → (sector_of_place p).0 ≤ (sector_of_place q).0
    go true e true f c g d k = rw (e, f) h
    go true e false f c g true k = rw (e, f, k) (omega arith)
    go true e false f c g false k = absurd (omega (arith, leb-false q 38 k))
    go false e true f c g d k = absurd (omega (arith, leb-false p 15 e, leb-true q 15 f))
    go false e false f true g true k = rw (e, f, g, k) (omega arith)
    go false e false f false g d k = absurd (omega (arith, leb-false p 38 g))
    go false e false f true g false k = absurd (omega (arith, leb-false q 38 k))

module _ (image : List ℕ) (v : Version) (wanted : ℕ) (ok : intact_version image ≡ Ok v) where
  abbrev es : List ℕ
  es = entries_of image v

  given : lookup_of image wanted ≡ Ok (looked_of (length es) (place_from 1 wanted es))
  unfolding lookup_of looked_up searched
  given = rw ok

  read_of : (place : ℕ) → HeldAt image v wanted place → get_or es (place - 1) 0 ≡ wanted
  read_of place h = sym (entry_read image v place h.from h.to) ∙ h.held

  by_look : (r : Option ℕ) → Seen es 1 wanted r → lookup_of image wanted ≡ Ok (looked_of (length es) r) → ReadAll image v wanted (lookup_of image wanted)
  unfolding looked_of
  by_look r (unseen z none) g =
      ReadAll.nowhere (λ other h. let f : 0 < other = h.from in let t : other ≤ length es = h.to in none (other - 1) (omega arith) (read_of other h)) (g ∙ rw z)
  by_look r (seen k q h at before) g =
      ReadAll.lowest (1 + k)
      (record { from = omega arith; to = omega arith; held = entry_read image v (1 + k) (omega arith) (omega arith) ∙ (let e : 1 + k - 1 ≡ k = omega arith in rw e at) })
      first
      (g ∙ rw q)
    where
      no_sooner : (other : ℕ) → HeldAt image v wanted other → (t : Bool) → leb (1 + k) other ≡ t → 1 + k ≤ other
      no_sooner other h true e = leb-true (1 + k) other e
      no_sooner other h false e =
          let l : other < 1 + k = leb-false (1 + k) other e in
          let f : 0 < other = h.from in
          absurd (before (other - 1) (omega arith) (read_of other h))

      first : (other : ℕ) → HeldAt image v wanted other → (1 + k ≤ other) × ((sector_of_place (1 + k)).0 ≤ (sector_of_place other).0)
      first other h =
          let l : 1 + k ≤ other = no_sooner other h (leb (1 + k) other) refl in
          let t : other ≤ length es = h.to in
          (l, sector_order (1 + k) other l (omega (arith, few v, counted image v)))

pub every_entry : EveryEntry
every_entry image v wanted ok = by_look image v wanted ok (place_from 1 wanted (es image v wanted ok)) (look (es image v wanted ok) 1 wanted) (given image v wanted ok)

pub no_entry : NoEntry
unfolding lookup_of looked_up
no_entry image r wanted e = rw e
