-- Four bytes there and back.
-- Assumes nothing.
use Rattle.std.proofs.Common.{None, Some}
use mathlib.Core.Path.{◌≡◌, refl, sym, ◌∙◌}
use mathlib.Core.Bool.{Bool, true, false, cond, ◌&&◌, false≢true}
use mathlib.Core.List.{List, [], ◌∷◌}
use Prim.Native.Nat.{ℕ}
use native.Mathlib.Omega.{arith}
use lib.Dec.{eqb, ltb}
use lib.ListN.{length}
use borrow.Author.Tests.{eqb-true, eqb-false, ltb-true}
use Rattle.edition.specs.declared.Edition.{Edition}
use Rattle.edition.specs.declared.Edition.TheVariants.{Old, Ev1}
use Rattle.edition.specs.declared.Usage.TheVariants.{Double, Shortened, Random, Single}
use Rattle.edition.specs.Edition.{Choice}
use Rattle.edition.specs.declared.CardRecord.{CardRecord}
use Rattle.edition.specs.Edition.{usage_of}
use Rattle.edition.specs.Bytes.{edition_code, lock_code, type_code, record_bytes, is_usage, is_choice, is_card, edition_by, choice_by, named_by, found_in}

-- a record is found in its own bytes
pub found_back : (k : CardRecord) → found_in (record_bytes k) ≡ Some k
unfolding found_in is_card is_choice is_usage named_by edition_by choice_by usage_of record_bytes
found_back k = go k.edition k.choice
  where
    go : (e : Edition) (x : Choice) → found_in (record_bytes (record { edition = e; choice = x })) ≡ Some (record { edition = e; choice = x })
    go Old None = refl
    go Old (Some Double) = refl
    go Old (Some Shortened) = refl
    go Old (Some Random) = refl
    go Old (Some Single) = refl
    go Ev1 None = refl
    go Ev1 (Some Double) = refl
    go Ev1 (Some Shortened) = refl
    go Ev1 (Some Random) = refl
    go Ev1 (Some Single) = refl

-- one of the four types is written as its own byte
usage_back : (code : ℕ) → is_usage code ≡ true → (lock_code (usage_of code) ≡ 1) × (type_code (usage_of code) ≡ code)
unfolding is_usage usage_of
usage_back code h = go (eqb code 0x00) refl (eqb code 0x40) refl (eqb code 0x20) refl (eqb code 0x60) refl
  where
    go : (t : Bool) → eqb code 0x00 ≡ t → (u : Bool) → eqb code 0x40 ≡ u → (v : Bool) → eqb code 0x20 ≡ v → (w : Bool) → eqb code 0x60 ≡ w
        → (lock_code (usage_of code) ≡ 1) × (type_code (usage_of code) ≡ code)
    go true e u f v g w i = rw e (refl, sym (eqb-true code 0x00 e))
    go false e true f v g w i = rw (e, f) (refl, sym (eqb-true code 0x40 f))
    go false e false f true g w i = rw (e, f, g) (refl, sym (eqb-true code 0x20 g))
    go false e false f false g true i = rw (e, f, g, i) (refl, sym (eqb-true code 0x60 i))
    go false e false f false g false i = let q : false ≡ true = rw (e, f, g, i) at h in absurd (false≢true q)

and_both : (x y : Bool) → (x && y) ≡ true → (x ≡ true) × (y ≡ true)
and_both true y h = (refl, h)
and_both false y h = absurd (false≢true h)

edition_back : (code : ℕ) → ltb code 2 ≡ true → edition_code (edition_by code) ≡ code
unfolding edition_by
edition_back code h = go (eqb code 0) refl
  where
    go : (t : Bool) → eqb code 0 ≡ t → edition_code (cond t Old Ev1) ≡ code
    go true e = sym (eqb-true code 0 e)
    go false e = omega (arith, ltb-true code 2 h, eqb-false code 0 e)

choice_back : (lock code : ℕ) → is_choice lock code ≡ true → (lock_code (choice_by lock code) ≡ lock) × (type_code (choice_by lock code) ≡ code)
unfolding is_choice choice_by
choice_back lock code h = go (eqb lock 0) refl h
  where
    go : (t : Bool) → eqb lock 0 ≡ t → cond t (eqb code 0) (eqb lock 1 && is_usage code) ≡ true
        → (lock_code (cond t None (usage_of code)) ≡ lock) × (type_code (cond t None (usage_of code)) ≡ code)
    go true e h = (sym (eqb-true lock 0 e), sym (eqb-true code 0 h))
    go false e h =
        let p = and_both (eqb lock 1) (is_usage code) h in
        let u = usage_back code p.1 in
        (u.0 ∙ sym (eqb-true lock 1 p.0), u.1)

-- four bytes that are a record are written as themselves
pub writes_back : (bytes : List ℕ) → length bytes ≡ 4 → is_card bytes ≡ true → record_bytes (named_by bytes) ≡ bytes
unfolding is_card record_bytes named_by
writes_back (a ∷ b ∷ c ∷ d ∷ []) l h =
    let p = and_both (ltb a 2 && is_choice b c) (eqb d 0) h in
    let q = and_both (ltb a 2) (is_choice b c) p.0 in
    let r = choice_back b c q.1 in
    rw (edition_back a q.0, r.0, r.1, eqb-true d 0 p.1)
writes_back [] l h = absurd (omega arith)
writes_back (a ∷ []) l h = absurd (omega arith)
writes_back (a ∷ b ∷ []) l h = absurd (omega arith)
writes_back (a ∷ b ∷ c ∷ []) l h = absurd (omega arith)
writes_back (a ∷ b ∷ c ∷ d ∷ e ∷ rest) l h = absurd (omega arith)

-- so what was found in them is written as them
pub found_writes : (bytes : List ℕ) (k : CardRecord) → length bytes ≡ 4 → found_in bytes ≡ Some k → record_bytes k ≡ bytes
unfolding found_in
found_writes bytes k l e = go (is_card bytes) refl e
  where
    go : (t : Bool) → is_card bytes ≡ t → cond t (Some (named_by bytes)) None ≡ Some k → record_bytes k ≡ bytes
    go true c q = let p : named_by bytes ≡ k = cc in rw (← p) (writes_back bytes l c)
    go false c q = cc
