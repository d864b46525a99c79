-- A record judged part by part.
-- Assumes nothing.
use Rattle.std.proofs.Common.{None, Some}
use mathlib.Core.Path.{◌≡◌, refl, sym, ◌∙◌, ap}
use mathlib.Core.Bool.{Bool, true, false, ◌&&◌, cond}
use mathlib.Core.List.{List, [], ◌∷◌}
use Prim.Native.Nat.{ℕ, zero, suc, ◌/◌, ◌%◌, ◌<◌}
use native.Mathlib.Omega.{arith}
use lib.Dec.{eqb, ltb}
use lib.ListN.{get_or, length}
use borrow.Author.Tests.{eq-eqb, ne_eqb, le-ltb}
use Rattle.value.specs.Block.{word_of, four_of, bits_in, same}
use Rattle.value.proofs.Words.{listed}
use Rattle.value.proofs.Blocks.{four_back, same_eq}
use Rattle.record.specs.Record.{value_bits, record_of, auth_by, stage_by, register_by, is_auth, is_stage, is_register, value_in, named_by, is_record}

-- a number has no code below itself
above : (n k : ℕ) → k < n → eqb n k ≡ false
above n k h = ne_eqb n k (λ (e : n ≡ k). omega arith)

-- a key's number, with any sector
pub key_judged : (who sector : ℕ) → (who ≡ 0 → ⊥) → ltb who 3 ≡ is_auth who sector
unfolding is_auth auth_by
key_judged zero sector some = absurd (some refl)
key_judged (suc zero) sector some = rw (eq-eqb sector sector refl)
key_judged (suc (suc zero)) sector some = rw (eq-eqb sector sector refl)
key_judged (suc (suc (suc n))) sector some =
    let n₃ = suc (suc (suc n)) in
    rw (le-ltb n₃ 3 (omega arith), above n₃ 1 (omega arith), above n₃ 2 (omega arith), above n₃ 0 (omega arith))

-- the number of a second frame, with any block
pub second_judged : (code block : ℕ) → (code ≡ 0 → ⊥) → ltb code 5 ≡ is_stage code block
unfolding is_stage stage_by
second_judged zero block some = absurd (some refl)
second_judged (suc zero) block some = rw (eq-eqb block block refl)
second_judged (suc (suc zero)) block some = rw (eq-eqb block block refl)
second_judged (suc (suc (suc zero))) block some = rw (eq-eqb block block refl)
second_judged (suc (suc (suc (suc zero)))) block some = rw (eq-eqb block block refl)
second_judged (suc (suc (suc (suc (suc n))))) block some =
    let n₅ = suc (suc (suc (suc (suc n)))) in
    rw (le-ltb n₅ 5 (omega arith), above n₅ 1 (omega arith), above n₅ 2 (omega arith), above n₅ 3 (omega arith), above n₅ 4 (omega arith), above n₅ 0 (omega arith))

-- a full register, with any address byte and any value
pub full_judged : (full address value : ℕ) → (full ≡ 0 → ⊥) → eqb full 1 ≡ is_register full address value
unfolding is_register register_by
full_judged zero address value some = absurd (some refl)
full_judged (suc zero) address value some = rw (eq-eqb address address refl, eq-eqb value value refl)
full_judged (suc (suc n)) address value some =
    let n₂ = suc (suc n) in
    rw (above n₂ 1 (omega arith), above n₂ 0 (omega arith))

and_assoc : (a b c : Bool) → ((a && b) && c) ≡ (a && (b && c))
and_assoc true b c = refl
and_assoc false b c = refl

and_true : (a : Bool) → (a && true) ≡ a
and_true true = refl
and_true false = refl

and_false : (a : Bool) → (a && false) ≡ false
and_false true = refl
and_false false = refl

-- the value is judged with its register, and is compared after bytes 6 and 7
value_last : (v x y : Bool) → (v && (x && y)) ≡ (x && (y && v))
value_last true x y = rw and_true
value_last false x y = rw (and_false y, and_false x)

in_turn : (a b c d e f v x y : Bool) → (a && b) && (c && d) && (e && f && v) && x && y ≡ (a && (b && (c && (d && (e && (f && (x && (y && v))))))))
in_turn a b c d e f v x y = simp and_assoc (rw (value_last v x y))

-- four bytes are those of a value where the word that they make is that value
module _ (a b c d v : ℕ) (ha : a < 256) (hb : b < 256) (hc : c < 256) (hd : d < 256) (fits : v < 4294967296) where
  abbrev four : List ℕ
  four = a ∷ b ∷ c ∷ d ∷ []

  apart : word_of a b c d ≡ v → (a ≡ v % 256) × (b ≡ v / 256 % 256) × (c ≡ v / 65536 % 256) × (d ≡ v / 16777216 % 256)
  apart e = omega arith

  word_judged : eqb (word_of a b c d) v ≡ same four (four_of v)
  word_judged = go (same four (four_of v)) refl
    where
      go : (t : Bool) → same four (four_of v) ≡ t → eqb (word_of a b c d) v ≡ t
      go true q = eq-eqb _ _ (ap bits_in (same_eq four (four_of v) q) ∙ four_back v fits)
      go false q =
          ne_eqb _ _
          (λ (e : word_of a b c d ≡ v).
          let p = apart e in
          let s : same four (four_of v) ≡ true = rw (eq-eqb _ _ p.0, eq-eqb _ _ p.1, eq-eqb _ _ p.2, eq-eqb _ _ p.3) in
          let z : ◌≡◌ {A = ℕ} 0 1 = cc in
          omega arith)

value_fits : (full address value : ℕ) → value < 4294967296 → value_bits (register_by full address value) < 4294967296
unfolding register_by
value_fits full address value h = either (eqb full 1)
  where
    either : (b : Bool) → value_bits (cond b (Some (value, address)) None) < 4294967296
    either true = h
    either false = omega arith

module _ (bytes : List ℕ) (twelve : length bytes ≡ 12) (byte : (i : ℕ) → get_or bytes i 0 < 256) where
  abbrev b : ℕ → ℕ
  b i = get_or bytes i 0

  -- the code's tests are the definition's comparison
  pub record_judged :
      is_auth (b 0) (b 1) && is_stage (b 2) (b 3) && is_register (b 4) (b 5) (value_in bytes) && eqb (b 6) 0 && eqb (b 7) 0 ≡ is_record bytes
  unfolding is_auth is_stage is_register is_record named_by record_of
  record_judged =
      let fits : value_in bytes < 4294967296 = omega (arith, byte 8, byte 9, byte 10, byte 11) in
      let value = value_bits (register_by (b 4) (b 5) (value_in bytes)) in
      rw (in_turn, word_judged (b 8) (b 9) (b 10) (b 11) value (byte 8) (byte 9) (byte 10) (byte 11) (value_fits (b 4) (b 5) (value_in bytes) fits))
      (ap (λ (l : List ℕ). same l (record_of (named_by bytes))) (sym (listed 12 bytes twelve)))
