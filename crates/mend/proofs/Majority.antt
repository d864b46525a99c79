-- What the majorities say, and that the readings of a value block with one byte torn still have them.
-- Assumes nothing.
use mathlib.Core.Path.{◌≡◌, refl, ◌∙◌, ap}
use mathlib.Core.Bool.{Bool, true, false, cond, ◌&&◌, ◌||◌}
use mathlib.Core.List.{List, [], ◌∷◌}
use Prim.Native.Nat.{ℕ, zero, suc, ◌-◌, ◌/◌, ◌%◌, ◌<◌, ◌≤◌}
use native.Mathlib.Omega.{arith}
use lib.Dec.{eqb}
use lib.ListN.{set}
use borrow.Author.Tests.{eq-eqb, eqb-true}
use Rattle.value.specs.Whole.{signed}
use Rattle.value.specs.Block.{word_of, encode_of}
use Rattle.value.proofs.Blocks.{bits_signed, four_back}
use Rattle.mend.specs.Rule.{first_value, second_value, third_value, first_address, second_address, third_address, fourth_address, two_agree, majority_of_three, three_agree, majority_of_four, majority_rule, mended_of}
use Rattle.mend.specs.Laws.{Bytes, count_of, ByMajority, OnlyByMajority, ZerosTie, NotByteByByte}
use Rattle.std.specs.Prelude.{Option, Some, None}

or_true : (x : Bool) → (x || true) ≡ true
or_true true = refl
or_true false = refl

same_both : (t : Bool) (v : ℕ) → cond t v v ≡ v
same_both true v = refl
same_both false v = refl

either : (q v : ℕ) (t : Bool) → eqb q v ≡ t → cond t q v ≡ v
either q v true e = eqb-true q v e
either q v false e = refl

-- two of three readings say v
pub record ValueSays (a b c v : ℕ) : Type 0 where
  pub agree : two_agree a b c ≡ true
  pub what : majority_of_three a b c ≡ v

pub says_bc : {x b c v : ℕ} → b ≡ v → c ≡ v → ValueSays x b c v
says_bc {x} {b} {c} {v} e f =
    rw (e, f) (record { agree = rw (eq-eqb v v refl) (or_true (eqb x v || eqb x v)); what = rw (eq-eqb v v refl) })

pub says_ac : {x a c v : ℕ} → a ≡ v → c ≡ v → ValueSays a x c v
says_ac {x} {a} {c} {v} e f =
    rw (e, f)
    (record { agree = rw (eq-eqb v v refl) (ap (λ (t : Bool). t || eqb x v) (or_true (eqb v x))); what = either x v (eqb x v) refl })

pub says_ab : {x a b v : ℕ} → a ≡ v → b ≡ v → ValueSays a b x v
says_ab {x} {a} {b} {v} e f = rw (e, f) (record { agree = rw (eq-eqb v v refl); what = same_both (eqb v x) v })

-- three of four readings say a
pub record AddressSays (p q r s a : ℕ) : Type 0 where
  pub agree : three_agree p q r s ≡ true
  pub what : majority_of_four p q r s ≡ a

pub says_qrs : {x q r s a : ℕ} → q ≡ a → r ≡ a → s ≡ a → AddressSays x q r s a
says_qrs {x} {q} {r} {s} {a} e f g =
    rw (e, f, g)
    (record {
      agree = rw (eq-eqb a a refl) (or_true (((eqb x a && eqb x a) || (eqb x a && eqb x a)) || (eqb x a && eqb x a)));
      what = rw (eq-eqb a a refl);
    })

pub says_prs : {x p r s a : ℕ} → p ≡ a → r ≡ a → s ≡ a → AddressSays p x r s a
says_prs {x} {p} {r} {s} {a} e f g =
    rw (e, f, g)
    (record {
      agree = rw (eq-eqb a a refl) (ap (λ (t : Bool). t || (eqb x a && eqb x a)) (or_true ((eqb a x && true) || (eqb a x && true))));
      what = both (eqb x a) refl;
    })
  where
    both : (t : Bool) → eqb x a ≡ t → cond (eqb x a && eqb x a) x a ≡ a
    both true h = rw h (eqb-true x a h)
    both false h = rw h

pub says_pqs : {x p q s a : ℕ} → p ≡ a → q ≡ a → s ≡ a → AddressSays p q x s a
says_pqs {x} {p} {q} {s} {a} e f g =
    rw (e, f, g)
    (record {
      agree = rw (eq-eqb a a refl) (ap (λ (t : Bool). (t || (eqb a x && true)) || (eqb a x && true)) (or_true (eqb a x)));
      what = same_both (eqb a x && eqb a a) a;
    })

pub says_pqr : {x p q r a : ℕ} → p ≡ a → q ≡ a → r ≡ a → AddressSays p q r x a
says_pqr {x} {p} {q} {r} {a} e f g =
    rw (e, f, g) (record { agree = rw (eq-eqb a a refl); what = same_both (eqb a a && eqb a x) a })

pub ruled : {a b c p q r s v x : ℕ} → ValueSays a b c v → AddressSays p q r s x → majority_rule a b c p q r s ≡ Some (v, x)
unfolding majority_rule
ruled t u = rw (t.agree, u.agree, t.what, u.what)

-- counted: at least two of three, three of four
of_three : (a b c v : ℕ) → 2 ≤ count_of v (a ∷ b ∷ c ∷ []) → ValueSays a b c v
unfolding count_of
of_three a b c v h = go (eqb a v) refl (eqb b v) refl (eqb c v) refl
  where
    go : (t : Bool) → eqb a v ≡ t → (u : Bool) → eqb b v ≡ u → (w : Bool) → eqb c v ≡ w → ValueSays a b c v
    go true e true f w g = says_ab (eqb-true a v e) (eqb-true b v f)
    go true e false f true g = says_ac (eqb-true a v e) (eqb-true c v g)
    go false e true f true g = says_bc (eqb-true b v f) (eqb-true c v g)
    go true e false f false g = absurd (omega (arith, rw (e, f, g) at h))
    go false e true f false g = absurd (omega (arith, rw (e, f, g) at h))
    go false e false f true g = absurd (omega (arith, rw (e, f, g) at h))
    go false e false f false g = absurd (omega (arith, rw (e, f, g) at h))

of_four : (p q r s a : ℕ) → 3 ≤ count_of a (p ∷ q ∷ r ∷ s ∷ []) → AddressSays p q r s a
unfolding count_of
of_four p q r s a h = go (eqb p a) refl (eqb q a) refl (eqb r a) refl (eqb s a) refl
  where
    go : (t : Bool) → eqb p a ≡ t → (u : Bool) → eqb q a ≡ u → (w : Bool) → eqb r a ≡ w → (z : Bool) → eqb s a ≡ z → AddressSays p q r s a
    go true e true f true g z k = says_pqr (eqb-true p a e) (eqb-true q a f) (eqb-true r a g)
    go true e true f false g true k = says_pqs (eqb-true p a e) (eqb-true q a f) (eqb-true s a k)
    go true e false f true g true k = says_prs (eqb-true p a e) (eqb-true r a g) (eqb-true s a k)
    go false e true f true g true k = says_qrs (eqb-true q a f) (eqb-true r a g) (eqb-true s a k)
    go true e true f false g false k = absurd (omega (arith, rw (e, f, g, k) at h))
    go true e false f true g false k = absurd (omega (arith, rw (e, f, g, k) at h))
    go true e false f false g true k = absurd (omega (arith, rw (e, f, g, k) at h))
    go true e false f false g false k = absurd (omega (arith, rw (e, f, g, k) at h))
    go false e true f true g false k = absurd (omega (arith, rw (e, f, g, k) at h))
    go false e true f false g true k = absurd (omega (arith, rw (e, f, g, k) at h))
    go false e true f false g false k = absurd (omega (arith, rw (e, f, g, k) at h))
    go false e false f true g true k = absurd (omega (arith, rw (e, f, g, k) at h))
    go false e false f true g false k = absurd (omega (arith, rw (e, f, g, k) at h))
    go false e false f false g true k = absurd (omega (arith, rw (e, f, g, k) at h))
    go false e false f false g false k = absurd (omega (arith, rw (e, f, g, k) at h))

pub by_majority : ByMajority
unfolding mended_of
by_majority block v a h k = ruled (of_three _ _ _ v h) (of_four _ _ _ _ a k)

never : false ≡ true → ⊥
never z = let q : ◌≡◌ {A = ℕ} 0 1 = cc in omega arith

none : {v x : ℕ} → ◌≡◌ {A = Option (ℕ × ℕ)} None (Some (v, x)) → ⊥
none z = let q : ◌≡◌ {A = ℕ} 0 1 = cc in omega arith

-- the other way round
three_of : (a b c : ℕ) → two_agree a b c ≡ true → 2 ≤ count_of (majority_of_three a b c) (a ∷ b ∷ c ∷ [])
unfolding count_of
three_of a b c h = go (eqb b c) refl (eqb a b) refl (eqb a c) refl
  where
    go : (t : Bool) → eqb b c ≡ t → (u : Bool) → eqb a b ≡ u → (w : Bool) → eqb a c ≡ w → 2 ≤ count_of (majority_of_three a b c) (a ∷ b ∷ c ∷ [])
    go true e u f w g = rw (e, ← (eqb-true b c e), eq-eqb b b refl) (omega arith)
    go false e true f w g = rw (e, ← (eqb-true a b f), eq-eqb a a refl) (omega arith)
    go false e false f true g = rw (e, ← (eqb-true a c g), eq-eqb a a refl) (omega arith)
    go false e false f false g = let z : false ≡ true = rw (e, f, g) at h in absurd (never z)

-- three of four, with and without the first
first_of : (p q r s : ℕ) → (((eqb p q && eqb p r) || (eqb p q && eqb p s)) || (eqb p r && eqb p s)) ≡ true → 3 ≤ count_of p (p ∷ q ∷ r ∷ s ∷ [])
unfolding count_of
first_of p q r s h = go (eqb p q) refl (eqb p r) refl (eqb p s) refl
  where
    go : (t : Bool) → eqb p q ≡ t → (u : Bool) → eqb p r ≡ u → (w : Bool) → eqb p s ≡ w → 3 ≤ count_of p (p ∷ q ∷ r ∷ s ∷ [])
    go true e true f w g = rw (← (eqb-true p q e), ← (eqb-true p r f), eq-eqb p p refl) (omega arith)
    go true e false f true g = rw (← (eqb-true p q e), ← (eqb-true p s g), eq-eqb p p refl) (omega arith)
    go false e true f true g = rw (← (eqb-true p r f), ← (eqb-true p s g), eq-eqb p p refl) (omega arith)
    go true e false f false g = absurd (never (rw (e, f, g) at h))
    go false e true f false g = absurd (never (rw (e, f, g) at h))
    go false e false f w g = absurd (never (rw (e, f) at h))

last_of : (p q r s : ℕ) → q ≡ r → q ≡ s → 3 ≤ count_of q (p ∷ q ∷ r ∷ s ∷ [])
unfolding count_of
last_of p q r s e f = rw (← e, ← f, eq-eqb q q refl) (omega arith)

or_false : (x : Bool) → (x || false) ≡ true → x ≡ true
or_false true e = refl
or_false false e = e

four_of_lem : (p q r s : ℕ) → three_agree p q r s ≡ true → 3 ≤ count_of (majority_of_four p q r s) (p ∷ q ∷ r ∷ s ∷ [])
four_of_lem p q r s h = go (eqb q r) refl (eqb q s) refl
  where
    go : (t : Bool) → eqb q r ≡ t → (u : Bool) → eqb q s ≡ u → 3 ≤ count_of (majority_of_four p q r s) (p ∷ q ∷ r ∷ s ∷ [])
    go true e true f = rw (e, f) (last_of p q r s (eqb-true q r e) (eqb-true q s f))
    go true e false f = rw (e, f) (first_of p q r s (or_false _ (rw (e, f) at h)))
    go false e u f = rw e (first_of p q r s (or_false _ (rw e at h)))

-- what a ruling says of its readings
unruled : {a b c p q r s v x : ℕ} → majority_rule a b c p q r s ≡ Some (v, x) → (ValueSays a b c v) × (AddressSays p q r s x)
unfolding majority_rule
unruled {a} {b} {c} {p} {q} {r} {s} {v} {x} h = go (two_agree a b c) refl (three_agree p q r s) refl
  where
    go : (t : Bool) → two_agree a b c ≡ t → (u : Bool) → three_agree p q r s ≡ u → (ValueSays a b c v) × (AddressSays p q r s x)
    go true e true f =
        let k : Some (majority_of_three a b c, majority_of_four p q r s) ≡ Some (v, x) = rw (e, f) at h in
        let both : (majority_of_three a b c, majority_of_four p q r s) ≡ (v, x) = cc in
        (record { agree = e; what = ap (λ (m : ℕ × ℕ). m.0) both }, record { agree = f; what = ap (λ (m : ℕ × ℕ). m.1) both })
    go true e false f = let k : ◌≡◌ {A = Option (ℕ × ℕ)} None (Some (v, x)) = rw (e, f) at h in absurd (none k)
    go false e u f = let k : ◌≡◌ {A = Option (ℕ × ℕ)} None (Some (v, x)) = rw e at h in absurd (none k)

pub only_by_majority : OnlyByMajority
unfolding mended_of
only_by_majority block v a h =
    let u = unruled h in (
      rw u.0.what at (three_of (first_value block) (second_value block) (third_value block) u.0.agree),
      rw u.1.what at (four_of_lem (first_address block) (second_address block) (third_address block) (fourth_address block) u.1.agree),
    )

pick_small : (t : Bool) (x y n : ℕ) → x < n → y < n → cond t x y < n
pick_small true x y n h k = h
pick_small false x y n h k = k

-- a majority of bytes' readings fits: the value has 32 bits, the address eight
pub mended_small : (block : List ℕ) (v a : ℕ) → Bytes block → mended_of block ≡ Some (v, a) → (v < 4294967296) × (a < 256)
unfolding mended_of
mended_small block v a byte h =
    let u = unruled h in
    let first : first_value block < 4294967296 = omega (arith, byte 0, byte 1, byte 2, byte 3) in
    let second : second_value block < 4294967296 = omega arith in
    let inverse : second_address block < 256 = omega arith in
    let value = pick_small (eqb (second_value block) (third_value block)) (second_value block) (first_value block) 4294967296 second first in
    let address =
    pick_small (eqb (second_address block) (third_address block) && eqb (second_address block) (fourth_address block)) (second_address block) (first_address block) 256
    inverse (byte 12) in
    (rw u.0.what at value, rw u.1.what at address)

pub zeros_tie : ZerosTie
unfolding mended_of majority_rule
zeros_tie = (refl, refl)

pub not_byte_by_byte : NotByteByByte
unfolding mended_of majority_rule
not_byte_by_byte = refl

-- the readings of a value block
second_word : (a b c d : ℕ) → a < 256 → b < 256 → c < 256 → d < 256 → 4294967295 - word_of (255 - a) (255 - b) (255 - c) (255 - d) ≡ word_of a b c d
second_word a b c d ha hb hc hd = omega arith

second_back : (v : ℕ) → v < 4294967296
    → 4294967295 - word_of (255 - v % 256) (255 - v / 256 % 256) (255 - v / 65536 % 256) (255 - v / 16777216 % 256) ≡ v
second_back v h =
    second_word (v % 256) (v / 256 % 256) (v / 65536 % 256) (v / 16777216 % 256) (omega arith) (omega arith) (omega arith) (omega arith)
    ∙ four_back v h

module _ (v a : ℕ) (hv : v < 4294967296) (ha : a < 256) where
  plain : word_of (v % 256) (v / 256 % 256) (v / 65536 % 256) (v / 16777216 % 256) ≡ v
  plain = four_back v hv

  inverse : 4294967295 - word_of (255 - v % 256) (255 - v / 256 % 256) (255 - v / 65536 % 256) (255 - v / 16777216 % 256) ≡ v
  inverse = second_back v hv

  address : 255 - (255 - a) ≡ a
  address = omega arith

  -- a value block is mended to itself
  pub whole : mended_of (encode_of (signed v) a) ≡ Some (v, a)
  unfolding mended_of encode_of
  whole = rw (bits_signed v hv) (ruled (says_ab plain inverse) (says_pqr refl address refl))

  -- and so with one byte torn
  pub torn : (i w : ℕ) → i < 16 → mended_of (set (encode_of (signed v) a) i w) ≡ Some (v, a)
  unfolding mended_of encode_of
  torn zero w h = rw (bits_signed v hv) (ruled (says_bc inverse plain) (says_pqr refl address refl))
  torn (suc zero) w h = rw (bits_signed v hv) (ruled (says_bc inverse plain) (says_pqr refl address refl))
  torn (suc (suc zero)) w h = rw (bits_signed v hv) (ruled (says_bc inverse plain) (says_pqr refl address refl))
  torn (suc (suc (suc zero))) w h = rw (bits_signed v hv) (ruled (says_bc inverse plain) (says_pqr refl address refl))
  torn (suc (suc (suc (suc zero)))) w h = rw (bits_signed v hv) (ruled (says_ac plain plain) (says_pqr refl address refl))
  torn (suc (suc (suc (suc (suc zero))))) w h = rw (bits_signed v hv) (ruled (says_ac plain plain) (says_pqr refl address refl))
  torn (suc (suc (suc (suc (suc (suc zero)))))) w h = rw (bits_signed v hv) (ruled (says_ac plain plain) (says_pqr refl address refl))
  torn (suc (suc (suc (suc (suc (suc (suc zero))))))) w h = rw (bits_signed v hv) (ruled (says_ac plain plain) (says_pqr refl address refl))
  torn (suc (suc (suc (suc (suc (suc (suc (suc zero)))))))) w h = rw (bits_signed v hv) (ruled (says_ab plain inverse) (says_pqr refl address refl))
  torn (suc (suc (suc (suc (suc (suc (suc (suc (suc zero))))))))) w h = rw (bits_signed v hv) (ruled (says_ab plain inverse) (says_pqr refl address refl))
  torn (suc (suc (suc (suc (suc (suc (suc (suc (suc (suc zero)))))))))) w h = rw (bits_signed v hv) (ruled (says_ab plain inverse) (says_pqr refl address refl))
  torn (suc (suc (suc (suc (suc (suc (suc (suc (suc (suc (suc zero))))))))))) w h = rw (bits_signed v hv) (ruled (says_ab plain inverse) (says_pqr refl address refl))
  torn (suc (suc (suc (suc (suc (suc (suc (suc (suc (suc (suc (suc zero)))))))))))) w h = rw (bits_signed v hv) (ruled (says_ab plain inverse) (says_qrs address refl address))
  torn (suc (suc (suc (suc (suc (suc (suc (suc (suc (suc (suc (suc (suc zero))))))))))))) w h = rw (bits_signed v hv) (ruled (says_ab plain inverse) (says_prs refl refl address))
  torn (suc (suc (suc (suc (suc (suc (suc (suc (suc (suc (suc (suc (suc (suc zero)))))))))))))) w h = rw (bits_signed v hv) (ruled (says_ab plain inverse) (says_pqs refl address address))
  torn (suc (suc (suc (suc (suc (suc (suc (suc (suc (suc (suc (suc (suc (suc (suc zero))))))))))))))) w h = rw (bits_signed v hv) (ruled (says_ab plain inverse) (says_pqr refl address refl))
  torn (suc (suc (suc (suc (suc (suc (suc (suc (suc (suc (suc (suc (suc (suc (suc (suc n)))))))))))))))) w h = absurd (omega arith)
