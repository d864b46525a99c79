-- Texts put one after the other.
-- Assumes nothing.
use mathlib.Core.Path.{◌≡◌, refl, sym, ◌∙◌, ap}
use mathlib.Core.Bool.{Bool, true, false, cond}
use mathlib.Core.List.{List, [], ◌∷◌, ◌++◌, append_assoc}
use Prim.Native.Nat.{ℕ, ◌+◌, ◌-◌, ◌/◌, ◌%◌, ◌<◌, ◌≤◌}
use borrow.Rule.Slice.PartMut.{put_mid, Post-is}
use native.Mathlib.Omega.{arith}
use native.Mathlib.Nat.{add-zero}
use native.Mathlib.Numerals.{add-one}
use lib.Dec.{ltb}
use lib.ListN.{length, take, drop, get_or, length-append, length-drop, take-append-drop}
use lib.Seq.{take_at, length-take-le, drop-append-add, drop-drop, take-suc}
use Rattle.play.specs.Text.{put_of, Put, digit, decimal_of, hex_digit, hex_of}
use Rattle.play.specs.Puts.{Puts}
use Rattle.play.specs.declared.text.Printer.{Printer}

module _ (out : List ℕ) (at : ℕ) where
  pub put_length : (text : List ℕ) → at + length text ≤ length out → length (put_of out at text) ≡ length out
  unfolding put_of
  put_length text h = simp (length-append, length-take-le at out (omega arith), length-drop) (omega arith)

  pub put_nothing : put_of out at [] ≡ out
  unfolding put_of
  put_nothing = ap (λ (n : ℕ). take at out ++ drop n out) (add-zero at) ∙ take-append-drop at out

  pub put_part : (text part : List ℕ) → part ≡ text → put_mid at (at + length text - at) out part ≡ put_of out at text
  unfolding put_of
  put_part text part e = rw (e, Post-is at (at + length text) out (omega arith))

  pub put_put : (a b : List ℕ) → at + length a + length b ≤ length out → put_of (put_of out at a) (at + length a) b ≡ put_of out at (a ++ b)
  unfolding put_of
  put_put a b h =
      let head = take at out in
      let rest = drop (at + length a) out in
      let lh : length head ≡ at = length-take-le at out (omega arith) in
      let la : length (head ++ a) ≡ at + length a = simp (length-append, lh) in
      let whole : head ++ (a ++ rest) ≡ (head ++ a) ++ rest = sym (append_assoc head a rest) in
      let front : take (at + length a) (head ++ (a ++ rest)) ≡ head ++ a = ap (take (at + length a)) whole ∙ take_at (head ++ a) rest (at + length a) la in
      let n : at + length a + length b ≡ length (head ++ a) + length b = omega arith in
      let back : drop (at + length a + length b) (head ++ (a ++ rest)) ≡ drop (at + length a + length b) out =
      ap (drop (at + length a + length b)) whole ∙ ap (λ (m : ℕ). drop m ((head ++ a) ++ rest)) n
      ∙ drop-append-add (head ++ a) rest (length b) ∙ drop-drop (length b) (at + length a) out in
      let l : at + length (a ++ b) ≡ at + length a + length b = simp length-append (omega arith) in
      rw (front, back, l) (simp append_assoc)

-- a text that fits is put
pub put_text : {out last : List ℕ} {at next : ℕ} (text : List ℕ) → at + length text ≤ length out → last ≡ put_of out at text → next ≡ at + length text → Put out at text last next
put_text {out} {last} {at} {next} text h e n = record { here = e; moved = n; fits = omega arith; same_length = rw e (put_length out at text h) }

pub nothing : (out : List ℕ) (at : ℕ) → at ≤ length out → Put out at [] out at
nothing out at h = record { here = sym (put_nothing out at); moved = omega arith; fits = h; same_length = refl }

-- one text after the other
pub then : {out : List ℕ} {at : ℕ} {a b mid last : List ℕ} {place next : ℕ} → Put out at a mid place → Put mid place b last next → Put out at (a ++ b) last next
then {out} {at} {a} {b} {mid} {last} {place} {next} p q =
    let m : place ≡ at + length a = p.moved in
    let l : length mid ≡ length out = p.same_length in
    let n : next ≡ place + length b = q.moved in
    let h : at + length a + length b ≤ length out = omega (arith, q.fits) in
    record {
      here = q.here ∙ rw (p.here, p.moved) (put_put out at a b h);
      moved = simp length-append (omega arith);
      fits = omega (arith, q.fits);
      same_length = q.same_length ∙ p.same_length;
    }

-- the same of a printer
pub puts_nothing : (p : Printer) → p.at ≤ length p.out.now → Puts p [] p
puts_nothing p h = record { put = nothing p.out.now p.at h; same_buffer = refl }

pub puts_then : {p q r : Printer} {a b : List ℕ} → Puts p a q → Puts q b r → Puts p (a ++ b) r
puts_then x y = record { put = then x.put y.put; same_buffer = y.same_buffer ∙ x.same_buffer }

pub hex_length : (bs : List ℕ) → length (hex_of bs) ≡ length bs + length bs
unfolding hex_of
hex_length [] = refl
hex_length (b ∷ bs) = omega (arith, hex_length bs)

hex_snoc : (bs : List ℕ) (b : ℕ) → hex_of (bs ++ (b ∷ [])) ≡ hex_of bs ++ (hex_digit (b / 16) ∷ hex_digit (b % 16) ∷ [])
unfolding hex_of
hex_snoc [] b = refl
hex_snoc (x ∷ bs) b = ap (λ (l : List ℕ). hex_digit (x / 16) ∷ hex_digit (x % 16) ∷ l) (hex_snoc bs b)

-- two digits more
pub hex_more : (bytes : List ℕ) (i : ℕ) → i < length bytes → hex_of (take i bytes) ++ (hex_digit (get_or bytes i 0 / 16) ∷ hex_digit (get_or bytes i 0 % 16) ∷ []) ≡ hex_of (take (i + 1) bytes)
hex_more bytes i h = sym (rw (add-one, take-suc bytes i 0 h) (hex_snoc (take i bytes) (get_or bytes i 0)))

-- a decimal number has one to four digits
pub decimal_length : (n : ℕ) → length (decimal_of n) ≤ 4
unfolding decimal_of
decimal_length n = go (ltb n 10) (ltb n 100) (ltb n 1000)
  where
    go : (t u v : Bool) → length (cond t (digit n ∷ []) (cond u (digit (n / 10) ∷ digit n ∷ []) (cond v (digit (n / 100) ∷ digit (n / 10) ∷ digit n ∷ []) (digit (n / 1000) ∷ digit (n / 100) ∷ digit (n / 10) ∷ digit n ∷ [])))) ≤ 4
    go true u v = omega arith
    go false true v = omega arith
    go false false true = omega arith
    go false false false = omega arith
