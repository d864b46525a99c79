-- The register is linear in what it is fed, so the quick ways of the code need to be right for single bits alone.
-- Assumes nothing.
use mathlib.Core.Path.{◌≡◌, refl, sym, ◌∙◌, ap, ap₂}
use mathlib.Core.List.{List, [], ◌∷◌}
use Prim.Native.Nat.{ℕ, zero, suc, ◌+◌, ◌*◌, ◌/◌, ◌%◌, ◌^◌, ◌<◌}
use native.Mathlib.Omega.{arith}
use lib.Bits.{bit_xor, xor_zero_l, xor_zero_r}
use lib.ListN.{length, get_or}
use Rattle.std.specs.Int.{w64, from_be_bytes}
use Rattle.xor.proofs.Xor.{xor_swap, xor_times}
use Rattle.directory.specs.Checksum.{shifted, shifts, byte_on, bytes_on}
use Rattle.directory.specs.Code.{feed, standing, low_bits_of}
use Rattle.directory.proofs.Linear.{Linear, whole, both, down, cut, up, agree}

high_bit : Linear (λ (x : ℕ). x / 128 % 2)
high_bit = cut 1 (λ (x : ℕ). x / 128) (down 7 (λ (x : ℕ). x) whole)

fallen : Linear (λ (x : ℕ). x / 128 % 2 * 0x1D)
fallen a b = ap (λ (x : ℕ). x * 0x1D) (high_bit a b) ∙ xor_times 0x1D (a / 128 % 2) (b / 128 % 2) (omega arith) (omega arith)

shifted_linear : Linear shifted
unfolding shifted
shifted_linear = both (λ (x : ℕ). x * 2 % 256) (λ (x : ℕ). x / 128 % 2 * 0x1D) (up 8 1 (λ (x : ℕ). x) whole) fallen

pub shifts_linear : (n : ℕ) → Linear (shifts n)
unfolding shifts
shifts_linear zero a b = refl
shifts_linear (suc n) a b = ap (shifts n) (shifted_linear a b) ∙ shifts_linear n (shifted a) (shifted b)

after : (n : ℕ) (f : ℕ → ℕ) → Linear f → Linear (λ (x : ℕ). shifts n (f x))
after n f p a b = ap (shifts n) (p a b) ∙ shifts_linear n (f a) (f b)

-- a number and what of it stands from a bit on, and its multiple by a power of two
part : (k : ℕ) → Linear (λ (x : ℕ). x / 2 ^ k)
part k = down k (λ (x : ℕ). x) whole

times : (n k : ℕ) → Linear (λ (x : ℕ). x * 2 ^ k % 2 ^ n)
times n k = up n k (λ (x : ℕ). x) whole

then : (f g : ℕ → ℕ) → Linear f → Linear g → Linear (λ (x : ℕ). f (g x))
then f g p q a b = ap f (q a b) ∙ p (g a) (g b)

-- the code's eight steps of a byte: what goes past its end is put in lower down, then all is multiplied
abbrev wrapped : ℕ → ℕ
wrapped t = bit_xor (bit_xor (bit_xor t (t / 2 ^ 4)) (t / 2 ^ 5)) (t / 2 ^ 6)

abbrev multiplied : ℕ → ℕ
multiplied u = bit_xor (bit_xor (bit_xor u (u * 2 ^ 2 % 2 ^ 8)) (u * 2 ^ 3 % 2 ^ 8)) (u * 2 ^ 4 % 2 ^ 8)

wrapped_linear : Linear wrapped
wrapped_linear =
    both (λ (t : ℕ). bit_xor (bit_xor t (t / 2 ^ 4)) (t / 2 ^ 5)) (λ (t : ℕ). t / 2 ^ 6)
    (both (λ (t : ℕ). bit_xor t (t / 2 ^ 4)) (λ (t : ℕ). t / 2 ^ 5)
    (both (λ (t : ℕ). t) (λ (t : ℕ). t / 2 ^ 4) whole (part 4)) (part 5)) (part 6)

multiplied_linear : Linear multiplied
multiplied_linear =
    both (λ (u : ℕ). bit_xor (bit_xor u (u * 2 ^ 2 % 2 ^ 8)) (u * 2 ^ 3 % 2 ^ 8)) (λ (u : ℕ). u * 2 ^ 4 % 2 ^ 8)
    (both (λ (u : ℕ). bit_xor u (u * 2 ^ 2 % 2 ^ 8)) (λ (u : ℕ). u * 2 ^ 3 % 2 ^ 8)
    (both (λ (u : ℕ). u) (λ (u : ℕ). u * 2 ^ 2 % 2 ^ 8) whole (times 8 2)) (times 8 3)) (times 8 4)

abbrev pub stepped : ℕ → ℕ
stepped t = multiplied (wrapped t)

pub eight_steps : (t : ℕ) → t < 256 → stepped t ≡ shifts 8 t
unfolding shifts shifted
eight_steps = agree stepped (shifts 8) (then multiplied wrapped multiplied_linear wrapped_linear) (shifts_linear 8) 8 refl

-- feeding is linear in the register and the number together
byte_linear : (c d v w : ℕ) → byte_on (bit_xor c d) (bit_xor v w) ≡ bit_xor (byte_on c v) (byte_on d w)
unfolding byte_on
byte_linear c d v w = ap (shifts 8) (xor_swap c d v w) ∙ shifts_linear 8 (bit_xor c v) (bit_xor d w)

feed_linear : (n c d v w : ℕ) → feed n (bit_xor c d) (bit_xor v w) ≡ bit_xor (feed n c v) (feed n d w)
unfolding feed
feed_linear zero c d v w = refl
feed_linear (suc n) c d v w =
    ap₂ (λ (x y : ℕ). byte_on (feed n (bit_xor c d) x) y) (part 8 v w) (cut 8 (λ (x : ℕ). x) whole v w)
    ∙ ap (λ (x : ℕ). byte_on x (bit_xor (v % 256) (w % 256))) (feed_linear n c d (v / 256) (w / 256))
    ∙ byte_linear (feed n c (v / 256)) (feed n d (w / 256)) (v % 256) (w % 256)

standing_linear : Linear standing
standing_linear = feed_linear 8 0 0

on : Linear (λ (c : ℕ). feed 8 c 0)
on a b = feed_linear 8 a b 0 0

-- the code's fold: a word brought up by eight bytes
abbrev raised : ℕ → ℕ
raised s = bit_xor (bit_xor s (s / 2 ^ 48)) (s / 2 ^ 50)

abbrev brought : ℕ → ℕ
brought u = bit_xor (u * 2 ^ 16 % 2 ^ 64) (u * 2 ^ 14 % 2 ^ 64)

abbrev pub folded : ℕ → ℕ
folded s = brought (raised s)

folded_linear : Linear folded
folded_linear =
    then brought raised (both (λ (u : ℕ). u * 2 ^ 16 % 2 ^ 64) (λ (u : ℕ). u * 2 ^ 14 % 2 ^ 64) (times 64 16) (times 64 14))
    (both (λ (s : ℕ). bit_xor s (s / 2 ^ 48)) (λ (s : ℕ). s / 2 ^ 50) (both (λ (s : ℕ). s) (λ (s : ℕ). s / 2 ^ 48) whole (part 48)) (part 50))

folded_right : (s : ℕ) → s < 2 ^ 64 → standing (folded s) ≡ feed 8 (standing s) 0
unfolding feed byte_on shifts shifted
folded_right =
    agree (λ (s : ℕ). standing (folded s)) (λ (s : ℕ). feed 8 (standing s) 0) (then standing folded standing_linear folded_linear)
    (then (λ (c : ℕ). feed 8 c 0) standing on standing_linear) 64 refl

pub fold_right : (s w : ℕ) → s < 2 ^ 64 → standing (bit_xor (folded s) w) ≡ feed 8 (standing s) w
fold_right s w h =
    standing_linear (folded s) w
    ∙ ap (λ (x : ℕ). bit_xor x (standing w)) (folded_right s h)
    ∙ sym (feed_linear 8 (standing s) 0 0 w)
    ∙ ap₂ (feed 8) (xor_zero_r (standing s)) (xor_zero_l w)

-- the code's last word: three times what goes past an end is put in lower down, and the two bytes that are left are fed
abbrev fifty : ℕ → ℕ
fifty s = bit_xor (bit_xor (s % 2 ^ 50) (s / 2 ^ 50)) (s / 2 ^ 50 * 2 ^ 2 % 2 ^ 64)

abbrev twenty_five : ℕ → ℕ
twenty_five a = bit_xor (bit_xor (a % 2 ^ 25) (a / 2 ^ 25)) (a / 2 ^ 25 * 2 ^ 1 % 2 ^ 64)

abbrev sixteen : ℕ → ℕ
sixteen b = bit_xor (bit_xor (bit_xor (b % 2 ^ 16) (b / 2 ^ 16 * 2 ^ 6 % 2 ^ 64)) (b / 2 ^ 16 * 2 ^ 3 % 2 ^ 64)) (b / 2 ^ 16 * 2 ^ 2 % 2 ^ 64)

abbrev last : ℕ → ℕ
last x = shifts 8 (bit_xor (x % 2 ^ 8) (shifts 8 (x / 2 ^ 8 % 2 ^ 8)))

low : (k : ℕ) → Linear (λ (x : ℕ). x % 2 ^ k)
low k = cut k (λ (x : ℕ). x) whole

back : (k j : ℕ) → Linear (λ (x : ℕ). x / 2 ^ k * 2 ^ j % 2 ^ 64)
back k j = up 64 j (λ (x : ℕ). x / 2 ^ k) (part k)

returned : (k j : ℕ) → Linear (λ (x : ℕ). bit_xor (bit_xor (x % 2 ^ k) (x / 2 ^ k)) (x / 2 ^ k * 2 ^ j % 2 ^ 64))
returned k j =
    both (λ (x : ℕ). bit_xor (x % 2 ^ k) (x / 2 ^ k)) (λ (x : ℕ). x / 2 ^ k * 2 ^ j % 2 ^ 64)
    (both (λ (x : ℕ). x % 2 ^ k) (λ (x : ℕ). x / 2 ^ k) (low k) (part k)) (back k j)

sixteen_linear : Linear sixteen
sixteen_linear =
    both (λ (b : ℕ). bit_xor (bit_xor (b % 2 ^ 16) (b / 2 ^ 16 * 2 ^ 6 % 2 ^ 64)) (b / 2 ^ 16 * 2 ^ 3 % 2 ^ 64)) (λ (b : ℕ). b / 2 ^ 16 * 2 ^ 2 % 2 ^ 64)
    (both (λ (b : ℕ). bit_xor (b % 2 ^ 16) (b / 2 ^ 16 * 2 ^ 6 % 2 ^ 64)) (λ (b : ℕ). b / 2 ^ 16 * 2 ^ 3 % 2 ^ 64)
    (both (λ (b : ℕ). b % 2 ^ 16) (λ (b : ℕ). b / 2 ^ 16 * 2 ^ 6 % 2 ^ 64) (low 16) (back 16 6)) (back 16 3)) (back 16 2)

last_linear : Linear last
last_linear =
    after 8 (λ (x : ℕ). bit_xor (x % 2 ^ 8) (shifts 8 (x / 2 ^ 8 % 2 ^ 8)))
    (both (λ (x : ℕ). x % 2 ^ 8) (λ (x : ℕ). shifts 8 (x / 2 ^ 8 % 2 ^ 8)) (low 8)
    (after 8 (λ (x : ℕ). x / 2 ^ 8 % 2 ^ 8) (cut 8 (λ (x : ℕ). x / 2 ^ 8) (part 8))))

low_bits_linear : Linear low_bits_of
low_bits_linear =
    then sixteen (λ (s : ℕ). twenty_five (fifty s)) sixteen_linear (then twenty_five fifty (returned 25 1) (returned 50 2))

pub register_right : (s : ℕ) → s < 2 ^ 64 → last (low_bits_of s) ≡ standing s
unfolding feed byte_on shifts shifted
register_right =
    agree (λ (s : ℕ). last (low_bits_of s)) standing (then last low_bits_of last_linear low_bits_linear) standing_linear 64 refl

-- the bytes of a number, one after the other
fed : (n c h b w : ℕ) → w ≡ h * 256 + b → b < 256 → feed (suc n) c w ≡ byte_on (feed n c h) b
unfolding feed
fed n c h b w e l =
    let d : w / 256 ≡ h = omega arith in
    let m : w % 256 ≡ b = omega arith in
    ap₂ (λ (x y : ℕ). byte_on (feed n c x) y) d m

module _ (a b c d e f g h : ℕ) (ha : a < 256) (hb : b < 256) (hc : c < 256) (hd : d < 256) (he : e < 256) (hf : f < 256) (hg : g < 256) (hh : h < 256) where
  pub word_right : (w : ℕ)
      → w ≡ 4294967296 * (16777216 * a + 65536 * b + 256 * c + d) + (16777216 * e + 65536 * f + 256 * g + h)
      → (x : ℕ) → feed 8 x w ≡ bytes_on x (a ∷ b ∷ c ∷ d ∷ e ∷ f ∷ g ∷ h ∷ [])
  unfolding feed bytes_on
  word_right w q x =
      let ab = a * 256 + b in
      let ac = ab * 256 + c in
      let ad = ac * 256 + d in
      let ae = ad * 256 + e in
      let af = ae * 256 + f in
      let ag = af * 256 + g in
      fed 7 x ag h w (omega arith) hh
      ∙ ap (λ (y : ℕ). byte_on y h)
      (fed 6 x af g ag refl hg
      ∙ ap (λ (y : ℕ). byte_on y g)
      (fed 5 x ae f af refl hf
      ∙ ap (λ (y : ℕ). byte_on y f)
      (fed 4 x ad e ae refl he
      ∙ ap (λ (y : ℕ). byte_on y e)
      (fed 3 x ac d ad refl hd
      ∙ ap (λ (y : ℕ). byte_on y d)
      (fed 2 x ab c ac refl hc
      ∙ ap (λ (y : ℕ). byte_on y c)
      (fed 1 x a b ab refl hb ∙ ap (λ (y : ℕ). byte_on y b) (fed 0 x 0 a a (omega arith) ha)))))))

-- and of the number that eight bytes are, the highest first
pub word_bytes : (l : List ℕ) → length l ≡ 8 → ((i : ℕ) → get_or l i 0 < 256) → (w : ℕ) → w ≡ from_be_bytes w64 l → (x : ℕ) → feed 8 x w ≡ bytes_on x l
word_bytes [] n small w e x = absurd (omega arith)
word_bytes (a ∷ []) n small w e x = absurd (omega arith)
word_bytes (a ∷ b ∷ []) n small w e x = absurd (omega arith)
word_bytes (a ∷ b ∷ c ∷ []) n small w e x = absurd (omega arith)
word_bytes (a ∷ b ∷ c ∷ d ∷ []) n small w e x = absurd (omega arith)
word_bytes (a ∷ b ∷ c ∷ d ∷ f ∷ []) n small w e x = absurd (omega arith)
word_bytes (a ∷ b ∷ c ∷ d ∷ f ∷ g ∷ []) n small w e x = absurd (omega arith)
word_bytes (a ∷ b ∷ c ∷ d ∷ f ∷ g ∷ h ∷ []) n small w e x = absurd (omega arith)
word_bytes (a ∷ b ∷ c ∷ d ∷ f ∷ g ∷ h ∷ i ∷ []) n small w e x =
    word_right a b c d f g h i (small 0) (small 1) (small 2) (small 3) (small 4) (small 5) (small 6) (small 7) w (omega arith) x
word_bytes (a ∷ b ∷ c ∷ d ∷ f ∷ g ∷ h ∷ i ∷ j ∷ l) n small w e x = absurd (omega arith)
