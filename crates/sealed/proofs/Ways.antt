-- The ways out of the code, in the words of its tests.
-- Assumes nothing.
use mathlib.Core.Path.{◌≡◌, refl, sym, ◌∙◌}
use mathlib.Core.Bool.{Bool, true, false, not, false≢true}
use mathlib.Core.List.{List, [], ◌∷◌, ◌++◌}
use Prim.Native.Nat.{ℕ, ◌<◌, ◌≤◌}
use lib.Dec.{ltb}
use lib.ListN.{length, get_or, set, replicate}
use borrow.Author.Tests.{lt-ltb, ltb-false}
use Rattle.value.proofs.Words.{listed}
use Rattle.card.specs.declared.Sign.{Sign}
use Rattle.card.specs.declared.Sign.TheVariants.{Ack, Nak, Data, Nothing}
use Rattle.checksum.specs.Checksum.{crc_of, two_of}
use Rattle.sealed.specs.Sealed.{unsealed, sealed_reply}

-- a frame that is too short does not pass
pub short : (frame : List ℕ) → length frame < 3 → unsealed frame ≡ true
unfolding unsealed
short frame h = rw (lt-ltb (length frame) 3 h)

-- so what passes has at least three bytes
pub long : (frame : List ℕ) (t : Bool) → t ≡ not (unsealed frame) → t ≡ true → 3 ≤ length frame
unfolding unsealed
long frame t e h = go (ltb (length frame) 3) refl
  where
    go : (u : Bool) → ltb (length frame) 3 ≡ u → 3 ≤ length frame
    go false f = ltb-false (length frame) 3 f
    go true f = absurd (false≢true (sym (e ∙ rw f) ∙ h))

-- sixteen bytes with room for two, and the two set
pub put_two : (reply two : List ℕ) → length reply ≡ 16 → two ≡ two_of (crc_of reply)
    → set (set (reply ++ (0 ∷ 0 ∷ [])) 16 (get_or two 0 0)) 17 (get_or two 1 0) ≡ reply ++ two_of (crc_of reply)
unfolding two_of
put_two reply two l f = rw (f, listed 16 reply l)

-- what is no data has no bytes
pub no_data_lem : (sign : Sign) (reply : List ℕ) → (sign ≡ Data → ⊥) → replicate 18 0 ≡ sealed_reply sign reply
unfolding sealed_reply
no_data_lem Ack reply k = refl
no_data_lem Nak reply k = refl
no_data_lem Data reply k = absurd (k refl)
no_data_lem Nothing reply k = refl
