-- The numbers of refusals: none is 0, and each names its refusal.
-- Assumes nothing.
use mathlib.Core.Path.{◌≡◌, refl, sym, ◌∙◌, ap}
use mathlib.Core.Bool.{false, cond}
use Prim.Native.Nat.{ℕ}
use lib.Dec.{eqb}
use Rattle.judge.specs.Code.{refusal_number}
use Rattle.judge.specs.declared.Refusal.{Refusal}
use Rattle.judge.specs.declared.Refusal.TheVariants as refusal

pub number_not_0 : (r : Refusal) → eqb (refusal_number r) 0 ≡ false
number_not_0 refusal.Unknown = refl
number_not_0 refusal.NoBlock = refl
number_not_0 refusal.OtherSector = refl
number_not_0 refusal.WrongKey = refl
number_not_0 refusal.Blocked = refl
number_not_0 refusal.Forbidden = refl
number_not_0 refusal.NoRight = refl
number_not_0 refusal.NoValue = refl
number_not_0 refusal.EmptyRegister = refl
number_not_0 refusal.OutOfRange = refl
number_not_0 refusal.NoCard = refl
number_not_0 refusal.Incoherent = refl
number_not_0 refusal.NegativeOperand = refl
number_not_0 refusal.WrongChecksum = refl
number_not_0 refusal.UnknownType = refl
number_not_0 refusal.AlreadyLocked = refl
number_not_0 refusal.FiguresOutside = refl

named : ℕ → Refusal
named n = cond (eqb n 2) refusal.NoBlock (cond (eqb n 3) refusal.OtherSector (cond (eqb n 4) refusal.WrongKey (cond (eqb n 5) refusal.Blocked (cond (eqb n 6) refusal.Forbidden (cond (eqb n 7) refusal.NoRight (cond (eqb n 8) refusal.NoValue (cond (eqb n 9) refusal.EmptyRegister (cond (eqb n 10) refusal.OutOfRange (cond (eqb n 11) refusal.NoCard (cond (eqb n 12) refusal.Incoherent (cond (eqb n 13) refusal.NegativeOperand (cond (eqb n 14) refusal.WrongChecksum (cond (eqb n 17) refusal.UnknownType (cond (eqb n 18) refusal.AlreadyLocked (cond (eqb n 29) refusal.FiguresOutside (refusal.Unknown))))))))))))))))

named_back : (r : Refusal) → named (refusal_number r) ≡ r
unfolding named
named_back refusal.Unknown = refl
named_back refusal.NoBlock = refl
named_back refusal.OtherSector = refl
named_back refusal.WrongKey = refl
named_back refusal.Blocked = refl
named_back refusal.Forbidden = refl
named_back refusal.NoRight = refl
named_back refusal.NoValue = refl
named_back refusal.EmptyRegister = refl
named_back refusal.OutOfRange = refl
named_back refusal.NoCard = refl
named_back refusal.Incoherent = refl
named_back refusal.NegativeOperand = refl
named_back refusal.WrongChecksum = refl
named_back refusal.UnknownType = refl
named_back refusal.AlreadyLocked = refl
named_back refusal.FiguresOutside = refl

-- one number, one refusal
pub same_refusal : (r r' : Refusal) → refusal_number r ≡ refusal_number r' → r ≡ r'
same_refusal r r' e = sym (named_back r) ∙ ap named e ∙ named_back r'
