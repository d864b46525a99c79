-- Rights: which keys may do what, by the bits C1 C2 C3. Both tables stand here as they are printed, row by row.
use Rattle.std.specs.Prelude.{ℕ, ◌%◌, Bool, true, false, cond, List, [], ◌∷◌, eqb}
use Rattle.access.specs.declared.rights.Letter.{Letter}
use Rattle.access.specs.declared.rights.Letter.TheVariants.{KeyA, KeyB}
use Rattle.access.specs.declared.rights.Keys.{Keys}
use Rattle.access.specs.declared.rights.Keys.TheVariants.{Never, OnlyA, OnlyB, Either}
use Rattle.access.specs.declared.rights.Readable.{Readable}
use Rattle.access.specs.declared.rights.Readable.TheVariants.{No, Yes}
use Rattle.access.specs.declared.rights.Operation.{Operation}
use Rattle.access.specs.declared.rights.Operation.TheVariants.{Read, Write, Increment, Decrement}
use Rattle.access.specs.declared.rights.DataRow.{DataRow}
use Rattle.access.specs.declared.rights.TrailerRow.{TrailerRow}
use Rattle.access.specs.declared.rights.Parts.{Parts}

-- a printed row: its bits, and what it says
pub record Printed (R : Type 0) : Type 0 where
  pub bits : ℕ
  pub says : R

-- bits, then read, write, increment, and decrement, transfer, restore
abbrev pub row : ℕ → Keys → Keys → Keys → Keys → Printed DataRow
row n r w i d = record { bits = n; says = record { 0 = r; 1 = w; 2 = i; 3 = d } }

unfoldable pub data_table : List (Printed DataRow)
data_table =
    row 0b000 Either Either Either Either
    ∷ row 0b010 Either Never Never Never
    ∷ row 0b100 Either OnlyB Never Never
    ∷ row 0b110 Either OnlyB OnlyB Either
    ∷ row 0b001 Either Never Never Either
    ∷ row 0b011 OnlyB OnlyB Never Never
    ∷ row 0b101 OnlyB Never Never Never
    ∷ row 0b111 Never Never Never Never
    ∷ []

-- bits, then write key A, write bits, write key B, key B readable
abbrev pub trailer : ℕ → Keys → Keys → Keys → Readable → Printed TrailerRow
trailer n a b k y = record { bits = n; says = record { 0 = a; 1 = b; 2 = k; 3 = y } }

unfoldable pub trailer_table : List (Printed TrailerRow)
trailer_table =
    trailer 0b000 OnlyA Never OnlyA Yes
    ∷ trailer 0b010 Never Never Never Yes
    ∷ trailer 0b100 OnlyB Never OnlyB No
    ∷ trailer 0b110 Never Never Never No
    ∷ trailer 0b001 OnlyA OnlyA OnlyA Yes
    ∷ trailer 0b011 OnlyB OnlyB OnlyB No
    ∷ trailer 0b101 Never OnlyB Never No
    ∷ trailer 0b111 Never Never Never No
    ∷ []

-- what the row beside the bits n says; `none` where no row has them (each number below 8 has one)
abbrev pub look_up : {R : Type 0} → R → ℕ → List (Printed R) → R
look_up none n [] = none
look_up none n (r ∷ rs) = cond (eqb r.bits n) r.says (look_up none n rs)

abbrev pub no_data : DataRow
no_data = record { 0 = Never; 1 = Never; 2 = Never; 3 = Never }

abbrev pub no_trailer : TrailerRow
no_trailer = record { 0 = Never; 1 = Never; 2 = Never; 3 = No }

-- the row of three bits, here the last three of any number
unfoldable pub data_row : ℕ → DataRow
data_row n = look_up no_data (n % 8) data_table

unfoldable pub trailer_row : ℕ → TrailerRow
trailer_row n = look_up no_trailer (n % 8) trailer_table

-- a key is among those that a row names
unfoldable pub allows_of : Keys → Letter → Bool
allows_of Never l = false
allows_of OnlyA KeyA = true
allows_of OnlyA KeyB = false
allows_of OnlyB KeyA = false
allows_of OnlyB KeyB = true
allows_of Either l = true

-- the column of an operation; Transfer and Restore go by that of Decrement
unfoldable pub keys_for : DataRow → Operation → Keys
keys_for r Read = r.0
keys_for r Write = r.1
keys_for r Increment = r.2
keys_for r Decrement = r.3

-- a key may do an operation on a data block whose group has the bits n
unfoldable pub may_of : Letter → Operation → ℕ → Bool
may_of l o n = allows_of (keys_for (data_row n) o) l

-- the parts of a trailer with the bits n that a key may write
unfoldable pub writable_of : Letter → ℕ → Parts
writable_of l n =
    record { a = allows_of (trailer_row n).0 l; bits = allows_of (trailer_row n).1 l; b = allows_of (trailer_row n).2 l }

abbrev pub is_yes : Readable → Bool
is_yes No = false
is_yes Yes = true

-- key B can be read from a trailer with the bits n
unfoldable pub readable_of : ℕ → Bool
readable_of n = is_yes (trailer_row n).3

-- no memory command is allowed under key B while the trailer's bits n let key B be read
unfoldable pub mute_of : Letter → ℕ → Bool
mute_of KeyA n = false
mute_of KeyB n = readable_of n
