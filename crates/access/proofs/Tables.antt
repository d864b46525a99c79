-- The tables as a whole: each printed row is the one that its bits look up.
-- Assumes nothing.
use mathlib.Core.Path.{◌≡◌, refl}
use mathlib.Core.List.{map}
use Rattle.access.specs.declared.rights.DataRow.{DataRow}
use Rattle.access.specs.declared.rights.TrailerRow.{TrailerRow}
use Rattle.access.specs.Rights.{Printed, data_table, trailer_table, data_row, trailer_row}

pub data_as_printed : map (λ (r : Printed DataRow). data_row r.bits) data_table ≡ map (λ (r : Printed DataRow). r.says) data_table
unfolding data_row data_table
data_as_printed = refl

pub trailer_as_printed :
    map (λ (r : Printed TrailerRow). trailer_row r.bits) trailer_table ≡ map (λ (r : Printed TrailerRow). r.says) trailer_table
unfolding trailer_row trailer_table
trailer_as_printed = refl
