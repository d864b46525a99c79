-- `has_sector` compares with what `sectors_of` promises.
use Rattle.layout.specs.Layout.{has_sector}
use Rattle.layout.proofs.has_sector.Goals as goal

pub returns : goal.returns
unfolding has_sector
returns c = rw c.sectors_of.ensures
