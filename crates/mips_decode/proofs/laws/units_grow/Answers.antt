-- The law is that of the lists of units.
use Rattle.mips_decode.proofs.UnitsEnd.{units-grow}
use Rattle.mips_decode.proofs.laws.units_grow.Goals as goal

pub returns : goal.returns
returns c = record { grows = units-grow }
