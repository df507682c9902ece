-- Where nothing comes, the value stays, and so doesn't grow.
use Rattle.std.proofs.Common.{ap, sym}
use Rattle.std.specs.Prelude.{not}
use Rattle.domain_laws.specs.Options.{option_lattice}
use Rattle.domain_laws.proofs.option.OptionLattice.join.Goals as goal

pub returns-in_default-clause-grew : goal.returns-in_default-clause-grew
returns-in_default-clause-grew g c =
    ap not (sym (((option_lattice g.met.D.Lattice.lattice).on c.requires.0).same c.args.self.now c.requires.1))
