-- Lines whose numbers fit.
use Rattle.std.proofs.Common.{List, [], ◌∷◌, ◌++◌}
use Rattle.std.specs.Prelude.{map}
use Rattle.std.specs.List.{AllByRecursion}
use Rattle.ipet_program.specs.declared.certificate.Count.{Count}
use Rattle.ipet_program.specs.declared.certificate.Node.{Node}
use Rattle.cert_check.specs.declared.line.Line.{Line}
use Rattle.cert_check.specs.declared.line.Line.TheVariants.{Value, Tree}
use Rattle.cert_check.specs.Lines.{FitsCount, FitsLine, FitsNode}

pub fits_values : (counts : List Count) (more : List Line) → AllByRecursion FitsCount counts →
    AllByRecursion FitsLine more → AllByRecursion FitsLine (map Value counts ++ more)
fits_values [] more h k = k
fits_values (count ∷ counts) more h k = (h.0, fits_values counts more h.1 k)

pub fits_nodes : (nodes : List Node) (more : List Line) → AllByRecursion FitsNode nodes →
    AllByRecursion FitsLine more → AllByRecursion FitsLine (map Tree nodes ++ more)
fits_nodes [] more h k = k
fits_nodes (node ∷ nodes) more h k = (h.0, fits_nodes nodes more h.1 k)
