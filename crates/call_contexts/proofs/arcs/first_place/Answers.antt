-- The function of context 0 reaches its entry.
use Rattle.std.proofs.Common.{sym}
use Rattle.net_model.specs.Functions.{first}
use Rattle.call_contexts.proofs.LaidProgram.{number-there}
use Rattle.call_contexts.proofs.arcs.first_place.Goals as goal

pub number_at-requires-clause-there : goal.number_at-requires-clause-there
number_at-requires-clause-there c =
    let (image, entry, laid) = c.requires.program in
    number-there image entry c.args.graphs.now c.args.layout.now 0 c.in-Some.root.now.target c.in-Some.root.now laid
    (sym c.in-Some.ensures.key) (first c.in-Some.root.now.target)
