use Rattle.std.proofs.Common.{subst}
use Rattle.unit_graph.specs.Firsts.{IsFirstFaulty}
use Rattle.unit_graph.specs.Recursion.{IsFirstRecursive}
use Rattle.unit_graph.proofs.Clean.{AreUnits-clean}
use Rattle.unit_graph.proofs.Offending.{HasNoFault-none, IsFirstFault-recursion, IsFirstFault-unit}
use Rattle.unit_graph.proofs.graph.function_graphs.Goals as goal

pub first_faulty-requires : goal.first_faulty-requires
first_faulty-requires c = (c.args.image.now, c.args.entry, c.in_ok-program.ensures)

pub first_recursive-requires : goal.first_recursive-requires
first_recursive-requires c = (c.args.image.now, c.args.entry, c.in_ok-program.ensures)

pub graphs_of-requires-clause-program : goal.graphs_of-requires-clause-program
graphs_of-requires-clause-program c = (c.args.image.now, c.in_ok-program.ensures)

pub returns-in-Some-clause-bad : goal.returns-in-Some-clause-bad
returns-in-Some-clause-bad c =
    IsFirstFault-unit c.args.image.now c.args.entry c.in-Some.offence
    (subst (IsFirstFaulty c.args.image.now c.args.entry) c.in-Some.is
    (c.in_ok-offence.ensures c.args.image.now c.args.entry c.in_ok-program.ensures))

pub returns-in-Some-2-clause-bad : goal.returns-in-Some-2-clause-bad
returns-in-Some-2-clause-bad c =
    IsFirstFault-recursion c.args.image.now c.args.entry c.in-Some-2.function
    (subst (IsFirstFaulty c.args.image.now c.args.entry) c.in_default.is
    (c.in_ok-offence.ensures c.args.image.now c.args.entry c.in_ok-program.ensures))
    (subst (IsFirstRecursive c.args.image.now c.args.entry) c.in-Some-2.is
    (c.in_ok-function.ensures c.args.image.now c.args.entry c.in_ok-program.ensures))

pub graphs_of-requires-clause-units : goal.graphs_of-requires-clause-units
graphs_of-requires-clause-units c =
    AreUnits-clean c.args.image.now c.args.entry c.in_ok-program.program c.in_ok-program.ensures
    (subst (IsFirstFaulty c.args.image.now c.args.entry) c.in_default.is
    (c.in_ok-offence.ensures c.args.image.now c.args.entry c.in_ok-program.ensures))

pub returns-clause-faultless : goal.returns-clause-faultless
returns-clause-faultless c =
    HasNoFault-none c.args.image.now c.args.entry
    (subst (IsFirstFaulty c.args.image.now c.args.entry) c.in_default.is
    (c.in_ok-offence.ensures c.args.image.now c.args.entry c.in_ok-program.ensures))
    (subst (IsFirstRecursive c.args.image.now c.args.entry) c.in_default-2.is
    (c.in_ok-function.ensures c.args.image.now c.args.entry c.in_ok-program.ensures))
