-- The address is among those of the context's units, and its position gives the number.
use Rattle.std.proofs.Common.{List, length, ap, arith}
use Rattle.std.proofs.lemmas.Option.{slice_get_within}
use Rattle.unit_graph.specs.declared.node.Unit.{Unit as Node}
use Rattle.call_contexts.proofs.SpotNumbers.{base-read, units-few}
use Rattle.call_contexts.proofs.LaidProgram.{address-among, number-found, units-rise}
use Rattle.call_contexts.proofs.spots.number_at.Goals as goal

pub position_of-requires-clause-rising : goal.position_of-requires-clause-rising
position_of-requires-clause-rising c =
    let (image, entry, laid) = c.requires.program in
    let (graph, has, same) = c.units_in-units.ensures in
    units-rise image entry c.args.graphs.now c.args.layout.now c.args.context graph c.units_in-units.result.now laid has same

pub position_of-requires-clause-there : goal.position_of-requires-clause-there
position_of-requires-clause-there c =
    let (number, is) = c.requires.there in
    let (graph, has, same) = c.units_in-units.ensures in
    address-among c.args.graphs.now.graphs c.args.layout.now c.args.context c.args.address number graph c.units_in-units.result.now has same is

pub overflow_cast-result : goal.overflow_cast-result
overflow_cast-result c =
    let (image, entry, laid) = c.requires.program in
    let (graph, has, same) = c.units_in-units.ensures in
    let begins = base-read c.args.graphs.now.graphs c.args.layout.now c.args.context c.index-base.result.now graph laid.layout_is.laid has c.index-base.ensures in
    omega (
      arith,
      units-few c.args.graphs.now.graphs c.args.layout.now c.args.context c.index-base.result.now graph laid.layout_is.laid has begins,
      slice_get_within c.units_in-units.result.now c.position_of.result c.position_of.ensures.node c.position_of.ensures.there,
      ap (λ (nodes : List Node). length nodes) same,
    )

pub overflow_add-result : goal.overflow_add-result
overflow_add-result c =
    let (image, entry, laid) = c.requires.program in
    let (graph, has, same) = c.units_in-units.ensures in
    let begins = base-read c.args.graphs.now.graphs c.args.layout.now c.args.context c.index-base.result.now graph laid.layout_is.laid has c.index-base.ensures in
    omega (
      arith,
      units-few c.args.graphs.now.graphs c.args.layout.now c.args.context c.index-base.result.now graph laid.layout_is.laid has begins,
      slice_get_within c.units_in-units.result.now c.position_of.result c.position_of.ensures.node c.position_of.ensures.there,
      ap (λ (nodes : List Node). length nodes) same,
    )

pub returns : goal.returns
returns c =
    let (image, entry, laid) = c.requires.program in
    let (graph, has, same) = c.units_in-units.ensures in
    let begins = base-read c.args.graphs.now.graphs c.args.layout.now c.args.context c.index-base.result.now graph laid.layout_is.laid has c.index-base.ensures in
    number-found c.args.graphs.now.graphs c.args.layout.now c.args.context c.args.address c.index-base.result.now c.position_of.result
    graph c.units_in-units.result.now has same begins c.position_of.ensures
