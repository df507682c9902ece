use Rattle.std.proofs.Common.{None, get_or, arith, ap, sym, ◌∙◌, Some}
use Rattle.std.specs.BTreeMap.{get}
use Rattle.std.specs.Ordering.{nat_cmp}
use Rattle.std.proofs.lemmas.Option.{slice_get-get_or}
use Rattle.unit_graph.specs.declared.node.Unit.{Unit as Node}
use Rattle.loop_nest.proofs.Bounding.{bounds_more}
use Rattle.loop_nest.proofs.bounds.lower_all.Goals as goal

pub loop-position-preserved : goal.loop-position-preserved
loop-position-preserved c =
    let units = c.args.units.now in
    let innermost = c.args.innermost.now in
    let at = c.loop-position.position in
    let node = c.index-units-position.result in
    bounds_more units innermost (get nat_cmp c.args.recorded.now) at c.loop-position.bounds c.lower.new.bounds
    node (get_or innermost at None) c.unit_bound-bound.result
    (slice_get-get_or units at node c.loop-position-test.true ∙ ap (λ (n : Node). Some n) (sym c.index-units-position.is))
    (slice_get-get_or innermost at None (omega (arith, c.requires.count, c.loop-position-test.true)))
    c.unit_bound-bound.ensures c.lower.ensures c.loop-position.invariant
