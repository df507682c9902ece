use Rattle.std.proofs.Common.{length, ap, ◌∙◌, subst, sym, arith}
use Rattle.std.proofs.lemmas.List.{length-map}
use Rattle.loop_nest.specs.Bodies.{AreBelow}
use Rattle.loop_nest.proofs.Bounding.{address_of}
use Rattle.loop_nest.proofs.Holding.{below_all}
use Rattle.loop_nest.proofs.plan.regular_loops.Goals as goal

pub bounds_of-requires-clause-below : goal.bounds_of-requires-clause-below
bounds_of-requires-clause-below c =
    subst (AreBelow (length c.as_slice-units.result.now)) (sym c.deref-2.ensures.value)
    (below_all c.deref.result.now c.args.sources.now c.args.ranks.now (length c.deref.result.now)
    (length c.as_slice-units.result.now) c.in_ok-innermost.innermost.items c.in_ok-innermost.ensures
    (omega (
      arith,
      ap length c.deref.ensures.value,
      c.requires.plan.reversed.count,
      c.requires.plan.count,
      ap length c.requires.plan.are ∙ length-map c.args.graph.now.units address_of,
      ap length c.as_slice-units.ensures,
    )))
