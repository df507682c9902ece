use Rattle.std.proofs.Common.{ℕ, ◌+◌, ◌≤◌, ◌∙◌, List, length, sym, ap, subst, arith}
use Rattle.nest_solver.specs.Nets.{entry}
use Rattle.nest_solver.specs.Values.{AreValues}
use Rattle.flow_net.specs.declared.net.LoopInst.{LoopInst}
use Rattle.std.proofs.Math.ListN.{replicate}
use Rattle.nest_solver.proofs.Puts.{zeros}
use Rattle.nest_solver.proofs.Starting.{start-levels, values-count}
use Rattle.nest_solver.proofs.bound.nest_bound.Goals as goal

pub show-requires-clause-deep : goal.show-requires-clause-deep
show-requires-clause-deep c =
    c.deepest_of-deepest.ensures.least (length c.args.net.now.loops + 1)
    (subst (λ (depths : List ℕ). (scope : ℕ) → entry depths scope ≤ length c.args.net.now.loops + 1)
    (sym c.deref.ensures.value) c.in_ok-tables.ensures.tables.scopes.small)

pub show-requires-clause-weights : goal.show-requires-clause-weights
show-requires-clause-weights c =
    omega (
      arith,
      ap length c.deref_mut.ensures.value,
      c.in_ok-weights.ensures.count,
      values-count c.args.net.now c.requires.program.price c.args.program.now c.requires.program.of_net,
    )

pub show-requires-clause-levels : goal.show-requires-clause-levels
show-requires-clause-levels c = record {
  price = c.requires.program.price;
  levels = start-levels c.args.net.now c.in_ok-tables.tables c.requires.program.price c.args.program.now
      (entry c.deref_mut.result.now) (entry c.deref_mut-2.result.now) c.deepest_of-deepest.result c.requires.nested
      c.in_ok-tables.ensures.tables c.requires.program.of_net
      (subst (λ (values : List ℕ). AreValues c.args.program.now (entry values)) (sym c.deref_mut.ensures.value)
      c.in_ok-weights.ensures.values)
      (zeros c.deref_mut-2.result.now (length c.args.net.now.loops + 1)
      (c.deref_mut-2.ensures.value ∙ c.in_ok-turns.ensures.items_if_clones_equal (λ x e. e)
      ∙ ap (λ (xs : List LoopInst). replicate (length xs + 1) 0) c.as_slice-2.ensures))
      (subst (λ (depths : List ℕ). (scope : ℕ) → entry depths scope ≤ c.deepest_of-deepest.result) c.deref.ensures.value
      c.deepest_of-deepest.ensures.most);
}

pub returns : goal.returns
returns c = record {
  shows = c.in_ok-leaf.ensures.shows.shows c.requires.program.price c.args.program.now c.requires.program.of_net
      (start-levels c.args.net.now c.in_ok-tables.tables c.requires.program.price c.args.program.now
      (entry c.deref_mut.result.now) (entry c.deref_mut-2.result.now) c.deepest_of-deepest.result c.requires.nested
      c.in_ok-tables.ensures.tables c.requires.program.of_net
      (subst (λ (values : List ℕ). AreValues c.args.program.now (entry values)) (sym c.deref_mut.ensures.value)
      c.in_ok-weights.ensures.values)
      (zeros c.deref_mut-2.result.now (length c.args.net.now.loops + 1)
      (c.deref_mut-2.ensures.value ∙ c.in_ok-turns.ensures.items_if_clones_equal (λ x e. e)
      ∙ ap (λ (xs : List LoopInst). replicate (length xs + 1) 0) c.as_slice-2.ensures))
      (subst (λ (depths : List ℕ). (scope : ℕ) → entry depths scope ≤ c.deepest_of-deepest.result) c.deref.ensures.value
      c.deepest_of-deepest.ensures.most));
}
