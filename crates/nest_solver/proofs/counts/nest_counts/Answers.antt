use Rattle.std.proofs.Common.{ℕ, ◌+◌, ◌≤◌, ◌∙◌, List, length, sym, ap, subst, arith}
use Rattle.flow_net.specs.declared.net.LoopInst.{LoopInst}
use Rattle.std.proofs.Math.ListN.{replicate}
use Rattle.nest_solver.specs.Nets.{entry}
use Rattle.nest_solver.specs.Values.{AreValues}
use Rattle.nest_solver.proofs.Puts.{zeros}
use Rattle.nest_solver.proofs.Starting.{start-levels, values-count}
use Rattle.nest_solver.proofs.counts.nest_counts.Goals as goal

pub count-requires-clause-deep : goal.count-requires-clause-deep
count-requires-clause-deep c =
    c.deepest_of-deepest.ensures.least (length c.args.net.now.loops + 1)
    (subst (λ (depths : List ℕ). (scope : ℕ) → entry depths scope ≤ length c.args.net.now.loops + 1)
    (sym c.deref.ensures.value) c.in_ok-tables.ensures.tables.scopes.small)

pub count-requires-clause-weights : goal.count-requires-clause-weights
count-requires-clause-weights c =
    omega (
      arith,
      ap length c.deref_mut.ensures.value,
      c.in_ok-weights.ensures.count,
      values-count c.args.net.now c.requires.program.price c.args.program.now c.requires.program.of_net,
    )

pub count-requires-clause-levels : goal.count-requires-clause-levels
count-requires-clause-levels c = record {
  price = c.requires.program.price;
  program = c.args.program.now;
  of_net = c.requires.program.of_net;
  levels = start-levels c.args.net.now c.in_ok-tables.tables c.requires.program.price c.args.program.now
      (entry c.deref_mut.result.now) (entry c.deref_mut-2.result.now) c.deepest_of-deepest.result c.requires.nested
      c.in_ok-tables.ensures.tables c.requires.program.of_net
      (subst (λ (values : List ℕ). AreValues c.args.program.now (entry values)) (sym c.deref_mut.ensures.value)
      c.in_ok-weights.ensures.values)
      (zeros c.deref_mut-2.result.now (length c.args.net.now.loops + 1)
      (c.deref_mut-2.ensures.value ∙ c.in_ok-turns.ensures.items_if_clones_equal (λ x e. e)
      ∙ ap (λ (xs : List LoopInst). replicate (length xs + 1) 0) c.as_slice-2.ensures))
      (subst (λ (depths : List ℕ). (scope : ℕ) → entry depths scope ≤ c.deepest_of-deepest.result) c.deref.ensures.value
      c.deepest_of-deepest.ensures.most);
}

pub returns : goal.returns
returns c = record {
  greatest = c.in_ok-listed.ensures.greatest.greatest c.requires.program.price c.args.program.now
      c.requires.program.of_net
      (start-levels c.args.net.now c.in_ok-tables.tables c.requires.program.price c.args.program.now
      (entry c.deref_mut.result.now) (entry c.deref_mut-2.result.now) c.deepest_of-deepest.result c.requires.nested
      c.in_ok-tables.ensures.tables c.requires.program.of_net
      (subst (λ (values : List ℕ). AreValues c.args.program.now (entry values)) (sym c.deref_mut.ensures.value)
      c.in_ok-weights.ensures.values)
      (zeros c.deref_mut-2.result.now (length c.args.net.now.loops + 1)
      (c.deref_mut-2.ensures.value ∙ c.in_ok-turns.ensures.items_if_clones_equal (λ x e. e)
      ∙ ap (λ (xs : List LoopInst). replicate (length xs + 1) 0) c.as_slice-2.ensures))
      (subst (λ (depths : List ℕ). (scope : ℕ) → entry depths scope ≤ c.deepest_of-deepest.result) c.deref.ensures.value
      c.deepest_of-deepest.ensures.most));
}
