use Rattle.std.proofs.Common.{ℕ, ◌+◌, ◌∙◌, length, arith, ap}
use Rattle.nest_solver.specs.LeafWeights.{weights_to}
use Rattle.nest_solver.specs.Values.{times_of}
use Rattle.nest_solver.specs.Nets.{entry}
use Rattle.nest_solver.specs.Bases.{rank_by}
use Rattle.nest_solver.specs.Plain.{plain}
use Rattle.nest_solver.proofs.Facing.{base-low}
use Rattle.nest_solver.proofs.Starting.{end-leaf, start-worths}
use Rattle.nest_solver.proofs.bound.show.Goals as goal

pub raise_all-requires-clause-levels : goal.raise_all-requires-clause-levels
raise_all-requires-clause-levels c = record {
  price = c.requires.levels.price;
  levels = c.solve_all-total.ensures.levels c.requires.levels.price c.requires.levels.levels;
}

pub raise_all-requires-clause-small : goal.raise_all-requires-clause-small
raise_all-requires-clause-small c p =
    omega (
      arith,
      c.note_bases.ensures.base p,
      base-low (plain c.args.net.now c.args.tables.now) (rank_by c.args.net.now (entry c.args.latest.now))
          (entry c.solve_all-total.new.best) p (λ q. omega (arith, c.solve_all-total.ensures.small q)),
    )

pub leaf_of-requires-clause-small : goal.leaf_of-requires-clause-small
leaf_of-requires-clause-small c p =
    omega (arith, c.raise_all.ensures.small p, c.requires.few.arcs, c.requires.few.loops, c.requires.deep)

pub returns : goal.returns
returns c = record {
  shows = record {
    shows = λ price program is start.
        let net = c.args.net.now in
        let tables = c.args.tables.now in
        let levels = c.solve_all-total.ensures.levels price start in
        end-leaf net tables price program (entry c.solve_all-total.new.weights) (entry c.solve_all-total.new.turns)
        (entry c.solve_all-total.new.up) (entry c.solve_all-total.new.best) (entry c.solve_all-total.new.choice)
        (entry c.raise_all.new.worths) c.args.deepest c.solve_all-total.result (length c.solve_all-total.new.turns) c.in_ok-leaf.leaf
        c.requires.nested c.requires.few c.requires.tables is levels c.solve_all-total.ensures.up c.solve_all-total.ensures.swept
        c.solve_all-total.ensures.total c.requires.deepest c.requires.deep
        (c.raise_all.ensures.worths price c.solve_all-total.result levels
        (start-worths net tables price (entry c.solve_all-total.new.weights) (entry c.solve_all-total.new.turns)
        (entry c.solve_all-total.new.up) (entry c.args.latest.now) (entry c.solve_all-total.new.best) (entry c.solve_all-total.new.choice)
        (entry c.note_bases.new.worths) c.solve_all-total.result c.requires.nested c.requires.tables c.requires.ranks levels
        (λ q. omega (arith, c.solve_all-total.ensures.small q)) c.solve_all-total.ensures.swept c.solve_all-total.ensures.total
        (λ p. c.note_bases.ensures.base p)))
        c.in_ok-leaf.ensures.denom c.in_ok-leaf.ensures.shows
        (omega (arith, c.requires.turns, c.solve_all-total.auto.turns))
        (c.in_ok-leaf.ensures.weights
        ∙ ap (λ (n : ℕ). weights_to (times_of n c.solve_all-total.result (entry c.raise_all.new.worths)
        (entry c.solve_all-total.new.turns)) (n + length c.solve_all-total.new.turns)) (ap length c.as_slice.ensures));
  };
}
