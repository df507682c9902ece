use Rattle.std.proofs.Common.{◌≡◌, ℕ, ◌+◌, ◌-◌, ◌*◌, ◌^◌, ◌≤◌, length, subst, arith}
use Rattle.nest_solver.specs.Answers.{AreWorths}
use Rattle.nest_solver.specs.Nets.{entry, value_at_end}
use Rattle.nest_solver.specs.Plain.{plain}
use Rattle.nest_solver.specs.Solved.{weight_of}
use Rattle.nest_solver.proofs.raise.raise_all.Goals as goal

pub loop-depth-preserved : goal.loop-depth-preserved
loop-depth-preserved c =
    let s = plain c.args.net.now c.args.tables.now in
    let turns = entry c.args.turns.now in
    let depth = c.loop-depth.depth in
    let back : depth ≡ depth + 1 - 1 = omega arith in
    record {
      small = λ p. subst (λ (d : ℕ). entry c.raise_level.new.worths p ≤ 2 ^ 63 * (length c.args.net.now.arcs + 2 + d)) back
          (c.raise_level.ensures.small p);
      worths = λ price total levels were.
          subst (λ (d : ℕ). AreWorths s (weight_of s (value_at_end s price) turns) turns d total (entry c.raise_level.new.worths))
          back
          (c.raise_level.ensures.worths price total levels (c.loop-depth.invariant.worths price total levels were));
    }

pub returns-clause-worths : goal.returns-clause-worths
returns-clause-worths c price total levels were =
    let s = plain c.args.net.now c.args.tables.now in
    let turns = entry c.args.turns.now in
    subst (λ (d : ℕ). AreWorths s (weight_of s (value_at_end s price) turns) turns d total (entry c.loop-depth.worths))
    (let e : c.loop-depth.depth - 1 ≡ c.args.deepest = omega (arith, c.loop-depth-test.false, c.loop-depth.auto.depth-end, c.loop-depth.auto.depth) in e)
    (c.loop-depth.invariant.worths price total levels were)
