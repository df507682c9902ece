use Rattle.std.proofs.Common.{ℕ, ◌-◌, ◌==◌, ◌<◌, cond, length, ap, arith, ◌∙◌}
use Rattle.nest_solver.specs.Solved.{turned}
use Rattle.nest_solver.specs.Nets.{entry}
use Rattle.nest_solver.specs.Plain.{plain}
use Rattle.nest_solver.proofs.Puts.{done-more, later-more}
use Rattle.nest_solver.proofs.turns.note_turns.Goals as goal

pub loop-scope-preserved : goal.loop-scope-preserved
loop-scope-preserved c =
    let s = plain c.args.net.now c.args.tables.now in
    let best = entry c.args.best.now in
    let scope = c.loop-scope.scope in
    let low : scope < length c.loop-scope.turns =
    omega (arith, c.loop-scope-test.true, ap length c.as_slice.ensures, c.requires.turns, c.loop-scope.auto.turns) in
    record {
      done = done-more c.loop-scope.turns (turned s c.args.depth best (entry c.args.turns.now)) scope c.turn_of.result low
          c.loop-scope.invariant.done
          (c.turn_of.ensures.turn
          ∙ ap (λ (was : ℕ). cond (s.depth scope == c.args.depth) (best (s.header scope) - 1) was)
          (c.loop-scope.invariant.later scope (omega arith)));
      later = later-more c.loop-scope.turns (entry c.args.turns.now) scope c.turn_of.result low c.loop-scope.invariant.later;
    }
