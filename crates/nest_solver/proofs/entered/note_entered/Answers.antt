-- The arcs so far, and the next one.
use Rattle.std.proofs.Common.{◌≡◌, ℕ, ◌+◌, ◌-◌, ◌*◌, length, sym, ap, ◌∙◌, arith}
use Rattle.ipet_program.specs.Sums.{sum_to}
use Rattle.nest_solver.specs.Counted.{bit, enters}
use Rattle.nest_solver.specs.Nets.{entry}
use Rattle.nest_solver.specs.Plain.{plain}
use Rattle.nest_solver.proofs.CountRoom.{sum-front}
use Rattle.nest_solver.proofs.Turning.{sum-next}
use Rattle.nest_solver.proofs.entered.note_entered.Goals as goal

pub enter-requires-clause-room : goal.enter-requires-clause-room
enter-requires-clause-room c l u =
    let f : ℕ → ℕ = λ i. bit (enters (plain c.args.net.now c.args.tables.now) l i) * entry c.args.counts.now i in
    omega (
      arith,
      c.loop-arc.invariant l u,
      sum-next c.loop-arc.arc f c.loop-arc.auto.arc,
      sum-front c.loop-arc.arc (length c.args.net.now.arcs) f
          (omega (arith, c.loop-arc-test.true, ap length c.as_slice.ensures)),
      c.requires.room l u,
    )

pub loop-arc-preserved : goal.loop-arc-preserved
loop-arc-preserved c k u =
    let f : ℕ → ℕ = λ i. bit (enters (plain c.args.net.now c.args.tables.now) k i) * entry c.args.counts.now i in
    c.enter.ensures.entered k u
    ∙ ap (λ n. n + f c.loop-arc.arc) (c.loop-arc.invariant k u)
    ∙ sym (sum-next c.loop-arc.arc f c.loop-arc.auto.arc)
    ∙ ap (λ n. sum_to n f) (let e : c.loop-arc.arc ≡ c.loop-arc.arc + 1 - 1 = omega arith in e)
