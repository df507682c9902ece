-- Each turn adds the base behind one more context.
use Rattle.std.proofs.Common.{◌+◌, ℕ, List, get_or, subst, sym, arith}
use Rattle.step_table.specs.Numbers.{number_of}
use Rattle.call_contexts.proofs.Bases.{AreBasesTo, bases_more}
use Rattle.call_contexts.proofs.contexts.bases_of.Goals as goal

pub loop-function-preserved : goal.loop-function-preserved
loop-function-preserved c =
    let i = c.loop-function.function-index in
    let base = c.loop-function.base + number_of c.args.units.now (get_or c.args.functions.now i 0) in
    subst (λ (bases : List ℕ). AreBasesTo c.args.units.now c.args.functions.now (i + 1) base bases) (sym c.in_ok-push-2.ensures.items)
    (bases_more c.args.units.now c.args.functions.now i c.loop-function.base c.loop-function.bases.items (omega (arith, c.loop-function-test.true)) c.loop-function.invariant)
