use Rattle.std.proofs.Common.{ℕ, List, get_or, subst, sym, take, arith, rules}
use Rattle.std.proofs.lemmas.List.{take_all, take_more}
use Rattle.unit_graph.specs.Program.{AreGraphsOf}
use Rattle.unit_graph.proofs.Others.{of_nobody, of_push, of_skip}
use Rattle.unit_graph.proofs.graph.other_graphs.Goals as goal

pub loop-function-init : goal.loop-function-init
loop-function-init c = λ image main are returns. of_nobody image c.args.entry c.args.graphs.now

pub loop-function-preserved-then-function-entry : goal.loop-function-preserved-then-function-entry
loop-function-preserved-then-function-entry c = λ image main are returns.
    let at = c.loop-function.function-index in
    subst (λ (some : List ℕ). AreGraphsOf image c.args.entry some c.args.graphs.now c.loop-function.graphs)
    (sym (take_more c.args.functions.now at 0 c.loop-function-test.true))
    (of_skip image c.args.entry (take at c.args.functions.now) (get_or c.args.functions.now at 0) c.args.graphs.now c.loop-function.graphs
    (search rules) (c.loop-function.invariant image main are returns))

pub loop-function-preserved : goal.loop-function-preserved
loop-function-preserved c = λ image main are returns.
    let at = c.loop-function.function-index in
    subst (λ (some : List ℕ). AreGraphsOf image c.args.entry some c.args.graphs.now c.push.new.self)
    (sym (take_more c.args.functions.now at 0 c.loop-function-test.true))
    (of_push image c.args.entry (take at c.args.functions.now) (get_or c.args.functions.now at 0) c.args.graphs.now c.loop-function.graphs
    c.push.new.self c.in_ok-graph_of.field-0
    (search rules) (c.loop-function.invariant image main are returns) (c.in_ok-graph_of.ensures image main are returns)
    c.in_ok-push.ensures.ok)

pub returns : goal.returns
returns c = λ image main are returns.
    subst (λ (some : List ℕ). AreGraphsOf image c.args.entry some c.args.graphs.now c.loop-function.graphs)
    (take_all c.loop-function.function-index c.args.functions.now (omega (arith, c.loop-function-test.false)))
    (c.loop-function.invariant image main are returns)
