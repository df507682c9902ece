use Rattle.std.proofs.Common.{[], ℕ, List, get_or, subst, sym, take, arith}
use Rattle.std.proofs.lemmas.List.{take_all, take_more}
use Rattle.unit_graph.specs.Inference.{Adds, IsCallRule}
use Rattle.unit_graph.proofs.RuleLists.{Adds-none, no_calls, calls_more}
use Rattle.unit_graph.proofs.inference.add_calls.Goals as goal

pub loop-callee-init : goal.loop-callee-init
loop-callee-init c = Adds-none (IsCallRule c.args.address []) c.args.rules.now.items (no_calls c.args.address)

pub loop-callee-preserved : goal.loop-callee-preserved
loop-callee-preserved c =
    let at = c.loop-callee.callee-index in
    let one = get_or c.args.calls.now at 0 in
    subst (λ (some : List ℕ). Adds (IsCallRule c.args.address some) c.args.rules.now.items c.add_call.new.rules.items)
    (sym (take_more c.args.calls.now at 0 c.loop-callee-test.true))
    (calls_more c.args.address (take at c.args.calls.now) one c.args.rules.now.items c.loop-callee.rules.items c.add_call.new.rules.items
    c.loop-callee.invariant c.in_ok-add_call.ensures)

pub returns : goal.returns
returns c =
    subst (λ (some : List ℕ). Adds (IsCallRule c.args.address some) c.args.rules.now.items c.loop-callee.rules.items)
    (take_all c.loop-callee.callee-index c.args.calls.now (omega (arith, c.loop-callee-test.false)))
    c.loop-callee.invariant
