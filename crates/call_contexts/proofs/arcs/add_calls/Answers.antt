-- Each called function has a place in the context that the call makes, and the place is added.
use Rattle.std.proofs.Common.{ℕ, List, length, get_or, sym, ap, subst, arith}
use Rattle.std.proofs.lemmas.List.Elements.{All-get_or}
use Rattle.call_contexts.specs.Arcs.{HasCallTo, IsCallTo}
use Rattle.call_contexts.proofs.Appending.{added-more}
use Rattle.call_contexts.proofs.arcs.add_calls.Goals as goal

pub call_to-requires-clause-there : goal.call_to-requires-clause-there
call_to-requires-clause-there c =
    subst (λ (calls : List ℕ). HasCallTo c.args.graphs.now.graphs c.args.layout.now c.args.context c.args.unit.now.address
    (get_or calls c.loop-callee.callee-index 0))
    (sym c.as_slice-callee-items.ensures)
    (All-get_or (HasCallTo c.args.graphs.now.graphs c.args.layout.now c.args.context c.args.unit.now.address) c.args.unit.now.calls
    c.loop-callee.callee-index 0
    (omega (arith, ap (λ (calls : List ℕ). length calls) c.as_slice-callee-items.ensures)) c.requires.there)

pub loop-callee-preserved : goal.loop-callee-preserved
loop-callee-preserved c =
    added-more (IsCallTo c.args.graphs.now.graphs c.args.layout.now c.args.context c.args.unit.now.address) c.args.unit.now.calls
    c.args.targets.now.items c.loop-callee.targets.items c.push.new.self.items c.loop-callee.callee-index c.call_to.result
    c.loop-callee.invariant c.in_ok-push.ensures.items (omega (arith, ap (λ (calls : List ℕ). length calls) c.as_slice-callee-items.ensures))
    (subst (λ (calls : List ℕ). IsCallTo c.args.graphs.now.graphs c.args.layout.now c.args.context c.args.unit.now.address
    (get_or calls c.loop-callee.callee-index 0) c.call_to.result) c.as_slice-callee-items.ensures c.call_to.ensures)
