use Rattle.std.proofs.Common.{◌+◌, ◌++◌, ◌∷◌, [], ℕ, List, get_or, subst, sym, take, arith}
use Rattle.std.proofs.lemmas.List.{take_all, take_more}
use Rattle.unit_graph.specs.Recursion.{AreCalls, IsCallTable}
use Rattle.unit_graph.proofs.Noting.{AllZip-push}
use Rattle.unit_graph.proofs.Recurring.{are_calls}
use Rattle.unit_graph.proofs.recursion.call_table.Goals as goal

pub loop-function-preserved : goal.loop-function-preserved
loop-function-preserved c =
    let at = c.loop-function.function-index in
    let rows = c.args.rows.now in
    let returning = c.args.returning.now.keys in
    let all = c.args.functions.now in
    let one = get_or all at 0 in
    let steps = c.in_ok-steps_to.field-0 in
    subst (IsCallTable rows returning all (take (at + 1) all)) (sym c.in_ok-push.ensures.items)
    (subst (λ (some : List ℕ). IsCallTable rows returning all some (c.loop-function.table.items ++ steps ∷ []))
    (sym (take_more all at 0 c.loop-function-test.true))
    (AllZip-push (AreCalls rows returning all) (take at all) c.loop-function.table.items one steps c.loop-function.invariant
    (are_calls rows returning all c.in_ok-calls.calls.items c.deref.result.now one steps c.in_ok-calls.ensures c.deref.ensures.value c.in_ok-steps_to.ensures)))

pub returns : goal.returns
returns c =
    let all = c.args.functions.now in
    subst (λ (some : List ℕ). IsCallTable c.args.rows.now c.args.returning.now.keys all some c.loop-function.table.items)
    (take_all c.loop-function.function-index all (omega (arith, c.loop-function-test.false)))
    c.loop-function.invariant
