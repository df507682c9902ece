-- Each turn adds the contexts that one more context makes, until all have made theirs.
use Rattle.std.proofs.Common.{◌≡◌, ◌+◌, ◌<◌, ◌++◌, ℕ, List, length, map, slice_get, Some, subst, sym, ap, arith}
use Rattle.std.proofs.lemmas.List.{length-append}
use Rattle.std.proofs.lemmas.Option.{slice_get_within}
use Rattle.flow_net.specs.declared.net.Context.{Context}
use Rattle.call_contexts.specs.Counting.{steps_in}
use Rattle.call_contexts.specs.Expansion.{AreExpanded, RiseCalls, SumsUp, context_of}
use Rattle.call_contexts.proofs.Calling.{at_all}
use Rattle.call_contexts.proofs.Expanding.{expanded_more, made_new}
use Rattle.call_contexts.proofs.Summing.{none_left, one_left, sums_more}
use Rattle.call_contexts.proofs.contexts.make_contexts.Goals as goal

pub calls_made-calls-requires-clause-there : goal.calls_made-calls-requires-clause-there
calls_made-calls-requires-clause-there c =
    subst (λ (functions : List ℕ). c.loop-parent.parent < length functions) (sym c.deref.ensures.value)
    (one_left c.args.lists.now c.loop-parent.functions.items c.loop-parent.parent c.requires.counted.total c.loop-parent.invariant.expanded.within
    c.requires.counted.adds c.loop-parent.invariant.sums (omega (arith, c.requires.counted.same, c.loop-parent-test.true)))

pub add_made-requires-clause-rising : goal.add_made-requires-clause-rising
add_made-requires-clause-rising c =
    at_all RiseCalls c.args.lists.now c.calls_made-calls.ensures.function c.calls_made-calls.result.now c.requires.rising c.calls_made-calls.ensures.listed

pub add_made-requires-clause-new : goal.add_made-requires-clause-new
add_made-requires-clause-new c =
    let is = subst (λ (functions : List ℕ). slice_get functions c.loop-parent.parent ≡ Some c.calls_made-calls.ensures.function) c.deref.ensures.value c.calls_made-calls.ensures.is in
    made_new c.args.entry c.args.lists.now c.loop-parent.contexts.keys c.loop-parent.functions.items c.loop-parent.parent c.calls_made-calls.ensures.function
    c.calls_made-calls.result.now c.loop-parent.invariant.expanded is c.calls_made-calls.ensures.listed c.requires.other

pub loop-parent-preserved : goal.loop-parent-preserved
loop-parent-preserved c =
    let parent = c.loop-parent.parent in
    let functions = c.loop-parent.functions.items in
    let calls = c.calls_made-calls.result.now in
    let function = c.calls_made-calls.ensures.function in
    let is : slice_get functions parent ≡ Some function =
    subst (λ (given : List ℕ). slice_get given parent ≡ Some function) c.deref.ensures.value c.calls_made-calls.ensures.is in
    let listed = c.calls_made-calls.ensures.listed in
    let functions_now = c.in_ok-add_made.ensures.functions in
    let expanded = expanded_more c.args.entry c.args.lists.now c.loop-parent.contexts.keys functions parent function calls c.requires.within
    c.loop-parent.invariant.expanded is listed (at_all RiseCalls c.args.lists.now function calls c.requires.rising listed) in
    record {
      expanded = subst (λ (contexts : List Context). AreExpanded c.args.entry c.args.lists.now contexts c.add_made.new.functions.items (parent + 1)) (sym c.in_ok-add_made.ensures.contexts)
          (subst (λ (given : List ℕ). AreExpanded c.args.entry c.args.lists.now (c.loop-parent.contexts.keys ++ map (context_of parent) calls) given (parent + 1)) (sym functions_now) expanded);
      reached = omega (arith, slice_get_within functions parent function is, ap (λ (given : List ℕ). length given) functions_now, length-append functions (steps_in calls));
      sums = subst (λ (given : List ℕ). SumsUp c.args.lists.now given (parent + 1)) (sym functions_now)
          (sums_more c.args.lists.now functions parent function calls c.loop-parent.invariant.sums is listed);
    }

pub returns-clause-count : goal.returns-clause-count
returns-clause-count c =
    let ends : c.loop-parent.parent ≡ c.args.count = omega (arith, c.loop-parent-test.false, c.loop-parent.auto.parent-end) in
    none_left c.args.lists.now c.loop-parent.functions.items c.args.count c.requires.counted.total c.loop-parent.invariant.expanded.within
    c.requires.counted.adds (subst (λ (done : ℕ). SumsUp c.args.lists.now c.loop-parent.functions.items done) ends c.loop-parent.invariant.sums)
    c.requires.counted.same (omega (arith, ends, c.loop-parent.invariant.reached))
