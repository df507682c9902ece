-- Each turn adds the context of one more call.
use Rattle.std.proofs.Common.{◌<◌, ◌++◌, ◌∷◌, [], ℕ, List, get_or, length, take, sym, ap, ◌∙◌, arith}
use Rattle.std.proofs.lemmas.List.{append_assoc, get_or_default, map_more}
use Rattle.call_contexts.specs.Counting.{steps_in}
use Rattle.call_contexts.specs.declared.calls.Called.{Called}
use Rattle.call_contexts.proofs.Adding.{added_more}
use Rattle.call_contexts.proofs.contexts.add_made.Goals as goal

nothing : Called
nothing = record { site = 0; target = 0; graph = 0 }

pub loop-called-preserved : goal.loop-called-preserved
unfolding nothing
loop-called-preserved c =
    let calls = c.args.calls.now in
    let i = c.loop-called.called-index in
    let inside : i < length calls = omega (arith, c.loop-called-test.true) in
    record {
      contexts = added_more c.args.parent calls i (get_or calls i nothing) c.args.contexts.now.keys c.loop-called.contexts.keys c.insert.new.self.keys
          c.requires.rising c.requires.new inside (get_or_default calls i nothing (get_or calls i nothing) inside)
          c.loop-called.invariant.contexts c.in_ok-insert.ensures.keys;
      functions = c.in_ok-push.ensures.items
          ∙ ap (λ (front : List ℕ). front ++ (get_or calls i nothing).graph ∷ []) c.loop-called.invariant.functions
          ∙ append_assoc c.args.functions.now.items (steps_in (take i calls)) ((get_or calls i nothing).graph ∷ [])
          ∙ ap (λ (back : List ℕ). c.args.functions.now.items ++ back) (sym (map_more (λ (one : Called). one.graph) calls i nothing inside));
    }
