-- What was counted makes the contexts, and no more places than a net may have.
use Rattle.std.proofs.Common.{◌≤◌, ℕ, List, sum_by, subst, sym, arith}
use Rattle.step_table.specs.Numbers.{number_of}
use Rattle.call_contexts.specs.Expansion.{AreBases, AreExpanded, SumsUp}
use Rattle.call_contexts.specs.Sizes.{most_places}
use Rattle.call_contexts.specs.declared.calls.Called.{Called}
use Rattle.call_contexts.proofs.Summing.{sums_all}
use Rattle.call_contexts.proofs.layout.lay_out.Goals as goal

pub bases_of-requires-clause-few : goal.bases_of-requires-clause-few
bases_of-requires-clause-few c =
    let counted = c.args.counted.now in
    let functions = c.in_ok-made.made.functions.items in
    let sums = subst (λ (lists : List (List Called)). SumsUp lists functions counted.sizes.contexts) c.deref.ensures.value c.in_ok-made.ensures.sums in
    let all = sums_all counted.lists.items functions counted.sizes.contexts sums c.in_ok-made.ensures.count counted.units.items
    c.requires.places.total c.requires.sized c.requires.places.adds in
    let few : sum_by (number_of counted.units.items) functions ≤ most_places = omega (arith, all, c.requires.places.same, c.requires.few_places) in
    subst (λ (units : List ℕ). sum_by (number_of units) c.deref-3.result.now ≤ most_places) (sym c.deref-2.ensures.value)
    (subst (λ (given : List ℕ). sum_by (number_of counted.units.items) given ≤ most_places) (sym c.deref-3.ensures.value) few)

pub returns : goal.returns
returns c =
    let counted = c.args.counted.now in
    record {
      expanded = subst (λ (lists : List (List Called)). AreExpanded c.args.entry lists c.in_ok-made.made.contexts.keys c.in_ok-made.made.functions.items counted.sizes.contexts)
          c.deref.ensures.value c.in_ok-made.ensures.expanded;
      counted = c.in_ok-made.ensures.count;
      sums = subst (λ (lists : List (List Called)). SumsUp lists c.in_ok-made.made.functions.items counted.sizes.contexts) c.deref.ensures.value c.in_ok-made.ensures.sums;
      bases = subst (λ (units : List ℕ). AreBases units c.in_ok-made.made.functions.items c.in_ok-bases.bases.items) c.deref-2.ensures.value
          (subst (λ (given : List ℕ). AreBases c.deref-2.result.now given c.in_ok-bases.bases.items) c.deref-3.ensures.value c.in_ok-bases.ensures);
    }
