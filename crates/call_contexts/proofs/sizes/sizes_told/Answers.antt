-- The table is that of the lists.
use Rattle.std.proofs.Common.{◌≡◌, ℕ, List, rules, subst, sym, ◌∙◌}
use Rattle.call_contexts.specs.Counting.{IsAcyclic, IsToldFirst, ones_for}
use Rattle.call_contexts.proofs.sizes.sizes_told.Goals as goal

pub steps_first-requires-clause-acyclic : goal.steps_first-requires-clause-acyclic
steps_first-requires-clause-acyclic c =
    subst (λ (table : List (List ℕ)). IsAcyclic table) (sym (c.deref.ensures.value ∙ c.in_ok-table.ensures)) c.requires.acyclic

pub returns-clause-contexts : goal.returns-clause-contexts
returns-clause-contexts c =
    let e : c.in_ok-ones.ones.items ≡ ones_for c.args.lists.now = search rules in
    subst (λ (table : List (List ℕ)). IsToldFirst table (ones_for c.args.lists.now) c.in_ok-contexts.contexts) (c.deref-2.ensures.value ∙ c.in_ok-table.ensures)
    (subst (λ (own : List ℕ). IsToldFirst c.deref-2.result.now own c.in_ok-contexts.contexts) (c.deref-4.ensures.value ∙ e)
    c.in_ok-contexts.ensures)

pub returns-clause-places : goal.returns-clause-places
returns-clause-places c =
    subst (λ (table : List (List ℕ)). IsToldFirst table c.args.units.now c.in_ok-places.places) (c.deref-5.ensures.value ∙ c.in_ok-table.ensures)
    c.in_ok-places.ensures
