use Rattle.std.proofs.Common.{ℕ, List, subst, sym, arith}
use Rattle.std.proofs.lemmas.Bool.{OnFalse_at, OnTrue_at}
use Rattle.std.proofs.lemmas.Option.{slice_get_within}
use Rattle.loop_nest.specs.Arcs.{AreBacks, AreKept, AreRetreats, AreUnpassed}
use Rattle.loop_nest.specs.Plans.{IsCrossed}
use Rattle.loop_nest.specs.Ranks.{AreRanks}
use Rattle.loop_nest.proofs.Retreating.{backs_all, crossed_plan, kept_all}
use Rattle.loop_nest.proofs.plan.find_in.Goals as goal

pub regular_loops-requires-clause-backs : goal.regular_loops-requires-clause-backs
regular_loops-requires-clause-backs c =
    let plan = c.args.plan.now in
    let ranks = c.in_ok-ranks.ranks.items in
    let steps = c.in_ok-steps.steps.items in
    let retreats : AreRetreats plan.reverse.items ranks steps =
    subst (λ (rs : List (List ℕ)). AreRetreats rs ranks steps) c.deref-2.ensures.value
    (subst (λ (r : List ℕ). AreRetreats c.deref-2.result.now r steps) c.deref-3.ensures.value c.in_ok-steps.ensures.retreats) in
    let unpassed =
    subst (λ (rs : List (List ℕ)). AreUnpassed rs steps plan.entry c.in_ok-are_backs.field-0) c.deref-4.ensures.value
    (subst (λ (s : List (List ℕ)). AreUnpassed c.deref-4.result.now s plan.entry c.in_ok-are_backs.field-0) c.deref-5.ensures.value
    c.in_ok-are_backs.ensures) in
    subst (AreBacks plan.table.items plan.entry) (sym c.deref-then-branch-2.ensures.value)
    (backs_all plan.table.items plan.reverse.items plan.entry ranks steps
    (subst (λ (t : List (List ℕ)). AreRanks t plan.entry ranks) c.deref.ensures.value c.in_ok-ranks.ensures)
    c.requires.reversed retreats
    (kept_all plan.table.items plan.reverse.items plan.entry ranks steps c.requires.reversed retreats
    (OnTrue_at c.if-branch.true unpassed.0)))

pub regular_loops-requires-clause-kept : goal.regular_loops-requires-clause-kept
regular_loops-requires-clause-kept c =
    let plan = c.args.plan.now in
    let ranks = c.in_ok-ranks.ranks.items in
    let steps = c.in_ok-steps.steps.items in
    let retreats : AreRetreats plan.reverse.items ranks steps =
    subst (λ (rs : List (List ℕ)). AreRetreats rs ranks steps) c.deref-2.ensures.value
    (subst (λ (r : List ℕ). AreRetreats c.deref-2.result.now r steps) c.deref-3.ensures.value c.in_ok-steps.ensures.retreats) in
    let unpassed =
    subst (λ (rs : List (List ℕ)). AreUnpassed rs steps plan.entry c.in_ok-are_backs.field-0) c.deref-4.ensures.value
    (subst (λ (s : List (List ℕ)). AreUnpassed c.deref-4.result.now s plan.entry c.in_ok-are_backs.field-0) c.deref-5.ensures.value
    c.in_ok-are_backs.ensures) in
    subst (AreKept plan.table.items plan.entry) (sym c.deref-then-branch.ensures.value)
    (kept_all plan.table.items plan.reverse.items plan.entry ranks steps c.requires.reversed retreats
    (OnTrue_at c.if-branch.true unpassed.0))

pub irregular_of-requires : goal.irregular_of-requires
irregular_of-requires c =
    let plan = c.args.plan.now in
    let ranks = c.in_ok-ranks.ranks.items in
    let steps = c.in_ok-steps.steps.items in
    let retreats : AreRetreats plan.reverse.items ranks steps =
    subst (λ (rs : List (List ℕ)). AreRetreats rs ranks steps) c.deref-2.ensures.value
    (subst (λ (r : List ℕ). AreRetreats c.deref-2.result.now r steps) c.deref-3.ensures.value c.in_ok-steps.ensures.retreats) in
    let unpassed =
    subst (λ (rs : List (List ℕ)). AreUnpassed rs steps plan.entry c.in_ok-are_backs.field-0) c.deref-4.ensures.value
    (subst (λ (s : List (List ℕ)). AreUnpassed c.deref-4.result.now s plan.entry c.in_ok-are_backs.field-0) c.deref-5.ensures.value
    c.in_ok-are_backs.ensures) in
    subst (IsCrossed plan) (sym c.deref-6.ensures.value)
    (crossed_plan plan ranks steps c.requires.within
    (omega (arith, c.requires.count, slice_get_within plan.addresses.items plan.entry c.args.graph.now.entry c.requires.begins))
    (subst (λ (t : List (List ℕ)). AreRanks t plan.entry ranks) c.deref.ensures.value c.in_ok-ranks.ensures)
    c.in_ok-steps.ensures.within c.requires.reversed retreats (OnFalse_at c.if-branch.false unpassed.1))
