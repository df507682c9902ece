use Rattle.std.proofs.Common.{ℕ, List, ◌∷◌, ◌∙◌, [], subst, sym, arith}
use Rattle.std.specs.Prelude.{Contains}
use Rattle.std.proofs.lemmas.List.Elements.{Contains-append_left, Contains-push}
use Rattle.step_table.proofs.Meeting.{IsSearch-end, IsSearch-turn, waiting_inside}
use Rattle.step_table.proofs.search.see_waiting.Goals as goal

pub loop-next-init : goal.loop-next-init
loop-next-init c = record {
  search = λ starts h. h;
  sized = c.requires.sized;
  inside = c.requires.inside;
}

pub steps_at-requires-clause-there : goal.steps_at-requires-clause-there
steps_at-requires-clause-there c =
    omega (
      arith,
      c.loop-next.invariant.sized,
      c.loop-next.invariant.inside c.in-Some.next
          (subst (λ (xs : List ℕ). Contains xs c.in-Some.next) (sym c.in-Some.ensures.items) (Contains-push c.pop.new.self.items c.in-Some.next)),
    )

pub loop-next-preserved : goal.loop-next-preserved
loop-next-preserved c = record {
  search = λ starts h.
      IsSearch-turn c.args.table.now starts c.args.barred c.in-Some.next c.steps_at.result.now
      c.loop-next.seen c.loop-next.waiting.items c.pop.new.self.items c.see_all.new.seen
      c.see_all.new.waiting.items c.steps_at.ensures.there (c.loop-next.invariant.search starts h)
      c.in-Some.ensures.items c.in_ok-see_all.ensures;
  sized = c.in_ok-see_all.ensures.count ∙ c.loop-next.invariant.sized;
  inside = waiting_inside c.steps_at.result.now c.args.barred c.loop-next.seen c.see_all.new.seen c.pop.new.self.items
      c.see_all.new.waiting.items c.in_ok-see_all.ensures
      (λ x h. c.loop-next.invariant.inside x
      (subst (λ (xs : List ℕ). Contains xs x) (sym c.in-Some.ensures.items) (Contains-append_left c.pop.new.self.items (c.in-Some.next ∷ []) x h)));
}

pub returns : goal.returns
returns c starts h =
    IsSearch-end c.args.table.now starts c.args.barred c.loop-next.seen c.loop-next.waiting.items
    (c.loop-next.invariant.search starts h)
    (λ h. omega (arith, c.in_default.ensures.cases, c.loop-next.waiting.ok))
