use Rattle.std.proofs.Common.{◌∷◌, ◌++◌, ◌*◌, [], List, ℕ, ap, ◌∙◌, length, refl, subst, slice_set, arith}
use Rattle.loop_nest.specs.Ranks.{IsWalk}
use Rattle.step_table.proofs.Meeting.{empty_by}
use Rattle.loop_nest.proofs.Ranking.{last_within, looked_kept, looked_start, walk_end, walk_start}
use Rattle.loop_nest.proofs.ranks.number_all.Goals as goal

pub loop-last-init : goal.loop-last-init
loop-last-init c = (
  walk_start c.args.table.now c.args.entry c.args.numbers.now c.push.new.self.items
      (2 * length c.args.table.now) c.requires.there c.requires.new refl
      (c.in_ok-push.ensures.items ∙ ap (λ (xs : List ℕ). xs ++ c.args.entry ∷ []) c.new-trail.ensures.items),
  looked_start c.args.table.now (slice_set c.args.numbers.now c.args.entry (2 * length c.args.table.now)) c.args.looked.now
      c.requires.unlooked,
)

pub next_of-requires-clause-there : goal.next_of-requires-clause-there
next_of-requires-clause-there c =
    last_within c.args.table.now c.args.entry c.loop-last.numbers c.loop-last.count c.pop.new.self.items
    c.in-Some.last (subst (IsWalk c.args.table.now c.args.entry c.loop-last.numbers c.loop-last.count) c.in-Some.ensures.items c.loop-last.invariant.0)

pub loop-last-preserved-in-Continue-branch-2 : goal.loop-last-preserved-in-Continue-branch-2
loop-last-preserved-in-Continue-branch-2 c = (
  c.in_ok-go_on-in-Some-next_of.ensures.walk c.args.entry c.loop-last.count
      (subst (IsWalk c.args.table.now c.args.entry c.loop-last.numbers c.loop-last.count) c.in-Some.ensures.items c.loop-last.invariant.0),
  looked_kept c.args.table.now c.loop-last.numbers c.go_on.new.numbers c.next_of.new.looked c.next_of.ensures.looked
      c.in_ok-go_on-in-Some-next_of.ensures.kept,
)

pub go_back-requires-clause-within : goal.go_back-requires-clause-within
go_back-requires-clause-within c =
    last_within c.args.table.now c.args.entry c.loop-last.numbers c.loop-last.count c.pop.new.self.items
    c.in-Some.last (subst (IsWalk c.args.table.now c.args.entry c.loop-last.numbers c.loop-last.count) c.in-Some.ensures.items c.loop-last.invariant.0)

pub loop-last-preserved : goal.loop-last-preserved
loop-last-preserved c = (
  c.go_back.ensures.walk c.args.entry c.pop.new.self.items
      (subst (IsWalk c.args.table.now c.args.entry c.loop-last.numbers c.loop-last.count) c.in-Some.ensures.items c.loop-last.invariant.0),
  looked_kept c.args.table.now c.loop-last.numbers c.go_back.new.numbers c.next_of.new.looked c.next_of.ensures.looked
      c.go_back.ensures.kept,
)

pub returns : goal.returns
returns c =
    walk_end c.args.table.now c.args.entry c.loop-last.numbers c.loop-last.count c.loop-last.trail.items
    c.loop-last.invariant.0
    (empty_by c.loop-last.trail.items (λ h. omega (arith, c.in_default.ensures.cases, c.loop-last.trail.ok)))
    c.requires.reached
