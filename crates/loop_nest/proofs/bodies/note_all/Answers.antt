use Rattle.std.proofs.Common.{List, ℕ, length, get_or, subst, arith}
use Rattle.std.proofs.lemmas.List.Elements.{Contains-get_or}
use Rattle.loop_nest.specs.Bodies.{AreNoted}
use Rattle.loop_nest.proofs.Holding.{below_all, inner_more, inner_skip, none_left, some_left}
use Rattle.loop_nest.proofs.bodies.note_all.Goals as goal

pub loop-header-preserved-then-is_empty : goal.loop-header-preserved-then-is_empty
loop-header-preserved-then-is_empty c = record {
  inner = inner_skip c.args.reverse.now c.args.sources.now c.args.ranks.now c.loop-header.header c.loop-header.innermost
      c.steps_at-from.result.now c.steps_at-from.ensures.there
      (none_left c.is_empty.result (length c.steps_at-from.result.now) c.is_empty.ensures c.if-is_empty.true)
      c.loop-header.invariant.inner;
  unmarked = c.loop-header.invariant.unmarked;
}

pub note-requires-clause-below : goal.note-requires-clause-below
note-requires-clause-below c =
    below_all c.args.reverse.now c.args.sources.now c.args.ranks.now c.loop-header.header (length c.args.ranks.now)
    c.loop-header.innermost c.loop-header.invariant.inner
    (omega (arith, c.requires.ranks, c.requires.count, c.loop-header-test.true))

pub loop-header-preserved : goal.loop-header-preserved
loop-header-preserved c = record {
  inner = inner_more c.args.reverse.now c.args.sources.now c.args.ranks.now c.loop-header.header c.loop-header.innermost
      c.note.new.innermost c.steps_at-from.result.now c.in_ok-body.body.items
      (get_or c.steps_at-from.result.now 0 0) c.steps_at-from.ensures.there
      (Contains-get_or c.steps_at-from.result.now 0 0 (some_left c.is_empty.result (length c.steps_at-from.result.now) c.is_empty.ensures c.if-is_empty.false))
      c.in_ok-body.ensures.body c.loop-header.invariant.inner
      (subst (λ (body : List ℕ). AreNoted body c.args.ranks.now c.loop-header.header c.loop-header.innermost c.note.new.innermost)
      c.deref.ensures.value c.note.ensures);
  unmarked = c.in_ok-body.ensures.unmarked;
}
