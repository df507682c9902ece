use Rattle.std.proofs.Common.{◌+◌, ◌∙◌, ℕ, Option, None, Some, ap, get_or, length, subst, sym, arith}
use Rattle.std.proofs.lemmas.Option.{slice_get-get_or}
use Rattle.loop_nest.specs.Listing.{AreLoopsAt}
use Rattle.loop_nest.proofs.Collecting.{loops_more, loops_skip, not_some, unbounded_by}
use Rattle.loop_nest.proofs.Holding.{none_left, some_left}
use Rattle.loop_nest.proofs.listing.list_each.Goals as goal

pub loop-header-preserved-then-is_empty : goal.loop-header-preserved-then-is_empty
loop-header-preserved-then-is_empty c = record {
  are = loops_skip c.args.addresses.now c.args.reverse.now c.args.sources.now c.args.bounds.now c.loop-header.header
      c.loop-header.loops c.steps_at-from.result.now c.steps_at-from.ensures.there
      (none_left c.is_empty.result (length c.steps_at-from.result.now) c.is_empty.ensures c.if-is_empty.true)
      c.loop-header.invariant.are;
  unmarked = c.loop-header.invariant.unmarked;
}

pub loop_of-requires-clause-some : goal.loop_of-requires-clause-some
loop_of-requires-clause-some c =
    some_left c.is_empty.result (length c.steps_at-from.result.now) c.is_empty.ensures c.if-is_empty.false

pub returns-in_default : goal.returns-in_default
returns-in_default c =
    unbounded_by c.args.addresses.now c.args.reverse.now c.args.sources.now c.args.bounds.now c.loop-header.header
    c.loop-header.loops c.steps_at-from.result.now None c.steps_at-from.ensures.there
    (some_left c.is_empty.result (length c.steps_at-from.result.now) c.is_empty.ensures c.if-is_empty.false)
    (omega (arith, c.requires.bounds, c.requires.headers, c.loop-header-test.true))
    (not_some (get_or c.args.bounds.now c.loop-header.header None) c.in_default.not-Some) c.loop-header.invariant.are

pub loop-header-preserved : goal.loop-header-preserved
loop-header-preserved c = record {
  are = subst (AreLoopsAt c.args.addresses.now c.args.reverse.now c.args.sources.now c.args.bounds.now (c.loop-header.header + 1))
      (sym c.in_ok-push.ensures.ok)
      (loops_more c.args.addresses.now c.args.reverse.now c.args.sources.now c.args.bounds.now c.loop-header.header
      c.loop-header.loops c.in_ok-loop_of.field-0 c.requires.rising
      (c.in_ok-loop_of.ensures.is c.args.sources.now c.args.bounds.now c.steps_at-from.ensures.there
      (slice_get-get_or c.args.bounds.now c.loop-header.header None
      (omega (arith, c.requires.bounds, c.requires.headers, c.loop-header-test.true))
      ∙ ap (λ (b : Option ℕ). Some b) c.in-Some.is))
      c.loop-header.invariant.are);
  unmarked = c.in_ok-loop_of.ensures.unmarked;
}
