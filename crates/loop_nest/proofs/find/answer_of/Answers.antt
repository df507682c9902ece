use Rattle.std.proofs.Common.{subst, arith}
use Rattle.std.specs.BTreeMap.{get}
use Rattle.std.specs.Ordering.{nat_cmp}
use Rattle.loop_nest.specs.Plans.{AreRegular, IsFound}
use Rattle.loop_nest.proofs.Nesting.{irregular_by, nest_by, unbounded_by, unbounded_within}
use Rattle.loop_nest.proofs.find.answer_of.Goals as goal

pub returns-in-Irregular : goal.returns-in-Irregular
returns-in-Irregular c image entry graphed records =
    irregular_by image entry c.args.graph.now c.in_ok-plan.plan graphed c.in_ok-plan.ensures
    c.in-Irregular.position c.index.result.now
    (subst (IsFound c.args.graph.now c.in_ok-plan.plan (get nat_cmp c.args.recorded.now)) c.in-Irregular.is c.in_ok-position.ensures)
    c.index.ensures

pub index-requires-in-Regular-Unbounded : goal.index-requires-in-Regular-Unbounded
index-requires-in-Regular-Unbounded c =
    omega (
      arith,
      c.in_ok-plan.plan.addresses.ok,
      unbounded_within c.args.graph.now c.in_ok-plan.plan (get nat_cmp c.args.recorded.now) c.in_ok-plan.ensures
          c.in-Regular-Unbounded.header
          (subst (AreRegular c.args.graph.now c.in_ok-plan.plan (get nat_cmp c.args.recorded.now)) c.in-Regular-Unbounded.field-0-is
          (subst (IsFound c.args.graph.now c.in_ok-plan.plan (get nat_cmp c.args.recorded.now)) c.in-Regular-Unbounded.is
          c.in_ok-position.ensures)),
    )

pub returns-in-Regular-Unbounded : goal.returns-in-Regular-Unbounded
returns-in-Regular-Unbounded c image entry graphed records =
    unbounded_by image entry c.args.graph.now c.in_ok-plan.plan (get nat_cmp c.args.recorded.now) graphed
    c.in_ok-plan.ensures records c.in-Regular-Unbounded.header c.index-in-Regular-Unbounded.result.now
    (subst (AreRegular c.args.graph.now c.in_ok-plan.plan (get nat_cmp c.args.recorded.now)) c.in-Regular-Unbounded.field-0-is
    (subst (IsFound c.args.graph.now c.in_ok-plan.plan (get nat_cmp c.args.recorded.now)) c.in-Regular-Unbounded.is
    c.in_ok-position.ensures))
    c.index-in-Regular-Unbounded.ensures

pub returns : goal.returns
returns c image entry graphed records =
    nest_by image entry c.args.graph.now c.in_ok-plan.plan (get nat_cmp c.args.recorded.now) graphed
    c.in_ok-plan.ensures records c.in-Regular-Loops.loops
    (subst (AreRegular c.args.graph.now c.in_ok-plan.plan (get nat_cmp c.args.recorded.now)) c.in-Regular-Loops.field-0-is
    (subst (IsFound c.args.graph.now c.in_ok-plan.plan (get nat_cmp c.args.recorded.now)) c.in-Regular-Loops.is
    c.in_ok-position.ensures))
