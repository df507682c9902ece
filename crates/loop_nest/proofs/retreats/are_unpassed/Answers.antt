use Rattle.std.proofs.Common.{arith}
use Rattle.std.proofs.lemmas.Option.{slice_get_within}
use Rattle.loop_nest.proofs.Retreating.{unpassed_more}
use Rattle.loop_nest.proofs.retreats.are_unpassed.Goals as goal

pub loop-header-preserved : goal.loop-header-preserved
loop-header-preserved c = record {
  none = unpassed_more c.args.reverse.now c.args.sources.now c.args.entry c.loop-header.header c.steps_at-from.result.now
      c.loop-header.invariant.none c.steps_at-from.ensures.there
      (λ met. let h = c.in_ok-is_passed.ensures.passed.1 met in let f = c.if-branch.false in cc);
  unmarked = c.in_ok-is_passed.ensures.unmarked;
}

pub returns : goal.returns
returns c = (
  λ header passed. c.loop-header.invariant.none header
      (omega (arith, c.loop-header-test.false, slice_get_within c.args.sources.now header passed.from passed.there)) passed,
  tt,
)
