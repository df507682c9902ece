use Rattle.std.proofs.Common.{◌+◌, subst, sym}
use Rattle.loop_nest.specs.Arcs.{AreBacksTo}
use Rattle.loop_nest.proofs.Removing.{backs_more}
use Rattle.loop_nest.proofs.removal.backs_each.Goals as goal

pub loop-header-preserved : goal.loop-header-preserved
loop-header-preserved c = record {
  are = subst (AreBacksTo c.args.table.now c.args.entry (c.loop-header.header + 1)) (sym c.in_ok-push.ensures.items)
      (backs_more c.args.table.now c.args.steps.now c.args.entry c.loop-header.header c.loop-header.sources.items
      c.steps_at-from.result.now c.in_ok-sources_of.field-0 c.requires.backs c.loop-header.invariant.are
      c.steps_at-from.ensures.there c.in_ok-sources_of.ensures.behind);
  unmarked = c.in_ok-sources_of.ensures.unmarked;
}
