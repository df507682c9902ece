-- The records found are those of the address.
use Rattle.image_run.proofs.Cutting.{cut-limits}
use Rattle.image_run.proofs.ranges.limits_at.Goals as goal

pub returns : goal.returns
returns c =
    cut-limits c.args.image.now c.args.ranges.now c.targets_at.result.now c.args.address c.requires
    (record {
      within = c.targets_at.ensures.within;
      sound = c.targets_at.ensures.sound;
      whole = c.targets_at.ensures.whole;
    }) c.cut.result c.cut.ensures
