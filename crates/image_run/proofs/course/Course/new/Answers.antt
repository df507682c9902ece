-- The run stands at the place of the entry.
use Rattle.std.proofs.Common.{refl}
use Rattle.image_run.proofs.Beginning.{first-course, first-read}
use Rattle.image_run.proofs.course.Course.new.Goals as goal

pub returns-clause-course : goal.returns-clause-course
returns-clause-course c =
    first-course c.args.program.now c.requires _ c.in_ok-machine.ensures.machine c.in_ok-machine.ensures.start refl
    (first-read c.args.program.now c.requires c.as_slice.result.now _ c.as_slice.ensures) refl c.in_ok-new.ensures.tracked c.in_ok-new.ensures.sized
