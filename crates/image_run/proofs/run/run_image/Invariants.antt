-- The run is on its way, and has done as many units as were counted.
use Rattle.std.proofs.Common.{◌≡◌}
use Rattle.image_run.specs.Course.{IsCourse}
use Rattle.image_run.proofs.run.run_image.Given as goal

abbrev pub invariant-loop : goal.invariant-loop
invariant-loop l = record {
  course : IsCourse l.program l.course;
  count : l.course.steps ≡ l.counter;
}
