-- A run that broke a rule stays broken.
use Rattle.image_run.proofs.Exits.{stays-broken}
use Rattle.image_run.proofs.course.Course.go.Goals as goal

pub returns-in-Broken : goal.returns-in-Broken
returns-in-Broken c = record {
  goes = stays-broken c.args.program.now c.args.self.now c.step.new.self c.step.result c.requires.course
      (record { machine = c.step.ensures.machine; small = c.step.ensures.small; steps = c.step.ensures.steps })
      c.in-Broken.kind c.in-Broken.address c.in-Broken.is c.step.ensures.verdict;
  counts = c.step.ensures.steps;
}
