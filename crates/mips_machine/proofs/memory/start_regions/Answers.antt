-- The regions made are a start.
use Rattle.mips_machine.proofs.StartLemmas.{regions_of-at_start}
use Rattle.mips_machine.proofs.memory.start_regions.Goals as goal

pub returns-clause-start : goal.returns-clause-start
returns-clause-start c = regions_of-at_start c.args.image.now c.args.profile.now c.in_ok-regions.ensures.bytes
