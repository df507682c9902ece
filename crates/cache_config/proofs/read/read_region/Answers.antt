use Rattle.std.proofs.Common.{ap, is_some, ◌∙◌, sym}
use Rattle.std.proofs.lemmas.Bool.{false≢true}
use Rattle.toml.specs.View.{view}
use Rattle.cache_config.proofs.EmptyLemmas.{shape-span}
use Rattle.cache_config.proofs.read.read_region.Goals as goal

pub returns-in_default-clause-none : goal.returns-in_default-clause-none
returns-in_default-clause-none c at shape place =
    let some = shape-span at (view c.args.value.now) shape in
    absurd (false≢true (ap is_some (sym c.in_default.is ∙ c.span_of.ensures.value) ∙ some))
