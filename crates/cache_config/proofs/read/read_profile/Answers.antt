use Rattle.cache_config.proofs.TextLemmas.{empty-result, result-clean}
use Rattle.cache_config.proofs.read.read_profile.Goals as goal

pub returns-clause-plain : goal.returns-clause-plain
returns-clause-plain c = empty-result c.args.text.now c.read_text.result c.read_text.ensures.profile c.read_text.ensures.fault

pub returns-clause-clean : goal.returns-clause-clean
returns-clause-clean c = result-clean c.args.text.now c.read_text.result c.read_text.ensures.profile
