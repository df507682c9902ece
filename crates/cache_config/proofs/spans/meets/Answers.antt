use Rattle.std.proofs.Common.{rules}
use Rattle.cache_config.proofs.PlaceLemmas.{second-shared}
use Rattle.cache_config.proofs.spans.meets.Goals as goal

pub returns-then-from-other_end-clause-shared : goal.returns-then-from-other_end-clause-shared
returns-then-from-other_end-clause-shared c =
    second-shared c.args.span c.args.other _ (search rules) (search rules)
