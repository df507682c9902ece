-- The joint rules that the code holds.
use Rattle.cache_config.specs.declared.arrays.Joint.{Joint}
use Rattle.cache_config.specs.declared.arrays.Joint.TheVariants.{Apart, ShortChains}
use Rattle.cache_config.specs.Faults.{JointRule, chain_rule, place_rule}

-- The rule that one of the code is.
abbrev pub rule_of : Joint → JointRule
rule_of (Apart stack) = place_rule stack
rule_of ShortChains = chain_rule
