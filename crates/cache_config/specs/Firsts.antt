-- The first of the faults seen so far.
use Rattle.std.specs.Prelude.{◌≡◌, List, [], ◌∷◌, Option, Some, None, if◌then◌else◌}
use Rattle.cache_config.specs.declared.fault.Fault.{Fault}
use Rattle.cache_config.specs.Faults.{is_before}

-- The earlier of the first fault so far and a further one.
abbrev pub earlier : Option Fault → Fault → Option Fault
earlier None fault = Some fault
earlier (Some known) fault = if is_before fault known then Some fault else Some known

-- The first of the faults so far and of further ones.
abbrev pub first_of : Option Fault → List Fault → Option Fault
first_of seen [] = seen
first_of seen (fault ∷ faults) = first_of (earlier seen fault) faults

-- The faults were noted: the first one so far became the first of all.
abbrev pub Notes : Option Fault → List Fault → Option Fault → Type 0
Notes before faults after = after ≡ first_of before faults
