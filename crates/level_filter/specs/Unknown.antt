-- Rows of accesses of whose classes nothing is known.
use Rattle.std.specs.Prelude.{ℕ, zero, suc, List, [], ◌∷◌, map}
use Rattle.age_model.specs.Classes.{chain_length}
use Rattle.cache_config.specs.Chains.{side_of}
use Rattle.flow_net.specs.Letters.{next_letter}
use Rattle.flow_net.specs.declared.letter.Class.TheVariants.{Unclassified}
use Rattle.flow_net.specs.declared.letter.Letter.{Letter}
use Rattle.flow_net.specs.declared.letter.Letter.TheVariants.{Always}
use Rattle.flow_net.specs.declared.letter.Level2.{Level2}
use Rattle.flow_net.specs.declared.net.Access.{Access}
use Rattle.lru_concrete.specs.declared.level.Level.{Level}
use Rattle.net_model.specs.Accesses.{kind_of}

-- From a cache at which the access has this letter on, as many caches: each next letter follows from the one before.
abbrev pub unknown_from : Letter → ℕ → List Level2
unknown_from letter zero = []
unknown_from letter (suc caches) =
    record { letter = letter; class = Unclassified } ∷ unknown_from (next_letter letter Unclassified) caches

-- Such a row for each access.
abbrev pub unknown_row_of : List Level → Access → List Level2
unknown_row_of levels access = unknown_from Always (chain_length levels (side_of (kind_of access.role)))

abbrev pub unknown_rows : List Level → List Access → List (List Level2)
unknown_rows levels accesses = map (unknown_row_of levels) accesses
