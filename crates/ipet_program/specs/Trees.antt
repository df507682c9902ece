-- Trees in preorder.
use Rattle.std.specs.Prelude.{◌≡◌, ℕ, zero, suc, Bool, true, false, List, [], ◌∷◌}
use Rattle.ipet_program.specs.declared.certificate.Node.{Node}
use Rattle.ipet_program.specs.declared.certificate.Node.TheVariants.{Split, End}

-- Whether the nodes are this many whole trees, one behind the other. Behind a split stand its two parts.
abbrev pub are_trees : ℕ → List Node → Bool
are_trees zero [] = true
are_trees zero (node ∷ more) = false
are_trees (suc left) [] = false
are_trees (suc left) (Split column at ∷ more) = are_trees (suc (suc left)) more
are_trees (suc left) (End leaf ∷ more) = are_trees left more

abbrev pub IsWhole : List Node → Type 0
IsWhole nodes = are_trees 1 nodes ≡ true
