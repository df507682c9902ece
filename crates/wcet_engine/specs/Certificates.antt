-- The certificates that are printed.
use Rattle.std.specs.Prelude.{◌≡◌, false, pos, List, [], ◌∷◌}
use Rattle.ipet_program.specs.declared.certificate.Node.{Node}
use Rattle.ipet_program.specs.declared.certificate.Node.TheVariants.{End}
use Rattle.ipet_program.specs.declared.leaf.Leaf.{Leaf}

-- A tree of no splits: one leaf, which shows the bound with the denominator 1.
pub record IsOneLeaf (tree : List Node) : Type 0 where
  pub leaf : Leaf
  pub alone : tree ≡ End leaf ∷ []
  pub bounds : leaf.empty ≡ false
  pub whole : leaf.denom ≡ pos 1
