-- Which rule a leaf breaks first, and the least bound that it shows.
use Rattle.std.specs.Prelude.{ℕ, ◌≤◌, List}
use Rattle.ipet_program.specs.Leaves.{FitsLeaf, IsLeaf, KeepsRules, Shows, all_rows}
use Rattle.ipet_program.specs.declared.leaf.Leaf.{Leaf}
use Rattle.ipet_program.specs.declared.leaf.LeafFault.{LeafFault}
use Rattle.ipet_program.specs.declared.leaf.LeafFault.TheVariants.{Tree, Wide, Dual}
use Rattle.ipet_program.specs.declared.leaf.Side2.{Side2}
use Rattle.ipet_program.specs.declared.program.Program.{Program}

-- A rule of the tree is broken; or none is, and a number doesn't fit; or each fits, and the leaf doesn't show the
-- bound, or that there are no counts. No two of these hold of one leaf, and none holds of a valid one.
abbrev pub Breaks : Program → List Side2 → (bound : ℕ) → Leaf → LeafFault → Type 0
Breaks program cuts bound leaf Tree = KeepsRules program cuts leaf → ⊥
Breaks program cuts bound leaf Wide = KeepsRules program cuts leaf × (FitsLeaf program cuts bound leaf → ⊥)
Breaks program cuts bound leaf Dual =
    KeepsRules program cuts leaf
    × FitsLeaf program cuts bound leaf
    × (Shows leaf.empty program (all_rows program cuts) bound leaf → ⊥)

-- The leaf is valid under the bound, and under no lesser one.
pub record IsLeastBound (program : Program) (cuts : List Side2) (leaf : Leaf) (bound : ℕ) : Type 0 where
  pub valid : IsLeaf program cuts bound leaf
  pub least : (other : ℕ) → IsLeaf program cuts other leaf → bound ≤ other
