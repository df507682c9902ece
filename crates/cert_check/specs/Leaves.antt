-- Leaves at the front of a text.
use Rattle.std.specs.Prelude.{◌≡◌, ℕ, List, ◌++◌}
use Rattle.ipet_program.specs.declared.leaf.Leaf.{Leaf}
use Rattle.cert_check.specs.Lines.{FitsLeaf}
use Rattle.cert_check.specs.Texts.{leaf_text}

-- A leaf's line stands at the front of bytes, and the rest behind it.
pub record TakesLeaf (bytes : List ℕ) (leaf : Leaf) (rest : List ℕ) : Type 0 where
  pub fits : FitsLeaf leaf
  pub is : bytes ≡ leaf_text leaf ++ rest
