-- A walk through a tree in preorder: what is to come, and what is told of the nodes.
use Rattle.std.specs.Prelude.{◌≡◌, ℕ, ◌<◌, ◌≤◌, Bool, true, false, List, [], ◌∷◌, ◌++◌, length, reverse, slice_get, sum_by, vec_capacity, Option, Some, None, if◌then◌else◌}
use Rattle.ipet_program.specs.Certificates.{first_part, second_part}
use Rattle.ipet_program.specs.declared.certificate.Certificate.{Certificate}
use Rattle.ipet_program.specs.declared.certificate.Node.{Node}
use Rattle.ipet_program.specs.declared.certificate.Node.TheVariants.{Split, End}
use Rattle.ipet_program.specs.declared.leaf.LeafFault.{LeafFault}
use Rattle.ipet_program.specs.declared.leaf.LeafFault.TheVariants.{Tree, Wide, Dual}
use Rattle.ipet_program.specs.declared.leaf.Side2.{Side2}
use Rattle.ipet_program.specs.declared.program.Program.{Program}
use Rattle.cert_check.specs.declared.scratch.Scratch.{Scratch}
use Rattle.cert_check.specs.Rejects.{Branch, BreaksAt, IsFine, NodeBreaks}

-- How many splits a node is, and how many nodes are splits.
abbrev pub splits_in : Node → ℕ
splits_in (Split column at) = 1
splits_in (End leaf) = 0

abbrev pub splits_of : List Node → ℕ
splits_of nodes = sum_by splits_in nodes

-- The room for a check: a sum for each column of the program, and a place for each split of the tree.
pub record HasRoom (program : Program) (certificate : Certificate) (scratch : Scratch) : Type 0 where
  pub columns : program.columns ≤ length scratch.sums.items
  pub splits : splits_of certificate.tree ≤ vec_capacity scratch.cuts

-- The trees that are to come behind a node, by their cuts: first its own parts.
abbrev pub behind : List Side2 → List (List Side2) → Node → List (List Side2)
behind cuts others (Split column at) =
    (cuts ++ first_part column at ∷ []) ∷ (cuts ++ second_part column at ∷ []) ∷ others
behind cuts others (End leaf) = others

-- The second parts that are still to come, by the cuts of the part where the walk stands, from the innermost outward.
abbrev pub parts : List Side2 → List (List Side2)
parts [] = []
parts (cut ∷ below) =
    if cut.upper then (reverse below ++ second_part cut.column cut.at ∷ []) ∷ parts below else parts below

-- What is to come where the walk stands under these cuts, if anything is.
abbrev pub pending : Bool → List Side2 → List (List Side2)
pending true cuts = cuts ∷ parts (reverse cuts)
pending false cuts = []

-- What is found at a node: nothing where it is fine, or the rule that it breaks first.
abbrev pub Finds : Program → (bound : ℕ) → List Side2 → Node → Option LeafFault → Type 0
Finds program bound cuts node None = IsFine program bound cuts node
Finds program bound cuts node (Some kind) = NodeBreaks program bound cuts node kind

-- The first place of a rule among those before a place, if it is there.
abbrev pub IsFirstOf : Program → (bound : ℕ) → List Branch → LeafFault → (place : ℕ) → Option ℕ → Type 0
IsFirstOf program bound branches kind place None =
    (p : ℕ) → p < place → BreaksAt program bound branches kind p → ⊥
IsFirstOf program bound branches kind place (Some q) =
    (q < place) × BreaksAt program bound branches kind q
    × ((p : ℕ) → p < q → BreaksAt program bound branches kind p → ⊥)

abbrev pub kept : Option ℕ → Bool → ℕ → Option ℕ
kept None here place = if here then Some place else None
kept (Some first) here place = Some first

abbrev pub fault_rank : LeafFault → ℕ
fault_rank Tree = 0
fault_rank Wide = 1
fault_rank Dual = 2

-- What is told of the branches: a rule is broken first at the place, no earlier rule anywhere, nor this one before.
pub record IsFirstFault (program : Program) (bound : ℕ) (branches : List Branch) (kind : LeafFault) (place : ℕ) : Type 0 where
  pub there : BreaksAt program bound branches kind place
  pub within : place < length branches
  pub first : (other : LeafFault) (p : ℕ) → fault_rank other < fault_rank kind →
      BreaksAt program bound branches other p → ⊥
  pub least : (p : ℕ) → p < place → BreaksAt program bound branches kind p → ⊥

-- Nothing is told where all of them are fine.
abbrev pub AreFine : Program → (bound : ℕ) → List Branch → Type 0
AreFine program bound branches =
    (p : ℕ) (branch : Branch) → slice_get branches p ≡ Some branch → IsFine program bound branch.cuts branch.node

abbrev pub Tells : Program → (bound : ℕ) → List Branch → Option (LeafFault × ℕ) → Type 0
Tells program bound branches None = AreFine program bound branches
Tells program bound branches (Some told) = IsFirstFault program bound branches told.0 told.1

abbrev pub told_of : (wide dual : Option ℕ) → Option (LeafFault × ℕ)
told_of (Some wide) dual = Some (Wide, wide)
told_of None (Some dual) = Some (Dual, dual)
told_of None None = None
