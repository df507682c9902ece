-- Why a certificate is rejected: the first reason that holds anywhere, at the least line where it holds.
use Rattle.std.specs.Prelude.{◌≡◌, ℕ, ◌+◌, ◌<◌, List, [], ◌∷◌, ◌++◌, length, slice_get, Some}
use Rattle.ipet_program.specs.Certificates.{IsSplit, first_part, second_part}
use Rattle.ipet_program.specs.Counts.{AreCounts}
use Rattle.ipet_program.specs.LeafFaults.{Breaks}
use Rattle.ipet_program.specs.Leaves.{IsLeaf}
use Rattle.ipet_program.specs.declared.certificate.Certificate.{Certificate}
use Rattle.ipet_program.specs.declared.certificate.Node.{Node}
use Rattle.ipet_program.specs.declared.certificate.Node.TheVariants.{Split, End}
use Rattle.ipet_program.specs.declared.leaf.LeafFault.{LeafFault}
use Rattle.ipet_program.specs.declared.leaf.LeafFault.TheVariants as fault
use Rattle.ipet_program.specs.declared.leaf.Side2.{Side2}
use Rattle.ipet_program.specs.declared.program.Program.{Program}
use Rattle.cert_check.specs.declared.reject.Reason.{Reason}
use Rattle.cert_check.specs.declared.reject.Reason.TheVariants as reason
use Rattle.cert_check.specs.declared.reject.Reject.{Reject}

-- A node of a tree under the cuts above it, from the root downward.
pub record Branch : Type 0 where
  pub cuts : List Side2
  pub node : Node

-- The nodes of whole trees in preorder, the trees one behind the other, each under its cuts.
abbrev pub branches_of : List (List Side2) → List Node → List Branch
branches_of others [] = []
branches_of [] (node ∷ more) = []
branches_of (cuts ∷ others) (Split column at ∷ more) =
    record { cuts = cuts; node = Split column at }
    ∷ branches_of ((cuts ++ first_part column at ∷ []) ∷ (cuts ++ second_part column at ∷ []) ∷ others) more
branches_of (cuts ∷ others) (End leaf ∷ more) = record { cuts = cuts; node = End leaf } ∷ branches_of others more

-- A node is valid under its cuts.
abbrev pub IsFine : Program → (bound : ℕ) → List Side2 → Node → Type 0
IsFine program bound cuts (Split column at) = IsSplit program cuts column at
IsFine program bound cuts (End leaf) = IsLeaf program cuts bound leaf

-- The rule that a node breaks first. A split breaks those of the tree alone.
abbrev pub NodeBreaks : Program → (bound : ℕ) → List Side2 → Node → LeafFault → Type 0
NodeBreaks program bound cuts (Split column at) fault.Tree = IsSplit program cuts column at → ⊥
NodeBreaks program bound cuts (Split column at) fault.Wide = ⊥
NodeBreaks program bound cuts (Split column at) fault.Dual = ⊥
NodeBreaks program bound cuts (End leaf) kind = Breaks program cuts bound leaf kind

-- The branch at a place of a list breaks a rule first.
pub record BreaksAt (program : Program) (bound : ℕ) (branches : List Branch) (kind : LeafFault) (place : ℕ) : Type 0 where
  pub branch : Branch
  pub stands : slice_get branches place ≡ Some branch
  pub breaks : NodeBreaks program bound branch.cuts branch.node kind

-- The tree of a certificate, and the line of each node: behind the line that tells what is reached stand the counts'.
abbrev pub branches : Certificate → List Branch
branches certificate = branches_of ([] ∷ []) certificate.tree

abbrev pub line_of : Certificate → (place : ℕ) → ℕ
line_of certificate place = certificate.reached_line + 1 + length certificate.counts + place

-- A node of the certificate's tree breaks a rule first, and this is its line.
pub record NodeOffends (program : Program) (certificate : Certificate) (kind : LeafFault) (line : ℕ) : Type 0 where
  pub place : ℕ
  pub breaks : BreaksAt program certificate.bound (branches certificate) kind place
  pub told : line ≡ line_of certificate place

-- The counts are not those of the value reached. That is told at the line of this value.
pub record CountsOffend (program : Program) (certificate : Certificate) (line : ℕ) : Type 0 where
  pub wrong : AreCounts program certificate.counts certificate.reached → ⊥
  pub told : line ≡ certificate.reached_line

-- A reason holds at a line. Those of the text, the net and the letters are no matter of the certificate itself.
abbrev pub Holds : Program → Certificate → Reason → (line : ℕ) → Type 0
Holds program certificate reason.Text line = ⊥
Holds program certificate reason.Net line = ⊥
Holds program certificate reason.Letters line = ⊥
Holds program certificate reason.Counts line = CountsOffend program certificate line
Holds program certificate reason.Tree line = NodeOffends program certificate fault.Tree line
Holds program certificate reason.Wide line = NodeOffends program certificate fault.Wide line
Holds program certificate reason.Dual line = NodeOffends program certificate fault.Dual line

-- The reason of a rule that a node breaks.
abbrev pub reason_of : LeafFault → Reason
reason_of fault.Tree = reason.Tree
reason_of fault.Wide = reason.Wide
reason_of fault.Dual = reason.Dual

-- The order of the reasons.
abbrev pub rank : Reason → ℕ
rank reason.Text = 0
rank reason.Net = 1
rank reason.Letters = 2
rank reason.Counts = 3
rank reason.Tree = 4
rank reason.Wide = 5
rank reason.Dual = 6

-- What is told: the reason holds at the line, no earlier reason holds anywhere, and this one at no lesser line.
pub record IsReject (program : Program) (certificate : Certificate) (told : Reject) : Type 0 where
  pub holds : Holds program certificate told.reason told.line
  pub first : (other : Reason) (line : ℕ) → rank other < rank told.reason → Holds program certificate other line → ⊥
  pub least : (line : ℕ) → line < told.line → Holds program certificate told.reason line → ⊥
