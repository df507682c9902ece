-- The lines of a certificate's text.
use Rattle.std.specs.Prelude.{◌≡◌, ℕ, ◌<◌, ◌^◌, List, [], ◌∷◌, ◌++◌, map, flat_map, codes, FitsSigned}
use Rattle.std.specs.Fmt.{decimal}
use Rattle.std.specs.Int.{w128}
use Rattle.std.specs.List.{AllByRecursion}
use Rattle.ipet_program.specs.declared.certificate.Certificate.{Certificate}
use Rattle.ipet_program.specs.declared.certificate.Count.{Count}
use Rattle.ipet_program.specs.declared.certificate.Node.{Node}
use Rattle.ipet_program.specs.declared.certificate.Node.TheVariants.{Split, End}
use Rattle.ipet_program.specs.declared.leaf.Leaf.{Leaf}
use Rattle.ipet_program.specs.declared.leaf.Weight.{Weight}
use Rattle.cert_check.specs.declared.line.Line.{Line}
use Rattle.cert_check.specs.declared.line.Line.TheVariants.{Bound, Reached, Value, Tree, Last}
use Rattle.cert_check.specs.Texts.{count_text, node_text}

-- A line ends with its newline, and has no other one.
abbrev pub line_text : Line → List ℕ
line_text (Bound bound) = codes "bound " ++ decimal bound ++ codes "\n"
line_text (Reached reached) = codes "reached " ++ decimal reached ++ codes "\n"
line_text (Value count) = count_text count
line_text (Tree node) = node_text node
line_text Last = codes "end\n"

-- The numbers fit: columns 32 bits, multipliers and denominators 128 signed bits, all others 64 bits.
abbrev pub FitsCount : Count → Type 0
FitsCount count = (count.column < 2 ^ 32) × (count.number < 2 ^ 64)

abbrev pub FitsWeight : Weight → Type 0
FitsWeight weight = (weight.row < 2 ^ 64) × FitsSigned w128 weight.times

abbrev pub FitsLeaf : Leaf → Type 0
FitsLeaf leaf = FitsSigned w128 leaf.denom × AllByRecursion FitsWeight leaf.weights

abbrev pub FitsNode : Node → Type 0
FitsNode (Split column at) = (column < 2 ^ 32) × (at < 2 ^ 64)
FitsNode (End leaf) = FitsLeaf leaf

abbrev pub FitsLine : Line → Type 0
FitsLine (Bound bound) = bound < 2 ^ 64
FitsLine (Reached reached) = reached < 2 ^ 64
FitsLine (Value count) = FitsCount count
FitsLine (Tree node) = FitsNode node
FitsLine Last = Unit {0}

-- A line stands at the front of bytes, and the rest behind it.
pub record TakesLine (bytes : List ℕ) (line : Line) (rest : List ℕ) : Type 0 where
  pub fits : FitsLine line
  pub is : bytes ≡ line_text line ++ rest

abbrev pub text_of : List Line → List ℕ
text_of lines = flat_map line_text lines

-- The lines of a certificate, in order.
abbrev pub certificate_lines : Certificate → List Line
certificate_lines certificate =
    Bound certificate.bound ∷ (Reached certificate.reached
    ∷ (map Value certificate.counts ++ (map Tree certificate.tree ++ Last ∷ [])))

-- The numbers of a certificate fit, as those of each value of the type do.
abbrev pub Fits : Certificate → Type 0
Fits certificate = AllByRecursion FitsLine (certificate_lines certificate)
