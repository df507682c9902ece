-- The text of a certificate. A line ends with one newline, fields are parted by one space. Numbers are decimal without
-- leading zeros, with `-` for negative ones.
use Rattle.std.specs.Prelude.{ℕ, List, [], ◌++◌, flat_map, codes, if◌then◌else◌}
use Rattle.std.specs.Fmt.{decimal, signed_decimal}
use Rattle.ipet_program.specs.declared.certificate.Certificate.{Certificate}
use Rattle.ipet_program.specs.declared.certificate.Count.{Count}
use Rattle.ipet_program.specs.declared.certificate.Node.{Node}
use Rattle.ipet_program.specs.declared.certificate.Node.TheVariants.{Split, End}
use Rattle.ipet_program.specs.declared.leaf.Leaf.{Leaf}
use Rattle.ipet_program.specs.declared.leaf.Weight.{Weight}

-- `value COLUMN COUNT`
abbrev pub count_text : Count → List ℕ
count_text count = codes "value " ++ decimal count.column ++ codes " " ++ decimal count.number ++ codes "\n"

-- ` ROW:TIMES`
abbrev pub weight_text : Weight → List ℕ
weight_text weight = codes " " ++ decimal weight.row ++ codes ":" ++ signed_decimal weight.times

-- `leaf DENOMINATOR ROW:TIMES ..`, or `empty ROW:TIMES ..` where the leaf shows that there are no counts.
abbrev pub leaf_head : Leaf → List ℕ
leaf_head leaf = if leaf.empty then codes "empty" else codes "leaf " ++ signed_decimal leaf.denom

abbrev pub leaf_text : Leaf → List ℕ
leaf_text leaf = leaf_head leaf ++ flat_map weight_text leaf.weights ++ codes "\n"

-- `split COLUMN AT`
abbrev pub node_text : Node → List ℕ
node_text (Split column at) = codes "split " ++ decimal column ++ codes " " ++ decimal at ++ codes "\n"
node_text (End leaf) = leaf_text leaf

-- A certificate: `bound B`, `reached R`, its counts, its tree, `end`.
abbrev pub certificate_text : Certificate → List ℕ
certificate_text certificate =
    codes "bound " ++ decimal certificate.bound ++ codes "\n"
    ++ codes "reached " ++ decimal certificate.reached ++ codes "\n"
    ++ flat_map count_text certificate.counts
    ++ flat_map node_text certificate.tree
    ++ codes "end\n"
