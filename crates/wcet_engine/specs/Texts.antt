-- The printed texts. A line ends with one newline, fields are parted by one space.
use Rattle.std.specs.Prelude.{ℕ, ◌^◌, ◌-◌, true, false, List, [], ◌++◌, flat_map, codes, if◌then◌else◌}
use Rattle.std.specs.Fmt.{decimal, digits, format_spec, padded_integral, signed_decimal}
use Rattle.ipet_program.specs.declared.certificate.Certificate.{Certificate}
use Rattle.ipet_program.specs.declared.certificate.Count.{Count}
use Rattle.ipet_program.specs.declared.certificate.Node.{Node}
use Rattle.ipet_program.specs.declared.certificate.Node.TheVariants.{Split, End}
use Rattle.ipet_program.specs.declared.leaf.Leaf.{Leaf}
use Rattle.ipet_program.specs.declared.leaf.Weight.{Weight}
use Rattle.wcet_engine.specs.declared.analysis.Analysis.{Analysis}
use Rattle.wcet_engine.specs.declared.answer.Answer.{Answer}
use Rattle.wcet_engine.specs.declared.answer.Answer.TheVariants.{Analysed, Refused}
use Rattle.wcet_engine.specs.declared.refusal.Refusal.{Refusal}
use Rattle.wcet_engine.specs.declared.refusal.Spot.{Spot}
use Rattle.wcet_engine.specs.declared.refusal.Spot.TheVariants.{Number, Key}
use Rattle.wcet_engine.specs.declared.words.Command.{Command}
use Rattle.wcet_engine.specs.declared.words.Command.TheVariants.{Analyse, Bound}
use Rattle.wcet_engine.specs.Refusals.{name_of}

-- A number as eight upper-case hexadecimal digits, with zeros in front.
abbrev pub hexadecimal : ℕ → List ℕ
hexadecimal number = padded_integral (format_spec 32 0 4 8 (2 ^ 64 - 1)) false [] (digits 16 true number)

-- A number is printed in hexadecimal digits, a key's path as it is.
abbrev pub spot_text : Spot → List ℕ
spot_text (Number place) = hexadecimal place
spot_text (Key path) = path

-- `refused KIND PLACE`
abbrev pub refusal_text : Refusal → List ℕ
refusal_text refusal =
    codes "refused " ++ name_of refusal.kind ++ codes " " ++ spot_text refusal.spot ++ codes "\n"

-- `value COLUMN COUNT`
abbrev pub count_text : Count → List ℕ
count_text count = codes "value " ++ decimal count.column ++ codes " " ++ decimal count.number ++ codes "\n"

-- ` ROW:TIMES`
abbrev pub weight_text : Weight → List ℕ
weight_text weight = codes " " ++ decimal weight.row ++ codes ":" ++ signed_decimal weight.times

-- `leaf DENOMINATOR ROW:TIMES ..`, or `empty ROW:TIMES ..` where the leaf shows that there are no counts.
abbrev pub leaf_head : Leaf → List ℕ
leaf_head leaf = if leaf.empty then codes "empty" else codes "leaf " ++ signed_decimal leaf.denom

abbrev pub leaf_text : Leaf → List ℕ
leaf_text leaf = leaf_head leaf ++ flat_map weight_text leaf.weights ++ codes "\n"

-- `split COLUMN AT`
abbrev pub node_text : Node → List ℕ
node_text (Split column at) = codes "split " ++ decimal column ++ codes " " ++ decimal at ++ codes "\n"
node_text (End leaf) = leaf_text leaf

-- A certificate: `bound B`, `reached R`, its counts, its tree, `end`.
abbrev pub certificate_text : Certificate → List ℕ
certificate_text certificate =
    codes "bound " ++ decimal certificate.bound ++ codes "\n"
    ++ codes "reached " ++ decimal certificate.reached ++ codes "\n"
    ++ flat_map count_text certificate.counts
    ++ flat_map node_text certificate.tree
    ++ codes "end\n"

-- What `analyse` prints.
abbrev pub analysis_text : Analysis → List ℕ
analysis_text analysis = certificate_text analysis.certificate

-- What `bound` prints: the lines of the same text from `bound` to `end`.
abbrev pub bound_text : Analysis → List ℕ
bound_text analysis = certificate_text analysis.certificate

abbrev pub lines_of : Command → Analysis → List ℕ
lines_of Analyse analysis = analysis_text analysis
lines_of Bound analysis = bound_text analysis

-- The answer to a command.
abbrev pub text_of : Command → Answer → List ℕ
text_of command (Analysed analysis) = lines_of command analysis
text_of command (Refused refusal) = refusal_text refusal
