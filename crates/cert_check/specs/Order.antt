-- Which line may come after which.
use Rattle.std.specs.Prelude.{◌≡◌, ℕ, zero, suc, ◌+◌, ◌&&◌, nat_lt, nat_le, Bool, true, false, List, [], ◌∷◌, Option, Some, None, if◌then◌else◌}
use Rattle.std.specs.List.{AllByRecursion}
use Rattle.ipet_program.specs.declared.certificate.Count.{Count}
use Rattle.ipet_program.specs.declared.certificate.Node.{Node}
use Rattle.ipet_program.specs.declared.certificate.Node.TheVariants.{Split, End}
use Rattle.cert_check.specs.declared.line.Line.{Line}
use Rattle.cert_check.specs.declared.line.Line.TheVariants.{Bound, Reached, Value, Tree, Last}
use Rattle.cert_check.specs.declared.order.State.{State}
use Rattle.cert_check.specs.declared.order.State.TheVariants.{Begin, Bounded, Counts, Trees, Ended}
use Rattle.cert_check.specs.Lines.{FitsLine}

-- The columns of counts rise, and no count is 0.
abbrev pub past_count : (low : ℕ) → Count → Option State
past_count low count =
    if nat_le low count.column && nat_lt 0 count.number then Some (Counts (count.column + 1)) else None

-- A node takes the place of the first tree that is to come; behind a split stand two.
abbrev pub past_node : (left : ℕ) → Node → Option State
past_node zero node = None
past_node (suc left) (Split column at) = Some (Trees (suc (suc left)))
past_node (suc left) (End leaf) = Some (Trees left)

-- `end` stands behind one whole tree.
abbrev pub past_last : (left : ℕ) → Option State
past_last zero = Some Ended
past_last (suc left) = None

abbrev pub next : State → Line → Option State
next Begin (Bound bound) = Some Bounded
next Begin (Reached reached) = None
next Begin (Value count) = None
next Begin (Tree node) = None
next Begin Last = None
next Bounded (Bound bound) = None
next Bounded (Reached reached) = Some (Counts 0)
next Bounded (Value count) = None
next Bounded (Tree node) = None
next Bounded Last = None
next (Counts low) (Bound bound) = None
next (Counts low) (Reached reached) = None
next (Counts low) (Value count) = past_count low count
next (Counts low) (Tree node) = past_node 1 node
next (Counts low) Last = None
next (Trees left) (Bound bound) = None
next (Trees left) (Reached reached) = None
next (Trees left) (Value count) = None
next (Trees left) (Tree node) = past_node left node
next (Trees left) Last = past_last left
next Ended line = None

abbrev pub is_over : State → Bool
is_over Begin = false
is_over Bounded = false
is_over (Counts low) = false
is_over (Trees left) = false
is_over Ended = true

-- How many trees are to come.
abbrev pub left_in : State → ℕ
left_in Begin = 0
left_in Bounded = 0
left_in (Counts low) = 1
left_in (Trees left) = left
left_in Ended = 0
