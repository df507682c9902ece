-- How many onward units the units of a function have in all: the targets that are recorded for indirect jumps are no
-- more than the records, and no more than the function's units for each jump; every other unit has at most three.
use Rattle.std.proofs.Common.{◌≡◌, ℕ, suc, ◌+◌, ◌*◌, ◌<◌, ◌≤◌, ◌==◌, ◌⊎◌, inl, inr, Bool, true, false, cond, List, [], ◌∷◌, ◌++◌, length, map, filter, All, AllPairs, Contains, refl, ap, subst, ◌∙◌, arith, nat_le, length-append}
use Rattle.std.specs.Prelude.{sum_by, count_by}
use Rattle.std.proofs.lemmas.Bool.{cases_lt}
use Rattle.std.proofs.lemmas.Bool.Decides.{nat_tests}
use Rattle.std.proofs.lemmas.List.{length-map}
use Rattle.std.proofs.lemmas.List.Elements.{All-contains, All-head, All-tail, All-weaker, Contains-append_cases, Contains-append_left, Contains-append_right}
use Rattle.std.proofs.lemmas.List.Sums.{length-filter, sum_by-cons, sum_by-le, count_by-le-length}
use Rattle.elf_mips.specs.declared.image.Image.{Image}
use Rattle.elf_mips.specs.declared.mark.Mark.{Mark}
use Rattle.mips_decode.specs.declared.instr.BranchOp.{BranchOp}
use Rattle.mips_decode.specs.declared.instr.Instr.{Instr}
use Rattle.mips_decode.specs.declared.instr.Instr.TheVariants.{Three, Shift, HiLo, MulDiv, Imm, Lui, Load, Store, Branch, Jump, JumpReg, JumpLink, Stop}
use Rattle.mips_decode.specs.Transfer.{branch_links, jump_target}
use Rattle.net_model.specs.declared.unit.CodeUnit.{CodeUnit}
use Rattle.net_model.specs.declared.unit.Content.TheVariants.{Unit as Stands}
use Rattle.net_model.specs.Flow.{own_ways, passed_way, ways_on}
use Rattle.net_model.specs.Functions.{GoesOn, next, onward, back}
use Rattle.net_model.specs.Onward.{branch_ways, may_be_passed, may_be_taken, stops}
use Rattle.net_model.specs.Targets.{names_target, targets_at, unit_at}
use Rattle.loop_nest.proofs.Ordered.{cases-in, first-in, later-in, nothing-in, pairs-head, pairs-tail}
use Rattle.unit_graph.specs.Graphs.{IsGraph, IsNode}
use Rattle.unit_graph.specs.declared.graph.Graph.{Graph}
use Rattle.unit_graph.specs.declared.node.Unit.{Unit as Node}

-- An item of a list stands between two parts of it.
record IsSplit (xs : List ℕ) (x : ℕ) : Type 0 where
  front : List ℕ
  behind : List ℕ
  is : xs ≡ front ++ x ∷ behind

split-at : (xs : List ℕ) (x : ℕ) → Contains xs x → IsSplit xs x
split-at [] x there = absurd (nothing-in x there)
split-at (y ∷ ys) x there = by_case (split-at ys x) (cases-in y ys x there) where
  by_case : (Contains ys x → IsSplit ys x) → ((y ≡ x) ⊎ Contains ys x) → IsSplit (y ∷ ys) x
  by_case later (inl here) = record { front = []; behind = ys; is = ap (λ z. z ∷ ys) here }
  by_case later (inr there) =
      let rest = later there in
      record { front = y ∷ rest.front; behind = rest.behind; is = ap (λ zs. y ∷ zs) rest.is }

left-over : (front behind : List ℕ) (x y : ℕ) → (x ≡ y → ⊥) → Contains (front ++ x ∷ behind) y → Contains (front ++ behind) y
left-over front behind x y other there = by_case (Contains-append_cases front (x ∷ behind) y there) where
  by_case : (Contains front y ⊎ Contains (x ∷ behind) y) → Contains (front ++ behind) y
  by_case (inl before) = Contains-append_left front behind y before
  by_case (inr there) =
      elim (cases-in x behind y there) as (λ _. Contains (front ++ behind) y) [
        | inl same ↦ absurd (other same)
        | inr later ↦ Contains-append_right front behind y later
      ]

-- Rising numbers that are all in a list are no more than its items.
pub rising-few : (xs ys : List ℕ) → AllPairs (λ (a b : ℕ). a < b) xs → ((x : ℕ) → Contains xs x → Contains ys x) →
    length xs ≤ length ys
rising-few [] ys rising within = omega arith
rising-few (x ∷ xs) ys rising within =
    let parts = split-at ys x (within x (first-in x xs)) in
    let above : All (λ y. x < y) xs = pairs-head (λ (a b : ℕ). a < b) x xs rising in
    let fewer = rising-few xs (parts.front ++ parts.behind) (pairs-tail (λ (a b : ℕ). a < b) x xs rising)
    (λ y there. left-over parts.front parts.behind x y
    (λ same. let less : x < y = All-contains (λ z. x < z) xs y above there in omega (arith, less, same))
    (subst (λ zs. Contains zs y) parts.is (within y (later-in x xs y there)))) in
    let whole : length ys ≡ length parts.front + suc (length parts.behind) =
    ap length parts.is ∙ length-append parts.front (x ∷ parts.behind) in
    omega (arith, fewer, whole, length-append parts.front parts.behind)

-- The records that name one address, and those of greater addresses.
count-parts : (address : ℕ) (marks : List Mark) →
    count_by (names_target address) marks + count_by (λ (mark : Mark). nat_le (suc address) mark.address) marks
    ≤ count_by (λ (mark : Mark). nat_le address mark.address) marks
count-parts address [] = omega arith
count-parts address (mark ∷ marks) =
    let one : cond (names_target address mark) 1 0 + cond (nat_le (suc address) mark.address) 1 0
    ≤ cond (nat_le address mark.address) 1 0 = one-part address mark in
    omega (
      arith,
      one,
      count-parts address marks,
      sum_by-cons (λ (m : Mark). cond (names_target address m) 1 0) mark marks,
      sum_by-cons (λ (m : Mark). cond (nat_le (suc address) m.address) 1 0) mark marks,
      sum_by-cons (λ (m : Mark). cond (nat_le address m.address) 1 0) mark marks,
    )
  where
    one-part : (address : ℕ) (mark : Mark) →
        cond (names_target address mark) 1 0 + cond (nat_le (suc address) mark.address) 1 0
        ≤ cond (nat_le address mark.address) 1 0
    one-part address mark = grind (arith, nat_tests)

count-lower : (least address : ℕ) (marks : List Mark) → least ≤ address →
    count_by (λ (mark : Mark). nat_le address mark.address) marks ≤ count_by (λ (mark : Mark). nat_le least mark.address) marks
count-lower least address [] below = omega arith
count-lower least address (mark ∷ marks) below =
    let one : cond (nat_le address mark.address) 1 0 ≤ cond (nat_le least mark.address) 1 0 = grind (arith, nat_tests) in
    omega (
      arith,
      one,
      count-lower least address marks below,
      sum_by-cons (λ (m : Mark). cond (nat_le address m.address) 1 0) mark marks,
      sum_by-cons (λ (m : Mark). cond (nat_le least m.address) 1 0) mark marks,
    )

-- How many records name the target of a node's unit.
abbrev pub targets_of : List Mark → Node → ℕ
targets_of marks node = count_by (names_target node.address) marks

-- Over the nodes of different addresses no record counts twice.
targets-few : (marks : List Mark) (least : ℕ) (nodes : List Node) → AllPairs (λ (a b : Node). a.address < b.address) nodes →
    All (λ (node : Node). least ≤ node.address) nodes →
    sum_by (targets_of marks) nodes ≤ count_by (λ (mark : Mark). nat_le least mark.address) marks
targets-few marks least [] rising above = omega arith
targets-few marks least (node ∷ nodes) rising above =
    let before : All (λ (b : Node). node.address < b.address) nodes = pairs-head (λ (a b : Node). a.address < b.address) node nodes rising in
    let rest = targets-few marks (suc node.address) nodes (pairs-tail (λ (a b : Node). a.address < b.address) node nodes rising)
    (All-weaker (λ (b : Node). node.address < b.address) (λ (b : Node). suc node.address ≤ b.address) (λ b less. omega (arith, less)) nodes before) in
    omega (
      arith,
      sum_by-cons (targets_of marks) node nodes,
      rest,
      count-parts node.address marks,
      count-lower least node.address marks (All-head (λ (b : Node). least ≤ b.address) node nodes above),
    )

pub targets-counted : (marks : List Mark) (nodes : List Node) → AllPairs (λ (a b : Node). a.address < b.address) nodes →
    sum_by (targets_of marks) nodes ≤ length marks
targets-counted marks nodes rising =
    omega (
      arith,
      targets-few marks 0 nodes rising (λ k d inside. omega arith),
      count_by-le-length (λ (mark : Mark). nat_le 0 mark.address) marks,
    )

-- A unit has at most two ways, or those that are recorded for it.
passed-few : (op : BranchOp) (rs rt address : ℕ) (b : Bool) → may_be_passed op rs rt ≡ b → length (passed_way op rs rt address) ≤ 1
passed-few op rs rt address true e = rw e (omega arith)
passed-few op rs rt address false e = rw e (omega arith)

branch-few : (op : BranchOp) (rs rt offset address : ℕ) (a b : Bool) → may_be_taken op rs rt ≡ a → may_be_passed op rs rt ≡ b →
    length (branch_ways op rs rt offset address) ≤ 2
branch-few op rs rt offset address true true e f = rw (e, f) (omega arith)
branch-few op rs rt offset address true false e f = rw (e, f) (omega arith)
branch-few op rs rt offset address false true e f = rw (e, f) (omega arith)
branch-few op rs rt offset address false false e f = rw (e, f) (omega arith)

own-few : (image : Image) (instr : Instr) (address : ℕ) →
    length (own_ways image instr address) ≤ 2 + count_by (names_target address) image.marks
own-few image (Three op rd rs rt) address = omega arith
own-few image (Shift op rd rt by) address = omega arith
own-few image (HiLo op at) address = omega arith
own-few image (MulDiv op rs rt) address = omega arith
own-few image (Imm op rt rs imm) address = omega arith
own-few image (Lui rt imm) address = omega arith
own-few image (Load op rt base offset) address = omega arith
own-few image (Store op rt base offset) address = omega arith
own-few image (Stop op code) address = omega arith
own-few image (JumpLink rd rs) address = omega arith
own-few image (Branch op rs rt offset) address = by_link (branch_links op) where
  by_link : (b : Bool) → length (cond b (passed_way op rs rt address) (branch_ways op rs rt offset address))
      ≤ 2 + count_by (names_target address) image.marks
  by_link true = omega (arith, passed-few op rs rt address (may_be_passed op rs rt) refl)
  by_link false = omega (arith, branch-few op rs rt offset address (may_be_taken op rs rt) (may_be_passed op rs rt) refl refl)
own-few image (Jump link index) address = by_link link where
  by_link : (b : Bool) → length (cond b [] (jump_target address index ∷ [])) ≤ 2 + count_by (names_target address) image.marks
  by_link true = omega arith
  by_link false = omega arith
own-few image (JumpReg rs) address = by_return (rs == 31) where
  by_return : (b : Bool) → length (cond b [] (targets_at image address)) ≤ 2 + count_by (names_target address) image.marks
  by_return true = omega arith
  by_return false =
      omega (
        arith,
        length-map (filter (names_target address) image.marks) (λ (mark : Mark). mark.x),
        length-filter (names_target address) image.marks,
      )

ways-few : (image : Image) (unit : CodeUnit) (address : ℕ) →
    length (ways_on image unit address) ≤ 2 + count_by (names_target address) image.marks
ways-few image unit address = by_stop (stops unit) where
  by_stop : (b : Bool) → length (cond b [] (own_ways image unit.instr address)) ≤ 2 + count_by (names_target address) image.marks
  by_stop true = omega arith
  by_stop false = own-few image unit.instr address

-- Where a unit goes on is one of its ways, or stands behind its slot.
pub same-unit : (image : Image) (address : ℕ) (unit other : CodeUnit) → unit_at image address ≡ Stands unit →
    unit_at image address ≡ Stands other → other ≡ unit
same-unit image address unit other stands at = cc

goes-within : (image : Image) (unit : CodeUnit) (address later : ℕ) → unit_at image address ≡ Stands unit →
    GoesOn image address later → Contains (ways_on image unit address ++ (address + 8) ∷ []) later
goes-within image unit address later stands (onward _ _ other at among) =
    Contains-append_left (ways_on image unit address) ((address + 8) ∷ []) later
    (subst (λ (u : CodeUnit). Contains (ways_on image u address) later) (same-unit image address unit other stands at) among)
goes-within image unit address _ stands (back _ callee other at among returns) =
    Contains-append_right (ways_on image unit address) ((address + 8) ∷ []) (address + 8) (first-in (address + 8) [])

-- So a node's onward units are few.
onward-few : (image : Image) (function : ℕ) (node : Node) → IsNode image function node →
    length node.onward ≤ 3 + targets_of image.marks node
onward-few image function node is =
    let ways : List ℕ = ways_on image is.unit node.address in
    omega (
      arith,
      rising-few node.onward (ways ++ (node.address + 8) ∷ []) is.described.onward.rising
          (λ x there. goes-within image is.unit node.address x is.stands (is.described.onward.sound x there)),
      length-append ways ((node.address + 8) ∷ []),
      ways-few image is.unit node.address,
    )

-- And all of them are units of the function.
onward-within : (image : Image) (function : ℕ) (graph : Graph) (node : Node) → IsGraph image function graph →
    IsNode image function node → length node.onward ≤ length graph.units
onward-within image function graph node is at =
    omega (
      arith,
      rising-few node.onward (map (λ (n : Node). n.address) graph.units) at.described.onward.rising
          (λ x there. is.whole x (next function node.address x at.reached (at.described.onward.sound x there))),
      length-map graph.units (λ (n : Node). n.address),
    )

sum-under : (f g : Node → ℕ) (nodes : List Node) → All (λ (node : Node). f node ≤ g node) nodes → sum_by f nodes ≤ sum_by g nodes
sum-under f g [] under = omega arith
sum-under f g (node ∷ nodes) under =
    omega (
      arith,
      sum_by-cons f node nodes,
      sum_by-cons g node nodes,
      All-head (λ (n : Node). f n ≤ g n) node nodes under,
      sum-under f g nodes (All-tail (λ (n : Node). f n ≤ g n) node nodes under),
    )

sum-plus : (f : Node → ℕ) (nodes : List Node) → sum_by (λ (node : Node). 4 + f node) nodes ≡ length nodes * 4 + sum_by f nodes
sum-plus f [] = omega arith
sum-plus f (node ∷ nodes) =
    omega (arith, sum_by-cons f node nodes, sum_by-cons (λ (n : Node). 4 + f n) node nodes, sum-plus f nodes)

-- The onward units of a node and one more.
abbrev pub weight : Node → ℕ
weight node = 1 + length node.onward

few-units : (image : Image) (function : ℕ) (graph : Graph) → IsGraph image function graph → length graph.units ≤ 256 →
    sum_by weight graph.units ≤ length graph.units * 257
few-units image function graph is few =
    sum_by-le weight 257 graph.units (All-weaker (IsNode image function) (λ (node : Node). weight node ≤ 257)
    (λ node at. omega (arith, few, onward-within image function graph node is at)) graph.units is.nodes)

many-units : (image : Image) (function : ℕ) (graph : Graph) → IsGraph image function graph →
    sum_by weight graph.units ≤ length graph.units * 4 + length image.marks
many-units image function graph is =
    omega (
      arith,
      sum-under weight (λ (node : Node). 4 + targets_of image.marks node) graph.units
          (All-weaker (IsNode image function) (λ (node : Node). weight node ≤ 4 + targets_of image.marks node)
          (λ node at. omega (arith, onward-few image function node at)) graph.units is.nodes),
      sum-plus (targets_of image.marks) graph.units,
      targets-counted image.marks graph.units is.rising,
    )

-- The units of a function have at most 259 onward units each, taken together.
pub weights-few : (image : Image) (function : ℕ) (graph : Graph) → IsGraph image function graph →
    length image.marks ≤ 65536 → sum_by weight graph.units ≤ length graph.units * 260
weights-few image function graph is counted = by_size (cases_lt 256 (length graph.units)) where
  by_size : ((256 < length graph.units) ⊎ (length graph.units ≤ 256)) → sum_by weight graph.units ≤ length graph.units * 260
  by_size (inl many) = omega (arith, many-units image function graph is, counted, many)
  by_size (inr few) = omega (arith, few-units image function graph is few, few)
