-- Sums over the columns with a run's counts are sums along its arcs.
use Rattle.std.proofs.Common.{◌≡◌, ℕ, ◌+◌, ◌-◌, ◌≤◌, cond, List, [], ◌∷◌, length, map, All, Some, refl, sym, ap, ◌∙◌, arith}
use Rattle.std.specs.Prelude.{◌==◌, count_by}
use Rattle.std.proofs.lemmas.Bool.Decides.{nat_tests}
use Rattle.std.proofs.lemmas.Int.{ints}
use Rattle.std.proofs.lemmas.List.Elements.{All-cons, All-head, All-nil, All-tail}
use Rattle.std.proofs.lemmas.List.Sums.{sum_by-cons}
use lib.IntN.{ℤ, pos, ◌+ℤ◌, ◌*ℤ◌}
use Rattle.flow_net.specs.Numbers.{item_at}
use Rattle.flow_net.specs.Paths.{IsPath, IsRunPath}
use Rattle.flow_net.specs.declared.net.NetArc.{NetArc}
use Rattle.flow_net.proofs.Numbers.{item_at-within}
use Rattle.net_model.specs.Moments.{arcs_of, Moment}
use Rattle.net_model.specs.Moments.Moment.{Makes, Takes}
use Rattle.ipet_program.specs.Counts.{counts_for, counts_of, goes_on_to}
use Rattle.ipet_program.specs.Leaves.{total}
use Rattle.ipet_program.specs.declared.program.Stage.{Stage}
use Rattle.ipet_program.proofs.Whole.{mul-sum}
use Rattle.ipet_program.proofs.Totals.{total_to, total_to-none, total_to-one, total_to-same, total_to-sum}
use Rattle.ipet_program.proofs.Exchange.{IsColumn}

-- How often a number stands in a list.
abbrev pub times : List ℕ → ℕ → ℕ
times numbers column = count_by (λ (number : ℕ). number == column) numbers

-- The columns of arcs count the arcs of that number, whatever the stages are.
pub counts_of-times : (arcs : ℕ) (stages : List Stage) (moments : List Moment) (column : ℕ) → column ≤ arcs →
    counts_of arcs stages moments column ≡ times (arcs_of moments) column
counts_of-times arcs stages [] column low = refl
counts_of-times arcs stages (Takes arc ∷ more) column low =
    sum_by-cons (λ (m : Moment). cond (counts_for arcs stages column m) 1 0) (Takes arc) more
    ∙ ap (λ (n : ℕ). cond (arc == column) 1 0 + n) (counts_of-times arcs stages more column low)
    ∙ sym (sum_by-cons (λ (number : ℕ). cond (number == column) 1 0) arc (arcs_of more))
counts_of-times arcs stages (Makes access address caches hit ∷ more) column low =
    let rest = counts_of-times arcs stages more column low in
    let sum = sum_by-cons (λ (m : Moment). cond (counts_for arcs stages column m) 1 0) (Makes access address caches hit) more in
    let before : column - arcs ≡ 0 = omega (arith, low) in
    let none : ◌≡◌ {A = ℕ} (cond (counts_for arcs stages column (Makes access address caches hit)) 1 0) 0 =
    ap (λ (n : ℕ). cond (goes_on_to (item_at n stages) access caches hit) 1 0) before in
    omega (arith, rest, sum, none)

own : (number : ℕ) → ◌≡◌ {A = ℕ} (cond (number == number) 1 0) 1
own number = grind (arith, nat_tests)

other : (number column : ℕ) → (column ≡ number → ⊥) →
    ◌≡◌ {A = ℕ} (cond (number == column) 1 0) 0
other number column differ = grind (arith, nat_tests)

-- The sum of what a function gives for a list of numbers.
abbrev pub along : (ℕ → ℤ) → List ℕ → ℤ
along f numbers = total (map f numbers)

times-along : (n : ℕ) (f : ℕ → ℤ) (numbers : List ℕ) → All (IsColumn n) numbers →
    total_to n (λ j. f j *ℤ pos (times numbers j)) ≡ along f numbers
times-along n f [] within = total_to-none (λ j. f j *ℤ pos 0) n (λ j low high. omega (arith, ints))
times-along n f (number ∷ more) within =
    let rest = times-along n f more (All-tail (IsColumn n) number more within) in
    let column : IsColumn n number = All-head (IsColumn n) number more within in
    let apart = total_to-same (λ j. f j *ℤ pos (times (number ∷ more) j))
    (λ j. f j *ℤ pos (cond (number == j) 1 0) +ℤ f j *ℤ pos (times more j)) n
    (λ j low high. ap (λ (m : ℕ). f j *ℤ pos m) (sum_by-cons (λ (k : ℕ). cond (k == j) 1 0) number more)
    ∙ mul-sum (f j) (pos (cond (number == j) 1 0)) (pos (times more j))) in
    let sums = total_to-sum (λ j. f j *ℤ pos (cond (number == j) 1 0)) (λ j. f j *ℤ pos (times more j)) n in
    let one = total_to-one (λ j. f j *ℤ pos (cond (number == j) 1 0)) n number column.0 column.1
    (λ j differ. ap (λ (m : ℕ). f j *ℤ pos m) (other number j differ) ∙ omega (arith, ints)) in
    let first : f number *ℤ pos (cond (number == number) 1 0) ≡ f number =
    ap (λ (m : ℕ). f number *ℤ pos m) (own number) ∙ omega (arith, ints) in
    omega (arith, ints)

-- The sum of factor times count over the columns is the sum of the factors of the arcs that the run takes.
pub counts-along : (n : ℕ) (stages : List Stage) (f : ℕ → ℤ) (moments : List Moment) → All (IsColumn n) (arcs_of moments) →
    total_to n (λ j. f j *ℤ pos (counts_of n stages moments j)) ≡ along f (arcs_of moments)
counts-along n stages f moments within =
    total_to-same (λ j. f j *ℤ pos (counts_of n stages moments j)) (λ j. f j *ℤ pos (times (arcs_of moments) j)) n
    (λ j low high. ap (λ (m : ℕ). f j *ℤ pos m) (counts_of-times n stages moments j high))
    ∙ times-along n f (arcs_of moments) within

-- Arcs of which each begins where the one before it ended.
abbrev pub IsChain : List NetArc → ℕ → List ℕ → ℕ → Type 0
IsChain arcs from [] to = from ≡ to
IsChain arcs from (number ∷ numbers) to =
    (arc : NetArc) × (item_at number arcs ≡ Some arc) × (arc.from ≡ from) × IsChain arcs arc.to numbers to

chain-of_path : (arcs : List NetArc) (from : ℕ) (numbers : List ℕ) (to : ℕ) →
    IsPath arcs from numbers to → IsChain arcs from numbers to
chain-of_path arcs from [] to path = path
chain-of_path arcs from (number ∷ numbers) to path =
    let arc = path.1.0 in
    (arc, path.1.1, path.1.2, chain-of_path arcs arc.to numbers to path.1.3)

pub chain-of_run : (arcs : List NetArc) (numbers : List ℕ) (to : ℕ) → IsRunPath arcs numbers to →
    IsChain arcs 0 numbers to
chain-of_run arcs [] to path = absurd path
chain-of_run arcs (number ∷ numbers) to path =
    let arc = path.1.0 in
    (arc, path.1.1, path.1.2, chain-of_path arcs arc.to numbers to path.1.3)

-- Each of its arcs has a column.
pub chain-columns : (arcs : List NetArc) (from : ℕ) (numbers : List ℕ) (to : ℕ) →
    IsChain arcs from numbers to → All (IsColumn (length arcs)) numbers
chain-columns arcs from [] to chain = All-nil (IsColumn (length arcs))
chain-columns arcs from (number ∷ numbers) to chain =
    let arc = chain.0 in
    let number_of = item_at-within arcs number arc chain.1 in
    All-cons (IsColumn (length arcs)) number numbers (number_of.from_one, number_of.within)
    (chain-columns arcs arc.to numbers to chain.3)
