-- The value of the further stages: the sum over their columns is the sum over what the run does.
use Rattle.std.proofs.Common.{◌≡◌, ℕ, zero, suc, ◌+◌, ◌-◌, ◌*◌, ◌<◌, ◌≤◌, Bool, true, false, cond, List, [], ◌∷◌, ◌++◌, length, map, All, Option, Some, refl, sym, ap, ◌∙◌, arith}
use Rattle.std.specs.Prelude.{count_by, sum_by}
use Rattle.std.proofs.lemmas.Int.{ints}
use Rattle.std.proofs.lemmas.List.Sums.{sum_by-cons}
use lib.IntN.{ℤ, pos, ◌+ℤ◌, ◌*ℤ◌}
use Rattle.flow_net.specs.Numbers.{item_at}
use Rattle.flow_net.specs.declared.net.Net.{Net}
use Rattle.net_model.specs.Moments.{Moment, arcs_of}
use Rattle.ipet_program.specs.Counts.{counts_of, cycles_along, value_from}
use Rattle.ipet_program.specs.Leaves.{value_or_zero}
use Rattle.ipet_program.specs.Programs.{arc_value, arc_values}
use Rattle.ipet_program.specs.declared.program.Stage.{Stage}
use Rattle.ipet_program.proofs.Exchange.{IsColumn}
use Rattle.ipet_program.proofs.Numbered.{item_at-numbered, length-numbered}
use Rattle.ipet_program.proofs.Placed.{AreAt}
use Rattle.ipet_program.proofs.RunCounts.{cost-along}
use Rattle.ipet_program.proofs.RunSums.{counts-along}
use Rattle.ipet_program.proofs.StageCounts.{counts-stage, is_miss}
use Rattle.ipet_program.proofs.Totals.{total_to, total_to-same}
use Rattle.ipet_program.proofs.Values.{from_one, value_from-total}

pub value_from-append : (column : ℕ) (counts : ℕ → ℕ) (values others : List ℤ) →
    value_from column counts (values ++ others) ≡ value_from column counts values +ℤ value_from (column + length values) counts others
value_from-append column counts [] others =
    let e : value_from column counts others ≡ value_from (column + 0) counts others =
    ap (λ (n : ℕ). value_from n counts others) (omega arith) in
    omega (arith, ints)
value_from-append column counts (value ∷ values) others =
    let rest = value_from-append (suc column) counts values others in
    let e : value_from (suc column + length values) counts others ≡ value_from (column + length (value ∷ values)) counts others =
    ap (λ (n : ℕ). value_from n counts others) (omega arith) in
    omega (arith, ints)

-- The value of the arcs' columns is the cost of the path.
pub arcs-value : (net : Net) (price : ℕ → ℕ) (stages : List Stage) (moments : List Moment) →
    All (IsColumn (length net.arcs)) (arcs_of moments) →
    value_from 1 (counts_of (length net.arcs) stages moments) (arc_values net price) ≡ pos (cycles_along price net.arcs moments)
arcs-value net price stages moments within =
    let n : ℕ = length net.arcs in
    let values : List ℤ = arc_values net price in
    let counts : ℕ → ℕ = counts_of n stages moments in
    let at : ℕ → ℤ = λ j. value_or_zero (item_at j values) in
    value_from-total 1 counts values at (λ i. let e : suc i ≡ 1 + i = omega arith in ap at e)
    ∙ from_one (length values) (λ j. at j *ℤ pos (counts j))
    ∙ ap (λ (m : ℕ). total_to m (λ j. at j *ℤ pos (counts j))) (length-numbered (λ j. arc_value price (item_at j net.arcs)) n)
    ∙ total_to-same (λ j. at j *ℤ pos (counts j)) (λ j. arc_value price (item_at j net.arcs) *ℤ pos (counts j)) n
    (λ j low high. ap (λ (found : Option ℤ). value_or_zero found *ℤ pos (counts j))
    (item_at-numbered (λ k. arc_value price (item_at k net.arcs)) n j low high))
    ∙ counts-along n stages (λ j. arc_value price (item_at j net.arcs)) moments within
    ∙ cost-along price net.arcs (arcs_of moments)

-- The latency of a stage where the moment goes on to it, and that of all of them.
abbrev pub stage_spent : Moment → Stage → ℕ
stage_spent moment stage = cond (is_miss stage.access stage.level moment) stage.latency 0

abbrev pub stages_spent : List Stage → Moment → ℕ
stages_spent stages moment = sum_by (stage_spent moment) stages

-- One stage, along the run.
one-spent : (stage : Stage) (moments : List Moment) →
    stage.latency * count_by (is_miss stage.access stage.level) moments ≡ sum_by (λ (m : Moment). stage_spent m stage) moments
one-spent stage [] = omega arith
one-spent stage (m ∷ more) =
    let rest = one-spent stage more in
    let count = sum_by-cons (λ (x : Moment). cond (is_miss stage.access stage.level x) 1 0) m more in
    let sum = sum_by-cons (λ (x : Moment). stage_spent x stage) m more in
    let first : stage.latency * (cond (is_miss stage.access stage.level m) 1 0 + count_by (is_miss stage.access stage.level) more)
    ≡ stage_spent m stage + stage.latency * count_by (is_miss stage.access stage.level) more =
    scaled (is_miss stage.access stage.level m) stage.latency (count_by (is_miss stage.access stage.level) more) in
    ap (λ (n : ℕ). stage.latency * n) count ∙ first ∙ omega (arith, rest, sum)
  where
    scaled : (b : Bool) (a n : ℕ) → a * (cond b 1 0 + n) ≡ cond b a 0 + a * n
    scaled true a n = omega arith
    scaled false a n = omega arith

sum-both : (f g : Moment → ℕ) (moments : List Moment) →
    sum_by (λ (m : Moment). f m + g m) moments ≡ sum_by f moments + sum_by g moments
sum-both f g [] = refl
sum-both f g (m ∷ more) =
    let rest = sum-both f g more in
    let both = sum_by-cons (λ (x : Moment). f x + g x) m more in
    let left = sum_by-cons f m more in
    let right = sum_by-cons g m more in
    omega (arith, rest, both, left, right)

pub sum-same : (f g : Moment → ℕ) → ((m : Moment) → f m ≡ g m) → (moments : List Moment) → sum_by f moments ≡ sum_by g moments
sum-same f g same [] = refl
sum-same f g same (m ∷ more) =
    let rest = sum-same f g same more in
    let left = sum_by-cons f m more in
    let right = sum_by-cons g m more in
    let first = same m in
    omega (arith, rest, left, right, first)

none-spent : (moments : List Moment) → sum_by (stages_spent []) moments ≡ 0
none-spent [] = refl
none-spent (m ∷ more) =
    let rest = none-spent more in
    let sum = sum_by-cons (stages_spent []) m more in
    omega (arith, rest, sum)

-- The value of the columns of stages is what the run spends in them.
pub stages-value : (arcs : ℕ) (all : List Stage) (moments : List Moment) → All (IsColumn arcs) (arcs_of moments) →
    (column : ℕ) → arcs < column → (stages : List Stage) → AreAt (λ n. item_at (n - arcs) all) column stages →
    value_from column (counts_of arcs all moments) (map (λ (stage : Stage). pos stage.latency) stages)
    ≡ pos (sum_by (stages_spent stages) moments)
stages-value arcs all moments within column above [] at = ap (λ (n : ℕ). pos n) (sym (none-spent moments))
stages-value arcs all moments within column above (stage ∷ stages) at =
    let rest = stages-value arcs all moments within (suc column) (omega (arith, above)) stages at.1 in
    let is = counts-stage arcs all column stage above at.0 moments within in
    let first : pos stage.latency *ℤ pos (counts_of arcs all moments column)
    ≡ pos (sum_by (λ (m : Moment). stage_spent m stage) moments) =
    product stage.latency (counts_of arcs all moments column)
    ∙ ap (λ (n : ℕ). pos (stage.latency * n)) is ∙ ap (λ (n : ℕ). pos n) (one-spent stage moments) in
    let parts : sum_by (stages_spent (stage ∷ stages)) moments
    ≡ sum_by (λ (m : Moment). stage_spent m stage) moments + sum_by (stages_spent stages) moments =
    sum-same (stages_spent (stage ∷ stages)) (λ m. stage_spent m stage + stages_spent stages m)
    (λ m. sum_by-cons (stage_spent m) stage stages) moments
    ∙ sum-both (λ m. stage_spent m stage) (stages_spent stages) moments in
    omega (arith, ints)
  where
    product : (a b : ℕ) → pos a *ℤ pos b ≡ pos (a * b)
    product a b = refl
