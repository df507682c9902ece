-- The counts of a run are feasible for the program of its net, and their value is the run's cycles.
use Rattle.std.proofs.Common.{◌≡◌, ℕ, suc, ◌+◌, Bool, true, false, List, [], ◌∷◌, ◌++◌, length, All, Option, Some, None, refl, sym, ap, ◌∙◌, subst, inl, inr, ◌⊎◌, arith}
use Rattle.std.specs.Prelude.{◌==◌, ◌&&◌, not}
use Rattle.std.proofs.lemmas.Bool.Decides.{nat_tests}
use Rattle.std.proofs.lemmas.Int.{ints}
use Rattle.std.proofs.lemmas.List.Elements.{All-append, All-cons, All-same}
use Rattle.std.proofs.lemmas.List.Sums.{sum_by-cons}
use lib.IntN.{ℤ, pos, ◌-ℤ◌, ◌*ℤ◌}
use lib.Signed.{◌≤ℤ◌}
use Rattle.flow_net.specs.Numbers.{item_at}
use Rattle.flow_net.specs.Paths.{IsPath, IsRunPath}
use Rattle.flow_net.specs.Entering.Enters.{loop}
use Rattle.flow_net.specs.Scopes.{HasScopes, Holds, holds_of}
use Rattle.flow_net.specs.Visits.{KeepsBound, KeepsBounds, target_of, targets_along}
use Rattle.flow_net.specs.Visits.KeepsBound.{passes, enters, returns}
use Rattle.flow_net.specs.declared.net.LoopInst.{LoopInst}
use Rattle.flow_net.specs.declared.net.Net.{Net}
use Rattle.flow_net.specs.declared.net.NetArc.{NetArc}
use Rattle.flow_net.proofs.Numbers.{item_at-same}
use Rattle.flow_net.proofs.Round.{holds_of-tells}
use Rattle.net_model.specs.Moments.{arcs_of, Moment}
use Rattle.ipet_program.specs.Counts.{arc_cost, counts_of, cycles_along, IsFeasible, IsMet, path_cost, row_sum, value_of}
use Rattle.ipet_program.specs.Leaves.{value_at, value_or_zero}
use Rattle.ipet_program.specs.Programs.{arc_value, IsProgramOf}
use Rattle.ipet_program.specs.Rows.{comes_to, entry_row, goes_from, is_entering, loop_factor, loop_row, loop_row_of, one_if, place_factor, place_row, rows_of, terms_of}
use Rattle.ipet_program.specs.Sums.{numbered}
use Rattle.ipet_program.specs.declared.program.Program.{Program}
use Rattle.ipet_program.specs.declared.program.Stage.{Stage}
use Rattle.ipet_program.proofs.Entering.{is_entering-enters}
use Rattle.ipet_program.proofs.Exchange.{IsColumn}
use Rattle.ipet_program.proofs.Numbered.{numbered-all, item_at-numbered, length-numbered}
use Rattle.ipet_program.proofs.RunSums.{along, chain-columns, chain-of_run, counts-along, IsChain}
use Rattle.ipet_program.proofs.Terms.{row_sum-terms}
use Rattle.ipet_program.proofs.Totals.{total_to, total_to-same}
use Rattle.ipet_program.proofs.Values.{value_of-total}

-- ---- The entry's row: arc 1 is taken once, since each later arc comes from a place.
entry-along : (arcs : List NetArc) (first : NetArc) → item_at 1 arcs ≡ Some first → first.from ≡ 0 →
    (from : ℕ) (numbers : List ℕ) (to : ℕ) → IsPath arcs from numbers to →
    along (λ column. one_if (column == 1)) numbers ≡ pos 0
entry-along arcs first there outside from [] to path = refl
entry-along arcs first there outside from (number ∷ numbers) to path =
    let arc = path.1.0 in
    let rest = entry-along arcs first there outside arc.to numbers to path.1.3 in
    let later : number ≡ 1 → ⊥ =
    λ same. let e : arc ≡ first =
    item_at-same arcs 1 arc first (subst (λ (n : ℕ). item_at n arcs ≡ Some arc) same path.1.1) there in
    let from_zero : arc.from ≡ 0 = ap (λ (a : NetArc). a.from) e ∙ outside in
    omega (arith, path.0, path.1.2, from_zero) in
    let none : one_if (number == 1) ≡ pos 0 = grind (arith, nat_tests, later) in
    omega (arith, ints)

entry-run : (arcs : List NetArc) (numbers : List ℕ) (to : ℕ) → IsRunPath arcs numbers to →
    along (λ column. one_if (column == 1)) numbers ≡ pos 1
entry-run arcs [] to path = absurd path
entry-run arcs (number ∷ numbers) to path =
    let arc = path.1.0 in
    let there : item_at 1 arcs ≡ Some arc = subst (λ (n : ℕ). item_at n arcs ≡ Some arc) path.0 path.1.1 in
    let rest = entry-along arcs arc there path.1.2 arc.to numbers to path.1.3 in
    let one : one_if (number == 1) ≡ pos 1 = ap (λ (n : ℕ). one_if (n == 1)) path.0 in
    omega (arith, ints)

-- ---- The rows of places: what comes in goes out, but at the ends.
place-along : (arcs : List NetArc) (place from : ℕ) (numbers : List ℕ) (to : ℕ) → IsChain arcs from numbers to →
    along (place_factor arcs place) numbers ≡ one_if (to == place) -ℤ one_if (from == place)
place-along arcs place from [] to chain =
    let e : one_if (from == place) ≡ one_if (to == place) = ap (λ (n : ℕ). one_if (n == place)) chain in
    omega (arith, ints)
place-along arcs place from (number ∷ numbers) to chain =
    let arc = chain.0 in
    let rest = place-along arcs place arc.to numbers to chain.3 in
    let first : place_factor arcs place number ≡ one_if (arc.to == place) -ℤ one_if (arc.from == place) =
    ap (λ (found : Option NetArc). one_if (comes_to place found) -ℤ one_if (goes_from place found)) chain.1 in
    let same : one_if (arc.from == place) ≡ one_if (from == place) =
    ap (λ (n : ℕ). one_if (n == place)) chain.2 in
    omega (arith, ints)

-- ---- The rows of loop instances.
-- How a run goes on to a place: past the header, into the instance, or back to the header.
pub record Passes (net : Net) (scope : ℕ) (inst : LoopInst) (left to : ℕ) (more : List ℕ) : Type 0 where
  pub elsewhere : to ≡ inst.header → ⊥
  pub rest : KeepsBound net scope inst to left more

pub record GoesIn (net : Net) (scope : ℕ) (inst : LoopInst) (from to : ℕ) (more : List ℕ) : Type 0 where
  pub outside : Holds net scope from → ⊥
  pub header : to ≡ inst.header
  pub turns : ℕ
  pub bound : inst.bound ≡ suc turns
  pub rest : KeepsBound net scope inst to turns more

pub record Returns (net : Net) (scope : ℕ) (inst : LoopInst) (from left to : ℕ) (more : List ℕ) : Type 0 where
  pub inside : Holds net scope from
  pub header : to ≡ inst.header
  pub fewer : ℕ
  pub turns : left ≡ suc fewer
  pub rest : KeepsBound net scope inst to fewer more

keeps-first : (net : Net) (scope : ℕ) (inst : LoopInst) (from left to : ℕ) (more : List ℕ) →
    KeepsBound net scope inst from left (to ∷ more) →
    Passes net scope inst left to more
    ⊎ (GoesIn net scope inst from to more ⊎ Returns net scope inst from left to more)
keeps-first net scope inst from left to more (passes _ _ _ _ elsewhere rest) =
    inl (record { elsewhere = elsewhere; rest = rest })
keeps-first net scope inst from left _ more (enters _ _ turns _ outside bound rest) =
    inr (inl (record { outside = outside; header = refl; turns = turns; bound = bound; rest = rest }))
keeps-first net scope inst from _ _ more (returns _ fewer _ inside rest) =
    inr (inr (record { inside = inside; header = refl; fewer = fewer; turns = refl; rest = rest }))

not-held : (test : Bool) → (test ≡ true → ⊥) → test ≡ false
not-held true h = absurd (h refl)
not-held false h = refl

-- The factor of an arc in the row of an instance, by where it goes to and whether it comes from inside.
abbrev visit_factor : (header bound : ℕ) → (to : ℕ) → (inside : Bool) → ℤ
visit_factor header bound to inside =
    one_if (to == header) -ℤ pos bound *ℤ one_if ((to == header) && not inside)

factor-elsewhere : (header bound to : ℕ) (inside : Bool) → (to ≡ header → ⊥) →
    visit_factor header bound to inside ≡ pos 0
factor-elsewhere header bound to inside differ =
    let e : (to == header) ≡ false = grind (arith, nat_tests) in
    ap (λ (test : Bool). one_if test -ℤ pos bound *ℤ one_if (test && not inside)) e ∙ omega (arith, ints)

factor-header : (header bound to : ℕ) (inside : Bool) → to ≡ header →
    visit_factor header bound to inside ≡ pos 1 -ℤ pos bound *ℤ one_if (not inside)
factor-header header bound to inside same =
    let e : (to == header) ≡ true = grind (arith, nat_tests) in
    ap (λ (test : Bool). one_if test -ℤ pos bound *ℤ one_if (test && not inside)) e

-- From one entering on, a header is visited at most bound times as often as its instance is entered anew, and
-- as often as is left of the first one.
loop-along : (net : Net) → HasScopes net → (scope : ℕ) (inst : LoopInst) → item_at scope net.loops ≡ Some inst →
    (from left : ℕ) (numbers : List ℕ) (to : ℕ) → IsChain net.arcs from numbers to →
    KeepsBound net scope inst from left (targets_along net.arcs numbers) →
    along (loop_factor net.arcs (holds_of net scope) inst) numbers ≤ℤ pos left
loop-along net scopes scope inst at from left [] to chain keeps = omega (arith, ints)
loop-along net scopes scope inst at from left (number ∷ numbers) to chain keeps =
    let held = holds_of net scope in
    let arc = chain.0 in
    let onward = targets_along net.arcs numbers in
    let goes : KeepsBound net scope inst from left (arc.to ∷ onward) =
    subst (λ (found : Option NetArc). KeepsBound net scope inst from left (target_of found ∷ onward)) chain.1 keeps in
    let first : loop_factor net.arcs held inst number ≡ visit_factor inst.header inst.bound arc.to (held arc.from) =
    ap (λ (found : Option NetArc).
    one_if (comes_to inst.header found) -ℤ pos inst.bound *ℤ one_if (is_entering held inst.header found)) chain.1 in
    elim (keeps-first net scope inst from left arc.to onward goes)
    as (λ _. along (loop_factor net.arcs (holds_of net scope) inst) (number ∷ numbers) ≤ℤ pos left) [
      | inl past ↦
          let rest = loop-along net scopes scope inst at arc.to left numbers to chain.3 past.rest in
          let none = factor-elsewhere inst.header inst.bound arc.to (held arc.from) past.elsewhere in
          omega (arith, ints)
      | inr (inl into) ↦
          let rest = loop-along net scopes scope inst at arc.to into.turns numbers to chain.3 into.rest in
          let comes : (arc.to == inst.header) ≡ true = (let header = into.header in grind (arith, nat_tests)) in
          let entered = (is_entering-enters net scopes scope number inst at).1
          (loop scope number inst arc at chain.1 into.header
          (λ inside. into.outside (subst (Holds net scope) chain.2 inside))) in
          let factor : loop_factor net.arcs held inst number ≡ pos 1 -ℤ pos inst.bound *ℤ pos 1 =
          ap (λ (test : Bool). one_if (comes_to inst.header (item_at number net.arcs)) -ℤ pos inst.bound *ℤ one_if test)
          entered
          ∙ ap (λ (found : Option NetArc). one_if (comes_to inst.header found) -ℤ pos inst.bound *ℤ pos 1) chain.1
          ∙ ap (λ (test : Bool). one_if test -ℤ pos inst.bound *ℤ pos 1) comes in
          let many = into.bound in
          omega (arith, ints)
      | inr (inr back) ↦
          let rest = loop-along net scopes scope inst at arc.to back.fewer numbers to chain.3 back.rest in
          let factor = factor-header inst.header inst.bound arc.to (held arc.from) back.header in
          let inside : held arc.from ≡ true =
          (holds_of-tells net scopes scope arc.from).1 (subst (Holds net scope) (sym chain.2) back.inside) in
          let entered : pos inst.bound *ℤ one_if (not (held arc.from)) ≡ pos inst.bound *ℤ pos 0 =
          ap (λ (test : Bool). pos inst.bound *ℤ one_if (not test)) inside in
          let many = back.turns in
          omega (arith, ints)
    ]

-- A row that is written by its factors, with the counts of a run.
pub row-along : (factor : ℕ → ℤ) (n : ℕ) (stages : List Stage) (moments : List Moment) → All (IsColumn n) (arcs_of moments) →
    row_sum (counts_of n stages moments) (terms_of factor n) ≡ along factor (arcs_of moments)
row-along factor n stages moments within =
    row_sum-terms (counts_of n stages moments) factor n ∙ counts-along n stages factor moments within

loop-met : (net : Net) → HasScopes net → (stages : List Stage) (moments : List Moment) →
    IsChain net.arcs 0 (arcs_of moments) 0 → KeepsBounds net (targets_along net.arcs (arcs_of moments)) →
    (scope : ℕ) (found : Option LoopInst) → item_at scope net.loops ≡ found →
    IsMet (counts_of (length net.arcs) stages moments) (loop_row_of net.arcs (holds_of net scope) found)
loop-met net scopes stages moments chain keeps scope None there = omega (arith, ints)
loop-met net scopes stages moments chain keeps scope (Some inst) there =
    let sum = row-along (loop_factor net.arcs (holds_of net scope) inst) (length net.arcs) stages moments
    (chain-columns net.arcs 0 (arcs_of moments) 0 chain) in
    let most = loop-along net scopes scope inst there 0 0 (arcs_of moments) 0 chain (keeps scope inst there) in
    omega (arith, ints)

pub rows-met : (net : Net) → HasScopes net → (stages : List Stage) (moments : List Moment) →
    IsRunPath net.arcs (arcs_of moments) 0 → KeepsBounds net (targets_along net.arcs (arcs_of moments)) →
    All (IsMet (counts_of (length net.arcs) stages moments)) (rows_of net)
rows-met net scopes stages moments path keeps =
    let chain = chain-of_run net.arcs (arcs_of moments) 0 path in
    let within = chain-columns net.arcs 0 (arcs_of moments) 0 chain in
    let places = numbered (place_row net.arcs) (length net.places) in
    let loops = numbered (loop_row net) (length net.loops) in
    All-cons (IsMet (counts_of (length net.arcs) stages moments)) (entry_row (length net.arcs)) (places ++ loops)
    (row-along (λ column. one_if (column == 1)) (length net.arcs) stages moments within
    ∙ entry-run net.arcs (arcs_of moments) 0 path)
    (All-append (IsMet (counts_of (length net.arcs) stages moments)) places loops
    (numbered-all (IsMet (counts_of (length net.arcs) stages moments)) (place_row net.arcs) (length net.places)
    (λ place low high. row-along (place_factor net.arcs place) (length net.arcs) stages moments within
    ∙ place-along net.arcs place 0 (arcs_of moments) 0 chain
    ∙ omega (arith, ints)))
    (numbered-all (IsMet (counts_of (length net.arcs) stages moments)) (loop_row net) (length net.loops)
    (λ scope low high. loop-met net scopes stages moments chain keeps scope (item_at scope net.loops) refl)))

-- ---- The value.
value-cost : (price : ℕ → ℕ) (found : Option NetArc) → arc_value price found ≡ pos (arc_cost price found)
value-cost price None = refl
value-cost price (Some arc) = refl

pub cost-along : (price : ℕ → ℕ) (arcs : List NetArc) (numbers : List ℕ) →
    along (λ column. arc_value price (item_at column arcs)) numbers ≡ pos (path_cost price arcs numbers)
cost-along price arcs [] = refl
cost-along price arcs (number ∷ numbers) =
    let rest = cost-along price arcs numbers in
    let first = value-cost price (item_at number arcs) in
    let sum : path_cost price arcs (number ∷ numbers)
    ≡ arc_cost price (item_at number arcs) + path_cost price arcs numbers =
    sum_by-cons (λ (n : ℕ). arc_cost price (item_at n arcs)) number numbers in
    omega (arith, ints)

-- The value of a column of a program is that of its arc.
pub value_at-arc : (net : Net) (price : ℕ → ℕ) (program : Program) → IsProgramOf net price program →
    (column : ℕ) → IsColumn (length net.arcs) column →
    value_at program column ≡ arc_value price (item_at column net.arcs)
value_at-arc net price program is column within =
    ap (λ (values : List ℤ). value_or_zero (item_at column values)) is.value
    ∙ ap value_or_zero (item_at-numbered (λ j. arc_value price (item_at j net.arcs)) (length net.arcs) column
    within.0 within.1)

pub length-value : (net : Net) (price : ℕ → ℕ) (program : Program) → IsProgramOf net price program →
    length program.value ≡ program.columns
length-value net price program is =
    ap length is.value
    ∙ length-numbered (λ j. arc_value price (item_at j net.arcs)) (length net.arcs) ∙ sym is.columns

value-run : (net : Net) (price : ℕ → ℕ) (program : Program) → IsProgramOf net price program →
    (stages : List Stage) (moments : List Moment) → All (IsColumn (length net.arcs)) (arcs_of moments) →
    value_of program (counts_of (length net.arcs) stages moments) ≡ pos (cycles_along price net.arcs moments)
value-run net price program is stages moments within =
    let counts : ℕ → ℕ = counts_of (length net.arcs) stages moments in
    value_of-total program counts (length-value net price program is)
    ∙ ap (λ (n : ℕ). total_to n (λ j. value_at program j *ℤ pos (counts j))) is.columns
    ∙ total_to-same (λ j. value_at program j *ℤ pos (counts j))
    (λ j. arc_value price (item_at j net.arcs) *ℤ pos (counts j)) (length net.arcs)
    (λ j low high. ap (λ (z : ℤ). z *ℤ pos (counts j))
    (value_at-arc net price program is j (low, high)))
    ∙ counts-along (length net.arcs) stages (λ j. arc_value price (item_at j net.arcs)) moments within
    ∙ cost-along price net.arcs (arcs_of moments)

-- The counts of a run: they are feasible, and their value is its cycles.
pub record AreRunCounts (net : Net) (price : ℕ → ℕ) (program : Program) (moments : List Moment) : Type 0 where
  pub feasible : IsFeasible program (counts_of (length net.arcs) program.stages moments)
  pub value : value_of program (counts_of (length net.arcs) program.stages moments) ≡ pos (cycles_along price net.arcs moments)

-- A run that goes from arc 1 to an arc to 0 and keeps the bounds of the loops has counts that are feasible for
-- the program of the net, and their value is its cycles.
pub run-counts : (net : Net) → HasScopes net → (price : ℕ → ℕ) (program : Program) → IsProgramOf net price program →
    (moments : List Moment) → IsRunPath net.arcs (arcs_of moments) 0 →
    KeepsBounds net (targets_along net.arcs (arcs_of moments)) → AreRunCounts net price program moments
run-counts net scopes price program is moments path keeps =
    record {
      feasible = All-same (IsMet (counts_of (length net.arcs) program.stages moments)) program.rows (rows_of net) is.rows
          (rows-met net scopes program.stages moments path keeps);
      value = value-run net price program is program.stages moments
          (chain-columns net.arcs 0 (arcs_of moments) 0 (chain-of_run net.arcs (arcs_of moments) 0 path));
    }
