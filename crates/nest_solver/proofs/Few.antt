-- A nested net has no more places and loops than arcs.
use Rattle.std.proofs.Common.{◌≡◌, ℕ, zero, suc, ◌+◌, ◌^◌, ◌≤◌, ◌==◌, List, [], ◌∷◌, length, refl, ap, ◌∙◌, subst, inl, inr, arith}
use Rattle.std.proofs.lemmas.Bool.{cases_eq}
use Rattle.flow_net.specs.Nested.{IsNested}
use Rattle.flow_net.specs.Paths.{IsPath, IsRunPath}
use Rattle.flow_net.specs.declared.net.Net.{Net}
use Rattle.flow_net.specs.Numbers.{item_at}
use Rattle.flow_net.proofs.Numbers.{item_at-within}
use Rattle.flow_net.proofs.Headers.{enters-each, header-scope}
use Rattle.ipet_program.specs.Sums.{sum_to}
use Rattle.nest_solver.specs.Nets.{scope_of, shape_of}
use Rattle.nest_solver.specs.Shape.{Shape, IsUpTo}
use Rattle.nest_solver.specs.Counted.{bit}
use Rattle.nest_solver.specs.Tables.{IsFew}
use Rattle.nest_solver.proofs.Sums.{sum-le, sum-none, sum-swap, sum-part}
use Rattle.nest_solver.proofs.Times.{bit_same, bit_other}
use Rattle.nest_solver.proofs.NetShape.{loop-at}
use Rattle.flow_net.specs.Visits.{target_of}

sum_ones : (n : ℕ) → sum_to n (λ i. 1) ≡ n
sum_ones zero = refl
sum_ones (suc n) = omega (arith, sum_ones n)

-- A number goes to one place alone.
pub one_most : (n k : ℕ) → sum_to n (λ p. bit (k == p)) ≤ 1
one_most zero k = omega arith
one_most (suc n) k =
    elim (cases_eq k (suc n)) as (λ _. sum_to n (λ p. bit (k == p)) + bit (k == suc n) ≤ 1) [
      | inl e ↦ omega (
        arith,
        bit_same k (suc n) e,
        sum-none n (λ p. bit (k == p)) (λ p u. bit_other k p (λ f. omega (arith, u, f, e))),
      )
      | inr differ ↦ omega (arith, bit_other k (suc n) differ, one_most n k)
    ]

-- Where each of m numbers is that of some arc's end, there are no more of them than arcs.
few_by : (arcs m : ℕ) (to : ℕ → ℕ) → ((p : ℕ) → IsUpTo m p → (i : ℕ) × IsUpTo arcs i × (to i ≡ p)) → m ≤ arcs
few_by arcs m to each =
    omega (
      arith,
      sum_ones m,
      sum_ones arcs,
      sum-le m (λ p. 1) (λ p. sum_to arcs (λ i. bit (to i == p)))
          (λ p u. let found = each p u in
          omega (arith, bit_same (to found.0) p found.2, sum-part arcs found.0 (λ i. bit (to i == p)) found.1)),
      sum-swap m arcs (λ p i. bit (to i == p)),
      sum-le arcs (λ i. sum_to m (λ p. bit (to i == p))) (λ i. 1) (λ i u. one_most m (to i)),
    )

abbrev ComesTo : Shape → ℕ → Type 0
ComesTo s p = (i : ℕ) × IsUpTo s.arcs i × (s.to i ≡ p)

path_last : (net : Net) (depth headed : ℕ → ℕ) (from : ℕ) (numbers : List ℕ) (to : ℕ) →
    IsPath net.arcs from numbers to → ComesTo (shape_of net depth headed) from → ComesTo (shape_of net depth headed) to
path_last net depth headed from [] to path comes = subst (ComesTo (shape_of net depth headed)) path comes
path_last net depth headed from (number ∷ numbers) to path comes =
    let within = item_at-within net.arcs number path.1.0 path.1.1 in
    path_last net depth headed path.1.0.to numbers to path.1.3
    (number, (within.from_one, within.within), ap target_of path.1.1)

run_last : (net : Net) (depth headed : ℕ → ℕ) (numbers : List ℕ) (to : ℕ) → IsRunPath net.arcs numbers to →
    ComesTo (shape_of net depth headed) to
run_last net depth headed [] to path = absurd path
run_last net depth headed (number ∷ numbers) to path =
    let within = item_at-within net.arcs number path.1.0 path.1.1 in
    path_last net depth headed path.1.0.to numbers to path.1.3
    (number, (within.from_one, within.within), ap target_of path.1.1)

places-few : (net : Net) → IsNested net → length net.places ≤ length net.arcs
places-few net nested =
    few_by (length net.arcs) (length net.places) (shape_of net (λ l. 0) (λ p. 0)).to
    (λ p u. let path = nested.entered.reached p (record { from_one = u.0; within = u.1 }) in
    run_last net (λ l. 0) (λ p. 0) path.0 p path.1)

-- Each loop is entered, at its own header, whose innermost scope it is.
loops-few : (net : Net) → IsNested net → length net.loops ≤ length net.arcs
loops-few net nested =
    few_by (length net.arcs) (length net.loops) (λ i. scope_of (item_at (target_of (item_at i net.arcs)) net.places))
    (λ l u. let loop = loop-at net l u in
    let (number, enters) = enters-each net nested l loop.item loop.there in
    let within = item_at-within net.arcs number enters.arc enters.there in
    let end : enters.arc.to ≡ loop.item.header =
    nested.entering number l enters.arc loop.item enters.there loop.there enters.inside enters.outside in
    let held = nested.held l loop.item loop.there in (
      number,
      (within.from_one, within.within),
      ap (λ found. scope_of (item_at (target_of found) net.places)) enters.there
          ∙ ap (λ (p : ℕ). scope_of (item_at p net.places)) end
          ∙ ap scope_of held.there
          ∙ header-scope net nested l loop.item held.place loop.there held.there,
    ))

-- So few arcs are enough.
pub few_of : (net : Net) → IsNested net → length net.arcs ≤ 2 ^ 28 → IsFew net
few_of net nested few = record {
  arcs = few;
  places = omega (arith, few, places-few net nested);
  loops = omega (arith, few, loops-few net nested);
}
