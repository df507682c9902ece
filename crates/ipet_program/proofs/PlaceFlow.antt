-- The flow of places and of loops in their scopes.
use Rattle.std.proofs.Common.{◌≡◌, ℕ, ◌<◌, Bool, true, false, List, length, Option, Some, refl, sym, ap, ◌∙◌, subst, inl, inr, ◌⊎◌, arith}
use Rattle.std.specs.Prelude.{◌==◌, ◌&&◌, not}
use Rattle.std.proofs.lemmas.Bool.{cases_eq}
use Rattle.std.proofs.lemmas.Bool.Decides.{nat_tests}
use Rattle.std.proofs.lemmas.Int.{ints}
use lib.IntN.{ℤ, pos, ◌+ℤ◌, ◌*ℤ◌}
use lib.Signed.{◌≤ℤ◌}
use Rattle.flow_net.specs.Nested.{IsBack, IsNested}
use Rattle.flow_net.specs.Numbers.{item_at}
use Rattle.flow_net.specs.Scopes.{ChainsEnd, Holds, holds_of, IsWithin}
use Rattle.flow_net.specs.Scopes.IsWithin.{here, out}
use Rattle.flow_net.specs.declared.net.LoopInst.{LoopInst}
use Rattle.flow_net.specs.declared.net.Net.{Net}
use Rattle.flow_net.specs.declared.net.NetArc.{NetArc}
use Rattle.flow_net.specs.declared.net.Place.{Place}
use Rattle.flow_net.proofs.Headers.{header-scope}
use Rattle.flow_net.proofs.Holds.{holds-place, holds-through}
use Rattle.flow_net.proofs.Numbers.{item_at-same}
use Rattle.flow_net.proofs.Round.{holds_of-tells}
use Rattle.flow_net.proofs.Within.{within-cases}
use Rattle.ipet_program.specs.Rows.{comes_to, is_entering, loop_factor, one_if}
use Rattle.ipet_program.proofs.FlowSums.{flow, flow-same, flow-sum, into, MeetsFlow}
use Rattle.ipet_program.proofs.ScopeFlow.{AreForwardTo, IsHigh}
use Rattle.ipet_program.proofs.Terms.{row_sum-terms}
use Rattle.ipet_program.proofs.Totals.{total_to-same, total_to-scaled}
use Rattle.ipet_program.proofs.Whole.{mul-assoc}

-- A scope within another one is that one or deeper.
pub within-depth : (loops : List LoopInst) (chains : ChainsEnd loops) (outer inner : ℕ) →
    IsWithin loops outer inner → (inner ≡ outer) ⊎ (chains.depth outer < chains.depth inner)
within-depth loops chains outer _ here = inl refl
within-depth loops chains outer _ (out scope inst there w) =
    let falls = chains.falls scope inst there in
    elim (within-depth loops chains outer inst.outer w)
    as (λ _. (scope ≡ outer) ⊎ (chains.depth outer < chains.depth scope)) [
      | inl same ↦ inr (omega (arith, falls, ap chains.depth same))
      | inr less ↦ inr (omega (arith, falls, less))
    ]

pub within-both : (loops : List LoopInst) → ChainsEnd loops → (one other : ℕ) → IsWithin loops one other →
    IsWithin loops other one → one ≡ other
within-both loops chains one other w v =
    elim (within-depth loops chains one other w) as (λ _. one ≡ other) [
      | inl same ↦ sym same
      | inr less ↦ elim (within-depth loops chains other one v) as (λ _. one ≡ other) [
        | inl same ↦ same
        | inr more ↦ absurd (omega (arith, less, more))
      ]
    ]

-- A place in its innermost scope.
pub high-place : (net : Net) (nested : IsNested net) (number : ℕ) (place : Place) →
    item_at number net.places ≡ Some place → IsHigh net nested place.scope number
high-place net nested number place there =
    record {
      held = record { place = place; there = there; within = here };
      high = λ low. low.apart (within-both net.loops nested.scopes.chains low.inner place.scope
          (holds-place net low.inner number place there low.holds) low.within);
    }

-- The header of a loop in the next scope outward.
pub high-header : (net : Net) (nested : IsNested net) (scope : ℕ) (inst : LoopInst) →
    item_at scope net.loops ≡ Some inst → IsHigh net nested inst.outer inst.header
high-header net nested scope inst there =
    let held = nested.held scope inst there in
    let own : held.place.scope ≡ scope = header-scope net nested scope inst held.place there held.there in
    record {
      held = holds-through net inst.outer scope inst.header (out scope inst there here) held;
      high = λ low.
          let around = subst (IsWithin net.loops low.inner) own
          (holds-place net low.inner inst.header held.place held.there low.holds) in
          elim (within-cases net.loops low.inner scope around) as (λ _. ⊥) [
            | inl same ↦
                let one : low.inst ≡ inst = item_at-same net.loops scope low.inst inst
                (subst (λ (n : ℕ). item_at n net.loops ≡ Some low.inst) (sym same) low.there) there in
                omega (arith, low.low, ap (λ (i : LoopInst). nested.ranks.rank i.header) one)
            | inr below ↦
                let one : below.inst ≡ inst = item_at-same net.loops scope below.inst inst below.there there in
                low.apart (within-both net.loops nested.scopes.chains low.inner inst.outer
                (subst (λ (i : LoopInst). IsWithin net.loops low.inner i.outer) one below.within) low.within)
          ];
    }

-- No back arc goes to a place that isn't the header of its innermost scope.
not-back : (net : Net) (nested : IsNested net) (number : ℕ) (place : Place) →
    item_at number net.places ≡ Some place →
    ((inst : LoopInst) → item_at place.scope net.loops ≡ Some inst → number ≡ inst.header → ⊥) →
    (arc : NetArc) → arc.to ≡ number → IsBack net arc → ⊥
not-back net nested number place there plain arc same back =
    let is : number ≡ back.inst.header = sym same ∙ back.header in
    let own : place.scope ≡ back.scope = header-scope net nested back.scope back.inst place back.there
    (subst (λ (n : ℕ). item_at n net.places ≡ Some place) is there) in
    plain back.inst (subst (λ (n : ℕ). item_at n net.loops ≡ Some back.inst) (sym own) back.there) is

pub forward-into : (net : Net) (nested : IsNested net) (number : ℕ) (place : Place) →
    item_at number net.places ≡ Some place →
    ((inst : LoopInst) → item_at place.scope net.loops ≡ Some inst → number ≡ inst.header → ⊥) →
    AreForwardTo net number (into net number)
forward-into net nested number place there plain =
    λ j arc at. elim (cases_eq arc.to number)
    as (λ _. (into net number j ≡ pos 0)
    ⊎ ((into net number j ≡ pos 1) × (arc.to ≡ number) × (IsBack net arc → ⊥))) [
      | inl same ↦
          let e : (arc.to == number) ≡ true = grind (arith, nat_tests) in
          inr (
            ap (λ (found : Option NetArc). one_if (comes_to number found)) at ∙ ap one_if e,
            same,
            not-back net nested number place there plain arc same,
          )
      | inr differ ↦
          let e : (arc.to == number) ≡ false = grind (arith, nat_tests) in
          inl (ap (λ (found : Option NetArc). one_if (comes_to number found)) at ∙ ap one_if e)
    ]

-- The arcs that enter a loop.
abbrev pub enter : Net → ℕ → LoopInst → ℕ → ℤ
enter net scope inst j = one_if (is_entering (holds_of net scope) inst.header (item_at j net.arcs))

enter-cases : (header to : ℕ) (inside : Bool) →
    (one_if ((to == header) && not inside) ≡ pos 0)
    ⊎ ((one_if ((to == header) && not inside) ≡ pos 1) × (to ≡ header) × (inside ≡ false))
enter-cases header to inside =
    elim (cases_eq to header)
    as (λ _. (one_if ((to == header) && not inside) ≡ pos 0)
    ⊎ ((one_if ((to == header) && not inside) ≡ pos 1) × (to ≡ header) × (inside ≡ false))) [
      | inr differ ↦
          let e : (to == header) ≡ false = grind (arith, nat_tests) in
          inl (ap (λ (test : Bool). one_if (test && not inside)) e)
      | inl same ↦
          let e : (to == header) ≡ true = grind (arith, nat_tests) in
          elim inside
          as (λ (b : Bool). (one_if ((to == header) && not b) ≡ pos 0)
          ⊎ ((one_if ((to == header) && not b) ≡ pos 1) × (to ≡ header) × (b ≡ false))) [
            | true ↦ inl (ap (λ (test : Bool). one_if (test && not true)) e)
            | false ↦ inr (ap (λ (test : Bool). one_if (test && not false)) e, same, refl)
          ]
    ]

true-false : (b : Bool) → b ≡ true → b ≡ false → ⊥
true-false true e f = cc
true-false false e f = cc

pub forward-enter : (net : Net) (nested : IsNested net) (scope : ℕ) (inst : LoopInst) →
    item_at scope net.loops ≡ Some inst →
    AreForwardTo net inst.header (enter net scope inst)
forward-enter net nested scope inst there =
    λ j arc at.
    let value : enter net scope inst j ≡ one_if ((arc.to == inst.header) && not (holds_of net scope arc.from)) =
    ap (λ (found : Option NetArc). one_if (is_entering (holds_of net scope) inst.header found)) at in
    elim (enter-cases inst.header arc.to (holds_of net scope arc.from))
    as (λ _. (enter net scope inst j ≡ pos 0)
    ⊎ ((enter net scope inst j ≡ pos 1) × (arc.to ≡ inst.header) × (IsBack net arc → ⊥))) [
      | inl none ↦ inl (value ∙ none)
      | inr one ↦ inr (
        value ∙ one.0,
        one.1,
        λ back.
            let own : scope ≡ back.scope = nested.distinct scope back.scope inst back.inst there back.there
            (sym one.1 ∙ back.header) in
            true-false (holds_of net scope arc.from)
            ((holds_of-tells net nested.scopes scope arc.from).1 (subst (λ (n : ℕ). Holds net n arc.from) (sym own) back.held)) one.2,
      )
    ]

-- A header is come to at most bound times as often as its loop is entered.
pub header-bound : (net : Net) (counts : ℕ → ℕ) → MeetsFlow net counts →
    (scope : ℕ) (inst : LoopInst) → item_at scope net.loops ≡ Some inst →
    flow net counts (into net inst.header) ≤ℤ (pos inst.bound *ℤ flow net counts (enter net scope inst))
header-bound net counts meets scope inst there =
    let factor = loop_factor net.arcs (holds_of net scope) inst in
    let row = meets.loops scope inst there in
    let sum : flow net counts factor ≡ _ = sym (row_sum-terms counts factor (length net.arcs)) in
    let apart = flow-same net counts (into net inst.header)
    (λ j. factor j +ℤ pos inst.bound *ℤ enter net scope inst j) (λ j low high. omega (arith, ints)) in
    let two = flow-sum net counts factor (λ j. pos inst.bound *ℤ enter net scope inst j) in
    let scaled : flow net counts (λ j. pos inst.bound *ℤ enter net scope inst j)
    ≡ pos inst.bound *ℤ flow net counts (enter net scope inst) =
    total_to-same (λ j. (pos inst.bound *ℤ enter net scope inst j) *ℤ pos (counts j))
    (λ j. pos inst.bound *ℤ (enter net scope inst j *ℤ pos (counts j))) (length net.arcs)
    (λ j low high. mul-assoc (pos inst.bound) (enter net scope inst j) (pos (counts j)))
    ∙ total_to-scaled (pos inst.bound) (λ j. enter net scope inst j *ℤ pos (counts j)) (length net.arcs) in
    omega (arith, ints)
