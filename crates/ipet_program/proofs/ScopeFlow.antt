-- What comes to a place of a scope, or into a loop right inside it, is at most what comes to the scope's header; in
-- the run, at most what begins it.
use Rattle.std.proofs.Common.{◌≡◌, ℕ, zero, suc, ◌≤◌, ◌<◌, Bool, true, false, length, Option, Some, refl, sym, ap, ◌∙◌, subst, inl, inr, ◌⊎◌, arith}
use Rattle.std.specs.Prelude.{◌==◌}
use Rattle.std.proofs.lemmas.Bool.{cases_eq}
use Rattle.std.proofs.lemmas.Bool.Decides.{nat_tests}
use Rattle.std.proofs.lemmas.Int.{ints}
use Rattle.std.proofs.lemmas.Option.{none-some}
use lib.IntN.{ℤ, pos, ◌+ℤ◌}
use lib.Signed.{◌≤ℤ◌}
use Rattle.flow_net.specs.Nested.{IsBack, IsNested}
use Rattle.flow_net.specs.Numbers.{item_at}
use Rattle.flow_net.specs.Scopes.{Holds}
use Rattle.flow_net.specs.declared.net.LoopInst.{LoopInst}
use Rattle.flow_net.specs.declared.net.Net.{Net}
use Rattle.flow_net.specs.declared.net.NetArc.{NetArc}
use Rattle.flow_net.proofs.Holds.{holds-decided, holds-zero}
use Rattle.flow_net.proofs.Numbers.{item_at-same}
use Rattle.ipet_program.specs.Rows.{comes_to, goes_from, one_if}
use Rattle.ipet_program.proofs.FlowSums.{cut, flow, into, MeetsFlow, out_of}
use Rattle.ipet_program.proofs.Low.{InLow, IsLow, low-arc, low-back, low-decided}

-- 1 where it holds, else 0.
mark_of : {P : Type 0} → P ⊎ (P → ⊥) → ℤ
mark_of (inl holds) = pos 1
mark_of (inr fails) = pos 0

mark-order : {P Q : Type 0} (less more : ℤ) (to : P ⊎ (P → ⊥)) (from : Q ⊎ (Q → ⊥)) → pos 0 ≤ℤ more →
    (less ≡ pos 0) ⊎ ((less ≡ pos 1) × (P → ⊥) × (Q ⊎ (more ≡ pos 1))) → (P → (Q → ⊥) → more ≡ pos 1) →
    (less +ℤ mark_of to) ≤ℤ (mark_of from +ℤ more)
unfolding mark_of
mark-order less more (inl p) (inl q) low (inl none) inside = omega (arith, ints)
mark-order less more (inl p) (inl q) low (inr one) inside = absurd (one.1 p)
mark-order less more (inl p) (inr q) low (inl none) inside = let e = inside p q in omega (arith, ints)
mark-order less more (inl p) (inr q) low (inr one) inside = absurd (one.1 p)
mark-order less more (inr p) (inl q) low (inl none) inside = omega (arith, ints)
mark-order less more (inr p) (inl q) low (inr one) inside = let e = one.0 in omega (arith, ints)
mark-order less more (inr p) (inr q) low (inl none) inside = omega (arith, ints)
mark-order less more (inr p) (inr q) low (inr one) inside =
    elim one.2 as (λ _. (less +ℤ pos 0) ≤ℤ (pos 0 +ℤ more)) [
      | inl holds ↦ absurd (q holds)
      | inr e ↦ let f = one.0 in omega (arith, ints)
    ]

mark-none : {P : Type 0} (d : P ⊎ (P → ⊥)) → (P → ⊥) → mark_of d ≡ pos 0
unfolding mark_of
mark-none (inl p) fails = absurd (fails p)
mark-none (inr q) fails = refl

one_if-low : (test : Bool) → pos 0 ≤ℤ one_if test
one_if-low true = omega (arith, ints)
one_if-low false = omega (arith, ints)

-- The arcs that are counted go to one place, and none of them is a back arc.
abbrev pub AreForwardTo : Net → ℕ → (ℕ → ℤ) → Type 0
AreForwardTo net place factor =
    (j : ℕ) (arc : NetArc) → item_at j net.arcs ≡ Some arc →
    (factor j ≡ pos 0) ⊎ ((factor j ≡ pos 1) × (arc.to ≡ place) × (IsBack net arc → ⊥))

-- A place of a scope that isn't low below its own rank, nor the scope's header.
pub record IsHigh (net : Net) (nested : IsNested net) (scope place : ℕ) : Type 0 where
  pub held : Holds net scope place
  pub high : InLow net nested.ranks.rank scope (nested.ranks.rank place) place → ⊥

high-low : (net : Net) (nested : IsNested net) (scope place : ℕ) → IsHigh net nested scope place →
    IsLow net nested.ranks.rank scope (nested.ranks.rank place) place → ⊥
high-low net nested scope place high low = elim low.low as (λ _. ⊥) [
  | inl below ↦ omega (arith, below)
  | inr inside ↦ high.high inside
]

positive : (net : Net) (scope place : ℕ) → Holds net scope place → 0 < place
positive net scope zero held = absurd (holds-zero net scope held)
positive net scope (suc n) held = omega arith

-- A forward arc from inside the scope to a place comes from below its rank.
forward-low : (net : Net) (nested : IsNested net) (scope place j : ℕ) (arc : NetArc) →
    item_at j net.arcs ≡ Some arc → Holds net scope place → arc.to ≡ place → (IsBack net arc → ⊥) →
    Holds net scope arc.from → IsLow net nested.ranks.rank scope (nested.ranks.rank place) arc.from
forward-low net nested scope place j arc there held same forward from =
    let rank = nested.ranks.rank in
    let up = nested.ranks.rises j arc there (positive net scope arc.from from)
    (omega (arith, positive net scope place held, same)) forward in
    record { held = from; low = inl (omega (arith, up, ap rank same)) }

-- ---- In a loop instance.
module _ (net : Net) (nested : IsNested net) (counts : ℕ → ℕ)
    (meets : MeetsFlow net counts) (scope : ℕ) (inst : LoopInst) (at : item_at scope net.loops ≡ Some inst) where
  to-header : (limit j : ℕ) (arc : NetArc) → item_at j net.arcs ≡ Some arc →
      IsLow net nested.ranks.rank scope limit arc.to →
      (IsLow net nested.ranks.rank scope limit arc.from → ⊥) → arc.to ≡ inst.header
  to-header limit j arc there low free =
      elim (holds-decided net scope arc.from nested.scopes.chains) as (λ _. arc.to ≡ inst.header) [
        | inr outside ↦ nested.entering j scope arc inst there at low.held outside
        | inl inside ↦ elim (cases_eq arc.to inst.header) as (λ _. arc.to ≡ inst.header) [
          | inl same ↦ same
          | inr differ ↦ absurd (low-arc net nested scope limit j arc there (positive net scope arc.from inside)
              (positive net scope arc.to low.held) inside low free
              (λ back.
              let own = low-back net nested scope limit arc back inside low free in
              let one : back.inst ≡ inst = item_at-same net.loops scope back.inst inst
              (subst (λ (n : ℕ). item_at n net.loops ≡ Some back.inst) own back.there) at in
              differ (back.header ∙ ap (λ (i : LoopInst). i.header) one)))
        ]
      ]

  into-one : (j : ℕ) (arc : NetArc) → item_at j net.arcs ≡ Some arc → arc.to ≡ inst.header →
      into net inst.header j ≡ pos 1
  into-one j arc there same =
      let e : (arc.to == inst.header) ≡ true = grind (arith, nat_tests) in
      ap (λ (found : Option NetArc). one_if (comes_to inst.header found)) there ∙ ap one_if e

  pub loop-flow : (place : ℕ) (factor : ℕ → ℤ) → IsHigh net nested scope place →
      (place ≡ inst.header → ⊥) → AreForwardTo net place factor →
      flow net counts factor ≤ℤ flow net counts (into net inst.header)
  loop-flow place factor high differ forward =
      let rank = nested.ranks.rank in
      let limit = rank place in
      let tell = λ (q : ℕ). low-decided net rank scope limit q nested.scopes.chains in
      cut net nested.numbers counts meets (λ q. mark_of (tell q))
      (mark-none (tell 0) (λ low. holds-zero net scope low.held)) factor (into net inst.header)
      (λ j arc there. mark-order (factor j) (into net inst.header j) (tell arc.to) (tell arc.from)
      (one_if-low (comes_to inst.header (item_at j net.arcs)))
      (elim (forward j arc there)
      as (λ _. (factor j ≡ pos 0) ⊎ ((factor j ≡ pos 1) × (IsLow net rank scope limit arc.to → ⊥)
      × (IsLow net rank scope limit arc.from ⊎ (into net inst.header j ≡ pos 1)))) [
        | inl none ↦ inl none
        | inr one ↦ inr (
          one.0,
          λ low. high-low net nested scope place high
              (subst (IsLow net rank scope limit) one.1 low),
          inl (elim (holds-decided net scope arc.from nested.scopes.chains)
              as (λ _. IsLow net rank scope limit arc.from) [
                | inl inside ↦ forward-low net nested scope place j arc there high.held one.1 one.2 inside
                | inr outside ↦ absurd (differ (sym one.1 ∙ nested.entering j scope arc inst there at
                    (subst (Holds net scope) (sym one.1) high.held) outside))
              ]),
        )
      ])
      (λ low free. into-one j arc there (to-header limit j arc there low free)))

-- ---- In the run.
module _ (net : Net) (nested : IsNested net) (counts : ℕ → ℕ)
    (meets : MeetsFlow net counts) where
  from-zero : (limit j : ℕ) (arc : NetArc) → item_at j net.arcs ≡ Some arc → (held : (place : ℕ) → 0 < place →
      place ≤ length net.places → Holds net 0 place) → arc.from ≤ length net.places →
      IsLow net nested.ranks.rank 0 limit arc.to →
      (IsLow net nested.ranks.rank 0 limit arc.from → ⊥) → arc.from ≡ 0
  from-zero limit j arc there held within low free =
      elim (cases_eq arc.from 0) as (λ _. arc.from ≡ 0) [
        | inl same ↦ same
        | inr differ ↦
            let inside = held arc.from (omega (arith, differ)) within in
            absurd (low-arc net nested 0 limit j arc there (omega (arith, differ)) (positive net 0 arc.to low.held) inside
            low free
            (λ back.
            let own = low-back net nested 0 limit arc back inside low free in
            none-some back.inst (subst (λ (n : ℕ). item_at n net.loops ≡ Some back.inst) own back.there)))
      ]

  out-one : (j : ℕ) (arc : NetArc) → item_at j net.arcs ≡ Some arc → arc.from ≡ 0 → out_of net 0 j ≡ pos 1
  out-one j arc there same =
      let e : (arc.from == 0) ≡ true = grind (arith, nat_tests) in
      ap (λ (found : Option NetArc). one_if (goes_from 0 found)) there ∙ ap one_if e

  pub run-flow : (held : (place : ℕ) → 0 < place → place ≤ length net.places → Holds net 0 place) →
      (starts : (j : ℕ) (arc : NetArc) → item_at j net.arcs ≡ Some arc → arc.from ≤ length net.places) →
      (place : ℕ) (factor : ℕ → ℤ) → IsHigh net nested 0 place → AreForwardTo net place factor →
      flow net counts factor ≤ℤ flow net counts (out_of net 0)
  run-flow held starts place factor high forward =
      let rank = nested.ranks.rank in
      let limit = rank place in
      let tell = λ (q : ℕ). low-decided net rank 0 limit q nested.scopes.chains in
      cut net nested.numbers counts meets (λ q. mark_of (tell q))
      (mark-none (tell 0) (λ low. holds-zero net 0 low.held)) factor (out_of net 0)
      (λ j arc there. mark-order (factor j) (out_of net 0 j) (tell arc.to) (tell arc.from)
      (one_if-low (goes_from 0 (item_at j net.arcs)))
      (elim (forward j arc there)
      as (λ _. (factor j ≡ pos 0) ⊎ ((factor j ≡ pos 1) × (IsLow net rank 0 limit arc.to → ⊥)
      × (IsLow net rank 0 limit arc.from ⊎ (out_of net 0 j ≡ pos 1)))) [
        | inl none ↦ inl none
        | inr one ↦ inr (
          one.0,
          λ low. high-low net nested 0 place high (subst (IsLow net rank 0 limit) one.1 low),
          (elim (cases_eq arc.from 0)
              as (λ _. IsLow net rank 0 limit arc.from ⊎ (out_of net 0 j ≡ pos 1)) [
                | inl outside ↦ inr (out-one j arc there outside)
                | inr inside ↦ inl (forward-low net nested 0 place j arc there high.held one.1 one.2
                    (held arc.from (omega (arith, inside)) (starts j arc there)))
              ]),
        )
      ])
      (λ low free. out-one j arc there (from-zero limit j arc there held (starts j arc there) low free)))
