-- The places of a scope that lie low: below a rank, or in an inner loop whose header is below it.
use Rattle.std.proofs.Common.{◌≡◌, ℕ, zero, suc, ◌≤◌, ◌<◌, length, Option, Some, None, refl, sym, ap, ◌∙◌, subst, inl, inr, ◌⊎◌, arith}
use Rattle.std.proofs.lemmas.Bool.{cases_eq, cases_lt}
use Rattle.std.proofs.lemmas.Option.{none-some}
use Rattle.flow_net.specs.Nested.{IsBack, IsNested}
use Rattle.flow_net.specs.Numbers.{item_at}
use Rattle.flow_net.specs.Scopes.{ChainsEnd, Holds, IsWithin}
use Rattle.flow_net.specs.declared.net.LoopInst.{LoopInst}
use Rattle.flow_net.specs.declared.net.Net.{Net}
use Rattle.flow_net.specs.declared.net.NetArc.{NetArc}
use Rattle.flow_net.proofs.Chains.{within-decided}
use Rattle.flow_net.proofs.Headers.{header-scope}
use Rattle.flow_net.proofs.Holds.{holds-decided, holds-place, holds-through}
use Rattle.flow_net.proofs.Numbers.{item_at-same, item_at-within}

-- A loop strictly inside the scope holds the place, and its header is below the rank.
pub record InLow (net : Net) (rank : ℕ → ℕ) (scope limit place : ℕ) : Type 0 where
  pub inner : ℕ
  pub inst : LoopInst
  pub there : item_at inner net.loops ≡ Some inst
  pub within : IsWithin net.loops scope inner
  pub apart : inner ≡ scope → ⊥
  pub holds : Holds net inner place
  pub low : rank inst.header < limit

pub record IsLow (net : Net) (rank : ℕ → ℕ) (scope limit place : ℕ) : Type 0 where
  pub held : Holds net scope place
  pub low : (rank place < limit) ⊎ InLow net rank scope limit place

-- ---- It can be told of each place.
in_at : (net : Net) (rank : ℕ → ℕ) (scope limit place inner : ℕ) → ChainsEnd net.loops →
    (found : Option LoopInst) → item_at inner net.loops ≡ found →
    InLow net rank scope limit place
    ⊎ ((low : InLow net rank scope limit place) → low.inner ≡ inner → ⊥)
in_at net rank scope limit place inner chains None e =
    inr (λ low same. none-some low.inst
    (sym e ∙ subst (λ (n : ℕ). item_at n net.loops ≡ Some low.inst) same low.there))
in_at net rank scope limit place inner chains (Some inst) e =
    elim (within-decided net.loops chains scope inner)
    as (λ _. InLow net rank scope limit place ⊎ ((low : InLow net rank scope limit place) → low.inner ≡ inner → ⊥)) [
      | inr outside ↦ inr (λ low same. outside (subst (IsWithin net.loops scope) same low.within))
      | inl within ↦ elim (cases_eq inner scope)
          as (λ _. InLow net rank scope limit place ⊎ ((low : InLow net rank scope limit place) → low.inner ≡ inner → ⊥)) [
            | inl own ↦ inr (λ low same. low.apart (same ∙ own))
            | inr apart ↦ elim (holds-decided net inner place chains)
                as (λ _. InLow net rank scope limit place ⊎ ((low : InLow net rank scope limit place) → low.inner ≡ inner → ⊥)) [
                  | inr free ↦ inr (λ low same. free (subst (λ (n : ℕ). Holds net n place) same low.holds))
                  | inl holds ↦ elim (cases_lt (rank inst.header) limit)
                      as (λ _. InLow net rank scope limit place ⊎ ((low : InLow net rank scope limit place) → low.inner ≡ inner → ⊥)) [
                        | inl low ↦ inl (record {
                          inner = inner;
                          inst = inst;
                          there = e;
                          within = within;
                          apart = apart;
                          holds = holds;
                          low = low;
                        })
                        | inr high ↦ inr (λ low same.
                            let one : low.inst ≡ inst = item_at-same net.loops inner low.inst inst
                            (subst (λ (n : ℕ). item_at n net.loops ≡ Some low.inst) same low.there) e in
                            omega (arith, high, low.low, ap (λ (i : LoopInst). rank i.header) one))
                      ]
                ]
          ]
    ]

in_upto : (net : Net) (rank : ℕ → ℕ) (scope limit place : ℕ) → ChainsEnd net.loops → (n : ℕ) →
    InLow net rank scope limit place
    ⊎ ((low : InLow net rank scope limit place) → low.inner ≤ n → ⊥)
in_upto net rank scope limit place chains zero =
    inr (λ low small. omega (arith, small, (item_at-within net.loops low.inner low.inst low.there).from_one))
in_upto net rank scope limit place chains (suc n) =
    elim (in_upto net rank scope limit place chains n)
    as (λ _. InLow net rank scope limit place ⊎ ((low : InLow net rank scope limit place) → low.inner ≤ suc n → ⊥)) [
      | inl low ↦ inl low
      | inr less ↦ elim (in_at net rank scope limit place (suc n) chains (item_at (suc n) net.loops) refl)
          as (λ _. InLow net rank scope limit place ⊎ ((low : InLow net rank scope limit place) → low.inner ≤ suc n → ⊥)) [
            | inl low ↦ inl low
            | inr other ↦ inr (λ low small. elim (cases_eq low.inner (suc n)) as (λ _. ⊥) [
              | inl same ↦ other low same
              | inr differ ↦ less low (omega (arith, small, differ))
            ])
          ]
    ]

in_decided : (net : Net) (rank : ℕ → ℕ) (scope limit place : ℕ) → ChainsEnd net.loops →
    InLow net rank scope limit place ⊎ (InLow net rank scope limit place → ⊥)
in_decided net rank scope limit place chains =
    elim (in_upto net rank scope limit place chains (length net.loops))
    as (λ _. InLow net rank scope limit place ⊎ (InLow net rank scope limit place → ⊥)) [
      | inl low ↦ inl low
      | inr less ↦ inr (λ low. less low (item_at-within net.loops low.inner low.inst low.there).within)
    ]

pub low-decided : (net : Net) (rank : ℕ → ℕ) (scope limit place : ℕ) → ChainsEnd net.loops →
    IsLow net rank scope limit place ⊎ (IsLow net rank scope limit place → ⊥)
low-decided net rank scope limit place chains =
    elim (holds-decided net scope place chains)
    as (λ _. IsLow net rank scope limit place ⊎ (IsLow net rank scope limit place → ⊥)) [
      | inr free ↦ inr (λ low. free low.held)
      | inl held ↦ elim (cases_lt (rank place) limit)
          as (λ _. IsLow net rank scope limit place ⊎ (IsLow net rank scope limit place → ⊥)) [
            | inl below ↦ inl (record { held = held; low = inl below })
            | inr above ↦ elim (in_decided net rank scope limit place chains)
                as (λ _. IsLow net rank scope limit place ⊎ (IsLow net rank scope limit place → ⊥)) [
                  | inl inside ↦ inl (record { held = held; low = inr inside })
                  | inr none ↦ inr (λ low. elim low.low as (λ _. ⊥) [
                    | inl below ↦ omega (arith, above, below)
                    | inr inside ↦ none inside
                  ])
                ]
          ]
    ]

-- ---- An arc that comes to a low place from inside the scope but not from a low place goes to the scope's header.
-- The scope that a place's innermost scope and another one around the place are within one another.
pub back-scope : (net : Net) → IsNested net → (scope place : ℕ) (back : ℕ) (inst : LoopInst) →
    item_at back net.loops ≡ Some inst → place ≡ inst.header → Holds net scope place →
    IsWithin net.loops scope back
back-scope net nested scope place back inst there same held =
    let at = holds-place net scope place held.place held.there held in
    let own : held.place.scope ≡ back = header-scope net nested back inst held.place there
    (subst (λ (n : ℕ). item_at n net.places ≡ Some held.place) same held.there) in
    subst (IsWithin net.loops scope) own at

pub low-arc : (net : Net) (nested : IsNested net) (scope limit number : ℕ) (arc : NetArc) →
    item_at number net.arcs ≡ Some arc → 0 < arc.from → 0 < arc.to → Holds net scope arc.from →
    IsLow net nested.ranks.rank scope limit arc.to →
    (IsLow net nested.ranks.rank scope limit arc.from → ⊥) → (IsBack net arc → ⊥) → ⊥
low-arc net nested scope limit number arc there from to held low free forward =
    let rank = nested.ranks.rank in
    let rises = nested.ranks.rises number arc there from to forward in
    elim low.low as (λ _. ⊥) [
      | inl below ↦ free (record { held = held; low = inl (omega (arith, rises, below)) })
      | inr inside ↦ elim (holds-decided net inside.inner arc.from nested.scopes.chains) as (λ _. ⊥) [
        | inl both ↦ free (record {
          held = held;
          low = inr (record {
            inner = inside.inner;
            inst = inside.inst;
            there = inside.there;
            within = inside.within;
            apart = inside.apart;
            holds = both;
            low = inside.low;
          });
        })
        | inr apart ↦
            let header = nested.entering number inside.inner arc inside.inst there inside.there inside.holds apart in
            free (record {
              held = held;
              low = inl (omega (arith, rises, inside.low, ap rank header));
            })
      ]
    ]

-- A back arc to a low place comes from a low one, but for one to the scope's own header.
pub low-back : (net : Net) (nested : IsNested net) (scope limit : ℕ) (arc : NetArc) (back : IsBack net arc) →
    Holds net scope arc.from → IsLow net nested.ranks.rank scope limit arc.to →
    (IsLow net nested.ranks.rank scope limit arc.from → ⊥) → back.scope ≡ scope
low-back net nested scope limit arc back held low free =
    let rank = nested.ranks.rank in
    let within = back-scope net nested scope arc.to back.scope back.inst back.there back.header low.held in
    elim (cases_eq back.scope scope) as (λ _. back.scope ≡ scope) [
      | inl same ↦ same
      | inr apart ↦ absurd (elim low.low as (λ _. ⊥) [
        | inl below ↦ free (record {
          held = held;
          low = inr (record {
            inner = back.scope;
            inst = back.inst;
            there = back.there;
            within = within;
            apart = apart;
            holds = back.held;
            low = omega (arith, below, ap rank back.header);
          });
        })
        | inr inside ↦
            let around = back-scope net nested inside.inner arc.to back.scope back.inst back.there back.header inside.holds in
            free (record {
              held = held;
              low = inr (record {
                inner = inside.inner;
                inst = inside.inst;
                there = inside.there;
                within = inside.within;
                apart = inside.apart;
                holds = holds-through net inside.inner back.scope arc.from around back.held;
                low = inside.low;
              });
            })
      ])
    ]
