-- Arcs that enter the scopes of a nested net, and its headers: their innermost scopes are their own loop instances.
use Rattle.std.proofs.Common.{◌≡◌, ℕ, List, [], ◌∷◌, zero, suc, Some, refl, sym, ◌∙◌, subst, inl, inr, arith}
use Rattle.flow_net.specs.Entering.{Enters, IsOutside}
use Rattle.flow_net.specs.Entering.Enters.{run, loop}
use Rattle.flow_net.specs.Numbers.{item_at, IsNumberOf, IsNumberOrZero}
use Rattle.flow_net.specs.Scopes.{IsWithin, Holds, ChainsEnd}
use Rattle.flow_net.specs.Scopes.IsWithin.{here}
use Rattle.flow_net.specs.Paths.{IsPath, IsRunPath}
use Rattle.flow_net.specs.Nested.{IsNested}
use Rattle.flow_net.specs.declared.net.Net.{Net}
use Rattle.flow_net.specs.declared.net.NetArc.{NetArc}
use Rattle.flow_net.specs.declared.net.Place.{Place}
use Rattle.flow_net.specs.declared.net.LoopInst.{LoopInst}
use Rattle.flow_net.proofs.Numbers.{item_at-all, item_at-there}
use Rattle.flow_net.proofs.Within.{within-cases}
use Rattle.flow_net.proofs.Holds.{holds-zero, holds-place, holds-run, holds-through, holds-decided}

-- The arc of this number comes into a scope: it goes from outside to a place that the scope holds.
pub record ComesInto (net : Net) (scope number : ℕ) : Type 0 where
  pub arc : NetArc
  pub there : item_at number net.arcs ≡ Some arc
  pub outside : IsOutside net scope arc.from
  pub inside : Holds net scope arc.to

-- A path from a place that a scope doesn't hold to one that it holds comes into the scope.
pub enters-on_path : (net : Net) (scope : ℕ) → ChainsEnd net.loops → (from : ℕ)
    (numbers : List ℕ) (to : ℕ) → IsPath net.arcs from numbers to →
    IsOutside net scope from → Holds net scope to → (number : ℕ) × ComesInto net scope number
enters-on_path net scope chains from [] to path outside inside =
    absurd (outside (subst (Holds net scope) (sym path) inside))
enters-on_path net scope chains from (number ∷ numbers) to path outside inside =
    let arc = path.1.0 in
    let out_of : IsOutside net scope arc.from =
    λ held. outside (subst (Holds net scope) path.1.2 held) in
    elim (holds-decided net scope arc.to chains)
    as (λ _. (number : ℕ) × ComesInto net scope number) [
      | inl held ↦ (
        number,
        record { arc = arc; there = path.1.1; outside = out_of; inside = held },
      )
      | inr apart ↦ enters-on_path net scope chains arc.to numbers to path.1.3 apart inside
    ]

-- A path of a run to a place that a scope holds comes into the scope.
pub enters-on_run : (net : Net) (scope : ℕ) → ChainsEnd net.loops → (numbers : List ℕ) (to : ℕ) →
    IsRunPath net.arcs numbers to → Holds net scope to → (number : ℕ) × ComesInto net scope number
enters-on_run net scope chains [] to path inside = absurd path
enters-on_run net scope chains (number ∷ numbers) to path inside =
    let arc = path.1.0 in
    let out_of : IsOutside net scope arc.from =
    λ held. holds-zero net scope (subst (Holds net scope) path.1.2 held) in
    elim (holds-decided net scope arc.to chains)
    as (λ _. (number : ℕ) × ComesInto net scope number) [
      | inl held ↦ (
        number,
        record { arc = arc; there = path.1.1; outside = out_of; inside = held },
      )
      | inr apart ↦ enters-on_path net scope chains arc.to numbers to path.1.3 apart inside
    ]

-- Each loop instance has an arc that comes into it.
pub enters-each : (net : Net) → IsNested net → (scope : ℕ) (inst : LoopInst) →
    item_at scope net.loops ≡ Some inst → (number : ℕ) × ComesInto net scope number
enters-each net nested scope inst there =
    let path = nested.entered.reached inst.header
    (item_at-all (λ i. IsNumberOf net.places i.header) net.loops scope inst
    nested.numbers.headers there) in
    enters-on_run net scope nested.scopes.chains path.0 inst.header path.1
    (nested.held scope inst there)

-- The run holds what an arc from 0 goes to.
comes-run : (net : Net) → IsNested net → ComesInto net 0 1
comes-run net nested =
    let first = nested.entered.first in
    let within = item_at-all (λ a. IsNumberOrZero net.places a.to) net.arcs 1 first.0
    nested.numbers.ends first.1 in
    record {
      arc = first.0;
      there = first.1;
      outside = λ held. holds-zero net 0 (subst (Holds net 0) first.2 held);
      inside = holds-run net first.0.to _ nested (item_at-there net.places first.0.to
          (record { context = 0; address = 0; scope = 0 })
          (record { from_one = first.3; within = within }));
    }

-- The arcs that enter a scope come into it.
pub enters-comes : (net : Net) → IsNested net → (scope number : ℕ) → Enters net scope number →
    ComesInto net scope number
enters-comes net nested _ _ run = comes-run net nested
enters-comes net nested _ _ (loop scope number inst arc at there header outside) =
    record {
      arc = arc;
      there = there;
      outside = outside;
      inside = subst (Holds net scope) (sym header) (nested.held scope inst at);
    }

-- A place, or 0, that the run doesn't hold is 0.
outside-run : (net : Net) → IsNested net → (place : ℕ) → IsNumberOrZero net.places place →
    IsOutside net 0 place → place ≡ 0
outside-run net nested zero within outside = refl
outside-run net nested (suc below) within outside =
    absurd (outside (holds-run net (suc below) _ nested (item_at-there net.places (suc below)
    (record { context = 0; address = 0; scope = 0 })
    (record { from_one = omega arith; within = within }))))

-- And those that come into it enter it.
pub comes-enters : (net : Net) → IsNested net → (scope number : ℕ) →
    IsNumberOrZero net.loops scope → ComesInto net scope number → Enters net scope number
comes-enters net nested zero number within comes =
    let from = item_at-all (λ a. IsNumberOrZero net.places a.from) net.arcs number comes.arc
    nested.numbers.starts comes.there in
    let one : number ≡ 1 = nested.entered.only number comes.arc comes.there
    (outside-run net nested comes.arc.from from comes.outside) in
    subst (λ (n : ℕ). Enters net 0 n) (sym one) run
comes-enters net nested (suc below) number within comes =
    let at = item_at-there net.loops (suc below) (record { header = 0; bound = 0; outer = 0 })
    (record { from_one = omega arith; within = within }) in
    loop (suc below) number _ comes.arc at comes.there
    (nested.entering number (suc below) comes.arc _ comes.there at comes.inside comes.outside)
    comes.outside

-- What holds a loop instance's header from within is the instance: an arc that comes into the
-- instance goes to its header, and comes into the inner scope as well, whose header it is too.
pub header-of_inner : (net : Net) → IsNested net → (scope inner : ℕ) (inst below : LoopInst) →
    item_at scope net.loops ≡ Some inst → item_at inner net.loops ≡ Some below →
    IsWithin net.loops scope inner → Holds net inner inst.header → scope ≡ inner
header-of_inner net nested scope inner inst below there also w held =
    let (number, enters) = enters-each net nested scope inst there in
    let to_header : enters.arc.to ≡ inst.header =
    nested.entering number scope enters.arc inst enters.there there enters.inside
    enters.outside in
    let to_inner : enters.arc.to ≡ below.header =
    nested.entering number inner enters.arc below enters.there also
    (subst (Holds net inner) (sym to_header) held)
    (λ from. enters.outside (holds-through net scope inner enters.arc.from w from)) in
    nested.distinct scope inner inst below there also (sym to_header ∙ to_inner)

-- The innermost scope of a header is its own loop instance.
pub header-scope : (net : Net) → IsNested net → (scope : ℕ) (inst : LoopInst) (place : Place) →
    item_at scope net.loops ≡ Some inst → item_at inst.header net.places ≡ Some place →
    place.scope ≡ scope
header-scope net nested scope inst place there at =
    let w = holds-place net scope inst.header place at (nested.held scope inst there) in
    elim (within-cases net.loops scope place.scope w) as (λ _. place.scope ≡ scope) [
      | inl same ↦ same
      | inr inner ↦ sym (header-of_inner net nested scope place.scope inst inner.inst there
          inner.there w (record { place = place; there = at; within = here }))
    ]
