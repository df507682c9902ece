-- What a solved table of states is: closed along the arcs, and under all that the analysis must not exceed.
use Rattle.std.specs.Prelude.{◌≡◌, ℕ, ◌^◌, ◌<◌, ◌≤◌, Bool, true, List, length, Option, Some, All}
use Rattle.domain_laws.specs.Laws.{IsCeiling}
use Rattle.flow_net.specs.Numbers.{item_at, IsNumberOf, IsNumberOrZero}
use Rattle.flow_net.specs.Paths.{IsRunPath}
use Rattle.flow_net.specs.Scopes.{HasScopes}
use Rattle.flow_net.specs.declared.net.Net.{Net}
use Rattle.flow_net.specs.declared.net.NetArc.{NetArc}
use Rattle.fixpoint.specs.Values.{value_of}

-- The net has its own numbers, a run begins with arc 1 alone, and may come to each place.
pub record IsSolvable (net : Net) : Type 0 where
  pub starts : All (λ arc. IsNumberOrZero net.places arc.from) net.arcs
  pub ends : All (λ arc. IsNumberOrZero net.places arc.to) net.arcs
  pub scopes : HasScopes net
  pub first : (arc : NetArc) × (item_at 1 net.arcs ≡ Some arc) × (arc.from ≡ 0) × (0 < arc.to)
  pub only : (number : ℕ) (arc : NetArc) → item_at number net.arcs ≡ Some arc → arc.from ≡ 0 → number ≡ 1
  pub reached : (place : ℕ) → IsNumberOf net.places place → (numbers : List ℕ) × IsRunPath net.arcs numbers place
  pub few : (length net.places ≤ 65536) × (length net.arcs < 2 ^ 32)

-- A transfer serves each place and each arc of a net.
pub record IsServed (net : Net) (serves_place serves_arc : ℕ → Type 0) : Type 0 where
  pub places : (place : ℕ) → IsNumberOf net.places place → serves_place place
  pub arcs : (number : ℕ) → IsNumberOf net.arcs number → serves_arc number

-- Where the run begins, the start is under the state.
abbrev pub Starts : {D : Type 0} → (D → D → Bool) → List NetArc → D → List (Option D) → Type 0
Starts {D} leq arcs start values =
    (arc : NetArc) (y : D) → item_at 1 arcs ≡ Some arc → value_of values arc.to ≡ Some y → leq start y ≡ true

-- Along each arc between places the outcome is under the next state.
abbrev pub IsClosed : {D : Type 0} → (D → D → Bool) → (stepped moved : ℕ → D → D) → List NetArc → List (Option D) → Type 0
IsClosed {D} leq stepped moved arcs values =
    (number : ℕ) (arc : NetArc) (x y : D) → item_at number arcs ≡ Some arc → 0 < arc.from → 0 < arc.to →
    value_of values arc.from ≡ Some x → value_of values arc.to ≡ Some y →
    leq (moved number (stepped arc.from x)) y ≡ true

-- A test of the states of each place is kept by what happens on the way: by a place and an arc behind it, and by
-- widening.
pub record IsKept {D : Type 0} (P : D → Type 0) (widened : D → D → D) (stepped moved : ℕ → D → D)
    (arcs : List NetArc) (test : ℕ → D → Bool) : Type 0 where
  pub along : (number : ℕ) (arc : NetArc) (x : D) → item_at number arcs ≡ Some arc → 0 < arc.from → 0 < arc.to → P x →
      test arc.from x ≡ true → test arc.to (moved number (stepped arc.from x)) ≡ true
  pub widens : (place : ℕ) (x y : D) → P x → P y → test place x ≡ true → test place y ≡ true →
      test place (widened x y) ≡ true

-- The start passes its test.
abbrev pub PassesFirst : {D : Type 0} → List NetArc → D → (ℕ → D → Bool) → Type 0
PassesFirst arcs start test = (arc : NetArc) → item_at 1 arcs ≡ Some arc → test arc.to start ≡ true

-- A closed table whose states are ceilings.
pub record AreCeilings {D : Type 0} (P : D → Type 0) (leq : D → D → Bool) (widened : D → D → D) (stepped moved : ℕ → D → D)
    (arcs : List NetArc) (start : D) (ceiling : ℕ → D) : Type 0 where
  pub shaped : (place : ℕ) → P (ceiling place)
  pub ceilings : (place : ℕ) → IsCeiling P leq widened (ceiling place)
  pub starts : (arc : NetArc) → item_at 1 arcs ≡ Some arc → leq start (ceiling arc.to) ≡ true
  pub closed : (number : ℕ) (arc : NetArc) → item_at number arcs ≡ Some arc → 0 < arc.from → 0 < arc.to →
      leq (moved number (stepped arc.from (ceiling arc.from))) (ceiling arc.to) ≡ true
