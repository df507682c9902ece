-- Where a run enters and leaves the scopes of a net.
use Rattle.std.specs.Prelude.{◌≡◌, ℕ, ◌+◌, ◌<◌, ◌↔◌, List, length, AllPairs, Contains, Some, slice_get}
use Rattle.flow_net.specs.Entering.{Enters, IsOutside}
use Rattle.flow_net.specs.Numbers.{item_at}
use Rattle.flow_net.specs.Scopes.{Holds, IsInside, IsWithin}
use Rattle.flow_net.specs.declared.net.LoopInst.{LoopInst}
use Rattle.flow_net.specs.declared.net.Net.{Net}
use Rattle.flow_net.specs.declared.net.NetArc.{NetArc}

-- The arc of this number leaves the scope: it goes from a place that the scope holds to one that it doesn't hold, or to 0.
pub record Leaves (net : Net) (scope number : ℕ) : Type 0 where
  pub arc : NetArc
  pub there : item_at number net.arcs ≡ Some arc
  pub inside : Holds net scope arc.from
  pub outside : IsOutside net scope arc.to

-- The one loop instance that the arc of this number enters, or 0 if it enters none.
abbrev pub IsLoopEntered : Net → (number entered : ℕ) → Type 0
IsLoopEntered net number entered = (scope : ℕ) → 0 < scope → (scope ≡ entered) ↔ Enters net scope number

-- For each arc, in order, the loop instance that it enters.
pub record AreLoopsEntered (net : Net) (scopes : List ℕ) : Type 0 where
  pub size : length scopes ≡ length net.arcs
  pub each : (number entered : ℕ) → item_at number scopes ≡ Some entered → IsLoopEntered net number entered

-- The innermost of the scopes that hold both places.
pub record IsShared (net : Net) (from to scope : ℕ) : Type 0 where
  pub start : Holds net scope from
  pub end : Holds net scope to
  pub innermost : (other : ℕ) → Holds net other from → Holds net other to → IsWithin net.loops other scope

-- The scopes from an inner one outward up to an outer one, which isn't among them.
pub record AreBetween (loops : List LoopInst) (inner outer : ℕ) (scopes : List ℕ) : Type 0 where
  pub each : (scope : ℕ) → Contains scopes scope ↔ (IsWithin loops scope inner × IsInside loops outer scope)
  pub outward : AllPairs (λ here around. IsInside loops around here) scopes

-- The scopes that the arc of this number leaves, each inside those after it.
pub record AreLeft (net : Net) (number : ℕ) (scopes : List ℕ) : Type 0 where
  pub left : (scope : ℕ) → Contains scopes scope ↔ Leaves net scope number
  pub outward : AllPairs (λ inner outer. IsInside net.loops outer inner) scopes

-- For each arc, in order, the scopes that it leaves.
pub record AreScopesLeft (net : Net) (lists : List (List ℕ)) : Type 0 where
  pub size : length lists ≡ length net.arcs
  pub each : (number : ℕ) (scopes : List ℕ) → item_at number lists ≡ Some scopes → AreLeft net number scopes

-- The numbers of the arcs that enter a scope, rising.
pub record AreEntering (net : Net) (scope : ℕ) (numbers : List ℕ) : Type 0 where
  pub enters : (number : ℕ) → Contains numbers number ↔ Enters net scope number
  pub rising : AllPairs ◌<◌ numbers

-- For each scope, the run at first, the numbers of the arcs that enter it.
pub record AreArcsEntering (net : Net) (lists : List (List ℕ)) : Type 0 where
  pub size : length lists ≡ length net.loops + 1
  pub each : (scope : ℕ) (numbers : List ℕ) → slice_get lists scope ≡ Some numbers → AreEntering net scope numbers
