-- Scopes: the whole run, of number 0, and the loop instances, each of which lies in an outer scope.
use Rattle.std.specs.Prelude.{◌≡◌, ℕ, zero, suc, ◌<◌, ◌↔◌, ◌==◌, Bool, List, [], ◌∷◌, ◌++◌, length, All, AllPairs, Contains, Option, Some, None}
use Rattle.std.specs.List.{list_any}
use Rattle.flow_net.specs.Numbers.{item_at, IsNumberOrZero}
use Rattle.flow_net.specs.declared.net.Net.{Net}
use Rattle.flow_net.specs.declared.net.Place.{Place}
use Rattle.flow_net.specs.declared.net.LoopInst.{LoopInst}

-- A scope is within another one: it is that scope, or its next scope outward is within it. Within a
-- scope that is within a third one is within that one, and of two scopes around one, one is within
-- the other (`within-through` and `within-line` of proofs/Within.antt).
pub data IsWithin (loops : List LoopInst) (outer : ℕ) : ℕ → Type 0 where
  here : IsWithin loops outer outer
  out : (scope : ℕ) (inst : LoopInst) → item_at scope loops ≡ Some inst →
      IsWithin loops outer inst.outer → IsWithin loops outer scope

-- The scope holds the place of this number: the place's innermost scope is within it. No scope
-- holds 0. Of two scopes that hold a place one is within the other, and it can be told of each scope
-- whether it holds a place (`holds-line` and `holds-decided` of proofs/Holds.antt).
pub record Holds (net : Net) (scope number : ℕ) : Type 0 where
  pub place : Place
  pub there : item_at number net.places ≡ Some place
  pub within : IsWithin net.loops scope place.scope

-- Each chain of outer scopes ends: there is a depth for each scope, and it falls on the way outward.
pub record ChainsEnd (loops : List LoopInst) : Type 0 where
  pub depth : ℕ → ℕ
  pub falls : (scope : ℕ) (inst : LoopInst) → item_at scope loops ≡ Some inst →
      depth inst.outer < depth scope

-- The scopes named in the net are its own, and their chains end at 0: each scope is within the run
-- (`within-zero` of proofs/Chains.antt).
pub record HasScopes (net : Net) : Type 0 where
  pub places : All (λ place. IsNumberOrZero net.loops place.scope) net.places
  pub loops : All (λ inst. IsNumberOrZero net.loops inst.outer) net.loops
  pub chains : ChainsEnd net.loops

-- A scope after those round the next scope outward. Where no loop instance has the number, the run is round it alone.
abbrev pub after_outer : (round : ℕ → List ℕ) → (scope : ℕ) → Option LoopInst → List ℕ
after_outer round scope None = 0 ∷ []
after_outer round scope (Some inst) = round inst.outer ++ scope ∷ []

-- The scopes from the run inward to this one, as far as so many steps outward tell.
abbrev pub scopes_to : List LoopInst → (steps scope : ℕ) → List ℕ
scopes_to loops zero scope = 0 ∷ []
scopes_to loops (suc steps) scope = after_outer (scopes_to loops steps) scope (item_at scope loops)

-- The scopes round a place, outermost first: the run, then the loop instances inward to its innermost scope. A chain
-- has no more loop instances than the net. No scope is round what is outside the run.
abbrev pub scopes_of : List LoopInst → Option Place → List ℕ
scopes_of loops None = []
scopes_of loops (Some place) = scopes_to loops (length loops) place.scope

abbrev pub scopes_round : Net → (place : ℕ) → List ℕ
scopes_round net place = scopes_of net.loops (item_at place net.places)

-- Whether a scope holds a place: it is one of those round it.
abbrev pub holds_of : Net → (scope place : ℕ) → Bool
holds_of net scope place = list_any (λ outer. scope == outer) (scopes_round net place)

-- A scope lies inside another one: its next scope outward is within it.
pub record IsInside (loops : List LoopInst) (outer scope : ℕ) : Type 0 where
  pub inst : LoopInst
  pub there : item_at scope loops ≡ Some inst
  pub within : IsWithin loops outer inst.outer

-- The listed scopes are those that hold the place, each inside all that are listed before it.
pub record AreRound (net : Net) (place : ℕ) (scopes : List ℕ) : Type 0 where
  pub held : (scope : ℕ) → Contains scopes scope ↔ Holds net scope place
  pub inward : AllPairs (IsInside net.loops) scopes
