-- How often each loop instance may still come to its header.
use Rattle.std.specs.Prelude.{◌≡◌, ℕ, ◌+◌, ◌↔◌, List, [], ◌∷◌, ◌++◌, length, Some, slice_index}
use Rattle.flow_net.specs.Numbers.{item_at, IsNumberOrZero}
use Rattle.flow_net.specs.Visits.{KeepsBound, KeepsBounds}
use Rattle.flow_net.specs.declared.net.LoopInst.{LoopInst}
use Rattle.flow_net.specs.declared.net.Net.{Net}
use Rattle.image_run.specs.declared.turns.Turns.{Turns}

-- From this place on with so many visits left, further places keep the bound just where they do behind those that
-- were visited.
abbrev pub Tracks : Net → (scope : ℕ) → LoopInst → (visited : List ℕ) → (from left : ℕ) → Type 0
Tracks net scope inst visited from left =
    (more : List ℕ) → KeepsBound net scope inst from left more ↔ KeepsBound net scope inst 0 0 (visited ++ more)

-- There is a number for each loop instance, and one for the run, which isn't used.
pub record IsSized (net : Net) (turns : Turns) : Type 0 where
  pub size : length turns.left.items ≡ length net.loops + 1
  pub from : IsNumberOrZero net.places turns.from

pub record AreTracked (net : Net) (visited : List ℕ) (turns : Turns) : Type 0 where
  pub loops : (scope : ℕ) (inst : LoopInst) → item_at scope net.loops ≡ Some inst →
      Tracks net scope inst visited turns.from (slice_index turns.left.items scope)

-- One visit more.
abbrev pub IsVisited : Net → (before after : Turns) → (place : ℕ) → Type 0
IsVisited net before after place =
    (visited : List ℕ) → AreTracked net visited before → AreTracked net (visited ++ place ∷ []) after

-- A visit that breaks a bound.
abbrev pub IsOver : Net → (before : Turns) → (place : ℕ) → Type 0
IsOver net before place =
    (visited : List ℕ) → AreTracked net visited before → KeepsBounds net (visited ++ place ∷ []) → ⊥

-- What a visit of a loop's header leaves.
abbrev pub IsTurn : Net → (scope : ℕ) → LoopInst → (from left after : ℕ) → Type 0
IsTurn net scope inst from left after =
    (more : List ℕ) → KeepsBound net scope inst inst.header after more ↔ KeepsBound net scope inst from left (inst.header ∷ more)

abbrev pub IsNoTurn : Net → (scope : ℕ) → LoopInst → (from left : ℕ) → Type 0
IsNoTurn net scope inst from left =
    (more : List ℕ) → KeepsBound net scope inst from left (inst.header ∷ more) → ⊥
