-- Runs over plain values: lists of states that the unit step joins.
use Rattle.std.specs.Prelude.{◌≡◌, ℕ, ◌<◌, List, [], ◌∷◌, length, Option}
use Rattle.mips_decode.specs.State.{State, return_address}
use Rattle.mips_decode.specs.Step.{Stepped, Went, Returned, Trapped, value_step}

-- A unit's step leads to a state, after which the run has these further states: none where the entry returned.
abbrev pub Joins : Stepped → State → List State → Type 0
Joins (Went done t) next later = t ≡ next
Joins (Returned done t) next later = (t ≡ next) × (later ≡ [])
Joins (Trapped kind address) next later = ⊥

-- A run from a state: the states after each of its units, in order. It may stop at any state.
abbrev pub IsRun : (ℕ → Option ℕ) → State → List State → Type 0
IsRun code s [] = Unit {0}
IsRun code s (t ∷ later) = Joins (value_step code s) t later × IsRun code t later

-- The state at which a run stops.
abbrev pub last_state : State → List State → State
last_state s [] = s
last_state s (t ∷ later) = last_state t later

-- A run has returned where it did a unit and its next unit would be at the place of return.
pub record HasReturned (s : State) (states : List State) : Type 0 where
  pub moved : 0 < length states
  pub place : (last_state s states).pc ≡ return_address
