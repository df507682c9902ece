-- Contexts that are made breadth first, and the places of their units.
use Rattle.std.specs.Prelude.{◌≡◌, ℕ, suc, ◌+◌, ◌<◌, ◌≤◌, List, length, drop, take, sum_by, All, AllPairs, Contains, Some, slice_get}
use Rattle.flow_net.specs.declared.net.Context.{Context}
use Rattle.net_model.specs.Contexts.{IsContextBefore, made_by, root}
use Rattle.step_table.specs.Numbers.{number_of}
use Rattle.step_table.specs.Table.{IsWithin}
use Rattle.call_contexts.specs.Counting.{AddsAlong, IsTotalOfFirst, call_of, ones_for, steps_of}
use Rattle.call_contexts.specs.Layout.{IsMadeAs}
use Rattle.call_contexts.specs.Sizes.{IsCallAfter}
use Rattle.call_contexts.specs.declared.calls.Called.{Called}
use Rattle.call_contexts.specs.declared.layout.Layout.{Layout}

-- The context that a call makes.
abbrev pub context_of : (parent : ℕ) → Called → Context
context_of parent called = made_by parent called.site called.target

-- The calls of a list by rising sites and, for each site, by rising functions.
abbrev pub RiseCalls : List Called → Type 0
RiseCalls calls = AllPairs (λ (a b : Called). IsCallAfter (call_of a) (call_of b)) calls

-- The calls of a context's function.
pub record HasCalls (lists : List (List Called)) (functions : List ℕ) (context : ℕ) (calls : List Called) : Type 0 where
  pub function : ℕ
  pub is : slice_get functions context ≡ Some function
  pub listed : slice_get lists function ≡ Some calls

-- A context is made by a call in an earlier one, one of the first few.
pub record IsMadeIn (lists : List (List Called)) (functions : List ℕ) (done number : ℕ) (context : Context) : Type 0 where
  pub earlier : context.parent < number
  pub among : context.parent < done
  pub calls : List Called
  pub has : HasCalls lists functions context.parent calls
  pub one : Called
  pub listed : Contains calls one
  pub same : context_of context.parent one ≡ context
  pub function : slice_get functions number ≡ Some one.graph

-- The contexts from an entry on, with the positions of their functions' lists of calls, once the first few of them
-- have made theirs.
pub record AreExpanded (entry : ℕ) (lists : List (List Called)) (contexts : List Context) (functions : List ℕ) (done : ℕ) : Type 0 where
  pub sized : length functions ≡ length contexts
  pub first : slice_get contexts 0 ≡ Some (root entry)
  pub start : slice_get functions 0 ≡ Some 0
  pub within : All (λ function. function < length lists) functions
  pub made : (number : ℕ) (context : Context) → slice_get contexts number ≡ Some context → 0 < number →
      IsMadeIn lists functions done number context
  pub whole : (parent : ℕ) (calls : List Called) (one : Called) → parent < done → HasCalls lists functions parent calls →
      Contains calls one → (number : ℕ) × IsMadeAs contexts parent one.site one.target number
  pub order : AllPairs IsContextBefore (drop 1 contexts)

-- Each number of the first position is made up of those of the contexts: of those that have made theirs their own
-- alone, of the others all.
abbrev pub SumsUp : (lists : List (List Called)) (functions : List ℕ) (done : ℕ) → Type 0
SumsUp lists functions done = (own : List ℕ) (total : ℕ → ℕ) → length own ≡ length lists → AddsAlong (steps_of lists) own total →
    sum_by (number_of own) (take done functions) + sum_by total (drop done functions) ≡ total 0

-- The numbers of the first places of contexts, and of the place behind them all.
pub record AreBases (units functions bases : List ℕ) : Type 0 where
  pub count : length bases ≡ suc (length functions)
  pub each : (context : ℕ) → context ≤ length functions → slice_get bases context ≡ Some (1 + sum_by (number_of units) (take context functions))

-- Lists of calls that make so many contexts from an entry on: the entry function doesn't call itself.
pub record AreReady (entry : ℕ) (lists : List (List Called)) (count : ℕ) : Type 0 where
  pub some : 0 < length lists
  pub within : IsWithin (steps_of lists)
  pub rising : All RiseCalls lists
  pub other : (calls : List Called) → slice_get lists 0 ≡ Some calls → All (λ (one : Called). one.target ≡ entry → ⊥) calls
  pub counted : IsTotalOfFirst (steps_of lists) (ones_for lists) count

-- So many contexts from an entry on, laid out.
pub record IsMade (entry : ℕ) (units : List ℕ) (lists : List (List Called)) (count : ℕ) (layout : Layout) : Type 0 where
  pub expanded : AreExpanded entry lists layout.contexts.keys layout.functions.items count
  pub counted : length layout.functions.items ≡ count
  pub sums : SumsUp lists layout.functions.items count
  pub bases : AreBases units layout.functions.items layout.bases.items
