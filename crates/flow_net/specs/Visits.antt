-- What the places that a run visits say of its loops.
use Rattle.std.specs.Prelude.{◌≡◌, ℕ, suc, List, [], ◌∷◌, map, Option, Some, None}
use Rattle.flow_net.specs.Numbers.{item_at}
use Rattle.flow_net.specs.Scopes.{Holds}
use Rattle.flow_net.specs.Entering.{IsOutside}
use Rattle.flow_net.specs.declared.net.LoopInst.{LoopInst}
use Rattle.flow_net.specs.declared.net.Net.{Net}
use Rattle.flow_net.specs.declared.net.NetArc.{NetArc}

-- A run that stands at a place, and may come to the header of a loop instance so many more times before it
-- enters the instance anew, goes on to these places: from one entering to the next the header is visited at
-- most bound times. The loop is entered where its header is visited from outside it.
pub data KeepsBound (net : Net) (scope : ℕ) (inst : LoopInst) : (from left : ℕ) → List ℕ → Type 0 where
  ends : (from left : ℕ) → KeepsBound net scope inst from left []
  passes : (from left to : ℕ) (more : List ℕ) → (to ≡ inst.header → ⊥) →
      KeepsBound net scope inst to left more → KeepsBound net scope inst from left (to ∷ more)
  enters : (from left turns : ℕ) (more : List ℕ) → IsOutside net scope from → inst.bound ≡ suc turns →
      KeepsBound net scope inst inst.header turns more →
      KeepsBound net scope inst from left (inst.header ∷ more)
  returns : (from left : ℕ) (more : List ℕ) → Holds net scope from →
      KeepsBound net scope inst inst.header left more →
      KeepsBound net scope inst from (suc left) (inst.header ∷ more)

-- The places that a run visits from its start on keep the bound of each loop instance.
abbrev pub KeepsBounds : Net → List ℕ → Type 0
KeepsBounds net places =
    (scope : ℕ) (inst : LoopInst) → item_at scope net.loops ≡ Some inst → KeepsBound net scope inst 0 0 places

-- Where an arc goes to.
abbrev pub target_of : Option NetArc → ℕ
target_of None = 0
target_of (Some arc) = arc.to

-- Where the arcs of these numbers go to, in order.
abbrev pub targets_along : List NetArc → List ℕ → List ℕ
targets_along arcs numbers = map (λ (number : ℕ). target_of (item_at number arcs)) numbers
