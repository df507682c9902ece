-- Nets in which each place is reached by an arc from a lesser one.
use Rattle.std.specs.Prelude.{◌≡◌, ℕ, ◌<◌, ◌≤◌, ◌↔◌, List, length, Some}
use Rattle.flow_net.specs.Numbers.{item_at}
use Rattle.flow_net.specs.declared.net.NetArc.{NetArc}

-- A fact of each number of an item up to one, and of its item.
abbrev pub EachItem : {X : Type 0} → (ℕ → X → Type 0) → (upto : ℕ) → List X → Type 0
EachItem {X} P upto items = (number : ℕ) (item : X) → number ≤ upto → item_at number items ≡ Some item → P number item

-- An arc comes to the place from a lesser one, or from 0.
pub record IsReached (arcs : List NetArc) (place : ℕ) : Type 0 where
  pub number : ℕ
  pub arc : NetArc
  pub there : item_at number arcs ≡ Some arc
  pub to : arc.to ≡ place
  pub rises : arc.from < place

-- The arc of this number goes between so many places, or from or to 0; from 0 arc 1 alone, and to a place.
pub record IsArc (places number : ℕ) (arc : NetArc) : Type 0 where
  pub from : arc.from ≤ places
  pub to : arc.to ≤ places
  pub first : (arc.from ≡ 0) ↔ (number ≡ 1)
  pub enters : arc.from ≡ 0 → 0 < arc.to

abbrev pub AreArcs : ℕ → List NetArc → Type 0
AreArcs places arcs = EachItem (IsArc places) (length arcs) arcs
