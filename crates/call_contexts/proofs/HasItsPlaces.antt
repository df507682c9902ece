-- Places that are laid out are those of a net.
use Rattle.std.proofs.Common.{◌≡◌, ℕ, suc, ◌<◌, inl, inr, List, length, get_or, slice_get, Some, sym, subst, ◌∙◌, arith}
use Rattle.std.proofs.lemmas.Option.{slice_get-get_or}
use Rattle.elf_mips.specs.declared.image.Image.{Image}
use Rattle.flow_net.specs.Numbers.{item_at}
use Rattle.flow_net.specs.declared.net.Context.{Context}
use Rattle.flow_net.specs.declared.net.Net.{Net}
use Rattle.flow_net.specs.declared.net.Place.{Place}
use Rattle.net_model.specs.Contexts.{Reaches}
use Rattle.net_model.specs.Functions.{IsReached}
use Rattle.net_model.specs.Net.{HasPlaces}
use Rattle.net_model.specs.Places.{IsPlaceBefore, IsPlaceOf}
use Rattle.unit_graph.specs.declared.graph.Graphs.{Graphs}
use Rattle.call_contexts.specs.Layout.{IsLaid, IsPlaced, IsSpot}
use Rattle.call_contexts.specs.Spots.{IsLaidProgram, IsNumberAt}
use Rattle.call_contexts.specs.declared.layout.Layout.{Layout}
use Rattle.call_contexts.proofs.ArcCounts.{position-address}
use Rattle.call_contexts.proofs.SpotNumbers.{IsLower, spot-before}
use Rattle.call_contexts.proofs.LaidProgram.{node-is, number-there}

-- A net with the contexts and the places of a layout.
pub record IsNetOf (graphs : Graphs) (layout : Layout) (net : Net) : Type 0 where
  pub contexts : net.contexts ≡ layout.contexts.keys
  pub places : IsLaid graphs.graphs layout net.places

-- The places are told by their numbers in the layout.
pub number-place : (graphs : Graphs) (layout : Layout) (net : Net) (context address number : ℕ) → IsNetOf graphs layout net →
    IsNumberAt graphs.graphs layout context address number → IsPlaceOf net number context address
number-place graphs layout net context address number of at =
    let has = of.places.whole context at.position number at.node at.spot in
    record { place = has.place; there = has.there; within = has.within; same = has.same ∙ at.same }

pub place-number : (graphs : Graphs) (layout : Layout) (net : Net) (context address number : ℕ) → IsNetOf graphs layout net →
    IsPlaceOf net number context address → IsNumberAt graphs.graphs layout context address number
place-number graphs layout net context address number of at =
    let placed = of.places.each number at.place at.there in
    record {
      position = placed.position;
      node = placed.node;
      spot = subst (λ (k : ℕ). IsSpot graphs.graphs layout k placed.position placed.node number) at.within placed.spot;
      same = sym placed.same ∙ at.same;
    }

places-order : (image : Image) (entry : ℕ) (graphs : Graphs) (layout : Layout) (n m : ℕ) (a b : Place) → IsLaidProgram image entry graphs layout →
    IsPlaced graphs.graphs layout n a → IsPlaced graphs.graphs layout m b → n < m → IsPlaceBefore a b
places-order image entry graphs layout n m a b laid one other less =
    by_place (spot-before graphs.graphs layout a.context one.position b.context other.position one.node other.node n m laid.layout_is.laid
    one.spot other.spot less)
  where
    by_place : IsLower a.context one.position b.context other.position → IsPlaceBefore a b
    by_place (inl lower) = inl lower
    by_place (inr within) =
        let moved : IsSpot graphs.graphs layout b.context one.position one.node n =
        subst (λ (k : ℕ). IsSpot graphs.graphs layout k one.position one.node n) within.0 one.spot in
        let before = position-address image entry graphs layout b.context one.position other.position one.node other.node n m laid moved
        other.spot within.1 in
        inr (within.0, omega (arith, before, one.same, other.same))

pub has-places : (image : Image) (entry : ℕ) (graphs : Graphs) (layout : Layout) (net : Net) → IsLaidProgram image entry graphs layout →
    IsNetOf graphs layout net → HasPlaces image net
has-places image entry graphs layout net laid of = record {
  rising = λ i j d less inside. rising i j d less inside;
  reached = λ number place there. reached number place there;
  whole = λ context address reaches. whole context address reaches;
} where
  rising : (i j : ℕ) (d : Place) → i < j → j < length net.places → IsPlaceBefore (get_or net.places i d) (get_or net.places j d)
  rising i j d less inside =
      let first = slice_get-get_or net.places i d (omega (arith, less, inside)) in
      let second = slice_get-get_or net.places j d inside in
      places-order image entry graphs layout (suc i) (suc j) (get_or net.places i d) (get_or net.places j d) laid
      (of.places.each (suc i) (get_or net.places i d) first) (of.places.each (suc j) (get_or net.places j d) second)
      (omega (arith, less))

  reached : (number : ℕ) (place : Place) → item_at number net.places ≡ Some place → Reaches image net.contexts place.context place.address
  reached number place there =
      let placed = of.places.each number place there in
      let is = node-is image entry graphs layout place.context placed.position placed.node number laid placed.spot in
      record {
        context = placed.spot.has.of;
        there = subst (λ (all : List Context). slice_get all place.context ≡ Some placed.spot.has.of) (sym of.contexts) placed.spot.has.there;
        reached = subst (λ (a : ℕ). IsReached image placed.spot.has.of.target a) (sym placed.same) is.reached;
      }

  whole : (context address : ℕ) → Reaches image net.contexts context address → (number : ℕ) × IsPlaceOf net number context address
  whole context address reaches =
      let there = subst (λ (all : List Context). slice_get all context ≡ Some reaches.context) of.contexts reaches.there in
      let (number, at) = number-there image entry graphs layout context address reaches.context laid there reaches.reached in
      (number, number-place graphs layout net context address number of at)
