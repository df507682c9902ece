-- How many arcs the places so far have: each call leads to a context of its own, so that the calls are fewer than
-- the contexts.
use Rattle.std.proofs.Common.{◌≡◌, ℕ, suc, ◌+◌, ◌*◌, ◌<◌, ◌≤◌, ◌^◌, inl, inr, List, [], ◌∷◌, ◌++◌, length, take, get_or, slice_get, All, AllPairs, Some, refl, ap, subst, arith, length-append}
use Rattle.std.specs.List.{AllZip}
use Rattle.std.specs.Prelude.{sum_by}
use Rattle.std.proofs.lemmas.List.{length-map}
use Rattle.std.proofs.lemmas.List.Elements.{All-append, All-head, All-nil, All-tail, All-weaker}
use Rattle.std.proofs.lemmas.List.Sums.{sum_by_more, sum_by-take-le}
use Rattle.std.proofs.lemmas.Option.{get_or_from_slice_get, slice_get_within}
use Rattle.elf_mips.specs.declared.image.Image.{Image}
use Rattle.flow_net.specs.declared.net.Context.{Context}
use Rattle.flow_net.specs.declared.net.NetArc.{NetArc}
use Rattle.net_model.specs.Contexts.{IsContextBefore, made_by}
use Rattle.loop_nest.proofs.Ordered.{pairs-head, pairs-tail}
use Rattle.unit_graph.specs.declared.graph.Graph.{Graph}
use Rattle.unit_graph.specs.declared.graph.Graphs.{Graphs}
use Rattle.unit_graph.specs.declared.node.Unit.{Unit as Node}
use Rattle.call_contexts.specs.Arcs.{AreTargets, HasCallTo, arcs_from, arc_to}
use Rattle.call_contexts.specs.Layout.{HasGraph, IsLaidOut, IsMadeAs, IsSpot}
use Rattle.call_contexts.specs.Spots.{IsLaidProgram, IsNumberAt}
use Rattle.call_contexts.specs.declared.layout.Layout.{Layout}
use Rattle.call_contexts.proofs.ContextOrder.{context-lower, made-rises}
use Rattle.call_contexts.proofs.SpotNumbers.{IsLower, graph-once, spot-before}
use Rattle.call_contexts.proofs.LaidProgram.{calls-there, graph-is, node-is}
use Rattle.call_contexts.proofs.WayCounts.{weight, weights-few}
use Rattle.std.proofs.lemmas.Slice.Zip.{AllZip-long}
use Rattle.call_contexts.proofs.Zips.{pairs-append, pairs-nil, zip-pairs, zip-sound}

-- A further context is made by a call at a place below a number.
pub record IsMadeBelow (graphs : List Graph) (layout : Layout) (limit made : ℕ) : Type 0 where
  pub later : 0 < made
  pub of : Context
  pub there : slice_get layout.contexts.keys made ≡ Some of
  pub number : ℕ
  pub at : IsNumberAt graphs layout of.parent of.site number
  pub below : number < limit

-- Beside some room, the arcs of the places below a number are no more than different contexts made there.
pub record AreCounted (graphs : List Graph) (layout : Layout) (limit room : ℕ) (arcs : List NetArc) : Type 0 where
  pub made : List ℕ
  pub rising : AllPairs (λ (a b : ℕ). a < b) made
  pub below : All (IsMadeBelow graphs layout limit) made
  pub few : length arcs ≤ 1 + room + length made

pub counted-none : (graphs : List Graph) (layout : Layout) (limit room first : ℕ) (arcs : List NetArc) → arcs ≡ arc_to 0 first ∷ [] →
    AreCounted graphs layout limit room arcs
counted-none graphs layout limit room first arcs one = record {
  made = [];
  rising = pairs-nil (λ (a b : ℕ). a < b);
  below = All-nil (IsMadeBelow graphs layout limit);
  few = omega (arith, ap (λ (all : List NetArc). length all) one);
}

pub counted-room : (graphs : List Graph) (layout : Layout) (limit room more : ℕ) (arcs : List NetArc) → room ≤ more →
    AreCounted graphs layout limit room arcs → AreCounted graphs layout limit more arcs
counted-room graphs layout limit room more arcs less counted = record {
  made = counted.made;
  rising = counted.rising;
  below = counted.below;
  few = omega (arith, counted.few, less);
}

-- The contexts that the calls of a unit make.
abbrev IsMadeFor : Layout → (context site callee made : ℕ) → Type 0
IsMadeFor layout context site callee made = IsMadeAs layout.contexts.keys context site callee made

made-list : (graphs : List Graph) (layout : Layout) (context site : ℕ) (calls : List ℕ) → All (HasCallTo graphs layout context site) calls →
    (made : List ℕ) × AllZip (IsMadeFor layout context site) calls made
made-list graphs layout context site [] each = ([], tt)
made-list graphs layout context site (callee ∷ calls) each =
    let (to, is) = All-head (HasCallTo graphs layout context site) callee calls each in
    let (made, rest) = made-list graphs layout context site calls (All-tail (HasCallTo graphs layout context site) callee calls each) in
    (is.made ∷ made, (is.is, rest))

-- In one context the earlier unit has the lesser address.
pub position-address : (image : Image) (entry : ℕ) (graphs : Graphs) (layout : Layout) (context p q : ℕ) (a b : Node) (n m : ℕ) →
    IsLaidProgram image entry graphs layout → IsSpot graphs.graphs layout context p a n → IsSpot graphs.graphs layout context q b m →
    p < q → a.address < b.address
position-address image entry graphs layout context p q a b n m laid one other less =
    let graph : one.graph ≡ other.graph = graph-once graphs.graphs layout context one.graph other.graph one.has other.has in
    let is = graph-is image entry graphs layout context other.graph laid other.has in
    let here = subst (λ (g : Graph). slice_get g.units p ≡ Some a) graph one.there in
    let up : (get_or other.graph.units p a).address < (get_or other.graph.units q a).address =
    is.rising p q a less (slice_get_within other.graph.units q b other.there) in
    let start : (get_or other.graph.units p a).address ≡ a.address = ap (λ (x : Node). x.address) (get_or_from_slice_get other.graph.units p a a here) in
    let end : (get_or other.graph.units q a).address ≡ b.address = ap (λ (x : Node). x.address) (get_or_from_slice_get other.graph.units q b a other.there) in
    omega (arith, up, start, end)

-- The context of a call at an earlier place has a lesser number.
made-before : (image : Image) (entry : ℕ) (graphs : Graphs) (layout : Layout) (context position : ℕ) (node : Node) (number callee made other : ℕ) →
    IsLaidProgram image entry graphs layout → IsSpot graphs.graphs layout context position node number →
    IsMadeBelow graphs.graphs layout number made → IsMadeFor layout context node.address callee other → made < other
made-before image entry graphs layout context position node number callee made other laid spot one another =
    context-lower image entry layout.contexts.keys laid.layout_is.contexts made other one.of (made_by context node.address callee)
    one.later another.later one.there another.there
    (by_place (spot-before graphs.graphs layout one.of.parent one.at.position context position one.at.node node one.number number
    laid.layout_is.laid one.at.spot spot one.below))
  where
    by_place : IsLower one.of.parent one.at.position context position → IsContextBefore one.of (made_by context node.address callee)
    by_place (inl lower) = inl lower
    by_place (inr within) =
        let moved : IsSpot graphs.graphs layout context one.at.position one.at.node one.number =
        subst (λ (k : ℕ). IsSpot graphs.graphs layout k one.at.position one.at.node one.number) within.0 one.at.spot in
        let less = position-address image entry graphs layout context one.at.position position one.at.node node one.number number laid moved spot within.1 in
        inr (within.0, inl (omega (arith, less, one.at.same)))

-- The arcs of one more place.
pub counted-more : (image : Image) (entry : ℕ) (graphs : Graphs) (layout : Layout) (context position : ℕ) (node : Node) (number room : ℕ)
    (targets : List ℕ) (arcs : List NetArc) → IsLaidProgram image entry graphs layout →
    IsSpot graphs.graphs layout context position node number → AreTargets graphs.graphs layout context node targets →
    AreCounted graphs.graphs layout number room arcs →
    AreCounted graphs.graphs layout (suc number) (room + weight node) (arcs ++ arcs_from number targets)
counted-more image entry graphs layout context position node number room targets arcs laid spot are counted =
    let is = node-is image entry graphs layout context position node number laid spot in
    let (news, zip) = made-list graphs.graphs layout context node.address node.calls
    (calls-there image entry graphs layout context position node number laid spot) in
    record {
      made = counted.made ++ news;
      rising = pairs-append (λ (a b : ℕ). a < b) counted.made news counted.rising
          (zip-pairs (IsMadeFor layout context node.address) (λ (a b : ℕ). a < b) (λ (a b : ℕ). a < b) node.calls news zip
          is.described.calls.rising
          (λ a c b d one other less. made-rises image entry layout.contexts.keys laid.layout_is.contexts context node.address a c b d one other less))
          (All-weaker (IsMadeBelow graphs.graphs layout number) (λ (m : ℕ). All (λ (n : ℕ). m < n) news)
          (λ m one. zip-sound (IsMadeFor layout context node.address) (λ (n : ℕ). m < n) node.calls news zip
          (λ callee n among other. made-before image entry graphs layout context position node number callee m n laid spot one other))
          counted.made counted.below);
      below = All-append (IsMadeBelow graphs.graphs layout (suc number)) counted.made news
          (All-weaker (IsMadeBelow graphs.graphs layout number) (IsMadeBelow graphs.graphs layout (suc number))
          (λ m one. record {
            later = one.later;
            of = one.of;
            there = one.there;
            number = one.number;
            at = one.at;
            below = omega (arith, one.below);
          })
          counted.made counted.below)
          (zip-sound (IsMadeFor layout context node.address) (IsMadeBelow graphs.graphs layout (suc number)) node.calls news zip
          (λ callee m among one. record {
            later = one.later;
            of = made_by context node.address callee;
            there = one.there;
            number = number;
            at = record { position = position; node = node; spot = spot; same = refl };
            below = omega arith;
          }));
      few = omega (
        arith,
        length-append arcs (arcs_from number targets),
        length-map targets (arc_to number),
        are.few,
        counted.few,
        length-append counted.made news,
        AllZip-long (IsMadeFor layout context node.address) node.calls news zip,
      );
    }

-- Rising numbers below a limit are no more than it.
rising-from : (xs : List ℕ) (least limit : ℕ) → least ≤ limit → AllPairs (λ (a b : ℕ). a < b) xs → All (λ (x : ℕ). least ≤ x) xs →
    All (λ (x : ℕ). x < limit) xs → least + length xs ≤ limit
rising-from [] least limit fits rising above below = omega (arith, fits)
rising-from (x ∷ xs) least limit fits rising above below =
    let here : least ≤ x = All-head (λ (y : ℕ). least ≤ y) x xs above in
    let lower : x < limit = All-head (λ (y : ℕ). y < limit) x xs below in
    let rest = rising-from xs (suc x) limit (omega (arith, lower)) (pairs-tail (λ (a b : ℕ). a < b) x xs rising)
    (All-weaker (λ (y : ℕ). x < y) (λ (y : ℕ). suc x ≤ y) (λ y less. omega (arith, less)) xs (pairs-head (λ (a b : ℕ). a < b) x xs rising))
    (All-tail (λ (y : ℕ). y < limit) x xs below) in
    omega (arith, rest, here)

-- So there are at most 2 ^ 25 arcs.
pub counted-all : (graphs : List Graph) (layout : Layout) (last : ℕ) (arcs : List NetArc) → IsLaidOut graphs layout →
    slice_get layout.bases.items (length layout.contexts.keys) ≡ Some last → AreCounted graphs layout last (last * 260) arcs →
    length arcs ≤ 2 ^ 25
counted-all graphs layout last arcs laid ends counted =
    let made : 0 + length counted.made ≤ length layout.contexts.keys =
    rising-from counted.made 0 (length layout.contexts.keys) (omega arith) counted.rising (λ k d inside. omega arith)
    (All-weaker (IsMadeBelow graphs layout last) (λ (m : ℕ). m < length layout.contexts.keys)
    (λ m one. slice_get_within layout.contexts.keys m one.of one.there) counted.made counted.below) in
    omega (arith, made, counted.few, laid.few_contexts, laid.few_places (length layout.contexts.keys) last ends)

-- The arcs of the units of a context.
pub room-more : (base position : ℕ) (units : List Node) (unit : Node) → position < length units → unit ≡ get_or units position unit →
    base * 260 + sum_by weight (take position units) + weight unit ≡ base * 260 + sum_by weight (take (position + 1) units)
room-more base position units unit inside read =
    omega (arith, sum_by_more weight units position unit inside, ap weight read)

pub room-full : (image : Image) (entry : ℕ) (graphs : Graphs) (layout : Layout) (context base position : ℕ) (graph : Graph) (units : List Node) →
    IsLaidProgram image entry graphs layout → HasGraph graphs.graphs layout context graph → units ≡ graph.units →
    base * 260 + sum_by weight (take position units) ≤ (base + length graph.units) * 260
room-full image entry graphs layout context base position graph units laid has same =
    let is = graph-is image entry graphs layout context graph laid has in
    omega (
      arith,
      sum_by-take-le weight units position,
      ap (λ (nodes : List Node). sum_by weight nodes) same,
      weights-few image graph.entry graph is image.counted,
    )
