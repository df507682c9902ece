-- What a laid out program has at its places: a unit of the context's function, with a place for each way on.
use Rattle.std.proofs.Common.{◌≡◌, ℕ, zero, suc, ◌+◌, ◌<◌, ◌≤◌, ◌^◌, ◌⊎◌, inl, inr, true, List, [], ◌∷◌, map, get_or, slice_get, All, AllPairs, Contains, Option, Some, None, refl, sym, ap, subst, ◌∙◌, arith}
use Rattle.std.proofs.lemmas.Bool.{cases_lt}
use Rattle.std.proofs.lemmas.Option.{get_or_from_slice_get, slice_get_within}
use Rattle.std.proofs.lemmas.List.Elements.{All-contains_itself, All-weaker}
use Rattle.elf_mips.specs.Segments.{code_at}
use Rattle.elf_mips.specs.declared.image.Image.{Image}
use Rattle.flow_net.specs.declared.net.Context.{Context}
use Rattle.mips_decode.specs.declared.instr.Instr.{Instr}
use Rattle.mips_decode.specs.Step.{Found, fetched_word}
use Rattle.net_model.specs.Contexts.{made_by}
use Rattle.net_model.specs.Functions.{CanReturn, GoesOn, IsReached, first, next, back, returned}
use Rattle.net_model.specs.Targets.{unit_at}
use Rattle.net_model.specs.declared.unit.CodeUnit.{CodeUnit}
use Rattle.net_model.specs.declared.unit.Content.TheVariants.{Unit as Stands}
use Rattle.net_model.proofs.Contents.{IsFetched-unit, unit-content}
use Rattle.unit_graph.specs.Graphs.{IsGraph, IsGraphIn, IsNode}
use Rattle.unit_graph.specs.declared.graph.Graph.{Graph}
use Rattle.unit_graph.specs.declared.graph.Graphs.{Graphs}
use Rattle.unit_graph.specs.declared.node.Unit.{Unit as Node}
use Rattle.code_units.proofs.LowWords.{word_low}
use Rattle.call_contexts.specs.Arcs.{HasCallTo, HasReturnTo}
use Rattle.call_contexts.specs.Layout.{HasGraph, HasNode, IsSpot}
use Rattle.call_contexts.specs.Spots.{HasNumber, IsLaidProgram, IsNumberAt}
use Rattle.call_contexts.specs.declared.layout.Layout.{Layout}
use Rattle.call_contexts.proofs.SpotNumbers.{base-at, graph-once, one-at, spot-inner}
use Rattle.call_contexts.proofs.Places.{map_at}

pub all-at : {T : Type 0} (P : T → Type 0) (items : List T) (k : ℕ) (item : T) → All P items → slice_get items k ≡ Some item → P item
all-at P items k item each there =
    subst P (get_or_from_slice_get items k item item there) (each k item (slice_get_within items k item there))

-- The graph of a context is that of its function.
pub graph-is : (image : Image) (entry : ℕ) (graphs : Graphs) (layout : Layout) (context : ℕ) (graph : Graph) →
    IsLaidProgram image entry graphs layout → HasGraph graphs.graphs layout context graph → IsGraph image graph.entry graph
graph-is image entry graphs layout context graph laid has =
    (all-at (IsGraphIn image entry) graphs.graphs has.position graph laid.graphs_are.graphs_are.each has.is).is

-- The node of an address of a list.
pub node-of : (nodes : List Node) (address : ℕ) → Contains (map (λ (node : Node). node.address) nodes) address →
    (position : ℕ) × HasNode nodes address position
node-of [] address there = absurd (omega (arith, there.1))
node-of (node ∷ nodes) address (zero, inside, same) = (0, record { node = node; there = refl; same = same })
node-of (node ∷ nodes) address (suc k, inside, same) =
    let rest = node-of nodes address (k, omega (arith, inside), same) in
    (suc rest.0, record { node = rest.1.node; there = rest.1.there; same = rest.1.same })

-- What a context's function reaches has a place in the context.
pub number-there : (image : Image) (entry : ℕ) (graphs : Graphs) (layout : Layout) (context address : ℕ) (of : Context) →
    IsLaidProgram image entry graphs layout → slice_get layout.contexts.keys context ≡ Some of →
    IsReached image of.target address → HasNumber graphs.graphs layout context address
number-there image entry graphs layout context address of laid there reached =
    let within = slice_get_within layout.contexts.keys context of there in
    let its = laid.layout_is.laid.each context within in
    let same : its.1.of ≡ of = one-at layout.contexts.keys context its.1.of of its.1.there there in
    let begins : its.0.entry ≡ of.target = its.1.same ∙ ap (λ (c : Context). c.target) same in
    let is = graph-is image entry graphs layout context its.0 laid its.1 in
    let at = node-of its.0.units address
    (is.whole address (subst (λ (f : ℕ). IsReached image f address) (sym begins) reached)) in
    let base = base-at graphs.graphs layout context laid.layout_is.laid (omega (arith, within)) in (
      base.0 + at.0,
      record {
        position = at.0;
        node = at.1.node;
        spot = record {
          graph = its.0;
          has = its.1;
          there = at.1.there;
          base = base.0;
          begins = base.1;
          counted = refl;
        };
        same = at.1.same;
      },
    )

-- A spot's node is one of the function of its context.
pub node-is : (image : Image) (entry : ℕ) (graphs : Graphs) (layout : Layout) (context position : ℕ) (node : Node) (number : ℕ) →
    IsLaidProgram image entry graphs layout → (spot : IsSpot graphs.graphs layout context position node number) →
    IsNode image spot.has.of.target node
node-is image entry graphs layout context position node number laid spot =
    let is = graph-is image entry graphs layout context spot.graph laid spot.has in
    subst (λ (f : ℕ). IsNode image f node) spot.has.same (all-at (IsNode image spot.graph.entry) spot.graph.units position node is.nodes spot.there)

-- Its onward units have places in the same context.
pub onward-there : (image : Image) (entry : ℕ) (graphs : Graphs) (layout : Layout) (context position : ℕ) (node : Node) (number : ℕ) →
    IsLaidProgram image entry graphs layout → IsSpot graphs.graphs layout context position node number →
    All (HasNumber graphs.graphs layout context) node.onward
onward-there image entry graphs layout context position node number laid spot =
    let is = node-is image entry graphs layout context position node number laid spot in
    All-weaker (Contains node.onward) (HasNumber graphs.graphs layout context)
    (λ address among. number-there image entry graphs layout context address spot.has.of laid spot.has.there
    (next spot.has.of.target node.address address is.reached (is.described.onward.sound address among)))
    node.onward (All-contains_itself node.onward)

-- Each of its calls makes a context, and the called function's entry has a place there.
pub calls-there : (image : Image) (entry : ℕ) (graphs : Graphs) (layout : Layout) (context position : ℕ) (node : Node) (number : ℕ) →
    IsLaidProgram image entry graphs layout → IsSpot graphs.graphs layout context position node number →
    All (HasCallTo graphs.graphs layout context node.address) node.calls
calls-there image entry graphs layout context position node number laid spot =
    let is = node-is image entry graphs layout context position node number laid spot in
    All-weaker (Contains node.calls) (HasCallTo graphs.graphs layout context node.address)
    (λ callee among.
    let made = laid.layout_is.contexts.whole context node.address callee
    (record { context = spot.has.of; there = spot.has.there; reached = is.reached }) (is.described.calls.sound callee among) in
    let to = number-there image entry graphs layout made.0 callee (made_by context node.address callee) laid made.2 (first callee) in (
      to.0,
      record {
        made = made.0;
        is = record { later = made.1; there = made.2 };
        at = to.1;
      },
    ))
    node.calls (All-contains_itself node.calls)

-- A unit stands so low that its address and 8 don't wrap.
found-word : (o : Option ℕ) (instr : Instr) → fetched_word o ≡ Found instr → (word : ℕ) × (o ≡ Some word)
found-word None instr same = absurd cc
found-word (Some word) instr same = (word, refl)

pub unit-low : (image : Image) (address : ℕ) (unit : CodeUnit) → unit_at image address ≡ Stands unit → address + 8 < 2 ^ 32
unit-low image address unit stands =
    let is = IsFetched-unit image address unit (unit-content image address unit stands) in
    let word = found-word (code_at image.segments address) unit.instr is.instr in
    word_low {X = ℕ} image.segments address word.0 (Some 0) image.low (sym word.1)

-- A return unit of a further context has a place to return to: behind the call that made the context.
pub return-there : (image : Image) (entry : ℕ) (graphs : Graphs) (layout : Layout) (context position : ℕ) (node : Node) (number : ℕ) →
    IsLaidProgram image entry graphs layout → IsSpot graphs.graphs layout context position node number → node.returns ≡ true →
    HasReturnTo graphs.graphs layout context
return-there image entry graphs layout context position node number laid spot leaving = λ later.
    let is = node-is image entry graphs layout context position node number laid spot in
    let of : Context = spot.has.of in
    let made = laid.layout_is.contexts.made context of spot.has.there later in
    let can : CanReturn image of.target =
    returned of.target node.address is.unit is.reached is.stands (sym is.described.returns ∙ leaving) in
    let behind : GoesOn image of.site (of.site + 8) = back of.site of.target made.calls.unit made.calls.stands made.calls.called can in
    let to = number-there image entry graphs layout of.parent (of.site + 8) made.there.context laid made.there.there
    (next made.there.context.target of.site (of.site + 8) made.there.reached behind) in (
      to.0,
      record { later = later; of = of; there = spot.has.there; at = to.1 },
    )

-- The call that made a further context stands low.
pub site-low : (image : Image) (entry : ℕ) (graphs : Graphs) (layout : Layout) (context : ℕ) (of : Context) →
    IsLaidProgram image entry graphs layout → 0 < context → slice_get layout.contexts.keys context ≡ Some of → of.site + 8 < 2 ^ 32
site-low image entry graphs layout context of laid later there =
    let made = laid.layout_is.contexts.made context of there later in
    unit-low image of.site made.calls.unit made.calls.stands

-- In one context the lesser address has the lesser number.
position-less : (nodes : List Node) (p q : ℕ) (a b : Node) → AllPairs (λ (m n : Node). m.address < n.address) nodes →
    slice_get nodes p ≡ Some a → slice_get nodes q ≡ Some b → a.address < b.address → p < q
position-less nodes p q a b rising one other less = by_order (cases_lt p q) (cases_lt q p) where
  by_order : ((p < q) ⊎ (q ≤ p)) → ((q < p) ⊎ (p ≤ q)) → p < q
  by_order (inl before) h = before
  by_order (inr most) (inl above) =
      let up : (get_or nodes q a).address < (get_or nodes p a).address = rising q p a above (slice_get_within nodes p a one) in
      let first : (get_or nodes q a).address ≡ b.address = ap (λ (n : Node). n.address) (get_or_from_slice_get nodes q b a other) in
      let second : (get_or nodes p a).address ≡ a.address = ap (λ (n : Node). n.address) (get_or_from_slice_get nodes p a a one) in
      absurd (omega (arith, up, first, second, less))
  by_order (inr most) (inr least) =
      let same : p ≡ q = omega (arith, most, least) in
      let equal : a ≡ b = one-at nodes q a b (subst (λ (k : ℕ). slice_get nodes k ≡ Some a) same one) other in
      let level : a.address ≡ b.address = ap (λ (n : Node). n.address) equal in
      absurd (omega (arith, level, less))

pub number-rises : (image : Image) (entry : ℕ) (graphs : Graphs) (layout : Layout) (context a b n m : ℕ) →
    IsLaidProgram image entry graphs layout → IsNumberAt graphs.graphs layout context a n →
    IsNumberAt graphs.graphs layout context b m → a < b → n < m
number-rises image entry graphs layout context a b n m laid one other less =
    let graph : one.spot.graph ≡ other.spot.graph =
    graph-once graphs.graphs layout context one.spot.graph other.spot.graph one.spot.has other.spot.has in
    let is = graph-is image entry graphs layout context other.spot.graph laid other.spot.has in
    let before : one.position < other.position =
    position-less other.spot.graph.units one.position other.position one.node other.node is.rising
    (subst (λ (g : Graph). slice_get g.units one.position ≡ Some one.node) graph one.spot.there) other.spot.there
    (omega (arith, one.same, other.same, less)) in
    let parts = spot-inner graphs.graphs layout context one.position other.position one.node other.node n m one.spot other.spot in
    omega (arith, before, parts.1, parts.2)

pub number-once : (image : Image) (entry : ℕ) (graphs : Graphs) (layout : Layout) (context a n m : ℕ) →
    IsLaidProgram image entry graphs layout → IsNumberAt graphs.graphs layout context a n →
    IsNumberAt graphs.graphs layout context a m → n ≡ m
number-once image entry graphs layout context a n m laid one other =
    let graph : one.spot.graph ≡ other.spot.graph =
    graph-once graphs.graphs layout context one.spot.graph other.spot.graph one.spot.has other.spot.has in
    let is = graph-is image entry graphs layout context other.spot.graph laid other.spot.has in
    let here = subst (λ (g : Graph). slice_get g.units one.position ≡ Some one.node) graph one.spot.there in
    let place : one.position ≡ other.position =
    position-once other.spot.graph.units one.position other.position one.node other.node is.rising here other.spot.there
    (one.same ∙ sym other.same) in
    let parts = spot-inner graphs.graphs layout context one.position other.position one.node other.node n m one.spot other.spot in
    omega (arith, place, parts.1, parts.2)
  where
    position-once : (nodes : List Node) (p q : ℕ) (a b : Node) → AllPairs (λ (m n : Node). m.address < n.address) nodes →
        slice_get nodes p ≡ Some a → slice_get nodes q ≡ Some b → a.address ≡ b.address → p ≡ q
    position-once nodes p q a b rising one other level = by_order (cases_lt p q) (cases_lt q p) where
      no : (i j : ℕ) (c d : Node) → slice_get nodes i ≡ Some c → slice_get nodes j ≡ Some d → c.address ≡ d.address → i < j → ⊥
      no i j c d here there same less =
          let up : (get_or nodes i c).address < (get_or nodes j c).address = rising i j c less (slice_get_within nodes j d there) in
          let start : (get_or nodes i c).address ≡ c.address = ap (λ (n : Node). n.address) (get_or_from_slice_get nodes i c c here) in
          let end : (get_or nodes j c).address ≡ d.address = ap (λ (n : Node). n.address) (get_or_from_slice_get nodes j d c there) in
          omega (arith, up, start, end, same)

      by_order : ((p < q) ⊎ (q ≤ p)) → ((q < p) ⊎ (p ≤ q)) → p ≡ q
      by_order (inl before) h = absurd (no p q a b one other level before)
      by_order (inr most) (inl above) = absurd (no q p b a other one (sym level) above)
      by_order (inr most) (inr least) = omega (arith, most, least)

-- The units of a context, as they are read.
pub units-rise : (image : Image) (entry : ℕ) (graphs : Graphs) (layout : Layout) (context : ℕ) (graph : Graph) (units : List Node) →
    IsLaidProgram image entry graphs layout → HasGraph graphs.graphs layout context graph → units ≡ graph.units →
    AllPairs (λ (a b : Node). a.address < b.address) units
units-rise image entry graphs layout context graph units laid has same =
    subst (AllPairs (λ (a b : Node). a.address < b.address)) (sym same) (graph-is image entry graphs layout context graph laid has).rising

contained-at : (xs : List ℕ) (k x : ℕ) → slice_get xs k ≡ Some x → Contains xs x
contained-at xs k x there = (k, slice_get_within xs k x there, get_or_from_slice_get xs k x x there)

pub address-among : (graphs : List Graph) (layout : Layout) (context address number : ℕ) (graph : Graph) (units : List Node) →
    HasGraph graphs layout context graph → units ≡ graph.units → IsNumberAt graphs layout context address number →
    Contains (map (λ (node : Node). node.address) units) address
address-among graphs layout context address number graph units has same is =
    let graph_same : is.spot.graph ≡ graph = graph-once graphs layout context is.spot.graph graph is.spot.has has in
    let there : slice_get units is.position ≡ Some is.node =
    subst (λ (nodes : List Node). slice_get nodes is.position ≡ Some is.node) (sym same)
    (subst (λ (g : Graph). slice_get g.units is.position ≡ Some is.node) graph_same is.spot.there) in
    contained-at (map (λ (node : Node). node.address) units) is.position address
    (map_at (λ (node : Node). node.address) units is.position is.node there ∙ ap (λ (a : ℕ). Some a) is.same)

-- What bisection finds is the place of the address.
pub number-found : (graphs : List Graph) (layout : Layout) (context address base position : ℕ) (graph : Graph) (units : List Node) →
    HasGraph graphs layout context graph → units ≡ graph.units → slice_get layout.bases.items context ≡ Some base →
    HasNode units address position → IsNumberAt graphs layout context address (base + position)
number-found graphs layout context address base position graph units has same begins found = record {
  position = position;
  node = found.node;
  spot = record {
    graph = graph;
    has = has;
    there = subst (λ (nodes : List Node). slice_get nodes position ≡ Some found.node) same found.there;
    base = base;
    begins = begins;
    counted = refl;
  };
  same = found.same;
}
