-- The parts of a context of a program that is laid out, and how the numbers of its places and instances grow.
use Rattle.std.proofs.Common.{◌≡◌, ℕ, zero, suc, ◌+◌, ◌<◌, ◌≤◌, List, [], ◌∷◌, length, get_or, slice_get, Contains, Option, Some, None, refl, sym, ap, subst, ◌∙◌, arith}
use Rattle.std.specs.Prelude.{option_map}
use Rattle.std.proofs.lemmas.Option.{get_or_from_slice_get, none-some, same_Some, slice_get-get_or, slice_get-map, slice_get_within}
use Rattle.elf_mips.specs.declared.image.Image.{Image}
use Rattle.flow_net.specs.declared.net.Context.{Context}
use Rattle.loop_nest.specs.declared.nest.Loop.{Loop}
use Rattle.loop_nest.specs.declared.nest.Nests.{Nests}
use Rattle.loop_nest.specs.Nests.{IsNest}
use Rattle.loop_nest.specs.Programs.{IsNestOf}
use Rattle.step_table.proofs.Positions.{contains_at, place_of}
use Rattle.unit_graph.specs.Graphs.{IsGraphIn}
use Rattle.unit_graph.specs.declared.graph.Graph.{Graph}
use Rattle.unit_graph.specs.declared.graph.Graphs.{Graphs}
use Rattle.unit_graph.specs.declared.node.Unit.{Unit as Node}
use Rattle.call_contexts.specs.Around.{AreUnitsOf, addresses_of}
use Rattle.call_contexts.specs.Instances.{AreFirsts, HasParts, HasLayout}
use Rattle.call_contexts.specs.Layout.{HasGraph, HasGraphs, HasNode}
use Rattle.call_contexts.specs.Programs.{IsProgram}
use Rattle.call_contexts.specs.Spots.{IsLaidProgram}
use Rattle.call_contexts.specs.declared.layout.Layout.{Layout}
use Rattle.call_contexts.proofs.AroundLists.{header-among}
use Rattle.call_contexts.proofs.Growing.{Grow}
use Rattle.call_contexts.proofs.Zips.{zip_left}
use Rattle.call_contexts.proofs.Nodes.{later_node}

-- A layout is that of its program's graphs.
pub program-graphs : (image : Image) (entry : ℕ) (graphs : Graphs) (nests : Nests) → IsProgram image entry graphs nests → HasGraphs image entry graphs
program-graphs image entry graphs nests is = record { graphs_are = is.graphs_are; faultless = is.faultless }

pub laid-program : (image : Image) (entry : ℕ) (graphs : Graphs) (nests : Nests) (layout : Layout) → HasLayout image entry graphs nests layout →
    IsLaidProgram image entry graphs layout
laid-program image entry graphs nests layout has =
    record { graphs_are = program-graphs image entry graphs nests has.program; layout_is = has.layout_is }

-- The unit at an address of a list.
node-by : (found : Option Node) (address : ℕ) → option_map (λ (n : Node). n.address) found ≡ Some address →
    (node : Node) × (found ≡ Some node) × (node.address ≡ address)
node-by None address same = absurd (none-some address same)
node-by (Some node) address same = (node, refl, same_Some node.address address same)

pub node-at : (units : List Node) (address : ℕ) → Contains (addresses_of units) address → (position : ℕ) × HasNode units address position
node-at units address among =
    let (k, there) = place_of (addresses_of units) address among in
    let one = node-by (slice_get units k) address (sym (slice_get-map (λ (n : Node). n.address) units k) ∙ there) in
    (k, record { node = one.0; there = one.1; same = one.2 })

-- What is read at a position of a list.
pub read-same : {X : Type 0} (xs ys : List X) (k n : ℕ) (x y : X) → xs ≡ ys → k ≡ n → x ≡ get_or xs k x → slice_get ys n ≡ Some y → x ≡ y
read-same {X} xs ys k n x y list place read there =
    read ∙ ap (λ (zs : List X). get_or zs k x) list ∙ ap (λ (p : ℕ). get_or ys p x) place ∙ get_or_from_slice_get ys n y x there

-- The parts of a context.
pub record PartsOf (image : Image) (graphs : List Graph) (nests : List (List Loop)) (layout : Layout) (context : ℕ) : Type 0 where
  pub of : Context
  pub there : slice_get layout.contexts.keys context ≡ Some of
  pub graph : Graph
  pub loops : List Loop
  pub base : ℕ
  pub parts : HasParts graphs nests layout context graph loops base
  pub units : AreUnitsOf image of.target graph.units
  pub nest : IsNest image of.target loops

-- The units and the loops of a function.
pub graph-units : (image : Image) (entry : ℕ) (graph : Graph) → IsGraphIn image entry graph → AreUnitsOf image graph.entry graph.units
graph-units image entry graph is = record { rising = is.is.rising; whole = is.is.whole }

pub graph-in : (image : Image) (entry : ℕ) (graphs : Graphs) (nests : Nests) → IsProgram image entry graphs nests →
    (position : ℕ) (graph : Graph) → slice_get graphs.graphs position ≡ Some graph → IsGraphIn image entry graph
graph-in image entry graphs nests program position graph there =
    subst (IsGraphIn image entry) (get_or_from_slice_get graphs.graphs position graph graph there)
    (program.graphs_are.each position graph (slice_get_within graphs.graphs position graph there))

pub parts-of : (image : Image) (entry : ℕ) (graphs : Graphs) (nests : Nests) (layout : Layout) → HasLayout image entry graphs nests layout →
    (context : ℕ) → context < length layout.contexts.keys → PartsOf image graphs.graphs nests.nests layout context
parts-of image entry graphs nests layout laid context inside =
    let out = laid.layout_is.laid in
    let (graph, has) = out.each context inside in
    let looped = zip_left (IsNestOf image) graphs.graphs nests.nests laid.program.nests_are has.position graph has.is in
    let units = graph-units image entry graph (graph-in image entry graphs nests laid.program has.position graph has.is) in
    record {
      of = has.of;
      there = has.there;
      graph = graph;
      loops = looped.0;
      base = get_or layout.bases.items context 0;
      parts = record {
        has = has;
        looped = looped.1;
        begins = slice_get-get_or layout.bases.items context 0 (let all = out.bases in omega (arith, all, inside));
      };
      units = subst (λ (f : ℕ). AreUnitsOf image f graph.units) has.same units;
      nest = subst (λ (f : ℕ). IsNest image f looped.0) has.same looped.2;
    }

-- A context has one graph, one list of loops and one base.
pub record AreSame (graph other : Graph) (loops more : List Loop) (base next : ℕ) : Type 0 where
  pub one_graph : graph ≡ other
  pub one_list : loops ≡ more
  pub one_base : base ≡ next

pub graph-one : (graphs : List Graph) (layout : Layout) (context : ℕ) (graph other : Graph) →
    HasGraph graphs layout context graph → HasGraph graphs layout context other → graph ≡ other
graph-one graphs layout context graph other one two =
    let place : one.position ≡ two.position = same_Some one.position two.position (sym one.listed ∙ two.listed) in
    same_Some graph other (sym one.is ∙ subst (λ (p : ℕ). slice_get graphs p ≡ Some other) (sym place) two.is)

pub parts-one : (graphs : List Graph) (nests : List (List Loop)) (layout : Layout) (context : ℕ) (graph other : Graph)
    (loops more : List Loop) (base next : ℕ) → HasParts graphs nests layout context graph loops base →
    HasParts graphs nests layout context other more next → AreSame graph other loops more base next
parts-one graphs nests layout context graph other loops more base next one two =
    let place : one.has.position ≡ two.has.position =
    same_Some one.has.position two.has.position (sym one.has.listed ∙ two.has.listed) in
    record {
      one_graph = graph-one graphs layout context graph other one.has two.has;
      one_list = same_Some loops more (sym one.looped ∙ subst (λ (p : ℕ). slice_get nests p ≡ Some more) (sym place) two.looped);
      one_base = same_Some base next (sym one.begins ∙ two.begins);
    }

-- A function has no more loops than units: the header of each is a unit.
pub record HeaderAt (units : List Node) (loops : List Loop) (position : ℕ) : Type 0 where
  pub one : Loop
  pub there : slice_get loops position ≡ Some one
  pub place : ℕ
  pub at : HasNode units one.header place
  pub late : position ≤ place

header-unit : (image : Image) (function : ℕ) (units : List Node) (loops : List Loop) → AreUnitsOf image function units →
    IsNest image function loops → (position : ℕ) (one : Loop) → slice_get loops position ≡ Some one →
    (place : ℕ) × HasNode units one.header place
header-unit image function units loops of nest position one there =
    node-at units one.header (header-among image function units loops of nest one (contains_at loops position one there))

pub rise-headers : (image : Image) (function : ℕ) (loops : List Loop) → IsNest image function loops → (p q : ℕ) (one other : Loop) →
    slice_get loops p ≡ Some one → slice_get loops q ≡ Some other → p < q → one.header < other.header
rise-headers image function loops nest p q one other here there less =
    let first : get_or loops p one ≡ one = get_or_from_slice_get loops p one one here in
    let second : get_or loops q one ≡ other = get_or_from_slice_get loops q other one there in
    let up : (get_or loops p one).header < (get_or loops q one).header =
    nest.rising p q one less (slice_get_within loops q other there) in
    omega (arith, up, ap (λ (l : Loop). l.header) first, ap (λ (l : Loop). l.header) second)

pub header-at : (image : Image) (function : ℕ) (units : List Node) (loops : List Loop) → AreUnitsOf image function units →
    IsNest image function loops → (position : ℕ) (one : Loop) → slice_get loops position ≡ Some one → HeaderAt units loops position
header-at image function units loops of nest zero one there =
    let (place, at) = header-unit image function units loops of nest zero one there in
    record { one = one; there = there; place = place; at = at; late = omega arith }
header-at image function units loops of nest (suc position) one there =
    let (place, at) = header-unit image function units loops of nest (suc position) one there in
    let inside : position < length loops = omega (arith, slice_get_within loops (suc position) one there) in
    let before = header-at image function units loops of nest position (get_or loops position one) (slice_get-get_or loops position one inside) in
    let up : before.one.header < one.header =
    rise-headers image function loops nest position (suc position) before.one one before.there there (omega arith) in
    let less : before.place < place =
    later_node units before.place place before.at.node at.node of.rising before.at.there at.there
    (let a = before.at.same in let b = at.same in omega (arith, up, a, b)) in
    record { one = one; there = there; place = place; at = at; late = let low = before.late in omega (arith, low, less) }

few-by : (image : Image) (function : ℕ) (units : List Node) (loops : List Loop) → AreUnitsOf image function units →
    IsNest image function loops → (count : ℕ) → length loops ≡ count → count ≤ length units
few-by image function units loops of nest zero same = omega arith
few-by image function units loops of nest (suc last) same =
    let inside : last < length loops = omega (arith, same) in
    let (one, there) = some-at loops last inside in
    let found = header-at image function units loops of nest last one there in
    let low = found.late in
    omega (arith, low, slice_get_within units found.place found.at.node found.at.there)
  where
    some-at : (loops : List Loop) (k : ℕ) → k < length loops → (one : Loop) × (slice_get loops k ≡ Some one)
    some-at [] k less = absurd (omega (arith, less))
    some-at (l ∷ loops) zero less = (l, refl)
    some-at (l ∷ loops) (suc k) less = some-at loops k (omega (arith, less))

pub loops-few : (image : Image) (function : ℕ) (units : List Node) (loops : List Loop) → AreUnitsOf image function units →
    IsNest image function loops → length loops ≤ length units
loops-few image function units loops of nest = few-by image function units loops of nest (length loops) refl

-- The numbers of first places and of instances grow.
pub bases-grow : (image : Image) (entry : ℕ) (graphs : Graphs) (nests : Nests) (layout : Layout) → HasLayout image entry graphs nests layout →
    Grow layout.bases.items
bases-grow image entry graphs nests layout laid k a b one other =
    let out = laid.layout_is.laid in
    let inside : k < length layout.contexts.keys =
    (let all = out.bases in omega (arith, slice_get_within layout.bases.items (suc k) b other, all)) in
    let p = parts-of image entry graphs nests layout laid k inside in
    let next = out.next k a p.graph p.parts.has one in
    let same : a + length p.graph.units ≡ b = same_Some (a + length p.graph.units) b (sym next ∙ other) in
    omega (arith, same)

pub firsts-grow : (image : Image) (entry : ℕ) (graphs : Graphs) (nests : Nests) (layout : Layout) → HasLayout image entry graphs nests layout →
    (firsts : List ℕ) → AreFirsts graphs.graphs nests.nests layout (length layout.contexts.keys) firsts → Grow firsts
firsts-grow image entry graphs nests layout laid firsts are k a b one other =
    let inside : k < length layout.contexts.keys =
    (let all = are.count in omega (arith, slice_get_within firsts (suc k) b other, all)) in
    let p = parts-of image entry graphs nests layout laid k inside in
    let next = are.next k a p.base p.graph p.loops inside p.parts one in
    let same : a + length p.loops ≡ b = same_Some (a + length p.loops) b (sym next ∙ other) in
    omega (arith, same)
