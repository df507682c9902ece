-- The numbers of loop instances, the scopes of places and the loop instances, as they are written one context after
-- the other.
use Rattle.std.proofs.Common.{◌≡◌, ℕ, zero, suc, ◌+◌, ◌^◌, ◌<◌, ◌≤◌, ◌⊎◌, inl, inr, List, [], ◌∷◌, ◌++◌, length, map, slice_get, Option, Some, None, refl, sym, ap, subst, ◌∙◌, arith, length-append}
use Rattle.std.specs.Prelude.{IfSome, option_map}
use Rattle.std.proofs.lemmas.Bool.{cases_lt}
use Rattle.std.proofs.lemmas.List.{length-map, length_push}
use Rattle.std.proofs.lemmas.Option.{none-some, same_Some, slice_get-map, slice_get_within}
use Rattle.elf_mips.specs.declared.image.Image.{Image}
use Rattle.flow_net.specs.Numbers.{item_at}
use Rattle.flow_net.specs.declared.net.LoopInst.{LoopInst}
use Rattle.loop_nest.specs.declared.nest.Loop.{Loop}
use Rattle.loop_nest.specs.declared.nest.Nests.{Nests}
use Rattle.step_table.proofs.Places.{place_cases, place_last, place_left}
use Rattle.unit_graph.specs.declared.graph.Graph.{Graph}
use Rattle.unit_graph.specs.declared.graph.Graphs.{Graphs}
use Rattle.unit_graph.specs.declared.node.Unit.{Unit as Node}
use Rattle.call_contexts.specs.Around.{AreOwn, IsNearestBy, IsOwnBy}
use Rattle.call_contexts.specs.Instances.{AddsInstances, AreFirsts, AreInstances, AreInstancesBy, AreScopes, HasParts, HasRounds, IsInstanceBy, HasLayout, IsRoundContext, IsScopeBy, scope_by}
use Rattle.call_contexts.specs.Sizes.{most_places}
use Rattle.call_contexts.specs.declared.around.Rounds.{Rounds}
use Rattle.call_contexts.specs.declared.layout.Layout.{Layout}
use Rattle.call_contexts.proofs.Growing.{Grow, grows}
use Rattle.call_contexts.proofs.Places.{behind-at, front-at}
use Rattle.call_contexts.proofs.Parts.{PartsOf, bases-grow, firsts-grow, loops-few, parts-one}

-- Before the first context.
pub firsts-none : (image : Image) (entry : ℕ) (graphs : Graphs) (nests : Nests) (layout : Layout) → HasLayout image entry graphs nests layout →
    AreFirsts graphs.graphs nests.nests layout 0 (0 ∷ [])
firsts-none image entry graphs nests layout laid = record {
  count = refl;
  first = refl;
  next = λ context first base graph loops less parts there. absurd (omega (arith, less));
  low = λ context first base there begins. low_by context first base there begins;
} where
  low_by : (context first base : ℕ) → slice_get (0 ∷ []) context ≡ Some first → slice_get layout.bases.items context ≡ Some base → first < base
  low_by zero first base there begins =
      let start = laid.layout_is.laid.first in
      let one : 0 ≡ first = same_Some 0 first there in
      let two : 1 ≡ base = same_Some 1 base (sym start ∙ begins) in
      omega (arith, one, two)
  low_by (suc context) first base there begins = absurd (none-some first there)

-- One context more.
pub firsts-low : (image : Image) (entry : ℕ) (graphs : Graphs) (nests : Nests) (layout : Layout) → HasLayout image entry graphs nests layout →
    (done next : ℕ) (firsts : List ℕ) → AreFirsts graphs.graphs nests.nests layout done firsts → slice_get firsts done ≡ Some next →
    (p : PartsOf image graphs.graphs nests.nests layout done) → next + length p.loops < p.base + length p.graph.units
firsts-low image entry graphs nests layout laid done next firsts are there p =
    let begins = p.parts.begins in
    omega (arith, are.low done next p.base there begins, loops-few image p.of.target p.graph.units p.loops p.units p.nest)

-- A context's places have numbers that aren't too great, nor have its loop instances.
pub parts-small : (image : Image) (entry : ℕ) (graphs : Graphs) (nests : Nests) (layout : Layout) → HasLayout image entry graphs nests layout →
    (context : ℕ) (p : PartsOf image graphs.graphs nests.nests layout context) → p.base + length p.graph.units ≤ most_places + 1
parts-small image entry graphs nests layout laid context p =
    let out = laid.layout_is.laid in
    out.few_places (suc context) (p.base + length p.graph.units) (out.next context p.base p.graph p.parts.has p.parts.begins)

pub firsts-small : (image : Image) (entry : ℕ) (graphs : Graphs) (nests : Nests) (layout : Layout) → HasLayout image entry graphs nests layout →
    (done next : ℕ) (firsts : List ℕ) → AreFirsts graphs.graphs nests.nests layout done firsts → slice_get firsts done ≡ Some next →
    (p : PartsOf image graphs.graphs nests.nests layout done) → next + length p.loops ≤ most_places
firsts-small image entry graphs nests layout laid done next firsts are there p =
    omega (arith, firsts-low image entry graphs nests layout laid done next firsts are there p, parts-small image entry graphs nests layout laid done p)

pub firsts-more : (image : Image) (entry : ℕ) (graphs : Graphs) (nests : Nests) (layout : Layout) → HasLayout image entry graphs nests layout →
    (done next : ℕ) (firsts : List ℕ) → AreFirsts graphs.graphs nests.nests layout done firsts → slice_get firsts done ≡ Some next →
    (p : PartsOf image graphs.graphs nests.nests layout done) →
    AreFirsts graphs.graphs nests.nests layout (done + 1) (firsts ++ (next + length p.loops) ∷ [])
firsts-more image entry graphs nests layout laid done next firsts are there p = record {
  count = let all = are.count in omega (arith, length_push firsts (next + length p.loops), all);
  first = place_left firsts ((next + length p.loops) ∷ []) 0 0 are.first;
  next = λ context first base graph loops less parts at.
      next_by context first base graph loops parts (place_cases firsts (next + length p.loops) context first at) (cases_lt context done) less;
  low = λ context first base at begins. low_by context first base begins (place_cases firsts (next + length p.loops) context first at);
} where
  next_by : (context first base : ℕ) (graph : Graph) (loops : List Loop) → HasParts graphs.graphs nests.nests layout context graph loops base →
      (slice_get firsts context ≡ Some first) ⊎ ((context ≡ length firsts) × (next + length p.loops ≡ first)) →
      ((context < done) ⊎ (done ≤ context)) → context < done + 1 →
      slice_get (firsts ++ (next + length p.loops) ∷ []) (suc context) ≡ Some (first + length loops)
  next_by context first base graph loops parts (inr (last, same)) order less =
      absurd (let all = are.count in omega (arith, all, last, less))
  next_by context first base graph loops parts (inl at) (inl early) less =
      place_left firsts ((next + length p.loops) ∷ []) (suc context) (first + length loops)
      (are.next context first base graph loops early parts at)
  next_by context first base graph loops parts (inl at) (inr most) less =
      let here : context ≡ done = omega (arith, most, less) in
      let one = parts-one graphs.graphs nests.nests layout done graph p.graph loops p.loops base p.base
      (subst (λ (c : ℕ). HasParts graphs.graphs nests.nests layout c graph loops base) here parts) p.parts in
      let value : first ≡ next = same_Some first next (sym at ∙ ap (λ (c : ℕ). slice_get firsts c) here ∙ there) in
      let total : next + length p.loops ≡ first + length loops = omega (arith, value, ap (λ (ls : List Loop). length ls) one.one_list) in
      let behind : suc context ≡ length firsts = (let all = are.count in omega (arith, all, here)) in
      ap (λ (k : ℕ). slice_get (firsts ++ (next + length p.loops) ∷ []) k) behind
      ∙ place_last firsts (next + length p.loops) ∙ ap (λ (n : ℕ). Some n) total

  low_by : (context first base : ℕ) → slice_get layout.bases.items context ≡ Some base →
      (slice_get firsts context ≡ Some first) ⊎ ((context ≡ length firsts) × (next + length p.loops ≡ first)) → first < base
  low_by context first base begins (inl at) = are.low context first base at begins
  low_by context first base begins (inr (last, same)) =
      let here : context ≡ suc done = (let all = are.count in omega (arith, all, last)) in
      let value : base ≡ p.base + length p.graph.units =
      same_Some base (p.base + length p.graph.units) (sym begins ∙ ap (λ (c : ℕ). slice_get layout.bases.items c) here
      ∙ laid.layout_is.laid.next done p.base p.graph p.parts.has p.parts.begins) in
      omega (arith, value, same, firsts-low image entry graphs nests layout laid done next firsts are there p)

pub firsts-last : (image : Image) (graphs : Graphs) (nests : Nests) (layout : Layout) (done next : ℕ) (firsts : List ℕ) →
    AreFirsts graphs.graphs nests.nests layout done firsts → slice_get (firsts ++ next ∷ []) (done + 1) ≡ Some next
firsts-last image graphs nests layout done next firsts are =
    let behind : done + 1 ≡ length firsts = (let all = are.count in omega (arith, all)) in
    ap (λ (k : ℕ). slice_get (firsts ++ next ∷ []) k) behind ∙ place_last firsts next

-- What stands at a number stays there when further items come.
pub item-left : {X : Type 0} (xs ys : List X) (number : ℕ) (x : X) → item_at number xs ≡ Some x → item_at number (xs ++ ys) ≡ Some x
item-left xs ys zero x there = absurd (none-some x there)
item-left xs ys (suc k) x there = place_left xs ys k x there

item-front : {X : Type 0} (xs ys : List X) (number : ℕ) (x : X) → number ≤ length xs → item_at number (xs ++ ys) ≡ Some x → item_at number xs ≡ Some x
item-front xs ys zero x most there = there
item-front xs ys (suc k) x most there = sym (front-at xs ys k (omega (arith, most))) ∙ there

item-behind : {X : Type 0} (xs ys : List X) (number k : ℕ) → number ≡ suc (length xs + k) → item_at number (xs ++ ys) ≡ slice_get ys k
item-behind {X} xs ys number k same = ap (λ (n : ℕ). item_at n (xs ++ ys)) same ∙ behind-at xs ys k

round-left : (graphs : List Graph) (layout : Layout) (scopes more : List ℕ) (context outer : ℕ) →
    IsRoundContext graphs layout scopes context outer → IsRoundContext graphs layout (scopes ++ more) context outer
round-left graphs layout scopes more context outer (inl none) = inl none
round-left graphs layout scopes more context outer (inr (later, of)) = inr (
  later,
  record {
    of = of.of;
    there = of.there;
    position = of.position;
    number = of.number;
    node = of.node;
    spot = of.spot;
    site = of.site;
    is = item-left scopes more of.number outer of.is;
  },
)

-- The own loop of a unit of a context has an instance with a small number.
own-low : (loops : List Loop) (address : ℕ) (found : Option ℕ) → IsOwnBy loops (length loops) address found → IfSome found (λ at. at < length loops)
own-low loops address None own = tt
own-low loops address (Some at) (inl (position, less, same, l)) =
    let e : at ≡ position = same_Some at position same in omega (arith, e, less)
own-low loops address (Some at) (inr (none, near)) = near.before

pub fits-by : (first count : ℕ) (found : Option ℕ) → first + count ≤ 2 ^ 31 → IfSome found (λ at. at < count) →
    IfSome found (λ at. first + at + 1 < 2 ^ 32)
fits-by first count None most low = tt
fits-by first count (Some at) most low = omega (arith, most, low)

pub own-fits : (loops : List Loop) (first address : ℕ) (found : Option ℕ) → first + length loops ≤ 2 ^ 31 →
    IsOwnBy loops (length loops) address found → IfSome found (λ at. first + at + 1 < 2 ^ 32)
own-fits loops first address found most own = fits-by first (length loops) found most (own-low loops address found own)

near-low : (loops : List Loop) (address : ℕ) (found : Option ℕ) → IsNearestBy loops (length loops) address found → IfSome found (λ at. at < length loops)
near-low loops address None near = tt
near-low loops address (Some at) near = near.before

pub near-fits : (loops : List Loop) (first address : ℕ) (found : Option ℕ) → first + length loops ≤ 2 ^ 31 →
    IsNearestBy loops (length loops) address found → IfSome found (λ at. first + at + 1 < 2 ^ 32)
near-fits loops first address found most near = fits-by first (length loops) found most (near-low loops address found near)

-- The scopes of one context more.
pub scopes-more : (image : Image) (entry : ℕ) (graphs : Graphs) (nests : Nests) (layout : Layout) (rounds : List Rounds) (firsts : List ℕ) →
    HasRounds image entry graphs nests layout rounds firsts → (done : ℕ) (outers scopes : List ℕ) (outer first : ℕ) (round : Rounds) →
    AreScopes graphs.graphs nests.nests layout firsts done outers scopes → IsRoundContext graphs.graphs layout scopes done outer →
    (p : PartsOf image graphs.graphs nests.nests layout done) → slice_get rounds p.parts.has.position ≡ Some round →
    slice_get firsts done ≡ Some first →
    AreScopes graphs.graphs nests.nests layout firsts (done + 1) (outers ++ outer ∷ []) (scopes ++ map (λ (found : Option ℕ). scope_by first outer found) round.own.items)
scopes-more image entry graphs nests layout rounds firsts has done outers scopes outer first round are outside p rounded there = record {
  count = let all = are.count in omega (arith, length_push outers outer, all);
  filled = filled_by;
  round = λ context other at. round_by context other (place_cases outers outer context other at);
  each = λ context start other base position scope graph loops node parts begins at here is.
      each_by context start other base position scope graph loops node parts begins here is (place_cases outers outer context other at);
} where
  own : AreOwn p.graph.units p.loops (length p.loops) round.own.items
  own = has.rounds_are.own p.parts.has.position p.graph p.loops round p.parts.has.is p.parts.looped rounded

  more : List ℕ
  more = map (λ (found : Option ℕ). scope_by first outer found) round.own.items

  base_is : p.base ≡ suc (length scopes)
  base_is = same_Some p.base (suc (length scopes)) (sym p.parts.begins ∙ are.filled)

  filled_by : slice_get layout.bases.items (done + 1) ≡ Some (suc (length (scopes ++ more)))
  filled_by =
      let count = own.count in
      let total : p.base + length p.graph.units ≡ suc (length (scopes ++ more)) =
      omega (arith, base_is, length-append scopes more, length-map round.own.items (λ (found : Option ℕ). scope_by first outer found), count) in
      let e : done + 1 ≡ suc done = omega arith in
      ap (λ (c : ℕ). slice_get layout.bases.items c) e
      ∙ has.laid.layout_is.laid.next done p.base p.graph p.parts.has p.parts.begins ∙ ap (λ (n : ℕ). Some n) total

  round_by : (context other : ℕ) → (slice_get outers context ≡ Some other) ⊎ ((context ≡ length outers) × (outer ≡ other)) →
      IsRoundContext graphs.graphs layout (scopes ++ more) context other
  round_by context other (inl at) = round-left graphs.graphs layout scopes more context other (are.round context other at)
  round_by context other (inr (last, same)) =
      let here : done ≡ context = (let all = are.count in omega (arith, all, last)) in
      subst (λ (o : ℕ). IsRoundContext graphs.graphs layout (scopes ++ more) context o) same
      (subst (λ (c : ℕ). IsRoundContext graphs.graphs layout (scopes ++ more) c outer) here
      (round-left graphs.graphs layout scopes more done outer outside))

  scope_at : (position scope : ℕ) (node : Node) → slice_get p.graph.units position ≡ Some node → (found : Option (Option ℕ)) →
      slice_get round.own.items position ≡ found → option_map (λ (f : Option ℕ). scope_by first outer f) found ≡ Some scope →
      IsScopeBy p.loops first outer node.address scope
  scope_at position scope node here None at is = absurd (none-some scope is)
  scope_at position scope node here (Some found) at is = record {
    found = found;
    own = own.each position found node here at;
    is = sym (same_Some (scope_by first outer found) scope is);
  }

  each_by : (context start other base position scope : ℕ) (graph : Graph) (loops : List Loop) (node : Node) →
      HasParts graphs.graphs nests.nests layout context graph loops base → slice_get firsts context ≡ Some start →
      slice_get graph.units position ≡ Some node → item_at (base + position) (scopes ++ more) ≡ Some scope →
      (slice_get outers context ≡ Some other) ⊎ ((context ≡ length outers) × (outer ≡ other)) →
      IsScopeBy loops start other node.address scope
  each_by context start other base position scope graph loops node parts begins here is (inl at) =
      let early : context < done = (let all = are.count in omega (arith, all, slice_get_within outers context other at)) in
      let next = has.laid.layout_is.laid.next context base graph parts.has parts.begins in
      let most : base + length graph.units ≤ p.base =
      grows layout.bases.items (bases-grow image entry graphs nests layout has.laid) done (suc context) (base + length graph.units) p.base
      (omega (arith, early)) next p.parts.begins in
      let front : base + position ≤ length scopes =
      omega (arith, most, base_is, slice_get_within graph.units position node here) in
      are.each context start other base position scope graph loops node parts begins at here (item-front scopes more (base + position) scope front is)
  each_by context start other base position scope graph loops node parts begins here is (inr (last, same)) =
      let place : context ≡ done = (let all = are.count in omega (arith, all, last)) in
      let one = parts-one graphs.graphs nests.nests layout done graph p.graph loops p.loops base p.base
      (subst (λ (c : ℕ). HasParts graphs.graphs nests.nests layout c graph loops base) place parts) p.parts in
      let value : first ≡ start = same_Some first start (sym there ∙ ap (λ (c : ℕ). slice_get firsts c) (sym place) ∙ begins) in
      let number : base + position ≡ suc (length scopes + position) = (let b = one.one_base in omega (arith, b, base_is)) in
      let read : option_map (λ (f : Option ℕ). scope_by first outer f) (slice_get round.own.items position) ≡ Some scope =
      sym (slice_get-map (λ (f : Option ℕ). scope_by first outer f) round.own.items position)
      ∙ sym (item-behind scopes more (base + position) position number) ∙ is in
      let got = scope_at position scope node (subst (λ (g : Graph). slice_get g.units position ≡ Some node) one.one_graph here)
      (slice_get round.own.items position) refl read in
      subst (λ (ls : List Loop). IsScopeBy ls start other node.address scope) (sym one.one_list)
      (subst (λ (o : ℕ). IsScopeBy p.loops start o node.address scope) same
      (subst (λ (f : ℕ). IsScopeBy p.loops f outer node.address scope) value got))

pub scopes-none : (graphs : Graphs) (nests : Nests) (layout : Layout) (firsts : List ℕ) → slice_get layout.bases.items 0 ≡ Some 1 →
    AreScopes graphs.graphs nests.nests layout firsts 0 [] []
scopes-none graphs nests layout firsts start = record {
  count = refl;
  filled = start;
  round = λ context outer at. absurd (none-some outer at);
  each = λ context first outer base position scope graph loops node parts begins at here is. absurd (none-some outer at);
}

-- One instance more.
instance-at : (units : List Node) (loops : List Loop) (base first outer done : ℕ) (made : List LoopInst) (one : Loop) (inst : LoopInst) →
    AreInstancesBy units loops base first outer done made → slice_get loops done ≡ Some one → IsInstanceBy units loops base first outer one inst →
    (position : ℕ) (other : LoopInst) (l : Loop) → slice_get loops position ≡ Some l →
    (slice_get made position ≡ Some other) ⊎ ((position ≡ length made) × (inst ≡ other)) → IsInstanceBy units loops base first outer l other
instance-at units loops base first outer done made one inst are there is position other l at (inl before) = are.each position other l before at
instance-at units loops base first outer done made one inst are there is position other l at (inr (last, same)) =
    let place : position ≡ done = last ∙ are.count in
    let equal : one ≡ l = same_Some one l (sym there ∙ subst (λ (p : ℕ). slice_get loops p ≡ Some l) place at) in
    subst (λ (i : LoopInst). IsInstanceBy units loops base first outer l i) same
    (subst (λ (m : Loop). IsInstanceBy units loops base first outer m inst) equal is)

pub adds-none : (units : List Node) (loops : List Loop) (base first outer : ℕ) (instances : List LoopInst) →
    AddsInstances units loops base first outer 0 instances instances
adds-none units loops base first outer instances = record {
  made = [];
  behind = sym (append-nil instances);
  are = record {
    count = refl;
    each = λ position inst one none there. absurd (none-some inst none);
  };
} where
  append-nil : (xs : List LoopInst) → xs ++ [] ≡ xs
  append-nil [] = refl
  append-nil (x ∷ xs) = ap (λ (ys : List LoopInst). x ∷ ys) (append-nil xs)

pub adds-more : (units : List Node) (loops : List Loop) (base first outer done : ℕ) (before later : List LoopInst) (one : Loop) (inst : LoopInst) →
    AddsInstances units loops base first outer done before later → slice_get loops done ≡ Some one →
    IsInstanceBy units loops base first outer one inst → AddsInstances units loops base first outer (done + 1) before (later ++ inst ∷ [])
adds-more units loops base first outer done before later one inst adds there is = record {
  made = adds.made ++ inst ∷ [];
  behind = ap (λ (xs : List LoopInst). xs ++ inst ∷ []) adds.behind ∙ joined before adds.made;
  are = record {
    count = let all = adds.are.count in omega (arith, length_push adds.made inst, all);
    each = λ position other l here at.
        instance-at units loops base first outer done adds.made one inst adds.are there is position other l at
        (place_cases adds.made inst position other here);
  };
} where
  joined : (xs ys : List LoopInst) → (xs ++ ys) ++ inst ∷ [] ≡ xs ++ (ys ++ inst ∷ [])
  joined [] ys = refl
  joined (x ∷ xs) ys = ap (λ (zs : List LoopInst). x ∷ zs) (joined xs ys)

-- The instances of one context more.
pub instances-more : (image : Image) (entry : ℕ) (graphs : Graphs) (nests : Nests) (layout : Layout) (rounds : List Rounds) (firsts outers : List ℕ) →
    HasRounds image entry graphs nests layout rounds firsts → (done : ℕ) (instances later : List LoopInst) (first outer : ℕ) →
    AreInstances graphs.graphs nests.nests layout firsts outers done instances → done < length layout.contexts.keys →
    (p : PartsOf image graphs.graphs nests.nests layout done) → slice_get firsts done ≡ Some first → slice_get outers done ≡ Some outer →
    AddsInstances p.graph.units p.loops p.base first outer (length p.loops) instances later →
    AreInstances graphs.graphs nests.nests layout firsts outers (done + 1) later
instances-more image entry graphs nests layout rounds firsts outers has done instances later first outer are inside p there outside adds = record {
  filled = ap (λ (c : ℕ). slice_get firsts c) next_is ∙ next ∙ ap (λ (n : ℕ). Some n) total;
  each = λ context start other base position graph loops inst one parts begins at here is.
      each_by context start other base position graph loops inst one parts begins at here is (cases_lt context done) (cases_lt done context);
} where
  next_is : done + 1 ≡ suc done
  next_is = omega arith

  first_is : first ≡ length instances
  first_is = same_Some first (length instances) (sym there ∙ are.filled)

  next : slice_get firsts (suc done) ≡ Some (first + length p.loops)
  next = has.firsts_are.next done first p.base p.graph p.loops inside p.parts there

  total : first + length p.loops ≡ length later
  total =
      let count = adds.are.count in
      omega (arith, first_is, count, length-append instances adds.made, ap (λ (xs : List LoopInst). length xs) adds.behind)

  grow : Grow firsts
  grow = firsts-grow image entry graphs nests layout has.laid firsts has.firsts_are

  each_by : (context start other base position : ℕ) (graph : Graph) (loops : List Loop) (inst : LoopInst) (one : Loop) →
      HasParts graphs.graphs nests.nests layout context graph loops base → slice_get firsts context ≡ Some start →
      slice_get outers context ≡ Some other → slice_get loops position ≡ Some one → slice_get later (start + position) ≡ Some inst →
      ((context < done) ⊎ (done ≤ context)) → ((done < context) ⊎ (context ≤ done)) →
      IsInstanceBy graph.units loops base start other one inst
  each_by context start other base position graph loops inst one parts begins at here is (inl early) order =
      let follow = has.firsts_are.next context start base graph loops (omega (arith, early, inside)) parts begins in
      let most : start + length loops ≤ first = grows firsts grow done (suc context) (start + length loops) first (omega (arith, early)) follow there in
      let front : start + position < length instances = omega (arith, most, first_is, slice_get_within loops position one here) in
      are.each context start other base position graph loops inst one parts begins at here
      (sym (front-at instances adds.made (start + position) front)
      ∙ ap (λ (xs : List LoopInst). slice_get xs (start + position)) (sym adds.behind) ∙ is)
  each_by context start other base position graph loops inst one parts begins at here is (inr most) (inl late) =
      let least : first + length p.loops ≤ start = grows firsts grow context (suc done) (first + length p.loops) start (omega (arith, late)) next begins in
      absurd (omega (arith, least, total, slice_get_within later (start + position) inst is))
  each_by context start other base position graph loops inst one parts begins at here is (inr most) (inr least) =
      let place : context ≡ done = omega (arith, most, least) in
      let same = parts-one graphs.graphs nests.nests layout done graph p.graph loops p.loops base p.base
      (subst (λ (c : ℕ). HasParts graphs.graphs nests.nests layout c graph loops base) place parts) p.parts in
      let value : start ≡ first = same_Some start first (sym begins ∙ ap (λ (c : ℕ). slice_get firsts c) place ∙ there) in
      let round : other ≡ outer = same_Some other outer (sym at ∙ ap (λ (c : ℕ). slice_get outers c) place ∙ outside) in
      let number : start + position ≡ length instances + position = omega (arith, value, first_is) in
      let read : slice_get adds.made position ≡ Some inst =
      sym (behind-at instances adds.made position) ∙ ap (λ (k : ℕ). slice_get (instances ++ adds.made) k) (sym number)
      ∙ ap (λ (xs : List LoopInst). slice_get xs (start + position)) (sym adds.behind) ∙ is in
      let got = adds.are.each position inst one read (subst (λ (ls : List Loop). slice_get ls position ≡ Some one) same.one_list here) in
      subst (λ (g : Graph). IsInstanceBy g.units loops base start other one inst) (sym same.one_graph)
      (subst (λ (ls : List Loop). IsInstanceBy p.graph.units ls base start other one inst) (sym same.one_list)
      (subst (λ (b : ℕ). IsInstanceBy p.graph.units p.loops b start other one inst) (sym same.one_base)
      (subst (λ (f : ℕ). IsInstanceBy p.graph.units p.loops p.base f other one inst) (sym value)
      (subst (λ (o : ℕ). IsInstanceBy p.graph.units p.loops p.base first o one inst) (sym round) got))))

pub instances-none : (graphs : Graphs) (nests : Nests) (layout : Layout) (firsts outers : List ℕ) → slice_get firsts 0 ≡ Some 0 →
    AreInstances graphs.graphs nests.nests layout firsts outers 0 []
instances-none graphs nests layout firsts outers start = record {
  filled = start;
  each = λ context first outer base position graph loops inst one parts begins at here is. absurd (none-some inst is);
}

-- The instances of a context have numbers that aren't too great.
pub firsts-small-all : (image : Image) (entry : ℕ) (graphs : Graphs) (nests : Nests) (layout : Layout) (rounds : List Rounds) (firsts : List ℕ) →
    HasRounds image entry graphs nests layout rounds firsts → (context first : ℕ) → context < length layout.contexts.keys →
    (p : PartsOf image graphs.graphs nests.nests layout context) → slice_get firsts context ≡ Some first → first + length p.loops ≤ most_places
firsts-small-all image entry graphs nests layout rounds firsts has context first inside p there =
    let begins = p.parts.begins in
    omega (
      arith,
      has.firsts_are.low context first p.base there begins,
      loops-few image p.of.target p.graph.units p.loops p.units p.nest,
      parts-small image entry graphs nests layout has.laid context p,
    )
