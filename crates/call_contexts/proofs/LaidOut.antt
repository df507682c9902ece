-- What was counted and made is the layout of a program's contexts.
use Rattle.std.proofs.Common.{◌≡◌, ℕ, suc, ◌+◌, ◌-◌, ◌<◌, ◌≤◌, inl, inr, List, length, take, get_or, slice_get, Some, sum_by, sym, ap, subst, ◌∙◌, arith}
use Rattle.std.proofs.Math.Seq.{take-length}
use Rattle.std.proofs.lemmas.List.{length-map}
use Rattle.std.proofs.lemmas.List.Sums.{sum_by-take-le, sum_by_more}
use Rattle.std.proofs.lemmas.Option.{get_or_from_slice_get, same_Some, slice_get-get_or, slice_get_within}
use Rattle.elf_mips.specs.declared.image.Image.{Image}
use Rattle.step_table.specs.Numbers.{number_of}
use Rattle.unit_graph.specs.declared.graph.Graph.{Graph}
use Rattle.unit_graph.specs.declared.graph.Graphs.{Graphs}
use Rattle.call_contexts.specs.Counted.{IsCounted, IsFit}
use Rattle.call_contexts.specs.Counting.{AddsAlong, AreCalled, IsToldFirst, IsTotalOfFirst, calls_in, ones_for, steps_of, unit_counts}
use Rattle.call_contexts.specs.Expansion.{IsMade}
use Rattle.call_contexts.specs.Layout.{HasGraph, HasGraphs, IsLaidOut, IsLayout}
use Rattle.call_contexts.specs.Programs.{AreTooMany, HasTooMany}
use Rattle.call_contexts.specs.Sizes.{AreSizes, most_contexts, most_places}
use Rattle.call_contexts.specs.declared.layout.Layout.{Layout}
use Rattle.call_contexts.specs.declared.sizes.Counted.{Counted}
use Rattle.call_contexts.proofs.CallGraph.{entry_apart, lists_rise, lists_within}
use Rattle.call_contexts.proofs.GraphFunctions.{first_read}
use Rattle.call_contexts.proofs.LayingOut.{AreMadeAll, contexts_are, context_at, position_is}
use Rattle.std.proofs.lemmas.Slice.Zip.{AllZip-long}
use Rattle.call_contexts.proofs.Places.{map_at}
use Rattle.call_contexts.proofs.ProgramSizes.{sizes_are}
use Rattle.call_contexts.proofs.Summing.{sums_all}

-- What is told and within a limit is the number itself.
total_told : (table : List (List ℕ)) (own : List ℕ) (number limit : ℕ) → IsToldFirst table own number → number ≤ limit → limit ≤ 65536 → IsTotalOfFirst table own number
total_told table own number limit told within small = record { total = told.total; adds = told.adds; same = omega (arith, told.same, within, small) }

lists_length : (graphs : List Graph) (counted : Counted) → IsCounted graphs counted → length counted.lists.items ≡ length graphs
lists_length graphs counted is = AllZip-long (λ (graph : Graph). AreCalled graphs (calls_in graph)) graphs counted.lists.items is.lists

units_length : (graphs : List Graph) (counted : Counted) → IsCounted graphs counted → length counted.units.items ≡ length counted.lists.items
units_length graphs counted is =
    ap (λ (units : List ℕ). length units) is.units ∙ length-map graphs (λ (graph : Graph). length graph.units) ∙ sym (lists_length graphs counted is)

pub fit_is : (image : Image) (entry : ℕ) (graphs : Graphs) → HasGraphs image entry graphs → (counted : Counted) → IsCounted graphs.graphs counted →
    counted.sizes.contexts ≤ most_contexts → counted.sizes.places ≤ most_places → IsFit entry counted
fit_is image entry graphs has counted is few_contexts few_places = record {
  ready = record {
    some = omega (arith, lists_length graphs.graphs counted is, ap (λ (gs : List Graph). length gs) has.graphs_are.parts);
    within = lists_within graphs.graphs counted.lists.items is.lists (lists_length graphs.graphs counted is);
    rising = lists_rise image entry graphs has.graphs_are counted.lists.items is.lists;
    other = entry_apart image entry graphs has counted.lists.items is.lists;
    counted = total_told (steps_of counted.lists.items) (ones_for counted.lists.items) counted.sizes.contexts most_contexts is.contexts few_contexts (omega arith);
  };
  sized = units_length graphs.graphs counted is;
  places = total_told (steps_of counted.lists.items) counted.units.items counted.sizes.places most_places is.places few_places (omega arith);
  few_contexts = few_contexts;
  few_places = few_places;
}

-- The totals are the program's sizes.
totals_are : (image : Image) (entry : ℕ) (graphs : Graphs) → HasGraphs image entry graphs → (counted : Counted) → IsCounted graphs.graphs counted →
    (contexts places : ℕ → ℕ) → AddsAlong (steps_of counted.lists.items) (ones_for counted.lists.items) contexts →
    AddsAlong (steps_of counted.lists.items) counted.units.items places → AreSizes image entry (contexts 0) (places 0)
totals_are image entry graphs has counted is contexts places contexts_add places_add =
    sizes_are image entry graphs has.graphs_are counted.lists.items is.lists (lists_length graphs.graphs counted is) contexts places contexts_add
    (subst (λ (units : List ℕ). AddsAlong (steps_of counted.lists.items) units places) is.units places_add)

pub too_many : (image : Image) (entry : ℕ) (graphs : Graphs) → HasGraphs image entry graphs → (counted : Counted) → IsCounted graphs.graphs counted →
    AreTooMany counted.sizes.contexts counted.sizes.places → HasTooMany image entry counted.sizes.contexts counted.sizes.places
too_many image entry graphs has counted is many = record {
  all_contexts = is.contexts.total 0;
  all_places = is.places.total 0;
  sizes = totals_are image entry graphs has counted is is.contexts.total is.places.total is.contexts.adds is.places.adds;
  many = truly many;
  contexts_told = is.contexts.same;
  places_told = is.places.same;
}
  where
    truly : AreTooMany counted.sizes.contexts counted.sizes.places → AreTooMany (is.contexts.total 0) (is.places.total 0)
    truly (inl over) = inl (omega (arith, over, is.contexts.same))
    truly (inr over) = inr (omega (arith, over, is.places.same))

-- A layout that was made of what was counted of a program.
pub record IsPlan (image : Image) (entry : ℕ) (graphs : Graphs) (counted : Counted) (layout : Layout) : Type 0 where
  pub has : HasGraphs image entry graphs
  pub is : IsCounted graphs.graphs counted
  pub fit : IsFit entry counted
  pub made : IsMade entry counted.units.items counted.lists.items counted.sizes.contexts layout

-- What was counted of the graphs and made from the first one's entry on.
pub plan_is : (image : Image) (entry : ℕ) (graphs : Graphs) (has : HasGraphs image entry graphs) (given : List Graph) (d : Graph) (counted : Counted) (layout : Layout) →
    given ≡ graphs.graphs → IsCounted given counted → counted.sizes.contexts ≤ most_contexts → counted.sizes.places ≤ most_places →
    IsMade (get_or given 0 d).entry counted.units.items counted.lists.items counted.sizes.contexts layout → IsPlan image entry graphs counted layout
plan_is image entry graphs has given d counted layout same is few_contexts few_places made =
    let of = subst (λ (gs : List Graph). IsCounted gs counted) same is in
    let first = ap (λ (g : Graph). g.entry) (first_read image entry graphs has.graphs_are given d same) ∙ has.graphs_are.begins in
    record {
      has = has;
      is = of;
      fit = fit_is image entry graphs has counted of few_contexts few_places;
      made = subst (λ (e : ℕ). IsMade e counted.units.items counted.lists.items counted.sizes.contexts layout) first made;
    }

module _ (image : Image) (entry : ℕ) (graphs : Graphs) (counted : Counted) (layout : Layout) (plan : IsPlan image entry graphs counted layout) where
  all : AreMadeAll image entry graphs counted.lists.items layout.contexts.keys layout.functions.items counted.sizes.contexts
  all = record {
    graphs_are = plan.has.graphs_are;
    zip = plan.is.lists;
    expanded = plan.made.expanded;
    counted = plan.made.counted;
  }

  -- The places of all contexts.
  all_units : sum_by (number_of counted.units.items) layout.functions.items ≡ counted.sizes.places
  all_units = sums_all counted.lists.items layout.functions.items counted.sizes.contexts plan.made.sums plan.made.counted counted.units.items
      plan.fit.places.total plan.fit.sized plan.fit.places.adds ∙ sym plan.fit.places.same

  graph_at_context : (number position : ℕ) → slice_get layout.functions.items number ≡ Some position → (graph : Graph) × HasGraph graphs.graphs layout number graph
  graph_at_context number position at =
      let (context, there) = context_at image entry graphs counted.lists.items layout.contexts.keys layout.functions.items counted.sizes.contexts all number position at in
      let is = position_is image entry graphs counted.lists.items layout.contexts.keys layout.functions.items counted.sizes.contexts all number position context there at in
      (is.graph, record { of = context; there = there; position = position; listed = at; is = is.there; same = is.same })

  each_graph : (number : ℕ) → number < length layout.contexts.keys → (graph : Graph) × HasGraph graphs.graphs layout number graph
  each_graph number within =
      graph_at_context number (get_or layout.functions.items number 0)
      (slice_get-get_or layout.functions.items number 0 (omega (arith, within, plan.made.expanded.sized)))

  base_is : (context base : ℕ) → slice_get layout.bases.items context ≡ Some base → context ≤ length layout.functions.items →
      base ≡ 1 + sum_by (number_of counted.units.items) (take context layout.functions.items)
  base_is context base there within =
      same_Some base (1 + sum_by (number_of counted.units.items) (take context layout.functions.items)) (sym there ∙ plan.made.bases.each context within)

  base_within : (context base : ℕ) → slice_get layout.bases.items context ≡ Some base → context ≤ length layout.functions.items
  base_within context base there = omega (arith, slice_get_within layout.bases.items context base there, plan.made.bases.count)

  units_are : (context : ℕ) (graph : Graph) (has : HasGraph graphs.graphs layout context graph) → number_of counted.units.items has.position ≡ length graph.units
  units_are context graph has =
      ap (λ (units : List ℕ). number_of units has.position) plan.is.units
      ∙ get_or_from_slice_get (unit_counts graphs.graphs) has.position (length graph.units) 0 (map_at (λ (g : Graph). length g.units) graphs.graphs has.position graph has.is)

  next_base : (context base : ℕ) (graph : Graph) → HasGraph graphs.graphs layout context graph → slice_get layout.bases.items context ≡ Some base →
      slice_get layout.bases.items (suc context) ≡ Some (base + length graph.units)
  next_base context base graph has there =
      let within : context < length layout.functions.items = slice_get_within layout.functions.items context has.position has.listed in
      let e : context + 1 ≡ suc context = omega arith in
      let at = get_or_from_slice_get layout.functions.items context has.position 0 has.listed in
      let more = sum_by_more (number_of counted.units.items) layout.functions.items context 0 within
      ∙ ap (λ (p : ℕ). sum_by (number_of counted.units.items) (take context layout.functions.items) + number_of counted.units.items p) at in
      let value : 1 + sum_by (number_of counted.units.items) (take (context + 1) layout.functions.items) ≡ base + length graph.units =
      omega (arith, more, base_is context base there (omega (arith, within)), units_are context graph has) in
      subst (λ (c : ℕ). slice_get layout.bases.items c ≡ Some (base + length graph.units)) e
      (plan.made.bases.each (context + 1) (omega (arith, within)) ∙ ap (λ (n : ℕ). Some n) value)

  laid_out : IsLaidOut graphs.graphs layout
  laid_out = record {
    functions = plan.made.expanded.sized;
    bases = omega (arith, plan.made.bases.count, plan.made.expanded.sized);
    each = each_graph;
    first = plan.made.bases.each 0 (omega arith);
    next = next_base;
    few_contexts = omega (arith, plan.made.expanded.sized, plan.made.counted, plan.fit.few_contexts);
    few_places = λ context base there.
        omega (arith, base_is context base there (base_within context base there), sum_by-take-le (number_of counted.units.items) layout.functions.items context, all_units, plan.fit.few_places);
  }

  pub layout_is : IsLayout image entry graphs.graphs layout
  layout_is = record {
    contexts = contexts_are image entry graphs counted.lists.items layout.contexts.keys layout.functions.items counted.sizes.contexts all;
    laid = laid_out;
  }

  pub sizes_is : (next : ℕ) → slice_get layout.bases.items (length layout.contexts.keys) ≡ Some next → AreSizes image entry (length layout.contexts.keys) (next - 1)
  sizes_is next there =
      let at = base_is (length layout.contexts.keys) next there (omega (arith, plan.made.expanded.sized)) in
      let taken = ap (λ (n : ℕ). sum_by (number_of counted.units.items) (take n layout.functions.items)) (sym plan.made.expanded.sized)
      ∙ ap (sum_by (number_of counted.units.items)) (take-length layout.functions.items) in
      let places : plan.fit.places.total 0 ≡ next - 1 = omega (arith, at, taken, all_units, plan.fit.places.same) in
      let contexts : plan.fit.ready.counted.total 0 ≡ length layout.contexts.keys =
      omega (arith, plan.fit.ready.counted.same, plan.made.expanded.sized, plan.made.counted) in
      subst (λ (n : ℕ). AreSizes image entry (length layout.contexts.keys) n) places
      (subst (λ (n : ℕ). AreSizes image entry n (plan.fit.places.total 0)) contexts
      (totals_are image entry graphs plan.has counted plan.is plan.fit.ready.counted.total plan.fit.places.total plan.fit.ready.counted.adds plan.fit.places.adds))
