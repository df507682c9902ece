-- Where the graph of a function stands.
use Rattle.std.proofs.Common.{◌≡◌, ℕ, zero, suc, ◌+◌, ◌<◌, List, drop, map, slice_get, Some, AllPairs, sym, ap, subst, ◌∙◌, arith}
use Rattle.std.proofs.lemmas.Option.{same_Some}
use Rattle.step_table.proofs.Positions.{place_of}
use Rattle.unit_graph.specs.declared.graph.Graph.{Graph}
use Rattle.call_contexts.specs.Counting.{AreListed, IsGraphAt, IsKnown}
use Rattle.call_contexts.proofs.Bisection.{IsCutAt, cut_found}
use Rattle.call_contexts.proofs.Places.{mapped_at}

abbrev pub entry_of : Graph → ℕ
entry_of graph = graph.entry

pub behind_rising : (graphs : List Graph) → AreListed graphs → AllPairs (λ (g h : Graph). entry_of g < entry_of h) (drop 1 graphs)
behind_rising graphs listed = subst (λ (gs : List Graph). AllPairs (λ (g h : Graph). entry_of g < entry_of h) (drop 1 gs)) (sym listed.parts) listed.rising

-- A graph other than the first stands behind it.
stands_behind : (graphs : List Graph) (function : ℕ) → AreListed graphs → IsKnown graphs function → (first : Graph) → slice_get graphs 0 ≡ Some first →
    (entry_of first ≡ function → ⊥) → (k : ℕ) × (graph : Graph) × (slice_get (drop 1 graphs) k ≡ Some graph) × (entry_of graph ≡ function)
stands_behind graphs function listed known first there other = by_place found.0 found.1
  where
    found : (k : ℕ) × (slice_get (map entry_of graphs) k ≡ Some function)
    found = place_of (map entry_of graphs) function known

    by_place : (k : ℕ) → slice_get (map entry_of graphs) k ≡ Some function →
        (k : ℕ) × (graph : Graph) × (slice_get (drop 1 graphs) k ≡ Some graph) × (entry_of graph ≡ function)
    by_place zero at =
        let (graph, is, same) = mapped_at entry_of graphs zero function at in
        absurd (other (ap entry_of (same_Some first graph (sym there ∙ is)) ∙ same))
    by_place (suc k) at =
        let (graph, is, same) = mapped_at entry_of graphs (suc k) function at in (
          k,
          graph,
          subst (λ (gs : List Graph). slice_get (drop 1 gs) k ≡ Some graph) (sym listed.parts)
              (subst (λ (gs : List Graph). slice_get gs (suc k) ≡ Some graph) listed.parts is),
          same,
        )

pub found_behind : (graphs : List Graph) (function : ℕ) (listed : AreListed graphs) → IsKnown graphs function → (first : Graph) → slice_get graphs 0 ≡ Some first →
    (entry_of first ≡ function → ⊥) → (place : ℕ) → IsCutAt entry_of (drop 1 graphs) (behind_rising graphs listed) function place →
    IsGraphAt graphs function (1 + place)
found_behind graphs function listed known first there other place cut =
    let (k, graph, is, same) = stands_behind graphs function listed known first there other in
    let at = cut_found entry_of (drop 1 graphs) (behind_rising graphs listed) function place cut k graph is same in
    let e : suc place ≡ 1 + place = omega arith in
    record {
      graph = graph;
      there = subst (λ (i : ℕ). slice_get graphs i ≡ Some graph) e
          (subst (λ (gs : List Graph). slice_get gs (suc place) ≡ Some graph) (sym listed.parts)
          (subst (λ (gs : List Graph). slice_get (drop 1 gs) place ≡ Some graph) listed.parts at));
      same = same;
    }
