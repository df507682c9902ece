-- The loops of all functions of a program, from those of each.
use Rattle.std.proofs.Common.{◌≡◌, ℕ, ◌<◌, ◌≤◌, List, [], ◌∷◌, ◌++◌, All, map, Option, Some, None, zero, suc, refl, sym, subst, arith, inl, inr, ◌⊎◌}
use Rattle.std.specs.Prelude.{Contains, IfSome}
use Rattle.std.specs.List.{AllZip}
use Rattle.std.proofs.lemmas.Bool.{cases_lt}
use Rattle.std.proofs.lemmas.List.Elements.{All-contains, All-nil, All-push, All-weaker, Contains-append_left, Contains-append_right, Contains-push}
use Rattle.elf_mips.specs.declared.image.Image.{Image}
use Rattle.loop_nest.specs.declared.find.Answer.{Answer}
use Rattle.loop_nest.specs.declared.find.Answer.TheVariants as answer
use Rattle.loop_nest.specs.declared.nest.Loop.{Loop}
use Rattle.loop_nest.specs.Nests.{IsFirstIrreducible, IsFirstUnbounded, IsLoop, IsNest, TellsKind}
use Rattle.loop_nest.specs.Plans.{IsAnswer}
use Rattle.loop_nest.specs.Programs.{Follows, HasAnswer, IsAmong, IsFoundIn, IsNestOf, TellsKindIn}
use Rattle.loop_nest.proofs.HeaderRank.{ranks-reducible}
use Rattle.net_model.specs.declared.unit.CodeKind.{CodeKind}
use Rattle.net_model.specs.declared.unit.CodeKind.TheVariants as kind
use Rattle.net_model.specs.Faults.{rank}
use Rattle.net_model.specs.Functions.{IsFunction}
use Rattle.net_model.specs.Loops.{IsIrreducible, IsNamedBy, IsUnbounded}
use Rattle.step_table.proofs.Positions.{zip_push}
use Rattle.unit_graph.specs.Firsts.{IsNoEarlier}
use Rattle.unit_graph.specs.Graphs.{AreGraphs, IsGraph, IsGraphIn}
use Rattle.unit_graph.specs.declared.first.Offence.{Offence}
use Rattle.unit_graph.specs.declared.graph.Graph.{Graph}
use Rattle.unit_graph.specs.declared.graph.Graphs.{Graphs}
use Rattle.unit_graph.proofs.Foremost.{later}

-- Each graph is that of a function.
pub each_graph : (image : Image) (entry : ℕ) (graphs : Graphs) (listed : List Graph) → AreGraphs image entry graphs →
    listed ≡ graphs.graphs → All (λ (g : Graph). IsGraph image g.entry g) listed
each_graph image entry graphs listed are e =
    subst (All (λ (g : Graph). IsGraph image g.entry g)) (sym e)
    (All-weaker (IsGraphIn image entry) (λ (g : Graph). IsGraph image g.entry g) (λ g is. is.is) graphs.graphs are.each)

pub found_nothing : (image : Image) (nests : List (List Loop)) → nests ≡ [] → IsFoundIn image [] nests None
found_nothing image nests e = record {
  each = All-nil (HasAnswer image None);
  among = tt;
  nests_are = λ same. subst (AllZip (IsNestOf image) []) (sym e) tt;
}

among_more : (image : Image) (first : Option Offence) (graphs : List Graph) (graph : Graph) → IsAmong image first graphs →
    IsAmong image first (graphs ++ graph ∷ [])
among_more image None graphs graph among = tt
among_more image (Some offence) graphs graph among = (among.0, Contains-append_left graphs (graph ∷ []) among.0 among.1, among.2)

pub found_loops : (image : Image) (graphs : List Graph) (graph : Graph) (nests later_nests : List (List Loop)) (first : Option Offence) (loops : List Loop) →
    IsFoundIn image graphs nests first → IsNest image graph.entry loops → later_nests ≡ nests ++ loops ∷ [] →
    IsFoundIn image (graphs ++ graph ∷ []) later_nests first
found_loops image graphs graph nests later_nests first loops found nest e = record {
  each = All-push (HasAnswer image first) graphs graph found.each (record { answer = answer.Loops loops; is = nest; follows = tt });
  among = among_more image first graphs graph found.among;
  nests_are = λ none. subst (AllZip (IsNestOf image) (graphs ++ graph ∷ [])) (sym e) (zip_push (IsNestOf image) graphs nests graph loops (found.nests_are none) nest);
}

follows_later : (first : Option Offence) (result : Offence) (a : Answer) → IfSome first (λ (other : Offence). IsNoEarlier result other.kind other.place) →
    Follows first a → Follows (Some result) a
follows_later first result (answer.Loops loops) old follows = tt
follows_later None result (answer.Fault k place) old follows = absurd follows
follows_later (Some offence) result (answer.Fault k place) old follows = later result offence k place old follows

pub found_fault : (image : Image) (graphs : List Graph) (graph : Graph) (nests : List (List Loop)) (first : Option Offence) (result : Offence) (k : CodeKind) (place : ℕ) →
    IsFoundIn image graphs nests first → TellsKind image graph.entry k place →
    (first ≡ Some result) ⊎ (result ≡ record { kind = k; place = place }) → IsNoEarlier result k place →
    IfSome first (λ (other : Offence). IsNoEarlier result other.kind other.place) →
    IsFoundIn image (graphs ++ graph ∷ []) nests (Some result)
found_fault image graphs graph nests first result k place found tells either new old = record {
  each = All-push (HasAnswer image (Some result)) graphs graph
      (All-weaker (HasAnswer image first) (HasAnswer image (Some result))
      (λ g h. record { answer = h.answer; is = h.is; follows = follows_later first result h.answer old h.follows }) graphs found.each)
      (record { answer = answer.Fault k place; is = tells; follows = new });
  among = by_case either;
  nests_are = λ e. cc;
}
  where
    by_case : (first ≡ Some result) ⊎ (result ≡ record { kind = k; place = place }) → IsAmong image (Some result) (graphs ++ graph ∷ [])
    by_case (inl e) = among_more image (Some result) graphs graph (subst (λ (o : Option Offence). IsAmong image o graphs) e found.among)
    by_case (inr e) = (
      graph,
      Contains-push graphs graph,
      subst (λ (o : Offence). TellsKind image graph.entry o.kind o.place) (sym e) tells,
    )

-- A function's graph is listed.
preimage : (graphs : List Graph) (function : ℕ) → Contains (map (λ (g : Graph). g.entry) graphs) function →
    (g : Graph) × Contains graphs g × (g.entry ≡ function)
preimage [] function (k, inside, e) = absurd (omega arith)
preimage (g ∷ graphs) function (zero, inside, e) = (g, (0, omega arith, refl), e)
preimage (g ∷ graphs) function (suc k, inside, e) =
    let rest = preimage graphs function (k, omega arith, e) in
    (rest.0, Contains-append_right (g ∷ []) graphs rest.0 rest.1, rest.2)

answer_there : (image : Image) (entry : ℕ) (graphs : Graphs) (first : Option Offence) → AreGraphs image entry graphs →
    All (HasAnswer image first) graphs.graphs → (function : ℕ) → IsFunction image entry function →
    (a : Answer) × IsAnswer image function a × Follows first a
answer_there image entry graphs first are each function is =
    let from = preimage graphs.graphs function (are.whole function is) in
    let has = All-contains (HasAnswer image first) graphs.graphs from.0 each from.1 in
    (has.answer, subst (λ (f : ℕ). IsAnswer image f has.answer) from.2 has.is, has.follows)

loop_preimage : (loops : List Loop) (header : ℕ) → Contains (map (λ (l : Loop). l.header) loops) header →
    (l : Loop) × Contains loops l × (l.header ≡ header)
loop_preimage [] header (k, inside, e) = absurd (omega arith)
loop_preimage (l ∷ loops) header (zero, inside, e) = (l, (0, omega arith, refl), e)
loop_preimage (l ∷ loops) header (suc k, inside, e) =
    let rest = loop_preimage loops header (k, omega arith, e) in
    (rest.0, Contains-append_right (l ∷ []) loops rest.0 rest.1, rest.2)

nest_bounded : (image : Image) (function header : ℕ) (loops : List Loop) → IsNest image function loops → IsUnbounded image function header → ⊥
nest_bounded image function header loops nest open_loop =
    let from = loop_preimage loops header (nest.whole header open_loop.loops) in
    let is = All-contains (IsLoop image function) loops from.0 nest.each from.1 in
    open_loop.unnamed is.bounded.mark is.bounded.listed
    (subst (λ (h : ℕ). IsNamedBy image function is.bounded.mark h) from.2 is.bounded.named)

-- No unit of a function lies on a cycle without back arcs before the first fault.
no_irreducible : (image : Image) (function place : ℕ) (first : Offence) (a : Answer) → IsAnswer image function a → Follows (Some first) a →
    IsIrreducible image function place → (rank first.kind < 6) ⊎ ((rank first.kind ≡ 6) × (first.place ≤ place))
no_irreducible image function place first (answer.Loops loops) is follows here = absurd (ranks-reducible image function is.ranks place here)
no_irreducible image function place first (answer.Fault k other) is follows here = by_kind k is follows
  where
    by_place : (place < other) ⊎ (other ≤ place) → IsFirstIrreducible image function other → IsNoEarlier first kind.Irreducible other →
        (rank first.kind < 6) ⊎ ((rank first.kind ≡ 6) × (first.place ≤ place))
    by_place (inl l) is follows = absurd (is.least place l here)
    by_place (inr m) is (inl p) = inl p
    by_place (inr m) is (inr q) = inr (q.0, omega (arith, m, q.1))

    by_kind : (k : CodeKind) → TellsKind image function k other → IsNoEarlier first k other →
        (rank first.kind < 6) ⊎ ((rank first.kind ≡ 6) × (first.place ≤ place))
    by_kind kind.WritableCode is follows = absurd is
    by_kind kind.UnknownWord is follows = absurd is
    by_kind kind.TransferInSlot is follows = absurd is
    by_kind kind.UnknownTarget is follows = absurd is
    by_kind kind.LinkRegister is follows = absurd is
    by_kind kind.Recursion is follows = absurd is
    by_kind kind.Irreducible is follows = by_place (cases_lt place other) is follows
    by_kind kind.NoBound is follows = absurd (is.accepted place here)

-- No loop of a function lacks a bound before the first fault.
no_unbounded : (image : Image) (function place : ℕ) (first : Offence) (a : Answer) → IsAnswer image function a → Follows (Some first) a →
    IsUnbounded image function place → (rank first.kind < 7) ⊎ ((rank first.kind ≡ 7) × (first.place ≤ place))
no_unbounded image function place first (answer.Loops loops) is follows here = absurd (nest_bounded image function place loops is here)
no_unbounded image function place first (answer.Fault k other) is follows here = by_kind k is follows
  where
    by_place : (place < other) ⊎ (other ≤ place) → IsFirstUnbounded image function other → IsNoEarlier first kind.NoBound other →
        (rank first.kind < 7) ⊎ ((rank first.kind ≡ 7) × (first.place ≤ place))
    by_place (inl l) is follows = absurd (is.least place l here)
    by_place (inr m) is (inl p) = inl p
    by_place (inr m) is (inr q) = inr (q.0, omega (arith, m, q.1))

    early : IsNoEarlier first kind.Irreducible other → rank first.kind < 7
    early (inl p) = omega (arith, p)
    early (inr q) = omega (arith, q.0)

    by_kind : (k : CodeKind) → TellsKind image function k other → IsNoEarlier first k other →
        (rank first.kind < 7) ⊎ ((rank first.kind ≡ 7) × (first.place ≤ place))
    by_kind kind.WritableCode is follows = absurd is
    by_kind kind.UnknownWord is follows = absurd is
    by_kind kind.TransferInSlot is follows = absurd is
    by_kind kind.UnknownTarget is follows = absurd is
    by_kind kind.LinkRegister is follows = absurd is
    by_kind kind.Recursion is follows = absurd is
    by_kind kind.Irreducible is follows = inl (early follows)
    by_kind kind.NoBound is follows = by_place (cases_lt place other) is follows

-- The first fault of all functions.
tells_by : (image : Image) (entry : ℕ) (graphs : Graphs) (function : ℕ) (k : CodeKind) (place : ℕ) → AreGraphs image entry graphs →
    All (HasAnswer image (Some (record { kind = k; place = place }))) graphs.graphs → IsFunction image entry function →
    TellsKind image function k place → TellsKindIn image entry k place
tells_by image entry graphs function kind.WritableCode place are each is tells = absurd tells
tells_by image entry graphs function kind.UnknownWord place are each is tells = absurd tells
tells_by image entry graphs function kind.TransferInSlot place are each is tells = absurd tells
tells_by image entry graphs function kind.UnknownTarget place are each is tells = absurd tells
tells_by image entry graphs function kind.LinkRegister place are each is tells = absurd tells
tells_by image entry graphs function kind.Recursion place are each is tells = absurd tells
tells_by image entry graphs function kind.Irreducible place are each is tells = record {
  here = record { function = function; is = is; here = tells.here };
  least = λ lesser less other.
      let a = answer_there image entry graphs (Some (record { kind = kind.Irreducible; place = place })) are each other.function other.is in
      elim (no_irreducible image other.function lesser (record { kind = kind.Irreducible; place = place }) a.0 a.1 a.2 other.here) as (λ _. ⊥) [
        | inl p ↦ omega (arith, p)
        | inr q ↦ omega (arith, q.1, less)
      ];
}
tells_by image entry graphs function kind.NoBound place are each is tells = record {
  accepted = λ address other.
      let a = answer_there image entry graphs (Some (record { kind = kind.NoBound; place = place })) are each other.function other.is in
      elim (no_irreducible image other.function address (record { kind = kind.NoBound; place = place }) a.0 a.1 a.2 other.here) as (λ _. ⊥) [
        | inl p ↦ omega (arith, p)
        | inr q ↦ omega (arith, q.0)
      ];
  here = record { function = function; is = is; here = tells.here };
  least = λ lesser less other.
      let a = answer_there image entry graphs (Some (record { kind = kind.NoBound; place = place })) are each other.function other.is in
      elim (no_unbounded image other.function lesser (record { kind = kind.NoBound; place = place }) a.0 a.1 a.2 other.here) as (λ _. ⊥) [
        | inl p ↦ omega (arith, p)
        | inr q ↦ omega (arith, q.1, less)
      ];
}

pub found_tells : (image : Image) (entry : ℕ) (graphs : Graphs) (nests : List (List Loop)) (first : Offence) → AreGraphs image entry graphs →
    IsFoundIn image graphs.graphs nests (Some first) → TellsKindIn image entry first.kind first.place
found_tells image entry graphs nests first are found =
    let from = found.among in
    let is = All-contains (IsGraphIn image entry) graphs.graphs from.0 are.each from.1 in
    tells_by image entry graphs from.0.entry first.kind first.place are found.each is.function from.2
