-- A program without recursion has one number of contexts and one of places.
use Rattle.std.proofs.Common.{◌≡◌, ℕ, zero, suc, ◌<◌, ◌≤◌, ◌==◌, inl, inr, List, [], ◌∷◌, length, map, All, Contains, refl, sym, ap, subst, ◌∙◌, arith, if◌then◌else◌}
use Rattle.std.specs.Prelude.{◌^◌, min, sum_by}
use Rattle.std.proofs.lemmas.Bool.{cond_both, eqb-true, eqb-false}
use Rattle.std.proofs.lemmas.List.Elements.{All-head, All-tail, All-weaker}
use Rattle.std.proofs.lemmas.List.Sums.{sum_by-cons}
use Rattle.elf_mips.specs.declared.image.Image.{Image}
use Rattle.mips_decode.specs.Transfer.{Call}
use Rattle.net_model.specs.declared.unit.CodeKind.TheVariants.{Recursion}
use Rattle.net_model.specs.Faults.{HasNoFault, recursive}
use Rattle.net_model.specs.Functions.{Calls, IsCallWay, IsFunction, further, main}
use Rattle.unit_graph.specs.Graphs.{AreGraphs}
use Rattle.unit_graph.specs.declared.graph.Graph.{Graph}
use Rattle.unit_graph.specs.declared.graph.Graphs.{Graphs}
use Rattle.loop_nest.proofs.Ordered.{cases-in, first-in, later-in, nothing-in}
use Rattle.call_contexts.proofs.GraphCalls.{function-graph, graph_calls, graph_calls-are, graph_units-are}
use Rattle.call_contexts.specs.Programs.{AreTooMany, HasTooMany}
use Rattle.call_contexts.specs.Sizes.{AddsUp, AreSizes, IsCallOf, most_contexts, most_places}

-- The other numbers of a list.
others : ℕ → List ℕ → List ℕ
others one [] = []
others one (x ∷ xs) = if x == one then others one xs else x ∷ others one xs

others-within : (one : ℕ) (xs : List ℕ) → length (others one xs) ≤ length xs
unfolding others
others-within one [] = omega arith
others-within one (x ∷ xs) =
    let rest = others-within one xs in
    cond_both (x == one) (others one xs) (x ∷ others one xs) (λ (ys : List ℕ). length ys ≤ length (x ∷ xs))
    (λ same. omega (arith, rest)) (λ other. omega (arith, rest))

others-fewer : (one : ℕ) (xs : List ℕ) → Contains xs one → length (others one xs) < length xs
unfolding others
others-fewer one [] there = absurd (nothing-in one there)
others-fewer one (x ∷ xs) there =
    cond_both (x == one) (others one xs) (x ∷ others one xs) (λ (ys : List ℕ). length ys < length (x ∷ xs))
    (λ same. let rest = others-within one xs in omega (arith, rest))
    (λ other. elim (cases-in x xs one there) [
      | inl here ↦ absurd (eqb-false x one other here)
      | inr behind ↦ let rest = others-fewer one xs behind in omega (arith, rest)
    ])

others-there : (one : ℕ) (xs : List ℕ) (x : ℕ) → Contains xs x → (x ≡ one → ⊥) → Contains (others one xs) x
unfolding others
others-there one [] x there differ = absurd (nothing-in x there)
others-there one (y ∷ ys) x there differ =
    cond_both (y == one) (others one ys) (y ∷ others one ys) (λ (zs : List ℕ). Contains zs x)
    (λ same. elim (cases-in y ys x there) [
      | inl here ↦ absurd (differ (sym here ∙ eqb-true y one same))
      | inr behind ↦ others-there one ys x behind differ
    ])
    (λ other. elim (cases-in y ys x there) [
      | inl here ↦ subst (Contains (y ∷ others one ys)) here (first-in y (others one ys))
      | inr behind ↦ later-in y (others one ys) x (others-there one ys x behind differ)
    ])

-- Whatever a function leads to by calls stands in the list.
abbrev AreAhead : Image → ℕ → List ℕ → Type 0
AreAhead image function ahead = (way : List ℕ) (to : ℕ) → IsCallWay image function way to → Contains ahead to

-- What a call leads to isn't the calling function again.
ahead-call : (image : Image) (entry : ℕ) → HasNoFault image entry → (function callee : ℕ) (ahead : List ℕ) →
    IsFunction image entry function → Calls image function callee → AreAhead image function ahead →
    AreAhead image callee (others function ahead)
ahead-call image entry faultless function callee ahead is calls all = λ way to leads.
    others-there function ahead to (all (callee ∷ way) to (calls, leads))
    (λ same. faultless Recursion function (recursive function (record {
      reached = is;
      callee = callee;
      more = way;
      begins = calls;
      back = subst (IsCallWay image callee way) same leads;
    })))

-- Sums of the same numbers.
sum_by-same : {T : Type 0} (f g : T → ℕ) (xs : List T) → All (λ x. f x ≡ g x) xs → sum_by f xs ≡ sum_by g xs
sum_by-same f g [] same = refl
sum_by-same f g (x ∷ xs) same =
    let here = All-head (λ x. f x ≡ g x) x xs same in
    let rest = sum_by-same f g xs (All-tail (λ x. f x ≡ g x) x xs same) in
    let one = sum_by-cons f x xs in
    let other = sum_by-cons g x xs in
    omega (arith, here, rest, one, other)

-- Numbers that add up from the same numbers are the same, by induction on what lies ahead.
adds-ahead : (image : Image) (entry : ℕ) (graphs : Graphs) → AreGraphs image entry graphs → HasNoFault image entry →
    (own other total sum : ℕ → ℕ) → ((function : ℕ) → IsFunction image entry function → own function ≡ other function) →
    AddsUp image entry own total → AddsUp image entry other sum →
    (n function : ℕ) (ahead : List ℕ) → length ahead ≤ n → AreAhead image function ahead → IsFunction image entry function →
    total function ≡ sum function
adds-ahead image entry graphs are faultless own other total sum same adds also zero function ahead short all is =
    absurd (let inside = (all [] function refl).1 in omega (arith, short, inside))
adds-ahead image entry graphs are faultless own other total sum same adds also (suc n) function ahead short all is =
    let (graph, graphed) = function-graph image entry graphs are function is in
    let calls = graph_calls graph.units in
    let listed = graph_calls-are image function graph graphed in
    let fewer = others-fewer function ahead (all [] function refl) in
    let each : All (λ (call : Call). total call.target ≡ sum call.target) calls =
    All-weaker (IsCallOf image function) (λ (call : Call). total call.target ≡ sum call.target)
    (λ call of.
    let leads : Calls image function call.target = record { address = call.site; reached = of.reached; calls = of.calls } in
    adds-ahead image entry graphs are faultless own other total sum same adds also n call.target (others function ahead)
    (omega (arith, fewer, short)) (ahead-call image entry faultless function call.target ahead is leads all)
    (further function call.target is leads))
    calls listed.sound in
    let one = adds function calls is listed in
    let two = also function calls is listed in
    let begins = same function is in
    let rest = sum_by-same (λ (call : Call). total call.target) (λ (call : Call). sum call.target) calls each in
    omega (arith, one, two, begins, rest)

-- The functions that calls lead to are functions of the program.
ahead-functions : (image : Image) (entry : ℕ) (way : List ℕ) (function to : ℕ) → IsFunction image entry function →
    IsCallWay image function way to → IsFunction image entry to
ahead-functions image entry [] function to is leads = subst (IsFunction image entry) leads is
ahead-functions image entry (callee ∷ more) function to is leads =
    ahead-functions image entry more callee to (further function callee is leads.0) leads.1

pub adds-once : (image : Image) (entry : ℕ) (graphs : Graphs) → AreGraphs image entry graphs → HasNoFault image entry →
    (own other total sum : ℕ → ℕ) → ((function : ℕ) → IsFunction image entry function → own function ≡ other function) →
    AddsUp image entry own total → AddsUp image entry other sum → (function : ℕ) → IsFunction image entry function →
    total function ≡ sum function
adds-once image entry graphs are faultless own other total sum same adds also function is =
    let functions = map (λ (g : Graph). g.entry) graphs.graphs in
    adds-ahead image entry graphs are faultless own other total sum same adds also (length functions) function functions
    (omega arith) (λ way to leads. are.whole to (ahead-functions image entry way function to is leads)) is

-- The numbers of contexts and places.
pub sizes-once : (image : Image) (entry : ℕ) (graphs : Graphs) → AreGraphs image entry graphs → HasNoFault image entry →
    (contexts places others_contexts others_places : ℕ) → AreSizes image entry contexts places →
    AreSizes image entry others_contexts others_places → (contexts ≡ others_contexts) × (places ≡ others_places)
sizes-once image entry graphs are faultless contexts places others_contexts others_places one two = (
  one.contexts_are
      ∙ adds-once image entry graphs are faultless (λ function. 1) (λ function. 1) one.contexts_of two.contexts_of (λ function is. refl)
      one.contexts_add two.contexts_add entry main
      ∙ sym two.contexts_are,
  one.places_are
      ∙ adds-once image entry graphs are faultless one.units_of two.units_of one.places_of two.places_of units_same
      one.places_add two.places_add entry main
      ∙ sym two.places_are,
)
  where
    units_same : (function : ℕ) → IsFunction image entry function → one.units_of function ≡ two.units_of function
    units_same function is =
        let (graph, graphed) = function-graph image entry graphs are function is in
        let reached = graph_units-are image function graph graphed in
        one.units function (map (λ n. n.address) graph.units) is reached
        ∙ sym (two.units function (map (λ n. n.address) graph.units) is reached)

-- A program whose net has few contexts and places doesn't have too many.
pub sizes-few : (image : Image) (entry : ℕ) (graphs : Graphs) → AreGraphs image entry graphs → HasNoFault image entry →
    (contexts places : ℕ) → AreSizes image entry contexts places → contexts ≤ most_contexts → places ≤ most_places →
    (told_contexts told_places : ℕ) → HasTooMany image entry told_contexts told_places → ⊥
sizes-few image entry graphs are faultless contexts places sizes few low told_contexts told_places many = by_case many.many where
  same : (contexts ≡ many.all_contexts) × (places ≡ many.all_places)
  same = sizes-once image entry graphs are faultless contexts places many.all_contexts many.all_places sizes many.sizes

  by_case : AreTooMany many.all_contexts many.all_places → ⊥
  by_case (inl over) = omega (arith, over, few, same.0)
  by_case (inr over) = omega (arith, over, low, same.1)

-- The numbers told of a program with too many are one pair.
pub told-once : (image : Image) (entry : ℕ) (graphs : Graphs) → AreGraphs image entry graphs → HasNoFault image entry →
    (contexts places others_contexts others_places : ℕ) → HasTooMany image entry contexts places →
    HasTooMany image entry others_contexts others_places → (contexts ≡ others_contexts) × (places ≡ others_places)
told-once image entry graphs are faultless contexts places others_contexts others_places one two =
    let same = sizes-once image entry graphs are faultless one.all_contexts one.all_places two.all_contexts two.all_places one.sizes two.sizes in (
      one.contexts_told ∙ ap (λ (n : ℕ). min n (2 ^ 63)) same.0 ∙ sym two.contexts_told,
      one.places_told ∙ ap (λ (n : ℕ). min n (2 ^ 63)) same.1 ∙ sym two.places_told,
    )
