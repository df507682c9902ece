-- The loops round the units of functions, as they are written one function after the other.
use Rattle.std.proofs.Common.{◌≡◌, ℕ, zero, suc, ◌+◌, ◌^◌, ◌<◌, ◌≤◌, ◌⊎◌, inl, inr, List, [], ◌∷◌, ◌++◌, Option, length, get_or, slice_get, Some, refl, sym, ap, subst, ◌∙◌, arith}
use Rattle.std.specs.Prelude.{IfSome}
use Rattle.std.proofs.lemmas.List.{length_push}
use Rattle.std.proofs.lemmas.Option.{same_Some, slice_get-get_or, slice_get_within}
use Rattle.elf_mips.specs.declared.image.Image.{Image}
use Rattle.loop_nest.specs.declared.nest.Loop.{Loop}
use Rattle.loop_nest.specs.declared.nest.Nests.{Nests}
use Rattle.step_table.proofs.Places.{place_cases}
use Rattle.unit_graph.specs.declared.graph.Graph.{Graph}
use Rattle.unit_graph.specs.declared.graph.Graphs.{Graphs}
use Rattle.unit_graph.specs.declared.node.Unit.{Unit as Node}
use Rattle.call_contexts.specs.Around.{AreNearest, AreOwn}
use Rattle.call_contexts.specs.Instances.{AreRounds, HasRounds}
use Rattle.call_contexts.specs.declared.around.Rounds.{Rounds}
use Rattle.call_contexts.specs.declared.layout.Layout.{Layout}
use Rattle.call_contexts.proofs.InstanceLists.{own-fits}
use Rattle.call_contexts.proofs.Parts.{PartsOf}

-- What holds of the rounds so far and of one more.
more-by : (graphs : List Graph) (nests : List (List Loop)) (done : ℕ) (rounds : List Rounds) (graph : Graph) (loops : List Loop) (round : Rounds)
    (P : Graph → List Loop → Rounds → Type 0) → length rounds ≡ done →
    ((position : ℕ) (g : Graph) (ls : List Loop) (r : Rounds) → slice_get graphs position ≡ Some g → slice_get nests position ≡ Some ls →
    slice_get rounds position ≡ Some r → P g ls r) →
    slice_get graphs done ≡ Some graph → slice_get nests done ≡ Some loops → P graph loops round →
    (position : ℕ) (g : Graph) (ls : List Loop) (r : Rounds) → slice_get graphs position ≡ Some g → slice_get nests position ≡ Some ls →
    (slice_get rounds position ≡ Some r) ⊎ ((position ≡ length rounds) × (round ≡ r)) → P g ls r
more-by graphs nests done rounds graph loops round P count before there looped is position g ls r at in_nests (inl here) =
    before position g ls r at in_nests here
more-by graphs nests done rounds graph loops round P count before there looped is position g ls r at in_nests (inr (last, same)) =
    let place : position ≡ done = last ∙ count in
    let one : graph ≡ g = same_Some graph g (sym there ∙ ap (λ (k : ℕ). slice_get graphs k) (sym place) ∙ at) in
    let two : loops ≡ ls = same_Some loops ls (sym looped ∙ ap (λ (k : ℕ). slice_get nests k) (sym place) ∙ in_nests) in
    subst (P g ls) same (subst (λ (l : List Loop). P g l round) two (subst (λ (x : Graph). P x loops round) one is))

pub rounds-more : (graphs : List Graph) (nests : List (List Loop)) (done : ℕ) (rounds : List Rounds) (graph : Graph) (loops : List Loop) (round : Rounds) →
    AreRounds graphs nests done rounds → slice_get graphs done ≡ Some graph → slice_get nests done ≡ Some loops →
    AreNearest graph.units loops (length loops) round.around.items → AreOwn graph.units loops (length loops) round.own.items →
    AreRounds graphs nests (done + 1) (rounds ++ round ∷ [])
rounds-more graphs nests done rounds graph loops round are there looped around own = record {
  count = let all = are.count in omega (arith, length_push rounds round, all);
  around = λ position g ls r at in_nests here.
      more-by graphs nests done rounds graph loops round (λ x l n. AreNearest x.units l (length l) n.around.items) are.count are.around
      there looped around position g ls r at in_nests (place_cases rounds round position r here);
  own = λ position g ls r at in_nests here.
      more-by graphs nests done rounds graph loops round (λ x l n. AreOwn x.units l (length l) n.own.items) are.count are.own
      there looped own position g ls r at in_nests (place_cases rounds round position r here);
}

-- The rounds of a context's function.
pub record RoundAt (rounds : List Rounds) (position : ℕ) (units : List Node) (loops : List Loop) : Type 0 where
  pub round : Rounds
  pub there : slice_get rounds position ≡ Some round
  pub around : AreNearest units loops (length loops) round.around.items
  pub own : AreOwn units loops (length loops) round.own.items

some-round : (rounds : List Rounds) (k : ℕ) → k < length rounds → (round : Rounds) × (slice_get rounds k ≡ Some round)
some-round [] k less = absurd (omega (arith, less))
some-round (r ∷ rounds) zero less = (r, refl)
some-round (r ∷ rounds) (suc k) less = some-round rounds k (omega (arith, less))

pub round-at : (image : Image) (entry : ℕ) (graphs : Graphs) (nests : Nests) (layout : Layout) (rounds : List Rounds) (firsts : List ℕ) →
    HasRounds image entry graphs nests layout rounds firsts → (context : ℕ) (p : PartsOf image graphs.graphs nests.nests layout context) →
    RoundAt rounds p.parts.has.position p.graph.units p.loops
round-at image entry graphs nests layout rounds firsts has context p =
    let count = has.rounds_are.count in
    let position = p.parts.has.position in
    let (round, there) = some-round rounds position (omega (arith, count, slice_get_within graphs.graphs position p.graph p.parts.has.is)) in
    record {
      round = round;
      there = there;
      around = has.rounds_are.around position p.graph p.loops round p.parts.has.is p.parts.looped there;
      own = has.rounds_are.own position p.graph p.loops round p.parts.has.is p.parts.looped there;
    }

-- The instances of own loops have numbers that aren't too great.
some-unit : (units : List Node) (k : ℕ) → k < length units → (node : Node) × (slice_get units k ≡ Some node)
some-unit [] k less = absurd (omega (arith, less))
some-unit (n ∷ units) zero less = (n, refl)
some-unit (n ∷ units) (suc k) less = some-unit units k (omega (arith, less))

pub own-all-fits : (units : List Node) (loops : List Loop) (first : ℕ) (own : List (Option ℕ)) → first + length loops ≤ 2 ^ 31 →
    AreOwn units loops (length loops) own → (k : ℕ) (d : Option ℕ) → k < length own → IfSome (get_or own k d) (λ at. first + at + 1 < 2 ^ 32)
own-all-fits units loops first own small are k d inside =
    let count = are.count in
    let (node, there) = some-unit units k (omega (arith, count, inside)) in
    own-fits loops first node.address (get_or own k d) small (are.each k (get_or own k d) node there (slice_get-get_or own k d inside))
