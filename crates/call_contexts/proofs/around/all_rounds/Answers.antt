-- One function more.
use Rattle.std.proofs.Common.{◌≡◌, ◌+◌, ◌<◌, List, length, slice_get, Some, refl, sym, ap, subst, ◌∙◌, arith}
use Rattle.std.proofs.lemmas.Option.{slice_get_read, slice_get_within}
use Rattle.loop_nest.specs.Nests.{IsNest}
use Rattle.loop_nest.specs.Programs.{IsNestOf}
use Rattle.loop_nest.specs.declared.nest.Loop.{Loop}
use Rattle.unit_graph.specs.declared.graph.Graph.{Graph}
use Rattle.unit_graph.specs.declared.node.Unit.{Unit as Node}
use Rattle.call_contexts.specs.Around.{AreNearest, AreOwn, AreUnitsOf}
use Rattle.call_contexts.specs.Instances.{AreRounds}
use Rattle.call_contexts.proofs.Parts.{graph-in, graph-units, read-same}
use Rattle.call_contexts.proofs.RoundLists.{rounds-more}
use Rattle.call_contexts.proofs.Zips.{zip_left}
use Rattle.call_contexts.proofs.around.all_rounds.Goals as goal

pub bounds-nests-position : goal.bounds-nests-position
bounds-nests-position c =
    let (image, entry, program) = c.requires in
    let graphs = c.args.graphs.now.graphs in
    let nests = c.args.nests.now.nests in
    let position = c.loop-position.position in
    let inside : position < length graphs =
    omega (arith, c.loop-position-test.true, ap (λ (xs : List Graph). length xs) c.as_slice-graphs.ensures) in
    let graph = c.index-graphs-position.result in
    let there : slice_get graphs position ≡ Some graph =
    subst (λ (xs : List Graph). slice_get xs position ≡ Some graph) c.as_slice-graphs.ensures
    (slice_get_read c.as_slice-graphs.result.now (length c.as_slice-graphs.result.now) position graph refl c.loop-position-test.true c.index-graphs-position.is) in
    let looped = zip_left (IsNestOf image) graphs nests program.nests_are position graph there in
    omega (arith, ap (λ (xs : List (List Loop)). length xs) c.as_slice-nests.ensures, slice_get_within nests position looped.0 looped.1)

pub rounds_of-requires : goal.rounds_of-requires
rounds_of-requires c =
    let (image, entry, program) = c.requires in
    let graphs = c.args.graphs.now.graphs in
    let nests = c.args.nests.now.nests in
    let position = c.loop-position.position in
    let graph = c.index-graphs-position.result in
    let there : slice_get graphs position ≡ Some graph =
    subst (λ (xs : List Graph). slice_get xs position ≡ Some graph) c.as_slice-graphs.ensures
    (slice_get_read c.as_slice-graphs.result.now (length c.as_slice-graphs.result.now) position graph refl c.loop-position-test.true c.index-graphs-position.is) in
    let looped = zip_left (IsNestOf image) graphs nests program.nests_are position graph there in
    let loops : c.as_slice-loops.result.now ≡ looped.0 =
    c.as_slice-loops.ensures ∙ read-same c.as_slice-nests.result.now nests position position
    c.index-nests-position.result looped.0 c.as_slice-nests.ensures refl c.index-nests-position.is looped.1 in
    let units : c.as_slice-units.result.now ≡ graph.units =
    c.as_slice-units.ensures ∙ ap (λ (g : Graph). g.units) (sym c.index-graphs-position.is) in (
      image,
      graph.entry,
      subst (AreUnitsOf image graph.entry) (sym units)
          (graph-units image entry graph (graph-in image entry c.args.graphs.now c.args.nests.now program position graph there)),
      subst (IsNest image graph.entry) (sym loops) looped.2,
    )

pub loop-position-preserved : goal.loop-position-preserved
loop-position-preserved c =
    let (image, entry, program) = c.requires in
    let graphs = c.args.graphs.now.graphs in
    let nests = c.args.nests.now.nests in
    let position = c.loop-position.position in
    let graph = c.index-graphs-position.result in
    let there : slice_get graphs position ≡ Some graph =
    subst (λ (xs : List Graph). slice_get xs position ≡ Some graph) c.as_slice-graphs.ensures
    (slice_get_read c.as_slice-graphs.result.now (length c.as_slice-graphs.result.now) position graph refl c.loop-position-test.true c.index-graphs-position.is) in
    let looped = zip_left (IsNestOf image) graphs nests program.nests_are position graph there in
    let loops : c.as_slice-loops.result.now ≡ looped.0 =
    c.as_slice-loops.ensures ∙ read-same c.as_slice-nests.result.now nests position position
    c.index-nests-position.result looped.0 c.as_slice-nests.ensures refl c.index-nests-position.is looped.1 in
    let units : c.as_slice-units.result.now ≡ graph.units =
    c.as_slice-units.ensures ∙ ap (λ (g : Graph). g.units) (sym c.index-graphs-position.is) in
    let round = c.in_ok-rounds_of.field-0 in
    subst (AreRounds graphs nests (position + 1)) (sym c.in_ok-push.ensures.items)
    (rounds-more graphs nests position c.loop-position.rounds.items graph looped.0 round c.loop-position.invariant there looped.1
    (subst (λ (us : List Node). AreNearest us looped.0 (length looped.0) round.around.items) units
    (subst (λ (ls : List Loop). AreNearest c.as_slice-units.result.now ls (length ls) round.around.items) loops c.in_ok-rounds_of.ensures.around))
    (subst (λ (us : List Node). AreOwn us looped.0 (length looped.0) round.own.items) units
    (subst (λ (ls : List Loop). AreOwn c.as_slice-units.result.now ls (length ls) round.own.items) loops c.in_ok-rounds_of.ensures.own)))
