-- The ways and calls of a spot have places, and together they are its targets.
use Rattle.std.proofs.Common.{◌≡◌, ◌++◌, ◌∷◌, [], ℕ, List, sym, ap, subst, ◌∙◌}
use Rattle.call_contexts.specs.Arcs.{AreTargets}
use Rattle.call_contexts.proofs.LaidProgram.{calls-there, onward-there, return-there}
use Rattle.call_contexts.proofs.Targets.{targets-go, targets-return}
use Rattle.call_contexts.proofs.arcs.targets_of.Goals as goal

pub return_to-requires-clause-there : goal.return_to-requires-clause-there
return_to-requires-clause-there c =
    let (image, entry, laid) = c.requires.program in
    let (position, number, spot) = c.requires.spot in
    return-there image entry c.args.graphs.now c.args.layout.now c.args.context position c.args.unit.now number laid spot c.if-unit.true

pub add_ways-requires-clause-there : goal.add_ways-requires-clause-there
add_ways-requires-clause-there c =
    let (image, entry, laid) = c.requires.program in
    let (position, number, spot) = c.requires.spot in
    onward-there image entry c.args.graphs.now c.args.layout.now c.args.context position c.args.unit.now number laid spot

pub add_calls-requires-clause-there : goal.add_calls-requires-clause-there
add_calls-requires-clause-there c =
    let (image, entry, laid) = c.requires.program in
    let (position, number, spot) = c.requires.spot in
    calls-there image entry c.args.graphs.now c.args.layout.now c.args.context position c.args.unit.now number laid spot

pub returns-then-unit : goal.returns-then-unit
returns-then-unit c =
    let (image, entry, laid) = c.requires.program in
    let (position, number, spot) = c.requires.spot in
    let one : c.push.new.self.items ≡ c.return_to.result ∷ [] =
    c.in_ok-push.ensures.items ∙ ap (λ (ts : List ℕ). ts ++ c.return_to.result ∷ []) c.new-targets.ensures.items in
    subst (AreTargets c.args.graphs.now.graphs c.args.layout.now c.args.context c.args.unit.now) (sym one)
    (targets-return image entry c.args.graphs.now c.args.layout.now c.args.context position c.args.unit.now number c.return_to.result
    laid spot c.if-unit.true c.return_to.ensures)

pub returns : goal.returns
returns c =
    let (image, entry, laid) = c.requires.program in
    let (position, number, spot) = c.requires.spot in
    let (ways, first, goes_to) = c.in_ok-add_ways.ensures in
    let (calls, second, enters_to) = c.in_ok-add_calls.ensures in
    let all : c.add_calls.new.targets.items ≡ ways ++ calls =
    second ∙ ap (λ (ts : List ℕ). ts ++ calls) (first ∙ ap (λ (ts : List ℕ). ts ++ ways) c.new-targets.ensures.items) in
    subst (AreTargets c.args.graphs.now.graphs c.args.layout.now c.args.context c.args.unit.now) (sym all)
    (targets-go image entry c.args.graphs.now c.args.layout.now c.args.context position c.args.unit.now number ways calls
    laid spot c.if-unit.false goes_to enters_to)
