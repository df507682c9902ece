-- All that is looked at makes the net solvable.
use Rattle.std.proofs.Common.{◌<◌, ◌≤◌, ℕ, List, length, subst}
use Rattle.std.specs.Bool.{OnTrue}
use Rattle.std.proofs.lemmas.Result.{IfOk-weaker}
use Rattle.flow_net.specs.declared.net.NetArc.{NetArc}
use Rattle.flow_net.specs.declared.net.Place.{Place}
use Rattle.fixpoint.specs.Solved.{IsSolvable}
use Rattle.fixpoint.specs.Upward.{AreArcs, IsReached}
use Rattle.fixpoint.proofs.UpwardNets.{on-true_more, solvable-upward}
use Rattle.fixpoint.proofs.upward.is_upward.Goals as goal

pub returns : goal.returns
returns c =
    let net = c.args.net.now in
    let are : AreArcs (length net.places) net.arcs =
    subst (λ (xs : List Place). AreArcs (length xs) net.arcs) c.as_slice-2.ensures
    (subst (λ (xs : List NetArc). AreArcs (length c.as_slice-2.result.now) xs) c.as_slice.ensures
    c.if-not-are_arcs.ensures.arcs) in
    IfOk-weaker c.are_reached.result
    (λ all. OnTrue all ((place : ℕ) → 0 < place → place ≤ length net.places → IsReached net.arcs place))
    (λ all. OnTrue all (IsSolvable net))
    (λ all is. on-true_more all (λ reached. solvable-upward net c.if-not-is_small.ensures.few c.if-not-is_small.ensures.less
    c.if-not-is_small.ensures.some c.if-not-has_scopes.ensures.scopes are reached) is)
    c.are_reached.ensures
