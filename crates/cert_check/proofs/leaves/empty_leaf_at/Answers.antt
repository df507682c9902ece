-- The leaf that stands there is the one that is read.
use Rattle.std.proofs.Common.{◌≡◌, List, ℕ, refl, sym, ap, subst, ◌∙◌}
use Rattle.cert_check.proofs.LeafLemmas.{are_weights, leaf_same, empty_parts}
use Rattle.cert_check.proofs.Lists.{first_same, second_same, pair_some, some_same}
use Rattle.cert_check.proofs.leaves.empty_leaf_at.Goals as goal

pub returns-clause-again : goal.returns-clause-again
returns-clause-again c leaf rest empty t =
    let here = some_same _ _ (c.in-Some.ensures.again _ (empty_parts c.args.bytes.now leaf rest empty t)) in
    let weights = rw (c.in-Some-2.is) at (c.in_ok-weights.ensures.again leaf.weights rest (are_weights c.args.bytes.now leaf rest t) here) in
    pair_some _ leaf _ rest (leaf_same _ leaf (sym (leaf.one empty)) (sym empty) (first_same _ _ _ _ weights)) (second_same _ _ _ _ weights)
