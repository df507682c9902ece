-- The leaf that stands there is the one that is read.
use Rattle.std.proofs.Common.{◌≡◌, List, ℕ, refl, sym, ap, subst, ◌∙◌}
use Rattle.std.specs.Int.{w128}
use Rattle.std.proofs.lemmas.Int.{to_z-of_z}
use Rattle.cert_check.proofs.LeafLemmas.{are_weights, leaf_same, parts_of}
use Rattle.cert_check.proofs.Lists.{first_same, second_same, none_some, pair_some, some_same}
use Rattle.cert_check.proofs.leaves.bound_leaf_at.Goals as goal

pub returns-in_default-signed_at-clause-again : goal.returns-in_default-signed_at-clause-again
returns-in_default-signed_at-clause-again c leaf rest bound t =
    let p = parts_of c.args.bytes.now leaf rest bound t in
    let here = some_same _ _ (c.in-Some.ensures.again _ p.head) in
    absurd (none_some _ (c.in_default-signed_at.ensures.again leaf.denom p.stop p.after t.fits.0 p.ends here))

pub returns-in_default-2-clause-again : goal.returns-in_default-2-clause-again
returns-in_default-2-clause-again c leaf rest bound t =
    let p = parts_of c.args.bytes.now leaf rest bound t in
    let here = some_same _ _ (c.in-Some.ensures.again _ p.head) in
    let behind = second_same _ _ _ _ (c.in-Some-signed_at.ensures.again leaf.denom p.stop p.after t.fits.0 p.ends here) in
    absurd (none_some _ (rw (c.in_default-2.is) at (c.in_ok-weights.ensures.again leaf.weights rest (are_weights c.args.bytes.now leaf rest t) (behind ∙ p.tail))))

pub returns-clause-again : goal.returns-clause-again
returns-clause-again c leaf rest bound t =
    let p = parts_of c.args.bytes.now leaf rest bound t in
    let here = some_same _ _ (c.in-Some.ensures.again _ p.head) in
    let signed = c.in-Some-signed_at.ensures.again leaf.denom p.stop p.after t.fits.0 p.ends here in
    let denom = to_z-of_z w128 c.in-Some-signed_at.denom c.in-Some-signed_at.ensures.fits ∙ first_same _ _ _ _ signed in
    let weights = rw (c.in-Some-2.is) at (c.in_ok-weights.ensures.again leaf.weights rest (are_weights c.args.bytes.now leaf rest t) (second_same _ _ _ _ signed ∙ p.tail)) in
    pair_some _ leaf _ rest (leaf_same _ leaf denom (sym bound) (first_same _ _ _ _ weights)) (second_same _ _ _ _ weights)
