-- Each exit, and a turn.
use Rattle.std.proofs.Common.{◌≡◌, ℕ, List, ◌∷◌, ◌++◌, sym, ap, subst, ◌∙◌, drop, refl, arith}
use Rattle.ipet_program.specs.declared.leaf.Weight.{Weight}
use Rattle.cert_check.specs.Texts.{weight_text}
use Rattle.cert_check.proofs.Lists.{first_same, second_same, none_some}
use Rattle.cert_check.proofs.WeightLemmas.{next_of, none_yet, one_more, over}
use Rattle.cert_check.proofs.weights.weights_at.Goals as goal

pub returns-in_default-clause-again : goal.returns-in_default-clause-again
returns-in_default-clause-again c all behind are e =
    let n = next_of c.args.bytes.now c.loop-rest.weights c.loop-rest.low c.loop-rest.rest.now c.loop-rest.invariant c.loop-rest-test.ensures.none all behind are e in
    absurd (none_some _ (c.in_default.ensures.again n.weight n.stop n.after n.fits n.ends n.here))

pub returns-then-not-may_come-clause-again : goal.returns-then-not-may_come-clause-again
returns-then-not-may_come-clause-again c all behind are e =
    let n = next_of c.args.bytes.now c.loop-rest.weights c.loop-rest.low c.loop-rest.rest.now c.loop-rest.invariant c.loop-rest-test.ensures.none all behind are e in
    let same = first_same _ _ _ _ (c.in-Some.ensures.again n.weight n.stop n.after n.fits n.ends n.here) in
    absurd (c.if-not-may_come.ensures.none (rw same (c.loop-rest.invariant.least n.weight.row n.row)) (rw same n.some))

pub loop-rest-preserved : goal.loop-rest-preserved
loop-rest-preserved c =
    let may = c.if-not-may_come.ensures.yes in
    rw (c.in_ok-push.ensures.ok, c.from-low.ensures)
    (one_more c.args.bytes.now c.loop-rest.weights c.loop-rest.low c.loop-rest.rest.now c.loop-rest.invariant c.loop-rest-test.ensures.none
    c.in-Some.weight c.in-Some.behind.now c.in-Some.ensures.fits may.0 may.1 c.in-Some.ensures.takes
    (λ w stop after fits ends here.
    let same = c.in-Some.ensures.again w stop after fits ends here in
    (first_same _ _ _ _ same, second_same _ _ _ _ same)))

pub returns-clause-again : goal.returns-clause-again
returns-clause-again c all behind are e =
    let end = c.loop-rest-test.ensures.yes in
    let o = over c.args.bytes.now c.loop-rest.weights c.loop-rest.low c.loop-rest.rest.now c.loop-rest.invariant end.0 end.1 all behind are e in
    let rest = c.split_at.ensures.back ∙ ap (λ (t : List ℕ). drop 1 t) end.1 ∙ o.1 in
    rw (o.0, rest) refl
