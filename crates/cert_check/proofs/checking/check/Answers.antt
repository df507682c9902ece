-- What the passes tell of the counts and of the nodes is told.
use Rattle.std.proofs.Common.{List, [], ◌∷◌, subst, arith}
use Rattle.ipet_program.specs.Counts.{AreCounts}
use Rattle.ipet_program.specs.declared.certificate.Count.{Count}
use Rattle.ipet_program.specs.declared.certificate.Node.{Node}
use Rattle.ipet_program.proofs.CertificateLaw.{certificate-bound}
use Rattle.cert_check.specs.Rejects.{branches_of}
use Rattle.cert_check.specs.Walks.{AreFine, IsFirstFault}
use Rattle.cert_check.proofs.Validity.{fault-invalid, few-branches, node-reject, nothing-told}
use Rattle.cert_check.proofs.checking.check.Goals as goal

pub line_of-requires : goal.line_of-requires
line_of-requires c =
    let told = subst
    (λ (tree : List Node). IsFirstFault c.args.program.now c.args.certificate.now.bound (branches_of ([] ∷ []) tree)
    c.in-Some.fault c.in-Some.place) c.as_slice-tree.ensures c.in-Some.ensures in
    let few = few-branches ([] ∷ []) c.args.certificate.now.tree in
    let lines = c.requires.lines in
    omega (arith, told.within)

pub returns-in-None-clause-valid : goal.returns-in-None-clause-valid
returns-in-None-clause-valid c =
    let counts = subst
    (λ (counts : List Count). AreCounts c.args.program.now counts c.args.certificate.now.reached) c.as_slice.ensures
    c.if-not-are_counts.ensures.valid in
    let fine = subst
    (λ (tree : List Node). AreFine c.args.program.now c.args.certificate.now.bound (branches_of ([] ∷ []) tree))
    c.as_slice-tree.ensures c.in-None.ensures in
    nothing-told c.args.program.now c.args.certificate.now counts fine

pub returns-in-None-clause-bounds : goal.returns-in-None-clause-bounds
returns-in-None-clause-bounds c =
    let counts = subst
    (λ (counts : List Count). AreCounts c.args.program.now counts c.args.certificate.now.reached) c.as_slice.ensures
    c.if-not-are_counts.ensures.valid in
    let fine = subst
    (λ (tree : List Node). AreFine c.args.program.now c.args.certificate.now.bound (branches_of ([] ∷ []) tree))
    c.as_slice-tree.ensures c.in-None.ensures in
    certificate-bound c.args.program.now c.args.certificate.now c.requires.checkable
    (nothing-told c.args.program.now c.args.certificate.now counts fine)

pub returns-in-Some-clause-invalid : goal.returns-in-Some-clause-invalid
returns-in-Some-clause-invalid c =
    let told = subst
    (λ (tree : List Node). IsFirstFault c.args.program.now c.args.certificate.now.bound (branches_of ([] ∷ []) tree)
    c.in-Some.fault c.in-Some.place) c.as_slice-tree.ensures c.in-Some.ensures in
    fault-invalid c.args.program.now c.args.certificate.now c.in-Some.fault c.in-Some.place told.there

pub returns-in-Some-clause-rejected : goal.returns-in-Some-clause-rejected
returns-in-Some-clause-rejected c =
    let counts = subst
    (λ (counts : List Count). AreCounts c.args.program.now counts c.args.certificate.now.reached) c.as_slice.ensures
    c.if-not-are_counts.ensures.valid in
    let told = subst
    (λ (tree : List Node). IsFirstFault c.args.program.now c.args.certificate.now.bound (branches_of ([] ∷ []) tree)
    c.in-Some.fault c.in-Some.place) c.as_slice-tree.ensures c.in-Some.ensures in
    rw (c.reason_of.ensures, c.line_of.ensures)
    (node-reject c.args.program.now c.args.certificate.now c.in-Some.fault c.in-Some.place counts told)
