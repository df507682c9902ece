-- The numbers of all lines fit.
use Rattle.std.proofs.Common.{arith, subst}
use Rattle.std.specs.List.{AllByRecursion}
use Rattle.cert_check.specs.Lines.{FitsCount, FitsNode}
use Rattle.cert_check.proofs.Fitting.{fits_values, fits_nodes}
use Rattle.cert_check.proofs.writing.print_certificate.Goals as goal

pub returns-clause-fits : goal.returns-clause-fits
returns-clause-fits c =
    let counts = subst (AllByRecursion FitsCount) c.as_slice.ensures c.in_ok-add_counts.ensures.fit in
    let tree = subst (AllByRecursion FitsNode) c.as_slice-2.ensures c.in_ok-add_tree.ensures.fit in (
      omega arith,
      (
        omega arith,
        fits_values c.args.certificate.now.counts _ counts (fits_nodes c.args.certificate.now.tree _ tree (tt, tt)),
      ),
    )
