-- The numbers fit, and the sums show the bound or not.
use Rattle.std.proofs.Common.{List, ℤ, subst, sym}
use Rattle.std.proofs.lemmas.Int.{to_z-of_z}
use Rattle.ipet_program.specs.Shown.{AreCovered, ValuesFit}
use Rattle.ipet_program.proofs.shows.bound_fault.Goals as goal

pub returns-then-not-are_covered-clause-fault : goal.returns-then-not-are_covered-clause-fault
returns-then-not-are_covered-clause-fault c =
    let f = c.ranges.denom in
    let same = c.as_slice-values.ensures in
    let next = simp to_z-of_z at c.if-not-next_fits.ensures.fits in
    let fit = simp to_z-of_z at c.if-not-values_fit.ensures.fit in
    let less = simp to_z-of_z at c.if-not-are_covered.ensures.less in (
      record { next = next; values = subst (ValuesFit c.args.denom) same fit },
      λ shown. less (subst (λ (values : List ℤ). AreCovered c.args.denom values c.args.sums.now) (sym same) shown.covered),
    )

pub returns-clause-shown : goal.returns-clause-shown
returns-clause-shown c =
    let f = c.ranges.denom in
    let g = c.ranges.right in
    let same = c.as_slice-values.ensures in
    let next = simp to_z-of_z at c.if-not-next_fits.ensures.fits in
    let fit = simp to_z-of_z at c.if-not-values_fit.ensures.fit in
    let below = simp to_z-of_z at c.if-not-is_below.ensures.below in
    let covered = simp to_z-of_z at c.if-not-are_covered.ensures.covered in
    record {
      fit = record { next = next; values = subst (ValuesFit c.args.denom) same fit };
      shown = record {
        below = below;
        covered = subst (λ (values : List ℤ). AreCovered c.args.denom values c.args.sums.now) same covered;
      };
    }
