-- The count at the place is the column's, or none is.
use Rattle.std.proofs.Common.{◌≡◌, ◌<◌, get_or, length, sym, arith}
use Rattle.ipet_program.specs.declared.certificate.Count.{Count}
use Rattle.ipet_program.proofs.ListedLemmas.{listed-found, listed-gap}
use Rattle.ipet_program.proofs.counts.count_at.Goals as goal
use Rattle.ipet_program.proofs.counts.count_at.Goals.{else-place-counts-via-then-place-counts+else-counts-place, else-place-counts-via-else-place-counts}

abbrev nothing : Count
nothing = record { column = 0; number = 0 }

pub returns-then-counts-place : goal.returns-then-counts-place
returns-then-counts-place c =
    let counts = c.args.counts.now in
    let place = c.place_of-place.result in
    sym (listed-found counts c.args.column place nothing (omega arith)
    (λ k less same. omega (arith, c.place_of-place.ensures.before k nothing less (omega (arith, less)), same))
    (omega arith))

pub returns-else-place-counts : goal.returns-else-place-counts
returns-else-place-counts c =
    let counts = c.args.counts.now in
    let place = c.place_of-place.result in
    let differ : place < length counts → (get_or counts place nothing).column ≡ c.args.column → ⊥ =
    elim c.else-place-counts.branch [
      | else-place-counts-via-then-place-counts+else-counts-place w ↦ λ less same. w.if-counts-place.false same
      | else-place-counts-via-else-place-counts w ↦ λ less same. omega (arith, less, w.if-place-counts.false)
    ] in
    sym (listed-gap counts c.args.column place nothing c.requires
    (λ k low less. c.place_of-place.ensures.before k nothing low less)
    (λ k high less. c.place_of-place.ensures.behind k nothing high less) differ)
