use Rattle.std.proofs.Common.{ℕ, List, length, refl, subst, sym}
use Rattle.step_table.specs.Table.{IsWithin}
use Rattle.step_table.proofs.Reversing.{sources_within}
use Rattle.loop_nest.specs.Arcs.{AreBacks}
use Rattle.loop_nest.specs.Cycles.{IsFirstIrregular}
use Rattle.loop_nest.proofs.Planning.{no_escape}
use Rattle.loop_nest.proofs.plan.irregular_of.Goals as goal

pub first_irregular-requires-clause-sources : goal.first_irregular-requires-clause-sources
first_irregular-requires-clause-sources c =
    let plan = c.args.plan.now in
    let backs = c.in_ok-backs.backs.items in
    let are : AreBacks plan.table.items plan.entry backs =
    subst (λ (t : List (List ℕ)). AreBacks t plan.entry backs) c.deref.ensures.value c.in_ok-backs.ensures in
    subst IsWithin (sym c.deref-4.ensures.value)
    (sources_within plan.table.items backs (length plan.table.items) (λ from header step. (are.sound from header step).goes)
    refl are.count)

pub unreachable-requires : goal.unreachable-requires
unreachable-requires c =
    let plan = c.args.plan.now in
    let backs = c.in_ok-backs.backs.items in
    no_escape plan c.args.steps.now backs c.requires
    (subst (λ (t : List (List ℕ)). AreBacks t plan.entry backs) c.deref.ensures.value c.in_ok-backs.ensures)
    (subst (IsFirstIrregular plan.table.items backs) c.in-None.is
    (subst (λ (s : List (List ℕ)). IsFirstIrregular plan.table.items s c.in_ok-position.field-0) c.deref-4.ensures.value
    (subst (λ (t : List (List ℕ)). IsFirstIrregular t c.deref-4.result.now c.in_ok-position.field-0) c.deref-3.ensures.value
    c.in_ok-position.ensures)))

pub returns : goal.returns
returns c =
    let plan = c.args.plan.now in
    let backs = c.in_ok-backs.backs.items in
    record {
      sources = backs;
      are = subst (λ (t : List (List ℕ)). AreBacks t plan.entry backs) c.deref.ensures.value c.in_ok-backs.ensures;
      first = subst (IsFirstIrregular plan.table.items backs) c.in-Some.is
          (subst (λ (s : List (List ℕ)). IsFirstIrregular plan.table.items s c.in_ok-position.field-0) c.deref-4.ensures.value
          (subst (λ (t : List (List ℕ)). IsFirstIrregular t c.deref-4.result.now c.in_ok-position.field-0) c.deref-3.ensures.value
          c.in_ok-position.ensures));
    }
