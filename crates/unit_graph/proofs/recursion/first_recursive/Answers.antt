use Rattle.std.proofs.Common.{ℕ, List, All, None, Some, get_or, subst, sym}
use Rattle.std.proofs.lemmas.Option.{slice_get-get_or}
use Rattle.step_table.specs.Cycles.{IsFirstCyclic}
use Rattle.step_table.specs.Table.{IsWithin}
use Rattle.unit_graph.specs.Rows.{IsRow, Rise}
use Rattle.unit_graph.proofs.Recurring.{calls_within, first_none, first_some, first_within, tabled}
use Rattle.unit_graph.proofs.recursion.first_recursive.Goals as goal

pub call_table-requires-clause-rising : goal.call_table-requires-clause-rising
call_table-requires-clause-rising c = subst Rise (sym c.deref.ensures.value) c.requires.2.rows.rising

pub call_table-requires-clause-each : goal.call_table-requires-clause-each
call_table-requires-clause-each c =
    (c.requires.0, subst (All (IsRow c.requires.0)) (sym c.deref.ensures.value) c.requires.2.rows.each)

pub first_cyclic-requires : goal.first_cyclic-requires
first_cyclic-requires c =
    subst IsWithin (sym c.deref-2.ensures.value)
    (calls_within c.deref.result.now c.args.program.now.returning.keys c.as_slice-functions.result.now c.in_ok-table.table.items c.in_ok-table.ensures)

pub bounds-functions-position : goal.bounds-functions-position
bounds-functions-position c =
    first_within c.deref.result.now c.args.program.now.returning.keys c.as_slice-functions.result.now c.in_ok-table.table.items
    c.deref-2.result.now c.in-Some.position c.in_ok-table.ensures c.deref-2.ensures.value
    (subst (IsFirstCyclic c.deref-2.result.now) c.in-Some.is c.in_ok-position.ensures)

pub returns-in-Some : goal.returns-in-Some
returns-in-Some c = λ image entry is.
    let all = c.as_slice-functions.result.now in
    first_some image entry c.args.program.now.rows.items c.args.program.now.returning.keys all c.in_ok-table.table.items
    (tabled image entry c.args.program.now.rows.items c.deref.result.now c.args.program.now.returning.keys c.args.program.now.functions.items all
    c.in_ok-table.table.items is.rows is.returning is.functions c.deref.ensures.value c.as_slice-functions.ensures.value c.in_ok-table.ensures)
    c.in-Some.position (get_or all c.in-Some.position 0)
    (slice_get-get_or all c.in-Some.position 0
    (first_within c.deref.result.now c.args.program.now.returning.keys all c.in_ok-table.table.items
    c.deref-2.result.now c.in-Some.position c.in_ok-table.ensures c.deref-2.ensures.value
    (subst (IsFirstCyclic c.deref-2.result.now) c.in-Some.is c.in_ok-position.ensures)))
    (subst (λ (table : List (List ℕ)). IsFirstCyclic table (Some c.in-Some.position)) c.deref-2.ensures.value
    (subst (IsFirstCyclic c.deref-2.result.now) c.in-Some.is c.in_ok-position.ensures))

pub returns : goal.returns
returns c = λ image entry is.
    let all = c.as_slice-functions.result.now in
    first_none image entry c.args.program.now.rows.items c.args.program.now.returning.keys all c.in_ok-table.table.items
    (tabled image entry c.args.program.now.rows.items c.deref.result.now c.args.program.now.returning.keys c.args.program.now.functions.items all
    c.in_ok-table.table.items is.rows is.returning is.functions c.deref.ensures.value c.as_slice-functions.ensures.value c.in_ok-table.ensures)
    (subst (λ (table : List (List ℕ)). IsFirstCyclic table None) c.deref-2.ensures.value
    (subst (IsFirstCyclic c.deref-2.result.now) c.in-None.is c.in_ok-position.ensures))
