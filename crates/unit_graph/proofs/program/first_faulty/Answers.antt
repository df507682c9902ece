use Rattle.std.proofs.Common.{◌∙◌, List, All, subst, sym, ap, map}
use Rattle.net_model.specs.Targets.{unit_at}
use Rattle.unit_graph.specs.Rows.{HasRow, Rise, IsRow}
use Rattle.unit_graph.specs.declared.rows.Row.{Row}
use Rattle.unit_graph.proofs.Exploring.{code_rows}
use Rattle.unit_graph.proofs.Offending.{IsFirstFaulty-found}
use Rattle.unit_graph.proofs.program.first_faulty.Goals as goal

pub contents_of-requires-clause-rising : goal.contents_of-requires-clause-rising
contents_of-requires-clause-rising c = subst Rise (sym c.deref.ensures.value) c.requires.2.rows.rising

pub contents_of-requires-clause-there : goal.contents_of-requires-clause-there
contents_of-requires-clause-there c =
    let program = c.args.program.now in
    subst (λ (rows : List Row). All (HasRow rows) c.deref-2.result.now) (sym c.deref.ensures.value)
    (subst (All (HasRow program.rows.items)) (sym c.deref-2.ensures.value)
    (code_rows c.requires.0 c.requires.1 program.rows.items program.returning.keys program.code.items
    c.requires.2.rows c.requires.2.returning c.requires.2.code))

pub returns : goal.returns
returns c = λ image entry is.
    IsFirstFaulty-found image entry c.args.program.now.code.items c.deref-3.result.now c.first_fault.result is.code
    (c.deref-3.ensures.value
    ∙ c.in_ok-contents.ensures image (subst (All (IsRow image)) (sym c.deref.ensures.value) is.rows.each)
    ∙ ap (map (unit_at image)) c.deref-2.ensures.value)
    c.first_fault.ensures.among c.first_fault.ensures.first
