use Rattle.std.proofs.Common.{subst, sym}
use Rattle.step_table.specs.Table.{IsWithin}
use Rattle.loop_nest.proofs.Planning.{entry_there, laid_by, plan_by, rises_by, within_laid}
use Rattle.loop_nest.proofs.plan.plan_of.Goals as goal

pub position_of-requires : goal.position_of-requires
position_of-requires c =
    rises_by c.requires.0 c.requires.1 c.args.graph.now c.requires.2 c.as_slice-units.result.now
    c.in_ok-addresses.addresses.items c.deref.result.now c.as_slice-units.ensures c.in_ok-addresses.ensures
    c.deref.ensures.value

pub unreachable-requires : goal.unreachable-requires
unreachable-requires c =
    c.in_default.ensures
    (entry_there c.requires.0 c.requires.1 c.args.graph.now c.requires.2 c.as_slice-units.result.now
    c.in_ok-addresses.addresses.items c.deref.result.now c.as_slice-units.ensures c.in_ok-addresses.ensures
    c.deref.ensures.value)

pub table_of-requires : goal.table_of-requires
table_of-requires c =
    rises_by c.requires.0 c.requires.1 c.args.graph.now c.requires.2 c.as_slice-units.result.now
    c.in_ok-addresses.addresses.items c.deref-2.result.now c.as_slice-units.ensures c.in_ok-addresses.ensures
    c.deref-2.ensures.value

pub reverse_of-requires : goal.reverse_of-requires
reverse_of-requires c =
    record {
      within = subst IsWithin (sym c.deref-3.ensures.value)
          (within_laid c.requires.0 c.requires.1 c.args.graph.now c.in_ok-addresses.addresses.items
          c.in_ok-table.table.items c.in-Some.entry
          (laid_by c.requires.0 c.requires.1 c.args.graph.now c.requires.2 c.as_slice-units.result.now
          c.in_ok-addresses.addresses.items c.deref.result.now c.deref-2.result.now c.in_ok-table.table.items
          c.in-Some.entry c.as_slice-units.ensures c.in_ok-addresses.ensures c.deref.ensures.value
          c.in-Some.ensures c.deref-2.ensures.value c.in_ok-table.ensures));
    }

pub returns : goal.returns
returns c =
    plan_by c.requires.0 c.requires.1 c.args.graph.now
    (record {
      addresses = c.in_ok-addresses.addresses;
      table = c.in_ok-table.table;
      reverse = c.in_ok-reverse.reverse;
      entry = c.in-Some.entry;
    })
    c.deref-3.result.now
    (laid_by c.requires.0 c.requires.1 c.args.graph.now c.requires.2 c.as_slice-units.result.now
    c.in_ok-addresses.addresses.items c.deref.result.now c.deref-2.result.now c.in_ok-table.table.items
    c.in-Some.entry c.as_slice-units.ensures c.in_ok-addresses.ensures c.deref.ensures.value
    c.in-Some.ensures c.deref-2.ensures.value c.in_ok-table.ensures)
    c.deref-3.ensures.value c.in_ok-reverse.ensures.reverse c.in_ok-reverse.ensures.within
