-- The rows of all places have all arcs.
use Rattle.std.proofs.Common.{◌≡◌, ℕ, false, List, length, subst, arith}
use Rattle.flow_net.specs.declared.net.NetArc.{NetArc}
use Rattle.ipet_program.specs.StageTables.{into_row}
use Rattle.ipet_program.specs.Sums.{numbered}
use Rattle.ipet_program.specs.Tables.{empty_row}
use Rattle.ipet_program.proofs.Ends.{ends-of}
use Rattle.ipet_program.proofs.Growth.{rows-back, rows-count, rows-made}
use Rattle.ipet_program.proofs.arc_rows.into_rows.Goals as goal
use Rattle.ipet_program.proofs.arc_rows.into_rows.Goals.{After-as_slice-2}

count : (c : After-as_slice-2) → length c.deref_mut.result.now ≡ length c.args.net.now.places
count c =
    rows-count (λ (number : ℕ). empty_row false) c.deref_mut.result.now c.in_ok-rows.rows.items c.as_slice.result.now
    c.args.net.now.places c.deref_mut.ensures.value c.in_ok-rows.ensures.rows c.as_slice.ensures

pub add_into-requires-clause-ends : goal.add_into-requires-clause-ends
add_into-requires-clause-ends c =
    ends-of (λ (arc : NetArc). arc.to) c.args.net.now.arcs c.as_slice-2.result.now c.args.net.now.places
    c.deref_mut.result.now c.as_slice-2.ensures (count c) c.requires.ends

pub add_into-requires-clause-none : goal.add_into-requires-clause-none
add_into-requires-clause-none c =
    rows-made (into_row c.as_slice-2.result.now 0) (length c.as_slice.result.now) c.deref_mut.result.now
    c.in_ok-rows.rows.items c.deref_mut.ensures.value c.in_ok-rows.ensures.rows

pub returns : goal.returns
returns c =
    let made : length c.deref_mut.result.now ≡ length c.args.net.now.places =
    rows-count (λ (number : ℕ). empty_row false) c.deref_mut.result.now c.in_ok-rows.rows.items
    c.as_slice.result.now c.args.net.now.places c.deref_mut.ensures.value c.in_ok-rows.ensures.rows
    c.as_slice.ensures in
    let known : c.add_into.new.rows ≡ numbered (into_row c.args.net.now.arcs (length c.args.net.now.arcs)) (length c.deref_mut.result.now) =
    subst (λ (arcs : List NetArc). c.add_into.new.rows ≡ numbered (into_row arcs (length arcs)) (length c.deref_mut.result.now))
    c.as_slice-2.ensures c.in_ok-add_into.ensures.rows in
    record {
      rows = rows-back (into_row c.args.net.now.arcs (length c.args.net.now.arcs)) c.in_ok-rows.rows.len (length c.deref_mut.result.now)
          (length c.args.net.now.places) c.add_into.new.rows _
          (omega (arith, c.add_into.auto.rows, c.deref_mut.ensures.len)) known made;
    }
