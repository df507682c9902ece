-- The rows of all loop instances have all arcs.
use Rattle.std.proofs.Common.{ℕ, false, length, subst, refl, ap, ◌≡◌, ◌∙◌, arith}
use Rattle.ipet_program.specs.StageTables.{entering_row}
use Rattle.ipet_program.specs.Sums.{numbered}
use Rattle.ipet_program.specs.Tables.{empty_row}
use Rattle.ipet_program.proofs.Growth.{rows-back}
use Rattle.ipet_program.proofs.arc_rows.entering_rows.Goals as goal

pub returns : goal.returns
returns c =
    let net = c.args.net.now in
    record {
      rows = rows-back (entering_row net (length net.arcs)) c.in_ok-rows.rows.len (length net.loops) (length net.loops)
          c.add_entering.new.rows _ (omega (arith, c.add_entering.auto.rows, c.deref_mut.ensures.len))
          c.in_ok-add_entering.ensures.rows refl;
    }
