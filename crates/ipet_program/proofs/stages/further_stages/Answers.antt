-- Each access has a row, and its stages stand behind those of the accesses before it.
use Rattle.std.proofs.Common.{◌≡◌, length, get_or, sym, ◌∙◌, ap, subst, arith, rules}
use Rattle.std.proofs.lemmas.Slice.Zip.{AllZip-long}
use Rattle.cache_config.specs.Instructions.{costs_of}
use Rattle.flow_net.specs.declared.net.Access.{Access}
use Rattle.flow_net.specs.declared.net.Role.TheVariants.{Fetch}
use Rattle.age_model.specs.Classes.{IsRowOf}
use Rattle.ipet_program.specs.Stages.{further_stages}
use Rattle.ipet_program.proofs.StageLists.{stages_by-next, zip-read}
use Rattle.ipet_program.proofs.stages.further_stages.Goals as goal

none : Access
none = record { place = 0; role = Fetch; at = 0 }

pub bounds-rows-index : goal.bounds-rows-index
bounds-rows-index c =
    let net = c.args.net.now in
    omega (
      arith,
      AllZip-long (IsRowOf net c.args.profile.now.levels) net.accesses c.args.classes.now.rows c.requires.rows,
      ap length c.as_slice-accesses.ensures,
      ap length c.as_slice-rows.ensures,
    )

pub add_stages-requires-clause-row : goal.add_stages-requires-clause-row
unfolding none
add_stages-requires-clause-row c =
    let net = c.args.net.now in
    let index = c.loop-index.index in
    rw (c.as_slice-row.ensures, c.index-rows-index.is, c.as_slice-accesses.ensures, c.as_slice-rows.ensures)
    (zip-read (IsRowOf net c.args.profile.now.levels) net.accesses c.args.classes.now.rows index none c.index-rows-index.result
    c.requires.rows (omega (arith, ap length c.as_slice-accesses.ensures)))

pub loop-index-preserved : goal.loop-index-preserved
unfolding none
loop-index-preserved c =
    let net = c.args.net.now in
    let index = c.loop-index.index in
    record {
      made = stages_by-next net (costs_of c.args.profile.now) index (length net.arcs) c.as_slice-accesses.result.now
          c.as_slice-rows.result.now none c.index-rows-index.result c.as_slice-row.result.now
          (further_stages net (costs_of c.args.profile.now) c.args.classes.now)
          c.loop-index.stages.items c.add_stages.new.stages.items c.loop-index.invariant.made c.loop-index-test.true
          (omega (
            arith,
            c.loop-index-test.true,
            AllZip-long (IsRowOf net c.args.profile.now.levels) net.accesses c.args.classes.now.rows c.requires.rows,
            ap length c.as_slice-accesses.ensures,
            ap length c.as_slice-rows.ensures,
          ))
          (c.as_slice-row.ensures ∙ c.index-rows-index.is) c.in_ok-add_stages.ensures.stages;
      known = c.in_ok-add_stages.ensures.known;
      count = omega (arith, c.in_ok-add_stages.ensures.few, c.loop-index.invariant.count);
    }
