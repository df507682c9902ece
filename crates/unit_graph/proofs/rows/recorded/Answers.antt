use Rattle.std.proofs.Common.{map, ◌∙◌}
use Rattle.elf_mips.specs.declared.mark.Mark.{Mark}
use Rattle.net_model.specs.Targets.{targets_at}
use Rattle.code_units.proofs.Naming.{found_named, named_found}
use Rattle.code_units.proofs.Ranging.{AreAt}
use Rattle.unit_graph.proofs.Sets.{IsSetOf-gained}
use Rattle.unit_graph.proofs.rows.recorded.Goals as goal

pub returns : goal.returns
returns c =
    let image = c.args.image.now in
    let targets = c.args.targets.now in
    let found = c.targets_at.result.now in
    let at : AreAt (λ (mark : Mark). mark.address) targets c.args.address found = record {
      within = c.targets_at.ensures.within;
      sound = c.targets_at.ensures.sound;
      whole = c.targets_at.ensures.whole;
    } in
    IsSetOf-gained (targets_at image c.args.address) (map (λ (mark : Mark). mark.x) found) c.new-found.result.keys
    c.add_targets.new.set.keys c.from_vec.result c.new-found.ensures.empty c.new-found.ensures.ordered c.in_ok-add_targets.ensures
    (λ target h. found_named image targets found c.args.address target c.requires at h)
    (λ target h. named_found image targets found c.args.address target c.requires at h)
    (c.from_vec.ensures ∙ c.in_ok-items.ensures)
