use Rattle.std.proofs.Common.{◌≡◌, All, map, take}
use Rattle.elf_mips.specs.declared.image.Image.{Image}
use Rattle.net_model.specs.Targets.{unit_at}
use Rattle.unit_graph.specs.Rows.{IsRow}
use Rattle.unit_graph.proofs.program.contents_of.Given as goal

abbrev pub invariant-loop-address : goal.invariant-loop-address
invariant-loop-address l = (image : Image) → All (IsRow image) l.rows →
    l.contents.items ≡ map (unit_at image) (take l.address-index l.addresses)
