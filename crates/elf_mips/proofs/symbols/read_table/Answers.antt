-- The symbols of a table, entry by entry.
use Rattle.std.proofs.Common.{◌+◌, ◌*◌, ◌∙◌}
use Rattle.elf_mips.specs.Symbols.{symbol_of}
use Rattle.elf_mips.proofs.More.{filter_map_more}
use Rattle.elf_mips.proofs.symbols.read_table.Goals as goal

pub loop-number-preserved : goal.loop-number-preserved
loop-number-preserved c =
    c.in_ok-symbols.ensures.ok
    ∙ filter_map_more (symbol_of c.args.file.now c.section_bytes-strings.result.now)
    (λ k. c.u32_at-offset.result + 16 * k)
    c.loop-number.number c.loop-number.symbols c.loop-number.invariant
