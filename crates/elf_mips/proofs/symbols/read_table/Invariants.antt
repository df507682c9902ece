-- The symbols of the entries so far are added.
use Rattle.std.proofs.Common.{◌≡◌, ◌+◌, ◌*◌, map}
use Rattle.std.specs.List.{range_with_len, filter_map}
use Rattle.elf_mips.specs.Symbols.{symbol_of}
use Rattle.elf_mips.proofs.symbols.read_table.Given as goal

abbrev pub invariant-loop-number : goal.invariant-loop-number
invariant-loop-number l =
    l.symbols ≡ filter_map (symbol_of l.file l.strings)
    (map (λ k. l.offset + 16 * k) (range_with_len 0 l.number))
