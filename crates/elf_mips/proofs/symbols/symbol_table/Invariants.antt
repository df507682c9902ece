-- None of the sections so far is a symbol table.
use Rattle.std.proofs.Common.{◌≡◌, ℕ, ◌<◌, false}
use Rattle.elf_mips.specs.Sections.{section_at, is_symbol_table}
use Rattle.elf_mips.proofs.symbols.symbol_table.Given as goal

abbrev pub invariant-loop-number : goal.invariant-loop-number
invariant-loop-number l =
    (k : ℕ) → k < l.number → is_symbol_table l.file (section_at l.file k) ≡ false
