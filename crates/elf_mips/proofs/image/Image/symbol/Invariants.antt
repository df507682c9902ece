-- The first symbol that the rest gives is the first of all.
use Rattle.std.proofs.Common.{◌≡◌, find, drop}
use Rattle.std.specs.Prelude.{bytes_eq}
use Rattle.elf_mips.proofs.image.Image.symbol.Given as goal

abbrev pub invariant-loop-symbol : goal.invariant-loop-symbol
invariant-loop-symbol l =
    find (λ s. bytes_eq s.name l.name) (drop l.symbol-index l.symbol-items)
    ≡ find (λ s. bytes_eq s.name l.name) l.symbol-items
