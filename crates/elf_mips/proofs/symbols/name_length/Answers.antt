-- Of fewer bytes the first 1,025 are all.
use Rattle.std.proofs.Common.{ℕ, List, ◌==◌, ◌∙◌, sym, ap, arith}
use Rattle.std.specs.List.{position}
use Rattle.std.proofs.lemmas.List.{take_all}
use Rattle.elf_mips.proofs.symbols.name_length.Goals as goal

pub returns-then-tail-le1025-clause-value : goal.returns-then-tail-le1025-clause-value
returns-then-tail-le1025-clause-value c =
    c.first_zero.ensures.value
    ∙ ap (λ (bytes : List ℕ). position (λ b. b == 0) bytes)
    (sym (take_all 1025 c.args.tail.now (omega arith)))
