-- The name up to the first zero byte.
use Rattle.std.proofs.Common.{ℕ, List, sym, ◌∙◌, ap, option_map, arith}
use Rattle.std.specs.Option.{option_and_then}
use Rattle.elf_mips.specs.Strings.{front_string}
use Rattle.elf_mips.specs.Symbols.{name_of}
use Rattle.elf_mips.proofs.StringLemmas.{no_name, one_name}
use Rattle.elf_mips.proofs.symbols.name_at.Goals as goal

pub returns-in_err-size : goal.returns-in_err-size
returns-in_err-size c =
    ap (option_map (λ name. name.now)) c.from_residual.ensures
    ∙ sym (ap (λ (t : List ℕ). option_and_then name_of (front_string t))
    (sym c.split_at.ensures.back)
    ∙ no_name c.split_at.result.1.now (sym c.in_err-size.ensures.value))

pub returns : goal.returns
returns c =
    sym (ap (λ (t : List ℕ). option_and_then name_of (front_string t))
    (sym c.split_at.ensures.back)
    ∙ one_name c.split_at.result.1.now c.in_ok-size.size (sym c.in_ok-size.ensures.value)
    (omega (arith, c.if-size-eq0.false)))
