-- The name is `.wcet` where these bytes and a zero stand at the front.
use Rattle.std.proofs.Common.{ℕ, List, sym, ◌∙◌, ap}
use Rattle.std.specs.Prelude.{codes}
use Rattle.elf_mips.specs.Sections.{names}
use Rattle.elf_mips.specs.Strings.{front_string, string_at}
use Rattle.elf_mips.proofs.StringLemmas.{says, says_wcet}
use Rattle.elf_mips.proofs.section.is_record_section.Goals as goal

pub returns : goal.returns
returns c =
    c.starts_with.ensures.value
    ∙ sym (says_wcet c.split_at.result.1.now)
    ∙ ap (λ (t : List ℕ). says (codes ".wcet") (front_string t)) c.split_at.ensures.back
    ∙ ap (λ (t : List ℕ). says (codes ".wcet") (string_at t c.u32_at-start.result))
    c.names-names.ensures
    ∙ ap (λ (n : ℕ). says (codes ".wcet") (string_at (names c.args.file.now) n))
    c.u32_at-start.ensures
