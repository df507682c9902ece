-- The sections so far are good.
use Rattle.std.proofs.Common.{◌≡◌, ℕ, ◌<◌, true}
use Rattle.elf_mips.specs.Sections.{is_good_section}
use Rattle.elf_mips.proofs.sections.check_sections.Given as goal

abbrev pub invariant-loop-number : goal.invariant-loop-number
invariant-loop-number l = (k : ℕ) → k < l.number → is_good_section l.file k ≡ true
