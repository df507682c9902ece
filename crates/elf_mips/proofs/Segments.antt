-- The first bad program header is the fault that is answered, and without one segments have no fault.
use Rattle.std.proofs.Common.{◌≡◌, ℕ, ◌<◌, true, List, Some, sym, ◌∙◌, ap, arith}
use Rattle.elf_mips.specs.Fields.{e_phnum}
use Rattle.elf_mips.specs.Headers.{header_at, is_good}
use Rattle.elf_mips.specs.Rules.{segment_rules}
use Rattle.elf_mips.specs.Faults.{IsCleanBelow, RefusesHeader, Tells}
use Rattle.elf_mips.specs.declared.fault.ElfKind.TheVariants.{BadSegment}
use Rattle.elf_mips.specs.declared.fault.ElfFault.{ElfFault}
use Rattle.elf_mips.specs.declared.fault.ElfFault.TheVariants.{Bad, Memory}
use Rattle.elf_mips.proofs.Firsts.{clean_more, tells}
use Rattle.elf_mips.proofs.Numbered.{first_bad, none_bad, rises_numbered}

-- The first bad program header is answered.
pub tells_segment : (file : List ℕ) (i : ℕ) (e : ElfFault) → IsCleanBelow 4 file →
    i < e_phnum file →
    ((k : ℕ) → k < i → is_good file k ≡ true) → RefusesHeader file i e → Tells file e
unfolding segment_rules
tells_segment file i Memory clean below good h = h
tells_segment file i (Bad kind place) clean below good h =
    tells BadSegment file (Bad kind place)
    (rises_numbered (is_good file) (header_at file) (λ k. omega arith) 0 0 (e_phnum file)
    (omega arith))
    clean (
      h.0,
      first_bad (is_good file) (header_at file) 0 (e_phnum file) i (omega arith) (omega arith)
          (λ k l less. good k less) h.2
          ∙ ap (λ p. Some p) (sym h.1),
    )

-- Without a bad one segments have no fault.
pub clean_at : (file : List ℕ) (n : ℕ) → IsCleanBelow 4 file → n ≡ e_phnum file →
    ((k : ℕ) → k < n → is_good file k ≡ true) → IsCleanBelow 5 file
unfolding segment_rules
clean_at file n clean e good =
    clean_more BadSegment file clean
    (none_bad (is_good file) (header_at file) 0 (e_phnum file)
    (λ k low high. good k (omega arith)))
