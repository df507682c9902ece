-- The first symbol table.
use Rattle.std.proofs.Common.{rules, ◌≡◌, ℕ, false, true, Some, sym, ◌∙◌, ap, subst, arith}
use Rattle.elf_mips.specs.Fields.{e_shnum}
use Rattle.elf_mips.specs.Sections.{section_at, is_symbol_table}
use Rattle.elf_mips.proofs.More.{find_first, find_no, no_more}
use Rattle.elf_mips.proofs.GoodSections.{symbols_good}
use Rattle.elf_mips.proofs.symbols.symbol_table.Goals as goal

pub returns-then-is_symbol_table-clause-first : goal.returns-then-is_symbol_table-clause-first
returns-then-is_symbol_table-clause-first c =
    let is : is_symbol_table c.args.file.now c.section_at-at.result ≡ true = search rules in
    sym (find_first (is_symbol_table c.args.file.now) (section_at c.args.file.now) 0
    (e_shnum c.args.file.now) c.loop-number.number (omega arith)
    (omega (arith, c.loop-number-test.true, c.u16_at-sections.ensures.value))
    (λ k l h. c.loop-number.invariant k h)
    (subst (λ (at : ℕ). is_symbol_table c.args.file.now at ≡ true) c.section_at-at.ensures.value is)
    ∙ ap (λ (at : ℕ). Some at) (sym c.section_at-at.ensures.value))

pub returns-then-is_symbol_table-clause-good : goal.returns-then-is_symbol_table-clause-good
returns-then-is_symbol_table-clause-good c =
    symbols_good c.args.file.now c.loop-number.number c.section_at-at.result c.requires.good
    (omega (arith, c.loop-number-test.true, c.u16_at-sections.ensures.value))
    c.section_at-at.ensures.value

pub loop-number-preserved : goal.loop-number-preserved
loop-number-preserved c =
    let not_one : is_symbol_table c.args.file.now c.section_at-at.result ≡ false = search rules in
    no_more (λ k. is_symbol_table c.args.file.now (section_at c.args.file.now k))
    c.loop-number.number c.loop-number.invariant
    (subst (λ (at : ℕ). is_symbol_table c.args.file.now at ≡ false) c.section_at-at.ensures.value
    not_one)

pub returns-clause-first : goal.returns-clause-first
returns-clause-first c =
    sym (find_no (is_symbol_table c.args.file.now) (section_at c.args.file.now) 0
    (e_shnum c.args.file.now)
    (λ k l h. c.loop-number.invariant k
    (omega (arith, c.loop-number-test.false, c.u16_at-sections.ensures.value))))
