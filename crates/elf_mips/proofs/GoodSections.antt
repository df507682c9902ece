-- The first bad section is the fault that is answered; without one sections have no fault, and those that
-- are read lie in the file.
use Rattle.std.proofs.Common.{◌≡◌, ℕ, ◌+◌, ◌<◌, ◌≤◌, ◌/◌, ◌%◌, ◌==◌, ◌&&◌, ◌||◌, not, Bool, true, false, List, length, Some, sym, ◌∙◌, ap, subst, refl, arith}
use Rattle.std.proofs.lemmas.Bool.{and_parts, leb-true}
use Rattle.elf_mips.specs.Fields.{e_shnum, sh_type, sh_flags, sh_offset, sh_size}
use Rattle.elf_mips.specs.Sections.{section_at, lies, is_record_section, is_good_section, has_good_names, has_good_records, has_good_symbols, AreGoodSections}
use Rattle.elf_mips.specs.Rules.{section_rules}
use Rattle.elf_mips.specs.Faults.{IsCleanBelow, RefusesSection, Tells}
use Rattle.elf_mips.specs.declared.fault.ElfKind.TheVariants.{BadSection}
use Rattle.elf_mips.specs.declared.fault.ElfFault.{ElfFault}
use Rattle.elf_mips.specs.declared.fault.ElfFault.TheVariants.{Bad, Memory}
use Rattle.elf_mips.proofs.Firsts.{clean_more, tells}
use Rattle.elf_mips.proofs.Numbered.{first_bad, none_bad, rises_numbered}

-- The first bad section is answered.
pub tells_section : (file : List ℕ) (i : ℕ) (e : ElfFault) → IsCleanBelow 5 file →
    i < e_shnum file →
    ((k : ℕ) → k < i → is_good_section file k ≡ true) → RefusesSection file i e → Tells file e
unfolding section_rules
tells_section file i Memory clean below good h = absurd h
tells_section file i (Bad kind place) clean below good h =
    tells BadSection file (Bad kind place)
    (rises_numbered (is_good_section file) (section_at file) (λ k. omega arith) 0 0 (e_shnum file)
    (omega arith))
    clean (
      h.0,
      first_bad (is_good_section file) (section_at file) 0 (e_shnum file) i (omega arith)
          (omega arith) (λ k l less. good k less) h.2
          ∙ ap (λ p. Some p) (sym h.1),
    )

-- Without a bad one sections have no fault.
pub clean_sections : (file : List ℕ) → IsCleanBelow 5 file → AreGoodSections file →
    IsCleanBelow 6 file
unfolding section_rules
clean_sections file clean good =
    clean_more BadSection file clean
    (none_bad (is_good_section file) (section_at file) 0 (e_shnum file)
    (λ k low high. good k (omega arith)))

-- What a good section keeps where it holds records.
first_holds : (b x y z : Bool) → b ≡ true → (not b || x && y && z) ≡ true → x ≡ true
first_holds true true y z h k = refl
first_holds true false y z h k = absurd cc
first_holds false x y z h k = absurd cc

last_two : (x y z : Bool) → (x && y && z) ≡ true → (y ≡ true) × (z ≡ true)
last_two true true z h = (refl, h)
last_two true false z h = absurd cc
last_two false y z h = absurd cc

pub inside_from_lies : (file : List ℕ) (at : ℕ) → lies file at ≡ true →
    sh_offset at file + sh_size at file ≤ length file
inside_from_lies file at h =
    leb-true _ _ (and_parts (not (sh_type at file == 8)) _ h).1

section_parts : (file : List ℕ) (number : ℕ) → is_good_section file number ≡ true →
    (has_good_records file (section_at file number) ≡ true)
    × (has_good_symbols file (section_at file number) ≡ true)
section_parts file number good =
    last_two (has_good_names file number) (has_good_records file (section_at file number))
    (has_good_symbols file (section_at file number)) good

pub records_inside : (file : List ℕ) (number at : ℕ) → AreGoodSections file →
    number < e_shnum file → at ≡ section_at file number → is_record_section file at ≡ true →
    sh_offset at file + sh_size at file ≤ length file
records_inside file number at good there e is =
    let records : has_good_records file (section_at file number) ≡ true =
    (section_parts file number (good number there)).0 in
    let here : has_good_records file at ≡ true =
    subst (λ p. has_good_records file p ≡ true) (sym e) records in
    inside_from_lies file at
    (first_holds (is_record_section file at) (lies file at)
    (sh_size at file % 16 == 0) (sh_flags at file / 0x800 % 2 == 0) is here)

pub symbols_good : (file : List ℕ) (number at : ℕ) → AreGoodSections file →
    number < e_shnum file → at ≡ section_at file number → has_good_symbols file at ≡ true
symbols_good file number at good there e =
    let symbols : has_good_symbols file (section_at file number) ≡ true =
    (section_parts file number (good number there)).1 in
    subst (λ p. has_good_symbols file p ≡ true) (sym e) symbols
