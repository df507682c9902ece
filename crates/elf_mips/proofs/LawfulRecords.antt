-- Where no record is bad, they are lawful, and at most 65,536.
use Rattle.std.proofs.Common.{◌≡◌, ℕ, ◌+◌, ◌<◌, ◌≤◌, Bool, true, false, List, [], ◌∷◌, map, length, All, refl, arith, nat_lt}
use Rattle.std.proofs.lemmas.Bool.{and_parts, ltb-true}
use Rattle.std.proofs.lemmas.List.Elements.{All-nil, All-cons}
use Rattle.elf_mips.specs.Marks.{is_lawful}
use Rattle.elf_mips.specs.Records.{mark_at, record_places, is_good_record, marks_of}
use Rattle.elf_mips.specs.Rules.{Rule, rule, broken_places, record_rules, record_rules_from}
use Rattle.elf_mips.specs.Faults.{offenders}
use Rattle.elf_mips.specs.declared.fault.ElfKind.TheVariants.{BadRecord}

-- A broken rule has its place in the list.
kept_head : (b : Bool) (p : ℕ) (rest : List Rule) → broken_places (rule b p ∷ rest) ≡ [] →
    (b ≡ true) × (broken_places rest ≡ [])
kept_head true p rest h = (refl, h)
kept_head false p rest h = absurd cc

good_parts : (file : List ℕ) (number at : ℕ) → is_good_record file number at ≡ true →
    (number < 65536) × (is_lawful (mark_at file at) ≡ true)
good_parts file number at h =
    let parts = and_parts (nat_lt number 65536) (is_lawful (mark_at file at)) h in
    (ltb-true _ _ parts.0, parts.1)

lawful_from : (file : List ℕ) (first : ℕ) (places : List ℕ) →
    broken_places (record_rules_from file first places) ≡ [] →
    All (λ m. is_lawful m ≡ true) (map (mark_at file) places)
lawful_from file first [] h = All-nil (λ m. is_lawful m ≡ true)
lawful_from file first (p ∷ places) h =
    let parts = kept_head (is_good_record file first p) p
    (record_rules_from file (first + 1) places) h in
    All-cons (λ m. is_lawful m ≡ true) (mark_at file p) (map (mark_at file) places)
    (good_parts file first p parts.0).1 (lawful_from file (first + 1) places parts.1)

few_from : (file : List ℕ) (first : ℕ) (places : List ℕ) → first ≤ 65536 →
    broken_places (record_rules_from file first places) ≡ [] →
    first + length (map (mark_at file) places) ≤ 65536
few_from file first [] low h = omega arith
few_from file first (p ∷ places) low h =
    let parts = kept_head (is_good_record file first p) p
    (record_rules_from file (first + 1) places) h in
    let below : first < 65536 = (good_parts file first p parts.0).0 in
    let rest = few_from file (first + 1) places (omega arith) parts.1 in
    omega (arith, rest)

pub lawful_marks : (file : List ℕ) → offenders BadRecord file ≡ [] →
    All (λ m. is_lawful m ≡ true) (marks_of file)
unfolding record_rules
lawful_marks file h = lawful_from file 0 (record_places file) h

pub few_marks : (file : List ℕ) → offenders BadRecord file ≡ [] → length (marks_of file) ≤ 65536
unfolding record_rules
few_marks file h =
    let few = few_from file 0 (record_places file) (omega arith) h in
    omega (arith, few)
