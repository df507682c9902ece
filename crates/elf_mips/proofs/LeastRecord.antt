-- The least bad record: of one section, and of all sections up to one.
use Rattle.std.proofs.Common.{◌≡◌, ℕ, ◌+◌, ◌*◌, ◌/◌, ◌<◌, ◌≤◌, Bool, true, false, not, List, [], ◌∷◌, ◌++◌, map, filter, length, Option, zero, suc, refl, sym, ◌∙◌, ap, subst, zero-add, arith}
use Rattle.std.specs.List.{range_with_len}
use Rattle.std.proofs.lemmas.List.{map-append}
use Rattle.std.proofs.lemmas.List.Elements.{filter-append, All-append, All-weaker, Contains-append_right}
use Rattle.elf_mips.specs.Fields.{e_shnum, sh_offset, sh_size}
use Rattle.elf_mips.specs.Sections.{section_at, entries, is_record_section}
use Rattle.elf_mips.specs.Records.{record_places_to, is_good_record}
use Rattle.elf_mips.specs.Rules.{Rule, rule, broken_places, IsLeast, IsLeastOf, record_rules, record_rules_from}
use Rattle.elf_mips.specs.Faults.{HasLeast, offenders}
use Rattle.elf_mips.specs.declared.fault.ElfKind.TheVariants.{BadRecord}
use Rattle.elf_mips.proofs.Firsts.{least_from, none_from}
use Rattle.elf_mips.proofs.Numbered.{numbered, rises_numbered, first_bad, none_bad}
use Rattle.elf_mips.proofs.RecordPlaces.{places_not, places_one, entries_is}

-- The rules of a section's records, as numbered ones.
rules_numbered : (file : List ℕ) (first offset d a m : ℕ) → d ≡ first + a →
    record_rules_from file d (map (λ k. offset + 16 * k) (range_with_len a m))
    ≡ numbered (λ k. is_good_record file (first + k) (offset + 16 * k)) (λ k. offset + 16 * k) a m
rules_numbered file first offset d a zero e = refl
rules_numbered file first offset d a (suc m) e =
    let next : d + 1 ≡ first + (a + 1) = omega arith in
    ap (λ q. rule (is_good_record file q (offset + 16 * a)) (offset + 16 * a)
    ∷ record_rules_from file (d + 1) (map (λ k. offset + 16 * k) (range_with_len (a + 1) m))) e
    ∙ ap (λ rest. rule (is_good_record file (first + a) (offset + 16 * a)) (offset + 16 * a) ∷ rest)
    (rules_numbered file first offset (d + 1) (a + 1) m next)

rules_is : (file : List ℕ) (first at offset size : ℕ) → offset ≡ sh_offset at file →
    size ≡ sh_size at file →
    record_rules_from file first (entries file at)
    ≡ numbered (λ k. is_good_record file (first + k) (offset + 16 * k)) (λ k. offset + 16 * k) 0
    (size / 16)
rules_is file first at offset size eo es =
    let start : first ≡ first + 0 = omega arith in
    ap (record_rules_from file first) (entries_is file at offset size eo es)
    ∙ rules_numbered file first offset first 0 (size / 16) start

-- The first bad record of a section is its least one.
pub first_least : (file : List ℕ) (first at offset size i : ℕ) → offset ≡ sh_offset at file →
    size ≡ sh_size at file → i < size / 16 →
    ((k : ℕ) → k < i → is_good_record file (first + k) (offset + 16 * k) ≡ true) →
    is_good_record file (first + i) (offset + 16 * i) ≡ false →
    IsLeast (offset + 16 * i) (broken_places (record_rules_from file first (entries file at)))
first_least file first at offset size i eo es below good bad =
    let good_of : ℕ → Bool = λ k. is_good_record file (first + k) (offset + 16 * k) in
    let place : ℕ → ℕ = λ k. offset + 16 * k in
    subst (λ rules. IsLeast (offset + 16 * i) (broken_places rules))
    (sym (rules_is file first at offset size eo es))
    (least_from 0 (offset + 16 * i) (numbered good_of place 0 (size / 16))
    (rises_numbered good_of place (λ k. omega arith) 0 0 (size / 16) (omega arith))
    (first_bad good_of place 0 (size / 16) i (omega arith) (omega arith) (λ k l h. good k h) bad))

pub none_least : (file : List ℕ) (first at offset size : ℕ) → offset ≡ sh_offset at file →
    size ≡ sh_size at file →
    ((k : ℕ) → k < size / 16 → is_good_record file (first + k) (offset + 16 * k) ≡ true) →
    broken_places (record_rules_from file first (entries file at)) ≡ []
none_least file first at offset size eo es good =
    ap broken_places (rules_is file first at offset size eo es)
    ∙ none_from
    (numbered (λ k. is_good_record file (first + k) (offset + 16 * k)) (λ k. offset + 16 * k) 0
    (size / 16))
    (none_bad (λ k. is_good_record file (first + k) (offset + 16 * k))
    (λ k. offset + 16 * k) 0 (size / 16) (λ k l h. good k (omega arith)))

-- The rules of two lists of records.
rules_append : (file : List ℕ) (first : ℕ) (xs ys : List ℕ) →
    record_rules_from file first (xs ++ ys)
    ≡ record_rules_from file first xs ++ record_rules_from file (first + length xs) ys
rules_append file first [] ys =
    let e : first ≡ first + length {A = ℕ} [] = omega arith in
    ap (λ n. record_rules_from file n ys) e
rules_append file first (x ∷ xs) ys =
    let e : first + 1 + length xs ≡ first + length (x ∷ xs) = omega arith in
    ap (λ rest. rule (is_good_record file first x) x ∷ rest)
    (rules_append file (first + 1) xs ys
    ∙ ap (λ n. record_rules_from file (first + 1) xs ++ record_rules_from file n ys) e)

broken-append : (rules more : List Rule) →
    broken_places (rules ++ more) ≡ broken_places rules ++ broken_places more
broken-append rules more =
    ap (map (λ (r : Rule). r.place)) (filter-append (λ (r : Rule). not r.kept) rules more)
    ∙ map-append (λ (r : Rule). r.place) (filter (λ (r : Rule). not r.kept) rules)
    (filter (λ (r : Rule). not r.kept) more)

-- The least bad record, once one more section is looked at.
pub least_not : (file : List ℕ) (n at : ℕ) (least : Option ℕ) → at ≡ section_at file n →
    is_record_section file at ≡ false → HasLeast file n least → HasLeast file (n + 1) least
least_not file n at least e not_named h =
    subst (λ places. IsLeastOf (broken_places (record_rules_from file 0 places)) least)
    (sym (places_not file n at e not_named)) h

pub least_one : (file : List ℕ) (n at count : ℕ) (a b least : Option ℕ) →
    at ≡ section_at file n → is_record_section file at ≡ true →
    count ≡ length (record_places_to file n) → HasLeast file n a →
    IsLeastOf (broken_places (record_rules_from file count (entries file at))) b →
    ((xs ys : List ℕ) → IsLeastOf xs a → IsLeastOf ys b → IsLeastOf (xs ++ ys) least) →
    HasLeast file (n + 1) least
least_one file n at count a b least e is counted before here lesser =
    let both = lesser _ _ before here in
    let same : broken_places (record_rules_from file 0 (record_places_to file (n + 1)))
    ≡ broken_places (record_rules_from file 0 (record_places_to file n))
    ++ broken_places (record_rules_from file count (entries file at)) =
    ap (λ places. broken_places (record_rules_from file 0 places)) (places_one file n at e is)
    ∙ ap broken_places (rules_append file 0 (record_places_to file n) (entries file at))
    ∙ broken-append (record_rules_from file 0 (record_places_to file n))
    (record_rules_from file (0 + length (record_places_to file n)) (entries file at))
    ∙ ap (λ m. broken_places (record_rules_from file 0 (record_places_to file n))
    ++ broken_places (record_rules_from file m (entries file at)))
    (zero-add (length (record_places_to file n)) ∙ sym counted) in
    subst (λ places. IsLeastOf places least) (sym same) both

-- The second of two places is the lesser one.
pub least_right : (p q : ℕ) (xs ys : List ℕ) → IsLeast p xs → IsLeast q ys → q ≤ p →
    IsLeast q (xs ++ ys)
least_right p q xs ys a b h = record {
  here = Contains-append_right xs ys q b.here;
  least = All-append (λ r. q ≤ r) xs ys
      (All-weaker (λ r. p ≤ r) (λ r. q ≤ r) (λ r k. omega arith) xs a.least) b.least;
}

-- All sections are looked at.
pub least_all : (file : List ℕ) (n : ℕ) (least : Option ℕ) → n ≡ e_shnum file →
    HasLeast file n least → IsLeastOf (offenders BadRecord file) least
unfolding record_rules
least_all file n least e h = subst (λ m. HasLeast file m least) e h
