-- Where records stand: what one more section adds to the records.
use Rattle.std.proofs.Common.{◌≡◌, ℕ, ◌+◌, ◌*◌, ◌/◌, true, false, List, [], ◌∷◌, ◌++◌, map, length, cond, sym, ◌∙◌, ap, subst, zero-add, append-nil}
use Rattle.std.specs.List.{range_with_len, flat_map}
use Rattle.std.proofs.lemmas.Bool.{cond-true, cond-false}
use Rattle.std.proofs.lemmas.List.{map-append, length-append}
use Rattle.std.proofs.lemmas.List.Concat.{flat_map-append}
use Rattle.std.proofs.lemmas.List.FromFn.{filter_of_map_range_with_len_more, length-map-range_with_len}
use Rattle.elf_mips.specs.Fields.{sh_offset, sh_size}
use Rattle.elf_mips.specs.Sections.{section_at, entries, is_record_section}
use Rattle.elf_mips.specs.Records.{mark_at, record_sections, record_places_to}

-- One more section, named `.wcet` or not.
sections_more : (file : List ℕ) (n : ℕ) → record_sections file (n + 1)
    ≡ record_sections file n
    ++ cond (is_record_section file (section_at file n)) (section_at file n ∷ []) []
sections_more file n =
    filter_of_map_range_with_len_more (is_record_section file) (section_at file) 0 n n (zero-add n)

pub places_not : (file : List ℕ) (n at : ℕ) → at ≡ section_at file n →
    is_record_section file at ≡ false → record_places_to file (n + 1) ≡ record_places_to file n
places_not file n at e not_named =
    ap (flat_map (entries file))
    (sections_more file n
    ∙ ap (λ more. record_sections file n ++ more)
    (cond-false _ (section_at file n ∷ []) []
    (subst (λ p. is_record_section file p ≡ false) e not_named))
    ∙ append-nil (record_sections file n))

pub places_one : (file : List ℕ) (n at : ℕ) → at ≡ section_at file n →
    is_record_section file at ≡ true →
    record_places_to file (n + 1) ≡ record_places_to file n ++ entries file at
places_one file n at e is =
    ap (flat_map (entries file))
    (sections_more file n
    ∙ ap (λ more. record_sections file n ++ more)
    (cond-true _ (section_at file n ∷ []) []
    (subst (λ p. is_record_section file p ≡ true) e is))
    ∙ ap (λ p. record_sections file n ++ p ∷ []) (sym e))
    ∙ flat_map-append (entries file) (record_sections file n) (at ∷ [])
    ∙ ap (λ more. record_places_to file n ++ more) (append-nil (entries file at))

pub length-entries : (file : List ℕ) (at : ℕ) → length (entries file at) ≡ sh_size at file / 16
length-entries file at =
    length-map-range_with_len (λ k. sh_offset at file + 16 * k) 0 (sh_size at file / 16)

pub count_one : (file : List ℕ) (n at : ℕ) → at ≡ section_at file n →
    is_record_section file at ≡ true →
    length (record_places_to file (n + 1))
    ≡ length (record_places_to file n) + sh_size at file / 16
count_one file n at e is =
    ap length (places_one file n at e is)
    ∙ length-append (record_places_to file n) (entries file at)
    ∙ ap (λ m. length (record_places_to file n) + m) (length-entries file at)

pub marks_one : (file : List ℕ) (n at : ℕ) → at ≡ section_at file n →
    is_record_section file at ≡ true →
    map (mark_at file) (record_places_to file n) ++ map (mark_at file) (entries file at)
    ≡ map (mark_at file) (record_places_to file (n + 1))
marks_one file n at e is =
    sym (ap (map (mark_at file)) (places_one file n at e is)
    ∙ map-append (mark_at file) (record_places_to file n) (entries file at))

-- The entries of a section by its offset and size.
pub entries_is : (file : List ℕ) (at offset size : ℕ) → offset ≡ sh_offset at file →
    size ≡ sh_size at file →
    entries file at ≡ map (λ k. offset + 16 * k) (range_with_len 0 (size / 16))
entries_is file at offset size eo es =
    ap (λ o. map (λ k. o + 16 * k) (range_with_len 0 (sh_size at file / 16))) (sym eo)
    ∙ ap (λ s. map (λ k. offset + 16 * k) (range_with_len 0 (s / 16))) (sym es)
