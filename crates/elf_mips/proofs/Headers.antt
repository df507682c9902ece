-- What one more program header adds to the loaded ones.
use Rattle.std.proofs.Common.{◌≡◌, ℕ, ◌+◌, ◌≤◌, Bool, true, false, not, ◌&&◌, ◌||◌, List, [], ◌∷◌, ◌++◌, map, sum_by, cond, refl, sym, ◌∙◌, ap, subst, ◌<◌, zero-add, append-nil, arith}
use Rattle.std.specs.List.{list_any}
use Rattle.std.proofs.lemmas.Bool.{cond-true, cond-false, le-leb, lt-leb}
use Rattle.std.proofs.lemmas.List.{map-append}
use Rattle.std.proofs.lemmas.List.FromFn.{filter_of_map_range_with_len_more}
use Rattle.std.proofs.lemmas.List.Sums.{sum_by_push, sum_by-cons}
use Rattle.elf_mips.specs.Fields.{p_vaddr, p_memsz}
use Rattle.elf_mips.specs.Headers.{header_at, is_loaded, has_part, ends_low, overlaps, is_good, loaded, loaded_size, segment_of}
use Rattle.elf_mips.specs.Segments.{shares, total_size}
use Rattle.elf_mips.specs.declared.segment.Segment.{Segment}

-- A test of a mapped list.
list_any-map : {X Y : Type 0} (p : Y → Bool) (f : X → Y) (xs : List X) →
    list_any p (map f xs) ≡ list_any (λ x. p (f x)) xs
list_any-map p f [] = refl
list_any-map p f (x ∷ xs) = ap (λ b. p (f x) || b) (list_any-map p f xs)

-- A sum over a mapped list.
sum_by-map : {X Y : Type 0} (g : Y → ℕ) (f : X → Y) (xs : List X) →
    sum_by g (map f xs) ≡ sum_by (λ x. g (f x)) xs
sum_by-map g f [] = refl
sum_by-map g f (x ∷ xs) =
    sum_by-cons g (f x) (map f xs)
    ∙ ap (λ n. g (f x) + n) (sum_by-map g f xs)
    ∙ sym (sum_by-cons (λ x. g (f x)) x xs)

-- One more program header, loaded or not.
loaded_more : (file : List ℕ) (n : ℕ) → loaded file (n + 1)
    ≡ loaded file n ++ cond (is_loaded file (header_at file n)) (header_at file n ∷ []) []
loaded_more file n =
    filter_of_map_range_with_len_more (is_loaded file) (header_at file) 0 n n (zero-add n)

loaded_not : (file : List ℕ) (n : ℕ) → is_loaded file (header_at file n) ≡ false →
    loaded file (n + 1) ≡ loaded file n
loaded_not file n not_loaded =
    loaded_more file n
    ∙ ap (λ more. loaded file n ++ more)
    (cond-false (is_loaded file (header_at file n)) (header_at file n ∷ []) [] not_loaded)
    ∙ append-nil (loaded file n)

loaded_one : (file : List ℕ) (n : ℕ) → is_loaded file (header_at file n) ≡ true →
    loaded file (n + 1) ≡ loaded file n ++ header_at file n ∷ []
loaded_one file n is =
    loaded_more file n
    ∙ ap (λ more. loaded file n ++ more)
    (cond-true (is_loaded file (header_at file n)) (header_at file n ∷ []) [] is)

-- The segments after it.
segments_not : (file : List ℕ) (n : ℕ) → is_loaded file (header_at file n) ≡ false →
    map (segment_of file) (loaded file n) ≡ map (segment_of file) (loaded file (n + 1))
segments_not file n not_loaded = ap (map (segment_of file)) (sym (loaded_not file n not_loaded))

segments_one : (file : List ℕ) (n : ℕ) → is_loaded file (header_at file n) ≡ true →
    map (segment_of file) (loaded file n) ++ segment_of file (header_at file n) ∷ []
    ≡ map (segment_of file) (loaded file (n + 1))
segments_one file n is =
    sym (ap (map (segment_of file)) (loaded_one file n is)
    ∙ map-append (segment_of file) (loaded file n) (header_at file n ∷ []))

-- The segments share addresses as their program headers do, and have as many bytes.
shares_same : (file : List ℕ) (n at : ℕ) →
    list_any (shares (p_vaddr at file) (p_vaddr at file + p_memsz at file))
    (map (segment_of file) (loaded file n))
    ≡ list_any (overlaps file at) (loaded file n)
shares_same file n at =
    list_any-map (shares (p_vaddr at file) (p_vaddr at file + p_memsz at file)) (segment_of file)
    (loaded file n)

size_one : (file : List ℕ) (n : ℕ) → is_loaded file (header_at file n) ≡ true →
    loaded_size file (n + 1)
    ≡ total_size (map (segment_of file) (loaded file n)) + p_memsz (header_at file n) file
size_one file n is =
    ap (sum_by (λ at. p_memsz at file)) (loaded_one file n is)
    ∙ sum_by_push (λ at. p_memsz at file) (loaded file n) (header_at file n)
    ∙ ap (λ size. size + p_memsz (header_at file n) file)
    (sym (sum_by-map (λ (s : Segment). s.size) (segment_of file) (loaded file n)))

-- A program header that is loaded is good where it keeps each rule.
good_bits : (l p e o s : Bool) → l ≡ true → p ≡ true → e ≡ true → o ≡ false → s ≡ true →
    (not l || p && e && not o && s) ≡ true
good_bits l p e o s hl hp he ho hs = rw (hl, hp, he, ho, hs) refl

overlap_bits : (l p e o s : Bool) → l ≡ true → p ≡ true → e ≡ true → o ≡ true →
    (not l || p && e && not o && s) ≡ false
overlap_bits l p e o s hl hp he ho = rw (hl, hp, he, ho) refl

size_bits : (l p e o s : Bool) → l ≡ true → p ≡ true → e ≡ true → o ≡ false → s ≡ false →
    (not l || p && e && not o && s) ≡ false
size_bits l p e o s hl hp he ho hs = rw (hl, hp, he, ho, hs) refl

-- What the reader knows of a program header that is loaded, once two of its rules are kept.
pub record Reads (file : List ℕ) (n at address size : ℕ) (segments : List Segment) : Type 0 where
  pub at_is : at ≡ header_at file n
  pub before : segments ≡ map (segment_of file) (loaded file n)
  pub address_is : address ≡ p_vaddr at file
  pub size_is : size ≡ p_memsz at file
  pub is : is_loaded file at ≡ true
  pub part : has_part file at ≡ true
  pub low : ends_low file at ≡ true

overlaps_at : (file : List ℕ) (n at address size : ℕ) (segments : List Segment) →
    Reads file n at address size segments →
    list_any (overlaps file (header_at file n)) (loaded file n)
    ≡ list_any (shares address (address + size)) segments
overlaps_at file n at address size segments r =
    ap (λ p. list_any (overlaps file p) (loaded file n)) (sym r.at_is)
    ∙ sym (shares_same file n at)
    ∙ ap (list_any (shares (p_vaddr at file) (p_vaddr at file + p_memsz at file))) (sym r.before)
    ∙ ap (λ a. list_any (shares a (a + p_memsz at file)) segments) (sym r.address_is)
    ∙ ap (λ z. list_any (shares address (address + z)) segments) (sym r.size_is)

size_at : (file : List ℕ) (n at address size : ℕ) (segments : List Segment) →
    Reads file n at address size segments → loaded_size file (n + 1) ≡ total_size segments + size
size_at file n at address size segments r =
    size_one file n (subst (λ p. is_loaded file p ≡ true) r.at_is r.is)
    ∙ ap (λ all. total_size all + p_memsz (header_at file n) file) (sym r.before)
    ∙ ap (λ p. total_size segments + p_memsz p file) (sym r.at_is)
    ∙ ap (λ z. total_size segments + z) (sym r.size_is)

pub good_at : (file : List ℕ) (n at address size : ℕ) (segments : List Segment) →
    Reads file n at address size segments →
    list_any (shares address (address + size)) segments ≡ false →
    total_size segments + size ≤ 67108864 → is_good file n ≡ true
good_at file n at address size segments r apart fits =
    good_bits _ _ _ _ _ (subst (λ p. is_loaded file p ≡ true) r.at_is r.is)
    (subst (λ p. has_part file p ≡ true) r.at_is r.part)
    (subst (λ p. ends_low file p ≡ true) r.at_is r.low)
    (overlaps_at file n at address size segments r ∙ apart)
    (le-leb _ _ (omega (arith, size_at file n at address size segments r)))

pub overlap_at : (file : List ℕ) (n at address size : ℕ) (segments : List Segment) →
    Reads file n at address size segments →
    list_any (shares address (address + size)) segments ≡ true → is_good file n ≡ false
overlap_at file n at address size segments r over =
    overlap_bits _ _ _ _ _ (subst (λ p. is_loaded file p ≡ true) r.at_is r.is)
    (subst (λ p. has_part file p ≡ true) r.at_is r.part)
    (subst (λ p. ends_low file p ≡ true) r.at_is r.low)
    (overlaps_at file n at address size segments r ∙ over)

pub too_big_at : (file : List ℕ) (n at address size : ℕ) (segments : List Segment) →
    Reads file n at address size segments →
    list_any (shares address (address + size)) segments ≡ false →
    67108864 < total_size segments + size → is_good file n ≡ false
too_big_at file n at address size segments r apart big =
    size_bits _ _ _ _ _ (subst (λ p. is_loaded file p ≡ true) r.at_is r.is)
    (subst (λ p. has_part file p ≡ true) r.at_is r.part)
    (subst (λ p. ends_low file p ≡ true) r.at_is r.low)
    (overlaps_at file n at address size segments r ∙ apart)
    (lt-leb _ _ (omega (arith, size_at file n at address size segments r)))

pub more_at : (file : List ℕ) (n at address size : ℕ) (segments : List Segment) →
    Reads file n at address size segments →
    segments ++ segment_of file at ∷ [] ≡ map (segment_of file) (loaded file (n + 1))
more_at file n at address size segments r =
    ap (λ all. all ++ segment_of file at ∷ []) r.before
    ∙ ap (λ p. map (segment_of file) (loaded file n) ++ segment_of file p ∷ []) r.at_is
    ∙ segments_one file n (subst (λ p. is_loaded file p ≡ true) r.at_is r.is)

pub same_at : (file : List ℕ) (n at : ℕ) (segments : List Segment) → at ≡ header_at file n →
    segments ≡ map (segment_of file) (loaded file n) → is_loaded file at ≡ false →
    segments ≡ map (segment_of file) (loaded file (n + 1))
same_at file n at segments e before not_loaded =
    before ∙ segments_not file n (subst (λ p. is_loaded file p ≡ false) e not_loaded)
