-- The executable words of an image, of its regions, and of the regions at a start are the same.
use Rattle.std.proofs.Common.{◌≡◌, ℕ, ◌+◌, ◌-◌, ◌==◌, ◌&&◌, Bool, true, false, cond, List, [], ◌∷◌, ◌++◌, map, All, Option, Some, None, refl, ap, ◌∙◌, arith, get_or-drop, add-zero, nat_le, not, ◌/◌, ◌%◌}
use Rattle.std.proofs.lemmas.Bool.Decides.{nat_tests}
use Rattle.std.proofs.lemmas.List.Elements.{All-head, All-tail}
use Rattle.std.specs.Prelude.{find, option_map}
use Rattle.elf_mips.specs.declared.segment.Segment.{Segment}
use Rattle.elf_mips.specs.Fields.{number_at}
use Rattle.elf_mips.specs.Segments.{IsFilled, holds, is_code}
use Rattle.elf_mips.specs.Segments.{code_at as image_code}
use Rattle.mips_decode.specs.State.{Region, code_at, covers, holds_code, is_writable, word_at}
use Rattle.mips_decode.specs.Start.{AreRegionsAtStart, IsRegionAtStart}
use Rattle.cache_config.specs.Limits.{area_above}
use Rattle.cache_config.specs.declared.profile.Profile.{Profile}
use Rattle.cache_config.specs.declared.profile.Region.{Region as Area}
use Rattle.elf_mips.specs.declared.image.Image.{Image}
use Rattle.mips_machine.specs.Image.{area_of, region_of, regions_of, stack_of, zeros_at}

-- A word read from an offset is the big-endian number of the four bytes there.
pub word_at-number_at : (at : ℕ) (bytes : List ℕ) → word_at at bytes ≡ number_at 4 at bytes
word_at-number_at at bytes = simp (get_or-drop, add-zero) (omega arith)

-- A bit that isn't 1 is 0.
not_one : (n : ℕ) → not (n % 2 == 1) ≡ (n % 2 == 0)
not_one n = grind (arith, nat_tests)

-- The conjunction groups to either side.
and_assoc : (a b c d : Bool) → (a && b && c && d) ≡ (a && b && (c && d))
and_assoc a b true d = grind arith
and_assoc a b false d = grind arith

-- A region holds an executable word where its segment does.
pub holds_code-region_of : (address : ℕ) (segment : Segment) → IsFilled segment →
    holds_code address (region_of segment) ≡ (holds 4 address segment && is_code segment)
holds_code-region_of address segment filled =
    rw (filled.sized, not_one (segment.flags / 2)) (and_assoc (nat_le segment.address address) (nat_le (address + 4) (segment.address + segment.size))
    (segment.flags % 2 == 1) (segment.flags / 2 % 2 == 0))

-- The executable words of an image's segments are those of its regions.
pub find-regions_of : (address : ℕ) (segments : List Segment) → All IsFilled segments →
    option_map (λ (r : Region). word_at (address - r.start) r.bytes) (find (holds_code address) (map region_of segments))
    ≡ option_map (λ (s : Segment). number_at 4 (address - s.address) s.bytes) (find (λ s. holds 4 address s && is_code s) segments)
find-regions_of address [] filled = refl
find-regions_of address (segment ∷ more) filled =
    rw (holds_code-region_of address segment (All-head IsFilled segment more filled))
    (elim (holds 4 address segment && is_code segment) as (λ b.
    option_map (λ (r : Region). word_at (address - r.start) r.bytes) (cond b (Some (region_of segment)) (find (holds_code address) (map region_of more)))
    ≡ option_map (λ (s : Segment). number_at 4 (address - s.address) s.bytes) (cond b (Some segment) (find (λ s. holds 4 address s && is_code s) more))) [
      | true ↦ ap Some (word_at-number_at (address - segment.address) segment.bytes)
      | false ↦ find-regions_of address more (All-tail IsFilled segment more filled)
    ])

-- Regions without code behind others change no search.
front_by_head : (b : Bool) (region : Region) (left right : Option Region) → left ≡ right →
    cond b (Some region) left ≡ cond b (Some region) right
front_by_head true region left right same = refl
front_by_head false region left right same = same

find-front : (address : ℕ) (regions more : List Region) → find (holds_code address) more ≡ None →
    find (holds_code address) (regions ++ more) ≡ find (holds_code address) regions
find-front address [] more none = none
find-front address (region ∷ regions) more none =
    front_by_head (holds_code address region) region _ _ (find-front address regions more none)

zeros_no_code : (address start size : ℕ) → holds_code address (zeros_at start size) ≡ false
zeros_no_code address start size = by_cover (covers address 4 (zeros_at start size)) where
  by_cover : (b : Bool) → (b && false && not true) ≡ false
  by_cover true = refl
  by_cover false = refl

areas_no_code : (address : ℕ) (areas : List Area) → find (holds_code address) (map area_of areas) ≡ None
areas_no_code address [] = refl
areas_no_code address (area ∷ more) = rw (zeros_no_code address area.start area.size) (areas_no_code address more)

-- The executable words of the regions of an image and a profile are the image's.
pub code_at-regions_of : (address : ℕ) (image : Image) (profile : Profile) → All IsFilled image.segments →
    code_at (regions_of image profile) address ≡ image_code image.segments address
code_at-regions_of address image profile filled =
    let stack = stack_of profile in
    let none : find (holds_code address) (stack ∷ map area_of profile.regions) ≡ None =
    rw (zeros_no_code address (profile.stack_top - profile.stack_size) (profile.stack_size + area_above))
    (areas_no_code address profile.regions) in
    ap (λ (region : Option Region). cond (address % 4 == 0) (option_map (λ (r : Region). word_at (address - r.start) r.bytes) region) None)
    (find-front address (map region_of image.segments) (stack ∷ map area_of profile.regions) none)
    ∙ ap (λ (word : Option ℕ). cond (address % 4 == 0) word None) (find-regions_of address image.segments filled)

-- A region that can be executed and can't be written has its given bytes at a start.
last_false : (a w : Bool) → (a && not w) ≡ true → w ≡ false
last_false a true h = grind arith
last_false a false h = refl

-- A region at the start holds executable words where the given one does, and the same ones.
record SameWords (address : ℕ) (given region : Region) : Type 0 where
  holds : holds_code address region ≡ holds_code address given
  word : holds_code address given ≡ true →
      word_at (address - region.start) region.bytes ≡ word_at (address - given.start) given.bytes

same_words : (address : ℕ) (given region : Region) → IsRegionAtStart given region → SameWords address given region
same_words address given region start = record {
  holds = rw (start.start, start.flags, start.size) refl;
  word = λ held. rw (start.start, start.kept (last_false _ (is_writable given) held)) refl;
}

word_of_found : (address : ℕ) (b : Bool) (given region : Region) (left right : Option Region) →
    (b ≡ true → word_at (address - region.start) region.bytes ≡ word_at (address - given.start) given.bytes) →
    option_map (λ (r : Region). word_at (address - r.start) r.bytes) left
    ≡ option_map (λ (r : Region). word_at (address - r.start) r.bytes) right →
    option_map (λ (r : Region). word_at (address - r.start) r.bytes) (cond b (Some region) left)
    ≡ option_map (λ (r : Region). word_at (address - r.start) r.bytes) (cond b (Some given) right)
word_of_found address true given region left right same rest = ap Some (same refl)
word_of_found address false given region left right same rest = rest

find-at_start : (address : ℕ) (given regions : List Region) → AreRegionsAtStart given regions →
    option_map (λ (r : Region). word_at (address - r.start) r.bytes) (find (holds_code address) regions)
    ≡ option_map (λ (r : Region). word_at (address - r.start) r.bytes) (find (holds_code address) given)
find-at_start address [] [] start = refl
find-at_start address [] (region ∷ regions) start = absurd start
find-at_start address (given ∷ more) [] start = absurd start
find-at_start address (given ∷ more) (region ∷ regions) start =
    let same = same_words address given region start.0 in
    rw same.holds
    (word_of_found address (holds_code address given) given region _ _ same.word
    (find-at_start address more regions start.1))

-- The executable words of a start are those of the given regions.
pub code_at-start : (given regions : List Region) → AreRegionsAtStart given regions → (address : ℕ) →
    code_at regions address ≡ code_at given address
code_at-start given regions start address =
    ap (λ (word : Option ℕ). cond (address % 4 == 0) word None) (find-at_start address given regions start)
