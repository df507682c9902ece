-- Numbers and fills put into a region leave the addresses of all regions as they were.
use Rattle.std.proofs.Common.{◌≡◌, ℕ, ◌+◌, ◌-◌, ◌/◌, ◌%◌, ◌^◌, ◌==◌, Bool, true, false, cond, List, length, get_or, set, sym, ap, subst, ◌∙◌}
use Rattle.std.proofs.Math.Seq.{map-set_same}
use Rattle.std.proofs.lemmas.List.{length-set}
use Rattle.mips_decode.specs.declared.step.Touched.{Touched}
use Rattle.mips_decode.specs.Effect.{region_with}
use Rattle.mips_decode.specs.Memory.{with_half, with_number}
use Rattle.mips_decode.specs.State.{Region}
use Rattle.elf_mips.specs.declared.segment.Start.{Start}
use Rattle.mips_machine.specs.Index.{IsIndexed, Span, span_of, spans_of}

length-with_half : (number offset : ℕ) (bytes : List ℕ) → length (with_half number offset bytes) ≡ length bytes
length-with_half number offset bytes =
    length-set (set bytes offset (number / 256 % 256)) (offset + 1) (number % 256)
    ∙ length-set bytes offset (number / 256 % 256)

length_by_size : (one two : Bool) (first second third bytes : List ℕ) → length first ≡ length bytes →
    length second ≡ length bytes → length third ≡ length bytes → length (cond one first (cond two second third)) ≡ length bytes
length_by_size true two first second third bytes a b c = a
length_by_size false true first second third bytes a b c = b
length_by_size false false first second third bytes a b c = c

-- A number put among bytes leaves as many.
length-with_number : (number size offset : ℕ) (bytes : List ℕ) → length (with_number number size offset bytes) ≡ length bytes
length-with_number number size offset bytes =
    length_by_size (size == 1) (size == 2) (set bytes offset (number % 256)) (with_half number offset bytes)
    (with_half number (offset + 2) (with_half (number / 2 ^ 16) offset bytes)) bytes
    (length-set bytes offset (number % 256)) (length-with_half number offset bytes)
    (length-with_half number (offset + 2) (with_half (number / 2 ^ 16) offset bytes)
    ∙ length-with_half (number / 2 ^ 16) offset bytes)

abbrev pub spanning : (start size : ℕ) → Span
spanning start size = record { start = start; size = size }

pub span_of-region_with : (access : Touched) (number : ℕ) (region : Region) →
    span_of (region_with access number region) ≡ span_of region
span_of-region_with access number region =
    ap (λ (n : ℕ). spanning region.start n)
    (length-with_number number access.size (access.address - region.start) region.bytes)

-- A region that is replaced by one at the same addresses leaves the index right.
pub IsIndexed-set : (regions : List Region) (starts : List Start) (place : ℕ) (region after : Region) →
    IsIndexed (spans_of regions) starts → region ≡ get_or regions place region → span_of after ≡ span_of region →
    IsIndexed (spans_of (set regions place after)) starts
IsIndexed-set regions starts place region after indexed here same =
    subst (λ (spans : List Span). IsIndexed spans starts)
    (sym (map-set_same span_of regions place after region (same ∙ ap span_of here))) indexed
