-- The regions of an image and a profile lie apart, and none is empty.
use Rattle.std.proofs.Common.{◌≡◌, ℕ, ◌+◌, ◌-◌, ◌<◌, ◌≤◌, List, [], ◌∷◌, ◌++◌, length, map, replicate, get_or, All, AllPairs, arith, suc}
use Rattle.std.proofs.lemmas.List.{length-replicate}
use Rattle.std.proofs.lemmas.List.Elements.{All-append, All-cons, All-head, All-map, All-tail}
use Rattle.std.proofs.lemmas.List.Kept.{AllPairs-cons}
use Rattle.cache_config.specs.declared.profile.Profile.{Profile}
use Rattle.cache_config.specs.Limits.{AreApart as AreSpansApart, area_above}
use Rattle.elf_mips.specs.declared.image.Image.{Image}
use Rattle.elf_mips.specs.declared.segment.Segment.{Segment}
use Rattle.elf_mips.specs.Segments.{IsFilled}
use Rattle.elf_mips.specs.Segments.{AreApart as AreSegmentsApart}
use Rattle.mips_machine.specs.Image.{AreApart, HasNoClash, area_of, region_of, regions_of, stack_of, zeros_at}
use Rattle.mips_machine.specs.Index.{LieApart, span_of, spans_of}

-- Each lies apart from each later one, head and tail.
AllPairs-head : {X : Type 0} (R : X → X → Type 0) (x : X) (xs : List X) → AllPairs R (x ∷ xs) → All (R x) xs
AllPairs-head R x xs apart = λ k d h. apart 0 (suc k) d (omega arith) (omega arith)

AllPairs-tail : {X : Type 0} (R : X → X → Type 0) (x : X) (xs : List X) → AllPairs R (x ∷ xs) → AllPairs R xs
AllPairs-tail R x xs apart = λ i j d less h. apart (suc i) (suc j) d (omega arith) (omega arith)

AllPairs-nil : {X : Type 0} (R : X → X → Type 0) → AllPairs R []
AllPairs-nil R = λ i j d less h. absurd (omega arith)

-- What holds of pairs of what a function gives.
AllPairs-map : {X Y : Type 0} (R : X → X → Type 0) (f : Y → X) (ys : List Y) →
    AllPairs (λ a b. R (f a) (f b)) ys → AllPairs R (map f ys)
AllPairs-map R f [] apart = AllPairs-nil R
AllPairs-map R f (y ∷ ys) apart =
    AllPairs-cons R (f y) (map f ys)
    (All-map (R (f y)) f ys (AllPairs-head (λ a b. R (f a) (f b)) y ys apart))
    (AllPairs-map R f ys (AllPairs-tail (λ a b. R (f a) (f b)) y ys apart))

-- Two lists, with each item of the first apart from each of the second.
AllPairs-append : {X : Type 0} (R : X → X → Type 0) (xs ys : List X) → AllPairs R xs → AllPairs R ys →
    All (λ x. All (R x) ys) xs → AllPairs R (xs ++ ys)
AllPairs-append R [] ys first rest cross = rest
AllPairs-append R (x ∷ xs) ys first rest cross =
    AllPairs-cons R x (xs ++ ys)
    (All-append (R x) xs ys (AllPairs-head R x xs first) (All-head (λ z. All (R z) ys) x xs cross))
    (AllPairs-append R xs ys (AllPairs-tail R x xs first) rest (All-tail (λ z. All (R z) ys) x xs cross))

-- Segments that lie apart have regions that do.
segments_apart : (segments : List Segment) → All IsFilled segments → AllPairs AreSegmentsApart segments →
    AllPairs (λ s t. AreApart (region_of s) (region_of t)) segments
segments_apart segments filled apart = λ i j d less h address first second.
    let before : length (get_or segments i d).bytes ≡ (get_or segments i d).size = (filled i d (omega arith)).sized in
    let after : length (get_or segments j d).bytes ≡ (get_or segments j d).size = (filled j d h).sized in
    let end : address < (get_or segments i d).address + length (get_or segments i d).bytes = first.1 in
    let end' : address < (get_or segments j d).address + length (get_or segments j d).bytes = second.1 in
    apart i j d less h address (first.0, omega arith) (second.0, omega arith)

-- Regions of zeros lie apart where their spans do.
zeros_apart : (start size start' size' : ℕ) → AreSpansApart start size start' size' →
    AreApart (zeros_at start size) (zeros_at start' size')
zeros_apart start size start' size' apart = λ address first second.
    let end : address < start + length (replicate size 0) = first.1 in
    let end' : address < start' + length (replicate size' 0) = second.1 in
    apart address (first.0, omega (arith, end, length-replicate {A = ℕ} size 0))
    (second.0, omega (arith, end', length-replicate {A = ℕ} size' 0))

-- The profile's stack and regions lie apart.
profile_apart : (profile : Profile) → AllPairs AreApart (stack_of profile ∷ map area_of profile.regions)
profile_apart profile =
    AllPairs-cons AreApart (stack_of profile) (map area_of profile.regions)
    (All-map (AreApart (stack_of profile)) area_of profile.regions
    (λ k d h. zeros_apart (profile.stack_top - profile.stack_size) (profile.stack_size + area_above)
    (get_or profile.regions k d).start (get_or profile.regions k d).size (profile.off_stack k d h)))
    (AllPairs-map AreApart area_of profile.regions
    (λ i j d less h. zeros_apart (get_or profile.regions i d).start (get_or profile.regions i d).size
    (get_or profile.regions j d).start (get_or profile.regions j d).size (profile.apart i j d less h)))

-- The regions of an image and a profile without a clash lie apart.
pub regions_of-apart : (image : Image) (profile : Profile) → HasNoClash image profile →
    AllPairs LieApart (spans_of (regions_of image profile))
regions_of-apart image profile clash =
    AllPairs-map LieApart span_of (regions_of image profile)
    (AllPairs-append AreApart (map region_of image.segments) (stack_of profile ∷ map area_of profile.regions)
    (AllPairs-map AreApart region_of image.segments (segments_apart image.segments image.filled image.apart))
    (profile_apart profile)
    (All-map (λ r. All (AreApart r) (stack_of profile ∷ map area_of profile.regions)) region_of image.segments clash))

-- None of them is empty.
pub regions_of-some : (image : Image) (profile : Profile) → All (λ s. 0 < s.size) (spans_of (regions_of image profile))
regions_of-some image profile =
    All-map (λ s. 0 < s.size) span_of (regions_of image profile)
    (All-append (λ r. 0 < length r.bytes) (map region_of image.segments) (stack_of profile ∷ map area_of profile.regions)
    (All-map (λ r. 0 < length r.bytes) region_of image.segments (λ k d h.
    let filled = image.filled k d h in
    let sized : length (get_or image.segments k d).bytes ≡ (get_or image.segments k d).size = filled.sized in
    let some : 0 < (get_or image.segments k d).size = filled.some in
    omega arith))
    (All-cons (λ r. 0 < length r.bytes) (stack_of profile) (map area_of profile.regions)
    (omega (arith, length-replicate {A = ℕ} (profile.stack_size + area_above) 0))
    (All-map (λ r. 0 < length r.bytes) area_of profile.regions (λ k d h.
    let some : 1 ≤ (get_or profile.regions k d).size = (get_or profile.regions k d).some in
    omega (arith, length-replicate {A = ℕ} (get_or profile.regions k d).size 0)))))
