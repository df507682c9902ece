-- The regions of an image and a profile are regions at the start.
use Rattle.std.proofs.Common.{ℕ, ◌<◌, List, [], ◌∷◌, ◌++◌, All, map, refl, arith}
use Rattle.std.proofs.lemmas.List.Elements.{All-head, All-replicate, All-tail}
use Rattle.cache_config.specs.declared.profile.Profile.{Profile}
use Rattle.cache_config.specs.declared.profile.Region.{Region as Area}
use Rattle.elf_mips.specs.declared.image.Image.{Image}
use Rattle.elf_mips.specs.declared.segment.Segment.{Segment}
use Rattle.mips_decode.specs.State.{Region}
use Rattle.mips_decode.specs.Start.{AreRegionsAtStart, IsRegionAtStart}
use Rattle.mips_machine.specs.Image.{HasBytes, area_of, region_of, regions_of, stack_of, zeros_at}

-- A region of bytes is its own region at the start.
same-at_start : (region : Region) → All (λ byte. byte < 256) region.bytes → IsRegionAtStart region region
same-at_start region bytes = record { start = refl; flags = refl; size = refl; bytes = bytes; kept = λ _. refl }

zeros-at_start : (start size : ℕ) → IsRegionAtStart (zeros_at start size) (zeros_at start size)
zeros-at_start start size =
    same-at_start (zeros_at start size) (All-replicate (λ byte. byte < 256) size 0 (omega arith))

-- Each segment's region is its own region at the start.
segments-at_start : (segments : List Segment) → All HasBytes segments →
    AreRegionsAtStart (map region_of segments) (map region_of segments)
segments-at_start [] bytes = tt
segments-at_start (segment ∷ more) bytes = (
  same-at_start (region_of segment) (All-head HasBytes segment more bytes),
  segments-at_start more (All-tail HasBytes segment more bytes),
)

areas-at_start : (areas : List Area) → AreRegionsAtStart (map area_of areas) (map area_of areas)
areas-at_start [] = tt
areas-at_start (area ∷ more) = (zeros-at_start area.start area.size, areas-at_start more)

append-at_start : (given regions more others : List Region) → AreRegionsAtStart given regions → AreRegionsAtStart more others →
    AreRegionsAtStart (given ++ more) (regions ++ others)
append-at_start [] [] more others first rest = rest
append-at_start [] (region ∷ regions) more others first rest = absurd first
append-at_start (given ∷ givens) [] more others first rest = absurd first
append-at_start (given ∷ givens) (region ∷ regions) more others first rest =
    (first.0, append-at_start givens regions more others first.1 rest)

pub regions_of-at_start : (image : Image) (profile : Profile) → All HasBytes image.segments →
    AreRegionsAtStart (regions_of image profile) (regions_of image profile)
regions_of-at_start image profile bytes =
    append-at_start (map region_of image.segments) (map region_of image.segments)
    (stack_of profile ∷ map area_of profile.regions) (stack_of profile ∷ map area_of profile.regions)
    (segments-at_start image.segments bytes)
    (zeros-at_start _ _, areas-at_start profile.regions)
