-- What the solver asks of a program's net.
use Rattle.std.proofs.Common.{ℕ, zero, suc, ◌+◌, ◌^◌, ◌<◌, ◌≤◌, List, [], ◌∷◌, length, get_or, AllPairs, arith}
use Rattle.std.proofs.lemmas.Option.{slice_get-get_or}
use Rattle.call_contexts.specs.Sizes.{most_places}
use Rattle.call_contexts.proofs.NetItems.{place-positive, place-within}
use Rattle.elf_mips.specs.declared.image.Image.{Image}
use Rattle.flow_net.specs.declared.net.LoopInst.{LoopInst}
use Rattle.flow_net.specs.declared.net.Net.{Net}
use Rattle.ipet_program.specs.Programs.{FitsImage}
use Rattle.nest_solver.specs.Tables.{IsFew}
use Rattle.net_model.specs.Net.{HasUnits, IsNet}
use Rattle.net_model.proofs.Contents.{unit-content}

-- The places of a net are units without a fault.
pub fits-image : (image : Image) (net : Net) → HasUnits image net → FitsImage image net
fits-image image net units = λ k d inside.
    let unit = units k d inside in
    record { unit = unit.unit; stands = unit-content image (get_or net.places k d).address unit.unit unit.stands }

-- Headers rise from 1 on: the one at a position is greater than the position.
headers-risen : (loops : List LoopInst) → AllPairs (λ (a b : LoopInst). a.header < b.header) loops →
    ((k : ℕ) (d : LoopInst) → k < length loops → 1 ≤ (get_or loops k d).header) →
    (k : ℕ) (d : LoopInst) → k < length loops → k + 1 ≤ (get_or loops k d).header
headers-risen loops rise some zero d inside = some zero d inside
headers-risen loops rise some (suc k) d inside =
    let before = headers-risen loops rise some k d (omega (arith, inside)) in
    let up = rise k (suc k) d (omega arith) inside in
    omega (arith, before, up)

-- A net has no more loop instances than places, since each has a header of its own.
loops-by : (loops : List LoopInst) (most : ℕ) → AllPairs (λ (a b : LoopInst). a.header < b.header) loops →
    ((k : ℕ) (d : LoopInst) → k < length loops → (1 ≤ (get_or loops k d).header) × ((get_or loops k d).header ≤ most)) →
    length loops ≤ most
loops-by [] most rise each = omega arith
loops-by (inst ∷ more) most rise each =
    let last = headers-risen (inst ∷ more) rise (λ k d inside. (each k d inside).0) (length more) inst (omega arith) in
    let top = (each (length more) inst (omega arith)).1 in
    omega (arith, last, top)

loops-few : (image : Image) (entry : ℕ) (net : Net) → IsNet image entry net → length net.loops ≤ length net.places
loops-few image entry net is =
    loops-by net.loops (length net.places) is.loops.rising
    (λ k d inside.
    let inst = is.loops.each (suc k) (get_or net.loops k d) (slice_get-get_or net.loops k d inside) in (
      place-positive net (get_or net.loops k d).header inst.context inst.header inst.at,
      place-within net (get_or net.loops k d).header inst.context inst.header inst.at,
    ))

-- The lists of the net are within the limits of the solver.
pub few-of : (image : Image) (entry : ℕ) (net : Net) → IsNet image entry net → length net.arcs ≤ 2 ^ 25 → length net.places ≤ most_places →
    IsFew net
few-of image entry net is arcs places =
    let loops = loops-few image entry net is in
    record { arcs = omega (arith, arcs); places = omega (arith, places); loops = omega (arith, places, loops) }
