-- What stands at the place of an access is the region that it finds.
use Rattle.std.proofs.Common.{◌≡◌, ℕ, zero, suc, Bool, false, List, [], ◌∷◌, get_or, set, All, Some, None, refl, ap, arith}
use Rattle.std.proofs.lemmas.List.Elements.{All-head, All-tail}
use Rattle.std.specs.Prelude.{find}
use Rattle.mips_decode.specs.declared.step.Touched.{Touched}
use Rattle.mips_decode.specs.State.{Region, covers}
use Rattle.mips_decode.specs.Effect.{region_with, regions_with}
use Rattle.mips_machine.specs.Places.{StandsAt}

-- Behind a region that fails the test, the first one stands one place earlier.
pub StandsAt-behind : (test : Region → Bool) (region : Region) (regions : List Region) (place : ℕ) →
    StandsAt test (region ∷ regions) (suc place) → StandsAt test regions place
StandsAt-behind test region regions place at = record {
  inside = omega (arith, at.inside);
  passes = at.passes;
  before = λ earlier other less. at.before (suc earlier) other (omega arith);
}

pub find-StandsAt : (test : Region → Bool) (regions : List Region) (place : ℕ) (other : Region) →
    StandsAt test regions place → find test regions ≡ Some (get_or regions place other)
find-StandsAt test [] place other at = absurd (omega (arith, at.inside))
find-StandsAt test (region ∷ regions) zero other at = rw (at.passes other) refl
find-StandsAt test (region ∷ regions) (suc place) other at =
    rw (at.before 0 other (omega arith)) (find-StandsAt test regions place other (StandsAt-behind test region regions place at))

pub find-fails : (test : Region → Bool) (regions : List Region) → All (λ region. test region ≡ false) regions →
    find test regions ≡ None
find-fails test [] fails = refl
find-fails test (region ∷ regions) fails =
    rw (All-head (λ r. test r ≡ false) region regions fails)
    (find-fails test regions (All-tail (λ r. test r ≡ false) region regions fails))

-- A number is put into the region at the place of its access.
pub regions_with-StandsAt : (access : Touched) (number : ℕ) (regions : List Region) (place : ℕ) (other : Region) →
    StandsAt (covers access.address access.size) regions place →
    regions_with access number regions ≡ set regions place (region_with access number (get_or regions place other))
regions_with-StandsAt access number [] place other at = absurd (omega (arith, at.inside))
regions_with-StandsAt access number (region ∷ regions) zero other at = rw (at.passes other) refl
regions_with-StandsAt access number (region ∷ regions) (suc place) other at =
    rw (at.before 0 other (omega arith))
    (ap (λ (rest : List Region). region ∷ rest)
    (regions_with-StandsAt access number regions place other
    (StandsAt-behind (covers access.address access.size) region regions place at)))
