-- The regions lie apart, none is empty, and the index has the start of each.
use Rattle.std.proofs.Common.{List, subst, sym, All, AllPairs, ◌<◌}
use Rattle.mips_decode.specs.State.{Region}
use Rattle.mips_machine.specs.Index.{LieApart, spans_of}
use Rattle.mips_machine.proofs.ApartLemmas.{regions_of-apart, regions_of-some}
use Rattle.mips_machine.proofs.memory.Memory.of_image.Goals as goal

pub invariant_of-result : goal.invariant_of-result
invariant_of-result c =
    let made = sym c.in_ok-regions.ensures.regions in
    record {
      apart = subst (λ (regions : List Region). AllPairs LieApart (spans_of regions)) made
          (regions_of-apart c.args.image.now c.args.profile.now c.requires);
      some = subst (λ (regions : List Region). All (λ s. 0 < s.size) (spans_of regions)) made
          (regions_of-some c.args.image.now c.args.profile.now);
      once = ∣ rw c.deref.ensures.value at c.in_ok-by_address.ensures.once ∣₁;
      rising = c.in_ok-by_address.ensures.rising;
    }
