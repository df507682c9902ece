-- Cycles without back arcs, by the positions and by the addresses.
use Rattle.std.proofs.Common.{◌≡◌, ℕ, ◌<◌, List, [], ◌∷◌, ◌++◌, length, Some, refl, subst, arith, inl, inr}
use Rattle.std.specs.Prelude.{Contains, slice_get}
use Rattle.std.proofs.lemmas.Bool.{cases_lt, cases_eq}
use Rattle.std.proofs.lemmas.Option.{get_or_from_slice_get, slice_get_within}
use Rattle.elf_mips.specs.declared.image.Image.{Image}
use Rattle.net_model.specs.Functions.{IsReached}
use Rattle.net_model.specs.Loops.{GoesForward, IsForwardWay, IsIrreducible}
use Rattle.unit_graph.specs.declared.graph.Graph.{Graph}
use Rattle.loop_nest.specs.Arcs.{IsBack}
use Rattle.step_table.specs.Cycles.{IsCyclic}
use Rattle.loop_nest.specs.Cycles.{IsFirstIrregular, IsForward}
use Rattle.loop_nest.specs.Nests.{IsFirstIrreducible}
use Rattle.step_table.specs.Table.{IsMet, IsStep}
use Rattle.loop_nest.proofs.Bridge.{arc_back, back_arc, count_is, goes_at, goes_step, IsLaid, place_at, reached_at, same_at, step_goes}
use Rattle.loop_nest.proofs.Dominance.{goes-reached}
use Rattle.loop_nest.proofs.ForwardWays.{forward-push}
use Rattle.step_table.proofs.Meeting.{a_step}
use Rattle.step_table.proofs.Positions.{Rises, same_place}

-- The back arcs are listed by their headers.
pub record AreListed (table : List (List ℕ)) (start : ℕ) (sources : List (List ℕ)) : Type 0 where
  pub sound : (from header : ℕ) → IsStep sources header from → IsBack table start from header
  pub whole : (from header : ℕ) → header < length table → IsBack table start from header → IsStep sources header from

pub step_forward : (image : Image) (entry : ℕ) (graph : Graph) (addresses : List ℕ) (table sources forward : List (List ℕ)) (start : ℕ) →
    IsLaid image entry graph addresses table start → AreListed table start sources → IsForward table sources forward →
    (i j a b : ℕ) → slice_get addresses i ≡ Some a → slice_get addresses j ≡ Some b → IsStep forward i j →
    GoesForward image entry a b
step_forward image entry graph addresses table sources forward start laid are is i j a b ati atj step = record {
  goes = goes_at image entry graph addresses table start laid i j a b ati atj (is.sound i j step);
  forward = λ arc. is.apart i j step (are.whole i j
      (omega (arith, slice_get_within addresses j b atj, count_is image entry graph addresses table start laid))
      (arc_back image entry graph addresses table start laid i j a b ati atj arc));
}

pub forward_step : (image : Image) (entry : ℕ) (graph : Graph) (addresses : List ℕ) (table sources forward : List (List ℕ)) (start : ℕ) →
    IsLaid image entry graph addresses table start → AreListed table start sources → IsForward table sources forward →
    (i j a b : ℕ) → slice_get addresses i ≡ Some a → slice_get addresses j ≡ Some b → GoesForward image entry a b →
    IsStep forward i j
forward_step image entry graph addresses table sources forward start laid are is i j a b ati atj on =
    is.whole i j (goes_step image entry graph addresses table start laid i j a b ati atj on.goes)
    (λ step. on.forward (back_arc image entry graph addresses table start laid i j a b ati atj (are.sound i j step)))

-- A way without back arcs from one of the steps of a position.
record HasWay (image : Image) (entry : ℕ) (addresses steps : List ℕ) (x : ℕ) : Type 0 where
  pub address : ℕ
  pub at : slice_get addresses x ≡ Some address
  pub step : ℕ
  pub among : Contains steps step
  pub later : ℕ
  pub there : slice_get addresses step ≡ Some later
  pub way : List ℕ
  pub leads : IsForwardWay image entry later way address

pub cyclic_irreducible : (image : Image) (entry : ℕ) (graph : Graph) (addresses : List ℕ) (table sources forward : List (List ℕ)) (start : ℕ) →
    IsLaid image entry graph addresses table start → AreListed table start sources → IsForward table sources forward →
    (p a : ℕ) → slice_get addresses p ≡ Some a → IsCyclic forward p → IsIrreducible image entry a
cyclic_irreducible image entry graph addresses table sources forward start laid are is p a at cyclic =
    let w = way p cyclic.met in record {
      reached = reached_at image entry graph addresses table start laid p a at;
      later = w.later;
      more = w.way;
      begins = step_forward image entry graph addresses table sources forward start laid are is p w.step a w.later at w.there
          (a_step forward p w.step cyclic.steps cyclic.there w.among);
      back = subst (IsForwardWay image entry w.later w.way) (same_at addresses p w.address a w.at at) w.leads;
    }
  where
    begun : (x : ℕ) → Contains cyclic.steps x → HasWay image entry addresses cyclic.steps x
    begun x among =
        let (c, b, atc, atb, on) = step_goes image entry graph addresses table start laid p x
        (is.sound p x (a_step forward p x cyclic.steps cyclic.there among)) in
        record { address = b; at = atb; step = x; among = among; later = b; there = atb; way = []; leads = refl }

    way : (x : ℕ) → IsMet forward cyclic.steps (length forward) x → HasWay image entry addresses cyclic.steps x
    way _ (IsMet.begins x among free) = begun x among
    way _ (IsMet.goes y x met step free) =
        let w = way y met in
        let (c, b, atc, atb, on) = step_goes image entry graph addresses table start laid y x (is.sound y x step) in
        record {
          address = b;
          at = atb;
          step = w.step;
          among = w.among;
          later = w.later;
          there = w.there;
          way = w.way ++ b ∷ [];
          leads = forward-push image entry w.way w.later w.address b w.leads
              (step_forward image entry graph addresses table sources forward start laid are is y x w.address b w.at atb step);
        }

pub irreducible_cyclic : (image : Image) (entry : ℕ) (graph : Graph) (addresses : List ℕ) (table sources forward : List (List ℕ)) (start : ℕ) →
    IsLaid image entry graph addresses table start → AreListed table start sources → IsForward table sources forward →
    (p a : ℕ) → slice_get addresses p ≡ Some a → IsIrreducible image entry a → IsCyclic forward p
irreducible_cyclic image entry graph addresses table sources forward start laid are is p a at cycle =
    let reached : IsReached image entry cycle.later = goes-reached image entry a cycle.later cycle.reached cycle.begins.goes in
    let (q, atq) = place_at image entry graph addresses table start laid cycle.later reached in
    let step = forward_step image entry graph addresses table sources forward start laid are is p q a cycle.later at atq cycle.begins in
    record {
      steps = step.steps;
      there = step.there;
      met = along step.steps cycle.later cycle.more q reached atq (IsMet.begins q step.goes (inner q cycle.later atq)) cycle.back;
    }
  where
    inner : (k b : ℕ) → slice_get addresses k ≡ Some b → k ≡ length forward → ⊥
    inner k b atk e =
        omega (arith, e, is.count, slice_get_within addresses k b atk, count_is image entry graph addresses table start laid)

    along : (steps : List ℕ) (from : ℕ) (way : List ℕ) (k : ℕ) → IsReached image entry from → slice_get addresses k ≡ Some from →
        IsMet forward steps (length forward) k → IsForwardWay image entry from way a → IsMet forward steps (length forward) p
    along steps from [] k reached atk met same =
        subst (IsMet forward steps (length forward))
        (same_place addresses laid.rising k p a (subst (λ (b : ℕ). slice_get addresses k ≡ Some b) same atk) at) met
    along steps from (later ∷ more) k reached atk met way =
        let on : IsReached image entry later = goes-reached image entry from later reached way.0.goes in
        let (q, atq) = place_at image entry graph addresses table start laid later on in
        along steps later more q on atq
        (IsMet.goes k q met
        (forward_step image entry graph addresses table sources forward start laid are is k q from later atk atq way.0)
        (inner q later atq))
        way.1

-- Lesser addresses stand at lesser places.
pub lesser_place : (addresses : List ℕ) → Rises addresses → (i j a b : ℕ) → slice_get addresses i ≡ Some a →
    slice_get addresses j ≡ Some b → a < b → i < j
lesser_place addresses rising i j a b ati atj less = elim (cases_lt i j) as (λ _. i < j) [
  | inl before ↦ before
  | inr behind ↦ elim (cases_eq i j) as (λ _. i < j) [
    | inl e ↦ absurd (omega (arith, less, same_at addresses j a b (subst (λ (k : ℕ). slice_get addresses k ≡ Some a) e ati) atj))
    | inr differ ↦ absurd (omega (
      arith,
      less,
      rising j i 0 (omega (arith, behind, differ)) (slice_get_within addresses i a ati),
      get_or_from_slice_get addresses i a 0 ati,
      get_or_from_slice_get addresses j b 0 atj,
    ))
  ]
]

pub first_irreducible : (image : Image) (entry : ℕ) (graph : Graph) (addresses : List ℕ) (table sources : List (List ℕ)) (start : ℕ) →
    IsLaid image entry graph addresses table start → AreListed table start sources → (p a : ℕ) →
    slice_get addresses p ≡ Some a → IsFirstIrregular table sources (Some p) → IsFirstIrreducible image entry a
first_irreducible image entry graph addresses table sources start laid are p a at found = record {
  here = cyclic_irreducible image entry graph addresses table sources found.forward start laid are found.is p a at found.first.0;
  least = λ lesser less cycle.
      let (q, atq) = place_at image entry graph addresses table start laid lesser cycle.reached in
      found.first.1 q (lesser_place addresses laid.rising q p lesser a atq at less)
      (irreducible_cyclic image entry graph addresses table sources found.forward start laid are found.is q lesser atq cycle);
}
