-- The least bound that the right side of a leaf leaves room for is the least one under which the leaf is valid.
use Rattle.std.proofs.Common.{◌≡◌, ℕ, ◌+◌, ◌*◌, ◌/◌, ◌<◌, ◌≤◌, ◌^◌, Bool, true, false, List, length, sym, subst, ◌⊎◌, inl, inr, arith}
use Rattle.std.specs.Prelude.{unsigned_abs, FitsSigned}
use Rattle.std.specs.Int.{w128}
use Rattle.std.proofs.Math.Nat.{lt-mul-div-succ, mul-div-le, mul-le-mul_left}
use Rattle.std.proofs.lemmas.Int.{fits_signed_from_abs, ints}
use lib.IntN.{ℤ, pos, negsuc, ◌+ℤ◌, ◌*ℤ◌}
use lib.Signed.{◌≤ℤ◌}
use Rattle.ipet_program.specs.Adding.{AreTaken}
use Rattle.ipet_program.specs.LeafFaults.{IsLeastBound}
use Rattle.ipet_program.specs.Leaves.{IsLeaf, KeepsRules}
use Rattle.ipet_program.specs.Programs.{IsCheckable}
use Rattle.ipet_program.specs.Shown.{Allows, IsBelow, IsFirst, SayRight, SayWrong}
use Rattle.ipet_program.specs.declared.leaf.Leaf.{Leaf}
use Rattle.ipet_program.specs.declared.leaf.LeafFault.{LeafFault}
use Rattle.ipet_program.specs.declared.leaf.LeafFault.TheVariants.{Tree, Wide, Dual}
use Rattle.ipet_program.specs.declared.leaf.Side2.{Side2}
use Rattle.ipet_program.specs.declared.program.Program.{Program}
use Rattle.ipet_program.proofs.ShowLemmas.{AreZero, said-valid, valid-said}

-- ---- Quotients.
below-quotient : (d s : ℕ) → 1 ≤ d → IsBelow (pos d) (s / d) (pos s)
below-quotient d s low =
    let less : s < d * (s / d + 1) = lt-mul-div-succ s low in
    omega (arith, ints)

-- No lesser bound leaves room.
quotient-least : (d s other : ℕ) → 1 ≤ d → IsBelow (pos d) other (pos s) → s / d ≤ other
quotient-least d s other low below =
    elim (dec s d other) as (λ _. s / d ≤ other) [
      | inl le ↦ le
      | inr above ↦ absurd (
          let most : d * (s / d) ≤ s = mul-div-le s d in
          let order : d * (other + 1) ≤ d * (s / d) = mul-le-mul_left d above in
          omega (arith, ints)
          )
    ] where
      dec : (s d other : ℕ) → (s / d ≤ other) ⊎ (other + 1 ≤ s / d)
      dec s d other = grind arith

pub first-quotient : (denom side : ℤ) (size s : ℕ) → pos 1 ≤ℤ denom → side ≡ pos s → size ≡ unsigned_abs denom →
    IsFirst false denom side (s / size)
first-quotient (pos d) side size s low same abs =
    let from_one : 1 ≤ d = omega (arith, ints) in
    let e : size ≡ d = abs in
    subst (λ (z : ℤ). IsFirst false (pos d) z (s / size)) (sym same)
    (subst (λ (n : ℕ). IsFirst false (pos d) (pos s) (s / n)) (sym e)
    (record {
      allowed = below-quotient d s from_one;
      first = λ other below. quotient-least d s other from_one below;
    }))
first-quotient (negsuc d) side size s low same abs = absurd (omega (arith, ints))

-- ---- What is said of a bound, and of a lesser one for which there is room.
next-lesser : (denom : ℤ) (bound other : ℕ) → pos 1 ≤ℤ denom → bound ≤ other →
    FitsSigned w128 (denom *ℤ pos (other + 1)) → FitsSigned w128 (denom *ℤ pos (bound + 1))
next-lesser (pos d) bound other low most fits =
    let order : d * (bound + 1) ≤ d * (other + 1) = mul-le-mul_left d (omega arith) in
    let high : d * (other + 1) < 2 ^ 127 = fits.sfits in
    fits_signed_from_abs w128 (pos d *ℤ pos (bound + 1)) (omega (arith, ints))
next-lesser (negsuc d) bound other low most fits = absurd (omega (arith, ints))

pub allows-said : (empty : Bool) (program : Program) (denom side : ℤ) (bound : ℕ) (sums : List ℤ) →
    SayRight empty program denom bound sums side → Allows empty denom side bound
allows-said false program denom side bound sums right = right.shown.below
allows-said true program denom side bound sums right = tt

pub said-lesser : (empty : Bool) (program : Program) (denom side : ℤ) (bound other : ℕ) (sums : List ℤ) →
    pos 1 ≤ℤ denom → bound ≤ other → Allows empty denom side bound → SayRight empty program denom other sums side →
    SayRight empty program denom bound sums side
said-lesser false program denom side bound other sums low most allowed right =
    record {
      fit = record { next = next-lesser denom bound other low most right.fit.next; values = right.fit.values };
      shown = record { below = allowed; covered = right.shown.covered };
    }
said-lesser true program denom side bound other sums low most allowed right =
    record { fit = tt; shown = record { right = right.shown.right; kept = right.shown.kept } }

wrong-right : (empty : Bool) (program : Program) (denom side : ℤ) (bound : ℕ) (sums : List ℤ) (fault : LeafFault) →
    SayWrong empty program denom bound sums side fault → SayRight empty program denom bound sums side → ⊥
wrong-right empty program denom side bound sums Tree wrong right = wrong
wrong-right empty program denom side bound sums Wide wrong right = wrong right.fit
wrong-right empty program denom side bound sums Dual wrong right = wrong.1 right.shown

module _ (program : Program) (cuts : List Side2) (leaf : Leaf) (old : List ℤ) (zeros : AreZero old)
    (long : program.columns ≤ length old) (checkable : IsCheckable program) (sums : List ℤ) (side : ℤ)
    (taken : AreTaken program cuts old sums (pos 0) leaf.weights side) where
  right-valid : (bound : ℕ) → IsLeaf program cuts bound leaf → SayRight leaf.empty program leaf.denom bound sums side
  right-valid bound valid = said-valid program cuts leaf old zeros long checkable sums side taken bound valid

  -- Where there is room for no bound, none is valid.
  pub none-allowed : (limit : ℕ) → ((bound : ℕ) → bound < limit → Allows leaf.empty leaf.denom side bound → ⊥) →
      (bound : ℕ) → bound < limit → IsLeaf program cuts bound leaf → ⊥
  none-allowed limit none bound less valid =
      none bound less (allows-said leaf.empty program leaf.denom side bound sums (right-valid bound valid))

  -- The first bound is the least one, where the sums say right.
  pub least-first : KeepsRules program cuts leaf → (bound : ℕ) → IsFirst leaf.empty leaf.denom side bound →
      SayRight leaf.empty program leaf.denom bound sums side → IsLeastBound program cuts leaf bound
  least-first keeps bound first right =
      record {
        valid = valid-said program cuts leaf old zeros long checkable sums side taken bound keeps right;
        least = λ other valid.
            first.first other (allows-said leaf.empty program leaf.denom side other sums (right-valid other valid));
      }

  -- Where they say wrong of it, there is none.
  pub none-first : (bound : ℕ) → IsFirst leaf.empty leaf.denom side bound → (fault : LeafFault) →
      SayWrong leaf.empty program leaf.denom bound sums side fault → (other : ℕ) → IsLeaf program cuts other leaf → ⊥
  none-first bound first fault wrong other valid =
      let right = right-valid other valid in
      let most = first.first other (allows-said leaf.empty program leaf.denom side other sums right) in
      wrong-right leaf.empty program leaf.denom side bound sums fault wrong
      (said-lesser leaf.empty program leaf.denom side bound other sums valid.keeps.denom most first.allowed right)
