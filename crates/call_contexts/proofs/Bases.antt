-- The numbers of the first places of contexts.
use Rattle.std.proofs.Common.{◌≡◌, ℕ, ◌+◌, ◌<◌, ◌≤◌, ◌⊎◌, inl, inr, List, [], ◌∷◌, ◌++◌, length, get_or, take, slice_get, Some, sum_by, ap, subst, ◌∙◌, arith}
use Rattle.std.proofs.lemmas.Bool.{cases_lt}
use Rattle.std.proofs.lemmas.List.{length_push}
use Rattle.std.proofs.lemmas.List.Sums.{sum_by_more}
use Rattle.step_table.proofs.Places.{place_last, place_left}
use Rattle.step_table.specs.Numbers.{number_of}

-- The bases of the first contexts, and of the next one.
pub record AreBasesTo (units functions : List ℕ) (count base : ℕ) (bases : List ℕ) : Type 0 where
  pub base_is : base ≡ 1 + sum_by (number_of units) (take count functions)
  pub sized : length bases ≡ count + 1
  pub each : (context : ℕ) → context ≤ count → slice_get bases context ≡ Some (1 + sum_by (number_of units) (take context functions))

pub bases_more : (units functions : List ℕ) (count base : ℕ) (bases : List ℕ) → count < length functions → AreBasesTo units functions count base bases →
    AreBasesTo units functions (count + 1) (base + number_of units (get_or functions count 0)) (bases ++ (base + number_of units (get_or functions count 0)) ∷ [])
bases_more units functions count base bases inside are = record {
  base_is = next;
  sized = omega (arith, length_push bases (base + number_of units (get_or functions count 0)), are.sized);
  each = λ context most. by_case context most (cases_lt count context);
}
  where
    next : base + number_of units (get_or functions count 0) ≡ 1 + sum_by (number_of units) (take (count + 1) functions)
    next = omega (arith, are.base_is, sum_by_more (number_of units) functions count 0 inside)

    by_case : (context : ℕ) → context ≤ count + 1 → (count < context) ⊎ (context ≤ count) →
        slice_get (bases ++ (base + number_of units (get_or functions count 0)) ∷ []) context ≡ Some (1 + sum_by (number_of units) (take context functions))
    by_case context most (inr l) = place_left bases ((base + number_of units (get_or functions count 0)) ∷ []) context (1 + sum_by (number_of units) (take context functions))
        (are.each context l)
    by_case context most (inl l) =
        let here : length bases ≡ context = omega (arith, most, l, are.sized) in
        let at : count + 1 ≡ context = omega (arith, most, l) in
        subst (λ (place : ℕ). slice_get (bases ++ (base + number_of units (get_or functions count 0)) ∷ []) place ≡ Some (1 + sum_by (number_of units) (take context functions))) here
        (place_last bases (base + number_of units (get_or functions count 0))
        ∙ ap (λ (n : ℕ). Some n) (next ∙ ap (λ (n : ℕ). 1 + sum_by (number_of units) (take n functions)) at))
