-- A search in the body of a loop, and the inner one of two loops.
use Rattle.std.proofs.Common.{◌≡◌, ℕ, ◌<◌, ◌≤◌, ◌⊎◌, inl, inr, Bool, List, length, get_or, slice_get, AllPairs, Contains, Some, Result, Ok, Err, refl, sym, ap, subst, ◌∙◌, arith}
use Rattle.std.specs.Bool.{OnFalse, OnTrue}
use Rattle.std.specs.List.Sorted.{IsBinarySearchResult}
use Rattle.std.specs.Ordering.{nat_cmp}
use Rattle.std.specs.Result.{MatchResult, is_ok}
use Rattle.std.proofs.lemmas.Bool.{cases_lt}
use Rattle.std.proofs.lemmas.List.Sorted.{searched}
use Rattle.std.proofs.lemmas.Option.{get_or_from_slice_get, slice_get-get_or, slice_get_read, slice_get_within}
use Rattle.loop_nest.specs.declared.nest.Loop.{Loop}
use Rattle.step_table.proofs.Positions.{contains_at, place_of, rises_between}
use Rattle.call_contexts.specs.Around.{IsInnerOf}

found : (body : List ℕ) (a : ℕ) (result : Result ℕ ℕ) →
    MatchResult result (λ i. (i < length body) × (get_or body i 0 ≡ a))
    (λ i. (i ≤ length body) × ((k : ℕ) → k < i → get_or body k 0 < a) × ((k : ℕ) → i ≤ k → k < length body → a < get_or body k 0)) →
    OnTrue (is_ok result) (Contains body a) × OnFalse (is_ok result) (Contains body a → ⊥)
found body a (Ok i) h =
    (contains_at body i a (slice_get-get_or body i 0 h.0 ∙ ap (λ (x : ℕ). Some x) h.1), tt)
found body a (Err i) h = (tt, λ c. absent (place_of body a c)) where
  absent : ((k : ℕ) × (slice_get body k ≡ Some a)) → ⊥
  absent (k, there) = by_order (cases_lt k i) where
    by_order : ((k < i) ⊎ (i ≤ k)) → ⊥
    by_order (inl less) = let low = h.1 k less in let same = get_or_from_slice_get body k a 0 there in omega (arith, low, same)
    by_order (inr more) =
        let high = h.2 k more (slice_get_within body k a there) in
        let same = get_or_from_slice_get body k a 0 there in omega (arith, high, same)

pub search-held : (body : List ℕ) (a : ℕ) (result : Result ℕ ℕ) (ok : Bool) → AllPairs (λ (x y : ℕ). x < y) body →
    IsBinarySearchResult (λ y. nat_cmp y a) body result → ok ≡ is_ok result →
    OnTrue ok (Contains body a) × OnFalse ok (Contains body a → ⊥)
search-held body a result ok rising search_result same =
    subst (λ (b : Bool). OnTrue b (Contains body a) × OnFalse b (Contains body a → ⊥)) (sym same)
    (found body a result (searched body a result search_result (rises_between body rising)))

-- The one of a position is the inner one where the other loop holds its header, else the other one.
pub inner-told : (loops : List Loop) (other position result : ℕ) (outer one : Loop) → other < length loops → position < length loops →
    outer ≡ get_or loops other outer →
    ((result ≡ position) × Contains outer.body (get_or loops position one).header)
    ⊎ ((result ≡ other) × (Contains outer.body (get_or loops position one).header → ⊥)) → IsInnerOf loops other position result
inner-told loops other position result outer one here inside is told = record {
  outer = outer;
  there = slice_get_read loops (length loops) other outer refl here is;
  one = get_or loops position one;
  here = slice_get-get_or loops position one inside;
  told = told;
}
