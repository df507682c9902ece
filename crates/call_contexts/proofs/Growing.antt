-- Numbers that grow along a list.
use Rattle.std.proofs.Common.{◌≡◌, ℕ, zero, suc, ◌<◌, ◌≤◌, ◌⊎◌, inl, inr, List, length, get_or, slice_get, Some, sym, ap, ◌∙◌, arith}
use Rattle.std.proofs.lemmas.Bool.{cases_lt}
use Rattle.std.proofs.lemmas.Option.{same_Some, slice_get-get_or, slice_get_within}

-- Each number is at most the next one.
abbrev pub Grow : List ℕ → Type 0
Grow xs = (k a b : ℕ) → slice_get xs k ≡ Some a → slice_get xs (suc k) ≡ Some b → a ≤ b

-- So an earlier one is at most a later one.
pub grows : (xs : List ℕ) → Grow xs → (m n a b : ℕ) → n ≤ m → slice_get xs n ≡ Some a → slice_get xs m ≡ Some b → a ≤ b
grows xs grow zero n a b most one other =
    let same : n ≡ 0 = omega (arith, most) in
    let equal : a ≡ b = same_Some a b (sym one ∙ ap (λ (k : ℕ). slice_get xs k) same ∙ other) in
    omega (arith, equal)
grows xs grow (suc m) n a b most one other = by_order (cases_lt n (suc m)) (λ c. grows xs grow m n a c) where
  by_order : ((n < suc m) ⊎ (suc m ≤ n)) → ((c : ℕ) → n ≤ m → slice_get xs n ≡ Some a → slice_get xs m ≡ Some c → a ≤ c) → a ≤ b
  by_order (inl less) before =
      let inside : m < length xs = omega (arith, slice_get_within xs (suc m) b other) in
      let middle : slice_get xs m ≡ Some (get_or xs m 0) = slice_get-get_or xs m 0 inside in
      omega (arith, before (get_or xs m 0) (omega (arith, less)) one middle, grow m (get_or xs m 0) b middle other)
  by_order (inr more) before =
      let same : n ≡ suc m = omega (arith, most, more) in
      let equal : a ≡ b = same_Some a b (sym one ∙ ap (λ (k : ℕ). slice_get xs k) same ∙ other) in
      omega (arith, equal)

-- The numbers between which one lies.
pub record Lies (xs : List ℕ) (done k : ℕ) : Type 0 where
  pub at : ℕ
  pub before : at < done
  pub low : ℕ
  pub high : ℕ
  pub begins : slice_get xs at ≡ Some low
  pub ends : slice_get xs (suc at) ≡ Some high
  pub above : low ≤ k
  pub below : k < high

later : (xs : List ℕ) (done k : ℕ) → Lies xs done k → Lies xs (suc done) k
later xs done k found = record {
  at = found.at;
  before = let early = found.before in omega (arith, early);
  low = found.low;
  high = found.high;
  begins = found.begins;
  ends = found.ends;
  above = found.above;
  below = found.below;
}

pub lies : (xs : List ℕ) → slice_get xs 0 ≡ Some 0 → (done top k : ℕ) → slice_get xs done ≡ Some top → k < top → Lies xs done k
lies xs first zero top k there less =
    let none : 0 ≡ top = same_Some 0 top (sym first ∙ there) in absurd (omega (arith, none, less))
lies xs first (suc done) top k there less =
    let inside : done < length xs = omega (arith, slice_get_within xs (suc done) top there) in
    let middle : slice_get xs done ≡ Some (get_or xs done 0) = slice_get-get_or xs done 0 inside in
    elim (cases_lt k (get_or xs done 0)) [
      | inl low ↦ later xs done k (lies xs first done (get_or xs done 0) k middle low)
      | inr high ↦ record {
        at = done;
        before = omega arith;
        low = get_or xs done 0;
        high = top;
        begins = middle;
        ends = there;
        above = high;
        below = less;
      }
    ]
