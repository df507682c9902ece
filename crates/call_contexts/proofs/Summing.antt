-- Sums over the contexts that are made.
use Rattle.std.proofs.Common.{◌≡◌, ℕ, zero, suc, ◌+◌, ◌<◌, ◌≤◌, ◌⊎◌, inl, inr, List, [], ◌∷◌, ◌++◌, length, drop, take, get_or, replicate, slice_get, All, Some, sum_by, refl, sym, ap, ◌∙◌, arith}
use Rattle.std.proofs.Math.ListN.{drop_of_length-le, length-replicate}
use Rattle.std.proofs.Math.Seq.{take-length}
use Rattle.std.proofs.lemmas.Bool.{cases_lt}
use Rattle.std.proofs.lemmas.List.{drop-append-le, length-take, length-take-le, take-append-le}
use Rattle.std.proofs.lemmas.List.Elements.{All-head, All-tail, All-take}
use Rattle.std.proofs.lemmas.List.Sums.{sum_by-append, sum_by-cons, sum_by-drop_more, sum_by_more}
use Rattle.std.proofs.lemmas.Option.{get_or_from_slice_get, slice_get-get_or, slice_get_within}
use Rattle.step_table.specs.Numbers.{number_of}
use Rattle.call_contexts.specs.Counting.{AddsAlong, ones_for, steps_in, steps_of}
use Rattle.call_contexts.specs.Expansion.{SumsUp}
use Rattle.call_contexts.specs.declared.calls.Called.{Called}
use Rattle.call_contexts.proofs.Places.{map_at}

-- Each position of the lists has a one.
pub one_at : (n k : ℕ) → k < n → number_of (replicate n 1) k ≡ 1
one_at zero k less = absurd (omega (arith, less))
one_at (suc n) zero less = refl
one_at (suc n) (suc k) less = one_at n k (omega (arith, less))

ones_count : (n : ℕ) (functions : List ℕ) → All (λ function. function < n) functions → sum_by (number_of (replicate n 1)) functions ≡ length functions
ones_count n [] within = refl
ones_count n (function ∷ functions) within =
    omega (
      arith,
      one_at n function (All-head (λ f. f < n) function functions within),
      sum_by-cons (number_of (replicate n 1)) function functions,
      ones_count n functions (All-tail (λ f. f < n) function functions within),
    )

-- At the start the first function's number stands for all.
pub sums_start : (lists : List (List Called)) → SumsUp lists (0 ∷ []) 0
sums_start lists own total sized adds = omega arith

-- The total of a function that makes its contexts is its own and those of the functions that it calls.
total_next : (lists : List (List Called)) (own : List ℕ) (total : ℕ → ℕ) → length own ≡ length lists → AddsAlong (steps_of lists) own total →
    (function : ℕ) (calls : List Called) → slice_get lists function ≡ Some calls → total function ≡ number_of own function + sum_by total (steps_in calls)
total_next lists own total sized adds function calls listed =
    adds function (number_of own function) (steps_in calls) (map_at steps_in lists function calls listed)
    (slice_get-get_or own function 0 (omega (arith, slice_get_within lists function calls listed, sized)))

-- One more context makes those of its calls.
pub sums_more : (lists : List (List Called)) (functions : List ℕ) (done function : ℕ) (calls : List Called) → SumsUp lists functions done →
    slice_get functions done ≡ Some function → slice_get lists function ≡ Some calls → SumsUp lists (functions ++ steps_in calls) (done + 1)
sums_more lists functions done function calls sums is listed own total sized adds =
    let within = slice_get_within functions done function is in
    let at = get_or_from_slice_get functions done function 0 is in
    let before = sums own total sized adds in
    let next = total_next lists own total sized adds function calls listed in
    let front = sum_by_more (number_of own) functions done 0 within ∙ ap (λ (f : ℕ). sum_by (number_of own) (take done functions) + number_of own f) at in
    let back = sum_by-drop_more total functions done 0 within ∙ ap (λ (f : ℕ). total f + sum_by total (drop (done + 1) functions)) at in
    let long : done + 1 ≤ length functions = omega (arith, within) in
    let taken = ap (sum_by (number_of own)) (take-append-le (done + 1) functions (steps_in calls) long) in
    let dropped = ap (sum_by total) (drop-append-le (done + 1) functions (steps_in calls) long)
    ∙ sum_by-append total (drop (done + 1) functions) (steps_in calls) in
    omega (arith, before, next, front, back, taken, dropped)

-- While fewer have made their contexts than there are in all, one is left that has not.
pub one_left : (lists : List (List Called)) (functions : List ℕ) (done : ℕ) (total : ℕ → ℕ) → All (λ function. function < length lists) functions →
    AddsAlong (steps_of lists) (ones_for lists) total → SumsUp lists functions done → done < total 0 → done < length functions
one_left lists functions done total within adds sums less = by_case (cases_lt done (length functions))
  where
    by_case : (done < length functions) ⊎ (length functions ≤ done) → done < length functions
    by_case (inl there) = there
    by_case (inr past) =
        let all = sums (ones_for lists) total (length-replicate (length lists) 1) adds in
        let none = ap (sum_by total) (drop_of_length-le functions past) in
        let count = ones_count (length lists) (take done functions) (All-take (λ f. f < length lists) done functions within) in
        absurd (omega (arith, less, all, none, count, length-take done functions))

-- Once as many have made their contexts as there are in all, these are all.
pub none_left : (lists : List (List Called)) (functions : List ℕ) (count : ℕ) (total : ℕ → ℕ) → All (λ function. function < length lists) functions →
    AddsAlong (steps_of lists) (ones_for lists) total → SumsUp lists functions count → count ≡ total 0 → count ≤ length functions → length functions ≡ count
none_left lists functions count total within adds sums same reached = by_case (cases_lt count (length functions))
  where
    by_case : (count < length functions) ⊎ (length functions ≤ count) → length functions ≡ count
    by_case (inr past) = omega (arith, past, reached)
    by_case (inl there) =
        let all = sums (ones_for lists) total (length-replicate (length lists) 1) adds in
        let counted = ones_count (length lists) (take count functions) (All-take (λ f. f < length lists) count functions within) in
        let taken = length-take-le count functions reached in
        let here : get_or functions count 0 < length lists = within count 0 there in
        let next = total_next lists (ones_for lists) total (length-replicate (length lists) 1) adds (get_or functions count 0)
        (get_or lists (get_or functions count 0) []) (slice_get-get_or lists (get_or functions count 0) [] here) in
        let back = sum_by-drop_more total functions count 0 there in
        absurd (omega (arith, all, counted, taken, next, back, same, one_at (length lists) (get_or functions count 0) here))

-- Then the own numbers of all contexts make up the first position's.
pub sums_all : (lists : List (List Called)) (functions : List ℕ) (count : ℕ) → SumsUp lists functions count → length functions ≡ count →
    (own : List ℕ) (total : ℕ → ℕ) → length own ≡ length lists → AddsAlong (steps_of lists) own total → sum_by (number_of own) functions ≡ total 0
sums_all lists functions count sums same own total sized adds =
    let all = sums own total sized adds in
    let taken = ap (λ (n : ℕ). sum_by (number_of own) (take n functions)) (sym same) ∙ ap (sum_by (number_of own)) (take-length functions) in
    let dropped = ap (sum_by total) (drop_of_length-le functions {i = count} (omega (arith, same))) in
    omega (arith, all, taken, dropped)
