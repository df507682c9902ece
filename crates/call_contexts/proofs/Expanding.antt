-- The contexts that are made breadth first: one more of them makes those of its calls.
use Rattle.std.proofs.Common.{◌≡◌, ℕ, zero, suc, ◌+◌, ◌<◌, ◌≤◌, ◌⊎◌, inl, inr, List, [], ◌∷◌, ◌++◌, length, map, drop, get_or, slice_get, All, AllPairs, Contains, Some, refl, sym, ap, subst, ◌∙◌, arith}
use Rattle.std.proofs.lemmas.Bool.{cases_lt}
use Rattle.std.proofs.lemmas.List.{length-append, length-map}
use Rattle.std.proofs.lemmas.List.Elements.{All-append}
use Rattle.std.proofs.lemmas.Option.{get_or_from_slice_get, none-some, same_Some, slice_get_within}
use Rattle.flow_net.specs.declared.net.Context.{Context}
use Rattle.net_model.specs.Contexts.{IsContextBefore, root}
use Rattle.step_table.proofs.Places.{place_left}
use Rattle.step_table.proofs.Positions.{contains_at, place_of}
use Rattle.step_table.specs.Table.{IsWithin}
use Rattle.call_contexts.specs.Counting.{call_of, steps_in, steps_of}
use Rattle.call_contexts.specs.Expansion.{AreExpanded, HasCalls, IsMadeIn, RiseCalls, context_of}
use Rattle.call_contexts.specs.Layout.{IsMadeAs}
use Rattle.call_contexts.specs.Sizes.{IsCallAfter}
use Rattle.call_contexts.specs.declared.calls.Called.{Called}
use Rattle.call_contexts.proofs.Places.{StandsRight, behind_first, map_at, mapped_at, pair_at, pairs_by, place_joined, place_right}

-- The order of contexts by their places.
ordered_at : (contexts : List Context) → AllPairs IsContextBefore (drop 1 contexts) → (i j : ℕ) (a b : Context) → 0 < i → i < j →
    slice_get contexts i ≡ Some a → slice_get contexts j ≡ Some b → IsContextBefore a b
ordered_at contexts order zero j a b some less one other = absurd (omega (arith, some))
ordered_at contexts order (suc i) zero a b some less one other = absurd (omega (arith, less))
ordered_at contexts order (suc i) (suc j) a b some less one other =
    pair_at IsContextBefore (drop 1 contexts) order i j a b (omega (arith, less)) (behind_first contexts i ∙ one) (behind_first contexts j ∙ other)

ordered_by : (contexts : List Context) → ((i j : ℕ) (a b : Context) → 0 < i → i < j → slice_get contexts i ≡ Some a → slice_get contexts j ≡ Some b → IsContextBefore a b) →
    AllPairs IsContextBefore (drop 1 contexts)
ordered_by contexts each = pairs_by IsContextBefore (drop 1 contexts) (λ i j a b less one other.
    each (suc i) (suc j) a b (omega arith) (omega (arith, less)) (sym (behind_first contexts i) ∙ one) (sym (behind_first contexts j) ∙ other))

-- The entry function's context alone.
pub expanded_start : (entry : ℕ) (lists : List (List Called)) → 0 < length lists → AreExpanded entry lists (root entry ∷ []) (0 ∷ []) 0
expanded_start entry lists some = record {
  sized = refl;
  first = refl;
  start = refl;
  within = λ k d inside. only_first k d inside;
  made = λ number context there later. absurd (none_later number context there later);
  whole = λ parent calls one less has among. absurd (omega (arith, less));
  order = ordered_by (root entry ∷ []) (λ i j a b some less one other. absurd (none_later i a one some));
}
  where
    only_first : (k d : ℕ) → k < 1 → get_or (0 ∷ []) k d < length lists
    only_first zero d inside = some
    only_first (suc k) d inside = absurd (omega (arith, inside))

    none_later : (number : ℕ) (context : Context) → slice_get (root entry ∷ []) number ≡ Some context → 0 < number → ⊥
    none_later zero context there later = omega (arith, later)
    none_later (suc number) context there later = none-some context there

-- What one more context makes.
record MakesMore (entry : ℕ) (lists : List (List Called)) (contexts : List Context) (functions : List ℕ) (done function : ℕ) (calls : List Called) : Type 0 where
  expanded : AreExpanded entry lists contexts functions done
  is : slice_get functions done ≡ Some function
  listed : slice_get lists function ≡ Some calls
  rising : RiseCalls calls

module _ (entry : ℕ) (lists : List (List Called)) (contexts : List Context) (functions : List ℕ) (done function : ℕ) (calls : List Called)
    (more : MakesMore entry lists contexts functions done function calls) where
  abbrev later_contexts : List Context
  later_contexts = contexts ++ map (context_of done) calls

  abbrev later_functions : List ℕ
  later_functions = functions ++ steps_in calls

  reached : done < length contexts
  reached = omega (arith, slice_get_within functions done function more.is, more.expanded.sized)

  -- What holds of the earlier contexts stays.
  has_still : (context : ℕ) (given : List Called) → HasCalls lists functions context given → HasCalls lists later_functions context given
  has_still context given has = record {
    function = has.function;
    is = place_left functions (steps_in calls) context has.function has.is;
    listed = has.listed;
  }

  made_still : (number : ℕ) (context : Context) → IsMadeIn lists functions done number context → IsMadeIn lists later_functions (done + 1) number context
  made_still number context made = record {
    earlier = made.earlier;
    among = omega (arith, made.among);
    calls = made.calls;
    has = has_still context.parent made.calls made.has;
    one = made.one;
    listed = made.listed;
    same = made.same;
    function = place_left functions (steps_in calls) number made.one.graph made.function;
  }

  -- A new context is made by one of the calls.
  record IsNew (number : ℕ) (context : Context) : Type 0 where
    at : ℕ
    behind : number ≡ length contexts + at
    one : Called
    there : slice_get calls at ≡ Some one
    same : context_of done one ≡ context

  new_by : (number : ℕ) (context : Context) → StandsRight contexts (map (context_of done) calls) number context → IsNew number context
  new_by number context right =
      let (one, there, same) = mapped_at (context_of done) calls right.at context right.there in
      record { at = right.at; behind = right.behind; one = one; there = there; same = same }

  number_cases : (number : ℕ) (context : Context) → slice_get later_contexts number ≡ Some context → (slice_get contexts number ≡ Some context) ⊎ IsNew number context
  number_cases number context there = elim (place_joined contexts (map (context_of done) calls) number context there)
      as (λ _. (slice_get contexts number ≡ Some context) ⊎ IsNew number context) [
        | inl old ↦ inl old
        | inr right ↦ inr (new_by number context right)
      ]

  new_made : (number : ℕ) (context : Context) → IsNew number context → IsMadeIn lists later_functions (done + 1) number context
  new_made number context new =
      let parent_is : done ≡ context.parent = ap (λ (c : Context). c.parent) new.same in
      let place : length functions + new.at ≡ number = omega (arith, new.behind, more.expanded.sized) in
      record {
        earlier = omega (arith, parent_is, new.behind, reached);
        among = omega (arith, parent_is);
        calls = calls;
        has = record {
          function = function;
          is = subst (λ (c : ℕ). slice_get later_functions c ≡ Some function) parent_is (place_left functions (steps_in calls) done function more.is);
          listed = more.listed;
        };
        one = new.one;
        listed = contains_at calls new.at new.one new.there;
        same = subst (λ (parent : ℕ). context_of parent new.one ≡ context) parent_is new.same;
        function = subst (λ (n : ℕ). slice_get later_functions n ≡ Some new.one.graph) place
            (place_right functions (steps_in calls) new.at new.one.graph (map_at (λ (one : Called). one.graph) calls new.at new.one new.there));
      }

  later_made : (number : ℕ) (context : Context) → slice_get later_contexts number ≡ Some context → 0 < number → IsMadeIn lists later_functions (done + 1) number context
  later_made number context there later = by_case (number_cases number context there)
    where
      by_case : (slice_get contexts number ≡ Some context) ⊎ IsNew number context → IsMadeIn lists later_functions (done + 1) number context
      by_case (inl old) = made_still number context (more.expanded.made number context old later)
      by_case (inr new) = new_made number context new

  -- The calls of a context that was there are those that it had.
  had_calls : (parent : ℕ) (given : List Called) → parent < length functions → HasCalls lists later_functions parent given → HasCalls lists functions parent given
  had_calls parent given inside has = record { function = has.function; is = by_case (place_joined functions (steps_in calls) parent has.function has.is); listed = has.listed }
    where
      by_case : (slice_get functions parent ≡ Some has.function) ⊎ StandsRight functions (steps_in calls) parent has.function → slice_get functions parent ≡ Some has.function
      by_case (inl old) = old
      by_case (inr right) = absurd (omega (arith, inside, right.behind))

  same_calls : (given : List Called) → HasCalls lists functions done given → given ≡ calls
  same_calls given has =
      let e : function ≡ has.function = same_Some function has.function (sym more.is ∙ has.is) in
      same_Some given calls (sym has.listed ∙ sym (ap (λ (f : ℕ). slice_get lists f) e) ∙ more.listed)

  made_now : (one : Called) → Contains calls one → (number : ℕ) × IsMadeAs later_contexts done one.site one.target number
  made_now one among =
      let (at, there) = place_of calls one among in (
        length contexts + at,
        record {
          later = omega (arith, reached);
          there = place_right contexts (map (context_of done) calls) at (context_of done one) (map_at (context_of done) calls at one there);
        },
      )

  later_whole : (parent : ℕ) (given : List Called) (one : Called) → parent < done + 1 → HasCalls lists later_functions parent given →
      Contains given one → (number : ℕ) × IsMadeAs later_contexts parent one.site one.target number
  later_whole parent given one less has among = by_case (cases_lt parent done)
    where
      had : HasCalls lists functions parent given
      had = had_calls parent given (omega (arith, less, reached, more.expanded.sized)) has

      by_case : (parent < done) ⊎ (done ≤ parent) → (number : ℕ) × IsMadeAs later_contexts parent one.site one.target number
      by_case (inl before) =
          let (number, made) = more.expanded.whole parent given one before had among in
          (number, record { later = made.later; there = place_left contexts (map (context_of done) calls) number (context_of parent one) made.there })
      by_case (inr now) =
          let e : parent ≡ done = omega (arith, less, now) in
          let same = same_calls given (subst (λ (p : ℕ). HasCalls lists functions p given) e had) in
          subst (λ (p : ℕ). (number : ℕ) × IsMadeAs later_contexts p one.site one.target number) (sym e)
          (made_now one (subst (λ (cs : List Called). Contains cs one) same among))

  -- The new contexts come behind the others, in the order of their calls.
  old_before : (i j : ℕ) (a b : Context) → 0 < i → slice_get contexts i ≡ Some a → IsNew j b → IsContextBefore a b
  old_before i j a b some old new = inl (omega (arith, (more.expanded.made i a old some).among, ap (λ (c : Context). c.parent) new.same))

  new_before : (i j : ℕ) (a b : Context) → i < j → IsNew i a → IsNew j b → IsContextBefore a b
  new_before i j a b less one other =
      subst (λ (x : Context). IsContextBefore x b) one.same (subst (λ (y : Context). IsContextBefore (context_of done one.one) y) other.same
      (inr (
        refl,
        pair_at (λ (x y : Called). IsCallAfter (call_of x) (call_of y)) calls more.rising one.at other.at one.one other.one
            (omega (arith, less, one.behind, other.behind)) one.there other.there,
      )))

  later_order : (i j : ℕ) (a b : Context) → 0 < i → i < j → slice_get later_contexts i ≡ Some a → slice_get later_contexts j ≡ Some b → IsContextBefore a b
  later_order i j a b some less one other = by_case (number_cases i a one) (number_cases j b other)
    where
      by_case : (slice_get contexts i ≡ Some a) ⊎ IsNew i a → (slice_get contexts j ≡ Some b) ⊎ IsNew j b → IsContextBefore a b
      by_case (inl old) (inl later) = ordered_at contexts more.expanded.order i j a b some less old later
      by_case (inl old) (inr new) = old_before i j a b some old new
      by_case (inr early) (inl later) = absurd (omega (arith, less, early.behind, slice_get_within contexts j b later))
      by_case (inr early) (inr new) = new_before i j a b less early new

-- The positions of the called graphs are those of lists.
steps_within : (lists : List (List Called)) → IsWithin (steps_of lists) → (function : ℕ) (calls : List Called) → slice_get lists function ≡ Some calls →
    All (λ to. to < length lists) (steps_in calls)
steps_within lists within function calls listed =
    let at = map_at steps_in lists function calls listed in
    let each = within function (steps_in calls) (slice_get_within (steps_of lists) function (steps_in calls) at) in
    let of : All (λ to. to < length (steps_of lists)) (steps_in calls) =
    subst (λ (steps : List ℕ). All (λ to. to < length (steps_of lists)) steps) (get_or_from_slice_get (steps_of lists) function (steps_in calls) (steps_in calls) at) each in
    λ k d inside. omega (arith, of k d inside, length-map lists steps_in)

pub expanded_more : (entry : ℕ) (lists : List (List Called)) (contexts : List Context) (functions : List ℕ) (done function : ℕ) (calls : List Called) →
    IsWithin (steps_of lists) → AreExpanded entry lists contexts functions done → slice_get functions done ≡ Some function → slice_get lists function ≡ Some calls →
    RiseCalls calls → AreExpanded entry lists (contexts ++ map (context_of done) calls) (functions ++ steps_in calls) (done + 1)
expanded_more entry lists contexts functions done function calls within expanded is listed rising =
    let more : MakesMore entry lists contexts functions done function calls = record { expanded = expanded; is = is; listed = listed; rising = rising } in
    record {
      sized = omega (
        arith,
        length-append functions (steps_in calls),
        length-append contexts (map (context_of done) calls),
        expanded.sized,
        length-map calls (λ (one : Called). one.graph),
        length-map calls (context_of done),
      );
      first = place_left contexts (map (context_of done) calls) 0 (root entry) expanded.first;
      start = place_left functions (steps_in calls) 0 0 expanded.start;
      within = All-append (λ f. f < length lists) functions (steps_in calls) expanded.within (steps_within lists within function calls listed);
      made = later_made entry lists contexts functions done function calls more;
      whole = later_whole entry lists contexts functions done function calls more;
      order = ordered_by (contexts ++ map (context_of done) calls) (later_order entry lists contexts functions done function calls more);
    }

-- The contexts that the next one makes are new.
pub made_new : (entry : ℕ) (lists : List (List Called)) (contexts : List Context) (functions : List ℕ) (done function : ℕ) (calls : List Called) →
    AreExpanded entry lists contexts functions done → slice_get functions done ≡ Some function → slice_get lists function ≡ Some calls →
    ((given : List Called) → slice_get lists 0 ≡ Some given → All (λ one. one.target ≡ entry → ⊥) given) →
    All (λ one. Contains contexts (context_of done one) → ⊥) calls
made_new entry lists contexts functions done function calls expanded is listed other k d inside among =
    let (number, there) = place_of contexts (context_of done (get_or calls k d)) among in
    by_number number there
  where
    one : Called
    one = get_or calls k d

    -- Only in context 0 could the root be made once more, by a call of the entry function.
    not_first : slice_get contexts 0 ≡ Some (context_of done one) → ⊥
    not_first there =
        let e = same_Some (root entry) (context_of done one) (sym expanded.first ∙ there) in
        let here : done ≡ 0 = sym (ap (λ (c : Context). c.parent) e) in
        let zero_is : 0 ≡ function = same_Some 0 function (sym expanded.start ∙ subst (λ (n : ℕ). slice_get functions n ≡ Some function) here is) in
        other calls (subst (λ (f : ℕ). slice_get lists f ≡ Some calls) (sym zero_is) listed) k d inside (sym (ap (λ (c : Context). c.target) e))

    by_number : (number : ℕ) → slice_get contexts number ≡ Some (context_of done one) → ⊥
    by_number zero there = not_first there
    by_number (suc number) there = omega (arith, (expanded.made (suc number) (context_of done one) there (omega arith)).among)
