-- The search in depth goes back from a position, which gets its rank.
use Rattle.std.proofs.Common.{◌≡◌, ℕ, ◌+◌, ◌*◌, ◌-◌, ◌<◌, ◌≤◌, List, [], ◌∷◌, ◌++◌, length, set, zero, suc, sym, subst, ap, ◌∙◌, Some, arith, length-append, inl, inr, ◌⊎◌}
use Rattle.std.specs.Prelude.{slice_get}
use Rattle.std.proofs.Math.ListN.{length-set}
use Rattle.std.proofs.lemmas.Bool.{cases_eq}
use Rattle.std.proofs.lemmas.Option.{same_Some}
use Rattle.step_table.specs.Numbers.{number_of}
use Rattle.loop_nest.specs.Ranks.{Falls, IsFalling, IsHigh, IsPlaced, IsRanked, IsSettled, IsWalk}
use Rattle.step_table.specs.Table.{IsStep}
use Rattle.step_table.proofs.Places.{number_other, number_same, place_before, place_cases, place_last, place_left, place_within, zeros_same}
use Rattle.loop_nest.proofs.Walking.{falling_kept, high_kept}

-- The last position of the trail gets its rank.
pub walk_back : (table : List (List ℕ)) (entry : ℕ) (numbers : List ℕ) (count : ℕ) (rest : List ℕ)
    (last : ℕ) → IsWalk table entry numbers count (rest ++ last ∷ []) →
    ((x : ℕ) → IsStep table last x → 0 < number_of numbers x) → last < length table →
    IsWalk table entry (set numbers last (count + 1)) (count + 1) rest
walk_back table entry numbers count rest last walk passed inside =
    record {
      sized = length-set numbers last v ∙ walk.sized;
      counted = omega (arith, walk.counted, zeros_same numbers last v within old_positive (omega arith), long);
      begun = elim (cases_eq entry last) as (λ _. 0 < number_of later entry) [
        | inl e ↦ omega (arith, is_v, ap (λ (at : ℕ). number_of later at) e)
        | inr differ ↦ omega (arith, same entry differ, walk.begun)
      ];
      first = λ position h. walk.first position (place_left rest (last ∷ []) 0 position h);
      steps = λ place from to h k. walk.steps place from to (place_left rest (last ∷ []) place from h) (place_left rest (last ∷ []) (place + 1) to k);
      placed = on_rest;
      low = low_by;
      distinct = distinct_by;
      high = high_by;
      settled = settled_by;
    }
  where
    stack : List ℕ
    stack = rest ++ last ∷ []

    v : ℕ
    v = count + 1

    later : List ℕ
    later = set numbers last v

    within : last < length numbers
    within = omega (arith, inside, walk.sized)

    long : length stack ≡ length rest + 1
    long = length-append rest (last ∷ [])

    few : length rest + 1 + count ≤ length table
    few = omega (arith, walk.counted, long)

    last_number : number_of numbers last + length rest ≡ 2 * length table
    last_number = walk.placed (length rest) last (place_last rest last)

    old_positive : 0 < number_of numbers last
    old_positive = omega (arith, last_number, few)

    is_v : number_of later last ≡ count + 1
    is_v = number_same numbers last v within

    same : (x : ℕ) → (x ≡ last → ⊥) → number_of later x ≡ number_of numbers x
    same x differ = number_other numbers last v x differ

    at_last : (x : ℕ) → x ≡ last → number_of later x ≡ count + 1
    at_last x e = ap (λ (at : ℕ). number_of later at) e ∙ is_v

    old_last : (x : ℕ) → x ≡ last → number_of numbers x ≡ number_of numbers last
    old_last x e = ap (λ (at : ℕ). number_of numbers at) e

    rest_other : (place position : ℕ) → slice_get rest place ≡ Some position → position ≡ last → ⊥
    rest_other place position h e =
        omega (
          arith,
          old_last position e,
          last_number,
          walk.placed place position (place_left rest (last ∷ []) place position h),
          place_within rest place position h,
        )

    on_rest : (place position : ℕ) → slice_get rest place ≡ Some position →
        number_of later position + place ≡ 2 * length table
    on_rest place position h =
        omega (
          arith,
          same position (rest_other place position h),
          walk.placed place position (place_left rest (last ∷ []) place position h),
        )

    low_placed : (x place : ℕ) → (x ≡ last → ⊥) →
        (slice_get rest place ≡ Some x) ⊎ ((place ≡ length rest) × (last ≡ x)) →
        (number_of later x ≤ count + 1) ⊎ IsPlaced (2 * length table) later rest x
    low_placed x place differ (inl h) =
        inr (record { place = place; there = h; number = on_rest place x h })
    low_placed x place differ (inr both) = absurd (differ (sym both.1))

    low_old : (x : ℕ) → (x ≡ last → ⊥) → (number_of numbers x ≤ count) ⊎ IsPlaced (2 * length table) numbers stack x →
        (number_of later x ≤ count + 1) ⊎ IsPlaced (2 * length table) later rest x
    low_old x differ (inl h) = inl (omega (arith, h, same x differ))
    low_old x differ (inr p) = low_placed x p.place differ (place_cases rest last p.place x p.there)

    low_by : (x : ℕ) → (number_of later x ≤ count + 1) ⊎ IsPlaced (2 * length table) later rest x
    low_by x = elim (cases_eq x last) [
      | inl e ↦ inl (omega (arith, at_last x e))
      | inr differ ↦ low_old x differ (walk.low x)
    ]

    -- The numbers of the trail lie above the ranks.
    above : (x : ℕ) → IsPlaced (2 * length table) numbers stack x → count + 1 < number_of numbers x
    above x p = omega (arith, p.number, few, long, place_within stack p.place x p.there)

    ranked_by : (x : ℕ) → (number_of numbers x ≤ count) ⊎ IsPlaced (2 * length table) numbers stack x →
        number_of numbers x ≤ count + 1 → number_of numbers x ≤ count
    ranked_by x (inl h) k = h
    ranked_by x (inr p) k = absurd (omega (arith, above x p, k))

    ranked_old : (x : ℕ) → (x ≡ last → ⊥) → IsRanked later (count + 1) x → IsRanked numbers count x
    ranked_old x differ h = (
      omega (arith, h.0, same x differ),
      ranked_by x (walk.low x) (omega (arith, h.1, same x differ)),
    )

    apart : (x : ℕ) → (number_of numbers x ≤ count) ⊎ IsPlaced (2 * length table) numbers stack x →
        number_of numbers x ≡ count + 1 → ⊥
    apart x (inl h) e = omega (arith, e, h)
    apart x (inr p) e = omega (arith, e, above x p)

    distinct_by : (x y : ℕ) → 0 < number_of later x → number_of later x ≡ number_of later y → x ≡ y
    distinct_by x y h e = elim (cases_eq x last) [
      | inl a ↦ elim (cases_eq y last) [
        | inl b ↦ a ∙ sym b
        | inr b ↦ absurd (apart y (walk.low y) (omega (arith, e, at_last x a, same y b)))
      ]
      | inr a ↦ elim (cases_eq y last) [
        | inl b ↦ absurd (apart x (walk.low x) (omega (arith, e, at_last y b, same x a)))
        | inr b ↦ walk.distinct x y (omega (arith, h, same x a)) (omega (arith, e, same x a, same y b))
      ]
    ]

    tall : (place position : ℕ) → slice_get stack place ≡ Some position → count + 1 ≤ number_of later position
    tall place position h = elim (cases_eq position last) [
      | inl e ↦ omega (arith, at_last position e)
      | inr differ ↦ omega (
        arith,
        same position differ,
        above position (record { place = place; there = h; number = walk.placed place position h }),
      )
    ]

    stack_high : (place position : ℕ) → slice_get stack place ≡ Some position →
        IsHigh table later (count + 1) entry position
    stack_high zero position h =
        subst (IsHigh table later (count + 1) entry) (walk.first position h)
        (IsHigh.begins (subst (λ (at : ℕ). count + 1 ≤ number_of later at) (sym (walk.first position h)) (tall 0 position h)))
    stack_high (suc place) position h =
        let k : slice_get stack (place + 1) ≡ Some position = subst (λ (at : ℕ). slice_get stack at ≡ Some position) (omega arith) h in
        let (before, there) = place_before stack place position k in
        IsHigh.goes before position (stack_high place before there) (walk.steps place before position there k)
        (tall (suc place) position h)

    floor_kept : (floor x : ℕ) → floor ≤ count → floor ≤ number_of numbers x → floor ≤ number_of later x
    floor_kept floor x less h = elim (cases_eq x last) [
      | inl e ↦ omega (arith, at_last x e, less)
      | inr differ ↦ omega (arith, same x differ, h)
    ]

    high_by : (x : ℕ) → IsRanked later (count + 1) x → IsHigh table later (number_of later x) entry x
    high_by x h = elim (cases_eq x last) [
      | inl e ↦ subst (λ (at : ℕ). IsHigh table later (number_of later at) entry at) (sym e)
          (subst (λ (floor : ℕ). IsHigh table later floor entry last) (sym is_v)
          (stack_high (length rest) last (place_last rest last)))
      | inr differ ↦ subst (λ (floor : ℕ). IsHigh table later floor entry x) (sym (same x differ))
          (high_kept table numbers later (number_of numbers x) entry x
          (λ y k. floor_kept (number_of numbers x) y (ranked_old x differ h).1 k) (walk.high x (ranked_old x differ h)))
    ]

    low_below : (x : ℕ) → (number_of numbers x ≤ count) ⊎ IsPlaced (2 * length table) numbers stack x →
        number_of numbers x < number_of numbers last → number_of numbers x ≤ count
    low_below x (inl h) k = h
    low_below x (inr p) k = absurd (omega (arith, p.number, last_number, k, long, place_within stack p.place x p.there))

    high_above : (x : ℕ) → (number_of numbers x ≤ count) ⊎ IsPlaced (2 * length table) numbers stack x →
        number_of numbers last < number_of numbers x → count + 1 < number_of numbers x
    high_above x (inl h) k = absurd (omega (arith, h, k, last_number, few))
    high_above x (inr p) k = above x p

    falls_back : (x y : ℕ) → Falls numbers x y → Falls later x y
    falls_back x y h = elim (cases_eq y last) [
      | inl e ↦ elim (cases_eq x last) [
        | inl f ↦ absurd (omega (arith, h.1, old_last x f, old_last y e))
        | inr f ↦ (
          omega (arith, at_last y e),
          omega (arith, at_last y e, same x f, high_above x (walk.low x) (omega (arith, h.1, old_last y e))),
        )
      ]
      | inr e ↦ elim (cases_eq x last) [
        | inl f ↦ (
          omega (arith, h.0, same y e),
          omega (arith, same y e, at_last x f, low_below y (walk.low y) (omega (arith, h.1, old_last x f))),
        )
        | inr f ↦ (omega (arith, h.0, same y e), omega (arith, h.1, same y e, same x f))
      ]
    ]

    -- Along the trail the numbers fall.
    stack_falling : (more place start position : ℕ) → slice_get stack place ≡ Some start →
        slice_get stack (place + more) ≡ Some position → IsFalling table numbers start position
    stack_falling zero place start position h k =
        subst (IsFalling table numbers start)
        (same_Some start position (sym h ∙ subst (λ (at : ℕ). slice_get stack at ≡ Some position) (omega arith) k))
        IsFalling.begins
    stack_falling (suc more) place start position h k =
        let k1 : slice_get stack (place + more + 1) ≡ Some position = subst (λ (at : ℕ). slice_get stack at ≡ Some position) (omega arith) k in
        let (before, there) = place_before stack (place + more) position k1 in
        IsFalling.goes before position (stack_falling more place start before h there)
        (walk.steps (place + more) before position there k1) (
          omega (arith, walk.placed (place + more + 1) position k1, place_within stack (place + more + 1) position k1, long, few),
          omega (arith, walk.placed (place + more + 1) position k1, walk.placed (place + more) before there, place_within stack (place + more + 1) position k1, long, few),
        )

    to_last : (to : ℕ) → (number_of numbers to ≤ count) ⊎ IsPlaced (2 * length table) numbers stack to →
        (to ≡ last → ⊥) → (number_of later to < number_of later last) ⊎ IsFalling table later to last
    to_last to (inl h) differ = inl (omega (arith, h, same to differ, is_v))
    to_last to (inr p) differ =
        inr (falling_kept table numbers later to last falls_back
        (stack_falling (length rest - p.place) p.place to last p.there
        (subst (λ (at : ℕ). slice_get stack at ≡ Some last)
        (omega (arith, long, place_within stack p.place to p.there)) (place_last rest last))))

    from_last : (to : ℕ) → IsStep table last to → IsSettled table later last to
    from_last to step = elim (cases_eq to last) [
      | inl e ↦ (
        omega (arith, at_last to e),
        inr (subst (λ (at : ℕ). IsFalling table later at last) (sym e) IsFalling.begins),
      )
      | inr differ ↦ (omega (arith, same to differ, passed to step), to_last to (walk.low to) differ)
    ]

    settle : (from to : ℕ) → (from ≡ last → ⊥) → number_of numbers from ≤ count →
        IsSettled table numbers from to → IsSettled table later from to
    settle from to differ less settled = (
      elim (cases_eq to last) as (λ _. 0 < number_of later to) [
        | inl e ↦ omega (arith, at_last to e)
        | inr other ↦ omega (arith, same to other, settled.0)
      ],
      elim settled.1 as (λ _. (number_of later to < number_of later from) ⊎ IsFalling table later to from) [
        | inl smaller ↦ inl (omega (
          arith,
          smaller,
          same from differ,
          same to (λ e. omega (arith, old_last to e, smaller, less, last_number, few)),
        ))
        | inr falling ↦ inr (falling_kept table numbers later to from falls_back falling)
      ],
    )

    settled_by : (from to : ℕ) → IsRanked later (count + 1) from → IsStep table from to → IsSettled table later from to
    settled_by from to h step = elim (cases_eq from last) [
      | inl e ↦ subst (λ (at : ℕ). IsSettled table later at to) (sym e)
          (from_last to (subst (λ (at : ℕ). IsStep table at to) e step))
      | inr differ ↦ settle from to differ (ranked_old from differ h).1 (walk.settled from to (ranked_old from differ h) step)
    ]
