-- The search in depth goes on to a new position.
use Rattle.std.proofs.Common.{◌≡◌, ℕ, ◌+◌, ◌*◌, ◌<◌, ◌≤◌, List, [], ◌∷◌, ◌++◌, length, set, sym, subst, ap, ◌∙◌, Some, arith, length-append, inl, inr, ◌⊎◌}
use Rattle.std.specs.Prelude.{slice_get}
use Rattle.std.proofs.Math.ListN.{length-set}
use Rattle.std.proofs.lemmas.Bool.{cases_eq}
use Rattle.std.proofs.lemmas.Option.{same_Some}
use Rattle.step_table.specs.Numbers.{number_of}
use Rattle.loop_nest.specs.Ranks.{Falls, IsFalling, IsHigh, IsPlaced, IsRanked, IsSettled, IsWalk}
use Rattle.step_table.specs.Table.{IsStep}
use Rattle.step_table.proofs.Places.{number_other, number_same, place_cases, place_last, place_left, place_within, zeros_fewer}

-- A trail keeps its height where no number falls below the floor.
pub high_kept : (table : List (List ℕ)) (numbers later : List ℕ) (floor entry position : ℕ) →
    ((x : ℕ) → floor ≤ number_of numbers x → floor ≤ number_of later x) →
    IsHigh table numbers floor entry position → IsHigh table later floor entry position
high_kept table numbers later floor entry _ kept (IsHigh.begins h) = IsHigh.begins (kept entry h)
high_kept table numbers later floor entry _ kept (IsHigh.goes from to high step h) =
    IsHigh.goes from to (high_kept table numbers later floor entry from kept high) step (kept to h)

pub falling_kept : (table : List (List ℕ)) (numbers later : List ℕ) (start end : ℕ) →
    ((x y : ℕ) → Falls numbers x y → Falls later x y) → IsFalling table numbers start end →
    IsFalling table later start end
falling_kept table numbers later start _ kept IsFalling.begins = IsFalling.begins
falling_kept table numbers later start _ kept (IsFalling.goes from to falling step falls) =
    IsFalling.goes from to (falling_kept table numbers later start from kept falling) step (kept from to falls)

-- The search goes on to a new position.
pub walk_on : (table : List (List ℕ)) (entry : ℕ) (numbers : List ℕ) (count : ℕ) (rest : List ℕ)
    (last next : ℕ) → IsWalk table entry numbers count (rest ++ last ∷ []) → IsStep table last next →
    next < length table → number_of numbers next ≡ 0 → (v : ℕ) → v + length (rest ++ last ∷ []) ≡ 2 * length table →
    IsWalk table entry (set numbers next v) count ((rest ++ last ∷ []) ++ next ∷ [])
walk_on table entry numbers count rest last next walk step inside new v stamp =
    record {
      sized = length-set numbers next v ∙ walk.sized;
      counted = omega (arith, walk.counted, zeros_fewer numbers next v within new positive, length-append stack (next ∷ []));
      begun = elim (cases_eq entry next) as (λ _. 0 < number_of later entry) [
        | inl e ↦ subst (λ (at : ℕ). 0 < number_of later at) (sym e) fresh
        | inr differ ↦ omega (arith, same entry differ, walk.begun)
      ];
      first = λ position h. first_by position (place_cases stack next 0 position h);
      steps = λ place from to h k. steps_by place from to (place_cases stack next place from h) (place_cases stack next (place + 1) to k);
      placed = λ place position h. placed_by place position (place_cases stack next place position h);
      low = low_by;
      distinct = distinct_by;
      high = high_by;
      settled = settled_by;
    }
  where
    stack : List ℕ
    stack = rest ++ last ∷ []

    later : List ℕ
    later = set numbers next v

    within : next < length numbers
    within = omega (arith, inside, walk.sized)

    long : length stack ≡ length rest + 1
    long = length-append rest (last ∷ [])

    few : length stack + count + 1 ≤ length table
    few = omega (arith, walk.counted, zeros_fewer numbers next 1 within new (omega arith))

    positive : 0 < v
    positive = omega (arith, few, stamp)

    far : count < v
    far = omega (arith, few, stamp)

    is_v : number_of later next ≡ v
    is_v = number_same numbers next v within

    fresh : 0 < number_of later next
    fresh = omega (arith, is_v, positive)

    same : (x : ℕ) → (x ≡ next → ⊥) → number_of later x ≡ number_of numbers x
    same x differ = number_other numbers next v x differ

    not_next : (x : ℕ) → 0 < number_of numbers x → x ≡ next → ⊥
    not_next x h e = omega (arith, h, new, ap (λ (at : ℕ). number_of numbers at) e)

    on_stack : (place position : ℕ) → slice_get stack place ≡ Some position →
        number_of later position + place ≡ 2 * length table
    on_stack place position h =
        omega (
          arith,
          walk.placed place position h,
          same position (not_next position (omega (arith, few, walk.placed place position h, place_within stack place position h))),
        )

    first_by : (position : ℕ) → (slice_get stack 0 ≡ Some position) ⊎ ((0 ≡ length stack) × (next ≡ position)) → entry ≡ position
    first_by position (inl h) = walk.first position h
    first_by position (inr both) = absurd (omega (arith, both.0, long))

    steps_by : (place from to : ℕ) →
        (slice_get stack place ≡ Some from) ⊎ ((place ≡ length stack) × (next ≡ from)) →
        (slice_get stack (place + 1) ≡ Some to) ⊎ ((place + 1 ≡ length stack) × (next ≡ to)) → IsStep table from to
    steps_by place from to (inl h) (inl k) = walk.steps place from to h k
    steps_by place from to (inr both) (inl k) = absurd (omega (arith, both.0, place_within stack (place + 1) to k))
    steps_by place from to (inr both) (inr other) = absurd (omega (arith, both.0, other.0))
    steps_by place from to (inl h) (inr other) =
        subst (λ (at : ℕ). IsStep table from at) other.1
        (subst (λ (at : ℕ). IsStep table at next)
        (same_Some last from (sym (place_last rest last) ∙ subst (λ (at : ℕ). slice_get stack at ≡ Some from) (omega (arith, other.0, long)) h))
        step)

    placed_by : (place position : ℕ) →
        (slice_get stack place ≡ Some position) ⊎ ((place ≡ length stack) × (next ≡ position)) →
        number_of later position + place ≡ 2 * length table
    placed_by place position (inl h) = on_stack place position h
    placed_by place position (inr both) =
        omega (arith, both.0, stamp, is_v, ap (λ (at : ℕ). number_of later at) both.1)

    low_old : (x : ℕ) → (x ≡ next → ⊥) → (number_of numbers x ≤ count) ⊎ IsPlaced (2 * length table) numbers stack x →
        (number_of later x ≤ count) ⊎ IsPlaced (2 * length table) later (stack ++ next ∷ []) x
    low_old x differ (inl h) = inl (omega (arith, h, same x differ))
    low_old x differ (inr p) = inr (record {
      place = p.place;
      there = place_left stack (next ∷ []) p.place x p.there;
      number = on_stack p.place x p.there;
    })

    low_by : (x : ℕ) → (number_of later x ≤ count) ⊎ IsPlaced (2 * length table) later (stack ++ next ∷ []) x
    low_by x = elim (cases_eq x next) [
      | inl e ↦ inr (record {
        place = length stack;
        there = subst (λ (at : ℕ). slice_get (stack ++ next ∷ []) (length stack) ≡ Some at) (sym e) (place_last stack next);
        number = omega (arith, stamp, is_v, ap (λ (at : ℕ). number_of later at) e);
      })
      | inr differ ↦ low_old x differ (walk.low x)
    ]

    apart : (x : ℕ) → (number_of numbers x ≤ count) ⊎ IsPlaced (2 * length table) numbers stack x →
        number_of numbers x ≡ v → ⊥
    apart x (inl h) e = omega (arith, far, e, h)
    apart x (inr p) e = omega (arith, e, p.number, stamp, place_within stack p.place x p.there)

    distinct_by : (x y : ℕ) → 0 < number_of later x → number_of later x ≡ number_of later y → x ≡ y
    distinct_by x y h e = elim (cases_eq x next) [
      | inl a ↦ elim (cases_eq y next) [
        | inl b ↦ a ∙ sym b
        | inr b ↦ absurd (apart y (walk.low y) (omega (arith, e, is_v, ap (λ (at : ℕ). number_of later at) a, same y b)))
      ]
      | inr a ↦ elim (cases_eq y next) [
        | inl b ↦ absurd (apart x (walk.low x) (omega (arith, e, is_v, ap (λ (at : ℕ). number_of later at) b, same x a)))
        | inr b ↦ walk.distinct x y (omega (arith, h, same x a)) (omega (arith, e, same x a, same y b))
      ]
    ]

    ranked_other : (x : ℕ) → number_of later x ≤ count → x ≡ next → ⊥
    ranked_other x h e = omega (arith, far, h, is_v, ap (λ (at : ℕ). number_of later at) e)

    ranked_old : (x : ℕ) → IsRanked later count x → IsRanked numbers count x
    ranked_old x h = (omega (arith, h.0, same x (ranked_other x h.1)), omega (arith, h.1, same x (ranked_other x h.1)))

    floor_kept : (floor x : ℕ) → 0 < floor → floor ≤ number_of numbers x → floor ≤ number_of later x
    floor_kept floor x positive h =
        omega (arith, h, same x (not_next x (omega (arith, positive, h))))

    high_by : (x : ℕ) → IsRanked later count x → IsHigh table later (number_of later x) entry x
    high_by x h =
        subst (λ (floor : ℕ). IsHigh table later floor entry x) (sym (same x (ranked_other x h.1)))
        (high_kept table numbers later (number_of numbers x) entry x
        (λ y k. floor_kept (number_of numbers x) y (ranked_old x h).0 k) (walk.high x (ranked_old x h)))

    falls_on : (x y : ℕ) → Falls numbers x y → Falls later x y
    falls_on x y h = (
      omega (arith, h.0, same y (not_next y h.0)),
      omega (arith, h.1, same y (not_next y h.0), same x (not_next x (omega (arith, h.1)))),
    )

    settle : (from to : ℕ) → (from ≡ next → ⊥) → IsSettled table numbers from to → IsSettled table later from to
    settle from to differ settled = (
      omega (arith, settled.0, same to (not_next to settled.0)),
      elim settled.1 [
        | inl less ↦ inl (omega (arith, less, same from differ, same to (not_next to settled.0)))
        | inr falling ↦ inr (falling_kept table numbers later to from falls_on falling)
      ],
    )

    settled_by : (from to : ℕ) → IsRanked later count from → IsStep table from to → IsSettled table later from to
    settled_by from to h s = settle from to (ranked_other from h.1) (walk.settled from to (ranked_old from h) s)
