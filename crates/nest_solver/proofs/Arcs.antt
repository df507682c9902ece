-- What the tests of arcs tell: back arcs, entering arcs, arcs that end a way and those by which it goes on.
use Rattle.std.proofs.Common.{◌≡◌, ◌⊎◌, ℕ, ◌<◌, ◌==◌, ◌&&◌, ◌||◌, not, cond, Bool, true, false, refl, sym, ap, ◌∙◌, subst, inl, inr, arith, true≢false}
use Rattle.std.proofs.lemmas.Bool.{cases_eq}
use Rattle.std.proofs.lemmas.Bool.Decides.{nat_tests}
use Rattle.nest_solver.specs.Shape.{Shape, IsNest, IsUpTo, target, is_back, is_entering}
use Rattle.nest_solver.specs.Ways.{IsRound, closes, goes_on}

pub back_by : (t : ℕ) (h : Bool) → (not (t == 0) && h) ≡ true → (0 < t) × (h ≡ true)
back_by t true e = (grind (arith, nat_tests), refl)
back_by t false e = grind (arith, nat_tests)

entering_by : (t : ℕ) (h : Bool) → (not (t == 0) && not h) ≡ true → (0 < t) × (h ≡ false)
entering_by t true e = grind (arith, nat_tests)
entering_by t false e = (grind (arith, nat_tests), refl)

pub back_from : (t : ℕ) (h : Bool) → 0 < t → h ≡ true → (not (t == 0) && h) ≡ true
back_from t h low e = grind (arith, nat_tests)

entering_from : (t : ℕ) (h : Bool) → 0 < t → h ≡ false → (not (t == 0) && not h) ≡ true
entering_from t h low e = grind (arith, nat_tests)

-- A back arc goes to the header of a loop that holds its ends.
pub record IsBackOf (s : Shape) (i l : ℕ) : Type 0 where
  pub up : IsUpTo s.loops l
  pub header : s.to i ≡ s.header l
  pub source : s.holds l (s.from i) ≡ true
  pub held : s.holds l (s.to i) ≡ true

-- An entering arc goes to the header of a loop from where it doesn't hold.
pub record IsEnteringOf (s : Shape) (i l : ℕ) : Type 0 where
  pub up : IsUpTo s.loops l
  pub header : s.to i ≡ s.header l
  pub source : s.holds l (s.from i) ≡ false
  pub held : s.holds l (s.to i) ≡ true

held_at : (s : Shape) → IsNest s → (i l : ℕ) → IsUpTo s.loops l → s.to i ≡ s.header l →
    s.holds l (s.to i) ≡ true
held_at s nest i l u e = subst (λ (p : ℕ). s.holds l p ≡ true) (sym e) (nest.held l u)

pub back-of : (s : Shape) → IsNest s → (i : ℕ) → is_back s i ≡ true → IsBackOf s i (target s i)
back-of s nest i e =
    let parts = back_by (target s i) (s.holds (target s i) (s.from i)) e in
    let heads = nest.heads (s.to i) parts.0 in
    record {
      up = heads.0;
      header = sym heads.1;
      source = parts.1;
      held = held_at s nest i (target s i) heads.0 (sym heads.1);
    }

pub entering-of : (s : Shape) → IsNest s → (i : ℕ) → is_entering s i ≡ true →
    IsEnteringOf s i (target s i)
entering-of s nest i e =
    let parts = entering_by (target s i) (s.holds (target s i) (s.from i)) e in
    let heads = nest.heads (s.to i) parts.0 in
    record {
      up = heads.0;
      header = sym heads.1;
      source = parts.1;
      held = held_at s nest i (target s i) heads.0 (sym heads.1);
    }

-- The loop to whose header an arc goes.
pub target-is : (s : Shape) → IsNest s → (i l : ℕ) → IsUpTo s.loops l → s.to i ≡ s.header l → target s i ≡ l
target-is s nest i l u e = ap s.headed e ∙ nest.headed l u

pub back-from : (s : Shape) → IsNest s → (i l : ℕ) → IsUpTo s.loops l → s.to i ≡ s.header l →
    s.holds l (s.from i) ≡ true → is_back s i ≡ true
back-from s nest i l u e h =
    let t = target-is s nest i l u e in
    back_from (target s i) (s.holds (target s i) (s.from i)) (omega (arith, t, u))
    (subst (λ (k : ℕ). s.holds k (s.from i) ≡ true) (sym t) h)

pub entering-from : (s : Shape) → IsNest s → (i l : ℕ) → IsUpTo s.loops l → s.to i ≡ s.header l →
    s.holds l (s.from i) ≡ false → is_entering s i ≡ true
entering-from s nest i l u e h =
    let t = target-is s nest i l u e in
    entering_from (target s i) (s.holds (target s i) (s.from i)) (omega (arith, t, u))
    (subst (λ (k : ℕ). s.holds k (s.from i) ≡ false) (sym t) h)

pub back_not_entering : (s : Shape) (i : ℕ) → is_back s i ≡ true → is_entering s i ≡ false
back_not_entering s i e = by (target s i) (s.holds (target s i) (s.from i)) e
  where
    by : (t : ℕ) (h : Bool) → (not (t == 0) && h) ≡ true → (not (t == 0) && not h) ≡ false
    by t true e = grind (arith, nat_tests)
    by t false e = grind (arith, nat_tests)

-- No loop has its header at 0, and none is entered from a place by an arc to 0.
pub target-0 : (s : Shape) → IsNest s → (i : ℕ) → s.to i ≡ 0 → target s i ≡ 0
target-0 s nest i e = elim (cases_eq (target s i) 0) as (λ _. target s i ≡ 0) [
  | inl none ↦ none
  | inr some ↦ let heads = nest.heads (s.to i) (omega (arith, some)) in
      absurd (omega (arith, heads.1, e, nest.headers (target s i) heads.0))
]

pub not_entering-0 : (s : Shape) → IsNest s → (i : ℕ) → s.to i ≡ 0 → is_entering s i ≡ false
not_entering-0 s nest i e = by (target s i) (s.holds (target s i) (s.from i)) (target-0 s nest i e)
  where
    by : (t : ℕ) (h : Bool) → t ≡ 0 → (not (t == 0) && not h) ≡ false
    by t h e = grind (arith, nat_tests)

pub not_back-0 : (s : Shape) → IsNest s → (i : ℕ) → s.to i ≡ 0 → is_back s i ≡ false
not_back-0 s nest i e = by (target s i) (s.holds (target s i) (s.from i)) (target-0 s nest i e)
  where
    by : (t : ℕ) (h : Bool) → t ≡ 0 → (not (t == 0) && h) ≡ false
    by t h e = grind (arith, nat_tests)

-- No arc from 0 is a back arc.
pub not_back_from-0 : (s : Shape) → IsNest s → (i : ℕ) → s.from i ≡ 0 → is_back s i ≡ false
not_back_from-0 s nest i e =
    by (target s i) (s.holds (target s i) (s.from i))
    (subst (λ (p : ℕ). s.holds (target s i) p ≡ false) (sym e) (nest.outside (target s i)))
  where
    by : (t : ℕ) (h : Bool) → h ≡ false → (not (t == 0) && h) ≡ false
    by t h e = grind (arith, nat_tests)

closes_by : (to depth deep : ℕ) (back : Bool) →
    cond (to == 0) (depth == 0) (back && (deep == depth)) ≡ true →
    ((to ≡ 0) × (depth ≡ 0)) ⊎ ((0 < to) × (back ≡ true) × (deep ≡ depth))
closes_by to depth deep true e = elim (cases_eq to 0)
    as (λ _. ((to ≡ 0) × (depth ≡ 0)) ⊎ ((0 < to) × (true ≡ true) × (deep ≡ depth))) [
      | inl z ↦ inl (z, grind (arith, nat_tests))
      | inr some ↦ inr (omega (arith, some), refl, grind (arith, nat_tests))
    ]
closes_by to depth deep false e = elim (cases_eq to 0)
    as (λ _. ((to ≡ 0) × (depth ≡ 0)) ⊎ ((0 < to) × (false ≡ true) × (deep ≡ depth))) [
      | inl z ↦ inl (z, grind (arith, nat_tests))
      | inr some ↦ grind (arith, nat_tests)
    ]

-- An arc that ends a way.
pub closes-out : (s : Shape) (depth i : ℕ) → closes s depth i ≡ true →
    ((s.to i ≡ 0) × (depth ≡ 0))
    ⊎ ((0 < s.to i) × (is_back s i ≡ true) × (s.depth (target s i) ≡ depth))
closes-out s depth i e = closes_by (s.to i) depth (s.depth (target s i)) (is_back s i) e

closes_in_by : (to depth deep : ℕ) (back : Bool) → 0 < to → back ≡ true → deep ≡ depth →
    cond (to == 0) (depth == 0) (back && (deep == depth)) ≡ true
closes_in_by to depth deep back low e d = grind (arith, nat_tests)

pub closes-back : (s : Shape) (depth i : ℕ) → 0 < s.to i → is_back s i ≡ true →
    s.depth (target s i) ≡ depth → closes s depth i ≡ true
closes-back s depth i low e d = closes_in_by (s.to i) depth (s.depth (target s i)) (is_back s i) low e d

pub closes-0 : (s : Shape) (i : ℕ) → s.to i ≡ 0 → closes s 0 i ≡ true
closes-0 s i e = by (s.to i) (is_back s i && (s.depth (target s i) == 0)) e
  where
    by : (to : ℕ) (b : Bool) → to ≡ 0 → cond (to == 0) true b ≡ true
    by to b e = grind (arith, nat_tests)

-- An arc by which a way goes on.
pub record GoesOn (s : Shape) (depth : ℕ) (round : ℕ → ℕ) (i : ℕ) : Type 0 where
  pub from : 0 < s.from i
  pub to : 0 < s.to i
  pub forward : is_back s i ≡ false
  pub inside : (depth ≡ 0) ⊎ ((0 < round (s.from i)) × (round (s.from i) ≡ round (s.to i)))

goes_by : (from to depth r q : ℕ) (back : Bool) →
    (not (from == 0) && not (to == 0) && not back && (depth == 0 || (not (r == 0) && (r == q)))) ≡ true →
    (0 < from) × (0 < to) × (back ≡ false) × ((depth ≡ 0) ⊎ ((0 < r) × (r ≡ q)))
goes_by from to depth r q true e = grind (arith, nat_tests)
goes_by from to depth r q false e = elim (cases_eq depth 0)
    as (λ _. (0 < from) × (0 < to) × (false ≡ false) × ((depth ≡ 0) ⊎ ((0 < r) × (r ≡ q)))) [
      | inl z ↦ (grind (arith, nat_tests), grind (arith, nat_tests), refl, inl z)
      | inr some ↦ (
        grind (arith, nat_tests),
        grind (arith, nat_tests),
        refl,
        inr (grind (arith, nat_tests), grind (arith, nat_tests)),
      )
    ]

pub goes_on-out : (s : Shape) (depth : ℕ) (round : ℕ → ℕ) (i : ℕ) → goes_on s depth round i ≡ true →
    GoesOn s depth round i
goes_on-out s depth round i e =
    let parts = goes_by (s.from i) (s.to i) depth (round (s.from i)) (round (s.to i)) (is_back s i) e in
    record { from = parts.0; to = parts.1; forward = parts.2; inside = parts.3 }

goes_in_by : (from to depth r q : ℕ) (back : Bool) → 0 < from → 0 < to → back ≡ false →
    ((depth ≡ 0) ⊎ ((0 < r) × (r ≡ q))) →
    (not (from == 0) && not (to == 0) && not back && (depth == 0 || (not (r == 0) && (r == q)))) ≡ true
goes_in_by from to depth r q back f t b (inl z) = grind (arith, nat_tests)
goes_in_by from to depth r q back f t b (inr some) = grind (arith, nat_tests)

pub goes_on-in : (s : Shape) (depth : ℕ) (round : ℕ → ℕ) (i : ℕ) → 0 < s.from i → 0 < s.to i →
    is_back s i ≡ false → ((depth ≡ 0) ⊎ ((0 < round (s.from i)) × (round (s.from i) ≡ round (s.to i)))) →
    goes_on s depth round i ≡ true
goes_on-in s depth round i f t b inside =
    goes_in_by (s.from i) (s.to i) depth (round (s.from i)) (round (s.to i)) (is_back s i) f t b inside

-- The loop of the depth that holds both ends of an arc by which a way goes on.
pub record IsInside (s : Shape) (depth : ℕ) (i l : ℕ) : Type 0 where
  pub up : IsUpTo s.loops l
  pub deep : s.depth l ≡ depth
  pub from : s.holds l (s.from i) ≡ true
  pub to : s.holds l (s.to i) ≡ true

pub inside-of : (s : Shape) (depth : ℕ) (round : ℕ → ℕ) (i : ℕ) → IsRound s depth round →
    0 < round (s.from i) → round (s.from i) ≡ round (s.to i) → IsInside s depth i (round (s.from i))
inside-of s depth round i rounds some same =
    let here = rounds.here (s.from i) some in
    record {
      up = here.0;
      deep = here.1;
      from = here.2;
      to = subst (λ (l : ℕ). s.holds l (s.to i) ≡ true) (sym same)
          (rounds.here (s.to i) (omega (arith, some, same))).2;
    }

-- A way goes into deeper loops alone.
pub deeper : (s : Shape) → IsNest s → (depth : ℕ) (round : ℕ → ℕ) (i : ℕ) → IsRound s depth round →
    goes_on s depth round i ≡ true → is_entering s i ≡ true → depth < s.depth (target s i)
deeper s nest depth round i rounds on enters =
    let into = entering-of s nest i enters in
    elim (goes_on-out s depth round i on).inside as (λ _. depth < s.depth (target s i)) [
      | inl zero ↦ omega (arith, zero, nest.deep (target s i) into.up)
      | inr some ↦ by into (inside-of s depth round i rounds some.0 some.1)
    ]
  where
    by : IsEnteringOf s i (target s i) → IsInside s depth i (round (s.from i)) →
        depth < s.depth (target s i)
    by into inside =
        let around = nest.own (target s i) (round (s.from i)) into.up inside.up
        (subst (λ (p : ℕ). s.holds (round (s.from i)) p ≡ true) into.header inside.to) in
        elim around as (λ _. depth < s.depth (target s i)) [
          | inl same ↦ absurd (true≢false
              (sym (subst (λ (l : ℕ). s.holds l (s.from i) ≡ true) same inside.from) ∙ into.source))
          | inr less ↦ omega (arith, less, inside.deep)
        ]
