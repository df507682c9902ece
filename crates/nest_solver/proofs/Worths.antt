-- Worths of places: those of the run, and those raised by the loops of one depth after the other.
use Rattle.std.proofs.Common.{◌≡◌, ◌⊎◌, ℕ, ◌+◌, ◌-◌, ◌*◌, ◌<◌, ◌≤◌, ◌==◌, ◌&&◌, nat_lt, cond, max, Bool, false, refl, sym, ap, ◌∙◌, subst, inl, inr, arith, true≢false, mul-le-mul_left}
use Rattle.std.proofs.lemmas.Bool.{cases_lt}
use Rattle.std.proofs.lemmas.Bool.Decides.{nat_tests}
use Rattle.nest_solver.specs.Shape.{Shape, IsNest, IsUpTo, IsRising, target, is_back}
use Rattle.nest_solver.specs.Ways.{IsRound, IsSwept, reach}
use Rattle.nest_solver.specs.Solved.{IsDual, base_shift, base_worth, lifted}
use Rattle.nest_solver.proofs.Arcs.{back-of, closes-0, goes_on-in}
use Rattle.nest_solver.proofs.Solving.{reach-closes, reach-goes}

-- The kinds of worth of a base.
base_live : (p shift live dead best : ℕ) → 0 < p → 0 < best →
    cond (p == 0) shift (cond (nat_lt 0 best) live dead) ≡ live
base_live p shift live dead best low some = grind (arith, nat_tests)

base_dead : (p shift live dead best : ℕ) → 0 < p → best ≡ 0 →
    cond (p == 0) shift (cond (nat_lt 0 best) live dead) ≡ dead
base_dead p shift live dead best low none = grind (arith, nat_tests)

pub base-zero : (s : Shape) (step : ℕ) (rank best : ℕ → ℕ) → base_worth s step rank best 0 ≡ base_shift s step + 1
base-zero s step rank best = refl

pub base-live : (s : Shape) (step : ℕ) (rank best : ℕ → ℕ) (p : ℕ) → 0 < p → 0 < best p →
    base_worth s step rank best p ≡ base_shift s step + best p
base-live s step rank best p low some =
    base_live p (base_shift s step + 1) (base_shift s step + best p) (step * (s.arcs - rank p)) (best p) low some

pub base-dead : (s : Shape) (step : ℕ) (rank best : ℕ → ℕ) (p : ℕ) → 0 < p → best p ≡ 0 →
    base_worth s step rank best p ≡ step * (s.arcs - rank p)
base-dead s step rank best p low none =
    base_dead p (base_shift s step + 1) (base_shift s step + best p) (step * (s.arcs - rank p)) (best p) low none

-- Behind an arc to a place with a way out, or to 0, the worth falls by the arc's weight.
live_step : (s : Shape) → IsNest s → (step : ℕ) (rank round weight best choice turns : ℕ → ℕ) →
    IsSwept s 0 round weight best choice → (i : ℕ) → IsUpTo s.arcs i → 0 < s.from i → is_back s i ≡ false →
    0 < reach s 0 round best i → base_worth s step rank best (s.to i) ≡ base_shift s step + reach s 0 round best i →
    weight i + base_worth s step rank best (s.to i) ≤ base_worth s step rank best (s.from i)
live_step s nest step rank round weight best choice turns swept i u low forward some is =
    let more = swept.closed i u some in
    omega (arith, is, more, base-live s step rank best (s.from i) low (omega (arith, more, some)))

-- Behind an arc to a place with no way out.
dead_product : (step places a b w : ℕ) → a < b → b ≤ places → w ≤ step → w + step * (places - b) ≤ step * (places - a)
dead_product step places a b w less high small =
    omega (
      arith,
      small,
      mul-le-mul_left step (let e : (places - b) + 1 ≤ places - a = omega arith in e),
    )

dead_step : (s : Shape) (step : ℕ) (rank weight best : ℕ → ℕ) → IsRising s rank →
    ((p : ℕ) → rank p ≤ s.arcs) → ((i : ℕ) → IsUpTo s.arcs i → weight i ≤ step) →
    (i : ℕ) → IsUpTo s.arcs i → 0 < s.from i → 0 < s.to i → is_back s i ≡ false → best (s.to i) ≡ 0 →
    weight i + base_worth s step rank best (s.to i) ≤ base_worth s step rank best (s.from i)
dead_step s step rank weight best rises high small i u low to_low forward none =
    let end = base-dead s step rank best (s.to i) to_low none in
    let less = rises i u low to_low forward in
    elim (cases_lt 0 (best (s.from i)))
    as (λ _. weight i + base_worth s step rank best (s.to i) ≤ base_worth s step rank best (s.from i)) [
      | inl some ↦ omega (
        arith,
        end,
        base-live s step rank best (s.from i) low some,
        small i u,
        mul-le-mul_left step (let e : (s.arcs - rank (s.to i)) + 1 ≤ s.arcs + 1 = omega arith in e),
      )
      | inr dead ↦ omega (
        arith,
        end,
        base-dead s step rank best (s.from i) low (omega (arith, dead)),
        dead_product step s.arcs (rank (s.from i)) (rank (s.to i)) (weight i) less (high (s.to i)) (small i u),
      )
    ]

pub base-dual : (s : Shape) (step : ℕ) (rank round weight best choice turns : ℕ → ℕ) → IsNest s →
    IsRising s rank → ((p : ℕ) → rank p ≤ s.arcs) → ((i : ℕ) → IsUpTo s.arcs i → weight i ≤ step) →
    IsSwept s 0 round weight best choice → IsDual s weight turns 0 (base_worth s step rank best)
base-dual s step rank round weight best choice turns nest rises high small swept =
    record {
      forward = λ i u low forward. elim (cases_lt 0 (s.to i))
          as (λ _. weight i + base_worth s step rank best (s.to i) ≤ base_worth s step rank best (s.from i)) [
            | inr z ↦ let end : s.to i ≡ 0 = omega (arith, z) in
                let is = reach-closes s 0 round best i (closes-0 s i end) in
                live_step s nest step rank round weight best choice turns swept i u low forward (omega (arith, is))
                (ap (base_worth s step rank best) end ∙ omega (arith, is))
            | inl to_low ↦ elim (cases_lt 0 (best (s.to i)))
                as (λ _. weight i + base_worth s step rank best (s.to i) ≤ base_worth s step rank best (s.from i)) [
                  | inl some ↦
                      let is = reach-goes s 0 round best i (goes_on-in s 0 round i low to_low forward (inl refl)) in
                      live_step s nest step rank round weight best choice turns swept i u low forward (omega (arith, is, some))
                      (omega (arith, is, base-live s step rank best (s.to i) to_low some))
                  | inr dead ↦ dead_step s step rank weight best rises high small i u low to_low forward (omega (arith, dead))
                ]
          ];
      back = λ i u e d. absurd (omega (arith, d, nest.deep (target s i) (back-of s nest i e).up));
    }

-- Five facts of a raised worth.
lifted_more : (a b v x : ℕ) → v ≤ cond (nat_lt 0 a && nat_lt 0 b) (max v x) v
lifted_more a b v x = grind (arith, nat_tests)

lifted_in : (a b v x : ℕ) → 0 < a → 0 < b → cond (nat_lt 0 a && nat_lt 0 b) (max v x) v ≡ max v x
lifted_in a b v x h k = grind (arith, nat_tests)

lifted_cases : (a b v x : ℕ) → (cond (nat_lt 0 a && nat_lt 0 b) (max v x) v ≡ v)
    ⊎ ((0 < a) × (0 < b) × (cond (nat_lt 0 a && nat_lt 0 b) (max v x) v ≡ x))
lifted_cases a b v x = elim (cases_lt 0 a) as (λ _. (cond (nat_lt 0 a && nat_lt 0 b) (max v x) v ≡ v)
    ⊎ ((0 < a) × (0 < b) × (cond (nat_lt 0 a && nat_lt 0 b) (max v x) v ≡ x))) [
      | inr none ↦ inl (grind (arith, nat_tests))
      | inl some ↦ elim (cases_lt 0 b) as (λ _. (cond (nat_lt 0 a && nat_lt 0 b) (max v x) v ≡ v)
          ⊎ ((0 < a) × (0 < b) × (cond (nat_lt 0 a && nat_lt 0 b) (max v x) v ≡ x))) [
            | inr none ↦ inl (grind (arith, nat_tests))
            | inl also ↦ elim (cases_lt v x) as (λ _. (cond (nat_lt 0 a && nat_lt 0 b) (max v x) v ≡ v)
                ⊎ ((0 < a) × (0 < b) × (cond (nat_lt 0 a && nat_lt 0 b) (max v x) v ≡ x))) [
                  | inl less ↦ inr (some, also, grind (arith, nat_tests))
                  | inr more ↦ inl (grind (arith, nat_tests))
                ]
          ]
    ]

-- What a place is raised to.
abbrev pub raise : (s : Shape) (round best turns worth : ℕ → ℕ) → ℕ → ℕ
raise s round best turns worth p = (best p + worth (s.header (round p))) - (turns (round p) + 1)

pub lifted-more : (s : Shape) (round best turns worth : ℕ → ℕ) (p : ℕ) → worth p ≤ lifted s round best turns worth p
lifted-more s round best turns worth p =
    lifted_more (round p) (best p) (worth p) (raise s round best turns worth p)

pub lifted-in : (s : Shape) (round best turns worth : ℕ → ℕ) (p : ℕ) → 0 < round p → 0 < best p →
    lifted s round best turns worth p ≡ max (worth p) (raise s round best turns worth p)
lifted-in s round best turns worth p h k =
    lifted_in (round p) (best p) (worth p) (raise s round best turns worth p) h k

pub lifted-cases : (s : Shape) (round best turns worth : ℕ → ℕ) (p : ℕ) →
    (lifted s round best turns worth p ≡ worth p)
    ⊎ ((0 < round p) × (0 < best p)
    × (lifted s round best turns worth p ≡ raise s round best turns worth p))
lifted-cases s round best turns worth p =
    lifted_cases (round p) (best p) (worth p) (raise s round best turns worth p)

-- The header of a loop keeps its worth.
pub lift-header : (s : Shape) (depth : ℕ) (round best turns worth : ℕ → ℕ) → IsNest s → IsRound s depth round →
    ((l : ℕ) → IsUpTo s.loops l → s.depth l ≡ depth → turns l ≡ best (s.header l) - 1) →
    (l : ℕ) → IsUpTo s.loops l → s.depth l ≡ depth →
    lifted s round best turns worth (s.header l) ≡ worth (s.header l)
lift-header s depth round best turns worth nest rounds turned l u deep =
    elim (lifted-cases s round best turns worth (s.header l))
    as (λ _. lifted s round best turns worth (s.header l) ≡ worth (s.header l)) [
      | inl same ↦ same
      | inr up ↦
          let is : round (s.header l) ≡ l = rounds.all l (s.header l) u deep (nest.held l u) in
          omega (
            arith,
            up,
            ap turns is,
            ap (λ k. worth (s.header k)) is,
            turned l u deep,
          )
    ]

-- So does place 0, and so does the place to which arc 1 goes.
pub lift-zero : (s : Shape) (depth : ℕ) (round best turns worth : ℕ → ℕ) → IsNest s → IsRound s depth round →
    lifted s round best turns worth 0 ≡ worth 0
lift-zero s depth round best turns worth nest rounds =
    elim (lifted-cases s round best turns worth 0) as (λ _. lifted s round best turns worth 0 ≡ worth 0) [
      | inl same ↦ same
      | inr up ↦ absurd (true≢false (sym (rounds.here 0 up.0).2 ∙ nest.outside (round 0)))
    ]

pub lift-entry : (s : Shape) (depth : ℕ) (round best turns worth : ℕ → ℕ) → IsNest s → IsRound s depth round →
    ((l : ℕ) → IsUpTo s.loops l → s.depth l ≡ depth → turns l ≡ best (s.header l) - 1) →
    lifted s round best turns worth (s.to 1) ≡ worth (s.to 1)
lift-entry s depth round best turns worth nest rounds turned =
    elim (lifted-cases s round best turns worth (s.to 1))
    as (λ _. lifted s round best turns worth (s.to 1) ≡ worth (s.to 1)) [
      | inl same ↦ same
      | inr up ↦
          let here = rounds.here (s.to 1) up.0 in
          let header : s.to 1 ≡ s.header (round (s.to 1)) =
          nest.entering 1 (round (s.to 1)) (omega (arith, nest.some)) here.0
          (subst (λ (p : ℕ). s.holds (round (s.to 1)) p ≡ false) (sym nest.first) (nest.outside (round (s.to 1))))
          here.2 in
          subst (λ (p : ℕ). lifted s round best turns worth p ≡ worth p) (sym header)
          (lift-header s depth round best turns worth nest rounds turned (round (s.to 1)) here.0 here.1)
    ]

pub lift-small : (s : Shape) (round best turns worth : ℕ → ℕ) (most limit : ℕ) →
    ((p : ℕ) → worth p ≤ most) → ((p : ℕ) → best p ≤ limit + 1) → (p : ℕ) →
    lifted s round best turns worth p ≤ most + limit
lift-small s round best turns worth most limit small short p =
    elim (lifted-cases s round best turns worth p)
    as (λ _. lifted s round best turns worth p ≤ most + limit) [
      | inl same ↦ omega (arith, same, small p)
      | inr up ↦ omega (arith, up, short p, small (s.header (round p)))
    ]
