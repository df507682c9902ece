-- One depth more is solved.
use Rattle.std.proofs.Common.{◌≡◌, ℕ, suc, ◌+◌, ◌-◌, ◌*◌, ◌<◌, ◌≤◌, ◌==◌, ◌&&◌, not, cond, Bool, true, false, refl, sym, ap, ◌∙◌, subst, inl, inr, arith, true≢false, mul-le-mul_left}
use Rattle.std.proofs.lemmas.Bool.{cases_eq, cases_Bool, cases_lt}
use Rattle.std.proofs.lemmas.Bool.Decides.{nat_tests}
use Rattle.ipet_program.specs.Programs.{crude_limit}
use Rattle.ipet_program.specs.Sums.{sum_to}
use Rattle.nest_solver.specs.Crude.{IsCrude, grown}
use Rattle.nest_solver.specs.Levels.{AreLevels, IsRoomy, extra}
use Rattle.nest_solver.specs.Nets.{value_at_end}
use Rattle.nest_solver.specs.Shape.{Shape, IsNest, IsUpTo, is_back, is_entering, target}
use Rattle.nest_solver.specs.Solved.{AreSolved, AreTurns, paid, weight_of}
use Rattle.nest_solver.specs.Ways.{HasRoom, IsRound, IsSwept}
use Rattle.nest_solver.proofs.Arcs.{entering-of}
use Rattle.nest_solver.proofs.Products.{grown-most, grown-none}
use Rattle.nest_solver.proofs.Room.{room-level, room-weight}
use Rattle.nest_solver.proofs.Sums.{sum-part}
use Rattle.nest_solver.proofs.Solving.{paid-none, paid-some, solved-level, solved-none, swept-agree}

extra_by : (t deep depth x : ℕ) (h : Bool) → (t ≡ 0 → ⊥) → (not (t == 0) && h) ≡ false → deep ≡ depth →
    cond ((not (t == 0) && not h) && (deep == depth)) x 0 ≡ x
extra_by t deep depth x true some e same = absurd (true≢false (sym (grind (arith, nat_tests)) ∙ e))
extra_by t deep depth x false some e same = grind (arith, nat_tests)

-- An arc that goes to the header of a loop of the depth, and isn't a back arc, enters the loop.
pub extra-in : (s : Shape) (depth : ℕ) (turns : ℕ → ℕ) (i : ℕ) → (target s i ≡ 0 → ⊥) → is_back s i ≡ false →
    s.depth (target s i) ≡ depth → extra s depth turns i ≡ (s.bound (target s i) - 1) * turns (target s i)
extra-in s depth turns i some forward deep =
    extra_by (target s i) (s.depth (target s i)) depth ((s.bound (target s i) - 1) * turns (target s i))
    (s.holds (target s i) (s.from i)) some forward deep

turned_by : (deep depth r b : ℕ) → (deep ≡ depth → ⊥) → cond (deep == depth) r b ≡ b
turned_by deep depth r b differ = grind (arith, nat_tests)

extra_none : (s : Shape) (depth : ℕ) (turns : ℕ → ℕ) (i : ℕ) → is_entering s i ≡ false → extra s depth turns i ≡ 0
extra_none s depth turns i e =
    by (is_entering s i) (s.depth (target s i) == depth) ((s.bound (target s i) - 1) * turns (target s i)) e
  where
    by : (b c : Bool) (x : ℕ) → b ≡ false → cond (b && c) x 0 ≡ 0
    by true c x e = absurd (true≢false e)
    by false c x e = refl

extra_other : (s : Shape) (depth : ℕ) (turns : ℕ → ℕ) (i : ℕ) → (s.depth (target s i) ≡ depth → ⊥) →
    extra s depth turns i ≡ 0
extra_other s depth turns i differ =
    by (is_entering s i) (s.depth (target s i)) depth ((s.bound (target s i) - 1) * turns (target s i)) differ
  where
    by : (b : Bool) (c d x : ℕ) → (c ≡ d → ⊥) → cond (b && (c == d)) x 0 ≡ 0
    by true c d x e = grind (arith, nat_tests)
    by false c d x e = refl

extra_here : (s : Shape) (depth : ℕ) (turns : ℕ → ℕ) (i : ℕ) → is_entering s i ≡ true →
    s.depth (target s i) ≡ depth → extra s depth turns i ≡ (s.bound (target s i) - 1) * turns (target s i)
extra_here s depth turns i e same =
    by (is_entering s i) (s.depth (target s i)) depth ((s.bound (target s i) - 1) * turns (target s i)) e same
  where
    by : (b : Bool) (c d x : ℕ) → b ≡ true → c ≡ d → cond (b && (c == d)) x 0 ≡ x
    by true c d x e same = grind (arith, nat_tests)
    by false c d x e same = absurd (true≢false (sym e))

-- The weights with the turns of one depth more.
pub weights-more : (s : Shape) (value before after best : ℕ → ℕ) (depth i : ℕ) → IsNest s →
    AreTurns s depth best before after → ((l : ℕ) → IsUpTo s.loops l → s.depth l < suc depth → before l ≡ 0) →
    weight_of s value before i + extra s depth after i ≡ weight_of s value after i
weights-more s value before after best depth i nest turns none =
    elim (cases_Bool (is_entering s i))
    as (λ _. weight_of s value before i + extra s depth after i ≡ weight_of s value after i) [
      | inr out ↦ omega (
        arith,
        paid-none s before i out,
        paid-none s after i out,
        extra_none s depth after i out,
      )
      | inl into ↦ by into (entering-of s nest i into).up
    ]
  where
    by : is_entering s i ≡ true → IsUpTo s.loops (target s i) →
        weight_of s value before i + extra s depth after i ≡ weight_of s value after i
    by into up = elim (cases_eq (s.depth (target s i)) depth)
        as (λ _. weight_of s value before i + extra s depth after i ≡ weight_of s value after i) [
          | inl same ↦ omega (
            arith,
            paid-some s before i into ∙ ap (λ (r : ℕ). (s.bound (target s i) - 1) * r) (none (target s i) up (omega (arith, same))),
            paid-some s after i into,
            extra_here s depth after i into same,
          )
          | inr differ ↦ omega (
            arith,
            paid-some s before i into,
            paid-some s after i into,
            ap (λ (r : ℕ). (s.bound (target s i) - 1) * r) (turns (target s i) up
                ∙ turned_by (s.depth (target s i)) depth (best (s.header (target s i)) - 1) (before (target s i)) differ),
            extra_other s depth after i differ,
          )
        ]

-- The ways of the next depth have room.
pub levels-roomy : (s : Shape) (price weight turns : ℕ → ℕ) (depth : ℕ) → IsNest s →
    AreLevels s price weight turns (suc depth) → IsRoomy s weight depth
levels-roomy s price weight turns depth nest levels = record {
  room = λ round rounds. same round (room-level s price turns round depth crude_limit nest levels.crude levels.solved rounds);
}
  where
    same : (round : ℕ → ℕ) → HasRoom s depth round (weight_of s (value_at_end s price) turns) crude_limit →
        HasRoom s depth round weight crude_limit
    same round room = record {
      most = room.most;
      small = room.small;
      ends = λ i u c. omega (arith, levels.weights i u, room.ends i u c);
      goes = λ i u on. omega (arith, levels.weights i u, room.goes i u on);
    }

-- The sweep of a depth by the weights of the table is one by the weights of the levels.
pub levels-swept : (s : Shape) (price weight turns round best choice : ℕ → ℕ) (depth deep : ℕ) →
    AreLevels s price weight turns deep → IsSwept s depth round weight best choice →
    IsSwept s depth round (weight_of s (value_at_end s price) turns) best choice
levels-swept s price weight turns round best choice depth deep levels swept =
    swept-agree s depth round weight (weight_of s (value_at_end s price) turns) best choice
    (λ i u c. levels.weights i u) (λ i u on. levels.weights i u) swept

-- No price is above the limit.
pub price-small : (s : Shape) (price : ℕ → ℕ) (p : ℕ) → IsNest s → IsCrude s price crude_limit → p ≤ s.places →
    price p ≤ crude_limit
price-small s price p nest crude high = elim (cases_eq p 0) as (λ _. price p ≤ crude_limit) [
  | inl e ↦ omega (arith, ap price e, crude.outside)
  | inr some ↦
      let deepest = sum_to s.loops s.depth in
      let one : 1 ≤ grown s 0 p = omega (
        arith,
        grown-most s deepest p nest,
        grown-none s deepest p (λ l u. sum-part s.loops l s.depth u),
      ) in
      omega (
        arith,
        mul-le-mul_left (price p) one,
        sum-part s.places p (λ q. price q * grown s 0 q) (omega (arith, some, high)),
        crude.low,
      )
]

-- No weight grows beyond the limit.
pub levels-fit : (s : Shape) (price weight before after round best choice : ℕ → ℕ) (depth i : ℕ) → IsNest s → 0 < depth →
    AreLevels s price weight before (suc depth) → IsRound s depth round → IsSwept s depth round weight best choice →
    AreTurns s depth best before after → IsUpTo s.arcs i → weight i + extra s depth after i ≤ crude_limit
levels-fit s price weight before after round best choice depth i nest some levels rounds swept turns u =
    let value = value_at_end s price in
    let solved = solved-level s value depth round best choice before after nest levels.solved rounds
    (levels-swept s price weight before round best choice depth (suc depth) levels swept) turns in
    let back : suc (depth - 1) ≡ depth = omega (arith, some) in
    elim (cases_Bool (is_entering s i)) as (λ _. weight i + extra s depth after i ≤ crude_limit) [
      | inr out ↦ omega (
        arith,
        levels.weights i u,
        weights-more s value before after best depth i nest turns levels.none,
        room-weight s price after (depth - 1) crude_limit i nest levels.crude
            (subst (AreSolved s value after) (sym back) solved) u (λ into. absurd (true≢false (sym into ∙ out))),
      )
      | inl into ↦ elim (cases_lt (s.depth (target s i)) depth) as (λ _. weight i + extra s depth after i ≤ crude_limit) [
        | inr deep ↦ omega (
          arith,
          levels.weights i u,
          weights-more s value before after best depth i nest turns levels.none,
          room-weight s price after (depth - 1) crude_limit i nest levels.crude
              (subst (AreSolved s value after) (sym back) solved) u (λ e. omega (arith, deep, some)),
        )
        | inl high ↦ omega (
          arith,
          levels.weights i u,
          extra_other s depth after i (λ same. omega (arith, same, high)),
          paid-some s before i into ∙ ap (λ (r : ℕ). (s.bound (target s i) - 1) * r)
              (levels.none (target s i) (entering-of s nest i into).up (omega (arith, high))),
          price-small s price (s.to i) nest levels.crude (nest.ends i u),
        )
      ]
    ]

pub levels-more : (s : Shape) (price weight weight2 before after round best choice : ℕ → ℕ) (depth : ℕ) → IsNest s →
    AreLevels s price weight before (suc depth) → IsRound s depth round → IsSwept s depth round weight best choice →
    AreTurns s depth best before after →
    ((i : ℕ) → IsUpTo s.arcs i → weight2 i ≡ weight i + extra s depth after i) → AreLevels s price weight2 after depth
levels-more s price weight weight2 before after round best choice depth nest levels rounds swept turns more = record {
  crude = levels.crude;
  solved = solved-level s (value_at_end s price) depth round best choice before after nest levels.solved rounds
      (levels-swept s price weight before round best choice depth (suc depth) levels swept) turns;
  weights = λ i u. more i u ∙ ap (λ (w : ℕ). w + extra s depth after i) (levels.weights i u)
      ∙ weights-more s (value_at_end s price) before after best depth i nest turns levels.none;
  none = λ l u high. turns l u ∙ turned_by (s.depth l) depth (best (s.header l) - 1) (before l)
      (λ same. omega (arith, same, high)) ∙ levels.none l u (omega (arith, high));
}

pub levels-none : (s : Shape) (price weight turns : ℕ → ℕ) (depth : ℕ) → IsNest s → 0 < depth →
    IsCrude s price crude_limit → ((l : ℕ) → IsUpTo s.loops l → s.depth l < depth) →
    ((l : ℕ) → turns l ≡ 0) → ((i : ℕ) → IsUpTo s.arcs i → weight i ≡ value_at_end s price i) →
    AreLevels s price weight turns depth
levels-none s price weight turns depth nest some crude small fresh values = record {
  crude = crude;
  solved = solved-none s (value_at_end s price) turns depth nest some small;
  weights = λ i u. omega (arith, values i u, unpaid i);
  none = λ l u high. fresh l;
}
  where
    unpaid : (i : ℕ) → paid s turns i ≡ 0
    unpaid i = elim (cases_Bool (is_entering s i)) as (λ _. paid s turns i ≡ 0) [
      | inr out ↦ paid-none s turns i out
      | inl into ↦ omega (
        arith,
        paid-some s turns i into ∙ ap (λ (r : ℕ). (s.bound (target s i) - 1) * r) (fresh (target s i)),
      )
    ]

-- Once all levels are solved the ways of each depth have room.
pub levels-roomy_all : (s : Shape) (price weight turns : ℕ → ℕ) (depth : ℕ) → IsNest s →
    AreLevels s price weight turns 1 → IsRoomy s weight depth
levels-roomy_all s price weight turns depth nest levels = record {
  room = λ round rounds. same round (room-level s price turns round depth crude_limit nest levels.crude
      (λ deep high. levels.solved deep (omega (arith, high))) rounds);
}
  where
    same : (round : ℕ → ℕ) → HasRoom s depth round (weight_of s (value_at_end s price) turns) crude_limit →
        HasRoom s depth round weight crude_limit
    same round room = record {
      most = room.most;
      small = room.small;
      ends = λ i u c. omega (arith, levels.weights i u, room.ends i u c);
      goes = λ i u on. omega (arith, levels.weights i u, room.goes i u on);
    }

-- Once all levels are solved no arc weighs more than the limit.
pub levels-light : (s : Shape) (price weight turns : ℕ → ℕ) (i : ℕ) → IsNest s → AreLevels s price weight turns 1 →
    IsUpTo s.arcs i → weight i ≤ crude_limit
levels-light s price weight turns i nest levels u =
    omega (
      arith,
      levels.weights i u,
      room-weight s price turns 0 crude_limit i nest levels.crude levels.solved u
          (λ into. omega (arith, nest.deep (target s i) (entering-of s nest i into).up)),
    )
