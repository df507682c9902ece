-- Along a way: how often its arcs come to a place and leave it, and which loops they enter.
use Rattle.std.proofs.Common.{◌≡◌, ◌⊎◌, ℕ, ◌+◌, ◌<◌, ◌≤◌, ◌==◌, ◌&&◌, not, Bool, true, false, List, [], ◌∷◌, sum_by, refl, sym, ap, ◌∙◌, subst, inl, inr, arith, true≢false}
use Rattle.std.proofs.lemmas.Bool.{cases_Bool}
use Rattle.std.proofs.lemmas.Bool.Decides.{nat_tests}
use Rattle.std.proofs.lemmas.List.Sums.{sum_by-cons}
use Rattle.nest_solver.specs.Shape.{Shape, IsNest, IsUpTo, target, is_back, is_entering}
use Rattle.nest_solver.specs.Ways.{IsRound, IsWay, closes, goes_on}
use Rattle.nest_solver.specs.Counted.{bit, times, enters, returns}
use Rattle.nest_solver.proofs.Times.{Each, bit_other}
use Rattle.nest_solver.proofs.Arcs.{goes_on-out, closes-out, back-of, deeper, not_back-0}
use Rattle.nest_solver.proofs.Solving.{closes_not_entering}

-- Where a way of a depth stays, and where it ends.
pub record Stays (s : Shape) (depth : ℕ) (round : ℕ → ℕ) (Q : ℕ → Type 0) (end : ℕ) : Type 0 where
  pub low : (p : ℕ) → Q p → 0 < p
  pub onward : (k : ℕ) → IsUpTo s.arcs k → Q (s.from k) → goes_on s depth round k ≡ true → Q (s.to k)
  pub closed : (k : ℕ) → IsUpTo s.arcs k → Q (s.from k) → closes s depth k ≡ true → s.to k ≡ end

pub way_in : (s : Shape) (depth : ℕ) (round : ℕ → ℕ) (p : ℕ) (ks : List ℕ) → IsWay s depth round p ks →
    Each (IsUpTo s.arcs) ks
way_in s depth round p [] w = absurd w
way_in s depth round p (k ∷ ks) w =
    elim w.2 as (λ _. Each (IsUpTo s.arcs) (k ∷ ks)) [
      | inl e ↦ (w.0, subst (Each (IsUpTo s.arcs)) (sym e.1) tt)
      | inr g ↦ (w.0, way_in s depth round (s.to k) ks g.1)
    ]

-- A sum over a way counts its last arc alone where f is 0 at the others.
pub way-sum : (s : Shape) (depth : ℕ) (round : ℕ → ℕ) (Q : ℕ → Type 0) (end : ℕ) → Stays s depth round Q end →
    (f : ℕ → ℕ) (most : ℕ) →
    ((k : ℕ) → IsUpTo s.arcs k → Q (s.from k) → goes_on s depth round k ≡ true → f k ≡ 0) →
    ((k : ℕ) → IsUpTo s.arcs k → Q (s.from k) → closes s depth k ≡ true → f k ≤ most) →
    (p : ℕ) (ks : List ℕ) → Q p → IsWay s depth round p ks → sum_by f ks ≤ most
way-sum s depth round Q end stays f most none last p [] q w = absurd w
way-sum s depth round Q end stays f most none last p (k ∷ ks) q w =
    let here : Q (s.from k) = subst Q (sym w.1) q in
    elim w.2 as (λ _. sum_by f (k ∷ ks) ≤ most) [
      | inl e ↦ subst (λ (more : List ℕ). sum_by f (k ∷ more) ≤ most) (sym e.1)
          (omega (arith, last k w.0 here e.0))
      | inr g ↦ omega (
        arith,
        sum_by-cons f k ks,
        none k w.0 here g.0,
        way-sum s depth round Q end stays f most none last (s.to k) ks (stays.onward k w.0 here g.0) g.1,
      )
    ]

-- Each place but the ends is left as often as it is come to.
pub way-flow : (s : Shape) (depth : ℕ) (round : ℕ → ℕ) (Q : ℕ → Type 0) (end : ℕ) → Stays s depth round Q end →
    (q p : ℕ) (ks : List ℕ) → Q p → IsWay s depth round p ks →
    sum_by (λ k. bit (s.to k == q)) ks + bit (p == q) ≡ sum_by (λ k. bit (s.from k == q)) ks + bit (end == q)
way-flow s depth round Q end stays q p [] inside w = absurd w
way-flow s depth round Q end stays q p (k ∷ ks) inside w =
    let here : Q (s.from k) = subst Q (sym w.1) inside in
    let starts : bit (s.from k == q) ≡ bit (p == q) = ap (λ n. bit (n == q)) w.1 in
    elim w.2
    as (λ _. sum_by (λ k. bit (s.to k == q)) (k ∷ ks) + bit (p == q)
    ≡ sum_by (λ k. bit (s.from k == q)) (k ∷ ks) + bit (end == q)) [
      | inl e ↦ subst
          (λ (more : List ℕ). sum_by (λ k. bit (s.to k == q)) (k ∷ more) + bit (p == q)
          ≡ sum_by (λ k. bit (s.from k == q)) (k ∷ more) + bit (end == q)) (sym e.1)
          (omega (arith, starts, ap (λ n. bit (n == q)) (stays.closed k w.0 here e.0)))
      | inr g ↦ omega (
        arith,
        starts,
        sum_by-cons (λ k. bit (s.to k == q)) k ks,
        sum_by-cons (λ k. bit (s.from k == q)) k ks,
        way-flow s depth round Q end stays q (s.to k) ks (stays.onward k w.0 here g.0) g.1,
      )
    ]

-- No arc of it comes from 0.
pub way-first : (s : Shape) → IsNest s → (depth : ℕ) (round : ℕ → ℕ) (Q : ℕ → Type 0) (end : ℕ) →
    Stays s depth round Q end → (p : ℕ) (ks : List ℕ) → Q p → IsWay s depth round p ks → times ks 1 ≡ 0
way-first s nest depth round Q end stays p [] q w = absurd w
way-first s nest depth round Q end stays p (k ∷ ks) q w =
    let here : Q (s.from k) = subst Q (sym w.1) q in
    let other : bit (k == 1) ≡ 0 = bit_other k 1
    (λ e. omega (arith, ap s.from e, nest.first, stays.low (s.from k) here)) in
    elim w.2 as (λ _. times (k ∷ ks) 1 ≡ 0) [
      | inl e ↦ subst (λ (more : List ℕ). times (k ∷ more) 1 ≡ 0) (sym e.1) (omega (arith, other))
      | inr g ↦ omega (
        arith,
        other,
        way-first s nest depth round Q end stays (s.to k) ks (stays.onward k w.0 here g.0) g.1,
      )
    ]

-- A way of depth 0 ends at 0.
pub stays-out : (s : Shape) → IsNest s → (round : ℕ → ℕ) → Stays s 0 round (λ p. 0 < p) 0
stays-out s nest round =
    record {
      low = λ p q. q;
      onward = λ k u q on. (goes_on-out s 0 round k on).to;
      closed = λ k u q c. elim (closes-out s 0 k c) as (λ _. s.to k ≡ 0) [
        | inl z ↦ z.0
        | inr back ↦ absurd (omega (arith, back.2, nest.deep (target s k) (back-of s nest k back.1).up))
      ];
    }

-- Where a turn of a loop stays, and that it ends at the header.
abbrev pub In : (round : ℕ → ℕ) (l p : ℕ) → Type 0
In round l p = (0 < p) × (round p ≡ l)

pub closes-turn : (s : Shape) → IsNest s → (l : ℕ) (round : ℕ → ℕ) → IsUpTo s.loops l → IsRound s (s.depth l) round →
    (k : ℕ) → In round l (s.from k) → closes s (s.depth l) k ≡ true → (is_back s k ≡ true) × (target s k ≡ l)
closes-turn s nest l round u rounds k q c =
    elim (closes-out s (s.depth l) k c) as (λ _. (is_back s k ≡ true) × (target s k ≡ l)) [
      | inl z ↦ absurd (omega (arith, z, nest.deep l u))
      | inr back ↦ let is = back-of s nest k back.1 in
          (back.1, sym (rounds.all (target s k) (s.from k) is.up back.2 is.source) ∙ q.1)
    ]

pub stays-turn : (s : Shape) → IsNest s → (l : ℕ) (round : ℕ → ℕ) → IsUpTo s.loops l →
    IsRound s (s.depth l) round → Stays s (s.depth l) round (In round l) (s.header l)
stays-turn s nest l round u rounds =
    record {
      low = λ p q. q.0;
      onward = λ k v q on. let goes = goes_on-out s (s.depth l) round k on in
          elim goes.inside as (λ _. In round l (s.to k)) [
            | inl z ↦ absurd (omega (arith, z, nest.deep l u))
            | inr same ↦ (goes.to, sym same.1 ∙ q.1)
          ];
      closed = λ k v q c. let turn = closes-turn s nest l round u rounds k q c in
          (back-of s nest k turn.0).header ∙ ap s.header turn.1;
    }

-- The header is where its loop's turns begin.
pub in-header : (s : Shape) → IsNest s → (l : ℕ) (round : ℕ → ℕ) → IsUpTo s.loops l →
    IsRound s (s.depth l) round → In round l (s.header l)
in-header s nest l round u rounds =
    (omega (arith, nest.headers l u), rounds.all l (s.header l) u refl (nest.held l u))

and_bit : (a : Bool) (t l : ℕ) → a ≡ false → bit (a && (t == l)) ≡ 0
and_bit true t l e = absurd (true≢false e)
and_bit false t l e = refl

and_other : (a : Bool) (t l : ℕ) → (t ≡ l → ⊥) → bit (a && (t == l)) ≡ 0
and_other true t l n = grind (arith, nat_tests)
and_other false t l n = refl

and_small : (a : Bool) (t l : ℕ) → bit (a && (t == l)) ≤ bit (t == l)
and_small true t l = omega arith
and_small false t l = omega arith

pub returns-none : (s : Shape) (l k : ℕ) → is_back s k ≡ false → bit (returns s l k) ≡ 0
returns-none s l k e = and_bit (is_back s k) (target s k) l e

pub enters-none : (s : Shape) (l k : ℕ) → is_entering s k ≡ false → bit (enters s l k) ≡ 0
enters-none s l k e = and_bit (is_entering s k) (target s k) l e

pub enters-other : (s : Shape) (l k : ℕ) → (target s k ≡ l → ⊥) → bit (enters s l k) ≡ 0
enters-other s l k n = and_other (is_entering s k) (target s k) l n

-- A way out takes no back arc; a turn of a loop takes one of that loop alone.
pub path-returns : (s : Shape) → IsNest s → (round : ℕ → ℕ) (l p : ℕ) (ks : List ℕ) → 0 < p →
    IsWay s 0 round p ks → sum_by (λ k. bit (returns s l k)) ks ≡ 0
path-returns s nest round l p ks low w =
    let none : sum_by (λ k. bit (returns s l k)) ks ≤ 0 =
    way-sum s 0 round (λ p. 0 < p) 0 (stays-out s nest round) (λ k. bit (returns s l k)) 0
    (λ k u q on. returns-none s l k (goes_on-out s 0 round k on).forward)
    (λ k u q c. omega (arith, returns-none s l k (not_back-0 s nest k ((stays-out s nest round).closed k u q c))))
    p ks low w in omega (arith, none)

pub turn-returns : (s : Shape) → IsNest s → (l other : ℕ) (round : ℕ → ℕ) (ks : List ℕ) → IsUpTo s.loops l →
    IsRound s (s.depth l) round → IsWay s (s.depth l) round (s.header l) ks →
    sum_by (λ k. bit (returns s other k)) ks ≤ bit (l == other)
turn-returns s nest l other round ks u rounds w =
    way-sum s (s.depth l) round (In round l) (s.header l) (stays-turn s nest l round u rounds)
    (λ k. bit (returns s other k)) (bit (l == other))
    (λ k v q on. returns-none s other k (goes_on-out s (s.depth l) round k on).forward)
    (λ k v q c. omega (
      arith,
      and_small (is_back s k) (target s k) other,
      ap (λ n. bit (n == other)) (closes-turn s nest l round u rounds k q c).1,
    ))
    (s.header l) ks (in-header s nest l round u rounds) w

-- A way enters deeper loops alone.
pub way-enters : (s : Shape) → IsNest s → (depth : ℕ) (round : ℕ → ℕ) (Q : ℕ → Type 0) (end : ℕ) →
    IsRound s depth round → Stays s depth round Q end → (l : ℕ) → s.depth l ≤ depth →
    (p : ℕ) (ks : List ℕ) → Q p → IsWay s depth round p ks → sum_by (λ k. bit (enters s l k)) ks ≡ 0
way-enters s nest depth round Q end rounds stays l low p ks q w =
    let none : sum_by (λ k. bit (enters s l k)) ks ≤ 0 =
    way-sum s depth round Q end stays (λ k. bit (enters s l k)) 0
    (λ k u at on. elim (cases_Bool (is_entering s k)) as (λ _. bit (enters s l k) ≡ 0) [
      | inl into ↦ enters-other s l k
          (λ e. omega (arith, ap s.depth e, low, deeper s nest depth round k rounds on into))
      | inr not ↦ enters-none s l k not
    ])
    (λ k u at c. omega (arith, enters-none s l k (closes_not_entering s nest depth k c)))
    p ks q w in omega (arith, none)
