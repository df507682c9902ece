-- Counts of a way out and of turns: they keep each place and each loop, and their value is known.
use Rattle.std.proofs.Common.{◌≡◌, ◌⊎◌, ℕ, ◌+◌, ◌-◌, ◌*◌, ◌<◌, ◌≤◌, ◌==◌, ◌&&◌, not, Bool, true, false, List, [], ◌∷◌, sum_by, refl, sym, ap, ap₂, ◌∙◌, subst, inl, inr, arith, mul-le-mul_left, mul_comm}
use Rattle.std.proofs.lemmas.Bool.{cases_eq, cases_Bool, cases_lt}
use Rattle.std.proofs.lemmas.Bool.Decides.{nat_tests}
use Rattle.std.proofs.lemmas.List.Sums.{sum_by-cons}
use Rattle.ipet_program.specs.Sums.{sum_to}
use Rattle.nest_solver.specs.Shape.{Shape, IsNest, IsUpTo, target, is_back, is_entering}
use Rattle.nest_solver.specs.Solved.{paid, weight_of}
use Rattle.nest_solver.specs.Counted.{bit, times, enters, returns, entered, IsCounted, IsPath, IsTurn, AreWays}
use Rattle.nest_solver.proofs.Sums.{sum-same, sum-le, sum-add, sum-scale, sum-none, sum-only, sum-swap}
use Rattle.nest_solver.proofs.Arcs.{target-is, back-from, entering-from, entering-of, not_back_from-0}
use Rattle.nest_solver.proofs.Solving.{paid-some, paid-none}
use Rattle.nest_solver.proofs.Times.{Each, bit_same, bit_other, dot-counted}
use Rattle.nest_solver.proofs.Along.{way_in, way-flow, way-first, path-returns, turn-returns, stays-out, stays-turn, in-header, returns-none, enters-none, enters-other}

-- Counts that the rows of a net's program allow: arc 1 comes once, each place is left as often as it is
-- come to, and each header is come to at most bound times as often as its loop is entered.
abbrev pub comes : Shape → (place : ℕ) → ℕ → ℕ
comes s place i = bit (s.to i == place)

abbrev pub goes : Shape → (place : ℕ) → ℕ → ℕ
goes s place i = bit (s.from i == place)

abbrev pub goes_in : Shape → (loop : ℕ) → ℕ → ℕ
goes_in s l i = bit ((s.to i == s.header l) && not (s.holds l (s.from i)))

pub record Keeps (s : Shape) (counts : ℕ → ℕ) : Type 0 where
  pub first : counts 1 ≡ 1
  pub kept : (p : ℕ) → IsUpTo s.places p →
      sum_to s.arcs (λ i. comes s p i * counts i) ≡ sum_to s.arcs (λ i. goes s p i * counts i)
  pub bounded : (l : ℕ) → IsUpTo s.loops l →
      sum_to s.arcs (λ i. comes s (s.header l) i * counts i)
      ≤ s.bound l * sum_to s.arcs (λ i. goes_in s l i * counts i)

-- An arc to a loop's header enters the loop or goes back.
pub and_true : (a : Bool) (t l : ℕ) → a ≡ true → t ≡ l → bit (a && (t == l)) ≡ 1
and_true a t l e f = grind (arith, nat_tests)

in_by : (to header : ℕ) (h : Bool) → to ≡ header → h ≡ false → bit ((to == header) && not h) ≡ 1
in_by to header h e f = grind (arith, nat_tests)

in_held : (to header : ℕ) (h : Bool) → h ≡ true → bit ((to == header) && not h) ≡ 0
in_held to header h f = grind (arith, nat_tests)

in_other : (to header : ℕ) (h : Bool) → (to ≡ header → ⊥) → bit ((to == header) && not h) ≡ 0
in_other to header h n = grind (arith, nat_tests)

pub record IsSplitArc (s : Shape) (l i : ℕ) : Type 0 where
  pub comes_by : comes s (s.header l) i ≡ bit (enters s l i) + bit (returns s l i)
  pub in_by : goes_in s l i ≡ bit (enters s l i)

target_not : (s : Shape) → IsNest s → (l i : ℕ) → IsUpTo s.loops l → (s.to i ≡ s.header l → ⊥) → target s i ≡ l → ⊥
target_not s nest l i u n e =
    let heads = nest.heads (s.to i) (omega (arith, e, u)) in
    n (sym heads.1 ∙ ap s.header e)

pub returns_other : (s : Shape) (l i : ℕ) → (target s i ≡ l → ⊥) → bit (returns s l i) ≡ 0
returns_other s l i n = by (is_back s i) (target s i) n
  where
    by : (a : Bool) (t : ℕ) → (t ≡ l → ⊥) → bit (a && (t == l)) ≡ 0
    by true t m = grind (arith, nat_tests)
    by false t m = refl

entering_not_back : (s : Shape) (i : ℕ) → is_entering s i ≡ true → is_back s i ≡ false
entering_not_back s i e = by (target s i) (s.holds (target s i) (s.from i)) e
  where
    by : (t : ℕ) (h : Bool) → (not (t == 0) && not h) ≡ true → (not (t == 0) && h) ≡ false
    by t true e = grind (arith, nat_tests)
    by t false e = grind (arith, nat_tests)

back_not_in : (s : Shape) (i : ℕ) → is_back s i ≡ true → is_entering s i ≡ false
back_not_in s i e = by (target s i) (s.holds (target s i) (s.from i)) e
  where
    by : (t : ℕ) (h : Bool) → (not (t == 0) && h) ≡ true → (not (t == 0) && not h) ≡ false
    by t true e = grind (arith, nat_tests)
    by t false e = grind (arith, nat_tests)

pub split-arc : (s : Shape) → IsNest s → (l i : ℕ) → IsUpTo s.loops l → IsSplitArc s l i
split-arc s nest l i u =
    elim (cases_eq (s.to i) (s.header l)) as (λ _. IsSplitArc s l i) [
      | inr other ↦ let n = target_not s nest l i u other in
          record {
            comes_by = omega (arith, bit_other (s.to i) (s.header l) other, enters-other s l i n, returns_other s l i n);
            in_by = omega (arith, in_other (s.to i) (s.header l) (s.holds l (s.from i)) other, enters-other s l i n);
          }
      | inl e ↦ let t = target-is s nest i l u e in
          elim (cases_Bool (s.holds l (s.from i))) as (λ _. IsSplitArc s l i) [
            | inl h ↦ let back = back-from s nest i l u e h in
                record {
                  comes_by = omega (
                    arith,
                    bit_same (s.to i) (s.header l) e,
                    enters-none s l i (back_not_in s i back),
                    and_true (is_back s i) (target s i) l back t,
                  );
                  in_by = omega (
                    arith,
                    in_held (s.to i) (s.header l) (s.holds l (s.from i)) h,
                    enters-none s l i (back_not_in s i back),
                  );
                }
            | inr h ↦ let into = entering-from s nest i l u e h in
                record {
                  comes_by = omega (
                    arith,
                    bit_same (s.to i) (s.header l) e,
                    returns-none s l i (entering_not_back s i into),
                    and_true (is_entering s i) (target s i) l into t,
                  );
                  in_by = omega (
                    arith,
                    in_by (s.to i) (s.header l) (s.holds l (s.from i)) e h,
                    and_true (is_entering s i) (target s i) l into t,
                  );
                }
          ]
    ]

pub entered-in : (s : Shape) (counts : ℕ → ℕ) (l : ℕ) → IsNest s → IsUpTo s.loops l →
    sum_to s.arcs (λ i. goes_in s l i * counts i) ≡ entered s counts l
entered-in s counts l nest u =
    sum-same s.arcs (λ i. goes_in s l i * counts i) (λ i. bit (enters s l i) * counts i)
    (λ i v. ap (λ b. b * counts i) (split-arc s nest l i u).in_by)

pub comes-split : (s : Shape) (counts : ℕ → ℕ) (l : ℕ) → IsNest s → IsUpTo s.loops l →
    sum_to s.arcs (λ i. comes s (s.header l) i * counts i)
    ≡ entered s counts l + sum_to s.arcs (λ i. bit (returns s l i) * counts i)
comes-split s counts l nest u =
    sum-same s.arcs (λ i. comes s (s.header l) i * counts i)
    (λ i. bit (enters s l i) * counts i + bit (returns s l i) * counts i)
    (λ i v. ap (λ b. b * counts i) (split-arc s nest l i u).comes_by ∙ omega arith)
    ∙ sum-add s.arcs (λ i. bit (enters s l i) * counts i) (λ i. bit (returns s l i) * counts i)

-- The way of a loop is a turn, or it has none.
pub any-way : (s : Shape) (weight turns : ℕ → ℕ) (depth : ℕ) (ways : ℕ → List ℕ) → AreWays s weight turns depth ways →
    (l : ℕ) → IsUpTo s.loops l → (ways l ≡ []) ⊎ IsTurn s weight l (turns l) (ways l)
any-way s weight turns depth ways are l u =
    elim (cases_lt depth (s.depth l)) as (λ _. (ways l ≡ []) ⊎ IsTurn s weight l (turns l) (ways l)) [
      | inl deep ↦ inl (are.later l u deep)
      | inr low ↦ elim (are.done l u low) as (λ _. (ways l ≡ []) ⊎ IsTurn s weight l (turns l) (ways l)) [
        | inl none ↦ inl none.0
        | inr turn ↦ inr turn
      ]
    ]

-- What holds of no way and of each turn holds of each loop's way.
pub each-way : (s : Shape) (weight turns : ℕ → ℕ) (depth : ℕ) (ways : ℕ → List ℕ) → AreWays s weight turns depth ways →
    (P : List ℕ → Type 0) (l : ℕ) → IsUpTo s.loops l → P [] →
    (IsTurn s weight l (turns l) (ways l) → P (ways l)) → P (ways l)
each-way s weight turns depth ways are P l u none some =
    elim (any-way s weight turns depth ways are l u) as (λ _. P (ways l)) [
      | inl e ↦ subst P (sym e) none
      | inr turn ↦ some turn
    ]

pub ways-in : (s : Shape) (weight turns : ℕ → ℕ) (depth : ℕ) (ways : ℕ → List ℕ) → AreWays s weight turns depth ways →
    (l : ℕ) → IsUpTo s.loops l → Each (IsUpTo s.arcs) (ways l)
ways-in s weight turns depth ways are l u =
    each-way s weight turns depth ways are (Each (IsUpTo s.arcs)) l u tt
    (λ turn. way_in s (s.depth l) turn.round (s.header l) (ways l) turn.goes)

pub path-in : (s : Shape) (weight : ℕ → ℕ) (path : List ℕ) (total : ℕ) → IsNest s → IsPath s weight path total →
    Each (IsUpTo s.arcs) path
path-in s weight path total nest is =
    subst (Each (IsUpTo s.arcs)) (sym is.begins)
    (omega (arith, nest.some), way_in s 0 is.round (s.to 1) is.more is.way)

-- Arc 1 comes once.
counted-first : (s : Shape) (weight turns : ℕ → ℕ) (depth total : ℕ) (path : List ℕ) (ways : ℕ → List ℕ)
    (counts : ℕ → ℕ) → IsNest s → IsPath s weight path total → AreWays s weight turns depth ways →
    IsCounted s path ways counts → counts 1 ≡ 1
counted-first s weight turns depth total path ways counts nest is are counted =
    omega (
      arith,
      counted 1 (omega (arith, nest.some)),
      ap (λ (ks : List ℕ). times ks 1) is.begins,
      way-first s nest 0 is.round (λ p. 0 < p) 0 (stays-out s nest is.round) (s.to 1) is.more nest.begins is.way,
      sum-none s.loops (λ l. ((s.bound l - 1) * entered s counts l) * times (ways l) 1)
          (λ l u. ap (λ n. ((s.bound l - 1) * entered s counts l) * n) (none l u) ∙ omega arith),
    )
  where
    none : (l : ℕ) → IsUpTo s.loops l → times (ways l) 1 ≡ 0
    none l u = each-way s weight turns depth ways are (λ ks. times ks 1 ≡ 0) l u refl
        (λ turn. way-first s nest (s.depth l) turn.round _ (s.header l)
        (stays-turn s nest l turn.round u turn.rounds) (s.header l) (ways l)
        (in-header s nest l turn.round u turn.rounds) turn.goes)

-- Each place is left as often as it is come to.
path-flow : (s : Shape) (weight : ℕ → ℕ) (path : List ℕ) (total : ℕ) → IsNest s → IsPath s weight path total →
    (p : ℕ) → 0 < p → sum_by (comes s p) path ≡ sum_by (goes s p) path
path-flow s weight path total nest is p low =
    subst (λ (ks : List ℕ). sum_by (comes s p) ks ≡ sum_by (goes s p) ks) (sym is.begins)
    (omega (
      arith,
      sum_by-cons (comes s p) 1 is.more,
      sum_by-cons (goes s p) 1 is.more,
      way-flow s 0 is.round (λ q. 0 < q) 0 (stays-out s nest is.round) p (s.to 1) is.more nest.begins is.way,
      bit_other 0 p (λ e. omega (arith, e, low)),
      bit_other (s.from 1) p (λ e. omega (arith, e, low, nest.first)),
    ))

turn-flow : (s : Shape) (weight : ℕ → ℕ) (l turn : ℕ) (ks : List ℕ) → IsNest s → IsUpTo s.loops l →
    IsTurn s weight l turn ks → (p : ℕ) → sum_by (comes s p) ks ≡ sum_by (goes s p) ks
turn-flow s weight l turn ks nest u is p =
    omega (
      arith,
      way-flow s (s.depth l) is.round _ (s.header l) (stays-turn s nest l is.round u is.rounds) p (s.header l) ks
          (in-header s nest l is.round u is.rounds) is.goes,
    )

counted-kept : (s : Shape) (weight turns : ℕ → ℕ) (depth total : ℕ) (path : List ℕ) (ways : ℕ → List ℕ)
    (counts : ℕ → ℕ) → IsNest s → IsPath s weight path total → AreWays s weight turns depth ways →
    IsCounted s path ways counts → (p : ℕ) → IsUpTo s.places p →
    sum_to s.arcs (λ i. comes s p i * counts i) ≡ sum_to s.arcs (λ i. goes s p i * counts i)
counted-kept s weight turns depth total path ways counts nest is are counted p v =
    dot-counted s (comes s p) path ways counts inside all counted
    ∙ ap₂ (λ a b. a + b) (path-flow s weight path total nest is p v.0)
    (sum-same s.loops (λ l. ((s.bound l - 1) * entered s counts l) * sum_by (comes s p) (ways l))
    (λ l. ((s.bound l - 1) * entered s counts l) * sum_by (goes s p) (ways l))
    (λ l u. ap (λ n. ((s.bound l - 1) * entered s counts l) * n)
    (each-way s weight turns depth ways are (λ ks. sum_by (comes s p) ks ≡ sum_by (goes s p) ks) l u refl
    (λ turn. turn-flow s weight l (turns l) (ways l) nest u turn p))))
    ∙ sym (dot-counted s (goes s p) path ways counts inside all counted)
  where
    inside : Each (IsUpTo s.arcs) path
    inside = path-in s weight path total nest is

    all : (l : ℕ) → IsUpTo s.loops l → Each (IsUpTo s.arcs) (ways l)
    all = ways-in s weight turns depth ways are

-- A header is come back to at most bound - 1 times as often as its loop is entered.
returned-few : (s : Shape) (weight turns : ℕ → ℕ) (depth total : ℕ) (path : List ℕ) (ways : ℕ → List ℕ)
    (counts : ℕ → ℕ) → IsNest s → IsPath s weight path total → AreWays s weight turns depth ways →
    IsCounted s path ways counts → (l : ℕ) → IsUpTo s.loops l →
    sum_to s.arcs (λ i. bit (returns s l i) * counts i) ≤ (s.bound l - 1) * entered s counts l
returned-few s weight turns depth total path ways counts nest is are counted l u =
    omega (
      arith,
      dot-counted s (λ i. bit (returns s l i)) path ways counts (path-in s weight path total nest is)
          (ways-in s weight turns depth ways are) counted,
      subst (λ (ks : List ℕ). sum_by (λ i. bit (returns s l i)) ks ≡ 0) (sym is.begins) out,
      sum-le s.loops (λ k. ((s.bound k - 1) * entered s counts k) * sum_by (λ i. bit (returns s l i)) (ways k))
          (λ k. ((s.bound k - 1) * entered s counts k) * bit (k == l)) some,
      one,
    )
  where
    out : sum_by (λ i. bit (returns s l i)) (1 ∷ is.more) ≡ 0
    out = omega (
      arith,
      sum_by-cons (λ i. bit (returns s l i)) 1 is.more,
      path-returns s nest is.round l (s.to 1) is.more nest.begins is.way,
      returns-none s l 1 (not_back_from-0 s nest 1 nest.first),
    )

    some : (k : ℕ) → IsUpTo s.loops k →
        ((s.bound k - 1) * entered s counts k) * sum_by (λ i. bit (returns s l i)) (ways k)
        ≤ ((s.bound k - 1) * entered s counts k) * bit (k == l)
    some k v = mul-le-mul_left ((s.bound k - 1) * entered s counts k)
        (each-way s weight turns depth ways are (λ ks. sum_by (λ i. bit (returns s l i)) ks ≤ bit (k == l)) k v
        (omega arith)
        (λ turn. turn-returns s nest k l turn.round (ways k) v turn.rounds turn.goes))

    one : sum_to s.loops (λ k. ((s.bound k - 1) * entered s counts k) * bit (k == l))
        ≡ (s.bound l - 1) * entered s counts l
    one = sum-only s.loops l (λ k. ((s.bound k - 1) * entered s counts k) * bit (k == l)) u
        (λ k v differ. ap (λ n. ((s.bound k - 1) * entered s counts k) * n) (bit_other k l differ) ∙ omega arith)
        ∙ ap (λ n. ((s.bound l - 1) * entered s counts l) * n) (bit_same l l refl) ∙ omega arith

counted-bounded : (s : Shape) (weight turns : ℕ → ℕ) (depth total : ℕ) (path : List ℕ) (ways : ℕ → List ℕ)
    (counts : ℕ → ℕ) → IsNest s → IsPath s weight path total → AreWays s weight turns depth ways →
    IsCounted s path ways counts → (l : ℕ) → IsUpTo s.loops l →
    sum_to s.arcs (λ i. comes s (s.header l) i * counts i)
    ≤ s.bound l * sum_to s.arcs (λ i. goes_in s l i * counts i)
counted-bounded s weight turns depth total path ways counts nest is are counted l u =
    subst (λ (n : ℕ). sum_to s.arcs (λ i. comes s (s.header l) i * counts i) ≤ s.bound l * n)
    (sym (entered-in s counts l nest u))
    (bounded_by (s.bound l) (entered s counts l)
    (sum_to s.arcs (λ i. bit (returns s l i) * counts i))
    (sum_to s.arcs (λ i. comes s (s.header l) i * counts i))
    (nest.bounds l u) (comes-split s counts l nest u)
    (returned-few s weight turns depth total path ways counts nest is are counted l u))
  where
    bounded_by : (b e r c : ℕ) → 1 ≤ b → c ≡ e + r → r ≤ (b - 1) * e → c ≤ b * e
    bounded_by b e r c low is few =
        let split : b ≡ (b - 1) + 1 = omega (arith, low) in
        omega (arith, is, few, ap (λ n. n * e) split)

-- The counts keep the rows.
pub counted-keeps : (s : Shape) (weight turns : ℕ → ℕ) (depth total : ℕ) (path : List ℕ) (ways : ℕ → List ℕ)
    (counts : ℕ → ℕ) → IsNest s → IsPath s weight path total → AreWays s weight turns depth ways →
    IsCounted s path ways counts → Keeps s counts
counted-keeps s weight turns depth total path ways counts nest is are counted =
    record {
      first = counted-first s weight turns depth total path ways counts nest is are counted;
      kept = counted-kept s weight turns depth total path ways counts nest is are counted;
      bounded = counted-bounded s weight turns depth total path ways counts nest is are counted;
    }

-- The value of counts: the weights of the ways, as often as they are taken, make up for what the weights of
-- entering arcs carry.
pub paid-sum : (s : Shape) (turns : ℕ → ℕ) (i : ℕ) → IsNest s →
    paid s turns i ≡ sum_to s.loops (λ l. ((s.bound l - 1) * turns l) * bit (enters s l i))
paid-sum s turns i nest = elim (cases_Bool (is_entering s i))
    as (λ _. paid s turns i ≡ sum_to s.loops (λ l. ((s.bound l - 1) * turns l) * bit (enters s l i))) [
      | inr no_entry ↦ paid-none s turns i no_entry
          ∙ sym (sum-none s.loops (λ l. ((s.bound l - 1) * turns l) * bit (enters s l i))
          (λ l u. ap (λ n. ((s.bound l - 1) * turns l) * n) (enters-none s l i no_entry) ∙ omega arith))
      | inl into ↦ paid-some s turns i into
          ∙ sym (sum-only s.loops (target s i) (λ l. ((s.bound l - 1) * turns l) * bit (enters s l i))
          (entering-of s nest i into).up
          (λ l u differ. ap (λ n. ((s.bound l - 1) * turns l) * n)
          (enters-other s l i (λ e. differ (sym e))) ∙ omega arith)
          ∙ ap (λ n. ((s.bound (target s i) - 1) * turns (target s i)) * n)
          (and_true (is_entering s i) (target s i) (target s i) into refl) ∙ omega arith)
    ]

paid-counts : (s : Shape) (turns counts : ℕ → ℕ) → IsNest s →
    sum_to s.arcs (λ i. paid s turns i * counts i)
    ≡ sum_to s.loops (λ l. ((s.bound l - 1) * turns l) * entered s counts l)
paid-counts s turns counts nest =
    sum-same s.arcs (λ i. paid s turns i * counts i)
    (λ i. sum_to s.loops (λ l. counts i * (((s.bound l - 1) * turns l) * bit (enters s l i))))
    (λ i u. ap (λ n. n * counts i) (paid-sum s turns i nest)
    ∙ mul_comm (sum_to s.loops (λ l. ((s.bound l - 1) * turns l) * bit (enters s l i))) (counts i)
    ∙ sym (sum-scale s.loops (counts i) (λ l. ((s.bound l - 1) * turns l) * bit (enters s l i))))
    ∙ sum-swap s.arcs s.loops (λ i l. counts i * (((s.bound l - 1) * turns l) * bit (enters s l i)))
    ∙ sum-same s.loops
    (λ l. sum_to s.arcs (λ i. counts i * (((s.bound l - 1) * turns l) * bit (enters s l i))))
    (λ l. ((s.bound l - 1) * turns l) * entered s counts l)
    (λ l u. sum-same s.arcs (λ i. counts i * (((s.bound l - 1) * turns l) * bit (enters s l i)))
    (λ i. ((s.bound l - 1) * turns l) * (bit (enters s l i) * counts i))
    (λ i v. turn (counts i) ((s.bound l - 1) * turns l) (bit (enters s l i)))
    ∙ sum-scale s.arcs ((s.bound l - 1) * turns l) (λ i. bit (enters s l i) * counts i))
  where
    turn : (x m b : ℕ) → x * (m * b) ≡ m * (b * x)
    turn x m b = omega arith

pub weight-counts : (s : Shape) (value turns counts : ℕ → ℕ) → IsNest s →
    sum_to s.arcs (λ i. weight_of s value turns i * counts i)
    ≡ sum_to s.arcs (λ i. value i * counts i)
    + sum_to s.loops (λ l. ((s.bound l - 1) * turns l) * entered s counts l)
weight-counts s value turns counts nest =
    sum-same s.arcs (λ i. weight_of s value turns i * counts i) (λ i. value i * counts i + paid s turns i * counts i)
    (λ i u. omega arith)
    ∙ sum-add s.arcs (λ i. value i * counts i) (λ i. paid s turns i * counts i)
    ∙ ap (λ n. sum_to s.arcs (λ i. value i * counts i) + n) (paid-counts s turns counts nest)

-- What the turns of the loops weigh, as often as they are taken.
taken-one : (s : Shape) (value turns : ℕ → ℕ) (depth : ℕ) (ways : ℕ → List ℕ) →
    AreWays s (weight_of s value turns) turns depth ways → (l : ℕ) → IsUpTo s.loops l → s.depth l ≤ depth →
    sum_by (weight_of s value turns) (ways l) ≡ turns l
taken-one s value turns depth ways are l u low =
    elim (are.done l u low) as (λ _. sum_by (weight_of s value turns) (ways l) ≡ turns l) [
      | inl none ↦ ap (λ (ks : List ℕ). sum_by (weight_of s value turns) ks) none.0 ∙ sym none.1
      | inr turn ↦ turn.weighs
    ]

taken-less : (s : Shape) (value turns : ℕ → ℕ) (depth : ℕ) (ways : ℕ → List ℕ) →
    AreWays s (weight_of s value turns) turns depth ways → (l : ℕ) → IsUpTo s.loops l →
    sum_by (weight_of s value turns) (ways l) ≤ turns l
taken-less s value turns depth ways are l u =
    elim (cases_lt depth (s.depth l)) as (λ _. sum_by (weight_of s value turns) (ways l) ≤ turns l) [
      | inl deep ↦ subst (λ (ks : List ℕ). sum_by (weight_of s value turns) ks ≤ turns l) (sym (are.later l u deep))
          (omega arith)
      | inr low ↦ omega (arith, taken-one s value turns depth ways are l u low)
    ]

turned-product : (m t e : ℕ) → (m * t) * e ≡ (m * e) * t
turned-product m t e = omega arith

-- The value of the counts is at most what the way out weighs, and exactly that once all loops are put back.
pub counted-value_most : (s : Shape) (value turns : ℕ → ℕ) (depth total : ℕ) (path : List ℕ) (ways : ℕ → List ℕ)
    (counts : ℕ → ℕ) → IsNest s → IsPath s (weight_of s value turns) path total →
    AreWays s (weight_of s value turns) turns depth ways → IsCounted s path ways counts →
    sum_to s.arcs (λ i. value i * counts i) ≤ total
counted-value_most s value turns depth total path ways counts nest is are counted =
    omega (
      arith,
      weight-counts s value turns counts nest,
      dot-counted s (weight_of s value turns) path ways counts (path-in s (weight_of s value turns) path total nest is)
          (ways-in s (weight_of s value turns) turns depth ways are) counted,
      is.weighs,
      sum-le s.loops
          (λ l. ((s.bound l - 1) * entered s counts l) * sum_by (weight_of s value turns) (ways l))
          (λ l. ((s.bound l - 1) * turns l) * entered s counts l)
          (λ l u. omega (
            arith,
            turned-product (s.bound l - 1) (turns l) (entered s counts l),
            mul-le-mul_left ((s.bound l - 1) * entered s counts l) (taken-less s value turns depth ways are l u),
          )),
    )

pub counted-value : (s : Shape) (value turns : ℕ → ℕ) (depth total : ℕ) (path : List ℕ) (ways : ℕ → List ℕ)
    (counts : ℕ → ℕ) → IsNest s → IsPath s (weight_of s value turns) path total →
    AreWays s (weight_of s value turns) turns depth ways → IsCounted s path ways counts →
    ((l : ℕ) → IsUpTo s.loops l → s.depth l ≤ depth) →
    sum_to s.arcs (λ i. value i * counts i) ≡ total
counted-value s value turns depth total path ways counts nest is are counted all =
    omega (
      arith,
      weight-counts s value turns counts nest,
      dot-counted s (weight_of s value turns) path ways counts (path-in s (weight_of s value turns) path total nest is)
          (ways-in s (weight_of s value turns) turns depth ways are) counted,
      is.weighs,
      sum-same s.loops
          (λ l. ((s.bound l - 1) * entered s counts l) * sum_by (weight_of s value turns) (ways l))
          (λ l. ((s.bound l - 1) * turns l) * entered s counts l)
          (λ l u. ap (λ n. ((s.bound l - 1) * entered s counts l) * n)
          (taken-one s value turns depth ways are l u (all l u))
          ∙ sym (turned-product (s.bound l - 1) (turns l) (entered s counts l))),
    )
