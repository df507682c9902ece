-- The turns of one depth more are put back: the counts are again those of a way out and of turns.
use Rattle.std.proofs.Common.{◌≡◌, ◌⊎◌, ℕ, suc, ◌+◌, ◌-◌, ◌*◌, ◌≤◌, ◌==◌, cond, List, [], sum_by, refl, sym, ap, ◌∙◌, subst, inl, inr, arith}
use Rattle.std.proofs.lemmas.Bool.{cases_eq, cases_lt}
use Rattle.std.proofs.lemmas.Bool.Decides.{nat_tests}
use Rattle.nest_solver.specs.Shape.{Shape, IsNest, IsUpTo}
use Rattle.nest_solver.specs.Counted.{bit, times, enters, entered, added, IsCounted, IsTurn, AreWays, put_back, with_ways}
use Rattle.nest_solver.proofs.Sums.{sum-same, sum-add, sum-none}
use Rattle.nest_solver.proofs.Times.{Each, dot-added}
use Rattle.nest_solver.proofs.Along.{way_in, way-enters, stays-turn, in-header}

-- With the way out alone no loop is put back.
pub counted-start : (s : Shape) (path : List ℕ) (counts : ℕ → ℕ) →
    ((i : ℕ) → IsUpTo s.arcs i → counts i ≡ times path i) → IsCounted s path (λ l. []) counts
counted-start s path counts is i u =
    omega (
      arith,
      is i u,
      sum-none s.loops (λ l. ((s.bound l - 1) * entered s counts l) * 0) (λ l v. omega arith),
    )

pub ways-start : (s : Shape) (weight turns : ℕ → ℕ) → IsNest s → AreWays s weight turns 0 (λ l. [])
ways-start s weight turns nest =
    record {
      done = λ l u low. absurd (omega (arith, low, nest.deep l u));
      later = λ l u deep. refl;
    }

-- The turns of the loops of a depth, and of no other ones.
pub record AreTurned (s : Shape) (weight turns : ℕ → ℕ) (depth : ℕ) (turned : ℕ → List ℕ) : Type 0 where
  pub here : (l : ℕ) → IsUpTo s.loops l → s.depth l ≡ depth →
      ((turned l ≡ []) × (turns l ≡ 0)) ⊎ IsTurn s weight l (turns l) (turned l)
  pub none : (l : ℕ) → IsUpTo s.loops l → (s.depth l ≡ depth → ⊥) → turned l ≡ []

with_here : (s : Shape) (depth : ℕ) (before turned : ℕ → List ℕ) (l : ℕ) → s.depth l ≡ depth →
    with_ways s depth before turned l ≡ turned l
with_here s depth before turned l e = by (s.depth l) e (turned l) (before l)
  where
    by : (deep : ℕ) → deep ≡ depth → (a b : List ℕ) → cond (deep == depth) a b ≡ a
    by deep e a b = grind (arith, nat_tests)

with_other : (s : Shape) (depth : ℕ) (before turned : ℕ → List ℕ) (l : ℕ) → (s.depth l ≡ depth → ⊥) →
    with_ways s depth before turned l ≡ before l
with_other s depth before turned l n = by (s.depth l) n (turned l) (before l)
  where
    by : (deep : ℕ) → (deep ≡ depth → ⊥) → (a b : List ℕ) → cond (deep == depth) a b ≡ b
    by deep m a b = grind (arith, nat_tests)

pub ways-level : (s : Shape) (weight turns : ℕ → ℕ) (depth : ℕ) (ways turned : ℕ → List ℕ) →
    AreWays s weight turns depth ways → AreTurned s weight turns (suc depth) turned →
    AreWays s weight turns (suc depth) (with_ways s (suc depth) ways turned)
ways-level s weight turns depth ways turned are turn =
    record {
      done = λ l u low. elim (cases_eq (s.depth l) (suc depth))
          as (λ _. ((with_ways s (suc depth) ways turned l ≡ []) × (turns l ≡ 0))
          ⊎ IsTurn s weight l (turns l) (with_ways s (suc depth) ways turned l)) [
            | inl e ↦ subst (λ (ks : List ℕ). ((ks ≡ []) × (turns l ≡ 0)) ⊎ IsTurn s weight l (turns l) ks)
                (sym (with_here s (suc depth) ways turned l e)) (turn.here l u e)
            | inr n ↦ subst (λ (ks : List ℕ). ((ks ≡ []) × (turns l ≡ 0)) ⊎ IsTurn s weight l (turns l) ks)
                (sym (with_other s (suc depth) ways turned l n)) (are.done l u (omega (arith, low, n)))
          ];
      later = λ l u deep. with_other s (suc depth) ways turned l (λ e. omega (arith, e, deep))
          ∙ are.later l u (omega (arith, deep));
    }

turned-way : (s : Shape) (weight turns : ℕ → ℕ) (depth : ℕ) (turned : ℕ → List ℕ) →
    AreTurned s weight turns depth turned → (P : List ℕ → Type 0) (l : ℕ) → IsUpTo s.loops l → P [] →
    (IsTurn s weight l (turns l) (turned l) → P (turned l)) → P (turned l)
turned-way s weight turns depth turned are P l u none some =
    elim (cases_eq (s.depth l) depth) as (λ _. P (turned l)) [
      | inr n ↦ subst P (sym (are.none l u n)) none
      | inl e ↦ elim (are.here l u e) as (λ _. P (turned l)) [
        | inl empty ↦ subst P (sym empty.0) none
        | inr turn ↦ some turn
      ]
    ]

turned-in : (s : Shape) (weight turns : ℕ → ℕ) (depth : ℕ) (turned : ℕ → List ℕ) →
    AreTurned s weight turns depth turned → (l : ℕ) → IsUpTo s.loops l → Each (IsUpTo s.arcs) (turned l)
turned-in s weight turns depth turned are l u =
    turned-way s weight turns depth turned are (Each (IsUpTo s.arcs)) l u tt
    (λ turn. way_in s (s.depth l) turn.round (s.header l) (turned l) turn.goes)

-- The turns of a depth enter no loop of that depth or of a smaller one.
turned-enters : (s : Shape) (weight turns : ℕ → ℕ) (depth : ℕ) (turned : ℕ → List ℕ) → IsNest s →
    AreTurned s weight turns depth turned → (l k : ℕ) → IsUpTo s.loops k → s.depth l ≤ depth →
    sum_by (λ i. bit (enters s l i)) (turned k) ≡ 0
turned-enters s weight turns depth turned nest are l k u low =
    elim (cases_eq (s.depth k) depth) as (λ _. sum_by (λ i. bit (enters s l i)) (turned k) ≡ 0) [
      | inr n ↦ ap (λ (ks : List ℕ). sum_by (λ i. bit (enters s l i)) ks) (are.none k u n)
      | inl e ↦ turned-way s weight turns depth turned are (λ ks. sum_by (λ i. bit (enters s l i)) ks ≡ 0) k u refl
          (λ turn. way-enters s nest (s.depth k) turn.round _ (s.header k) turn.rounds
          (stays-turn s nest k turn.round u turn.rounds) l (omega (arith, low, e)) (s.header k) (turned k)
          (in-header s nest k turn.round u turn.rounds) turn.goes)
    ]

-- So these are entered as often as before.
entered-same : (s : Shape) (weight turns : ℕ → ℕ) (depth : ℕ) (turned : ℕ → List ℕ) (often counts : ℕ → ℕ) →
    IsNest s → AreTurned s weight turns depth turned → (l : ℕ) → s.depth l ≤ depth →
    entered s (put_back s often turned counts) l ≡ entered s counts l
entered-same s weight turns depth turned often counts nest are l low =
    omega (
      arith,
      sum-same s.arcs (λ i. bit (enters s l i) * (counts i + added s often turned i))
          (λ i. bit (enters s l i) * counts i + bit (enters s l i) * added s often turned i) (λ i u. omega arith),
      sum-add s.arcs (λ i. bit (enters s l i) * counts i) (λ i. bit (enters s l i) * added s often turned i),
      dot-added s (λ i. bit (enters s l i)) often turned (turned-in s weight turns depth turned are),
      sum-none s.loops (λ k. ((s.bound k - 1) * often k) * sum_by (λ i. bit (enters s l i)) (turned k))
          (λ k u. ap (λ n. ((s.bound k - 1) * often k) * n)
          (turned-enters s weight turns depth turned nest are l k u low) ∙ omega arith),
    )

-- What one loop adds.
level-one : (s : Shape) (weight turns : ℕ → ℕ) (depth : ℕ) (ways turned : ℕ → List ℕ) (counts : ℕ → ℕ) → IsNest s →
    AreWays s weight turns depth ways → AreTurned s weight turns (suc depth) turned → (i l : ℕ) → IsUpTo s.loops l →
    ((s.bound l - 1) * entered s (put_back s (entered s counts) turned counts) l)
    * times (with_ways s (suc depth) ways turned l) i
    ≡ ((s.bound l - 1) * entered s counts l) * times (ways l) i
    + ((s.bound l - 1) * entered s counts l) * times (turned l) i
level-one s weight turns depth ways turned counts nest are turn i l u =
    elim (cases_lt (suc depth) (s.depth l))
    as (λ _. ((s.bound l - 1) * new) * times (with_ways s (suc depth) ways turned l) i
    ≡ ((s.bound l - 1) * old) * times (ways l) i + ((s.bound l - 1) * old) * times (turned l) i) [
      | inl deep ↦
          let other : s.depth l ≡ suc depth → ⊥ = λ e. omega (arith, e, deep) in
          let first = are.later l u (omega (arith, deep)) in
          no_way ((s.bound l - 1) * new) ((s.bound l - 1) * old)
          (ap (λ (ks : List ℕ). times ks i) (with_other s (suc depth) ways turned l other ∙ first))
          (ap (λ (ks : List ℕ). times ks i) first)
          (ap (λ (ks : List ℕ). times ks i) (turn.none l u other))
      | inr low ↦
          let same = ap (λ n. (s.bound l - 1) * n)
          (entered-same s weight turns (suc depth) turned (entered s counts) counts nest turn l low) in
          elim (cases_eq (s.depth l) (suc depth))
          as (λ _. ((s.bound l - 1) * new) * times (with_ways s (suc depth) ways turned l) i
          ≡ ((s.bound l - 1) * old) * times (ways l) i + ((s.bound l - 1) * old) * times (turned l) i) [
            | inl e ↦ one_way ((s.bound l - 1) * new) ((s.bound l - 1) * old) same
                (ap (λ (ks : List ℕ). times ks i) (with_here s (suc depth) ways turned l e))
                (ap (λ (ks : List ℕ). times ks i) (are.later l u (omega (arith, e))))
            | inr n ↦ other_way ((s.bound l - 1) * new) ((s.bound l - 1) * old) same
                (ap (λ (ks : List ℕ). times ks i) (with_other s (suc depth) ways turned l n))
                (ap (λ (ks : List ℕ). times ks i) (turn.none l u n))
          ]
    ]
  where
    new : ℕ
    new = entered s (put_back s (entered s counts) turned counts) l

    old : ℕ
    old = entered s counts l

    no_way : {a b c : ℕ} (m n : ℕ) → a ≡ 0 → b ≡ 0 → c ≡ 0 → m * a ≡ n * b + n * c
    no_way m n e f g = omega (arith, ap (λ t. m * t) e, ap (λ t. n * t) f, ap (λ t. n * t) g)

    one_way : {a b c : ℕ} (m n : ℕ) → m ≡ n → a ≡ c → b ≡ 0 → m * a ≡ n * b + n * c
    one_way {a} m n e f g = omega (arith, ap (λ t. t * a) e, ap (λ t. n * t) f, ap (λ t. n * t) g)

    other_way : {a b c : ℕ} (m n : ℕ) → m ≡ n → a ≡ b → c ≡ 0 → m * a ≡ n * b + n * c
    other_way {a} m n e f g = omega (arith, ap (λ t. t * a) e, ap (λ t. n * t) f, ap (λ t. n * t) g)

pub counted-level : (s : Shape) (weight turns : ℕ → ℕ) (depth : ℕ) (path : List ℕ) (ways turned : ℕ → List ℕ)
    (counts : ℕ → ℕ) → IsNest s → AreWays s weight turns depth ways → AreTurned s weight turns (suc depth) turned →
    IsCounted s path ways counts →
    IsCounted s path (with_ways s (suc depth) ways turned) (put_back s (entered s counts) turned counts)
counted-level s weight turns depth path ways turned counts nest are turn counted i u =
    omega (
      arith,
      counted i u,
      sum-same s.loops
          (λ l. ((s.bound l - 1) * entered s (put_back s (entered s counts) turned counts) l)
          * times (with_ways s (suc depth) ways turned l) i)
          (λ l. ((s.bound l - 1) * entered s counts l) * times (ways l) i
          + ((s.bound l - 1) * entered s counts l) * times (turned l) i)
          (level-one s weight turns depth ways turned counts nest are turn i),
      sum-add s.loops (λ l. ((s.bound l - 1) * entered s counts l) * times (ways l) i)
          (λ l. ((s.bound l - 1) * entered s counts l) * times (turned l) i),
    )
