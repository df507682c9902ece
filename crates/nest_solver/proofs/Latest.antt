-- The last arcs from places, noted as the arcs come in their order.
use Rattle.std.proofs.Common.{◌≡◌, ℕ, ◌+◌, ◌-◌, ◌*◌, ◌^◌, ◌<◌, ◌≤◌, ◌==◌, nat_lt, cond, List, length, sym, ap, ◌∙◌, inl, inr, arith}
use Rattle.std.proofs.lemmas.Bool.{cases_eq}
use Rattle.std.proofs.lemmas.Bool.Decides.{nat_tests}
use Rattle.std.proofs.lemmas.List.{get_or_past}
use Rattle.flow_net.specs.declared.net.Net.{Net}
use Rattle.nest_solver.specs.Bases.{AreLatest, base_by, rank_by}
use Rattle.nest_solver.specs.Nets.{entry}
use Rattle.nest_solver.specs.Orders.{Arcs, arcs_of}
use Rattle.nest_solver.specs.Plain.{AreTables, plain}
use Rattle.nest_solver.specs.Shape.{IsRising, IsUpTo}
use Rattle.nest_solver.specs.declared.tables.Tables.{Tables}
use Rattle.nest_solver.proofs.Plains.{tables-behind}
use Rattle.nest_solver.proofs.Puts.{Puts}

pub latest-none : (a : Arcs) (position latest : ℕ → ℕ) → ((i : ℕ) → IsUpTo a.count i → 0 < position i) →
    ((p : ℕ) → latest p ≡ 0) → AreLatest a position latest 0
latest-none a position latest behind fresh = record {
  most = λ i u early. absurd (omega (arith, early, behind i u));
  some = λ p low. absurd (omega (arith, fresh p, low));
  low = λ p. omega (arith, fresh p);
}

pub latest-more : (a : Arcs) (position latest latest2 : ℕ → ℕ) (k n : ℕ) → IsUpTo a.count n → position n ≡ k + 1 →
    ((i : ℕ) → IsUpTo a.count i → position i ≡ k + 1 → i ≡ n) → AreLatest a position latest k →
    Puts latest latest2 (a.from n) (k + 1) → AreLatest a position latest2 (k + 1)
latest-more a position latest latest2 k n up at one were puts = record { most = most; some = some; low = low }
  where
    low : (p : ℕ) → latest2 p ≤ k + 1
    low p = elim (cases_eq p (a.from n)) as (λ _. latest2 p ≤ k + 1) [
      | inl e ↦ omega (arith, ap latest2 e, puts.here)
      | inr differ ↦ omega (arith, puts.others p differ, were.low p)
    ]

    most : (i : ℕ) → IsUpTo a.count i → position i ≤ k + 1 → position i ≤ latest2 (a.from i)
    most i u early = elim (cases_eq (a.from i) (a.from n)) as (λ _. position i ≤ latest2 (a.from i)) [
      | inl e ↦ omega (arith, ap latest2 e, puts.here, early)
      | inr differ ↦ elim (cases_eq (position i) (k + 1)) as (λ _. position i ≤ latest2 (a.from i)) [
        | inl last ↦ absurd (differ (ap a.from (one i u last)))
        | inr before ↦ omega (arith, puts.others (a.from i) differ, were.most i u (omega (arith, early, before)))
      ]
    ]

    some : (p : ℕ) → 0 < latest2 p → (i : ℕ) × IsUpTo a.count i × (a.from i ≡ p) × (position i ≡ latest2 p)
    some p low = elim (cases_eq p (a.from n))
        as (λ _. (i : ℕ) × IsUpTo a.count i × (a.from i ≡ p) × (position i ≡ latest2 p)) [
          | inl e ↦ (n, up, sym e, at ∙ sym puts.here ∙ sym (ap latest2 e))
          | inr differ ↦ let was = were.some p (omega (arith, puts.others p differ, low)) in
              (was.0, was.1, was.2, was.3 ∙ sym (puts.others p differ))
        ]

-- By the last arcs the ranks rise along each arc that isn't a back arc.
pub latest-rises : (net : Net) (tables : Tables) (latest : ℕ → ℕ) (k : ℕ) → AreTables net tables →
    k ≤ length net.arcs → ((i : ℕ) → IsUpTo (length net.arcs) i → entry tables.order.positions.items i ≤ k) →
    AreLatest (arcs_of net tables.backs.items) (entry tables.order.positions.items) latest k →
    IsRising (plain net tables) (rank_by net latest)
latest-rises net tables latest k are few all last i u from to forward =
    omega (arith, less, last.low ((plain net tables).from i), few)
  where
    mine : entry tables.order.positions.items i ≤ latest ((plain net tables).from i)
    mine = last.most i u (all i u)

    less : latest ((plain net tables).to i) < latest ((plain net tables).from i)
    less = elim (cases_eq (latest ((plain net tables).to i)) 0)
        as (λ _. latest ((plain net tables).to i) < latest ((plain net tables).from i)) [
          | inl none ↦ omega (arith, none, mine, (tables-behind net tables are).some i u)
          | inr some ↦ let arc = last.some ((plain net tables).to i) (omega (arith, some)) in
              omega (
                arith,
                arc.3,
                mine,
                (tables-behind net tables are).behind i arc.0 u arc.1 forward to arc.2,
              )
        ]

base_past : (p shift one way dead : ℕ) → 0 < p → way ≡ 0 → dead ≡ 0 →
    cond (p == 0) one (cond (nat_lt 0 way) shift dead) ≡ 0
base_past p shift one way dead some none off = grind (arith, nat_tests)

dead_none : (n l : ℕ) → l ≡ 0 → 2 ^ 63 * (n - (n - l)) ≡ 0
dead_none n l e = omega (arith, e)

-- Beyond the end of the tables nothing is worth anything.
pub base-past : (net : Net) (latest : List ℕ) (best worths : List ℕ) (p : ℕ) → length latest ≡ length net.places + 1 →
    length best ≡ length net.places + 1 → length worths ≡ length net.places + 1 → length net.places < p →
    entry worths p ≡ base_by net (entry latest) (entry best) p
base-past net latest best worths p latests bests sizes past =
    get_or_past worths p 0 (omega (arith, sizes, past))
    ∙ sym (base_past p (2 ^ 63 * (length net.arcs + 1) + entry best p) (2 ^ 63 * (length net.arcs + 1) + 1) (entry best p)
    (2 ^ 63 * (length net.arcs - rank_by net (entry latest) p)) (omega (arith, past))
    (get_or_past best p 0 (omega (arith, bests, past)))
    (dead_none (length net.arcs) (entry latest p) (get_or_past latest p 0 (omega (arith, latests, past)))))
