-- Worths raised one place after the other.
use Rattle.std.proofs.Common.{◌≡◌, ℕ, zero, suc, Option, None, ◌+◌, ◌-◌, ◌^◌, ◌<◌, ◌≤◌, ◌&&◌, nat_lt, max, cond, Bool, List, length, sym, ap, ap₂, ◌∙◌, inl, inr, arith}
use Rattle.std.proofs.lemmas.Bool.{cases_eq, cases_lt}
use Rattle.std.proofs.lemmas.Bool.Decides.{nat_tests}
use Rattle.std.proofs.lemmas.Option.{slice_get_past}
use Rattle.flow_net.specs.Numbers.{item_at}
use Rattle.flow_net.specs.declared.net.Place.{Place}
use Rattle.flow_net.specs.declared.net.Net.{Net}
use Rattle.nest_solver.specs.Nets.{AreUp, entry, round_by, scope_of}
use Rattle.nest_solver.specs.Plain.{plain}
use Rattle.nest_solver.specs.Shape.{Shape, IsNest, IsUpTo}
use Rattle.nest_solver.specs.Solved.{lifted}
use Rattle.nest_solver.specs.Ways.{IsRound}
use Rattle.nest_solver.specs.declared.tables.Tables.{Tables}
use Rattle.nest_solver.proofs.Puts.{Puts}
use Rattle.nest_solver.proofs.Worths.{lift-header, lift-small}

-- The places below n are raised, the others not yet.
pub record AreRaised (s : Shape) (round best turns before now : ℕ → ℕ) (n : ℕ) : Type 0 where
  pub done : (p : ℕ) → p < n → now p ≡ lifted s round best turns before p
  pub later : (p : ℕ) → n ≤ p → now p ≡ before p

-- A worth is raised alike where it and that of the loop's header are alike.
lifted_same : (r b t w v x y : ℕ) → w ≡ v → (0 < r → x ≡ y) →
    cond (nat_lt 0 r && nat_lt 0 b) (max w ((b + x) - (t + 1))) w
    ≡ cond (nat_lt 0 r && nat_lt 0 b) (max v ((b + y) - (t + 1))) v
lifted_same r b t w v x y e h = elim (cases_lt 0 r)
    as (λ _. cond (nat_lt 0 r && nat_lt 0 b) (max w ((b + x) - (t + 1))) w
    ≡ cond (nat_lt 0 r && nat_lt 0 b) (max v ((b + y) - (t + 1))) v) [
      | inl some ↦ ap₂ (λ (m k : ℕ). cond (nat_lt 0 r && nat_lt 0 b) (max m ((b + k) - (t + 1))) m) e (h some)
      | inr none ↦ by none
    ]
  where
    out : (m n : ℕ) → r ≤ 0 → cond (nat_lt 0 r && nat_lt 0 b) n m ≡ m
    out m n none = grind (arith, nat_tests)

    by : r ≤ 0 → cond (nat_lt 0 r && nat_lt 0 b) (max w ((b + x) - (t + 1))) w
        ≡ cond (nat_lt 0 r && nat_lt 0 b) (max v ((b + y) - (t + 1))) v
    by none = out w (max w ((b + x) - (t + 1))) none ∙ e ∙ sym (out v (max v ((b + y) - (t + 1))) none)

-- The place after those is raised by what stands in the table.
pub raised-next : (s : Shape) (depth : ℕ) (round best turns before now : ℕ → ℕ) (n : ℕ) → IsNest s →
    IsRound s depth round → ((l : ℕ) → IsUpTo s.loops l → s.depth l ≡ depth → turns l ≡ best (s.header l) - 1) →
    AreRaised s round best turns before now n →
    lifted s round best turns now n ≡ lifted s round best turns before n
raised-next s depth round best turns before now n nest rounds turned are =
    lifted_same (round n) (best n) (turns (round n)) (now n) (before n) (now (s.header (round n)))
    (before (s.header (round n))) (are.later n (omega arith)) (λ some. head (round n) (rounds.here n some).0 (rounds.here n some).1)
  where
    head : (l : ℕ) → IsUpTo s.loops l → s.depth l ≡ depth → now (s.header l) ≡ before (s.header l)
    head l u deep = elim (cases_lt (s.header l) n) as (λ _. now (s.header l) ≡ before (s.header l)) [
      | inl low ↦ are.done (s.header l) low ∙ lift-header s depth round best turns before nest rounds turned l u deep
      | inr high ↦ are.later (s.header l) high
    ]

pub raised-more : (s : Shape) (round best turns before now now2 : ℕ → ℕ) (n value : ℕ) →
    AreRaised s round best turns before now n → value ≡ lifted s round best turns before n → Puts now now2 n value →
    AreRaised s round best turns before now2 (n + 1)
raised-more s round best turns before now now2 n value are is puts = record {
  done = λ p low. elim (cases_eq p n) as (λ _. now2 p ≡ lifted s round best turns before p) [
    | inl e ↦ ap now2 e ∙ puts.here ∙ is ∙ ap (lifted s round best turns before) (sym e)
    | inr differ ↦ puts.others p differ ∙ are.done p (omega (arith, low, differ))
  ];
  later = λ p high. puts.others p (λ e. omega (arith, e, high)) ∙ are.later p (omega (arith, high));
}

-- What stands in the table is small all along.
pub raised-small : (s : Shape) (round best turns before now : ℕ → ℕ) (n p : ℕ) → AreRaised s round best turns before now n →
    ((q : ℕ) → best q ≤ 2 ^ 63) → ((q : ℕ) → before q ≤ 2 ^ 119) → now p ≤ 2 ^ 120
raised-small s round best turns before now n p are short small = elim (cases_lt p n) as (λ _. now p ≤ 2 ^ 120) [
  | inl low ↦ omega (
    arith,
    are.done p low,
    lift-small s round best turns before (2 ^ 119) (2 ^ 63 - 1) small (λ q. omega (arith, short q)) p,
  )
  | inr high ↦ omega (arith, are.later p high, small p)
]

lifted_past : (r w x : ℕ) (b : Bool) → r ≡ 0 → cond (nat_lt 0 r && b) x w ≡ w
lifted_past r w x b e = grind (arith, nat_tests)

item_none : (places : List Place) (p : ℕ) → length places < p → item_at p places ≡ None
item_none places zero past = absurd (omega (arith, past))
item_none places (suc k) past = slice_get_past places k (omega (arith, past))

-- Beyond the end of the table nothing is raised.
pub raised-all : (net : Net) (tables : Tables) (depth : ℕ) (up best turns before : ℕ → ℕ) (now : List ℕ) (n : ℕ) →
    AreUp net (entry tables.scopes.depths.items) depth up → length now ≡ length net.places + 1 →
    length net.places < n → n ≤ length net.places + 1 →
    AreRaised (plain net tables) (round_by net up) best turns before (entry now) n →
    (p : ℕ) → entry now p ≡ lifted (plain net tables) (round_by net up) best turns before p
raised-all net tables depth up best turns before now n are size enough short raised p =
    elim (cases_lt p n) as (λ _. entry now p ≡ lifted (plain net tables) (round_by net up) best turns before p) [
      | inl low ↦ raised.done p low
      | inr high ↦ raised.later p high
          ∙ sym (lifted_past (round_by net up p) (before p) _ (nat_lt 0 (best p)) (none p (omega (arith, high, enough))))
    ]
  where
    none : (p : ℕ) → length net.places < p → round_by net up p ≡ 0
    none p past = ap (λ (found : Option Place). up (scope_of found)) (item_none net.places p past) ∙ are.run
