-- Against the arcs: what holds of a place where it holds of all places behind its arcs, back arcs left out.
use Rattle.std.proofs.Common.{◌≡◌, ◌⊎◌, ℕ, zero, suc, ◌+◌, ◌<◌, ◌≤◌, true, false, List, [], ◌∷◌, sum_by, refl, sym, ap, ◌∙◌, inl, inr, arith, true≢false}
use Rattle.ipet_program.specs.Sums.{sum_to}
use Rattle.nest_solver.specs.Shape.{Shape, IsNest, IsUpTo, IsAhead, is_back}
use Rattle.nest_solver.specs.Shape.IsAhead.{start, along}
use Rattle.nest_solver.specs.Ways.{IsSwept, IsWay, HasRoom, closes, goes_on, reach}
use Rattle.nest_solver.proofs.Sums.{sum-part}
use Rattle.nest_solver.proofs.Arcs.{goes_on-out, goes_on-in, closes-out, closes-0, not_back_from-0}
use Rattle.nest_solver.proofs.Solving.{reach-cases, reach-closes, reach-goes}
use Rattle.std.proofs.lemmas.Bool.{cases_lt}
use Rattle.std.proofs.lemmas.List.Sums.{sum_by-cons}

-- What holds of the ends of a place's arcs, back arcs left out.
abbrev pub HoldsBehind : (s : Shape) → (ℕ → Type 0) → ℕ → Type 0
HoldsBehind s P p = (i : ℕ) → IsUpTo s.arcs i → s.from i ≡ p → 0 < s.to i → is_back s i ≡ false → P (s.to i)

forward_by : (s : Shape) → IsNest s → (P : ℕ → Type 0) →
    ((p : ℕ) → IsUpTo s.places p → HoldsBehind s P p → P p) →
    (n p : ℕ) → IsUpTo s.places p → (rank : ℕ → ℕ) →
    ((i : ℕ) → IsUpTo s.arcs i → 0 < s.from i → 0 < s.to i → is_back s i ≡ false →
    rank (s.from i) < rank (s.to i)) →
    sum_to s.places rank < rank p + n → P p
forward_by s nest P step zero p u rank rises high =
    absurd (omega (arith, high, sum-part s.places p rank u))
forward_by s nest P step (suc n) p u rank rises high =
    step p u (λ i v e low forward.
    let from_low : 0 < s.from i = omega (arith, e, u) in
    forward_by s nest P step n (s.to i) (low, nest.ends i v) rank rises
    (omega (arith, rises i v from_low low forward, ap rank e, high)))

pub forward : (s : Shape) → IsNest s → (P : ℕ → Type 0) →
    ((p : ℕ) → IsUpTo s.places p → HoldsBehind s P p → P p) → (p : ℕ) → IsUpTo s.places p → P p
forward s nest P step p u =
    forward_by s nest P step (suc (sum_to s.places nest.rank)) p u nest.rank nest.rises (omega arith)

-- Only places have ways.
pub live-up : (s : Shape) → IsNest s → (depth : ℕ) (round weight best choice : ℕ → ℕ) →
    IsSwept s depth round weight best choice → (p : ℕ) → 0 < best p → IsUpTo s.places p
live-up s nest depth round weight best choice swept p some =
    elim (cases_lt 0 p) as (λ _. IsUpTo s.places p) [
      | inl low ↦ (low, omega (arith, swept.leaves p some, nest.starts (choice p) (swept.up p some)))
      | inr none ↦ absurd (never (omega (arith, none, swept.leaves p some)) (reach-cases s depth round best (choice p) (swept.leads p some)))
    ]
  where
    never : s.from (choice p) ≡ 0 →
        (closes s depth (choice p) ≡ true)
        ⊎ ((goes_on s depth round (choice p) ≡ true) × (reach s depth round best (choice p) ≡ best (s.to (choice p)))) → ⊥
    never nought (inr g) = omega (arith, (goes_on-out s depth round (choice p) g.0).from, nought)
    never nought (inl c) = elim (closes-out s depth (choice p) c) as (λ _. ⊥) [
      | inl z ↦ omega (
        arith,
        ap s.to (nest.only (choice p) (swept.up p some) nought),
        z.0,
        nest.begins,
      )
      | inr back ↦ true≢false (sym back.1 ∙ not_back_from-0 s nest (choice p) nought)
    ]

-- Two sweeps of one depth with the same weights find the same.
most_of : (s : Shape) → IsNest s → (depth : ℕ) (round weight best choice other another : ℕ → ℕ) →
    IsSwept s depth round weight best choice → IsSwept s depth round weight other another →
    (p : ℕ) → IsUpTo s.places p → HoldsBehind s (λ q. best q ≤ other q) p → best p ≤ other p
most_of s nest depth round weight best choice other another swept again p u behind =
    elim (cases_lt 0 (best p)) as (λ _. best p ≤ other p) [
      | inr none ↦ omega (arith, none)
      | inl some ↦
          let c = choice p in
          let here : best p ≡ weight c + reach s depth round best c = swept.tight p some in
          let more : reach s depth round best c ≤ reach s depth round other c =
          by some c (swept.up p some) (swept.leaves p some) (reach-cases s depth round best c (swept.leads p some)) in
          let there : weight c + reach s depth round other c ≤ other (s.from c) =
          again.closed c (swept.up p some) (omega (arith, more, swept.leads p some)) in
          omega (arith, here, more, there, ap other (swept.leaves p some))
    ]
  where
    by : 0 < best p → (c : ℕ) → IsUpTo s.arcs c → s.from c ≡ p →
        (closes s depth c ≡ true)
        ⊎ ((goes_on s depth round c ≡ true) × (reach s depth round best c ≡ best (s.to c))) →
        reach s depth round best c ≤ reach s depth round other c
    by some c v e (inl ends) =
        omega (arith, reach-closes s depth round best c ends, reach-closes s depth round other c ends)
    by some c v e (inr g) =
        let on = goes_on-out s depth round c g.0 in
        omega (
          arith,
          g.1,
          reach-goes s depth round other c g.0,
          behind c v e on.to on.forward,
        )

swept_most : (s : Shape) → IsNest s → (depth : ℕ) (round weight best choice other another : ℕ → ℕ) →
    IsSwept s depth round weight best choice → IsSwept s depth round weight other another →
    (p : ℕ) → best p ≤ other p
swept_most s nest depth round weight best choice other another swept again p =
    elim (cases_lt 0 (best p)) as (λ _. best p ≤ other p) [
      | inr none ↦ omega (arith, none)
      | inl some ↦ forward s nest (λ q. best q ≤ other q)
          (most_of s nest depth round weight best choice other another swept again) p
          (live-up s nest depth round weight best choice swept p some)
    ]

pub swept-same : (s : Shape) (depth : ℕ) (round weight best choice other another : ℕ → ℕ) → IsNest s →
    IsSwept s depth round weight best choice → IsSwept s depth round weight other another →
    (p : ℕ) → best p ≡ other p
swept-same s depth round weight best choice other another nest swept again p =
    omega (
      arith,
      swept_most s nest depth round weight best choice other another swept again p,
      swept_most s nest depth round weight other another best choice again swept p,
    )

-- A place from which a way out is known has one from the first place on.
ahead_live : (s : Shape) → IsNest s → (round weight best choice : ℕ → ℕ) →
    IsSwept s 0 round weight best choice → (p : ℕ) → IsAhead s p → 0 < best p → 0 < best (s.to 1)
ahead_live s nest round weight best choice swept _ start h = h
ahead_live s nest round weight best choice swept _ (along i u low forward before) h =
    let to_up = live-up s nest 0 round weight best choice swept (s.to i) h in
    let on = goes_on-in s 0 round i low to_up.0 forward (inl refl) in
    let is = reach-goes s 0 round best i on in
    ahead_live s nest round weight best choice swept (s.from i) before
    (omega (arith, swept.closed i u (omega (arith, is, h)), is, h))

pub entry-live : (s : Shape) (round weight best choice : ℕ → ℕ) → IsNest s →
    IsSwept s 0 round weight best choice → 0 < best (s.to 1)
entry-live s round weight best choice nest swept =
    let is = reach-closes s 0 round best nest.last (closes-0 s nest.last nest.ends_run) in
    ahead_live s nest round weight best choice swept (s.from nest.last) nest.comes
    (omega (arith, is, swept.closed nest.last nest.last_up (omega (arith, is))))

-- From each place with a known way such a way goes, and it weighs what is known, less 1.
pub record IsLongest (s : Shape) (depth : ℕ) (round weight best : ℕ → ℕ) (p : ℕ) : Type 0 where
  pub way : List ℕ
  pub goes : IsWay s depth round p way
  pub weighs : sum_by weight way + 1 ≡ best p

longest_at : (s : Shape) → IsNest s → (depth : ℕ) (round weight best choice : ℕ → ℕ) →
    IsSwept s depth round weight best choice → (p : ℕ) → IsUpTo s.places p →
    HoldsBehind s (λ q. 0 < best q → IsLongest s depth round weight best q) p →
    0 < best p → IsLongest s depth round weight best p
longest_at s nest depth round weight best choice swept p u behind some =
    by (choice p) (swept.up p some) (swept.leaves p some) (swept.leads p some) (swept.tight p some)
    (reach-cases s depth round best (choice p) (swept.leads p some))
  where
    by : (c : ℕ) → IsUpTo s.arcs c → s.from c ≡ p → 0 < reach s depth round best c →
        best p ≡ weight c + reach s depth round best c →
        (closes s depth c ≡ true)
        ⊎ ((goes_on s depth round c ≡ true) × (reach s depth round best c ≡ best (s.to c))) →
        IsLongest s depth round weight best p
    by c v e low tight (inl ends) = record {
      way = c ∷ [];
      goes = (v, e, inl (ends, refl));
      weighs = omega (arith, tight, reach-closes s depth round best c ends);
    }
    by c v e low tight (inr g) =
        let on = goes_on-out s depth round c g.0 in
        let more = behind c v e on.to on.forward (omega (arith, low, g.1)) in
        record {
          way = c ∷ more.way;
          goes = (v, e, inr (g.0, more.goes));
          weighs = omega (arith, sum_by-cons weight c more.way, tight, g.1, more.weighs);
        }

pub longest : (s : Shape) (depth : ℕ) (round weight best choice : ℕ → ℕ) → IsNest s →
    IsSwept s depth round weight best choice → (p : ℕ) → 0 < best p →
    IsLongest s depth round weight best p
longest s depth round weight best choice nest swept p some =
    forward s nest (λ q. 0 < best q → IsLongest s depth round weight best q)
    (longest_at s nest depth round weight best choice swept) p
    (live-up s nest depth round weight best choice swept p some) some

-- No way weighs more than there is room for.
small_at : (s : Shape) → IsNest s → (depth limit : ℕ) (round weight best choice : ℕ → ℕ) →
    IsSwept s depth round weight best choice → (room : HasRoom s depth round weight limit) →
    (p : ℕ) → IsUpTo s.places p → HoldsBehind s (λ q. best q ≤ 1 + room.most q) p →
    best p ≤ 1 + room.most p
small_at s nest depth limit round weight best choice swept room p u behind =
    elim (cases_lt 0 (best p)) as (λ _. best p ≤ 1 + room.most p) [
      | inr none ↦ omega (arith, none)
      | inl some ↦ by (choice p) (swept.up p some) (swept.leaves p some) (swept.tight p some)
          (reach-cases s depth round best (choice p) (swept.leads p some))
    ]
  where
    by : (c : ℕ) → IsUpTo s.arcs c → s.from c ≡ p → best p ≡ weight c + reach s depth round best c →
        (closes s depth c ≡ true)
        ⊎ ((goes_on s depth round c ≡ true) × (reach s depth round best c ≡ best (s.to c))) →
        best p ≤ 1 + room.most p
    by c v e tight (inl ends) =
        omega (arith, tight, reach-closes s depth round best c ends, room.ends c v ends, ap room.most e)
    by c v e tight (inr g) =
        let on = goes_on-out s depth round c g.0 in
        omega (arith, tight, g.1, behind c v e on.to on.forward, room.goes c v g.0, ap room.most e)

pub swept-small : (s : Shape) (depth limit : ℕ) (round weight best choice : ℕ → ℕ) → IsNest s →
    IsSwept s depth round weight best choice → (room : HasRoom s depth round weight limit) →
    (p : ℕ) → best p ≤ 1 + room.most p
swept-small s depth limit round weight best choice nest swept room p =
    elim (cases_lt 0 (best p)) as (λ _. best p ≤ 1 + room.most p) [
      | inr none ↦ omega (arith, none)
      | inl some ↦ forward s nest (λ q. best q ≤ 1 + room.most q)
          (small_at s nest depth limit round weight best choice swept room) p
          (live-up s nest depth round weight best choice swept p some)
    ]
