-- How often arcs stand in ways, as sums over all arcs.
use Rattle.std.proofs.Common.{◌≡◌, ℕ, ◌+◌, ◌-◌, ◌*◌, ◌==◌, List, [], ◌∷◌, sum_by, refl, sym, ap, ◌∙◌, arith}
use Rattle.std.proofs.lemmas.Bool.Decides.{nat_tests}
use Rattle.std.proofs.lemmas.List.Sums.{sum_by-cons}
use Rattle.ipet_program.specs.Sums.{sum_to}
use Rattle.nest_solver.specs.Shape.{Shape, IsUpTo}
use Rattle.nest_solver.specs.Counted.{bit, times, entered, added, IsCounted}
use Rattle.nest_solver.proofs.Sums.{sum-same, sum-add, sum-scale, sum-none, sum-only, sum-swap}

pub bit_same : (a b : ℕ) → a ≡ b → bit (a == b) ≡ 1
bit_same a b e = grind (arith, nat_tests)

pub bit_other : (a b : ℕ) → (a ≡ b → ⊥) → bit (a == b) ≡ 0
bit_other a b n = grind (arith, nat_tests)

-- What holds of each number of a list.
abbrev pub Each : (ℕ → Type 0) → List ℕ → Type 0
Each P [] = Unit {0}
Each P (k ∷ ks) = P k × Each P ks

-- A sum over all arcs of f times how often each stands in a list is the sum of f over the list.
one_arc : (n k : ℕ) (f : ℕ → ℕ) → IsUpTo n k → sum_to n (λ i. f i * bit (k == i)) ≡ f k
one_arc n k f u =
    sum-only n k (λ i. f i * bit (k == i)) u
    (λ i v differ. omega (arith, ap (λ b. f i * b) (bit_other k i (λ e. differ (sym e)))))
    ∙ omega (arith, ap (λ b. f k * b) (bit_same k k refl))

pub dot-times : (n : ℕ) (f : ℕ → ℕ) (ks : List ℕ) → Each (IsUpTo n) ks →
    sum_to n (λ i. f i * times ks i) ≡ sum_by f ks
dot-times n f [] h = sum-none n (λ i. f i * 0) (λ i u. omega arith)
dot-times n f (k ∷ ks) h =
    omega (
      arith,
      sum_by-cons f k ks,
      one_arc n k f h.0,
      dot-times n f ks h.1,
      sum-add n (λ i. f i * bit (k == i)) (λ i. f i * times ks i),
      sum-same n (λ i. f i * (bit (k == i) + times ks i)) (λ i. f i * bit (k == i) + f i * times ks i)
          (λ i u. omega arith),
    )

-- The same of what turns add.
pub dot-added : (s : Shape) (f often : ℕ → ℕ) (ways : ℕ → List ℕ) →
    ((l : ℕ) → IsUpTo s.loops l → Each (IsUpTo s.arcs) (ways l)) →
    sum_to s.arcs (λ i. f i * added s often ways i)
    ≡ sum_to s.loops (λ l. ((s.bound l - 1) * often l) * sum_by f (ways l))
dot-added s f often ways inside =
    sum-same s.arcs (λ i. f i * added s often ways i)
    (λ i. sum_to s.loops (λ l. f i * (((s.bound l - 1) * often l) * times (ways l) i)))
    (λ i u. sym (sum-scale s.loops (f i) (λ l. ((s.bound l - 1) * often l) * times (ways l) i)))
    ∙ sum-swap s.arcs s.loops (λ i l. f i * (((s.bound l - 1) * often l) * times (ways l) i))
    ∙ sum-same s.loops
    (λ l. sum_to s.arcs (λ i. f i * (((s.bound l - 1) * often l) * times (ways l) i)))
    (λ l. ((s.bound l - 1) * often l) * sum_by f (ways l))
    (λ l u. one l ∙ ap (λ n. ((s.bound l - 1) * often l) * n) (dot-times s.arcs f (ways l) (inside l u)))
  where
    turn : (a m t : ℕ) → a * (m * t) ≡ m * (a * t)
    turn a m t = omega arith

    one : (l : ℕ) → sum_to s.arcs (λ i. f i * (((s.bound l - 1) * often l) * times (ways l) i))
        ≡ ((s.bound l - 1) * often l) * sum_to s.arcs (λ i. f i * times (ways l) i)
    one l = sum-same s.arcs (λ i. f i * (((s.bound l - 1) * often l) * times (ways l) i))
        (λ i. ((s.bound l - 1) * often l) * (f i * times (ways l) i))
        (λ i u. turn (f i) ((s.bound l - 1) * often l) (times (ways l) i))
        ∙ sum-scale s.arcs ((s.bound l - 1) * often l) (λ i. f i * times (ways l) i)

-- And of counts.
pub dot-counted : (s : Shape) (f : ℕ → ℕ) (path : List ℕ) (ways : ℕ → List ℕ) (counts : ℕ → ℕ) →
    Each (IsUpTo s.arcs) path → ((l : ℕ) → IsUpTo s.loops l → Each (IsUpTo s.arcs) (ways l)) →
    IsCounted s path ways counts →
    sum_to s.arcs (λ i. f i * counts i)
    ≡ sum_by f path + sum_to s.loops (λ l. ((s.bound l - 1) * entered s counts l) * sum_by f (ways l))
dot-counted s f path ways counts inside all counted =
    omega (
      arith,
      sum-same s.arcs (λ i. f i * counts i)
          (λ i. f i * times path i + f i * added s (entered s counts) ways i)
          (λ i u. ap (λ n. f i * n) (counted i u) ∙ omega arith),
      sum-add s.arcs (λ i. f i * times path i) (λ i. f i * added s (entered s counts) ways i),
      dot-times s.arcs f path inside,
      dot-added s f (entered s counts) ways all,
    )
