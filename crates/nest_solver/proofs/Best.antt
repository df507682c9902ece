-- The answers: the leaf shows the greatest value, and the listed counts have it.
use Rattle.std.proofs.Common.{◌≡◌, ℕ, zero, suc, ◌+◌, ◌-◌, ◌^◌, ◌<◌, ◌≤◌, ◌==◌, List, [], ◌∷◌, ◌++◌, get_or, All, AllPairs, refl, sym, ap, ◌∙◌, subst, inl, inr, arith, append-nil}
use Rattle.std.proofs.lemmas.Bool.{cases_eq, cond-true, cond-false, eq-eqb, ne_eqb}
use Rattle.std.proofs.lemmas.Int.{ints}
use Rattle.std.proofs.lemmas.List.Elements.{All-nil, All-cons, All-append, All-get_or, All-head, All-tail}
use Rattle.std.proofs.lemmas.List.Quantifiers.{all_pairs_push}
use lib.IntN.{ℤ, pos, negsuc}
use Rattle.ipet_program.specs.Counts.{listed}
use Rattle.ipet_program.specs.declared.certificate.Count.{Count}
use Rattle.ipet_program.specs.declared.leaf.Weight.{Weight}
use Rattle.nest_solver.specs.Answers.{AreWorths, count_at, counts_to}
use Rattle.nest_solver.specs.LeafWeights.{weight_at, weights_to}
use Rattle.nest_solver.specs.Shape.{Shape, IsNest, IsUpTo, IsRising}
use Rattle.nest_solver.specs.Solved.{weight_of, base_worth, lifted}
use Rattle.nest_solver.specs.Ways.{IsRound, IsSwept}
use Rattle.nest_solver.proofs.Sums.{up_last}
use Rattle.nest_solver.proofs.Forward.{entry-live}
use Rattle.nest_solver.proofs.Worths.{base-dual, base-live, base-zero, lift-entry, lift-zero}
use Rattle.nest_solver.proofs.Lifting.{lift-dual}
use Rattle.nest_solver.proofs.Listed.{weights-all}
use Rattle.nest_solver.proofs.Facing.{base-low, lift-low}

-- ---- Lists by rising number.
pairs_nil : {X : Type 0} (R : X → X → Type 0) → AllPairs R []
pairs_nil R i j d less inside = absurd (omega (arith, inside))

pairs_last : {X : Type 0} (R : X → X → Type 0) (P : X → Type 0) (xs : List X) (y : X) → AllPairs R xs → All P xs →
    ((x : X) → P x → R x y) → AllPairs R (xs ++ y ∷ [])
pairs_last R P xs y pairs all before =
    all_pairs_push R xs y pairs (λ k d less. before (get_or xs k d) (All-get_or P xs k d less all))

-- The multipliers rise by row, and none of them is 0.
abbrev Below : ℕ → Weight → Type 0
Below n weight = weight.row ≤ n

abbrev rises : Weight → Weight → Type 0
rises weight other = weight.row < other.row

weight_rises : (xs : List Weight) (n : ℕ) (times : ℤ) → AllPairs rises xs → All (Below n) xs →
    AllPairs rises (xs ++ weight_at (suc n) times)
weight_rises xs n (pos zero) pairs all = subst (AllPairs rises) (sym (append-nil xs)) pairs
weight_rises xs n (pos (suc a)) pairs all =
    pairs_last rises (Below n) xs (record { row = suc n; times = pos (suc a) }) pairs all (λ x low. omega (arith, low))
weight_rises xs n (negsuc a) pairs all =
    pairs_last rises (Below n) xs (record { row = suc n; times = negsuc a }) pairs all (λ x low. omega (arith, low))

pub weights-rising : (times : ℕ → ℤ) (n : ℕ) → AllPairs (λ weight other. weight.row < other.row) (weights_to times n)
weights-rising times zero = pairs_nil rises
weights-rising times (suc n) =
    weight_rises (weights_to times n) n (times (suc n)) (weights-rising times n)
    (weights-all (Below n) times n (λ row u. u.1))

weight_some : (row : ℕ) (times : ℤ) → All (λ (weight : Weight). weight.times ≡ pos 0 → ⊥) (weight_at row times)
weight_some row (pos zero) = All-nil (λ (weight : Weight). weight.times ≡ pos 0 → ⊥)
weight_some row (pos (suc a)) =
    All-cons (λ (weight : Weight). weight.times ≡ pos 0 → ⊥) (record { row = row; times = pos (suc a) }) []
    (λ e. omega (arith, ints)) (All-nil (λ (weight : Weight). weight.times ≡ pos 0 → ⊥))
weight_some row (negsuc a) =
    All-cons (λ (weight : Weight). weight.times ≡ pos 0 → ⊥) (record { row = row; times = negsuc a }) []
    (λ e. omega (arith, ints)) (All-nil (λ (weight : Weight). weight.times ≡ pos 0 → ⊥))

pub weights-some : (times : ℕ → ℤ) (n : ℕ) → All (λ (weight : Weight). weight.times ≡ pos 0 → ⊥) (weights_to times n)
weights-some times zero = All-nil (λ (weight : Weight). weight.times ≡ pos 0 → ⊥)
weights-some times (suc n) =
    All-append (λ (weight : Weight). weight.times ≡ pos 0 → ⊥) (weights_to times n) (weight_at (suc n) (times (suc n)))
    (weights-some times n) (weight_some (suc n) (times (suc n)))

-- The first multiplier stands first where it isn't 0.
weight_first : (times : ℤ) (n : ℕ) → times ≡ pos (suc n) → weight_at 1 times ≡ record { row = 1; times = times } ∷ []
weight_first times n e = subst (λ (z : ℤ). weight_at 1 z ≡ record { row = 1; times = z } ∷ []) (sym e) refl

pub weights-first : (times : ℕ → ℤ) (total n : ℕ) → times 1 ≡ pos total → 0 < total →
    (more : List Weight) × (weights_to times (suc n) ≡ record { row = 1; times = times 1 } ∷ more)
weights-first times total zero e some =
    ([], weight_first (times 1) (total - 1) (e ∙ ap (λ (k : ℕ). pos k) (let f : total ≡ suc (total - 1) = omega (arith, some) in f)))
weights-first times total (suc n) e some =
    let before = weights-first times total n e some in (
      before.0 ++ weight_at (suc (suc n)) (times (suc (suc n))),
      ap (λ (xs : List Weight). xs ++ weight_at (suc (suc n)) (times (suc (suc n)))) before.1,
    )

-- Counts rise by column, name columns, are above 0, and list what they come from.
abbrev CountBelow : ℕ → Count → Type 0
CountBelow n count = (1 ≤ count.column) × (count.column ≤ n)

abbrev count_rises : Count → Count → Type 0
count_rises count other = count.column < other.column

count_named : (n column number : ℕ) → IsUpTo n column → All (CountBelow n) (count_at column number)
count_named n column zero u = All-nil (CountBelow n)
count_named n column (suc a) u =
    All-cons (CountBelow n) (record { column = column; number = suc a }) [] u (All-nil (CountBelow n))

named_more : (n : ℕ) (count : Count) → CountBelow n count → CountBelow (suc n) count
named_more n count h = omega (arith, h)

all_more : (P Q : Count → Type 0) (xs : List Count) → ((x : Count) → P x → Q x) → All P xs → All Q xs
all_more P Q xs h all = λ k d less. h _ (all k d less)

pub counts-named : (counts : ℕ → ℕ) (n : ℕ) →
    All (λ (count : Count). (1 ≤ count.column) × (count.column ≤ n)) (counts_to counts n)
counts-named counts zero = All-nil (CountBelow 0)
counts-named counts (suc n) =
    All-append (CountBelow (suc n)) (counts_to counts n) (count_at (suc n) (counts (suc n)))
    (all_more (CountBelow n) (CountBelow (suc n)) (counts_to counts n) (named_more n) (counts-named counts n))
    (count_named (suc n) (suc n) (counts (suc n)) (up_last n))

count_more : (xs : List Count) (n number : ℕ) → AllPairs count_rises xs → All (CountBelow n) xs →
    AllPairs count_rises (xs ++ count_at (suc n) number)
count_more xs n zero pairs all = subst (AllPairs count_rises) (sym (append-nil xs)) pairs
count_more xs n (suc a) pairs all =
    pairs_last count_rises (CountBelow n) xs (record { column = suc n; number = suc a }) pairs all
    (λ x low. omega (arith, low))

pub counts-rising : (counts : ℕ → ℕ) (n : ℕ) → AllPairs (λ count other. count.column < other.column) (counts_to counts n)
counts-rising counts zero = pairs_nil count_rises
counts-rising counts (suc n) =
    count_more (counts_to counts n) n (counts (suc n)) (counts-rising counts n) (counts-named counts n)

count_taken : (column number : ℕ) → All (λ (count : Count). 0 < count.number) (count_at column number)
count_taken column zero = All-nil (λ (count : Count). 0 < count.number)
count_taken column (suc a) =
    All-cons (λ (count : Count). 0 < count.number) (record { column = column; number = suc a }) []
    (omega arith) (All-nil (λ (count : Count). 0 < count.number))

pub counts-taken : (counts : ℕ → ℕ) (n : ℕ) → All (λ (count : Count). 0 < count.number) (counts_to counts n)
counts-taken counts zero = All-nil (λ (count : Count). 0 < count.number)
counts-taken counts (suc n) =
    All-append (λ (count : Count). 0 < count.number) (counts_to counts n) (count_at (suc n) (counts (suc n)))
    (counts-taken counts n) (count_taken (suc n) (counts (suc n)))

listed_here : (count : Count) (more : List Count) (column : ℕ) → count.column ≡ column →
    listed (count ∷ more) column ≡ count.number
listed_here count more column e =
    cond-true (count.column == column) count.number (listed more column) (eq-eqb count.column column e)

listed_past : (count : Count) (more : List Count) (column : ℕ) → (count.column ≡ column → ⊥) →
    listed (count ∷ more) column ≡ listed more column
listed_past count more column n =
    cond-false (count.column == column) count.number (listed more column) (ne_eqb count.column column n)

-- A count that another list doesn't have is looked for behind it, and one that it has there.
listed_behind : (xs ys : List Count) (n column : ℕ) → All (CountBelow n) xs → n < column →
    listed (xs ++ ys) column ≡ listed ys column
listed_behind [] ys n column all less = refl
listed_behind (x ∷ xs) ys n column all less =
    listed_past x (xs ++ ys) column (λ e. omega (arith, e, All-head (CountBelow n) x xs all, less))
    ∙ listed_behind xs ys n column (All-tail (CountBelow n) x xs all) less

listed_front : (xs ys : List Count) (column : ℕ) → listed ys column ≡ 0 →
    listed (xs ++ ys) column ≡ listed xs column
listed_front [] ys column none = none
listed_front (x ∷ xs) ys column none =
    elim (cases_eq x.column column) as (λ _. listed (x ∷ xs ++ ys) column ≡ listed (x ∷ xs) column) [
      | inl e ↦ listed_here x (xs ++ ys) column e ∙ sym (listed_here x xs column e)
      | inr n ↦ listed_past x (xs ++ ys) column n ∙ listed_front xs ys column none ∙ sym (listed_past x xs column n)
    ]

listed_one : (column number : ℕ) → listed (count_at column number) column ≡ number
listed_one column zero = refl
listed_one column (suc a) = listed_here (record { column = column; number = suc a }) [] column refl

listed_other : (column number other : ℕ) → (column ≡ other → ⊥) → listed (count_at column number) other ≡ 0
listed_other column zero other n = refl
listed_other column (suc a) other n = listed_past (record { column = column; number = suc a }) [] other n

pub counts-listed : (counts : ℕ → ℕ) (n column : ℕ) → IsUpTo n column →
    listed (counts_to counts n) column ≡ counts column
counts-listed counts zero column u = absurd (omega (arith, u))
counts-listed counts (suc n) column u =
    elim (cases_eq column (suc n))
    as (λ _. listed (counts_to counts n ++ count_at (suc n) (counts (suc n))) column ≡ counts column) [
      | inl e ↦ subst
          (λ (c : ℕ). listed (counts_to counts n ++ count_at (suc n) (counts (suc n))) c ≡ counts c) (sym e)
          (listed_behind (counts_to counts n) (count_at (suc n) (counts (suc n))) n (suc n) (counts-named counts n)
          (omega arith)
          ∙ listed_one (suc n) (counts (suc n)))
      | inr differ ↦
          listed_front (counts_to counts n) (count_at (suc n) (counts (suc n))) column
          (listed_other (suc n) (counts (suc n)) column (λ e. differ (sym e)))
          ∙ counts-listed counts n column (omega (arith, u, differ))
    ]

-- ---- Worths.
pub worths-base : (s : Shape) (value turns rank round best choice : ℕ → ℕ) (total : ℕ) → IsNest s → IsRising s rank →
    ((p : ℕ) → rank p ≤ s.arcs) → ((i : ℕ) → IsUpTo s.arcs i → weight_of s value turns i ≤ 2 ^ 63) →
    ((p : ℕ) → best p ≤ 2 ^ 63) → IsSwept s 0 round (weight_of s value turns) best choice →
    total ≡ weight_of s value turns 1 + best (s.to 1) - 1 →
    AreWorths s (weight_of s value turns) turns 0 total (base_worth s (2 ^ 63) rank best)
worths-base s value turns rank round best choice total nest rises high light short swept is =
    let live = entry-live s round (weight_of s value turns) best choice nest swept in
    record {
      dual = base-dual s (2 ^ 63) rank round (weight_of s value turns) best choice turns nest rises high light swept;
      shown = omega (
        arith,
        is,
        live,
        base-zero s (2 ^ 63) rank best,
        base-live s (2 ^ 63) rank best (s.to 1) nest.begins live,
      );
      small = λ p. base-low s rank best p short;
    }

pub worths-level : (s : Shape) (weight turns round best choice worth : ℕ → ℕ) (depth total : ℕ) → IsNest s →
    AreWorths s weight turns depth total worth → IsRound s (suc depth) round →
    IsSwept s (suc depth) round weight best choice → ((p : ℕ) → best p ≤ 2 ^ 63) →
    ((l : ℕ) → IsUpTo s.loops l → s.depth l ≡ suc depth → turns l ≡ best (s.header l) - 1) →
    AreWorths s weight turns (suc depth) total (lifted s round best turns worth)
worths-level s weight turns round best choice worth depth total nest are rounds swept short turned =
    record {
      dual = lift-dual s weight turns worth depth round best choice nest are.dual rounds swept turned;
      shown = omega (
        arith,
        are.shown,
        lift-zero s (suc depth) round best turns worth nest rounds,
        lift-entry s (suc depth) round best turns worth nest rounds turned,
      );
      small = λ p. lift-low s round best turns worth depth p short are.small;
    }
