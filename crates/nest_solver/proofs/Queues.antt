-- Arcs put into the queue and taken from it.
use Rattle.std.proofs.Common.{◌≡◌, ℕ, zero, suc, ◌+◌, ◌-◌, ◌<◌, ◌≤◌, ◌==◌, ◌&&◌, ◌||◌, nat_lt, Bool, true, false, List, [], ◌∷◌, ◌++◌, length, refl, sym, ap, ◌∙◌, subst, inl, inr, arith, length-append, true≢false}
use Rattle.std.proofs.lemmas.Bool.{cases_eq, cases_lt}
use Rattle.std.proofs.lemmas.Bool.Decides.{nat_tests}
use Rattle.std.proofs.lemmas.List.{get_or_append_left, get_or_push}
use Rattle.ipet_program.specs.Sums.{sum_to}
use Rattle.nest_solver.specs.Counted.{bit}
use Rattle.nest_solver.specs.Nets.{entry}
use Rattle.nest_solver.specs.Orders.{Arcs, IsQueue, is_pending, waits}
use Rattle.nest_solver.specs.Shape.{IsUpTo}
use Rattle.nest_solver.proofs.Puts.{Puts}
use Rattle.nest_solver.proofs.Sums.{sum-part, sum-same, up_last, up_more}

-- Two sums that differ at one number.
pub sum-change : (n k : ℕ) (f g : ℕ → ℕ) → IsUpTo n k → ((i : ℕ) → IsUpTo n i → (i ≡ k → ⊥) → g i ≡ f i) →
    sum_to n g + f k ≡ sum_to n f + g k
sum-change zero k f g up same = absurd (omega (arith, up))
sum-change (suc n) k f g up same =
    elim (cases_eq k (suc n)) as (λ _. sum_to n g + g (suc n) + f k ≡ sum_to n f + f (suc n) + g k) [
      | inl e ↦ omega (
        arith,
        ap f e,
        ap g e,
        sum-same n f g (λ i u. sym (same i (up_more n i u) (λ is. omega (arith, is, e, u)))),
      )
      | inr differ ↦ omega (
        arith,
        same (suc n) (up_last n) (λ is. differ (sym is)),
        sum-change n k f g (omega (arith, up, differ)) (λ i u. same i (up_more n i u)),
      )
    ]

-- An entry of the queue is taken or pending.
pending_none : (place done : ℕ) → ((place == 0) || nat_lt done place) ≡ false → (0 < place) × (place ≤ done)
pending_none place done e = grind (arith, nat_tests)

pending_new : (place done : ℕ) → done < place → ((place == 0) || nat_lt done place) ≡ true
pending_new place done h = grind (arith, nat_tests)

pending_free : (place done : ℕ) → place ≡ 0 → ((place == 0) || nat_lt done place) ≡ true
pending_free place done h = grind (arith, nat_tests)

pending_old : (place done : ℕ) → 0 < place → place ≤ done → ((place == 0) || nat_lt done place) ≡ false
pending_old place done h k = grind (arith, nat_tests)

bit_both : (from p : ℕ) (b : Bool) → from ≡ p → bit ((from == p) && b) ≡ 0 → b ≡ false
bit_both from p true e h = grind (arith, nat_tests)
bit_both from p false e h = refl

bit_none : (from p : ℕ) (b : Bool) → (from ≡ p → ⊥) → bit ((from == p) && b) ≡ 0
bit_none from p b differ = grind (arith, nat_tests)

bit_at : (from p : ℕ) (b : Bool) → from ≡ p → bit ((from == p) && b) ≡ bit b
bit_at from p b same = grind (arith, nat_tests)

-- From where nothing is pending all arcs were taken.
pub all-taken : (a : Arcs) (place : ℕ → ℕ) (done p j : ℕ) → waits a place done p ≡ 0 → IsUpTo a.count j →
    a.from j ≡ p → (0 < place j) × (place j ≤ done)
all-taken a place done p j none up same =
    pending_none (place j) done (bit_both (a.from j) p (is_pending place done j) same
    (omega (arith, none, sum-part a.count j (λ i. bit ((a.from i == p) && is_pending place done i)) up)))

-- A new entry at the end of the queue is pending, as it was before.
pub waits-put : (a : Arcs) (place place2 : ℕ → ℕ) (done size n p : ℕ) → done ≤ size → place n ≡ 0 →
    Puts place place2 n (size + 1) → waits a place2 done p ≡ waits a place done p
waits-put a place place2 done size n p low fresh puts =
    sum-same a.count (λ i. bit ((a.from i == p) && is_pending place2 done i))
    (λ i. bit ((a.from i == p) && is_pending place done i))
    (λ i u. ap (λ (b : Bool). bit ((a.from i == p) && b)) (same i))
  where
    same : (i : ℕ) → is_pending place2 done i ≡ is_pending place done i
    same i = elim (cases_eq i n) as (λ _. is_pending place2 done i ≡ is_pending place done i) [
      | inl e ↦ pending_new (place2 i) done (omega (arith, ap place2 e, puts.here, low))
          ∙ sym (pending_free (place i) done (ap place e ∙ fresh))
      | inr differ ↦ ap (λ (k : ℕ). (k == 0) || nat_lt done k) (puts.others i differ)
    ]

bit_some : (n : ℕ) → 0 < n → bit (nat_lt 0 n) ≡ 1
bit_some n h = grind (arith, nat_tests)

bit_zero : (n : ℕ) → n ≡ 0 → bit (nat_lt 0 n) ≡ 0
bit_zero n h = grind (arith, nat_tests)

pub queue-put : (a : Arcs) (order : List ℕ) (place place2 left : ℕ → ℕ) (done n : ℕ) →
    IsQueue a order place left done → IsUpTo a.count n → place n ≡ 0 →
    (a.back n ≡ false → left (a.to n) ≡ 0) → Puts place place2 n (length order + 1) →
    IsQueue a (order ++ n ∷ []) place2 left done
queue-put a order place place2 left done n queue up fresh ready puts = record {
  up = up_all;
  told = told;
  most = most;
  there = there;
  behind = behind;
  count = omega (
    arith,
    long,
    queue.count,
    sum-change a.count n (λ i. bit (nat_lt 0 (place i))) (λ i. bit (nat_lt 0 (place2 i))) up
        (λ i u differ. ap (λ (k : ℕ). bit (nat_lt 0 k)) (puts.others i differ)),
    bit_zero (place n) fresh,
    bit_some (place2 n) (omega (arith, puts.here)),
  );
  taken = omega (arith, long, queue.taken);
  waiting = λ p some. queue.waiting p some
      ∙ sym (waits-put a place place2 done (length order) n p queue.taken fresh puts);
  zero = queue.zero;
}
  where
    long : length (order ++ n ∷ []) ≡ length order + 1
    long = length-append order (n ∷ [])

    before : (k : ℕ) → k < length order → entry (order ++ n ∷ []) k ≡ entry order k
    before k low = get_or_append_left order (n ∷ []) 0 k low

    last : (k : ℕ) → k ≡ length order → entry (order ++ n ∷ []) k ≡ n
    last k e = get_or_push order n 0 k (sym e)

    old : (k : ℕ) → k < length order → entry order k ≡ n → ⊥
    old k low e = omega (arith, queue.told k low, ap place e, fresh)

    up_all : (k : ℕ) → k < length (order ++ n ∷ []) → IsUpTo a.count (entry (order ++ n ∷ []) k)
    up_all k low = elim (cases_eq k (length order)) as (λ _. IsUpTo a.count (entry (order ++ n ∷ []) k)) [
      | inl e ↦ subst (λ (i : ℕ). IsUpTo a.count i) (sym (last k e)) up
      | inr differ ↦ let less : k < length order = omega (arith, low, long, differ) in
          subst (λ (i : ℕ). IsUpTo a.count i) (sym (before k less)) (queue.up k less)
    ]

    told : (k : ℕ) → k < length (order ++ n ∷ []) → place2 (entry (order ++ n ∷ []) k) ≡ k + 1
    told k low = elim (cases_eq k (length order)) as (λ _. place2 (entry (order ++ n ∷ []) k) ≡ k + 1) [
      | inl e ↦ omega (arith, ap place2 (last k e), puts.here, e)
      | inr differ ↦ let less : k < length order = omega (arith, low, long, differ) in
          ap place2 (before k less) ∙ puts.others (entry order k) (old k less) ∙ queue.told k less
    ]

    most : (i : ℕ) → IsUpTo a.count i → place2 i ≤ length (order ++ n ∷ [])
    most i u = elim (cases_eq i n) as (λ _. place2 i ≤ length (order ++ n ∷ [])) [
      | inl e ↦ omega (arith, ap place2 e, puts.here, long)
      | inr differ ↦ omega (arith, puts.others i differ, queue.most i u, long)
    ]

    there : (i : ℕ) → IsUpTo a.count i → 0 < place2 i → entry (order ++ n ∷ []) (place2 i - 1) ≡ i
    there i u some = elim (cases_eq i n) as (λ _. entry (order ++ n ∷ []) (place2 i - 1) ≡ i) [
      | inl e ↦ last (place2 i - 1) (omega (arith, ap place2 e, puts.here)) ∙ sym e
      | inr differ ↦ before (place2 i - 1) (omega (arith, puts.others i differ, queue.most i u, some))
          ∙ ap (λ (k : ℕ). entry order (k - 1)) (puts.others i differ)
          ∙ queue.there i u (omega (arith, puts.others i differ, some))
    ]

    not_new : (j : ℕ) → 0 < place j → j ≡ n → ⊥
    not_new j some e = omega (arith, some, ap place e, fresh)

    behind : (i j : ℕ) → IsUpTo a.count i → IsUpTo a.count j → 0 < place2 i → a.back i ≡ false → 0 < a.to i →
        a.from j ≡ a.to i → (0 < place2 j) × (place2 j < place2 i)
    behind i j u v some forward goes same = elim (cases_eq i n) as (λ _. (0 < place2 j) × (place2 j < place2 i)) [
      | inl e ↦
          let nothing : left (a.to i) ≡ 0 = ap (λ (k : ℕ). left (a.to k)) e
          ∙ ready (subst (λ (k : ℕ). a.back k ≡ false) e forward) in
          let taken = all-taken a place done (a.to i) j (sym (queue.waiting (a.to i) goes) ∙ nothing) v same in
          let is = puts.others j (not_new j taken.0) in
          (omega (arith, is, taken), omega (arith, is, taken, ap place2 e, puts.here, queue.taken))
      | inr differ ↦
          let old_place = puts.others i differ in
          let was = queue.behind i j u v (omega (arith, old_place, some)) forward goes same in
          let is = puts.others j (not_new j was.0) in
          (omega (arith, is, was), omega (arith, is, was, old_place))
    ]

pending_same : (place done : ℕ) → (place ≡ done + 1 → ⊥) →
    ((place == 0) || nat_lt (done + 1) place) ≡ ((place == 0) || nat_lt done place)
pending_same place done differ = elim (cases_lt (done + 1) place)
    as (λ _. ((place == 0) || nat_lt (done + 1) place) ≡ ((place == 0) || nat_lt done place)) [
      | inl more ↦ pending_new place (done + 1) more ∙ sym (pending_new place done (omega (arith, more)))
      | inr less ↦ elim (cases_eq place 0)
          as (λ _. ((place == 0) || nat_lt (done + 1) place) ≡ ((place == 0) || nat_lt done place)) [
            | inl none ↦ pending_free place (done + 1) none ∙ sym (pending_free place done none)
            | inr some ↦ pending_old place (done + 1) (omega (arith, some)) less
                ∙ sym (pending_old place done (omega (arith, some)) (omega (arith, less, differ)))
          ]
    ]

-- The arc that is taken next is the only one that isn't pending any more.
still_pending : (a : Arcs) (order : List ℕ) (place left : ℕ → ℕ) (done n : ℕ) → IsQueue a order place left done →
    entry order done ≡ n → (i : ℕ) → IsUpTo a.count i → (i ≡ n → ⊥) →
    is_pending place (done + 1) i ≡ is_pending place done i
still_pending a order place left done n queue e i u differ =
    pending_same (place i) done (λ is. differ
    (sym (queue.there i u (omega (arith, is))) ∙ ap (λ (k : ℕ). entry order k) (omega (arith, is)) ∙ e))

pub waits-other : (a : Arcs) (order : List ℕ) (place left : ℕ → ℕ) (done n p : ℕ) → IsQueue a order place left done →
    entry order done ≡ n → (a.from n ≡ p → ⊥) → waits a place (done + 1) p ≡ waits a place done p
waits-other a order place left done n p queue e other =
    sum-same a.count (λ i. bit ((a.from i == p) && is_pending place (done + 1) i))
    (λ i. bit ((a.from i == p) && is_pending place done i)) (λ i u. same i u)
  where
    same : (i : ℕ) → IsUpTo a.count i → bit ((a.from i == p) && is_pending place (done + 1) i)
        ≡ bit ((a.from i == p) && is_pending place done i)
    same i u = elim (cases_eq i n) as (λ _. bit ((a.from i == p) && is_pending place (done + 1) i)
        ≡ bit ((a.from i == p) && is_pending place done i)) [
          | inl is ↦ let differ : a.from i ≡ p → ⊥ = λ q. other (sym (ap a.from is) ∙ q) in
              bit_none (a.from i) p (is_pending place (done + 1) i) differ
              ∙ sym (bit_none (a.from i) p (is_pending place done i) differ)
          | inr differ ↦ ap (λ (b : Bool). bit ((a.from i == p) && b))
              (still_pending a order place left done n queue e i u differ)
        ]

bit_true : (b : Bool) → b ≡ true → bit b ≡ 1
bit_true true e = refl
bit_true false e = absurd (true≢false (sym e))

bit_false : (b : Bool) → b ≡ false → bit b ≡ 0
bit_false true e = absurd (true≢false e)
bit_false false e = refl

pub waits-here : (a : Arcs) (order : List ℕ) (place left : ℕ → ℕ) (done n : ℕ) → IsQueue a order place left done →
    IsUpTo a.count n → place n ≡ done + 1 → entry order done ≡ n →
    waits a place (done + 1) (a.from n) + 1 ≡ waits a place done (a.from n)
waits-here a order place left done n queue up is e =
    let f : ℕ → ℕ = λ i. bit ((a.from i == a.from n) && is_pending place done i) in
    let g : ℕ → ℕ = λ i. bit ((a.from i == a.from n) && is_pending place (done + 1) i) in
    let one : f n ≡ 1 = bit_at (a.from n) (a.from n) (is_pending place done n) refl
    ∙ bit_true (is_pending place done n) (pending_new (place n) done (omega (arith, is))) in
    let none : g n ≡ 0 = bit_at (a.from n) (a.from n) (is_pending place (done + 1) n) refl
    ∙ bit_false (is_pending place (done + 1) n) (pending_old (place n) (done + 1) (omega (arith, is)) (omega (arith, is))) in
    omega (
      arith,
      one,
      none,
      sum-change a.count n f g up (λ i u differ. ap (λ (b : Bool). bit ((a.from i == a.from n) && b))
          (still_pending a order place left done n queue e i u differ)),
    )

-- An arc from 0 leaves the counts as they are.
pub queue-pass : (a : Arcs) (order : List ℕ) (place left : ℕ → ℕ) (done n : ℕ) → IsQueue a order place left done →
    done < length order → entry order done ≡ n → a.from n ≡ 0 → IsQueue a order place left (done + 1)
queue-pass a order place left done n queue more e none = record {
  up = queue.up;
  told = queue.told;
  most = queue.most;
  there = queue.there;
  behind = queue.behind;
  count = queue.count;
  taken = omega (arith, more);
  waiting = λ p some. queue.waiting p some
      ∙ sym (waits-other a order place left done n p queue e (λ is. omega (arith, is, none, some)));
  zero = queue.zero;
}

pub left-some : (a : Arcs) (order : List ℕ) (place left : ℕ → ℕ) (done n : ℕ) → IsQueue a order place left done →
    done < length order → entry order done ≡ n → 0 < a.from n → 0 < left (a.from n)
left-some a order place left done n queue more e some =
    let up = subst (λ (k : ℕ). IsUpTo a.count k) e (queue.up done more) in
    let is = sym (ap place e) ∙ queue.told done more in
    omega (arith, queue.waiting (a.from n) some, waits-here a order place left done n queue up is e)

pub queue-take : (a : Arcs) (order : List ℕ) (place left left2 : ℕ → ℕ) (done n : ℕ) → IsQueue a order place left done →
    done < length order → entry order done ≡ n → 0 < a.from n → Puts left left2 (a.from n) (left (a.from n) - 1) →
    IsQueue a order place left2 (done + 1)
queue-take a order place left left2 done n queue more e some puts =
    record {
      up = queue.up;
      told = queue.told;
      most = queue.most;
      there = queue.there;
      behind = queue.behind;
      count = queue.count;
      taken = omega (arith, more);
      waiting = λ p low. elim (cases_eq p (a.from n)) as (λ _. left2 p ≡ waits a place (done + 1) p) [
        | inl is ↦ subst (λ (q : ℕ). left2 q ≡ waits a place (done + 1) q) (sym is)
            (omega (arith, puts.here, queue.waiting (a.from n) some, waits-here a order place left done n queue up at e))
        | inr differ ↦ puts.others p differ ∙ queue.waiting p low
            ∙ sym (waits-other a order place left done n p queue e (λ is. differ (sym is)))
      ];
      zero = puts.others 0 (λ is. omega (arith, is, some)) ∙ queue.zero;
    }
  where
    up : IsUpTo a.count n
    up = subst (λ (k : ℕ). IsUpTo a.count k) e (queue.up done more)

    at : place n ≡ done + 1
    at = sym (ap place e) ∙ queue.told done more

sum_bits : (n : ℕ) (test : ℕ → Bool) → sum_to n (λ i. bit (test i)) ≤ n
sum_bits zero test = omega arith
sum_bits (suc n) test = omega (arith, sum_bits n test, one (test (suc n)))
  where
    one : (b : Bool) → bit b ≤ 1
    one true = omega arith
    one false = omega arith

-- The queue is no longer than there are arcs.
pub queue-short : (a : Arcs) (order : List ℕ) (place left : ℕ → ℕ) (done : ℕ) → IsQueue a order place left done →
    length order ≤ a.count
queue-short a order place left done queue =
    omega (arith, queue.count, sum_bits a.count (λ i. nat_lt 0 (place i)))

-- The empty queue.
pub queue-none : (a : Arcs) (place left : ℕ → ℕ) → ((i : ℕ) → place i ≡ 0) →
    ((p : ℕ) → 0 < p → left p ≡ sum_to a.count (λ i. bit (a.from i == p))) → left 0 ≡ 0 → IsQueue a [] place left 0
queue-none a place left fresh counts outside = record {
  up = λ k low. absurd (omega (arith, low));
  told = λ k low. absurd (omega (arith, low));
  most = λ i u. omega (arith, fresh i);
  there = λ i u some. absurd (omega (arith, fresh i, some));
  behind = λ i j u v some forward goes same. absurd (omega (arith, fresh i, some));
  count = none a.count;
  taken = omega arith;
  waiting = λ p some. counts p some ∙ sum-same a.count (λ i. bit (a.from i == p))
      (λ i. bit ((a.from i == p) && is_pending place 0 i)) (λ i u. all i p);
  zero = outside;
}
  where
    none : (n : ℕ) → sum_to n (λ i. bit (nat_lt 0 (place i))) ≡ 0
    none zero = refl
    none (suc n) = omega (arith, none n, bit_zero (place (suc n)) (fresh (suc n)))

    and_true : (b c : Bool) → c ≡ true → bit b ≡ bit (b && c)
    and_true true true e = refl
    and_true true false e = absurd (true≢false (sym e))
    and_true false c e = refl

    all : (i p : ℕ) → bit (a.from i == p) ≡ bit ((a.from i == p) && is_pending place 0 i)
    all i p = and_true (a.from i == p) (is_pending place 0 i) (pending_free (place i) 0 (fresh i))
