-- Which blocks are candidates, by arithmetic.
use Rattle.std.proofs.Common.{◌≡◌, ℕ, zero, suc, ◌+◌, ◌-◌, ◌*◌, ◌<◌, ◌≤◌, Bool, true, false, List, [], ◌∷◌, refl, sym, ap, ap₂, ◌∙◌, subst, inl, inr, arith}
use Rattle.std.specs.Prelude.{◌/◌, ◌%◌, ◌==◌, ◌≢◌, ◌&&◌, ◌||◌, nat_le, nat_lt}
use Rattle.std.proofs.Math.Nat.{div-eq-sub-div, div-eq_of_lt, div-lt_iff_lt-mul, div-mul-le_self, mod-eq-sub-div-mul, mod-eq-sub-mod, mod-eq_of_lt}
use Rattle.std.proofs.lemmas.Bool.{cases_eq, cases_lt, eq-eqb, ne_eqb}
use Rattle.std.proofs.lemmas.Bool.Decides.{nat_tests}
use Rattle.lru_concrete.specs.Sets.{is_in}
use Rattle.age_model.specs.Candidates.{blocks_from}

-- One of so many blocks in equal steps: from the first one on, whole steps away, and fewer of them.
abbrev pub is_step : (first step count block : ℕ) → Bool
is_step first step count block =
    (nat_le first block && ((block - first) % step == 0)) && nat_lt ((block - first) / step) count

-- None of no blocks.
and-none : (a b : Bool) (n : ℕ) → ((a && b) && nat_lt n 0) ≡ false
and-none true true n = grind (arith, nat_tests)
and-none true false n = refl
and-none false b n = refl

below-first : (first step count block : ℕ) → block < first → is_step first step count block ≡ false
below-first first step count block less =
    let test : nat_le first block ≡ false = grind (arith, nat_tests, less) in
    ap (λ (b : Bool). (b && ((block - first) % step == 0)) && nat_lt ((block - first) / step) count) test

between-steps : (first step count block : ℕ) → (block - first) % step ≢ 0 → is_step first step count block ≡ false
between-steps first step count block apart =
    let test : ((block - first) % step == 0) ≡ false = ne_eqb ((block - first) % step) 0 apart in
    ap (λ (b : Bool). (nat_le first block && b) && nat_lt ((block - first) / step) count) test ∙
    none (nat_le first block) (nat_lt ((block - first) / step) count)
  where
    none : (a b : Bool) → ((a && false) && b) ≡ false
    none true b = refl
    none false b = refl

-- Past the first block it is one of the others.
past-first : (first step count block : ℕ) → 0 < step → (first ≡ block → ⊥) →
    is_step (first + step) step count block ≡ is_step first step (suc count) block
past-first first step count block some apart = elim (cases_lt block first)
    as (λ _. is_step (first + step) step count block ≡ is_step first step (suc count) block) [
      | inl less ↦ below-first (first + step) step count block (omega (arith, less)) ∙
          sym (below-first first step (suc count) block less)
      | inr from ↦ elim (cases_lt block (first + step))
          as (λ _. is_step (first + step) step count block ≡ is_step first step (suc count) block) [
            | inl short ↦
                let rest : (block - first) % step ≡ block - first = mod-eq_of_lt (omega (arith, short, from)) in
                below-first (first + step) step count block short ∙
                sym (between-steps first step (suc count) block (λ e. apart (omega (arith, e, rest, from))))
            | inr more ↦
                let less : block - first - step ≡ block - (first + step) = omega arith in
                let over : step ≤ block - first = omega (arith, more) in
                let rest : (block - first) % step ≡ (block - (first + step)) % step =
                mod-eq-sub-mod over ∙ ap (λ (n : ℕ). n % step) less in
                let count_is : (block - first) / step ≡ (block - (first + step)) / step + 1 =
                div-eq-sub-div some over ∙ ap (λ (n : ℕ). n / step + 1) less in
                let low : nat_le (first + step) block ≡ nat_le first block = grind (arith, nat_tests, more) in
                let fewer : nat_lt ((block - (first + step)) / step) count ≡ nat_lt ((block - first) / step) (suc count) =
                grind (arith, nat_tests, count_is) in
                ap₂ (λ (a b : Bool). (a && ((block - (first + step)) % step == 0)) && b) low fewer ∙
                ap (λ (n : ℕ). (nat_le first block && (n == 0)) && nat_lt ((block - first) / step) (suc count)) (sym rest)
          ]
    ]

at-first : (first step count block : ℕ) → 0 < step → first ≡ block → is_step first step (suc count) block ≡ true
at-first first step count block some same =
    let none : block - first ≡ 0 = omega (arith, same) in
    let rest : (block - first) % step ≡ 0 = ap (λ (n : ℕ). n % step) none ∙ mod-eq_of_lt some in
    let steps : (block - first) / step ≡ 0 = ap (λ (n : ℕ). n / step) none ∙ div-eq_of_lt some in
    let low : nat_le first block ≡ true = grind (arith, nat_tests, same) in
    let fewer : nat_lt ((block - first) / step) (suc count) ≡ true = grind (arith, nat_tests, steps) in
    ap₂ (λ (a b : Bool). (a && ((block - first) % step == 0)) && b) low fewer ∙
    ap (λ (b : Bool). (true && b) && true) (eq-eqb ((block - first) % step) 0 rest)

pub in-blocks : (first step count block : ℕ) → 0 < step →
    is_in (blocks_from first step count) block ≡ is_step first step count block
in-blocks first step zero block some =
    sym (and-none (nat_le first block) ((block - first) % step == 0) ((block - first) / step))
in-blocks first step (suc count) block some = elim (cases_eq first block)
    as (λ _. is_in (blocks_from first step (suc count)) block ≡ is_step first step (suc count) block) [
      | inl same ↦ ap (λ (b : Bool). b || is_in (blocks_from (first + step) step count) block) (eq-eqb first block same) ∙
          sym (at-first first step count block some same)
      | inr apart ↦ ap (λ (b : Bool). b || is_in (blocks_from (first + step) step count) block) (ne_eqb first block apart) ∙
          in-blocks (first + step) step count block some ∙ past-first first step count block some apart
    ]

-- The test of the code: not past the last block, and whole steps from the first one.
pub holds-is : (first last step block : ℕ) → 0 < step → first ≤ last →
    is_in (blocks_from first step (suc ((last - first) / step))) block ≡
    ((nat_le first block && nat_le block last) && ((block - first) % step == 0))
holds-is first last step block some order =
    in-blocks first step (suc ((last - first) / step)) block some ∙
    (elim (cases_lt block first) as (λ _. is_step first step (suc ((last - first) / step)) block ≡
    ((nat_le first block && nat_le block last) && ((block - first) % step == 0))) [
      | inl less ↦
          let test : nat_le first block ≡ false = grind (arith, nat_tests, less) in
          below-first first step (suc ((last - first) / step)) block less ∙
          sym (ap (λ (b : Bool). (b && nat_le block last) && ((block - first) % step == 0)) test)
      | inr from ↦ elim (cases_eq ((block - first) % step) 0) as (λ _. is_step first step (suc ((last - first) / step)) block ≡
          ((nat_le first block && nat_le block last) && ((block - first) % step == 0))) [
            | inr apart ↦ between-steps first step (suc ((last - first) / step)) block apart ∙
                sym (ap (λ (b : Bool). (nat_le first block && nat_le block last) && b) (ne_eqb ((block - first) % step) 0 apart) ∙
                none (nat_le first block && nat_le block last))
            | inl whole ↦
                let low : nat_le first block ≡ true = grind (arith, nat_tests, from) in
                ap₂ (λ (a b : Bool). (a && b) && nat_lt ((block - first) / step) (suc ((last - first) / step)))
                low (eq-eqb ((block - first) % step) 0 whole) ∙
                ends whole from ∙
                sym (ap₂ (λ (a b : Bool). (a && nat_le block last) && b) low (eq-eqb ((block - first) % step) 0 whole) ∙
                all (nat_le block last))
          ]
    ])
  where
    none : (a : Bool) → (a && false) ≡ false
    none true = refl
    none false = refl

    all : (a : Bool) → (a && true) ≡ a
    all true = refl
    all false = refl

    ends : (block - first) % step ≡ 0 → first ≤ block →
        nat_lt ((block - first) / step) (suc ((last - first) / step)) ≡ nat_le block last
    ends whole from =
        let rest = mod-eq-sub-div-mul (block - first) step in
        let under = div-mul-le_self (block - first) step in
        let steps : (block - first) / step * step ≡ block - first = omega (arith, whole, rest, under) in
        let either = div-lt_iff_lt-mul {x = last - first} {y = (block - first) / step} some in
        elim (cases_lt last block) as (λ _. nat_lt ((block - first) / step) (suc ((last - first) / step)) ≡ nat_le block last) [
          | inl past ↦
              let less : (last - first) / step < (block - first) / step = either.1 (omega (arith, past, steps, order)) in
              grind (arith, nat_tests, past, less)
          | inr within ↦ elim (cases_lt ((last - first) / step) ((block - first) / step))
              as (λ _. nat_lt ((block - first) / step) (suc ((last - first) / step)) ≡ nat_le block last) [
                | inl less ↦ absurd (omega (arith, either.0 less, steps, within))
                | inr more ↦ grind (arith, nat_tests, within, more)
              ]
        ]

pub none-below : (first last step block : ℕ) → 0 < step → first ≤ last → block < first →
    is_in (blocks_from first step (suc ((last - first) / step))) block ≡ false
none-below first last step block some order less =
    let test : nat_le first block ≡ false = grind (arith, nat_tests, less) in
    holds-is first last step block some order ∙
    ap (λ (b : Bool). (b && nat_le block last) && ((block - first) % step == 0)) test

pub none-above : (first last step block : ℕ) → 0 < step → first ≤ last → last < block →
    is_in (blocks_from first step (suc ((last - first) / step))) block ≡ false
none-above first last step block some order more =
    let low : nat_le first block ≡ true = grind (arith, nat_tests, more, order) in
    let test : nat_le block last ≡ false = grind (arith, nat_tests, more) in
    holds-is first last step block some order ∙
    ap₂ (λ (a b : Bool). (a && b) && ((block - first) % step == 0)) low test

pub those-within : (first last step block : ℕ) → 0 < step → first ≤ last → first ≤ block → block ≤ last →
    is_in (blocks_from first step (suc ((last - first) / step))) block ≡ ((block - first) % step == 0)
those-within first last step block some order from within =
    let low : nat_le first block ≡ true = grind (arith, nat_tests, from) in
    let test : nat_le block last ≡ true = grind (arith, nat_tests, within) in
    holds-is first last step block some order ∙
    ap₂ (λ (a b : Bool). (a && b) && ((block - first) % step == 0)) low test
