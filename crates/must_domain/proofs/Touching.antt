-- What a touch does to the bound of each block.
use Rattle.std.proofs.Common.{◌≡◌, ℕ, ◌+◌, ◌<◌, ◌≤◌, ◌^◌, Bool, true, false, cond, List, [], ◌∷◌, length, Option, Some, None, refl, sym, ap, ap₂, ◌∙◌, subst, inl, inr, arith}
use Rattle.std.specs.Prelude.{◌==◌, nat_le, nat_lt}
use Rattle.std.proofs.lemmas.Bool.{cases_Bool, cases_eq, cases_lt, eq-eqb, ne_eqb, false≢true}
use Rattle.std.proofs.lemmas.Bool.Decides.{nat_tests}
use Rattle.std.proofs.lemmas.Option.{same_Some}
use Rattle.age_model.specs.Ages.{AreUpperAges, grown_below, oldest, sure_upper, doubtful_upper, true_age}
use Rattle.age_model.specs.Candidates.{blocks_of}
use Rattle.age_model.specs.declared.candidates.Candidates.{Candidates}
use Rattle.age_model.proofs.Ages.{age-high, grown-rises, sure_upper-covers}
use Rattle.age_model.proofs.Doubts.{doubtful_upper-stays, doubtful_upper-touch}
use Rattle.domain_laws.specs.MapValues.{leq_at, leq_from, values_ok}
use Rattle.domain_laws.specs.Maps.{IsMap, map_leq, topped_leq, value_at, with_value}
use Rattle.domain_laws.specs.Options.{option_ok}
use Rattle.domain_laws.proofs.Setting.{rises_with, value_with_other, value_with_same}
use Rattle.lru_concrete.specs.Sets.{is_in, touched}
use Rattle.must_domain.specs.Changes.{all_changed, bound_of, grown, touched_entry}
use Rattle.must_domain.specs.Order.{leq}
use Rattle.must_domain.specs.States.{IsUpper, IsYoung, Uppers, age_of, or_ways}
use Rattle.must_domain.specs.Touches.{doubted, sured}
use Rattle.must_domain.proofs.Changing.{bound_changed, map-from, rises-changed, value-changed}
use Rattle.must_domain.proofs.Walking.{oldest-most}

-- No bound exceeds the ways.
most-of : (ways block : ℕ) (bound : Option ℕ) → option_ok (IsYoung ways block) bound → or_ways ways bound ≤ ways
most-of ways block None ok = omega arith
most-of ways block (Some age) ok = omega (arith, ok.young)

bound-ok : (ways : ℕ) (state : Uppers) → IsUpper ways state → (block : ℕ) →
    option_ok (IsYoung ways block) (value_at block state.ages)
bound-ok ways state is block = values_ok state.ages is.each block

pub age-most : (ways : ℕ) (state : Uppers) → IsUpper ways state → (block : ℕ) → age_of state block ≤ state.ways
age-most ways state is block =
    subst (λ (n : ℕ). or_ways n (value_at block state.ages) ≤ n) (sym is.same)
    (most-of ways block (value_at block state.ages) (bound-ok ways state is block))

-- A state that knows nothing covers each set.
pub unknown-covers : (ways : ℕ) (blocks : List ℕ) → length blocks ≤ ways → AreUpperAges ways (λ (block : ℕ). ways) blocks
unknown-covers ways blocks fits block = age-high ways 0 blocks block (omega (arith, fits))

-- The bound of an age, read as an age.
or-bound : (ways age : ℕ) → age ≤ ways → or_ways ways (bound_of ways age) ≡ age
or-bound ways age fits = elim (cases_lt age ways) as (λ _. or_ways ways (bound_of ways age) ≡ age) [
  | inl less ↦ let test : nat_lt age ways ≡ true = grind (arith, nat_tests) in
      ap (λ (b : Bool). or_ways ways (cond b (Some age) None)) test
  | inr more ↦ let test : nat_lt age ways ≡ false = grind (arith, nat_tests) in
      ap (λ (b : Bool). or_ways ways (cond b (Some age) None)) test ∙ omega (arith, fits, more)
]

bound-young : (ways block age : ℕ) → block < 2 ^ 32 → option_ok (IsYoung ways block) (bound_of ways age)
bound-young ways block age low = elim (cases_lt age ways) as (λ _. option_ok (IsYoung ways block) (bound_of ways age)) [
  | inl less ↦ let test : nat_lt age ways ≡ true = grind (arith, nat_tests) in
      subst (λ (b : Bool). option_ok (IsYoung ways block) (cond b (Some age) None)) (sym test)
      (record { low = low; young = less })
  | inr more ↦ let test : nat_lt age ways ≡ false = grind (arith, nat_tests) in
      subst (λ (b : Bool). option_ok (IsYoung ways block) (cond b (Some age) None)) (sym test) tt
]

grown-most : (age limit ways : ℕ) → age ≤ ways → limit ≤ ways → grown_below age limit ≤ ways
grown-most age limit ways low fits = grind (arith, nat_tests, low, fits)

-- Bounds that grow below a limit, as ages.
or-grown : (ways limit block : ℕ) (bound : Option ℕ) → limit ≤ ways → option_ok (IsYoung ways block) bound →
    or_ways ways (bound_changed (grown ways limit) block bound) ≡ grown_below (or_ways ways bound) limit
or-grown ways limit block None fits ok = grind (arith, nat_tests, fits)
or-grown ways limit block (Some age) fits ok =
    or-bound ways (grown_below age limit) (grown-most age limit ways (omega (arith, ok.young)) fits)

grown-ok : (ways limit block : ℕ) (bound : Option ℕ) → option_ok (IsYoung ways block) bound →
    option_ok (IsYoung ways block) (bound_changed (grown ways limit) block bound)
grown-ok ways limit block None ok = tt
grown-ok ways limit block (Some age) ok = bound-young ways block (grown_below age limit) ok.low

-- Of another block than the touched one a touch makes what growing makes.
touched-other : (ways block limit other : ℕ) (bound : Option ℕ) → (other ≡ block → ⊥) →
    bound_changed (touched_entry ways block limit) other bound ≡ bound_changed (grown ways limit) other bound
touched-other ways block limit other None ne = refl
touched-other ways block limit other (Some age) ne =
    ap (λ (b : Bool). cond b (Some 0) (grown ways limit (other, age))) (ne_eqb other block ne)

touched-same : (ways block limit other age : ℕ) → other ≡ block →
    bound_changed (touched_entry ways block limit) other (Some age) ≡ Some 0
touched-same ways block limit other age e =
    ap (λ (b : Bool). cond b (Some 0) (grown ways limit (other, age))) (eq-eqb other block e)

module _ (ways : ℕ) (state : Uppers) (is : IsUpper ways state) (block : ℕ) where
  limit : ℕ
  limit = age_of state block

  limit-most : limit ≤ state.ways
  unfolding limit
  limit-most = age-most ways state is block

  put : List (ℕ × ℕ)
  put = with_value block 0 state.ages

  bound-here : (other : ℕ) → other ≡ block → value_at other (sured block state).ages ≡ Some 0
  bound-here other e =
      value-changed (touched_entry state.ways block (age_of state block)) 0 other (with_value block 0 state.ages)
      (rises_with 0 block 0 state.ages is.each.rising (omega arith)) ∙
      ap (bound_changed (touched_entry state.ways block (age_of state block)) other)
      (subst (λ (k : ℕ). value_at k (with_value block 0 state.ages) ≡ Some 0) (sym e) (value_with_same block 0 state.ages)) ∙
      touched-same state.ways block (age_of state block) other 0 e

  bound-past : (other : ℕ) → (other ≡ block → ⊥) →
      value_at other (sured block state).ages ≡
      bound_changed (grown state.ways (age_of state block)) other (value_at other state.ages)
  bound-past other ne =
      value-changed (touched_entry state.ways block (age_of state block)) 0 other (with_value block 0 state.ages)
      (rises_with 0 block 0 state.ages is.each.rising (omega arith)) ∙
      ap (bound_changed (touched_entry state.ways block (age_of state block)) other)
      (value_with_other block other 0 state.ages ne) ∙
      touched-other state.ways block (age_of state block) other (value_at other state.ages) ne

  young : (other : ℕ) → option_ok (IsYoung state.ways other) (value_at other state.ages)
  young other = subst (λ (n : ℕ). option_ok (IsYoung n other) (value_at other state.ages)) (sym is.same)
      (bound-ok ways state is other)

  -- The ages after a touch are those of the rule.
  pub sured-ages : (other : ℕ) → age_of (sured block state) other ≡ sure_upper block (age_of state) other
  sured-ages other = elim (cases_eq other block) as (λ _. age_of (sured block state) other ≡ sure_upper block (age_of state) other) [
    | inl e ↦ ap (or_ways state.ways) (bound-here other e) ∙
        sym (ap (λ (b : Bool). cond b 0 (grown_below (age_of state other) (age_of state block))) (eq-eqb other block e))
    | inr ne ↦ ap (or_ways state.ways) (bound-past other ne) ∙
        or-grown state.ways (age_of state block) other (value_at other state.ages) (age-most ways state is block)
        (young other) ∙
        sym (ap (λ (b : Bool). cond b 0 (grown_below (age_of state other) (age_of state block))) (ne_eqb other block ne))
  ]

  pub sured-is : block < 2 ^ 32 → IsUpper ways (sured block state)
  sured-is low = record {
    same = is.same;
    some = is.some;
    low = is.low;
    each = map-from (sured block state).ages
        (rises-changed (touched_entry state.ways block (age_of state block)) 0 (with_value block 0 state.ages)
        (rises_with 0 block 0 state.ages is.each.rising (omega arith)))
        (λ other. elim (cases_eq other block)
        as (λ _. option_ok (IsYoung ways other) (value_at other (sured block state).ages)) [
          | inl e ↦ subst (option_ok (IsYoung ways other)) (sym (bound-here other e))
              (record { low = omega (arith, e, low); young = is.some })
          | inr ne ↦ subst (option_ok (IsYoung ways other)) (sym (bound-past other ne))
              (subst (λ (n : ℕ). option_ok (IsYoung ways other)
              (bound_changed (grown n (age_of state block)) other (value_at other state.ages))) (sym is.same)
              (grown-ok ways (age_of state block) other (value_at other state.ages) (bound-ok ways state is other)))
        ]);
  }

module _ (ways : ℕ) (state : Uppers) (is : IsUpper ways state) (candidates : Candidates) where
  top-most : oldest (age_of state) (blocks_of candidates) ≤ state.ways
  top-most = oldest-most (age_of state) state.ways (blocks_of candidates) (age-most ways state is)

  bound-doubted : (other : ℕ) → value_at other (doubted candidates state).ages ≡
      bound_changed (grown state.ways (oldest (age_of state) (blocks_of candidates))) other (value_at other state.ages)
  bound-doubted other =
      value-changed (grown state.ways (oldest (age_of state) (blocks_of candidates))) 0 other state.ages is.each.rising

  -- The ages after a doubtful touch are those of the rule.
  pub doubted-ages : (other : ℕ) → age_of (doubted candidates state) other ≡
      doubtful_upper (blocks_of candidates) (age_of state) other
  doubted-ages other =
      ap (or_ways state.ways) (bound-doubted other) ∙
      or-grown state.ways (oldest (age_of state) (blocks_of candidates)) other (value_at other state.ages) top-most
      (subst (λ (n : ℕ). option_ok (IsYoung n other) (value_at other state.ages)) (sym is.same)
      (bound-ok ways state is other))

  pub doubted-is : IsUpper ways (doubted candidates state)
  doubted-is = record {
    same = is.same;
    some = is.some;
    low = is.low;
    each = map-from (doubted candidates state).ages
        (rises-changed (grown state.ways (oldest (age_of state) (blocks_of candidates))) 0 state.ages is.each.rising)
        (λ other. subst (option_ok (IsYoung ways other)) (sym (bound-doubted other))
        (subst (λ (n : ℕ). option_ok (IsYoung ways other)
        (bound_changed (grown n (oldest (age_of state) (blocks_of candidates))) other (value_at other state.ages)))
        (sym is.same)
        (grown-ok ways (oldest (age_of state) (blocks_of candidates)) other (value_at other state.ages)
        (bound-ok ways state is other))));
  }

-- Ages that the rule gives cover what the touch makes.
pub covers-by : (ways : ℕ) (age age' : ℕ → ℕ) (blocks : List ℕ) → ((block : ℕ) → age' block ≡ age block) →
    AreUpperAges ways age blocks → AreUpperAges ways age' blocks
covers-by ways age age' blocks same covers block =
    let e = same block in
    let low = covers block in
    omega (arith, e, low)

-- A state is under another one exactly where its ages are.
ages-topped : (ways block : ℕ) (x y : Option ℕ) → option_ok (IsYoung ways block) x → topped_leq nat_le x y ≡ true →
    or_ways ways x ≤ or_ways ways y
ages-topped ways block x None ok h = most-of ways block x ok
ages-topped ways block None (Some y) ok h = cc
ages-topped ways block (Some x) (Some y) ok h = grind (arith, nat_tests, h)

pub ages-under : (ways : ℕ) (x y : Uppers) → IsUpper ways x → IsUpper ways y → leq x y ≡ true → (block : ℕ) →
    age_of x block ≤ age_of y block
ages-under ways x y p q h block =
    let less = ages-topped ways block (value_at block x.ages) (value_at block y.ages) (bound-ok ways x p block)
    (leq_at nat_le x.ages y.ages block h) in
    subst (λ (n : ℕ). or_ways n (value_at block x.ages) ≤ age_of y block) (sym p.same)
    (subst (λ (n : ℕ). or_ways ways (value_at block x.ages) ≤ or_ways n (value_at block y.ages)) (sym q.same) less)

topped-ages : (ways : ℕ) (x : Option ℕ) (y : ℕ) → y < ways → or_ways ways x ≤ y → topped_leq nat_le x (Some y) ≡ true
topped-ages ways None y young less = absurd (omega (arith, young, less))
topped-ages ways (Some x) y young less = grind (arith, nat_tests, less)

pub under-ages : (ways : ℕ) (x y : Uppers) → IsUpper ways x → IsUpper ways y →
    ((block : ℕ) → age_of x block ≤ age_of y block) → leq x y ≡ true
under-ages ways x y p q less =
    leq_from nat_le 0 x.ages y.ages q.each.rising (λ block age there.
    topped-ages ways (value_at block x.ages) age (q.each.each block age there).young
    (subst (λ (n : ℕ). or_ways n (value_at block x.ages) ≤ age) p.same
    (subst (λ (bound : Option ℕ). age_of x block ≤ or_ways y.ways bound) there (less block))))

sure-rises : (age more : ℕ → ℕ) (block other : ℕ) → ((c : ℕ) → age c ≤ more c) →
    sure_upper block age other ≤ sure_upper block more other
sure-rises age more block other less =
    let rises = grown-rises (age other) (age block) (more other) (more block) (less other) (less block) in
    elim (cases_Bool (other == block)) as (λ _. sure_upper block age other ≤ sure_upper block more other) [
      | inl e ↦ subst (λ (b : Bool). cond b 0 (grown_below (age other) (age block)) ≤ cond b 0 (grown_below (more other) (more block)))
          (sym e) (omega arith)
      | inr e ↦ subst (λ (b : Bool). cond b 0 (grown_below (age other) (age block)) ≤ cond b 0 (grown_below (more other) (more block)))
          (sym e) rises
    ]

oldest-rises : (age more : ℕ → ℕ) (blocks : List ℕ) → ((c : ℕ) → age c ≤ more c) → oldest age blocks ≤ oldest more blocks
oldest-rises age more [] less = omega arith
oldest-rises age more (block ∷ blocks) less =
    let here = less block in
    let rest = oldest-rises age more blocks less in
    omega (arith, here, rest)

pub sured-rises : (ways : ℕ) (x y : Uppers) (block : ℕ) → block < 2 ^ 32 → IsUpper ways x → IsUpper ways y → leq x y ≡ true →
    leq (sured block x) (sured block y) ≡ true
sured-rises ways x y block low p q h =
    under-ages ways (sured block x) (sured block y) (sured-is ways x p block low) (sured-is ways y q block low) (λ other.
    let rises = sure-rises (age_of x) (age_of y) block other (ages-under ways x y p q h) in
    let left = sured-ages ways x p block other in
    let right = sured-ages ways y q block other in
    omega (arith, rises, left, right))

pub doubted-rises : (ways : ℕ) (x y : Uppers) (candidates : Candidates) → IsUpper ways x → IsUpper ways y → leq x y ≡ true →
    leq (doubted candidates x) (doubted candidates y) ≡ true
doubted-rises ways x y candidates p q h =
    under-ages ways (doubted candidates x) (doubted candidates y) (doubted-is ways x p candidates)
    (doubted-is ways y q candidates) (λ other.
    let under = ages-under ways x y p q h in
    let rises = grown-rises (age_of x other) (oldest (age_of x) (blocks_of candidates)) (age_of y other)
    (oldest (age_of y) (blocks_of candidates)) (under other)
    (oldest-rises (age_of x) (age_of y) (blocks_of candidates) under) in
    let left = doubted-ages ways x p candidates other in
    let right = doubted-ages ways y q candidates other in
    omega (arith, rises, left, right))
