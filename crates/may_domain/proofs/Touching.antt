-- What a touch does to the bound of each block.
use Rattle.std.proofs.Common.{◌≡◌, ℕ, ◌+◌, ◌<◌, ◌≤◌, ◌^◌, Bool, true, false, cond, List, [], ◌∷◌, length, Option, Some, None, refl, sym, ap, ap₂, ◌∙◌, subst, inl, inr, arith}
use Rattle.std.specs.Prelude.{◌==◌, ◌||◌, ◌&&◌, is_some, min, nat_le}
use Rattle.std.proofs.lemmas.Bool.{and_from, and_parts, cases_Bool, cases_eq, cases_order, eq-eqb, ne_eqb, false≢true}
use Rattle.std.proofs.lemmas.Bool.Decides.{nat_tests}
use Rattle.age_model.specs.Ages.{AreLowerAges, grown_up_to, sure_lower, true_age}
use Rattle.age_model.proofs.LowerAges.{low-absent, reset-covers, sure_lower-covers}
use Rattle.domain_laws.specs.MapValues.{leq_at, leq_from, values_ok}
use Rattle.domain_laws.specs.Maps.{IsMap, Rises, map_leq, topped_leq, value_at, with_value}
use Rattle.domain_laws.specs.Options.{option_ok}
use Rattle.domain_laws.proofs.Setting.{rises_with, value_with_other, value_with_same, with_before, with_here, with_past}
use Rattle.lru_concrete.specs.Sets.{is_in, touched}
use Rattle.may_domain.specs.Changes.{all_changed}
use Rattle.may_domain.specs.Laws.{same_named}
use Rattle.may_domain.specs.Order.{at_least, leq}
use Rattle.may_domain.specs.States.{IsLow, IsLower, IsNamed, Lowers, age_of, names_in, or_shared}
use Rattle.may_domain.specs.Touches.{named, sured, touched_entry}
use Rattle.may_domain.proofs.Changing.{bound_changed, map-from, names-changed, rises-changed, value-changed}

-- No bound exceeds the ways.
most-of : (ways shared block : ℕ) (bound : Option ℕ) → shared ≤ ways → option_ok (IsLow ways block) bound →
    or_shared shared bound ≤ ways
most-of ways shared block None most ok = most
most-of ways shared block (Some age) most ok = ok.most

pub bound-ok : (ways : ℕ) (state : Lowers) → IsLower ways state → (block : ℕ) →
    option_ok (IsLow ways block) (value_at block state.ages)
bound-ok ways state is block = values_ok state.ages is.each block

pub age-most : (ways : ℕ) (state : Lowers) → IsLower ways state → (block : ℕ) → age_of state block ≤ ways
age-most ways state is block =
    most-of ways state.shared block (value_at block state.ages) is.shared (bound-ok ways state is block)

-- One block with a new bound.
put-ok : (ways block age : ℕ) (entries : List (ℕ × ℕ)) → block < 2 ^ 32 → age ≤ ways → IsMap (IsLow ways) entries →
    (other : ℕ) → option_ok (IsLow ways other) (value_at other (with_value block age entries))
put-ok ways block age entries low most map other = elim (cases_eq other block)
    as (λ _. option_ok (IsLow ways other) (value_at other (with_value block age entries))) [
      | inl e ↦ subst (option_ok (IsLow ways other))
          (sym (subst (λ (k : ℕ). value_at k (with_value block age entries) ≡ Some age) (sym e) (value_with_same block age entries)))
          (record { low = omega (arith, e, low); most = most })
      | inr ne ↦ subst (option_ok (IsLow ways other)) (sym (value_with_other block other age entries ne))
          (values_ok entries map other)
    ]

pub put-is : (ways block age : ℕ) (state : Lowers) → block < 2 ^ 32 → age ≤ ways → IsLower ways state →
    IsLower ways (record state { ages = with_value block age state.ages })
put-is ways block age state low most is = record {
  same = is.same;
  some = is.some;
  low = is.low;
  shared = is.shared;
  each = map-from (with_value block age state.ages) (rises_with 0 block age state.ages is.each.rising (omega arith))
      (put-ok ways block age state.ages low most is.each);
}

-- A name changes no bound.
pub named-ages : (block : ℕ) (state : Lowers) (other : ℕ) → age_of (named block state) other ≡ age_of state other
named-ages block state other = elim (cases_eq other block) as (λ _. age_of (named block state) other ≡ age_of state other) [
  | inl e ↦ ap (or_shared state.shared)
      (subst (λ (k : ℕ). value_at k (with_value block (age_of state block) state.ages) ≡ Some (age_of state block)) (sym e)
      (value_with_same block (age_of state block) state.ages)) ∙ ap (age_of state) (sym e)
  | inr ne ↦ ap (or_shared state.shared) (value_with_other block other (age_of state block) state.ages ne)
]

-- The bounds after a touch, of a named block or of another one.
or-touched : (ways block limit other shared : ℕ) (bound : Option ℕ) → (other ≡ block → ⊥) →
    or_shared (grown_up_to ways shared limit) (bound_changed (touched_entry ways block limit) other bound) ≡
    grown_up_to ways (or_shared shared bound) limit
or-touched ways block limit other shared None ne = refl
or-touched ways block limit other shared (Some age) ne =
    ap (λ (b : Bool). cond b 0 (grown_up_to ways age limit)) (ne_eqb other block ne)

touched-here : (ways block limit other : ℕ) → other ≡ block →
    bound_changed (touched_entry ways block limit) other (Some 0) ≡ Some 0
touched-here ways block limit other e =
    ap (λ (b : Bool). Some (cond b 0 (grown_up_to ways 0 limit))) (eq-eqb other block e)

grown-most : (ways age limit : ℕ) → age ≤ ways → grown_up_to ways age limit ≤ ways
grown-most ways age limit most = grind (arith, nat_tests, most)

touched-ok : (ways block limit other : ℕ) (bound : Option ℕ) → option_ok (IsLow ways other) bound →
    option_ok (IsLow ways other) (bound_changed (touched_entry ways block limit) other bound)
touched-ok ways block limit other None ok = tt
touched-ok ways block limit other (Some age) ok = record {
  low = ok.low;
  most = within (other == block) (grown_up_to ways age limit) (grown-most ways age limit ok.most);
}
  where
    within : (b : Bool) (n : ℕ) → n ≤ ways → cond b 0 n ≤ ways
    within true n most = omega arith
    within false n most = most

module _ (ways : ℕ) (state : Lowers) (is : IsLower ways state) (block : ℕ) where
  value-sured : (other : ℕ) → value_at other (sured block state).ages ≡
      bound_changed (touched_entry state.ways block (age_of state block)) other
      (value_at other (with_value block 0 state.ages))
  value-sured other =
      value-changed (touched_entry state.ways block (age_of state block)) other (with_value block 0 state.ages)

  -- The ages after a touch are those of the rule.
  pub sured-ages : (other : ℕ) → age_of (sured block state) other ≡ sure_lower state.ways block (age_of state) other
  sured-ages other = elim (cases_eq other block)
      as (λ _. age_of (sured block state) other ≡ sure_lower state.ways block (age_of state) other) [
        | inl e ↦ ap (or_shared (grown_up_to state.ways state.shared (age_of state block)))
            (value-sured other ∙
            ap (bound_changed (touched_entry state.ways block (age_of state block)) other)
            (subst (λ (k : ℕ). value_at k (with_value block 0 state.ages) ≡ Some 0) (sym e) (value_with_same block 0 state.ages)) ∙
            touched-here state.ways block (age_of state block) other e) ∙
            sym (ap (λ (b : Bool). cond b 0 (grown_up_to state.ways (age_of state other) (age_of state block))) (eq-eqb other block e))
        | inr ne ↦ ap (or_shared (grown_up_to state.ways state.shared (age_of state block)))
            (value-sured other ∙
            ap (bound_changed (touched_entry state.ways block (age_of state block)) other)
            (value_with_other block other 0 state.ages ne)) ∙
            or-touched state.ways block (age_of state block) other state.shared (value_at other state.ages) ne ∙
            sym (ap (λ (b : Bool). cond b 0 (grown_up_to state.ways (age_of state other) (age_of state block))) (ne_eqb other block ne))
      ]

  pub sured-is : block < 2 ^ 32 → IsLower ways (sured block state)
  sured-is low = record {
    same = is.same;
    some = is.some;
    low = is.low;
    shared = subst (λ (n : ℕ). grown_up_to n state.shared (age_of state block) ≤ ways) (sym is.same)
        (grown-most ways state.shared (age_of state block) is.shared);
    each = map-from (sured block state).ages
        (rises-changed (touched_entry state.ways block (age_of state block)) 0 (with_value block 0 state.ages)
        (rises_with 0 block 0 state.ages is.each.rising (omega arith)))
        (λ other. subst (option_ok (IsLow ways other)) (sym (value-sured other))
        (subst (λ (n : ℕ). option_ok (IsLow ways other) (bound_changed (touched_entry n block (age_of state block)) other
        (value_at other (with_value block 0 state.ages)))) (sym is.same)
        (touched-ok ways block (age_of state block) other (value_at other (with_value block 0 state.ages))
        (put-ok ways block 0 state.ages low (omega arith) is.each other))));
  }

-- Ages that the rule gives cover what the touch makes.
pub covers-by : (ways : ℕ) (age age' : ℕ → ℕ) (blocks : List ℕ) → ((block : ℕ) → age' block ≡ age block) →
    AreLowerAges ways age blocks → AreLowerAges ways age' blocks
covers-by ways age age' blocks same covers block =
    let e = same block in
    let low = covers block in
    omega (arith, e, low)

-- A named block stays named, and the names stay.
names-above : (from block : ℕ) (entries : List (ℕ × ℕ)) → Rises from entries → block < from →
    is_in (names_in entries) block ≡ false
names-above from block [] rises less = refl
names-above from block (entry ∷ entries) rises less =
    ap (λ (b : Bool). b || is_in (names_in entries) block) (ne_eqb entry.0 block (λ e. omega (arith, e, less, rises.0))) ∙
    names-above (entry.0 + 1) block entries rises.1 (omega (arith, less, rises.0))

pub names-with : (from block age : ℕ) (entries : List (ℕ × ℕ)) → Rises from entries → is_in (names_in entries) block ≡ true →
    names_in (with_value block age entries) ≡ names_in entries
names-with from block age [] rises there = absurd (false≢true there)
names-with from block age (entry ∷ entries) rises there = elim (cases_order block entry.0)
    as (λ _. names_in (with_value block age (entry ∷ entries)) ≡ names_in (entry ∷ entries)) [
      | inl e ↦ ap names_in (with_here block age entry entries e) ∙ ap (λ (k : ℕ). k ∷ names_in entries) e
      | inr (inl less) ↦ absurd (false≢true
          (sym (names-above entry.0 block (entry ∷ entries) (omega arith, rises.1) less) ∙ there))
      | inr (inr more) ↦ ap names_in (with_past block age entry entries more) ∙
          ap (λ (names : List ℕ). entry.0 ∷ names)
          (names-with (entry.0 + 1) block age entries rises.1
          (sym (ap (λ (b : Bool). b || is_in (names_in entries) block)
          (ne_eqb entry.0 block (λ e. omega (arith, e, more)))) ∙ there))
    ]

pub sured-named : (ways block : ℕ) (state : Lowers) → IsLower ways state → block < 2 ^ 32 →
    is_in (names_in state.ages) block ≡ true → IsNamed ways (names_in state.ages) (sured block state)
sured-named ways block state is low there = record {
  lower = sured-is ways state is block low;
  names = names-changed (touched_entry state.ways block (age_of state block)) (with_value block 0 state.ages) ∙
      names-with 0 block 0 state.ages is.each.rising there;
}

-- A block whose bound is the ways is absent.
pub absent : (ways : ℕ) (state : Lowers) (block : ℕ) (blocks : List ℕ) → length blocks ≤ ways →
    AreLowerAges ways (age_of state) blocks → age_of state block ≡ ways → is_in blocks block ≡ false
absent ways state block blocks fits covers full =
    low-absent ways (age_of state) blocks block fits covers (omega (arith, full))

pub sured-covers : (ways : ℕ) (state : Lowers) → IsLower ways state → (block : ℕ) (blocks : List ℕ) →
    length blocks ≤ state.ways → AreLowerAges state.ways (age_of state) blocks →
    AreLowerAges state.ways (age_of (sured block state)) (touched state.ways blocks block)
sured-covers ways state is block blocks fits covers =
    covers-by state.ways (sure_lower state.ways block (age_of state)) (age_of (sured block state))
    (touched state.ways blocks block) (sured-ages ways state is block)
    (sure_lower-covers state.ways (age_of state) blocks block (subst (λ (n : ℕ). 0 < n) (sym is.same) is.some) fits covers)

-- A state is under another one where no bound is less, if both name the same blocks.
ages-topped : (x y : Option ℕ) (shared : ℕ) → is_some x ≡ is_some y → topped_leq at_least x y ≡ true → (other : ℕ) →
    other ≤ shared → or_shared other y ≤ or_shared shared x
ages-topped None None shared same h other less = less
ages-topped None (Some y) shared same h other less = cc
ages-topped (Some x) None shared same h other less = cc
ages-topped (Some x) (Some y) shared same h other less = grind (arith, nat_tests, h)

pub ages-under : (x y : Lowers) → ((block : ℕ) → is_some (value_at block x.ages) ≡ is_some (value_at block y.ages)) →
    leq x y ≡ true → (block : ℕ) → age_of y block ≤ age_of x block
ages-under x y same h block =
    let parts = and_parts (at_least x.shared y.shared) (map_leq at_least x.ages y.ages) h in
    let less : y.shared ≤ x.shared = grind (arith, nat_tests, parts.0) in
    ages-topped (value_at block x.ages) (value_at block y.ages) x.shared (same block)
    (leq_at at_least x.ages y.ages block parts.1) y.shared less

topped-ages : (x : Option ℕ) (y shared : ℕ) → is_some x ≡ true → y ≤ or_shared shared x → topped_leq at_least x (Some y) ≡ true
topped-ages None y shared some less = cc
topped-ages (Some x) y shared some less = grind (arith, nat_tests, less)

pub under-ages : (x y : Lowers) → Rises 0 y.ages →
    ((block : ℕ) → is_some (value_at block x.ages) ≡ is_some (value_at block y.ages)) → y.shared ≤ x.shared →
    ((block : ℕ) → age_of y block ≤ age_of x block) → leq x y ≡ true
under-ages x y rising same shared less =
    and_from (at_least x.shared y.shared) (map_leq at_least x.ages y.ages) (grind (arith, nat_tests, shared))
    (leq_from at_least 0 x.ages y.ages rising (λ block age there.
    topped-ages (value_at block x.ages) age x.shared (same block ∙ ap is_some there)
    (subst (λ (bound : Option ℕ). or_shared y.shared bound ≤ age_of x block) there (less block))))

-- What grows keeps the order.
grown-rises : (ways a b c d : ℕ) → a ≤ c → b ≤ d → c ≤ ways → grown_up_to ways a b ≤ grown_up_to ways c d
grown-rises ways a b c d less under most = grind (arith, nat_tests, less, under, most)

sure-rises : (ways block other : ℕ) (age more : ℕ → ℕ) → ((c : ℕ) → age c ≤ more c) → ((c : ℕ) → more c ≤ ways) →
    sure_lower ways block age other ≤ sure_lower ways block more other
sure-rises ways block other age more less most = pick (other == block)
    (grown_up_to ways (age other) (age block)) (grown_up_to ways (more other) (more block))
    (grown-rises ways (age other) (age block) (more other) (more block) (less other) (less block) (most other))
  where
    pick : (b : Bool) (n m : ℕ) → n ≤ m → cond b 0 n ≤ cond b 0 m
    pick true n m h = omega arith
    pick false n m h = h

pub some-changed : (changed : ℕ × ℕ → ℕ) (at : ℕ) (entries : List (ℕ × ℕ)) →
    is_some (value_at at (all_changed changed entries)) ≡ is_some (value_at at entries)
some-changed changed at entries = ap is_some (value-changed changed at entries) ∙ some (value_at at entries)
  where
    some : (bound : Option ℕ) → is_some (bound_changed changed at bound) ≡ is_some bound
    some None = refl
    some (Some age) = refl

pub named-with : (key age other : ℕ) (xs ys : List (ℕ × ℕ)) →
    ((at : ℕ) → is_some (value_at at xs) ≡ is_some (value_at at ys)) → (at : ℕ) →
    is_some (value_at at (with_value key age xs)) ≡ is_some (value_at at (with_value key other ys))
named-with key age other xs ys alike at = elim (cases_eq at key)
    as (λ _. is_some (value_at at (with_value key age xs)) ≡ is_some (value_at at (with_value key other ys))) [
      | inl e ↦ subst (λ (k : ℕ). is_some (value_at k (with_value key age xs)) ≡ is_some (value_at k (with_value key other ys)))
          (sym e) (ap is_some (value_with_same key age xs) ∙ sym (ap is_some (value_with_same key other ys)))
      | inr ne ↦ ap is_some (value_with_other key at age xs ne) ∙ alike at ∙
          sym (ap is_some (value_with_other key at other ys ne))
    ]

named-sured : (block : ℕ) (x y : Lowers) →
    ((other : ℕ) → is_some (value_at other x.ages) ≡ is_some (value_at other y.ages)) → (other : ℕ) →
    is_some (value_at other (sured block x).ages) ≡ is_some (value_at other (sured block y).ages)
named-sured block x y same other =
    some-changed (touched_entry x.ways block (age_of x block)) other (with_value block 0 x.ages) ∙
    named-with block 0 0 x.ages y.ages same other ∙
    sym (some-changed (touched_entry y.ways block (age_of y block)) other (with_value block 0 y.ages))

pub sured-rises : (ways block : ℕ) (names : List ℕ) (x y : Lowers) → block < 2 ^ 32 → IsNamed ways names x → IsNamed ways names y →
    leq x y ≡ true → leq (sured block x) (sured block y) ≡ true
sured-rises ways block names x y low p q h =
    let same : (other : ℕ) → is_some (value_at other x.ages) ≡ is_some (value_at other y.ages) =
    same_named x.ages y.ages (p.names ∙ sym q.names) in
    let under : (other : ℕ) → age_of y other ≤ age_of x other = ages-under x y same h in
    let parts = and_parts (at_least x.shared y.shared) (map_leq at_least x.ages y.ages) h in
    let shared : y.shared ≤ x.shared = grind (arith, nat_tests, parts.0) in
    under-ages (sured block x) (sured block y) (sured-is ways y q.lower block low).each.rising (named-sured block x y same)
    (subst (λ (n : ℕ). grown_up_to n y.shared (age_of y block) ≤ grown_up_to x.ways x.shared (age_of x block)) (sym q.lower.same)
    (subst (λ (n : ℕ). grown_up_to ways y.shared (age_of y block) ≤ grown_up_to n x.shared (age_of x block)) (sym p.lower.same)
    (grown-rises ways y.shared (age_of y block) x.shared (age_of x block) shared (under block) p.lower.shared)))
    (λ other.
    let left = sured-ages ways x p.lower block other in
    let right = sured-ages ways y q.lower block other in
    let e : x.ways ≡ ways = p.lower.same in
    let f : y.ways ≡ ways = q.lower.same in
    let rises = sure-rises ways block other (age_of y) (age_of x) under (age-most ways x p.lower) in
    subst (λ (n : ℕ). n ≤ age_of (sured block x) other) (sym (right ∙ ap (λ (w : ℕ). sure_lower w block (age_of y) other) f))
    (subst (λ (n : ℕ). sure_lower ways block (age_of y) other ≤ n)
    (sym (left ∙ ap (λ (w : ℕ). sure_lower w block (age_of x) other) e)) rises))

pub named-is : (ways block : ℕ) (state : Lowers) → block < 2 ^ 32 → IsLower ways state → IsLower ways (named block state)
named-is ways block state low is = put-is ways block (age_of state block) state low (age-most ways state is block) is
