-- Lower ages keep the laws of lattices and ranks.
use Rattle.std.specs.Prelude.{◌≡◌, ℕ, ◌+◌, ◌*◌, ◌^◌, ◌<◌, ◌≤◌, ◌&&◌, Bool, true, false, is_some, min, nat_le, List, [], ◌∷◌, Option, Some, None, refl}
use Rattle.std.proofs.Common.{◌∙◌, ap, ap₂, arith, inl, inr, subst, sym}
use Rattle.std.proofs.lemmas.Bool.{and_from, and_parts, and_cases, cases_eq}
use Rattle.std.proofs.lemmas.Bool.Decides.{nat_tests}
use Rattle.domain_laws.specs.Consequences.{no_lattice, no_ranks, rank_falls}
use Rattle.domain_laws.specs.Laws.{IsLattice, IsLatticeOn, IsRanked, IsRankedOn}
use Rattle.domain_laws.specs.MapLaws.{map_lattice_on, map_ranked_on, topped_lattice}
use Rattle.domain_laws.specs.Maps.{IsMap, always, entry_of, map_joined, map_leq, map_rank, topped_joined, value_at}
use Rattle.domain_laws.specs.MapValues.{value_here, value_past}
use Rattle.domain_laws.specs.Shapes.{Shape}
use Rattle.domain_laws.specs.Shapes.Shape.{plain, pair, no_keys, key}
use Rattle.may_domain.specs.Order.{at_least, joined, leq, lower_has, rank}
use Rattle.may_domain.specs.States.{IsLow, IsLower, IsNamed, Lowers, names_in}

bound_lattice : (ways block : ℕ) → IsLatticeOn (IsLow ways block) at_least min
bound_lattice ways block = record {
  same = λ x p. grind (arith, nat_tests);
  chain = λ x y z p q r h k. grind (arith, nat_tests, h, k);
  both = λ x y p q h k. grind (arith, nat_tests, h, k);
  kept = λ x y p q. record { low = p.low; most = omega (arith, p.most) };
  left = λ x y p q. grind (arith, nat_tests);
  right = λ x y p q. grind (arith, nat_tests);
  least = λ x y z p q r h k. grind (arith, nat_tests, h, k);
}

bounds_lattice : (ways : ℕ) → IsLatticeOn (IsMap (IsLow ways)) (map_leq at_least) (map_joined (always min))
bounds_lattice ways = map_lattice_on (λ block. topped_lattice (bound_lattice ways block))

-- States that name the same blocks have a bound for the same blocks.
pub named_here : (block : ℕ) (entry : ℕ × ℕ) (entries : List (ℕ × ℕ)) → block ≡ entry.0 →
    is_some (value_at block (entry ∷ entries)) ≡ true
named_here block entry entries e = ap is_some (value_here block entry entries e)

pub same_named : (xs ys : List (ℕ × ℕ)) → names_in xs ≡ names_in ys → (block : ℕ) →
    is_some (value_at block xs) ≡ is_some (value_at block ys)
same_named [] [] same block = refl
same_named [] (y ∷ ys) same block = cc
same_named (x ∷ xs) [] same block = cc
same_named (x ∷ xs) (y ∷ ys) same block =
    let head : x.0 ≡ y.0 = cc in
    let tail : names_in xs ≡ names_in ys = cc in
    elim (cases_eq block x.0) as (λ _. is_some (value_at block (x ∷ xs)) ≡ is_some (value_at block (y ∷ ys))) [
      | inl e ↦ named_here block x xs e ∙ sym (named_here block y ys (e ∙ head))
      | inr ne ↦ ap is_some (value_past block x xs ne) ∙ same_named xs ys tail block ∙
          sym (ap is_some (value_past block y ys (λ e. ne (e ∙ sym head))))
    ]

-- A join names the blocks that the other state has a bound for too.
named_entry : (block age : ℕ) (z : Option ℕ) (entries : List (ℕ × ℕ)) → is_some z ≡ true →
    names_in (entry_of block (topped_joined (always min) (Some age) z) entries) ≡ block ∷ names_in entries
named_entry block age None entries some = cc
named_entry block age (Some other) entries some = refl

pub names_joined : (xs ys : List (ℕ × ℕ)) →
    ((block : ℕ) → is_some (value_at block xs) ≡ true → is_some (value_at block ys) ≡ true) →
    names_in (map_joined (always min) xs ys) ≡ names_in xs
names_joined [] ys there = refl
names_joined (x ∷ xs) ys there =
    named_entry x.0 x.1 (value_at x.0 ys) (map_joined (always min) xs ys) (there x.0 (named_here x.0 x xs refl)) ∙
    ap (λ (names : List ℕ). x.0 ∷ names) (names_joined xs ys (λ block some. there block (later block some)))
  where
    later : (block : ℕ) → is_some (value_at block xs) ≡ true → is_some (value_at block (x ∷ xs)) ≡ true
    later block some = elim (cases_eq block x.0) as (λ _. is_some (value_at block (x ∷ xs)) ≡ true) [
      | inl e ↦ named_here block x xs e
      | inr ne ↦ ap is_some (value_past block x xs ne) ∙ some
    ]

lower_lattice_on : (ways : ℕ) (names : List ℕ) → IsLatticeOn (IsNamed ways names) leq joined
lower_lattice_on ways names = record {
  same = λ x p. and_from (at_least x.shared x.shared) (map_leq at_least x.ages x.ages) (grind (arith, nat_tests))
      (laws.same x.ages p.lower.each);
  chain = λ x y z p q r h k.
      let a = and_parts (at_least x.shared y.shared) (map_leq at_least x.ages y.ages) h in
      let b = and_parts (at_least y.shared z.shared) (map_leq at_least y.ages z.ages) k in
      and_from (at_least x.shared z.shared) (map_leq at_least x.ages z.ages)
      (through x.shared y.shared z.shared a.0 b.0)
      (laws.chain x.ages y.ages z.ages p.lower.each q.lower.each r.lower.each a.1 b.1);
  both = λ x y p q h k.
      let a = and_parts (at_least x.shared y.shared) (map_leq at_least x.ages y.ages) h in
      let b = and_parts (at_least y.shared x.shared) (map_leq at_least y.ages x.ages) k in
      fields x y (p.lower.same ∙ sym q.lower.same) (alike x.shared y.shared a.0 b.0)
      (laws.both x.ages y.ages p.lower.each q.lower.each a.1 b.1);
  kept = λ x y p q. record {
    lower = record {
      same = p.lower.same;
      some = p.lower.some;
      low = p.lower.low;
      shared = omega (arith, p.lower.shared);
      each = laws.kept x.ages y.ages p.lower.each q.lower.each;
    };
    names = names_joined x.ages y.ages
        (λ block some. sym (same_named x.ages y.ages (p.names ∙ sym q.names) block) ∙ some) ∙ p.names;
  };
  left = λ x y p q. and_from (at_least x.shared (min x.shared y.shared)) (map_leq at_least x.ages (map_joined (always min) x.ages y.ages))
      (grind (arith, nat_tests)) (laws.left x.ages y.ages p.lower.each q.lower.each);
  right = λ x y p q. and_from (at_least y.shared (min x.shared y.shared)) (map_leq at_least y.ages (map_joined (always min) x.ages y.ages))
      (grind (arith, nat_tests)) (laws.right x.ages y.ages p.lower.each q.lower.each);
  least = λ x y z p q r h k.
      let a = and_parts (at_least x.shared z.shared) (map_leq at_least x.ages z.ages) h in
      let b = and_parts (at_least y.shared z.shared) (map_leq at_least y.ages z.ages) k in
      and_from (at_least (min x.shared y.shared) z.shared) (map_leq at_least (map_joined (always min) x.ages y.ages) z.ages)
      (below x.shared y.shared z.shared a.0 b.0)
      (laws.least x.ages y.ages z.ages p.lower.each q.lower.each r.lower.each a.1 b.1);
}
  where
    laws : IsLatticeOn (IsMap (IsLow ways)) (map_leq at_least) (map_joined (always min))
    laws = bounds_lattice ways

    through : (x y z : ℕ) → at_least x y ≡ true → at_least y z ≡ true → at_least x z ≡ true
    through x y z h k = grind (arith, nat_tests, h, k)

    alike : (x y : ℕ) → at_least x y ≡ true → at_least y x ≡ true → x ≡ y
    alike x y h k = grind (arith, nat_tests, h, k)

    below : (x y z : ℕ) → at_least x z ≡ true → at_least y z ≡ true → at_least (min x y) z ≡ true
    below x y z h k = grind (arith, nat_tests, h, k)

    fields : (x y : Lowers) → x.ways ≡ y.ways → x.shared ≡ y.shared → x.ages ≡ y.ages → x ≡ y
    fields x y e f g =
        ap₂ (λ (n m : ℕ). record { ways = n; shared = m; ages = x.ages }) e f ∙
        ap (λ (ages : List (ℕ × ℕ)). record { ways = y.ways; shared = y.shared; ages = ages }) g

pub lower_lattice : IsLattice lower_has leq joined
lower_lattice = record { on = on }
  where
    on : (s : Shape) → IsLatticeOn (λ x. lower_has x s) leq joined
    on (plain []) = no_lattice
    on (plain (ways ∷ names)) = lower_lattice_on ways names
    on (pair first second) = no_lattice
    on no_keys = no_lattice
    on (key number value rest) = no_lattice

bound_ranked : (ways block : ℕ) → ways < 2 ^ 32 → IsRankedOn (IsLow ways block) at_least (λ (age : ℕ). age) (2 ^ 32)
bound_ranked ways block low = record {
  within = λ x p. omega (arith, low, p.most);
  falls = λ x y p q h k. grind (arith, nat_tests, h, k);
}

bounds_ranked : (ways : ℕ) → ways < 2 ^ 32 →
    IsRankedOn (IsMap (IsLow ways)) (map_leq at_least) (map_rank (λ (age : ℕ). age)) (2 ^ 32 * 2 ^ 32 + 1)
bounds_ranked ways low = map_ranked_on (2 ^ 32) (λ block. topped_lattice (bound_lattice ways block))
    (λ block. bound_ranked ways block low) (λ block x p. p.low)

lower_ranked_on : (ways : ℕ) (names : List ℕ) → IsRankedOn (IsNamed ways names) leq rank (2 ^ 32 * 2 ^ 32 + 1 + 2 ^ 32)
lower_ranked_on ways names = record {
  within = λ x p.
      let more = (bounds_ranked ways p.lower.low).within x.ages p.lower.each in
      omega (arith, more, p.lower.shared, p.lower.low);
  falls = λ x y p q h k.
      let a = and_parts (at_least x.shared y.shared) (map_leq at_least x.ages y.ages) h in
      let ranks = bounds_ranked ways p.lower.low in
      let some : y.shared ≤ x.shared = grind (arith, nat_tests, a.0) in
      let fewer = rank_falls (bounds_lattice ways) ranks x.ages y.ages p.lower.each q.lower.each a.1 in
      elim (and_cases (at_least y.shared x.shared) (map_leq at_least y.ages x.ages) k) as (λ _. rank y < rank x) [
        | inl e ↦ let less : y.shared < x.shared = grind (arith, nat_tests, e, some) in omega (arith, less, fewer)
        | inr e ↦ let less = ranks.falls x.ages y.ages p.lower.each q.lower.each a.1 e in omega (arith, less, some)
      ];
}

pub lower_ranked : IsRanked lower_has leq rank (2 ^ 32 * 2 ^ 32 + 1 + 2 ^ 32)
lower_ranked = record { on = on }
  where
    on : (s : Shape) → IsRankedOn (λ x. lower_has x s) leq rank (2 ^ 32 * 2 ^ 32 + 1 + 2 ^ 32)
    on (plain []) = no_ranks
    on (plain (ways ∷ names)) = lower_ranked_on ways names
    on (pair first second) = no_ranks
    on no_keys = no_ranks
    on (key number value rest) = no_ranks
