-- Upper ages keep the laws of lattices and ranks.
use Rattle.std.specs.Prelude.{◌≡◌, ℕ, ◌+◌, ◌-◌, ◌*◌, ◌^◌, ◌<◌, true, false, max, nat_le, List, [], ◌∷◌, refl}
use Rattle.std.proofs.Common.{◌∙◌, ap, ap₂, arith, subst, sym}
use Rattle.std.proofs.lemmas.Bool.Decides.{nat_tests}
use Rattle.domain_laws.specs.Consequences.{no_lattice, no_ranks}
use Rattle.domain_laws.specs.Laws.{IsLattice, IsLatticeOn, IsRanked, IsRankedOn}
use Rattle.domain_laws.specs.MapLaws.{map_lattice_on, map_ranked_on, topped_lattice}
use Rattle.domain_laws.specs.Maps.{IsMap, always, map_joined, map_leq, map_rank}
use Rattle.domain_laws.specs.Shapes.{Shape}
use Rattle.domain_laws.specs.Shapes.Shape.{plain, pair, no_keys, key}
use Rattle.must_domain.specs.Order.{joined, leq, rank, upper_has}
use Rattle.must_domain.specs.States.{IsUpper, IsYoung, Uppers}

bound_lattice : (ways block : ℕ) → IsLatticeOn (IsYoung ways block) nat_le max
bound_lattice ways block = record {
  same = λ x p. grind (arith, nat_tests);
  chain = λ x y z p q r h k. grind (arith, nat_tests, h, k);
  both = λ x y p q h k. grind (arith, nat_tests, h, k);
  kept = λ x y p q. record { low = p.low; young = omega (arith, p.young, q.young) };
  left = λ x y p q. grind (arith, nat_tests);
  right = λ x y p q. grind (arith, nat_tests);
  least = λ x y z p q r h k. grind (arith, nat_tests, h, k);
}

bounds_lattice : (ways : ℕ) → IsLatticeOn (IsMap (IsYoung ways)) (map_leq nat_le) (map_joined (always max))
bounds_lattice ways = map_lattice_on (λ block. topped_lattice (bound_lattice ways block))

upper_lattice_on : (ways : ℕ) → IsLatticeOn (IsUpper ways) leq joined
upper_lattice_on ways = record {
  same = λ x p. laws.same x.ages p.each;
  chain = λ x y z p q r h k. laws.chain x.ages y.ages z.ages p.each q.each r.each h k;
  both = λ x y p q h k.
      ap₂ (λ (n : ℕ) (ages : List (ℕ × ℕ)). record { ways = n; ages = ages }) (p.same ∙ sym q.same)
      (laws.both x.ages y.ages p.each q.each h k);
  kept = λ x y p q. record {
    same = p.same;
    some = p.some;
    low = p.low;
    each = laws.kept x.ages y.ages p.each q.each;
  };
  left = λ x y p q. laws.left x.ages y.ages p.each q.each;
  right = λ x y p q. laws.right x.ages y.ages p.each q.each;
  least = λ x y z p q r h k. laws.least x.ages y.ages z.ages p.each q.each r.each h k;
}
  where
    laws : IsLatticeOn (IsMap (IsYoung ways)) (map_leq nat_le) (map_joined (always max))
    laws = bounds_lattice ways

pub upper_lattice : IsLattice upper_has leq joined
upper_lattice = record { on = on }
  where
    on : (s : Shape) → IsLatticeOn (λ x. upper_has x s) leq joined
    on (plain []) = no_lattice
    on (plain (ways ∷ [])) = upper_lattice_on ways
    on (plain (ways ∷ number ∷ numbers)) = no_lattice
    on (pair first second) = no_lattice
    on no_keys = no_lattice
    on (key number value rest) = no_lattice

bound_ranked : (ways block : ℕ) → ways < 2 ^ 32 → IsRankedOn (IsYoung ways block) nat_le (λ (age : ℕ). ways - age) (2 ^ 32)
bound_ranked ways block low = record {
  within = λ x p. omega (arith, low);
  falls = λ x y p q h k. grind (arith, nat_tests, h, k, p.young, q.young);
}

bounds_ranked : (ways : ℕ) → ways < 2 ^ 32 →
    IsRankedOn (IsMap (IsYoung ways)) (map_leq nat_le) (map_rank (λ (age : ℕ). ways - age)) (2 ^ 32 * 2 ^ 32 + 1)
bounds_ranked ways low = map_ranked_on (2 ^ 32) (λ block. topped_lattice (bound_lattice ways block))
    (λ block. bound_ranked ways block low) (λ block x p. p.low)

upper_ranked_on : (ways : ℕ) → IsRankedOn (IsUpper ways) leq rank (2 ^ 32 * 2 ^ 32 + 1)
upper_ranked_on ways = record {
  within = λ x p. subst (λ (n : ℕ). map_rank (λ (age : ℕ). n - age) x.ages < 2 ^ 32 * 2 ^ 32 + 1) (sym p.same)
      ((bounds_ranked ways p.low).within x.ages p.each);
  falls = λ x y p q h k.
      subst (λ (n : ℕ). map_rank (λ (age : ℕ). y.ways - age) y.ages < map_rank (λ (age : ℕ). n - age) x.ages) (sym p.same)
      (subst (λ (n : ℕ). map_rank (λ (age : ℕ). n - age) y.ages < map_rank (λ (age : ℕ). ways - age) x.ages) (sym q.same)
      ((bounds_ranked ways p.low).falls x.ages y.ages p.each q.each h k));
}

pub upper_ranked : IsRanked upper_has leq rank (2 ^ 32 * 2 ^ 32 + 1)
upper_ranked = record { on = on }
  where
    on : (s : Shape) → IsRankedOn (λ x. upper_has x s) leq rank (2 ^ 32 * 2 ^ 32 + 1)
    on (plain []) = no_ranks
    on (plain (ways ∷ [])) = upper_ranked_on ways
    on (plain (ways ∷ number ∷ numbers)) = no_ranks
    on (pair first second) = no_ranks
    on no_keys = no_ranks
    on (key number value rest) = no_ranks
