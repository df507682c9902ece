-- Conflicts keep the laws of lattices and ranks.
use Rattle.std.specs.Prelude.{◌≡◌, ℕ, ◌^◌, List, [], ◌∷◌}
use Rattle.std.proofs.Common.{◌∙◌, ap₂, sym}
use Rattle.domain_laws.specs.Consequences.{no_lattice, no_ranks}
use Rattle.domain_laws.specs.Laws.{IsLattice, IsLatticeOn, IsRanked, IsRankedOn}
use Rattle.domain_laws.specs.SetLaws.{capped_lattice, capped_ranked}
use Rattle.domain_laws.specs.Sets.{IsCapped, Limited, capped_joined, capped_leq, capped_rank}
use Rattle.domain_laws.specs.Shapes.{Shape}
use Rattle.domain_laws.specs.Shapes.Shape.{plain, pair, no_keys, key}
use Rattle.persist_domain.specs.Order.{conflicts_have, joined, leq, rank}
use Rattle.persist_domain.specs.States.{Conflicting, IsConflicting}

conflicts_lattice_on : (ways own : ℕ) → IsLatticeOn (IsConflicting ways own) leq joined
conflicts_lattice_on ways own = record {
  same = λ x p. laws.same x.others p.few;
  chain = λ x y z p q r h k. laws.chain x.others y.others z.others p.few q.few r.few h k;
  both = λ x y p q h k.
      ap₂ (λ (n : ℕ) (others : Limited). record { block = n; others = others }) (p.same ∙ sym q.same)
      (laws.both x.others y.others p.few q.few h k);
  kept = λ x y p q. record { same = p.same; low = p.low; some = p.some; few = laws.kept x.others y.others p.few q.few };
  left = λ x y p q. laws.left x.others y.others p.few q.few;
  right = λ x y p q. laws.right x.others y.others p.few q.few;
  least = λ x y z p q r h k. laws.least x.others y.others z.others p.few q.few r.few h k;
}
  where
    laws : IsLatticeOn (IsCapped ways) capped_leq capped_joined
    laws = capped_lattice.on (plain (ways ∷ []))

pub conflicts_lattice : IsLattice conflicts_have leq joined
conflicts_lattice = record { on = on }
  where
    on : (s : Shape) → IsLatticeOn (λ x. conflicts_have x s) leq joined
    on (plain []) = no_lattice
    on (plain (ways ∷ [])) = no_lattice
    on (plain (ways ∷ own ∷ [])) = conflicts_lattice_on ways own
    on (plain (ways ∷ own ∷ number ∷ numbers)) = no_lattice
    on (pair first second) = no_lattice
    on no_keys = no_lattice
    on (key number value rest) = no_lattice

conflicts_ranked_on : (ways own : ℕ) → IsRankedOn (IsConflicting ways own) leq rank (2 ^ 32)
conflicts_ranked_on ways own = record {
  within = λ x p. ranks.within x.others p.few;
  falls = λ x y p q h k. ranks.falls x.others y.others p.few q.few h k;
}
  where
    ranks : IsRankedOn (IsCapped ways) capped_leq capped_rank (2 ^ 32)
    ranks = capped_ranked.on (plain (ways ∷ []))

pub conflicts_ranked : IsRanked conflicts_have leq rank (2 ^ 32)
conflicts_ranked = record { on = on }
  where
    on : (s : Shape) → IsRankedOn (λ x. conflicts_have x s) leq rank (2 ^ 32)
    on (plain []) = no_ranks
    on (plain (ways ∷ [])) = no_ranks
    on (plain (ways ∷ own ∷ [])) = conflicts_ranked_on ways own
    on (plain (ways ∷ own ∷ number ∷ numbers)) = no_ranks
    on (pair first second) = no_ranks
    on no_keys = no_ranks
    on (key number value rest) = no_ranks
