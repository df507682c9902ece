-- The join of two states of a block is a state of that block.
use Rattle.std.proofs.Common.{◌≡◌, ℕ, List, [], ◌∷◌, subst, sym, ◌∙◌}
use Rattle.domain_laws.specs.Shapes.{HaveShape, Shape}
use Rattle.domain_laws.specs.Shapes.Shape.{plain, pair, no_keys, key}
use Rattle.domain_laws.specs.Sets.{IsCapped, Limited, capped_has}
use Rattle.persist_domain.specs.Laws.{conflicts_lattice}
use Rattle.persist_domain.specs.Order.{conflicts_have, joined}
use Rattle.persist_domain.specs.States.{Conflicting, IsConflicting}

pub common-limit : (s : Shape) (x y : Conflicting) → conflicts_have x s → conflicts_have y s →
    HaveShape capped_has x.others y.others
common-limit (plain []) x y p q = absurd p
common-limit (plain (ways ∷ [])) x y p q = absurd p
common-limit (plain (ways ∷ own ∷ [])) x y p q = (plain (ways ∷ []), p.few, q.few)
common-limit (plain (ways ∷ own ∷ number ∷ numbers)) x y p q = absurd p
common-limit (pair first second) x y p q = absurd p
common-limit no_keys x y p q = absurd p
common-limit (key number value rest) x y p q = absurd p

-- Two states with a common shape are of the same block and ways.
shape-of : (s : Shape) (ways own : ℕ) (x y : Conflicting) → conflicts_have x s → conflicts_have y s →
    IsConflicting ways own x → IsConflicting ways own y
shape-of (plain []) ways own x y p q is = absurd p
shape-of (plain (n ∷ [])) ways own x y p q is = absurd p
shape-of (plain (n ∷ block ∷ [])) ways own x y p q is =
    subst (λ (w : ℕ). IsConflicting w own y) (sym p.few.same ∙ is.few.same)
    (subst (λ (b : ℕ). IsConflicting n b y) (sym p.same ∙ is.same) q)
shape-of (plain (n ∷ block ∷ number ∷ numbers)) ways own x y p q is = absurd p
shape-of (pair first second) ways own x y p q is = absurd p
shape-of no_keys ways own x y p q is = absurd p
shape-of (key number value rest) ways own x y p q is = absurd p

pub joined-is : (s : Shape) (ways own : ℕ) (x y : Conflicting) → conflicts_have x s → conflicts_have y s →
    IsConflicting ways own x → IsConflicting ways own (joined x y)
joined-is s ways own x y p q is =
    (conflicts_lattice.on (plain (ways ∷ own ∷ []))).kept x y is (shape-of s ways own x y p q is)
