-- The join of two states of a set is a state of that set.
use Rattle.std.proofs.Common.{◌≡◌, ℕ, List, [], ◌∷◌, Bool, true, subst, sym, ◌∙◌}
use Rattle.std.specs.Prelude.{is_some}
use Rattle.domain_laws.specs.Maps.{value_at}
use Rattle.domain_laws.specs.Shapes.{Shape}
use Rattle.domain_laws.specs.Shapes.Shape.{plain, pair, no_keys, key}
use Rattle.may_domain.specs.Laws.{lower_lattice, same_named}
use Rattle.may_domain.specs.Order.{joined, lower_has}
use Rattle.may_domain.specs.States.{IsLower, Lowers}

lower-of : (s : Shape) (x : Lowers) → lower_has x s → IsLower x.ways x
lower-of (plain []) x is = absurd is
lower-of (plain (ways ∷ names)) x is = subst (λ (n : ℕ). IsLower n x) (sym is.lower.same) is.lower
lower-of (pair first second) x is = absurd is
lower-of no_keys x is = absurd is
lower-of (key number value rest) x is = absurd is

pub joined-is : (s : Shape) (x y : Lowers) → lower_has x s → lower_has y s → IsLower (joined x y).ways (joined x y)
joined-is s x y p q = lower-of s (joined x y) ((lower_lattice.on s).kept x y p q)

pub common-names : (s : Shape) (x y : Lowers) → lower_has x s → lower_has y s → (block : ℕ) →
    is_some (value_at block x.ages) ≡ true → is_some (value_at block y.ages) ≡ true
common-names (plain []) x y p q block some = absurd p
common-names (plain (ways ∷ names)) x y p q block some =
    sym (same_named x.ages y.ages (p.names ∙ sym q.names) block) ∙ some
common-names (pair first second) x y p q block some = absurd p
common-names no_keys x y p q block some = absurd p
common-names (key number value rest) x y p q block some = absurd p
