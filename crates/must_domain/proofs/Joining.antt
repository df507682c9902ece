-- The join of two states of a set is a state of that set.
use Rattle.std.proofs.Common.{◌≡◌, ℕ, List, [], ◌∷◌, subst, sym}
use Rattle.domain_laws.specs.Shapes.{Shape}
use Rattle.domain_laws.specs.Shapes.Shape.{plain, pair, no_keys, key}
use Rattle.must_domain.specs.Laws.{upper_lattice}
use Rattle.must_domain.specs.Order.{joined, upper_has}
use Rattle.must_domain.specs.States.{IsUpper, Uppers}

pub upper-of : (s : Shape) (x : Uppers) → upper_has x s → IsUpper x.ways x
upper-of (plain []) x is = absurd is
upper-of (plain (ways ∷ [])) x is = subst (λ (n : ℕ). IsUpper n x) (sym is.same) is
upper-of (plain (ways ∷ number ∷ numbers)) x is = absurd is
upper-of (pair first second) x is = absurd is
upper-of no_keys x is = absurd is
upper-of (key number value rest) x is = absurd is

pub joined-is : (s : Shape) (x y : Uppers) → upper_has x s → upper_has y s → IsUpper (joined x y).ways (joined x y)
joined-is s x y p q = upper-of s (joined x y) ((upper_lattice.on s).kept x y p q)
