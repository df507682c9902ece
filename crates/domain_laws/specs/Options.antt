-- Optional values: none of them is under every value, and has every shape.
use Rattle.std.specs.Prelude.{◌≡◌, ℕ, ◌+◌, ◌<◌, Bool, true, false, Option, None, Some, refl}
use Rattle.std.proofs.Common.{ap, arith}
use Rattle.domain_laws.specs.Shapes.{Shape}
use Rattle.domain_laws.specs.Laws.{IsLatticeOn, IsRankedOn, IsWideningOn, IsCeiling, IsLattice, IsRanked, IsWidening}

-- A value that is there meets the condition.
abbrev pub option_ok : {D : Type 0} → (D → Type 0) → Option D → Type 0
option_ok P None = Unit {0}
option_ok P (Some x) = P x

-- The shapes of a value that is there, and every shape where none is.
abbrev pub option_has : {D : Type 0} → (D → Shape → Type 0) → Option D → Shape → Type 0
option_has has x s = option_ok (λ y. has y s) x

abbrev pub option_leq : {D : Type 0} → (D → D → Bool) → Option D → Option D → Bool
option_leq leq None y = true
option_leq leq (Some x) None = false
option_leq leq (Some x) (Some y) = leq x y

-- The join, and with the parts' widening the widened value.
abbrev pub option_joined : {D : Type 0} → (D → D → D) → Option D → Option D → Option D
option_joined joined None y = y
option_joined joined (Some x) None = Some x
option_joined joined (Some x) (Some y) = Some (joined x y)

-- No value has the height of the values for its rank.
abbrev pub option_rank : {D : Type 0} → (D → ℕ) → ℕ → Option D → ℕ
option_rank rank height None = height
option_rank rank height (Some x) = rank x

-- Optional values of a lattice are a lattice.
pub option_lattice_on : {D : Type 0} {P : D → Type 0} {leq : D → D → Bool} {joined : D → D → D} →
    IsLatticeOn P leq joined → IsLatticeOn (option_ok P) (option_leq leq) (option_joined joined)
option_lattice_on {D} {P} {leq} {joined} laws = record {
  same = same;
  chain = chain;
  both = both;
  kept = kept;
  left = left;
  right = right;
  least = least;
}
  where
    same : (x : Option D) → option_ok P x → option_leq leq x x ≡ true
    same None p = refl
    same (Some x) p = laws.same x p

    chain : (x y z : Option D) → option_ok P x → option_ok P y → option_ok P z → option_leq leq x y ≡ true →
        option_leq leq y z ≡ true → option_leq leq x z ≡ true
    chain None y z p q r h k = refl
    chain (Some x) None z p q r h k = cc
    chain (Some x) (Some y) None p q r h k = k
    chain (Some x) (Some y) (Some z) p q r h k = laws.chain x y z p q r h k

    both : (x y : Option D) → option_ok P x → option_ok P y → option_leq leq x y ≡ true →
        option_leq leq y x ≡ true → x ≡ y
    both None None p q h k = refl
    both None (Some y) p q h k = cc
    both (Some x) None p q h k = cc
    both (Some x) (Some y) p q h k = ap (λ (z : D). Some z) (laws.both x y p q h k)

    kept : (x y : Option D) → option_ok P x → option_ok P y → option_ok P (option_joined joined x y)
    kept None y p q = q
    kept (Some x) None p q = p
    kept (Some x) (Some y) p q = laws.kept x y p q

    left : (x y : Option D) → option_ok P x → option_ok P y → option_leq leq x (option_joined joined x y) ≡ true
    left None y p q = refl
    left (Some x) None p q = laws.same x p
    left (Some x) (Some y) p q = laws.left x y p q

    right : (x y : Option D) → option_ok P x → option_ok P y → option_leq leq y (option_joined joined x y) ≡ true
    right None y p q = same y q
    right (Some x) None p q = refl
    right (Some x) (Some y) p q = laws.right x y p q

    least : (x y z : Option D) → option_ok P x → option_ok P y → option_ok P z → option_leq leq x z ≡ true →
        option_leq leq y z ≡ true → option_leq leq (option_joined joined x y) z ≡ true
    least None y z p q r h k = k
    least (Some x) None z p q r h k = h
    least (Some x) (Some y) None p q r h k = h
    least (Some x) (Some y) (Some z) p q r h k = laws.least x y z p q r h k

-- They have one rank more.
pub option_ranked_on : {D : Type 0} {P : D → Type 0} {leq : D → D → Bool} {rank : D → ℕ} {height : ℕ} →
    IsRankedOn P leq rank height → IsRankedOn (option_ok P) (option_leq leq) (option_rank rank height) (height + 1)
option_ranked_on {D} {P} {leq} {rank} {height} laws = record { within = within; falls = falls }
  where
    within : (x : Option D) → option_ok P x → option_rank rank height x < height + 1
    within None p = omega arith
    within (Some x) p = omega (arith, laws.within x p)

    falls : (x y : Option D) → option_ok P x → option_ok P y → option_leq leq x y ≡ true →
        option_leq leq y x ≡ false → option_rank rank height y < option_rank rank height x
    falls None None p q h k = cc
    falls None (Some y) p q h k = laws.within y q
    falls (Some x) None p q h k = cc
    falls (Some x) (Some y) p q h k = laws.falls x y p q h k

-- A widening of the values widens the optional ones.
pub option_widening_on : {D : Type 0} {P : D → Type 0} {leq : D → D → Bool} {joined widened : D → D → D} →
    IsLatticeOn P leq joined → IsWideningOn P leq widened →
    IsWideningOn (option_ok P) (option_leq leq) (option_joined widened)
option_widening_on {D} {P} {leq} {joined} {widened} laws widens = record { kept = kept; left = left; right = right }
  where
    kept : (x y : Option D) → option_ok P x → option_ok P y → option_ok P (option_joined widened x y)
    kept None y p q = q
    kept (Some x) None p q = p
    kept (Some x) (Some y) p q = widens.kept x y p q

    left : (x y : Option D) → option_ok P x → option_ok P y → option_leq leq x (option_joined widened x y) ≡ true
    left None y p q = refl
    left (Some x) None p q = laws.same x p
    left (Some x) (Some y) p q = widens.left x y p q

    right : (x y : Option D) → option_ok P x → option_ok P y → option_leq leq y (option_joined widened x y) ≡ true
    right None None p q = refl
    right None (Some y) p q = laws.same y q
    right (Some x) None p q = refl
    right (Some x) (Some y) p q = widens.right x y p q

-- Some of a ceiling is a ceiling, and so is none of the values.
pub option_ceiling : {D : Type 0} {P : D → Type 0} {leq : D → D → Bool} {widened : D → D → D} (z : Option D) →
    option_ok (IsCeiling P leq widened) z → IsCeiling (option_ok P) (option_leq leq) (option_joined widened) z
option_ceiling {D} {P} {leq} {widened} z ceiling = record { above = above z ceiling }
  where
    above : (z : Option D) → option_ok (IsCeiling P leq widened) z → (x y : Option D) → option_ok P x → option_ok P y →
        option_leq leq x z ≡ true → option_leq leq y z ≡ true → option_leq leq (option_joined widened x y) z ≡ true
    above z c None y p q h k = k
    above z c (Some x) None p q h k = h
    above None c (Some x) (Some y) p q h k = h
    above (Some z) c (Some x) (Some y) p q h k = c.above x y p q h k

-- The laws for each shape.
pub option_lattice : {D : Type 0} {has : D → Shape → Type 0} {leq : D → D → Bool} {joined : D → D → D} →
    IsLattice has leq joined → IsLattice (option_has has) (option_leq leq) (option_joined joined)
option_lattice laws = record { on = λ s. option_lattice_on (laws.on s) }

pub option_ranked : {D : Type 0} {has : D → Shape → Type 0} {leq : D → D → Bool} {rank : D → ℕ} {height : ℕ} →
    IsRanked has leq rank height → IsRanked (option_has has) (option_leq leq) (option_rank rank height) (height + 1)
option_ranked laws = record { on = λ s. option_ranked_on (laws.on s) }

pub option_widening : {D : Type 0} {has : D → Shape → Type 0} {leq : D → D → Bool} {joined widened : D → D → D} →
    IsLattice has leq joined → IsWidening has leq widened →
    IsWidening (option_has has) (option_leq leq) (option_joined widened)
option_widening laws widens = record { on = λ s. option_widening_on (laws.on s) (widens.on s) }
