-- What follows from the laws in every lattice.
use Rattle.std.specs.Prelude.{◌≡◌, ℕ, ◌≤◌, Bool, true, false}
use Rattle.std.proofs.Common.{◌∙◌, ap, arith, inl, inr, sym}
use Rattle.std.proofs.lemmas.Bool.{cases_Bool, false≢true}
use Rattle.domain_laws.specs.Shapes.{Shape}
use Rattle.domain_laws.specs.Laws.{IsLatticeOn, IsRankedOn, IsWideningOn, IsCeiling, IsLattice, IsWidening}

-- The laws hold where no value meets the condition.
pub no_lattice : {D : Type 0} {leq : D → D → Bool} {joined : D → D → D} → IsLatticeOn (λ (_ : D). ⊥) leq joined
no_lattice = record {
  same = λ x p. absurd p;
  chain = λ x y z p q r h k. absurd p;
  both = λ x y p q h k. absurd p;
  kept = λ x y p q. p;
  left = λ x y p q. absurd p;
  right = λ x y p q. absurd p;
  least = λ x y z p q r h k. absurd p;
}

pub no_ranks : {D : Type 0} {leq : D → D → Bool} {rank : D → ℕ} {height : ℕ} → IsRankedOn (λ (_ : D). ⊥) leq rank height
no_ranks = record { within = λ x p. absurd p; falls = λ x y p q h k. absurd p }

pub no_widening : {D : Type 0} {leq : D → D → Bool} {widened : D → D → D} → IsWideningOn (λ (_ : D). ⊥) leq widened
no_widening = record { kept = λ x y p q. p; left = λ x y p q. absurd p; right = λ x y p q. absurd p }

-- The join is a widening, of which every value is a ceiling.
pub joined_widening : {D : Type 0} {has : D → Shape → Type 0} {leq : D → D → Bool} {joined : D → D → D} →
    IsLattice has leq joined → IsWidening has leq joined
joined_widening laws = record {
  on = λ s. record { kept = (laws.on s).kept; left = (laws.on s).left; right = (laws.on s).right };
}

pub joined_ceiling : {D : Type 0} {P : D → Type 0} {leq : D → D → Bool} {joined : D → D → D} →
    IsLatticeOn P leq joined → (z : D) → P z → IsCeiling P leq joined z
joined_ceiling laws z r = record { above = λ x y p q h k. laws.least x y z p q r h k }

-- The rank of a value never exceeds that of one under it.
pub rank_falls : {D : Type 0} {P : D → Type 0} {leq : D → D → Bool} {joined : D → D → D} {rank : D → ℕ} {height : ℕ} →
    IsLatticeOn P leq joined → IsRankedOn P leq rank height → (x y : D) → P x → P y → leq x y ≡ true → rank y ≤ rank x
rank_falls {leq = leq} {rank = rank} laws ranks x y p q h = elim (cases_Bool (leq y x)) as (λ _. rank y ≤ rank x) [
  | inl k ↦ omega (arith, ap rank (laws.both x y p q h k))
  | inr k ↦ omega (arith, ranks.falls x y p q h k)
]

-- The laws hold among fewer values, where the join of two of them is one of them.
pub fewer_lattice : {D : Type 0} {P Q : D → Type 0} {leq : D → D → Bool} {joined : D → D → D} → IsLatticeOn P leq joined →
    ((x y : D) → P x → P y → Q x → Q y → Q (joined x y)) → IsLatticeOn (λ x. P x × Q x) leq joined
fewer_lattice laws kept = record {
  same = λ x p. laws.same x p.0;
  chain = λ x y z p q r h k. laws.chain x y z p.0 q.0 r.0 h k;
  both = λ x y p q h k. laws.both x y p.0 q.0 h k;
  kept = λ x y p q. (laws.kept x y p.0 q.0, kept x y p.0 q.0 p.1 q.1);
  left = λ x y p q. laws.left x y p.0 q.0;
  right = λ x y p q. laws.right x y p.0 q.0;
  least = λ x y z p q r h k. laws.least x y z p.0 q.0 r.0 h k;
}

pub fewer_ranks : {D : Type 0} {P Q : D → Type 0} {leq : D → D → Bool} {rank : D → ℕ} {height : ℕ} →
    IsRankedOn P leq rank height → IsRankedOn (λ x. P x × Q x) leq rank height
fewer_ranks laws = record {
  within = λ x p. laws.within x p.0;
  falls = λ x y p q h k. laws.falls x y p.0 q.0 h k;
}

pub fewer_widening : {D : Type 0} {P Q : D → Type 0} {leq : D → D → Bool} {widened : D → D → D} → IsWideningOn P leq widened →
    ((x y : D) → P x → P y → Q x → Q y → Q (widened x y)) → IsWideningOn (λ x. P x × Q x) leq widened
fewer_widening laws kept = record {
  kept = λ x y p q. (laws.kept x y p.0 q.0, kept x y p.0 q.0 p.1 q.1);
  left = λ x y p q. laws.left x y p.0 q.0;
  right = λ x y p q. laws.right x y p.0 q.0;
}

-- A value that has another one under it is their join, and one that hasn't grows by it.
pub absorbs : {D : Type 0} {P : D → Type 0} {leq : D → D → Bool} {joined : D → D → D} → IsLatticeOn P leq joined →
    (x y : D) → P x → P y → leq y x ≡ true → joined x y ≡ x
absorbs {joined = joined} laws x y p q h =
    laws.both (joined x y) x (laws.kept x y p q) p (laws.least x y x p q p (laws.same x p) h) (laws.left x y p q)

pub grows : {D : Type 0} {P : D → Type 0} {leq : D → D → Bool} {joined : D → D → D} → IsLatticeOn P leq joined →
    (x y : D) → P x → P y → leq y x ≡ false → leq (joined x y) x ≡ false
grows {leq = leq} {joined = joined} laws x y p q h = elim (cases_Bool (leq (joined x y) x)) as (λ _. leq (joined x y) x ≡ false) [
  | inl k ↦ absurd (false≢true (sym h ∙
      laws.chain y (joined x y) x q (laws.kept x y p q) p (laws.right x y p q) k))
  | inr k ↦ k
]
