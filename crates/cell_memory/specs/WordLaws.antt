-- Known words keep the laws of lattices, ranks and widening.
use Rattle.std.specs.Prelude.{◌≡◌, ℕ, ◌+◌, ◌*◌, ◌^◌, true, false, Option, Some, None, refl}
use Rattle.std.proofs.Common.{sym, ap, subst, ◌∙◌, arith}
use Rattle.std.proofs.lemmas.Bool.{cond_both, true≢false, and_parts, eqb-true}
use Rattle.cell_memory.specs.Words.{IsWord, AreWords, is_everything, known, joined_word, widened_word}
use Rattle.domain_laws.specs.Laws.{IsLatticeOn, IsRankedOn, IsWideningOn}
use Rattle.domain_laws.specs.Maps.{topped_leq, topped_joined, map_leq, map_joined, map_rank}
use Rattle.domain_laws.specs.MapLaws.{map_lattice_on, map_widening_on, map_ranked_on}
use Rattle.domain_laws.specs.Options.{option_ok}
use Rattle.value_domain.specs.LatticeLaws.{strided_laws, strided_ranks, strided_widening}
use Rattle.value_domain.specs.Order.{leq, joined, widened, rank}
use Rattle.value_domain.specs.OrderLemmas.{under, under_everything, from_under}
use Rattle.value_domain.specs.Spans.{Span, IsStrided, everything}

-- A span that is everything, and what is above it.
everything_is : (x : Span) → is_everything x ≡ true → x ≡ everything
everything_is x e =
    let p = and_parts _ _ e in
    let q = and_parts _ _ p.0 in
    fields x (eqb-true _ _ q.0) (eqb-true _ _ q.1) (eqb-true _ _ p.1)
  where
    fields : (x : Span) → x.lo ≡ 0 → x.hi ≡ 4294967295 → x.step ≡ 1 → x ≡ everything
    fields x e f g = rw (e, f, g) refl

pub above_everything : (x z : Span) → IsStrided z → is_everything x ≡ true → leq x z ≡ true → is_everything z ≡ true
above_everything x z p e h =
    let f = everything_is x e in
    let u = under everything z (subst (λ (s : Span). leq s z ≡ true) f h) in
    let v = under_everything z p.top in
    subst (λ (s : Span). is_everything s ≡ true) (strided_laws.both everything z strided p (from_under everything z u) (from_under z everything v)) refl
  where
    strided : IsStrided everything
    strided = record { order = omega arith; top = omega arith; whole = refl; one = λ e. absurd (omega (arith, e)) }

-- A known value is above what it is above without that test, and every value is under an unknown one.
known_above : (x y : Span) → leq x y ≡ true → topped_leq leq (Some x) (known y) ≡ true
known_above x y h =
    cond_both (is_everything y) None (Some y) (λ (z : Option Span). topped_leq leq (Some x) z ≡ true) (λ _. refl) (λ _. h)

known_below : (x z : Span) → IsStrided z → is_everything z ≡ false → leq x z ≡ true → topped_leq leq (known x) (Some z) ≡ true
known_below x z p n h =
    cond_both (is_everything x) None (Some x) (λ (y : Option Span). topped_leq leq y (Some z) ≡ true)
    (λ e. absurd (true≢false (sym (above_everything x z p e h) ∙ n))) (λ _. h)

known_ok : (address : ℕ) (x y value : Span) → IsWord address x → IsStrided value → option_ok (IsWord address) (known value)
known_ok address x y value p s =
    cond_both (is_everything value) None (Some value) (option_ok (IsWord address)) (λ _. tt)
    (λ e. record { aligned = p.aligned; low = p.low; strided = s; known = e })

value_lattice : (address : ℕ) → IsLatticeOn (option_ok (IsWord address)) (topped_leq leq) (topped_joined joined_word)
value_lattice address = record {
  same = same;
  chain = chain;
  both = both;
  kept = kept;
  left = left;
  right = right;
  least = least;
}
  where
    same : (x : Option Span) → option_ok (IsWord address) x → topped_leq leq x x ≡ true
    same None p = refl
    same (Some x) p = strided_laws.same x p.strided

    chain : (x y z : Option Span) → option_ok (IsWord address) x → option_ok (IsWord address) y → option_ok (IsWord address) z →
        topped_leq leq x y ≡ true → topped_leq leq y z ≡ true → topped_leq leq x z ≡ true
    chain x y None p q r h k = refl
    chain x None (Some z) p q r h k = cc
    chain None (Some y) (Some z) p q r h k = h
    chain (Some x) (Some y) (Some z) p q r h k = strided_laws.chain x y z p.strided q.strided r.strided h k

    both : (x y : Option Span) → option_ok (IsWord address) x → option_ok (IsWord address) y →
        topped_leq leq x y ≡ true → topped_leq leq y x ≡ true → x ≡ y
    both None None p q h k = refl
    both None (Some y) p q h k = cc
    both (Some x) None p q h k = cc
    both (Some x) (Some y) p q h k = ap (λ (z : Span). Some z) (strided_laws.both x y p.strided q.strided h k)

    kept : (x y : Option Span) → option_ok (IsWord address) x → option_ok (IsWord address) y →
        option_ok (IsWord address) (topped_joined joined_word x y)
    kept None y p q = tt
    kept (Some x) None p q = tt
    kept (Some x) (Some y) p q = known_ok address x y (joined x y) p (strided_laws.kept x y p.strided q.strided)

    left : (x y : Option Span) → option_ok (IsWord address) x → option_ok (IsWord address) y →
        topped_leq leq x (topped_joined joined_word x y) ≡ true
    left None y p q = refl
    left (Some x) None p q = refl
    left (Some x) (Some y) p q = known_above x (joined x y) (strided_laws.left x y p.strided q.strided)

    right : (x y : Option Span) → option_ok (IsWord address) x → option_ok (IsWord address) y →
        topped_leq leq y (topped_joined joined_word x y) ≡ true
    right None y p q = refl
    right (Some x) None p q = refl
    right (Some x) (Some y) p q = known_above y (joined x y) (strided_laws.right x y p.strided q.strided)

    least : (x y z : Option Span) → option_ok (IsWord address) x → option_ok (IsWord address) y → option_ok (IsWord address) z →
        topped_leq leq x z ≡ true → topped_leq leq y z ≡ true → topped_leq leq (topped_joined joined_word x y) z ≡ true
    least x y None p q r h k = refl
    least None y (Some z) p q r h k = h
    least (Some x) None (Some z) p q r h k = k
    least (Some x) (Some y) (Some z) p q r h k =
        known_below (joined x y) z r.strided r.known (strided_laws.least x y z p.strided q.strided r.strided h k)

value_widening : (address : ℕ) → IsWideningOn (option_ok (IsWord address)) (topped_leq leq) (topped_joined widened_word)
value_widening address = record { kept = kept; left = left; right = right }
  where
    kept : (x y : Option Span) → option_ok (IsWord address) x → option_ok (IsWord address) y →
        option_ok (IsWord address) (topped_joined widened_word x y)
    kept None y p q = tt
    kept (Some x) None p q = tt
    kept (Some x) (Some y) p q = known_ok address x y (widened x y) p (strided_widening.kept x y p.strided q.strided)

    left : (x y : Option Span) → option_ok (IsWord address) x → option_ok (IsWord address) y →
        topped_leq leq x (topped_joined widened_word x y) ≡ true
    left None y p q = refl
    left (Some x) None p q = refl
    left (Some x) (Some y) p q = known_above x (widened x y) (strided_widening.left x y p.strided q.strided)

    right : (x y : Option Span) → option_ok (IsWord address) x → option_ok (IsWord address) y →
        topped_leq leq y (topped_joined widened_word x y) ≡ true
    right None y p q = refl
    right (Some x) None p q = refl
    right (Some x) (Some y) p q = known_above y (widened x y) (strided_widening.right x y p.strided q.strided)

value_ranks : (address : ℕ) → IsRankedOn (IsWord address) leq rank (2 ^ 65)
value_ranks address = record {
  within = λ x p. strided_ranks.within x p.strided;
  falls = λ x y p q h k. strided_ranks.falls x y p.strided q.strided h k;
}

pub words_lattice : IsLatticeOn AreWords (map_leq leq) (map_joined joined_word)
words_lattice = map_lattice_on value_lattice

pub words_ranked : IsRankedOn AreWords (map_leq leq) (map_rank rank) (2 ^ 65 * 2 ^ 32 + 1)
words_ranked = map_ranked_on (2 ^ 32) value_lattice value_ranks (λ address x p. p.low)

pub words_widening : IsWideningOn AreWords (map_leq leq) (map_joined widened_word)
words_widening = map_widening_on value_widening
