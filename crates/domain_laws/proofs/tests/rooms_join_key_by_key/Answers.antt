-- The maps have both rooms, each with the one shape of doors.
use Rattle.std.specs.Prelude.{◌≡◌, ℕ, ◌≤◌, List, [], ◌∷◌}
use Rattle.std.proofs.Common.{arith, subst, sym}
use Rattle.std.proofs.lemmas.Option.{none-some}
use Rattle.domain_laws.specs.Keys.{keyed_has}
use Rattle.domain_laws.specs.Plain.{plain_has}
use Rattle.domain_laws.specs.Shapes.{Shape}
use Rattle.domain_laws.specs.Shapes.Shape.{plain, no_keys, key}
use Rattle.domain_laws.proofs.Setting.{has-with_value}
use Rattle.domain_laws.proofs.tests.rooms_join_key_by_key.Goals as goal

abbrev both : Shape
both = key 4 (plain []) (key 9 (plain []) no_keys)

abbrev has_few : ℕ → Shape → Type 0
has_few = plain_has (λ (n : ℕ). n ≤ 3)

have_both : (first second : ℕ) → first ≤ 3 → second ≤ 3 → keyed_has has_few ((4, first) ∷ (9, second) ∷ []) both
have_both first second p q =
    has-with_value has_few both 4 first ((9, second) ∷ [])
    (has-with_value has_few both 9 second [] (record { rising = tt; each = λ at x there. absurd (none-some x there) })
    (q, omega arith))
    (p, omega arith)

fit : (first second : ℕ) (rooms : List (ℕ × ℕ)) → first ≤ 3 → second ≤ 3 → rooms ≡ (4, first) ∷ (9, second) ∷ [] →
    keyed_has has_few rooms both
fit first second rooms p q e =
    subst (λ (es : List (ℕ × ℕ)). keyed_has has_few es both) (sym e) (have_both first second p q)

pub joined-requires : goal.joined-requires
joined-requires g c = (
  both,
  fit 1 2 c.in_ok-rooms.field-0 (omega arith) (omega arith) c.in_ok-rooms.ensures,
  fit 2 0 c.in_ok-rooms-2.field-0 (omega arith) (omega arith) c.in_ok-rooms-2.ensures,
)

pub widened-requires : goal.widened-requires
widened-requires g c = (
  both,
  fit 1 2 c.in_ok-rooms-3.field-0 (omega arith) (omega arith) c.in_ok-rooms-3.ensures,
  fit 2 0 c.in_ok-rooms-4.field-0 (omega arith) (omega arith) c.in_ok-rooms-4.ensures,
)

pub maybe-requires : goal.maybe-requires
maybe-requires g c = (
  both,
  fit 1 2 c.in_ok-rooms-5.field-0 (omega arith) (omega arith) c.in_ok-rooms-5.ensures,
  fit 2 0 c.in_ok-rooms-6.field-0 (omega arith) (omega arith) c.in_ok-rooms-6.ensures,
)
