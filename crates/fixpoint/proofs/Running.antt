-- A turn of the solver, from what its spreading brings.
use Rattle.std.specs.Prelude.{◌≡◌, ℕ, zero, suc, ◌+◌, ◌<◌, Bool, true, false, List, [], ◌∷◌, length, map, Option, None, Some, IfNone, option_map, slice_get, slice_set, refl}
use Rattle.std.proofs.Common.{◌∙◌, ap, arith, inl, inr, subst, sym}
use Rattle.std.proofs.lemmas.List.{length-map}
use Rattle.std.proofs.lemmas.Option.{none-some, same_Some, slice_get-map, slice_get_within}
use Rattle.domain_laws.specs.Laws.{IsLatticeOn}
use Rattle.domain_laws.specs.Options.{option_ok, option_leq}
use Rattle.flow_net.specs.Numbers.{item_at, IsNumberOf}
use Rattle.flow_net.specs.declared.net.NetArc.{NetArc}
use Rattle.net_tables.specs.Numbers.{numbers_of}
use Rattle.net_tables.proofs.Numbering as numbering
use Rattle.fixpoint.specs.Steps.{Holds, IsIn, IsSpread}
use Rattle.fixpoint.specs.Values.{value_of, waits}
use Rattle.fixpoint.proofs.Turns.{turn}

to_other : (number : ℕ) (xs : List ℕ) → IsIn number xs → numbering.IsIn number xs
to_other number [] is = is
to_other number (x ∷ xs) (inl e) = inl e
to_other number (x ∷ xs) (inr more) = inr (to_other number xs more)

from_other : (number : ℕ) (xs : List ℕ) → numbering.IsIn number xs → IsIn number xs
from_other number [] is = is
from_other number (x ∷ xs) (inl e) = inl e
from_other number (x ∷ xs) (inr more) = inr (from_other number xs more)

abbrev froms : List NetArc → List ℕ
froms arcs = map (λ (arc : NetArc). arc.from) arcs

-- The arcs whose numbers stand in the list of a place leave it, and all arcs that leave it stand there.
pub leaves : (arcs : List NetArc) (place number : ℕ) → IsIn number (numbers_of place 1 (map (λ (arc : NetArc). arc.from) arcs)) →
    IsNumberOf arcs number × ((arc : NetArc) → item_at number arcs ≡ Some arc → arc.from ≡ place)
leaves arcs place number is =
    let found = numbering.numbers_only place 1 (froms arcs) number (to_other number (numbers_of place 1 (froms arcs)) is) in (
      record {
        from_one = omega (arith, found.counted);
        within = omega (
          arith,
          found.counted,
          slice_get_within (froms arcs) found.position place found.there,
          length-map arcs (λ (arc : NetArc). arc.from),
        );
      },
      λ arc at.
          let here : slice_get arcs found.position ≡ Some arc =
          subst (λ (n : ℕ). item_at n arcs ≡ Some arc) (counted_suc found.position found.counted) at in
          same_Some arc.from place (sym (slice_get-map (λ (a : NetArc). a.from) arcs found.position ∙
          ap (λ (o : Option NetArc). option_map (λ (a : NetArc). a.from) o) here) ∙ found.there),
    )
  where
    counted_suc : (position : ℕ) → number ≡ 1 + position → number ≡ suc position
    counted_suc position e = omega (arith, e)

pub listed : (arcs : List NetArc) (place number : ℕ) (arc : NetArc) → item_at number arcs ≡ Some arc → arc.from ≡ place →
    IsIn number (numbers_of place 1 (map (λ (arc : NetArc). arc.from) arcs))
listed arcs place zero arc at from = absurd (none-some arc at)
listed arcs place (suc position) arc at from =
    subst (λ (n : ℕ). IsIn n (numbers_of place 1 (froms arcs))) (omega arith)
    (from_other (1 + position) (numbers_of place 1 (froms arcs))
    (numbering.numbers_has place 1 (froms arcs) position
    (slice_get-map (λ (a : NetArc). a.from) arcs position ∙
    ap (λ (o : Option NetArc). option_map (λ (a : NetArc). a.from) o) at ∙ ap (λ (n : ℕ). Some n) from)))

module _ {D : Type 0} (P : D → Type 0) (leq : D → D → Bool) (joined widened : D → D → D) (rank : D → ℕ) (height : ℕ)
    (stepped moved : ℕ → D → D) (arcs : List NetArc) (slots : ℕ) (laws : IsLatticeOn P leq joined)
    (outcome_ok : (number : ℕ) (arc : NetArc) (y : D) → item_at number arcs ≡ Some arc → 0 < arc.from → P y →
    P (moved number (stepped arc.from y)))
    (values : List (Option D)) (marks : List Bool) (place : ℕ) (x : D)
    (here : waits marks place ≡ true) (there : value_of values place ≡ Some x) (inside : place < length marks) (some : 0 < place)
    (later : List (Option D)) (after : List Bool)
    (spread : IsSpread P leq widened rank height moved arcs (stepped place x)
    (numbers_of place 1 (map (λ (arc : NetArc). arc.from) arcs)) [] values (slice_set marks place false) later after) where
  came : (number : ℕ) (arc : NetArc) → item_at number arcs ≡ Some arc → arc.from ≡ place → 0 < arc.to →
      option_leq leq (Some (moved number (stepped place x))) (value_of later arc.to) ≡ true
  came number arc at from to = elim (spread.come number (listed arcs place number arc at from))
      as (λ _. option_leq leq (Some (moved number (stepped place x))) (value_of later arc.to) ≡ true) [
        | inl rest ↦ absurd rest
        | inr come ↦ come arc at to
      ]

  pub turned : (start : D) → P start → Holds P leq widened stepped moved arcs slots start values marks →
      Holds P leq widened stepped moved arcs slots start later after
  turned start ok holds =
      turn P leq joined widened rank height stepped moved arcs slots start laws values marks place x holds here there inside
      later after spread.follows came outcome_ok
      (λ test kept all. spread.passed test kept.widens
      (λ number arc is at to.
      let from : arc.from ≡ place = (leaves arcs place number is).1 arc at in
      subst (λ (n : ℕ). test arc.to (moved number (stepped n x)) ≡ true) from
      (kept.along number arc x at (omega (arith, from, some)) to
      (subst (option_ok P) there (holds.shaped place))
      (subst (λ (n : ℕ). test n x ≡ true) (sym from) (all place x there))))
      all)
      ok

-- A slot that isn't empty has a state.
pub record HasState {D : Type 0} (slot : Option D) : Type 0 where
  pub state : D
  pub there : slot ≡ Some state

pub state_of : {D : Type 0} (slot : Option D) → (slot ≡ None → ⊥) → HasState slot
state_of None some = absurd (some refl)
state_of (Some x) some = record { state = x; there = refl }

-- The number of an item that is there is one of the list.
pub number_of : {T : Type 0} (items : List T) (number : ℕ) (item : T) → item_at number items ≡ Some item → IsNumberOf items number
number_of items zero item at = absurd (none-some item at)
number_of items (suc position) item at =
    let inside = slice_get_within items position item at in
    record { from_one = omega arith; within = omega (arith, inside) }

-- The same spreading, told of equal things.
pub spread_at : {D : Type 0} (P : D → Type 0) (leq : D → D → Bool) (widened : D → D → D) (rank : D → ℕ) (height : ℕ)
    (moved : ℕ → D → D) (arcs : List NetArc) (values later : List (Option D)) (left : List Bool) (a b : D) (ns ms : List ℕ)
    (k l : List Bool) → a ≡ b → ns ≡ ms → k ≡ l →
    IsSpread P leq widened rank height moved arcs a ns [] values k later left →
    IsSpread P leq widened rank height moved arcs b ms [] values l later left
spread_at {D} P leq widened rank height moved arcs values later left a b ns ms k l e f h spread =
    subst (λ (x : D). IsSpread P leq widened rank height moved arcs x ms [] values l later left) e
    (subst (λ (xs : List ℕ). IsSpread P leq widened rank height moved arcs a xs [] values l later left) f
    (subst (λ (bs : List Bool). IsSpread P leq widened rank height moved arcs a ns [] values bs later left) h spread))

-- What a call tells where it gives nothing.
pub none_told : {T : Type 0} (P : Type 0) (o : Option T) → ((x : T) → o ≡ Some x → ⊥) → IfNone o P → P
none_told P None not_some told = told
none_told P (Some x) not_some told = absurd (not_some x refl)
