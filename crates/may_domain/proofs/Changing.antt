-- The bounds after a change: the bound of each block, and the pass that makes them in place.
use Rattle.std.proofs.Common.{◌≡◌, ℕ, ◌+◌, ◌<◌, ◌≤◌, Bool, List, [], ◌∷◌, ◌++◌, length, take, drop, Option, Some, None, refl, sym, ap, ap₂, ◌∙◌, subst, inl, inr, arith, get_or, set}
use Rattle.std.specs.Prelude.{min, is_some, true}
use Rattle.std.proofs.lemmas.Bool.{cases_eq}
use Rattle.std.proofs.lemmas.List.{append-nil, append_assoc, drop-set-lt, drop_all, drop_more, length-set, take_all, take_more_set}
use Rattle.domain_laws.specs.MapValues.{value_here, value_past}
use Rattle.domain_laws.specs.Maps.{Rises, IsMap, always, entry_of, map_joined, topped_joined, value_at}
use Rattle.domain_laws.specs.Options.{option_ok}
use Rattle.may_domain.specs.Changes.{all_changed, joined_entry, least_of}
use Rattle.may_domain.specs.Laws.{named_here}
use Rattle.may_domain.specs.States.{names_in}

-- What becomes of the bound of a block, if it is named.
abbrev pub bound_changed : (changed : ℕ × ℕ → ℕ) → (block : ℕ) → Option ℕ → Option ℕ
bound_changed changed block None = None
bound_changed changed block (Some age) = Some (changed (block, age))

pub rises-changed : (changed : ℕ × ℕ → ℕ) (from : ℕ) (entries : List (ℕ × ℕ)) → Rises from entries →
    Rises from (all_changed changed entries)
rises-changed changed from [] rises = tt
rises-changed changed from (entry ∷ entries) rises = (rises.0, rises-changed changed (entry.0 + 1) entries rises.1)

pub names-changed : (changed : ℕ × ℕ → ℕ) (entries : List (ℕ × ℕ)) →
    names_in (all_changed changed entries) ≡ names_in entries
names-changed changed [] = refl
names-changed changed (entry ∷ entries) = ap (λ (names : List ℕ). entry.0 ∷ names) (names-changed changed entries)

pub value-changed : (changed : ℕ × ℕ → ℕ) (block : ℕ) (entries : List (ℕ × ℕ)) →
    value_at block (all_changed changed entries) ≡ bound_changed changed block (value_at block entries)
value-changed changed block [] = refl
value-changed changed block (entry ∷ entries) =
    elim (cases_eq block entry.0)
    as (λ _. value_at block (all_changed changed (entry ∷ entries)) ≡ bound_changed changed block (value_at block (entry ∷ entries))) [
      | inl e ↦
          value_here block (entry.0, changed entry) (all_changed changed entries) e ∙
          ap (λ (k : ℕ). Some (changed (k, entry.1))) (sym e) ∙
          ap (bound_changed changed block) (sym (value_here block entry entries e))
      | inr ne ↦
          value_past block (entry.0, changed entry) (all_changed changed entries) ne ∙
          value-changed changed block entries ∙
          ap (bound_changed changed block) (sym (value_past block entry entries ne))
    ]

-- Values that rise and meet their conditions are a map.
pub map-from : {ok : ℕ → ℕ → Type 0} (entries : List (ℕ × ℕ)) → Rises 0 entries →
    ((key : ℕ) → option_ok (ok key) (value_at key entries)) → IsMap ok entries
map-from {ok} entries rises each = record {
  rising = rises;
  each = λ key x there. subst (option_ok (ok key)) there (each key);
}

-- The join with a state that names the same blocks is such a change.
joined-one : (block age : ℕ) (z : Option ℕ) (entries : List (ℕ × ℕ)) → is_some z ≡ true →
    entry_of block (topped_joined (always min) (Some age) z) entries ≡ (block, least_of age z) ∷ entries
joined-one block age None entries some = cc
joined-one block age (Some other) entries some = refl

pub joined-changed : (entries others : List (ℕ × ℕ)) →
    ((block : ℕ) → is_some (value_at block entries) ≡ true → is_some (value_at block others) ≡ true) →
    map_joined (always min) entries others ≡ all_changed (joined_entry others) entries
joined-changed [] others there = refl
joined-changed (entry ∷ entries) others there =
    joined-one entry.0 entry.1 (value_at entry.0 others) (map_joined (always min) entries others)
    (there entry.0 (named_here entry.0 entry entries refl)) ∙
    ap (λ (more : List (ℕ × ℕ)). (entry.0, joined_entry others entry) ∷ more)
    (joined-changed entries others (λ block some. there block (later block some)))
  where
    later : (block : ℕ) → is_some (value_at block entries) ≡ true → is_some (value_at block (entry ∷ entries)) ≡ true
    later block some = elim (cases_eq block entry.0) as (λ _. is_some (value_at block (entry ∷ entries)) ≡ true) [
      | inl e ↦ named_here block entry entries e
      | inr ne ↦ ap is_some (value_past block entry entries ne) ∙ some
    ]

-- A pass has come to a place: the entries before it have their new bounds, and the rest is as it was.
pub record IsPass (changed : ℕ × ℕ → ℕ) (start now : List (ℕ × ℕ)) (place : ℕ) : Type 0 where
  pub size : length now ≡ length start
  pub all : take place now ++ all_changed changed (drop place now) ≡ all_changed changed start

pub pass-more : (changed : ℕ × ℕ → ℕ) (start now : List (ℕ × ℕ)) (place : ℕ) (entry : ℕ × ℕ) (age : ℕ) →
    IsPass changed start now place → place < length now → get_or now place entry ≡ entry → age ≡ changed entry →
    IsPass changed start (set now place (entry.0, age)) (place + 1)
pass-more changed start now place entry age pass inside at is = record {
  size = length-set now place (entry.0, age) ∙ pass.size;
  all =
      ap₂ (λ (xs ys : List (ℕ × ℕ)). xs ++ all_changed changed ys)
      (take_more_set now place (entry.0, age) inside)
      (drop-set-lt (place + 1) now place (entry.0, age) (omega arith)) ∙
      append_assoc (take place now) ((entry.0, age) ∷ []) (all_changed changed (drop (place + 1) now)) ∙
      ap (λ (n : ℕ). take place now ++ (entry.0, n) ∷ all_changed changed (drop (place + 1) now)) is ∙
      ap (λ (es : List (ℕ × ℕ)). take place now ++ all_changed changed es)
      (sym (drop_more now place entry inside ∙ ap (λ (e : ℕ × ℕ). e ∷ drop (place + 1) now) at)) ∙
      pass.all;
}

pub pass-ends : (changed : ℕ × ℕ → ℕ) (start now : List (ℕ × ℕ)) (place : ℕ) → IsPass changed start now place →
    length now ≤ place → now ≡ all_changed changed start
pass-ends changed start now place pass past =
    sym (take_all place now past) ∙ sym (append-nil (take place now)) ∙
    ap (λ (es : List (ℕ × ℕ)). take place now ++ all_changed changed es) (sym (drop_all place now past)) ∙ pass.all
