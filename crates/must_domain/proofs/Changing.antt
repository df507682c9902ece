-- The bounds after a change: the bound of each block, and the pass that makes them in place.
use Rattle.std.proofs.Common.{◌≡◌, ℕ, ◌+◌, ◌<◌, ◌≤◌, Bool, List, [], ◌∷◌, ◌++◌, length, take, drop, Option, Some, None, refl, sym, ap, ap₂, ◌∙◌, subst, inl, inr, arith, get_or, set}
use Rattle.std.specs.Prelude.{max}
use Rattle.std.proofs.lemmas.Bool.{cases_eq}
use Rattle.std.proofs.lemmas.List.{append-nil, append_assoc, drop-set-lt, drop_all, drop_more, length-set, take-set-le, take_more_set}
use Rattle.std.proofs.lemmas.Option.{none-some}
use Rattle.domain_laws.specs.MapValues.{rises_from, value_here, value_past, value_low}
use Rattle.domain_laws.specs.Maps.{Rises, IsMap, always, entry_of, map_joined, topped_joined, value_at}
use Rattle.domain_laws.specs.Options.{option_ok}
use Rattle.must_domain.specs.Changes.{all_changed}

-- What becomes of the bound of a block, which may have none.
abbrev pub bound_changed : (changed : ℕ × ℕ → Option ℕ) → (block : ℕ) → Option ℕ → Option ℕ
bound_changed changed block None = None
bound_changed changed block (Some age) = changed (block, age)

rises-entry : (from key : ℕ) (z : Option ℕ) (entries : List (ℕ × ℕ)) → from ≤ key → Rises (key + 1) entries →
    Rises from (entry_of key z entries)
rises-entry from key None entries less rises = rises_from from (key + 1) entries (omega (arith, less)) rises
rises-entry from key (Some x) entries less rises = (less, rises)

pub rises-changed : (changed : ℕ × ℕ → Option ℕ) (from : ℕ) (entries : List (ℕ × ℕ)) → Rises from entries →
    Rises from (all_changed changed entries)
rises-changed changed from [] rises = tt
rises-changed changed from (entry ∷ entries) rises =
    rises-entry from entry.0 (changed entry) (all_changed changed entries) rises.0
    (rises-changed changed (entry.0 + 1) entries rises.1)

value-entry : (key at : ℕ) (z : Option ℕ) (entries : List (ℕ × ℕ)) → at ≡ key → Rises (key + 1) entries →
    value_at at (entry_of key z entries) ≡ z
value-entry key at None entries e rises = value_low (key + 1) entries at rises (omega (arith, e))
value-entry key at (Some x) entries e rises = value_here at (key, x) entries e

value-other : (key at : ℕ) (z : Option ℕ) (entries : List (ℕ × ℕ)) → (at ≡ key → ⊥) →
    value_at at (entry_of key z entries) ≡ value_at at entries
value-other key at None entries ne = refl
value-other key at (Some x) entries ne = value_past at (key, x) entries ne

pub value-changed : (changed : ℕ × ℕ → Option ℕ) (from block : ℕ) (entries : List (ℕ × ℕ)) → Rises from entries →
    value_at block (all_changed changed entries) ≡ bound_changed changed block (value_at block entries)
value-changed changed from block [] rises = refl
value-changed changed from block (entry ∷ entries) rises =
    elim (cases_eq block entry.0)
    as (λ _. value_at block (all_changed changed (entry ∷ entries)) ≡ bound_changed changed block (value_at block (entry ∷ entries))) [
      | inl e ↦
          value-entry entry.0 block (changed entry) (all_changed changed entries) e
          (rises-changed changed (entry.0 + 1) entries rises.1) ∙
          ap (λ (k : ℕ). changed (k, entry.1)) (sym e) ∙
          ap (bound_changed changed block) (sym (value_here block entry entries e))
      | inr ne ↦
          value-other entry.0 block (changed entry) (all_changed changed entries) ne ∙
          value-changed changed (entry.0 + 1) block entries rises.1 ∙
          ap (bound_changed changed block) (sym (value_past block entry entries ne))
    ]

-- Values that rise and meet their conditions are a map.
pub map-from : {ok : ℕ → ℕ → Type 0} (entries : List (ℕ × ℕ)) → Rises 0 entries →
    ((key : ℕ) → option_ok (ok key) (value_at key entries)) → IsMap ok entries
map-from {ok} entries rises each = record {
  rising = rises;
  each = λ key x there. subst (option_ok (ok key)) there (each key);
}

-- The join with other bounds is such a change.
pub joined-changed : (entries others : List (ℕ × ℕ)) →
    all_changed (λ (entry : ℕ × ℕ). topped_joined (always max) (Some entry.1) (value_at entry.0 others)) entries ≡
    map_joined (always max) entries others
joined-changed [] others = refl
joined-changed (entry ∷ entries) others =
    ap (entry_of entry.0 (topped_joined (always max) (Some entry.1) (value_at entry.0 others))) (joined-changed entries others)

-- A pass has come to a place: the front has the new bounds so far, and the rest is as it was.
pub record IsPass (changed : ℕ × ℕ → Option ℕ) (start now : List (ℕ × ℕ)) (place kept : ℕ) : Type 0 where
  pub behind : kept ≤ place
  pub inside : kept ≤ length now
  pub all : take kept now ++ all_changed changed (drop place now) ≡ all_changed changed start

pub pass-begins : (changed : ℕ × ℕ → Option ℕ) (start : List (ℕ × ℕ)) → IsPass changed start start 0 0
pass-begins changed start = record { behind = omega arith; inside = omega arith; all = refl }

ahead : (changed : ℕ × ℕ → Option ℕ) (start now : List (ℕ × ℕ)) (place kept : ℕ) (entry : ℕ × ℕ) (z : Option ℕ) →
    IsPass changed start now place kept → place < length now → get_or now place entry ≡ entry → changed entry ≡ z →
    take kept now ++ entry_of entry.0 z (all_changed changed (drop (place + 1) now)) ≡ all_changed changed start
ahead changed start now place kept entry z pass inside at is =
    ap (λ (o : Option ℕ). take kept now ++ entry_of entry.0 o (all_changed changed (drop (place + 1) now))) (sym is) ∙
    ap (λ (es : List (ℕ × ℕ)). take kept now ++ all_changed changed es)
    (sym (drop_more now place entry inside ∙ ap (λ (e : ℕ × ℕ). e ∷ drop (place + 1) now) at)) ∙
    pass.all

pub pass-gone : (changed : ℕ × ℕ → Option ℕ) (start now : List (ℕ × ℕ)) (place kept : ℕ) (entry : ℕ × ℕ) →
    IsPass changed start now place kept → place < length now → get_or now place entry ≡ entry →
    changed entry ≡ None → IsPass changed start now (place + 1) kept
pass-gone changed start now place kept entry pass inside at is = record {
  behind = omega (arith, pass.behind);
  inside = pass.inside;
  all = ahead changed start now place kept entry None pass inside at is;
}

pub pass-stays : (changed : ℕ × ℕ → Option ℕ) (start now : List (ℕ × ℕ)) (place kept : ℕ) (entry : ℕ × ℕ) (age : ℕ) →
    IsPass changed start now place kept → place < length now → get_or now place entry ≡ entry →
    changed entry ≡ Some age → IsPass changed start (set now kept (entry.0, age)) (place + 1) (kept + 1)
pass-stays changed start now place kept entry age pass inside at is = record {
  behind = omega (arith, pass.behind);
  inside = omega (arith, pass.behind, inside, length-set now kept (entry.0, age));
  all =
      ap₂ (λ (xs ys : List (ℕ × ℕ)). xs ++ all_changed changed ys)
      (take_more_set now kept (entry.0, age) (omega (arith, pass.behind, inside)))
      (drop-set-lt (place + 1) now kept (entry.0, age) (omega (arith, pass.behind))) ∙
      append_assoc (take kept now) ((entry.0, age) ∷ []) (all_changed changed (drop (place + 1) now)) ∙
      ahead changed start now place kept entry (Some age) pass inside at is;
}

pub pass-ends : (changed : ℕ × ℕ → Option ℕ) (start now : List (ℕ × ℕ)) (place kept : ℕ) →
    IsPass changed start now place kept → length now ≤ place → take kept now ≡ all_changed changed start
pass-ends changed start now place kept pass past =
    sym (append-nil (take kept now)) ∙
    ap (λ (es : List (ℕ × ℕ)). take kept now ++ all_changed changed es) (sym (drop_all place now past)) ∙ pass.all
