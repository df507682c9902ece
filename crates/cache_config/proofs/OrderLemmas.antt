-- The first of a list of faults is one of them, and none comes before it.
use Rattle.std.proofs.Common.{◌≡◌, ℕ, Bool, true, false, List, [], ◌∷◌, Some, None, Ordering, Less, Equal, Greater, nat_cmp, refl, sym, ◌∙◌, ap, ◌⊎◌, inl, inr, subst, if◌then◌else◌, unwrap_or, is_some}
use Rattle.std.proofs.lemmas.Bool.{false≢true}
use Rattle.std.proofs.lemmas.Cmp.{nat_list_cmp_total, upto, tied_itself}
use Rattle.std.proofs.lemmas.List.Elements.{All-nil, All-cons, Contains-append_left, Contains-append_right, Contains-push}
use Rattle.std.specs.Cmp.Lexicographic.{slice_cmp}
use Rattle.std.specs.List.{All, Contains}
use Rattle.std.specs.Ordering.{is_lt, is_gt, ordering_reverse}
use Rattle.cache_config.specs.declared.fault.Fault.{Fault}
use Rattle.cache_config.specs.declared.fault.FaultKind.{FaultKind}
use Rattle.cache_config.specs.Faults.{IsFirst, is_before, rank}
use Rattle.cache_config.specs.Firsts.{first_of}

-- What faults are compared by: the kind and then the path.
abbrev code : Fault → List ℕ
code f = rank f.kind ∷ f.path

turned : (o : Ordering) → is_lt (ordering_reverse o) ≡ is_gt o
turned Less = refl
turned Equal = refl
turned Greater = refl

-- A fault isn't before another one exactly where the other one doesn't come behind it.
behind : (f g : Fault) → is_before f g ≡ is_gt (slice_cmp nat_cmp (code g) (code f))
behind f g = ap is_lt (nat_list_cmp_total.antisymm (code f) (code g)) ∙ turned (slice_cmp nat_cmp (code g) (code f))

-- No fault is before itself.
before-itself : (f : Fault) → is_before f f ≡ false
before-itself f = ap is_lt (tied_itself nat_list_cmp_total (code f))

-- Where g isn't before f, and h isn't before g, h isn't before f.
before-chain : (f g h : Fault) → is_before g f ≡ false → is_before h g ≡ false → is_before h f ≡ false
before-chain f g h first second =
    behind h f ∙ upto nat_list_cmp_total (code f) (code g) (code h) (sym (behind g f) ∙ first) (sym (behind h g) ∙ second)

not_both : (o : Ordering) → is_lt o ≡ true → is_lt (ordering_reverse o) ≡ false
not_both Less h = refl
not_both Equal h = absurd (false≢true h)
not_both Greater h = absurd (false≢true h)

-- A fault that is before another one doesn't come behind it.
before-back : (f g : Fault) → is_before f g ≡ true → is_before g f ≡ false
before-back f g h = ap is_lt (nat_list_cmp_total.antisymm (code g) (code f)) ∙ not_both (slice_cmp nat_cmp (code f) (code g)) h

contains_here : (fault : Fault) (faults : List Fault) → Contains (fault ∷ faults) fault
contains_here fault faults = Contains-append_left (fault ∷ []) faults fault (Contains-push [] fault)

contains_later : (fault other : Fault) (faults : List Fault) → Contains faults fault → Contains (other ∷ faults) fault
contains_later fault other faults here = Contains-append_right (other ∷ []) faults fault here

contains_either : (fault other : Fault) (faults : List Fault) → (other ≡ fault) ⊎ Contains faults fault → Contains (other ∷ faults) fault
contains_either fault other faults (inl same) = subst (λ f. Contains (other ∷ faults) f) same (contains_here other faults)
contains_either fault other faults (inr here) = contains_later fault other faults here

-- What the first fault is where one was seen before the list.
pub record IsFirstFrom (known : Fault) (faults : List Fault) (fault : Fault) : Type 0 where
  pub here : (known ≡ fault) ⊎ Contains faults fault
  pub later : is_before known fault ≡ false
  pub first : All (λ other. is_before other fault ≡ false) faults

abbrev IsNotBefore : Fault → Fault → Type 0
IsNotBefore fault other = is_before other fault ≡ false

first_of-step : (b : Bool) (known x : Fault) (xs : List Fault) (fault : Fault) → is_before x known ≡ b →
    ((k : Fault) → first_of (Some k) xs ≡ Some fault → IsFirstFrom k xs fault) →
    first_of (if b then Some x else Some known) xs ≡ Some fault → IsFirstFrom known (x ∷ xs) fault
first_of-step true known x xs fault before more e =
    let rest = more x e in
    record {
      here = inr (contains_either fault x xs rest.here);
      later = before-chain fault x known rest.later (before-back x known before);
      first = All-cons (IsNotBefore fault) x xs rest.later rest.first;
    }
first_of-step false known x xs fault before more e =
    let rest = more known e in
    record {
      here = elim rest.here [ inl same ↦ inl same | inr here ↦ inr (contains_later fault x xs here) ];
      later = rest.later;
      first = All-cons (IsNotBefore fault) x xs (before-chain fault known x rest.later before) rest.first;
    }

pub first_of-some : (known : Fault) (faults : List Fault) (fault : Fault) → first_of (Some known) faults ≡ Some fault → IsFirstFrom known faults fault
first_of-some known [] fault e =
    let same : known ≡ fault = ap (λ o. unwrap_or o known) e in
    record {
      here = inl same;
      later = subst (λ f. is_before known f ≡ false) same (before-itself known);
      first = All-nil (IsNotBefore fault);
    }
first_of-some known (x ∷ xs) fault e =
    first_of-step (is_before x known) known x xs fault refl (λ k same. first_of-some k xs fault same) e

-- The first fault of a list.
pub first_of-first : (faults : List Fault) (fault : Fault) → first_of None faults ≡ Some fault → IsFirst faults fault
first_of-first [] fault e = absurd (false≢true (ap is_some e))
first_of-first (x ∷ xs) fault e =
    let rest = first_of-some x xs fault e in
    record {
      here = contains_either fault x xs rest.here;
      first = All-cons (IsNotBefore fault) x xs rest.later rest.first;
    }

some_after : (b : Bool) (known x : Fault) (xs : List Fault) → ((k : Fault) → is_some (first_of (Some k) xs) ≡ true) →
    is_some (first_of (if b then Some x else Some known) xs) ≡ true
some_after true known x xs more = more x
some_after false known x xs more = more known

some_stays : (known : Fault) (faults : List Fault) → is_some (first_of (Some known) faults) ≡ true
some_stays known [] = refl
some_stays known (x ∷ xs) = some_after (is_before x known) known x xs (λ k. some_stays k xs)

-- Where no fault was found, there is none.
pub first_of-none : (faults : List Fault) → first_of None faults ≡ None → faults ≡ []
first_of-none [] e = refl
first_of-none (x ∷ xs) e = absurd (false≢true (sym (ap is_some e) ∙ some_stays x xs))

-- The first fault of a list, by its kind and its path.
pub first_of-kind : (faults : List Fault) (fault : Fault) (what : FaultKind) → first_of None faults ≡ Some fault → fault.kind ≡ what →
    IsFirst faults (record { kind = what; path = fault.path })
first_of-kind faults fault what e same =
    subst (λ k. IsFirst faults (record { kind = k; path = fault.path })) same (first_of-first faults fault e)
