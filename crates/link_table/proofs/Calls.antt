-- What each call makes of the lists.
use Rattle.std.proofs.Common.{◌≡◌, ℕ, zero, ◌+◌, ◌-◌, ◌<◌, ◌≤◌, ◌⊎◌, true, false, List, [], ◌∷◌, ◌++◌, length, get_or, set, drop, slice_get, replicate, Contains, Option, Some, None, IfSome, IfNone, refl, sym, ◌∙◌, ap, inl, inr, arith, get_or-set_same}
use Rattle.std.specs.List.{range_with_len}
use Rattle.std.proofs.lemmas.Bool.{cases_lt, both_ways}
use Rattle.std.proofs.lemmas.List.{get_or_past, set-set, set-get_or}
use Rattle.std.proofs.lemmas.Option.{none-some, same_Some}
use Rattle.link_table.specs.Rings.{IsInserted, IsRemoved}
use Rattle.link_table.specs.Items.{without, is_in}
use Rattle.link_table.specs.Lists.{Lists, IsFree, items_of, with_list}
use Rattle.link_table.specs.Tables.{lists_of, StandsFor}
use Rattle.link_table.proofs.Members.{is_in-from_Contains, Contains-from_is_in, not_Contains, without-same}
use Rattle.link_table.proofs.Leading.{cons-nil, leads-within, leads-first, leads-none, leads-last}
use Rattle.link_table.proofs.Standing.{lists-stood_for, stood_for, stands-new, stands-front, stands-back, stands-taken, free-taken}

-- The lists as contracts see them.
abbrev pub seen : (items : ℕ) (next : List ℕ) → Lists
seen items next = record { items = items; lists = lists_of next items }

-- The links now stand for these lists.
pub record Sees (items : ℕ) (next : List ℕ) (owners : List (Option ℕ)) (table : Lists) : Type 0 where
  pub stand : StandsFor items next owners (lists_of next items)
  pub view : seen items next ≡ table

pub sees : (items : ℕ) (next : List ℕ) (owners : List (Option ℕ)) (lists : List (List ℕ)) → StandsFor items next owners lists →
    Sees items next owners (record { items = items; lists = lists })
sees items next owners lists stand = record {
  stand = stood_for items next owners lists stand;
  view = ap (λ (l : List (List ℕ)). record { items = items; lists = l }) (lists-stood_for items next owners lists stand);
}

pub sees-new : (items lists : ℕ) (next : List ℕ) (owners : List (Option ℕ)) → next ≡ range_with_len 0 (items + lists) →
    owners ≡ replicate items None → Sees items next owners (record { items = items; lists = replicate lists [] })
sees-new items lists next owners e f = sees items next owners (replicate lists []) (stands-new items lists next owners e f)

-- An item of no list has no owner, and is a ring of its own.
module _ (items : ℕ) (next : List ℕ) (owners : List (Option ℕ)) (stand : StandsFor items next owners (lists_of next items)) (item : ℕ) where
  pub not_in : IsFree (seen items next) item → (other : ℕ) → is_in (get_or (lists_of next items) other []) item ≡ false
  not_in free other = not_Contains (get_or (lists_of next items) other []) item (free other)

  pub free-alone : IsFree (seen items next) item → item < items → get_or next item 0 ≡ item
  free-alone free below = stand.alone item below (no_owner (get_or owners item None) refl)
    where
      no_owner : (o : Option ℕ) → get_or owners item None ≡ o → get_or owners item None ≡ None
      no_owner None e = e
      no_owner (Some list) e = absurd (both_ways _ (not_in free list) (stand.stands list item e))

  pub below-list : (list : ℕ) → is_in (get_or (lists_of next items) list []) item ≡ true → list < length (lists_of next items)
  below-list list there = elim (cases_lt list (length (lists_of next items))) [
    | inl h ↦ h
    | inr h ↦ absurd (both_ways false refl (ap (λ l. is_in l item) (sym (get_or_past (lists_of next items) list [] h)) ∙ there))
  ]

module _ (items : ℕ) (next next' : List ℕ) (owners : List (Option ℕ)) (stand : StandsFor items next owners (lists_of next items))
    (list item : ℕ) where
  pub sees-front : list < length (lists_of next items) → item < items → IsFree (seen items next) item →
      IsInserted next item (items + list) next' →
      Sees items next' (set owners item (Some list)) (with_list (seen items next) list (item ∷ items_of (seen items next) list))
  sees-front within below free put = sees items next' (set owners item (Some list)) _
      (stands-front items next next' owners (lists_of next items) list item stand within below
      (not_in items next owners stand item free) put)

  pub sees-back : list < length (lists_of next items) → item < items → IsFree (seen items next) item → (last : ℕ) →
      get_or next last 0 ≡ items + list →
      ((other : ℕ) → other < length next → get_or next other 0 ≡ items + list → other ≡ last) →
      IsInserted next item last next' →
      Sees items next' (set owners item (Some list)) (with_list (seen items next) list (items_of (seen items next) list ++ item ∷ []))
  sees-back within below free last ends only put = sees items next' (set owners item (Some list)) _
      (stands-back items next next' owners (lists_of next items) list item last stand within below
      (not_in items next owners stand item free) put ends only)

  pub sees-taken : item < items → is_in (get_or (lists_of next items) list []) item ≡ true → IsRemoved next item next' →
      Sees items next' (set owners item None) (with_list (seen items next) list (without (items_of (seen items next) list) item))
  sees-taken below there gone = sees items next' (set owners item None) _
      (stands-taken items next next' owners (lists_of next items) list item stand
      (below-list items next owners stand item list there) below there gone)

  pub sees-free : item < items → is_in (get_or (lists_of next items) list []) item ≡ true → IsRemoved next item next' →
      IsFree (seen items next') item
  sees-free below there gone other h =
      let e = lists-stood_for items next' (set owners item None) _ (stands-taken items next next' owners (lists_of next items) list item stand
      (below-list items next owners stand item list there) below there gone) in
      both_ways _ (free-taken items next next' owners (lists_of next items) list item stand
      (below-list items next owners stand item list there) below there gone other)
      (ap (λ l. is_in (get_or l other []) item) (sym e) ∙ is_in-from_Contains (get_or (lists_of next' items) other []) item h)

-- The first and the last item of a list.
module _ (items : ℕ) (next : List ℕ) (owners : List (Option ℕ)) (stand : StandsFor items next owners (lists_of next items))
    (list : ℕ) (within : list < length (lists_of next items)) where
  pub first-none : (first : ℕ) → first ≡ get_or next (items + list) 0 → items ≤ first →
      None ≡ slice_get (get_or (lists_of next items) list []) 0
  first-none first e h = ap (λ l. slice_get l 0) (sym (leads-none next items (items + list) (get_or (lists_of next items) list [])
      (items + list) (stand.leads list within) (omega arith)))

  pub first-some : (first : ℕ) → first ≡ get_or next (items + list) 0 → first < items →
      Some first ≡ slice_get (get_or (lists_of next items) list []) 0
  first-some first e h = ap (λ (n : ℕ). Some n) e ∙ ap (λ l. slice_get l 0) (sym (leads-first next items (items + list)
      (get_or (lists_of next items) list []) (items + list) (stand.leads list within) (omega arith) (omega arith)))

  ending : (last : ℕ) → ((other : ℕ) → other < length next → get_or next other 0 ≡ items + list → other ≡ last) →
      ((get_or (lists_of next items) list [] ≡ []) × (items + list ≡ last)) ⊎
      ((slice_get (get_or (lists_of next items) list []) (length (get_or (lists_of next items) list []) - 1) ≡ Some last) ×
      (is_in (get_or (lists_of next items) list []) last ≡ true))
  ending last only =
      let nodes : length next ≡ items + length (lists_of next items) = stand.nodes in
      leads-last next items (items + list) (get_or (lists_of next items) list []) (items + list) last (stand.leads list within)
      (λ node on e. only node (elim on [
        | inl f ↦ omega arith
        | inr t ↦ let b : node < items = leads-within next items (items + list) (get_or (lists_of next items) list []) (items + list) node
            (stand.leads list within) t in omega arith
      ]) e)

  pub last-some : (last : ℕ) → ((other : ℕ) → other < length next → get_or next other 0 ≡ items + list → other ≡ last) → last < items →
      Some last ≡ slice_get (get_or (lists_of next items) list []) (length (get_or (lists_of next items) list []) - 1)
  last-some last only below = elim (ending last only) [
    | inl e ↦ absurd (let f : items + list ≡ last = e.1 in omega arith)
    | inr t ↦ sym t.0
  ]

  pub last-none : (last : ℕ) → ((other : ℕ) → other < length next → get_or next other 0 ≡ items + list → other ≡ last) → items ≤ last →
      None ≡ slice_get (get_or (lists_of next items) list []) (length (get_or (lists_of next items) list []) - 1)
  last-none last only above = elim (ending last only) [
    | inl e ↦ sym (ap (λ l. slice_get l (length l - 1)) e.0)
    | inr t ↦ absurd (let b : last < items = leads-within next items (items + list) (get_or (lists_of next items) list []) (items + list) last
        (stand.leads list within) t.1 in omega arith)
  ]

-- An item's owner.
module _ (items : ℕ) (next : List ℕ) (owners : List (Option ℕ)) (stand : StandsFor items next owners (lists_of next items))
    (item : ℕ) where
  pub owner-stands : (o : Option ℕ) → o ≡ get_or owners item None →
      IfSome o (λ list. Contains (items_of (seen items next) list) item)
  owner-stands None e = tt
  owner-stands (Some list) e = Contains-from_is_in (get_or (lists_of next items) list []) item (stand.stands list item (sym e))

  pub owner-only : (o : Option ℕ) → o ≡ get_or owners item None →
      IfSome o (λ list. (other : ℕ) → Contains (items_of (seen items next) other) item → other ≡ list)
  owner-only None e = tt
  owner-only (Some list) e = λ other there.
      same_Some other list (sym (stand.owner other item (is_in-from_Contains (get_or (lists_of next items) other []) item there)) ∙ sym e)

  pub owner-free : (o : Option ℕ) → o ≡ get_or owners item None → IfNone o (IsFree (seen items next) item)
  owner-free None e = λ other there.
      none-some other (e ∙ stand.owner other item (is_in-from_Contains (get_or (lists_of next items) other []) item there))
  owner-free (Some list) e = tt

-- ---- Of the lists alone.
pub list-within : (table : Lists) (list item : ℕ) → Contains (items_of table list) item → list < length table.lists
list-within table list item there = elim (cases_lt list (length table.lists)) [
  | inl h ↦ h
  | inr h ↦ absurd (none (items_of table list) (get_or_past table.lists list [] h) there)
]
  where
    none : (xs : List ℕ) → xs ≡ [] → Contains xs item → ⊥
    none [] e h = absurd (let k : h.0 < 0 = h.1 in omega arith)
    none (x ∷ xs) e h = cons-nil x xs e

-- Of two changes of a list the second one holds.
pub with_list-twice : (table : Lists) (list : ℕ) (first second : List ℕ) →
    with_list (with_list table list first) list second ≡ with_list table list second
with_list-twice table list first second =
    ap (λ (l : List (List ℕ)). record { items = table.items; lists = l }) (set-set table.lists list first second)

pub items_of-with_list : (table : Lists) (list : ℕ) (items : List ℕ) → list < length table.lists → items_of (with_list table list items) list ≡ items
items_of-with_list table list items h = get_or-set_same table.lists list items [] h

pub moved : (table : Lists) (list item : ℕ) → Contains (items_of table list) item → (left : List ℕ) →
    with_list (with_list table list left) list (item ∷ items_of (with_list table list left) list) ≡ with_list table list (item ∷ left)
moved table list item there left =
    with_list-twice table list left _ ∙
    ap (λ l. with_list table list (item ∷ l)) (items_of-with_list table list left (list-within table list item there))

-- The first item stands in its list, and the others are left without it.
pub first-there : (xs : List ℕ) (item : ℕ) → Some item ≡ slice_get xs 0 → Contains xs item
first-there [] item e = absurd (none-some item (sym e))
first-there (x ∷ xs) item e = (zero, omega arith, sym (same_Some item x e))

pub first-left : (xs : List ℕ) (item : ℕ) → Some item ≡ slice_get xs 0 → without xs item ≡ drop 1 xs
first-left [] item e = refl
first-left (x ∷ xs) item e = without-same x item xs (sym (same_Some item x e))

pub first-moved : (table : Lists) (list item : ℕ) → Some item ≡ slice_get (items_of table list) 0 →
    table ≡ with_list table list (item ∷ without (items_of table list) item)
first-moved table list item e =
    ap (λ (l : List (List ℕ)). record { items = table.items; lists = l }) (sym (set-get_or table.lists list [])) ∙
    ap (λ l. with_list table list l) (again (items_of table list) e)
  where
    again : (xs : List ℕ) → Some item ≡ slice_get xs 0 → xs ≡ item ∷ without xs item
    again [] f = absurd (none-some item (sym f))
    again (x ∷ xs) f =
        let same : x ≡ item = sym (same_Some item x f) in
        ap (λ n. n ∷ xs) same ∙ ap (λ l. item ∷ l) (sym (without-same x item xs same))
