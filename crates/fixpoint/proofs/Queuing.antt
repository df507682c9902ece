-- A place that waits, or is taken, in the lists by depth.
use Rattle.std.specs.Prelude.{◌≡◌, ℕ, zero, suc, ◌-◌, ◌<◌, ◌≤◌, max, Bool, true, false, List, [], ◌∷◌, ◌++◌, All, drop, length, replicate, Option, None, Some, Contains, slice_get, slice_index_or, slice_set, refl}
use Rattle.std.proofs.Common.{◌∙◌, ap, arith, inl, inr, subst, sym}
use Rattle.std.proofs.lemmas.Bool.{cases_Bool, cases_eq, cases_lt, false≢true}
use Rattle.std.proofs.lemmas.List.{get_or-set_other, get_or-set_same, get_or_past, length-replicate, length-set, set-get_or}
use Rattle.std.proofs.lemmas.List.Elements.{Contains-append_left, Contains-push, Contains-push_cases}
use Rattle.std.proofs.lemmas.Option.{get_or_from_slice_get, none-some, same_Some, slice_get_cases, slice_get_within}
use Rattle.link_table.specs.Lists.{Lists, IsFree, items_of, with_list}
use Rattle.fixpoint.specs.Queues.{IsQueue}
use Rattle.fixpoint.specs.Values.{waits}
use Rattle.fixpoint.proofs.Slots.{waits_set_other, waits_set_same}

items_same : (table : Lists) (list : ℕ) (xs : List ℕ) → list < length table.lists → items_of (with_list table list xs) list ≡ xs
items_same table list xs inside = get_or-set_same table.lists list xs [] inside

items_other : (table : Lists) (list other : ℕ) (xs : List ℕ) → (other ≡ list → ⊥) →
    items_of (with_list table list xs) other ≡ items_of table other
items_other table list other xs ne = get_or-set_other table.lists list other xs [] ne

in_nothing : (xs : List ℕ) (item : ℕ) → xs ≡ [] → Contains xs item → ⊥
in_nothing xs item none there =
    let less : there.0 < length xs = there.1 in omega (arith, less, ap (λ (ys : List ℕ). length ys) none)

-- The place waits from now on, in the list of its depth.
module _ (table : Lists) (depths : List ℕ) (marks : List Bool) (deepest place depth : ℕ)
    (queue : IsQueue table depths marks deepest) (inside : place < length marks)
    (at : slice_get depths place ≡ Some depth) where
  added : List ℕ
  added = items_of table depth ++ place ∷ []

  more : Lists
  unfolding added
  more = with_list table depth (items_of table depth ++ place ∷ [])

  here : waits (slice_set marks place true) place ≡ true
  here = waits_set_same marks place true inside

  marked_here : (list item : ℕ) → Contains (items_of (with_list table depth (items_of table depth ++ place ∷ [])) list) item →
      (waits (slice_set marks place true) item ≡ true) × (slice_get depths item ≡ Some list) × (list ≤ max deepest depth)
  marked_here list item there = elim (cases_eq list depth)
      as (λ _. (waits (slice_set marks place true) item ≡ true) × (slice_get depths item ≡ Some list) × (list ≤ max deepest depth)) [
        | inl e ↦
            elim (Contains-push_cases (items_of table depth) place item
            (subst (λ (xs : List ℕ). Contains xs item)
            (ap (items_of (with_list table depth (items_of table depth ++ place ∷ []))) e ∙
            items_same table depth (items_of table depth ++ place ∷ []) (queue.low place depth at)) there))
            as (λ _. (waits (slice_set marks place true) item ≡ true) × (slice_get depths item ≡ Some list) × (list ≤ max deepest depth)) [
              | inl old ↦ let known = queue.marked depth item old in (
                still item known.0,
                known.1 ∙ ap (λ (n : ℕ). Some n) (sym e),
                omega (arith, e, known.2),
              )
              | inr same ↦ (
                subst (λ (n : ℕ). waits (slice_set marks place true) n ≡ true) same here,
                subst (λ (n : ℕ). slice_get depths n ≡ Some list) same (at ∙ ap (λ (n : ℕ). Some n) (sym e)),
                omega (arith, e),
              )
            ]
        | inr ne ↦
            let known = queue.marked list item
            (subst (λ (xs : List ℕ). Contains xs item)
            (items_other table depth list (items_of table depth ++ place ∷ []) ne) there) in
            (still item known.0, known.1, omega (arith, known.2))
      ]
    where
      still : (item : ℕ) → waits marks item ≡ true → waits (slice_set marks place true) item ≡ true
      still item waited = elim (cases_eq item place) as (λ _. waits (slice_set marks place true) item ≡ true) [
        | inl e ↦ ap (waits (slice_set marks place true)) e ∙ here
        | inr ne ↦ waits_set_other marks place item true ne ∙ waited
      ]

  stands_here : (item list : ℕ) → waits (slice_set marks place true) item ≡ true → slice_get depths item ≡ Some list →
      Contains (items_of (with_list table depth (items_of table depth ++ place ∷ [])) list) item
  stands_here item list waited there = elim (cases_eq item place)
      as (λ _. Contains (items_of (with_list table depth (items_of table depth ++ place ∷ [])) list) item) [
        | inl e ↦
            let same : list ≡ depth = same_Some list depth (sym there ∙ ap (slice_get depths) e ∙ at) in
            subst (λ (n : ℕ). Contains (items_of (with_list table depth (items_of table depth ++ place ∷ [])) n) item) (sym same)
            (subst (λ (xs : List ℕ). Contains xs item)
            (sym (items_same table depth (items_of table depth ++ place ∷ []) (queue.low place depth at)))
            (subst (Contains (items_of table depth ++ place ∷ [])) (sym e) (Contains-push (items_of table depth) place)))
        | inr ne ↦
            let old = queue.stands item list (sym (waits_set_other marks place item true ne) ∙ waited) there in
            elim (cases_eq list depth)
            as (λ _. Contains (items_of (with_list table depth (items_of table depth ++ place ∷ [])) list) item) [
              | inl e ↦
                  subst (λ (n : ℕ). Contains (items_of (with_list table depth (items_of table depth ++ place ∷ [])) n) item) (sym e)
                  (subst (λ (xs : List ℕ). Contains xs item)
                  (sym (items_same table depth (items_of table depth ++ place ∷ []) (queue.low place depth at)))
                  (Contains-append_left (items_of table depth) (place ∷ []) item
                  (subst (λ (n : ℕ). Contains (items_of table n) item) e old)))
              | inr apart ↦ subst (λ (xs : List ℕ). Contains xs item)
                  (sym (items_other table depth list (items_of table depth ++ place ∷ []) apart)) old
            ]
      ]

  pub queue_put : IsQueue (with_list table depth (items_of table depth ++ place ∷ [])) depths (slice_set marks place true)
      (max deepest depth)
  queue_put = record {
    items = queue.items ∙ sym (length-set marks place true);
    sized = queue.sized ∙ sym (length-set marks place true);
    some = omega (arith, queue.some, queue.low place depth at, length-set table.lists depth (items_of table depth ++ place ∷ []));
    low = λ item list there. omega (arith, queue.low item list there, length-set table.lists depth (items_of table depth ++ place ∷ []));
    marked = marked_here;
    stands = stands_here;
  }

-- A place that doesn't wait stands in no list.
pub queue_free : (table : Lists) (depths : List ℕ) (marks : List Bool) (deepest place : ℕ) → IsQueue table depths marks deepest →
    waits marks place ≡ false → IsFree table place
queue_free table depths marks deepest place queue none list there =
    false≢true (sym none ∙ (queue.marked list place there).0)

-- The deepest list has no place left.
pub queue_lower : (table : Lists) (depths : List ℕ) (marks : List Bool) (deepest : ℕ) → IsQueue table depths marks deepest →
    items_of table deepest ≡ [] → IsQueue table depths marks (deepest - 1)
queue_lower table depths marks deepest queue none = record {
  items = queue.items;
  sized = queue.sized;
  some = omega (arith, queue.some);
  low = queue.low;
  marked = λ list item there.
      let known = queue.marked list item there in
      let apart : list ≡ deepest → ⊥ = λ e.
      in_nothing (items_of table list) item (ap (items_of table) e ∙ none) there in
      (known.0, known.1, omega (arith, known.2, apart));
  stands = queue.stands;
}

-- No place waits where the list of depth 0 is the deepest one and has none.
pub queue_none : (table : Lists) (depths : List ℕ) (marks : List Bool) (deepest : ℕ) → IsQueue table depths marks deepest →
    deepest ≡ 0 → items_of table deepest ≡ [] → (place : ℕ) → waits marks place ≡ false
queue_none table depths marks deepest queue zero_is none place = elim (cases_Bool (waits marks place)) as (λ _. waits marks place ≡ false) [
  | inr gone ↦ gone
  | inl waited ↦ absurd (elim (slice_get_cases depths place).1 as (λ _. ⊥) [
    | inl (depth, inside, at, read) ↦
        let there = queue.stands place depth waited at in
        let low = (queue.marked depth place there).2 in
        let same : depth ≡ deepest = omega (arith, low, zero_is) in
        in_nothing (items_of table depth) place (ap (items_of table) same ∙ none) there
    | inr (past, nothing) ↦ false≢true (sym (get_or_past marks place false (omega (arith, past, queue.sized))) ∙ waited)
  ])
]

-- A list without items stays as it is when its first item would be taken.
pub nothing_taken : (table : Lists) (list : ℕ) → items_of table list ≡ [] →
    with_list table list (drop 1 (items_of table list)) ≡ table
nothing_taken table list none =
    ap (λ (lists : List (List ℕ)). record table { lists = lists })
    (ap (slice_set table.lists list) (ap (drop 1) none ∙ sym none) ∙ set-get_or table.lists list [])

pub no_first : (xs : List ℕ) → None ≡ slice_get xs 0 → xs ≡ []
no_first [] e = refl
no_first (x ∷ xs) e = absurd (none-some x e)

in_rest : (xs : List ℕ) (item : ℕ) → Contains (drop 1 xs) item → Contains xs item
in_rest [] item there = there
in_rest (x ∷ xs) item (k, inside, at) = (suc k, omega (arith, inside), at)

rest_in : (xs : List ℕ) (first item : ℕ) → Some first ≡ slice_get xs 0 → (item ≡ first → ⊥) → Contains xs item →
    Contains (drop 1 xs) item
rest_in [] first item e ne there = absurd (none-some first (sym e))
rest_in (x ∷ xs) first item e ne (zero, inside, at) = absurd (ne (sym at ∙ sym (same_Some first x e)))
rest_in (x ∷ xs) first item e ne (suc k, inside, at) = (k, omega (arith, inside), at)

-- The first place of the deepest list is taken.
pub queue_take : (table : Lists) (depths : List ℕ) (marks : List Bool) (deepest place : ℕ) → IsQueue table depths marks deepest →
    Some place ≡ slice_get (items_of table deepest) 0 →
    IsFree (with_list table deepest (drop 1 (items_of table deepest))) place → place < length marks →
    IsQueue (with_list table deepest (drop 1 (items_of table deepest))) depths (slice_set marks place false) deepest
queue_take table depths marks deepest place queue first free inside = record {
  items = queue.items ∙ sym (length-set marks place false);
  sized = queue.sized ∙ sym (length-set marks place false);
  some = omega (arith, queue.some, length-set table.lists deepest (drop 1 (items_of table deepest)));
  low = λ item list there. omega (arith, queue.low item list there, length-set table.lists deepest (drop 1 (items_of table deepest)));
  marked = λ list item there.
      let apart : item ≡ place → ⊥ = λ e. free list (subst (Contains (items_of (with_list table deepest (drop 1 (items_of table deepest))) list)) e there) in
      let known = queue.marked list item (was list item there) in
      (waits_set_other marks place item false apart ∙ known.0, known.1, known.2);
  stands = λ item list waited at.
      let apart : item ≡ place → ⊥ = λ e. false≢true
      (sym (ap (waits (slice_set marks place false)) e ∙ waits_set_same marks place false inside) ∙ waited) in
      left list item apart (queue.stands item list (sym (waits_set_other marks place item false apart) ∙ waited) at);
}
  where
    was : (list item : ℕ) → Contains (items_of (with_list table deepest (drop 1 (items_of table deepest))) list) item →
        Contains (items_of table list) item
    was list item there = elim (cases_eq list deepest) as (λ _. Contains (items_of table list) item) [
      | inl e ↦ subst (λ (n : ℕ). Contains (items_of table n) item) (sym e)
          (in_rest (items_of table deepest) item (subst (λ (xs : List ℕ). Contains xs item)
          (ap (items_of (with_list table deepest (drop 1 (items_of table deepest)))) e ∙
          items_same table deepest (drop 1 (items_of table deepest)) queue.some) there))
      | inr ne ↦ subst (λ (xs : List ℕ). Contains xs item)
          (items_other table deepest list (drop 1 (items_of table deepest)) ne) there
    ]

    left : (list item : ℕ) → (item ≡ place → ⊥) → Contains (items_of table list) item →
        Contains (items_of (with_list table deepest (drop 1 (items_of table deepest))) list) item
    left list item apart there = elim (cases_eq list deepest)
        as (λ _. Contains (items_of (with_list table deepest (drop 1 (items_of table deepest))) list) item) [
          | inl e ↦ subst (λ (n : ℕ). Contains (items_of (with_list table deepest (drop 1 (items_of table deepest))) n) item) (sym e)
              (subst (λ (xs : List ℕ). Contains xs item) (sym (items_same table deepest (drop 1 (items_of table deepest)) queue.some))
              (rest_in (items_of table deepest) place item first apart
              (subst (λ (n : ℕ). Contains (items_of table n) item) e there)))
          | inr ne ↦ subst (λ (xs : List ℕ). Contains xs item)
              (sym (items_other table deepest list (drop 1 (items_of table deepest)) ne)) there
        ]

-- A place that stands in a list waits.
pub queue_first : (table : Lists) (depths : List ℕ) (marks : List Bool) (deepest place : ℕ) → IsQueue table depths marks deepest →
    Some place ≡ slice_get (items_of table deepest) 0 → waits marks place ≡ true
queue_first table depths marks deepest place queue first =
    (queue.marked deepest place (front (items_of table deepest) first)).0
  where
    front : (xs : List ℕ) → Some place ≡ slice_get xs 0 → Contains xs place
    front [] e = absurd (none-some place (sym e))
    front (x ∷ xs) e = (0, omega arith, sym (same_Some place x e))

-- What stands in a list of one item many times.
many : {X : Type 0} (count k : ℕ) (x : X) → slice_index_or (replicate count x) k x ≡ x
many zero k x = refl
many (suc count) zero x = refl
many (suc count) (suc k) x = many count k x

empty_list : (count list : ℕ) → slice_index_or (replicate {A = List ℕ} count []) list [] ≡ []
empty_list count list = many count list []

unmarked : (count place : ℕ) → waits (replicate count false) place ≡ false
unmarked count place = many count place false

-- With no place in a list none waits.
all_low : (most : ℕ) (xs : List ℕ) → All (λ (x : ℕ). x < most) xs → (place x : ℕ) → slice_get xs place ≡ Some x → x < most
all_low most xs all place x at =
    subst (λ (n : ℕ). n < most) (get_or_from_slice_get xs place x 0 at) (all place 0 (slice_get_within xs place x at))

pub queue_new : (depths : List ℕ) (lists items : ℕ) → 0 < lists → All (λ (depth : ℕ). depth < lists) depths →
    (table : Lists) → table ≡ record { items = items; lists = replicate lists [] } → items ≡ length depths →
    (marks : List Bool) → marks ≡ replicate (length depths) false → IsQueue table depths marks 0
queue_new depths lists items some low table made count marks fresh =
    subst (λ (t : Lists). IsQueue t depths marks 0) (sym made)
    (subst (λ (ms : List Bool). IsQueue (record { items = items; lists = replicate lists [] }) depths ms 0) (sym fresh) (record {
      items = count ∙ sym (length-replicate {A = Bool} (length depths) false);
      sized = sym (length-replicate {A = Bool} (length depths) false);
      some = omega (arith, some, length-replicate {A = List ℕ} lists []);
      low = λ place depth at. omega (arith, all_low lists depths low place depth at, length-replicate {A = List ℕ} lists []);
      marked = λ list item there. absurd (in_nothing
          (items_of (record { items = items; lists = replicate lists [] }) list) item (empty_list lists list) there);
      stands = λ place depth waited at. absurd (false≢true (sym (unmarked (length depths) place) ∙ waited));
    }))

-- The place waits from now on, in the list of its depth.
pub queue_later : (table later : Lists) (depths : List ℕ) (marks : List Bool) (deepest top place depth : ℕ) →
    IsQueue table depths marks deepest → place < length marks → slice_get depths place ≡ Some depth →
    later ≡ with_list table depth (items_of table depth ++ place ∷ []) → top ≡ max deepest depth →
    IsQueue later depths (slice_set marks place true) top
queue_later table later depths marks deepest top place depth queue inside at is most =
    subst (λ (t : Lists). IsQueue t depths (slice_set marks place true) top) (sym is)
    (subst (IsQueue (with_list table depth (items_of table depth ++ place ∷ [])) depths (slice_set marks place true)) (sym most)
    (queue_put table depths marks deepest place depth queue inside at))

-- A place that waits is one of the marked ones.
pub waits_inside : (marks : List Bool) (place : ℕ) → waits marks place ≡ true → place < length marks
waits_inside marks place waited = elim (cases_lt place (length marks)) as (λ _. place < length marks) [
  | inl less ↦ less
  | inr past ↦ absurd (false≢true (sym (get_or_past marks place false past) ∙ waited))
]

pub nothing_first : (xs : List ℕ) (found : Option ℕ) → found ≡ slice_get xs 0 → ((x : ℕ) → found ≡ Some x → ⊥) → xs ≡ []
nothing_first [] found e none = refl
nothing_first (x ∷ xs) found e none = absurd (none x e)
