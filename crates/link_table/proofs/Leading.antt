-- Links that lead from node to node, before and after a node is put in or taken out.
use Rattle.std.proofs.Common.{◌≡◌, ◌≢◌, ℕ, zero, suc, ◌-◌, ◌<◌, ◌≤◌, ◌⊎◌, true, false, List, [], ◌∷◌, ◌++◌, length, get_or, slice_get, drop, Some, refl, sym, ◌∙◌, ap, subst, inl, inr, arith}
use Rattle.std.proofs.lemmas.Bool.{cases_eq, both_ways, lt-ltb, le-ltb}
use Rattle.std.proofs.lemmas.Option.{none-some}
use Rattle.link_table.specs.Rings.{IsInserted, IsRemoved}
use Rattle.link_table.specs.Items.{without, is_in, AreApart}
use Rattle.link_table.specs.Tables.{Leads, following}
use Rattle.link_table.proofs.Members.{is_in-same, is_in-later, is_in-cases, not_first, not_later, differs, without-same, without-other}

pub cons-nil : (x : ℕ) (xs : List ℕ) → x ∷ xs ≡ [] → ⊥
cons-nil x xs e = cc

-- What links lead over is what follows.
pub following-leads : (next : List ℕ) (items most from : ℕ) (xs : List ℕ) (to : ℕ) → Leads next items from xs to → items ≤ to →
    length xs ≤ most → following next items most from ≡ xs
following-leads next items zero from [] to leads h k = refl
following-leads next items zero from (x ∷ xs) to leads h k = absurd (omega arith)
following-leads next items (suc most) from [] to leads h k =
    let stop = le-ltb (get_or next from 0) items (rw leads h) in
    rw stop refl
following-leads next items (suc most) from (x ∷ xs) to leads h k =
    let e : get_or next from 0 ≡ x = leads.0 in
    let goes = lt-ltb (get_or next from 0) items (rw e leads.1) in
    rw goes (rw e (ap (λ (l : List ℕ). x ∷ l) (following-leads next items most x xs to leads.2 h (omega arith))))

-- They lead over items alone.
pub leads-within : (next : List ℕ) (items from : ℕ) (xs : List ℕ) (to item : ℕ) → Leads next items from xs to → is_in xs item ≡ true →
    item < items
leads-within next items from [] to item leads h = absurd (both_ways false refl h)
leads-within next items from (x ∷ xs) to item leads h = elim (is_in-cases x item xs h) [
  | inl e ↦ rw e leads.1
  | inr k ↦ leads-within next items x xs to item leads.2 k
]

-- From each node on the way they lead on to an item on the way, or to the end.
pub leads-onward : (next : List ℕ) (items from : ℕ) (xs : List ℕ) (to node : ℕ) → Leads next items from xs to →
    (node ≡ from) ⊎ (is_in xs node ≡ true) → (is_in xs (get_or next node 0) ≡ true) ⊎ (get_or next node 0 ≡ to)
leads-onward next items from [] to node leads on = elim on [
  | inl e ↦ inr (ap (λ n. get_or next n 0) e ∙ leads)
  | inr h ↦ absurd (both_ways false refl h)
]
leads-onward next items from (x ∷ xs) to node leads on = elim on [
  | inl e ↦ inl (is_in-same x (get_or next node 0) xs (ap (λ n. get_or next n 0) e ∙ leads.0))
  | inr h ↦ elim (leads-onward next items x xs to node leads.2 (is_in-cases x node xs h)) [
    | inl k ↦ inl (is_in-later x (get_or next node 0) xs k)
    | inr e ↦ inr e
  ]
]

-- They lead over the same items where the links of all nodes on the way stay.
pub leads-kept : (next next' : List ℕ) (items from : ℕ) (xs : List ℕ) (to : ℕ) → Leads next items from xs to →
    ((node : ℕ) → (node ≡ from) ⊎ (is_in xs node ≡ true) → get_or next' node 0 ≡ get_or next node 0) → Leads next' items from xs to
leads-kept next next' items from [] to leads same = same from (inl refl) ∙ leads
leads-kept next next' items from (x ∷ xs) to leads same = (
  same from (inl refl) ∙ leads.0,
  leads.1,
  leads-kept next next' items x xs to leads.2 (λ node on. same node (inr (elim on [
    | inl e ↦ is_in-same x node xs e
    | inr h ↦ is_in-later x node xs h
  ]))),
)

-- An item is put before all others.
pub leads-insert : (next next' : List ℕ) (items from : ℕ) (xs : List ℕ) (to item : ℕ) → Leads next items from xs to →
    IsInserted next item from next' → item < items → items ≤ from → is_in xs item ≡ false → Leads next' items from (item ∷ xs) to
leads-insert next next' items from [] to item leads new h k none = (new.behind, h, new.onward ∙ leads)
leads-insert next next' items from (x ∷ xs) to item leads new h k none = (
  new.behind,
  h,
  (
    new.onward ∙ leads.0,
    leads.1,
    leads-kept next next' items x xs to leads.2 (λ node on.
        let below : node < items = elim on [
          | inl e ↦ rw e leads.1
          | inr t ↦ leads-within next items x xs to node leads.2 t
        ] in
        new.others node
        (elim on [
          | inl e ↦ λ f. not_first x item xs none (sym f ∙ e)
          | inr t ↦ differs xs item node (not_later x item xs none) t
        ])
        (λ e. absurd (omega arith))),
  ),
)

-- An item is put behind all others.
pub leads-push : (next next' : List ℕ) (items from : ℕ) (xs : List ℕ) (to item before : ℕ) → Leads next items from xs to →
    IsInserted next item before next' → item < items → items ≤ to → from ≢ item → is_in xs item ≡ false →
    get_or next before 0 ≡ to → ((node : ℕ) → (node ≡ from) ⊎ (is_in xs node ≡ true) → get_or next node 0 ≡ to → node ≡ before) →
    Leads next' items from (xs ++ item ∷ []) to
leads-push next next' items from [] to item before leads new h k differ none last only =
    let e : from ≡ before = only from (inl refl) leads in
    (ap (λ n. get_or next' n 0) e ∙ new.behind, h, new.onward ∙ last)
leads-push next next' items from (x ∷ xs) to item before leads new h k differ none last only =
    let e : get_or next from 0 ≡ x = leads.0 in
    let below : x < items = leads.1 in (
      new.others from differ (λ f. absurd (let g : get_or next from 0 ≡ to = ap (λ n. get_or next n 0) f ∙ last in omega arith)) ∙ e,
      below,
      leads-push next next' items x xs to item before leads.2 new h k (λ f. not_first x item xs none (sym f)) (not_later x item xs none)
          last (λ node on. only node (inr (elim on [
            | inl f ↦ is_in-same x node xs f
            | inr t ↦ is_in-later x node xs t
          ]))),
    )

-- An item elsewhere is taken out.
pub leads-apart : (next next' : List ℕ) (items from : ℕ) (xs : List ℕ) (to item : ℕ) → Leads next items from xs to →
    IsRemoved next item next' → from ≢ item → to ≢ item → is_in xs item ≡ false → Leads next' items from xs to
leads-apart next next' items from [] to item leads gone differ end none = gone.others from differ (λ e. end (sym leads ∙ e)) ∙ leads
leads-apart next next' items from (x ∷ xs) to item leads gone differ end none =
    let other : x ≢ item = λ e. not_first x item xs none (sym e) in (
      gone.others from differ (λ e. other (sym leads.0 ∙ e)) ∙ leads.0,
      leads.1,
      leads-apart next next' items x xs to item leads.2 gone other end (not_later x item xs none),
    )

-- An item on the way is taken out.
pub leads-remove : (next next' : List ℕ) (items from : ℕ) (xs : List ℕ) (to item : ℕ) → Leads next items from xs to →
    IsRemoved next item next' → from ≢ item → to ≢ item → from < length next → items ≤ length next → AreApart xs →
    Leads next' items from (without xs item) to
leads-remove next next' items from [] to item leads gone differ end h k apart = gone.others from differ (λ e. end (sym leads ∙ e)) ∙ leads
leads-remove next next' items from (x ∷ xs) to item leads gone differ end h k apart = elim (cases_eq x item) [
  | inl e ↦
      let passed : get_or next' from 0 ≡ get_or next item 0 = gone.passed from h differ (leads.0 ∙ e) in
      rw (without-same x item xs e) (over xs (let P : ℕ → Type 0 = λ n. Leads next items n xs to in subst P e leads.2)
      (let P : ℕ → Type 0 = λ n. is_in xs n ≡ false in subst P e apart.0) passed)
  | inr other ↦ rw (without-other x item xs other) (
    gone.others from differ (λ e. other (sym leads.0 ∙ e)) ∙ leads.0,
    leads.1,
    leads-remove next next' items x xs to item leads.2 gone other end (let b : x < items = leads.1 in omega arith) k apart.1,
  )
]
  where
    over : (ys : List ℕ) → Leads next items item ys to → is_in ys item ≡ false → get_or next' from 0 ≡ get_or next item 0 →
        Leads next' items from ys to
    over [] along none passed = passed ∙ along
    over (y ∷ ys) along none passed = (
      passed ∙ along.0,
      along.1,
      leads-apart next next' items y ys to item along.2 gone (λ f. not_first y item ys none (sym f)) end (not_later y item ys none),
    )

-- The first item is the one behind the beginning; there is none where no item stands there.
pub leads-first : (next : List ℕ) (items from : ℕ) (xs : List ℕ) (to : ℕ) → Leads next items from xs to → items ≤ to →
    get_or next from 0 < items → xs ≡ get_or next from 0 ∷ drop 1 xs
leads-first next items from [] to leads h k = absurd (omega arith)
leads-first next items from (x ∷ xs) to leads h k = ap (λ n. n ∷ xs) (sym leads.0)

pub leads-none : (next : List ℕ) (items from : ℕ) (xs : List ℕ) (to : ℕ) → Leads next items from xs to →
    items ≤ get_or next from 0 → xs ≡ []
leads-none next items from [] to leads h = refl
leads-none next items from (x ∷ xs) to leads h = absurd (let e : get_or next from 0 ≡ x = leads.0 in let k : x < items = leads.1 in omega arith)

-- The last item is the only node on the way from which the links lead to the end; without items that is the beginning.
pub leads-last : (next : List ℕ) (items from : ℕ) (xs : List ℕ) (to last : ℕ) → Leads next items from xs to →
    ((node : ℕ) → (node ≡ from) ⊎ (is_in xs node ≡ true) → get_or next node 0 ≡ to → node ≡ last) →
    ((xs ≡ []) × (from ≡ last)) ⊎ ((slice_get xs (length xs - 1) ≡ Some last) × (is_in xs last ≡ true))
leads-last next items from [] to last leads only = inl (refl, only from (inl refl) leads)
leads-last next items from (x ∷ xs) to last leads only = inr (at xs (leads-last next items x xs to last leads.2 (λ node on.
    only node (inr (elim on [
      | inl e ↦ is_in-same x node xs e
      | inr t ↦ is_in-later x node xs t
    ])))))
  where
    at : (ys : List ℕ) → ((ys ≡ []) × (x ≡ last)) ⊎ ((slice_get ys (length ys - 1) ≡ Some last) × (is_in ys last ≡ true)) →
        (slice_get (x ∷ ys) (length (x ∷ ys) - 1) ≡ Some last) × (is_in (x ∷ ys) last ≡ true)
    at [] (inl e) = (ap (λ (n : ℕ). Some n) e.1, is_in-same x last [] (sym e.1))
    at [] (inr t) = absurd (none-some last t.0)
    at (y ∷ ys) (inl e) = absurd (cons-nil y ys e.0)
    at (y ∷ ys) (inr t) =
        let e : length (x ∷ y ∷ ys) - 1 ≡ suc (length (y ∷ ys) - 1) = omega arith in
        (ap (λ n. slice_get (x ∷ y ∷ ys) n) e ∙ t.0, is_in-later x last (y ∷ ys) t.1)
