-- Links stand for lists, before and after an item is put in or taken out.
use Rattle.std.proofs.Common.{◌≡◌, ◌≢◌, ℕ, zero, suc, ◌+◌, ◌-◌, ◌<◌, ◌⊎◌, true, false, List, [], ◌∷◌, ◌++◌, length, get_or, set, replicate, Option, Some, None, refl, sym, ◌∙◌, ap, subst, inl, inr, arith, length-set, get_or-set_same, get_or-set_other, zero-add}
use Rattle.std.specs.List.{range_with_len}
use Rattle.std.proofs.lemmas.Bool.{cases_eq, both_ways, false_from_ne_true}
use Rattle.std.proofs.lemmas.List.{length-replicate, same_lists, get_or_default}
use Rattle.std.proofs.lemmas.List.FromFn.{length-range_with_len, get_or-range_with_len, length-map-range_with_len, get_or-map-range_with_len}
use Rattle.std.proofs.lemmas.Option.{none-some, same_Some}
use Rattle.link_table.specs.Rings.{IsInserted, IsRemoved}
use Rattle.link_table.specs.Items.{without, is_in, AreApart}
use Rattle.link_table.specs.Tables.{Leads, following, lists_of, StandsFor}
use Rattle.link_table.proofs.Members.{is_in-same, is_in-later, is_in-cases, is_in-push, is_in-pushed, is_in-last, AreApart-push, is_in-without, is_in-left, is_in-gone, AreApart-without, length-AreApart}
use Rattle.link_table.proofs.Leading.{following-leads, leads-within, leads-onward, leads-kept, leads-insert, leads-push, leads-apart, leads-remove}

-- Links that stand for lists stand for no others.
pub lists-stood_for : (items : ℕ) (next : List ℕ) (owners : List (Option ℕ)) (lists : List (List ℕ)) → StandsFor items next owners lists →
    lists_of next items ≡ lists
lists-stood_for items next owners lists stand =
    let nodes : length next ≡ items + length lists = stand.nodes in
    let count : length next - items ≡ length lists = omega arith in
    same_lists (lists_of next items) lists (length-map-range_with_len (following next items items) items (length next - items) ∙ count)
    (λ list none h.
    let below : list < length lists = rw (← count, ← length-map-range_with_len (following next items items) items (length next - items)) h in
    get_or-map-range_with_len (following next items items) items (length next - items) list (items + list) none (omega arith) refl ∙
    following-leads next items items (items + list) (get_or lists list []) (items + list) (stand.leads list below) (omega arith)
    (length-AreApart (get_or lists list []) items (stand.apart list)
    (λ item there. leads-within next items (items + list) (get_or lists list []) (items + list) item (stand.leads list below) there)) ∙
    get_or_default lists list [] none below)

-- What an answer needs: the lists, and that the links stand for them.
pub stood_for : (items : ℕ) (next : List ℕ) (owners : List (Option ℕ)) (lists : List (List ℕ)) → StandsFor items next owners lists →
    StandsFor items next owners (lists_of next items)
stood_for items next owners lists stand =
    let P : List (List ℕ) → Type 0 = λ l. StandsFor items next owners l in
    subst P (sym (lists-stood_for items next owners lists stand)) stand

-- ---- New tables.
pub stands-new : (items lists : ℕ) (next : List ℕ) (owners : List (Option ℕ)) → next ≡ range_with_len 0 (items + lists) →
    owners ≡ replicate items None → StandsFor items next owners (replicate lists [])
stands-new items lists next owners e f =
    let size : length next ≡ items + lists = ap length e ∙ length-range_with_len 0 (items + lists) in
    let count : length (replicate {A = List ℕ} lists []) ≡ lists = length-replicate lists [] in
    let empty : (list : ℕ) → get_or {A = List ℕ} (replicate lists []) list [] ≡ [] = all-empty lists in
    let itself : (node : ℕ) → node < items + lists → get_or next node 0 ≡ node =
    λ node h. ap (λ l. get_or l node 0) e ∙ get_or-range_with_len 0 (items + lists) node 0 h ∙ zero-add node in
    record {
      nodes = omega arith;
      owned = ap length f ∙ length-replicate items None;
      leads = λ list h. rw (empty list) (itself (items + list) (omega arith));
      apart = λ list. rw (empty list) tt;
      owner = λ list item h. absurd (both_ways false refl (ap (λ l. is_in l item) (sym (empty list)) ∙ h));
      stands = λ list item h. absurd (none-some list (sym (no-owner items item) ∙ ap (λ l. get_or l item None) (sym f) ∙ h));
      alone = λ item h k. itself item (omega arith);
    }
  where
    all-empty : (n k : ℕ) → get_or {A = List ℕ} (replicate n []) k [] ≡ []
    all-empty zero k = refl
    all-empty (suc n) zero = refl
    all-empty (suc n) (suc k) = all-empty n k

    no-owner : (n k : ℕ) → get_or {A = Option ℕ} (replicate n None) k None ≡ None
    no-owner zero k = refl
    no-owner (suc n) zero = refl
    no-owner (suc n) (suc k) = no-owner n k

-- ---- An item is put into a list.
module _ (items : ℕ) (next next' : List ℕ) (owners : List (Option ℕ)) (lists : List (List ℕ)) (list item after : ℕ) (new : List ℕ)
    (stand : StandsFor items next owners lists) (within : list < length lists) (below : item < items)
    (free : (other : ℕ) → is_in (get_or lists other []) item ≡ false)
    (put : IsInserted next item after next')
    (leads : Leads next' items (items + list) new (items + list))
    (apart : AreApart new)
    (only : (other : ℕ) → is_in new other ≡ true → (other ≡ item) ⊎ (is_in (get_or lists list []) other ≡ true))
    (there : is_in new item ≡ true)
    (kept : (other : ℕ) → is_in (get_or lists list []) other ≡ true → is_in new other ≡ true)
    (elsewhere : (other node : ℕ) → other < length lists → other ≢ list → (node ≡ items + other) ⊎ (is_in (get_or lists other []) node ≡ true) → node ≢ after)
    (not_alone : (node : ℕ) → node < items → get_or next node 0 ≡ node → node ≢ after) where
  new_at : (other : ℕ) → other ≡ list → get_or (set lists list new) other [] ≡ new
  new_at other e = rw e (get_or-set_same lists list new [] within)

  old_at : (other : ℕ) → other ≢ list → get_or (set lists list new) other [] ≡ get_or lists other []
  old_at other differ = get_or-set_other lists list other new [] differ

  owner_at : (other : ℕ) → other ≡ item → get_or (set owners item (Some list)) other None ≡ Some list
  owner_at other e = rw e (get_or-set_same owners item (Some list) None (rw stand.owned below))

  owner_kept : (other : ℕ) → other ≢ item → get_or (set owners item (Some list)) other None ≡ get_or owners other None
  owner_kept other differ = get_or-set_other owners item other (Some list) None differ

  differs_from : (other node : ℕ) → is_in (get_or lists other []) node ≡ true → node ≢ item
  differs_from other node h e = both_ways (is_in (get_or lists other []) item) (free other)
      (ap (λ n. is_in (get_or lists other []) n) (sym e) ∙ h)

  pub stands-put : StandsFor items next' (set owners item (Some list)) (set lists list new)
  stands-put =
      let nodes : length next ≡ items + length lists = stand.nodes in
      let size : length (set lists list new) ≡ length lists = length-set lists list new in
      record {
        nodes = put.count ∙ nodes ∙ ap (λ n. items + n) (sym size);
        owned = length-set owners item (Some list) ∙ stand.owned;
        leads = λ other h. elim (cases_eq other list) [
          | inl e ↦ rw (new_at other e, e) leads
          | inr differ ↦ rw (old_at other differ) (leads-kept next next' items (items + other) (get_or lists other []) (items + other)
              (stand.leads other (rw size at h)) (λ node on. put.others node
              (elim on [
                | inl e ↦ λ f. absurd (omega arith)
                | inr t ↦ differs_from other node t
              ])
              (elsewhere other node (rw size at h) differ on)))
        ];
        apart = λ other. elim (cases_eq other list) [
          | inl e ↦ rw (new_at other e) apart
          | inr differ ↦ rw (old_at other differ) (stand.apart other)
        ];
        owner = λ other node h. elim (cases_eq other list) [
          | inl e ↦ elim (only node (ap (λ l. is_in l node) (sym (new_at other e)) ∙ h)) [
            | inl f ↦ owner_at node f ∙ ap (λ (n : ℕ). Some n) (sym e)
            | inr t ↦ owner_kept node (differs_from list node t) ∙ stand.owner list node t ∙ ap (λ (n : ℕ). Some n) (sym e)
          ]
          | inr differ ↦
              let t : is_in (get_or lists other []) node ≡ true = ap (λ l. is_in l node) (sym (old_at other differ)) ∙ h in
              owner_kept node (differs_from other node t) ∙ stand.owner other node t
        ];
        stands = λ other node h. elim (cases_eq node item) [
          | inl e ↦
              let same : other ≡ list = sym (same_Some list other (sym (owner_at node e) ∙ h)) in
              ap (λ l. is_in l node) (new_at other same) ∙ ap (λ n. is_in new n) e ∙ there
          | inr differ ↦
              let t : is_in (get_or lists other []) node ≡ true = stand.stands other node (sym (owner_kept node differ) ∙ h) in
              elim (cases_eq other list) [
                | inl e ↦ ap (λ l. is_in l node) (new_at other e) ∙ kept node (ap (λ n. is_in (get_or lists n []) node) (sym e) ∙ t)
                | inr apart ↦ ap (λ l. is_in l node) (old_at other apart) ∙ t
              ]
        ];
        alone = λ node h none. elim (cases_eq node item) [
          | inl e ↦ absurd (none-some list (sym none ∙ owner_at node e))
          | inr differ ↦
              let itself : get_or next node 0 ≡ node = stand.alone node h (sym (owner_kept node differ) ∙ none) in
              put.others node differ (not_alone node h itself) ∙ itself
        ];
      }

-- Before all others of the list.
pub stands-front : (items : ℕ) (next next' : List ℕ) (owners : List (Option ℕ)) (lists : List (List ℕ)) (list item : ℕ) →
    StandsFor items next owners lists → list < length lists → item < items →
    ((other : ℕ) → is_in (get_or lists other []) item ≡ false) → IsInserted next item (items + list) next' →
    StandsFor items next' (set owners item (Some list)) (set lists list (item ∷ get_or lists list []))
stands-front items next next' owners lists list item stand within below free put =
    stands-put items next next' owners lists list item (items + list) (item ∷ get_or lists list []) stand within below free put
    (leads-insert next next' items (items + list) (get_or lists list []) (items + list) item (stand.leads list within) put below
    (omega arith) (free list))
    (free list, stand.apart list)
    (λ other h. is_in-cases item other (get_or lists list []) h)
    (is_in-same item item (get_or lists list []) refl)
    (λ other h. is_in-later item other (get_or lists list []) h)
    (λ other node h differ on e. elim on [
      | inl f ↦ differ (omega arith)
      | inr t ↦ absurd (let b : node < items = leads-within next items (items + other) (get_or lists other []) (items + other) node
          (stand.leads other h) t in omega arith)
    ])
    (λ node h itself e. absurd (omega arith))

-- Behind all others of the list.
pub stands-back : (items : ℕ) (next next' : List ℕ) (owners : List (Option ℕ)) (lists : List (List ℕ)) (list item last : ℕ) →
    StandsFor items next owners lists → list < length lists → item < items →
    ((other : ℕ) → is_in (get_or lists other []) item ≡ false) → IsInserted next item last next' →
    get_or next last 0 ≡ items + list →
    ((other : ℕ) → other < length next → get_or next other 0 ≡ items + list → other ≡ last) →
    StandsFor items next' (set owners item (Some list)) (set lists list (get_or lists list [] ++ item ∷ []))
stands-back items next next' owners lists list item last stand within below free put ends only =
    let nodes : length next ≡ items + length lists = stand.nodes in
    stands-put items next next' owners lists list item last (get_or lists list [] ++ item ∷ []) stand within below free put
    (leads-push next next' items (items + list) (get_or lists list []) (items + list) item last (stand.leads list within) put below
    (omega arith) (λ e. absurd (omega arith)) (free list) ends
    (λ node on e. only node (elim on [
      | inl f ↦ omega arith
      | inr t ↦ let b : node < items = leads-within next items (items + list) (get_or lists list []) (items + list) node
          (stand.leads list within) t in omega arith
    ]) e))
    (AreApart-push (get_or lists list []) item (stand.apart list) (free list))
    (λ other h. elim (is_in-push (get_or lists list []) item other h) [ inl t ↦ inr t | inr e ↦ inl e ])
    (is_in-last (get_or lists list []) item item refl)
    (λ other h. is_in-pushed (get_or lists list []) item other h)
    (λ other node h differ on e.
    let f : get_or next node 0 ≡ items + list = ap (λ n. get_or next n 0) e ∙ ends in
    elim (leads-onward next items (items + other) (get_or lists other []) (items + other) node (stand.leads other h) on) [
      | inl t ↦ absurd (let b : get_or next node 0 < items = leads-within next items (items + other) (get_or lists other [])
          (items + other) (get_or next node 0) (stand.leads other h) t in omega arith)
      | inr g ↦ differ (omega arith)
    ])
    (λ node h itself e. absurd (let f : get_or next node 0 ≡ items + list = ap (λ n. get_or next n 0) e ∙ ends in omega arith))

-- ---- An item is taken out of its list.
module _ (items : ℕ) (next next' : List ℕ) (owners : List (Option ℕ)) (lists : List (List ℕ)) (list item : ℕ)
    (stand : StandsFor items next owners lists) (within : list < length lists) (below : item < items)
    (there : is_in (get_or lists list []) item ≡ true) (gone : IsRemoved next item next') where
  left_at : (other : ℕ) → other ≡ list → get_or (set lists list (without (get_or lists list []) item)) other [] ≡ without (get_or lists list []) item
  left_at other e = rw e (get_or-set_same lists list (without (get_or lists list []) item) [] within)

  rest_at : (other : ℕ) → other ≢ list → get_or (set lists list (without (get_or lists list []) item)) other [] ≡ get_or lists other []
  rest_at other differ = get_or-set_other lists list other (without (get_or lists list []) item) [] differ

  gone_at : (other : ℕ) → other ≡ item → get_or (set owners item None) other None ≡ None
  gone_at other e = rw e (get_or-set_same owners item None None (rw stand.owned below))

  rest_owner : (other : ℕ) → other ≢ item → get_or (set owners item None) other None ≡ get_or owners other None
  rest_owner other differ = get_or-set_other owners item other None None differ

  not_in_others : (other : ℕ) → other ≢ list → is_in (get_or lists other []) item ≡ false
  not_in_others other differ = false_from_ne_true _ (λ h.
      differ (same_Some other list (sym (stand.owner other item h) ∙ stand.owner list item there)))

  pub free-taken : (other : ℕ) → is_in (get_or (set lists list (without (get_or lists list []) item)) other []) item ≡ false
  free-taken other = elim (cases_eq other list) [
    | inl e ↦ ap (λ l. is_in l item) (left_at other e) ∙ is_in-gone (get_or lists list []) item (stand.apart list)
    | inr differ ↦ ap (λ l. is_in l item) (rest_at other differ) ∙ not_in_others other differ
  ]

  pub stands-taken : StandsFor items next' (set owners item None) (set lists list (without (get_or lists list []) item))
  stands-taken =
      let nodes : length next ≡ items + length lists = stand.nodes in
      let size : length (set lists list (without (get_or lists list []) item)) ≡ length lists = length-set lists list _ in
      record {
        nodes = gone.count ∙ nodes ∙ ap (λ n. items + n) (sym size);
        owned = length-set owners item None ∙ stand.owned;
        leads = λ other h.
            let k : other < length lists = rw size at h in
            elim (cases_eq other list) [
              | inl e ↦ rw (left_at other e, e) (leads-remove next next' items (items + list) (get_or lists list []) (items + list) item
                  (stand.leads list within) gone (λ f. absurd (omega arith)) (λ f. absurd (omega arith)) (omega arith) (omega arith)
                  (stand.apart list))
              | inr differ ↦ rw (rest_at other differ) (leads-apart next next' items (items + other) (get_or lists other []) (items + other) item
                  (stand.leads other k) gone (λ f. absurd (omega arith)) (λ f. absurd (omega arith)) (not_in_others other differ))
            ];
        apart = λ other. elim (cases_eq other list) [
          | inl e ↦ rw (left_at other e) (AreApart-without (get_or lists list []) item (stand.apart list))
          | inr differ ↦ rw (rest_at other differ) (stand.apart other)
        ];
        owner = λ other node h. elim (cases_eq node item) [
          | inl e ↦ absurd (both_ways (is_in (get_or (set lists list (without (get_or lists list []) item)) other []) item) (free-taken other)
              (ap (λ n. is_in (get_or (set lists list (without (get_or lists list []) item)) other []) n) (sym e) ∙ h))
          | inr differ ↦ rest_owner node differ ∙ stand.owner other node (elim (cases_eq other list) [
            | inl e ↦ ap (λ n. is_in (get_or lists n []) node) e ∙ is_in-without (get_or lists list []) item node
                (ap (λ l. is_in l node) (sym (left_at other e)) ∙ h)
            | inr apart ↦ ap (λ l. is_in l node) (sym (rest_at other apart)) ∙ h
          ])
        ];
        stands = λ other node h. elim (cases_eq node item) [
          | inl e ↦ absurd (none-some other (sym (gone_at node e) ∙ h))
          | inr differ ↦
              let t : is_in (get_or lists other []) node ≡ true = stand.stands other node (sym (rest_owner node differ) ∙ h) in
              elim (cases_eq other list) [
                | inl e ↦ ap (λ l. is_in l node) (left_at other e) ∙ is_in-left (get_or lists list []) item node
                    (ap (λ n. is_in (get_or lists n []) node) (sym e) ∙ t) differ
                | inr apart ↦ ap (λ l. is_in l node) (rest_at other apart) ∙ t
              ]
        ];
        alone = λ node h none. elim (cases_eq node item) [
          | inl e ↦ ap (λ n. get_or next' n 0) e ∙ gone.alone ∙ sym e
          | inr differ ↦
              let itself : get_or next node 0 ≡ node = stand.alone node h (sym (rest_owner node differ) ∙ none) in
              gone.others node differ (λ f. differ (sym itself ∙ f)) ∙ itself
        ];
      }
