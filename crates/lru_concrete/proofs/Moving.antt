-- A touch, by the slots of a set: one moves to the front, and takes the block if the set doesn't hold it.
use Rattle.std.proofs.Common.{◌≡◌, ◌≢◌, ℕ, zero, suc, ◌+◌, ◌-◌, ◌*◌, ◌<◌, ◌≤◌, Bool, true, false, List, [], ◌∷◌, length, map, get_or, set, take, slice_get, Contains, Option, Some, None, refl, sym, ◌∙◌, ap, ap₂, subst, inl, inr, arith, length-set, get_or-set_same, get_or-set_other}
use Rattle.std.proofs.Math.Nat.{mul-le-mul_left}
use Rattle.std.proofs.lemmas.Bool.{cases_eq, both_ways, false_from_ne_true}
use Rattle.std.proofs.lemmas.List.{take_all}
use Rattle.std.proofs.lemmas.Option.{slice_get-get_or, none-some}
use Rattle.link_table.specs.Items.{is_in, AreApart, without}
use Rattle.link_table.specs.Lists.{Lists, Stands, items_of, with_list}
use Rattle.link_table.proofs.Members.{Contains-from_is_in, is_in-same, is_in-later, is_in-cases, differs, without-same, without-other, is_in-without, is_in-left, is_in-gone, AreApart-without}
use Rattle.lru_concrete.specs.declared.level.Shape.{Shape}
use Rattle.lru_concrete.specs.Sets.{touched}
use Rattle.lru_concrete.specs.Contents.{holds, set_in, set_of, touching}
use Rattle.lru_concrete.specs.Slots.{block_at, blocks_at, AreWays, KeepsSets, content_of, sets_of}
use Rattle.lru_concrete.proofs.Slotted.{blocks-some, block-in, slot-of, blocks-kept, blocks-without, blocks-last, last-in, packed-some, packed-kept, packed-without}
use Rattle.lru_concrete.proofs.Touching.{without-none, lawful-touching}
use Rattle.lru_concrete.proofs.Ordering.{map-at, rows-apart}

-- One item less.
pub length-without : (xs : List ℕ) (item : ℕ) → is_in xs item ≡ true → suc (length (without xs item)) ≡ length xs
length-without [] item h = absurd (both_ways false refl h)
length-without (x ∷ xs) item h = elim (cases_eq x item) [
  | inl e ↦ ap (λ (l : List ℕ). suc (length l)) (without-same x item xs e)
  | inr differ ↦ ap (λ (l : List ℕ). suc (length l)) (without-other x item xs differ) ∙ elim (is_in-cases x item xs h) [
    | inl e ↦ absurd (differ (sym e))
    | inr k ↦ ap suc (length-without xs item k)
  ]
]

-- An item of a row is one of all rows.
row-within : (row rows width item : ℕ) → row < rows → item < row * width + width → item < rows * width
row-within row rows width item h k =
    let le : width * (row + 1) ≤ width * rows = mul-le-mul_left width (omega arith) in omega (arith, le)

-- A slot of the set moves to the front and holds a block there; all other slots hold what they held.
pub ways-front : (ways set : ℕ) (slots slots' : List (Option ℕ)) (order : List ℕ) (slot block : ℕ) → AreWays ways slots set order →
    is_in order slot ≡ true → block_at slots' slot ≡ Some block →
    ((other : ℕ) → other ≢ slot → block_at slots' other ≡ block_at slots other) →
    AreWays ways slots' set (slot ∷ without order slot)
ways-front ways set slots slots' order slot block keeps there here same = record {
  all = length-without order slot there ∙ keeps.all;
  apart = (is_in-gone order slot keeps.apart, AreApart-without order slot keeps.apart);
  own = λ other h. elim (is_in-cases slot other (without order slot) h) [
    | inl e ↦ rw e (keeps.own slot there)
    | inr k ↦ keeps.own other (is_in-without order slot other k)
  ];
  there = λ other low high. elim (cases_eq other slot) [
    | inl e ↦ is_in-same slot other (without order slot) e
    | inr differ ↦ is_in-later slot other (without order slot) (is_in-left order slot other (keeps.there other low high) differ)
  ];
  packed = packed-some slots' slot block (without order slot) here
      (packed-kept slots slots' (without order slot)
      (λ other h. same other (differs (without order slot) slot other (is_in-gone order slot keeps.apart) h))
      (packed-without slots order slot keeps.packed));
}

-- A set none of whose slots changed.
pub ways-kept : (ways set : ℕ) (slots slots' : List (Option ℕ)) (order : List ℕ) → AreWays ways slots set order →
    ((slot : ℕ) → is_in order slot ≡ true → block_at slots' slot ≡ block_at slots slot) → AreWays ways slots' set order
ways-kept ways set slots slots' order keeps same = record {
  all = keeps.all;
  apart = keeps.apart;
  own = keeps.own;
  there = keeps.there;
  packed = packed-kept slots slots' order same keeps.packed;
}

-- The blocks of all sets, where one set has other slots in front.
pub sets-changed : (slots slots' : List (Option ℕ)) (lists : List (List ℕ)) (at : ℕ) (new : List ℕ) →
    ((row : ℕ) → row < length lists → row ≢ at → blocks_at slots' (get_or lists row []) ≡ blocks_at slots (get_or lists row [])) →
    map (blocks_at slots') (set lists at new) ≡ set (map (blocks_at slots) lists) at (blocks_at slots' new)
sets-changed slots slots' [] at new same = refl
sets-changed slots slots' (order ∷ lists) zero new same =
    ap (λ l. blocks_at slots' new ∷ l) (rest lists (λ row h. same (suc row) (omega arith) (λ e. absurd (omega arith))))
  where
    rest : (ls : List (List ℕ)) → ((row : ℕ) → row < length ls → blocks_at slots' (get_or ls row []) ≡ blocks_at slots (get_or ls row [])) →
        map (blocks_at slots') ls ≡ map (blocks_at slots) ls
    rest [] each = refl
    rest (l ∷ ls) each = ap₂ (λ (x : List ℕ) (xs : List (List ℕ)). x ∷ xs) (each 0 (omega arith)) (rest ls (λ row h. each (suc row) (omega arith)))
sets-changed slots slots' (order ∷ lists) (suc at) new same =
    ap₂ (λ (x : List ℕ) (xs : List (List ℕ)). x ∷ xs) (same 0 (omega arith) (λ e. absurd (omega arith)))
    (sets-changed slots slots' lists at new (λ row h differ. same (suc row) (omega arith) (λ e. differ (omega arith))))

module _ (shape : Shape) (order : Lists) (slots : List (Option ℕ)) (keeps : KeepsSets shape order slots) (block : ℕ)
    (within : set_in shape block < shape.sets) where
  own_blocks : set_of shape (sets_of slots order) block ≡ blocks_at slots (items_of order (set_in shape block))
  own_blocks = map-at slots order.lists (set_in shape block)

  -- What holds of a cache whose set of the block has one slot in front, with the block in it.
  module _ (slots' : List (Option ℕ)) (slot : ℕ) (count : length slots' ≡ length slots)
      (there : is_in (items_of order (set_in shape block)) slot ≡ true) (here : block_at slots' slot ≡ Some block)
      (same : (other : ℕ) → other ≢ slot → block_at slots' other ≡ block_at slots other)
      (blocks : blocks_at slots' (slot ∷ without (items_of order (set_in shape block)) slot) ≡
      touched shape.ways (blocks_at slots (items_of order (set_in shape block))) block) where
    kept_slot : (row other : ℕ) → row < shape.sets → row ≢ set_in shape block → is_in (items_of order row) other ≡ true →
        block_at slots' other ≡ block_at slots other
    kept_slot row other h differ k = same other (λ e.
        let mine = (keeps.ways (set_in shape block) within).own slot there in
        let yours = (keeps.ways row h).own other k in
        rows-apart shape.ways row (set_in shape block) other differ yours.0 yours.1 (rw e mine.0) (rw e mine.1))

    pub content-moved : sets_of slots' (with_list order (set_in shape block) (slot ∷ without (items_of order (set_in shape block)) slot)) ≡
        touching shape (sets_of slots order) block
    content-moved =
        sets-changed slots slots' order.lists (set_in shape block) (slot ∷ without (items_of order (set_in shape block)) slot)
        (λ row h differ. blocks-kept slots slots' (items_of order row) (λ other k. kept_slot row other (rw (← keeps.sets) h) differ k)) ∙
        ap (λ l. set (sets_of slots order) (set_in shape block) l)
        (blocks ∙ ap (λ l. touched shape.ways l block) (sym own_blocks))

    pub keeps-moved : KeepsSets shape (with_list order (set_in shape block) (slot ∷ without (items_of order (set_in shape block)) slot)) slots'
    keeps-moved = record {
      count = count ∙ keeps.count;
      items = keeps.items;
      sets = length-set order.lists (set_in shape block) _ ∙ keeps.sets;
      ways = λ row h. elim (cases_eq row (set_in shape block)) [
        | inl e ↦ rw (e, get_or-set_same order.lists (set_in shape block) (slot ∷ without (items_of order (set_in shape block)) slot) [] (rw keeps.sets within))
            (ways-front shape.ways (set_in shape block) slots slots' (items_of order (set_in shape block)) slot block
            (keeps.ways (set_in shape block) within) there here same)
        | inr differ ↦ rw (get_or-set_other order.lists (set_in shape block) row (slot ∷ without (items_of order (set_in shape block)) slot) [] differ)
            (ways-kept shape.ways row slots slots' (items_of order row) (keeps.ways row h) (λ other k. kept_slot row other h differ k))
      ];
      lawful = rw content-moved (lawful-touching shape (sets_of slots order) block keeps.lawful);
    }

  -- The set holds the block, in a slot.
  module _ (slot : ℕ) (low : set_in shape block * shape.ways ≤ slot) (high : slot < set_in shape block * shape.ways + shape.ways)
      (here : block_at slots slot ≡ Some block) where
    pub in-hit : is_in (items_of order (set_in shape block)) slot ≡ true
    in-hit = (keeps.ways (set_in shape block) within).there slot low high

    apart_blocks : AreApart (blocks_at slots (items_of order (set_in shape block)))
    apart_blocks = let P : List ℕ → Type 0 = λ l. AreApart l in subst P own_blocks (keeps.lawful.apart (set_in shape block))

    pub holds-hit : true ≡ holds shape (sets_of slots order) block
    holds-hit = sym (ap (λ l. is_in l block) own_blocks ∙ block-in slots (items_of order (set_in shape block)) slot block in-hit here)

    pub blocks-hit : blocks_at slots (slot ∷ without (items_of order (set_in shape block)) slot) ≡
        touched shape.ways (blocks_at slots (items_of order (set_in shape block))) block
    blocks-hit =
        let old : List ℕ = blocks_at slots (items_of order (set_in shape block)) in
        let few : length (blocks_at slots (items_of order (set_in shape block))) ≤ shape.ways =
        let P : List ℕ → Type 0 = λ l. length l ≤ shape.ways in subst P own_blocks (keeps.lawful.few (set_in shape block)) in
        let found : is_in (blocks_at slots (items_of order (set_in shape block))) block ≡ true =
        block-in slots (items_of order (set_in shape block)) slot block in-hit here in
        let less = length-without (blocks_at slots (items_of order (set_in shape block))) block found in
        blocks-some slots slot block (without (items_of order (set_in shape block)) slot) here ∙
        ap (λ l. block ∷ l) (blocks-without slots (items_of order (set_in shape block)) slot block apart_blocks here in-hit) ∙
        sym (take_all shape.ways (block ∷ without (blocks_at slots (items_of order (set_in shape block))) block) (omega (arith, less, few)))

    pub content-hit : sets_of slots (with_list order (set_in shape block) (slot ∷ without (items_of order (set_in shape block)) slot)) ≡
        touching shape (sets_of slots order) block
    content-hit = content-moved slots slot refl in-hit here (λ other differ. refl) blocks-hit

    pub keeps-hit : KeepsSets shape (with_list order (set_in shape block) (slot ∷ without (items_of order (set_in shape block)) slot)) slots
    keeps-hit = keeps-moved slots slot refl in-hit here (λ other differ. refl) blocks-hit

    pub slot-below : slot < length slots
    slot-below = rw keeps.count (row-within (set_in shape block) shape.sets shape.ways slot within high)

  -- A set has a last slot.
  pub last-there : None ≡ slice_get (items_of order (set_in shape block)) (length (items_of order (set_in shape block)) - 1) → ⊥
  last-there e =
      let all : length (items_of order (set_in shape block)) ≡ shape.ways = (keeps.ways (set_in shape block) within).all in
      let some : 1 ≤ shape.ways = shape.ways_some in
      none-some _ (e ∙ slice_get-get_or (items_of order (set_in shape block)) (length (items_of order (set_in shape block)) - 1) 0 (omega arith))

  -- The set doesn't hold the block, and its last slot takes it.
  module _ (slot : ℕ) (last : Some slot ≡ slice_get (items_of order (set_in shape block)) (length (items_of order (set_in shape block)) - 1))
      (none : (other : ℕ) → set_in shape block * shape.ways ≤ other → other < set_in shape block * shape.ways + shape.ways →
      block_at slots other ≢ Some block) where
    pub in-miss : is_in (items_of order (set_in shape block)) slot ≡ true
    in-miss = last-in (items_of order (set_in shape block)) (length (items_of order (set_in shape block)) - 1) slot (sym last)

    pub slot-within : slot < length slots
    slot-within =
        let mine = (keeps.ways (set_in shape block) within).own slot in-miss in
        let high : slot < set_in shape block * shape.ways + shape.ways = mine.1 in
        rw keeps.count (row-within (set_in shape block) shape.sets shape.ways slot within high)

    not_held : is_in (blocks_at slots (items_of order (set_in shape block))) block ≡ false
    not_held = false_from_ne_true (is_in (blocks_at slots (items_of order (set_in shape block))) block) (λ h.
        let found = slot-of slots (items_of order (set_in shape block)) block h in
        let mine = (keeps.ways (set_in shape block) within).own found.0 found.1 in
        none found.0 mine.0 mine.1 found.2)

    pub holds-miss : false ≡ holds shape (sets_of slots order) block
    holds-miss = sym (ap (λ l. is_in l block) own_blocks ∙ not_held)

    here_now : block_at (set slots slot (Some block)) slot ≡ Some block
    here_now = get_or-set_same slots slot (Some block) None slot-within

    others : (other : ℕ) → other ≢ slot → block_at (set slots slot (Some block)) other ≡ block_at slots other
    others other differ = get_or-set_other slots slot other (Some block) None differ

    blocks-miss : blocks_at (set slots slot (Some block)) (slot ∷ without (items_of order (set_in shape block)) slot) ≡
        touched shape.ways (blocks_at slots (items_of order (set_in shape block))) block
    blocks-miss =
        let ways = keeps.ways (set_in shape block) within in
        let all : length (items_of order (set_in shape block)) ≡ shape.ways = ways.all in
        let some : 1 ≤ shape.ways = shape.ways_some in
        let size : shape.ways ≡ suc (length (items_of order (set_in shape block)) - 1) = omega (arith, all, some) in
        blocks-some (set slots slot (Some block)) slot block (without (items_of order (set_in shape block)) slot) here_now ∙
        ap (λ l. block ∷ l) (blocks-kept slots (set slots slot (Some block)) (without (items_of order (set_in shape block)) slot)
        (λ other h. others other (differs (without (items_of order (set_in shape block)) slot) slot other
        (is_in-gone (items_of order (set_in shape block)) slot ways.apart) h)) ∙
        blocks-last slots (items_of order (set_in shape block)) slot ways.apart ways.packed (sym last)) ∙
        sym (ap₂ (λ n l. take n (block ∷ l)) size (without-none (blocks_at slots (items_of order (set_in shape block))) block not_held))

    pub content-miss : sets_of (set slots slot (Some block)) (with_list order (set_in shape block) (slot ∷ without (items_of order (set_in shape block)) slot)) ≡
        touching shape (sets_of slots order) block
    content-miss = content-moved (set slots slot (Some block)) slot (length-set slots slot (Some block)) in-miss here_now others blocks-miss

    pub keeps-miss : KeepsSets shape (with_list order (set_in shape block) (slot ∷ without (items_of order (set_in shape block)) slot)) (set slots slot (Some block))
    keeps-miss = keeps-moved (set slots slot (Some block)) slot (length-set slots slot (Some block)) in-miss here_now others blocks-miss

-- What a touch tells and leaves: the sets are kept, and the content is the touched one.
pub record IsTouched (shape : Shape) (order : Lists) (slots : List (Option ℕ)) (block : ℕ) (found : Bool) (order' : Lists)
    (slots' : List (Option ℕ)) : Type 0 where
  pub held : found ≡ holds shape (sets_of slots order) block
  pub keeps : KeepsSets shape order' slots'
  pub content : content_of shape order' slots' ≡ record { shape = shape; blocks = touching shape (sets_of slots order) block }

-- A block has a set.
pub set-within : (shape : Shape) (block : ℕ) → set_in shape block < shape.sets
set-within shape block = let some : 1 ≤ shape.sets = shape.sets_some in omega arith

-- The slots of the block's set were searched from the first one on, and one holds the block.
module _ (shape : Shape) (order : Lists) (slots searched : List (Option ℕ)) (keeps : KeepsSets shape order slots) (block slot first : ℕ)
    (begins : first ≡ set_in shape block * shape.ways) (same : searched ≡ slots) (bounds : (first ≤ slot) × (slot < first + shape.ways))
    (found : block_at searched slot ≡ Some block) where
  low_bound : set_in shape block * shape.ways ≤ slot
  low_bound = let low : first ≤ slot = bounds.0 in omega arith

  high_bound : slot < set_in shape block * shape.ways + shape.ways
  high_bound = let high : slot < first + shape.ways = bounds.1 in omega arith

  here : block_at slots slot ≡ Some block
  here = ap (λ (l : List (Option ℕ)). block_at l slot) (sym same) ∙ found

  pub hit-stands : Stands order slot
  hit-stands = (
    set_in shape block,
    Contains-from_is_in (items_of order (set_in shape block)) slot
        (in-hit shape order slots keeps block (set-within shape block) slot low_bound high_bound here),
  )

  pub hit-within : slot < order.items
  hit-within = rw keeps.items (rw keeps.count at
      (slot-below shape order slots keeps block (set-within shape block) slot low_bound high_bound here))

  pub hit-touched : (order' : Lists) →
      ((list : ℕ) → Contains (items_of order list) slot →
      order' ≡ with_list order list (slot ∷ without (items_of order list) slot)) → IsTouched shape order slots block true order' slots
  unfolding hit-stands
  hit-touched order' moved =
      let e = moved hit-stands.0 hit-stands.1 in
      record {
        held = holds-hit shape order slots keeps block (set-within shape block) slot low_bound high_bound here;
        keeps = rw e (keeps-hit shape order slots keeps block (set-within shape block) slot low_bound high_bound here);
        content = ap (λ (b : List (List ℕ)). record { shape = shape; blocks = b })
            (ap (λ (o : Lists). sets_of slots o) e ∙
            content-hit shape order slots keeps block (set-within shape block) slot low_bound high_bound here);
      }

-- No slot of the block's set holds the block, and the last one takes it.
module _ (shape : Shape) (order : Lists) (slots searched : List (Option ℕ)) (keeps : KeepsSets shape order slots) (block slot first : ℕ)
    (begins : first ≡ set_in shape block * shape.ways) (same : searched ≡ slots)
    (none : (other : ℕ) → first ≤ other → other < first + shape.ways → block_at searched other ≢ Some block)
    (last : Some slot ≡ slice_get (items_of order (set_in shape block)) (length (items_of order (set_in shape block)) - 1)) where
  nowhere : (other : ℕ) → set_in shape block * shape.ways ≤ other → other < set_in shape block * shape.ways + shape.ways →
      block_at slots other ≢ Some block
  nowhere other low high e = none other (omega arith) (omega arith) (ap (λ (l : List (Option ℕ)). block_at l other) same ∙ e)

  pub miss-stands : Stands order slot
  miss-stands = (
    set_in shape block,
    Contains-from_is_in (items_of order (set_in shape block)) slot
        (in-miss shape order slots keeps block (set-within shape block) slot last nowhere),
  )

  pub miss-within : slot < length slots
  miss-within = slot-within shape order slots keeps block (set-within shape block) slot last nowhere

  pub miss-item : slot < order.items
  miss-item = rw keeps.items (rw keeps.count at miss-within)

  pub miss-touched : (order' : Lists) →
      ((list : ℕ) → Contains (items_of order list) slot →
      order' ≡ with_list order list (slot ∷ without (items_of order list) slot)) →
      IsTouched shape order slots block false order' (set slots slot (Some block))
  unfolding miss-stands
  miss-touched order' moved =
      let e = moved miss-stands.0 miss-stands.1 in
      record {
        held = holds-miss shape order slots keeps block (set-within shape block) slot last nowhere;
        keeps = rw e (keeps-miss shape order slots keeps block (set-within shape block) slot last nowhere);
        content = ap (λ (b : List (List ℕ)). record { shape = shape; blocks = b })
            (ap (λ (o : Lists). sets_of (set slots slot (Some block)) o) e ∙
            content-miss shape order slots keeps block (set-within shape block) slot last nowhere);
      }
