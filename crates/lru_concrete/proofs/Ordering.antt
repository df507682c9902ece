-- The slots of the sets in order, and what stands in them at first.
use Rattle.std.proofs.Common.{◌≡◌, ◌≢◌, ℕ, zero, suc, ◌+◌, ◌-◌, ◌*◌, ◌<◌, ◌≤◌, false, List, [], ◌∷◌, ◌++◌, length, map, get_or, set, replicate, slice_get, Contains, Option, Some, None, refl, sym, ◌∙◌, ap, subst, inl, inr, arith, length-set, length-append, get_or-set_same, get_or-set_other, add-one}
use Rattle.std.specs.List.{range_with_len, flat_map}
use Rattle.std.proofs.Math.Nat.{mul-le-mul_left}
use Rattle.std.proofs.lemmas.Bool.{cases_eq, cases_lt, cases_order, both_ways}
use Rattle.std.proofs.lemmas.List.{same_lists, set-get_or, get_or_append_left, get_or-append-add, length-replicate, get_or_default}
use Rattle.std.proofs.lemmas.List.FromFn.{length-range_with_len, get_or-range_with_len, length-map-range_with_len, get_or-map-range_with_len}
use Rattle.link_table.specs.Items.{is_in, AreApart}
use Rattle.link_table.specs.Lists.{Lists, IsFree, items_of, with_list}
use Rattle.link_table.proofs.Calls.{with_list-twice, items_of-with_list}
use Rattle.link_table.proofs.Members.{is_in-from_Contains, Contains-from_is_in, not_Contains}
use Rattle.link_table.proofs.Ringing.{range-more}
use Rattle.lru_concrete.specs.declared.level.Shape.{Shape}
use Rattle.lru_concrete.specs.Contents.{IsLawful}
use Rattle.lru_concrete.specs.Slots.{block_at, blocks_at, AreEmpty, ArePacked, IsInOrder, KeepsSets, content_of, sets_of, ways_of}
use Rattle.lru_concrete.proofs.Slotted.{blocks-some, blocks-none, packed-some, packed-none}

-- ---- Numbers in a row.
pub contains-range : (from count item : ℕ) → Contains (range_with_len from count) item → (from ≤ item) × (item < from + count)
contains-range from count item there =
    let k : there.0 < count = let h : there.0 < length (range_with_len from count) = there.1 in omega (arith, h, length-range_with_len from count) in
    let e : from + there.0 ≡ item = sym (get_or-range_with_len from count there.0 item k) ∙ there.2 in
    (omega arith, omega arith)

pub range-contains : (from count item : ℕ) → from ≤ item → item < from + count → Contains (range_with_len from count) item
range-contains from count item low high =
    let k : item - from < count = omega arith in
    (item - from, omega (arith, k, length-range_with_len from count), get_or-range_with_len from count (item - from) item k ∙ omega arith)

AreApart-range : (from count : ℕ) → AreApart (range_with_len from count)
AreApart-range from zero = tt
AreApart-range from (suc count) = (
  not_Contains (range_with_len (from + 1) count) from (λ h.
      let low : from + 1 ≤ from = (contains-range (from + 1) count from h).0 in absurd (omega arith)),
  AreApart-range (from + 1) count,
)

-- Rows of one width have no item in common.
pub rows-apart : (width row other item : ℕ) → row ≢ other → row * width ≤ item → item < row * width + width →
    other * width ≤ item → item < other * width + width → ⊥
rows-apart width row other item differ low high low' high' = elim (cases_order row other) [
  | inl e ↦ differ e
  | inr order ↦ elim order [
    | inl h ↦ let le : width * (row + 1) ≤ width * other = mul-le-mul_left width (omega arith) in absurd (omega arith)
    | inr h ↦ let le : width * (other + 1) ≤ width * row = mul-le-mul_left width (omega arith) in absurd (omega arith)
  ]
]

-- ---- A list that is filled with the slots of its set.
pub unfilled : (table : Lists) (list : ℕ) → items_of table list ≡ [] → table ≡ with_list table list []
unfilled table list e =
    ap (λ (l : List (List ℕ)). record { items = table.items; lists = l }) (sym (set-get_or table.lists list [])) ∙
    ap (λ l. with_list table list l) e

pub filled-free : (table : Lists) (list first way : ℕ) → list < length table.lists →
    ((slot : ℕ) → first ≤ slot → IsFree table slot) → IsFree (with_list table list (range_with_len first way)) (first + way)
filled-free table list first way within free other there = elim (cases_eq other list) [
  | inl e ↦
      let P : List ℕ → Type 0 = λ l. Contains l (first + way) in
      let high : first + way < first + way = (contains-range first way (first + way) (subst P
      (ap (λ n. get_or (set table.lists list (range_with_len first way)) n []) e ∙
      get_or-set_same table.lists list (range_with_len first way) [] within) there)).1 in
      absurd (omega arith)
  | inr differ ↦
      let P : List ℕ → Type 0 = λ l. Contains l (first + way) in
      free (first + way) (omega arith) other (subst P (get_or-set_other table.lists list other (range_with_len first way) [] differ) there)
]

pub filled-more : (table : Lists) (list first way : ℕ) → list < length table.lists →
    with_list (with_list table list (range_with_len first way)) list
    (items_of (with_list table list (range_with_len first way)) list ++ (first + way) ∷ []) ≡
    with_list table list (range_with_len first (way + 1))
filled-more table list first way within =
    with_list-twice table list (range_with_len first way) _ ∙
    ap (λ l. with_list table list (l ++ (first + way) ∷ [])) (items_of-with_list table list (range_with_len first way) within) ∙
    ap (λ l. with_list table list l) (sym (rw add-one (range-more first way (first + way) refl)))

-- The lists of the first sets are filled, all others are empty.
pub record IsBegun (sets ways done : ℕ) (order : Lists) : Type 0 where
  pub items : order.items ≡ sets * ways
  pub count : length order.lists ≡ sets
  pub each : (list : ℕ) → list < done → items_of order list ≡ range_with_len (list * ways) ways
  pub rest : (list : ℕ) → done ≤ list → items_of order list ≡ []

pub begun-none : (sets ways : ℕ) (order : Lists) → order ≡ record { items = sets * ways; lists = replicate sets [] } →
    IsBegun sets ways 0 order
begun-none sets ways order e = record {
  items = ap (λ (t : Lists). t.items) e;
  count = ap (λ (t : Lists). length t.lists) e ∙ length-replicate sets [];
  each = λ list h. absurd (omega arith);
  rest = λ list h. ap (λ (t : Lists). items_of t list) e ∙ none sets list;
}
  where
    none : (n k : ℕ) → get_or {A = List ℕ} (replicate n []) k [] ≡ []
    none zero k = refl
    none (suc n) zero = refl
    none (suc n) (suc k) = none n k

pub begun-free : (sets ways done : ℕ) (order : Lists) → IsBegun sets ways done order → (slot : ℕ) → done * ways ≤ slot → IsFree order slot
begun-free sets ways done order begun slot low list there = elim (cases_lt list done) [
  | inl h ↦
      let P : List ℕ → Type 0 = λ l. Contains l slot in
      let high : slot < list * ways + ways = (contains-range (list * ways) ways slot (subst P (begun.each list h) there)).1 in
      let le : ways * (list + 1) ≤ ways * done = mul-le-mul_left ways (omega arith) in
      absurd (omega arith)
  | inr h ↦
      let P : List ℕ → Type 0 = λ l. Contains l slot in
      let none : Contains [] slot = subst P (begun.rest list h) there in
      absurd (let k : none.0 < 0 = none.1 in omega arith)
]

pub begun-more : (sets ways done first : ℕ) (order order' : Lists) → IsBegun sets ways done order → done < sets → first ≡ done * ways →
    order' ≡ with_list order done (range_with_len first ways) → IsBegun sets ways (done + 1) order'
begun-more sets ways done first order order' begun below e new =
    let size : done < length order.lists = rw begun.count below in
    record {
      items = ap (λ (t : Lists). t.items) new ∙ begun.items;
      count = ap (λ (t : Lists). length t.lists) new ∙ length-set order.lists done _ ∙ begun.count;
      each = λ list h. ap (λ (t : Lists). items_of t list) new ∙ elim (cases_eq list done) [
        | inl same ↦ ap (λ n. get_or (set order.lists done (range_with_len first ways)) n []) same ∙
            get_or-set_same order.lists done (range_with_len first ways) [] size ∙
            ap (λ n. range_with_len n ways) (e ∙ ap (λ n. n * ways) (sym same))
        | inr differ ↦ get_or-set_other order.lists done list (range_with_len first ways) [] differ ∙ begun.each list (omega arith)
      ];
      rest = λ list h. ap (λ (t : Lists). items_of t list) new ∙
          get_or-set_other order.lists done list (range_with_len first ways) [] (λ same. absurd (omega arith)) ∙ begun.rest list (omega arith);
    }

pub begun-all : (sets ways : ℕ) (order : Lists) → IsBegun sets ways sets order → IsInOrder sets ways order
begun-all sets ways order begun = record { items = begun.items; count = begun.count; each = begun.each }

-- ---- What the slots of the sets hold at first.
pub length-ways_of : (ways : ℕ) (blocks : List ℕ) → length (ways_of ways blocks) ≡ ways
length-ways_of ways blocks = length-map-range_with_len (slice_get blocks) 0 ways

pub length-slots : (ways : ℕ) (sets : List (List ℕ)) → length (flat_map (ways_of ways) sets) ≡ length sets * ways
length-slots ways [] = omega arith
length-slots ways (blocks ∷ sets) =
    length-append (ways_of ways blocks) (flat_map (ways_of ways) sets) ∙
    (let a = length-ways_of ways blocks in let b = length-slots ways sets in omega (arith, a, b))

pub slot-at : (ways : ℕ) (sets : List (List ℕ)) (row way : ℕ) → row < length sets → way < ways →
    get_or (flat_map (ways_of ways) sets) (row * ways + way) None ≡ slice_get (get_or sets row []) way
slot-at ways [] row way h k = absurd (omega arith)
slot-at ways (blocks ∷ sets) zero way h k =
    let e : 0 * ways + way ≡ way = omega arith in
    rw e (get_or_append_left (ways_of ways blocks) (flat_map (ways_of ways) sets) None way (omega (arith, length-ways_of ways blocks)) ∙
    get_or-map-range_with_len (slice_get blocks) 0 ways way way None k (omega arith))
slot-at ways (blocks ∷ sets) (suc row) way h k =
    let size = length-ways_of ways blocks in
    let e : suc row * ways + way ≡ length (ways_of ways blocks) + (row * ways + way) = omega (arith, size) in
    rw e (get_or-append-add (ways_of ways blocks) (flat_map (ways_of ways) sets) (row * ways + way) None ∙
    slot-at ways sets row way (omega arith) k)

-- Slots in a row that hold these blocks.
pub blocks-row : (slots : List (Option ℕ)) (from count : ℕ) (blocks : List ℕ) →
    ((way : ℕ) → way < count → block_at slots (from + way) ≡ slice_get blocks way) → length blocks ≤ count →
    (blocks_at slots (range_with_len from count) ≡ blocks) × ArePacked slots (range_with_len from count)
blocks-row slots from zero [] at h = (refl, tt)
blocks-row slots from zero (block ∷ blocks) at h = absurd (omega arith)
blocks-row slots from (suc count) [] at h =
    let e : block_at slots from ≡ None = ap (block_at slots) (omega arith) ∙ at 0 (omega arith) in
    let empty = empty-row (from + 1) count (λ way k. ap (block_at slots) (omega arith) ∙ at (suc way) (omega arith)) in
    (blocks-none slots from (range_with_len (from + 1) count) e ∙ empty.0, packed-none slots from (range_with_len (from + 1) count) e empty.1)
  where
    empty-row : (a n : ℕ) → ((way : ℕ) → way < n → block_at slots (a + way) ≡ None) →
        (blocks_at slots (range_with_len a n) ≡ []) × AreEmpty slots (range_with_len a n)
    empty-row a zero none = (refl, tt)
    empty-row a (suc n) none =
        let e : block_at slots a ≡ None = ap (block_at slots) (omega arith) ∙ none 0 (omega arith) in
        let rest = empty-row (a + 1) n (λ way k. ap (block_at slots) (omega arith) ∙ none (suc way) (omega arith)) in
        (blocks-none slots a (range_with_len (a + 1) n) e ∙ rest.0, (e, rest.1))
blocks-row slots from (suc count) (block ∷ blocks) at h =
    let e : block_at slots from ≡ Some block = ap (block_at slots) (omega arith) ∙ at 0 (omega arith) in
    let rest = blocks-row slots (from + 1) count blocks (λ way k. ap (block_at slots) (omega arith) ∙ at (suc way) (omega arith)) (omega arith) in (
      blocks-some slots from block (range_with_len (from + 1) count) e ∙ ap (λ l. block ∷ l) rest.0,
      packed-some slots from block (range_with_len (from + 1) count) e rest.1,
    )

pub map-at : (slots : List (Option ℕ)) (lists : List (List ℕ)) (list : ℕ) →
    get_or (map (blocks_at slots) lists) list [] ≡ blocks_at slots (get_or lists list [])
map-at slots [] list = refl
map-at slots (order ∷ lists) zero = refl
map-at slots (order ∷ lists) (suc list) = map-at slots lists list

-- A cache whose slots stand in order, and hold lawful contents.
module _ (shape : Shape) (order : Lists) (slots : List (Option ℕ)) (blocks : List (List ℕ))
    (ordered : IsInOrder shape.sets shape.ways order) (count : length slots ≡ shape.sets * shape.ways)
    (filled : (row way : ℕ) → row < shape.sets → way < shape.ways →
    block_at slots (row * shape.ways + way) ≡ slice_get (get_or blocks row []) way)
    (lawful : IsLawful shape blocks) where
  row-of : (row : ℕ) → row < shape.sets →
      (blocks_at slots (items_of order row) ≡ get_or blocks row []) × ArePacked slots (items_of order row)
  row-of row h = rw (ordered.each row h) (blocks-row slots (row * shape.ways) shape.ways (get_or blocks row [])
      (λ way k. filled row way h k) (lawful.few row))

  pub sets-filled : sets_of slots order ≡ blocks
  sets-filled =
      let size : length (sets_of slots order) ≡ shape.sets = length-map-lists order.lists ∙ ordered.count in
      same_lists (sets_of slots order) blocks (size ∙ sym lawful.count) (λ row none h.
      let below : row < shape.sets = rw (← size) h in
      get_or_default (sets_of slots order) row none [] h ∙ map-at slots order.lists row ∙ (row-of row below).0 ∙
      get_or_default blocks row [] none (rw lawful.count below))
    where
      length-map-lists : (lists : List (List ℕ)) → length (map (blocks_at slots) lists) ≡ length lists
      length-map-lists [] = refl
      length-map-lists (x ∷ lists) = ap suc (length-map-lists lists)

  pub keeps-filled : KeepsSets shape order slots
  keeps-filled = record {
    count = count;
    items = ordered.items;
    sets = ordered.count;
    ways = λ row h. record {
      all = rw (ordered.each row h) (length-range_with_len (row * shape.ways) shape.ways);
      apart = rw (ordered.each row h) (AreApart-range (row * shape.ways) shape.ways);
      own = λ slot there. contains-range (row * shape.ways) shape.ways slot
          (Contains-from_is_in (range_with_len (row * shape.ways) shape.ways) slot
          (ap (λ l. is_in l slot) (sym (ordered.each row h)) ∙ there));
      there = λ slot low high. ap (λ l. is_in l slot) (ordered.each row h) ∙
          is_in-from_Contains (range_with_len (row * shape.ways) shape.ways) slot (range-contains (row * shape.ways) shape.ways slot low high);
      packed = (row-of row h).1;
    };
    lawful = rw sets-filled lawful;
  }

-- Empty sets are lawful.
pub lawful-none : (shape : Shape) → IsLawful shape (replicate shape.sets [])
lawful-none shape =
    let none : (row : ℕ) → get_or {A = List ℕ} (replicate shape.sets []) row [] ≡ [] = none-at shape.sets in
    record {
      count = length-replicate shape.sets [];
      few = λ row. rw (none row) (omega arith);
      apart = λ row. rw (none row) tt;
      own = λ row block h. absurd (both_ways false refl (ap (λ l. is_in l block) (sym (none row)) ∙ h));
    }
  where
    none-at : (n k : ℕ) → get_or {A = List ℕ} (replicate n []) k [] ≡ []
    none-at zero k = refl
    none-at (suc n) zero = refl
    none-at (suc n) (suc k) = none-at n k

-- A cache that keeps its sets and holds these blocks.
pub record HoldsBlocks (shape : Shape) (order : Lists) (slots : List (Option ℕ)) (blocks : List (List ℕ)) : Type 0 where
  pub keeps : KeepsSets shape order slots
  pub content : content_of shape order slots ≡ record { shape = shape; blocks = blocks }

pub holds-given : (shape : Shape) (order : Lists) (slots : List (Option ℕ)) (blocks : List (List ℕ)) →
    IsInOrder shape.sets shape.ways order → slots ≡ flat_map (ways_of shape.ways) blocks → IsLawful shape blocks →
    HoldsBlocks shape order slots blocks
holds-given shape order slots blocks ordered e lawful =
    let count : length slots ≡ shape.sets * shape.ways =
    ap (λ (l : List (Option ℕ)). length l) e ∙ length-slots shape.ways blocks ∙ ap (λ n. n * shape.ways) lawful.count in
    let filled : (row way : ℕ) → row < shape.sets → way < shape.ways →
    block_at slots (row * shape.ways + way) ≡ slice_get (get_or blocks row []) way =
    λ row way h k. ap (λ (l : List (Option ℕ)). block_at l (row * shape.ways + way)) e ∙
    slot-at shape.ways blocks row way (rw lawful.count h) k in
    record {
      keeps = keeps-filled shape order slots blocks ordered count filled lawful;
      content = ap (λ (b : List (List ℕ)). record { shape = shape; blocks = b }) (sets-filled shape order slots blocks ordered count filled lawful);
    }

pub holds-none : (shape : Shape) (order : Lists) (slots : List (Option ℕ)) → IsInOrder shape.sets shape.ways order →
    (n : ℕ) → n ≡ shape.sets * shape.ways → slots ≡ replicate n None → HoldsBlocks shape order slots (replicate shape.sets [])
holds-none shape order slots ordered n size e =
    let count : length slots ≡ shape.sets * shape.ways = ap (λ (l : List (Option ℕ)). length l) e ∙ length-replicate n None ∙ size in
    let filled : (row way : ℕ) → row < shape.sets → way < shape.ways →
    block_at slots (row * shape.ways + way) ≡ slice_get (get_or (replicate shape.sets []) row []) way =
    λ row way h k. ap (λ (l : List (Option ℕ)). block_at l (row * shape.ways + way)) e ∙ no-block n (row * shape.ways + way) ∙
    sym (ap (λ (l : List ℕ). slice_get l way) (no-list shape.sets row)) in
    record {
      keeps = keeps-filled shape order slots (replicate shape.sets []) ordered count filled (lawful-none shape);
      content = ap (λ (b : List (List ℕ)). record { shape = shape; blocks = b })
          (sets-filled shape order slots (replicate shape.sets []) ordered count filled (lawful-none shape));
    }
  where
    no-block : (k i : ℕ) → get_or {A = Option ℕ} (replicate k None) i None ≡ None
    no-block zero i = refl
    no-block (suc k) zero = refl
    no-block (suc k) (suc i) = no-block k i

    no-list : (k i : ℕ) → get_or {A = List ℕ} (replicate k []) i [] ≡ []
    no-list zero i = refl
    no-list (suc k) zero = refl
    no-list (suc k) (suc i) = no-list k i
