-- The blocks in slots, and how they change where a slot moves to the front or gets another block.
use Rattle.std.proofs.Common.{◌≡◌, ◌≢◌, ℕ, zero, suc, ◌-◌, ◌⊎◌, true, false, List, [], ◌∷◌, length, take, slice_get, Option, Some, None, refl, sym, ◌∙◌, ap, ap₂, subst, inl, inr, arith}
use Rattle.std.specs.List.{cons_option}
use Rattle.std.proofs.lemmas.Bool.{cases_eq, both_ways}
use Rattle.std.proofs.lemmas.Option.{none-some, same_Some}
use Rattle.link_table.specs.Items.{is_in, AreApart, without}
use Rattle.link_table.proofs.Members.{is_in-same, is_in-later, is_in-cases, differs, without-same, without-other}
use Rattle.lru_concrete.specs.Slots.{block_at, blocks_at, AreEmpty, ArePacked}

pub blocks-some : (slots : List (Option ℕ)) (slot block : ℕ) (order : List ℕ) → block_at slots slot ≡ Some block →
    blocks_at slots (slot ∷ order) ≡ block ∷ blocks_at slots order
blocks-some slots slot block order e = ap (λ o. cons_option o (blocks_at slots order)) e

pub blocks-none : (slots : List (Option ℕ)) (slot : ℕ) (order : List ℕ) → block_at slots slot ≡ None →
    blocks_at slots (slot ∷ order) ≡ blocks_at slots order
blocks-none slots slot order e = ap (λ o. cons_option o (blocks_at slots order)) e

-- A slot holds a block or none.
pub cases_slot : (slots : List (Option ℕ)) (slot : ℕ) →
    (block_at slots slot ≡ None) ⊎ ((block : ℕ) × (block_at slots slot ≡ Some block))
cases_slot slots slot = at (block_at slots slot) refl
  where
    at : (o : Option ℕ) → block_at slots slot ≡ o → (block_at slots slot ≡ None) ⊎ ((block : ℕ) × (block_at slots slot ≡ Some block))
    at None e = inl e
    at (Some block) e = inr (block, e)

-- A block that stands in a slot is among the blocks, and each block stands in a slot.
pub block-in : (slots : List (Option ℕ)) (order : List ℕ) (slot block : ℕ) → is_in order slot ≡ true →
    block_at slots slot ≡ Some block → is_in (blocks_at slots order) block ≡ true
block-in slots [] slot block h e = absurd (both_ways false refl h)
block-in slots (x ∷ order) slot block h e = elim (is_in-cases x slot order h) [
  | inl f ↦ ap (λ l. is_in l block) (blocks-some slots x block order (ap (block_at slots) (sym f) ∙ e)) ∙
      is_in-same block block (blocks_at slots order) refl
  | inr k ↦ elim (cases_slot slots x) [
    | inl f ↦ ap (λ l. is_in l block) (blocks-none slots x order f) ∙ block-in slots order slot block k e
    | inr f ↦ ap (λ l. is_in l block) (blocks-some slots x f.0 order f.1) ∙
        is_in-later f.0 block (blocks_at slots order) (block-in slots order slot block k e)
  ]
]

pub slot-of : (slots : List (Option ℕ)) (order : List ℕ) (block : ℕ) → is_in (blocks_at slots order) block ≡ true →
    (slot : ℕ) × (is_in order slot ≡ true) × (block_at slots slot ≡ Some block)
slot-of slots [] block h = absurd (both_ways false refl h)
slot-of slots (x ∷ order) block h = elim (cases_slot slots x) [
  | inl f ↦ later (slot-of slots order block (ap (λ l. is_in l block) (sym (blocks-none slots x order f)) ∙ h))
  | inr f ↦ elim (is_in-cases f.0 block (blocks_at slots order) (ap (λ l. is_in l block) (sym (blocks-some slots x f.0 order f.1)) ∙ h)) [
    | inl e ↦ (x, is_in-same x x order refl, f.1 ∙ ap (λ (n : ℕ). Some n) (sym e))
    | inr k ↦ later (slot-of slots order block k)
  ]
]
  where
    later : (slot : ℕ) × (is_in order slot ≡ true) × (block_at slots slot ≡ Some block) →
        (slot : ℕ) × (is_in (x ∷ order) slot ≡ true) × (block_at slots slot ≡ Some block)
    later found = (found.0, is_in-later x found.0 order found.1, found.2)

-- No block stands in empty slots.
pub blocks-empty : (slots : List (Option ℕ)) (order : List ℕ) → AreEmpty slots order → blocks_at slots order ≡ []
blocks-empty slots [] empty = refl
blocks-empty slots (x ∷ order) empty = blocks-none slots x order empty.0 ∙ blocks-empty slots order empty.1

-- The same blocks stand in the same slots.
pub blocks-kept : (slots slots' : List (Option ℕ)) (order : List ℕ) →
    ((slot : ℕ) → is_in order slot ≡ true → block_at slots' slot ≡ block_at slots slot) → blocks_at slots' order ≡ blocks_at slots order
blocks-kept slots slots' [] same = refl
blocks-kept slots slots' (x ∷ order) same =
    ap₂ (λ o l. cons_option o l) (same x (is_in-same x x order refl))
    (blocks-kept slots slots' order (λ slot h. same slot (is_in-later x slot order h)))

empty-kept : (slots slots' : List (Option ℕ)) (order : List ℕ) →
    ((slot : ℕ) → is_in order slot ≡ true → block_at slots' slot ≡ block_at slots slot) → AreEmpty slots order → AreEmpty slots' order
empty-kept slots slots' [] same empty = empty
empty-kept slots slots' (x ∷ order) same empty = (
  same x (is_in-same x x order refl) ∙ empty.0,
  empty-kept slots slots' order (λ slot h. same slot (is_in-later x slot order h)) empty.1,
)

-- A packed list of slots, by its first slot.
pub packed-some : (slots : List (Option ℕ)) (slot block : ℕ) (order : List ℕ) → block_at slots slot ≡ Some block →
    ArePacked slots order → ArePacked slots (slot ∷ order)
packed-some slots slot block order e packed = rw e packed

pub packed-none : (slots : List (Option ℕ)) (slot : ℕ) (order : List ℕ) → block_at slots slot ≡ None →
    AreEmpty slots order → ArePacked slots (slot ∷ order)
packed-none slots slot order e empty = rw e empty

pub packed-later : (slots : List (Option ℕ)) (slot block : ℕ) (order : List ℕ) → block_at slots slot ≡ Some block →
    ArePacked slots (slot ∷ order) → ArePacked slots order
packed-later slots slot block order e packed = rw e at packed

pub packed-empty : (slots : List (Option ℕ)) (slot : ℕ) (order : List ℕ) → block_at slots slot ≡ None →
    ArePacked slots (slot ∷ order) → AreEmpty slots order
packed-empty slots slot order e packed = rw e at packed

pub packed-kept : (slots slots' : List (Option ℕ)) (order : List ℕ) →
    ((slot : ℕ) → is_in order slot ≡ true → block_at slots' slot ≡ block_at slots slot) → ArePacked slots order → ArePacked slots' order
packed-kept slots slots' [] same packed = packed
packed-kept slots slots' (x ∷ order) same packed = elim (cases_slot slots x) [
  | inl e ↦ packed-none slots' x order (same x (is_in-same x x order refl) ∙ e)
      (empty-kept slots slots' order (λ slot h. same slot (is_in-later x slot order h)) (packed-empty slots x order e packed))
  | inr e ↦ packed-some slots' x e.0 order (same x (is_in-same x x order refl) ∙ e.1)
      (packed-kept slots slots' order (λ slot h. same slot (is_in-later x slot order h)) (packed-later slots x e.0 order e.1 packed))
]

empty-without : (slots : List (Option ℕ)) (order : List ℕ) (slot : ℕ) → AreEmpty slots order → AreEmpty slots (without order slot)
empty-without slots [] slot empty = empty
empty-without slots (x ∷ order) slot empty = elim (cases_eq x slot) [
  | inl e ↦ rw (without-same x slot order e) empty.1
  | inr differ ↦ rw (without-other x slot order differ) (empty.0, empty-without slots order slot empty.1)
]

empty-packed : (slots : List (Option ℕ)) (order : List ℕ) → AreEmpty slots order → ArePacked slots order
empty-packed slots [] empty = empty
empty-packed slots (x ∷ order) empty = packed-none slots x order empty.0 empty.1

pub packed-without : (slots : List (Option ℕ)) (order : List ℕ) (slot : ℕ) → ArePacked slots order → ArePacked slots (without order slot)
packed-without slots [] slot packed = packed
packed-without slots (x ∷ order) slot packed = elim (cases_slot slots x) [
  | inl e ↦ elim (cases_eq x slot) [
    | inl f ↦ rw (without-same x slot order f) (empty-packed slots order (packed-empty slots x order e packed))
    | inr differ ↦ rw (without-other x slot order differ)
        (packed-none slots x (without order slot) e (empty-without slots order slot (packed-empty slots x order e packed)))
  ]
  | inr e ↦ elim (cases_eq x slot) [
    | inl f ↦ rw (without-same x slot order f) (packed-later slots x e.0 order e.1 packed)
    | inr differ ↦ rw (without-other x slot order differ)
        (packed-some slots x e.0 (without order slot) e.1 (packed-without slots order slot (packed-later slots x e.0 order e.1 packed)))
  ]
]

-- Without the slot of a block the blocks are without that block.
pub blocks-without : (slots : List (Option ℕ)) (order : List ℕ) (slot block : ℕ) → AreApart (blocks_at slots order) →
    block_at slots slot ≡ Some block → is_in order slot ≡ true →
    blocks_at slots (without order slot) ≡ without (blocks_at slots order) block
blocks-without slots [] slot block apart e h = absurd (both_ways false refl h)
blocks-without slots (x ∷ order) slot block apart e h = elim (cases_eq x slot) [
  | inl f ↦ ap (blocks_at slots) (without-same x slot order f) ∙
      sym (ap (λ l. without l block) (blocks-some slots x block order (ap (block_at slots) f ∙ e)) ∙
      without-same block block (blocks_at slots order) refl)
  | inr differ ↦ ap (blocks_at slots) (without-other x slot order differ) ∙ elim (is_in-cases x slot order h) [
    | inl f ↦ absurd (differ (sym f))
    | inr k ↦ elim (cases_slot slots x) [
      | inl f ↦
          let own : AreApart (blocks_at slots order) = let P : List ℕ → Type 0 = λ l. AreApart l in subst P (blocks-none slots x order f) apart in
          blocks-none slots x (without order slot) f ∙ blocks-without slots order slot block own e k ∙
          sym (ap (λ l. without l block) (blocks-none slots x order f))
      | inr f ↦
          let own : AreApart (f.0 ∷ blocks_at slots order) =
          let P : List ℕ → Type 0 = λ l. AreApart l in subst P (blocks-some slots x f.0 order f.1) apart in
          let other : f.0 ≢ block = λ g. differs (blocks_at slots order) f.0 block own.0 (block-in slots order slot block k e) (sym g) in
          blocks-some slots x f.0 (without order slot) f.1 ∙
          ap (λ l. f.0 ∷ l) (blocks-without slots order slot block own.1 e k) ∙
          sym (ap (λ l. without l block) (blocks-some slots x f.0 order f.1) ∙ without-other f.0 block (blocks_at slots order) other)
    ]
  ]
]

take-nil : (n : ℕ) → take {A = ℕ} n [] ≡ []
take-nil zero = refl
take-nil (suc n) = refl

pub last-in : (xs : List ℕ) (n item : ℕ) → slice_get xs n ≡ Some item → is_in xs item ≡ true
last-in [] n item f = absurd (none-some item f)
last-in (z ∷ zs) zero item f = is_in-same z item zs (sym (same_Some z item f))
last-in (z ∷ zs) (suc n) item f = is_in-later z item zs (last-in zs n item f)

-- Without the last slot of a packed list the last block goes, if all slots hold blocks.
pub blocks-last : (slots : List (Option ℕ)) (order : List ℕ) (last : ℕ) → AreApart order → ArePacked slots order →
    slice_get order (length order - 1) ≡ Some last →
    blocks_at slots (without order last) ≡ take (length order - 1) (blocks_at slots order)
blocks-last slots [] last apart packed e = absurd (none-some last e)
blocks-last slots (x ∷ []) last apart packed e =
    ap (blocks_at slots) (without-same x last [] (same_Some x last e))
blocks-last slots (x ∷ y ∷ order) last apart packed e =
    let size : length (x ∷ y ∷ order) - 1 ≡ suc (length (y ∷ order) - 1) = omega arith in
    let there : slice_get (y ∷ order) (length (y ∷ order) - 1) ≡ Some last =
    ap (λ n. slice_get (x ∷ y ∷ order) n) (sym size) ∙ e in
    let differ : x ≢ last = λ f. differs (y ∷ order) x last apart.0 (last-in (y ∷ order) (length (y ∷ order) - 1) last there) (sym f) in
    ap (blocks_at slots) (without-other x last (y ∷ order) differ) ∙ elim (cases_slot slots x) [
      | inl f ↦
          let empty = packed-empty slots x (y ∷ order) f packed in
          blocks-none slots x (without (y ∷ order) last) f ∙ blocks-empty slots (without (y ∷ order) last) (empty-without slots (y ∷ order) last empty) ∙
          sym (ap (λ l. take (length (x ∷ y ∷ order) - 1) l) (blocks-none slots x (y ∷ order) f ∙ blocks-empty slots (y ∷ order) empty) ∙
          take-nil (length (x ∷ y ∷ order) - 1))
      | inr f ↦
          blocks-some slots x f.0 (without (y ∷ order) last) f.1 ∙
          ap (λ l. f.0 ∷ l) (blocks-last slots (y ∷ order) last apart.1 (packed-later slots x f.0 (y ∷ order) f.1 packed) there) ∙
          sym (ap₂ (λ n l. take n l) size (blocks-some slots x f.0 (y ∷ order) f.1))
    ]
