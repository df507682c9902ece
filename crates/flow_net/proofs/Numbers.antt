-- The items of numbers.
use Rattle.std.proofs.Common.{◌≡◌, ℕ, ◌-◌, ◌<◌, ◌≤◌, List, length, get_or, slice_get, All, Some, zero, suc, refl, sym, ◌∙◌, subst, arith}
use Rattle.std.proofs.lemmas.Option.{slice_get_read, slice_get_within, slice_get-get_or, get_or_from_slice_get, none-some, same_Some}
use Rattle.std.proofs.lemmas.List.Elements.{All-get_or}
use Rattle.flow_net.specs.Numbers.{item_at, IsNumberOf}

-- What an index reads has the number after it.
pub item_at-read : {T : Type 0} (items : List T) (number : ℕ) (item : T) → 0 < number →
    number ≤ length items → item ≡ get_or items (number - 1) item → item_at number items ≡ Some item
item_at-read items zero item low high e = absurd (omega arith)
item_at-read items (suc position) item low high e =
    slice_get_read items (length items) position item refl (omega arith)
    (subst (λ (at : ℕ). item ≡ get_or items at item) (omega arith) e)

-- Only numbers of items have one.
pub item_at-within : {T : Type 0} (items : List T) (number : ℕ) (item : T) →
    item_at number items ≡ Some item → IsNumberOf items number
item_at-within items zero item e = absurd (none-some item e)
item_at-within items (suc position) item e =
    let less = slice_get_within items position item e in
    record { from_one = omega arith; within = omega arith }

-- Each number of an item has it.
pub item_at-there : {T : Type 0} (items : List T) (number : ℕ) (d : T) → IsNumberOf items number →
    item_at number items ≡ Some (get_or items (number - 1) d)
item_at-there items zero d h = absurd (omega (arith, h.from_one))
item_at-there items (suc position) d h =
    subst (λ (at : ℕ). slice_get items position ≡ Some (get_or items at d)) (omega arith)
    (slice_get-get_or items position d (omega (arith, h.within)))

-- What holds of all items holds of the one of a number.
pub item_at-all : {T : Type 0} (P : T → Type 0) (items : List T) (number : ℕ) (item : T) →
    All P items → item_at number items ≡ Some item → P item
item_at-all P items zero item all e = absurd (none-some item e)
item_at-all P items (suc position) item all e =
    subst P (get_or_from_slice_get items position item item e)
    (All-get_or P items position item (slice_get_within items position item e) all)

-- A number has one item.
pub item_at-same : {T : Type 0} (items : List T) (number : ℕ) (x y : T) →
    item_at number items ≡ Some x → item_at number items ≡ Some y → x ≡ y
item_at-same items number x y h k = same_Some x y (sym h ∙ k)
