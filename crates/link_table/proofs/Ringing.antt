-- Rings stay rings where a node is put in or taken out.
use Rattle.std.proofs.Common.{◌≡◌, ◌≢◌, ℕ, zero, suc, ◌+◌, ◌<◌, List, [], ◌∷◌, ◌++◌, length, get_or, set, refl, sym, ◌∙◌, ap, inl, inr, zero-add, arith, length-set, get_or-set_same, get_or-set_other}
use Rattle.std.proofs.lemmas.Bool.{cases_eq}
use Rattle.std.specs.List.{range_with_len}
use Rattle.std.proofs.lemmas.List.FromFn.{length-range_with_len, get_or-range_with_len}
use Rattle.link_table.specs.Rings.{AreRings, IsInserted, IsRemoved}

-- What stands at an index after a write.
pub written : (links : List ℕ) (at node index : ℕ) → at < length links → index ≡ at → get_or (set links at node) index 0 ≡ node
written links at node index h e = rw e (get_or-set_same links at node 0 h)

pub unwritten : (links : List ℕ) (at node index : ℕ) → index ≢ at → get_or (set links at node) index 0 ≡ get_or links index 0
unwritten links at node index differ = get_or-set_other links at index node 0 differ

-- What stands at an index after two writes.
pub last_written : (links : List ℕ) (first a second b index : ℕ) → second < length links → index ≡ second →
    get_or (set (set links first a) second b) index 0 ≡ b
last_written links first a second b index h e = written (set links first a) second b index (omega (arith, length-set links first a)) e

pub first_written : (links : List ℕ) (first a second b index : ℕ) → first < length links → index ≡ first → index ≢ second →
    get_or (set (set links first a) second b) index 0 ≡ a
first_written links first a second b index h e differ =
    unwritten (set links first a) second b index differ ∙ written links first a index h e

pub never_written : (links : List ℕ) (first a second b index : ℕ) → index ≢ first → index ≢ second →
    get_or (set (set links first a) second b) index 0 ≡ get_or links index 0
never_written links first a second b index differ other =
    unwritten (set links first a) second b index other ∙ unwritten links first a index differ

-- Two nodes with one node behind them are one, as are two with one node before them.
pub one_before : (next previous : List ℕ) (a b : ℕ) → AreRings next previous → a < length next → b < length next →
    get_or next a 0 ≡ get_or next b 0 → a ≡ b
one_before next previous a b rings h k e = sym (rings.returns a h) ∙ ap (λ n. get_or previous n 0) e ∙ rings.returns b k

pub one_behind : (next previous : List ℕ) (a b : ℕ) → AreRings next previous → a < length next → b < length next →
    get_or previous a 0 ≡ get_or previous b 0 → a ≡ b
one_behind next previous a b rings h k e = sym (rings.comes_back a h) ∙ ap (λ n. get_or next n 0) e ∙ rings.comes_back b k

-- Rings of one node each.
pub alone-rings : (count : ℕ) (next previous : List ℕ) → next ≡ range_with_len 0 count → previous ≡ range_with_len 0 count →
    AreRings next previous
alone-rings count next previous e f =
    let size : length next ≡ count = ap length e ∙ length-range_with_len 0 count in
    let at : (node : ℕ) → node < length next → get_or next node 0 ≡ node =
    λ node h. ap (λ l. get_or l node 0) e ∙ get_or-range_with_len 0 count node 0 (omega arith) ∙ zero-add node in
    let back : (node : ℕ) → node < length next → get_or previous node 0 ≡ node =
    λ node h. ap (λ l. get_or l node 0) f ∙ get_or-range_with_len 0 count node 0 (omega arith) ∙ zero-add node in
    record {
      long = ap length f ∙ length-range_with_len 0 count ∙ sym size;
      onward = λ node h. rw (at node h) h;
      backward = λ node h. rw (back node h) h;
      returns = λ node h. rw (at node h) (back node h);
      comes_back = λ node h. rw (back node h) (at node h);
    }

-- The other way round they are rings as well.
pub turned : (next previous : List ℕ) → AreRings next previous → AreRings previous next
turned next previous rings =
    let e : length previous ≡ length next = rings.long in
    record {
      long = sym e;
      onward = λ node h. rw e (rings.backward node (rw e at h));
      backward = λ node h. rw e (rings.onward node (rw e at h));
      returns = λ node h. rings.comes_back node (rw e at h);
      comes_back = λ node h. rings.returns node (rw e at h);
    }

-- The two writes that put a node behind another one.
pub writes-insert : (links : List ℕ) (node after onward : ℕ) → node < length links → after < length links → node ≢ after →
    onward ≡ get_or links after 0 → IsInserted links node after (set (set links after node) node onward)
writes-insert links node after onward within there differ e = record {
  count = length-set _ _ _ ∙ length-set _ _ _;
  behind = first_written links after node node onward after there refl (λ f. differ (sym f));
  onward = last_written links after node node onward node within refl ∙ e;
  others = λ other f g. never_written links after node node onward other g f;
}

-- The two writes that take a node out.
pub writes-remove : (links : List ℕ) (node before onward : ℕ) → node < length links → before < length links →
    onward ≡ get_or links node 0 →
    ((other : ℕ) → other < length links → get_or links other 0 ≡ node → other ≡ before) →
    get_or links before 0 ≡ node →
    IsRemoved links node (set (set links before onward) node node)
writes-remove links node before onward within there e only leads = record {
  count = length-set _ _ _ ∙ length-set _ _ _;
  alone = last_written links before onward node node node within refl;
  passed = λ other h f g. first_written links before onward node node other there (only other h g) f ∙ e;
  others = λ other f g. never_written links before onward node node other
      (λ same. g (ap (λ n. get_or links n 0) same ∙ leads)) f;
}

-- A node that was a ring of its own is put behind another one: the new links are undone by the new ones back.
module _ (next previous next' previous' : List ℕ) (node after behind : ℕ) (rings : AreRings next previous)
    (within : node < length next) (there : after < length next) (differ : node ≢ after) (alone : get_or next node 0 ≡ node)
    (e : behind ≡ get_or next after 0) (inserted : IsInserted next node after next')
    (inserted_back : IsInserted previous node behind previous') where
  half_inserted : (y : ℕ) → y < length next → (get_or next' y 0 < length next) × (get_or previous' (get_or next' y 0) 0 ≡ y)
  half_inserted y h = elim (cases_eq y node) [
    | inl same ↦
        let f : get_or next' y 0 ≡ behind = ap (λ n. get_or next' n 0) same ∙ inserted.onward ∙ sym e in
        (rw (f, e) (rings.onward after there), rw f (inserted_back.behind ∙ sym same))
    | inr not_node ↦ elim (cases_eq y after) [
      | inl same ↦
          let f : get_or next' y 0 ≡ node = ap (λ n. get_or next' n 0) same ∙ inserted.behind in
          (rw f within, rw f (inserted_back.onward ∙ ap (λ n. get_or previous n 0) e ∙ rings.returns after there ∙ sym same))
      | inr not_after ↦
          let f : get_or next' y 0 ≡ get_or next y 0 = inserted.others y not_node not_after in (
            rw f (rings.onward y h),
            rw f (inserted_back.others (get_or next y 0)
                (λ g. not_node (one_before next previous y node rings h within (g ∙ sym alone)))
                (λ g. not_after (one_before next previous y after rings h there (g ∙ e))) ∙ rings.returns y h),
          )
    ]
  ]

pub inserted : (next previous next' previous' : List ℕ) (node after behind : ℕ) → AreRings next previous →
    node < length next → after < length next → node ≢ after → get_or next node 0 ≡ node →
    behind ≡ get_or next after 0 → IsInserted next node after next' → IsInserted previous node behind previous' →
    AreRings next' previous'
inserted next previous next' previous' node after behind rings within there differ alone e new back =
    let size : length next' ≡ length next = new.count in
    let size_back : length previous' ≡ length next = back.count ∙ rings.long in
    let itself : get_or previous node 0 ≡ node = ap (λ n. get_or previous n 0) (sym alone) ∙ rings.returns node within in
    let onward = half_inserted next previous next' previous' node after behind rings within there differ alone e new back in
    let backward = half_inserted previous next previous' next' node behind after (turned next previous rings)
    (rw rings.long within) (rw (rings.long, e) (rings.onward after there))
    (λ f. differ (sym (one_before next previous after node rings there within (sym e ∙ sym f ∙ sym alone)))) itself
    (sym (rings.returns after there) ∙ ap (λ n. get_or previous n 0) (sym e)) back new in
    record {
      long = size_back ∙ sym size;
      onward = λ y h. rw size ((onward y (rw size at h)).0);
      backward = λ y h. rw (size, ← rings.long) ((backward y (rw (size, ← rings.long) at h)).0);
      returns = λ y h. (onward y (rw size at h)).1;
      comes_back = λ y h. (backward y (rw (size, ← rings.long) at h)).1;
    }

-- A node is taken out: the new links are undone by the new ones back.
module _ (next previous next' previous' : List ℕ) (node : ℕ) (rings : AreRings next previous)
    (within : node < length next) (removed : IsRemoved next node next') (removed_back : IsRemoved previous node previous') where
  half_removed : (y : ℕ) → y < length next → (get_or next' y 0 < length next) × (get_or previous' (get_or next' y 0) 0 ≡ y)
  half_removed y h = elim (cases_eq y node) [
    | inl same ↦
        let f : get_or next' y 0 ≡ node = ap (λ n. get_or next' n 0) same ∙ removed.alone in
        (rw f within, rw f (removed_back.alone ∙ sym same))
    | inr not_node ↦ elim (cases_eq (get_or next y 0) node) [
      | inl leads ↦
          let f : get_or next' y 0 ≡ get_or next node 0 = removed.passed y h not_node leads in (
            rw f (rings.onward node within),
            rw f (removed_back.passed (get_or next node 0) (rw rings.long (rings.onward node within))
                (λ g. not_node (one_before next previous y node rings h within (leads ∙ sym g))) (rings.returns node within) ∙
                ap (λ n. get_or previous n 0) (sym leads) ∙ rings.returns y h),
          )
      | inr apart ↦
          let f : get_or next' y 0 ≡ get_or next y 0 = removed.others y not_node apart in (
            rw f (rings.onward y h),
            rw f (removed_back.others (get_or next y 0) apart (λ g. not_node (sym (rings.returns y h) ∙ g)) ∙ rings.returns y h),
          )
    ]
  ]

pub removed : (next previous next' previous' : List ℕ) (node : ℕ) → AreRings next previous → node < length next →
    IsRemoved next node next' → IsRemoved previous node previous' → AreRings next' previous'
removed next previous next' previous' node rings within new back =
    let size : length next' ≡ length next = new.count in
    let size_back : length previous' ≡ length next = back.count ∙ rings.long in
    let onward = half_removed next previous next' previous' node rings within new back in
    let backward = half_removed previous next previous' next' node (turned next previous rings) (rw rings.long within) back new in
    record {
      long = size_back ∙ sym size;
      onward = λ y h. rw size ((onward y (rw size at h)).0);
      backward = λ y h. rw (size, ← rings.long) ((backward y (rw (size, ← rings.long) at h)).0);
      returns = λ y h. (onward y (rw size at h)).1;
      comes_back = λ y h. (backward y (rw (size, ← rings.long) at h)).1;
    }

-- One number more.
pub range-more : (from count next : ℕ) → from + count ≡ next →
    range_with_len from (suc count) ≡ range_with_len from count ++ next ∷ []
range-more from zero next e = let h : from ≡ next = omega arith in ap (λ (n : ℕ). n ∷ []) h
range-more from (suc count) next e = ap (λ (l : List ℕ). from ∷ l) (range-more (from + 1) count next (omega arith))
