-- What ranges leave together, and the records of ranges by their addresses.
use Rattle.std.proofs.Common.{◌≡◌, ℕ, zero, suc, ◌+◌, ◌<◌, ◌≤◌, ◌^◌, ◌==◌, Bool, true, false, List, [], ◌∷◌, ◌++◌, take, length, get_or, All, filter, refl, sym, subst, ◌∙◌, arith}
use Rattle.std.specs.Prelude.{Contains, ◌&&◌, ◌||◌, map, max, min, nat_le, not}
use Rattle.std.specs.List.{list_any}
use Rattle.std.specs.List.Sorted.{IsPermutation, IsNonDecreasingBy}
use Rattle.std.proofs.lemmas.Bool.{and_parts}
use Rattle.std.proofs.lemmas.Bool.Decides.{Decides-eqb, nat_tests}
use Rattle.std.proofs.lemmas.List.{take_all, take_more}
use Rattle.std.proofs.lemmas.List.Elements.{All-cons, All-contains, All-contains_itself, All-filter, All-head, All-nil, All-push, All-tail, filter_passes}
use Rattle.std.proofs.lemmas.List.Sorted.{All-permutation, Contains-permutation}
use Rattle.elf_mips.specs.declared.image.Image.{Image}
use Rattle.elf_mips.specs.declared.mark.Mark.{Mark}
use Rattle.mips_decode.specs.declared.step.Touched.{Touched}
use Rattle.net_model.specs.Targets.{targets_at}
use Rattle.code_units.specs.Targets.{AreTargets}
use Rattle.code_units.proofs.Lists.{filter_whole}
use Rattle.code_units.proofs.Naming.{found_named, named_found}
use Rattle.code_units.proofs.Ranging.{AreAt}
use Rattle.image_run.specs.declared.ranges.Limits.{Limits}
use Rattle.image_run.specs.Ranges.{AreRanges, IsCut, LiesIn, names_range, ranges_at, within}

all-parts : {T : Type 0} (P : T → Type 0) (xs : List T) (x : T) → All P (xs ++ x ∷ []) → All P xs × P x
all-parts P [] x all = (All-nil P, All-head P x [] all)
all-parts P (y ∷ xs) x all =
    let rest = all-parts P xs x (All-tail P y (xs ++ x ∷ []) all) in
    (All-cons P y xs (All-head P y (xs ++ x ∷ []) all) rest.0, rest.1)

-- One range more.
cut-push : (marks : List Mark) (mark : Mark) (limits narrower : Limits) → IsCut marks limits →
    narrower.from ≡ max limits.from mark.x → narrower.to ≡ min limits.to mark.y → IsCut (marks ++ mark ∷ []) narrower
cut-push marks mark limits narrower cut from to access small = (
  λ inside.
      let low = inside.0 in
      let high = inside.1 in
      All-push (LiesIn access) marks mark ((cut access small).0 (omega (arith, low, from), omega (arith, high, to)))
      (omega (arith, low, from), omega (arith, high, to)),
  λ all.
      let parts = all-parts (LiesIn access) marks mark all in
      let inside = (cut access small).1 parts.0 in
      let low = inside.0 in
      let high = inside.1 in
      let own_low = parts.1.0 in
      let own_high = parts.1.1 in
      (omega (arith, low, own_low, from), omega (arith, high, own_high, to)),
)

pub cut-more : (marks : List Mark) (index : ℕ) (d : Mark) (limits narrower : Limits) → index < length marks →
    IsCut (take index marks) limits → narrower.from ≡ max limits.from (get_or marks index d).x →
    narrower.to ≡ min limits.to (get_or marks index d).y → IsCut (take (index + 1) marks) narrower
cut-more marks index d limits narrower inside cut from to =
    subst (λ (front : List Mark). IsCut front narrower) (sym (take_more marks index d inside))
    (cut-push (take index marks) (get_or marks index d) limits narrower cut from to)

pub cut-all : (marks : List Mark) (index : ℕ) (limits : Limits) → length marks ≤ index → IsCut (take index marks) limits → IsCut marks limits
cut-all marks index limits past cut = subst (λ (front : List Mark). IsCut front limits) (take_all index marks past) cut

-- The sorted records of kind 3 are the records of ranges.
pub AreRanges-sorted : (image : Image) (kept sorted : List Mark) → kept ≡ filter (λ (mark : Mark). mark.kind == 3) image.marks →
    IsPermutation kept sorted → IsNonDecreasingBy (λ (mark : Mark). mark.address) sorted → AreRanges image sorted
AreRanges-sorted image kept sorted e once rising =
    let test : Mark → Bool = λ mark. mark.kind == 3 in
    record {
      rising = rising;
      sound = All-permutation (λ (mark : Mark). Contains image.marks mark × (mark.kind ≡ 3)) kept sorted once
          (subst (All (λ (mark : Mark). Contains image.marks mark × (mark.kind ≡ 3))) (sym e)
          (λ k d h. (
            All-filter test (Contains image.marks) image.marks (All-contains_itself image.marks) k d h,
            (Decides-eqb (get_or (filter test image.marks) k d).kind 3).0 (filter_passes test image.marks k d h),
          )));
      whole = λ k d h three.
          Contains-permutation kept sorted (get_or image.marks k d) once
          (subst (λ (marks : List Mark). Contains marks (get_or image.marks k d)) (sym e)
          (filter_whole test image.marks (get_or image.marks k d)
          (All-contains_itself image.marks k d h) ((Decides-eqb (get_or image.marks k d).kind 3).1 three)));
    }

-- ---- Those at an address are the ranges recorded for its instruction.
all-by : {T : Type 0} (P : T → Type 0) (items : List T) → ((item : T) → Contains items item → P item) → All P items
all-by P [] each = All-nil P
all-by P (x ∷ items) each =
    All-cons P x items (each x (0, omega arith, refl)) (all-by P items (λ item there. each item (later x items item there)))
  where
    later : {T : Type 0} (x : T) (items : List T) (item : T) → Contains items item → Contains (x ∷ items) item
    later x items item (k, inside, e) = (suc k, omega (arith, inside), e)

both-true : (a b : Bool) → a ≡ true → b ≡ true → (a && b) ≡ true
both-true true b e f = f
both-true false b e f = cc

module _ (image : Image) (ranges found : List Mark) (address : ℕ) (are : AreRanges image ranges) (at : AreAt (λ (mark : Mark). mark.address) ranges address found) where
  pub listed-found : (P : Mark → Type 0) → All P (ranges_at image address) → All P found
  listed-found P all = all-by P found (λ mark there.
      let one = All-contains (λ (m : Mark). Contains image.marks m × (m.kind ≡ 3)) ranges mark are.sound
      (All-contains (Contains ranges) found mark at.within there) in
      let place = All-contains (λ (m : Mark). m.address ≡ address) found mark at.sound there in
      All-contains P (ranges_at image address) mark all
      (filter_whole (names_range address) image.marks mark one.0
      (both-true (mark.kind == 3) (mark.address == address) ((Decides-eqb mark.kind 3).1 one.1) ((Decides-eqb mark.address address).1 place))))

  pub found-listed : (P : Mark → Type 0) → All P found → All P (ranges_at image address)
  found-listed P all = all-by P (ranges_at image address) (λ mark there.
      let listed = ranges_at image address in
      let passes = and_parts (mark.kind == 3) (mark.address == address)
      (All-contains (λ (m : Mark). names_range address m ≡ true) listed mark (filter_passes (names_range address) image.marks) there) in
      let inside = All-contains (Contains image.marks) listed mark
      (All-filter (names_range address) (Contains image.marks) image.marks (All-contains_itself image.marks)) there in
      All-contains P found mark all
      (All-contains (λ (m : Mark). m.address ≡ address → Contains found m) ranges mark at.whole
      (All-contains (λ (m : Mark). m.kind ≡ 3 → Contains ranges m) image.marks mark are.whole inside ((Decides-eqb mark.kind 3).0 passes.0))
      ((Decides-eqb mark.address address).0 passes.1)))

  pub cut-limits : (limits : Limits) → IsCut found limits → IsCut (ranges_at image address) limits
  cut-limits limits cut access small = (
    λ inside. found-listed (LiesIn access) ((cut access small).0 inside),
    λ all. (cut access small).1 (listed-found (LiesIn access) all),
  )

-- ---- A load or store within the limits lies in the ranges.
within-parts : (limits : Limits) (access : Touched) → within limits access ≡ true →
    (limits.from ≤ access.address) × (access.address + access.size ≤ limits.to)
within-parts limits access is =
    let parts = and_parts (nat_le limits.from access.address) (nat_le (access.address + access.size) limits.to) is in
    let low = parts.0 in
    let high = parts.1 in
    (grind (arith, nat_tests), grind (arith, nat_tests))

parts-within : (limits : Limits) (access : Touched) → limits.from ≤ access.address → access.address + access.size ≤ limits.to →
    within limits access ≡ true
parts-within limits access low high =
    both-true (nat_le limits.from access.address) (nat_le (access.address + access.size) limits.to)
    (grind (arith, nat_tests)) (grind (arith, nat_tests))

pub hold-kept : (image : Image) (site : ℕ) (limits : Limits) (access : Touched) → IsCut (ranges_at image site) limits →
    access.address + access.size < 2 ^ 64 → within limits access ≡ true → All (LiesIn access) (ranges_at image site)
hold-kept image site limits access cut small is = (cut access small).0 (within-parts limits access is)

pub kept-hold : (image : Image) (site : ℕ) (limits : Limits) (access : Touched) → IsCut (ranges_at image site) limits →
    access.address + access.size < 2 ^ 64 → All (LiesIn access) (ranges_at image site) → within limits access ≡ true
kept-hold image site limits access cut small all =
    let inside = (cut access small).1 all in
    parts-within limits access inside.0 inside.1

-- ---- Whether a record names a target.
head-listed : (m : Mark) (found : List Mark) (next : ℕ) (b : Bool) → (m.x == next) ≡ b →
    (list_any (λ (k : Mark). k.x == next) found ≡ true → Contains (map (λ (k : Mark). k.x) found) next) →
    (b || list_any (λ (k : Mark). k.x == next) found) ≡ true → Contains (map (λ (k : Mark). k.x) (m ∷ found)) next
head-listed m found next true same later is = (0, omega arith, (Decides-eqb m.x next).0 same)
head-listed m found next false same later is =
    let rest = later is in
    (suc rest.0, (let inside = rest.1 in omega (arith, inside)), rest.2)

any-listed : (found : List Mark) (next : ℕ) → list_any (λ (m : Mark). m.x == next) found ≡ true →
    Contains (map (λ (m : Mark). m.x) found) next
any-listed [] next is = cc
any-listed (m ∷ found) next is =
    head-listed m found next (m.x == next) refl (λ later. any-listed found next later) is

or-right : (a b : Bool) → b ≡ true → (a || b) ≡ true
or-right true b e = refl
or-right false b e = e

or-left : (a b : Bool) → a ≡ true → (a || b) ≡ true
or-left true b e = refl
or-left false b e = cc

listed-any : (found : List Mark) (next : ℕ) → Contains (map (λ (m : Mark). m.x) found) next →
    list_any (λ (m : Mark). m.x == next) found ≡ true
listed-any [] next (k, inside, e) = absurd (omega arith)
listed-any (m ∷ found) next (zero, inside, e) = or-left (m.x == next) _ ((Decides-eqb m.x next).1 e)
listed-any (m ∷ found) next (suc k, inside, e) =
    or-right (m.x == next) _ (listed-any found next (k, omega (arith, inside), e))

pub target-yes : (image : Image) (targets found : List Mark) (address next : ℕ) → AreTargets image targets →
    AreAt (λ (m : Mark). m.address) targets address found → list_any (λ (m : Mark). m.x == next) found ≡ true →
    Contains (targets_at image address) next
target-yes image targets found address next are at is = found_named image targets found address next are at (any-listed found next is)

pub target-no : (image : Image) (targets found : List Mark) (address next : ℕ) → AreTargets image targets →
    AreAt (λ (m : Mark). m.address) targets address found → list_any (λ (m : Mark). m.x == next) found ≡ false →
    Contains (targets_at image address) next → ⊥
target-no image targets found address next are at is there =
    let yes = listed-any found next (named_found image targets found address next are at there) in
    let no : true ≡ false = sym yes ∙ is in cc

pub not-true : (b : Bool) → not b ≡ true → b ≡ true → ⊥
not-true true is also = cc
not-true false is also = cc

pub not-false : (b : Bool) → not b ≡ false → b ≡ true
not-false true is = refl
not-false false is = cc
