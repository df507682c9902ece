-- The sorted records of targets are those of the image, and hold the targets of each address.
use Rattle.std.proofs.Common.{◌≡◌, ℕ, ◌==◌, Bool, true, false, List, [], ◌∷◌, map, filter, length, get_or, All, refl, sym, subst, arith}
use Rattle.std.specs.Prelude.{Contains, ◌&&◌}
use Rattle.std.specs.List.Sorted.{IsPermutation, IsNonDecreasingBy}
use Rattle.std.proofs.lemmas.Bool.{and_parts}
use Rattle.std.proofs.lemmas.Bool.Decides.{Decides-eqb}
use Rattle.std.proofs.lemmas.List.Sorted.{All-permutation, Contains-permutation}
use Rattle.std.proofs.lemmas.List.Elements.{All-contains, All-contains_itself, All-filter, filter_passes}
use Rattle.elf_mips.specs.declared.image.Image.{Image}
use Rattle.elf_mips.specs.declared.mark.Mark.{Mark}
use Rattle.net_model.specs.Targets.{is_none, names_target, targets_at}
use Rattle.code_units.specs.Targets.{AreTargets}
use Rattle.code_units.proofs.Lists.{Contains-map, filter_whole, preimage}
use Rattle.code_units.proofs.Ranging.{AreAt}

-- A record of a target.
pub record IsNamed (image : Image) (address target : ℕ) : Type 0 where
  pub mark : Mark
  pub listed : Contains image.marks mark
  pub kind : mark.kind ≡ 2
  pub place : mark.address ≡ address
  pub same : mark.x ≡ target

test_true : (address : ℕ) (mark : Mark) → mark.kind ≡ 2 → mark.address ≡ address → names_target address mark ≡ true
test_true address mark kind place =
    both (mark.kind == 2) (mark.address == address) ((Decides-eqb mark.kind 2).1 kind) ((Decides-eqb mark.address address).1 place)
  where
    both : (a b : Bool) → a ≡ true → b ≡ true → (a && b) ≡ true
    both true b e f = f
    both false b e f = cc

pub named_listed : (image : Image) (address target : ℕ) → IsNamed image address target → Contains (targets_at image address) target
named_listed image address target is =
    subst (Contains (targets_at image address)) is.same
    (Contains-map (λ (mark : Mark). mark.x) (filter (names_target address) image.marks) is.mark
    (filter_whole (names_target address) image.marks is.mark is.listed (test_true address is.mark is.kind is.place)))

pub listed_named : (image : Image) (address target : ℕ) → Contains (targets_at image address) target → IsNamed image address target
listed_named image address target listed =
    let kept = filter (names_target address) image.marks in
    let from = preimage (λ (mark : Mark). mark.x) kept target listed in
    let passes = and_parts (from.0.kind == 2) (from.0.address == address)
    (All-contains (λ (mark : Mark). names_target address mark ≡ true) kept from.0 (filter_passes (names_target address) image.marks) from.1) in
    record {
      mark = from.0;
      listed =
          All-contains (Contains image.marks) kept from.0
          (All-filter (names_target address) (Contains image.marks) image.marks (All-contains_itself image.marks)) from.1;
      kind = (Decides-eqb from.0.kind 2).0 passes.0;
      place = (Decides-eqb from.0.address address).0 passes.1;
      same = from.2;
    }

-- The sorted records of kind 2 are the records of targets.
pub AreTargets-sorted : (image : Image) (kept sorted : List Mark) → kept ≡ filter (λ (mark : Mark). mark.kind == 2) image.marks →
    IsPermutation kept sorted → IsNonDecreasingBy (λ (mark : Mark). mark.address) sorted → AreTargets image sorted
AreTargets-sorted image kept sorted e once rising =
    let test : Mark → Bool = λ mark. mark.kind == 2 in
    record {
      rising = rising;
      sound = All-permutation (λ (mark : Mark). Contains image.marks mark × (mark.kind ≡ 2)) kept sorted once
          (subst (All (λ (mark : Mark). Contains image.marks mark × (mark.kind ≡ 2))) (sym e)
          (λ k d h. (
            All-filter test (Contains image.marks) image.marks (All-contains_itself image.marks) k d h,
            (Decides-eqb (get_or (filter test image.marks) k d).kind 2).0 (filter_passes test image.marks k d h),
          )));
      whole = λ k d h two.
          Contains-permutation kept sorted (get_or image.marks k d) once
          (subst (λ (marks : List Mark). Contains marks (get_or image.marks k d)) (sym e)
          (filter_whole test image.marks (get_or image.marks k d)
          (All-contains_itself image.marks k d h) ((Decides-eqb (get_or image.marks k d).kind 2).1 two)));
    }

-- They name the targets of the address.
pub found_named : (image : Image) (targets found : List Mark) (address target : ℕ) → AreTargets image targets →
    AreAt (λ (mark : Mark). mark.address) targets address found → Contains (map (λ (mark : Mark). mark.x) found) target → Contains (targets_at image address) target
found_named image targets found address target are at h =
    let from = preimage (λ (mark : Mark). mark.x) found target h in
    let one = All-contains (λ (mark : Mark). Contains image.marks mark × (mark.kind ≡ 2)) targets from.0 are.sound
    (All-contains (Contains targets) found from.0 at.within from.1) in
    named_listed image address target (record {
      mark = from.0;
      listed = one.0;
      kind = one.1;
      place = All-contains (λ (mark : Mark). mark.address ≡ address) found from.0 at.sound from.1;
      same = from.2;
    })

pub named_found : (image : Image) (targets found : List Mark) (address target : ℕ) → AreTargets image targets →
    AreAt (λ (mark : Mark). mark.address) targets address found → Contains (targets_at image address) target → Contains (map (λ (mark : Mark). mark.x) found) target
named_found image targets found address target are at h =
    let is = listed_named image address target h in
    subst (Contains (map (λ (mark : Mark). mark.x) found)) is.same
    (Contains-map (λ (mark : Mark). mark.x) found is.mark
    (All-contains (λ (mark : Mark). mark.address ≡ address → Contains found mark) targets is.mark at.whole
    (All-contains (λ (mark : Mark). mark.kind ≡ 2 → Contains targets mark) image.marks is.mark are.whole is.listed is.kind)
    is.place))

-- None is found where none is named.
pub none_found : (image : Image) (targets found : List Mark) (address : ℕ) → AreTargets image targets →
    AreAt (λ (mark : Mark). mark.address) targets address found → (length found == 0) ≡ is_none (targets_at image address)
none_found image targets found address are at =
    by_case found (targets_at image address)
    (λ target h. found_named image targets found address target are at h)
    (λ target h. named_found image targets found address target are at h)
  where
    by_case : (marks : List Mark) (listed : List ℕ) →
        ((target : ℕ) → Contains (map (λ (mark : Mark). mark.x) marks) target → Contains listed target) →
        ((target : ℕ) → Contains listed target → Contains (map (λ (mark : Mark). mark.x) marks) target) →
        (length marks == 0) ≡ is_none listed
    by_case [] [] into back = refl
    by_case [] (target ∷ listed) into back =
        let (k, inside, e) = back target (0, omega arith, refl) in absurd (omega arith)
    by_case (mark ∷ marks) [] into back =
        let (k, inside, e) = into mark.x (0, omega arith, refl) in absurd (omega arith)
    by_case (mark ∷ marks) (target ∷ listed) into back = (λ (b : Bool) (d : (b ≡ true) → length (mark ∷ marks) ≡ 0). not_true b d) (length (mark ∷ marks) == 0) (Decides-eqb (length (mark ∷ marks)) 0).0
      where
        not_true : (b : Bool) → (b ≡ true → length (mark ∷ marks) ≡ 0) → b ≡ false
        not_true true d = let e = d refl in absurd (omega arith)
        not_true false d = refl
