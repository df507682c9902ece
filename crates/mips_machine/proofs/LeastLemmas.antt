-- The least address of two searches is the least of both.
use Rattle.std.proofs.Common.{◌≡◌, ℕ, ◌<◌, ◌≤◌, ◌⊎◌, inl, inr, zero, suc, List, [], ◌∷◌, ◌++◌, min, All, Contains, Option, Some, None, get_or, refl, sym, subst, arith}
use Rattle.std.proofs.lemmas.Bool.{cases_lt}
use Rattle.std.proofs.lemmas.List.Elements.{All-contains, Contains-get_or, Contains-append_cases, Contains-append_left, Contains-append_right}
use Rattle.cache_config.specs.declared.profile.Profile.{Profile}
use Rattle.elf_mips.specs.declared.segment.Segment.{Segment}
use Rattle.mips_decode.specs.State.{Region}
use Rattle.std.specs.Prelude.{IfNone, IfSome}
use Rattle.elf_mips.specs.declared.image.Image.{Image}
use Rattle.mips_machine.specs.Image.{AreApart, HasNoClash, IsOff, region_of}
use Rattle.mips_machine.specs.Clash.{FindsLeast, IsClash, IsClashOf, IsLeast, IsShared, IsSharedBy, given_regions, lesser_of}

both : (P Q R : ℕ → Type 0) (a b : ℕ) → ((n : ℕ) → R n → P n ⊎ Q n) → ((n : ℕ) → P n → R n) → ((n : ℕ) → Q n → R n) →
    IsLeast P a → IsLeast Q b → IsLeast R (min a b)
both P Q R a b splits left right one other = record {
  says = by_order (cases_lt b a);
  least = λ lesser less says. by_case lesser less (splits lesser says);
} where
  by_order : ((b < a) ⊎ (a ≤ b)) → R (min a b)
  by_order (inl less) = subst R (omega arith) (right b other.says)
  by_order (inr most) = subst R (omega arith) (left a one.says)

  by_case : (lesser : ℕ) → lesser < min a b → P lesser ⊎ Q lesser → ⊥
  by_case lesser less (inl p) = one.least lesser (omega arith) p
  by_case lesser less (inr q) = other.least lesser (omega arith) q

alone : (P Q R : ℕ → Type 0) (a : ℕ) → ((n : ℕ) → R n → P n ⊎ Q n) → ((n : ℕ) → P n → R n) →
    IsLeast P a → ((n : ℕ) → Q n → ⊥) → IsLeast R a
alone P Q R a splits left one none = record {
  says = left a one.says;
  least = λ lesser less says. by_case lesser less (splits lesser says);
} where
  by_case : (lesser : ℕ) → lesser < a → P lesser ⊎ Q lesser → ⊥
  by_case lesser less (inl p) = one.least lesser less p
  by_case lesser less (inr q) = none lesser q

other_first : (P Q : Type 0) → P ⊎ Q → Q ⊎ P
other_first P Q (inl p) = inr p
other_first P Q (inr q) = inl q

neither : (P Q : Type 0) → (P → ⊥) → (Q → ⊥) → P ⊎ Q → ⊥
neither P Q no_p no_q (inl p) = no_p p
neither P Q no_p no_q (inr q) = no_q q

pub FindsLeast-or : (P Q R : ℕ → Type 0) (x y : Option ℕ) → ((n : ℕ) → R n → P n ⊎ Q n) → ((n : ℕ) → P n → R n) → ((n : ℕ) → Q n → R n) →
    FindsLeast P x → FindsLeast Q y → FindsLeast R (lesser_of x y)
FindsLeast-or P Q R None None splits left right one other = λ address says.
    neither (P address) (Q address) (one address) (other address) (splits address says)
FindsLeast-or P Q R None (Some b) splits left right one other =
    alone Q P R b (λ n says. other_first (P n) (Q n) (splits n says)) right other one
FindsLeast-or P Q R (Some a) None splits left right one other = alone P Q R a splits left one other
FindsLeast-or P Q R (Some a) (Some b) splits left right one other = both P Q R a b splits left right one other

-- What is found in a list with one more item.
pub Contains-one : {T : Type 0} (item other : T) → Contains (item ∷ []) other → item ≡ other
Contains-one item other (zero, less, same) = same
Contains-one item other (suc k, less, same) = absurd (omega (arith, less))

pub Contains-here : {T : Type 0} (item : T) → Contains (item ∷ []) item
Contains-here item = (0, Prim.omega arith, refl)

-- A search that finds nothing where there is nothing.
pub FindsLeast-same : (P Q : ℕ → Type 0) (x : Option ℕ) → ((n : ℕ) → P n → Q n) → ((n : ℕ) → Q n → P n) → FindsLeast P x → FindsLeast Q x
FindsLeast-same P Q None forward back one = λ address says. one address (back address says)
FindsLeast-same P Q (Some a) forward back one =
    record { says = forward a one.says; least = λ lesser less says. one.least lesser less (back lesser says) }

-- One more region.
pub shared-push : (region : Region) (others : List Region) (other : Region) (least found : Option ℕ) →
    FindsLeast (IsSharedBy region others) least → FindsLeast (IsShared region other) found →
    FindsLeast (IsSharedBy region (others ++ other ∷ [])) (lesser_of least found)
shared-push region others other least found before one =
    FindsLeast-or (IsSharedBy region others) (IsShared region other) (IsSharedBy region (others ++ other ∷ [])) least found
    (λ n says. splits n says (Contains-append_cases others (other ∷ []) says.other says.listed))
    (λ n says. record {
      other = says.other;
      listed = Contains-append_left others (other ∷ []) says.other says.listed;
      shared = says.shared;
    })
    (λ n says. record {
      other = other;
      listed = Contains-append_right others (other ∷ []) other (Contains-here other);
      shared = says;
    })
    before one where
      splits : (n : ℕ) (says : IsSharedBy region (others ++ other ∷ []) n) → Contains others says.other ⊎ Contains (other ∷ []) says.other →
          IsSharedBy region others n ⊎ IsShared region other n
      splits n says (inl listed) = inl (record { other = says.other; listed = listed; shared = says.shared })
      splits n says (inr here) =
          inr (subst (λ (r : Region). IsShared region r n) (sym (Contains-one other says.other here)) says.shared)

-- One more segment.
pub clash-push : (profile : Profile) (segments : List Segment) (segment : Segment) (least found : Option ℕ) →
    FindsLeast (IsClashOf segments profile) least → FindsLeast (IsSharedBy (region_of segment) (given_regions profile)) found →
    FindsLeast (IsClashOf (segments ++ segment ∷ []) profile) (lesser_of least found)
clash-push profile segments segment least found before one =
    FindsLeast-or (IsClashOf segments profile) (IsSharedBy (region_of segment) (given_regions profile))
    (IsClashOf (segments ++ segment ∷ []) profile) least found
    (λ n says. splits n says (Contains-append_cases segments (segment ∷ []) says.segment says.loaded))
    (λ n says. record {
      segment = says.segment;
      loaded = Contains-append_left segments (segment ∷ []) says.segment says.loaded;
      shared = says.shared;
    })
    (λ n says. record {
      segment = segment;
      loaded = Contains-append_right segments (segment ∷ []) segment (Contains-here segment);
      shared = says;
    })
    before one where
      splits : (n : ℕ) (says : IsClashOf (segments ++ segment ∷ []) profile n) → Contains segments says.segment ⊎ Contains (segment ∷ []) says.segment →
          IsClashOf segments profile n ⊎ IsSharedBy (region_of segment) (given_regions profile) n
      splits n says (inl loaded) = inl (record { segment = says.segment; loaded = loaded; shared = says.shared })
      splits n says (inr here) =
          inr (subst (λ (s : Segment). IsSharedBy (region_of s) (given_regions profile) n) (sym (Contains-one segment says.segment here)) says.shared)

-- A search without an answer found nothing.
pub finds-none : (Says : ℕ → Type 0) (found : Option ℕ) → ((address : ℕ) → found ≡ Some address → ⊥) → FindsLeast Says found →
    (address : ℕ) → Says address → ⊥
finds-none Says None other none = none
finds-none Says (Some address) other least = absurd (other address refl)

-- Where no address is found, nothing clashes.
pub found-apart : (image : Image) (profile : Profile) (found : Option ℕ) → FindsLeast (IsClash image profile) found →
    IfNone found (HasNoClash image profile)
found-apart image profile None none = λ k d h j e g address first second. none address (record {
  segment = get_or image.segments k d;
  loaded = Contains-get_or image.segments k d h;
  shared = record {
    other = get_or (given_regions profile) j e;
    listed = Contains-get_or (given_regions profile) j e g;
    shared = record {
      first = record { from = first.0; below = first.1 };
      second = record { from = second.0; below = second.1 };
    };
  };
})
found-apart image profile (Some address) least = tt

-- Where one is found, something does.
pub found-clash : (image : Image) (profile : Profile) (found : Option ℕ) → FindsLeast (IsClash image profile) found →
    IfSome found (λ address. HasNoClash image profile → ⊥)
found-clash image profile None none = tt
found-clash image profile (Some address) least = λ off.
    let clash = least.says in
    let region : Region = region_of clash.segment in
    let apart : All (AreApart region) (given_regions profile) =
    All-contains (IsOff profile) image.segments clash.segment off clash.loaded in
    All-contains (AreApart region) (given_regions profile) clash.shared.other apart clash.shared.listed address
    (clash.shared.shared.first.from, clash.shared.shared.first.below)
    (clash.shared.shared.second.from, clash.shared.shared.second.below)
