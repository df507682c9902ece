-- The spots of places, by their numbers.
use Rattle.std.proofs.Common.{◌≡◌, ℕ, zero, suc, ◌+◌, ◌-◌, ◌<◌, ◌≤◌, List, [], ◌∷◌, ◌++◌, length, take, get_or, Some, refl, ap, sym, subst, ◌∙◌, arith}
use Rattle.std.proofs.lemmas.List.{take_all, take_more}
use Rattle.std.proofs.lemmas.Option.{none-some, same_Some}
use Rattle.elf_mips.specs.declared.image.Image.{Image}
use Rattle.flow_net.specs.Numbers.{item_at}
use Rattle.flow_net.specs.declared.net.Place.{Place}
use Rattle.image_run.specs.declared.spots.Spot.{Spot}
use Rattle.image_run.specs.Road.{AreSpots, IsSpotAt}

pub spots-length : (image : Image) (places : List Place) (spots : List Spot) → AreSpots image places spots → length spots ≡ length places
spots-length image [] [] zip = refl
spots-length image [] (s ∷ spots) zip = absurd zip
spots-length image (p ∷ places) [] zip = absurd zip
spots-length image (p ∷ places) (s ∷ spots) zip = let rest = spots-length image places spots zip.1 in omega (arith, rest)

spot-in : (image : Image) (places : List Place) (spots : List Spot) → AreSpots image places spots → (position : ℕ) (place : Place) (d : Spot) →
    item_at (suc position) places ≡ Some place → IsSpotAt image place.address (get_or spots position d)
spot-in image [] spots zip position place d there = absurd (none-some place there)
spot-in image (p ∷ places) [] zip position place d there = absurd zip
spot-in image (p ∷ places) (s ∷ spots) zip zero place d there =
    subst (λ (q : Place). IsSpotAt image q.address s) (same_Some p place there) zip.0
spot-in image (p ∷ places) (s ∷ spots) zip (suc position) place d there = spot-in image places spots zip.1 position place d there

pub spot-read : (image : Image) (places : List Place) (spots : List Spot) → AreSpots image places spots → (number : ℕ) (place : Place) (spot : Spot) →
    item_at number places ≡ Some place → spot ≡ get_or spots (number - 1) spot → IsSpotAt image place.address spot
spot-read image places spots zip zero place spot there same = absurd (none-some place there)
spot-read image places spots zip (suc position) place spot there same =
    let here : suc position - 1 ≡ position = omega arith in
    subst (IsSpotAt image place.address) (sym (same ∙ ap (λ (n : ℕ). get_or spots n spot) here))
    (spot-in image places spots zip position place spot there)

-- One spot more.
spots-push : (image : Image) (places : List Place) (spots : List Spot) (place : Place) (spot : Spot) → AreSpots image places spots →
    IsSpotAt image place.address spot → AreSpots image (places ++ place ∷ []) (spots ++ spot ∷ [])
spots-push image [] [] place spot zip is = (is, tt)
spots-push image [] (s ∷ spots) place spot zip is = absurd zip
spots-push image (p ∷ places) [] place spot zip is = absurd zip
spots-push image (p ∷ places) (s ∷ spots) place spot zip is = (zip.0, spots-push image places spots place spot zip.1 is)

pub spots-next : (image : Image) (places items : List Place) (index : ℕ) (spots : List Spot) (d : Place) (spot : Spot) → items ≡ places →
    index < length items → AreSpots image (take index places) spots → IsSpotAt image (get_or items index d).address spot →
    AreSpots image (take (index + 1) places) (spots ++ spot ∷ [])
spots-next image places items index spots d spot same inside zip is =
    subst (λ (list : List Place). AreSpots image (take (index + 1) list) (spots ++ spot ∷ [])) same
    (subst (λ (front : List Place). AreSpots image front (spots ++ spot ∷ [])) (sym (take_more items index d inside))
    (spots-push image (take index items) spots (get_or items index d) spot
    (subst (λ (list : List Place). AreSpots image (take index list) spots) (sym same) zip) is))

pub spots-all : (image : Image) (places : List Place) (index : ℕ) (spots : List Spot) → length places ≤ index →
    AreSpots image (take index places) spots → AreSpots image places spots
spots-all image places index spots past zip =
    subst (λ (front : List Place). AreSpots image front spots) (take_all index places past) zip
