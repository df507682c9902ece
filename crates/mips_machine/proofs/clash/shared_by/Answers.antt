-- Each region adds its own least address.
use Rattle.std.proofs.Common.{◌≡◌, ◌+◌, List, [], ◌∷◌, ◌++◌, take, ap, sym, subst, ◌∙◌}
use Rattle.std.specs.Prelude.{map}
use Rattle.std.proofs.lemmas.List.{map-append, take_more, take_all}
use Rattle.cache_config.specs.declared.profile.Region.{Region as Area}
use Rattle.mips_decode.specs.State.{Region}
use Rattle.mips_machine.specs.Image.{area_of, region_of, stack_of}
use Rattle.mips_machine.specs.Clash.{FindsLeast, IsSharedBy, lesser_of}
use Rattle.mips_machine.proofs.LeastLemmas.{shared-push}
use Rattle.mips_machine.proofs.clash.shared_by.Goals as goal

pub loop-area-preserved : goal.loop-area-preserved
loop-area-preserved c =
    let areas = c.as_slice-area-items.result.now in
    let i = c.loop-area.area-index in
    let stack : Region = stack_of c.args.profile.now in
    let more : take (i + 1) areas ≡ take i areas ++ c.area-item.result ∷ [] =
    take_more areas i c.area-item.result c.loop-area-test.true
    ∙ ap (λ (a : Area). take i areas ++ a ∷ []) (sym c.area-item.is) in
    let listed : stack ∷ map area_of (take (i + 1) areas) ≡ (stack ∷ map area_of (take i areas)) ++ area_of c.area-item.result ∷ [] =
    ap (λ (xs : List Area). stack ∷ map area_of xs) more
    ∙ ap (λ (xs : List Region). stack ∷ xs) (map-append area_of (take i areas) (c.area-item.result ∷ [])) in
    rw c.lesser_of-least.ensures
    (subst (λ (xs : List Region). FindsLeast (IsSharedBy (region_of c.args.segment.now) xs) (lesser_of c.loop-area.least c.shared_with.result)) (sym listed)
    (shared-push (region_of c.args.segment.now) (stack ∷ map area_of (take i areas)) (area_of c.area-item.result) c.loop-area.least c.shared_with.result
    c.loop-area.invariant c.shared_with.ensures))

pub returns : goal.returns
returns c =
    let whole = take_all c.loop-area.area-index c.as_slice-area-items.result.now c.loop-area-test.false in
    let areas = whole ∙ c.as_slice-area-items.ensures in
    subst (λ (xs : List Area). FindsLeast (IsSharedBy (region_of c.args.segment.now) (stack_of c.args.profile.now ∷ map area_of xs)) c.loop-area.least)
    areas c.loop-area.invariant
