-- A place costs what its unit costs.
use Rattle.std.proofs.Common.{◌≡◌, ℕ, ◌+◌, ◌<◌, List, length, get_or, Some, sym, ◌∙◌, ap}
use Rattle.cache_config.specs.Instructions.{costs_of}
use Rattle.cache_config.specs.declared.profile.Profile.{Profile}
use Rattle.elf_mips.specs.declared.image.Image.{Image}
use Rattle.flow_net.specs.Numbers.{item_at}
use Rattle.flow_net.specs.declared.net.Net.{Net}
use Rattle.flow_net.specs.declared.net.Place.{Place}
use Rattle.net_model.specs.Units.{content_at}
use Rattle.ipet_program.specs.Costs.{content_cost, content_full}
use Rattle.ipet_program.specs.Programs.{full_at, full_price, place_price, price_at}
use Rattle.ipet_program.proofs.Numbered.{item-read}

-- The place that a loop reads has the price of its number.
pub price-read : (profile : Profile) (image : Image) (net : Net) (places : List Place) (index : ℕ) (d : Place)
    (price : ℕ) → places ≡ net.places → index < length places →
    price ≡ content_cost (costs_of profile) (index + 1) (content_at image (get_or places index d).address) (get_or places index d).address →
    price ≡ place_price profile image net (index + 1)
price-read profile image net places index d price same within value =
    let there : item_at (index + 1) net.places ≡ Some (get_or places index d) =
    item-read net.places places index d (sym same) within in
    value ∙ ap (price_at profile image (index + 1)) (sym there)

-- The same with all stages.
pub full-read : (profile : Profile) (image : Image) (net : Net) (places : List Place) (index : ℕ) (d : Place)
    (price : ℕ) → places ≡ net.places → index < length places →
    price ≡ content_full (costs_of profile) (index + 1) (content_at image (get_or places index d).address) (get_or places index d).address →
    price ≡ full_price profile image net (index + 1)
full-read profile image net places index d price same within value =
    let there : item_at (index + 1) net.places ≡ Some (get_or places index d) =
    item-read net.places places index d (sym same) within in
    value ∙ ap (full_at profile image (index + 1)) (sym there)
