-- The search finds an item exactly where it is there.
use Rattle.std.proofs.Common.{◌∙◌}
use Rattle.domain_laws.proofs.SetPlaces.{found_in}
use Rattle.domain_laws.proofs.capped.has_item.Goals as goal

pub returns : goal.returns
returns c =
    c.is_ok.ensures.value ∙
    found_in c.args.items.now c.args.item c.binary_search.result c.requires c.binary_search.ensures.position
