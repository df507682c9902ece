-- The item is there, or goes into its gap.
use Rattle.std.specs.Prelude.{ℕ, List, Ok, Err}
use Rattle.std.specs.List.Sorted.{IsBinarySearchResult}
use Rattle.std.specs.Ordering.{nat_cmp}
use Rattle.std.proofs.Common.{◌∙◌, subst}
use Rattle.domain_laws.proofs.SetPlaces.{put_found, put_missed}
use Rattle.domain_laws.proofs.capped.put_item.Goals as goal

pub returns-in-Ok-clause-ok : goal.returns-in-Ok-clause-ok
returns-in-Ok-clause-ok c =
    put_found c.args.items.now.items c.args.item c.in-Ok.field-0 c.requires
    (subst (λ (xs : List ℕ). IsBinarySearchResult (λ y. nat_cmp y c.args.item) xs (Ok c.in-Ok.field-0))
    c.deref.ensures.value c.in-Ok.ensures.position)

pub returns-in_ok-insert-in-Err-clause-ok : goal.returns-in_ok-insert-in-Err-clause-ok
returns-in_ok-insert-in-Err-clause-ok c =
    c.in_ok-insert-in-Err.ensures.items ∙
    put_missed c.args.items.now.items c.args.item c.in-Err.place c.requires
    (subst (λ (xs : List ℕ). IsBinarySearchResult (λ y. nat_cmp y c.args.item) xs (Err c.in-Err.place))
    c.deref.ensures.value c.in-Err.ensures.position)
