-- A search among the rising addresses of the body.
use Rattle.std.proofs.Common.{ℕ, List, subst}
use Rattle.std.specs.List.Sorted.{IsBinarySearchResult}
use Rattle.std.specs.Ordering.{nat_cmp}
use Rattle.call_contexts.proofs.BodySearch.{search-held}
use Rattle.call_contexts.proofs.around.holds.Goals as goal

pub returns-clause-held : goal.returns-clause-held
returns-clause-held c =
    (search-held c.args.one.now.body c.args.address c.binary_search.result c.is_ok.result c.requires
    (subst (λ (body : List ℕ). IsBinarySearchResult (λ y. nat_cmp y c.args.address) body c.binary_search.result) c.as_slice.ensures
    c.binary_search.ensures.position) c.is_ok.ensures.value).0

pub returns-clause-free : goal.returns-clause-free
returns-clause-free c =
    (search-held c.args.one.now.body c.args.address c.binary_search.result c.is_ok.result c.requires
    (subst (λ (body : List ℕ). IsBinarySearchResult (λ y. nat_cmp y c.args.address) body c.binary_search.result) c.as_slice.ensures
    c.binary_search.ensures.position) c.is_ok.ensures.value).1
