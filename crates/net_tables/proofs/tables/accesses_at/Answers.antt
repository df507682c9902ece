-- The numbers are those of places.
use Rattle.std.specs.Prelude.{ℕ, ◌≤◌, List, All, length}
use Rattle.std.proofs.Common.{◌∙◌, ap, subst, sym}
use Rattle.std.proofs.lemmas.List.Elements.{All-map}
use Rattle.flow_net.specs.declared.net.Access.{Access}
use Rattle.flow_net.specs.declared.net.Place.{Place}
use Rattle.net_tables.proofs.tables.accesses_at.Goals as goal

pub number_lists-requires-clause-keys : goal.number_lists-requires-clause-keys
number_lists-requires-clause-keys c =
    subst (λ (n : ℕ). All (λ (key : ℕ). key ≤ n) c.deref.result.now)
    (sym (ap (λ (places : List Place). length places) c.as_slice-2.ensures))
    (subst (λ (xs : List ℕ). All (λ (key : ℕ). key ≤ length c.args.net.now.places) xs)
    (sym (c.deref.ensures.value ∙ c.in_ok-places.ensures))
    (All-map (λ (key : ℕ). key ≤ length c.args.net.now.places) (λ (access : Access). access.place) c.as_slice.result.now
    (subst (λ (xs : List Access). All (λ (access : Access). access.place ≤ length c.args.net.now.places) xs)
    (sym c.as_slice.ensures) (λ k d inside. (c.requires.places k d inside).within))))
