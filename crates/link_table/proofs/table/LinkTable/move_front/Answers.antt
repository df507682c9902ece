-- An item at the front already, or taken out and put there.
use Rattle.std.proofs.Common.{◌≡◌, ◌∷◌, ℕ, true, eqb, Option, Some, None, slice_get, ap, sym, ◌∙◌}
use Rattle.std.specs.Option.{option_eq}
use Rattle.std.proofs.lemmas.Bool.{true≢false, eqb-true}
use Rattle.link_table.specs.Items.{without}
use Rattle.link_table.specs.Lists.{items_of, with_list}
use Rattle.link_table.proofs.Calls.{first-moved, moved}
use Rattle.link_table.proofs.table.LinkTable.move_front.Goals as goal

-- An option that equals the item holds it.
holds : (o : Option ℕ) (item : ℕ) → true ≡ option_eq eqb o (Some item) → Some item ≡ o
holds None item e = absurd (true≢false e)
holds (Some x) item e = ap (λ (n : ℕ). Some n) (sym (eqb-true x item (sym e)))

pub returns-in_default : goal.returns-in_default
returns-in_default c list there = absurd (c.in_default.ensures.free list there)

pub returns-then-eq : goal.returns-then-eq
returns-then-eq c list there =
    let first : Some c.args.item ≡ slice_get (items_of c.args.self.now c.in-Some.list) 0 =
    holds c.first.result c.args.item c.if-eq.ensures ∙ c.first.ensures.first in
    first-moved c.args.self.now list c.args.item
    (first ∙ ap (λ n. slice_get (items_of c.args.self.now n) 0) (sym (c.in-Some.ensures.only list there)))

pub returns : goal.returns
returns c list there =
    let same : list ≡ c.in-Some.list = c.in-Some.ensures.only list there in
    let gone : c.unlink.new.self ≡ with_list c.args.self.now list (without (items_of c.args.self.now list) c.args.item) =
    c.unlink.ensures.rest list there in
    c.push_front.ensures ∙ ap (λ n. with_list c.unlink.new.self n (c.args.item ∷ items_of c.unlink.new.self n)) (sym same) ∙
    ap (λ t. with_list t list (c.args.item ∷ items_of t list)) gone ∙ moved c.args.self.now list c.args.item there _
