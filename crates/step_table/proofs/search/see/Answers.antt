use Rattle.std.proofs.Common.{ℕ, ◌∷◌, [], List, Bool, set, true, false, Some, ap, ◌∙◌, subst, sym}
use Rattle.std.proofs.lemmas.Option.{slice_get-get_or}
use Rattle.step_table.specs.Search.{IsSeen, Sees}
use Rattle.step_table.proofs.Seen.{alone, Sees-new, Sees-none}
use Rattle.step_table.proofs.search.see.Goals as goal

pub returns-in_ok-push : goal.returns-in_ok-push
returns-in_ok-push c =
    subst (λ (later : List ℕ). Sees (c.args.position ∷ []) c.args.barred c.args.seen.now c.args.waiting.now.items (set c.args.seen.now c.args.position true) later)
    (sym c.in_ok-push.ensures.items)
    (Sees-new c.args.seen.now c.args.waiting.now.items c.args.position c.args.barred c.requires
    c.if-position-barred.false c.if-not-seen-position.true)

pub returns-then-position-barred : goal.returns-then-position-barred
returns-then-position-barred c =
    Sees-none (c.args.position ∷ []) c.args.barred c.args.seen.now c.args.waiting.now.items
    (λ x h free. absurd (free (sym (alone c.args.position x h) ∙ c.if-position-barred.true)))

pub returns-else-not-seen-position : goal.returns-else-not-seen-position
returns-else-not-seen-position c =
    Sees-none (c.args.position ∷ []) c.args.barred c.args.seen.now c.args.waiting.now.items
    (λ x h free. subst (IsSeen c.args.seen.now) (alone c.args.position x h)
    (slice_get-get_or c.args.seen.now c.args.position false c.requires ∙ ap (λ (b : Bool). Some b) c.if-not-seen-position.false))
