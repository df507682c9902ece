-- One way more.
use Rattle.std.proofs.Common.{Bor, HoldsAt, MatchOption, Option, Some, None, List, ℕ, ◌<◌, ◌≤◌, length, option_copied, ◌≡◌, ◌++◌, ◌∷◌, [], ◌∙◌, ap, sym, slice_get, append_assoc, map, zero-add}
use Rattle.std.specs.List.{range_with_len}
use Rattle.std.proofs.lemmas.Option.{slice_get-get_or, slice_get_past}
use Rattle.std.proofs.lemmas.List.FromFn.{map-range_with_len_more}
use Rattle.lru_concrete.proofs.slots.push_ways.Goals as goal

-- What stands at an index, by the reference to it.
copied-get : (xs : List ℕ) (i : ℕ) (o : Option (Bor ℕ)) →
    MatchOption o (length xs ≤ i) (λ x. (i < length xs) × HoldsAt (λ y. x.now ≡ y) xs i) → option_copied o ≡ slice_get xs i
copied-get xs i None h = sym (slice_get_past xs i h)
copied-get xs i (Some x) h = sym (slice_get-get_or xs i 0 h.0 ∙ ap (λ (n : ℕ). Some n) (sym (h.1 0)))

pub loop-way-preserved : goal.loop-way-preserved
loop-way-preserved c =
    let more = map-range_with_len_more (slice_get c.args.blocks.now) 0 c.loop-way.way c.loop-way.way (zero-add c.loop-way.way) in
    let value : c.copied.result ≡ slice_get c.args.blocks.now c.loop-way.way =
    c.copied.ensures ∙ copied-get c.args.blocks.now c.loop-way.way c.get.result c.get.ensures.lookup.3 in
    c.in_ok-push.ensures.items ∙
    ap (λ l. l ++ c.copied.result ∷ []) c.loop-way.invariant ∙
    append_assoc c.args.slots.now.items (map (slice_get c.args.blocks.now) (range_with_len 0 c.loop-way.way)) (c.copied.result ∷ []) ∙
    ap (λ l. c.args.slots.now.items ++ l)
    (ap (λ o. map (slice_get c.args.blocks.now) (range_with_len 0 c.loop-way.way) ++ o ∷ []) value ∙ sym more)
