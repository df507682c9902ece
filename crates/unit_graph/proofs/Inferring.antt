-- Which units can return: the rules say the truth, and leave none out.
use Rattle.std.proofs.Common.{◌≡◌, ℕ, ◌+◌, true, List, [], ◌∷◌, ◌++◌, Some, None, sym, subst, inl, inr, ◌⊎◌}
use Rattle.std.specs.Prelude.{Contains}
use Rattle.std.specs.List.Sorted.{IsNonDecreasingBy, IsPermutation, IsStrictlySortedBy}
use Rattle.std.specs.Ordering.{nat_cmp}
use Rattle.std.proofs.lemmas.List.Elements.{All-contains, All-contains_itself, All-weaker, Contains-append_left, Contains-push, Contains-push_cases}
use Rattle.std.proofs.lemmas.List.Sorted.{All-permutation, Contains-permutation}
use Rattle.elf_mips.specs.declared.image.Image.{Image}
use Rattle.net_model.specs.declared.unit.Content.{Content}
use Rattle.net_model.specs.declared.unit.Content.TheVariants.{Unit as Stands, Fault}
use Rattle.net_model.specs.Functions.{CanReturn, GoesOn, back, first, onward, returned}
use Rattle.net_model.specs.Targets.{unit_at}
use Rattle.net_model.proofs.Functions.{CanReturn-before}
use Rattle.unit_graph.specs.Inference.{Adds, AreRules, Infers, IsAnyRule, IsCallRule, IsEnd, IsInferring, IsMetBy, IsOnwardRule, IsRuleOf, IsSound, returns_at}
use Rattle.unit_graph.specs.Rows.{AreRows, IsRow, calls_of_content, ways_of_content}
use Rattle.unit_graph.specs.Search.{Sees}
use Rattle.unit_graph.specs.declared.inference.Rule.{Rule}
use Rattle.unit_graph.specs.declared.rows.Row.{Row}
use Rattle.code_units.proofs.Ranging.{AreAt}
use Rattle.code_units.proofs.Lists.{in_none}

pub AreRules-sorted : (rows : List Row) (items sorted : List Rule) → Adds (IsAnyRule rows) [] items → IsPermutation items sorted →
    IsNonDecreasingBy (λ (rule : Rule). rule.given) sorted → AreRules rows sorted
AreRules-sorted rows items sorted adds once rising = record {
  rising = rising;
  sound = All-permutation (IsAnyRule rows) items sorted once
      (All-weaker (Contains items) (IsAnyRule rows) only items (All-contains_itself items));
  whole = λ rule is. Contains-permutation items sorted rule once (adds.there rule is);
}
  where
    only : (rule : Rule) → Contains items rule → IsAnyRule rows rule
    only rule h = elim (adds.only rule h) [ inl p ↦ absurd (in_none rule p) | inr q ↦ q ]

-- What stands at a row that goes on or calls is a unit.
pub goes_on : (image : Image) (address : ℕ) (content : Content) (later : ℕ) → content ≡ unit_at image address →
    Contains (ways_of_content image content address) later → GoesOn image address later
goes_on image address (Stands unit) later e h = onward address later unit (sym e) h
goes_on image address (Fault kind place) later e h = absurd (in_none later h)

pub goes_back : (image : Image) (address : ℕ) (content : Content) (callee : ℕ) → content ≡ unit_at image address →
    Contains (calls_of_content image content address) callee → CanReturn image callee → GoesOn image address (address + 8)
goes_back image address (Stands unit) callee e h can = back address callee unit (sym e) h can
goes_back image address (Fault kind place) callee e h can = absurd (in_none callee h)

-- A rule of a row says the truth.
sound_onward : (image : Image) (row : Row) (rule : Rule) → IsRow image row → IsOnwardRule row.address row.onward rule → IsSound image rule
sound_onward image row rule is h =
    subst (IsSound image) (sym h.same)
    (λ given other.
    CanReturn-before image row.address h.later
    (goes_on image row.address row.content h.later is.content
    (All-contains (Contains (ways_of_content image row.content row.address)) row.onward h.later is.onward.sound h.goes))
    given)

sound_call : (image : Image) (row : Row) (rule : Rule) → IsRow image row → IsCallRule row.address row.calls rule → IsSound image rule
sound_call image row rule is h = by_case h.same
  where
    comes : CanReturn image h.callee → CanReturn image (row.address + 8) → CanReturn image row.address
    comes callee behind =
        CanReturn-before image row.address (row.address + 8)
        (goes_back image row.address row.content h.callee is.content
        (All-contains (Contains (calls_of_content image row.content row.address)) row.calls h.callee is.calls.sound h.called)
        callee)
        behind

    by_case : (rule ≡ record { given = h.callee; other = Some (row.address + 8); then = row.address })
        ⊎ (rule ≡ record { given = row.address + 8; other = Some h.callee; then = row.address }) → IsSound image rule
    by_case (inl e) = subst (IsSound image) (sym e) (λ given other. comes given other)
    by_case (inr e) = subst (IsSound image) (sym e) (λ given other. comes other given)

pub rule_sound : (image : Image) (entry : ℕ) (rows : List Row) (rule : Rule) → AreRows image entry rows → IsAnyRule rows rule →
    IsSound image rule
rule_sound image entry rows rule are any = by_case any.is
  where
    is : IsRow image any.row
    is = All-contains (IsRow image) rows any.row are.each any.listed

    by_case : IsRuleOf any.row rule → IsSound image rule
    by_case (inl p) = sound_onward image any.row rule is p
    by_case (inr q) = sound_call image any.row rule is q

end_returns : (image : Image) (address : ℕ) (content : Content) → content ≡ unit_at image address → returns_at content ≡ true →
    CanReturn image address
end_returns image address (Stands unit) e leaves = returned address address unit (first address) (sym e) leaves
end_returns image address (Fault kind place) e leaves = cc

end_can : (image : Image) (entry : ℕ) (rows : List Row) (x : ℕ) → AreRows image entry rows → IsEnd rows x → CanReturn image x
end_can image entry rows x are end =
    subst (CanReturn image) end.same
    (end_returns image end.row.address end.row.content
    (All-contains (IsRow image) rows end.row are.each end.listed).content end.returns)

pub IsInferring-start : (rows : List Row) (rules : List Rule) (none nobody seen waiting : List ℕ) → none ≡ [] → nobody ≡ [] →
    IsStrictlySortedBy nat_cmp none → Sees (IsEnd rows) none nobody seen waiting → IsInferring rows rules seen waiting
IsInferring-start rows rules none nobody seen waiting empty idle sorted sees = record {
  sound = λ image entry are x h. end_can image entry rows x are (seen_end x h);
  ends = sees.there;
  known = λ x h. elim (sees.known x h) [ inl p ↦ absurd (nothing nobody x idle p) | inr q ↦ sees.there x q ];
  alone = λ x y r h. inl (waits x h);
  both = λ x z y r s h k. inl (inl (waits x h));
  low = λ x h. sees.low x (seen_end x h);
  rising = sees.rising sorted;
}
  where
    nothing : (xs : List ℕ) (x : ℕ) → xs ≡ [] → Contains xs x → ⊥
    nothing xs x e h = in_none x (subst (λ (ys : List ℕ). Contains ys x) e h)

    seen_end : (x : ℕ) → Contains seen x → IsEnd rows x
    seen_end x h = elim (sees.only x h) [ inl p ↦ absurd (nothing none x empty p) | inr q ↦ q ]

    waits : (x : ℕ) → Contains seen x → Contains waiting x
    waits x h = elim (sees.new x h) [ inl p ↦ absurd (nothing none x empty p) | inr q ↦ q ]

turn : (rows : List Row) (rules found : List Rule) (address : ℕ) (seen rest later_seen later_waiting : List ℕ) →
    AreRules rows rules → AreAt (λ (rule : Rule). rule.given) rules address found →
    IsInferring rows rules seen (rest ++ address ∷ []) → Infers found seen rest later_seen later_waiting →
    IsInferring rows rules later_seen later_waiting
turn rows rules found address seen rest later_seen later_waiting are at state infers = record {
  sound = λ image entry rows_are.
      infers.sound image
      (All-weaker (Contains rules) (IsSound image)
      (λ rule h. rule_sound image entry rows rule rows_are (All-contains (IsAnyRule rows) rules rule are.sound h)) found at.within)
      (All-weaker (λ (rule : Rule). rule.given ≡ address) (λ (rule : Rule). CanReturn image rule.given)
      (λ rule e. subst (CanReturn image) (sym e) (state.sound image entry rows_are address here)) found at.sound)
      (state.sound image entry rows_are);
  ends = λ x h. infers.grows.kept x (state.ends x h);
  known = λ x h. elim (infers.grows.known x h) [
    | inl p ↦ infers.grows.kept x (state.known x (Contains-append_left rest (address ∷ []) x p))
    | inr q ↦ q
  ];
  alone = λ x y r h. elim (infers.grows.new x h) [ inl p ↦ alone_by x y r (state.alone x y r p) | inr q ↦ inl q ];
  both = λ x z y r s h k. elim (infers.grows.new x h) [
    | inl p ↦ elim (infers.grows.new z k) [ inl q ↦ both_by x z y r s p q (state.both x z y r s p q) | inr w ↦ inl (inr w) ]
    | inr v ↦ inl (inl v)
  ];
  low = λ x h. elim (infers.grows.low x h) [ inl p ↦ state.low x p | inr q ↦ q ];
  rising = infers.grows.rising state.rising;
}
  where
    here : Contains seen address
    here = state.known address (Contains-push rest address)

    applied : (rule : Rule) → Contains rules rule → rule.given ≡ address → IsMetBy rule.other seen → Contains later_seen rule.then
    applied rule r e met =
        All-contains (λ (r : Rule). IsMetBy r.other seen → Contains later_seen r.then) found rule infers.there
        (All-contains (λ (r : Rule). r.given ≡ address → Contains found r) rules rule at.whole r e) met

    alone_by : (x y : ℕ) → Contains rules (record { given = x; other = None; then = y }) →
        Contains (rest ++ address ∷ []) x ⊎ Contains seen y → Contains later_waiting x ⊎ Contains later_seen y
    alone_by x y r (inr s) = inr (infers.grows.kept y s)
    alone_by x y r (inl w) = elim (Contains-push_cases rest address x w) [
      | inl p ↦ inl (infers.grows.still x p)
      | inr e ↦ inr (applied (record { given = x; other = None; then = y }) r (sym e) tt)
    ]

    both_by : (x z y : ℕ) → Contains rules (record { given = x; other = Some z; then = y }) →
        Contains rules (record { given = z; other = Some x; then = y }) → Contains seen x → Contains seen z →
        (Contains (rest ++ address ∷ []) x ⊎ Contains (rest ++ address ∷ []) z) ⊎ Contains seen y →
        (Contains later_waiting x ⊎ Contains later_waiting z) ⊎ Contains later_seen y
    both_by x z y r s h k (inr t) = inr (infers.grows.kept y t)
    both_by x z y r s h k (inl (inl w)) = elim (Contains-push_cases rest address x w) [
      | inl p ↦ inl (inl (infers.grows.still x p))
      | inr e ↦ inr (applied (record { given = x; other = Some z; then = y }) r (sym e) k)
    ]
    both_by x z y r s h k (inl (inr w)) = elim (Contains-push_cases rest address z w) [
      | inl p ↦ inl (inr (infers.grows.still z p))
      | inr e ↦ inr (applied (record { given = z; other = Some x; then = y }) s (sym e) h)
    ]

pub IsInferring-turn : (rows : List Row) (rules found : List Rule) (address : ℕ) (seen waiting rest later_seen later_waiting : List ℕ) →
    AreRules rows rules → AreAt (λ (rule : Rule). rule.given) rules address found → IsInferring rows rules seen waiting →
    waiting ≡ rest ++ address ∷ [] → Infers found seen rest later_seen later_waiting →
    IsInferring rows rules later_seen later_waiting
IsInferring-turn rows rules found address seen waiting rest later_seen later_waiting are at state e infers =
    turn rows rules found address seen rest later_seen later_waiting are at
    (subst (IsInferring rows rules seen) e state) infers
