-- The positions are taken in the order against that in which they were left, and marked.
use Rattle.std.proofs.Common.{◌≡◌, ℕ, ◌<◌, ◌↔◌, Bool, true, false, List, [], ◌∷◌, ◌++◌, length, set, replicate, Some, refl, sym, subst, ap, ◌∙◌, arith, inl, inr, ◌⊎◌}
use Rattle.std.specs.Prelude.{Contains, slice_get}
use Rattle.std.specs.Bool.{OnFalse, OnTrue}
use Rattle.std.proofs.Math.ListN.{length-set}
use Rattle.std.proofs.lemmas.Bool.{cases_eq}
use Rattle.std.proofs.lemmas.Option.{same_Some, slice_get_within}
use Rattle.std.proofs.lemmas.List.Elements.{Contains-append_left, Contains-append_right, Contains-push, Contains-push_cases}
use Rattle.step_table.specs.Cycles.{IsCyclic}
use Rattle.step_table.specs.Rings.{AreLeft, AreMarks, HasSeen, IsLeft, IsMarkedRight, IsOrder}
use Rattle.step_table.specs.Search.{IsSeen, SeesMet}
use Rattle.step_table.specs.Table.{IsMet, IsReverse, IsStep}
use Rattle.step_table.proofs.Meeting.{a_step, met_through, met_wider, SeesMet-nothing}
use Rattle.step_table.proofs.Leaving.{order_last}
use Rattle.step_table.proofs.Seen.{alone, in_none, itself, slice_get-set_other, slice_get-set_same}

-- What is met from one of the starts is met from them.
pub met_one : (table : List (List ℕ)) (starts : List ℕ) (barred one x : ℕ) → IsMet table starts barred one →
    IsMet table (one ∷ []) barred x → IsMet table starts barred x
met_one table starts barred one x first met =
    met_through table (one ∷ []) starts barred x
    (λ s c free. subst (IsMet table starts barred) (alone one s c) first) met

-- One of the starts, and what is met from it against the steps.
pub record IsTurned (table : List (List ℕ)) (starts : List ℕ) (barred x : ℕ) : Type 0 where
  pub start : ℕ
  pub among : Contains starts start
  pub met : IsMet table (x ∷ []) barred start

pub turned : (table reverse : List (List ℕ)) (starts : List ℕ) (barred x : ℕ) →
    ((from to : ℕ) → IsStep table from to → IsStep reverse to from) →
    IsMet table starts barred x → IsTurned reverse starts barred x
turned table reverse starts barred _ back (IsMet.begins start among free) =
    record { start = start; among = among; met = IsMet.begins start (itself start) free }
turned table reverse starts barred _ back (IsMet.goes from to met step free) =
    let earlier = turned table reverse starts barred from back met in
    record {
      start = earlier.start;
      among = earlier.among;
      met = met_one reverse (to ∷ []) barred from earlier.start
          (IsMet.goes to from (IsMet.begins to (itself to) free) (back from to step) (unbarred from met)) earlier.met;
    }
  where
    unbarred : (y : ℕ) → IsMet table starts barred y → y ≡ barred → ⊥
    unbarred _ (IsMet.begins start among free) = free
    unbarred _ (IsMet.goes from to met step free) = free

-- What is met from a position's steps was left before it, or the position lies on a cycle.
pub before_or_cyclic : (table : List (List ℕ)) (before : List ℕ) (last : ℕ) (steps : List ℕ) (x : ℕ) →
    IsLeft table before last → slice_get table last ≡ Some steps → IsMet table steps (length table) x →
    Contains before x ⊎ IsCyclic table last
before_or_cyclic table before last steps x left there met = by_met x met
  where
    cyclic : IsMet table steps (length table) last → IsCyclic table last
    cyclic around = record { steps = steps; there = there; met = around }

    close : (y : ℕ) → IsMet table steps (length table) y →
        Contains (before ++ last ∷ []) y ⊎ IsMet table (y ∷ []) (length table) last →
        Contains before y ⊎ IsCyclic table last
    close y along (inl c) = elim (Contains-push_cases before last y c) as (λ _. Contains before y ⊎ IsCyclic table last) [
      | inl old ↦ inl old
      | inr e ↦ inr (cyclic (subst (IsMet table steps (length table)) (sym e) along))
    ]
    close y along (inr back) = inr (cyclic (met_one table steps (length table) y last along back))

    by_met : (y : ℕ) → IsMet table steps (length table) y → Contains before y ⊎ IsCyclic table last
    by_met _ (IsMet.begins start among free) =
        close start (IsMet.begins start among free)
        (left.goes last start (Contains-push before last) (a_step table last start steps there among))
    by_met _ (IsMet.goes from to met step free) = elim (by_met from met) as (λ _. Contains before to ⊎ IsCyclic table last) [
      | inl c ↦ close to (IsMet.goes from to met step free)
          (left.goes from to (Contains-append_left before (last ∷ []) from c) step)
      | inr around ↦ inr around
    ]

-- How the marking stands: what is still to come, and the positions that have their marks.
pub record IsMarking (table reverse : List (List ℕ)) (order : List ℕ) (seen marks : List Bool) : Type 0 where
  pub starts : List ℕ
  pub left : AreLeft table order
  pub sees : SeesMet reverse starts (length reverse) seen
  pub whole : (x : ℕ) → x < length table → Contains order x ⊎ Contains starts x
  pub apart : (x : ℕ) → Contains order x → Contains starts x → ⊥
  pub count : length marks ≡ length table
  pub marked : (x : ℕ) → Contains starts x → IsMarkedRight table marks x

-- The next position to be marked is one of the table.
pub next_within : (table reverse : List (List ℕ)) (order rest : List ℕ) (seen marks : List Bool) (next : ℕ) →
    IsMarking table reverse order seen marks → order ≡ rest ++ next ∷ [] → next < length table
next_within table reverse order rest seen marks next marking e =
    (order_last table order rest next marking.left e).1.there

-- A position lies on a cycle just where one of its steps goes to what is seen.
pub ring_exact : (table reverse : List (List ℕ)) (rest starts : List ℕ) (next : ℕ) (seen : List Bool) (steps : List ℕ) →
    IsReverse table reverse → IsLeft table rest next → ((x : ℕ) → Contains rest x → Contains starts x → ⊥) →
    SeesMet reverse (starts ++ next ∷ []) (length reverse) seen → slice_get table next ≡ Some steps →
    HasSeen seen steps ↔ IsCyclic table next
ring_exact table reverse rest starts next seen steps is left apart sees there = (sound, whole)
  where
    onward : (x : ℕ) → IsMet reverse (starts ++ next ∷ []) (length reverse) x → IsTurned table (starts ++ next ∷ []) (length table) x
    onward x met =
        turned reverse table (starts ++ next ∷ []) (length table) x is.only
        (subst (λ (n : ℕ). IsMet reverse (starts ++ next ∷ []) n x) is.count met)

    late : (x : ℕ) → Contains (starts ++ next ∷ []) x → Contains rest x → ⊥
    late x c old = elim (Contains-push_cases starts next x c) as (λ _. ⊥) [
      | inl before ↦ apart x old before
      | inr e ↦ left.new (subst (Contains rest) (sym e) old)
    ]

    inside : (one : ℕ) → Contains steps one → IsSeen seen one → one ≡ length table → ⊥
    inside one among h e = omega (arith, e, is.count, sees.count, slice_get_within seen one true h)

    sound_by : (one : ℕ) → Contains steps one → IsSeen seen one → IsTurned table (starts ++ next ∷ []) (length table) one →
        IsCyclic table next
    sound_by one among h t =
        elim (before_or_cyclic table rest next steps t.start left there
        (met_one table steps (length table) one t.start (IsMet.begins one among (inside one among h)) t.met))
        as (λ _. IsCyclic table next) [
          | inl old ↦ absurd (late t.start t.among old)
          | inr around ↦ around
        ]

    sound : HasSeen seen steps → IsCyclic table next
    sound has = sound_by has.one has.among has.there (onward has.one (sees.sound has.one has.there))

    whole_by : IsTurned reverse steps (length table) next → HasSeen seen steps
    whole_by t = record {
      one = t.start;
      among = t.among;
      there = sees.whole t.start
          (met_wider reverse (next ∷ []) (starts ++ next ∷ []) (length reverse) t.start
          (λ s c. Contains-append_right starts (next ∷ []) s c)
          (subst (λ (n : ℕ). IsMet reverse (next ∷ []) n t.start) (sym is.count) t.met));
    }

    whole : IsCyclic table next → HasSeen seen steps
    whole cyclic =
        whole_by (turned table reverse steps (length table) next is.back
        (subst (λ (xs : List ℕ). IsMet table xs (length table) next)
        (same_Some cyclic.steps steps (sym cyclic.there ∙ there)) cyclic.met))

-- One more position is marked.
pub marking_more : (table reverse : List (List ℕ)) (order rest : List ℕ) (next : ℕ) (seen later marks : List Bool) (mark : Bool) (steps : List ℕ) →
    IsReverse table reverse → IsMarking table reverse order seen marks → order ≡ rest ++ next ∷ [] →
    ((starts : List ℕ) → SeesMet reverse starts (length reverse) seen → SeesMet reverse (starts ++ next ∷ []) (length reverse) later) →
    slice_get table next ≡ Some steps → OnTrue mark (HasSeen later steps) →
    OnFalse mark ((x : ℕ) → Contains steps x → IsSeen later x → ⊥) →
    IsMarking table reverse rest later (set marks next mark)
marking_more table reverse order rest next seen later marks mark steps is marking e more there some none = record {
  starts = marking.starts ++ next ∷ [];
  left = end.0;
  sees = sees;
  whole = λ x inside. elim (marking.whole x inside)
      as (λ _. Contains rest x ⊎ Contains (marking.starts ++ next ∷ []) x) [
        | inl c ↦ elim (Contains-push_cases rest next x (subst (λ (xs : List ℕ). Contains xs x) e c))
            as (λ _. Contains rest x ⊎ Contains (marking.starts ++ next ∷ []) x) [
              | inl old ↦ inl old
              | inr same ↦ inr (subst (Contains (marking.starts ++ next ∷ [])) same (Contains-push marking.starts next))
            ]
        | inr c ↦ inr (Contains-append_left marking.starts (next ∷ []) x c)
      ];
  apart = λ x c d. elim (Contains-push_cases marking.starts next x d) as (λ _. ⊥) [
    | inl old ↦ apart x c old
    | inr same ↦ end.1.new (subst (Contains rest) (sym same) c)
  ];
  count = length-set marks next mark ∙ marking.count;
  marked = λ x c. elim (cases_eq x next) as (λ _. IsMarkedRight table (set marks next mark) x) [
    | inl same ↦ subst (IsMarkedRight table (set marks next mark)) (sym same) at_next
    | inr differ ↦ elim (Contains-push_cases marking.starts next x c) as (λ _. IsMarkedRight table (set marks next mark) x) [
      | inl old ↦ other x differ (marking.marked x old)
      | inr same ↦ absurd (differ (sym same))
    ]
  ];
}
  where
    end : AreLeft table rest × IsLeft table rest next
    end = order_last table order rest next marking.left e

    sees : SeesMet reverse (marking.starts ++ next ∷ []) (length reverse) later
    sees = more marking.starts marking.sees

    apart : (x : ℕ) → Contains rest x → Contains marking.starts x → ⊥
    apart x c d =
        marking.apart x (subst (λ (xs : List ℕ). Contains xs x) (sym e) (Contains-append_left rest (next ∷ []) x c)) d

    exact : HasSeen later steps ↔ IsCyclic table next
    exact = ring_exact table reverse rest marking.starts next later steps is end.1 apart sees there

    there_now : slice_get (set marks next mark) next ≡ Some mark
    there_now = slice_get-set_same marks next mark (omega (arith, marking.count, end.1.there))

    mark_right : (b : Bool) → OnTrue b (HasSeen later steps) → OnFalse b ((x : ℕ) → Contains steps x → IsSeen later x → ⊥) →
        (b ≡ true) ↔ IsCyclic table next
    mark_right true yes_is no_is = (λ _. exact.0 yes_is, λ _. refl)
    mark_right false yes_is no_is = (
      λ h. (let apart : false ≡ true = h in cc),
      λ around. (let has = exact.1 around in absurd (no_is has.one has.among has.there)),
    )

    at_next : IsMarkedRight table (set marks next mark) next
    at_next = (
      λ h. (mark_right mark some none).0 (same_Some mark true (sym there_now ∙ h)),
      λ around. there_now ∙ ap (λ (b : Bool). Some b) ((mark_right mark some none).1 around),
    )

    other : (x : ℕ) → (x ≡ next → ⊥) → IsMarkedRight table marks x → IsMarkedRight table (set marks next mark) x
    other x differ right = (
      λ h. right.0 (sym (slice_get-set_other marks next x mark (λ same. differ (sym same))) ∙ h),
      λ around. slice_get-set_other marks next x mark (λ same. differ (sym same)) ∙ right.1 around,
    )

pub marking_start : (table reverse : List (List ℕ)) (order : List ℕ) (seen marks : List Bool) → IsReverse table reverse →
    IsOrder table order → seen ≡ replicate (length table) false → length marks ≡ length table →
    IsMarking table reverse order seen marks
marking_start table reverse order seen marks is all fresh count = record {
  starts = [];
  left = all.left;
  sees = SeesMet-nothing reverse (length reverse) (length table) seen fresh (sym is.count);
  whole = λ x inside. inl (all.whole x inside);
  apart = λ x c d. in_none x d;
  count = count;
  marked = λ x c. absurd (in_none x c);
}

pub marking_end : (table reverse : List (List ℕ)) (order : List ℕ) (seen marks : List Bool) →
    IsMarking table reverse order seen marks → order ≡ [] → AreMarks table marks
marking_end table reverse order seen marks marking empty = record {
  count = marking.count;
  marked = λ x inside. elim (marking.whole x inside) as (λ _. IsMarkedRight table marks x) [
    | inl c ↦ absurd (in_none x (subst (λ (xs : List ℕ). Contains xs x) empty c))
    | inr c ↦ marking.marked x c
  ];
}
