-- The search in depth: it puts positions on the trail, looks at their steps, and leaves them.
use Rattle.std.proofs.Common.{◌≡◌, ℕ, ◌+◌, ◌<◌, ◌≤◌, Bool, true, false, not, cond, List, [], ◌∷◌, ◌++◌, length, map, get_or, set, replicate, zero, suc, Some, refl, sym, subst, ap, ◌∙◌, arith, length-append, inl, inr, ◌⊎◌}
use Rattle.std.specs.Prelude.{Contains, slice_get}
use Rattle.std.proofs.Math.ListN.{length-set, length-replicate}
use Rattle.std.proofs.lemmas.Bool.{cases_eq}
use Rattle.std.proofs.lemmas.List.{length-map, same_from_push}
use Rattle.std.proofs.lemmas.List.Sums.{sum_by-set}
use Rattle.std.proofs.lemmas.Option.{none-some, same_Some, slice_get-get_or, slice_get_within}
use Rattle.std.proofs.lemmas.List.Elements.{Contains-append_left, Contains-push, Contains-push_cases}
use Rattle.step_table.specs.Numbers.{number_of}
use Rattle.step_table.specs.Rings.{AreLeft, IsDepth, IsLeft, IsOrder, IsTrail, KeepsSeen, Opens, effort}
use Rattle.step_table.specs.Search.{IsSeen, unseen}
use Rattle.step_table.specs.Table.{IsMet, IsStep, IsWithin}
use Rattle.step_table.proofs.Meeting.{a_step}
use Rattle.step_table.proofs.Places.{number_other, number_same}
use Rattle.step_table.proofs.Positions.{contains_at, place_of}
use Rattle.step_table.proofs.Reversing.{step_within}
use Rattle.step_table.proofs.Seen.{in_none, itself, seen_cases, seen_kept, slice_get-replicate, slice_get-set_same}

not_empty : {X : Type 0} (xs : List X) (x : X) → [] ≡ xs ++ x ∷ [] → ⊥
not_empty xs x e = omega (arith, ap length e, length-append xs (x ∷ []))

-- The last position of an order, and of a trail.
pub order_last : (table : List (List ℕ)) (order before : List ℕ) (last : ℕ) → AreLeft table order →
    order ≡ before ++ last ∷ [] → AreLeft table before × IsLeft table before last
order_last table _ before last AreLeft.begins e = absurd (not_empty before last e)
order_last table _ before last (AreLeft.more front end left is) e =
    let (xs, x) = same_from_push front before end last e in (
      subst (AreLeft table) xs left,
      subst (IsLeft table before) x (subst (λ (b : List ℕ). IsLeft table b end) xs is),
    )

pub record IsTrailEnd (table : List (List ℕ)) (before : List ℕ) (last : ℕ) : Type 0 where
  pub on : IsTrail table before
  pub new : Contains before last → ⊥
  pub met : (x : ℕ) → Contains before x → IsMet table (x ∷ []) (length table) last

pub trail_last : (table : List (List ℕ)) (trail before : List ℕ) (last : ℕ) → IsTrail table trail →
    trail ≡ before ++ last ∷ [] → IsTrailEnd table before last
trail_last table _ before last IsTrail.begins e = absurd (not_empty before last e)
trail_last table _ before last (IsTrail.more front end on new met) e =
    let (xs, x) = same_from_push front before end last e in
    subst (IsTrailEnd table before) x
    (subst (λ (b : List ℕ). IsTrailEnd table b end) xs (record { on = on; new = new; met = met }))

-- A position that wasn't seen before is put on the trail.
pub depth_open : (table : List (List ℕ)) (order : List ℕ) (seen : List Bool) (ahead trail : List ℕ) (next : ℕ) →
    IsDepth table order seen ahead trail → next < length table → (IsSeen seen next → ⊥) →
    ((x : ℕ) → Contains trail x → IsMet table (x ∷ []) (length table) next) →
    IsDepth table order (set seen next true) ahead (trail ++ next ∷ [])
depth_open table order seen ahead trail next depth inside new met = record {
  left = depth.left;
  on = IsTrail.more trail next depth.on (λ c. new (depth.known next (inr c))) met;
  sized = length-set seen next true ∙ depth.sized;
  counted = depth.counted;
  bound = depth.bound;
  looked = λ x i to steps there at less. kept to (depth.looked x i to steps there at less);
  ended = depth.ended;
  opened = λ x h. elim (seen_cases seen next x h) as (λ _. Contains order x ⊎ Contains (trail ++ next ∷ []) x) [
    | inl old ↦ elim (depth.opened x old) as (λ _. Contains order x ⊎ Contains (trail ++ next ∷ []) x) [
      | inl c ↦ inl c
      | inr c ↦ inr (Contains-append_left trail (next ∷ []) x c)
    ]
    | inr e ↦ inr (subst (Contains (trail ++ next ∷ [])) e (Contains-push trail next))
  ];
  known = λ x h. elim h as (λ _. IsSeen (set seen next true) x) [
    | inl c ↦ kept x (depth.known x (inl c))
    | inr c ↦ elim (Contains-push_cases trail next x c) as (λ _. IsSeen (set seen next true) x) [
      | inl old ↦ kept x (depth.known x (inr old))
      | inr e ↦ subst (IsSeen (set seen next true)) e (slice_get-set_same seen next true within)
    ]
  ];
  apart = λ x c d. elim (Contains-push_cases trail next x d) as (λ _. ⊥) [
    | inl old ↦ depth.apart x c old
    | inr e ↦ new (depth.known next (inl (subst (Contains order) (sym e) c)))
  ];
}
  where
    within : next < length seen
    within = omega (arith, depth.sized, inside)

    kept : (x : ℕ) → IsSeen seen x → IsSeen (set seen next true) x
    kept x h = seen_kept seen next x within h

-- One more step of the last position of the trail was looked at.
pub depth_look : (table : List (List ℕ)) (order : List ℕ) (seen : List Bool) (ahead trail : List ℕ) (last now next : ℕ) (steps : List ℕ) →
    IsDepth table order seen ahead trail → Contains trail last → last < length table →
    slice_get table last ≡ Some steps → now + 1 ≡ number_of ahead last → slice_get steps now ≡ Some next →
    IsSeen seen next → IsDepth table order seen (set ahead last now) trail
depth_look table order seen ahead trail last now next steps depth among inside there count at found = record {
  left = depth.left;
  on = depth.on;
  sized = depth.sized;
  counted = length-set ahead last now ∙ depth.counted;
  bound = λ x list here. elim (cases_eq x last) as (λ _. number_of (set ahead last now) x ≤ length list) [
    | inl e ↦ omega (arith, at_last x e, depth.bound x list here, ap (λ (at : ℕ). number_of ahead at) e, count)
    | inr differ ↦ omega (arith, other x differ, depth.bound x list here)
  ];
  looked = λ x i to list here place less. elim (cases_eq x last) as (λ _. IsSeen seen to) [
    | inl e ↦ last_looked x i to list here place (omega (arith, at_last x e, less)) e
    | inr differ ↦ depth.looked x i to list here place (omega (arith, other x differ, less))
  ];
  ended = λ x c. elim (cases_eq x last) as (λ _. number_of (set ahead last now) x ≡ 0) [
    | inl e ↦ absurd (depth.apart x c (subst (Contains trail) (sym e) among))
    | inr differ ↦ other x differ ∙ depth.ended x c
  ];
  opened = depth.opened;
  known = depth.known;
  apart = depth.apart;
}
  where
    at_last : (x : ℕ) → x ≡ last → number_of (set ahead last now) x ≡ now
    at_last x e =
        ap (λ (at : ℕ). number_of (set ahead last now) at) e
        ∙ number_same ahead last now (omega (arith, depth.counted, inside))

    other : (x : ℕ) → (x ≡ last → ⊥) → number_of (set ahead last now) x ≡ number_of ahead x
    other x differ = number_other ahead last now x differ

    same_steps : (x : ℕ) (list : List ℕ) → slice_get table x ≡ Some list → x ≡ last → list ≡ steps
    same_steps x list here e =
        same_Some list steps (sym here ∙ subst (λ (at : ℕ). slice_get table at ≡ Some steps) (sym e) there)

    last_looked : (x i to : ℕ) (list : List ℕ) → slice_get table x ≡ Some list → slice_get list i ≡ Some to →
        now ≤ i → x ≡ last → IsSeen seen to
    last_looked x i to list here place less e = elim (cases_eq i now) as (λ _. IsSeen seen to) [
      | inl same ↦ subst (IsSeen seen)
          (same_Some next to (sym at
          ∙ subst (λ (k : ℕ). slice_get steps k ≡ Some to) same
          (subst (λ (ys : List ℕ). slice_get ys i ≡ Some to) (same_steps x list here e) place)))
          found
      | inr differ ↦ depth.looked x i to list here place
          (omega (arith, ap (λ (at : ℕ). number_of ahead at) e, count, less, differ))
    ]

-- The last position of the trail is left, when all of its steps were looked at.
pub depth_leave : (table : List (List ℕ)) (order : List ℕ) (seen : List Bool) (ahead rest : List ℕ) (last : ℕ) →
    IsDepth table order seen ahead (rest ++ last ∷ []) → number_of ahead last ≡ 0 →
    IsDepth table (order ++ last ∷ []) seen ahead rest
depth_leave table order seen ahead rest last depth done = record {
  left = AreLeft.more order last depth.left (record {
    there = inside;
    new = λ c. depth.apart last c (Contains-push rest last);
    goes = goes;
  });
  on = end.on;
  sized = depth.sized;
  counted = depth.counted;
  bound = depth.bound;
  looked = depth.looked;
  ended = ended;
  opened = λ x h. elim (depth.opened x h) as (λ _. Contains (order ++ last ∷ []) x ⊎ Contains rest x) [
    | inl c ↦ inl (Contains-append_left order (last ∷ []) x c)
    | inr c ↦ elim (Contains-push_cases rest last x c) as (λ _. Contains (order ++ last ∷ []) x ⊎ Contains rest x) [
      | inl old ↦ inr old
      | inr e ↦ inl (subst (Contains (order ++ last ∷ [])) e (Contains-push order last))
    ]
  ];
  known = λ x h. elim h as (λ _. IsSeen seen x) [
    | inl c ↦ elim (Contains-push_cases order last x c) as (λ _. IsSeen seen x) [
      | inl old ↦ depth.known x (inl old)
      | inr e ↦ subst (IsSeen seen) e last_seen
    ]
    | inr c ↦ depth.known x (inr (Contains-append_left rest (last ∷ []) x c))
  ];
  apart = λ x c d. elim (Contains-push_cases order last x c) as (λ _. ⊥) [
    | inl old ↦ depth.apart x old (Contains-append_left rest (last ∷ []) x d)
    | inr e ↦ end.new (subst (Contains rest) (sym e) d)
  ];
}
  where
    end : IsTrailEnd table rest last
    end = trail_last table (rest ++ last ∷ []) rest last depth.on refl

    last_seen : IsSeen seen last
    last_seen = depth.known last (inr (Contains-push rest last))

    inside : last < length table
    inside = omega (arith, depth.sized, slice_get_within seen last true last_seen)

    ended : (x : ℕ) → Contains (order ++ last ∷ []) x → number_of ahead x ≡ 0
    ended x c = elim (Contains-push_cases order last x c) as (λ _. number_of ahead x ≡ 0) [
      | inl old ↦ depth.ended x old
      | inr e ↦ subst (λ (at : ℕ). number_of ahead at ≡ 0) e done
    ]

    seen_to : (from to : ℕ) → Contains (order ++ last ∷ []) from → IsStep table from to → IsSeen seen to
    seen_to from to c step =
        let (i, at) = place_of step.steps to step.goes in
        depth.looked from i to step.steps step.there at (omega (arith, ended from c))

    goes : (from to : ℕ) → Contains (order ++ last ∷ []) from → IsStep table from to →
        Contains (order ++ last ∷ []) to ⊎ IsMet table (to ∷ []) (length table) last
    goes from to c step = elim (depth.opened to (seen_to from to c step))
        as (λ _. Contains (order ++ last ∷ []) to ⊎ IsMet table (to ∷ []) (length table) last) [
          | inl old ↦ inl (Contains-append_left order (last ∷ []) to old)
          | inr on ↦ elim (Contains-push_cases rest last to on)
              as (λ _. Contains (order ++ last ∷ []) to ⊎ IsMet table (to ∷ []) (length table) last) [
                | inl below ↦ inr (end.met to below)
                | inr e ↦ inl (subst (Contains (order ++ last ∷ [])) e (Contains-push order last))
              ]
        ]

-- The search begins with nothing seen.
pub depth_start : (table : List (List ℕ)) (order : List ℕ) (seen : List Bool) (ahead : List ℕ) →
    order ≡ [] → seen ≡ replicate (length table) false → ahead ≡ map length table → IsDepth table order seen ahead []
depth_start table order seen ahead none fresh counts = record {
  left = subst (AreLeft table) (sym none) AreLeft.begins;
  on = IsTrail.begins;
  sized = ap length fresh ∙ length-replicate (length table) false;
  counted = ap length counts ∙ length-map table length;
  bound = λ x steps there. omega (arith, count x steps there);
  looked = λ x i to steps there at less. absurd (omega (arith, count x steps there, slice_get_within steps i to at, less));
  ended = λ x c. absurd (nothing x c);
  opened = λ x h. absurd (unseen_yet x h);
  known = λ x h. elim h as (λ _. IsSeen seen x) [
    | inl c ↦ absurd (nothing x c)
    | inr c ↦ absurd (in_none x c)
  ];
  apart = λ x c d. nothing x c;
}
  where
    nothing : (x : ℕ) → Contains order x → ⊥
    nothing x c = in_none x (subst (λ (xs : List ℕ). Contains xs x) none c)

    unseen_yet : (x : ℕ) → IsSeen seen x → ⊥
    unseen_yet x h =
        let same : false ≡ true =
        slice_get-replicate (length table) x false true (subst (λ (s : List Bool). IsSeen s x) fresh h) in cc

    counted_at : (lists : List (List ℕ)) (x : ℕ) (steps : List ℕ) → slice_get lists x ≡ Some steps →
        number_of (map length lists) x ≡ length steps
    counted_at [] x steps h = absurd (none-some steps h)
    counted_at (list ∷ lists) zero steps h = ap length (same_Some list steps h)
    counted_at (list ∷ lists) (suc x) steps h = counted_at lists x steps h

    count : (x : ℕ) (steps : List ℕ) → slice_get table x ≡ Some steps → number_of ahead x ≡ length steps
    count x steps h = ap (λ (xs : List ℕ). number_of xs x) counts ∙ counted_at table x steps h

-- What is to be done falls.
pub effort_less : (seen : List Bool) (ahead trail : List ℕ) (last now : ℕ) → last < length ahead →
    now + 1 ≡ number_of ahead last →
    effort seen (set ahead last now) (trail ++ last ∷ []) ≤ effort seen ahead trail
effort_less seen ahead trail last now inside count =
    omega (arith, sum_by-set (λ (n : ℕ). n) ahead last now 0 inside, count, length-append trail (last ∷ []))

pub effort_open : (seen : List Bool) (ahead trail : List ℕ) (next : ℕ) → next < length seen → (IsSeen seen next → ⊥) →
    effort (set seen next true) ahead (trail ++ next ∷ []) + 1 ≤ effort seen ahead trail
effort_open seen ahead trail next inside new =
    omega (arith, fewer (get_or seen next false) refl, length-append trail (next ∷ []))
  where
    fewer : (b : Bool) → get_or seen next false ≡ b → unseen (set seen next true) + 1 ≡ unseen seen
    fewer true e = absurd (new (slice_get-get_or seen next false inside ∙ ap (λ (c : Bool). Some c) e))
    fewer false e =
        omega (
          arith,
          subst (λ (b : Bool). unseen (set seen next true) + cond (not b) 1 0 ≡ unseen seen + cond (not true) 1 0) e
              (sum_by-set (λ (b : Bool). cond (not b) 1 0) seen next true false inside),
        )

-- A position that was opened is seen, as is all that was seen before.
pub opens_kept : (position : ℕ) (seen : List Bool) (trail : List ℕ) (later : List Bool) (later_trail : List ℕ) →
    position < length seen → Opens position seen trail later later_trail → KeepsSeen seen later
opens_kept position seen trail later later_trail inside (inl (there, same, on)) x h =
    subst (λ (s : List Bool). IsSeen s x) (sym same) h
opens_kept position seen trail later later_trail inside (inr (new, more, on)) x h =
    subst (λ (s : List Bool). IsSeen s x) (sym more) (seen_kept seen position x inside h)

pub opens_seen : (position : ℕ) (seen : List Bool) (trail : List ℕ) (later : List Bool) (later_trail : List ℕ) →
    position < length seen → Opens position seen trail later later_trail → IsSeen later position
opens_seen position seen trail later later_trail inside (inl (there, same, on)) =
    subst (λ (s : List Bool). IsSeen s position) (sym same) there
opens_seen position seen trail later later_trail inside (inr (new, more, on)) =
    subst (λ (s : List Bool). IsSeen s position) (sym more) (slice_get-set_same seen position true inside)

both_to : (table : List (List ℕ)) (order : List ℕ) (seen later : List Bool) (ahead trail later_trail : List ℕ) →
    later ≡ seen → later_trail ≡ trail → IsDepth table order seen ahead trail → IsDepth table order later ahead later_trail
both_to table order seen later ahead trail later_trail same on depth =
    subst (λ (s : List Bool). IsDepth table order s ahead later_trail) (sym same)
    (subst (IsDepth table order seen ahead) (sym on) depth)

-- The search goes on from a start.
pub opens_start : (table : List (List ℕ)) (order : List ℕ) (seen : List Bool) (ahead trail : List ℕ) (start : ℕ) (later : List Bool) (later_trail : List ℕ) →
    IsDepth table order seen ahead [] → start < length table → trail ≡ [] → Opens start seen trail later later_trail →
    IsDepth table order later ahead later_trail
opens_start table order seen ahead trail start later later_trail depth inside empty opens =
    by_case (subst (λ (t : List ℕ). Opens start seen t later later_trail) empty opens)
  where
    by_case : Opens start seen [] later later_trail → IsDepth table order later ahead later_trail
    by_case (inl (there, same, on)) = both_to table order seen later ahead [] later_trail same on depth
    by_case (inr (new, more, on)) =
        both_to table order (set seen start true) later ahead (start ∷ []) later_trail more on
        (depth_open table order seen ahead [] start depth inside new (λ x c. absurd (in_none x c)))

-- One step was looked at, and where it goes was opened.
pub opens_next : (table : List (List ℕ)) (order : List ℕ) (seen : List Bool) (ahead rest : List ℕ) (last now next : ℕ) (steps : List ℕ)
    (later : List Bool) (later_trail : List ℕ) → IsWithin table → last < length table → slice_get table last ≡ Some steps →
    now + 1 ≡ number_of ahead last → slice_get steps now ≡ Some next →
    Opens next seen (rest ++ last ∷ []) later later_trail → IsDepth table order seen ahead (rest ++ last ∷ []) →
    IsDepth table order later (set ahead last now) later_trail
opens_next table order seen ahead rest last now next steps later later_trail within inside there count at opens depth = by_case opens
  where
    trail : List ℕ
    trail = rest ++ last ∷ []

    step : IsStep table last next
    step = a_step table last next steps there (contains_at steps now next at)

    far : next < length table
    far = step_within table within last next step

    end : IsTrailEnd table rest last
    end = trail_last table trail rest last depth.on refl

    on_step : (x : ℕ) → IsMet table (x ∷ []) (length table) last → IsMet table (x ∷ []) (length table) next
    on_step x met = IsMet.goes last next met step (λ e. omega (arith, e, far))

    met : (x : ℕ) → Contains trail x → IsMet table (x ∷ []) (length table) next
    met x c = elim (Contains-push_cases rest last x c) as (λ _. IsMet table (x ∷ []) (length table) next) [
      | inl old ↦ on_step x (end.met x old)
      | inr e ↦ on_step x (subst (IsMet table (x ∷ []) (length table)) (sym e)
          (IsMet.begins x (itself x) (λ same. omega (arith, same, e, inside))))
    ]

    by_case : Opens next seen trail later later_trail → IsDepth table order later (set ahead last now) later_trail
    by_case (inl (found, same, on)) =
        both_to table order seen later (set ahead last now) trail later_trail same on
        (depth_look table order seen ahead trail last now next steps depth (Contains-push rest last) inside there count at found)
    by_case (inr (new, more, on)) =
        both_to table order (set seen next true) later (set ahead last now) (trail ++ next ∷ []) later_trail more on
        (depth_look table order (set seen next true) ahead (trail ++ next ∷ []) last now next steps
        (depth_open table order seen ahead trail next depth far new met)
        (Contains-append_left trail (next ∷ []) last (Contains-push rest last)) inside there count at
        (slice_get-set_same seen next true (omega (arith, depth.sized, far))))

pub opens_less : (seen : List Bool) (ahead rest : List ℕ) (last now next : ℕ) (later : List Bool) (later_trail : List ℕ) →
    last < length ahead → next < length seen → now + 1 ≡ number_of ahead last →
    Opens next seen (rest ++ last ∷ []) later later_trail →
    effort later (set ahead last now) later_trail ≤ effort seen ahead rest
opens_less seen ahead rest last now next later later_trail inside far count (inl (found, same, on)) =
    subst (λ (s : List Bool). effort s (set ahead last now) later_trail ≤ effort seen ahead rest) (sym same)
    (subst (λ (t : List ℕ). effort seen (set ahead last now) t ≤ effort seen ahead rest) (sym on)
    (effort_less seen ahead rest last now inside count))
opens_less seen ahead rest last now next later later_trail inside far count (inr (new, more, on)) =
    subst (λ (s : List Bool). effort s (set ahead last now) later_trail ≤ effort seen ahead rest) (sym more)
    (subst (λ (t : List ℕ). effort (set seen next true) (set ahead last now) t ≤ effort seen ahead rest) (sym on)
    (omega (arith, first, second)))
  where
    first : effort (set seen next true) (set ahead last now) ((rest ++ last ∷ []) ++ next ∷ []) + 1 ≤ effort seen (set ahead last now) (rest ++ last ∷ [])
    first = effort_open seen (set ahead last now) (rest ++ last ∷ []) next far new

    second : effort seen (set ahead last now) (rest ++ last ∷ []) ≤ effort seen ahead rest
    second = effort_less seen ahead rest last now inside count

-- The last position of the trail is one of the table.
pub depth_within : (table : List (List ℕ)) (order : List ℕ) (seen : List Bool) (ahead trail rest : List ℕ) (last : ℕ) →
    IsDepth table order seen ahead trail → trail ≡ rest ++ last ∷ [] → last < length ahead
depth_within table order seen ahead trail rest last depth e =
    omega (
      arith,
      depth.sized,
      depth.counted,
      slice_get_within seen last true
          (depth.known last (inr (subst (λ (xs : List ℕ). Contains xs last) (sym e) (Contains-push rest last)))),
    )

-- With nothing on the trail, all that was seen was left.
pub depth_end : (table : List (List ℕ)) (order : List ℕ) (seen : List Bool) (ahead : List ℕ) →
    IsDepth table order seen ahead [] → ((x : ℕ) → x < length table → IsSeen seen x) → IsOrder table order
depth_end table order seen ahead depth all = record {
  left = depth.left;
  whole = λ x inside. elim (depth.opened x (all x inside)) as (λ _. Contains order x) [
    | inl c ↦ c
    | inr c ↦ absurd (in_none x c)
  ];
}
