-- Calls between functions, by their positions.
use Rattle.std.proofs.Common.{◌≡◌, ℕ, ◌<◌, ◌≤◌, List, [], ◌∷◌, ◌++◌, length, zero, suc, Some, None, Result, Ok, Err, refl, sym, subst, ap, ◌∙◌, arith, inl, inr, ◌⊎◌, get_or}
use Rattle.std.specs.Prelude.{AllPairs, Contains, IfOk, slice_get}
use Rattle.std.proofs.lemmas.Bool.{cases_eq, cases_lt}
use Rattle.std.proofs.lemmas.List.{get_or_default}
use Rattle.std.proofs.lemmas.Option.{none-some, same_Some, slice_get-get_or, slice_get_within}
use Rattle.elf_mips.specs.declared.image.Image.{Image}
use Rattle.net_model.specs.Functions.{Calls, IsCallWay, IsFunction, IsRecursive, further}
use Rattle.step_table.specs.Cycles.{IsCyclic, IsFirstCyclic}
use Rattle.step_table.specs.Table.{AreStepsTo, IsMet, IsStep, IsWithin}
use Rattle.step_table.specs.Table.IsMet.{begins, goes}
use Rattle.step_table.proofs.Positions.{contains_at, place_of, same_place}
use Rattle.unit_graph.specs.Flow.{Leads}
use Rattle.unit_graph.specs.Graphs.{AreJust}
use Rattle.unit_graph.specs.Inference.{AreReturning}
use Rattle.unit_graph.specs.Program.{CalledFrom, CalledIn}
use Rattle.unit_graph.specs.Recursion.{AreCalls, IsCallTable, IsFirstRecursive}
use Rattle.unit_graph.specs.Rows.{AreRows}
use Rattle.unit_graph.specs.Search.{AreLed}
use Rattle.unit_graph.specs.declared.flow.Reach.TheVariants.{Function}
use Rattle.unit_graph.specs.declared.rows.Row.{Row}
use Rattle.unit_graph.proofs.Flowing.{called_calls, calls_called, function_led}
use Rattle.unit_graph.proofs.Sets.{AreJust-same}

-- What the units to which a function leads call.
pub IfOk-called : {V E : Type 0} (items : V → List ℕ) (rows : List Row) (returning : List ℕ) (function : ℕ) (led code : List ℕ) (result : Result V E) →
    AreLed (Leads rows returning Function) function led → code ≡ led →
    IfOk result (λ (v : V). AreJust (CalledFrom rows code) (items v)) →
    IfOk result (λ (v : V). AreJust (CalledIn rows returning function) (items v))
IfOk-called items rows returning function led code (Ok v) are e just =
    AreJust-same (CalledFrom rows code) (CalledIn rows returning function) (items v)
    (λ x h. record { address = h.address; led = are.sound h.address (subst (λ (xs : List ℕ). Contains xs h.address) e h.among); calls = h.calls })
    (λ x h. record { address = h.address; among = subst (λ (xs : List ℕ). Contains xs h.address) (sym e) (are.whole h.address h.led); calls = h.calls })
    just
IfOk-called items rows returning function led code (Err error) are e just = tt

-- One row of the table more.
pub are_calls : (rows : List Row) (returning all calls given : List ℕ) (function : ℕ) (steps : List ℕ) →
    AreJust (CalledIn rows returning function) calls → given ≡ calls → AreStepsTo all given steps → AreCalls rows returning all function steps
are_calls rows returning all calls given function steps just e are = λ to. (
  λ h. let named = (are to).0 h in (named.0, named.1, just.sound named.0 (subst (λ (xs : List ℕ). Contains xs named.0) e named.2)),
  λ h. (are to).1 (h.0, h.1, subst (λ (xs : List ℕ). Contains xs h.0) (sym e) (just.whole h.0 h.2)),
)

-- The row of a function, and the function of a row.
row_at_place : (rows : List Row) (returning all functions : List ℕ) (table : List (List ℕ)) → IsCallTable rows returning all functions table →
    (k f : ℕ) → slice_get functions k ≡ Some f → (steps : List ℕ) × (slice_get table k ≡ Some steps) × AreCalls rows returning all f steps
row_at_place rows returning all [] [] zip k f h = absurd (none-some f h)
row_at_place rows returning all [] (steps ∷ table) zip k f h = absurd zip
row_at_place rows returning all (g ∷ functions) [] zip k f h = absurd zip
row_at_place rows returning all (g ∷ functions) (steps ∷ table) zip zero f h =
    (steps, refl, subst (λ (x : ℕ). AreCalls rows returning all x steps) (same_Some g f h) zip.0)
row_at_place rows returning all (g ∷ functions) (steps ∷ table) zip (suc k) f h =
    row_at_place rows returning all functions table zip.1 k f h

function_at_place : (rows : List Row) (returning all functions : List ℕ) (table : List (List ℕ)) → IsCallTable rows returning all functions table →
    (k : ℕ) (steps : List ℕ) → slice_get table k ≡ Some steps → (f : ℕ) × (slice_get functions k ≡ Some f) × AreCalls rows returning all f steps
function_at_place rows returning all [] [] zip k steps h = absurd (none-some steps h)
function_at_place rows returning all [] (other ∷ table) zip k steps h = absurd zip
function_at_place rows returning all (g ∷ functions) [] zip k steps h = absurd zip
function_at_place rows returning all (g ∷ functions) (other ∷ table) zip zero steps h =
    (g, refl, subst (λ (xs : List ℕ). AreCalls rows returning all g xs) (same_Some other steps h) zip.0)
function_at_place rows returning all (g ∷ functions) (other ∷ table) zip (suc k) steps h =
    function_at_place rows returning all functions table zip.1 k steps h

table_length : (rows : List Row) (returning all functions : List ℕ) (table : List (List ℕ)) → IsCallTable rows returning all functions table →
    length table ≡ length functions
table_length rows returning all [] [] zip = refl
table_length rows returning all [] (other ∷ table) zip = absurd zip
table_length rows returning all (g ∷ functions) [] zip = absurd zip
table_length rows returning all (g ∷ functions) (other ∷ table) zip = omega (arith, table_length rows returning all functions table zip.1)

-- Each position is one of the table.
pub calls_within : (rows : List Row) (returning all : List ℕ) (table : List (List ℕ)) → IsCallTable rows returning all all table → IsWithin table
calls_within rows returning all table zip k d h i e l =
    let steps = get_or table k d in
    let row = function_at_place rows returning all all table zip k steps (slice_get-get_or table k d h) in
    let called = (row.2 (get_or steps i e)).0 (i, l, get_or_default steps i (get_or steps i e) e l) in
    let n = table_length rows returning all all table zip in
    omega (arith, n, slice_get_within all (get_or steps i e) called.0 called.1)

-- What is known of a program's call table.
pub record IsTabled (image : Image) (entry : ℕ) (rows : List Row) (returning all : List ℕ) (table : List (List ℕ)) : Type 0 where
  pub are : AreRows image entry rows
  pub returns : AreReturning image rows returning
  pub functions : AreJust (IsFunction image entry) all
  pub zip : IsCallTable rows returning all all table

step_calls : (image : Image) (entry : ℕ) (rows : List Row) (returning all : List ℕ) (table : List (List ℕ)) →
    IsTabled image entry rows returning all table → (i j f : ℕ) → slice_get all i ≡ Some f → IsStep table i j →
    (g : ℕ) × (slice_get all j ≡ Some g) × Calls image f g
step_calls image entry rows returning all table t i j f at step =
    let row = function_at_place rows returning all all table t.zip i step.steps step.there in
    let called = (row.2 j).0 step.goes in
    let same : row.0 ≡ f = same_Some row.0 f (sym row.1 ∙ at) in (
      called.0,
      called.1,
      subst (λ (x : ℕ). Calls image x called.0) same
          (called_calls image entry rows returning row.0 called.0 t.are t.returns called.2),
    )

calls_step : (image : Image) (entry : ℕ) (rows : List Row) (returning all : List ℕ) (table : List (List ℕ)) →
    IsTabled image entry rows returning all table → (i j f g : ℕ) → slice_get all i ≡ Some f → slice_get all j ≡ Some g →
    Calls image f g → IsStep table i j
calls_step image entry rows returning all table t i j f g at other calls =
    let row = row_at_place rows returning all all table t.zip i f at in
    let has = (function_led image entry rows returning t.are t.returns f (t.functions.sound f (contains_at all i f at))).1 in
    record {
      steps = row.0;
      there = row.1;
      goes = (row.2 j).1 (g, other, calls_called image entry rows returning f g t.are t.returns has calls);
    }

way_snoc : (image : Image) (a : ℕ) (more : List ℕ) (b c : ℕ) → IsCallWay image a more b → Calls image b c → IsCallWay image a (more ++ c ∷ []) c
way_snoc image a [] b c way calls = (subst (λ (x : ℕ). Calls image x c) (sym way) calls, refl)
way_snoc image a (d ∷ more) b c way calls = (way.0, way_snoc image d more b c way.1 calls)

-- Calls lead from one function on to another one.
record LeadsTo (image : Image) (from to : ℕ) : Type 0 where
  callee : ℕ
  more : List ℕ
  begins : Calls image from callee
  back : IsCallWay image callee more to

met_leads : (image : Image) (entry : ℕ) (rows : List Row) (returning all : List ℕ) (table : List (List ℕ)) →
    IsTabled image entry rows returning all table → (i f : ℕ) (steps : List ℕ) → slice_get all i ≡ Some f → slice_get table i ≡ Some steps →
    (q : ℕ) → IsMet table steps (length table) q → (g : ℕ) × (slice_get all q ≡ Some g) × LeadsTo image f g
met_leads image entry rows returning all table t i f steps at there _ (begins start among free) =
    let one = step_calls image entry rows returning all table t i start f at (record { steps = steps; there = there; goes = among }) in
    (one.0, one.1, record { callee = one.0; more = []; begins = one.2; back = refl })
met_leads image entry rows returning all table t i f steps at there _ (goes from to met step free) =
    let before = met_leads image entry rows returning all table t i f steps at there from met in
    let one = step_calls image entry rows returning all table t from to before.0 before.1 step in (
      one.0,
      one.1,
      record {
        callee = before.2.callee;
        more = before.2.more ++ one.0 ∷ [];
        begins = before.2.begins;
        back = way_snoc image before.2.callee before.2.more before.0 one.0 before.2.back one.2;
      },
    )

pub cyclic_recursive : (image : Image) (entry : ℕ) (rows : List Row) (returning all : List ℕ) (table : List (List ℕ)) →
    IsTabled image entry rows returning all table → (i f : ℕ) → slice_get all i ≡ Some f → IsCyclic table i → IsRecursive image entry f
cyclic_recursive image entry rows returning all table t i f at cyclic =
    let leads = met_leads image entry rows returning all table t i f cyclic.steps at cyclic.there i cyclic.met in
    let same : leads.0 ≡ f = same_Some leads.0 f (sym leads.1 ∙ at) in
    record {
      reached = t.functions.sound f (contains_at all i f at);
      callee = leads.2.callee;
      more = leads.2.more;
      begins = leads.2.begins;
      back = subst (IsCallWay image leads.2.callee leads.2.more) same leads.2.back;
    }

place : (image : Image) (entry : ℕ) (all : List ℕ) → AreJust (IsFunction image entry) all → (f : ℕ) → IsFunction image entry f →
    (k : ℕ) × (slice_get all k ≡ Some f)
place image entry all just f is = place_of all f (just.whole f is)

way_met : (image : Image) (entry : ℕ) (rows : List Row) (returning all : List ℕ) (table : List (List ℕ)) →
    IsTabled image entry rows returning all table → (steps : List ℕ) (more : List ℕ) (a b i : ℕ) → IsFunction image entry a →
    slice_get all i ≡ Some a → IsMet table steps (length table) i → IsCallWay image a more b →
    (j : ℕ) × (slice_get all j ≡ Some b) × IsMet table steps (length table) j
way_met image entry rows returning all table t steps [] a b i is at met way = (i, subst (λ (x : ℕ). slice_get all i ≡ Some x) way at, met)
way_met image entry rows returning all table t steps (c ∷ more) a b i is at met way =
    let next : IsFunction image entry c = further a c is way.0 in
    let there = place image entry all t.functions c next in
    way_met image entry rows returning all table t steps more c b there.0 next there.1
    (goes i there.0 met (calls_step image entry rows returning all table t i there.0 a c at there.1 way.0)
    (λ e. omega (arith, e, slice_get_within all there.0 c there.1, table_length rows returning all all table t.zip)))
    way.1

pub recursive_cyclic : (image : Image) (entry : ℕ) (rows : List Row) (returning all : List ℕ) (table : List (List ℕ)) →
    IsTabled image entry rows returning all table → (f : ℕ) → IsRecursive image entry f →
    (i : ℕ) × (slice_get all i ≡ Some f) × IsCyclic table i
recursive_cyclic image entry rows returning all table t f is =
    let at = place image entry all t.functions f is.reached in
    let next : IsFunction image entry is.callee = further f is.callee is.reached is.begins in
    let there = place image entry all t.functions is.callee next in
    let step = calls_step image entry rows returning all table t at.0 there.0 f is.callee at.1 there.1 is.begins in
    let met = way_met image entry rows returning all table t step.steps is.more is.callee f there.0 next there.1
    (begins there.0 step.goes (λ e. omega (arith, e, slice_get_within all there.0 is.callee there.1, table_length rows returning all all table t.zip)))
    is.back in
    let same : met.0 ≡ at.0 = same_place all t.functions.rising met.0 at.0 f met.1 at.1 in (
      at.0,
      at.1,
      record {
        steps = step.steps;
        there = step.there;
        met = subst (IsMet table step.steps (length table)) same met.2;
      },
    )

place_less : (all : List ℕ) → AllPairs (λ (a b : ℕ). a < b) all → (i j a b : ℕ) → slice_get all i ≡ Some a → slice_get all j ≡ Some b → a < b → i < j
place_less all rising i j a b at other less = by_case (cases_lt i j)
  where
    inside : i < length all
    inside = slice_get_within all i a at

    is_a : get_or all i 0 ≡ a
    is_a = same_Some (get_or all i 0) a (sym (slice_get-get_or all i 0 (slice_get_within all i a at)) ∙ at)

    is_b : get_or all j 0 ≡ b
    is_b = same_Some (get_or all j 0) b (sym (slice_get-get_or all j 0 (slice_get_within all j b other)) ∙ other)

    by_case : (i < j) ⊎ (j ≤ i) → i < j
    by_case (inl l) = l
    by_case (inr m) = elim (cases_eq i j) [
      | inl e ↦ absurd (omega (arith, less, is_a, is_b, ap (λ (k : ℕ). get_or all k 0) e))
      | inr differ ↦ let up = rising j i 0 (lesser m differ) inside in absurd (omega (arith, less, is_a, is_b, up))
    ]
      where
        lesser : j ≤ i → (i ≡ j → ⊥) → j < i
        lesser m differ = elim (cases_lt j i) [ inl l ↦ l | inr o ↦ absurd (differ (omega arith)) ]

pub first_some : (image : Image) (entry : ℕ) (rows : List Row) (returning all : List ℕ) (table : List (List ℕ)) →
    IsTabled image entry rows returning all table → (i f : ℕ) → slice_get all i ≡ Some f → IsFirstCyclic table (Some i) →
    IsFirstRecursive image entry (Some f)
first_some image entry rows returning all table t i f at first = (
  cyclic_recursive image entry rows returning all table t i f at first.0,
  λ lesser less is.
      let other = recursive_cyclic image entry rows returning all table t lesser is in
      first.1 other.0 (place_less all t.functions.rising other.0 i lesser f other.1 at less) other.2,
)

pub first_none : (image : Image) (entry : ℕ) (rows : List Row) (returning all : List ℕ) (table : List (List ℕ)) →
    IsTabled image entry rows returning all table → IsFirstCyclic table None → IsFirstRecursive image entry None
first_none image entry rows returning all table t none f is =
    let other = recursive_cyclic image entry rows returning all table t f is in
    let n = table_length rows returning all all table t.zip in
    none other.0 (omega (arith, n, slice_get_within all other.0 f other.1)) other.2

-- The table of a program, over slices of its parts.
pub tabled : (image : Image) (entry : ℕ) (rows given : List Row) (returning functions all : List ℕ) (table : List (List ℕ)) →
    AreRows image entry rows → AreReturning image rows returning → AreJust (IsFunction image entry) functions →
    given ≡ rows → all ≡ functions → IsCallTable given returning all all table → IsTabled image entry rows returning all table
tabled image entry rows given returning functions all table are returns just e f zip = record {
  are = are;
  returns = returns;
  functions = subst (AreJust (IsFunction image entry)) (sym f) just;
  zip = subst (λ (r : List Row). IsCallTable r returning all all table) e zip;
}

pub first_within : (rows : List Row) (returning all : List ℕ) (table given : List (List ℕ)) (i : ℕ) → IsCallTable rows returning all all table →
    given ≡ table → IsFirstCyclic given (Some i) → i < length all
first_within rows returning all table given i zip e first =
    let n = table_length rows returning all all table zip in
    let m = slice_get_within given i first.0.steps first.0.there in
    omega (arith, n, m, ap (λ (t : List (List ℕ)). length t) e)
