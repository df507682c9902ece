-- What rows lead to is what functions and programs reach.
use Rattle.std.proofs.Common.{◌≡◌, ℕ, ◌+◌, List, refl, sym, subst, ap, inl, inr}
use Rattle.std.specs.Prelude.{Contains}
use Rattle.std.proofs.lemmas.List.Elements.{All-contains}
use Rattle.elf_mips.specs.declared.image.Image.{Image}
use Rattle.net_model.specs.declared.unit.Content.{Content}
use Rattle.net_model.specs.declared.unit.Content.TheVariants.{Unit as Stands, Fault}
use Rattle.net_model.specs.Faults.{IsCode}
use Rattle.net_model.specs.Functions.{Calls, CallsAt, GoesOn, IsFunction, IsReached, back, first, further, main, next, onward}
use Rattle.net_model.specs.Targets.{unit_at}
use Rattle.unit_graph.specs.Flow.{Follows, Leads, LeadsFrom}
use Rattle.unit_graph.specs.Inference.{AreReturning}
use Rattle.unit_graph.specs.Program.{CalledIn, IsAnyFunction, RowCalls}
use Rattle.unit_graph.specs.Rows.{AreRows, HasRow, IsRow, calls_of_content, ways_of_content}
use Rattle.unit_graph.specs.Search.{IsLed, begins, goes}
use Rattle.unit_graph.specs.declared.flow.Reach.{Reach}
use Rattle.unit_graph.specs.declared.flow.Reach.TheVariants.{Function, Program}
use Rattle.unit_graph.specs.declared.rows.Row.{Row}
use Rattle.unit_graph.proofs.Inferring.{goes_back, goes_on}
use Rattle.unit_graph.proofs.Returning.{row_calls, row_goes}
use Rattle.code_units.proofs.Lists.{in_none}

-- The onward units of a row's unit.
pub follows_goes : (image : Image) (entry : ℕ) (rows : List Row) (returning : List ℕ) (row : Row) (later : ℕ) →
    AreRows image entry rows → AreReturning image rows returning → Contains rows row → Follows returning row later →
    GoesOn image row.address later
follows_goes image entry rows returning row later are returns listed (inl way) =
    let is = All-contains (IsRow image) rows row are.each listed in
    goes_on image row.address row.content later is.content (All-contains (Contains (ways_of_content image row.content row.address)) row.onward later is.onward.sound way)
follows_goes image entry rows returning row later are returns listed (inr (some, e)) =
    let is = All-contains (IsRow image) rows row are.each listed in
    subst (GoesOn image row.address) e
    (goes_back image row.address row.content some.callee is.content (All-contains (Contains (calls_of_content image row.content row.address)) row.calls some.callee is.calls.sound some.called)
    (returns.sound some.callee some.returns))

pub goes_follows : (image : Image) (entry : ℕ) (rows : List Row) (returning : List ℕ) (address later : ℕ) →
    AreRows image entry rows → AreReturning image rows returning → (has : HasRow rows address) → GoesOn image address later →
    Follows returning has.row later
goes_follows image entry rows returning _ _ are returns has (onward address later unit stands way) =
    inl (row_goes image rows entry address later unit are has stands way)
goes_follows image entry rows returning _ _ are returns has (back address callee unit stands calls can) =
    let way = row_calls image rows entry address callee unit are has stands calls in
    inr (
      record {
        callee = callee;
        called = way;
        returns = returns.whole callee (are.closed has.row has.listed callee (inr (inl way))) can;
      },
      ap (λ (a : ℕ). a + 8) has.same,
    )

-- What a row's unit calls.
called_by : (image : Image) (address : ℕ) (content : Content) (callee : ℕ) → content ≡ unit_at image address →
    Contains (calls_of_content image content address) callee → CallsAt image address callee
called_by image address (Stands unit) callee e h = record { unit = unit; stands = sym e; called = h }
called_by image address (Fault kind place) callee e h = absurd (in_none callee h)

pub calls_at : (image : Image) (entry : ℕ) (rows : List Row) (row : Row) (callee : ℕ) → AreRows image entry rows → Contains rows row →
    Contains row.calls callee → CallsAt image row.address callee
calls_at image entry rows row callee are listed way =
    let is = All-contains (IsRow image) rows row are.each listed in
    called_by image row.address row.content callee is.content (All-contains (Contains (calls_of_content image row.content row.address)) row.calls callee is.calls.sound way)

pub at_calls : (image : Image) (entry : ℕ) (rows : List Row) (address callee : ℕ) → AreRows image entry rows → (has : HasRow rows address) →
    CallsAt image address callee → Contains has.row.calls callee
at_calls image entry rows address callee are has calls =
    row_calls image rows entry address callee calls.unit are has calls.stands calls.called

pub row_calls_at : (image : Image) (entry : ℕ) (rows : List Row) (address callee : ℕ) → AreRows image entry rows →
    RowCalls rows address callee → CallsAt image address callee
row_calls_at image entry rows address callee are calls =
    subst (λ (a : ℕ). CallsAt image a callee) calls.same (calls_at image entry rows calls.row callee are calls.listed calls.calls)

pub calls_row : (image : Image) (entry : ℕ) (rows : List Row) (address callee : ℕ) → AreRows image entry rows → HasRow rows address →
    CallsAt image address callee → RowCalls rows address callee
calls_row image entry rows address callee are has calls =
    record { row = has.row; listed = has.listed; same = has.same; calls = at_calls image entry rows address callee are has calls }

-- What is called has a row.
pub callee_row : (image : Image) (entry : ℕ) (rows : List Row) (address callee : ℕ) → AreRows image entry rows →
    RowCalls rows address callee → HasRow rows callee
callee_row image entry rows address callee are calls = are.closed calls.row calls.listed callee (inr (inl calls.calls))

-- Behind a row with one comes another one.
goes_row : (image : Image) (entry : ℕ) (rows : List Row) (returning : List ℕ) (address later : ℕ) →
    AreRows image entry rows → AreReturning image rows returning → (has : HasRow rows address) → GoesOn image address later →
    HasRow rows later
goes_row image entry rows returning address later are returns has on =
    by_case (goes_follows image entry rows returning address later are returns has on)
  where
    by_case : Follows returning has.row later → HasRow rows later
    by_case (inl way) = are.closed has.row has.listed later (inl way)
    by_case (inr (some, e)) =
        are.closed has.row has.listed later
        (inr (inr ((λ none. in_none some.callee (subst (λ (xs : List ℕ). Contains xs some.callee) none some.called)), sym e)))

-- What a function reaches.
lead_by : (image : Image) (entry : ℕ) (rows : List Row) (returning : List ℕ) (reach : Reach) (address later : ℕ) →
    AreRows image entry rows → AreReturning image rows returning → HasRow rows address → GoesOn image address later →
    Leads rows returning reach address later
lead_by image entry rows returning reach address later are returns has on =
    record { row = has.row; listed = has.listed; same = has.same; leads = inl (goes_follows image entry rows returning address later are returns has on) }

pub reached_led : (image : Image) (entry : ℕ) (rows : List Row) (returning : List ℕ) (reach : Reach) → AreRows image entry rows →
    AreReturning image rows returning → (function address : ℕ) → IsReached image function address → HasRow rows function →
    IsLed (Leads rows returning reach) function address × HasRow rows address
reached_led image entry rows returning reach are returns _ _ (first function) has = (begins, has)
reached_led image entry rows returning reach are returns _ _ (next function address later reached on) has =
    let before = reached_led image entry rows returning reach are returns function address reached has in (
      goes address later before.0 (lead_by image entry rows returning reach address later are returns before.1 on),
      goes_row image entry rows returning address later are returns before.1 on,
    )

goes_lead : (image : Image) (entry : ℕ) (rows : List Row) (returning : List ℕ) (reach : Reach) (address later : ℕ) →
    AreRows image entry rows → AreReturning image rows returning → (l : Leads rows returning reach address later) →
    Follows returning l.row later → GoesOn image address later
goes_lead image entry rows returning reach address later are returns l follows =
    subst (λ (a : ℕ). GoesOn image a later) l.same
    (follows_goes image entry rows returning l.row later are returns l.listed follows)

pub led_reached : (image : Image) (entry : ℕ) (rows : List Row) (returning : List ℕ) → AreRows image entry rows →
    AreReturning image rows returning → (function address : ℕ) → IsLed (Leads rows returning Function) function address →
    IsReached image function address
led_reached image entry rows returning are returns function _ begins = first function
led_reached image entry rows returning are returns function _ (goes address later led l) =
    next function address later (led_reached image entry rows returning are returns function address led) (by_case l.leads)
  where
    apart : Function ≡ Program → ⊥
    apart e = cc

    by_case : LeadsFrom returning Function l.row later → GoesOn image address later
    by_case (inl follows) = goes_lead image entry rows returning Function address later are returns l follows
    by_case (inr (e, calls)) = absurd (apart e)

-- What a program reaches.
pub led_code : (image : Image) (entry : ℕ) (rows : List Row) (returning : List ℕ) → AreRows image entry rows →
    AreReturning image rows returning → (address : ℕ) → IsLed (Leads rows returning Program) entry address →
    IsCode image entry address
led_code image entry rows returning are returns _ begins = record { function = entry; is = main; reached = first entry }
led_code image entry rows returning are returns _ (goes address later led l) =
    by_case (led_code image entry rows returning are returns address led) l.leads
  where
    by_case : IsCode image entry address → LeadsFrom returning Program l.row later → IsCode image entry later
    by_case code (inl follows) = record {
      function = code.function;
      is = code.is;
      reached = next code.function address later code.reached (goes_lead image entry rows returning Program address later are returns l follows);
    }
    by_case code (inr (e, calls)) = record {
      function = later;
      is = further code.function later code.is (record {
        address = address;
        reached = code.reached;
        calls = subst (λ (a : ℕ). CallsAt image a later) l.same (calls_at image entry rows l.row later are l.listed calls);
      });
      reached = first later;
    }

led_on : (leads : ℕ → ℕ → Type 0) (start middle address : ℕ) → IsLed leads start middle → IsLed leads middle address → IsLed leads start address
led_on leads start middle _ led begins = led
led_on leads start middle _ led (goes x y behind on) = goes x y (led_on leads start middle x led behind) on

pub function_led : (image : Image) (entry : ℕ) (rows : List Row) (returning : List ℕ) → AreRows image entry rows →
    AreReturning image rows returning → (function : ℕ) → IsFunction image entry function →
    IsLed (Leads rows returning Program) entry function × HasRow rows function
function_led image entry rows returning are returns _ main = (begins, are.begins)
function_led image entry rows returning are returns _ (further function callee is calls) =
    let before = function_led image entry rows returning are returns function is in
    let within = reached_led image entry rows returning Program are returns function calls.address calls.reached before.1 in
    let row = calls_row image entry rows calls.address callee are within.1 calls.calls in (
      goes calls.address callee (led_on (Leads rows returning Program) entry function calls.address before.0 within.0)
          (record { row = row.row; listed = row.listed; same = row.same; leads = inr (refl, row.calls) }),
      callee_row image entry rows calls.address callee are row,
    )

pub code_led : (image : Image) (entry : ℕ) (rows : List Row) (returning : List ℕ) → AreRows image entry rows →
    AreReturning image rows returning → (address : ℕ) → IsCode image entry address →
    IsLed (Leads rows returning Program) entry address × HasRow rows address
code_led image entry rows returning are returns address code =
    let before = function_led image entry rows returning are returns code.function code.is in
    let within = reached_led image entry rows returning Program are returns code.function address code.reached before.1 in
    (led_on (Leads rows returning Program) entry code.function address before.0 within.0, within.1)

-- The functions of a program.
pub any_function : (image : Image) (entry : ℕ) (rows : List Row) (code : List ℕ) (function : ℕ) → AreRows image entry rows →
    ((address : ℕ) → Contains code address → IsCode image entry address) → IsAnyFunction rows code entry function →
    IsFunction image entry function
any_function image entry rows code function are sound (inl e) = subst (IsFunction image entry) e main
any_function image entry rows code function are sound (inr from) =
    let in_code = sound from.address from.among in
    further in_code.function function in_code.is (record {
      address = from.address;
      reached = in_code.reached;
      calls = row_calls_at image entry rows from.address function are from.calls;
    })

pub function_any : (image : Image) (entry : ℕ) (rows : List Row) (returning code : List ℕ) (function : ℕ) → AreRows image entry rows →
    AreReturning image rows returning → ((address : ℕ) → IsCode image entry address → Contains code address) →
    IsFunction image entry function → IsAnyFunction rows code entry function
function_any image entry rows returning code _ are returns whole main = inl refl
function_any image entry rows returning code _ are returns whole (further function callee is calls) =
    let in_code : IsCode image entry calls.address = record { function = function; is = is; reached = calls.reached } in
    inr (record {
      address = calls.address;
      among = whole calls.address in_code;
      calls = calls_row image entry rows calls.address callee are (code_led image entry rows returning are returns calls.address in_code).1 calls.calls;
    })

-- What a function calls.
pub called_calls : (image : Image) (entry : ℕ) (rows : List Row) (returning : List ℕ) (function callee : ℕ) → AreRows image entry rows →
    AreReturning image rows returning → CalledIn rows returning function callee → Calls image function callee
called_calls image entry rows returning function callee are returns called = record {
  address = called.address;
  reached = led_reached image entry rows returning are returns function called.address called.led;
  calls = row_calls_at image entry rows called.address callee are called.calls;
}

pub calls_called : (image : Image) (entry : ℕ) (rows : List Row) (returning : List ℕ) (function callee : ℕ) → AreRows image entry rows →
    AreReturning image rows returning → HasRow rows function → Calls image function callee → CalledIn rows returning function callee
calls_called image entry rows returning function callee are returns has calls =
    let led = reached_led image entry rows returning Function are returns function calls.address calls.reached has in
    record {
      address = calls.address;
      led = led.0;
      calls = calls_row image entry rows calls.address callee are led.1 calls.calls;
    }
