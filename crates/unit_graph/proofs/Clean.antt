-- Where no unit has a fault, a unit stands at each address to which a function leads.
use Rattle.std.proofs.Common.{◌≡◌, ℕ, List, All, None, refl, ◌∙◌}
use Rattle.std.specs.Prelude.{Contains}
use Rattle.std.proofs.lemmas.List.Elements.{All-contains_itself, All-weaker}
use Rattle.elf_mips.specs.declared.image.Image.{Image}
use Rattle.net_model.specs.declared.unit.Content.{Content}
use Rattle.net_model.specs.declared.unit.Content.TheVariants.{Unit as Stands, Fault}
use Rattle.net_model.specs.Faults.{IsCode}
use Rattle.net_model.specs.Targets.{unit_at}
use Rattle.unit_graph.specs.Firsts.{IsFirstFaulty}
use Rattle.unit_graph.specs.Program.{AreUnits, IsProgram}
use Rattle.unit_graph.specs.Rows.{AreRows, HasRow, HasUnit}
use Rattle.unit_graph.specs.declared.program.Program.{Program}
use Rattle.unit_graph.specs.declared.rows.Row.{Row}
use Rattle.unit_graph.proofs.Flowing.{code_led, led_reached}
use Rattle.unit_graph.proofs.Returning.{at_row}

clean_unit : (image : Image) (entry : ℕ) (rows : List Row) (address : ℕ) (content : Content) → AreRows image entry rows → IsCode image entry address →
    IsFirstFaulty image entry None → (has : HasRow rows address) → unit_at image address ≡ content → HasUnit rows address
clean_unit image entry rows address (Stands unit) are code none has e =
    record { has = has; unit = unit; stands = (at_row image rows entry address are has).1 ∙ e }
clean_unit image entry rows address (Fault kind place) are code none has e =
    absurd (none kind place (record { address = address; code = code; faulty = e }))

pub AreUnits-clean : (image : Image) (entry : ℕ) (program : Program) → IsProgram image entry program → IsFirstFaulty image entry None →
    All (AreUnits program.rows.items program.returning.keys) program.functions.items
AreUnits-clean image entry program is none =
    All-weaker (Contains program.functions.items) (AreUnits program.rows.items program.returning.keys)
    each program.functions.items (All-contains_itself program.functions.items)
  where
    rows : List Row
    rows = program.rows.items

    each : (function : ℕ) → Contains program.functions.items function → AreUnits program.rows.items program.returning.keys function
    each function listed address led =
        let code : IsCode image entry address = record {
          function = function;
          is = is.functions.sound function listed;
          reached = led_reached image entry program.rows.items program.returning.keys is.rows is.returning function address led;
        } in
        clean_unit image entry program.rows.items address (unit_at image address) is.rows code none
        (code_led image entry program.rows.items program.returning.keys is.rows is.returning address code).1 refl
