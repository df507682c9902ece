-- The parts of a program are what its code reaches.
use Rattle.std.proofs.Common.{◌≡◌, ℕ, List, All, sym, subst, ◌∙◌}
use Rattle.std.specs.Prelude.{Contains}
use Rattle.std.proofs.lemmas.List.Elements.{All-contains_itself, All-weaker}
use Rattle.elf_mips.specs.declared.image.Image.{Image}
use Rattle.net_model.specs.Faults.{IsCode}
use Rattle.net_model.specs.Functions.{IsFunction}
use Rattle.unit_graph.specs.Flow.{Leads}
use Rattle.unit_graph.specs.Graphs.{AreJust}
use Rattle.unit_graph.specs.Inference.{AreReturning}
use Rattle.unit_graph.specs.Program.{IsAnyFunction}
use Rattle.unit_graph.specs.Rows.{AreRows, HasRow}
use Rattle.unit_graph.specs.Search.{AreLed}
use Rattle.unit_graph.specs.declared.flow.Reach.TheVariants.{Program}
use Rattle.unit_graph.specs.declared.rows.Row.{Row}
use Rattle.unit_graph.proofs.Flowing.{any_function, code_led, function_any, led_code}

-- What is said of a program's parts.
pub record AreParts (image : Image) (entry : ℕ) (rows : List Row) (returning code functions : List ℕ) : Type 0 where
  pub rows_are : AreRows image entry rows
  pub returning_are : AreReturning image rows returning
  pub code_is : AreJust (IsCode image entry) code
  pub functions_are : AreJust (IsFunction image entry) functions

pub AreParts-found : (image : Image) (entry : ℕ) (rows : List Row) (returning led functions : List ℕ) → AreRows image entry rows →
    AreReturning image rows returning → AreLed (Leads rows returning Program) entry led →
    AreJust (IsAnyFunction rows led entry) functions → AreParts image entry rows returning led functions
AreParts-found image entry rows returning led functions are returns leads any = record {
  rows_are = are;
  returning_are = returns;
  code_is = record { rising = leads.rising; sound = sound; whole = whole };
  functions_are = record {
    rising = any.rising;
    sound = λ x h. any_function image entry rows led x are sound (any.sound x h);
    whole = λ x h. any.whole x (function_any image entry rows returning led x are returns whole h);
  };
}
  where
    sound : (x : ℕ) → Contains led x → IsCode image entry x
    sound x h = led_code image entry rows returning are returns x (leads.sound x h)

    whole : (x : ℕ) → IsCode image entry x → Contains led x
    whole x h = leads.whole x (code_led image entry rows returning are returns x h).0

pub IsProgram-explored : (image : Image) (entry : ℕ) (rows : List Row) (returning led code functions : List ℕ) → AreRows image entry rows →
    (rows1 : List Row) → rows1 ≡ rows →
    ((of : Image) (main : ℕ) → AreRows of main rows1 → AreReturning of rows1 returning) →
    (rows2 : List Row) → rows2 ≡ rows → AreLed (Leads rows2 returning Program) entry led → code ≡ led →
    (rows3 : List Row) → rows3 ≡ rows → (code1 : List ℕ) → code1 ≡ code →
    AreJust (IsAnyFunction rows3 code1 entry) functions → AreParts image entry rows returning code functions
IsProgram-explored image entry rows returning led code functions are rows1 e1 returns rows2 e2 leads e rows3 e3 code1 e4 any =
    subst (λ (c : List ℕ). AreParts image entry rows returning c functions) (sym e)
    (AreParts-found image entry rows returning led functions are
    (subst (λ (r : List Row). AreReturning image r returning) e1
    (returns image entry (subst (AreRows image entry) (sym e1) are)))
    (subst (λ (r : List Row). AreLed (Leads r returning Program) entry led) e2 leads)
    (subst (λ (r : List Row). AreJust (IsAnyFunction r led entry) functions) e3
    (subst (λ (c : List ℕ). AreJust (IsAnyFunction rows3 c entry) functions) (e4 ∙ e) any)))

-- Each address of the code has a row.
pub code_rows : (image : Image) (entry : ℕ) (rows : List Row) (returning code : List ℕ) → AreRows image entry rows →
    AreReturning image rows returning → AreJust (IsCode image entry) code → All (HasRow rows) code
code_rows image entry rows returning code are returns just =
    All-weaker (Contains code) (HasRow rows)
    (λ x h. (code_led image entry rows returning are returns x (just.sound x h)).1) code (All-contains_itself code)
