-- The rows of all addresses to which an entry may lead are closed under what their units may lead to.
use Rattle.std.proofs.Common.{◌≡◌, ℕ, ◌<◌, List, map, length, get_or, All, sym, subst, ◌∙◌, arith, Result, Ok, Err}
use Rattle.std.specs.Prelude.{AllPairs, Contains, IfOk}
use Rattle.std.proofs.lemmas.List.{get_or-map, length-map}
use Rattle.std.proofs.lemmas.List.Elements.{All-contains}
use Rattle.elf_mips.specs.declared.image.Image.{Image}
use Rattle.unit_graph.specs.Rows.{AreRows, HasRow, IsRow, MayLeadAt, Rise}
use Rattle.unit_graph.specs.Search.{AreLed, begins, goes}
use Rattle.unit_graph.specs.declared.rows.Row.{Row}
use Rattle.unit_graph.proofs.FarSight.{far_by}
use Rattle.code_units.proofs.Lists.{preimage}
use Rattle.code_units.proofs.Lists.{Contains-map}

abbrev address_of : Row → ℕ
address_of row = row.address

AllPairs-from_map : (rows : List Row) → AllPairs (λ (x y : ℕ). x < y) (map address_of rows) → Rise rows
AllPairs-from_map rows pairs i j d less inside =
    let len : length (map address_of rows) ≡ length rows = length-map rows address_of in
    let lesser : i < length rows = omega arith in
    subst (λ (x : ℕ). x < (get_or rows j d).address) (get_or-map address_of rows i d 0 lesser)
    (subst (λ (y : ℕ). get_or (map address_of rows) i 0 < y) (get_or-map address_of rows j d 0 inside)
    (pairs i j 0 less (omega arith)))

has : (rows : List Row) (address : ℕ) → Contains (map address_of rows) address → HasRow rows address
has rows address h =
    let from = preimage address_of rows address h in
    record { row = from.0; listed = from.1; same = from.2 }

pub AreRows-listed : (image : Image) (entry : ℕ) (rows : List Row) → AreLed (MayLeadAt image) entry (map address_of rows) →
    All (IsRow image) rows → AreRows image entry rows
AreRows-listed image entry rows led each = record {
  rising = AllPairs-from_map rows led.rising;
  each = each;
  begins = has rows entry (led.whole entry begins);
  closed = λ row listed later may.
      has rows later
      (led.whole later
      (goes row.address later (led.sound row.address (Contains-map address_of rows row listed))
      (far_by image row later (All-contains (IsRow image) rows row each listed) may)));
}

pub IfOk-rows : {V E : Type 0} (items : V → List Row) (image : Image) (entry : ℕ) (span addresses : List ℕ) (result : Result V E) →
    AreLed (MayLeadAt image) entry span → addresses ≡ span →
    IfOk result (λ (rows : V). map address_of (items rows) ≡ addresses) → IfOk result (λ (rows : V). All (IsRow image) (items rows)) →
    IfOk result (λ (rows : V). AreRows image entry (items rows))
IfOk-rows items image entry span addresses (Ok rows) led e listed each =
    AreRows-listed image entry (items rows) (subst (AreLed (MayLeadAt image) entry) (sym e ∙ sym listed) led) each
IfOk-rows items image entry span addresses (Err error) led e listed each = tt
