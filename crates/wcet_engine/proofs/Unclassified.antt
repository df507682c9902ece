-- Without caches each access has an empty row, and no more than three accesses come from a place.
use Rattle.std.proofs.Common.{◌≡◌, ℕ, zero, suc, ◌+◌, ◌*◌, ◌≤◌, Bool, true, false, List, [], ◌∷◌, ◌++◌, length, All, Option, Some, None, refl, sym, subst, arith}
use Rattle.std.specs.Prelude.{if◌then◌else◌, is_some}
use Rattle.std.specs.List.{AllZip}
use Rattle.std.proofs.lemmas.List.{length-append}
use Rattle.std.proofs.lemmas.List.Elements.{All-head, All-nil, All-tail}
use Rattle.cache_config.specs.Chains.{side_of}
use Rattle.elf_mips.specs.declared.image.Image.{Image}
use Rattle.flow_net.specs.declared.letter.Level2.{Level2}
use Rattle.flow_net.specs.declared.net.Access.{Access}
use Rattle.flow_net.specs.declared.net.Net.{Net}
use Rattle.flow_net.specs.declared.net.Place.{Place}
use Rattle.flow_net.specs.declared.net.Role.TheVariants.{Slot}
use Rattle.lru_concrete.specs.declared.level.Side.{Side}
use Rattle.net_model.specs.Accesses.{access, accesses_from, content_accesses, kind_of, load_access, unit_accesses}
use Rattle.net_model.specs.Onward.{load_of}
use Rattle.net_model.specs.Targets.{unit_at}
use Rattle.net_model.specs.declared.unit.CodeUnit.{CodeUnit}
use Rattle.net_model.specs.declared.unit.Content.{Content}
use Rattle.net_model.specs.declared.unit.Content.TheVariants.{Unit as Stands, Fault}
use Rattle.age_model.specs.Classes.{HasRows, IsRowOf, NamesHolding}
use Rattle.ipet_program.proofs.PlainProgram.{chain-none}

empty-row : (net : Net) (access : Access) (row : List Level2) → length row ≡ 0 → IsRowOf net [] access row
empty-row net access [] none = record {
  chain = sym (chain-none (side_of (kind_of access.role)));
  firsts = All-nil (λ (entry : Level2). NamesHolding net access.place entry.class);
}
empty-row net access (entry ∷ row) none = absurd (omega (arith, none))

pub empty-rows : (net : Net) (accesses : List Access) (rows : List (List Level2)) → length rows ≡ length accesses →
    All (λ (row : List Level2). length row ≡ 0) rows → AllZip (IsRowOf net []) accesses rows
empty-rows net [] [] long none = tt
empty-rows net [] (row ∷ rows) long none = absurd (omega (arith, long))
empty-rows net (access ∷ more) [] long none = absurd (omega (arith, long))
empty-rows net (access ∷ more) (row ∷ rows) long none = (
  empty-row net access row (All-head (λ (r : List Level2). length r ≡ 0) row rows none),
  empty-rows net more rows (omega (arith, long)) (All-tail (λ (r : List Level2). length r ≡ 0) row rows none),
)

slots-one : (b : Bool) (number address : ℕ) → length (if b then access number Slot address ∷ [] else []) ≤ 1
slots-one true number address = omega arith
slots-one false number address = omega arith

loads-one : (number : ℕ) (load : Option ℕ) → length (load_access number load) ≤ 1
loads-one number None = omega arith
loads-one number (Some address) = omega arith

content-three : (number : ℕ) (content : Content) (address : ℕ) → length (content_accesses number content address) ≤ 3
content-three number (Stands unit) address =
    omega (
      arith,
      length-append (if is_some unit.slot then access number Slot (address + 4) ∷ [] else []) (load_access number (load_of unit address)),
      slots-one (is_some unit.slot) number (address + 4),
      loads-one number (load_of unit address),
    )
content-three number (Fault kind place) address = omega arith

pub accesses-few : (image : Image) (number : ℕ) (places : List Place) → length (accesses_from image number places) ≤ 3 * length places
accesses-few image number [] = omega arith
accesses-few image number (place ∷ more) =
    omega (
      arith,
      length-append (content_accesses number (unit_at image place.address) place.address) (accesses_from image (suc number) more),
      content-three number (unit_at image place.address) place.address,
      accesses-few image (suc number) more,
    )
