-- Loads and stores at the place of their region.
use Rattle.std.proofs.Common.{◌≡◌, ℕ, ◌%◌, ◌==◌, true, false, List, get_or, set, All, Option, Some, None, refl, sym, ap, ◌∙◌, arith}
use Rattle.std.proofs.lemmas.Bool.Decides.{nat_tests}
use Rattle.mips_decode.specs.declared.instr.LoadOp.{LoadOp}
use Rattle.mips_decode.specs.declared.instr.StoreOp.{StoreOp}
use Rattle.mips_decode.specs.declared.step.Touched.{Touched}
use Rattle.mips_decode.specs.declared.step.TrapKind.TheVariants.{Outside, ReadOnly}
use Rattle.mips_decode.specs.State.{Region, State, covers, is_writable}
use Rattle.mips_decode.specs.Memory.{load_touched, load_value, store_touched, store_value}
use Rattle.mips_decode.specs.Effect.{Does, Traps, aligned_or, load_in, loaded, number_in, reg, region_of, region_with, regions_with, store_in, stored, with_reg}
use Rattle.mips_machine.specs.Places.{StandsAt}
use Rattle.mips_machine.proofs.PlaceLemmas.{find-StandsAt, find-fails, regions_with-StandsAt}

-- The region of an access, by its place.
found-at : (access : Touched) (regions later : List Region) (place : ℕ) (region : Region) → later ≡ regions →
    StandsAt (covers access.address access.size) regions place → region ≡ get_or regions place region →
    region_of access later ≡ Some region
found-at access regions later place region same at here =
    rw same (find-StandsAt (covers access.address access.size) regions place region at ∙ ap Some (sym here))

not-found : (access : Touched) (regions later : List Region) → later ≡ regions →
    All (λ region. covers access.address access.size region ≡ false) regions → region_of access later ≡ None
not-found access regions later same fails = rw same (find-fails (covers access.address access.size) regions fails)

-- A load, by what its access finds.
loaded-by : (s : State) (op : LoadOp) (rt address : ℕ) (access : Touched) (found : Option Region) →
    access ≡ load_touched op address → access.address % access.size ≡ 0 → region_of access s.regions ≡ found →
    loaded s op rt address ≡ load_in s op rt address found
loaded-by s op rt address access found same aligned finds =
    let start : loaded s op rt address ≡ aligned_or access (load_in s op rt address (region_of access s.regions)) =
    ap (λ (a : Touched). aligned_or a (load_in s op rt address (region_of a s.regions))) (sym same) in
    let even : (access.address % access.size == 0) ≡ true = grind (arith, nat_tests) in
    start ∙ rw (even, finds) refl

pub loaded-found : (s : State) (op : LoadOp) (rt address : ℕ) (access : Touched) (regions : List Region) (place : ℕ)
    (region : Region) (old number value : ℕ) →
    access ≡ load_touched op address → access.address % access.size ≡ 0 → s.regions ≡ regions →
    StandsAt (covers access.address access.size) regions place → region ≡ get_or regions place region →
    reg s.regs rt ≡ old → number ≡ number_in access region → value ≡ load_value op (address % 4) old number →
    loaded s op rt address ≡ Does (Some access) (record s { regs = with_reg s.regs rt value })
loaded-found s op rt address access regions place region old number value same aligned memory at here before finds gives =
    loaded-by s op rt address access (Some region) same aligned (found-at access regions s.regions place region memory at here)
    ∙ rw (before, ← same, ← finds, ← gives) refl

pub loaded-outside : (s : State) (op : LoadOp) (rt address : ℕ) (access : Touched) (regions : List Region) →
    access ≡ load_touched op address → access.address % access.size ≡ 0 → s.regions ≡ regions →
    All (λ region. covers access.address access.size region ≡ false) regions →
    loaded s op rt address ≡ Traps Outside
loaded-outside s op rt address access regions same aligned memory fails =
    loaded-by s op rt address access None same aligned (not-found access regions s.regions memory fails)

-- A store, by what its access finds.
stored-by : (s : State) (op : StoreOp) (rt address : ℕ) (access : Touched) (found : Option Region) →
    access ≡ store_touched op address → access.address % access.size ≡ 0 → region_of access s.regions ≡ found →
    stored s op rt address ≡ store_in s op rt address found
stored-by s op rt address access found same aligned finds =
    let start : stored s op rt address ≡ aligned_or access (store_in s op rt address (region_of access s.regions)) =
    ap (λ (a : Touched). aligned_or a (store_in s op rt address (region_of a s.regions))) (sym same) in
    let even : (access.address % access.size == 0) ≡ true = grind (arith, nat_tests) in
    start ∙ rw (even, finds) refl

pub stored-outside : (s : State) (op : StoreOp) (rt address : ℕ) (access : Touched) (regions : List Region) →
    access ≡ store_touched op address → access.address % access.size ≡ 0 → s.regions ≡ regions →
    All (λ region. covers access.address access.size region ≡ false) regions →
    stored s op rt address ≡ Traps Outside
stored-outside s op rt address access regions same aligned memory fails =
    stored-by s op rt address access None same aligned (not-found access regions s.regions memory fails)

pub stored-read_only : (s : State) (op : StoreOp) (rt address : ℕ) (access : Touched) (regions : List Region) (place : ℕ)
    (region : Region) →
    access ≡ store_touched op address → access.address % access.size ≡ 0 → s.regions ≡ regions →
    StandsAt (covers access.address access.size) regions place → region ≡ get_or regions place region →
    is_writable region ≡ false → stored s op rt address ≡ Traps ReadOnly
stored-read_only s op rt address access regions place region same aligned memory at here fixed =
    stored-by s op rt address access (Some region) same aligned (found-at access regions s.regions place region memory at here)
    ∙ rw fixed refl

pub stored-found : (s : State) (op : StoreOp) (rt address : ℕ) (access : Touched) (regions : List Region) (place : ℕ)
    (region after : Region) (old number : ℕ) →
    access ≡ store_touched op address → access.address % access.size ≡ 0 → s.regions ≡ regions →
    StandsAt (covers access.address access.size) regions place → region ≡ get_or regions place region →
    is_writable region ≡ true → reg s.regs rt ≡ number → old ≡ number_in access region →
    after ≡ region_with access (store_value op (address % 4) old number) region →
    stored s op rt address ≡ Does (Some access) (record s { regions = set regions place after })
stored-found s op rt address access regions place region after old number same aligned memory at here writable before finds gives =
    let put : regions_with access (store_value op (address % 4) old number) s.regions ≡ set regions place after =
    rw (memory, gives, here) (regions_with-StandsAt access (store_value op (address % 4) old number) regions place region at) in
    stored-by s op rt address access (Some region) same aligned (found-at access regions s.regions place region memory at here)
    ∙ rw (writable, before, ← same, ← finds, put) refl
