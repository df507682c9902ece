-- A run that goes on has one unit more at its end.
use Rattle.std.proofs.Common.{◌≡◌, ℕ, List, [], ◌∷◌, ◌++◌, Option, refl, ap}
use Rattle.mips_decode.specs.Calls.{calls_after}
use Rattle.mips_decode.specs.Run.{last_state}
use Rattle.mips_decode.specs.State.{State}
use Rattle.mips_decode.specs.Step.{value_step}
use Rattle.mips_decode.specs.Transfer.{Call}
use Rattle.mips_decode.specs.Units.{RunUnit, UnitsGrow, stand_after, stand_end, units_from}

grow : (code : ℕ → Option ℕ) (calls : List Call) (s : State) (address : ℕ) (states : List State) (t : State) →
    units_from code calls s (states ++ t ∷ [])
    ≡ units_from code calls s states
    ++ record {
      at = record {
        calls = (stand_end (record { calls = calls; address = address }) (units_from code calls s states)).calls;
        address = (last_state s states).pc;
      };
      step = value_step code (last_state s states);
    } ∷ []
grow code calls s address [] t = refl
grow code calls s address (next ∷ later) t =
    let unit : RunUnit = record { at = record { calls = calls; address = s.pc }; step = value_step code s } in
    ap (λ (units : List RunUnit). unit ∷ units)
    (grow code (calls_after calls (value_step code s)) next (stand_after unit).address later t)

pub units-grow : UnitsGrow
units-grow = λ code calls s states t. grow code calls s s.pc states t
