-- The open calls of a run, and the units that return to their callers.
use Rattle.std.specs.Prelude.{◌≡◌, ℕ, ◌+◌, List, [], ◌∷◌, drop}
use Rattle.mips_decode.specs.State.{return_address}
use Rattle.mips_decode.specs.Transfer.{Call, Linking, Straight, Calls, Returns}
use Rattle.mips_decode.specs.Step.{Stepped, Went, Returned, Trapped}

-- The open calls after a unit, the innermost first: a call adds one, a return takes the innermost away.
abbrev pub calls_after_link : List Call → Linking → List Call
calls_after_link calls Straight = calls
calls_after_link calls (Calls call) = call ∷ calls
calls_after_link calls Returns = drop 1 calls

abbrev pub calls_after : List Call → Stepped → List Call
calls_after calls (Went done t) = calls_after_link calls done.link
calls_after calls (Returned done t) = calls_after_link calls done.link
calls_after calls (Trapped kind address) = calls

-- Where a return belongs: behind the innermost open call and its slot, or the place of return where none is open.
abbrev pub caller_of : List Call → ℕ
caller_of [] = return_address
caller_of (call ∷ calls) = call.site + 8

abbrev pub GoesBack : List Call → Linking → ℕ → Type 0
GoesBack calls Straight next = Unit {0}
GoesBack calls (Calls call) next = Unit {0}
GoesBack calls Returns next = next ≡ caller_of calls

-- A unit returns to its caller: each `jr $31` that was done went to where the innermost open call belongs.
abbrev pub ReturnsToCaller : List Call → Stepped → Type 0
ReturnsToCaller calls (Went done t) = GoesBack calls done.link t.pc
ReturnsToCaller calls (Returned done t) = GoesBack calls done.link t.pc
ReturnsToCaller calls (Trapped kind address) = Unit {0}
