-- The units so far are noted.
use Rattle.std.proofs.Common.{take}
use Rattle.call_contexts.proofs.AroundLists.{AreNearing}
use Rattle.call_contexts.proofs.around.note_body.Given as goal

abbrev pub invariant-loop-address : goal.invariant-loop-address
invariant-loop-address l = AreNearing l.units l.loops l.position (take l.address-index l.body) l.around
