-- What the program tells of a status: the exit status, and a line on the standard error.
use Rattle.std.specs.Prelude.{ℕ, List, Option, None, Some, codes}
use Rattle.wcet_engine.specs.declared.top.Status.{Status}
use Rattle.wcet_engine.specs.declared.top.Status.TheVariants as status

-- The exit status of each status of the top call: 0 to 7, in their order.
abbrev pub exit_number : Status → ℕ
exit_number status.Done = 0
exit_number status.Usage = 1
exit_number status.Refused = 2
exit_number status.ReadFault = 3
exit_number status.WriteFault = 4
exit_number status.Memory = 5
exit_number status.Open = 6
exit_number status.Rejected = 7

-- The line on the standard error, where nothing, or not all, was answered.
abbrev pub complaint : Status → Option (List ℕ)
complaint status.Done = None
complaint status.Usage = Some (codes "usage")
complaint status.Refused = None
complaint status.ReadFault = Some (codes "read fault")
complaint status.WriteFault = Some (codes "write fault")
complaint status.Memory = Some (codes "memory")
complaint status.Open = None
complaint status.Rejected = None
