use Rattle.std.proofs.Common.{sym, ◌∙◌}
use Rattle.toml.specs.View.{table_view}
use Rattle.cache_config.specs.declared.fault.FaultKind.TheVariants.{Key, Range}
use Rattle.cache_config.specs.Faults.{profile_faults}
use Rattle.cache_config.proofs.OrderLemmas.{first_of-none, first_of-kind}
use Rattle.cache_config.proofs.read.check_table.Goals as goal

pub returns-in-None-clause-ok : goal.returns-in-None-clause-ok
returns-in-None-clause-ok c =
    first_of-none (profile_faults (table_view c.args.table.now)) (sym c.in_ok-first_fault.ensures ∙ c.in-None.is)

pub returns-in-Key-clause-fault : goal.returns-in-Key-clause-fault
returns-in-Key-clause-fault c =
    first_of-kind (profile_faults (table_view c.args.table.now)) c.in-Some.fault Key (sym c.in_ok-first_fault.ensures ∙ c.in-Some.is) c.in-Key.is

pub returns-in-Range-clause-fault : goal.returns-in-Range-clause-fault
returns-in-Range-clause-fault c =
    first_of-kind (profile_faults (table_view c.args.table.now)) c.in-Some.fault Range (sym c.in_ok-first_fault.ensures ∙ c.in-Some.is) c.in-Range.is
