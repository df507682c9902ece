-- The key of the entry that is read.
use Rattle.std.specs.Prelude.{slice_index_or}
use Rattle.std.proofs.lemmas.Option.{slice_get-get_or}
use Rattle.domain_laws.proofs.entries.key_at.Goals as goal

pub returns : goal.returns
returns g c = record {
  value = (slice_index_or c.args.entries.now c.args.place c.index-entries-place.result).1;
  there = slice_get-get_or c.args.entries.now c.args.place c.index-entries-place.result c.requires;
}
