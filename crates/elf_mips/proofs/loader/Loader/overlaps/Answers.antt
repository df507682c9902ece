-- The last segment that begins before the end tells whether one shares an address.
use Rattle.std.proofs.Common.{rules, sym}
use Rattle.std.specs.BTreeMap.{get}
use Rattle.std.specs.Ordering.{nat_cmp}
use Rattle.elf_mips.proofs.Overlaps.{overlap_is, overlap_first}
use Rattle.elf_mips.proofs.loader.Loader.overlaps.Goals as goal

pub returns-in-None : goal.returns-in-None
returns-in-None c =
    sym (overlap_first c.args.self.now.segments (get nat_cmp c.args.self.now.ends)
    c.args.address c.args.end
    c.args.self.now.ended (search rules))

pub returns-in-Some : goal.returns-in-Some
returns-in-Some c =
    overlap_is c.args.self.now.segments (get nat_cmp c.args.self.now.ends) c.in-Some.field-0-0
    c.in-Some.last_end c.args.address c.args.end c.args.self.now.filled c.args.self.now.apart
    c.args.self.now.ended c.args.self.now.begun c.in-Some.ensures.entry c.in-Some.ensures.before
    c.in-Some.ensures.last
