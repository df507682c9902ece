-- The last start at an address or below it names the segment.
use Rattle.std.proofs.Common.{rules}
use Rattle.elf_mips.proofs.Starts.{finds_none, finds_last, finds_not, number_there}
use Rattle.elf_mips.proofs.image.Image.segment_at.Goals as goal

pub returns-in-None-clause-only : goal.returns-in-None-clause-only
returns-in-None-clause-only c =
    finds_none c.args.self.now.segments c.args.self.now.by_address c.args.address
    c.args.self.now.once (search rules)

pub segment-segment-requires : goal.segment-segment-requires
segment-segment-requires c =
    number_there c.args.self.now.segments c.args.self.now.by_address c.in-Some.start
    c.args.self.now.once (search rules)

pub returns-then-not-holds-clause-only : goal.returns-then-not-holds-clause-only
returns-then-not-holds-clause-only c =
    finds_not c.args.self.now.segments c.args.address c.segment-segment.result.now (search rules)
    (finds_last c.args.self.now.segments c.args.self.now.by_address c.in-Some.start
    c.args.address c.segment-segment.result.now c.args.self.now.once c.args.self.now.filled
    c.args.self.now.apart (search rules) (search rules) (search rules)
    c.segment-segment.ensures.item)

pub returns-clause-only : goal.returns-clause-only
returns-clause-only c =
    finds_last c.args.self.now.segments c.args.self.now.by_address c.in-Some.start c.args.address
    c.segment-segment.result.now c.args.self.now.once c.args.self.now.filled
    c.args.self.now.apart (search rules) (search rules) (search rules)
    c.segment-segment.ensures.item
