-- The loop over the program headers.
use Rattle.std.proofs.Common.{rules, arith}
use Rattle.elf_mips.specs.Faults.{Tells}
use Rattle.elf_mips.proofs.Reading.{read_more}
use Rattle.elf_mips.proofs.Segments.{tells_segment, clean_at}
use Rattle.elf_mips.proofs.reader.read_segments.Goals as goal

pub take_header-requires-clause-there : goal.take_header-requires-clause-there
take_header-requires-clause-there c =
    c.requires.room c.loop-number.number (omega (arith, c.u16_at-count.ensures.value))

pub returns-in_err-loader-clause-err : goal.returns-in_err-loader-clause-err
returns-in_err-loader-clause-err c =
    let told : Tells c.args.file.now c.in_err-loader.field-0.0 =
    tells_segment c.args.file.now c.loop-number.number c.in_err-loader.field-0.0 c.requires.clean
    (omega (arith, c.u16_at-count.ensures.value)) c.loop-number.invariant.good
    c.in_err-loader.ensures.err in
    search rules

pub loop-number-preserved : goal.loop-number-preserved
loop-number-preserved c =
    read_more c.args.file.now c.loop-number.number c.loop-number.loader.segments
    c.in_ok-loader.loader.segments c.loop-number.invariant c.in_ok-loader.ensures.good
    c.in_ok-loader.ensures.segments

pub returns-clause-clean : goal.returns-clause-clean
returns-clause-clean c =
    clean_at c.args.file.now c.loop-number.number c.requires.clean
    (omega (arith, c.u16_at-count.ensures.value)) c.loop-number.invariant.good
