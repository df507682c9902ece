-- What one more program header does.
use Rattle.std.proofs.Common.{rules, arith, ◌≡◌, ◌+◌, ◌*◌, ◌<◌, ◌≤◌, false}
use Rattle.std.proofs.lemmas.Bool.{leb-true, leb-false}
use Rattle.elf_mips.specs.Headers.{is_good}
use Rattle.elf_mips.proofs.Headers.{same_at, more_at, good_at, overlap_at, too_big_at}
use Rattle.elf_mips.proofs.reader.take_header.Goals as goal

pub returns-then-not-is_loaded-clause-segments : goal.returns-then-not-is_loaded-clause-segments
returns-then-not-is_loaded-clause-segments c =
    same_at c.args.file.now c.args.number (c.u32_at.result + 32 * c.args.number)
    c.args.loader.segments (search rules) c.requires.before (search rules)

pub returns-in_err-keep-3-clause-err : goal.returns-in_err-keep-3-clause-err
returns-in_err-keep-3-clause-err c =
    let bad : is_good c.args.file.now c.args.number ≡ false = overlap_at
    c.args.file.now c.args.number (c.u32_at.result + 32 * c.args.number)
    c.u32_at-address.result c.u32_at-size.result c.args.loader.segments
    (record {
      at_is = search rules;
      before = c.requires.before;
      address_is = search rules;
      size_is = search rules;
      is = search rules;
      part = search rules;
      low = search rules;
    })
    (search rules) in
    search rules

pub returns-in_err-keep-4-clause-err : goal.returns-in_err-keep-4-clause-err
returns-in_err-keep-4-clause-err c =
    let late : c.rest.result < c.u32_at-size.result =
    leb-false c.u32_at-size.result c.rest.result (search rules) in
    let bad : is_good c.args.file.now c.args.number ≡ false = too_big_at
    c.args.file.now c.args.number (c.u32_at.result + 32 * c.args.number)
    c.u32_at-address.result c.u32_at-size.result c.args.loader.segments
    (record {
      at_is = search rules;
      before = c.requires.before;
      address_is = search rules;
      size_is = search rules;
      is = search rules;
      part = search rules;
      low = search rules;
    })
    (search rules) (omega (arith, c.rest.ensures)) in
    search rules

pub returns-clause-good : goal.returns-clause-good
returns-clause-good c =
    let soon : c.u32_at-size.result ≤ c.rest.result =
    leb-true c.u32_at-size.result c.rest.result (search rules) in
    let good = good_at c.args.file.now c.args.number (c.u32_at.result + 32 * c.args.number)
    c.u32_at-address.result c.u32_at-size.result c.args.loader.segments
    (record {
      at_is = search rules;
      before = c.requires.before;
      address_is = search rules;
      size_is = search rules;
      is = search rules;
      part = search rules;
      low = search rules;
    })
    (search rules) (omega (arith, c.rest.ensures, c.args.loader.summed, c.args.loader.fits)) in
    search rules

pub returns-clause-segments : goal.returns-clause-segments
returns-clause-segments c =
    let more = more_at c.args.file.now c.args.number (c.u32_at.result + 32 * c.args.number)
    c.u32_at-address.result c.u32_at-size.result c.args.loader.segments
    (record {
      at_is = search rules;
      before = c.requires.before;
      address_is = search rules;
      size_is = search rules;
      is = search rules;
      part = search rules;
      low = search rules;
    }) in
    search rules
