-- One more segment's region is added, and that segment holds bytes.
use Rattle.std.proofs.Common.{◌<◌, length, arith, take}
use Rattle.std.proofs.lemmas.Grind.{common_steps}
use Rattle.std.proofs.lemmas.List.{take_more}
use Rattle.std.proofs.lemmas.List.Elements.{All-push}
use Rattle.mips_machine.specs.Image.{HasBytes}
use Rattle.mips_machine.proofs.memory.segment_regions.Goals as goal

pub loop-segment-preserved : goal.loop-segment-preserved
loop-segment-preserved c =
    let segments = c.as_slice-segments.result.now in
    let i = c.loop-segment.segment-index in
    let segment = c.segment-item.result in
    let inside : i < length segments = omega arith in (
      grind (arith, common_steps),
      rw (take_more segments i segment inside, ← c.segment-item.is)
          (All-push HasBytes (take i segments) segment c.loop-segment.invariant.1 c.in_ok-of_segment.ensures.bytes),
    )
