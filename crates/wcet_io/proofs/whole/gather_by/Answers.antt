-- Each piece makes the front of the file longer.
use Rattle.std.proofs.Common.{◌≡◌, ◌-◌, ◌≤◌, length, arith, ◌∙◌, IfSome}
use Rattle.wcet_io.specs.Files.{Places}
use Rattle.wcet_io.proofs.Gathered.{gathered_more}
use Rattle.wcet_io.proofs.whole.gather_by.Goals as goal

pub loop-bytes-preserved : goal.loop-bytes-preserved
loop-bytes-preserved g c =
    let piece = c.in_ok-count.ensures in
    let before = c.loop-bytes.invariant in
    let told = g.F.Shelf.told c.args.shelf.now c.args.name.now in
    let bytes = c.loop-bytes.bytes in
    let n = c.in_ok-count.count in
    let buf = c.piece.new.buf in
    let size : c.len.result ≡ length bytes.items = c.len.ensures ∙ bytes.ok.0 in
    let placed : IfSome told (λ file. Places file (length bytes.items) n buf) =
    rw (← before.1 c.args.name.now, ← size) piece.bytes in
    let fits : n ≤ c.args.limit - length bytes.items =
    omega (arith, c.len-in-loop-bytes.ensures, bytes.ok.0) in
    let more =
    gathered_more {told = told} buf n (g.F.Shelf.placed c.piece.new.self) before.0
    piece.bound fits placed piece.count in (
      rw (c.in_ok-extend_from_slice.ensures.items, c.split_at.ensures.front) more,
      λ other. piece.kept other ∙ before.1 other,
      omega (arith, before.2, piece.cause.later),
    )
