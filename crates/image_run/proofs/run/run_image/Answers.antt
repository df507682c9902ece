-- What is told is the run that came to its end.
use Rattle.std.proofs.Common.{◌≡◌, arith}
use Rattle.image_run.specs.declared.course.Program.{Program}
use Rattle.image_run.specs.declared.report.Stop.TheVariants as stop
use Rattle.image_run.specs.declared.report.Verdict.TheVariants.{Kept}
use Rattle.image_run.specs.Reports.{IsHeadlineRun, IsReport}
use Rattle.image_run.proofs.Reporting.{headline-run, report-of, returned-report, steps-report, trapped-report}
use Rattle.image_run.proofs.run.run_image.Goals as goal

pub returns-in-Returned-clause-report : goal.returns-in-Returned-clause-report
returns-in-Returned-clause-report c =
    let program : Program = record { image = c.args.image; profile = c.args.profile; net = c.args.net; entry = c.args.entry } in
    let counts = c.in-Returned.ensures.counts in
    let before = c.loop.invariant.count in
    report-of (IsReport c.args.image.now c.args.profile.now c.args.entry) c.go.new.self stop.Returned c.report.result c.report.ensures.stop
    c.report.ensures.cycles c.report.ensures.steps c.report.ensures.caches c.report.ensures.verdict
    (λ r of. returned-report program c.go.new.self r c.in-Returned.ensures.goes (omega (arith, counts, before)) of)

pub returns-in-Returned-clause-spoken : goal.returns-in-Returned-clause-spoken
returns-in-Returned-clause-spoken c =
    let program : Program = record { image = c.args.image; profile = c.args.profile; net = c.args.net; entry = c.args.entry } in
    report-of (λ r. r.stop ≡ stop.Returned → r.verdict ≡ Kept → IsHeadlineRun c.args.image.now c.args.profile.now c.args.entry r)
    c.go.new.self stop.Returned c.report.result c.report.ensures.stop
    c.report.ensures.cycles c.report.ensures.steps c.report.ensures.caches c.report.ensures.verdict
    (λ r of returned kept. headline-run program c.go.new.self r c.in-Returned.ensures.goes of kept)

pub returns-in-Trap-clause-report : goal.returns-in-Trap-clause-report
returns-in-Trap-clause-report c =
    let program : Program = record { image = c.args.image; profile = c.args.profile; net = c.args.net; entry = c.args.entry } in
    let counts = c.in-Trap.ensures.counts in
    let before = c.loop.invariant.count in
    report-of (IsReport c.args.image.now c.args.profile.now c.args.entry) c.go.new.self (stop.Trap c.in-Trap.kind c.in-Trap.address) c.report-in-Trap.result
    c.report-in-Trap.ensures.stop c.report-in-Trap.ensures.cycles c.report-in-Trap.ensures.steps c.report-in-Trap.ensures.caches
    c.report-in-Trap.ensures.verdict
    (λ r of. trapped-report program c.go.new.self r c.in-Trap.kind c.in-Trap.address c.in-Trap.ensures.goes (omega (arith, counts, before)) of)

pub returns-clause-report : goal.returns-clause-report
returns-clause-report c =
    let program : Program = record { image = c.args.image; profile = c.args.profile; net = c.args.net; entry = c.args.entry } in
    let count = c.loop.invariant.count in
    report-of (IsReport c.args.image.now c.args.profile.now c.args.entry) c.loop.course stop.Steps c.report-2.result c.report-2.ensures.stop
    c.report-2.ensures.cycles c.report-2.ensures.steps c.report-2.ensures.caches c.report-2.ensures.verdict
    (λ r of. steps-report program c.loop.course r c.loop.invariant.course (omega (arith, count)) of)
