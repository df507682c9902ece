-- The cap of each arc stands behind those of the arcs before it.
use Rattle.std.proofs.Common.{◌≡◌, ℕ, length, subst, sym, ap, ◌∙◌, arith}
use Rattle.flow_net.specs.Numbers.{item_at}
use Rattle.ipet_program.specs.Programs.{arc_cap}
use Rattle.ipet_program.specs.Sums.{numbered}
use Rattle.ipet_program.proofs.Numbered.{item-read, numbered-push}
use Rattle.ipet_program.proofs.arcs.caps_of.Goals as goal

pub loop-arc-preserved : goal.loop-arc-preserved
loop-arc-preserved c =
    let net = c.args.net.now in
    let index = c.loop-arc.arc-index in
    let arcs = c.as_slice-arc-items in
    numbered-push (λ column. arc_cap net (item_at column net.arcs)) index c.loop-arc.caps c.push.new.self
    c.cap_of.result c.loop-arc.invariant c.in_ok-push.ensures.ok
    (c.cap_of.ensures.cap
    ∙ ap (arc_cap net) (sym (item-read net.arcs arcs.result.now index _ (sym arcs.ensures)
    c.loop-arc-test.true)))

pub returns : goal.returns
returns c = record {
  caps =
      let net = c.args.net.now in
      let all : c.loop-arc.arc-index ≡ length net.arcs = omega (arith, ap length c.as_slice-arc-items.ensures) in
      subst (λ (n : ℕ). c.loop-arc.caps ≡ numbered (λ column. arc_cap net (item_at column net.arcs)) n) all
      c.loop-arc.invariant;
}
