-- Each access is looked at.
use Rattle.std.proofs.Common.{◌≡◌, length, take, sym, ap, ◌∙◌, arith}
use Rattle.std.proofs.lemmas.List.{take_all}
use Rattle.std.proofs.lemmas.List.Elements.{All-more, All-same}
use Rattle.flow_net.specs.Numbers.{IsNumberOf}
use Rattle.flow_net.specs.declared.net.Access.{Access}
use Rattle.flow_net.specs.declared.net.Role.TheVariants.{Fetch}
use Rattle.ipet_program.proofs.forward.have_places.Goals as goal

pub loop-access-preserved : goal.loop-access-preserved
loop-access-preserved c =
    All-more (λ (access : Access). IsNumberOf c.args.net.now.places access.place) c.as_slice-access-items.result.now
    c.loop-access.access-index (record { place = 0; role = Fetch; at = 0 }) c.loop-access-test.true
    c.loop-access.invariant
    (record {
      from_one = omega (arith, c.if-access-eq0.false);
      within = omega (arith, c.if-access-as_slice.false, ap length c.as_slice.ensures);
    })

pub returns : goal.returns
returns c = record {
  places =
      let accesses = c.as_slice-access-items in
      let all : take c.loop-access.access-index accesses.result.now ≡ accesses.result.now =
      take_all c.loop-access.access-index accesses.result.now (omega arith) in
      All-same (λ (access : Access). IsNumberOf c.args.net.now.places access.place) c.args.net.now.accesses _
      (sym accesses.ensures ∙ sym all) c.loop-access.invariant;
}
