-- Each of the contexts is looked at.
use Rattle.std.proofs.Common.{◌≡◌, ◌<◌, length, take, sym, arith}
use Rattle.std.proofs.lemmas.List.{take_all}
use Rattle.std.proofs.lemmas.List.Elements.{All-more, All-same}
use Rattle.flow_net.specs.declared.net.Context.{Context}
use Rattle.ipet_program.proofs.forward.have_parents.Goals as goal

pub loop-context-preserved : goal.loop-context-preserved
loop-context-preserved c =
    All-more (λ (context : Context). context.parent < length c.args.contexts.now) c.args.contexts.now
    c.loop-context.context-index (record { parent = 0; site = 0; target = 0 })
    c.loop-context-test.true c.loop-context.invariant (omega arith)

pub returns : goal.returns
returns c = record {
  parents =
      let all : take c.loop-context.context-index c.args.contexts.now ≡ c.args.contexts.now =
      take_all c.loop-context.context-index c.args.contexts.now (omega arith) in
      All-same (λ (context : Context). context.parent < length c.args.contexts.now) c.args.contexts.now
      _ (sym all) c.loop-context.invariant;
}
