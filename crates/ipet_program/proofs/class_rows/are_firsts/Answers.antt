-- Each entry is looked at.
use Rattle.std.proofs.Common.{◌≡◌, take, sym, arith}
use Rattle.std.proofs.lemmas.List.{take_all}
use Rattle.std.proofs.lemmas.List.Elements.{All-more, All-same}
use Rattle.flow_net.specs.declared.letter.Class.TheVariants.{Hit}
use Rattle.flow_net.specs.declared.letter.Letter.TheVariants.{Always}
use Rattle.flow_net.specs.declared.letter.Level2.{Level2}
use Rattle.age_model.specs.Classes.{NamesHolding}
use Rattle.ipet_program.proofs.class_rows.are_firsts.Goals as goal

pub loop-entry-preserved : goal.loop-entry-preserved
loop-entry-preserved c =
    All-more (λ (entry : Level2). NamesHolding c.args.net.now c.args.place entry.class) c.args.row.now
    c.loop-entry.entry-index (record { letter = Always; class = Hit })
    c.loop-entry-test.true c.loop-entry.invariant c.if-not-names_holding.ensures

pub returns : goal.returns
returns c =
    let all : take c.loop-entry.entry-index c.args.row.now ≡ c.args.row.now =
    take_all c.loop-entry.entry-index c.args.row.now (omega arith) in
    All-same (λ (entry : Level2). NamesHolding c.args.net.now c.args.place entry.class) c.args.row.now _ (sym all)
    c.loop-entry.invariant
