-- The program of a net under a profile without caches is its plain part, which the solver asks for.
use Rattle.std.proofs.Common.{◌≡◌, ◌*◌, ◌^◌, ◌≤◌, [], List, length, sym, ap, subst, arith}
use Rattle.age_model.specs.Classes.{HasRows}
use Rattle.ipet_program.specs.Programs.{place_price}
use Rattle.ipet_program.proofs.PlainProgram.{uncached-program}
use Rattle.lru_concrete.specs.declared.level.Level.{Level}
use Rattle.wcet_engine.proofs.Certified.{fits-image}
use Rattle.wcet_engine.proofs.StageLemmas.{without-caches}
use Rattle.wcet_engine.proofs.Unclassified.{accesses-few}
use Rattle.wcet_engine.proofs.certificate.certify.Goals as goal

pub build-requires-clause-fits : goal.build-requires-clause-fits
build-requires-clause-fits c = fits-image c.args.image.now c.args.net.now c.requires.net.units

pub build-requires-clause-made : goal.build-requires-clause-made
build-requires-clause-made c =
    let net = c.args.net.now in
    let is = c.requires.net in
    omega (arith, ap length is.is_net.accesses, accesses-few c.args.image.now 1 net.places, is.places)

pub build-requires-clause-rows : goal.build-requires-clause-rows
build-requires-clause-rows c =
    let profile = c.args.profile.now in
    subst (λ (levels : List Level). HasRows c.args.net.now levels c.in_ok-classes.classes)
    (sym (without-caches profile.levels c.requires.built)) c.in_ok-classes.ensures

pub certificate_of-requires-clause-program : goal.certificate_of-requires-clause-program
certificate_of-requires-clause-program c =
    let profile = c.args.profile.now in
    let uncached = without-caches profile.levels c.requires.built in
    record {
      price = place_price profile c.args.image.now c.args.net.now;
      of_net = uncached-program c.args.net.now c.in_ok-classes.classes profile c.args.image.now c.in-Ok.program uncached
          (subst (λ (levels : List Level). HasRows c.args.net.now levels c.in_ok-classes.classes) (sym uncached) c.in_ok-classes.ensures)
          c.in-Ok.ensures.program;
    }

pub returns-in-Ok-clause-certifies : goal.returns-in-Ok-clause-certifies
returns-in-Ok-clause-certifies c =
    let profile = c.args.profile.now in
    let uncached = without-caches profile.levels c.requires.built in
    let certified = c.in_ok-certificate_of-in-Ok.ensures in
    record {
      program = c.in-Ok.program;
      is = uncached-program c.args.net.now c.in_ok-classes.classes profile c.args.image.now c.in-Ok.program uncached
          (subst (λ (levels : List Level). HasRows c.args.net.now levels c.in_ok-classes.classes) (sym uncached) c.in_ok-classes.ensures)
          c.in-Ok.ensures.program;
      low = c.in-Ok.ensures.program.low;
      checkable = c.in-Ok.ensures.checkable;
      valid = certified.valid;
      reached = certified.reached;
      tree = certified.tree;
      line = certified.line;
    }
