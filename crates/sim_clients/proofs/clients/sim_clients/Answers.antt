use Rattle.std.proofs.Common.{ℕ, List, [], ◌∷◌, ◌++◌, ◌+◌, refl, sym, ◌∙◌, ap, subst, arith}
use Rattle.std.proofs.lemmas.List.{length-append}
use Rattle.choice_stream.specs.Seeds.{stream_front}
use Rattle.session_hall.specs.declared.client.Client.{Client}
use Rattle.sim_clients.specs.Clients.{IsAsker}
use Rattle.sim_clients.proofs.Draws.{askers_more}
use Rattle.sim_clients.proofs.clients.sim_clients.Goals as goal

pub loop-at-init : goal.loop-at-init
loop-at-init c = record {
  some = (
    c.in_ok-maker.field-0,
    [],
    c.in_ok-push.ensures.items ∙ ap (λ (cs : List Client). cs ++ c.in_ok-maker.field-0 ∷ []) c.new-clients.ensures.items,
    c.in_ok-maker.ensures,
    refl,
    sym c.new-generator.ensures,
  );
}

pub loop-at-preserved : goal.loop-at-preserved
loop-at-preserved c =
    let (maker, askers, is, makes, count, are) = c.loop-at.invariant.some in
    let client : Client = c.in_ok-asker.field-0 in
    record {
      some = (
        maker,
        askers ++ client ∷ [],
        c.in_ok-push-2.ensures.items ∙ ap (λ (cs : List Client). cs ++ client ∷ []) is,
        makes,
        length-append askers (client ∷ []) ∙ ap (λ (n : ℕ). n + 1) count,
        askers_more c.args.seed c.args.queries 1 (stream_front c.args.seed 0) c.loop-at.generator c.asker.new.generator askers client are
            (subst (λ (n : ℕ). IsAsker c.args.seed c.args.queries n c.loop-at.generator client c.asker.new.generator) (omega (arith, count)) c.in_ok-asker.ensures),
      );
    }

pub returns : goal.returns
returns c =
    let (maker, askers, is, makes, count, are) = c.loop-at.invariant.some in
    record {
      maker = maker;
      askers = askers;
      is = is;
      first = makes;
      rest = c.loop-at.generator;
      others = are;
      count = count ∙ omega (arith, c.loop-at-test.false, c.loop-at.auto.at-end);
    }
