use Rattle.std.proofs.Common.{refl, ◌∙◌, subst, List, ℕ}
use Rattle.order_test.proofs.Taken.{TakesInAt, takes_in}
use Rattle.cycle_report.proofs.pasts.take_in.Goals as goal

pub returns : goal.returns
returns c =
    record {
      session = refl;
      count = c.raise.ensures.count ∙ c.raise_all.ensures.count;
      exact =
          subst (λ (ys : List ℕ). TakesInAt c.args.own.now.tops.items ys c.raise.new.tops.items c.args.source.now.session c.args.number) c.deref.ensures.value
          (takes_in c.args.own.now.tops.items c.deref.result.now c.raise_all.new.tops.items c.raise.new.tops.items c.args.source.now.session c.args.number
          c.raise_all.ensures.count c.raise_all.ensures.exact c.raise.ensures.exact);
    }
