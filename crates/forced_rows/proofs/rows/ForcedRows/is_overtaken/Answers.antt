use Rattle.std.proofs.Common.{subst, arith}
use Rattle.forced_rows.specs.Sights.{AreBeforeSome}
use Rattle.forced_rows.proofs.rows.ForcedRows.is_overtaken.Goals as goal

pub has-requires : goal.has-requires
has-requires c = let few = c.size-size.ensures.few in let number = c.requires.number in omega arith

pub returns-in-Some : goal.returns-in-Some
returns-in-Some c =
    let before = subst (AreBeforeSome c.args.self.now.reach.pairs c.args.overtaken.now.seen.items) c.in-Some.is c.requires.before in
    (λ on. (before c.args.number).0 (c.has.ensures.0 on), λ any. c.has.ensures.1 ((before c.args.number).1 any))
