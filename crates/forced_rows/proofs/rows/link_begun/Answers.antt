use Rattle.std.proofs.Common.{[], ◌∷◌}
use Rattle.forced_rows.proofs.Closures.{edges_then}
use Rattle.forced_rows.proofs.rows.link_begun.Goals as goal

pub returns-clause-closure : goal.returns-clause-closure
returns-clause-closure c =
    edges_then c.args.reach.now.pairs (record { before = 0; after = c.args.number } ∷ []) (record { before = c.args.last; after = c.args.number } ∷ [])
    c.add_into_last.new.self.pairs c.add_into_last-2.new.self.pairs c.add_into_last.ensures.closure c.add_into_last-2.ensures.closure
