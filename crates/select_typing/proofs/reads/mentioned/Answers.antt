-- An entry's table is narrow, since all are.
use Rattle.std.proofs.Common.{arith}
use Rattle.select_typing.proofs.ReadColumns.{narrow_at}
use Rattle.select_typing.proofs.reads.mentioned.Goals as goal

pub mentioned_of-requires-clause-narrow : goal.mentioned_of-requires-clause-narrow
mentioned_of-requires-clause-narrow c =
    narrow_at c.args.entries.now c.loop-entry.entry-index c.entry-item.result c.requires (omega arith) c.entry-item.is
