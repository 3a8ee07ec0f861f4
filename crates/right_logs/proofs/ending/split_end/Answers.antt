use Rattle.right_logs.proofs.Texts.{ended}
use Rattle.right_logs.proofs.ending.split_end.Goals as goal

pub returns : goal.returns
returns c =
    ended c.args.text.now c.split_at.result.0.now c.split_at.result.1.now c.split_last_line.result.0.now c.split_last_line.result.1.now
    c.split_at.ensures.by_index.0 (c.is_end.ensures c.if-not-is_end.false) c.split_last_line.ensures
