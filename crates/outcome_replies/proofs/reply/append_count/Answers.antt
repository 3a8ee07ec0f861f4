use Rattle.std.proofs.Common.{rules, ◌≡◌, ◌++◌, arith}
use Rattle.std.specs.Fmt.{decimal}
use Rattle.outcome_replies.proofs.Tags.{tag_no_zero}
use Rattle.outcome_replies.proofs.reply.append_count.Goals as goal

pub append_command_complete-requires-clause-tag : goal.append_command_complete-requires-clause-tag
append_command_complete-requires-clause-tag c =
    let is : c.deref.result.now ≡ c.args.word.now ++ decimal c.args.n = search rules in
    tag_no_zero c.args.word.now c.deref.result.now c.args.n (omega arith) c.requires.no_zero is
