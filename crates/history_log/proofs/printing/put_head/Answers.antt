use Rattle.std.proofs.Common.{◌∙◌, ap, List, ℕ, ◌++◌}
use Rattle.history_log.proofs.Written.{head_text}
use Rattle.history_log.proofs.printing.put_head.Goals as goal

pub returns : goal.returns
returns c = head_text _ c.args.version c.args.level c.args.out.now.items c.put.new.out.items c.put_level.new.out.items _
    (c.in_ok-put.ensures ∙ ap (λ (x : List ℕ). c.args.out.now.items ++ x) c.start.ensures) c.in_ok-put_level.ensures c.put-2.ensures
