use Rattle.std.proofs.Common.{◌++◌, ℕ, ap, ◌∙◌}
use Rattle.std.specs.Prelude.{codes}
use Rattle.std.specs.Fmt.{decimal}
use Rattle.history_summary.proofs.Lines.{counted_text}
use Rattle.history_summary.proofs.line.put_counts.Goals as goal

pub returns : goal.returns
returns c =
    counted_text c.put_named-6.result c.args.counts.now c.args.out.now.items c.put_named.new.out.items c.put_named-2.new.out.items c.put_named-3.new.out.items
    c.put_named-4.new.out.items c.put_named-5.new.out.items c.put_named-6.new.out.items c.in_ok-put_named.ensures
    (c.in_ok-put_named-2.ensures ∙ ap (λ (n : ℕ). c.put_named.new.out.items ++ (codes " transactions " ++ decimal n)) c.from.ensures)
    c.in_ok-put_named-3.ensures c.in_ok-put_named-4.ensures c.in_ok-put_named-5.ensures c.put_named-6.ensures
