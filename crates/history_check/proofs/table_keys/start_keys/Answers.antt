use Rattle.std.proofs.Common.{List, refl, sym, subst, inr}
use Rattle.std.specs.List.{Contains}
use Rattle.cell_base.specs.declared.key.Key.{Key}
use Rattle.history_check.proofs.KeyLists.{kept_at}
use Rattle.history_check.proofs.table_keys.start_keys.Goals as goal

pub returns-clause-noted : goal.returns-clause-noted
returns-clause-noted c =
    subst (λ (keys : List Key). Contains keys c.args.key)
    (sym (kept_at c.args.keys.now (record { alloc = c.args.keys.now.alloc; tables = c.insert-2.new.self }) c.args.table c.insert.new.self
    c.in_ok-insert-2.ensures.updates.0))
    ((c.in_ok-insert.ensures.ok c.args.key).1 (inr refl))
