use Rattle.std.proofs.Common.{List, Option, sym, refl, subst}
use Rattle.std.specs.Prelude.{OnOk}
use Rattle.std.specs.List.{Contains}
use Rattle.std.specs.Option.{IsSome}
use Rattle.cell_base.specs.declared.key.Key.{Key}
use Rattle.indexed_history.proofs.KeyLists.{gained_all, gained_key}
use Rattle.history_check.proofs.KeyLists.{keeps_updated, kept_at, found_keys}
use Rattle.history_check.proofs.table_keys.add_key.Goals as goal

pub returns-in-Some-clause-kept : goal.returns-in-Some-clause-kept
returns-in-Some-clause-kept c =
    keeps_updated c.args.keys.now (record { alloc = c.args.keys.now.alloc; tables = c.get_mut.follows.lender c.insert.new.self }) c.args.table
    c.insert.new.self
    ((c.get_mut.follows.holds c.insert.new.self).3 (subst (λ (o : Option (List Key)). IsSome o) c.in-Some.ensures.value refl)).0
    (λ key there. gained_all c.in-Some.list.now c.args.key c.insert.new.self c.insert.result c.insert.ensures.ok c.insert.ensures.err key
    (subst (λ (keys : List Key). Contains keys key) (found_keys c.args.keys.now c.args.table c.in-Some.list.now c.in-Some.ensures.value) there))

pub returns-in-Some-clause-noted : goal.returns-in-Some-clause-noted
returns-in-Some-clause-noted c =
    subst (λ (keys : List Key). OnOk c.insert.result (Contains keys c.args.key))
    (sym (kept_at c.args.keys.now (record { alloc = c.args.keys.now.alloc; tables = c.get_mut.follows.lender c.insert.new.self }) c.args.table c.insert.new.self
    ((c.get_mut.follows.holds c.insert.new.self).3 (subst (λ (o : Option (List Key)). IsSome o) c.in-Some.ensures.value refl)).0))
    (gained_key c.in-Some.list.now c.args.key c.insert.new.self c.insert.result c.insert.ensures.ok)
