use Rattle.std.proofs.Common.{List, ℕ, Option, ap, sym, subst, refl}
use Rattle.std.specs.Option.{IsSome}
use Rattle.std.specs.List.Sorted.{IsStrictlyIncreasing}
use Rattle.indexed_history.specs.Index.{GainsNumber}
use Rattle.indexed_history.proofs.Cells.{found_at, gains_at, gains_from, same_lists, on_ok}
use Rattle.cell_writers.proofs.Noted.{index_of}
use Rattle.cell_writers.proofs.writers.note_writer.Goals as goal

pub insert-requires : goal.insert-requires
insert-requires c =
    subst IsStrictlyIncreasing (found_at (index_of c.args.writers.now) c.args.cell.now c.in-Some.numbers.now c.in-Some.ensures.value) (c.requires.ascending c.args.cell.now)

pub returns-in-Some-clause-ok : goal.returns-in-Some-clause-ok
returns-in-Some-clause-ok c =
    on_ok _ _ c.insert.result (λ gains. gains_at (index_of c.args.writers.now)
    (record { alloc = c.args.writers.now.alloc; lists = c.get_mut.follows.lender c.insert.new.self }) c.args.cell.now c.args.cell.now c.insert.new.self refl
    ((c.get_mut.follows.holds c.insert.new.self).3 (subst (λ (o : Option (List ℕ)). IsSome o) c.in-Some.ensures.value refl)).0 c.args.number
    (subst (λ (ns : List ℕ). GainsNumber ns c.args.number c.insert.new.self)
    (sym (found_at (index_of c.args.writers.now) c.args.cell.now c.in-Some.numbers.now c.in-Some.ensures.value)) gains)) c.insert.ensures.ok

pub returns-in-None-clause-ok : goal.returns-in-None-clause-ok
returns-in-None-clause-ok c =
    on_ok _ _ c.start_list.result (λ gains. gains_from (index_of c.args.writers.now) (record { alloc = c.args.writers.now.alloc; lists = c.get_mut.follows.lender-at-none })
    (index_of c.start_list.new.writers) c.args.cell.now c.args.number
    (same_lists (index_of c.args.writers.now) (record { alloc = c.args.writers.now.alloc; lists = c.get_mut.follows.lender-at-none })
    (ap (λ m. m.entries) c.get_mut.follows.holds-at-none)) gains) c.start_list.ensures.ok
