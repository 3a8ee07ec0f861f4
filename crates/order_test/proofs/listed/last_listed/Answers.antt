use Rattle.std.proofs.Common.{List, ℕ, ◌≤◌, Option, length, ap, sym, refl, subst}
use Rattle.std.specs.Prelude.{IfNone}
use Rattle.std.specs.List.{Contains}
use Rattle.std.proofs.lemmas.Option.{slice_get_read}
use Rattle.cell_writers.specs.declared.writers.CellWriters.{CellWriters}
use Rattle.order_test.specs.Listed.{numbers_in}
use Rattle.order_test.proofs.listed.last_listed.Goals as goal

pub returns-clause-none : goal.returns-clause-none
returns-clause-none c =
    subst (λ (ns : List ℕ). IfNone c.last_writer.result ((other : ℕ) → Contains ns other → other ≤ c.args.limit → ⊥))
    (ap (λ (o : Option CellWriters). numbers_in o c.args.cell.now)
    (sym (slice_get_read c.args.lists.now (length c.args.lists.now) c.args.session c.index-lists-session.result refl c.requires.within c.index-lists-session.is)))
    c.last_writer.ensures.none
