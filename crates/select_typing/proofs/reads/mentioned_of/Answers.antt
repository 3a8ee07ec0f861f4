-- The columns that were marked are those that are mentioned.
use Rattle.std.proofs.Common.{◌≡◌, ℕ, Bool, false, List, subst, length, replicate}
use Rattle.std.specs.Prelude.{IfOk}
use Rattle.std.specs.List.{list_any}
use Rattle.typing_rules.specs.Select.{mentions_table}
use Rattle.typing_parts.specs.Marked.{IsMarked}
use Rattle.typing_parts.proofs.Marking.{columns_marked}
use Rattle.select_typing.specs.Entries.{entries}
use Rattle.select_typing.specs.Read.{exprs}
use Rattle.select_typing.proofs.reads.mentioned_of.Goals as goal

pub returns : goal.returns
returns c =
    let none : c.in_ok-marks.marks ≡ replicate {A = Bool} c.len.result false = c.in_ok-marks.ensures in
    let many : c.len.result ≡ length c.args.entry.now.found.table.now.columns = c.len.ensures in
    let p = λ (k : ℕ). list_any (mentions_table c.args.entry.now.found.number k 0 (entries c.args.entries.now)) (exprs c.args.read.now) in
    let marked : IsMarked (replicate {A = Bool} (length c.args.entry.now.found.table.now.columns) false) c.mark_read.new.marks p = rw
    (← many, ← none) c.mark_read.ensures in
    let e = columns_marked c.args.entry.now.found.table.now c.mark_read.new.marks p marked in
    subst (λ (t : List ℕ). IfOk c.columns.result (λ columns. columns ≡ t)) e c.columns.ensures
