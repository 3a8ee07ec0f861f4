-- The entries of FROM, one by one.
use Rattle.std.proofs.Common.{◌≡◌, ℕ, ◌+◌, ◌<◌, Bool, true, false, cond, List, [], ◌∷◌, ◌++◌, length, drop, get_or, Ok, Err, refl, ap, sym, ◌∙◌}
use Rattle.std.specs.List.{list_any}
use Rattle.std.specs.Str.{bytes_eq}
use Rattle.cell_base.specs.declared.sql_fault.SqlFault.{SqlFault}
use Rattle.cell_base.specs.declared.sql_fault.SqlFault.TheVariants.{State, Memory}
use Rattle.cell_base.specs.declared.sql_state.SqlState.{SqlState}
use Rattle.cell_base.specs.declared.sql_state.SqlState.TheVariants.{S42712}
use Rattle.sql_tree.specs.declared.statement.TableRef.{TableRef}
use Rattle.sql_tree.specs.declared.table.Table.{Table}
use Rattle.typing_rules.specs.Outcome.{Outcome, and_then}
use Rattle.typing_rules.specs.Tables.{Numbered, table_named}
use Rattle.typing_rules.specs.Select.{Entry, name_or, entries_from}
use Rattle.typing_rules.specs.Gives.{GivesBy}
use Rattle.select_typing.specs.declared.from.FromEntry.{FromEntry}
use Rattle.select_typing.specs.Entries.{entries, entry_of}
use Rattle.typing_rules.proofs.Lists.{cut_at}

chosen : (b : Bool) (e : Entry) (f : Entry → Outcome (List Entry))
    → cond {A = Outcome (List Entry)} b (Err S42712) (f e) ≡ and_then (cond {A = Outcome Entry} b (Err S42712) (Ok e)) f
chosen true e f = refl
chosen false e f = refl

by_table : (o : Outcome Numbered) (b : Bool) (name : List ℕ) (f : Entry → Outcome (List Entry))
    → and_then o (λ t. cond {A = Outcome (List Entry)} b (Err S42712) (f (record { name = name; found = t })))
    ≡ and_then (and_then o (λ t. cond {A = Outcome Entry} b (Err S42712) (Ok (record { name = name; found = t })))) f
by_table (Ok t) b name f = chosen b (record { name = name; found = t }) f
by_table (Err code) b name f = refl

-- one entry, and then the others
entries_cons : (tables : List Table) (before : List Entry) (r : TableRef) (rs : List TableRef)
    → entries_from tables before (r ∷ rs) ≡ and_then (entry_of tables before r) (λ e. entries_from tables (before ++ e ∷ []) rs)
entries_cons tables before r rs =
    by_table (table_named tables r.name) (list_any (λ (e : Entry). bytes_eq e.name (name_or r.name r.alias)) before) (name_or r.name r.alias)
    (λ e. entries_from tables (before ++ e ∷ []) rs)

by_entry : (tables : List Table) (before after : List Entry) (rs : List TableRef) (o : Outcome Entry)
    → and_then o (λ e. Ok (before ++ e ∷ [])) ≡ Ok after
    → and_then o (λ e. entries_from tables (before ++ e ∷ []) rs) ≡ entries_from tables after rs
by_entry tables before after rs (Ok e) h = let same : before ++ e ∷ [] ≡ after = cc in ap (λ es. entries_from tables es rs) same
by_entry tables before after rs (Err code) h = cc

by_fault : (tables : List Table) (before : List Entry) (rs : List TableRef) (o : Outcome Entry) (code : SqlState)
    → and_then o (λ e. Ok (before ++ e ∷ [])) ≡ Err code
    → and_then o (λ e. entries_from tables (before ++ e ∷ []) rs) ≡ Err code
by_fault tables before rs (Ok e) code h = cc
by_fault tables before rs (Err other) code h = cc

pub entries_more : (tables : List Table) (all : List TableRef) (i : ℕ) (r : TableRef) (before after : List FromEntry) (o : Outcome (List Entry))
    → i < length all → r ≡ get_or all i r
    → and_then (entry_of tables (entries before) r) (λ e. Ok (entries before ++ e ∷ [])) ≡ Ok (entries after)
    → entries_from tables (entries before) (drop i all) ≡ o
    → entries_from tables (entries after) (drop (i + 1) all) ≡ o
entries_more tables all i r before after o within is found was =
    let one : entries_from tables (entries before) (r ∷ drop (i + 1) all) ≡ entries_from tables (entries after) (drop (i + 1) all) =
    entries_cons tables (entries before) r (drop (i + 1) all)
    ∙ by_entry tables (entries before) (entries after) (drop (i + 1) all) (entry_of tables (entries before) r) found in
    sym one ∙ ap (entries_from tables (entries before)) (sym (cut_at all i r within is)) ∙ was

pub entries_fault : (tables : List Table) (all : List TableRef) (i : ℕ) (r : TableRef) (before : List FromEntry) (code : SqlState)
    (o : Outcome (List Entry)) → i < length all → r ≡ get_or all i r
    → and_then (entry_of tables (entries before) r) (λ e. Ok (entries before ++ e ∷ [])) ≡ Err code
    → entries_from tables (entries before) (drop i all) ≡ o → o ≡ Err code
entries_fault tables all i r before code o within is found was =
    sym was ∙ ap (entries_from tables (entries before)) (cut_at all i r within is) ∙ entries_cons tables (entries before) r (drop (i + 1) all)
    ∙ by_fault tables (entries before) (drop (i + 1) all) (entry_of tables (entries before) r) code found

-- ---- one entry

pub entry_seen : (tables : List Table) (before : List Entry) (r : TableRef) (t : Numbered) (name : List ℕ) → Ok t ≡ table_named tables r.name
    → name ≡ name_or r.name r.alias
    → list_any (λ (e : Entry). bytes_eq e.name name) before ≡ true → Err S42712 ≡ entry_of tables before r
entry_seen tables before r t name found named b = rw (← found, ← named, b) refl

pub entry_new : (tables : List Table) (before : List Entry) (r : TableRef) (t : Numbered) (name : List ℕ) → Ok t ≡ table_named tables r.name
    → name ≡ name_or r.name r.alias
    → list_any (λ (e : Entry). bytes_eq e.name name) before ≡ false → Ok (record { name = name; found = t }) ≡ entry_of tables before r
entry_new tables before r t name found named b = rw (← found, ← named, b) refl

pub entries_failed : (tables : List Table) (all : List TableRef) (i : ℕ) (r : TableRef) (before : List FromEntry) (why : SqlFault)
    (o : Outcome (List Entry)) → i < length all → r ≡ get_or all i r
    → GivesBy entries (and_then (entry_of tables (entries before) r) (λ e. Ok (entries before ++ e ∷ []))) (Err why)
    → entries_from tables (entries before) (drop i all) ≡ o
    → GivesBy entries o (Err why)
entries_failed tables all i r before (State code) o within is found was = entries_fault tables all i r before code o within is found was
entries_failed tables all i r before Memory o within is found was = tt
