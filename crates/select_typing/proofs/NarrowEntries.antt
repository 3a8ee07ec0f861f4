-- The entries of FROM are as many as were written, and their tables as narrow as all tables.
use Rattle.std.proofs.Common.{◌≡◌, ℕ, zero, suc, ◌+◌, ◌<◌, ◌≤◌, ◌^◌, Bool, true, false, cond, List, [], ◌∷◌, ◌++◌, length, get_or, map, Ok, Err, refl, ap, sym, subst, ◌∙◌, arith}
use Rattle.std.specs.Prelude.{nat_lt}
use Rattle.std.specs.List.{list_any}
use Rattle.std.specs.Str.{bytes_eq}
use Rattle.std.proofs.lemmas.Bool.{ltb-false}
use Rattle.std.proofs.lemmas.List.{length-map, length_push}
use Rattle.cell_base.specs.declared.sql_state.SqlState.TheVariants.{S42712, S54000}
use Rattle.sql_tree.specs.declared.statement.TableRef.{TableRef}
use Rattle.sql_tree.specs.declared.table.Table.{Table}
use Rattle.typing_rules.specs.Outcome.{Outcome, and_then}
use Rattle.typing_rules.specs.Tables.{Numbered, table_named, table_from}
use Rattle.typing_rules.specs.Select.{Entry, name_or, entries_from, entries_of, entry_source, entry_sources}
use Rattle.expr_typing.specs.declared.entry.Entry.{Entry as Seen}
use Rattle.expr_typing.specs.Scope.{IsNarrow, sources}
use Rattle.typing_parts.specs.Narrow.{AreFewAndNarrow}
use Rattle.select_typing.specs.declared.from.FromEntry.{FromEntry}
use Rattle.select_typing.specs.Entries.{entry, entries, seen}

abbrev pub TablesNarrow : List Table → Type 0
TablesNarrow ts = (k : ℕ) (d : Table) → k < length ts → length (get_or ts k d).columns < 2 ^ 32

by_name : (b : Bool) (i : ℕ) (x : Table) (rest : Outcome Numbered) (t : Numbered) → length x.columns < 2 ^ 32
    → (rest ≡ Ok t → length t.table.columns < 2 ^ 32)
    → cond {A = Outcome Numbered} b (Ok (record { number = i; table = x })) rest ≡ Ok t → length t.table.columns < 2 ^ 32
by_name true i x rest t h later e =
    let same : record { number = i; table = x } ≡ t = cc in
    rw (ap (λ (n : Numbered). length n.table.columns) same) at h
by_name false i x rest t h later e = later e

table_narrow : (name : List ℕ) (i : ℕ) (ts : List Table) (t : Numbered) → TablesNarrow ts → table_from name i ts ≡ Ok t
    → length t.table.columns < 2 ^ 32
table_narrow name i [] t h e = cc
table_narrow name i (x ∷ xs) t h e =
    by_name (bytes_eq x.name name) i x (table_from name (i + 1) xs) t (h 0 x (omega arith))
    (table_narrow name (i + 1) xs t (λ k d within. h (suc k) d (omega arith))) e

abbrev pub EntriesNarrow : List Entry → Type 0
EntriesNarrow es = (k : ℕ) (d : Entry) → k < length es → length (get_or es k d).found.table.columns < 2 ^ 32

narrow-push : (es : List Entry) (e : Entry) → EntriesNarrow es → length e.found.table.columns < 2 ^ 32 → EntriesNarrow (es ++ e ∷ [])
narrow-push [] e h n zero d within = n
narrow-push [] e h n (suc k) d within = absurd (omega arith)
narrow-push (x ∷ xs) e h n zero d within = h 0 d (omega arith)
narrow-push (x ∷ xs) e h n (suc k) d within = narrow-push xs e (λ j d' w. h (suc j) d' (omega arith)) n k d (omega arith)

-- so many, and each narrow
record IsKept (many : ℕ) (all : List Entry) : Type 0 where
  pub as_many : length all ≡ many
  pub narrow : EntriesNarrow all

by_seen : (b : Bool) (rest : Outcome (List Entry)) (all : List Entry) (many : ℕ) → (rest ≡ Ok all → IsKept many all)
    → cond {A = Outcome (List Entry)} b (Err S42712) rest ≡ Ok all → IsKept many all
by_seen true rest all many h e = cc
by_seen false rest all many h e = h e

by_table : (o : Outcome Numbered) (f : Numbered → Outcome (List Entry)) (all : List Entry) (many : ℕ)
    → ((t : Numbered) → o ≡ Ok t → f t ≡ Ok all → IsKept many all)
    → and_then o f ≡ Ok all → IsKept many all
by_table (Ok t) f all many h e = h t refl e
by_table (Err code) f all many h e = cc

longer : (before : List Entry) (x : Entry) (n : ℕ) → length (before ++ x ∷ []) + n ≡ length before + suc n
longer before x n = omega (arith, length_push before x)

kept_from : (tables : List Table) (before : List Entry) (rs : List TableRef) (all : List Entry) → TablesNarrow tables → EntriesNarrow before
    → entries_from tables before rs ≡ Ok all
    → IsKept (length before + length rs) all
kept_from tables before [] all n h e =
    let same : before ≡ all = cc in
    record { as_many = omega (arith, ap length same); narrow = subst EntriesNarrow same h }
kept_from tables before (r ∷ rs) all n h e =
    by_table (table_named tables r.name) (λ t. cond {A = Outcome (List Entry)}
    (list_any (λ (x : Entry). bytes_eq x.name (name_or r.name r.alias)) before) (Err S42712)
    (entries_from tables (before ++ record { name = name_or r.name r.alias; found = t } ∷ []) rs)) all (length before + length (r ∷ rs))
    (λ t is f. by_seen (list_any (λ (x : Entry). bytes_eq x.name (name_or r.name r.alias)) before)
    (entries_from tables (before ++ record { name = name_or r.name r.alias; found = t } ∷ []) rs) all
    (length before + length (r ∷ rs))
    (λ g. let more = kept_from tables (before ++ record { name = name_or r.name r.alias; found = t } ∷ []) rs all n
    (narrow-push before (record { name = name_or r.name r.alias; found = t }) h (table_narrow r.name 0 tables t n is)) g in
    record { as_many = more.as_many ∙ longer before (record { name = name_or r.name r.alias; found = t }) (length rs); narrow = more.narrow }) f) e

by_number : (b : Bool) (rest : Outcome (List Entry)) (all : List Entry) (many : ℕ) → (rest ≡ Ok all → b ≡ false → IsKept many all)
    → cond {A = Outcome (List Entry)} b (Err S54000) rest ≡ Ok all → IsKept many all
by_number true rest all many h e = cc
by_number false rest all many h e = h e refl

kept : (tables : List Table) (from : List TableRef) (all : List Entry) → TablesNarrow tables → entries_of tables from ≡ Ok all
    → IsKept (length from) all
unfolding entries_of
kept tables from all n e =
    by_number (nat_lt 4 (length from)) (entries_from tables [] from) all (length from) (λ f _.
    let more : IsKept (0 + length from) all = kept_from tables [] from all n (λ k d w. absurd (omega arith)) f in
    record { as_many = let many = more.as_many in omega arith; narrow = more.narrow }) e

few_by : (b : Bool) (rest : Outcome (List Entry)) (all : List Entry) → cond {A = Outcome (List Entry)} b (Err S54000) rest ≡ Ok all → b ≡ false
few_by true rest all e = cc
few_by false rest all e = refl

lt_few : (n : ℕ) → n ≤ 4 → n < 2 ^ 32
lt_few n h = omega arith

seen_narrow : (es : List FromEntry) → EntriesNarrow (entries es) → (i : ℕ) (d : Seen) → i < length es
    → length (get_or (map seen es) i d).table.now.columns < 2 ^ 32
seen_narrow [] h i d within = absurd (omega arith)
seen_narrow (e ∷ es) h zero d within = h 0 (entry e) (omega arith)
seen_narrow (e ∷ es) h (suc i) d within = seen_narrow es (λ k x w. h (suc k) x (omega arith)) i d (omega arith)

few_entries : (tables : List Table) (from : List TableRef) (all : List Entry) → entries_of tables from ≡ Ok all → length from ≤ 4
unfolding entries_of
few_entries tables from all e = ltb-false 4 (length from) (few_by (nat_lt 4 (length from)) (entries_from tables [] from) all e)

-- ---- the scope of the entries

pub scope_many : (tables : List Table) (from : List TableRef) (es : List FromEntry) → AreFewAndNarrow tables → entries_of tables from ≡ Ok (entries es)
    → length (map seen es) ≡ length from
scope_many tables from es n e = length-map es seen ∙ sym (length-map es entry) ∙ (kept tables from (entries es) n.narrow e).as_many

pub scope_narrow : (tables : List Table) (from : List TableRef) (es : List FromEntry) → AreFewAndNarrow tables → entries_of tables from ≡ Ok (entries es)
    → IsNarrow (map seen es)
scope_narrow tables from es n e =
    let few : length from ≤ 4 = few_entries tables from (entries es) e in
    let many : length (map seen es) ≡ length from = scope_many tables from es n e in
    let same : length (map seen es) ≡ length es = length-map es seen in
    let shown : length (entries es) ≡ length es = length-map es entry in
    record {
      few = lt_few (length (map seen es)) (omega arith);
      narrow = λ i d within. seen_narrow es (kept tables from (entries es) n.narrow e).narrow i d (omega arith);
    }

pub sources_seen : (es : List FromEntry) → sources (map seen es) ≡ entry_sources (entries es)
sources_seen [] = refl
sources_seen (e ∷ es) = ap (λ ss. entry_source (entry e) ∷ ss) (sources_seen es)
