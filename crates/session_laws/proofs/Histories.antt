-- A history keeps rows whole where the events of each of its sessions do.
use Rattle.std.proofs.Common.{◌≡◌, inl, inr, ◌⊎◌, ℕ, zero, suc, ◌+◌, ◌<◌, ◌≤◌, ◌==◌, true, false, List, [], ◌∷◌, length, drop, Option, Some, None, refl, sym, ap, subst, ◌∙◌, arith}
use Rattle.std.specs.List.{slice_get, Contains}
use Rattle.std.proofs.lemmas.Bool.{cases_eq, cases_order, cond_both, eqb-true, false≢true}
use Rattle.cell_base.specs.declared.cell.Cell.{Cell}
use Rattle.cell_base.specs.declared.cell.Cell.TheVariants.{Presence, Field}
use Rattle.cell_base.specs.declared.key.Key.{Key}
use Rattle.cell_base.specs.declared.value.Value.{Value}
use Rattle.cell_base.specs.declared.value.Value.TheVariants as value
use Rattle.sql_tree.specs.declared.table.Column.{Column}
use Rattle.sql_tree.specs.declared.table.Table.{Table}
use Rattle.history_core.specs.declared.event.Event.{Event}
use Rattle.history_core.specs.declared.event.Event.TheVariants.{Open, Close, Define, Look, Begin, Scan, Read, Own, Write, Commit, Rollback, Show}
use Rattle.history_core.specs.Events.{session_in, is_begin, is_end}
use Rattle.history_core.specs.Transactions.{IsOf, IsStart}
use Rattle.history_core.specs.Chronicle.{own_events}
use Rattle.history_core.proofs.Places.{start_unique, start_session}
use Rattle.history_core.proofs.RowLists.{slice_get-drop}
use Rattle.session_laws.specs.Openings.{AreOfOneSession}
use Rattle.session_laws.proofs.OwnEvents.{own_here, own_other, own_all, own_none, all_of_it}
use Rattle.statement_laws.specs.WholeRows.{IsField, NeedsWholeRows, WritesBetween, ShowsRow, WasShown, KeepsRows}
use Rattle.statement_laws.specs.RowCourses.{fields_from, fields_in, fields_of_row, shown_after, owed_after, MayWrite}
use Rattle.session_laws.specs.Alone.{MayFollow, shown_following, owed_following, KeepsRowsFrom, KeepsRowsAlone}

-- ---- lists

none_there : {A : Type 0} (x : A) → Contains [] x → ⊥
none_there x there = let h = there.1 in absurd (omega arith)

cons_cases : {A : Type 0} (x : A) (xs : List A) (y : A) → Contains (x ∷ xs) y → (x ≡ y) ⊎ Contains xs y
cons_cases x xs y (zero, within, is) = inl is
cons_cases x xs y (suc k, within, is) = inr (k, omega arith, is)

later_there : {A : Type 0} (x : A) (xs : List A) (y : A) → Contains xs y → Contains (x ∷ xs) y
later_there x xs y there = (suc there.0, let h = there.1 in omega arith, there.2)

-- ---- the fields of a row

field_there : (table column : ℕ) (key : Key) (key_column i : ℕ) (columns : List Column) → i ≤ column → column < i + length columns → (column ≡ key_column → ⊥) →
    Contains (fields_from table key key_column i columns) (Field table key column)
field_there table column key key_column i [] above below apart = absurd (omega arith)
field_there table column key key_column i (c ∷ cs) above below apart =
    cond_both (i == key_column) (fields_from table key key_column (i + 1) cs) (Field table key i ∷ fields_from table key key_column (i + 1) cs)
    (λ (cells : List Cell). Contains cells (Field table key column))
    (λ is. let here : i ≡ key_column = eqb-true i key_column is in
    let other : i ≡ column → ⊥ = λ same. apart (sym same ∙ here) in
    field_there table column key key_column (i + 1) cs (omega (arith, above, other)) (omega (arith, below)) apart)
    (λ _. elim (cases_eq i column) [
      | inl same ↦ (0, omega arith, ap (λ (n : ℕ). Field table key n) same)
      | inr other ↦
          later_there (Field table key i) (fields_from table key key_column (i + 1) cs) (Field table key column)
          (field_there table column key key_column (i + 1) cs (omega (arith, above, other)) (omega (arith, below)) apart)
    ])

field_of_row : (tables : List Table) (table column : ℕ) (key : Key) → IsField tables table column → Contains (fields_of_row tables table key) (Field table key column)
field_of_row tables table column key field =
    subst (λ (t : Option Table). Contains (fields_in table key t) (Field table key column)) (sym field.is)
    (field_there table column key field.of_table.key 0 field.of_table.columns (omega arith) (let h = field.within in omega arith) field.apart)

-- ---- what an event leaves

-- a row that was shown before the cell had its value, or by it
by_value : (shown : List (ℕ × Key)) (cell : Cell) (v : Value) (table : ℕ) (key : Key) → Contains (shown_after shown cell v) (table, key) →
    Contains shown (table, key) ⊎ ((cell ≡ Presence table key) × (v ≡ value.Flag true))
by_value shown (Presence t k) (value.Flag true) table key there = elim (cons_cases (t, k) shown (table, key) there) [
  | inl same ↦ inr (ap (λ (row : ℕ × Key). Presence row.0 row.1) same, refl)
  | inr old ↦ inl old
]
by_value shown (Presence t k) (value.Flag false) table key there = inl there
by_value shown (Presence t k) value.Unset table key there = inl there
by_value shown (Presence t k) value.Null table key there = inl there
by_value shown (Presence t k) (value.Int n) table key there = inl there
by_value shown (Presence t k) (value.Wide n) table key there = inl there
by_value shown (Presence t k) (value.Text text) table key there = inl there
by_value shown (Field t k c) v table key there = inl there

-- a row that was shown before the event, or by it
shown_step : (shown : List (ℕ × Key)) (e : Event) (table : ℕ) (key : Key) → Contains (shown_following shown e) (table, key) →
    (Contains shown (table, key) × (is_begin e ≡ false)) ⊎ ShowsRow e table key
shown_step shown (Begin s level) table key there = absurd (none_there (table, key) there)
shown_step shown (Read s cell source count word v) table key there =
    elim (by_value shown cell v table key there) [ inl old ↦ inl (old, refl) | inr new ↦ inr new ]
shown_step shown (Own s cell v) table key there = elim (by_value shown cell v table key there) [ inl old ↦ inl (old, refl) | inr new ↦ inr new ]
shown_step shown (Open s) table key there = inl (there, refl)
shown_step shown (Close s) table key there = inl (there, refl)
shown_step shown (Define s name) table key there = inl (there, refl)
shown_step shown (Look s count) table key there = inl (there, refl)
shown_step shown (Scan s t keys) table key there = inl (there, refl)
shown_step shown (Write s cell v) table key there = inl (there, refl)
shown_step shown (Commit s) table key there = inl (there, refl)
shown_step shown (Rollback s) table key there = inl (there, refl)
shown_step shown (Show s number) table key there = inl (there, refl)

-- what a write pays
plain_write : (owed : List Cell) (cell : Cell) → (owed ≡ []) ⊎ ((rest : List Cell) × (owed ≡ cell ∷ rest)) →
    (owed ≡ []) ⊎ ((rest : List Cell) × ((owed ≡ cell ∷ rest) × (drop 1 owed ≡ rest)))
plain_write owed cell (inl none) = inl none
plain_write owed cell (inr some) = inr (some.0, (some.1, ap (λ (cells : List Cell). drop 1 cells) some.1))

written : (tables : List Table) (owed : List Cell) (cell : Cell) (v : Value) → MayWrite tables owed cell v →
    (owed ≡ []) ⊎ ((rest : List Cell) × ((owed ≡ cell ∷ rest) × (owed_after tables owed cell v ≡ rest)))
written tables owed (Presence table key) (value.Flag true) may = inl may.0
written tables owed (Presence table key) (value.Flag false) may = plain_write owed (Presence table key) may
written tables owed (Presence table key) value.Unset may = plain_write owed (Presence table key) may
written tables owed (Presence table key) value.Null may = plain_write owed (Presence table key) may
written tables owed (Presence table key) (value.Int n) may = plain_write owed (Presence table key) may
written tables owed (Presence table key) (value.Wide n) may = plain_write owed (Presence table key) may
written tables owed (Presence table key) (value.Text text) may = plain_write owed (Presence table key) may
written tables owed (Field table key column) v may = plain_write owed (Field table key column) may

-- nothing is owed at an event that needs whole rows
needs_none : (tables : List Table) (shown : List (ℕ × Key)) (owed : List Cell) (e : Event) → NeedsWholeRows e → MayFollow tables shown owed e → owed ≡ []
needs_none tables shown owed (Open s) needs may = may
needs_none tables shown owed (Close s) needs may = may
needs_none tables shown owed (Define s name) needs may = may
needs_none tables shown owed (Look s count) needs may = may
needs_none tables shown owed (Begin s level) needs may = may
needs_none tables shown owed (Scan s t keys) needs may = may
needs_none tables shown owed (Read s cell source count word v) needs may = may.0
needs_none tables shown owed (Own s cell v) needs may = may
needs_none tables shown owed (Write s cell v) needs may = absurd needs
needs_none tables shown owed (Commit s) needs may = may
needs_none tables shown owed (Rollback s) needs may = absurd needs
needs_none tables shown owed (Show s number) needs may = may

-- the event is a write of the cell
abbrev IsWriteOf : Cell → Event → Type 0
IsWriteOf cell e = (session : ℕ) × ((v : Value) × (e ≡ Write session cell v))

nothing_owed : (owed : List Cell) (cell : Cell) → owed ≡ [] → Contains owed cell → ⊥
nothing_owed owed cell none there = none_there cell (subst (λ (cells : List Cell). Contains cells cell) none there)

-- an owed field is paid by the event, or stays owed
pays_write : (tables : List Table) (owed : List Cell) (s : ℕ) (cell written_cell : Cell) (v : Value) → MayWrite tables owed written_cell v → Contains owed cell →
    IsWriteOf cell (Write s written_cell v) ⊎ Contains (owed_after tables owed written_cell v) cell
pays_write tables owed s cell written_cell v may there = elim (written tables owed written_cell v may) [
  | inl none ↦ absurd (nothing_owed owed cell none there)
  | inr some ↦ elim (cons_cases written_cell some.0 cell (subst (λ (cells : List Cell). Contains cells cell) some.1.0 there)) [
    | inl same ↦ inl (s, (v, ap (λ (c : Cell). Write s c v) same))
    | inr rest ↦ inr (subst (λ (cells : List Cell). Contains cells cell) (sym some.1.1) rest)
  ]
]

pays : (tables : List Table) (shown : List (ℕ × Key)) (owed : List Cell) (e : Event) (cell : Cell) → is_end e ≡ false → MayFollow tables shown owed e →
    Contains owed cell → IsWriteOf cell e ⊎ Contains (owed_following tables owed e) cell
pays tables shown owed (Write s c v) cell goes may there = pays_write tables owed s cell c v may there
pays tables shown owed (Commit s) cell goes may there = absurd (false≢true (sym goes))
pays tables shown owed (Rollback s) cell goes may there = absurd (false≢true (sym goes))
pays tables shown owed (Open s) cell goes may there = absurd (nothing_owed owed cell may there)
pays tables shown owed (Close s) cell goes may there = absurd (nothing_owed owed cell may there)
pays tables shown owed (Define s name) cell goes may there = absurd (nothing_owed owed cell may there)
pays tables shown owed (Look s count) cell goes may there = absurd (nothing_owed owed cell may there)
pays tables shown owed (Begin s level) cell goes may there = absurd (nothing_owed owed cell may there)
pays tables shown owed (Scan s t keys) cell goes may there = absurd (nothing_owed owed cell may there)
pays tables shown owed (Read s c source count word v) cell goes may there = absurd (nothing_owed owed cell may.0 there)
pays tables shown owed (Own s c v) cell goes may there = absurd (nothing_owed owed cell may there)
pays tables shown owed (Show s number) cell goes may there = absurd (nothing_owed owed cell may there)

-- ---- what is owed is paid before the rows have to be whole

record PaidBefore (ys : List Event) (m s : ℕ) (cell : Cell) : Type 0 where
  place : ℕ
  event : Event
  below : place < m
  is : slice_get ys place ≡ Some event
  same : session_in event ≡ s
  pays_it : IsWriteOf cell event

paid_later : (y : Event) (ys : List Event) (m s : ℕ) (cell : Cell) → PaidBefore ys m s cell → PaidBefore (y ∷ ys) (suc m) s cell
paid_later y ys m s cell paid = record {
  place = suc paid.place;
  event = paid.event;
  below = let h = paid.below in omega arith;
  is = paid.is;
  same = paid.same;
  pays_it = paid.pays_it;
}

paid : (tables : List Table) (s : ℕ) (ys : List Event) (shown : List (ℕ × Key)) (owed : List Cell) → KeepsRowsFrom tables shown owed (own_events ys s) →
    (m : ℕ) (e : Event) → slice_get ys m ≡ Some e → session_in e ≡ s → NeedsWholeRows e →
    ((r : ℕ) (f : Event) → r < m → slice_get ys r ≡ Some f → session_in f ≡ s → is_end f ≡ false) → (cell : Cell) → Contains owed cell → PaidBefore ys m s cell
paid tables s [] shown owed keeps m e is same needs goes cell there = cc
paid tables s (y ∷ ys) shown owed keeps zero e is same needs goes cell there =
    let here : y ≡ e = cc in
    let both = subst (λ (es : List Event). KeepsRowsFrom tables shown owed es) (own_here y ys s (ap session_in here ∙ same)) keeps in
    absurd (nothing_owed owed cell (needs_none tables shown owed y (subst NeedsWholeRows (sym here) needs) both.0) there)
paid tables s (y ∷ ys) shown owed keeps (suc m) e is same needs goes cell there = elim (cases_eq (session_in y) s) [
  | inr apart ↦
      paid_later y ys m s cell (paid tables s ys shown owed (subst (λ (es : List Event). KeepsRowsFrom tables shown owed es) (own_other y ys s apart) keeps) m e is same needs
      (λ r f under at of_it. goes (suc r) f (omega arith) at of_it) cell there)
  | inl here ↦
      let both = subst (λ (es : List Event). KeepsRowsFrom tables shown owed es) (own_here y ys s here) keeps in
      elim (pays tables shown owed y cell (goes 0 y (omega arith) refl here) both.0 there) [
        | inl it ↦ record { place = 0; event = y; below = omega arith; is = refl; same = here; pays_it = it }
        | inr on ↦
            paid_later y ys m s cell (paid tables s ys (shown_following shown y) (owed_following tables owed y) both.1 m e is same needs
            (λ r f under at of_it. goes (suc r) f (omega arith) at of_it) cell on)
      ]
]

-- ---- an event of the session, and what was shown before it

record ShownBefore (xs : List Event) (p s table : ℕ) (key : Key) : Type 0 where
  place : ℕ
  event : Event
  below : place < p
  is : slice_get xs place ≡ Some event
  same : session_in event ≡ s
  shows : ShowsRow event table key
  quiet : (r : ℕ) (f : Event) → place < r → r < p → slice_get xs r ≡ Some f → session_in f ≡ s → is_begin f ≡ false

-- the row was shown at first, and no transaction began since
record StillShown (shown : List (ℕ × Key)) (xs : List Event) (p s table : ℕ) (key : Key) : Type 0 where
  there : Contains shown (table, key)
  quiet : (r : ℕ) (f : Event) → r < p → slice_get xs r ≡ Some f → session_in f ≡ s → is_begin f ≡ false

record Reached (tables : List Table) (shown : List (ℕ × Key)) (xs : List Event) (p s : ℕ) (e : Event) : Type 0 where
  rows : List (ℕ × Key)
  cells : List Cell
  may : MayFollow tables rows cells e
  on : KeepsRowsFrom tables (shown_following rows e) (owed_following tables cells e) (own_events (drop (suc p) xs) s)
  seen : (table : ℕ) (key : Key) → Contains rows (table, key) → StillShown shown xs p s table key ⊎ ShownBefore xs p s table key

before_later : (x : Event) (xs : List Event) (p s table : ℕ) (key : Key) → ShownBefore xs p s table key → ShownBefore (x ∷ xs) (suc p) s table key
before_later x xs p s table key at = record {
  place = suc at.place;
  event = at.event;
  below = let h = at.below in omega arith;
  is = at.is;
  same = at.same;
  shows = at.shows;
  quiet = quiet;
}
  where
    quiet : (r : ℕ) (f : Event) → suc at.place < r → r < suc p → slice_get (x ∷ xs) r ≡ Some f → session_in f ≡ s → is_begin f ≡ false
    quiet zero f low high is same = absurd (omega arith)
    quiet (suc r) f low high is same = at.quiet r f (omega arith) (omega arith) is same

still_later : (shown : List (ℕ × Key)) (x : Event) (xs : List Event) (p s table : ℕ) (key : Key) → (session_in x ≡ s → is_begin x ≡ false) →
    Contains shown (table, key) → ((r : ℕ) (f : Event) → r < p → slice_get xs r ≡ Some f → session_in f ≡ s → is_begin f ≡ false) →
    StillShown shown (x ∷ xs) (suc p) s table key
still_later shown x xs p s table key first there on = record { there = there; quiet = quiet }
  where
    quiet : (r : ℕ) (f : Event) → r < suc p → slice_get (x ∷ xs) r ≡ Some f → session_in f ≡ s → is_begin f ≡ false
    quiet zero f under is same = let here : x ≡ f = cc in ap is_begin (sym here) ∙ first (ap session_in here ∙ same)
    quiet (suc r) f under is same = on r f (omega arith) is same

first_shown : (x : Event) (xs : List Event) (p s table : ℕ) (key : Key) → session_in x ≡ s → ShowsRow x table key →
    ((r : ℕ) (f : Event) → r < p → slice_get xs r ≡ Some f → session_in f ≡ s → is_begin f ≡ false) → ShownBefore (x ∷ xs) (suc p) s table key
first_shown x xs p s table key same shows on = record { place = 0; event = x; below = omega arith; is = refl; same = same; shows = shows; quiet = quiet }
  where
    quiet : (r : ℕ) (f : Event) → 0 < r → r < suc p → slice_get (x ∷ xs) r ≡ Some f → session_in f ≡ s → is_begin f ≡ false
    quiet zero f low high is same = absurd (omega arith)
    quiet (suc r) f low high is same = on r f (omega arith) is same

seen_step : (shown : List (ℕ × Key)) (x : Event) (xs : List Event) (p s table : ℕ) (key : Key) → session_in x ≡ s →
    StillShown (shown_following shown x) xs p s table key ⊎ ShownBefore xs p s table key →
    StillShown shown (x ∷ xs) (suc p) s table key ⊎ ShownBefore (x ∷ xs) (suc p) s table key
seen_step shown x xs p s table key same (inr at) = inr (before_later x xs p s table key at)
seen_step shown x xs p s table key same (inl still) = elim (shown_step shown x table key still.there) [
  | inl old ↦ inl (still_later shown x xs p s table key (λ _. old.1) old.0 still.quiet)
  | inr new ↦ inr (first_shown x xs p s table key same new still.quiet)
]

seen_skip : (shown : List (ℕ × Key)) (x : Event) (xs : List Event) (p s table : ℕ) (key : Key) → (session_in x ≡ s → ⊥) →
    StillShown shown xs p s table key ⊎ ShownBefore xs p s table key → StillShown shown (x ∷ xs) (suc p) s table key ⊎ ShownBefore (x ∷ xs) (suc p) s table key
seen_skip shown x xs p s table key apart (inr at) = inr (before_later x xs p s table key at)
seen_skip shown x xs p s table key apart (inl still) = inl (still_later shown x xs p s table key (λ same. absurd (apart same)) still.there still.quiet)

reached : (tables : List Table) (s : ℕ) (xs : List Event) (shown : List (ℕ × Key)) (owed : List Cell) → KeepsRowsFrom tables shown owed (own_events xs s) →
    (p : ℕ) (e : Event) → slice_get xs p ≡ Some e → session_in e ≡ s → Reached tables shown xs p s e
reached tables s [] shown owed keeps p e is same = cc
reached tables s (x ∷ xs) shown owed keeps zero e is same =
    let here : x ≡ e = cc in
    let both = subst (λ (es : List Event). KeepsRowsFrom tables shown owed es) (own_here x xs s (ap session_in here ∙ same)) keeps in
    subst (λ (f : Event). Reached tables shown (x ∷ xs) 0 s f) here (record {
      rows = shown;
      cells = owed;
      may = both.0;
      on = both.1;
      seen = λ table key there. inl (record { there = there; quiet = λ r f under at of_it. absurd (omega arith) });
    })
reached tables s (x ∷ xs) shown owed keeps (suc p) e is same = elim (cases_eq (session_in x) s) [
  | inl here ↦
      let both = subst (λ (es : List Event). KeepsRowsFrom tables shown owed es) (own_here x xs s here) keeps in
      let on = reached tables s xs (shown_following shown x) (owed_following tables owed x) both.1 p e is same in
      record {
        rows = on.rows;
        cells = on.cells;
        may = on.may;
        on = on.on;
        seen = λ table key there. seen_step shown x xs p s table key here (on.seen table key there);
      }
  | inr apart ↦
      let on = reached tables s xs shown owed (subst (λ (es : List Event). KeepsRowsFrom tables shown owed es) (own_other x xs s apart) keeps) p e is same in
      record {
        rows = on.rows;
        cells = on.cells;
        may = on.may;
        on = on.on;
        seen = λ table key there. seen_skip shown x xs p s table key apart (on.seen table key there);
      }
]

-- ---- the whole history

-- an event between the start of a transaction and one of its events, of the same session, is one of the transaction
of_between : (events : List Event) (k p q : ℕ) (e f : Event) → (of : IsOf events k p e) → of.start < q → q < p → slice_get events q ≡ Some f →
    session_in f ≡ session_in e → IsOf events k q f
of_between events k p q e f of low high is same = record {
  start = of.start;
  starts = subst (λ (s : ℕ). IsStart events k s of.start) (sym same) of.starts;
  after = low;
  is = is;
  running = λ r g above below at of_it. of.running r g above (omega arith) at (of_it ∙ same);
}

-- an event that was shown in the same session since its last begin
shown_of : (events : List Event) (k p table : ℕ) (key : Key) (e : Event) → IsOf events k p e → ShownBefore events p (session_in e) table key → WasShown events k p table key
shown_of events k p table key e of at = elim (cases_order of.start at.place) [
  | inl here ↦
      let both : Some (Begin (session_in e) of.starts.level) ≡ Some at.event = sym of.starts.is ∙ ap (λ (n : ℕ). slice_get events n) here ∙ at.is in
      let same : Begin (session_in e) of.starts.level ≡ at.event = cc in
      absurd (subst (λ (f : Event). ShowsRow f table key) (sym same) at.shows)
  | inr apart ↦ elim apart [
    | inl less ↦ record {
      earlier = at.place;
      event = at.event;
      before = at.below;
      of_same = of_between events k p at.place e at.event of less at.below at.is at.same;
      shows = at.shows;
    }
    | inr more ↦ absurd (false≢true (sym (at.quiet of.start (Begin (session_in e) of.starts.level) more of.after of.starts.is refl)))
  ]
]

writes_between : (events : List Event) (k p l : ℕ) (e f : Event) (cell : Cell) → (first : IsOf events k p e) → (last : IsOf events k l f) → session_in e ≡ session_in f →
    first.start ≡ last.start → p < l → (m : ℕ) → suc p + m ≡ l → PaidBefore (drop (suc p) events) m (session_in e) cell → WritesBetween events k p l cell
writes_between events k p l e f cell first last same starts less m is at =
    let place : slice_get events (suc p + at.place) ≡ Some at.event = sym (slice_get-drop events (suc p) at.place) ∙ at.is in
    let write = at.pays_it in
    let after = first.after in
    let below = at.below in
    let of : IsOf events k (suc p + at.place) at.event =
    of_between events k l (suc p + at.place) f at.event last (omega (arith, starts)) (omega (arith, is)) place (at.same ∙ same) in
    record {
      place = suc p + at.place;
      session = write.0;
      value = write.1.0;
      above = omega arith;
      below = omega (arith, is);
      write = subst (λ (g : Event). IsOf events k (suc p + at.place) g) write.1.1 of;
    }

pub keeps_rows : (tables : List Table) (events : List Event) → ((session : ℕ) → KeepsRowsAlone tables (own_events events session)) → KeepsRows tables events
keeps_rows tables events alone = record {
  whole = λ number place later session table column key event first last less needs field.
      let write : Event = Write session (Presence table key) (value.Flag true) in
      let at = reached tables session events [] [] (alone session) place write first.is refl in
      let sessions : session ≡ session_in event = start_session events number session (session_in event) first.start last.start first.starts last.starts in
      let starts : first.start ≡ last.start = start_unique events number session (session_in event) first.start last.start first.starts last.starts in
      let gap = following (suc place) later (omega arith) in
      let there : slice_get (drop (suc place) events) gap.0 ≡ Some event =
      slice_get-drop events (suc place) gap.0 ∙ ap (λ (n : ℕ). slice_get events n) gap.1 ∙ last.is in
      writes_between events number place later write event (Field table key column) first last sessions starts less gap.0 gap.1
      (paid tables session (drop (suc place) events) (shown_following at.rows write) (fields_of_row tables table key) at.on gap.0 event there (sym sessions) needs
      (λ r f under is same. last.running (suc place + r) f (let h = first.after in omega (arith, starts)) (let h = gap.1 in omega arith)
      (sym (slice_get-drop events (suc place) r) ∙ is) (same ∙ sessions))
      (Field table key column) (field_of_row tables table column key field));
  following = λ number place session table column source count word key v of.
      let read : Event = Read session (Field table key column) source count word v in
      let at = reached tables session events [] [] (alone session) place read of.is refl in (
        at.may.1.0,
        elim (at.seen table key at.may.1.1) [
          | inl still ↦ absurd (none_there (table, key) still.there)
          | inr found ↦ shown_of events number place table key read of found
        ],
      );
}
  where
    following : (low high : ℕ) → low ≤ high → (n : ℕ) × (low + n ≡ high)
    following zero high le = (high, omega arith)
    following (suc low) zero le = absurd (omega arith)
    following (suc low) (suc high) le = let on = following low high (omega arith) in (on.0, let e = on.1 in omega arith)

-- ---- a history with the events of one session, or none

-- of each session there are all events of one session, or none
pub each_keeps : (tables : List Table) (number : Option ℕ) (events : List Event) → AreOfOneSession number events → KeepsRowsAlone tables events →
    (session : ℕ) → KeepsRowsAlone tables (own_events events session)
each_keeps tables None events none keeps session = subst (λ (es : List Event). KeepsRowsAlone tables (own_events es session)) (sym none) tt
each_keeps tables (Some n) events begins keeps session =
    let of_it = all_of_it n events begins in
    elim (cases_eq n session) [
      | inl here ↦
          subst (λ (s : ℕ). KeepsRowsAlone tables (own_events events s)) here
          (subst (λ (es : List Event). KeepsRowsAlone tables es) (sym (own_all events n of_it)) keeps)
      | inr apart ↦
          subst (λ (es : List Event). KeepsRowsAlone tables es)
          (sym (own_none events session (λ k d within same. apart (sym (of_it k d within) ∙ same)))) tt
    ]
