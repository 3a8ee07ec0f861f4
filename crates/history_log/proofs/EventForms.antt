-- Which event a keyword is of.
use Rattle.std.proofs.Common.{◌≡◌, ℕ, List, refl, subst}
use Rattle.cell_base.specs.declared.cell.Cell.{Cell}
use Rattle.cell_base.specs.declared.key.Key.{Key}
use Rattle.cell_base.specs.declared.level.Level.{Level}
use Rattle.cell_base.specs.declared.value.Value.{Value}
use Rattle.history_core.specs.declared.event.Event.{Event}
use Rattle.history_core.specs.declared.event.Event.TheVariants.{Open, Close, Define, Look, Begin, Scan, Read, Own, Write, Commit, Rollback, Show}
use Rattle.history_log.specs.declared.keyword.Keyword.{Keyword}
use Rattle.history_log.specs.declared.keyword.Keyword.TheVariants as keywords
use Rattle.history_log.specs.declared.version.Version.{Version}
use Rattle.history_log.specs.Spelling.{keyword_of}
use Rattle.history_log.specs.Reading.{IsEventAfter, IsSession, IsSessionNumber, IsSessionText, IsSessionCellValue, IsReadFields, IsScanFields, IsBeginFields}

-- the event is one of this keyword
abbrev pub Is : Keyword → Event → Type 0
Is keywords.Open e = (p : ℕ) × (e ≡ Open p)
Is keywords.Close e = (p : ℕ) × (e ≡ Close p)
Is keywords.Commit e = (p : ℕ) × (e ≡ Commit p)
Is keywords.Rollback e = (p : ℕ) × (e ≡ Rollback p)
Is keywords.Define e = (p : ℕ × List ℕ) × (e ≡ Define p.0 p.1)
Is keywords.Look e = (p : ℕ × ℕ) × (e ≡ Look p.0 p.1)
Is keywords.Show e = (p : ℕ × ℕ) × (e ≡ Show p.0 p.1)
Is keywords.Begin e = (p : ℕ × Level) × (e ≡ Begin p.0 p.1)
Is keywords.Scan e = (p : ℕ × ℕ × List Key) × (e ≡ Scan p.0 p.1 p.2)
Is keywords.Read e = (p : ℕ × Cell × ℕ × ℕ × ℕ × Value) × (e ≡ Read p.0 p.1 p.2 p.3 p.4 p.5)
Is keywords.Own e = (p : ℕ × Cell × Value) × (e ≡ Own p.0 p.1 p.2)
Is keywords.Write e = (p : ℕ × Cell × Value) × (e ≡ Write p.0 p.1 p.2)
Is keywords.Initial e = ⊥
Is keywords.Order e = ⊥
Is keywords.End e = ⊥

known : (e : Event) → Is (keyword_of e) e
known (Open s) = (s, refl)
known (Close s) = (s, refl)
known (Commit s) = (s, refl)
known (Rollback s) = (s, refl)
known (Define s name) = ((s, name), refl)
known (Look s n) = ((s, n), refl)
known (Show s n) = ((s, n), refl)
known (Begin s level) = ((s, level), refl)
known (Scan s table listed) = ((s, table, listed), refl)
known (Read s cell source count word value) = ((s, cell, source, count, word, value), refl)
known (Own s cell value) = ((s, cell, value), refl)
known (Write s cell value) = ((s, cell, value), refl)

pub known_as : (k : Keyword) (e : Event) → keyword_of e ≡ k → Is k e
known_as k e is = subst (λ (j : Keyword). Is j e) is (known e)

module _ (v : Version) (head : Level) (words : List (List ℕ)) where
  pub found_open : (e : Event) → IsEventAfter v head keywords.Open e words → (p : ℕ) × IsSession p words
  found_open e is =
      let i = known_as keywords.Open e is.2 in
      let j = subst (λ (x : Event). IsEventAfter v head keywords.Open x words) i.1 is in
      (i.0, (j.0, j.3))

  pub found_close : (e : Event) → IsEventAfter v head keywords.Close e words → (p : ℕ) × IsSession p words
  found_close e is =
      let i = known_as keywords.Close e is.2 in
      let j = subst (λ (x : Event). IsEventAfter v head keywords.Close x words) i.1 is in
      (i.0, (j.0, j.3))

  pub found_commit : (e : Event) → IsEventAfter v head keywords.Commit e words → (p : ℕ) × IsSession p words
  found_commit e is =
      let i = known_as keywords.Commit e is.2 in
      let j = subst (λ (x : Event). IsEventAfter v head keywords.Commit x words) i.1 is in
      (i.0, (j.0, j.3))

  pub found_rollback : (e : Event) → IsEventAfter v head keywords.Rollback e words → (p : ℕ) × IsSession p words
  found_rollback e is =
      let i = known_as keywords.Rollback e is.2 in
      let j = subst (λ (x : Event). IsEventAfter v head keywords.Rollback x words) i.1 is in
      (i.0, (j.0, j.3))

  pub found_define : (e : Event) → IsEventAfter v head keywords.Define e words → (p : ℕ × List ℕ) × IsSessionText p words
  found_define e is =
      let i = known_as keywords.Define e is.2 in
      let j = subst (λ (x : Event). IsEventAfter v head keywords.Define x words) i.1 is in
      (i.0, (j.0, j.3))

  pub found_look : (e : Event) → IsEventAfter v head keywords.Look e words → (p : ℕ × ℕ) × IsSessionNumber p words
  found_look e is =
      let i = known_as keywords.Look e is.2 in
      let j = subst (λ (x : Event). IsEventAfter v head keywords.Look x words) i.1 is in
      (i.0, (j.0, j.3))

  pub found_show : (e : Event) → IsEventAfter v head keywords.Show e words → (p : ℕ × ℕ) × IsSessionNumber p words
  found_show e is =
      let i = known_as keywords.Show e is.2 in
      let j = subst (λ (x : Event). IsEventAfter v head keywords.Show x words) i.1 is in
      (i.0, (j.0, j.3))

  pub found_begin : (e : Event) → IsEventAfter v head keywords.Begin e words → (p : ℕ × Level) × IsBeginFields v head p words
  found_begin e is =
      let i = known_as keywords.Begin e is.2 in
      let j = subst (λ (x : Event). IsEventAfter v head keywords.Begin x words) i.1 is in
      (i.0, ((j.0, j.1), j.3))

  pub found_scan : (e : Event) → IsEventAfter v head keywords.Scan e words → (p : ℕ × ℕ × List Key) × IsScanFields p words
  found_scan e is =
      let i = known_as keywords.Scan e is.2 in
      let j = subst (λ (x : Event). IsEventAfter v head keywords.Scan x words) i.1 is in
      (i.0, (j.0, j.3))

  pub found_read : (e : Event) → IsEventAfter v head keywords.Read e words → (p : ℕ × Cell × ℕ × ℕ × ℕ × Value) × IsReadFields p words
  found_read e is =
      let i = known_as keywords.Read e is.2 in
      let j = subst (λ (x : Event). IsEventAfter v head keywords.Read x words) i.1 is in
      (i.0, (j.0, j.3))

  pub found_own : (e : Event) → IsEventAfter v head keywords.Own e words → (p : ℕ × Cell × Value) × IsSessionCellValue p words
  found_own e is =
      let i = known_as keywords.Own e is.2 in
      let j = subst (λ (x : Event). IsEventAfter v head keywords.Own x words) i.1 is in
      (i.0, (j.0, j.3))

  pub found_write : (e : Event) → IsEventAfter v head keywords.Write e words → (p : ℕ × Cell × Value) × IsSessionCellValue p words
  found_write e is =
      let i = known_as keywords.Write e is.2 in
      let j = subst (λ (x : Event). IsEventAfter v head keywords.Write x words) i.1 is in
      (i.0, (j.0, j.3))

  pub not_initial : (e : Event) → IsEventAfter v head keywords.Initial e words → ⊥
  not_initial e is = known_as keywords.Initial e is.2

  pub not_order : (e : Event) → IsEventAfter v head keywords.Order e words → ⊥
  not_order e is = known_as keywords.Order e is.2

  pub not_end : (e : Event) → IsEventAfter v head keywords.End e words → ⊥
  not_end e is = known_as keywords.End e is.2
