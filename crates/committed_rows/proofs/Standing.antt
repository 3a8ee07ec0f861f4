-- The rows that are gathered are those that are there at the end of the history.
use Rattle.std.proofs.Common.{◌≢◌, List, true, sym, subst}
use Rattle.std.specs.Prelude.{◌↔◌}
use Rattle.std.specs.List.{Contains}
use Rattle.std.specs.BTreeMap.{IsOrdered}
use Rattle.std.proofs.lemmas.Map.Views.{btree_map_get_iff}
use Rattle.cell_base.specs.declared.cell.Cell.{Cell}
use Rattle.cell_base.specs.declared.cell.Cell.TheVariants.{Presence, Field}
use Rattle.cell_base.specs.declared.value.Value.{Value}
use Rattle.cell_base.specs.declared.value.Value.TheVariants.{Unset, Flag}
use Rattle.history_core.specs.Initial.{absent_value}
use Rattle.history_core.specs.Chronicle.{Chronicle, IsFormedChronicle}
use Rattle.history_core.proofs.Searches.{cell_total, cell_exact}
use Rattle.committed_rows.specs.declared.newest.Newest.{Newest}
use Rattle.committed_rows.specs.Rows.{IsNewest, StandsAtEnd, AreCommittedRows}
use Rattle.committed_rows.specs.Walk.{cell_cmp, StandsIn, AreNewest, AreRowsOf}
use Rattle.committed_rows.proofs.Newly.{newest_found}

module _ (history : Chronicle) (newest : Newest) (formed : IsFormedChronicle history) (are : AreNewest history newest)
    (ordered : IsOrdered cell_cmp newest.values) where
  stands_found : (q : Cell) (v : Value) → Contains newest.values.entries (q, v) → IsNewest history q v × (v ≢ Unset)
  stands_found q v there = are.sound q v ((btree_map_get_iff cell_total cell_exact newest.values ordered q v).1 there)

  found_stands : (q : Cell) (v : Value) → IsNewest history q v → v ≢ absent_value q → Contains newest.values.entries (q, v)
  found_stands q v is apart = (btree_map_get_iff cell_total cell_exact newest.values ordered q v).0 (newest_found history newest q v formed are is apart)

  there_row : (q : Cell) → IsNewest history q (Flag true) → Flag true ≢ absent_value q → Contains newest.values.entries (q, Flag true)
  there_row q is apart = found_stands q (Flag true) is apart

  stands : (q : Cell) (v : Value) → (Contains newest.values.entries (q, v) × StandsIn newest.values.entries q v) ↔ StandsAtEnd history q v
  stands (Presence table key) v = (
    λ h. (h.1, subst (λ (x : Value). IsNewest history (Presence table key) x) h.1 (stands_found (Presence table key) v h.0).0),
    λ h. (
      subst (λ (x : Value). Contains newest.values.entries (Presence table key, x)) (sym h.0) (there_row (Presence table key) h.1 (λ same. cc)),
      h.0,
    ),
  )
  stands (Field table key column) v = (
    λ h.
        let found = stands_found (Field table key column) v h.0 in
        ((stands_found (Presence table key) (Flag true) h.1).0, found.0, found.1),
    λ h. (found_stands (Field table key column) v h.1 h.2, there_row (Presence table key) h.0 (λ same. cc)),
  )

  pub rows_are : (cells : List (Cell × Value)) → AreRowsOf newest.values.entries cells → AreCommittedRows history cells
  rows_are cells rows = record {
    ascending = rows.ascending;
    exact = λ q v. (λ there. (stands q v).0 ((rows.exact q v).0 there), λ at_end. (rows.exact q v).1 ((stands q v).1 at_end));
  }
