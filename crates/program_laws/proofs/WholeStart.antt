-- What a server starts from holds whole rows, and reads and writes nothing.
use Rattle.std.proofs.Common.{◌≡◌, ℕ, ◌+◌, ◌==◌, List, [], ◌∷◌, ◌++◌, length, map, All, Option, Some, None, refl, sym, ap, ◌∙◌, subst, arith}
use Rattle.std.specs.List.{Contains, slice_get}
use Rattle.std.proofs.lemmas.List.{length-append}
use Rattle.std.proofs.lemmas.List.Elements.{All-nil, All-cons, All-head, All-tail, All-append, All-filter}
use Rattle.cell_base.specs.declared.cell.Cell.{Cell}
use Rattle.cell_base.specs.declared.cell.Cell.TheVariants.{Field}
use Rattle.cell_base.specs.declared.key.Key.{Key}
use Rattle.cell_base.specs.declared.value.Value.{Value}
use Rattle.cell_base.specs.declared.level.Level.{Level}
use Rattle.sql_tree.specs.declared.table.Table.{Table}
use Rattle.link_traits.specs.Host.{Hosted}
use Rattle.history_core.specs.declared.event.Event.{Event}
use Rattle.history_core.specs.declared.event.Event.TheVariants.{Open, Close, Define}
use Rattle.history_core.specs.Events.{session_in}
use Rattle.history_core.specs.Initial.{IsInitialState, IsThereInitially, HoldsWholeRows}
use Rattle.history_core.specs.Chronicle.{Chronicle, own_events}
use Rattle.history_core.proofs.Places.{slice_get-append_left}
use Rattle.committed_rows.specs.Start.{definitions}
use Rattle.serve_command.specs.Starting.{StartsBy}
use Rattle.session_laws.specs.Alone.{KeepsRowsAlone}

-- ---- rows

pub none_there : {A : Type 0} (x : A) → Contains [] x → ⊥
none_there x there = let h = there.1 in absurd (omega arith)

pub no_rows : (tables : List Table) → HoldsWholeRows tables []
no_rows tables = record {
  known = λ table key there. absurd (none_there _ there);
  whole = λ table key of_table column there is within apart. absurd (none_there _ there);
  fields = λ table key of_table column v there is. absurd (none_there _ there);
}

-- tables that are defined later have no row in the initial state
pub whole_with_more : (tables more : List Table) (initial : List (Cell × Value)) → IsInitialState initial → HoldsWholeRows tables initial →
    HoldsWholeRows (tables ++ more) initial
whole_with_more tables more initial state rows = record {
  known = λ table key there. let known = rows.known table key there in let sum = length-append tables more in omega arith;
  whole = λ table key of_table column there is within apart.
      rows.whole table key of_table column there (sym (slice_get-append_left tables more table (rows.known table key there)) ∙ is) within apart;
  fields = λ table key of_table column value there is.
      rows.fields table key of_table column value there
      (sym (slice_get-append_left tables more table (rows.known table key (state.fits (Field table key column) value there).0)) ∙ is);
}

-- ---- events

-- a session is opened or closed, or a table is defined
abbrev IsSetting : Event → Type 0
IsSetting (Open session) = Unit {0}
IsSetting (Close session) = Unit {0}
IsSetting (Define session name) = Unit {0}
IsSetting _ = ⊥

settings_keep : (tables : List Table) (events : List Event) → All IsSetting events → KeepsRowsAlone tables events
settings_keep tables [] all = tt
settings_keep tables (Open session ∷ events) all = (refl, settings_keep tables events (All-tail IsSetting (Open session) events all))
settings_keep tables (Close session ∷ events) all = (refl, settings_keep tables events (All-tail IsSetting (Close session) events all))
settings_keep tables (Define session name ∷ events) all = (refl, settings_keep tables events (All-tail IsSetting (Define session name) events all))
settings_keep tables (e ∷ events) all = absurd (All-head IsSetting e events all)

definitions_set : (tables : List Table) → All IsSetting (definitions tables)
definitions_set [] = All-nil IsSetting
definitions_set (table ∷ tables) = All-cons IsSetting (Define 1 table.name) (definitions tables) tt (definitions_set tables)

-- ---- the start

-- what is known of the rows and events of a start
pub record IsWholeStart (start : Chronicle) : Type 0 where
  pub rows : HoldsWholeRows start.tables start.initial
  pub keeps : (tables : List Table) (session : ℕ) → KeepsRowsAlone tables (own_events start.events session)

pub whole_start : (setup : Option (List ℕ)) (level : Level) (before : Hosted) (start : Chronicle) (after : Hosted) →
    StartsBy setup level before start after → IsWholeStart start
whole_start None level before start after starts = subst IsWholeStart (sym starts.0) (record { rows = no_rows []; keeps = λ tables session. tt })
whole_start (Some path) level before start after starts = record {
  rows = starts.starts.whole;
  keeps = λ tables session.
      subst (λ (events : List Event). KeepsRowsAlone tables (own_events events session)) (sym starts.starts.events)
      (settings_keep tables (own_events (Open 1 ∷ (definitions starts.setup.tables ++ Close 1 ∷ [])) session)
      (All-filter (λ (e : Event). session_in e == session) IsSetting (Open 1 ∷ (definitions starts.setup.tables ++ Close 1 ∷ []))
      (All-cons IsSetting (Open 1) (definitions starts.setup.tables ++ Close 1 ∷ []) tt
      (All-append IsSetting (definitions starts.setup.tables) (Close 1 ∷ []) (definitions_set starts.setup.tables)
      (All-cons IsSetting (Close 1) [] tt (All-nil IsSetting))))));
}
