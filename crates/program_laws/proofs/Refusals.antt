-- A call that is refused is not one that is answered.
use Rattle.std.proofs.Common.{◌≡◌, ◌≢◌, ℕ, List, Bool, true, false, cond, Some, None, Option, refl, ap, sym, ◌∙◌, subst, inl, inr, ◌⊎◌, nat_le}
use Rattle.std.specs.List.{Contains}
use Rattle.cell_base.specs.declared.cell.Cell.{Cell}
use Rattle.cell_base.specs.declared.value.Value.{Value}
use Rattle.sql_tree.specs.declared.table.Table.{Table}
use Rattle.history_core.specs.declared.event.Event.{Event}
use Rattle.history_core.specs.declared.event.Event.TheVariants.{Open, Define, Begin}
use Rattle.history_core.specs.declared.fault.Limit.{Limit}
use Rattle.history_core.specs.declared.fault.Limit.TheVariants as limits
use Rattle.history_core.specs.declared.fault.BookFault.TheVariants as faults
use Rattle.history_core.specs.Events.{names, defined}
use Rattle.history_core.specs.Initial.{load_of}
use Rattle.history_core.specs.Legal.{full_for, full_load, full_count}
use Rattle.history_book.specs.Book.{Past, SessionState}
use Rattle.block_machine.specs.Calls.{Call}
use Rattle.block_machine.specs.Calls as calls
use Rattle.block_machine.specs.declared.call.Answer.{Answer}
use Rattle.session_core.specs.Record.{Declines, limit_for}
use Rattle.program_laws.proofs.Known.{Known, Back, From, News, Olds}

none_some : (limit : Limit) (o : Option Limit) → o ≡ None → o ≡ Some limit → ⊥
none_some limit o none some = let both : None ≡ Some limit = sym none ∙ some in cc

fits_as : (initial : List (Cell × Value)) (events : List Event) (e f : Event) (o : Option Limit) (limit : Limit) → e ≡ f → full_for initial events f ≡ o → full_for initial events e ≡ None →
    o ≡ Some limit → ⊥
fits_as initial events e f o limit is same fits full =
    none_some limit o (sym same ∙ ap (λ (x : Event). full_for initial events x) (sym is) ∙ fits) full

-- where the load keeps nothing out, another limit than the load is named
other_limit : (b : Bool) (x : Option Limit) (limit : Limit) → cond b (Some limits.Load) None ≡ None → cond b (Some limits.Load) x ≡ Some limit → x ≡ Some limit
other_limit false x limit none some = some
other_limit true x limit none some = let both : Some limits.Load ≡ None = none in cc

tables_limit : (b : Bool) (limit : Limit) → cond b (Some limits.Tables) None ≡ Some limit → limit ≢ limits.Load
tables_limit true limit some same =
    let one : Some limits.Tables ≡ Some limit = some in
    let two : limits.Tables ≡ limits.Load = (let h : limits.Tables ≡ limit = cc in h) ∙ same in cc
tables_limit false limit some same = let both : None ≡ Some limit = some in cc

refused_define : (initial : List (Cell × Value)) (n : Past) (events : List Event) (state : SessionState) (table : Table) (a : Answer) (e : Event) (limit : Limit) → n.seen.events ≡ events →
    full_for initial events (Define 0 table.name) ≡ Some limit → (limit ≢ limits.Load → ¬ (Contains (names n.seen.events) table.name)) →
    full_for initial events e ≡ None → News events state table a e ⊎ Olds events state table a e → ⊥
refused_define initial n events state table a e limit same full new fits (inl one) = fits_as initial events e _ (full_for initial events (Define 0 table.name)) limit one.event refl fits full
refused_define initial n events state table a e limit same full new fits (inr two) =
    let look : full_load initial events ≡ None = ap (λ (x : Event). full_for initial events x) (sym two.event) ∙ fits in
    let count : full_count events (Define 0 table.name) ≡ Some limit = other_limit (nat_le 1048576 (load_of initial events)) (full_count events (Define 0 table.name)) limit look full in
    new (tables_limit (nat_le 64 (defined events)) limit count) (subst (λ (es : List Event). Contains (names es) table.name) (sym same) two.old)

touched_fits : (initial : List (Cell × Value)) (events : List Event) (state : SessionState) (v : List ℕ) (cell : Cell) (value : Value) (e : Event) (u : List ℕ) →
    Back state v cell value e u ⊎ From initial events state v cell value e u → full_for initial events e ≡ None → full_load initial events ≡ None
touched_fits initial events state v cell value e u (inl back) fits = ap (λ (x : Event). full_for initial events x) (sym back.event) ∙ fits
touched_fits initial events state v cell value e u (inr from) fits = ap (λ (x : Event). full_for initial events x) (sym from.event) ∙ fits

-- a limit of one history is that of another with the same initial state and the same events
there : (initial : List (Cell × Value)) (events : List Event) (n : Past) (limit_of : List (Cell × Value) → List Event → Option Limit) (limit : Limit) →
    n.seen.initial ≡ initial → n.seen.events ≡ events → limit_of n.seen.initial n.seen.events ≡ Some limit → limit_of initial events ≡ Some limit
there initial events n limit_of limit begun same is =
    subst (λ (cells : List (Cell × Value)). limit_of cells events ≡ Some limit) begun
    (subst (λ (es : List Event). limit_of n.seen.initial es ≡ Some limit) same is)

-- the same events leave room for the event and are full for the call
pub not_refused : (initial : List (Cell × Value)) (events : List Event) (state : SessionState) (tables : List Table) (v u : List ℕ) (c : Call) (a : Answer) (e : Event) →
    Known initial events state tables v c a e u → full_for initial events e ≡ None → (p n : Past) (limit : Limit) → n.seen.initial ≡ initial → n.seen.events ≡ events →
    Declines p c (faults.Full limit) n → ⊥
not_refused initial events state tables v u calls.Open a e is fits p n limit begun same d =
    fits_as initial events e _ (full_for initial events (Open 0)) limit is.1 refl fits (there initial events n (λ cells es. full_for cells es (Open 0)) limit begun same d.2)
not_refused initial events state tables v u calls.Close a e is fits p n limit begun same d = d.0
not_refused initial events state tables v u (calls.Look known) a e is fits p n limit begun same d =
    fits_as initial events e _ (full_load initial events) limit is.1 refl fits (there initial events n full_load limit begun same d.2)
not_refused initial events state tables v u (calls.Define t) a e is fits p n limit begun same d =
    refused_define initial n events state t a e limit same (there initial events n (λ cells es. full_for cells es (Define 0 t.name)) limit begun same d.2) d.3 fits is.0
not_refused initial events state tables v u (calls.Begin level) a e is fits p n limit begun same d =
    fits_as initial events e _ (full_for initial events (Begin 0 level)) limit is.1 refl fits (there initial events n (λ cells es. full_for cells es (Begin 0 level)) limit begun same d.2)
not_refused initial events state tables v u (calls.Scan t) a e is fits p n limit begun same d =
    fits_as initial events e _ (full_load initial events) limit is.3 refl fits (there initial events n full_load limit begun same d.2)
not_refused initial events state tables v u (calls.Touch cell) a e is fits p n limit begun same d =
    none_some limit (full_load initial events) (touched_fits initial events state v cell is.0 e u is.2 fits) (there initial events n full_load limit begun same d.2)
not_refused initial events state tables v u (calls.Write cell value) a e is fits p n limit begun same d =
    fits_as initial events e _ (full_load initial events) limit is.1 refl fits (there initial events n full_load limit begun same d.2)
not_refused initial events state tables v u calls.Commit a e is fits p n limit begun same d = d.0
not_refused initial events state tables v u calls.Rollback a e is fits p n limit begun same d = d.0
not_refused initial events state tables v u calls.Show a e is fits p n limit begun same d =
    fits_as initial events e _ (full_load initial events) limit is.1 refl fits (there initial events n full_load limit begun same d.2)

-- two refusals of one call name one limit
pub one_refusal : (m n : Past) (c : Call) (x y : Limit) → m.seen.initial ≡ n.seen.initial → m.seen.events ≡ n.seen.events →
    limit_for m c ≡ Some x → limit_for n c ≡ Some y → x ≡ y
one_refusal m n c x y begun same one two =
    let limits : limit_for m c ≡ limit_for n c = limits_same m n c begun same in
    let found : Some x ≡ Some y = sym one ∙ limits ∙ two in cc
  where
    both_same : (m n : Past) (limit_of : List (Cell × Value) → List Event → Option Limit) → m.seen.initial ≡ n.seen.initial →
        m.seen.events ≡ n.seen.events → limit_of m.seen.initial m.seen.events ≡ limit_of n.seen.initial n.seen.events
    both_same m n limit_of begun same =
        ap (λ (cells : List (Cell × Value)). limit_of cells m.seen.events) begun ∙ ap (λ (es : List Event). limit_of n.seen.initial es) same

    limits_same : (m n : Past) (c : Call) → m.seen.initial ≡ n.seen.initial → m.seen.events ≡ n.seen.events → limit_for m c ≡ limit_for n c
    limits_same m n calls.Open begun same = both_same m n (λ cells es. full_for cells es (Open 0)) begun same
    limits_same m n (calls.Define t) begun same = both_same m n (λ cells es. full_for cells es (Define 0 t.name)) begun same
    limits_same m n (calls.Begin level) begun same = both_same m n (λ cells es. full_for cells es (Begin 0 level)) begun same
    limits_same m n _ begun same = both_same m n full_load begun same
