-- The keys of a table, looked at one after another.
use Rattle.std.proofs.Common.{◌≡◌, ℕ, List, [], ◌∷◌, ◌++◌, true, arith, ap, sym, ◌∙◌, subst, inl, inr}
use Rattle.std.specs.List.{Contains}
use Rattle.std.proofs.lemmas.List.{append_assoc, append-nil}
use Rattle.std.proofs.lemmas.List.Elements.{Contains-append_left, Contains-push, Contains-push_cases}
use Rattle.std.proofs.lemmas.Option.{slice_get_within}
use Rattle.txn_buffer.proofs.Lists.{at_contains}
use Rattle.cell_base.specs.declared.cell.Cell.{Cell}
use Rattle.cell_base.specs.declared.cell.Cell.TheVariants.{Presence}
use Rattle.cell_base.specs.declared.key.Key.{Key}
use Rattle.cell_base.specs.declared.value.Value.{Value}
use Rattle.cell_base.specs.declared.value.Value.TheVariants.{Flag}
use Rattle.history_core.specs.declared.event.Event.{Event}
use Rattle.history_core.specs.declared.event.Event.TheVariants.{Write}
use Rattle.history_core.specs.Legal.{ListsKeys}
use Rattle.indexed_history.proofs.Indexes.{written_back}
use Rattle.saturation.proofs.Sights.{writes_later}
use Rattle.history_check.specs.declared.table_keys.TableKeys.{TableKeys}
use Rattle.history_check.specs.Keys.{IsAscending, IsToList, ListsAll, ListsNoOther}
use Rattle.history_check.specs.Notes.{AreWrittenKeys}
use Rattle.history_check.specs.TableKeys.{keys_at, KeepsKeys, IsKept, AreKept}

-- of the keys, those before the rest were looked at
pub record IsScanPart (initial : List (Cell × Value)) (events : List Event) (session table : ℕ) (keys whole rest : List Key) : Type 0 where
  pub done : List Key
  pub split : whole ≡ done ++ rest
  pub listed : ListsAll initial events session table done keys

pub scan_start : (initial : List (Cell × Value)) (events : List Event) (session table : ℕ) (keys whole rest : List Key) → rest ≡ whole → IsScanPart initial events session table keys whole rest
scan_start initial events session table keys whole rest same = record { done = []; split = sym same; listed = λ key there. let within = there.1 in absurd (omega arith) }

pub scan_more :
    (initial : List (Cell × Value)) (events : List Event) (session table : ℕ) (keys whole rest left : List Key) (key : Key) → rest ≡ key ∷ left →
    (IsToList initial events session table key → Contains keys key) → IsScanPart initial events session table keys whole rest → IsScanPart initial events session table keys whole left
scan_more initial events session table keys whole rest left key at here part = record {
  done = part.done ++ key ∷ [];
  split = part.split ∙ ap (λ (ks : List Key). part.done ++ ks) at ∙ sym (append_assoc part.done (key ∷ []) left);
  listed = λ other there. elim (Contains-push_cases part.done key other there) [
    | inl before ↦ part.listed other before
    | inr last ↦ subst (λ (k : Key). IsToList initial events session table k → Contains keys k) last here
  ];
}

pub scan_whole :
    (initial : List (Cell × Value)) (events : List Event) (session table : ℕ) (keys whole rest : List Key) → rest ≡ [] → IsScanPart initial events session table keys whole rest →
    ListsAll initial events session table whole keys
scan_whole initial events session table keys whole rest end part =
    let same : whole ≡ part.done = part.split ∙ ap (λ (ks : List Key). part.done ++ ks) end ∙ append-nil part.done in
    subst (λ (ks : List Key). ListsAll initial events session table ks keys) (sym same) part.listed

-- the next key is one of them
pub scan_next :
    (initial : List (Cell × Value)) (events : List Event) (session table : ℕ) (keys whole rest left : List Key) (key : Key) → rest ≡ key ∷ left →
    IsScanPart initial events session table keys whole rest → ListsAll initial events session table whole keys → IsToList initial events session table key → Contains keys key
scan_next initial events session table keys whole rest left key at part all =
    let split : whole ≡ (part.done ++ key ∷ []) ++ left = part.split ∙ ap (λ (ks : List Key). part.done ++ ks) at ∙ sym (append_assoc part.done (key ∷ []) left) in
    all key (subst (λ (ks : List Key). Contains ks key) (sym split) (Contains-append_left (part.done ++ key ∷ []) left key (Contains-push part.done key)))

-- ---- the whole scan

pub lists_to :
    (initial : List (Cell × Value)) (events : List Event) (session table : ℕ) (keys : List Key) (first later : TableKeys) → AreKept first initial → AreWrittenKeys events later →
    IsAscending keys → ListsAll initial events session table (keys_at first table) keys → ListsAll initial events session table (keys_at later table) keys →
    ListsNoOther initial events session table keys → ListsKeys initial events session table keys
lists_to initial events session table keys first later kept written ascending all_first all_later others = record {
  ascending = ascending;
  listed = λ key. (
    λ member. let found = at_contains keys key member in others found.0 key found.1,
    λ is. elim is [
      | inl there ↦ let at = at_contains initial (Presence table key, Flag true) there in all_first key (kept at.0 (Presence table key, Flag true) at.1) (inl there)
      | inr more ↦ elim more [
        | inl writer ↦ all_later key (written table key writer.0 (writes_later events writer.0 (Presence table key) writer.1 writer.2).1) (inr (inl writer))
        | inr wrote ↦ all_later key (written table key wrote.number wrote.written) (inr (inr wrote))
      ]
    ],
  );
}

pub lists_among : (initial : List (Cell × Value)) (events : List Event) (session table : ℕ) (among keys : List Key) → ListsKeys initial events session table keys → ListsAll initial events session table among keys
lists_among initial events session table among keys lists key there is = (lists.listed key).1 is

-- ---- the keys that were written

pub written_stay : (events : List Event) (e : Event) (keys : TableKeys) → ((s : ℕ) (x : Cell) (v : Value) → e ≡ Write s x v → ⊥) → AreWrittenKeys events keys → AreWrittenKeys (events ++ e ∷ []) keys
written_stay events e keys none written table key number wrote = elim (written_back events e number (Presence table key) wrote) [
  | inl old ↦ written table key number old
  | inr new ↦ absurd (none new.0 (Presence table key) new.1.0 new.1.1.0)
]

pub written_write :
    (events : List Event) (s : ℕ) (x : Cell) (v : Value) (old new : TableKeys) → AreWrittenKeys events old → KeepsKeys old new → IsKept new x →
    AreWrittenKeys (events ++ Write s x v ∷ []) new
written_write events s x v old new written keeps kept table key number wrote = elim (written_back events (Write s x v) number (Presence table key) wrote) [
  | inl before ↦ keeps table key (written table key number before)
  | inr now ↦
      let both : Write s x v ≡ Write now.0 (Presence table key) now.1.0 = now.1.1.0 in
      let cells : x ≡ Presence table key = cc in
      subst (λ (c : Cell). IsKept new c) cells kept
]

pub written_none : (keys : TableKeys) → AreWrittenKeys [] keys
written_none keys table key number wrote =
    let within = slice_get_within [] wrote.place (Write wrote.session (Presence table key) wrote.value) wrote.write.is in absurd (omega arith)
