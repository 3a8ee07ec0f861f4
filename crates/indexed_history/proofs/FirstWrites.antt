-- The first write of a cell: its places in both indexes are taken, and then it is appended or refused.
use Rattle.std.proofs.Common.{◌≡◌, ℕ, ◌<◌, List, ◌∷◌, [], ◌++◌, Ok, Err, Result, ap, sym, ◌∙◌, subst, ◌↔◌, Some, refl}
use Rattle.std.specs.Prelude.{OnOk, OnErr}
use Rattle.cell_base.specs.declared.cell.Cell.{Cell}
use Rattle.cell_base.specs.declared.value.Value.{Value}
use Rattle.history_core.specs.declared.event.Event.{Event}
use Rattle.history_core.specs.declared.event.Event.TheVariants.{Write}
use Rattle.history_core.specs.declared.fault.BookFault.{BookFault}
use Rattle.history_core.specs.declared.fault.BookFault.TheVariants.{Full, Memory}
use Rattle.history_core.specs.declared.fault.Limit.{Limit}
use Rattle.history_core.specs.Chronicle.{Chronicle, followed_by}
use Rattle.history_core.specs.Initial.{load_of}
use Rattle.history_core.specs.Legal.{full_for}
use Rattle.history_core.specs.Relations.{HasWritten}
use Rattle.history_core.specs.Transactions.{IsPending}
use Rattle.indexed_history.specs.declared.index.Index.{Index}
use Rattle.indexed_history.specs.declared.keys.KeyIndex.{KeyIndex}
use Rattle.indexed_history.specs.declared.parts.Parts.{Parts}
use Rattle.indexed_history.specs.Index.{IsIndex, AreAscending, GainsWriter, LosesWriter, ListsSame}
use Rattle.indexed_history.specs.Keys.{IsKept, IsKeyIndex, KeepsKeys}
use Rattle.indexed_history.specs.Parts.{AreIndexed}
use Rattle.indexed_history.proofs.Indexes.{indexed_first, indexed_back, indexed_same, memory_left}
use Rattle.indexed_history.proofs.KeyLists.{keyed_kept, keyed_write}

-- no number is listed anew
pub still_indexed : (old new : Parts) → new.history ≡ old.history → KeepsKeys old.keys new.keys → ListsSame old.index new.index → AreIndexed old → AreIndexed new
still_indexed old new same keeps lists is = record {
  writers = subst (λ (h : Chronicle). IsIndex h.events new.index) (sym same) (indexed_same old.history.events old.index new.index lists is.writers);
  keys = subst (λ (h : Chronicle). IsKeyIndex h.initial h.events new.keys) (sym same)
      (keyed_kept old.history.initial old.history.events old.keys new.keys keeps is.keys);
}

pub first_indexed :
    (old mid new : Parts) (s number : ℕ) (x written : Cell) (v : Value) (r : Result (Unit {0}) BookFault) → written ≡ x → IsPending old.history.events number s →
    ((n : ℕ) → IsPending old.history.events n s → n ≡ number) → (HasWritten old.history.events number x → ⊥) →
    mid.history ≡ old.history → KeepsKeys old.keys mid.keys → IsKept mid.keys x → GainsWriter old.index x number mid.index →
    new.keys ≡ mid.keys → AreAscending new.index → OnOk r (new.history ≡ followed_by mid.history (Write s x v)) → OnOk r (new.index ≡ mid.index) →
    OnErr r (new.history ≡ mid.history) → OnErr r (LosesWriter mid.index written number new.index) → AreIndexed old → AreIndexed new
first_indexed old mid new s number x written v (Ok u) same pending unique unwritten history keeps kept gains keys ascending ok listed err loses is =
    let initial = old.history.initial in
    let events = old.history.events in
    let added : new.history ≡ followed_by old.history (Write s x v) = ok ∙ ap (λ (h : Chronicle). followed_by h (Write s x v)) history in
    record {
      writers = subst (λ (h : Chronicle). IsIndex h.events new.index) (sym added)
          (indexed_first events s x v number old.index new.index pending unique ascending
          (subst (λ (i : Index). GainsWriter old.index x number i) (sym listed) gains) is.writers);
      keys = subst (λ (h : Chronicle). IsKeyIndex h.initial h.events new.keys) (sym added)
          (subst (λ (k : KeyIndex). IsKeyIndex initial (events ++ Write s x v ∷ []) k) (sym keys)
          (keyed_write initial events s x v mid.keys kept (keyed_kept initial events old.keys mid.keys keeps is.keys)));
    }
first_indexed old mid new s number x written v (Err fault) same pending unique unwritten history keeps kept gains keys ascending ok listed err loses is =
    let initial = old.history.initial in
    let events = old.history.events in
    let stays : new.history ≡ old.history = err ∙ history in
    record {
      writers = subst (λ (h : Chronicle). IsIndex h.events new.index) (sym stays)
          (indexed_back events x number old.index mid.index new.index ascending unwritten gains
          (subst (λ (c : Cell). LosesWriter mid.index c number new.index) same loses) is.writers);
      keys = subst (λ (h : Chronicle). IsKeyIndex h.initial h.events new.keys) (sym stays)
          (subst (λ (k : KeyIndex). IsKeyIndex initial events k) (sym keys) (keyed_kept initial events old.keys mid.keys keeps is.keys));
    }

-- below the load that a history may have, only memory is lacking
pub memory_alone :
    (initial : List (Cell × Value)) (events : List Event) (s : ℕ) (x : Cell) (v : Value) (r : Result (Unit {0}) BookFault) →
    load_of initial events < 1048576 → ((limit : Limit) → (r ≡ Err (Full limit)) ↔ (full_for initial events (Write s x v) ≡ Some limit)) →
    OnErr r (r ≡ Err Memory)
memory_alone initial events s x v (Ok u) room full = tt
memory_alone initial events s x v (Err fault) room full =
    ap (λ (f : BookFault). Err f) (memory_left initial events s x v fault (Err fault) refl room full)
