-- The writers of cells, as further ones are set.
use Rattle.std.proofs.Common.{ℕ, List, [], ◌∷◌, ◌++◌, Ok, Err, Result, length, arith, refl, ap, sym, ◌∙◌, subst, inl, inr}
use Rattle.std.specs.Prelude.{OnOk}
use Rattle.std.specs.List.{Contains}
use Rattle.std.proofs.lemmas.List.Elements.{Contains-push_cases, Contains-append_left, Contains-push}
use Rattle.cell_base.specs.declared.cell.Cell.{Cell}
use Rattle.cell_base.specs.declared.value.Value.{Value}
use Rattle.history_core.specs.declared.event.Event.{Event}
use Rattle.history_core.specs.declared.event.Event.TheVariants.{Write}
use Rattle.history_core.specs.Transactions.{IsOf}
use Rattle.history_core.specs.Relations.{HasWritten, LastWrites}
use Rattle.history_core.specs.declared.txn.Txn.{Txn}
use Rattle.history_core.specs.Records.{IsRecordOf}
use Rattle.history_core.proofs.Greatest.{greatest}
use Rattle.std.proofs.lemmas.Option.{slice_get_within}
use Rattle.history_summary.specs.declared.latest.Latest.{Latest}
use Rattle.history_summary.specs.Walk.{SetsWriter, SetsWriters, TakesCells}

-- ---- one write after another

pub sets_none : (latest : Latest) (number : ℕ) → SetsWriters latest [] number latest
sets_none latest number q = inr (λ value there. let within = there.1 in absurd (omega arith), refl)

pub sets_more :
    (old mid new : Latest) (writes : List (Cell × Value)) (entry : Cell × Value) (number : ℕ) → SetsWriters old writes number mid →
    SetsWriter mid entry.0 number new → SetsWriters old (writes ++ entry ∷ []) number new
sets_more old mid new writes entry number before now q =
    elim (now q) [
      | inl here ↦ inl ((entry.1, subst (λ (c : Cell). Contains (writes ++ entry ∷ []) (c, entry.1)) (sym here.0) (Contains-push writes entry)), here.1)
      | inr apart ↦ elim (before q) [
        | inl written ↦ inl ((written.0.0, Contains-append_left writes (entry ∷ []) (q, written.0.0) written.0.1), apart.1 ∙ written.1)
        | inr absent ↦ inr (
          λ value there. elim (Contains-push_cases writes entry (q, value) there) [
            | inl old_one ↦ absent.0 value old_one
            | inr last ↦ apart.0 (sym (ap (λ (e : Cell × Value). e.0) last))
          ],
          apart.1 ∙ absent.1,
        )
      ]
    ]

-- ---- what a transaction wrote

-- what was written has a last value
none_written :
    (events : List Event) (k : ℕ) (x : Cell) → ((v : Value) → LastWrites events k x v → ⊥) → HasWritten events k x → ⊥
none_written events k x none written =
    greatest (λ p. (s : ℕ) × ((v : Value) × IsOf events k p (Write s x v))) (λ p. p) (length events)
    (λ p is. slice_get_within events p (Write is.0 x is.1.0) is.1.1.is)
    written.place (written.session, (written.value, written.write))
    (λ p is last. none is.1.0 record {
      place = p;
      session = is.0;
      write = is.1.1;
      last = λ q s v of. last q (s, (v, of));
    })

-- the writes of a record are of the cells that its transaction wrote
pub takes_from :
    (events : List Event) (number : ℕ) (txn : Txn) (old new : Latest) → IsRecordOf events number txn → SetsWriters old txn.buffer.writes number new →
    TakesCells events number old new
takes_from events number txn old new is sets q =
    elim (sets q) [
      | inl written ↦
          let last = (is.writes q written.0.0).0 written.0.1 in
          inl (record { place = last.place; session = last.session; value = written.0.0; write = last.write }, written.1)
      | inr absent ↦ inr (none_written events number q (λ v last. absent.0 v ((is.writes q v).1 last)), absent.1)
    ]

-- what follows on success
pub on_ok : {A E : Type 0} (P Q : Type 0) (r : Result A E) → (P → Q) → OnOk r P → OnOk r Q
on_ok P Q (Ok a) f h = f h
on_ok P Q (Err e) f h = h
