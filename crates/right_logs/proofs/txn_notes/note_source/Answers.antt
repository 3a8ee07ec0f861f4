use Rattle.std.proofs.Common.{List, refl, sym, ◌∙◌, subst, inl, inr}
use Rattle.std.proofs.lemmas.Bool.{false≢true}
use Rattle.std.proofs.lemmas.Result.{on_ok_weaker}
use Rattle.right_logs.specs.declared.txn_notes.TxnNote.{TxnNote}
use Rattle.right_logs.specs.Clocks.{HasSource}
use Rattle.right_logs.proofs.txn_notes.note_source.Goals as goal

pub returns-then-not-clocked : goal.returns-then-not-clocked
returns-then-not-clocked c = inl (λ clocks. false≢true (sym c.if-not-clocked.true ∙ clocks), refl)

pub has_source-requires-clause-reader : goal.has_source-requires-clause-reader
has_source-requires-clause-reader c = rw c.deref.ensures.value c.requires.reader

pub has_source-requires-clause-source : goal.has_source-requires-clause-source
has_source-requires-clause-source c = rw c.deref.ensures.value c.requires.source

pub returns-then-has_source : goal.returns-then-has_source
returns-then-has_source c =
    let has = c.has_source.ensures c.if-has_source.true in
    inr (inl (subst (λ (ns : List TxnNote). HasSource c.args.reader c.args.source ns) c.deref.ensures.value has, refl))

pub returns : goal.returns
returns c = on_ok_weaker c.take_source.result (λ takes. inr (inr takes)) c.take_source.ensures
