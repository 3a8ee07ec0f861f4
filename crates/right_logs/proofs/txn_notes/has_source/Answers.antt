use Rattle.std.proofs.Common.{◌≡◌, ◌≤◌, ℕ, get_or, ap, subst}
use Rattle.std.proofs.lemmas.Bool.{leb-true}
use Rattle.std.proofs.lemmas.Option.{slice_get-get_or}
use Rattle.right_logs.specs.declared.txn_notes.TxnNote.{TxnNote}
use Rattle.right_logs.proofs.txn_notes.has_source.Goals as goal

pub returns : goal.returns
returns c = λ h.
    let less : c.args.source ≤ c.number_in.result = leb-true c.args.source c.number_in.result h in
    let own_clock : c.index-notes-reader.result.clock.items ≡ (get_or c.args.notes.now c.args.reader c.index-notes-reader.result).clock.items =
    ap (λ (n : TxnNote). n.clock.items) c.index-notes-reader.is
    in
    let from_session : c.index-notes-source.result.session ≡ (get_or c.args.notes.now c.args.source c.index-notes-source.result).session =
    ap (λ (n : TxnNote). n.session) c.index-notes-source.is
    in
    let value = c.deref.ensures.value in
    let number = c.number_in.ensures in
    let same : c.number_in.result
    ≡ get_or (get_or c.args.notes.now c.args.reader c.index-notes-reader.result).clock.items (get_or c.args.notes.now c.args.source c.index-notes-source.result).session 0 = cc
    in
    record {
      own = get_or c.args.notes.now c.args.reader c.index-notes-reader.result;
      from = get_or c.args.notes.now c.args.source c.index-notes-source.result;
      own_is = slice_get-get_or c.args.notes.now c.args.reader c.index-notes-reader.result c.requires.reader;
      from_is = slice_get-get_or c.args.notes.now c.args.source c.index-notes-source.result c.requires.source;
      reached = subst (λ (n : ℕ). c.args.source ≤ n) same less;
    }
