use Rattle.std.proofs.Common.{not, subst, sym, ap, ◌∙◌, ℕ}
use Rattle.std.proofs.lemmas.Bool.{false≢true}
use Rattle.order_test.specs.Unkept.{StandsBefore}
use Rattle.order_test.proofs.SearchLemmas.{reader_of, no_rival_from, rival_from, some_of, none_of}
use Rattle.order_test.proofs.unmet.is_rival.Goals as goal

pub sees-requires-clause-reader : goal.sees-requires-clause-reader
sees-requires-clause-reader c = reader_of c.args.survey.now c.args.read.now c.requires.read

pub returns-then-is_none : goal.returns-then-is_none
returns-then-is_none c =
    let none = none_of _ c.rival_cell.result (c.is_none.ensures ∙ ap not c.if-is_none.true) c.rival_cell.ensures.none in (
      λ h. absurd (false≢true h),
      λ rival. absurd (no_rival_from c.args.survey.now.events.now c.args.survey.now.order.now c.args.read.now.place c.args.read.now.event.now c.args.read.now.reader c.args.rival
          c.txn_of-writer.result.now c.requires.read c.requires.rival.0 c.txn_of-writer.ensures none rival.0 rival.1),
    )

pub returns : goal.returns
returns c =
    let found = some_of _ c.rival_cell.result (c.is_none.ensures ∙ ap not c.if-is_none.false) c.rival_cell.ensures.some in
    let state = c.is_committed.ensures.0 c.if-not-is_committed.false in
    let late = subst (λ (n : ℕ). StandsBefore c.args.survey.now.order.now c.args.rival n → ⊥) c.origin-from.ensures (c.is_late.ensures.0 c.if-not-is_late.false) in (
      λ h. (
        found.0.now,
        rival_from c.args.survey.now.events.now c.args.survey.now.order.now c.args.read.now.place c.args.read.now.event.now c.args.read.now.reader c.args.rival
            c.txn_of-writer.result.now found.0.now c.requires.read c.txn_of-writer.ensures state (λ same. c.if-rival-from.false (same ∙ sym c.origin-from.ensures)) late found.1.is
            (c.sees.ensures.0 h),
      ),
      λ rival. c.sees.ensures.1 rival.1.visible,
    )
