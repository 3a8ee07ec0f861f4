use Rattle.std.proofs.Common.{ℕ, arith, sym, subst, inl, inr}
use Rattle.std.specs.List.{slice_index}
use Rattle.std.proofs.lemmas.Bool.{cases_eq}
use Rattle.order_test.specs.Listed.{HasNoLate, listed_at}
use Rattle.order_test.proofs.quick.past_has_none.Goals as goal

pub loop-session-preserved : goal.loop-session-preserved
loop-session-preserved c = λ session below. elim (cases_eq session c.loop-session.session) [
  | inl same ↦
      subst (λ (s : ℕ). HasNoLate c.args.places.now.at.items (listed_at c.args.lists.now s c.args.cell.now) (slice_index c.args.past.now.tops.items s) c.args.from) (sym same)
      (subst (λ (limit : ℕ). HasNoLate c.args.places.now.at.items (listed_at c.args.lists.now c.loop-session.session c.args.cell.now) limit c.args.from) c.top_of.ensures
      (c.session_has_none.ensures c.if-not-session_has_none.false))
  | inr other ↦ c.loop-session.invariant session (omega arith)
]

pub returns : goal.returns
returns c = λ h session below. c.loop-session.invariant session (let end = c.loop-session-test.false in omega arith)
