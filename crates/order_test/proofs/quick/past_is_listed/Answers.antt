use Rattle.std.proofs.Common.{ℕ, arith, sym, subst, inl, inr}
use Rattle.std.specs.List.{slice_index}
use Rattle.std.proofs.lemmas.Bool.{cases_eq}
use Rattle.std.proofs.lemmas.Option.{slice_get_within}
use Rattle.order_test.specs.Firsts.{SessionIsListed}
use Rattle.order_test.proofs.quick.past_is_listed.Goals as goal

pub loop-session-preserved : goal.loop-session-preserved
loop-session-preserved c = λ session below. elim (cases_eq session c.loop-session.session) [
  | inl same ↦
      subst (λ (s : ℕ). SessionIsListed c.args.firsts.now s c.args.table c.args.keys.now (slice_index c.args.past.now.tops.items s)) (sym same)
      (subst (λ (limit : ℕ). SessionIsListed c.args.firsts.now c.loop-session.session c.args.table c.args.keys.now limit) c.top_of.ensures
      (c.session_is_listed.ensures c.if-not-session_is_listed.false))
  | inr other ↦ c.loop-session.invariant session (omega arith)
]

pub returns : goal.returns
returns c = λ h session firsts is.
    let within = slice_get_within c.args.firsts.now session firsts is in
    c.loop-session.invariant session (let end = c.loop-session-test.false in omega arith) firsts is
