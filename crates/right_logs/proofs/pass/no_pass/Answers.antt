use Rattle.std.proofs.Common.{ℕ, List, [], ◌∷◌, ◌++◌, ap, ◌∙◌, rules}
use Rattle.right_logs.proofs.Beginning.{blank_stands}
use Rattle.right_logs.proofs.pass.no_pass.Goals as goal

pub returns : goal.returns
returns c = λ order placed. blank_stands order c.args.places.now.at.items _ placed (record {
  session_notes = search rules;
  pending = search rules;
  committed = search rules;
  names_are = search rules;
  keys = search rules;
  of_events = search rules;
  notes = search rules;
  values = search rules;
  last = c.in_ok-push.ensures.items ∙ ap (λ (xs : List ℕ). xs ++ 0 ∷ []) c.new-last.ensures.items;
  first = c.in_ok-txns.ensures.0;
  txns = c.in_ok-txns.ensures.1.0;
  clock = c.in_ok-txns.ensures.1.1;
  highest = rw c.deref.ensures.value at c.in_ok-highest.ensures;
  reads = search rules;
})
