use Rattle.std.proofs.Common.{rules, sym, subst}
use Rattle.history_core.specs.Legal.{Follows}
use Rattle.history_core.specs.Chronicle.{Chronicle}
use Rattle.history_core.proofs.history.History.push.Goals as goal

pub push_event-requires-clause-may : goal.push_event-requires-clause-may
push_event-requires-clause-may c = record {
  follows = subst (λ (h : Chronicle). Follows h.initial h.events c.args.event) (sym c.self.view_is) c.requires.follows;
  fits = search rules;
}
