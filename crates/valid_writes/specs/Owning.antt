-- A book that alone adds events.
use Rattle.std.specs.Prelude.{◌≡◌, List, [], ◌++◌}
use Rattle.std.proofs.Common.{sym, ap, ◌∙◌}
use Rattle.std.proofs.lemmas.List.{append-nil, append_assoc}
use Rattle.history_core.specs.declared.event.Event.{Event}
use Rattle.history_book.specs.Book.{Past}

-- all events that came to the history are the book's own, in that order
pub record OwnsAllThatComes (old new : Past) : Type 0 where
  pub added : List Event
  pub seen : new.seen.events ≡ old.seen.events ++ added
  pub own : new.own ≡ old.own ++ added

pub owns_all_of_none : (past : Past) → OwnsAllThatComes past past
owns_all_of_none past = record {
  added = [];
  seen = sym (append-nil past.seen.events);
  own = sym (append-nil past.own);
}

pub owns_all_of_both : (a b c : Past) → OwnsAllThatComes a b → OwnsAllThatComes b c → OwnsAllThatComes a c
owns_all_of_both a b c first second = record {
  added = first.added ++ second.added;
  seen = second.seen ∙ ap (λ (es : List Event). es ++ second.added) first.seen ∙ append_assoc a.seen.events first.added second.added;
  own = second.own ∙ ap (λ (es : List Event). es ++ second.added) first.own ∙ append_assoc a.own first.added second.added;
}
