-- What a refused call leaves of a book that alone adds events.
use Rattle.std.specs.Prelude.{◌≡◌}
use Rattle.history_core.specs.Chronicle.{IsLegalChronicle}
use Rattle.history_book.specs.Book.{Past, GoesOn}
use Rattle.valid_writes.specs.Owning.{OwnsAllThatComes}

-- others may go on where a call is refused, and where the book alone adds events nobody does
abbrev pub RefusedCallsLeaveAll : Type 0
RefusedCallsLeaveAll =
    (old new : Past) → IsLegalChronicle old.seen → IsLegalChronicle new.seen → GoesOn old new → OwnsAllThatComes old new → new ≡ old
