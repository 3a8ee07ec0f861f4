use Rattle.std.proofs.Common.{[]}
use Rattle.std.specs.Fmt.{decimal}
use Rattle.history_log.specs.Reading.{IsU32}
use Rattle.history_log.proofs.Spelled.{residual}
use Rattle.history_log.proofs.Misreads.{from_end, from_takes, field_parts, tail}
use Rattle.history_log.proofs.cells.field_of.Goals as goal

pub returns-in_err-column : goal.returns-in_err-column
returns-in_err-column c = residual _ _ _ _ c.from_residual-in_err-column.ensures.1 (from_takes decimal IsU32 _ _ _ _ _ c.in_err-column.ensures
    (λ y is. let f = field_parts y _ is in (f.2, [], f.5, tail c.in_ok-key.ensures.1 (tail c.in_ok-table.ensures.1 f.6))))

pub returns-in_err-take_end : goal.returns-in_err-take_end
returns-in_err-take_end c = residual _ _ _ _ c.from_residual-in_err-take_end.ensures.1 (from_end _ _ _ _ c.in_err-take_end.ensures (λ y is. let f = field_parts y _ is in tail c.in_ok-column.ensures.1 (tail c.in_ok-key.ensures.1 (tail c.in_ok-table.ensures.1 f.6))))
