use Rattle.std.proofs.Common.{rules, Option, refl, subst, sym}
use Rattle.block_machine.specs.declared.end.End.{End}
use Rattle.session_core.specs.Sessions.{wanted}
use Rattle.session_hall.specs.Seats.{ShowsEnd}
use Rattle.session_hall.proofs.Turning.{alone_same, turn_noted}
use Rattle.session_hall.proofs.asking.note_end.Goals as goal

pub returns-in-Ended-clause-grows : goal.returns-in-Ended-clause-grows
returns-in-Ended-clause-grows c = turn_noted c.args.seat.now _ (record { words = refl; stream = refl }) refl refl refl

pub returns-in-Bytes : goal.returns-in-Bytes
returns-in-Bytes c = record {
  grows = alone_same c.args.seat.now;
  session = refl;
  shows = subst (λ (o : Option End). ShowsEnd o (wanted c.args.seat.now.session)) (sym c.requires.goes_on) (search rules);
  by = c.requires.goes_on;
  told = c.demand.ensures.told;
}
