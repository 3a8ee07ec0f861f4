use Rattle.std.proofs.Common.{◌∙◌, refl, sym}
use Rattle.std.proofs.lemmas.Bool.{false≢true}
use Rattle.right_logs.proofs.SessionLemmas.{define_goes}
use Rattle.right_logs.proofs.sessions.take_define.Goals as goal

pub returns : goal.returns
returns c = λ goes order events stands.
    define_goes order c.args.places.now.at.items events c.args.session c.args.name.now c.args.pass.now _
    (rw c.deref.ensures.value at (c.is_open.ensures c.if-not-is_open.false))
    (λ taken. false≢true (sym c.if-has_name.false ∙ (rw c.deref-2.ensures.value at c.has_name.ensures).1 taken)) (record {
      session_notes = refl;
      pending = refl;
      names_are = rw c.in_ok-copy.ensures at c.in_ok-push.ensures.items;
      last = refl;
      sights = record { txns = refl; clocked = refl; highest = refl; reads = refl; met = refl };
      place = record {
        committed = refl;
        keys = refl;
        of_events = c.in_ok-note_place.ensures.number;
        notes = refl;
        values = c.in_ok-note_place.ensures.value;
      };
    }) stands
