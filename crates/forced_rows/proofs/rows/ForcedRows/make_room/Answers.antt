use Rattle.std.proofs.lemmas.Result.{on_ok_weaker, on_err_weaker}
use Rattle.forced_rows.proofs.Rooms.{rows_as, seats_ready, room_made}
use Rattle.forced_rows.proofs.rows.ForcedRows.make_room.Goals as goal

pub returns-clause-ok : goal.returns-clause-ok
returns-clause-ok c =
    on_ok_weaker c.grow_both.result
    (λ grows. room_made c.args.history.now.events c.args.session c.args.self.now
    record { alloc = c.args.self.now.alloc; reach = c.grow_both.new.reach; past = c.grow_both.new.past; seats = c.forget_sources.new.seats }
    c.add_seats.new.seats.items c.requires.idle c.requires.kept c.add_seats.ensures.kept c.in_ok-add_seats.ensures.ok c.forget_sources.ensures grows)
    c.grow_both.ensures.ok

pub returns-clause-err : goal.returns-clause-err
returns-clause-err c =
    on_err_weaker c.grow_both.result
    (λ same. rows_as c.args.history.now.events c.args.self.now
    record { alloc = c.args.self.now.alloc; reach = c.grow_both.new.reach; past = c.grow_both.new.past; seats = c.forget_sources.new.seats }
    c.requires.kept same.0 same.1
    (seats_ready c.args.history.now.events c.args.session c.args.self.now.seats.items c.add_seats.new.seats.items c.forget_sources.new.seats.items
    c.requires.idle c.requires.kept.stand.seats c.add_seats.ensures.kept c.forget_sources.ensures))
    c.grow_both.ensures.err
