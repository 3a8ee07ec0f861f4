use Rattle.std.proofs.Common.{rules, ◌≡◌, ◌<◌, List, [], ◌∷◌, ◌++◌, ap, subst, sym, append_assoc, ◌∙◌}
use Rattle.std.specs.Prelude.{All}
use Rattle.std.proofs.lemmas.List.Elements.{All-tail}
use Rattle.std.specs.Vec.Iter.{into_iter_items}
use Rattle.valid_writes.specs.Beginnings.{empty_history}
use Rattle.session_hall.specs.declared.client.Client.{Client}
use Rattle.session_hall.specs.declared.seat.Seat.{Seat}
use Rattle.session_hall.specs.Accounts.{nothing}
use Rattle.session_hall.specs.Halls.{AreSeated, IsSeated}
use Rattle.session_hall.proofs.Opening.{along_push}
use Rattle.session_hall.proofs.hall.seats_for.Goals as goal

pub loop-client-preserved : goal.loop-client-preserved
loop-client-preserved c =
    let (done, whole, are) = c.loop-client.invariant.seated in
    let front : into_iter_items c.loop-client.client-iterator ≡ c.in-Some.client ∷ into_iter_items c.next.new.self = search rules in
    record {
      pieces = All-tail (λ (x : Client). 0 < x.piece) c.in-Some.client (into_iter_items c.next.new.self)
          (subst (λ (xs : List Client). All (λ (x : Client). 0 < x.piece) xs) front c.loop-client.invariant.pieces);
      seated = (
        done ++ c.in-Some.client ∷ [],
        append_assoc done (c.in-Some.client ∷ []) (into_iter_items c.next.new.self)
            ∙ ap (λ (x : List Client). done ++ x) (sym front) ∙ whole,
        subst (λ (xs : List Seat). AreSeated c.args.level (done ++ c.in-Some.client ∷ []) xs) (sym {A = List Seat} c.in_ok-push.ensures.items)
            (along_push (λ (x : Client) (y : Seat). IsSeated (c.args.level) (empty_history c.args.level) x nothing y) done c.loop-client.seats.items
            c.in-Some.client c.in_ok-seat_for.field-0 are c.in_ok-seat_for.ensures),
      );
    }
