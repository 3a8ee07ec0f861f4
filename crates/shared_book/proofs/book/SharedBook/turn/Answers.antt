use Rattle.std.proofs.Common.{List, subst, sym, length}
use Rattle.turn_lock.specs.Passes.{MayFind}
use Rattle.shared_book.specs.declared.entry.Entry.{Entry}
use Rattle.shared_book.specs.Entries.{key_of, chronicle_of}
use Rattle.shared_book.specs.Books.{BookValue}
use Rattle.shared_book.proofs.Found.{needs, new_or_own, did, still_book, seen_legal}
use Rattle.shared_book.proofs.book.SharedBook.turn.Goals as goal

pub with_turn-place-requires-clause-ready : goal.with_turn-place-requires-clause-ready
with_turn-place-requires-clause-ready g c = λ log found history is legal.
    needs _ _ _ c.self.invariant history legal (subst (λ (l : List Entry). MayFind key_of c.self.inside.pass l) is found)
    (λ tables state. g.C.SeatCall.may c.args.call tables state)
    (λ few many state le may. g.met.C.SeatCall.may_later c.args.call few many state le may)
    (subst (λ (b : BookValue). g.C.SeatCall.may c.args.call (length (chronicle_of b.pass.seen).tables) b.state) (sym c.self.view_is) c.requires)

pub with_turn-place-requires-clause-keys : goal.with_turn-place-requires-clause-keys
with_turn-place-requires-clause-keys g c = λ b x answer y e found turned grown.
    new_or_own _ _ _ c.self.invariant x turned.legal found y turned.legal_after turned.mine turned.ours _ turned.adds e grown

pub invariant_of-self : goal.invariant_of-self
invariant_of-self g c =
    let e = c.with_turn-place.ensures in
    still_book _ _ _ c.self.invariant e.0 e.2.legal e.3.possible _ e.1 _ _ e.2 _ e.3

pub returns-clause-does : goal.returns-clause-does
returns-clause-does g c =
    let e = c.with_turn-place.ensures in
    rw (← c.self.view_is) (did _ _ _ c.self.invariant e.0 e.2.legal e.3.possible
    (λ old a new. g.C.SeatCall.does c.args.call old c.args.beside.now a new c.with_turn-place.new.beside) e.1 _ _ e.2 _ e.3
    (λ mine added lies done.
    g.met.C.SeatCall.lifts c.args.call c.args.beside.now _ c.with_turn-place.new.beside _ e.0 e.1 _ mine added _ _ lies done))

pub returns-clause-legal : goal.returns-clause-legal
returns-clause-legal g c =
    let e = c.with_turn-place.ensures in
    seen_legal _ _ _ c.self.invariant e.0 e.2.legal e.3.possible _ e.1 _ _ e.2 _ e.3
