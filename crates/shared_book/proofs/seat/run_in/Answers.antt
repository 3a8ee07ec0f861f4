use Rattle.std.proofs.Common.{◌≡◌, ◌∙◌, Some, sym, subst}
use Rattle.std.specs.Prelude.{Option}
use Rattle.history_core.specs.Chronicle.{Chronicle}
use Rattle.shared_book.specs.Entries.{entries_of}
use Rattle.shared_book.specs.Turns.{NeedsAt}
use Rattle.shared_book.proofs.seat.run_in.Goals as goal

same_some : (a b : Chronicle) → Some a ≡ Some b → a ≡ b
same_some a b same = cc

same_needs : (N : Chronicle → Type 0) (old : Option Chronicle) (taken : Chronicle) → (x : Chronicle) × (old ≡ Some x) × N x → old ≡ Some taken → N taken
same_needs N old taken (x, is, needs) taken_is = subst N (same_some x taken (sym is ∙ taken_is)) needs

pub run_on-place-requires : goal.run_on-place-requires
run_on-place-requires g c =
    same_needs (λ (x : Chronicle). NeedsAt c.args.place (g.C.SeatCall.may c.args.call) (entries_of x)) c.args.store.now c.in-Some.taken
    c.requires.there (sym c.take.ensures.value ∙ c.in-Some.is)
