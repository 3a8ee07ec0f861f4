-- What is left to show of `places_of`.
use Rattle.std.proofs.Common.{refl, sym, subst, List, ℕ}
use Rattle.std.specs.Prelude.{Option, IsSomeAnd}
use Rattle.command_line.specs.Numbers.{IsUpTo}
use Rattle.command_line.proofs.sim.places_of.Goals as goal

pub returns-in_err-up_to_given-clause-none : goal.returns-in_err-up_to_given-clause-none
returns-in_err-up_to_given-clause-none c = λ _ level seed sessions queries log h.
    c.in_err-up_to_given.ensures.none refl sessions
    (subst (λ (o : Option (List ℕ)). IsSomeAnd o (λ text. IsUpTo 64 text sessions)) (sym c.value-3.ensures) h.sessions_are)

pub returns-in_err-up_to_given-2-clause-none : goal.returns-in_err-up_to_given-2-clause-none
returns-in_err-up_to_given-2-clause-none c = λ _ level seed sessions queries log h.
    c.in_err-up_to_given-2.ensures.none refl queries
    (subst (λ (o : Option (List ℕ)). IsSomeAnd o (λ text. IsUpTo 200 text queries)) (sym c.value-4.ensures) h.queries_are)
