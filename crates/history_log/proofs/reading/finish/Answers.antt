use Rattle.std.proofs.Common.{◌≡◌, ◌≢◌, ◌==◌, inl, inr, ℕ, List, [], Bool, true, false, length, ap, refl}
use Rattle.history_log.proofs.ByLine.{cut_short}
use Rattle.history_log.proofs.reading.finish.Goals as goal

some : (rest : List ℕ) (b : Bool) → b ≡ false → b ≡ (length rest == 0) → rest ≢ []
some rest b e f none = let h : (length rest == 0) ≡ true = ap (λ (xs : List ℕ). length xs == 0) none in cc

pub returns-else-is_empty-clause-fault : goal.returns-else-is_empty-clause-fault
returns-else-is_empty-clause-fault c = (refl, cut_short c.args.draft.now c.requires c.args.rest.now (inr (some c.args.rest.now _ c.if-is_empty.false c.is_empty.ensures)))

pub returns-in_default : goal.returns-in_default
returns-in_default c = record { done = tt; fault = (refl, cut_short c.args.draft.now c.requires c.args.rest.now (inl c.in_default.not-Done)) }
