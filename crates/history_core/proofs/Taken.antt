-- The prefixes of a legal history.
use Rattle.std.proofs.Common.{◌≡◌, ℕ, ◌<◌, List, length, min, take, arith, sym, ◌∙◌, subst}
use Rattle.std.proofs.lemmas.List.{length-take, take-take}
use Rattle.std.proofs.lemmas.Option.{slice_get_within}
use Rattle.cell_base.specs.declared.cell.Cell.{Cell}
use Rattle.cell_base.specs.declared.value.Value.{Value}
use Rattle.history_core.specs.declared.event.Event.{Event}
use Rattle.history_core.specs.Legal.{IsLegal, MayCome, IsOffered}
use Rattle.history_core.proofs.Places.{slice_get-take}
use Rattle.history_core.proofs.Prefixes.{EachNext}

pub each_taken : {X : Type 0} (P : List X → X → Type 0) (xs : List X) (n : ℕ) → EachNext P xs → EachNext P (take n xs)
each_taken {X} P xs n each k x is =
    let within : k < length (take n xs) = slice_get_within (take n xs) k x is in
    let long : length (take n xs) ≡ min n (length xs) = length-take n xs in
    let under : k < n = omega arith in
    subst (λ (front : List X). P front x) (sym (take-take k n xs (omega arith))) (each k x (sym (slice_get-take xs n k under) ∙ is))

-- each prefix of a legal history is legal
pub legal_take : (initial : List (Cell × Value)) (events : List Event) (n : ℕ) → IsLegal initial events → IsLegal initial (take n events)
legal_take initial events n legal = record {
  formed = each_taken (MayCome initial) events n legal.formed;
  offered = each_taken IsOffered events n legal.offered;
}
