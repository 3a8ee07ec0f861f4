-- What the loop of `words_of` keeps.
use Rattle.std.proofs.Common.{ℕ, List, ◌∷◌, ◌++◌, length}
use Rattle.command_line.specs.Numbers.{Lists}
use Rattle.command_line.proofs.number_lists.words_of.Given as goal

abbrev pub invariant-loop-front : goal.invariant-loop-front
invariant-loop-front l = record {
  read : (n : ℕ) (more : List ℕ) → Lists l.rest (n ∷ more) → Lists l.text (l.words ++ n ∷ more);
  left : (list : List ℕ) → Lists l.text list → (more : List ℕ) × Lists l.rest more;
}

abbrev pub decreases-loop-front : goal.decreases-loop-front
decreases-loop-front l = length l.rest
