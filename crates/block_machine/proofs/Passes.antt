-- What holds of scripts where no lack of memory stands, and where one does.
use Rattle.std.proofs.Common.{◌≡◌, ◌≢◌, true, false, ℕ, List, [], ◌∷◌, length, refl, arith}
use Rattle.std.proofs.lemmas.Bool.Decides.{nat_tests}
use Rattle.std.specs.Prelude.{◌==◌}
use Rattle.block_machine.specs.Script.{Entry, did, refused, short, unsent, stop, Said, Script, unless_short}
use Rattle.block_machine.specs.Stages.{IsFrom}

eqb-ne : (a b : ℕ) → a ≢ b → (a == b) ≡ false
eqb-ne a b h = grind (arith, nat_tests)

eqb-eq : (a b : ℕ) → a ≡ b → (a == b) ≡ true
eqb-eq a b h = grind (arith, nat_tests)

-- no lack of memory stands here any more
pub passes : (k rest : Script) (said : Said) (es : List Entry) → IsFrom 1 (length said.bytes) es → unless_short false k rest said es ≡ rest said es
passes k rest said [] h = refl
passes k rest said (did a e ∷ es) h = refl
passes k rest said (refused why ∷ es) h = refl
passes k rest said (short true n ∷ es) h = refl
passes k rest said (short false n ∷ es) h = rw (eqb-ne n (length said.bytes) (λ e. omega (arith, e, h))) refl
passes k rest said (unsent n ∷ es) h = refl
passes k rest said (stop cause ∷ es) h = refl

-- one stands here
pub takes : (k rest : Script) (said : Said) (es : List Entry) → unless_short false k rest said (short false (length said.bytes) ∷ es) ≡ k said es
takes k rest said es = rw (eqb-eq (length said.bytes) (length said.bytes) refl) refl
