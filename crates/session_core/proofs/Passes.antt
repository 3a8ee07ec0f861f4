-- What holds of scripts where no lack of memory and no failed write stands, and where one does.
use Rattle.std.proofs.Common.{◌≡◌, ◌≢◌, Bool, true, false, ℕ, ◌<◌, ◌≤◌, List, [], ◌∷◌, ◌++◌, length, refl, arith, Option, Some, None, length-append}
use Rattle.std.proofs.lemmas.Bool.Decides.{nat_tests}
use Rattle.std.specs.Prelude.{◌==◌, if◌then◌else◌}
use Rattle.block_machine.specs.Script.{Entry, did, refused, short, unsent, stop, Said, Script, unless_short, unless_unsent}
use Rattle.block_machine.specs.Stages.{IsFrom}
use Rattle.session_core.specs.declared.stage.SessionStage.{SessionStage}
use Rattle.session_core.specs.declared.stage.SessionStage.TheVariants as stages
use Rattle.session_core.specs.declared.turns.Shortage.{Shortage}
use Rattle.session_core.specs.declared.turns.Shortage.TheVariants as shortages
use Rattle.session_core.specs.Stands.{least, IsLast, IsBusy, IsFed}
use Rattle.session_core.specs.Steps.{with_out_of_memory, IsShort, IsPassing}

pub eqb-ne : (a b : ℕ) → a ≢ b → (a == b) ≡ false
eqb-ne a b h = grind (arith, nat_tests)

pub eqb-eq : (a b : ℕ) → a ≡ b → (a == b) ≡ true
eqb-eq a b h = grind (arith, nat_tests)

pub least-busy : (stage : SessionStage) → IsBusy stage → least stage ≡ 1
least-busy (stages.Waiting phase) h = absurd h
least-busy (stages.Taking phase) h = absurd h
least-busy _ h = refl

pub busy-last : (stage : SessionStage) → IsLast stage → IsBusy stage
busy-last (stages.Waiting phase) h = h
busy-last (stages.Taking phase) h = h
busy-last _ h = tt

-- no lack of memory stands here any more
pub unless_short-passes : (final : Bool) (k rest : Script) (said : Said) (es : List Entry) → IsFrom 1 (length said.bytes) es →
    unless_short final k rest said es ≡ rest said es
unless_short-passes final k rest said [] h = refl
unless_short-passes final k rest said (did a e ∷ es) h = refl
unless_short-passes final k rest said (refused why ∷ es) h = refl
unless_short-passes true k rest said (short true n ∷ es) h = rw (eqb-ne n (length said.bytes) (λ e. omega (arith, e, h))) refl
unless_short-passes true k rest said (short false n ∷ es) h = refl
unless_short-passes false k rest said (short true n ∷ es) h = refl
unless_short-passes false k rest said (short false n ∷ es) h = rw (eqb-ne n (length said.bytes) (λ e. omega (arith, e, h))) refl
unless_short-passes final k rest said (unsent n ∷ es) h = refl
unless_short-passes final k rest said (stop cause ∷ es) h = refl

-- nor where one stands that doesn't end the session
pub unless_short-over : (w : Option Shortage) (k rest : Script) (said : Said) (es : List Entry) → IsPassing w →
    IsFrom 1 (length said.bytes) es →
    unless_short true k rest said (with_out_of_memory w said.bytes es) ≡ rest said (with_out_of_memory w said.bytes es)
unless_short-over None k rest said es p h = unless_short-passes true k rest said es h
unless_short-over (Some shortages.Passing) k rest said es p h = refl
unless_short-over (Some shortages.Ending) k rest said es p h = absurd p

-- a lack of memory stands here
pub unless_short-takes : (final : Bool) (k rest : Script) (said : Said) (es : List Entry) →
    unless_short final k rest said (short final (length said.bytes) ∷ es) ≡ k said es
unless_short-takes true k rest said es = rw (eqb-eq (length said.bytes) (length said.bytes) refl) refl
unless_short-takes false k rest said es = rw (eqb-eq (length said.bytes) (length said.bytes) refl) refl

chosen_twice : {A : Type 0} (b : Bool) (p q : A) → (if b then p else (if b then p else q)) ≡ (if b then p else q)
chosen_twice true p q = refl
chosen_twice false p q = refl

-- a lack of memory that is looked for twice
pub unless_short-twice : (final : Bool) (k rest : Script) (said : Said) (es : List Entry) →
    unless_short final k (unless_short final k rest) said es ≡ unless_short final k rest said es
unless_short-twice final k rest said [] = refl
unless_short-twice final k rest said (did a e ∷ es) = refl
unless_short-twice final k rest said (refused why ∷ es) = refl
unless_short-twice true k rest said (short true n ∷ es) = chosen_twice (n == length said.bytes) (k said es) (rest said (short true n ∷ es))
unless_short-twice true k rest said (short false n ∷ es) = refl
unless_short-twice false k rest said (short true n ∷ es) = refl
unless_short-twice false k rest said (short false n ∷ es) =
    chosen_twice (n == length said.bytes) (k said es) (rest said (short false n ∷ es))
unless_short-twice final k rest said (unsent n ∷ es) = refl
unless_short-twice final k rest said (stop cause ∷ es) = refl

-- after more bytes no failed write stands here any more
pub unless_unsent-passes : (before : ℕ) (k rest : Script) (said : Said) (l : ℕ) (es : List Entry) → before < length said.bytes →
    IsFrom l (length said.bytes) es → unless_unsent before k rest said es ≡ rest said es
unless_unsent-passes before k rest said l [] b h = refl
unless_unsent-passes before k rest said l (did a e ∷ es) b h = refl
unless_unsent-passes before k rest said l (refused why ∷ es) b h = refl
unless_unsent-passes before k rest said l (short final n ∷ es) b h = refl
unless_unsent-passes before k rest said l (unsent n ∷ es) b h = rw (eqb-ne n before (λ e. omega (arith, e, h, b))) refl
unless_unsent-passes before k rest said l (stop cause ∷ es) b h = refl

pub unless_unsent-takes : (before : ℕ) (k rest : Script) (said : Said) (es : List Entry) →
    unless_unsent before k rest said (unsent before ∷ es) ≡ k said es
unless_unsent-takes before k rest said es = rw (eqb-eq before before refl) refl

pub IsFrom-weaker : (l m sent : ℕ) (es : List Entry) → m ≤ l → IsFrom l sent es → IsFrom m sent es
IsFrom-weaker l m sent [] h f = f
IsFrom-weaker l m sent (did a e ∷ es) h f = f
IsFrom-weaker l m sent (refused why ∷ es) h f = f
IsFrom-weaker l m sent (short final n ∷ es) h f = omega (arith, h, f)
IsFrom-weaker l m sent (unsent n ∷ es) h f = f
IsFrom-weaker l m sent (stop cause ∷ es) h f = f

-- what stands after more bytes stands after fewer
pub IsFrom-later : (l : ℕ) (sent reply : List ℕ) (es : List Entry) → 0 < length reply → IsFrom l (length (sent ++ reply)) es →
    IsFrom 1 (length sent) es
IsFrom-later l sent reply [] some f = f
IsFrom-later l sent reply (did a e ∷ es) some f = f
IsFrom-later l sent reply (refused why ∷ es) some f = f
IsFrom-later l sent reply (short final n ∷ es) some f = omega (arith, f, some, length-append sent reply)
IsFrom-later l sent reply (unsent n ∷ es) some f = omega (arith, f, some, length-append sent reply)
IsFrom-later l sent reply (stop cause ∷ es) some f = f

pub with_out_of_memory-append : (w : Option Shortage) (sent : List ℕ) (es : List Entry) → with_out_of_memory w sent [] ++ es ≡ with_out_of_memory w sent es
with_out_of_memory-append None sent es = refl
with_out_of_memory-append (Some shortage) sent es = refl

pub IsFrom-with_out_of_memory : (w : Option Shortage) (sent : List ℕ) (l : ℕ) (es : List Entry) → IsFrom l (length sent) es →
    IsFrom 0 (length sent) (with_out_of_memory w sent es)
IsFrom-with_out_of_memory (Some shortage) sent l es f = omega arith
IsFrom-with_out_of_memory None sent l es f = IsFrom-weaker l 0 (length sent) es (omega arith) f

pub IsFrom-read : (w : Option Shortage) (sent reply : List ℕ) (l : ℕ) (es : List Entry) → 0 < length reply →
    IsFrom l (length (sent ++ reply)) es →
    IsFrom 1 (length sent) (with_out_of_memory w (sent ++ reply) es)
IsFrom-read (Some shortage) sent reply l es some f = omega (arith, some, length-append sent reply)
IsFrom-read None sent reply l es some f = IsFrom-later l sent reply es some f

pub IsShort-with_out_of_memory : (w : Option Shortage) (sent : List ℕ) → IsShort sent (with_out_of_memory w sent [])
IsShort-with_out_of_memory (Some shortage) sent = refl
IsShort-with_out_of_memory None sent = tt

pub IsFed-last : (stage : SessionStage) (bytes : List ℕ) → IsLast stage → IsFed stage bytes → bytes ≡ []
IsFed-last (stages.Leaving e) bytes l f = f
IsFed-last (stages.Closing e) bytes l f = f
IsFed-last (stages.Parting e) bytes l f = f
IsFed-last (stages.Ended e) bytes l f = f
IsFed-last _ bytes l f = absurd l

pub IsFed-nothing : (stage : SessionStage) → IsFed stage []
IsFed-nothing (stages.Leaving e) = refl
IsFed-nothing (stages.Closing e) = refl
IsFed-nothing (stages.Parting e) = refl
IsFed-nothing (stages.Ended e) = refl
IsFed-nothing _ = tt

-- what is fed to a later stage may be fed to this one
pub IsFed-back : (stage next : SessionStage) (bytes : List ℕ) → (IsLast stage → IsLast next) → IsFed next bytes → IsFed stage bytes
IsFed-back (stages.Leaving e) next bytes l f = IsFed-last next bytes (l tt) f
IsFed-back (stages.Closing e) next bytes l f = IsFed-last next bytes (l tt) f
IsFed-back (stages.Parting e) next bytes l f = IsFed-last next bytes (l tt) f
IsFed-back (stages.Ended e) next bytes l f = IsFed-last next bytes (l tt) f
IsFed-back _ next bytes l f = tt
