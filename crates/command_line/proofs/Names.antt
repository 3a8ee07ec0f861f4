-- The first word names one command, and the words after it say one thing.
use Rattle.std.proofs.Common.{◌≡◌, ◌≢◌, ◌∙◌, ℕ, List, [], ◌∷◌, ap, sym, subst, refl, slice_index, Result, Ok, Err, IfOk}
use Rattle.std.specs.Prelude.{Option, Some, None, IfSome, IsNone, if◌then◌else◌, ◌==◌}
use Rattle.cell_base.specs.declared.memory.Memory.{Memory}
use Rattle.clap.specs.Words.{App, Text, Row, fault_of, matches_of}
use Rattle.command_line.specs.Arguments.{word_of, arguments_of}
use Rattle.command_line.specs.Commands.{Says, AsksAboutProgram, IsNoCommand}
use Rattle.command_line.specs.declared.arguments.Name.{Name}
use Rattle.command_line.specs.declared.arguments.Name.TheVariants.{Pipe, Serve, Check, Judge, Sim, Stop}

-- the name by the first two bytes of its word
abbrev name_by : ℕ → ℕ → Name
name_by a b =
    if a == 112 then Pipe else (if a == 99 then Check else (if a == 106 then Judge else (if b == 101 then Serve else (if b == 105 then Sim else Stop))))

name_back : (n : Name) → name_by (slice_index (word_of n) 0) (slice_index (word_of n) 1) ≡ n
name_back Pipe = refl
name_back Serve = refl
name_back Check = refl
name_back Judge = refl
name_back Sim = refl
name_back Stop = refl

pub word_same : (n m : Name) → word_of n ≡ word_of m → n ≡ m
word_same n m e = sym (name_back n) ∙ ap (λ (w : Text). name_by (slice_index w 0) (slice_index w 1)) e ∙ name_back m

-- words that say something to two commands say it to one
pub name_same : (n m : Name) (args : List Text) (s t : List Row) → Says n args s → Says m args t → n ≡ m
name_same n m args s t p q =
    let both : word_of n ∷ p.words ≡ word_of m ∷ q.words = sym p.args_are ∙ q.args_are in
    let words : word_of n ≡ word_of m = cc in
    word_same n m words

pub said_same : (n : Name) (args : List Text) (s t : List Row) → Says n args s → Says n args t → s ≡ t
said_same n args s t p q =
    let both : word_of n ∷ p.words ≡ word_of n ∷ q.words = sym p.args_are ∙ q.args_are in
    let words : p.words ≡ q.words = cc in
    p.said_is ∙ ap (matches_of (arguments_of n)) words ∙ sym q.said_is

-- words that say something to a command are no other one
pub other : (n m : Name) (args : List Text) (s t : List Row) → (n ≡ m → ⊥) → Says n args s → Says m args t → ⊥
other n m args s t differ p q = differ (name_same n m args s t p q)

-- words to which no command says anything are none
unsaid : (args : List Text) → ¬ (AsksAboutProgram args) → ((n : Name) (s : List Row) → ¬ (Says n args s)) → IsNoCommand args
unsaid args nothing none = record {
  no_pipe = λ level words h. none Pipe h.0 h.1;
  no_serve = λ options h. none Serve h.0 h.1;
  no_check = λ path wide h. none Check h.0 h.1;
  no_judge = λ path h. none Judge h.0 h.1;
  no_sim = λ level seed sessions queries log h. none Sim h.0 h.1;
  no_stop = λ address h. none Stop h.0 h.1;
  asks_nothing = nothing;
}

-- no name stands first
pub unnamed : (args : List Text) → ¬ (AsksAboutProgram args) → ((n : Name) (words : List Text) → ¬ (args ≡ word_of n ∷ words)) → IsNoCommand args
unnamed args nothing none = unsaid args nothing (λ n s says. none n says.words says.args_are)

-- the words after the name aren't words of its command
pub refused : (n : Name) (args words : List Text) → ¬ (AsksAboutProgram args) → args ≡ word_of n ∷ words → ((s : List Row) → ¬ (Says n (word_of n ∷ words) s)) → IsNoCommand args
refused n args words nothing e none = unsaid args nothing (λ m s says.
    let heads : word_of n ∷ words ≡ word_of m ∷ says.words = sym e ∙ says.args_are in
    let first : word_of n ≡ word_of m = cc in
    let same : n ≡ m = word_same n m first in
    none s (subst (λ (a : List Text). Says n a s) e (subst (λ (k : Name). Says k args s) (sym same) says)))

-- what `clap` says of the words after the name
pub says_as : (n : Name) (a : App) (words : List Text) (r : Result (Option (List Row)) Memory) → a ≡ arguments_of n
    → IfOk r (λ found. IfSome found (λ said. fault_of a words ≡ [])) → IfOk r (λ found. IfSome found (λ said. said ≡ matches_of a words))
    → IfOk r (λ found. IfSome found (λ said. Says n (word_of n ∷ words) said))
says_as n a words (Ok (Some said)) is taken given = record {
  words = words;
  args_are = refl;
  taken = sym (ap (λ (x : App). fault_of x words) is) ∙ taken;
  said_is = given ∙ ap (λ (x : App). matches_of x words) is;
}
says_as n a words (Ok None) is taken given = tt
says_as n a words (Err e) is taken given = tt

pub refused_as : (n : Name) (a : App) (words : List Text) (r : Result (Option (List Row)) Memory) → a ≡ arguments_of n
    → IfOk r (λ found. IsNone found → fault_of a words ≢ []) → IfOk r (λ found. IsNone found → (said : List Row) → ¬ (Says n (word_of n ∷ words) said))
refused_as n a words (Ok found) is refuse = λ none said says.
    let e = says.args_are in
    let rest : words ≡ says.words = cc in
    refuse none (ap (λ (x : App). fault_of x words) is ∙ ap (fault_of (arguments_of n)) rest ∙ says.taken)
refused_as n a words (Err e) is refuse = tt
