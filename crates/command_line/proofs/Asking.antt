-- Words that ask about the program are words of no command, and ask one thing.
use Rattle.std.proofs.Common.{◌≡◌, ◌∙◌, inl, inr, List, [], ◌∷◌, ap, sym, refl, slice_index}
use Rattle.std.specs.Prelude.{Bool, true, false, if◌then◌else◌, ◌==◌, codes}
use Rattle.clap.specs.Words.{Text, Row, fault_of}
use Rattle.clap.proofs.OnLiterals.{clap_on_literals}
use Rattle.command_line.specs.Arguments.{word_of, arguments_of, pipe_arguments, serve_arguments, check_arguments, judge_arguments, sim_arguments, stop_arguments}
use Rattle.command_line.specs.Commands.{Says, IsHelp, IsVersion}
use Rattle.command_line.specs.declared.arguments.Name.{Name}
use Rattle.command_line.specs.declared.arguments.Name.TheVariants.{Pipe, Serve, Check, Judge, Sim, Stop}
use Rattle.command_line.specs.declared.question.Topic.{Topic}
use Rattle.command_line.specs.declared.question.Topic.TheVariants as topics
use Rattle.command_line.proofs.Names.{word_same}

-- ---- words that differ

not_both : (a : Bool) → a ≡ true → a ≡ false → ⊥
not_both a h k = let both : true ≡ false = sym h ∙ k in absurd (cc)

differ : (test : Text → Bool) (a b : Text) → test a ≡ true → test b ≡ false → a ≡ b → ⊥
differ test a b holds fails e = not_both (test b) (ap test (sym e) ∙ holds) fails

-- the first byte is that of a name
abbrev begins_a_name : Text → Bool
begins_a_name w =
    let first = slice_index w 0 in
    if first == 112 then true else (if first == 115 then true else (if first == 99 then true else first == 106))

a_name : (n : Name) → begins_a_name (word_of n) ≡ true
a_name Pipe = refl
a_name Serve = refl
a_name Check = refl
a_name Judge = refl
a_name Sim = refl
a_name Stop = refl

no_name : (n : Name) (words others : List Text) (w : Text) → begins_a_name w ≡ false → word_of n ∷ words ≡ w ∷ others → ⊥
no_name n words others w fails e =
    let same : word_of n ≡ w = cc in
    differ begins_a_name (word_of n) w (a_name n) fails same

-- the third byte is that of `--help`
abbrev has_h : Text → Bool
has_h w = slice_index w 2 == 104

-- the first is that of `--help` or `--version`
abbrev has_dash : Text → Bool
has_dash w = slice_index w 0 == 45

help_apart : codes "--help" ≡ codes "--version" → ⊥
help_apart e = differ has_h (codes "--help") (codes "--version") refl refl e

bare_help_apart : codes "--version" ≡ codes "help" → ⊥
bare_help_apart e = differ has_dash (codes "--version") (codes "help") refl refl e

-- ---- no command takes `--help`

abbrev is_none : {A : Type 0} → List A → Bool
is_none [] = true
is_none (x ∷ xs) = false

pipe_refuses : is_none (fault_of pipe_arguments (codes "--help" ∷ [])) ≡ false
unfolding clap_on_literals pipe_arguments
pipe_refuses = refl

serve_refuses : is_none (fault_of serve_arguments (codes "--help" ∷ [])) ≡ false
unfolding clap_on_literals serve_arguments
serve_refuses = refl

check_refuses : is_none (fault_of check_arguments (codes "--help" ∷ [])) ≡ false
unfolding clap_on_literals check_arguments
check_refuses = refl

judge_refuses : is_none (fault_of judge_arguments (codes "--help" ∷ [])) ≡ false
unfolding clap_on_literals judge_arguments
judge_refuses = refl

sim_refuses : is_none (fault_of sim_arguments (codes "--help" ∷ [])) ≡ false
unfolding clap_on_literals sim_arguments
sim_refuses = refl

stop_refuses : is_none (fault_of stop_arguments (codes "--help" ∷ [])) ≡ false
unfolding clap_on_literals stop_arguments
stop_refuses = refl

refuses : (n : Name) → is_none (fault_of (arguments_of n) (codes "--help" ∷ [])) ≡ false
refuses Pipe = pipe_refuses
refuses Serve = serve_refuses
refuses Check = check_refuses
refuses Judge = judge_refuses
refuses Sim = sim_refuses
refuses Stop = stop_refuses

not_taken : (n : Name) → fault_of (arguments_of n) (codes "--help" ∷ []) ≡ [] → ⊥
not_taken n taken = not_both (is_none (fault_of (arguments_of n) (codes "--help" ∷ []))) (ap is_none taken) (refuses n)

-- ---- words of a command ask nothing

pub no_help : (n : Name) (args : List Text) (said : List Row) (topic : Topic) → Says n args said → IsHelp args topic → ⊥
no_help n args said topics.Program says (inl e) = no_name n says.words [] (codes "--help") refl (sym says.args_are ∙ e)
no_help n args said topics.Program says (inr e) = no_name n says.words [] (codes "help") refl (sym says.args_are ∙ e)
no_help n args said (topics.Command m) says e =
    let both : word_of n ∷ says.words ≡ word_of m ∷ (codes "--help" ∷ []) = sym says.args_are ∙ e in
    let words : says.words ≡ codes "--help" ∷ [] = cc in
    not_taken n (ap (fault_of (arguments_of n)) (sym words) ∙ says.taken)

pub no_version : (n : Name) (args : List Text) (said : List Row) → Says n args said → IsVersion args → ⊥
no_version n args said says e = no_name n says.words [] (codes "--version") refl (sym says.args_are ∙ e)

-- ---- and words that ask, ask one thing

not_empty : (word : Text) → [] ≡ word ∷ [] → ⊥
not_empty word e = absurd (cc)

alone : (word : Text) (n : Name) (args : List Text) → args ≡ word ∷ [] → args ≡ word_of n ∷ codes "--help" ∷ [] → ⊥
alone word n args e f =
    let both : word ∷ [] ≡ word_of n ∷ (codes "--help" ∷ []) = sym e ∙ f in
    let rest : [] ≡ codes "--help" ∷ [] = cc in
    not_empty (codes "--help") rest

pub help_same : (args : List Text) (a b : Topic) → IsHelp args a → IsHelp args b → a ≡ b
help_same args topics.Program topics.Program h k = refl
help_same args topics.Program (topics.Command m) (inl h) k = absurd (alone (codes "--help") m args h k)
help_same args topics.Program (topics.Command m) (inr h) k = absurd (alone (codes "help") m args h k)
help_same args (topics.Command n) topics.Program h (inl k) = absurd (alone (codes "--help") n args k h)
help_same args (topics.Command n) topics.Program h (inr k) = absurd (alone (codes "help") n args k h)
help_same args (topics.Command n) (topics.Command m) h k =
    let both : word_of n ∷ (codes "--help" ∷ []) ≡ word_of m ∷ (codes "--help" ∷ []) = sym h ∙ k in
    let words : word_of n ≡ word_of m = cc in
    ap topics.Command (word_same n m words)

pub not_both_asked : (args : List Text) (topic : Topic) → IsHelp args topic → IsVersion args → ⊥
not_both_asked args topics.Program (inl h) k =
    let both : codes "--help" ∷ [] ≡ codes "--version" ∷ [] = sym h ∙ k in
    let words : codes "--help" ≡ codes "--version" = cc in
    help_apart words
not_both_asked args topics.Program (inr h) k =
    let both : codes "--version" ∷ [] ≡ codes "help" ∷ [] = sym k ∙ h in
    let words : codes "--version" ≡ codes "help" = cc in
    bare_help_apart words
not_both_asked args (topics.Command n) h k = alone (codes "--version") n args k h
