-- The words of the command line: the name of a command, and words that `clap` takes for its arguments.
use Rattle.std.specs.Prelude.{◌≡◌, ◌≢◌, ◌⊎◌, ℕ, Bool, true, false, List, [], ◌∷◌, codes, Option, Some, None, IsSomeAnd, unwrap_or}
use Rattle.cell_base.specs.declared.level.Level.{Level}
use Rattle.cell_base.specs.declared.level.Level.TheVariants.{Rc}
use Rattle.clap.specs.Words.{Text, Row, fault_of, matches_of, first_of}
use Rattle.command_line.specs.Numbers.{level_word, IsLevelWord, IsLongWord, IsUpTo, Lists}
use Rattle.command_line.specs.Arguments.{word_of, arguments_of}
use Rattle.command_line.specs.declared.arguments.Name.{Name}
use Rattle.command_line.specs.declared.arguments.Name.TheVariants as names
use Rattle.command_line.specs.declared.serve.Progress.{Progress}
use Rattle.command_line.specs.declared.serve.Progress.TheVariants.{Told, Quiet}
use Rattle.command_line.specs.declared.serve.ServeOptions.{ServeOptions}
use Rattle.command_line.specs.declared.question.Topic.{Topic}
use Rattle.command_line.specs.declared.question.Topic.TheVariants as topics
use Rattle.command_line.specs.declared.reading.CommandLine.{CommandLine}
use Rattle.command_line.specs.declared.reading.CommandLine.TheVariants as lines

-- The words are the command's name and words that `clap` takes for its arguments. `said` is what they give for each of these.
pub record Says (name : Name) (args : List Text) (said : List Row) : Type 0 where
  pub words : List Text
  pub args_are : args ≡ word_of name ∷ words
  pub taken : fault_of (arguments_of name) words ≡ []
  pub said_is : said ≡ matches_of (arguments_of name) words

-- what an option's text says, and this where the option isn't there
abbrev pub IsOr : {A : Type 0} → A → (List ℕ → A → Type 0) → Option (List ℕ) → A → Type 0
IsOr default Is (Some text) a = Is text a
IsOr default Is None a = a ≡ default

-- the level and the choice words of `pipe LEVEL WORDS`
pub record GivesPipe (said : List Row) (level : Level) (words : List ℕ) : Type 0 where
  pub level_is : IsSomeAnd (first_of (codes "level") said) (λ text. IsLevelWord text level)
  pub words_are : IsSomeAnd (first_of (codes "words") said) (λ text. Lists text words)

-- whether a flag stands among the words: `clap` gives it the value `true` then, and else `false`
abbrev pub IsFlag : Option (List ℕ) → Bool → Type 0
IsFlag flag true = flag ≡ Some (codes "true")
IsFlag flag false = flag ≢ Some (codes "true")

-- the path of `check PATH`, and whether its flag is there
pub record GivesCheck (said : List Row) (path : List ℕ) (wide : Bool) : Type 0 where
  pub path_is : first_of (codes "path") said ≡ Some path
  pub wide_is : IsFlag (first_of (codes "wide") said) wide

-- the path of `judge PATH`
abbrev pub GivesJudge : List Row → List ℕ → Type 0
GivesJudge said path = first_of (codes "path") said ≡ Some path

-- what `sim LEVEL SEED SESSIONS QUERIES` simulates, and the log's path of its option `--log PATH`
pub record GivesSim (said : List Row) (level : Level) (seed sessions queries : ℕ) (log : Option (List ℕ)) : Type 0 where
  pub level_is : IsSomeAnd (first_of (codes "level") said) (λ text. IsLevelWord text level)
  pub seed_is : IsSomeAnd (first_of (codes "seed") said) (λ text. IsLongWord text seed)
  pub sessions_are : IsSomeAnd (first_of (codes "sessions") said) (λ text. IsUpTo 64 text sessions)
  pub queries_are : IsSomeAnd (first_of (codes "queries") said) (λ text. IsUpTo 200 text queries)
  pub log_is : log ≡ first_of (codes "log") said

-- `clap` gives a flag that stands among the words the value `true`, and else `false`
abbrev pub IsProgress : Option (List ℕ) → Progress → Type 0
IsProgress flag Quiet = flag ≡ Some (codes "true")
IsProgress flag Told = flag ≢ Some (codes "true")

-- the level and the numbers of `serve`
pub record GivesNumbers (said : List Row) (level : Level) (seed workers accept : ℕ) : Type 0 where
  pub level_is : IsOr Rc IsLevelWord (first_of (codes "level") said) level
  pub seed_is : IsOr 0 IsLongWord (first_of (codes "seed") said) seed
  pub workers_are : IsOr 16 (IsUpTo 64) (first_of (codes "workers") said) workers
  pub accept_is : IsOr 64 (IsUpTo 4096) (first_of (codes "accept") said) accept

-- the address to listen at, and to ask to stop, where none is given
abbrev pub default_address : List ℕ
default_address = codes "127.0.0.1:5433"

-- the options of `serve`
pub record GivesServe (said : List Row) (options : ServeOptions) : Type 0 where
  pub numbers : GivesNumbers said options.level options.seed options.workers options.accept
  pub listen_is : options.listen ≡ unwrap_or (first_of (codes "listen") said) default_address
  pub log_is : options.log ≡ first_of (codes "log") said
  pub setup_is : options.setup ≡ first_of (codes "setup") said
  pub progress_is : IsProgress (first_of (codes "quiet") said) options.progress

-- the address of `stop [ADDRESS]`
abbrev pub GivesStop : List Row → List ℕ → Type 0
GivesStop said address = address ≡ unwrap_or (first_of (codes "address") said) default_address

-- `pipe LEVEL WORDS`
abbrev pub IsPipe : List (List ℕ) → Level → List ℕ → Type 0
IsPipe args level words = (said : List Row) × Says names.Pipe args said × GivesPipe said level words

-- `serve` with its options
abbrev pub IsServe : List (List ℕ) → ServeOptions → Type 0
IsServe args options = (said : List Row) × Says names.Serve args said × GivesServe said options

-- `check PATH`, with `--wide` or without
abbrev pub IsCheck : List (List ℕ) → List ℕ → Bool → Type 0
IsCheck args path wide = (said : List Row) × Says names.Check args said × GivesCheck said path wide

-- `judge PATH`
abbrev pub IsJudge : List (List ℕ) → List ℕ → Type 0
IsJudge args path = (said : List Row) × Says names.Judge args said × GivesJudge said path

-- `sim LEVEL SEED SESSIONS QUERIES`, with `--log PATH` where a log is asked for
abbrev pub IsSim : List (List ℕ) → Level → ℕ → ℕ → ℕ → Option (List ℕ) → Type 0
IsSim args level seed sessions queries log = (said : List Row) × Says names.Sim args said × GivesSim said level seed sessions queries log

-- `stop [ADDRESS]`
abbrev pub IsStop : List (List ℕ) → List ℕ → Type 0
IsStop args address = (said : List Row) × Says names.Stop args said × GivesStop said address

-- The words ask for help: about the program by `--help` or `help` alone, about a command by its name and `--help`.
abbrev pub IsHelp : List (List ℕ) → Topic → Type 0
IsHelp args topics.Program = (args ≡ codes "--help" ∷ []) ⊎ (args ≡ codes "help" ∷ [])
IsHelp args (topics.Command name) = args ≡ word_of name ∷ codes "--help" ∷ []

-- `--version`
abbrev pub IsVersion : List (List ℕ) → Type 0
IsVersion args = args ≡ codes "--version" ∷ []

-- the words ask for help, or for the version
abbrev pub AsksAboutProgram : List (List ℕ) → Type 0
AsksAboutProgram args = ((topic : Topic) × IsHelp args topic) ⊎ IsVersion args

-- the words are no command
pub record IsNoCommand (args : List (List ℕ)) : Type 0 where
  pub no_pipe : (level : Level) (words : List ℕ) → ¬ (IsPipe args level words)
  pub no_serve : (options : ServeOptions) → ¬ (IsServe args options)
  pub no_check : (path : List ℕ) (wide : Bool) → ¬ (IsCheck args path wide)
  pub no_judge : (path : List ℕ) → ¬ (IsJudge args path)
  pub no_sim : (level : Level) (seed sessions queries : ℕ) (log : Option (List ℕ)) → ¬ (IsSim args level seed sessions queries log)
  pub no_stop : (address : List ℕ) → ¬ (IsStop args address)
  pub asks_nothing : ¬ (AsksAboutProgram args)

-- what the words are
abbrev pub IsCommandLine : List (List ℕ) → CommandLine → Type 0
IsCommandLine args (lines.Pipe pipe) = IsPipe args pipe.level pipe.words
IsCommandLine args (lines.Serve options) = IsServe args options
IsCommandLine args (lines.Check path wide) = IsCheck args path wide
IsCommandLine args (lines.Judge path) = IsJudge args path
IsCommandLine args (lines.Sim plan) = IsSim args plan.level plan.seed plan.sessions plan.queries plan.log
IsCommandLine args (lines.Stop address) = IsStop args address
IsCommandLine args (lines.Help topic) = IsHelp args topic
IsCommandLine args lines.Version = IsVersion args
IsCommandLine args lines.Unknown = IsNoCommand args

-- the same words are one command
abbrev pub OneCommand : Type 0
OneCommand = (args : List (List ℕ)) (a b : CommandLine) → IsCommandLine args a → IsCommandLine args b → a ≡ b

-- The commands with places, in their plain form: these words, in this order. A path begins with no dash (45) and is some text.
abbrev pub PlainPipe : Type 0
PlainPipe = (level : Level) (list words : List ℕ) → Lists list words → IsPipe (codes "pipe" ∷ level_word level ∷ list ∷ []) level words

abbrev pub PlainCheck : Type 0
PlainCheck = (first : ℕ) (rest : List ℕ) → first ≢ 45 →
    IsCheck (codes "check" ∷ (first ∷ rest) ∷ []) (first ∷ rest) false
    × IsCheck (codes "check" ∷ codes "--wide" ∷ (first ∷ rest) ∷ []) (first ∷ rest) true

abbrev pub PlainJudge : Type 0
PlainJudge = (first : ℕ) (rest : List ℕ) → first ≢ 45 → IsJudge (codes "judge" ∷ (first ∷ rest) ∷ []) (first ∷ rest)

abbrev pub PlainSim : Type 0
PlainSim = (level : Level) (seed_digits session_digits query_digits : List ℕ) (seed sessions queries : ℕ) → IsLongWord seed_digits seed
    → IsUpTo 64 session_digits sessions → IsUpTo 200 query_digits queries
    → IsSim (codes "sim" ∷ level_word level ∷ seed_digits ∷ session_digits ∷ query_digits ∷ []) level seed sessions queries None

-- the options of `serve` where no value is given
abbrev pub default_options : Progress → ServeOptions
default_options progress = record {
  level = Rc;
  seed = 0;
  listen = default_address;
  workers = 16;
  accept = 64;
  log = None;
  setup = None;
  progress = progress;
}

-- `serve` alone, and with its flag
abbrev pub PlainServe : Type 0
PlainServe = IsServe (codes "serve" ∷ []) (default_options Told) × IsServe (codes "serve" ∷ codes "--quiet" ∷ []) (default_options Quiet)

-- `stop` alone, and with its address, which begins with no dash and is some text
abbrev pub PlainStop : Type 0
PlainStop =
    IsStop (codes "stop" ∷ []) default_address
    × ((first : ℕ) (rest : List ℕ) → first ≢ 45 → IsStop (codes "stop" ∷ (first ∷ rest) ∷ []) (first ∷ rest))
