-- The commands' names, and the arguments of each as a command of `clap`. Each value is taken as text.
use Rattle.std.specs.Prelude.{Some, true, codes}
use Rattle.clap.specs.Words.{App, Rule, Text, new_app, new_rule, with_rule}
use Rattle.clap.specs.declared.builder.action.ArgAction.TheVariants.{Set, SetTrue}
use Rattle.command_line.specs.declared.arguments.Name.{Name}
use Rattle.command_line.specs.declared.arguments.Name.TheVariants.{Pipe, Serve, Check, Judge, Sim, Stop}

-- the word that names a command
abbrev pub word_of : Name → Text
word_of Pipe = codes "pipe"
word_of Serve = codes "serve"
word_of Check = codes "check"
word_of Judge = codes "judge"
word_of Sim = codes "sim"
word_of Stop = codes "stop"

-- an argument by its place, which has to be there
abbrev pub place : Text → Rule
place name = record (new_rule name) { action = Some Set; required = true }

-- an argument by its place, which may be left out
abbrev pub last_place : Text → Rule
last_place name = record (new_rule name) { action = Some Set }

-- an option that takes one text, at most once
abbrev pub text_option : Text → Rule
text_option name = record (new_rule name) { long = Some name; action = Some Set }

-- an option without a value, at most once
abbrev pub flag : Text → Rule
flag name = record (new_rule name) { long = Some name; action = Some SetTrue }

-- a command without arguments, which knows no help and has no name in front of its words
abbrev pub bare : Text → App
bare name =
    let app = new_app name in
    record app { top = record app.top { no_binary_name = true; disable_help_flag = true } }

-- `pipe LEVEL WORDS`
unfoldable pub pipe_arguments : App
pipe_arguments = with_rule (with_rule (bare (codes "pipe")) (place (codes "level"))) (place (codes "words"))

-- `serve` with its options
unfoldable pub serve_arguments : App
serve_arguments =
    with_rule (with_rule (with_rule (with_rule (with_rule (with_rule (with_rule (with_rule (bare (codes "serve"))
    (text_option (codes "level"))) (text_option (codes "seed"))) (text_option (codes "listen"))) (text_option (codes "workers")))
    (text_option (codes "accept"))) (text_option (codes "log"))) (text_option (codes "setup"))) (flag (codes "quiet"))

-- `check PATH`, with the flag `--wide` or without
unfoldable pub check_arguments : App
check_arguments = with_rule (with_rule (bare (codes "check")) (place (codes "path"))) (flag (codes "wide"))

-- `judge PATH`
unfoldable pub judge_arguments : App
judge_arguments = with_rule (bare (codes "judge")) (place (codes "path"))

-- `sim LEVEL SEED SESSIONS QUERIES`, with the option `--log PATH`
unfoldable pub sim_arguments : App
sim_arguments =
    with_rule (with_rule (with_rule (with_rule (with_rule (bare (codes "sim"))
    (place (codes "level"))) (place (codes "seed"))) (place (codes "sessions"))) (place (codes "queries"))) (text_option (codes "log"))

-- `stop`, with an address or without
unfoldable pub stop_arguments : App
stop_arguments = with_rule (bare (codes "stop")) (last_place (codes "address"))

abbrev pub arguments_of : Name → App
arguments_of Pipe = pipe_arguments
arguments_of Serve = serve_arguments
arguments_of Check = check_arguments
arguments_of Judge = judge_arguments
arguments_of Sim = sim_arguments
arguments_of Stop = stop_arguments
