-- The texts of help, as docs/help has them.
use Rattle.std.specs.Prelude.{ℕ, List, codes}
use Rattle.command_line.specs.declared.arguments.Name.TheVariants.{Pipe, Serve, Check, Judge, Sim, Stop}
use Rattle.command_line.specs.declared.question.Topic.{Topic}
use Rattle.command_line.specs.declared.question.Topic.TheVariants.{Program, Command}

unfoldable pub program_help : List ℕ
program_help = codes "monkeydb: a mock SQL server that shows what weak isolation permits\n\n  serve [OPTIONS]                     serves many sessions over TCP, all over one history\n  stop [ADDRESS]                      asks a server to end\n  pipe LEVEL WORDS                    serves one session over standard input and output\n  check [--wide] PATH                 checks the log of a history at the levels that it names\n  judge PATH                          tells the strongest level that the history of a log meets\n  sim LEVEL SEED SESSIONS QUERIES     simulates many sessions, and prints a summary\n\nLEVEL is rc (Read Committed), ra (Read Atomic) or cc (Causal Consistency).\n\nmonkeydb COMMAND --help tells what a command is for, its options with range and default, and an example.\nmonkeydb --version tells the version.\n\nThe status is 0 where all went well, 1 where what came in is at fault, 2 for words that are no command, 3 where a read failed, 4 where\na write failed, 5 where memory ran out, and 6 where a file, an address or a connection couldn't be had. Each status but 0 comes with\none line that names the cause: on standard output where check or judge found something, and else on standard error.\n\n  monkeydb serve --level cc --seed 7 --log history.log\n"

unfoldable pub pipe_help : List ℕ
pipe_help = codes "monkeydb pipe LEVEL WORDS: serves one session over standard input and output\n\n  LEVEL   the level of the session: rc, ra or cc\n  WORDS   the choice words, with commas between them: each from 0 to 4294967295. After the last, every further word is 0\n\nIt reads the bytes of a client's messages, and writes the server's messages. The status is 1 where the input ends inside a message or is\nno messages, or where the start was refused.\n\n  monkeydb pipe rc 1,0,2 < examples/session.bin\n"

unfoldable pub serve_help : List ℕ
serve_help = codes "monkeydb serve [OPTIONS]: serves many sessions over TCP, all over one history\n\n  --level LEVEL      the level of sessions that set none: rc, ra or cc. Default: rc\n  --seed SEED        the choice words: a number from 0 to 18446744073709551615. Default: 0\n  --listen ADDRESS   where to listen: a host and a port. Default: 127.0.0.1:5433\n  --workers N        how many connections are served at once: from 1 to 64. Default: 16\n  --accept N         how many connections each worker serves: from 1 to 4096. Default: 64\n  --setup PATH       a file of SQL whose rows are there from the start. Default: none\n  --log PATH         the file for the log of the history. Default: none\n  --quiet            no line on standard error but of what went wrong\n\nAt the end it prints: served S sessions T transactions E events. The status is 1 where the setup failed, and 6 where it can't listen,\nwhere accepting a connection failed, or where the log can't be made.\n\n  monkeydb serve --level cc --seed 7 --log history.log\n"

unfoldable pub check_help : List ℕ
check_help = codes "monkeydb check [--wide] PATH: checks the log of a history at the levels that it names\n\n  PATH     the file of the log: at most 268435456 bytes\n  --wide   checks on several threads. Default: on one\n\nIt prints ok, the first breach of the history, or why the file is no log. The status is 0 for ok, and else 1.\n\n  monkeydb check history.log\n"

unfoldable pub judge_help : List ℕ
judge_help = codes "monkeydb judge PATH: tells the strongest level that the history of a log meets, whatever level the log names\n\n  PATH   the file of the log: at most 268435456 bytes\n\nIt prints judge cc, judge ra, judge rc or judge none; then an order that proves it, and a cycle that proves that the next level up isn't\nmet. The status is 0 for a level, and 1 for none, for a breach, and for a file that is no log.\n\n  monkeydb judge history.log\n"

unfoldable pub sim_help : List ℕ
sim_help = codes "monkeydb sim LEVEL SEED SESSIONS QUERIES: simulates many sessions, and prints a summary\n\n  LEVEL        the level of the sessions: rc, ra or cc\n  SEED         what the queries, their turns and their choices are drawn from: a number from 0 to 18446744073709551615\n  SESSIONS     how many sessions there are: from 1 to 64\n  QUERIES      how many queries each sends: from 1 to 200\n  --log PATH   the file for the log of the history. Default: none\n\nThe same words print the same line.\n\n  monkeydb sim cc 7 8 100 --log history.log\n"

unfoldable pub stop_help : List ℕ
stop_help = codes "monkeydb stop [ADDRESS]: asks the server at an address to end\n\n  ADDRESS   a host and a port. Default: 127.0.0.1:5433\n\nThe status is 0 where the request was sent, and 6 where it couldn't be.\n\n  monkeydb stop 127.0.0.1:5433\n"

-- the help about the program or a command
abbrev pub help_of : Topic → List ℕ
help_of Program = program_help
help_of (Command Pipe) = pipe_help
help_of (Command Serve) = serve_help
help_of (Command Check) = check_help
help_of (Command Judge) = judge_help
help_of (Command Sim) = sim_help
help_of (Command Stop) = stop_help

-- the line of the version
unfoldable pub version_line : List ℕ
version_line = codes "monkeydb 0.1.0, logs of version 3\n"
