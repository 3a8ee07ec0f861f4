-- The commands of `clap` are simple, and no argument has a rule on another.
use Rattle.std.proofs.Common.{◌≡◌, ◌∙◌, true, refl, ap}
use Rattle.clap.specs.Words.{App, built, is_simple, is_simple_and_free}
use Rattle.clap.specs.Faults.{is_free_app}
use Rattle.clap.proofs.WalkLemmas.{both}
use Rattle.clap.proofs.OnLiterals.{clap_on_literals}
use Rattle.command_line.specs.Arguments.{arguments_of, pipe_arguments, serve_arguments, check_arguments, judge_arguments, sim_arguments, stop_arguments}
use Rattle.command_line.specs.declared.arguments.Name.{Name}
use Rattle.command_line.specs.declared.arguments.Name.TheVariants.{Pipe, Serve, Check, Judge, Sim, Stop}

pipe_free : is_simple_and_free pipe_arguments ≡ true
unfolding clap_on_literals pipe_arguments
pipe_free = refl

serve_free : is_simple_and_free serve_arguments ≡ true
unfolding clap_on_literals serve_arguments
serve_free = refl

check_free : is_simple_and_free check_arguments ≡ true
unfolding clap_on_literals check_arguments
check_free = refl

judge_free : is_simple_and_free judge_arguments ≡ true
unfolding clap_on_literals judge_arguments
judge_free = refl

sim_free : is_simple_and_free sim_arguments ≡ true
unfolding clap_on_literals sim_arguments
sim_free = refl

stop_free : is_simple_and_free stop_arguments ≡ true
unfolding clap_on_literals stop_arguments
stop_free = refl

pub arguments_free : (name : Name) → is_simple_and_free (arguments_of name) ≡ true
arguments_free Pipe = pipe_free
arguments_free Serve = serve_free
arguments_free Check = check_free
arguments_free Judge = judge_free
arguments_free Sim = sim_free
arguments_free Stop = stop_free

-- such a command is simple
pub simple_of : (a : App) → is_simple_and_free a ≡ true → is_simple a ≡ true
simple_of a h = (both (is_simple a) (is_free_app (built a)) h).0

-- so is one that is the same
pub free_as : (name : Name) (a : App) → a ≡ arguments_of name → is_simple_and_free a ≡ true
free_as name a is = ap is_simple_and_free is ∙ arguments_free name
