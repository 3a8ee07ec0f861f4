-- The commands in their plain form.
use Rattle.std.proofs.Common.{◌≡◌, ◌∷◌, ℕ, List, [], ap, refl, sym, subst, arith, slice_index}
use Rattle.std.specs.Prelude.{Option, Some, false, IsSomeAnd, codes, unwrap_or}
use Rattle.clap.specs.Words.{matches_of}
use Rattle.command_line.specs.Numbers.{level_word, IsLevelWord, IsLongWord, IsUpTo, Lists}
use Rattle.command_line.specs.Arguments.{pipe_arguments, serve_arguments, check_arguments, judge_arguments, sim_arguments, stop_arguments}
use Rattle.command_line.specs.Commands.{Says, IsFlag, GivesServe, GivesStop, default_address, default_options, PlainPipe, PlainCheck, PlainJudge, PlainSim, PlainServe, PlainStop}
use Rattle.command_line.specs.declared.serve.Progress.TheVariants.{Told, Quiet}
use Rattle.clap.proofs.OnLiterals.{clap_on_literals}
use Rattle.command_line.specs.declared.arguments.Name.TheVariants as names
use Rattle.command_line.proofs.Plain.{plain_from, plain_level, plain_number, plain_list, pipe_taken, pipe_level, pipe_words, check_taken, check_path, check_narrow, wide_taken, wide_path, wide_flag, judge_taken, judge_path, sim_taken, sim_level, sim_seed, sim_sessions, sim_queries, sim_log, stop_taken, stop_address}
use Rattle.command_line.proofs.reading.plain_words.Goals as goal

pipe : PlainPipe
pipe level list words lists =
    let p = plain_level level in
    let q = plain_list list words lists in (
      matches_of pipe_arguments (level_word level ∷ list ∷ []),
      record { words = level_word level ∷ list ∷ []; args_are = refl; taken = pipe_taken (level_word level) list p q; said_is = refl },
      record {
        level_is = subst (λ (o : Option (List ℕ)). IsSomeAnd o (λ text. IsLevelWord text level)) (sym (pipe_level (level_word level) list p q)) refl;
        words_are = subst (λ (o : Option (List ℕ)). IsSomeAnd o (λ text. Lists text words)) (sym (pipe_words (level_word level) list p q)) lists;
      },
    )

-- a text begins with one byte
apart : (text : List ℕ) → slice_index text 0 ≡ 102 → slice_index text 0 ≡ 116 → ⊥
apart text e f = omega (arith, e, f)

not_true : Some (codes "false") ≡ Some (codes "true") → ⊥
not_true e =
    let words : codes "false" ≡ codes "true" = cc in
    apart (codes "false") refl (ap (λ (t : List ℕ). slice_index t 0) words)

check : PlainCheck
check first rest differs =
    let p = plain_from first rest differs in (
      (
        matches_of check_arguments ((first ∷ rest) ∷ []),
        record { words = (first ∷ rest) ∷ []; args_are = refl; taken = check_taken (first ∷ rest) p; said_is = refl },
        record {
          path_is = check_path (first ∷ rest) p;
          wide_is = subst (λ (o : Option (List ℕ)). IsFlag o false) (sym (check_narrow (first ∷ rest) p)) not_true;
        },
      ),
      (
        matches_of check_arguments (codes "--wide" ∷ (first ∷ rest) ∷ []),
        record { words = codes "--wide" ∷ (first ∷ rest) ∷ []; args_are = refl; taken = wide_taken (first ∷ rest) p; said_is = refl },
        record { path_is = wide_path (first ∷ rest) p; wide_is = wide_flag (first ∷ rest) p },
      ),
    )

judge : PlainJudge
judge first rest differs =
    let p = plain_from first rest differs in (
      matches_of judge_arguments ((first ∷ rest) ∷ []),
      record { words = (first ∷ rest) ∷ []; args_are = refl; taken = judge_taken (first ∷ rest) p; said_is = refl },
      judge_path (first ∷ rest) p,
    )

sim : PlainSim
sim level a b c seed sessions queries is_seed are_sessions are_queries =
    let p = plain_level level in
    let q = plain_number 18446744073709551616 seed a is_seed in
    let r = plain_number 4294967296 sessions b are_sessions.word in
    let s = plain_number 4294967296 queries c are_queries.word in (
      matches_of sim_arguments (level_word level ∷ a ∷ b ∷ c ∷ []),
      record { words = level_word level ∷ a ∷ b ∷ c ∷ []; args_are = refl; taken = sim_taken (level_word level) a b c p q r s; said_is = refl },
      record {
        level_is = subst (λ (o : Option (List ℕ)). IsSomeAnd o (λ text. IsLevelWord text level)) (sym (sim_level (level_word level) a b c p q r s)) refl;
        seed_is = subst (λ (o : Option (List ℕ)). IsSomeAnd o (λ text. IsLongWord text seed)) (sym (sim_seed (level_word level) a b c p q r s)) is_seed;
        sessions_are = subst (λ (o : Option (List ℕ)). IsSomeAnd o (λ text. IsUpTo 64 text sessions)) (sym (sim_sessions (level_word level) a b c p q r s)) are_sessions;
        queries_are = subst (λ (o : Option (List ℕ)). IsSomeAnd o (λ text. IsUpTo 200 text queries)) (sym (sim_queries (level_word level) a b c p q r s)) are_queries;
        log_is = sym (sim_log (level_word level) a b c p q r s);
      },
    )

serve_says : Says names.Serve (codes "serve" ∷ []) (matches_of serve_arguments [])
unfolding clap_on_literals serve_arguments
serve_says = record { words = []; args_are = refl; taken = refl; said_is = refl }

serve_gives : GivesServe (matches_of serve_arguments []) (default_options Told)
unfolding clap_on_literals serve_arguments
serve_gives = record {
  numbers = record { level_is = refl; seed_is = refl; workers_are = refl; accept_is = refl };
  listen_is = refl;
  log_is = refl;
  setup_is = refl;
  progress_is = not_true;
}

quiet_says : Says names.Serve (codes "serve" ∷ codes "--quiet" ∷ []) (matches_of serve_arguments (codes "--quiet" ∷ []))
unfolding clap_on_literals serve_arguments
quiet_says = record { words = codes "--quiet" ∷ []; args_are = refl; taken = refl; said_is = refl }

quiet_gives : GivesServe (matches_of serve_arguments (codes "--quiet" ∷ [])) (default_options Quiet)
unfolding clap_on_literals serve_arguments
quiet_gives = record {
  numbers = record { level_is = refl; seed_is = refl; workers_are = refl; accept_is = refl };
  listen_is = refl;
  log_is = refl;
  setup_is = refl;
  progress_is = refl;
}

serve : PlainServe
serve = (
  (matches_of serve_arguments [], serve_says, serve_gives),
  (matches_of serve_arguments (codes "--quiet" ∷ []), quiet_says, quiet_gives),
)

stop_says : Says names.Stop (codes "stop" ∷ []) (matches_of stop_arguments [])
unfolding clap_on_literals stop_arguments
stop_says = record { words = []; args_are = refl; taken = refl; said_is = refl }

stop_gives : GivesStop (matches_of stop_arguments []) default_address
unfolding clap_on_literals stop_arguments
stop_gives = refl

stop : PlainStop
stop = (
  (matches_of stop_arguments [], stop_says, stop_gives),
  (λ first rest differs.
      let p = plain_from first rest differs in (
        matches_of stop_arguments ((first ∷ rest) ∷ []),
        record { words = (first ∷ rest) ∷ []; args_are = refl; taken = stop_taken (first ∷ rest) p; said_is = refl },
        sym (ap (λ (o : Option (List ℕ)). unwrap_or o default_address) (stop_address (first ∷ rest) p)),
      )),
)

pub returns-clause-pipe : goal.returns-clause-pipe
returns-clause-pipe c = pipe

pub returns-clause-check : goal.returns-clause-check
returns-clause-check c = check

pub returns-clause-judge : goal.returns-clause-judge
returns-clause-judge c = judge

pub returns-clause-sim : goal.returns-clause-sim
returns-clause-sim c = sim

pub returns-clause-serve : goal.returns-clause-serve
returns-clause-serve c = serve

pub returns-clause-stop : goal.returns-clause-stop
returns-clause-stop c = stop
