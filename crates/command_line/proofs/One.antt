-- What words say of each argument, they say once.
use Rattle.std.proofs.Common.{◌≡◌, ◌∙◌, ℕ, List, [], ◌∷◌, ap, sym, subst, refl, slice_index}
use Rattle.std.specs.Prelude.{Option, Some, None, IsSomeAnd, Bool, true, false, if◌then◌else◌, ◌==◌, codes}
use Rattle.cell_base.specs.declared.level.Level.{Level}
use Rattle.cell_base.specs.declared.level.Level.TheVariants.{Rc, Ra, Cc}
use Rattle.clap.specs.Words.{Row, first_of}
use Rattle.command_line.specs.Numbers.{level_word, IsLevelWord, number_of, IsLongWord, IsUpTo, Lists}
use Rattle.command_line.specs.Commands.{IsOr, IsProgress, IsFlag, GivesPipe, GivesServe, GivesSim}
use Rattle.command_line.specs.declared.pipe.PipeCommand.{PipeCommand}
use Rattle.command_line.specs.declared.serve.Progress.{Progress}
use Rattle.command_line.specs.declared.serve.Progress.TheVariants.{Told, Quiet}
use Rattle.command_line.specs.declared.serve.ServeOptions.{ServeOptions}
use Rattle.command_line.specs.declared.sim.SimPlan.{SimPlan}
use Rattle.command_line.proofs.Commas.{no_comma_from, cut_same}
use Rattle.command_line.proofs.Words.{word_has_no_comma, holds_comma}

-- the level by the first two bytes of its word
abbrev level_by : ℕ → ℕ → Level
level_by a b = if a == 99 then Cc else (if b == 99 then Rc else Ra)

level_back : (l : Level) → level_by (slice_index (level_word l) 0) (slice_index (level_word l) 1) ≡ l
level_back Rc = refl
level_back Ra = refl
level_back Cc = refl

level_same : (text : List ℕ) (a b : Level) → IsLevelWord text a → IsLevelWord text b → a ≡ b
level_same text a b e f =
    sym (level_back a) ∙ ap (λ (w : List ℕ). level_by (slice_index w 0) (slice_index w 1)) (sym e ∙ f) ∙ level_back b

long_same : (text : List ℕ) (n m : ℕ) → IsLongWord text n → IsLongWord text m → n ≡ m
long_same text n m p q = p.value ∙ sym q.value

up_to_same : (most : ℕ) (text : List ℕ) (n m : ℕ) → IsUpTo most text n → IsUpTo most text m → n ≡ m
up_to_same most text n m p q = p.word.value ∙ sym q.word.value

-- a text lists one list of numbers
lists_same : (text words others : List ℕ) → Lists text words → Lists text others → words ≡ others
lists_same text [] others h k = absurd h
lists_same text (n ∷ []) [] h k = absurd k
lists_same text (n ∷ []) (m ∷ []) h k = let same : n ≡ m = h.value ∙ sym k.value in ap (λ (x : ℕ). x ∷ []) same
lists_same text (n ∷ []) (m ∷ (p ∷ ps)) h (front, rest, e, is, lists) = absurd (word_has_no_comma text n h (holds_comma text front rest e))
lists_same text (n ∷ (q ∷ qs)) [] h k = absurd k
lists_same text (n ∷ (q ∷ qs)) (m ∷ []) (front, rest, e, is, lists) k = absurd (word_has_no_comma text m k (holds_comma text front rest e))
lists_same text (n ∷ (q ∷ qs)) (m ∷ (p ∷ ps)) (a, b, e, is, lists) (c, d, f, it, more) =
    let r = cut_same a b c d (no_comma_from a (word_has_no_comma a n is)) (no_comma_from c (word_has_no_comma c m it)) (sym e ∙ f) in
    let head : n ≡ m = is.value ∙ ap number_of r.0 ∙ sym it.value in
    let tail : q ∷ qs ≡ p ∷ ps = lists_same b (q ∷ qs) (p ∷ ps) lists (subst (λ (t : List ℕ). Lists t (p ∷ ps)) (sym r.1) more) in
    ap (λ (x : ℕ). x ∷ (q ∷ qs)) head ∙ ap (λ (xs : List ℕ). m ∷ xs) tail

-- a place says one thing, where its text does
place_same : {A : Type 0} (Is : List ℕ → A → Type 0) → ((text : List ℕ) (a b : A) → Is text a → Is text b → a ≡ b)
    → (given : Option (List ℕ)) (a b : A) → IsSomeAnd given (λ text. Is text a) → IsSomeAnd given (λ text. Is text b) → a ≡ b
place_same Is one None a b h k = absurd h
place_same Is one (Some text) a b h k = one text a b h k

-- so does an option
option_same : {A : Type 0} (default : A) (Is : List ℕ → A → Type 0) → ((text : List ℕ) (a b : A) → Is text a → Is text b → a ≡ b)
    → (given : Option (List ℕ)) (a b : A) → IsOr default Is given a → IsOr default Is given b → a ≡ b
option_same default Is one None a b h k = h ∙ sym k
option_same default Is one (Some text) a b h k = one text a b h k

progress_same : (flag : Option (List ℕ)) (a b : Progress) → IsProgress flag a → IsProgress flag b → a ≡ b
progress_same flag Told Told h k = refl
progress_same flag Told Quiet h k = absurd (h k)
progress_same flag Quiet Told h k = absurd (k h)
progress_same flag Quiet Quiet h k = refl

pub flag_same : (flag : Option (List ℕ)) (a b : Bool) → IsFlag flag a → IsFlag flag b → a ≡ b
flag_same flag true true h k = refl
flag_same flag true false h k = absurd (k h)
flag_same flag false true h k = absurd (h k)
flag_same flag false false h k = refl

pub pipe_same : (said : List Row) (a b : PipeCommand) → GivesPipe said a.level a.words → GivesPipe said b.level b.words → a ≡ b
pipe_same said a b p q =
    let level = place_same IsLevelWord level_same (first_of (codes "level") said) a.level b.level p.level_is q.level_is in
    let words = place_same Lists lists_same (first_of (codes "words") said) a.words b.words p.words_are q.words_are in
    ap (λ (l : Level). record a { level = l }) level ∙ ap (λ (ws : List ℕ). record b { words = ws }) words

pub sim_same : (said : List Row) (a b : SimPlan) → GivesSim said a.level a.seed a.sessions a.queries a.log
    → GivesSim said b.level b.seed b.sessions b.queries b.log → a ≡ b
sim_same said a b p q =
    let level = place_same IsLevelWord level_same (first_of (codes "level") said) a.level b.level p.level_is q.level_is in
    let seed = place_same IsLongWord long_same (first_of (codes "seed") said) a.seed b.seed p.seed_is q.seed_is in
    let sessions = place_same (IsUpTo 64) (up_to_same 64) (first_of (codes "sessions") said) a.sessions b.sessions p.sessions_are q.sessions_are in
    let queries = place_same (IsUpTo 200) (up_to_same 200) (first_of (codes "queries") said) a.queries b.queries p.queries_are q.queries_are in
    let log : a.log ≡ b.log = p.log_is ∙ sym q.log_is in
    ap (λ (x : Level). record a { level = x }) level
    ∙ ap (λ (x : ℕ). record a { level = b.level; seed = x }) seed
    ∙ ap (λ (x : ℕ). record b { sessions = x; queries = a.queries; log = a.log }) sessions
    ∙ ap (λ (x : ℕ). record b { queries = x; log = a.log }) queries
    ∙ ap (λ (x : Option (List ℕ)). record b { log = x }) log

pub serve_same : (said : List Row) (a b : ServeOptions) → GivesServe said a → GivesServe said b → a ≡ b
serve_same said a b p q =
    let level = option_same Rc IsLevelWord level_same (first_of (codes "level") said) a.level b.level p.numbers.level_is q.numbers.level_is in
    let seed = option_same 0 IsLongWord long_same (first_of (codes "seed") said) a.seed b.seed p.numbers.seed_is q.numbers.seed_is in
    let listen : a.listen ≡ b.listen = p.listen_is ∙ sym q.listen_is in
    let workers = option_same 16 (IsUpTo 64) (up_to_same 64) (first_of (codes "workers") said) a.workers b.workers p.numbers.workers_are q.numbers.workers_are in
    let accept = option_same 64 (IsUpTo 4096) (up_to_same 4096) (first_of (codes "accept") said) a.accept b.accept p.numbers.accept_is q.numbers.accept_is in
    let log : a.log ≡ b.log = p.log_is ∙ sym q.log_is in
    let setup : a.setup ≡ b.setup = p.setup_is ∙ sym q.setup_is in
    let progress = progress_same (first_of (codes "quiet") said) a.progress b.progress p.progress_is q.progress_is in
    ap (λ (x : Level). record a { level = x }) level
    ∙ ap (λ (x : ℕ). record a { level = b.level; seed = x }) seed
    ∙ ap (λ (x : List ℕ). record a { level = b.level; seed = b.seed; listen = x }) listen
    ∙ ap (λ (x : ℕ). record b { workers = x; accept = a.accept; log = a.log; setup = a.setup; progress = a.progress }) workers
    ∙ ap (λ (x : ℕ). record b { accept = x; log = a.log; setup = a.setup; progress = a.progress }) accept
    ∙ ap (λ (x : Option (List ℕ)). record b { log = x; setup = a.setup; progress = a.progress }) log
    ∙ ap (λ (x : Option (List ℕ)). record b { setup = x; progress = a.progress }) setup
    ∙ ap (λ (x : Progress). record b { progress = x }) progress
