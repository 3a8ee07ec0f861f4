-- Words that begin with no dash are values of places, one after another.
use Rattle.std.proofs.Common.{◌≡◌, ◌≢◌, ◌∙◌, ℕ, List, [], ◌∷◌, ◌++◌, Bool, false, ap, ap₂, sym, subst, refl, arith, ◌+◌}
use Rattle.std.specs.Prelude.{Option, Some, None, if◌then◌else◌, ◌==◌, ◌&&◌, codes, is_some}
use Rattle.std.specs.Option.{option_and_then, option_map_or}
use Rattle.std.specs.Str.{bytes_eq}
use Rattle.std.proofs.lemmas.Bool.{ne_eqb}
use Rattle.cell_base.specs.declared.level.Level.{Level}
use Rattle.cell_base.specs.declared.level.Level.TheVariants.{Rc, Ra, Cc}
use Rattle.clap.specs.Lexer.{long_of, short_of, long_of_rest, short_of_rest, strip_byte}
use Rattle.clap.specs.Words.{App, Rule, Shape, Text, built, fault_of, matches_of, first_of}
use Rattle.clap.specs.Kinds.{Kinds, or_else}
use Rattle.clap.specs.Walk.{Held, Walk, Step, value, trailing, idle, word_met, walked, nothing_held, after_step, to_positional, arg_by_index, long_or_other, short_or_plain, settled, finished}
use Rattle.clap.specs.Simple.{entered}
use Rattle.clap.specs.Faults.{other_fault, flag_word_fault, bundle_fault, turn_fault, step_fault, walk_fault, entered_fault, settle_fault, defaults_fault, check_fault}
use Rattle.clap.proofs.OnLiterals.{clap_on_literals}
use Rattle.command_line.specs.Numbers.{level_word, IsDigit, IsNumber, Lists}
use Rattle.command_line.specs.Arguments.{pipe_arguments, check_arguments, judge_arguments, sim_arguments, stop_arguments}

-- the word is no option, no flags and not `--`
pub record Plain (word : Text) : Type 0 where
  pub long : long_of word ≡ None
  pub short : short_of word ≡ None
  pub dashes : bytes_eq word (45 ∷ 45 ∷ []) ≡ false

pub plain_from : (x : ℕ) (xs : List ℕ) → x ≢ 45 → Plain (x ∷ xs)
plain_from x xs differs =
    let e : (x == 45) ≡ false = ne_eqb x 45 differs in
    record {
      long = ap (λ (b : Bool). option_and_then long_of_rest (option_and_then (strip_byte 45) (if b then Some xs else None))) e;
      short = ap (λ (b : Bool). option_and_then short_of_rest (if b then Some xs else None)) e;
      dashes = ap (λ (b : Bool). b && bytes_eq xs (45 ∷ [])) e;
    }

pub plain_level : (level : Level) → Plain (level_word level)
plain_level Rc = plain_from 114 (99 ∷ []) (λ e. omega arith)
plain_level Ra = plain_from 114 (97 ∷ []) (λ e. omega arith)
plain_level Cc = plain_from 99 (99 ∷ []) (λ e. omega arith)

pub plain_number : (bound n : ℕ) (digits : List ℕ) → IsNumber bound digits n → Plain digits
plain_number bound n [] is = let some = is.some in absurd (omega arith)
plain_number bound n (x ∷ xs) is = let digit : IsDigit x = is.each 0 0 (omega arith) in plain_from x xs (λ e. omega arith)

-- so is what goes on after a number
plain_before : (bound n : ℕ) (front rest : List ℕ) → IsNumber bound front n → Plain (front ++ rest)
plain_before bound n [] rest is = let some = is.some in absurd (omega arith)
plain_before bound n (x ∷ xs) rest is = let digit : IsDigit x = is.each 0 0 (omega arith) in plain_from x (xs ++ rest) (λ e. omega arith)

pub plain_list : (list words : List ℕ) → Lists list words → Plain list
plain_list list [] h = absurd h
plain_list list (n ∷ []) h = plain_number 4294967296 n list h
plain_list list (n ∷ (m ∷ more)) (front, rest, e, is, lists) = subst Plain (sym e) (plain_before 4294967296 n front (44 ∷ rest) is)

-- where a walk stands, when nothing waits
abbrev at : Held → ℕ → Walk
at h position = record { held = h; waiting = idle; position = position; is_trailing = false; stopped = None }

value_met : (rules : List Rule) (position : ℕ) (word : Text) (h : Held) → Plain word → word_met rules [] false idle position word h ≡ (h, value)
value_met rules position word h p =
    ap (λ (b : Bool). if b then (h, trailing position) else long_or_other rules idle word (long_of word) h) p.dashes
    ∙ ap (λ (l : Option (Text × Option Text)). long_or_other rules idle word l h) p.long
    ∙ ap (λ (s : Option Text). short_or_plain rules idle word s h) p.short

walked_plain : (rules : List Rule) (h : Held) (position : ℕ) (word : Text) → Plain word
    → walked rules [] (at h position) word ≡ to_positional rules (arg_by_index rules position) word (at h position) h
unfolding walked
walked_plain rules h position word p =
    ap (λ (m : Held × Step). after_step rules word (at h position) m.0 m.1) (value_met rules position word h p)

no_fault : (s : Shape) (h : Held) (word : Text) → Plain word → other_fault s None word h ≡ []
no_fault s h word p =
    ap (λ (b : Bool). if b then [] else flag_word_fault s.rules s.args_override_self (long_of word) word h) p.dashes
    ∙ ap (λ (l : Option (Text × Option Text)). flag_word_fault s.rules s.args_override_self l word h) p.long
    ∙ ap (λ (o : Option Text). option_map_or (λ flags. bundle_fault s.rules s.args_override_self flags h) o []) p.short

turn_plain : (s : Shape) (h : Held) (position : ℕ) (word : Text) → Plain word → turn_fault s [] (at h position) word ≡ step_fault s position h value
turn_plain s h position word p =
    ap₂ or_else (no_fault s h word p) (ap (λ (m : Held × Step). step_fault s position m.0 m.1) (value_met s.rules position word h p))

-- what faults there are, given where the walk ends and the faults on its way
abbrev faults_by : App → Walk → Kinds → Kinds
faults_by a k on_the_way =
    or_else on_the_way (or_else (entered_fault a k.stopped) (or_else (settle_fault a.top.rules a.top.args_override_self k.held)
    (or_else (defaults_fault (settled a.top.rules k.held).rows a.top.rules) (check_fault a.top (finished a.top.rules k.held) (is_some (entered a k.stopped))))))

-- what is held when a place has its word
abbrev held_after : List Rule → Held → ℕ → Text → Held
held_after rules h position word = (to_positional rules (arg_by_index rules position) word (at h position) h).held

-- one word more of the walk
next_walk : (rules : List Rule) (k : Walk) (h : Held) (position : ℕ) (word : Text) → k ≡ at h position → Plain word
    → to_positional rules (arg_by_index rules position) word (at h position) h ≡ at (held_after rules h position word) (position + 1)
    → walked rules [] k word ≡ at (held_after rules h position word) (position + 1)
next_walk rules k h position word e p is = ap (λ (x : Walk). walked rules [] x word) e ∙ walked_plain rules h position word p ∙ is

-- it has no fault, where what was held before has none
next_turn : (s : Shape) (k : Walk) (h : Held) (position : ℕ) (word : Text) (rest : List Text) → k ≡ at h position → Plain word
    → step_fault s position h value ≡ [] → walk_fault s [] (walked s.rules [] k word) rest ≡ [] → walk_fault s [] k (word ∷ rest) ≡ []
unfolding walk_fault
next_turn s k h position word rest e p none more =
    ap₂ or_else (ap (λ (x : Walk). turn_fault s [] x word) e ∙ turn_plain s h position word p ∙ none) more

no_turn : (s : Shape) (k : Walk) → walk_fault s [] k [] ≡ []
unfolding walk_fault
no_turn s k = refl

-- the places of `check`

abbrev check_app : App
check_app = built check_arguments

-- where the walk stands after its words, and what is held there
abbrev check_stood_1 : Text → Walk
check_stood_1 w1 = walked check_app.top.rules [] (at nothing_held 1) w1

abbrev check_held_1 : Text → Held
check_held_1 w1 = held_after check_app.top.rules nothing_held 1 w1

check_walk_1 : (w1 : Text) → Plain w1 → check_stood_1 w1 ≡ at (check_held_1 w1) 2
unfolding clap_on_literals check_arguments
check_walk_1 w1 p1 = next_walk check_app.top.rules (at nothing_held 1) nothing_held 1 w1 refl p1 refl

check_way : (w1 : Text) → Plain w1 → walk_fault check_app.top [] (at nothing_held 1) (w1 ∷ []) ≡ []
unfolding clap_on_literals check_arguments
check_way w1 p1 =
    next_turn check_app.top (at nothing_held 1) nothing_held 1 w1 [] refl p1 refl
    (no_turn check_app.top (check_stood_1 w1))

pub check_taken : (w1 : Text) → Plain w1 → fault_of check_arguments (w1 ∷ []) ≡ []
unfolding clap_on_literals check_arguments
check_taken w1 p1 = ap₂ (faults_by check_app) (check_walk_1 w1 p1) (check_way w1 p1)

pub check_path : (w1 : Text) → Plain w1 → first_of (codes "path") (matches_of check_arguments (w1 ∷ [])) ≡ Some w1
unfolding clap_on_literals check_arguments
check_path w1 p1 = ap (λ (k : Walk). first_of (codes "path") (finished check_app.top.rules k.held)) (check_walk_1 w1 p1)

-- a flag that isn't there has its default
pub check_narrow : (w1 : Text) → Plain w1 → first_of (codes "wide") (matches_of check_arguments (w1 ∷ [])) ≡ Some (codes "false")
unfolding clap_on_literals check_arguments
check_narrow w1 p1 = ap (λ (k : Walk). first_of (codes "wide") (finished check_app.top.rules k.held)) (check_walk_1 w1 p1)

-- the flag of `check`, and its place

abbrev wide_held : Held
wide_held = (walked check_app.top.rules [] (at nothing_held 1) (codes "--wide")).held

abbrev wide_stood_1 : Walk
wide_stood_1 = walked check_app.top.rules [] (at nothing_held 1) (codes "--wide")

wide_walk_1 : wide_stood_1 ≡ at wide_held 1
unfolding clap_on_literals check_arguments
wide_walk_1 = refl

abbrev wide_stood_2 : Text → Walk
wide_stood_2 w2 = walked check_app.top.rules [] wide_stood_1 w2

abbrev wide_held_2 : Text → Held
wide_held_2 w2 = held_after check_app.top.rules wide_held 1 w2

wide_walk_2 : (w2 : Text) → Plain w2 → wide_stood_2 w2 ≡ at (wide_held_2 w2) 2
unfolding clap_on_literals check_arguments
wide_walk_2 w2 p2 = next_walk check_app.top.rules wide_stood_1 wide_held 1 w2 wide_walk_1 p2 refl

wide_turn : turn_fault check_app.top [] (at nothing_held 1) (codes "--wide") ≡ []
unfolding clap_on_literals check_arguments
wide_turn = refl

wide_way : (w2 : Text) → Plain w2 → walk_fault check_app.top [] (at nothing_held 1) (codes "--wide" ∷ w2 ∷ []) ≡ []
unfolding clap_on_literals check_arguments walk_fault
wide_way w2 p2 =
    ap₂ or_else wide_turn
    (next_turn check_app.top wide_stood_1 wide_held 1 w2 [] wide_walk_1 p2 refl
    (no_turn check_app.top (wide_stood_2 w2)))

pub wide_taken : (w2 : Text) → Plain w2 → fault_of check_arguments (codes "--wide" ∷ w2 ∷ []) ≡ []
unfolding clap_on_literals check_arguments
wide_taken w2 p2 = ap₂ (faults_by check_app) (wide_walk_2 w2 p2) (wide_way w2 p2)

pub wide_path : (w2 : Text) → Plain w2 → first_of (codes "path") (matches_of check_arguments (codes "--wide" ∷ w2 ∷ [])) ≡ Some w2
unfolding clap_on_literals check_arguments
wide_path w2 p2 = ap (λ (k : Walk). first_of (codes "path") (finished check_app.top.rules k.held)) (wide_walk_2 w2 p2)

pub wide_flag : (w2 : Text) → Plain w2 → first_of (codes "wide") (matches_of check_arguments (codes "--wide" ∷ w2 ∷ [])) ≡ Some (codes "true")
unfolding clap_on_literals check_arguments
wide_flag w2 p2 = ap (λ (k : Walk). first_of (codes "wide") (finished check_app.top.rules k.held)) (wide_walk_2 w2 p2)

-- the places of `judge`

abbrev judge_app : App
judge_app = built judge_arguments

-- where the walk stands after its words, and what is held there
abbrev judge_stood_1 : Text → Walk
judge_stood_1 w1 = walked judge_app.top.rules [] (at nothing_held 1) w1

abbrev judge_held_1 : Text → Held
judge_held_1 w1 = held_after judge_app.top.rules nothing_held 1 w1

judge_walk_1 : (w1 : Text) → Plain w1 → judge_stood_1 w1 ≡ at (judge_held_1 w1) 2
unfolding clap_on_literals judge_arguments
judge_walk_1 w1 p1 = next_walk judge_app.top.rules (at nothing_held 1) nothing_held 1 w1 refl p1 refl

judge_way : (w1 : Text) → Plain w1 → walk_fault judge_app.top [] (at nothing_held 1) (w1 ∷ []) ≡ []
unfolding clap_on_literals judge_arguments
judge_way w1 p1 =
    next_turn judge_app.top (at nothing_held 1) nothing_held 1 w1 [] refl p1 refl
    (no_turn judge_app.top (judge_stood_1 w1))

pub judge_taken : (w1 : Text) → Plain w1 → fault_of judge_arguments (w1 ∷ []) ≡ []
unfolding clap_on_literals judge_arguments
judge_taken w1 p1 = ap₂ (faults_by judge_app) (judge_walk_1 w1 p1) (judge_way w1 p1)

pub judge_path : (w1 : Text) → Plain w1 → first_of (codes "path") (matches_of judge_arguments (w1 ∷ [])) ≡ Some w1
unfolding clap_on_literals judge_arguments
judge_path w1 p1 = ap (λ (k : Walk). first_of (codes "path") (finished judge_app.top.rules k.held)) (judge_walk_1 w1 p1)

-- the places of `pipe`

abbrev pipe_app : App
pipe_app = built pipe_arguments

-- where the walk stands after its words, and what is held there
abbrev pipe_stood_1 : Text → Walk
pipe_stood_1 w1 = walked pipe_app.top.rules [] (at nothing_held 1) w1

abbrev pipe_held_1 : Text → Held
pipe_held_1 w1 = held_after pipe_app.top.rules nothing_held 1 w1

abbrev pipe_stood_2 : Text → Text → Walk
pipe_stood_2 w1 w2 = walked pipe_app.top.rules [] (pipe_stood_1 w1) w2

abbrev pipe_held_2 : Text → Text → Held
pipe_held_2 w1 w2 = held_after pipe_app.top.rules (pipe_held_1 w1) 2 w2

pipe_walk_1 : (w1 : Text) → Plain w1 → pipe_stood_1 w1 ≡ at (pipe_held_1 w1) 2
unfolding clap_on_literals pipe_arguments
pipe_walk_1 w1 p1 = next_walk pipe_app.top.rules (at nothing_held 1) nothing_held 1 w1 refl p1 refl

pipe_walk_2 : (w1 w2 : Text) → Plain w1 → Plain w2 → pipe_stood_2 w1 w2 ≡ at (pipe_held_2 w1 w2) 3
unfolding clap_on_literals pipe_arguments
pipe_walk_2 w1 w2 p1 p2 = next_walk pipe_app.top.rules (pipe_stood_1 w1) (pipe_held_1 w1) 2 w2 (pipe_walk_1 w1 p1) p2 refl

pipe_way : (w1 w2 : Text) → Plain w1 → Plain w2 → walk_fault pipe_app.top [] (at nothing_held 1) (w1 ∷ w2 ∷ []) ≡ []
unfolding clap_on_literals pipe_arguments
pipe_way w1 w2 p1 p2 =
    next_turn pipe_app.top (at nothing_held 1) nothing_held 1 w1 (w2 ∷ []) refl p1 refl
    (next_turn pipe_app.top (pipe_stood_1 w1) (pipe_held_1 w1) 2 w2 [] (pipe_walk_1 w1 p1) p2 refl
    (no_turn pipe_app.top (pipe_stood_2 w1 w2)))

pub pipe_taken : (w1 w2 : Text) → Plain w1 → Plain w2 → fault_of pipe_arguments (w1 ∷ w2 ∷ []) ≡ []
unfolding clap_on_literals pipe_arguments
pipe_taken w1 w2 p1 p2 = ap₂ (faults_by pipe_app) (pipe_walk_2 w1 w2 p1 p2) (pipe_way w1 w2 p1 p2)

pub pipe_level : (w1 w2 : Text) → Plain w1 → Plain w2 → first_of (codes "level") (matches_of pipe_arguments (w1 ∷ w2 ∷ [])) ≡ Some w1
unfolding clap_on_literals pipe_arguments
pipe_level w1 w2 p1 p2 = ap (λ (k : Walk). first_of (codes "level") (finished pipe_app.top.rules k.held)) (pipe_walk_2 w1 w2 p1 p2)

pub pipe_words : (w1 w2 : Text) → Plain w1 → Plain w2 → first_of (codes "words") (matches_of pipe_arguments (w1 ∷ w2 ∷ [])) ≡ Some w2
unfolding clap_on_literals pipe_arguments
pipe_words w1 w2 p1 p2 = ap (λ (k : Walk). first_of (codes "words") (finished pipe_app.top.rules k.held)) (pipe_walk_2 w1 w2 p1 p2)

-- the places of `sim`

abbrev sim_app : App
sim_app = built sim_arguments

-- where the walk stands after its words, and what is held there
abbrev sim_stood_1 : Text → Walk
sim_stood_1 w1 = walked sim_app.top.rules [] (at nothing_held 1) w1

abbrev sim_held_1 : Text → Held
sim_held_1 w1 = held_after sim_app.top.rules nothing_held 1 w1

abbrev sim_stood_2 : Text → Text → Walk
sim_stood_2 w1 w2 = walked sim_app.top.rules [] (sim_stood_1 w1) w2

abbrev sim_held_2 : Text → Text → Held
sim_held_2 w1 w2 = held_after sim_app.top.rules (sim_held_1 w1) 2 w2

abbrev sim_stood_3 : Text → Text → Text → Walk
sim_stood_3 w1 w2 w3 = walked sim_app.top.rules [] (sim_stood_2 w1 w2) w3

abbrev sim_held_3 : Text → Text → Text → Held
sim_held_3 w1 w2 w3 = held_after sim_app.top.rules (sim_held_2 w1 w2) 3 w3

abbrev sim_stood_4 : Text → Text → Text → Text → Walk
sim_stood_4 w1 w2 w3 w4 = walked sim_app.top.rules [] (sim_stood_3 w1 w2 w3) w4

abbrev sim_held_4 : Text → Text → Text → Text → Held
sim_held_4 w1 w2 w3 w4 = held_after sim_app.top.rules (sim_held_3 w1 w2 w3) 4 w4

sim_walk_1 : (w1 : Text) → Plain w1 → sim_stood_1 w1 ≡ at (sim_held_1 w1) 2
unfolding clap_on_literals sim_arguments
sim_walk_1 w1 p1 = next_walk sim_app.top.rules (at nothing_held 1) nothing_held 1 w1 refl p1 refl

sim_walk_2 : (w1 w2 : Text) → Plain w1 → Plain w2 → sim_stood_2 w1 w2 ≡ at (sim_held_2 w1 w2) 3
unfolding clap_on_literals sim_arguments
sim_walk_2 w1 w2 p1 p2 = next_walk sim_app.top.rules (sim_stood_1 w1) (sim_held_1 w1) 2 w2 (sim_walk_1 w1 p1) p2 refl

sim_walk_3 : (w1 w2 w3 : Text) → Plain w1 → Plain w2 → Plain w3 → sim_stood_3 w1 w2 w3 ≡ at (sim_held_3 w1 w2 w3) 4
unfolding clap_on_literals sim_arguments
sim_walk_3 w1 w2 w3 p1 p2 p3 = next_walk sim_app.top.rules (sim_stood_2 w1 w2) (sim_held_2 w1 w2) 3 w3 (sim_walk_2 w1 w2 p1 p2) p3 refl

sim_walk_4 : (w1 w2 w3 w4 : Text) → Plain w1 → Plain w2 → Plain w3 → Plain w4 → sim_stood_4 w1 w2 w3 w4 ≡ at (sim_held_4 w1 w2 w3 w4) 5
unfolding clap_on_literals sim_arguments
sim_walk_4 w1 w2 w3 w4 p1 p2 p3 p4 = next_walk sim_app.top.rules (sim_stood_3 w1 w2 w3) (sim_held_3 w1 w2 w3) 4 w4 (sim_walk_3 w1 w2 w3 p1 p2 p3) p4 refl

sim_way : (w1 w2 w3 w4 : Text) → Plain w1 → Plain w2 → Plain w3 → Plain w4 → walk_fault sim_app.top [] (at nothing_held 1) (w1 ∷ w2 ∷ w3 ∷ w4 ∷ []) ≡ []
unfolding clap_on_literals sim_arguments
sim_way w1 w2 w3 w4 p1 p2 p3 p4 =
    next_turn sim_app.top (at nothing_held 1) nothing_held 1 w1 (w2 ∷ w3 ∷ w4 ∷ []) refl p1 refl
    (next_turn sim_app.top (sim_stood_1 w1) (sim_held_1 w1) 2 w2 (w3 ∷ w4 ∷ []) (sim_walk_1 w1 p1) p2 refl
    (next_turn sim_app.top (sim_stood_2 w1 w2) (sim_held_2 w1 w2) 3 w3 (w4 ∷ []) (sim_walk_2 w1 w2 p1 p2) p3 refl
    (next_turn sim_app.top (sim_stood_3 w1 w2 w3) (sim_held_3 w1 w2 w3) 4 w4 [] (sim_walk_3 w1 w2 w3 p1 p2 p3) p4 refl
    (no_turn sim_app.top (sim_stood_4 w1 w2 w3 w4)))))

pub sim_taken : (w1 w2 w3 w4 : Text) → Plain w1 → Plain w2 → Plain w3 → Plain w4 → fault_of sim_arguments (w1 ∷ w2 ∷ w3 ∷ w4 ∷ []) ≡ []
unfolding clap_on_literals sim_arguments
sim_taken w1 w2 w3 w4 p1 p2 p3 p4 = ap₂ (faults_by sim_app) (sim_walk_4 w1 w2 w3 w4 p1 p2 p3 p4) (sim_way w1 w2 w3 w4 p1 p2 p3 p4)

pub sim_level : (w1 w2 w3 w4 : Text) → Plain w1 → Plain w2 → Plain w3 → Plain w4 → first_of (codes "level") (matches_of sim_arguments (w1 ∷ w2 ∷ w3 ∷ w4 ∷ [])) ≡ Some w1
unfolding clap_on_literals sim_arguments
sim_level w1 w2 w3 w4 p1 p2 p3 p4 = ap (λ (k : Walk). first_of (codes "level") (finished sim_app.top.rules k.held)) (sim_walk_4 w1 w2 w3 w4 p1 p2 p3 p4)

pub sim_seed : (w1 w2 w3 w4 : Text) → Plain w1 → Plain w2 → Plain w3 → Plain w4 → first_of (codes "seed") (matches_of sim_arguments (w1 ∷ w2 ∷ w3 ∷ w4 ∷ [])) ≡ Some w2
unfolding clap_on_literals sim_arguments
sim_seed w1 w2 w3 w4 p1 p2 p3 p4 = ap (λ (k : Walk). first_of (codes "seed") (finished sim_app.top.rules k.held)) (sim_walk_4 w1 w2 w3 w4 p1 p2 p3 p4)

pub sim_sessions : (w1 w2 w3 w4 : Text) → Plain w1 → Plain w2 → Plain w3 → Plain w4 → first_of (codes "sessions") (matches_of sim_arguments (w1 ∷ w2 ∷ w3 ∷ w4 ∷ [])) ≡ Some w3
unfolding clap_on_literals sim_arguments
sim_sessions w1 w2 w3 w4 p1 p2 p3 p4 = ap (λ (k : Walk). first_of (codes "sessions") (finished sim_app.top.rules k.held)) (sim_walk_4 w1 w2 w3 w4 p1 p2 p3 p4)

pub sim_queries : (w1 w2 w3 w4 : Text) → Plain w1 → Plain w2 → Plain w3 → Plain w4 → first_of (codes "queries") (matches_of sim_arguments (w1 ∷ w2 ∷ w3 ∷ w4 ∷ [])) ≡ Some w4
unfolding clap_on_literals sim_arguments
sim_queries w1 w2 w3 w4 p1 p2 p3 p4 = ap (λ (k : Walk). first_of (codes "queries") (finished sim_app.top.rules k.held)) (sim_walk_4 w1 w2 w3 w4 p1 p2 p3 p4)

pub sim_log : (w1 w2 w3 w4 : Text) → Plain w1 → Plain w2 → Plain w3 → Plain w4 → first_of (codes "log") (matches_of sim_arguments (w1 ∷ w2 ∷ w3 ∷ w4 ∷ [])) ≡ None
unfolding clap_on_literals sim_arguments
sim_log w1 w2 w3 w4 p1 p2 p3 p4 = ap (λ (k : Walk). first_of (codes "log") (finished sim_app.top.rules k.held)) (sim_walk_4 w1 w2 w3 w4 p1 p2 p3 p4)

-- the place of `stop`

abbrev stop_app : App
stop_app = built stop_arguments

-- where the walk stands after its words, and what is held there
abbrev stop_stood_1 : Text → Walk
stop_stood_1 w1 = walked stop_app.top.rules [] (at nothing_held 1) w1

abbrev stop_held_1 : Text → Held
stop_held_1 w1 = held_after stop_app.top.rules nothing_held 1 w1

stop_walk_1 : (w1 : Text) → Plain w1 → stop_stood_1 w1 ≡ at (stop_held_1 w1) 2
unfolding clap_on_literals stop_arguments
stop_walk_1 w1 p1 = next_walk stop_app.top.rules (at nothing_held 1) nothing_held 1 w1 refl p1 refl

stop_way : (w1 : Text) → Plain w1 → walk_fault stop_app.top [] (at nothing_held 1) (w1 ∷ []) ≡ []
unfolding clap_on_literals stop_arguments
stop_way w1 p1 =
    next_turn stop_app.top (at nothing_held 1) nothing_held 1 w1 [] refl p1 refl
    (no_turn stop_app.top (stop_stood_1 w1))

pub stop_taken : (w1 : Text) → Plain w1 → fault_of stop_arguments (w1 ∷ []) ≡ []
unfolding clap_on_literals stop_arguments
stop_taken w1 p1 = ap₂ (faults_by stop_app) (stop_walk_1 w1 p1) (stop_way w1 p1)

pub stop_address : (w1 : Text) → Plain w1 → first_of (codes "address") (matches_of stop_arguments (w1 ∷ [])) ≡ Some w1
unfolding clap_on_literals stop_arguments
stop_address w1 p1 = ap (λ (k : Walk). first_of (codes "address") (finished stop_app.top.rules k.held)) (stop_walk_1 w1 p1)
