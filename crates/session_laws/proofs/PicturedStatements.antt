-- Each statement has a transcript.
use Rattle.std.proofs.Common.{◌≡◌, ◌⊎◌, inl, inr, ℕ, Bool, true, false, List, [], ◌∷◌, ◌++◌, length, Option, Some, None, Ok, Err, refl}
use Rattle.std.specs.Fmt.{decimal}
use Rattle.std.specs.Str.{bytes_eq}
use Rattle.std.proofs.lemmas.Bool.{cond_both}
use Rattle.cell_base.specs.declared.level.Level.{Level}
use Rattle.cell_base.specs.declared.sql_state.SqlState.TheVariants as states
use Rattle.history_core.specs.declared.fault.BookFault.{BookFault}
use Rattle.history_core.specs.declared.fault.DefineAnswer.TheVariants as defined
use Rattle.sql_tree.specs.declared.statement.Statement.{Statement}
use Rattle.sql_tree.specs.declared.statement.Statement.TheVariants as tree
use Rattle.sql_tree.specs.declared.statement.TableRef.{TableRef}
use Rattle.sql_tree.specs.declared.table.Table.{Table}
use Rattle.sql_tree.specs.declared.typed.Typed.{Typed}
use Rattle.typing_rules.specs.Outcome.{Outcome as Result}
use Rattle.typing_rules.specs.Building.{built}
use Rattle.typing_rules.specs.Typed.{typed}
use Rattle.statement_course.specs.Statements.{course_of}
use Rattle.outcome_replies.specs.declared.description.RowDescription.{RowDescription}
use Rattle.outcome_replies.specs.declared.description.RowDescription.TheVariants as described
use Rattle.block_machine.specs.Calls as calls
use Rattle.block_machine.specs.Knowledge.{Knowledge, with_tables, with_level}
use Rattle.block_machine.specs.Settings.{is_own, history_name, level_name, chosen_level, value_of}
use Rattle.block_machine.specs.Replies.{created_reply, set_reply, commit_reply, rollback_reply, needless_commit_reply, needless_rollback_reply, start_reply, needless_start_reply, show_reply}
use Rattle.block_machine.specs.Script.{Entry, did, refused, short, unsent, stop, Said, call, astray, with_call, Script, on_defined, on_begun, on_shown}
use Rattle.block_machine.specs.Statements.{Around, declined, succeeds, fails, unless_short_in, starts, commits, rolls_back, defines, continues, begins, judged, typed_over, looks, prepares, judged_at_once, selects, sets_level, sets, shows_value, shows_history, shows, performs, in_failed, told_of, runs as runs_script}
use Rattle.block_machine.specs.declared.block.Block.{Block}
use Rattle.block_machine.specs.declared.block.Block.TheVariants.{Implicit, Regular, Failed}
use Rattle.block_machine.specs.declared.call.Answer.{Answer}
use Rattle.block_machine.specs.declared.call.Answer.TheVariants as answers
use Rattle.session_laws.proofs.Traces.{Trace, Traced, AroundTraced, nothing, asks_first, around_skips, skips, lost_traced, ask_traced, either_traced}
use Rattle.session_laws.proofs.Failing.{succeeds_traced, fails_traced, declined_traced, short_in_traced}
use Rattle.session_laws.proofs.Running.{runs_traced, at_once_traced}

-- ---- answers

begun_traced : (shown : List Table) (asked : List Statement) (a : Answer) (good : Script) (bad : BookFault → Script)
    → Traced shown asked good → ((why : BookFault) → Traced shown asked (bad why)) → Traced shown asked (on_begun a good bad)
begun_traced shown asked (answers.Begun n) good bad g b = g
begun_traced shown asked (answers.Refused why) good bad g b = b why
begun_traced shown asked _ good bad g b = lost_traced shown asked

defined_traced : (shown : List Table) (asked : List Statement) (a : Answer) (good taken : Script) (bad : BookFault → Script)
    → Traced shown asked good → Traced shown asked taken → ((why : BookFault) → Traced shown asked (bad why)) → Traced shown asked (on_defined a good taken bad)
defined_traced shown asked (answers.Defined (defined.Defined n)) good taken bad g t b = g
defined_traced shown asked (answers.Defined (defined.Taken n)) good taken bad g t b = t
defined_traced shown asked (answers.Refused why) good taken bad g t b = b why
defined_traced shown asked _ good taken bad g t b = lost_traced shown asked

shown_traced : (shown : List Table) (asked : List Statement) (a : Answer) (good : ℕ → Script) (bad : BookFault → Script)
    → ((n : ℕ) → Traced shown asked (good n)) → ((why : BookFault) → Traced shown asked (bad why)) → Traced shown asked (on_shown a good bad)
shown_traced shown asked (answers.Shown n) good bad g b = g n
shown_traced shown asked (answers.Refused why) good bad g b = b why
shown_traced shown asked _ good bad g b = lost_traced shown asked

-- ---- statements that ask for no cell, with what stands around them

starts_traced : (asked : List Statement) (start : Bool) (block : Block) (known : Knowledge) (around : Around) → AroundTraced asked around
    → Traced known.tables asked (starts start block known around)
starts_traced asked start (Implicit false) known around h =
    ask_traced known.tables asked (calls.Begin known.level) _ (λ a e. tt) (λ entry. refl) (λ a. begun_traced known.tables asked a _ _
    (succeeds_traced asked (start_reply start) Regular known around h) (λ why. declined_traced asked (Implicit false) known around why h))
starts_traced asked start (Implicit true) known around h = succeeds_traced asked (start_reply start) Regular known around h
starts_traced asked start Regular known around h = succeeds_traced asked (needless_start_reply start) Regular known around h
starts_traced asked start Failed known around h = fails_traced asked states.S25P02 Failed known around h

commits_traced : (asked : List Statement) (block : Block) (known : Knowledge) (around : Around) → AroundTraced asked around
    → Traced known.tables asked (commits block known around)
commits_traced asked (Implicit false) known around h = succeeds_traced asked needless_commit_reply (Implicit false) known around h
commits_traced asked (Implicit true) known around h =
    ask_traced known.tables asked calls.Commit _ (λ a e. tt) (λ entry. refl) (λ a. succeeds_traced asked needless_commit_reply (Implicit false) known around h)
commits_traced asked Regular known around h =
    ask_traced known.tables asked calls.Commit _ (λ a e. tt) (λ entry. refl) (λ a. succeeds_traced asked commit_reply (Implicit false) known around h)
commits_traced asked Failed known around h = succeeds_traced asked rollback_reply (Implicit false) known around h

rolls_back_traced : (asked : List Statement) (block : Block) (known : Knowledge) (around : Around) → AroundTraced asked around
    → Traced known.tables asked (rolls_back block known around)
rolls_back_traced asked (Implicit false) known around h = succeeds_traced asked needless_rollback_reply (Implicit false) known around h
rolls_back_traced asked (Implicit true) known around h =
    ask_traced known.tables asked calls.Rollback _ (λ a e. tt) (λ entry. refl) (λ a. succeeds_traced asked needless_rollback_reply (Implicit false) known around h)
rolls_back_traced asked Regular known around h =
    ask_traced known.tables asked calls.Rollback _ (λ a e. tt) (λ entry. refl) (λ a. succeeds_traced asked rollback_reply (Implicit false) known around h)
rolls_back_traced asked Failed known around h = succeeds_traced asked rollback_reply (Implicit false) known around h

defines_traced : (asked : List Statement) (made : Result Table) (block : Block) (known : Knowledge) (around : Around) → AroundTraced asked around
    → Traced known.tables asked (defines made block known around)
defines_traced asked (Err code) block known around h = fails_traced asked code block known around h
defines_traced asked (Ok table) block known around h =
    ask_traced known.tables asked (calls.Define table) _ (λ a e. tt) (λ entry. refl) (λ a. defined_traced known.tables asked a _ _ _
    (succeeds_traced asked created_reply block known around h) (fails_traced asked states.S42P07 block known around h)
    (λ why. declined_traced asked block known around why h))

sets_level_traced : (asked : List Statement) (level : Option Level) (block : Block) (known : Knowledge) (around : Around) → AroundTraced asked around
    → Traced known.tables asked (sets_level level block known around)
sets_level_traced asked (Some level) block known around h = succeeds_traced asked set_reply block (with_level known level) around h
sets_level_traced asked None block known around h = fails_traced asked states.S0A000 block known around h

sets_traced : (asked : List Statement) (name : List ℕ) (values : List (List ℕ)) (block : Block) (known : Knowledge) (around : Around) → AroundTraced asked around
    → Traced known.tables asked (sets name values block known around)
sets_traced asked name values block known around h said entries =
    cond_both (bytes_eq name level_name) (sets_level (chosen_level known.served values) block known around)
    _ (λ (script : Script). Traced known.tables asked script)
    (λ _. sets_level_traced asked (chosen_level known.served values) block known around h)
    (λ _. cond_both (is_own name) (fails states.S0A000 block known around) (succeeds set_reply block known around) (λ (script : Script). Traced known.tables asked script)
    (λ _. fails_traced asked states.S0A000 block known around h) (λ _. succeeds_traced asked set_reply block known around h)) said entries

shows_value_traced : (asked : List Statement) (description : RowDescription) (name : List ℕ) (value : Option (List ℕ)) (block : Block) (known : Knowledge) (around : Around)
    → AroundTraced asked around → Traced known.tables asked (shows_value description name value block known around)
shows_value_traced asked description name None block known around h = fails_traced asked states.S0A000 block known around h
shows_value_traced asked description name (Some value) block known around h =
    short_in_traced asked block known around (succeeds (show_reply description name value) block known around) h
    (succeeds_traced asked (show_reply description name value) block known around h)

shows_history_traced : (asked : List Statement) (description : RowDescription) (block : Block) (known : Knowledge) (around : Around)
    → AroundTraced asked around → Traced known.tables asked (shows_history description block known around)
shows_history_traced asked description block known around h =
    ask_traced known.tables asked calls.Show _ (λ a e. tt) (λ entry. refl) (λ a. shown_traced known.tables asked a _ _
    (λ n. short_in_traced asked block known around (succeeds (show_reply description history_name (decimal n)) block known around) h
    (succeeds_traced asked (show_reply description history_name (decimal n)) block known around h))
    (λ why. declined_traced asked block known around why h))

shows_traced : (asked : List Statement) (description : RowDescription) (name : List ℕ) (block : Block) (known : Knowledge) (around : Around)
    → AroundTraced asked around → Traced known.tables asked (shows description name block known around)
shows_traced asked description name block known around h said entries =
    cond_both (bytes_eq name history_name) (shows_history description block known around)
    (shows_value description name (value_of known.level name) block known around) (λ (script : Script). Traced known.tables asked script)
    (λ _. shows_history_traced asked description block known around h)
    (λ _. shows_value_traced asked description name (value_of known.level name) block known around h) said entries

-- ---- statements on tables, with what comes after them

continues_traced : (asked : List Statement) (s : Statement) (tables : List Table) (t : Typed) (description : RowDescription) (as_told : description ≡ described.Told) (block : Block) (known : Knowledge) (around : Around)
    → tables ≡ known.tables → typed tables s ≡ Ok t → AroundTraced asked around → Traced known.tables (s ∷ asked) (continues description (course_of tables t) block known around)
continues_traced asked s tables t description as_told block known around over types h =
    short_in_traced (s ∷ asked) block known around (runs_script description (course_of tables t) block known around) (around_skips (s ∷ []) asked around h)
    (runs_traced asked s tables t description as_told block known around over types h)

begins_traced : (asked : List Statement) (s : Statement) (tables : List Table) (t : Typed) (description : RowDescription) (as_told : description ≡ described.Told) (block : Block) (known : Knowledge) (around : Around)
    → tables ≡ known.tables → typed tables s ≡ Ok t → AroundTraced asked around → Traced known.tables (s ∷ asked) (begins description (course_of tables t) block known around)
begins_traced asked s tables t description as_told (Implicit false) known around over types h =
    ask_traced known.tables (s ∷ asked) (calls.Begin known.level) _ (λ a e. tt) (λ entry. refl) (λ a. begun_traced known.tables (s ∷ asked) a _ _
    (continues_traced asked s tables t description as_told (Implicit true) known around over types h)
    (λ why. declined_traced (s ∷ asked) (Implicit false) known around why (around_skips (s ∷ []) asked around h)))
begins_traced asked s tables t description as_told (Implicit true) known around over types h = runs_traced asked s tables t description as_told (Implicit true) known around over types h
begins_traced asked s tables t description as_told Regular known around over types h = runs_traced asked s tables t description as_told Regular known around over types h
begins_traced asked s tables t description as_told Failed known around over types h =
    fails_traced (s ∷ asked) states.S25P02 Failed known around (around_skips (s ∷ []) asked around h)

judged_traced : (asked : List Statement) (s : Statement) (known : Knowledge) (made : Result Typed) (description : RowDescription) (as_told : description ≡ described.Told) (block : Block) (around : Around)
    → typed known.tables s ≡ made → AroundTraced asked around → Traced known.tables (s ∷ asked) (judged description made block known around)
judged_traced asked s known (Ok t) description as_told block around types h = begins_traced asked s known.tables t description as_told block known around refl types h
judged_traced asked s known (Err code) description as_told block around types h =
    fails_traced (s ∷ asked) code block known around (around_skips (s ∷ []) asked around h)

typed_over_traced : (asked : List Statement) (s : Statement) (description : RowDescription) (as_told : description ≡ described.Told) (block : Block) (known : Knowledge) (tables : List Table) (around : Around)
    → AroundTraced asked around → (said : Said) (entries : List Entry)
    → Trace known.tables (s ∷ asked) said entries (typed_over description s block known tables around said entries)
    ⊎ Trace (known.tables ++ tables) (s ∷ asked) said entries (typed_over description s block known tables around said entries)
typed_over_traced asked s description as_told block known tables around h =
    either_traced known.tables (known.tables ++ tables) (s ∷ asked) (fails states.S53200 block known around)
    (judged description (typed (known.tables ++ tables) s) block (with_tables known tables) around)
    (fails_traced (s ∷ asked) states.S53200 block known around (around_skips (s ∷ []) asked around h))
    (judged_traced asked s (with_tables known tables) (typed (known.tables ++ tables) s) description as_told block around refl h)

looks_traced : (asked : List Statement) (s : Statement) (description : RowDescription) (as_told : description ≡ described.Told) (block : Block) (known : Knowledge) (around : Around)
    → AroundTraced asked around → Traced known.tables (s ∷ asked) (looks description s block known around)
looks_traced asked s description as_told block known around h said [] =
    nothing known.tables (s ∷ asked) said (call (calls.Look (length known.tables))) [] refl
looks_traced asked s description as_told block known around h said (did (answers.Looked tables) e ∷ entries) =
    let c = calls.Look (length known.tables) in
    let now = with_call said c in
    let result = typed_over description s block known tables around now entries in
    elim (typed_over_traced asked s description as_told block known tables around h now entries) [
      | inl t ↦ asks_first known.tables known.tables (s ∷ asked) said c (did (answers.Looked tables) e) entries result tt (refl, inr refl) t
      | inr t ↦ asks_first known.tables (known.tables ++ tables) (s ∷ asked) said c (did (answers.Looked tables) e) entries result tt (refl, inl refl) t
    ]
looks_traced asked s description as_told block known around h said (did (answers.Refused why) e ∷ entries) =
    let c = calls.Look (length known.tables) in
    let now = with_call said c in
    asks_first known.tables known.tables (s ∷ asked) said c (did (answers.Refused why) e) entries (declined block known around why now entries) tt refl
    (declined_traced (s ∷ asked) block known around why (around_skips (s ∷ []) asked around h) now entries)
looks_traced asked s description as_told block known around h said (did a e ∷ entries) =
    let c = calls.Look (length known.tables) in
    let now = with_call said c in
    asks_first known.tables known.tables (s ∷ asked) said c (did a e) entries (now, astray) tt refl (nothing known.tables (s ∷ asked) now astray entries tt)
looks_traced asked s description as_told block known around h said (refused why ∷ entries) =
    let c = calls.Look (length known.tables) in
    let now = with_call said c in
    asks_first known.tables known.tables (s ∷ asked) said c (refused why) entries (declined block known around why now entries) tt refl
    (declined_traced (s ∷ asked) block known around why (around_skips (s ∷ []) asked around h) now entries)
looks_traced asked s description as_told block known around h said (short final n ∷ entries) = nothing known.tables (s ∷ asked) said astray (short final n ∷ entries) tt
looks_traced asked s description as_told block known around h said (unsent n ∷ entries) = nothing known.tables (s ∷ asked) said astray (unsent n ∷ entries) tt
looks_traced asked s description as_told block known around h said (stop cause ∷ entries) = nothing known.tables (s ∷ asked) said astray (stop cause ∷ entries) tt

prepares_traced : (asked : List Statement) (s : Statement) (description : RowDescription) (as_told : description ≡ described.Told) (block : Block) (known : Knowledge) (around : Around)
    → AroundTraced asked around → Traced known.tables (s ∷ asked) (prepares description s block known around)
prepares_traced asked s description as_told block known around h =
    short_in_traced (s ∷ asked) block known around (looks description s block known around) (around_skips (s ∷ []) asked around h)
    (looks_traced asked s description as_told block known around h)

judged_at_once_traced : (asked : List Statement) (s : Statement) (made : Result Typed) (description : RowDescription) (as_told : description ≡ described.Told) (block : Block) (known : Knowledge) (around : Around)
    → typed [] s ≡ made → AroundTraced asked around → Traced known.tables (s ∷ asked) (judged_at_once description made block known around)
judged_at_once_traced asked s (Ok t) description as_told block known around types h =
    at_once_traced asked s [] t description as_told (course_of [] t) block known around refl types refl h
judged_at_once_traced asked s (Err code) description as_told block known around types h =
    fails_traced (s ∷ asked) code block known around (around_skips (s ∷ []) asked around h)

selects_traced : (asked : List Statement) (s : Statement) (from : List TableRef) (description : RowDescription) (as_told : description ≡ described.Told) (block : Block) (known : Knowledge) (around : Around)
    → AroundTraced asked around → Traced known.tables (s ∷ asked) (selects description from s block known around)
selects_traced asked s [] description as_told block known around h =
    short_in_traced (s ∷ asked) block known around (judged_at_once description (typed [] s) block known around) (around_skips (s ∷ []) asked around h)
    (judged_at_once_traced asked s (typed [] s) description as_told block known around refl h)
selects_traced asked s (entry ∷ more) description as_told block known around h = prepares_traced asked s description as_told block known around h

-- ---- all of them

performs_traced : (asked : List Statement) (s : Statement) (description : RowDescription) (as_told : description ≡ described.Told) (block : Block) (known : Knowledge) (around : Around)
    → AroundTraced asked around → Traced known.tables (s ∷ asked) (performs description s block known around)
performs_traced asked (tree.Select select) description as_told block known around h =
    selects_traced asked (tree.Select select) select.from description as_told block known around h
performs_traced asked (tree.Insert insert) description as_told block known around h = prepares_traced asked (tree.Insert insert) description as_told block known around h
performs_traced asked (tree.Update update) description as_told block known around h = prepares_traced asked (tree.Update update) description as_told block known around h
performs_traced asked (tree.Delete delete) description as_told block known around h = prepares_traced asked (tree.Delete delete) description as_told block known around h
performs_traced asked (tree.Create create) description as_told block known around h =
    skips known.tables (tree.Create create ∷ []) asked (unless_short_in block known around (defines (built create) block known around))
    (short_in_traced asked block known around (defines (built create) block known around) h (defines_traced asked (built create) block known around h))
performs_traced asked (tree.Begin start) description as_told block known around h =
    skips known.tables (tree.Begin start ∷ []) asked (starts start block known around) (starts_traced asked start block known around h)
performs_traced asked tree.Commit description as_told block known around h =
    skips known.tables (tree.Commit ∷ []) asked (commits block known around) (commits_traced asked block known around h)
performs_traced asked tree.Rollback description as_told block known around h =
    skips known.tables (tree.Rollback ∷ []) asked (rolls_back block known around) (rolls_back_traced asked block known around h)
performs_traced asked (tree.Set name values) description as_told block known around h =
    skips known.tables (tree.Set name values ∷ []) asked (sets name values block known around) (sets_traced asked name values block known around h)
performs_traced asked tree.SetModes description as_told block known around h =
    skips known.tables (tree.SetModes ∷ []) asked (succeeds set_reply block known around) (succeeds_traced asked set_reply block known around h)
performs_traced asked (tree.Show name) description as_told block known around h =
    skips known.tables (tree.Show name ∷ []) asked (shows description name block known around) (shows_traced asked description name block known around h)

in_failed_traced : (asked : List Statement) (s : Statement) (known : Knowledge) (around : Around) → AroundTraced asked around → Traced known.tables asked (in_failed s known around)
in_failed_traced asked tree.Commit known around h = commits_traced asked Failed known around h
in_failed_traced asked tree.Rollback known around h = rolls_back_traced asked Failed known around h
in_failed_traced asked _ known around h = fails_traced asked states.S25P02 Failed known around h

-- a statement, with those that may follow it
pub told_of_traced : (asked : List Statement) (s : Statement) (description : RowDescription) (as_told : description ≡ described.Told) (block : Block) (known : Knowledge) (around : Around)
    → AroundTraced asked around → Traced known.tables (s ∷ asked) (told_of description s block known around)
told_of_traced asked s description as_told (Implicit pending) known around h = performs_traced asked s description as_told (Implicit pending) known around h
told_of_traced asked s description as_told Regular known around h = performs_traced asked s description as_told Regular known around h
told_of_traced asked s description as_told Failed known around h = skips known.tables (s ∷ []) asked (in_failed s known around) (in_failed_traced asked s known around h)
