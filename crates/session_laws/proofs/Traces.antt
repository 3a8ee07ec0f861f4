-- A script has a transcript: one lemma for each combinator.
use Rattle.std.proofs.Common.{◌≡◌, ◌⊎◌, inl, inr, ℕ, ◌==◌, Bool, true, false, List, [], ◌∷◌, ◌++◌, length, refl, sym, ap, subst, ◌∙◌, append_assoc}
use Rattle.std.proofs.lemmas.Bool.{cond_both}
use Rattle.std.proofs.lemmas.List.{append-nil}
use Rattle.history_core.specs.declared.event.Event.{Event}
use Rattle.pg_framing.specs.declared.replies.TransactionState.{TransactionState}
use Rattle.sql_tree.specs.declared.statement.Statement.{Statement}
use Rattle.sql_tree.specs.declared.table.Table.{Table}
use Rattle.block_machine.specs.Calls.{Call}
use Rattle.block_machine.specs.Calls as calls
use Rattle.block_machine.specs.Knowledge.{Knowledge}
use Rattle.block_machine.specs.Script.{Entry, did, refused, short, unsent, stop, Said, Next, call, astray, with_bytes, with_call, Script, lost, ask, tell, unless_short}
use Rattle.block_machine.specs.Statements.{Around}
use Rattle.block_machine.specs.declared.block.Block.{Block}
use Rattle.block_machine.specs.declared.block.Owed.{Owed}
use Rattle.block_machine.specs.declared.call.Answer.{Answer}
use Rattle.block_machine.specs.declared.call.Answer.TheVariants as answers
use Rattle.session_laws.specs.Acts.{Act, tells, asks, meets, runs, bytes_of, calls_of, entries_of}
use Rattle.session_laws.specs.Transcripts.{Replies, at_once, rolled_back, unsaid, lost_before, IsOther, IsNote, Learns, IsTranscript}
use Rattle.session_laws.specs.PictureLaws.{IsWhole}

-- ---- what a script says and takes

pub record Trace (shown : List Table) (asked : List Statement) (said : Said) (entries : List Entry) (result : Said × Next) : Type 0 where
  pub acts : List Act
  pub rest : List Entry
  pub entries_are : entries ≡ entries_of acts ++ rest
  pub bytes_are : result.0.bytes ≡ said.bytes ++ bytes_of acts
  pub calls_are : result.0.calls ≡ said.calls ++ calls_of acts
  pub whole : IsWhole result.1 rest
  pub is : IsTranscript shown asked acts result.1

abbrev pub Traced : List Table → List Statement → Script → Type 0
Traced shown asked script = (said : Said) (entries : List Entry) → Trace shown asked said entries (script said entries)

-- ---- one act more

-- no more is said
abbrev pub nothing : (shown : List Table) (asked : List Statement) (said : Said) (next : Next) (rest : List Entry) → IsWhole next rest → Trace shown asked said rest (said, next)
nothing shown asked said next rest whole = record {
  acts = [];
  rest = rest;
  entries_are = refl;
  bytes_are = sym (append-nil said.bytes);
  calls_are = sym (append-nil said.calls);
  whole = whole;
  is = tt;
}

abbrev pub tells_first : (shown : List Table) (asked : List Statement) (said : Said) (bytes : List ℕ) (entries : List Entry) (result : Said × Next)
    → Trace shown asked (with_bytes said bytes) entries result → Trace shown asked said entries result
tells_first shown asked said bytes entries result t = record {
  acts = tells bytes ∷ t.acts;
  rest = t.rest;
  entries_are = t.entries_are;
  bytes_are = t.bytes_are ∙ append_assoc said.bytes bytes (bytes_of t.acts);
  calls_are = t.calls_are;
  whole = t.whole;
  is = t.is;
}

abbrev pub asks_first : (shown after : List Table) (asked : List Statement) (said : Said) (c : Call) (entry : Entry) (entries : List Entry) (result : Said × Next)
    → IsOther c entry → Learns shown c entry after
    → Trace after asked (with_call said c) entries result → Trace shown asked said (entry ∷ entries) result
asks_first shown after asked said c entry entries result other learns t = record {
  acts = asks c entry ∷ t.acts;
  rest = t.rest;
  entries_are = ap (λ es. entry ∷ es) t.entries_are;
  bytes_are = t.bytes_are;
  calls_are = t.calls_are ∙ append_assoc said.calls (c ∷ []) (calls_of t.acts);
  whole = t.whole;
  is = (after, other, learns, t.is);
}

abbrev pub meets_first : (shown : List Table) (asked : List Statement) (said : Said) (entry : Entry) (entries : List Entry) (result : Said × Next) → IsNote entry
    → Trace shown asked said entries result → Trace shown asked said (entry ∷ entries) result
meets_first shown asked said entry entries result note t = record {
  acts = meets entry ∷ t.acts;
  rest = t.rest;
  entries_are = ap (λ es. entry ∷ es) t.entries_are;
  bytes_are = t.bytes_are;
  calls_are = t.calls_are;
  whole = t.whole;
  is = (note, t.is);
}

-- ---- statements that are skipped

sooner : (shown : List Table) (before asked : List Statement) (acts : List Act) (next : Next) → IsTranscript shown asked acts next → IsTranscript shown (before ++ asked) acts next
sooner shown before asked [] next h = tt
sooner shown before asked (tells bytes ∷ acts) next h = sooner shown before asked acts next h
sooner shown before asked (asks c entry ∷ acts) next h = (h.0, h.1, h.2, sooner h.0 before asked acts next h.3)
sooner shown before asked (meets entry ∷ acts) next h = (h.0, sooner shown before asked acts next h.1)
sooner shown before asked (runs r ∷ acts) next h =
    (before ++ h.0, h.1, ap (λ xs. before ++ xs) h.2 ∙ sym (append_assoc before h.0 (r.statement ∷ h.1)), h.3, h.4, h.5)

pub skips : (shown : List Table) (before asked : List Statement) (script : Script) → Traced shown asked script → Traced shown (before ++ asked) script
skips shown before asked script h said entries = let t = h said entries in record {
  acts = t.acts;
  rest = t.rest;
  entries_are = t.entries_are;
  bytes_are = t.bytes_are;
  calls_are = t.calls_are;
  whole = t.whole;
  is = sooner shown before asked t.acts (script said entries).1 t.is;
}

-- ---- combinators

pub lost_traced : (shown : List Table) (asked : List Statement) → Traced shown asked lost
lost_traced shown asked said entries = nothing shown asked said astray entries tt

-- a call that reads and writes no cell
abbrev pub IsPlain : Call → Type 0
IsPlain c = (a : Answer) (e : Event) → IsOther c (did a e)

-- a call after which a session knows the same tables
abbrev pub Keeps : List Table → Call → Type 0
Keeps shown c = (entry : Entry) → Learns shown c entry shown

pub ask_traced : (shown : List Table) (asked : List Statement) (c : Call) (rest : Answer → Script) → IsPlain c → Keeps shown c → ((a : Answer) → Traced shown asked (rest a)) → Traced shown asked (ask c rest)
ask_traced shown asked c rest plain keeps h said [] = nothing shown asked said (call c) [] refl
ask_traced shown asked c rest plain keeps h said (did a e ∷ entries) =
    asks_first shown shown asked said c (did a e) entries (rest a (with_call said c) entries) (plain a e) (keeps (did a e)) (h a (with_call said c) entries)
ask_traced shown asked c rest plain keeps h said (refused fault ∷ entries) =
    asks_first shown shown asked said c (refused fault) entries (rest (answers.Refused fault) (with_call said c) entries) tt (keeps (refused fault))
    (h (answers.Refused fault) (with_call said c) entries)
ask_traced shown asked c rest plain keeps h said (short final n ∷ entries) = nothing shown asked said astray (short final n ∷ entries) tt
ask_traced shown asked c rest plain keeps h said (unsent n ∷ entries) = nothing shown asked said astray (unsent n ∷ entries) tt
ask_traced shown asked c rest plain keeps h said (stop cause ∷ entries) = nothing shown asked said astray (stop cause ∷ entries) tt

pub unless_short_traced : (shown : List Table) (asked : List Statement) (final : Bool) (short_of rest : Script) → Traced shown asked short_of → Traced shown asked rest
    → Traced shown asked (unless_short final short_of rest)
unless_short_traced shown asked final short_of rest s h said [] = h said []
unless_short_traced shown asked final short_of rest s h said (did a e ∷ entries) = h said (did a e ∷ entries)
unless_short_traced shown asked final short_of rest s h said (refused fault ∷ entries) = h said (refused fault ∷ entries)
unless_short_traced shown asked true short_of rest s h said (short true n ∷ entries) =
    cond_both (n == length said.bytes) (short_of said entries) (rest said (short true n ∷ entries)) (Trace shown asked said (short true n ∷ entries))
    (λ _. meets_first shown asked said (short true n) entries (short_of said entries) tt (s said entries)) (λ _. h said (short true n ∷ entries))
unless_short_traced shown asked false short_of rest s h said (short false n ∷ entries) =
    cond_both (n == length said.bytes) (short_of said entries) (rest said (short false n ∷ entries)) (Trace shown asked said (short false n ∷ entries))
    (λ _. meets_first shown asked said (short false n) entries (short_of said entries) tt (s said entries)) (λ _. h said (short false n ∷ entries))
unless_short_traced shown asked true short_of rest s h said (short false n ∷ entries) = h said (short false n ∷ entries)
unless_short_traced shown asked false short_of rest s h said (short true n ∷ entries) = h said (short true n ∷ entries)
unless_short_traced shown asked final short_of rest s h said (unsent n ∷ entries) = h said (unsent n ∷ entries)
unless_short_traced shown asked final short_of rest s h said (stop cause ∷ entries) = h said (stop cause ∷ entries)

-- where memory runs out at once, the session still knows what it knew first
pub either_traced : (first second : List Table) (asked : List Statement) (short_of rest : Script) → Traced first asked short_of → Traced second asked rest
    → (said : Said) (entries : List Entry)
    → Trace first asked said entries (unless_short false short_of rest said entries) ⊎ Trace second asked said entries (unless_short false short_of rest said entries)
either_traced first second asked short_of rest s h said [] = inr (h said [])
either_traced first second asked short_of rest s h said (did a e ∷ entries) = inr (h said (did a e ∷ entries))
either_traced first second asked short_of rest s h said (refused fault ∷ entries) = inr (h said (refused fault ∷ entries))
either_traced first second asked short_of rest s h said (short true n ∷ entries) = inr (h said (short true n ∷ entries))
either_traced first second asked short_of rest s h said (short false n ∷ entries) =
    cond_both (n == length said.bytes) (short_of said entries) (rest said (short false n ∷ entries))
    (λ result. Trace first asked said (short false n ∷ entries) result ⊎ Trace second asked said (short false n ∷ entries) result)
    (λ _. inl (meets_first first asked said (short false n) entries (short_of said entries) tt (s said entries))) (λ _. inr (h said (short false n ∷ entries)))
either_traced first second asked short_of rest s h said (unsent n ∷ entries) = inr (h said (unsent n ∷ entries))
either_traced first second asked short_of rest s h said (stop cause ∷ entries) = inr (h said (stop cause ∷ entries))

-- ---- replies

-- the bytes are told first
abbrev pub Begun : List Table → List Statement → List ℕ → Said → List Entry → Said × Next → Type 0
Begun shown asked bytes said entries result = (t : Trace shown asked said entries result) × ((after : List Act) × (t.acts ≡ tells bytes ∷ after))

abbrev pub Starts : List Table → List Statement → List ℕ → Script → Type 0
Starts shown asked bytes script = (said : Said) (entries : List Entry) → Begun shown asked bytes said entries (script said entries)

abbrev begun : (shown : List Table) (asked : List Statement) (said : Said) (bytes : List ℕ) (entries : List Entry) (result : Said × Next)
    → Trace shown asked (with_bytes said bytes) entries result → Begun shown asked bytes said entries result
begun shown asked said bytes entries result t = (tells_first shown asked said bytes entries result t, (t.acts, refl))

pub tell_starts : (shown : List Table) (asked : List Statement) (bytes : List ℕ) (fault rest : Script) → Traced shown asked fault → Traced shown asked rest
    → Starts shown asked bytes (tell bytes fault rest)
tell_starts shown asked bytes fault rest f h said [] =
    let now = with_bytes said bytes in begun shown asked said bytes [] (rest now []) (h now [])
tell_starts shown asked bytes fault rest f h said (did a e ∷ entries) =
    let now = with_bytes said bytes in begun shown asked said bytes (did a e ∷ entries) (rest now (did a e ∷ entries)) (h now (did a e ∷ entries))
tell_starts shown asked bytes fault rest f h said (refused why ∷ entries) =
    let now = with_bytes said bytes in begun shown asked said bytes (refused why ∷ entries) (rest now (refused why ∷ entries)) (h now (refused why ∷ entries))
tell_starts shown asked bytes fault rest f h said (short final n ∷ entries) =
    let now = with_bytes said bytes in begun shown asked said bytes (short final n ∷ entries) (rest now (short final n ∷ entries)) (h now (short final n ∷ entries))
tell_starts shown asked bytes fault rest f h said (unsent n ∷ entries) =
    let now = with_bytes said bytes in
    cond_both (n == length said.bytes) (fault now entries) (rest now (unsent n ∷ entries)) (Begun shown asked bytes said (unsent n ∷ entries))
    (λ _. begun shown asked said bytes (unsent n ∷ entries) (fault now entries) (meets_first shown asked now (unsent n) entries (fault now entries) tt (f now entries)))
    (λ _. begun shown asked said bytes (unsent n ∷ entries) (rest now (unsent n ∷ entries)) (h now (unsent n ∷ entries)))
tell_starts shown asked bytes fault rest f h said (stop cause ∷ entries) =
    let now = with_bytes said bytes in begun shown asked said bytes (stop cause ∷ entries) (rest now (stop cause ∷ entries)) (h now (stop cause ∷ entries))

pub starts_traced : (shown : List Table) (asked : List Statement) (bytes : List ℕ) (script : Script) → Starts shown asked bytes script → Traced shown asked script
starts_traced shown asked bytes script h said entries = (h said entries).0

pub tell_traced : (shown : List Table) (asked : List Statement) (bytes : List ℕ) (fault rest : Script) → Traced shown asked fault → Traced shown asked rest → Traced shown asked (tell bytes fault rest)
tell_traced shown asked bytes fault rest f h = starts_traced shown asked bytes (tell bytes fault rest) (tell_starts shown asked bytes fault rest f h)

-- the reply is told, perhaps after a rollback
abbrev pub Replied : List Table → List Statement → List ℕ → Said → List Entry → Said × Next → Type 0
Replied shown asked reply said entries result = (t : Trace shown asked said entries result) × Replies reply t.acts result.1

abbrev pub Answers : List Table → List Statement → List ℕ → Script → Type 0
Answers shown asked reply script = (said : Said) (entries : List Entry) → Replied shown asked reply said entries (script said entries)

pub starts_answers : (shown : List Table) (asked : List Statement) (reply : List ℕ) (script : Script) → Starts shown asked reply script → Answers shown asked reply script
starts_answers shown asked reply script h said entries =
    let r = h said entries in
    (r.0, subst (λ (acts : List Act). Replies reply acts (script said entries).1) (sym r.1.1) (at_once r.1.0 (script said entries).1))

abbrev after_rollback : (shown : List Table) (asked : List Statement) (reply : List ℕ) (said : Said) (entry : Entry) (entries : List Entry) (result : Said × Next)
    → IsOther calls.Rollback entry → Begun shown asked reply (with_call said calls.Rollback) entries result → Replied shown asked reply said (entry ∷ entries) result
after_rollback shown asked reply said entry entries result other r = (
  asks_first shown shown asked said calls.Rollback entry entries result other refl r.0,
  subst (λ (acts : List Act). Replies reply (asks calls.Rollback entry ∷ acts) result.1) (sym r.1.1) (rolled_back entry r.1.0 result.1),
)

pub rollback_answers : (shown : List Table) (asked : List Statement) (reply : List ℕ) (script : Script) → Starts shown asked reply script
    → Answers shown asked reply (ask calls.Rollback (λ _. script))
rollback_answers shown asked reply script h said [] = (nothing shown asked said (call calls.Rollback) [] refl, unsaid)
rollback_answers shown asked reply script h said (did a e ∷ entries) =
    let now = with_call said calls.Rollback in after_rollback shown asked reply said (did a e) entries (script now entries) tt (h now entries)
rollback_answers shown asked reply script h said (refused fault ∷ entries) =
    let now = with_call said calls.Rollback in after_rollback shown asked reply said (refused fault) entries (script now entries) tt (h now entries)
rollback_answers shown asked reply script h said (short final n ∷ entries) = (nothing shown asked said astray (short final n ∷ entries) tt, lost_before [])
rollback_answers shown asked reply script h said (unsent n ∷ entries) = (nothing shown asked said astray (unsent n ∷ entries) tt, lost_before [])
rollback_answers shown asked reply script h said (stop cause ∷ entries) = (nothing shown asked said astray (stop cause ∷ entries) tt, lost_before [])

pub answers_traced : (shown : List Table) (asked : List Statement) (reply : List ℕ) (script : Script) → Answers shown asked reply script → Traced shown asked script
answers_traced shown asked reply script h said entries = (h said entries).0

-- ---- what stands around a statement

pub record AroundTraced (asked : List Statement) (around : Around) : Type 0 where
  pub succeeded : (block : Block) (known : Knowledge) → Traced known.tables asked (around.succeeded block known)
  pub failed : (state : TransactionState) (known : Knowledge) → Traced known.tables asked (around.failed state known)
  pub broken : (shown : List Table) (owed : Owed) → Traced shown asked (around.broken owed)

pub around_skips : (before asked : List Statement) (around : Around) → AroundTraced asked around → AroundTraced (before ++ asked) around
around_skips before asked around h = record {
  succeeded = λ block known. skips known.tables before asked (around.succeeded block known) (h.succeeded block known);
  failed = λ state known. skips known.tables before asked (around.failed state known) (h.failed state known);
  broken = λ shown owed. skips shown before asked (around.broken owed) (h.broken shown owed);
}
