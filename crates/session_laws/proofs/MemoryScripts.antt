-- What a script tells after the answers whose effect has to be told, whatever was said and whatever becomes of it.
use Rattle.std.proofs.Common.{◌≡◌, ◌≢◌, ◌≤◌, ◌==◌, Bool, true, false, cond, ℕ, List, [], ◌∷◌, ◌++◌, length, refl, sym, ap, subst, ◌∙◌, arith, append_assoc, length-append}
use Rattle.std.proofs.lemmas.Bool.{eqb-true}
use Rattle.std.proofs.lemmas.List.{append-nil}
use Rattle.sql_tree.specs.declared.table.Table.{Table}
use Rattle.cell_base.specs.declared.key.Key.{Key}
use Rattle.cell_base.specs.declared.value.Value.{Value}
use Rattle.history_core.specs.declared.event.Event.{Event}
use Rattle.history_core.specs.declared.fault.BookFault.{BookFault}
use Rattle.history_core.specs.declared.fault.DefineAnswer.TheVariants as defines
use Rattle.block_machine.specs.Calls.{Call}
use Rattle.block_machine.specs.Calls as calls
use Rattle.block_machine.specs.Script.{Entry, did, refused, short, unsent, stop, Said, Next, more, call, ended, astray, with_bytes, with_call, Script, lost, ask, tell, unless_unsent, unless_short, on_opened, on_looked, on_defined, on_begun, on_listed, on_found, on_written, on_shown}
use Rattle.block_machine.specs.declared.call.Answer.{Answer}
use Rattle.block_machine.specs.declared.call.Answer.TheVariants as answers
use Rattle.session_core.specs.Record.{may_be_refused}
use Rattle.session_laws.specs.Telling.{HasToBeTold, Tells, IsToldWithin}

-- ---- what is claimed

-- the bytes that were told before stay, and others come after them
pub record Adds (before after : List ℕ) : Type 0 where
  pub added : List ℕ
  pub whole : after ≡ before ++ added

-- what the record has after an answer that has to be told: a lack of memory somewhere, or its end, where the next call may be refused
pub data Later : Type 0 where
  lack : List Entry → Bool → ℕ → List Entry → Later
  ends_with : List Entry → Later

abbrev pub entries_of : Later → List Entry
entries_of (lack between final n after) = between ++ short final n ∷ after
entries_of (ends_with between) = between

-- the reply to the call was told by then
abbrev pub IsTold : Call → List ℕ → Later → Said × Next → Type 0
IsTold c before (lack between final n after) result = result.1 ≢ astray → IsToldWithin c before n result.0.bytes
IsTold c before (ends_with between) result =
    (further : Call) → result.1 ≡ call further → may_be_refused further → IsToldWithin c before (length result.0.bytes) result.0.bytes

pub record Replies (c : Call) (script : Script) : Type 0 where
  pub at : (said : Said) (later : Later) → IsTold c said.bytes later (script said (entries_of later))

-- a lack of memory that is heard says that no fewer bytes were told
abbrev Late : Script → Type 0
Late script = (said : Said) (before : List Entry) (final : Bool) (n : ℕ) (after : List Entry) →
    (script said (before ++ short final n ∷ after)).1 ≢ astray → length said.bytes ≤ n

pub record Fit (script : Script) : Type 0 where
  pub adds : (said : Said) (entries : List Entry) → Adds said.bytes (script said entries).0.bytes
  pub late : (said : Said) (before : List Entry) (final : Bool) (n : ℕ) (after : List Entry) →
      (script said (before ++ short final n ∷ after)).1 ≢ astray → length said.bytes ≤ n
  pub tells : (said : Said) (before : List Entry) (asked : Said) (c : Call) (a : Answer) (e : Event) (later : Later) → HasToBeTold c a →
      script said before ≡ (asked, call c) → IsTold c asked.bytes later (script said (before ++ did a e ∷ entries_of later))

-- the session is over: no lack of memory is heard any more, and nothing is asked
pub record Over (script : Script) : Type 0 where
  pub deaf : (said : Said) (before : List Entry) (final : Bool) (n : ℕ) (after : List Entry) → (script said (before ++ short final n ∷ after)).1 ≡ astray
  pub asks_none : (said : Said) (entries : List Entry) (further : Call) → (script said entries).1 ≡ call further → ⊥

-- ---- small parts

pub adds_none : (bytes : List ℕ) → Adds bytes bytes
adds_none bytes = record { added = []; whole = sym (append-nil bytes) }

adds_after : (first added after : List ℕ) → Adds (first ++ added) after → Adds first after
adds_after first between after adds = record { added = between ++ adds.added; whole = adds.whole ∙ append_assoc first between adds.added }

adds_either : (before : List ℕ) (one other : Said × Next) → Adds before one.0.bytes → Adds before other.0.bytes → (b : Bool) → Adds before (cond b one other).0.bytes
adds_either before one other first second true = first
adds_either before one other first second false = second

late_either : (bound n : ℕ) (one other : Said × Next) → (one.1 ≢ astray → bound ≤ n) → (other.1 ≢ astray → bound ≤ n) → (b : Bool) →
    (cond b one other).1 ≢ astray → bound ≤ n
late_either bound n one other first second true not = first not
late_either bound n one other first second false not = second not

-- the same where the one is heard at once
heard_or : (bound n : ℕ) (one other : Said × Next) → (other.1 ≢ astray → bound ≤ n) → (b : Bool) → (b ≡ true → bound ≤ n) → (cond b one other).1 ≢ astray → bound ≤ n
heard_or bound n one other second true same not = same refl
heard_or bound n one other second false same not = second not

tells_either : (c : Call) (asked : Said) (later : Later) (one other one_on other_on : Said × Next) →
    (one ≡ (asked, call c) → IsTold c asked.bytes later one_on) → (other ≡ (asked, call c) → IsTold c asked.bytes later other_on) →
    (b : Bool) → cond b one other ≡ (asked, call c) → IsTold c asked.bytes later (cond b one_on other_on)
tells_either c asked later one other one_on other_on first second true is = first is
tells_either c asked later one other one_on other_on first second false is = second is

-- which of them comes next, by number
abbrev pub place_of : Next → ℕ
place_of more = 0
place_of (call c) = 1
place_of (ended end) = 2
place_of astray = 3

abbrev pub call_of : Call → Next → Call
call_of other more = other
call_of other (call c) = c
call_of other (ended end) = other
call_of other astray = other

pub no_call : (said asked : Said) (next : Next) (c : Call) (A : Type 0) → place_of next ≢ 1 → ◌≡◌ {A = Said × Next} (said, next) (asked, call c) → A
no_call said asked next c A not is = absurd (not (ap (λ (x : Said × Next). place_of x.1) is))

pub not_a_call : (next : Next) (c : Call) → place_of next ≢ 1 → next ≡ call c → ⊥
not_a_call next c not is = not (ap place_of is)

-- ---- scripts

pub lost_fits : Fit lost
lost_fits = record {
  adds = λ said entries. adds_none said.bytes;
  late = λ said before final n after not. absurd (not refl);
  tells = λ said before asked c a e later has is. no_call said asked astray c _ (λ same. omega (arith, same)) is;
}

ask_adds : (c : Call) (rest : Answer → Script) → ((a : Answer) → Fit (rest a)) → (said : Said) (entries : List Entry) → Adds said.bytes (ask c rest said entries).0.bytes
ask_adds c rest h said [] = adds_none said.bytes
ask_adds c rest h said (did a e ∷ entries) = (h a).adds (with_call said c) entries
ask_adds c rest h said (refused why ∷ entries) = (h (answers.Refused why)).adds (with_call said c) entries
ask_adds c rest h said (short final n ∷ entries) = adds_none said.bytes
ask_adds c rest h said (unsent n ∷ entries) = adds_none said.bytes
ask_adds c rest h said (stop cause ∷ entries) = adds_none said.bytes

ask_late : (c : Call) (rest : Answer → Script) → ((a : Answer) → Fit (rest a)) → Late (ask c rest)
ask_late c rest h said [] final n after not = absurd (not refl)
ask_late c rest h said (did a e ∷ before) final n after not = (h a).late (with_call said c) before final n after not
ask_late c rest h said (refused why ∷ before) final n after not = (h (answers.Refused why)).late (with_call said c) before final n after not
ask_late c rest h said (short heard m ∷ before) final n after not = absurd (not refl)
ask_late c rest h said (unsent m ∷ before) final n after not = absurd (not refl)
ask_late c rest h said (stop cause ∷ before) final n after not = absurd (not refl)

ask_tells : (d : Call) (rest : Answer → Script) → ((a : Answer) → Fit (rest a)) → ((a : Answer) → HasToBeTold d a → Replies d (rest a)) →
    (said : Said) (before : List Entry) (asked : Said) (c : Call) (a : Answer) (e : Event) (later : Later) → HasToBeTold c a →
    ask d rest said before ≡ (asked, call c) → IsTold c asked.bytes later (ask d rest said (before ++ did a e ∷ entries_of later))
ask_tells d rest h replies said [] asked c a e later has is =
    subst (λ (x : Said × Next). HasToBeTold (call_of d x.1) a → IsTold (call_of d x.1) x.0.bytes later (rest a (with_call said d) (entries_of later))) is
    (λ holds. (replies a holds).at (with_call said d) later) has
ask_tells d rest h replies said (did b f ∷ before) asked c a e later has is = (h b).tells (with_call said d) before asked c a e later has is
ask_tells d rest h replies said (refused why ∷ before) asked c a e later has is =
    (h (answers.Refused why)).tells (with_call said d) before asked c a e later has is
ask_tells d rest h replies said (short final n ∷ before) asked c a e later has is = no_call said asked astray c _ (λ same. omega (arith, same)) is
ask_tells d rest h replies said (unsent n ∷ before) asked c a e later has is = no_call said asked astray c _ (λ same. omega (arith, same)) is
ask_tells d rest h replies said (stop cause ∷ before) asked c a e later has is = no_call said asked astray c _ (λ same. omega (arith, same)) is

-- a call whose answers may have to be told
pub ask_fits : (d : Call) (rest : Answer → Script) → ((a : Answer) → Fit (rest a)) → ((a : Answer) → HasToBeTold d a → Replies d (rest a)) → Fit (ask d rest)
ask_fits d rest h replies = record {
  adds = ask_adds d rest h;
  late = ask_late d rest h;
  tells = ask_tells d rest h replies;
}

-- a call whose answers need not be told
pub quiet_fits : (d : Call) (rest : Answer → Script) → ((a : Answer) → HasToBeTold d a → ⊥) → ((a : Answer) → Fit (rest a)) → Fit (ask d rest)
quiet_fits d rest quiet h = ask_fits d rest h (λ a has. absurd (quiet a has))

unsent_adds : (k : ℕ) (fault rest : Script) → Fit fault → Fit rest → (said : Said) (entries : List Entry) → Adds said.bytes (unless_unsent k fault rest said entries).0.bytes
unsent_adds k fault rest bad good said [] = good.adds said []
unsent_adds k fault rest bad good said (did a e ∷ entries) = good.adds said (did a e ∷ entries)
unsent_adds k fault rest bad good said (refused why ∷ entries) = good.adds said (refused why ∷ entries)
unsent_adds k fault rest bad good said (short final n ∷ entries) = good.adds said (short final n ∷ entries)
unsent_adds k fault rest bad good said (unsent n ∷ entries) =
    adds_either said.bytes (fault said entries) (rest said (unsent n ∷ entries)) (bad.adds said entries) (good.adds said (unsent n ∷ entries)) (n == k)
unsent_adds k fault rest bad good said (stop cause ∷ entries) = good.adds said (stop cause ∷ entries)

unsent_late : (k : ℕ) (fault rest : Script) → Fit fault → Fit rest → Late (unless_unsent k fault rest)
unsent_late k fault rest bad good said [] final n after not = good.late said [] final n after not
unsent_late k fault rest bad good said (did a e ∷ before) final n after not = good.late said (did a e ∷ before) final n after not
unsent_late k fault rest bad good said (refused why ∷ before) final n after not = good.late said (refused why ∷ before) final n after not
unsent_late k fault rest bad good said (short heard m ∷ before) final n after not = good.late said (short heard m ∷ before) final n after not
unsent_late k fault rest bad good said (unsent m ∷ before) final n after not =
    late_either (length said.bytes) n (fault said (before ++ short final n ∷ after)) (rest said (unsent m ∷ (before ++ short final n ∷ after)))
    (bad.late said before final n after) (good.late said (unsent m ∷ before) final n after) (m == k) not
unsent_late k fault rest bad good said (stop cause ∷ before) final n after not = good.late said (stop cause ∷ before) final n after not

unsent_tells : (k : ℕ) (fault rest : Script) → Fit fault → Fit rest → (said : Said) (before : List Entry) (asked : Said) (c : Call) (a : Answer) (e : Event)
    (later : Later) → HasToBeTold c a → unless_unsent k fault rest said before ≡ (asked, call c) →
    IsTold c asked.bytes later (unless_unsent k fault rest said (before ++ did a e ∷ entries_of later))
unsent_tells k fault rest bad good said [] asked c a e later has is = good.tells said [] asked c a e later has is
unsent_tells k fault rest bad good said (did b f ∷ before) asked c a e later has is = good.tells said (did b f ∷ before) asked c a e later has is
unsent_tells k fault rest bad good said (refused why ∷ before) asked c a e later has is = good.tells said (refused why ∷ before) asked c a e later has is
unsent_tells k fault rest bad good said (short final n ∷ before) asked c a e later has is =
    good.tells said (short final n ∷ before) asked c a e later has is
unsent_tells k fault rest bad good said (unsent n ∷ before) asked c a e later has is =
    tells_either c asked later (fault said before) (rest said (unsent n ∷ before)) (fault said (before ++ did a e ∷ entries_of later))
    (rest said (unsent n ∷ (before ++ did a e ∷ entries_of later))) (λ one. bad.tells said before asked c a e later has one)
    (λ other. good.tells said (unsent n ∷ before) asked c a e later has other) (n == k) is
unsent_tells k fault rest bad good said (stop cause ∷ before) asked c a e later has is = good.tells said (stop cause ∷ before) asked c a e later has is

pub tell_fits : (bytes : List ℕ) (fault rest : Script) → Fit fault → Fit rest → Fit (tell bytes fault rest)
tell_fits bytes fault rest bad good = record {
  adds = λ said entries. adds_after said.bytes bytes _ (unsent_adds (length said.bytes) fault rest bad good (with_bytes said bytes) entries);
  late = λ said before final n after not.
      omega (
        arith,
        length-append said.bytes bytes,
        unsent_late (length said.bytes) fault rest bad good (with_bytes said bytes) before final n after not,
      );
  tells = λ said before asked c a e later has is.
      unsent_tells (length said.bytes) fault rest bad good (with_bytes said bytes) before asked c a e later has is;
}

short_adds : (final : Bool) (short_of rest : Script) → Fit short_of → Fit rest → (said : Said) (entries : List Entry) →
    Adds said.bytes (unless_short final short_of rest said entries).0.bytes
short_adds final short_of rest bad good said [] = good.adds said []
short_adds final short_of rest bad good said (did a e ∷ entries) = good.adds said (did a e ∷ entries)
short_adds final short_of rest bad good said (refused why ∷ entries) = good.adds said (refused why ∷ entries)
short_adds true short_of rest bad good said (short true n ∷ entries) =
    adds_either said.bytes (short_of said entries) (rest said (short true n ∷ entries)) (bad.adds said entries) (good.adds said (short true n ∷ entries))
    (n == length said.bytes)
short_adds false short_of rest bad good said (short false n ∷ entries) =
    adds_either said.bytes (short_of said entries) (rest said (short false n ∷ entries)) (bad.adds said entries) (good.adds said (short false n ∷ entries))
    (n == length said.bytes)
short_adds true short_of rest bad good said (short false n ∷ entries) = good.adds said (short false n ∷ entries)
short_adds false short_of rest bad good said (short true n ∷ entries) = good.adds said (short true n ∷ entries)
short_adds final short_of rest bad good said (unsent n ∷ entries) = good.adds said (unsent n ∷ entries)
short_adds final short_of rest bad good said (stop cause ∷ entries) = good.adds said (stop cause ∷ entries)

short_late : (final : Bool) (short_of rest : Script) → Fit short_of → Fit rest → Late (unless_short final short_of rest)
short_late true short_of rest bad good said [] true n after not =
    heard_or (length said.bytes) n (short_of said after) (rest said (short true n ∷ after)) (good.late said [] true n after) (n == length said.bytes)
    (λ same. omega (arith, eqb-true n (length said.bytes) same)) not
short_late false short_of rest bad good said [] false n after not =
    heard_or (length said.bytes) n (short_of said after) (rest said (short false n ∷ after)) (good.late said [] false n after) (n == length said.bytes)
    (λ same. omega (arith, eqb-true n (length said.bytes) same)) not
short_late true short_of rest bad good said [] false n after not = good.late said [] false n after not
short_late false short_of rest bad good said [] true n after not = good.late said [] true n after not
short_late final short_of rest bad good said (did a e ∷ before) heard n after not = good.late said (did a e ∷ before) heard n after not
short_late final short_of rest bad good said (refused why ∷ before) heard n after not = good.late said (refused why ∷ before) heard n after not
short_late true short_of rest bad good said (short true m ∷ before) heard n after not =
    late_either (length said.bytes) n (short_of said (before ++ short heard n ∷ after)) (rest said (short true m ∷ (before ++ short heard n ∷ after)))
    (bad.late said before heard n after) (good.late said (short true m ∷ before) heard n after) (m == length said.bytes) not
short_late false short_of rest bad good said (short false m ∷ before) heard n after not =
    late_either (length said.bytes) n (short_of said (before ++ short heard n ∷ after)) (rest said (short false m ∷ (before ++ short heard n ∷ after)))
    (bad.late said before heard n after) (good.late said (short false m ∷ before) heard n after) (m == length said.bytes) not
short_late true short_of rest bad good said (short false m ∷ before) heard n after not = good.late said (short false m ∷ before) heard n after not
short_late false short_of rest bad good said (short true m ∷ before) heard n after not = good.late said (short true m ∷ before) heard n after not
short_late final short_of rest bad good said (unsent m ∷ before) heard n after not = good.late said (unsent m ∷ before) heard n after not
short_late final short_of rest bad good said (stop cause ∷ before) heard n after not = good.late said (stop cause ∷ before) heard n after not

short_tells : (final : Bool) (short_of rest : Script) → Fit short_of → Fit rest → (said : Said) (before : List Entry) (asked : Said) (c : Call) (a : Answer)
    (e : Event) (later : Later) → HasToBeTold c a → unless_short final short_of rest said before ≡ (asked, call c) →
    IsTold c asked.bytes later (unless_short final short_of rest said (before ++ did a e ∷ entries_of later))
short_tells final short_of rest bad good said [] asked c a e later has is = good.tells said [] asked c a e later has is
short_tells final short_of rest bad good said (did b f ∷ before) asked c a e later has is =
    good.tells said (did b f ∷ before) asked c a e later has is
short_tells final short_of rest bad good said (refused why ∷ before) asked c a e later has is =
    good.tells said (refused why ∷ before) asked c a e later has is
short_tells true short_of rest bad good said (short true n ∷ before) asked c a e later has is =
    tells_either c asked later (short_of said before) (rest said (short true n ∷ before)) (short_of said (before ++ did a e ∷ entries_of later))
    (rest said (short true n ∷ (before ++ did a e ∷ entries_of later))) (λ one. bad.tells said before asked c a e later has one)
    (λ other. good.tells said (short true n ∷ before) asked c a e later has other) (n == length said.bytes) is
short_tells false short_of rest bad good said (short false n ∷ before) asked c a e later has is =
    tells_either c asked later (short_of said before) (rest said (short false n ∷ before)) (short_of said (before ++ did a e ∷ entries_of later))
    (rest said (short false n ∷ (before ++ did a e ∷ entries_of later))) (λ one. bad.tells said before asked c a e later has one)
    (λ other. good.tells said (short false n ∷ before) asked c a e later has other) (n == length said.bytes) is
short_tells true short_of rest bad good said (short false n ∷ before) asked c a e later has is =
    good.tells said (short false n ∷ before) asked c a e later has is
short_tells false short_of rest bad good said (short true n ∷ before) asked c a e later has is =
    good.tells said (short true n ∷ before) asked c a e later has is
short_tells final short_of rest bad good said (unsent n ∷ before) asked c a e later has is =
    good.tells said (unsent n ∷ before) asked c a e later has is
short_tells final short_of rest bad good said (stop cause ∷ before) asked c a e later has is =
    good.tells said (stop cause ∷ before) asked c a e later has is

pub short_fits : (final : Bool) (short_of rest : Script) → Fit short_of → Fit rest → Fit (unless_short final short_of rest)
short_fits final short_of rest bad good = record {
  adds = short_adds final short_of rest bad good;
  late = short_late final short_of rest bad good;
  tells = short_tells final short_of rest bad good;
}

-- ---- a reply that is told next

told_within : (c : Call) (before reply after : List ℕ) (n : ℕ) → Tells c reply → Adds (before ++ reply) after → length (before ++ reply) ≤ n →
    IsToldWithin c before n after
told_within c before reply after n tells adds within = record {
  reply = reply;
  following = adds.added;
  tells = tells;
  whole_is = adds.whole ∙ append_assoc before reply adds.added;
  within = within;
}

all_within : (before after : List ℕ) → Adds before after → length before ≤ length after
all_within before after adds = omega (arith, ap length adds.whole, length-append before adds.added)

tell_is_told : (c : Call) (reply : List ℕ) (fault rest : Script) → Tells c reply → Fit fault → Fit rest → (said : Said) (later : Later) →
    IsTold c said.bytes later (tell reply fault rest said (entries_of later))
tell_is_told c reply fault rest tells bad good said (lack between final n after) =
    λ not. told_within c said.bytes reply _ n tells
    (unsent_adds (length said.bytes) fault rest bad good (with_bytes said reply) (between ++ short final n ∷ after))
    (unsent_late (length said.bytes) fault rest bad good (with_bytes said reply) between final n after not)
tell_is_told c reply fault rest tells bad good said (ends_with between) =
    λ further is may. told_within c said.bytes reply _ _ tells
    (unsent_adds (length said.bytes) fault rest bad good (with_bytes said reply) between)
    (all_within (said.bytes ++ reply) _ (unsent_adds (length said.bytes) fault rest bad good (with_bytes said reply) between))

pub tell_replies : (c : Call) (reply : List ℕ) (fault rest : Script) → Tells c reply → Fit fault → Fit rest → Replies c (tell reply fault rest)
tell_replies c reply fault rest tells bad good = record { at = tell_is_told c reply fault rest tells bad good }

-- ---- a call that can't be refused, and then the session is over

last_deaf : (d : Call) (rest : Script) → Over rest → (said : Said) (before : List Entry) (final : Bool) (n : ℕ) (after : List Entry) →
    (ask d (λ _. rest) said (before ++ short final n ∷ after)).1 ≡ astray
last_deaf d rest over said [] final n after = refl
last_deaf d rest over said (did a e ∷ before) final n after = over.deaf (with_call said d) before final n after
last_deaf d rest over said (refused why ∷ before) final n after = over.deaf (with_call said d) before final n after
last_deaf d rest over said (short heard m ∷ before) final n after = refl
last_deaf d rest over said (unsent m ∷ before) final n after = refl
last_deaf d rest over said (stop cause ∷ before) final n after = refl

-- it asks for nothing else
last_asks : (d : Call) (rest : Script) → Over rest → (may_be_refused d → ⊥) → (said : Said) (entries : List Entry) (further : Call) →
    (ask d (λ _. rest) said entries).1 ≡ call further → may_be_refused further → ⊥
last_asks d rest over never said [] further is may = never (subst (λ (x : Next). may_be_refused (call_of d x)) (sym is) may)
last_asks d rest over never said (did a e ∷ entries) further is may = over.asks_none (with_call said d) entries further is
last_asks d rest over never said (refused why ∷ entries) further is may = over.asks_none (with_call said d) entries further is
last_asks d rest over never said (short final n ∷ entries) further is may = not_a_call astray further (λ same. omega (arith, same)) is
last_asks d rest over never said (unsent n ∷ entries) further is may = not_a_call astray further (λ same. omega (arith, same)) is
last_asks d rest over never said (stop cause ∷ entries) further is may = not_a_call astray further (λ same. omega (arith, same)) is

last_is_told : (c d : Call) (rest : Script) → Over rest → (may_be_refused d → ⊥) → (said : Said) (later : Later) →
    IsTold c said.bytes later (ask d (λ _. rest) said (entries_of later))
last_is_told c d rest over never said (lack between final n after) = λ not. absurd (not (last_deaf d rest over said between final n after))
last_is_told c d rest over never said (ends_with between) = λ further is may. absurd (last_asks d rest over never said between further is may)

pub last_call_replies : (c d : Call) (rest : Script) → Over rest → (may_be_refused d → ⊥) → Replies c (ask d (λ _. rest))
last_call_replies c d rest over never = record { at = last_is_told c d rest over never }

-- ---- by the answer

pub opened_fits : (good : ℕ → Script) (bad : BookFault → Script) → ((session : ℕ) → Fit (good session)) → ((why : BookFault) → Fit (bad why)) →
    (a : Answer) → Fit (on_opened a good bad)
opened_fits good bad one other (answers.Opened session) = one session
opened_fits good bad one other (answers.Refused why) = other why
opened_fits good bad one other _ = lost_fits

pub looked_fits : (good : List Table → Script) (bad : BookFault → Script) → ((tables : List Table) → Fit (good tables)) →
    ((why : BookFault) → Fit (bad why)) → (a : Answer) → Fit (on_looked a good bad)
looked_fits good bad one other (answers.Looked tables) = one tables
looked_fits good bad one other (answers.Refused why) = other why
looked_fits good bad one other _ = lost_fits

pub defined_fits : (good taken : Script) (bad : BookFault → Script) → Fit good → Fit taken → ((why : BookFault) → Fit (bad why)) →
    (a : Answer) → Fit (on_defined a good taken bad)
defined_fits good taken bad one two other (answers.Defined (defines.Defined n)) = one
defined_fits good taken bad one two other (answers.Defined (defines.Taken n)) = two
defined_fits good taken bad one two other (answers.Refused why) = other why
defined_fits good taken bad one two other _ = lost_fits

-- of the answers to a definition the one that made it has to be told
pub defined_replies : (table : Table) (good taken : Script) (bad : BookFault → Script) → Replies (calls.Define table) good →
    (a : Answer) → HasToBeTold (calls.Define table) a → Replies (calls.Define table) (on_defined a good taken bad)
defined_replies table good taken bad one (answers.Defined (defines.Defined n)) has = one
defined_replies table good taken bad one (answers.Defined (defines.Taken n)) has = absurd has
defined_replies table good taken bad one _ has = absurd has

pub begun_fits : (good : Script) (bad : BookFault → Script) → Fit good → ((why : BookFault) → Fit (bad why)) → (a : Answer) → Fit (on_begun a good bad)
begun_fits good bad one other (answers.Begun n) = one
begun_fits good bad one other (answers.Refused why) = other why
begun_fits good bad one other _ = lost_fits

pub listed_fits : (good : List Key → Script) (bad : BookFault → Script) → ((keys : List Key) → Fit (good keys)) → ((why : BookFault) → Fit (bad why)) →
    (a : Answer) → Fit (on_listed a good bad)
listed_fits good bad one other (answers.Listed keys) = one keys
listed_fits good bad one other (answers.Refused why) = other why
listed_fits good bad one other _ = lost_fits

pub found_fits : (good : Value → Script) (bad : BookFault → Script) → ((value : Value) → Fit (good value)) → ((why : BookFault) → Fit (bad why)) →
    (a : Answer) → Fit (on_found a good bad)
found_fits good bad one other (answers.Found value) = one value
found_fits good bad one other (answers.Refused why) = other why
found_fits good bad one other _ = lost_fits

pub written_fits : (good : Script) (bad : BookFault → Script) → Fit good → ((why : BookFault) → Fit (bad why)) → (a : Answer) → Fit (on_written a good bad)
written_fits good bad one other answers.Written = one
written_fits good bad one other (answers.Refused why) = other why
written_fits good bad one other _ = lost_fits

pub shown_fits : (good : ℕ → Script) (bad : BookFault → Script) → ((n : ℕ) → Fit (good n)) → ((why : BookFault) → Fit (bad why)) →
    (a : Answer) → Fit (on_shown a good bad)
shown_fits good bad one other (answers.Shown n) = one n
shown_fits good bad one other (answers.Refused why) = other why
shown_fits good bad one other _ = lost_fits
