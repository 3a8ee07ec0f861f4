-- The calls of a client of a hall, by the entries of its record.
use Rattle.std.proofs.Common.{◌≡◌, ◌≢◌, ◌≤◌, ◌+◌, inl, inr, false, ℕ, suc, List, [], ◌∷◌, length, Option, Some, None, ap, ◌∙◌, arith, length-append}
use Rattle.cell_base.specs.declared.level.Level.{Level}
use Rattle.history_core.specs.declared.event.Event.{Event}
use Rattle.history_core.specs.declared.event.Event.TheVariants as events
use Rattle.history_core.specs.declared.fault.DefineAnswer.TheVariants as defines
use Rattle.history_book.specs.Book.{Past, session_of}
use Rattle.history_core.specs.Chronicle.{Chronicle}
use Rattle.block_machine.specs.Calls.{Call}
use Rattle.block_machine.specs.Calls as calls
use Rattle.block_machine.specs.Script.{Entry, did, refused, short, unsent, stop, Next, more, call, ended, astray}
use Rattle.block_machine.specs.declared.call.Answer.{Answer}
use Rattle.block_machine.specs.declared.call.Answer.TheVariants as answers
use Rattle.block_machine.specs.declared.end.End.{End}
use Rattle.session_core.specs.Record.{Happens, IsValidRecord, events_of}
use Rattle.session_core.specs.Serve.{Account}
use Rattle.session_hall.specs.declared.client.Client.{Client}
use Rattle.session_hall.specs.Clients.{IsShown, IsServed}
use Rattle.program_laws.specs.Free.{with_free, free_in}
use Rattle.program_laws.proofs.SessionsFew.{told_few}
use Rattle.program_laws.proofs.Heard.{heard_few}
use Rattle.program_laws.proofs.Streams.{HasFewBytes}
use Rattle.program_laws.proofs.Loads.{with_plain, plain_in, plain_least}

-- ---- one call

-- the event adds to the load
plain_by : (e f : Event) (free plain : ℕ) → e ≡ f → with_plain f plain ≡ suc plain → suc (free + plain) ≤ free + with_plain e plain
plain_by e f free plain is one = let same : with_plain e plain ≡ suc plain = ap (λ (x : Event). with_plain x plain) is ∙ one in omega (arith, same)

-- an answered call is a free one, or its event adds to the load
answered : (p : Past) (c : Call) (a : Answer) (e : Event) (m : Past) (free plain : ℕ) → Happens p c a e m →
    suc (free + plain) ≤ with_free (did a e) free + with_plain e plain
answered p calls.Open (answers.Opened s) e m free plain h = plain_by e (events.Open s) free plain h.0 (omega arith)
answered p calls.Close answers.Closed e m free plain h = omega (arith, plain_least e plain)
answered p (calls.Look known) (answers.Looked tables) e m free plain h =
    plain_by e (events.Look (session_of p.state) (length m.seen.tables)) free plain h.0 (omega arith)
answered p (calls.Define table) (answers.Defined (defines.Defined n)) e m free plain h =
    plain_by e (events.Define (session_of p.state) table.name) free plain h.0 (omega arith)
answered p (calls.Define table) (answers.Defined (defines.Taken n)) e m free plain h =
    plain_by e (events.Look (session_of p.state) n) free plain h.0 (omega arith)
answered p (calls.Begin level) (answers.Begun n) e m free plain h = plain_by e (events.Begin (session_of p.state) level) free plain h.0 (omega arith)
answered p (calls.Scan table) (answers.Listed keys) e m free plain h = plain_by e (events.Scan (session_of p.state) table keys) free plain h.0 (omega arith)
answered p (calls.Touch cell) (answers.Found value) e m free plain h = elim h.0 [
  | inl back ↦ plain_by e (events.Own (session_of p.state) cell value) free plain back.event_is (omega arith)
  | inr from ↦ plain_by e (events.Read (session_of p.state) cell from.source from.count from.word value) free plain from.event_is (omega arith)
]
answered p (calls.Write cell value) answers.Written e m free plain h = plain_by e (events.Write (session_of p.state) cell value) free plain h.0 (omega arith)
answered p calls.Commit answers.Committed e m free plain h = omega (arith, plain_least e plain)
answered p calls.Rollback answers.RolledBack e m free plain h = omega (arith, plain_least e plain)
answered p calls.Show (answers.Shown n) e m free plain h = plain_by e (events.Show (session_of p.state) n) free plain h.0 (omega arith)
answered p _ _ e m free plain h = absurd h

-- ---- the calls of a record

valid_calls : {W : Type 0} (gives : W → ℕ → W → Type 0) (p : Past) (v : W) (cs : List Call) (es : List Entry) (q : Past) (w : W) →
    IsValidRecord gives p v cs es q w → length cs ≤ free_in es + plain_in (events_of es)
valid_calls gives p v [] [] q w valid = omega arith
valid_calls gives p v (c ∷ cs) [] q w valid = absurd valid
valid_calls gives p v [] (did a e ∷ es) q w valid = absurd valid
valid_calls gives p v (c ∷ cs) (did a e ∷ es) q w valid =
    omega (arith, answered p c a e valid.0 (free_in es) (plain_in (events_of es)) valid.2, valid_calls gives valid.0 valid.1 cs es q w valid.4)
valid_calls gives p v [] (refused why ∷ es) q w valid = absurd valid
valid_calls gives p v (c ∷ cs) (refused why ∷ es) q w valid = omega (arith, valid_calls gives valid.0 valid.1 cs es q w valid.4)
valid_calls gives p v [] (short final n ∷ es) q w valid = valid_calls gives p v [] es q w valid
valid_calls gives p v (c ∷ cs) (short final n ∷ es) q w valid = valid_calls gives p v (c ∷ cs) es q w valid
valid_calls gives p v [] (unsent n ∷ es) q w valid = valid_calls gives p v [] es q w valid
valid_calls gives p v (c ∷ cs) (unsent n ∷ es) q w valid = valid_calls gives p v (c ∷ cs) es q w valid
valid_calls gives p v [] (stop cause ∷ es) q w valid = valid_calls gives p v [] es q w valid
valid_calls gives p v (c ∷ cs) (stop cause ∷ es) q w valid = valid_calls gives p v (c ∷ cs) es q w valid

-- ---- one client

-- the calls of an account are so many, and so many more than the events that add to the load
pub record IsModest (account : Account) : Type 0 where
  pub calls : length account.calls ≤ free_in account.entries + plain_in (events_of account.entries)
  pub free : free_in account.entries ≤ 7210002

shown_fine : (end : Option End) (next : Next) → IsShown end next → next ≢ astray
shown_fine end more is clash = cc
shown_fine end (call c) is clash = cc
shown_fine end (ended found) is clash = cc
shown_fine None astray (inl one) clash = cc
shown_fine None astray (inr other) clash = let is = other.1 in cc
shown_fine (Some end) astray (inl one) clash = let is = one.0 in cc
shown_fine (Some end) astray (inr other) clash = let is = other.1 in cc

pub served_modest : (level : Level) (history : Chronicle) (client : Client) (end : Option End) (account : Account) → IsServed level history client end account →
    HasFewBytes client → IsModest account
served_modest level history client end account s short_is =
    let size : length client.stream.items ≡ length account.taken + length s.rest = ap length s.stream_is ∙ length-append account.taken s.rest in
    let few = told_few level s.requests account.entries (record { bytes = account.sent; calls = account.calls }) s.next s.told_is (shown_fine end s.next s.shown) in
    record {
      calls = valid_calls _ _ _ account.calls account.entries s.past s.words s.valid;
      free = omega (arith, size, short_is, few, heard_few s.requests false account.taken s.requests_are);
    }
