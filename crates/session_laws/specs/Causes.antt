-- Why a session ends: what its client said, and the entries of its record.
use Rattle.std.specs.Prelude.{◌≡◌, ◌⊎◌, List, [], ◌∷◌}
use Rattle.cell_base.specs.declared.level.Level.{Level}
use Rattle.cell_base.specs.declared.sql_state.SqlState.TheVariants.{S28000, S0A000, S54000}
use Rattle.client_framing.specs.declared.frontend_message.FrameFault.{FrameFault}
use Rattle.history_core.specs.declared.fault.BookFault.TheVariants as faults
use Rattle.block_machine.specs.Script.{Entry, did, refused, short, unsent, stop, Said, ended}
use Rattle.block_machine.specs.declared.call.Answer.TheVariants as answers
use Rattle.block_machine.specs.declared.end.End.{End}
use Rattle.block_machine.specs.declared.end.End.TheVariants as ends
use Rattle.block_machine.specs.declared.end.Stop.{Stop}
use Rattle.block_machine.specs.declared.end.Stop.TheVariants as stops
use Rattle.session_core.specs.Requests.{Request, encryption, cancel, start, userless, version, query, unread_query, terminate, sync, nothing, extended, function, Requests, asks, partial, faulty, unread}
use Rattle.session_core.specs.Told.{told}

-- ---- what the client said

-- after a Terminate nothing is heard
abbrev pub IsHeardOn : Request → Type 0
IsHeardOn terminate = ⊥
IsHeardOn _ = Unit {0}

abbrev pub IsTerminate : Request → Type 0
IsTerminate terminate = Unit {0}
IsTerminate _ = ⊥

abbrev pub IsCancel : Request → Type 0
IsCancel cancel = Unit {0}
IsCancel _ = ⊥

-- a startup that names no user
abbrev pub IsUserless : Request → Type 0
IsUserless userless = Unit {0}
IsUserless _ = ⊥

-- a startup of another version
abbrev pub IsVersion : Request → Type 0
IsVersion version = Unit {0}
IsVersion _ = ⊥

-- one of the requests that were heard is such a one
abbrev pub Asked : (Request → Type 0) → Requests → Type 0
Asked Is (asks asked requests) = Is asked ⊎ (IsHeardOn asked × Asked Is requests)
Asked Is _ = ⊥

-- what was heard ends between two messages, or inside of one
abbrev pub EndsBetween : Requests → Type 0
EndsBetween (asks asked requests) = IsHeardOn asked × EndsBetween requests
EndsBetween (partial []) = Unit {0}
EndsBetween (partial (byte ∷ bytes)) = ⊥
EndsBetween (faulty fault) = ⊥
EndsBetween unread = ⊥

abbrev pub EndsInside : Requests → Type 0
EndsInside (asks asked requests) = IsHeardOn asked × EndsInside requests
EndsInside (partial []) = ⊥
EndsInside (partial (byte ∷ bytes)) = Unit {0}
EndsInside (faulty fault) = ⊥
EndsInside unread = ⊥

-- the bytes after what was heard have this fault
abbrev pub HasFault : FrameFault → Requests → Type 0
HasFault fault (asks asked requests) = IsHeardOn asked × HasFault fault requests
HasFault fault (faulty found) = found ≡ fault
HasFault fault _ = ⊥

-- ---- what the record has

-- one of the entries is such a one
abbrev pub Has : (Entry → Type 0) → List Entry → Type 0
Has Is [] = ⊥
Has Is (entry ∷ entries) = Is entry ⊎ Has Is entries

-- no more bytes came, for this cause
abbrev pub Stops : Stop → Entry → Type 0
Stops cause (stop found) = found ≡ cause
Stops cause _ = ⊥

-- a write failed
abbrev pub IsUnsent : Entry → Type 0
IsUnsent (unsent n) = Unit {0}
IsUnsent _ = ⊥

-- memory ran out, in the session or in its book
abbrev pub LacksMemory : Entry → Type 0
LacksMemory (short final n) = Unit {0}
LacksMemory (refused faults.Memory) = Unit {0}
LacksMemory (did (answers.Refused faults.Memory) event) = Unit {0}
LacksMemory _ = ⊥

-- a call was refused since the history was full for it
abbrev pub IsFull : Entry → Type 0
IsFull (refused (faults.Full limit)) = Unit {0}
IsFull (did (answers.Refused (faults.Full limit)) event) = Unit {0}
IsFull _ = ⊥

-- ---- the ends

-- the cause of an end
abbrev pub EndsBy : End → Requests → List Entry → Type 0
EndsBy ends.Terminated requests entries = Asked IsTerminate requests
EndsBy ends.Cancelled requests entries = Asked IsCancel requests
EndsBy ends.Closed requests entries = EndsBetween requests × Has (Stops stops.EndOfInput) entries
EndsBy ends.Cut requests entries = EndsInside requests × Has (Stops stops.EndOfInput) entries
EndsBy (ends.Protocol fault) requests entries = HasFault fault requests
EndsBy (ends.Refused S28000) requests entries = Asked IsUserless requests
EndsBy (ends.Refused S0A000) requests entries = Asked IsVersion requests
EndsBy (ends.Refused S54000) requests entries = Has IsFull entries
EndsBy (ends.Refused _) requests entries = ⊥
EndsBy ends.ReadFault requests entries = Has (Stops stops.ReadFault) entries
EndsBy ends.Spent requests entries = Has (Stops stops.Spent) entries
EndsBy ends.WriteFault requests entries = Has IsUnsent entries
EndsBy ends.Memory requests entries = Has LacksMemory entries

abbrev pub EndsHaveCauses : Type 0
EndsHaveCauses =
    (level : Level) (requests : Requests) (entries : List Entry) (said : Said) (end : End)
    → told level requests entries ≡ (said, ended end) → EndsBy end requests entries

-- ---- a client that says all that it has to say

-- after the startup: any messages, and then Terminate, or the end of input between two messages
abbrev pub IsServedWhole : Requests → Type 0
IsServedWhole (asks terminate requests) = Unit {0}
IsServedWhole (asks (query asked) requests) = IsServedWhole requests
IsServedWhole (asks unread_query requests) = IsServedWhole requests
IsServedWhole (asks sync requests) = IsServedWhole requests
IsServedWhole (asks nothing requests) = IsServedWhole requests
IsServedWhole (asks extended requests) = IsServedWhole requests
IsServedWhole (asks function requests) = IsServedWhole requests
IsServedWhole (partial []) = Unit {0}
IsServedWhole (partial (byte ∷ bytes)) = ⊥
IsServedWhole _ = ⊥

-- requests for encryption, a startup that names a user, and what follows it
abbrev pub IsWhole : Requests → Type 0
IsWhole (asks encryption requests) = IsWhole requests
IsWhole (asks start requests) = IsServedWhole requests
IsWhole _ = ⊥

-- how the session of such a client may end: as the client says; or by a read, a write, memory or the history
abbrev pub EndsWell : End → List Entry → Type 0
EndsWell ends.Terminated entries = Unit {0}
EndsWell ends.Closed entries = Has (Stops stops.EndOfInput) entries
EndsWell ends.ReadFault entries = Has (Stops stops.ReadFault) entries
EndsWell ends.Spent entries = Has (Stops stops.Spent) entries
EndsWell ends.WriteFault entries = Has IsUnsent entries
EndsWell ends.Memory entries = Has LacksMemory entries
EndsWell (ends.Refused S54000) entries = Has IsFull entries
EndsWell _ entries = ⊥

abbrev pub WholeStreamsEndWell : Type 0
WholeStreamsEndWell =
    (level : Level) (requests : Requests) (entries : List Entry) (said : Said) (end : End) → IsWhole requests
    → told level requests entries ≡ (said, ended end) → EndsWell end entries
