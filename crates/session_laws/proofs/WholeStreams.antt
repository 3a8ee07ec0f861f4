-- A client that says all that it has to say gets no other end than its own, where nothing fails.
use Rattle.std.proofs.Common.{inl, inr, List, [], ◌∷◌}
use Rattle.cell_base.specs.declared.sql_state.SqlState.TheVariants as states
use Rattle.client_framing.specs.declared.frontend_message.FrameFault.{FrameFault}
use Rattle.block_machine.specs.Script.{Entry}
use Rattle.block_machine.specs.declared.end.End.{End}
use Rattle.block_machine.specs.declared.end.End.TheVariants as ends
use Rattle.session_core.specs.Requests.{Request, encryption, cancel, start, userless, version, query, unread_query, terminate, sync, nothing, extended, function, Requests, asks, partial, faulty, unread}
use Rattle.session_laws.specs.Causes.{IsCancel, IsUserless, IsVersion, Asked, EndsInside, HasFault, EndsBy, IsServedWhole, IsWhole, EndsWell}

-- ---- after the startup nothing of these comes

record IsStrange (Is : Request → Type 0) : Type 0 where
  terminates : Is terminate → ⊥
  syncs : Is sync → ⊥
  nothings : Is nothing → ⊥
  steps : Is extended → ⊥
  functions : Is function → ⊥
  unreads : Is unread_query → ⊥
  queries : (m : Rattle.block_machine.specs.declared.message.Message.Message) → Is (query m) → ⊥

served : (Is : Request → Type 0) → IsStrange Is → (requests : Requests) → IsServedWhole requests → Asked Is requests → ⊥
served Is strange (asks terminate requests) whole asked = elim asked [ inl one ↦ strange.terminates one | inr other ↦ absurd other.0 ]
served Is strange (asks (query m) requests) whole asked = elim asked [ inl one ↦ strange.queries m one | inr other ↦ served Is strange requests whole other.1 ]
served Is strange (asks unread_query requests) whole asked = elim asked [ inl one ↦ strange.unreads one | inr other ↦ served Is strange requests whole other.1 ]
served Is strange (asks sync requests) whole asked = elim asked [ inl one ↦ strange.syncs one | inr other ↦ served Is strange requests whole other.1 ]
served Is strange (asks nothing requests) whole asked = elim asked [ inl one ↦ strange.nothings one | inr other ↦ served Is strange requests whole other.1 ]
served Is strange (asks extended requests) whole asked = elim asked [ inl one ↦ strange.steps one | inr other ↦ served Is strange requests whole other.1 ]
served Is strange (asks function requests) whole asked = elim asked [ inl one ↦ strange.functions one | inr other ↦ served Is strange requests whole other.1 ]
served Is strange (asks encryption requests) whole asked = absurd whole
served Is strange (asks cancel requests) whole asked = absurd whole
served Is strange (asks start requests) whole asked = absurd whole
served Is strange (asks userless requests) whole asked = absurd whole
served Is strange (asks version requests) whole asked = absurd whole
served Is strange (partial rest) whole asked = absurd asked
served Is strange (faulty fault) whole asked = absurd asked
served Is strange unread whole asked = absurd asked

no_cancel : IsStrange IsCancel
no_cancel = record { terminates = λ is. is; syncs = λ is. is; nothings = λ is. is; steps = λ is. is; functions = λ is. is; unreads = λ is. is; queries = λ m is. is }

no_userless : IsStrange IsUserless
no_userless = record { terminates = λ is. is; syncs = λ is. is; nothings = λ is. is; steps = λ is. is; functions = λ is. is; unreads = λ is. is; queries = λ m is. is }

no_version : IsStrange IsVersion
no_version = record { terminates = λ is. is; syncs = λ is. is; nothings = λ is. is; steps = λ is. is; functions = λ is. is; unreads = λ is. is; queries = λ m is. is }

-- ---- nor before

asked_nothing : (Is : Request → Type 0) → IsStrange Is → (Is encryption → ⊥) → (Is start → ⊥) → (requests : Requests) → IsWhole requests → Asked Is requests → ⊥
asked_nothing Is strange one two (asks encryption requests) whole asked =
    elim asked [ inl is ↦ one is | inr other ↦ asked_nothing Is strange one two requests whole other.1 ]
asked_nothing Is strange one two (asks start requests) whole asked = elim asked [ inl is ↦ two is | inr other ↦ served Is strange requests whole other.1 ]
asked_nothing Is strange one two (asks cancel requests) whole asked = absurd whole
asked_nothing Is strange one two (asks userless requests) whole asked = absurd whole
asked_nothing Is strange one two (asks version requests) whole asked = absurd whole
asked_nothing Is strange one two (asks (query m) requests) whole asked = absurd whole
asked_nothing Is strange one two (asks unread_query requests) whole asked = absurd whole
asked_nothing Is strange one two (asks terminate requests) whole asked = absurd whole
asked_nothing Is strange one two (asks sync requests) whole asked = absurd whole
asked_nothing Is strange one two (asks nothing requests) whole asked = absurd whole
asked_nothing Is strange one two (asks extended requests) whole asked = absurd whole
asked_nothing Is strange one two (asks function requests) whole asked = absurd whole
asked_nothing Is strange one two (partial rest) whole asked = absurd asked
asked_nothing Is strange one two (faulty fault) whole asked = absurd asked
asked_nothing Is strange one two unread whole asked = absurd asked

-- ---- what it said is whole

served_inside : (requests : Requests) → IsServedWhole requests → EndsInside requests → ⊥
served_inside (asks terminate requests) whole inside = absurd inside.0
served_inside (asks (query m) requests) whole inside = served_inside requests whole inside.1
served_inside (asks unread_query requests) whole inside = served_inside requests whole inside.1
served_inside (asks sync requests) whole inside = served_inside requests whole inside.1
served_inside (asks nothing requests) whole inside = served_inside requests whole inside.1
served_inside (asks extended requests) whole inside = served_inside requests whole inside.1
served_inside (asks function requests) whole inside = served_inside requests whole inside.1
served_inside (asks encryption requests) whole inside = absurd whole
served_inside (asks cancel requests) whole inside = absurd whole
served_inside (asks start requests) whole inside = absurd whole
served_inside (asks userless requests) whole inside = absurd whole
served_inside (asks version requests) whole inside = absurd whole
served_inside (partial []) whole inside = absurd inside
served_inside (partial (byte ∷ bytes)) whole inside = absurd whole
served_inside (faulty fault) whole inside = absurd inside
served_inside unread whole inside = absurd inside

served_fault : (fault : FrameFault) (requests : Requests) → IsServedWhole requests → HasFault fault requests → ⊥
served_fault fault (asks terminate requests) whole has = absurd has.0
served_fault fault (asks (query m) requests) whole has = served_fault fault requests whole has.1
served_fault fault (asks unread_query requests) whole has = served_fault fault requests whole has.1
served_fault fault (asks sync requests) whole has = served_fault fault requests whole has.1
served_fault fault (asks nothing requests) whole has = served_fault fault requests whole has.1
served_fault fault (asks extended requests) whole has = served_fault fault requests whole has.1
served_fault fault (asks function requests) whole has = served_fault fault requests whole has.1
served_fault fault (asks encryption requests) whole has = absurd whole
served_fault fault (asks cancel requests) whole has = absurd whole
served_fault fault (asks start requests) whole has = absurd whole
served_fault fault (asks userless requests) whole has = absurd whole
served_fault fault (asks version requests) whole has = absurd whole
served_fault fault (partial []) whole has = absurd has
served_fault fault (partial (byte ∷ bytes)) whole has = absurd whole
served_fault fault (faulty found) whole has = absurd whole
served_fault fault unread whole has = absurd has

-- the same of what follows the startup
inside : (requests : Requests) → IsWhole requests → EndsInside requests → ⊥
inside (asks encryption requests) whole is = inside requests whole is.1
inside (asks start requests) whole is = served_inside requests whole is.1
inside (asks _ requests) whole is = absurd whole
inside (partial rest) whole is = absurd whole
inside (faulty fault) whole is = absurd whole
inside unread whole is = absurd whole

has_fault : (fault : FrameFault) (requests : Requests) → IsWhole requests → HasFault fault requests → ⊥
has_fault fault (asks encryption requests) whole is = has_fault fault requests whole is.1
has_fault fault (asks start requests) whole is = served_fault fault requests whole is.1
has_fault fault (asks _ requests) whole is = absurd whole
has_fault fault (partial rest) whole is = absurd whole
has_fault fault (faulty found) whole is = absurd whole
has_fault fault unread whole is = absurd whole

-- ---- the ends that are left

pub ends_well : (end : End) (requests : Requests) (entries : List Entry) → IsWhole requests → EndsBy end requests entries → EndsWell end entries
ends_well ends.Terminated requests entries whole by = tt
ends_well ends.Cancelled requests entries whole by = asked_nothing IsCancel no_cancel (λ is. is) (λ is. is) requests whole by
ends_well ends.Closed requests entries whole by = by.1
ends_well ends.Cut requests entries whole by = inside requests whole by.0
ends_well (ends.Protocol fault) requests entries whole by = has_fault fault requests whole by
ends_well (ends.Refused states.S28000) requests entries whole by = asked_nothing IsUserless no_userless (λ is. is) (λ is. is) requests whole by
ends_well (ends.Refused states.S0A000) requests entries whole by = asked_nothing IsVersion no_version (λ is. is) (λ is. is) requests whole by
ends_well (ends.Refused states.S54000) requests entries whole by = by
ends_well (ends.Refused _) requests entries whole by = absurd by
ends_well ends.ReadFault requests entries whole by = by
ends_well ends.Spent requests entries whole by = by
ends_well ends.WriteFault requests entries whole by = by
ends_well ends.Memory requests entries whole by = by
