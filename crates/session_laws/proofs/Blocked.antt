-- No statement is told that its block has failed before anything of this block was told an error.
use Rattle.std.proofs.Common.{◌≡◌, ◌⊎◌, inl, inr, Bool, true, false, ℕ, List, [], ◌∷◌, ◌++◌, Ok, Err, refl, sym, ◌∙◌, ap, subst}
use Rattle.cell_base.specs.declared.sql_state.SqlState.{SqlState}
use Rattle.cell_base.specs.declared.sql_state.SqlState.TheVariants as states
use Rattle.cell_base.specs.declared.level.Level.{Level}
use Rattle.history_core.specs.declared.fault.BookFault.{BookFault}
use Rattle.history_core.specs.declared.fault.BookFault.TheVariants as faults
use Rattle.pg_framing.specs.declared.replies.TransactionState.{TransactionState}
use Rattle.pg_framing.specs.declared.replies.TransactionState.TheVariants as ready
use Rattle.sql_tree.specs.declared.statement.Statement.{Statement}
use Rattle.sql_tree.specs.declared.statement.Statement.TheVariants as tree
use Rattle.statement_course.specs.declared.demand.Outcome.TheVariants as outcomes
use Rattle.statement_course.specs.Course.{Course, done}
use Rattle.block_machine.specs.Calls.{Call}
use Rattle.block_machine.specs.Knowledge.{Knowledge, at_start}
use Rattle.block_machine.specs.Messages.{block_at}
use Rattle.block_machine.specs.Statements.{refusal_state}
use Rattle.block_machine.specs.declared.block.Block.{Block}
use Rattle.block_machine.specs.declared.block.Block.TheVariants.{Implicit, Regular, Failed}
use Rattle.block_machine.specs.declared.message.Message.{Message}
use Rattle.block_machine.specs.declared.message.Message.TheVariants as messages
use Rattle.session_core.specs.declared.phase.Phase.TheVariants as phases
use Rattle.session_core.specs.Requests.{Request, encryption, cancel, start, userless, version, query, unread_query, terminate, sync, nothing, extended, function, Requests, asks, partial, faulty, unread}
use Rattle.session_laws.specs.Acts.{Act}
use Rattle.session_laws.specs.Replies.{IsSound, EndsBlock, HasTransaction, Runs, IsReply, AsksNext, MayLack, GivesCode}
use Rattle.session_laws.specs.Replies as gives
use Rattle.session_laws.specs.Conversations.{Finishes, RollsBack, AreAnswered, none, replied, refused, IsRefused, IsAnswer, Converses}
use Rattle.session_laws.specs.Blocks.{Exchange, succeeded, failed, refused_message, exchanges_in, exchanges_of_message, exchanges_of, Standing, outside, inside, broken, after_success, after_error, stands_after, IsOwnCode, untyped, comes_to, comes_to_alone, unbuilt, IsDue, AreDue, BlocksFailByErrors}

-- ---- a client's block, and the session's

-- how a client stands whose session stands in this block
abbrev standing_in : Block → Standing
standing_in (Implicit pending) = outside
standing_in Regular = inside
standing_in Failed = broken

abbrev standing_at : TransactionState → Standing
standing_at ready.Idle = outside
standing_at ready.Block = inside
standing_at ready.Failed = broken

found_at : (state : TransactionState) → standing_in (block_at state) ≡ standing_at state
found_at ready.Idle = refl
found_at ready.Block = refl
found_at ready.Failed = refl

finished_at : (block : Block) (acts : List Act) (state : TransactionState) → Finishes block acts state → standing_at state ≡ standing_in block
finished_at (Implicit false) acts state is = ap (λ (x : TransactionState). standing_at x) is.1
finished_at (Implicit true) acts state is = ap (λ (x : TransactionState). standing_at x) is.3
finished_at Regular acts state is = ap (λ (x : TransactionState). standing_at x) is.1
finished_at Failed acts state is = ap (λ (x : TransactionState). standing_at x) is.1

rolled_at : (block : Block) (acts : List Act) (state : TransactionState) → RollsBack block acts state → standing_at state ≡ after_error (standing_in block)
rolled_at (Implicit false) acts state is = ap (λ (x : TransactionState). standing_at x) is.1
rolled_at (Implicit true) acts state is = ap (λ (x : TransactionState). standing_at x) is.3
rolled_at Regular acts state is = ap (λ (x : TransactionState). standing_at x) is.3
rolled_at Failed acts state is = ap (λ (x : TransactionState). standing_at x) is.1

-- a transaction that is begun changes nothing that the client sees
opened_in : (level : Level) (block : Block) (acts : List Act) (after : Block) → HasTransaction level block acts after → standing_in after ≡ standing_in block
opened_in level (Implicit false) acts after is = ap (λ (x : Block). standing_in x) is.4
opened_in level (Implicit true) acts after is = ap (λ (x : Block). standing_in x) is.1
opened_in level Regular acts after is = ap (λ (x : Block). standing_in x) is.1
opened_in level Failed acts after is = absurd is

ran_in : (known : Knowledge) (block : Block) (s : Statement) (acts : List Act) (after : Block) (knows : Knowledge) (left : Course) → Runs known block s acts after knows left →
    standing_in after ≡ standing_in block
ran_in known block s _ _ _ _ (gives.looked look tables t begins after over shows types opens) = opened_in known.level block begins after opens
ran_in known block s _ _ _ _ (gives.listed acts after knows table rest entry keys is it) = ran_in known block s acts after knows _ is
ran_in known block s _ _ _ _ (gives.found acts after knows cell rest entry value is it) = ran_in known block s acts after knows _ is
ran_in known block s _ _ _ _ (gives.written acts after knows cell value rest entry is it) = ran_in known block s acts after knows _ is

-- ---- a statement that succeeds

-- a statement over tables, or a SELECT without FROM, neither begins nor ends a block
kept_over : (s : Statement) (standing : Standing) → gives.IsOverTables s → after_success standing s ≡ standing
kept_over (tree.Select select) standing over = refl
kept_over (tree.Insert insert) standing over = refl
kept_over (tree.Update update) standing over = refl
kept_over (tree.Delete delete) standing over = refl
kept_over _ standing over = absurd over

kept_alone : (s : Statement) (standing : Standing) → gives.StandsAlone s → after_success standing s ≡ standing
kept_alone (tree.Select select) standing alone = refl
kept_alone _ standing alone = absurd alone

over_of : (known : Knowledge) (block : Block) (s : Statement) (acts : List Act) (after : Block) (knows : Knowledge) (left : Course) → Runs known block s acts after knows left →
    gives.IsOverTables s
over_of known block s _ _ _ _ (gives.looked look tables t begins after over shows types opens) = over
over_of known block s _ _ _ _ (gives.listed acts after knows table rest entry keys is it) = over_of known block s acts after knows _ is
over_of known block s _ _ _ _ (gives.found acts after knows cell rest entry value is it) = over_of known block s acts after knows _ is
over_of known block s _ _ _ _ (gives.written acts after knows cell value rest entry is it) = over_of known block s acts after knows _ is

replied_in : (known : Knowledge) (block : Block) (s : Statement) (acts : List Act) (reply : List ℕ) (after : Block) (knows : Knowledge) →
    IsReply known block s acts reply after knows → standing_in after ≡ after_success (standing_in block) s
replied_in known _ _ _ _ _ _ (gives.rows block after knows s acts outcome is success) =
    ran_in known block s acts after knows _ is ∙ sym (kept_over s (standing_in block) (over_of known block s acts after knows _ is))
replied_in known _ _ _ _ _ _ (gives.rows_alone block s t outcome sound alone types is success) = sym (kept_alone s (standing_in block) alone)
replied_in known _ _ _ _ _ _ (gives.created block create table entry number sound is it) = refl
replied_in known _ _ _ _ _ _ (gives.begun word entry number it) = refl
replied_in known _ _ _ _ _ _ (gives.begun_by_message word) = refl
replied_in known _ _ _ _ _ _ (gives.begun_again word) = refl
replied_in known _ _ _ _ _ _ (gives.committed entry it) = refl
replied_in known _ _ _ _ _ _ gives.committed_nothing = refl
replied_in known _ _ _ _ _ _ (gives.committed_by_message entry it) = refl
replied_in known _ _ _ _ _ _ gives.committed_failed = refl
replied_in known _ _ _ _ _ _ (gives.rolled_back entry it) = refl
replied_in known _ _ _ _ _ _ gives.rolled_back_nothing = refl
replied_in known _ _ _ _ _ _ (gives.rolled_back_by_message entry it) = refl
replied_in known _ _ _ _ _ _ gives.rolled_back_failed = refl
replied_in known _ _ _ _ _ _ (gives.set_level block name values level sound same is) = refl
replied_in known _ _ _ _ _ _ (gives.set_other block name values sound other foreign) = refl
replied_in known _ _ _ _ _ _ (gives.set_modes block sound) = refl
replied_in known _ _ _ _ _ _ (gives.shown block name value sound other is) = refl
replied_in known _ _ _ _ _ _ (gives.shown_history block name entry number sound same it) = refl

-- ---- a statement that is told a code

-- a code is due where 25P02 would be
due : (standing : Standing) (s : Statement) (code : SqlState) → (code ≡ states.S25P02 → (standing ≡ broken) ⊎ IsOwnCode s code) → IsDue standing (failed s code)
due standing s states.S25P02 h = h refl
due standing s _ h = tt

asked_in : (known : Knowledge) (block : Block) (s : Statement) (acts : List Act) (c : Call) (after : Block) (knows : Knowledge) → AsksNext known block s acts c after knows →
    standing_in after ≡ standing_in block
asked_in known _ _ _ _ _ _ (gives.look block s sound over) = refl
asked_in known _ _ _ _ _ _ (gives.begin s entry tables t over shows types) = refl
asked_in known _ _ _ _ _ _ (gives.cells block after knows s acts left is cells) = ran_in known block s acts after knows left is
asked_in known _ _ _ _ _ _ (gives.begin_block word) = refl
asked_in known _ _ _ _ _ _ (gives.define block create table sound is) = refl
asked_in known _ _ _ _ _ _ (gives.history block name sound same) = refl

lacks_in : (known : Knowledge) (block : Block) (s : Statement) (acts : List Act) (after : Block) (knows : Knowledge) → MayLack known block s acts after knows →
    standing_in after ≡ standing_in block
lacks_in known _ _ _ _ _ (gives.at_first block s sound takes) = refl
lacks_in known _ _ _ _ _ (gives.after_look block s entry tables sound over shows) = refl
lacks_in known _ _ _ _ _ (gives.after_call block after knows s acts c entry left within is) = ran_in known block s _ after knows left is
lacks_in known _ _ _ _ _ (gives.after_history block name entry number sound same it) = refl

refusal_due : (standing : Standing) (s : Statement) (why : BookFault) → IsDue standing (failed s (refusal_state why))
refusal_due standing s (faults.Full limit) = tt
refusal_due standing s faults.Memory = tt

-- the block in which it fails is the one in which it stands, and its code is due there
record IsCodeOf (block : Block) (s : Statement) (code : SqlState) (after : Block) : Type 0 where
  same : standing_in after ≡ standing_in block
  is_due : IsDue (standing_in block) (failed s code)

coded_in : (known : Knowledge) (block : Block) (s : Statement) (acts : List Act) (code : SqlState) (after : Block) (knows : Knowledge) →
    GivesCode known block s acts code after knows → IsCodeOf block s code after
coded_in known _ _ _ _ _ _ (gives.in_failed_block s goes) = record { same = refl; is_due = inl refl }
coded_in known _ _ _ _ _ _ (gives.untyped block s entry tables code sound over shows is) =
    record { same = refl; is_due = due (standing_in block) s code (λ _. inr (untyped (known.tables ++ tables) s code is)) }
coded_in known _ _ _ _ _ _ (gives.untyped_alone block s code sound alone is) =
    record { same = refl; is_due = due (standing_in block) s code (λ _. inr (untyped [] s code is)) }
coded_in known _ _ _ _ _ _ (gives.comes_to block after knows s acts code is) = record {
  same = ran_in known block s acts after knows _ is;
  is_due = due (standing_in block) s code (λ _. inr (comes_to known knows block after s acts code is));
}
coded_in known _ _ _ _ _ _ (gives.comes_to_alone block s t code sound alone types is) =
    record { same = refl; is_due = due (standing_in block) s code (λ _. inr (comes_to_alone s t code alone types is)) }
coded_in known _ _ _ _ _ _ (gives.unbuilt block create code sound is) =
    record { same = refl; is_due = due (standing_in block) (tree.Create create) code (λ _. inr (unbuilt create code is)) }
coded_in known _ _ _ _ _ _ (gives.name_taken block create table entry number sound is it) = record { same = refl; is_due = tt }
coded_in known _ _ _ _ _ _ (gives.no_level block name values sound same is) = record { same = refl; is_due = tt }
coded_in known _ _ _ _ _ _ (gives.not_set block name values sound other own) = record { same = refl; is_due = tt }
coded_in known _ _ _ _ _ _ (gives.not_shown block name sound other is) = record { same = refl; is_due = tt }
coded_in known _ _ _ _ _ _ (gives.declined block after knows s acts c entry why next it) =
    record { same = asked_in known block s acts c after knows next; is_due = refusal_due (standing_in block) s why }
coded_in known _ _ _ _ _ _ (gives.lacks block after knows s acts told may) = record { same = lacks_in known block s acts after knows may; is_due = tt }

-- ---- messages

-- what comes after is due where the session then stands
abbrev DueFrom : TransactionState → List Exchange → Type 0
DueFrom state later = AreDue (standing_at state) later

moved : (one other : Standing) (later : List Exchange) → one ≡ other → AreDue one later → AreDue other later
moved one other later same h = subst (λ (x : Standing). AreDue x later) same h

answered_due : (known : Knowledge) (block : Block) (xs : List Statement) (acts : List Act) (state : TransactionState) (knows : Knowledge) →
    (is : AreAnswered known block xs acts state knows) → (later : List Exchange) → DueFrom state later →
    AreDue (standing_in block) (exchanges_in known block xs acts state knows is ++ later)
answered_due _ _ _ _ _ _ (none known block acts state is) later h = moved (standing_at state) (standing_in block) later (finished_at block acts state is) h
answered_due _ _ _ _ _ _ (replied known knows at_end block after s xs acts more reply state is rest) later h = (
  tt,
  moved (standing_in after) (after_success (standing_in block) s) (exchanges_in knows after xs more state at_end rest ++ later)
      (replied_in known block s acts reply after knows is) (answered_due knows after xs more state at_end rest later h),
)
answered_due _ _ _ _ _ _ (refused known knows block after s xs acts undone code state is rolls) later h =
    let it = coded_in known block s acts code after knows is in (
      it.is_due,
      moved (standing_at state) (after_error (standing_in block)) later
          (rolled_at after undone state rolls ∙ ap (λ (x : Standing). after_error x) it.same) h,
    )

-- a message that is told an error before any statement
refused_due : (block : Block) (code : SqlState) (acts : List Act) (state : TransactionState) → IsRefused block code acts state → (later : List Exchange) → DueFrom state later →
    AreDue (standing_in block) (refused_message ∷ later)
refused_due block code acts state is later h =
    (tt, moved (standing_at state) (after_error (standing_in block)) later (rolled_at block is.0 state is.1) h)

message_due : (known : Knowledge) (block : Block) (message : Message) (acts : List Act) (state : TransactionState) (knows : Knowledge) →
    (is : IsAnswer known block message acts state knows) → (later : List Exchange) → DueFrom state later →
    AreDue (standing_in block) (exchanges_of_message known block message acts state knows is ++ later)
message_due known block (messages.Statements []) acts state knows is later h =
    moved (standing_at state) (standing_in block) later (finished_at block is.0 state is.1) h
message_due known block (messages.Statements (s ∷ more)) acts state knows is later h = answered_due known block (s ∷ more) acts state knows is later h
message_due known block (messages.Unread code) acts state knows is later h = refused_due block code acts state is.0 later h

-- ---- all of them

at_state : (state : TransactionState) (exchanges : List Exchange) → AreDue (standing_in (block_at state)) exchanges → DueFrom state exchanges
at_state state exchanges h = moved (standing_in (block_at state)) (standing_at state) exchanges (found_at state) h

abbrev BothDue : Requests → Type 0
BothDue requests =
    ((state : TransactionState) (known : Knowledge) (acts : List Act) (c : Converses (phases.Normal state) known requests acts)
    → DueFrom state (exchanges_of (phases.Normal state) known requests acts c))
    × ((state : TransactionState) (known : Knowledge) (acts : List Act) (c : Converses (phases.Discarding state) known requests acts)
    → DueFrom state (exchanges_of (phases.Discarding state) known requests acts c))

normal_due : (requests : Requests) → BothDue requests → (asked : Request) (state : TransactionState) (known : Knowledge) (acts : List Act)
    (c : Converses (phases.Normal state) known (asks asked requests) acts) → DueFrom state (exchanges_of (phases.Normal state) known (asks asked requests) acts c)
normal_due requests h (query message) state known acts c =
    at_state state (exchanges_of_message known (block_at state) message c.0 c.2 c.3 c.4 ++ exchanges_of (phases.Normal c.2) c.3 requests c.1 c.6)
    (message_due known (block_at state) message c.0 c.2 c.3 c.4 (exchanges_of (phases.Normal c.2) c.3 requests c.1 c.6) (h.0 c.2 c.3 c.1 c.6))
normal_due requests h unread_query state known acts c =
    at_state state (refused_message ∷ exchanges_of (phases.Normal c.3.2) c.3.3 requests c.3.1 c.3.6)
    (refused_due (block_at state) states.S53200 c.3.0 c.3.2 c.3.4.0 (exchanges_of (phases.Normal c.3.2) c.3.3 requests c.3.1 c.3.6)
    (h.0 c.3.2 c.3.3 c.3.1 c.3.6))
normal_due requests h sync state known acts c = h.0 state known c.0 c.2
normal_due requests h nothing state known acts c = h.0 state known acts c
normal_due requests h extended state known acts c =
    at_state state (refused_message ∷ exchanges_of (phases.Discarding c.2) known requests c.1 c.5)
    (refused_due (block_at state) states.S0A000 c.0 c.2 c.3 (exchanges_of (phases.Discarding c.2) known requests c.1 c.5) (h.1 c.2 known c.1 c.5))
normal_due requests h function state known acts c =
    at_state state (refused_message ∷ exchanges_of (phases.Normal c.2) c.3 requests c.1 c.6)
    (refused_due (block_at state) states.S0A000 c.0 c.2 c.4.0 (exchanges_of (phases.Normal c.2) c.3 requests c.1 c.6) (h.0 c.2 c.3 c.1 c.6))
normal_due requests h terminate state known acts c = tt
normal_due requests h encryption state known acts c = absurd c
normal_due requests h cancel state known acts c = absurd c
normal_due requests h start state known acts c = absurd c
normal_due requests h userless state known acts c = absurd c
normal_due requests h version state known acts c = absurd c

discarding_due : (requests : Requests) → BothDue requests → (asked : Request) (state : TransactionState) (known : Knowledge) (acts : List Act)
    (c : Converses (phases.Discarding state) known (asks asked requests) acts) → DueFrom state (exchanges_of (phases.Discarding state) known (asks asked requests) acts c)
discarding_due requests h terminate state known acts c = tt
discarding_due requests h sync state known acts c = h.0 state known c.0 c.2
discarding_due requests h _ state known acts c = h.1 state known acts c

both_due : (requests : Requests) → BothDue requests
both_due (asks asked requests) =
    let h : BothDue requests = both_due requests in
    (λ state known acts c. normal_due requests h asked state known acts c, λ state known acts c. discarding_due requests h asked state known acts c)
both_due (partial []) = (λ state known acts c. tt, λ state known acts c. tt)
both_due (partial (byte ∷ bytes)) = (λ state known acts c. absurd c, λ state known acts c. absurd c)
both_due (faulty fault) = (λ state known acts c. absurd c, λ state known acts c. absurd c)
both_due unread = (λ state known acts c. absurd c, λ state known acts c. absurd c)

from_start : (requests : Requests) (known : Knowledge) (acts : List Act) (c : Converses phases.Startup known requests acts) →
    AreDue outside (exchanges_of phases.Startup known requests acts c)
from_start (asks encryption requests) known acts c = from_start requests known c.0 c.2
from_start (asks start requests) known acts c = (both_due requests).0 ready.Idle known c.5.0 c.5.2
from_start (asks _ requests) known acts c = absurd c
from_start (partial []) known acts c = tt
from_start (partial (byte ∷ bytes)) known acts c = absurd c
from_start (faulty fault) known acts c = absurd c
from_start unread known acts c = absurd c

pub by_errors : BlocksFailByErrors
by_errors level requests acts c = from_start requests (at_start level) acts c
