-- The statements of a query message one after another.
use Rattle.std.proofs.Common.{◌≡◌, ℕ, Bool, true, false, List, [], ◌∷◌, length, refl, sym, ◌∙◌, ap, subst}
use Rattle.cell_base.specs.declared.sql_state.SqlState.{SqlState}
use Rattle.pg_framing.specs.declared.replies.TransactionState.{TransactionState}
use Rattle.sql_tree.specs.declared.statement.Statement.{Statement}
use Rattle.outcome_replies.specs.declared.description.RowDescription.TheVariants as described
use Rattle.block_machine.specs.declared.block.Block.{Block}
use Rattle.block_machine.specs.declared.block.Owed.TheVariants as owes
use Rattle.block_machine.specs.declared.call.Answer.{Answer}
use Rattle.block_machine.specs.declared.ending.ReadyForQuery.{ReadyForQuery}
use Rattle.block_machine.specs.declared.ending.ReadyForQuery.TheVariants as told
use Rattle.block_machine.specs.declared.message.Message.{Message}
use Rattle.block_machine.specs.declared.message.Message.TheVariants as messages
use Rattle.block_machine.specs.declared.stage.ErrorState.TheVariants as errors
use Rattle.block_machine.specs.declared.stage.MessageStage.{MessageStage}
use Rattle.block_machine.specs.declared.stage.MessageStage.TheVariants as stages
use Rattle.block_machine.specs.Knowledge.{Knowledge}
use Rattle.block_machine.specs.Replies.{empty_reply}
use Rattle.block_machine.specs.Script.{Said, Entry}
use Rattle.block_machine.specs.Statements.{Around, fails, succeeds, told_of}
use Rattle.block_machine.specs.Messages.{Outside, before, block_at, finishes, message, opens, statements}
use Rattle.block_machine.specs.Stages.{IsAtRest, IsBetween, FitsWant, IsBusy, IsDriven, IsFrom, LeadsTo, TurnsTo, goes_on, resumes, block_in, is_skipping, least, owed_at, wants, with_short, work_at}

pub least_busy : (stage : MessageStage) → IsBusy stage → least stage ≡ 1
least_busy (stages.Over state) h = absurd h
least_busy _ h = refl

pub from_busy : (stage : MessageStage) (sent : ℕ) (es : List Entry) → IsBusy stage → IsFrom 1 sent es → IsFrom (least stage) sent es
from_busy stage sent es busy from = subst (λ (k : ℕ). IsFrom k sent es) (sym (least_busy stage busy)) from

pub busy_from : (stage : MessageStage) (sent : ℕ) (es : List Entry) → IsBusy stage → IsFrom (least stage) sent es → IsFrom 1 sent es
busy_from stage sent es busy from = subst (λ (k : ℕ). IsFrom k sent es) (least_busy stage busy) from

-- what is under way is driven
pub busy_driven : (stage : MessageStage) → IsBusy stage → IsDriven stage
busy_driven (stages.Over state) h = refl
busy_driven (stages.Resting block) h = absurd h
busy_driven (stages.Skipping state) h = absurd h
busy_driven (stages.Refreshing block) h = absurd h
busy_driven (stages.Finishing told.Omitted) h = absurd h
busy_driven (stages.Finishing told.Told) h = refl
busy_driven _ h = refl

-- the end of a message that is told
pub finishing_busy : (ready : ReadyForQuery) → ready ≡ told.Told → IsBusy (stages.Finishing ready)
finishing_busy told.Told h = tt
finishing_busy told.Omitted h = absurd (cc h)

pub busy_finishing : (ready : ReadyForQuery) → IsBusy (stages.Finishing ready) → ready ≡ told.Told
busy_finishing told.Told h = refl
busy_finishing told.Omitted h = absurd h

-- what is driven and isn't over is under way
pub driven_busy : (stage : MessageStage) → ((state : TransactionState) → stage ≡ stages.Over state → ⊥) → IsDriven stage → IsBusy stage
driven_busy (stages.Over state) other driven = absurd (other state refl)
driven_busy (stages.Resting block) other driven = absurd (cc driven)
driven_busy (stages.Skipping state) other driven = absurd (cc driven)
driven_busy (stages.Refreshing block) other driven = absurd (cc driven)
driven_busy (stages.Finishing told.Omitted) other driven = absurd (cc driven)
driven_busy (stages.Finishing told.Told) other driven = tt
driven_busy _ other driven = tt

-- what is at rest and isn't over is between two statements
pub between_rest : (stage : MessageStage) → ((state : TransactionState) → stage ≡ stages.Over state → ⊥) → IsAtRest stage → IsBetween stage
between_rest (stages.Over state) other rest = absurd (other state refl)
between_rest (stages.Resting block) other rest = tt
between_rest (stages.Skipping state) other rest = tt
between_rest _ other rest = absurd rest

not_over : (stage : MessageStage) (known : Knowledge) (answer : Answer) (state : TransactionState) → FitsWant (wants stage known) answer → stage ≡ stages.Over state → ⊥
not_over stage known answer state fits over = subst (λ (s : MessageStage). FitsWant (wants s known) answer) over fits

-- and so is what asks a call
pub asked_busy : (stage : MessageStage) (known : Knowledge) (answer : Answer) → IsDriven stage → FitsWant (wants stage known) answer → IsBusy stage
asked_busy stage known answer driven fits = driven_busy stage (λ state over. not_over stage known answer state fits over) driven

-- ---- the next statement

pub turns_more : (s : Statement) (all more : List Statement) (block : Block) (known after : Knowledge) (next : MessageStage) (w : Bool) (built : List ℕ) → all ≡ s ∷ more → IsBusy next →
    LeadsTo (told_of described.Told s block known) next w built after → TurnsTo (statements all block known) next w built after more
turns_more s all more block known after next w built is busy goes outside said es from =
    ap (λ (xs : List Statement). statements xs block known outside said (with_short w said.bytes es)) is
    ∙ goes (before more outside) outside said es (busy_from next (length said.bytes) es busy from)

-- the end of a message
pub turns_end : (all more : List Statement) (block : Block) (known after : Knowledge) (next : MessageStage) (built : List ℕ) → all ≡ [] →
    ((around : Around) (outside : Outside) (said : Said) (es : List Entry) → finishes told.Told block known outside said es ≡ resumes next built after around outside said es) →
    TurnsTo (statements all block known) next false built after more
turns_end all more block known after next built is goes outside said es from =
    ap (λ (xs : List Statement). statements xs block known outside said es) is ∙ goes (before more outside) outside said es

-- ---- the beginning of a message

pub opens_more : (s : Statement) (all more : List Statement) (block : Block) (known after : Knowledge) (next : MessageStage) (w : Bool) (built : List ℕ) → all ≡ s ∷ more → IsBusy next →
    LeadsTo (told_of described.Told s block known) next w built after → TurnsTo (opens all block known) next w built after more
opens_more s all more block known after next w built is busy goes outside said es from =
    ap (λ (xs : List Statement). opens xs block known outside said (with_short w said.bytes es)) is
    ∙ goes (before more outside) outside said es (busy_from next (length said.bytes) es busy from)

pub opens_none : (all more : List Statement) (block : Block) (known after : Knowledge) (next : MessageStage) (built : List ℕ) → all ≡ [] → more ≡ [] →
    ((around : Around) (outside : Outside) (said : Said) (es : List Entry) → succeeds empty_reply block known around said es ≡ resumes next built after around outside said es) →
    TurnsTo (opens all block known) next false built after more
opens_none all more block known after next built is none goes outside said es from =
    ap (λ (xs : List Statement). opens xs block known outside said es) is ∙ goes (before [] outside) outside said es
    ∙ ap (λ (xs : List Statement). goes_on next built after xs outside said es) (sym none)

-- a message whose statements these are
pub begins_with : (asked items : List Statement) (m : Message) (state : TransactionState) (stage : MessageStage) (mid old after : Knowledge) (next : MessageStage) (w : Bool) (built : List ℕ)
    (more : List Statement) → m ≡ messages.Statements asked → items ≡ asked → stage ≡ stages.Over state → mid ≡ old →
    TurnsTo (opens items (block_in stage) mid) next w built after more → TurnsTo (message m state old) next w built after more
begins_with asked items m state stage mid old after next w built more is items_are over same goes =
    subst (λ (x : Message). TurnsTo (message x state old) next w built after more) (sym is)
    (subst (λ (xs : List Statement). TurnsTo (opens xs (block_at state) old) next w built after more) items_are
    (subst (λ (s : MessageStage). TurnsTo (opens items (block_in s) old) next w built after more) over
    (subst (λ (k : Knowledge). TurnsTo (opens items (block_in stage) k) next w built after more) same goes)))

-- a message that can't be read
pub refuses : (code : SqlState) (state : TransactionState) (stage : MessageStage) (mid old after : Knowledge) (rest : List Statement) (next : MessageStage) (built : List ℕ) →
    stage ≡ stages.Over state → mid ≡ old → rest ≡ [] →
    ((around : Around) (outside : Outside) (said : Said) (es : List Entry) → fails code (block_in stage) mid around said es ≡ resumes next built after around outside said es) →
    (outside : Outside) (said : Said) (es : List Entry) → message (messages.Unread code) state old outside said es ≡ goes_on next built after rest outside said es
refuses code state stage mid old after rest next built over same none goes outside said es =
    ap (λ (k : Knowledge). fails code (block_at state) k (before [] outside) said es) (sym same)
    ∙ ap (λ (s : MessageStage). fails code (block_in s) mid (before [] outside) said es) (sym over)
    ∙ goes (before [] outside) outside said es
    ∙ ap (λ (xs : List Statement). goes_on next built after xs outside said es) (sym none)

-- ---- after a statement

-- one that failed
pub skips : (stage : MessageStage) (built : List ℕ) (known : Knowledge) (more : List Statement) (outside : Outside) (said : Said) (es : List Entry) → is_skipping stage ≡ true →
    goes_on stage built known more outside said es ≡ finishes told.Told (block_in stage) known outside said es
skips (stages.Skipping errors.Idle) built known more outside said es h = refl
skips (stages.Skipping errors.Failed) built known more outside said es h = refl
skips (stages.Resting block) built known more outside said es h = absurd (cc h)
skips (stages.Over state) built known more outside said es h = absurd (cc h)
skips (stages.Defining table block) built known more outside said es h = absurd (cc h)
skips (stages.Looking statement description block) built known more outside said es h = absurd (cc h)
skips (stages.Refreshing block) built known more outside said es h = absurd (cc h)
skips (stages.Beginning plan description) built known more outside said es h = absurd (cc h)
skips (stages.Running run p) built known more outside said es h = absurd (cc h)
skips (stages.Starting words) built known more outside said es h = absurd (cc h)
skips (stages.Showing description block) built known more outside said es h = absurd (cc h)
skips (stages.Committing reply) built known more outside said es h = absurd (cc h)
skips (stages.RollingBack reply) built known more outside said es h = absurd (cc h)
skips (stages.Telling reply block) built known more outside said es h = absurd (cc h)
skips (stages.Undoing code p) built known more outside said es h = absurd (cc h)
skips (stages.Failing code state) built known more outside said es h = absurd (cc h)
skips (stages.Finishing ready) built known more outside said es h = absurd (cc h)
skips (stages.Readying state) built known more outside said es h = absurd (cc h)

-- one that succeeded
pub rests : (stage : MessageStage) (built : List ℕ) (known : Knowledge) (more : List Statement) (outside : Outside) (said : Said) (es : List Entry) → IsBetween stage → is_skipping stage ≡ false →
    goes_on stage built known more outside said es ≡ statements more (block_in stage) known outside said es
rests (stages.Resting block) built known more outside said es b h = refl
rests (stages.Skipping state) built known more outside said es b h = absurd (cc h)
rests _ built known more outside said es b h = absurd b

pub skipping_work : (stage : MessageStage) → IsBetween stage → is_skipping stage ≡ true → work_at stage ≡ 1
skipping_work (stages.Skipping state) b h = refl
skipping_work (stages.Resting block) b h = absurd (cc h)
skipping_work _ b h = absurd b

pub resting_work : (stage : MessageStage) → IsBetween stage → is_skipping stage ≡ false → work_at stage ≡ 2
resting_work (stages.Skipping state) b h = absurd (cc h)
resting_work (stages.Resting block) b h = refl
resting_work _ b h = absurd b

pub skipping_owed : (stage : MessageStage) → IsBetween stage → is_skipping stage ≡ true → owed_at stage ≡ owes.Close
skipping_owed (stages.Skipping state) b h = refl
skipping_owed (stages.Resting block) b h = absurd (cc h)
skipping_owed _ b h = absurd b
