-- The steps of statements as they begin.
use Rattle.std.proofs.Common.{◌≡◌, ℕ, Bool, List, refl, sym, ◌∙◌, ap, subst, Option, Some, Result, Ok, Err, IfOk}
use Rattle.std.specs.Fmt.{decimal}
use Rattle.cell_base.specs.declared.memory.Memory.{Memory}
use Rattle.sql_tree.specs.declared.statement.Statement.{Statement}
use Rattle.outcome_replies.specs.declared.description.RowDescription.{RowDescription}
use Rattle.block_machine.specs.Calls.{Call}
use Rattle.block_machine.specs.Calls as calls
use Rattle.block_machine.specs.declared.block.Block.{Block}
use Rattle.block_machine.specs.declared.call.Answer.TheVariants as answers
use Rattle.block_machine.specs.declared.stage.MessageStage.{MessageStage}
use Rattle.block_machine.specs.declared.stage.MessageStage.TheVariants as stages
use Rattle.block_machine.specs.Knowledge.{Knowledge}
use Rattle.block_machine.specs.Script.{Script, Said, Entry, with_call}
use Rattle.block_machine.specs.Replies.{show_reply}
use Rattle.block_machine.specs.Settings.{history_name}
use Rattle.block_machine.specs.Statements.{Around, unless_short_in, succeeds, prepares, looks, shows_value, performs}
use Rattle.block_machine.specs.Stages.{IsScriptAt, IsScriptOf, LeadsTo, Advances, resumes, with_short}
use Rattle.block_machine.proofs.OutOfMemory.{ok_at}

-- a statement that looks at the tables
pub leads_kept : (description : RowDescription) (statement : Statement) (block : Block) (known after : Knowledge) (next : MessageStage) (w : Bool) (built : List ℕ) → after ≡ known →
    ((it : Knowledge) (around : Around) (said : Said) (es : List Entry) → performs description statement block it around said es ≡ prepares description statement block it around said es) →
    LeadsTo (λ around. unless_short_in block known around (looks description statement block known around)) next w built known →
    LeadsTo (performs description statement block known) next w built after
leads_kept description statement block known after next w built same looked goes =
    subst (λ (x : Knowledge). LeadsTo (performs description statement block known) next w built x) (sym same)
    (λ around outside said es from. looked known around said (with_short w said.bytes es) ∙ goes around outside said es from)

-- ---- the number of events of the history

show_is : (c : Call) → calls.Book calls.Show ≡ calls.Book c → calls.Show ≡ c
show_is c h = cc h

pub show_advances : (n : ℕ) (description : RowDescription) (block : Block) (next : MessageStage) (w : Bool) (built : List ℕ) (known : Knowledge) →
    LeadsTo (λ around. unless_short_in block known around (succeeds (show_reply description history_name (decimal n)) block known around)) next w built known →
    Advances (stages.Showing description block) known (answers.Shown n) next w built known
show_advances n description block next w built known goes c unbuilt around outside said es e wants_c from =
    goes around outside (with_call said calls.Show) es from
    ∙ ap (λ (x : Call). resumes next built known around outside (with_call said x) es) (show_is c wants_c)

-- ---- a stage that keeps its statement

kept_script : (description : RowDescription) (statement : Statement) (block : Block) (stage : MessageStage) (built : List ℕ) (known : Knowledge) → stage ≡ stages.Looking statement description block → IsScriptAt (looks description statement block known) stage built known
kept_script description statement block stage built known is =
    subst (λ (x : MessageStage). IsScriptAt (looks description statement block known) x built known) (sym is) (λ around outside said es. refl)

pub kept_at : (description : RowDescription) (statement : Statement) (block : Block) (r : Result MessageStage Memory) (built : List ℕ) (known : Knowledge) → IfOk r (λ stage. stage ≡ stages.Looking statement description block) →
    IfOk r (λ stage. IsScriptAt (looks description statement block known) stage built known)
kept_at description statement block (Ok stage) built known is = kept_script description statement block stage built known is
kept_at description statement block (Err e) built known is = is

-- a setting that is known
pub leads_value : (description : RowDescription) (name value : List ℕ) (found : Option (List ℕ)) (block : Block) (r : Result MessageStage Memory) (next : MessageStage) (w : Bool) (built : List ℕ) → found ≡ Some value →
    IfOk r (λ stage. IsScriptOf (succeeds (show_reply description name value) block) stage built) →
    ((script : Around → Script) (bytes : List ℕ) (other : Knowledge) → IfOk r (λ it. IsScriptAt script it bytes other) →
    LeadsTo (λ around. unless_short_in block other around (script around)) next w bytes other) →
    (known : Knowledge) → LeadsTo (shows_value description name found block known) next w built known
leads_value description name value found block r next w built is goes leads known =
    subst (λ (x : Option (List ℕ)). LeadsTo (shows_value description name x block known) next w built known) (sym is)
    (leads (succeeds (show_reply description name value) block known) built known (ok_at r (succeeds (show_reply description name value) block) built known goes))
