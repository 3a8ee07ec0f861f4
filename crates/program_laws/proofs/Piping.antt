-- What `pipe` answers where no fault is counted.
use Rattle.std.proofs.Common.{◌≡◌, ◌⊎◌, inl, inr, Bool, true, false, ℕ, List, [], Option, Some, arith, refl, sym, ◌∙◌, ap, subst}
use Rattle.std.specs.Prelude.{IfSome}
use Rattle.std.proofs.lemmas.Option.{none-some}
use Rattle.cell_base.specs.declared.cell.Cell.{Cell}
use Rattle.cell_base.specs.declared.level.Level.{Level}
use Rattle.cell_base.specs.declared.value.Value.{Value}
use Rattle.link_traits.specs.Faults.{Rose, counted}
use Rattle.link_traits.specs.Traffic.{Sight}
use Rattle.link_traits.specs.Host.{Hosted}
use Rattle.history_core.specs.declared.event.Event.{Event}
use Rattle.history_core.specs.declared.event.Event.TheVariants.{Open}
use Rattle.history_core.specs.declared.fault.Limit.{Limit}
use Rattle.history_core.specs.Legal.{full_for}
use Rattle.block_machine.specs.declared.end.End.{End}
use Rattle.block_machine.specs.declared.end.End.TheVariants as ends
use Rattle.session_core.specs.declared.served.Served.{Served}
use Rattle.session_core.specs.Record.{events_of}
use Rattle.session_core.specs.Serve.{scene_of}
use Rattle.choice_stream.specs.Choices.{DrawsFirst}
use Rattle.command_line.specs.declared.pipe.PipeCommand.{PipeCommand}
use Rattle.command_line.specs.declared.reading.CommandLine.{CommandLine}
use Rattle.command_line.specs.declared.reading.CommandLine.TheVariants as lines
use Rattle.command_line.proofs.OneCommand.{one_command}
use Rattle.monkey_server.specs.Program.{no_past, ServesAlone, status_of, Linkless, Pipes, Obeys, Does}
use Rattle.session_laws.specs.Streams.{IsLast, IsWholeStream}
use Rattle.session_laws.specs.Sessions.{IsUndisturbed, IsTurnedAway}
use Rattle.session_laws.proofs.Complete.{complete}
use Rattle.program_laws.specs.Programs.{PipedAreComplete, PipesUndisturbed, PipesAreComplete}

-- ---- a new history has room for a session

new_has_room : (limit : Limit) → full_for [] [] (Open 0) ≡ Some limit → ⊥
new_has_room limit is = none-some limit is

never_turned : (level : Level) (words : List ℕ) (given : Sight) (outcome : Served) (returned : Sight) (alone : ServesAlone level words given outcome returned) →
    IsTurnedAway alone.past alone.account → ⊥
never_turned level words given outcome returned alone turned =
    let none : alone.past.seen.events ≡ [] = alone.events ∙ ap events_of turned.entries in
    new_has_room turned.limit
    (subst (λ (es : List Event). full_for [] es (Open 0) ≡ Some turned.limit) none
    (subst (λ (rows : List (Cell × Value)). full_for rows alone.past.seen.events (Open 0) ≡ Some turned.limit) alone.initial turned.full))

-- ---- the status

-- an end that a client has in mind gives status 0, but where memory ran out
good_status : (end : End) (rest : List ℕ) → IsLast end rest → (short : Bool) → (status_of end short ≡ 0) ⊎ (status_of end short ≡ 5)
good_status ends.Terminated rest is true = inr refl
good_status ends.Terminated rest is false = inl refl
good_status ends.Closed rest is true = inr refl
good_status ends.Closed rest is false = inl refl
good_status _ rest is short = absurd is

memory_status : (short : Bool) → status_of ends.Memory short ≡ 5
memory_status true = refl
memory_status false = refl

pub piped_complete : PipedAreComplete
piped_complete level words before code after end bytes p w undisturbed =
    let s = p.serves.serves in
    let all = complete DrawsFirst level (scene_of (no_past level) words p.given) p.outcome (scene_of p.serves.past p.serves.rest p.returned) p.serves.account s end bytes w undisturbed in (
      all.0,
      elim all.1 [
        | inl well ↦ elim (good_status end w.rest w.last p.outcome.short) [
          | inl zero ↦ inl (p.code_is ∙ (ap (λ (e : End). status_of e p.outcome.short) well.0 ∙ zero), well.0)
          | inr five ↦ inr (p.code_is ∙ (ap (λ (e : End). status_of e p.outcome.short) well.0 ∙ five))
        ]
        | inr other ↦ elim other [
          | inl lacks ↦ inr (p.code_is ∙ (ap (λ (e : End). status_of e p.outcome.short) lacks.0 ∙ memory_status p.outcome.short))
          | inr turned ↦ absurd (never_turned level words p.given p.outcome p.returned p.serves turned.1)
        ]
      ],
    )

-- ---- the program

-- the link that was handed out is the one that was told beforehand
given_is : (told : Option Sight) (given next : Sight) → told ≡ Some next → IfSome told (λ (s : Sight). given ≡ s) → given ≡ next
given_is told given next is same = subst (λ (o : Option Sight). IfSome o (λ (s : Sight). given ≡ s)) is same

no_link : (level : Level) (words : List ℕ) (before after : Hosted) (code : ℕ) → ¬ (Rose before.faults.link after.faults.link) → Linkless before code after → ⊥
no_link level words before after code gives linkless =
    let same : after.faults.link ≡ counted before.faults.link = ap (λ (h : Hosted). h.faults.link) linkless.1 in
    gives (omega (arith, same))

of_pipes : (level : Level) (words : List ℕ) (before after : Hosted) (code : ℕ) (next : Sight) (end : End) (bytes : List ℕ) → before.next_link ≡ Some next →
    IsWholeStream end bytes → PipesUndisturbed bytes next before after → Pipes level words before code after → (code ≡ 0) ⊎ (code ≡ 5)
of_pipes level words before after code next end bytes next_is w undisturbed (inl piped) =
    let same : piped.given ≡ next = given_is before.next_link piped.given next next_is piped.told in
    let quiet : IsUndisturbed bytes next piped.returned = undisturbed.link piped.returned (ap (λ (h : Hosted). h.back) piped.after_is) in
    let all = piped_complete level words before code after end bytes piped w (subst (λ (s : Sight). IsUndisturbed bytes s piped.returned) (sym same) quiet) in
    elim all.1 [ inl zero ↦ inl zero.0 | inr five ↦ inr five ]
of_pipes level words before after code next end bytes next_is w undisturbed (inr (inl linkless)) =
    absurd (no_link level words before after code undisturbed.gives linkless)
of_pipes level words before after code next end bytes next_is w undisturbed (inr (inr untouched)) = inr untouched.0

pub pipes_complete : PipesAreComplete
pipes_complete args level words network left before code after next end bytes pipe does next_is w undisturbed = go does
  where
    go : Does args network before code left after → (code ≡ 0) ⊎ (code ≡ 5)
    go (inl (line, line_is, obeys)) =
        let said : PipeCommand = record { level = level; words = words } in
        let same : line ≡ lines.Pipe said = one_command args line (lines.Pipe said) line_is pipe in
        of_pipes level words before after code next end bytes next_is w undisturbed
        (subst (λ (l : CommandLine). Obeys l network before code left after) same obeys).0
    go (inr untouched) = inr untouched.0.0
