use Rattle.std.proofs.Common.{ℕ, ◌+◌, ◌<◌, ◌≤◌, Some, take, refl, ap, sym, ◌∙◌, subst}
use Rattle.history_core.specs.Events.{begun}
use Rattle.history_core.specs.declared.event.Event.{Event}
use Rattle.history_core.specs.declared.event.Event.TheVariants.{Begin, Commit}
use Rattle.history_core.proofs.Numbers.{pending_positive}
use Rattle.history_summary.specs.Walk.{TakesCells}
use Rattle.history_summary.proofs.Begins.{running_still, running_begin, committing, no_begin}
use Rattle.history_summary.proofs.Commits.{latest_still, latest_commit}
use Rattle.history_summary.proofs.Prefixes.{pending_begun, pending_commits}
use Rattle.history_summary.proofs.Writers.{on_ok}
use Rattle.history_summary.proofs.walk.note.Goals as goal

pub take_cells-requires-clause-some : goal.take_cells-requires-clause-some
take_cells-requires-clause-some c =
    let is = c.requires.next ∙ ap (λ (e : Event). Some e) c.in-Commit.is in
    subst (λ (n : ℕ). 0 < n) (sym c.number_of-number.ensures)
    (pending_positive (take c.args.walk.now.counts.events c.args.history.now.events) _ c.in-Commit.session
    (committing c.args.history.now.initial c.args.history.now.events c.args.walk.now.counts.events c.in-Commit.session c.args.walk.now.running
    c.requires.countable.formed.formed is c.requires.walked.running))

pub take_cells-requires-clause-begun : goal.take_cells-requires-clause-begun
take_cells-requires-clause-begun c =
    let is = c.requires.next ∙ ap (λ (e : Event). Some e) c.in-Commit.is in
    subst (λ (n : ℕ). n ≤ begun c.args.history.now.events) (sym c.number_of-number.ensures)
    (pending_begun c.args.history.now.events c.args.walk.now.counts.events _ c.in-Commit.session
    (committing c.args.history.now.initial c.args.history.now.events c.args.walk.now.counts.events c.in-Commit.session c.args.walk.now.running
    c.requires.countable.formed.formed is c.requires.walked.running))

pub returns-in-Begin : goal.returns-in-Begin
returns-in-Begin c =
    let is = c.requires.next ∙ ap (λ (e : Event). Some e) c.in-Begin.is in
    on_ok _ _ c.set_number.result (λ sets. record {
      counts = refl;
      running = running_begin c.args.history.now.initial c.args.history.now.events c.args.walk.now.counts.events c.in-Begin.session
          (c.args.walk.now.counts.transactions + 1) c.in-Begin.level c.args.walk.now.running c.set_number.new.running c.requires.countable.formed.formed is
          (ap (λ (n : ℕ). n + 1) c.requires.walked.counts.transactions) sets c.requires.walked.running;
      latest = latest_still c.args.history.now.events c.args.walk.now.counts.events (Begin c.in-Begin.session c.in-Begin.level) c.args.walk.now.latest is (λ s same. cc)
          c.requires.walked.latest;
    }) c.set_number.ensures

pub returns-in-Commit : goal.returns-in-Commit
returns-in-Commit c =
    let is = c.requires.next ∙ ap (λ (e : Event). Some e) c.in-Commit.is in
    let pending = committing c.args.history.now.initial c.args.history.now.events c.args.walk.now.counts.events c.in-Commit.session c.args.walk.now.running
    c.requires.countable.formed.formed is c.requires.walked.running in
    on_ok _ _ c.take_cells.result (λ takes. record {
      counts = refl;
      running = running_still c.args.history.now.events c.args.walk.now.counts.events (Commit c.in-Commit.session) c.args.walk.now.running is refl c.requires.walked.running;
      latest = latest_commit c.args.history.now.initial c.args.history.now.events c.args.walk.now.counts.events _ c.in-Commit.session c.args.walk.now.latest
          c.take_cells.new.latest c.requires.countable.formed.formed
          (pending_commits c.args.history.now.events c.args.walk.now.counts.events _ c.in-Commit.session is pending)
          (subst (λ (n : ℕ). TakesCells c.args.history.now.events n c.args.walk.now.latest c.take_cells.new.latest) c.number_of-number.ensures takes)
          c.requires.walked.latest;
    }) c.take_cells.ensures

pub returns-in_default : goal.returns-in_default
returns-in_default c = record {
  counts = refl;
  running = running_still c.args.history.now.events c.args.walk.now.counts.events c.args.event.now c.args.walk.now.running c.requires.next
      (no_begin c.args.event.now c.in_default.not-Begin) c.requires.walked.running;
  latest = latest_still c.args.history.now.events c.args.walk.now.counts.events c.args.event.now c.args.walk.now.latest c.requires.next c.in_default.not-Commit
      c.requires.walked.latest;
}
