use Rattle.std.proofs.Common.{◌≡◌, ℕ, ◌+◌, sym, ◌∙◌, subst, arith, ap}
use Rattle.std.proofs.lemmas.Option.{slice_get_within}
use Rattle.history_summary.specs.declared.counts.Counts.{Counts}
use Rattle.history_summary.specs.Walk.{CountsNext, AreCountsBelow, AreRunning, AreLatest, is_weak}
use Rattle.history_summary.proofs.Counted.{counts_next}
use Rattle.history_summary.proofs.walk.pass.Goals as goal

pub returns : goal.returns
returns c =
    let noted = c.in_ok-note.ensures in
    let next : c.count.new.counts.events ≡ c.args.walk.now.counts.events + 1 = c.count.ensures.events ∙ ap (λ (n : Counts). n.events + 1) noted.counts in
    let within = slice_get_within c.args.history.now.events c.args.walk.now.counts.events c.args.event.now c.requires.next in
    record {
      walked = record {
        within = omega arith;
        counts = subst (λ (n : ℕ). AreCountsBelow c.args.history.now.events n c.count.new.counts) (sym next)
            (counts_next c.args.history.now c.args.walk.now.counts.events c.args.event.now c.args.walk.now.latest (is_weak c.weakness_of-weakness.result) c.args.walk.now.counts
            c.count.new.counts c.requires.countable c.requires.next c.requires.walked.latest c.weakness_of-weakness.ensures
            (subst (λ (n : Counts). CountsNext n c.args.event.now (is_weak c.weakness_of-weakness.result) c.count.new.counts) noted.counts c.count.ensures)
            c.requires.walked.counts);
        running = subst (λ (n : ℕ). AreRunning c.args.history.now.events n c.note.new.walk.running) (sym next) noted.running;
        latest = subst (λ (n : ℕ). AreLatest c.args.history.now.events n c.note.new.walk.latest) (sym next) noted.latest;
      };
      next = next;
    }
