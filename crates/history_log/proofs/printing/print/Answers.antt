use Rattle.std.proofs.Common.{◌∙◌, ap, List, ℕ, [], ◌∷◌, ◌++◌, map, sym}
use Rattle.history_log.specs.declared.version.Version.TheVariants.{Two}
use Rattle.history_log.specs.Log.{newest}
use Rattle.history_log.specs.Spelling.{head_line, initial_line, event_line, order_line, end_line, whole_lines}
use Rattle.history_log.proofs.Said.{initial_says, events_say, said_initial}
use Rattle.history_log.proofs.Written.{whole_text, newest_lines, head_at}
use Rattle.history_log.proofs.printing.print.Goals as goal

pub returns-clause-text : goal.returns-clause-text
returns-clause-text c =
    whole_text (head_line (newest c.args.initial.now) c.args.level) (map initial_line c.args.initial.now) (map (event_line Two) c.args.events.now) (order_line c.args.order.now)
    c.put_head.new.out.items c.put_initial.new.out.items c.put_events.new.out.items c.put_order.new.out.items c.put.new.out.items
    (head_at _ _ _ _ _ c.new-out.ensures.items c.newest.ensures c.in_ok-put_head.ensures)
    c.in_ok-put_initial.ensures.text c.in_ok-put_events.ensures.text c.in_ok-put_order.ensures.text c.in_ok-put.ensures
    ∙ ap (λ (es : List (List ℕ)). whole_lines (head_line (newest c.args.initial.now) c.args.level ∷ (map initial_line c.args.initial.now ++ (es ++ (order_line c.args.order.now ∷ end_line ∷ [])))))
    (sym (newest_lines c.args.initial.now c.args.events.now))

pub returns-clause-log : goal.returns-clause-log
returns-clause-log c = (
  λ state. record {
    says = record {
      initial = initial_says c.args.initial.now state c.in_ok-put_initial.ensures.fits;
      events = events_say c.args.initial.now c.args.level c.args.events.now c.in_ok-put_events.ensures.fits;
      order = c.in_ok-put_order.ensures.fits;
    };
    text =
        whole_text (head_line (newest c.args.initial.now) c.args.level) (map initial_line c.args.initial.now) (map (event_line Two) c.args.events.now) (order_line c.args.order.now)
        c.put_head.new.out.items c.put_initial.new.out.items c.put_events.new.out.items c.put_order.new.out.items c.put.new.out.items
        (head_at _ _ _ _ _ c.new-out.ensures.items c.newest.ensures c.in_ok-put_head.ensures)
        c.in_ok-put_initial.ensures.text c.in_ok-put_events.ensures.text c.in_ok-put_order.ensures.text c.in_ok-put.ensures
        ∙ ap (λ (es : List (List ℕ)). whole_lines (head_line (newest c.args.initial.now) c.args.level ∷ (map initial_line c.args.initial.now ++ (es ++ (order_line c.args.order.now ∷ end_line ∷ [])))))
        (sym (newest_lines c.args.initial.now c.args.events.now));
  },
  λ log. said_initial c.args.initial.now log.says.initial,
)
