use Rattle.std.proofs.Common.{rules, arith, ◌≡◌, ℕ, List, drop, refl, ap, take, ◌∙◌}
use Rattle.session_core.proofs.Serving.{sits_kept}
use Rattle.session_hall.proofs.Turning.{turn_fed, turn_stopped}
use Rattle.session_hall.proofs.telling.hear.Goals as goal

cut_is : (n at m : ℕ) (items view : List ℕ) → view ≡ items → m ≡ n → take m (drop at view) ≡ take n (drop at items)
cut_is n at m items view same is =
    ap (λ (k : ℕ). take k (drop at view)) is ∙ ap (λ (x : List ℕ). take n (drop at x)) same

pub returns-then-left-eq0-clause-grows : goal.returns-then-left-eq0-clause-grows
returns-then-left-eq0-clause-grows c =
    turn_stopped c.args.seat.now _ (record { words = refl; stream = refl }) refl refl (search rules) c.requires.wanted c.stop.ensures.grown
    c.stop.ensures.runner (λ p sits. sits_kept c.args.seat.now.session c.stop.new.self p sits c.stop.ensures.owed c.stop.ensures.runner)
    c.stop.ensures.outer c.stop.ensures.lacks c.stop.ensures.last

pub returns-clause-grows : goal.returns-clause-grows
returns-clause-grows c =
    turn_fed c.args.seat.now _ c.min-n.result _ (cut_is c.min-n.result c.args.seat.now.at _ c.args.seat.now.stream.items _ c.deref.ensures.value (omega arith))
    (record { words = refl; stream = refl }) refl refl (search rules) (search rules) c.requires.wanted c.feed.ensures.grown
    c.feed.ensures.runner (λ p sits. sits_kept c.args.seat.now.session c.feed.new.self p sits c.feed.ensures.owed c.feed.ensures.runner)
    c.feed.ensures.outer c.feed.ensures.lacks
