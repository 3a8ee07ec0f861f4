use Rattle.std.proofs.Common.{ℕ, [], ◌∷◌, ◌+◌, length, ◌∙◌, ap}
use Rattle.std.proofs.lemmas.List.{length-append}
use Rattle.choice_stream.specs.Seeds.{stream_front}
use Rattle.sim_clients.proofs.Draws.{draws_more}
use Rattle.sim_clients.proofs.clients.first_words.Goals as goal

pub loop-preserved : goal.loop-preserved
loop-preserved c = record {
  draws = rw c.in_ok-push.ensures.items
      (draws_more (stream_front c.args.seed c.args.stream) c.loop.generator c.next.new.self c.loop.words.items c.next.result c.loop.invariant.draws c.next.ensures);
  count = ap length c.in_ok-push.ensures.items ∙ length-append c.loop.words.items (c.next.result ∷ []) ∙ ap (λ (n : ℕ). n + 1) c.loop.invariant.count;
}
