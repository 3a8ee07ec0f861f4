use Rattle.sim_clients.proofs.Draws.{puts_more}
use Rattle.sim_clients.proofs.clients.put_queries.Goals as goal

pub loop-preserved : goal.loop-preserved
loop-preserved c =
    puts_more c.loop.counter c.args.words.now c.loop.words c.draw_query-query.new.words c.args.out.now.items c.loop.out.items
    c.put_query_message.new.out.items c.draw_query-query.result c.loop.invariant c.draw_query-query.ensures
    c.in_ok-put_query_message.ensures.bytes c.in_ok-put_query_message.ensures.few
