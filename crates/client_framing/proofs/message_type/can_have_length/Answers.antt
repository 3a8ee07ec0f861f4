use Rattle.client_framing.proofs.Types.{query_length, bare_length, free_length}
use Rattle.client_framing.proofs.message_type.can_have_length.Goals as goal

pub returns-in-Query : goal.returns-in-Query
returns-in-Query c = query_length c.args.kind c.args.len c.in-Query.is

pub returns-in-Terminate : goal.returns-in-Terminate
returns-in-Terminate c = bare_length c.args.kind c.args.len c.in-Terminate.is

pub returns-in-Extended : goal.returns-in-Extended
returns-in-Extended c = free_length c.args.kind c.args.len c.in-Extended.is
