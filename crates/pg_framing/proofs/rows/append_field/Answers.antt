use Rattle.std.proofs.Common.{append_assoc, rules}
use Rattle.pg_framing.specs.Replies.{field_bytes}
use Rattle.pg_framing.proofs.rows.append_field.Goals as goal

pub returns : goal.returns
unfolding field_bytes
returns c = search (rules, append_assoc)
