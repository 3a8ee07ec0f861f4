-- The longest of the names has no zero byte, and the messages stand one after another.
use Rattle.std.proofs.Common.{codes, refl, append_assoc}
use Rattle.session_core.specs.Replies.{startup_reply}
use Rattle.session_core.proofs.Texts.{no_zero_by_test}
use Rattle.session_core.proofs.replies.startup.Goals as goal

pub append_parameter-requires-6-clause-name : goal.append_parameter-requires-6-clause-name
append_parameter-requires-6-clause-name c = no_zero_by_test (codes "standard_conforming_strings") refl

pub returns : goal.returns
unfolding startup_reply
returns c =
    rw (
      c.in_ok-append_ready_for_query.ensures.ok,
      c.in_ok-append_backend_key_data.ensures.ok,
      c.in_ok-append_parameter-6.ensures.ok,
      c.in_ok-append_parameter-5.ensures.ok,
      c.in_ok-append_parameter-4.ensures.ok,
      c.in_ok-append_parameter-3.ensures.ok,
      c.in_ok-append_parameter-2.ensures.ok,
      c.in_ok-append_parameter.ensures.ok,
      c.in_ok-append_authentication_ok.ensures.ok,
      c.new-reply.ensures.items,
    ) (simp append_assoc)
