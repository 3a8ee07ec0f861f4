-- How many free calls the bytes of a client allow.
use Rattle.std.proofs.Common.{◌≡◌, ◌≤◌, ◌+◌, ◌*◌, Bool, true, false, ℕ, List, ◌∷◌, ◌++◌, length, ap, ◌∙◌, arith, nat_le, length-append}
use Rattle.std.proofs.lemmas.Bool.Decides.{nat_tests}
use Rattle.client_framing.specs.declared.frontend_message.FrontendMessage.{FrontendMessage}
use Rattle.client_framing.specs.declared.frontend_message.FrontendMessage.TheVariants.{Query}
use Rattle.client_framing.specs.Spelling.{IsSpelling, phase_after}
use Rattle.sql_tree.specs.declared.statement.Statement.{Statement}
use Rattle.sql_grammar.specs.Statements.{message}
use Rattle.sql_grammar.specs.Limited.{IsLimited}
use Rattle.sql_grammar.specs.declared.mark.Mark.{Mark}
use Rattle.block_machine.specs.Messages.{IsMessage, no_text, faulty, reads}
use Rattle.block_machine.specs.declared.message.Message.{Message}
use Rattle.session_core.specs.Requests.{Request, query, Says, Requests, asks, AreRequests}
use Rattle.session_core.specs.Requests as heard
use Rattle.program_laws.specs.Free.{statements_in, most_for, most_free}

-- a query has at most 256 statements
limited : (marks : List Mark) (list : List Statement) → IsLimited marks list → length list ≤ 256
unfolding message
limited marks list is = let passes : nat_le (length list) 256 ≡ true = is.passes in grind (arith, nat_tests, passes)

message_few : (text : List ℕ) (asked : Message) → IsMessage text asked → statements_in asked ≤ 256
message_few text asked (no_text bad) = omega arith
message_few text asked (faulty fault utf8 has) = omega arith
message_few text asked (reads list utf8 are) = limited _ list are.limited

query_few : (front : FrontendMessage) (asked : Message) → Says front (query asked) → statements_in asked ≤ 256
query_few (Query text) asked says = message_few text asked says
query_few front asked says = absurd says

request_few : (front : FrontendMessage) (asked : Request) → Says front asked → most_for asked ≤ 515
request_few front (query message) says = omega (arith, query_few front message says)
request_few front asked says = omega arith

-- a message takes a byte
spelled_some : (started : Bool) (front : FrontendMessage) (taken : List ℕ) → IsSpelling started front taken → 1 ≤ length taken
spelled_some true front taken is =
    let size : length taken ≡ length (is.kind ∷ (is.size ++ is.body)) = ap length is.whole in omega (arith, size)
spelled_some false front taken is =
    let size : length taken ≡ length is.size + length (is.code ++ is.body) = ap length is.whole ∙ length-append is.size (is.code ++ is.body) in
    omega (arith, size, is.size_is.0)

pub heard_few : (requests : Requests) (started : Bool) (bytes : List ℕ) → AreRequests started bytes requests → most_free requests ≤ 2 + 515 * length bytes
heard_few (asks asked requests) started bytes are =
    let takes = are.2 in
    let rest = heard_few requests (phase_after started are.0) are.1 are.4 in
    let first = request_few are.0 asked are.3 in
    let some = spelled_some started are.0 takes.taken takes.spelled in
    let size : length bytes ≡ length takes.taken + length are.1 = ap length takes.whole ∙ length-append takes.taken are.1 in
    omega (arith, rest, first, some, size)
heard_few (heard.partial rest) started bytes are = omega arith
heard_few (heard.faulty fault) started bytes are = omega arith
heard_few heard.unread started bytes are = omega arith
