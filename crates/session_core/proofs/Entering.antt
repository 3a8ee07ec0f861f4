-- How long a message is that was taken off a stream.
use Rattle.std.proofs.Common.{Bool, true, false, ℕ, ◌≤◌, ◌+◌, List, ◌++◌, length, ap, arith, length-append}
use Rattle.client_framing.specs.declared.frontend_message.FrontendMessage.{FrontendMessage}
use Rattle.client_framing.specs.Spelling.{IsSpelling}
use Rattle.client_framing.specs.Fronts.{TakesFront}

-- a message has at least five bytes
spelled_some : (started : Bool) (front : FrontendMessage) (bytes : List ℕ) → IsSpelling started front bytes → 5 ≤ length bytes
spelled_some false front bytes s =
    omega (arith, ap length s.whole, length-append s.size (s.code ++ s.body), length-append s.code s.body, s.size_is.0, s.code_held)
spelled_some true front bytes s = omega (arith, ap length s.whole, length-append s.size s.body, s.size_is.0)

pub takes_some : (started : Bool) (bytes : List ℕ) (front : FrontendMessage) (more : List ℕ) → TakesFront started bytes front more →
    5 + length more ≤ length bytes
takes_some started bytes front more takes =
    omega (arith, ap length takes.whole, length-append takes.taken more, spelled_some started front takes.taken takes.spelled)
