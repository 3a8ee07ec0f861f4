-- The bytes of the client spell its messages.
use Rattle.std.proofs.Common.{◌≡◌, ◌≤◌, ◌<◌, ◌+◌, ℕ, List, [], ◌∷◌, ◌++◌, length, Some, refl, sym, ◌∙◌, ap, codes, arith}
use Rattle.std.specs.Int.{w32, to_be_bytes}
use Rattle.std.proofs.lemmas.List.{append-nil, length-append}
use Rattle.std.proofs.lemmas.Nat.{from_be_bytes-to_be_bytes_4}
use Rattle.cell_base.specs.Texts.{HasNoZero}
use Rattle.cell_base.proofs.Zeros.{has_no_zero}
use Rattle.client_framing.specs.declared.frontend_message.FrontendMessage.TheVariants.{Startup, Query, Terminate}
use Rattle.client_framing.specs.Spelling.{number_of, IsOpening, IsMessage}
use Rattle.setup_client.specs.Client.{most_text, startup, query_message, terminate}
use Rattle.setup_client.specs.Spelled.{IsSpelled}

number_is : (n : ℕ) → n < 4294967296 → number_of (to_be_bytes w32 n) ≡ n
unfolding number_of
number_is n small = from_be_bytes-to_be_bytes_4 n small

no_zero_user : HasNoZero (codes "user")
no_zero_user = has_no_zero (codes "user")
    (λ e. omega (arith, e), (λ e. omega (arith, e), (λ e. omega (arith, e), (λ e. omega (arith, e), tt))))

no_zero_setup : HasNoZero (codes "setup")
no_zero_setup = has_no_zero (codes "setup")
    (λ e. omega (arith, e), (λ e. omega (arith, e), (λ e. omega (arith, e), (λ e. omega (arith, e), (λ e. omega (arith, e), tt)))))

start_is : IsOpening (Startup ((codes "user", codes "setup") ∷ [])) startup
start_is = record {
  size = to_be_bytes w32 20;
  code = to_be_bytes w32 196608;
  body = codes "user" ++ 0 ∷ (codes "setup" ++ 0 ∷ 0 ∷ []);
  whole = refl;
  size_is = (refl, number_is 20 (omega arith));
  fits = omega arith;
  code_held = refl;
  code_is = ap (λ (n : ℕ). Some n) (sym (number_is 196608 (omega arith)));
  body_is = (((λ e. cc, no_zero_user, no_zero_setup), tt), refl);
}

query_is : (text : List ℕ) → HasNoZero text → length text ≤ most_text → IsMessage (Query text) (query_message text)
query_is text none few =
    let long : length (text ++ 0 ∷ []) ≡ length text + 1 = length-append text (0 ∷ []) in
    record {
      kind = 81;
      size = to_be_bytes w32 (length text + 5);
      body = text ++ 0 ∷ [];
      whole = refl;
      size_is = (refl, number_is (length text + 5) (omega (arith, few)) ∙ omega (arith, long));
      fits = omega (arith, long, few);
      kind_is = refl;
      body_is = (none, refl);
    }

end_is : IsMessage Terminate terminate
end_is = record {
  kind = 88;
  size = to_be_bytes w32 4;
  body = [];
  whole = ap (λ (bs : List ℕ). 88 ∷ bs) (sym (append-nil (to_be_bytes w32 4)));
  size_is = (refl, number_is 4 (omega arith));
  fits = omega arith;
  kind_is = refl;
  body_is = refl;
}

pub spelled : (text : List ℕ) → HasNoZero text → length text ≤ most_text → IsSpelled text
spelled text none few = record { start = start_is; query = query_is text none few; end = end_is }
