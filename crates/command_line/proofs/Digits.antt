-- The number that digits spell, digit by digit.
use Rattle.std.proofs.Common.{◌≡◌, ℕ, ◌+◌, ◌-◌, ◌*◌, ◌<◌, List, length, take, get_or, sym, ◌∙◌, ap}
use Rattle.std.proofs.lemmas.List.{take_more}
use Rattle.std.proofs.lemmas.List.Sums.{fold_push}
use Rattle.command_line.specs.Numbers.{number_of}

-- one more digit is read
pub value_more : (digits : List ℕ) (i n : ℕ) → i < length digits → n ≡ number_of (take i digits) → 10 * n + (get_or digits i 0 - 48) ≡ number_of (take (i + 1) digits)
value_more digits i n lt e =
    ap (λ (m : ℕ). 10 * m + (get_or digits i 0 - 48)) e
    ∙ sym (ap number_of (take_more digits i 0 lt) ∙ fold_push (λ (n : ℕ) (c : ℕ). 10 * n + (c - 48)) 0 (take i digits) (get_or digits i 0))
