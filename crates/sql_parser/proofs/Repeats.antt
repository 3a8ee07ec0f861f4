-- One more turn of a reading that repeats.
use Rattle.std.proofs.Common.{◌≡◌, ℕ, zero, suc, Bool, true, false, List, ◌++◌, Option, Some, None, refl, ap, arith}
use Rattle.sql_grammar.specs.declared.mark.Mark.{Mark}
use Rattle.sql_grammar.specs.Reading.{Parser, and_then, front}
use Rattle.sql_grammar.specs.Syntax.{Kind, kind}
use Rattle.sql_grammar.specs.Steps.{repeat_from}
use Rattle.sql_grammar.proofs.Taken.{none_some, pair_of}
use Rattle.sql_parser.specs.Parts.{following}

goes_on : {A : Type 0} (first : Kind → Bool) (item : Parser (List A)) (n : ℕ) (found later : List A) (us : List Mark) (o : Option (List A × List Mark)) → following found o ≡ Some (later, us)
    → and_then o (λ xs vs. repeat_from first item n (found ++ xs) vs) ≡ repeat_from first item n later us
goes_on first item n found later us None e = absurd (none_some e)
goes_on first item n found later us (Some q) e = ap (λ z. repeat_from first item n z.0 z.1) (pair_of _ _ e)

pub one_turn : {A : Type 0} (first : Kind → Bool) (item : Parser (List A)) (n : ℕ) (found later : List A) (ts us : List Mark) → first (kind (front ts)) ≡ true → following found (item ts) ≡ Some (later, us)
    → repeat_from first item (suc n) found ts ≡ repeat_from first item n later us
unfolding repeat_from
one_turn first item n found later ts us h e = rw h (goes_on first item n found later us (item ts) e)

stops : {A : Type 0} (first : Kind → Bool) (item : Parser (List A)) (n : ℕ) (found : List A) (o : Option (List A × List Mark)) → following found o ≡ None
    → and_then o (λ xs vs. repeat_from first item n (found ++ xs) vs) ≡ None
stops first item n found None e = refl
stops first item n found (Some q) e = cc

pub no_turn : {A : Type 0} (first : Kind → Bool) (item : Parser (List A)) (n : ℕ) (found : List A) (ts : List Mark) → first (kind (front ts)) ≡ true → following found (item ts) ≡ None
    → repeat_from first item (suc n) found ts ≡ None
unfolding repeat_from
no_turn first item n found ts h e = rw h (stops first item n found (item ts) e)

pub last_turn : {A : Type 0} (first : Kind → Bool) (item : Parser (List A)) (n : ℕ) (found : List A) (ts : List Mark) → first (kind (front ts)) ≡ false
    → repeat_from first item (suc n) found ts ≡ Some (found, ts)
unfolding repeat_from
last_turn first item n found ts h = rw h refl

pub no_turns : {A : Type 0} (first : Kind → Bool) (item : Parser (List A)) (n : ℕ) (found : List A) (ts : List Mark) → n ≡ 0 → repeat_from first item n found ts ≡ Some (found, ts)
unfolding repeat_from
no_turns first item zero found ts h = refl
no_turns first item (suc n) found ts h = absurd (omega arith)
