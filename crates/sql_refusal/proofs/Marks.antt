-- Tests of one mark.
use Rattle.std.proofs.Common.{◌≡◌, Bool, true, false, List, [], ◌∷◌, Some, None, refl}
use Rattle.std.specs.Prelude.{if◌then◌else◌}
use Rattle.sql_grammar.specs.declared.mark.Mark.{Mark}
use Rattle.sql_grammar.specs.Syntax.{Kind, kind}
use Rattle.sql_grammar.specs.Steps.{Pattern, fit, any}
use Rattle.sql_grammar.proofs.Patterns.{any_first}
use Rattle.sql_refusal.specs.Forms.{Form, nothing, mark, part, ◌▸◌, either, many, one_of}
use Rattle.sql_refusal.specs.Tables.{fits_one, single}

pub any_here : (p : Pattern) (ps : List Pattern) (m : Kind) → fit p m ≡ true → any (p ∷ ps) m ≡ true
any_here p ps m e = any_first p ps m e

pub any_step : (p : Pattern) (ps : List Pattern) (m : Kind) → fit p m ≡ false → any (p ∷ ps) m ≡ any ps m
any_step p [] m e = e
any_step p (q ∷ ps) m e = rw e refl

pub single_is : (f : Form) (m : Mark) (ts : List Mark) → single f (m ∷ ts) ≡ (if fits_one f (kind (Some m)) then Some ts else None)
single_is nothing m ts = refl
single_is (mark ps) m ts = refl
single_is (part l) m ts = refl
single_is (a ▸ b) m ts = refl
single_is (either a b) m ts = refl
single_is (many a) m ts = refl

pub single_none : (f : Form) → single f [] ≡ None
single_none nothing = refl
single_none (mark ps) = refl
single_none (part l) = refl
single_none (a ▸ b) = refl
single_none (either a b) = refl
single_none (many a) = refl
