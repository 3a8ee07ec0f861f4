-- What is passed over is spelled so.
use Rattle.std.proofs.Common.{◌≡◌, ℕ, zero, suc, Bool, true, false, List, [], ◌∷◌, ◌++◌, length, Option, Some, None, refl, ap, sym, ◌∙◌, append_assoc}
use Rattle.std.specs.Prelude.{if◌then◌else◌}
use Rattle.sql_grammar.specs.declared.mark.Mark.{Mark}
use Rattle.sql_grammar.specs.Grammar.{Level}
use Rattle.sql_grammar.specs.Reading.{front}
use Rattle.sql_grammar.specs.Syntax.{Kind, kind}
use Rattle.sql_grammar.specs.Steps.{Pattern, any}
use Rattle.sql_grammar.proofs.Taken.{none_some, pair_of}
use Rattle.sql_refusal.specs.Forms
use Rattle.sql_refusal.specs.Forms.{Form, nothing, mark, part, ◌▸◌, either, many, Spelled, Passer, and_on, one_of, many_from, passes, may_begin}

-- the marks in front of the rest are so
pub record Took (R : List Mark → Type 0) (whole after : List Mark) : Type 0 where
  pub taken : List Mark
  pub splits : whole ≡ taken ++ after
  pub is : R taken

pub record Steps (o : Option (List Mark)) (f : Passer) (r : List Mark) : Type 0 where
  pub after : List Mark
  pub first : o ≡ Some after
  pub second : f after ≡ Some r

pub step : (o : Option (List Mark)) (f : Passer) (r : List Mark) → and_on o f ≡ Some r → Steps o f r
step None f r e = absurd (none_some e)
step (Some ts) f r e = record { after = ts; first = refl; second = e }

stays : (R : List Mark → Type 0) (ts r : List Mark) → R [] → Some ts ≡ Some r → Took R ts r
stays R ts r h e = record { taken = []; splits = pair_of _ _ e; is = h }

abbrev pub SoundFor : (List Mark → Type 0) → Passer → Type 0
SoundFor R p = (ts r : List Mark) → p ts ≡ Some r → Took R ts r

module _ (E : Level → List Mark → Type 0) where
  mark_sound : (ps : List Pattern) → SoundFor (Spelled E (mark ps)) (one_of ps)
  mark_sound ps [] r e = absurd (none_some e)
  mark_sound ps (m ∷ ts) r e = tested (any ps (kind (Some m))) refl e
    where
      tested : (c : Bool) → any ps (kind (Some m)) ≡ c → (if c then Some ts else None) ≡ Some r → Took (Spelled E (mark ps)) (m ∷ ts) r
      tested true h e = record { taken = m ∷ []; splits = ap (λ z. m ∷ z) (pair_of _ _ e); is = Forms.is_mark h }
      tested false h e = absurd (none_some e)

  joined : (a b : Form) (ts us r : List Mark) → Took (Spelled E a) ts us → Took (Spelled E b) us r → Took (Spelled E (a ▸ b)) ts r
  joined a b ts us r t u = record { taken = t.taken ++ u.taken; splits = t.splits ∙ ap (λ z. t.taken ++ z) u.splits ∙ simp append_assoc; is = Forms.both t.is u.is }

  once_more : (a : Form) (ts us r : List Mark) → Took (Spelled E a) ts us → Took (Spelled E (many a)) us r → Took (Spelled E (many a)) ts r
  once_more a ts us r t u = record { taken = t.taken ++ u.taken; splits = t.splits ∙ ap (λ z. t.taken ++ z) u.splits ∙ simp append_assoc; is = Forms.more t.is u.is }

  turn_sound : (a : Form) (item go : Passer) → SoundFor (Spelled E a) item → SoundFor (Spelled E (many a)) go → (c : Bool) (ts r : List Mark) → (if c then and_on (item ts) go else Some ts) ≡ Some r → Took (Spelled E (many a)) ts r
  turn_sound a item go h g true ts r e = let s = step (item ts) go r e in once_more a ts s.after r (h ts s.after s.first) (g s.after r s.second)
  turn_sound a item go h g false ts r e = stays (Spelled E (many a)) ts r Forms.none e

  many_sound : (a : Form) (item : Passer) (first : Kind → Bool) → SoundFor (Spelled E a) item → (turns : ℕ) → SoundFor (Spelled E (many a)) (many_from first item turns)
  unfolding many_from
  many_sound a item first h zero ts r e = absurd (none_some e)
  many_sound a item first h (suc turns) ts r e = turn_sound a item (many_from first item turns) h (many_sound a item first h turns) (first (kind (front ts))) ts r e

  either_sound : (a b : Form) (ts r : List Mark) (c : Bool) (p q : Option (List Mark)) → (p ≡ Some r → Took (Spelled E a) ts r) → (q ≡ Some r → Took (Spelled E b) ts r)
      → (if c then p else q) ≡ Some r → Took (Spelled E (either a b)) ts r
  either_sound a b ts r true p q f g e = let t = f e in record { taken = t.taken; splits = t.splits; is = Forms.left t.is }
  either_sound a b ts r false p q f g e = let t = g e in record { taken = t.taken; splits = t.splits; is = Forms.right t.is }

  module _ (p : Level → Passer) (h : (l : Level) → SoundFor (E l) (p l)) where
    pub passes_sound : (f : Form) → SoundFor (Spelled E f) (passes p f)
    unfolding passes
    passes_sound nothing ts r e = stays (Spelled E nothing) ts r Forms.is_nothing e
    passes_sound (mark ps) ts r e = mark_sound ps ts r e
    passes_sound (part l) ts r e = let t = h l ts r e in record { taken = t.taken; splits = t.splits; is = Forms.is_part t.is }
    passes_sound (a ▸ b) ts r e =
        let s = step (passes p a ts) (passes p b) r e in
        joined a b ts s.after r (passes_sound a ts s.after s.first) (passes_sound b s.after r s.second)
    passes_sound (either a b) ts r e = either_sound a b ts r (may_begin a (kind (front ts))) (passes p a ts) (passes p b ts) (passes_sound a ts r) (passes_sound b ts r) e
    passes_sound (many a) ts r e = many_sound a (passes p a) (may_begin a) (passes_sound a) (suc (length ts)) ts r e
