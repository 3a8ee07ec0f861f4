-- No text has two readings.
use Rattle.std.proofs.Common.{◌≡◌, ℕ, zero, suc, ◌+◌, ◌≤◌, Bool, false, List, [], ◌∷◌, ◌++◌, length, drop, Result, Ok, Err, refl, ap, sym, ◌∙◌, subst, length-append, length-drop, arith}
use Rattle.std.proofs.Math.Seq.{drop-append_seam}
use Rattle.sql_tree.specs.declared.token.Token.{Token}
use Rattle.sql_tree.specs.declared.token.TokenKind.{TokenKind}
use Rattle.sql_lexer.specs.declared.fault.LexFault.{LexFault}
use Rattle.sql_lexer.specs.declared.piece.Piece.{Piece}
use Rattle.sql_lexer.specs.declared.piece.Piece.TheVariants.{Gap, Kind}
use Rattle.sql_lexer.specs.Front.{piece}
use Rattle.sql_lexer.specs.Lexemes.{IsGap, IsToken, IsFaultAt, joins}
use Rattle.std.specs.Prelude.{IfOk, IfErr, MatchResult}
use Rattle.sql_lexer.specs.declared.fault.LexFault.TheVariants as fault
use Rattle.sql_lexer.specs.Tokens.{StandsFor, FirstFault, IsFaultOf, IsFaultOrMemory, token}
use Rattle.sql_lexer.proofs.Complete.{gap_found, token_found, fault_found}

-- what stands in front, without the index
data View (joined : Bool) (at : ℕ) (text : List ℕ) (ts : List Token) : Type 0 where
  ended_view : text ≡ [] → ts ≡ [] → View joined at text ts
  gap_view : (len : ℕ) → 1 ≤ len → len ≤ length text → piece joined at text ≡ Ok (Gap, len) → StandsFor false (at + len) (drop len text) ts → View joined at text ts
  kind_view : (len : ℕ) (k : TokenKind) (more : List Token) → 1 ≤ len → len ≤ length text → piece joined at text ≡ Ok (Kind k, len) → ts ≡ token k at (at + len) ∷ more
      → StandsFor (joins k) (at + len) (drop len text) more → View joined at text ts

data FaultView (joined : Bool) (at : ℕ) (text : List ℕ) (f : LexFault) : Type 0 where
  here_view : 1 ≤ length text → piece joined at text ≡ Err f → FaultView joined at text f
  gap_fault : (len : ℕ) → 1 ≤ len → len ≤ length text → piece joined at text ≡ Ok (Gap, len) → FirstFault false (at + len) (drop len text) f → FaultView joined at text f
  kind_fault : (len : ℕ) (k : TokenKind) → 1 ≤ len → len ≤ length text → piece joined at text ≡ Ok (Kind k, len) → FirstFault (joins k) (at + len) (drop len text) f → FaultView joined at text f

rest_is : (bytes after : List ℕ) → drop (length bytes) (bytes ++ after) ≡ after
rest_is bytes after = drop-append_seam bytes after

fits : (bytes after : List ℕ) → length bytes ≤ length (bytes ++ after)
fits bytes after = omega (arith, length-append bytes after)

-- what stands in front has bytes
pub gap_some : {bytes after : List ℕ} → IsGap bytes after → 1 ≤ length bytes
gap_some (IsGap.space b bytes after start all stops) = omega arith
gap_some (IsGap.line bytes after all stops) = omega arith
gap_some (IsGap.comment bytes after ends) = omega arith

pub token_some : {joined : Bool} {bytes after : List ℕ} {k : TokenKind} → IsToken joined bytes after k → 1 ≤ length bytes
token_some (IsToken.word joined b bytes after start all stops short free) = omega arith
token_some (IsToken.quoted joined name after lacks some short) = omega arith
token_some (IsToken.string joined text after lacks) = omega arith
token_some (IsToken.number joined b bytes after start all stops whole fits) = omega arith
token_some (IsToken.parameter joined b bytes after start all short full) = omega arith
token_some (IsToken.sign joined b after x e single) = omega arith
token_some (IsToken.sign_of_two_bytes joined b c after x e) = omega arith
token_some (IsToken.point joined after e) = omega arith

fault_some : {joined : Bool} {at : ℕ} {z : List ℕ} {f : LexFault} → IsFaultAt joined at z f → 1 ≤ length z
fault_some (IsFaultAt.unclosed_comment joined at z h) = omega arith
fault_some (IsFaultAt.unclosed_string joined at z h) = omega arith
fault_some (IsFaultAt.unclosed_name joined at z h) = omega arith
fault_some (IsFaultAt.empty_name joined at after lacks) = omega arith
fault_some (IsFaultAt.long_name joined at name after lacks long) = omega arith
fault_some (IsFaultAt.long_word joined at b bytes after start all stops long) = omega arith
fault_some (IsFaultAt.prefixed_string joined at b z e) = omega arith
fault_some (IsFaultAt.junk joined at b bytes after start all stops whole more) = omega arith
fault_some (IsFaultAt.too_wide joined at b bytes after start all stops more wide) = omega arith
fault_some (IsFaultAt.fraction joined at b bytes after start all stops more fits) = omega arith
fault_some (IsFaultAt.leading_point at b z e) = omega arith
fault_some (IsFaultAt.dollar joined at z e) = omega arith
fault_some (IsFaultAt.bad joined at b z nothing single) = omega arith

view : {joined : Bool} {at : ℕ} {text : List ℕ} {ts : List Token} → StandsFor joined at text ts → View joined at text ts
view (StandsFor.ended joined at) = ended_view refl refl
view (StandsFor.gap joined at bytes after ts p s) = gap_view (length bytes) (gap_some p) (fits bytes after) (gap_found p joined at) (rw rest_is s)
view (StandsFor.kind joined at bytes after k ts p s) = kind_view (length bytes) k ts (token_some p) (fits bytes after) (token_found p at) refl (rw rest_is s)

fault_view : {joined : Bool} {at : ℕ} {text : List ℕ} {f : LexFault} → FirstFault joined at text f → FaultView joined at text f
fault_view (FirstFault.here joined at text f p) = here_view (fault_some p) (fault_found p)
fault_view (FirstFault.gap joined at bytes after f p s) = gap_fault (length bytes) (gap_some p) (fits bytes after) (gap_found p joined at) (rw rest_is s)
fault_view (FirstFault.kind joined at bytes after k f p s) = kind_fault (length bytes) k (token_some p) (fits bytes after) (token_found p at) (rw rest_is s)

-- one text has one piece in front
pair : (x y : Piece × ℕ) (r : Result (Piece × ℕ) LexFault) → r ≡ Ok x → r ≡ Ok y → x ≡ y
pair x y r e f = let g : Ok x ≡ Ok y = sym e ∙ f in cc

same_gap : (r : Result (Piece × ℕ) LexFault) (a b : ℕ) → r ≡ Ok (Gap, a) → r ≡ Ok (Gap, b) → a ≡ b
same_gap r a b e f = ap (λ p. p.1) (pair (Gap, a) (Gap, b) r e f)

same_len : (r : Result (Piece × ℕ) LexFault) (k j : TokenKind) (a b : ℕ) → r ≡ Ok (Kind k, a) → r ≡ Ok (Kind j, b) → a ≡ b
same_len r k j a b e f = ap (λ p. p.1) (pair (Kind k, a) (Kind j, b) r e f)

same_kind : (r : Result (Piece × ℕ) LexFault) (k j : TokenKind) (a b : ℕ) → r ≡ Ok (Kind k, a) → r ≡ Ok (Kind j, b) → k ≡ j
same_kind r k j a b e f = let g : Kind k ≡ Kind j = ap (λ p. p.0) (pair (Kind k, a) (Kind j, b) r e f) in cc

not_both : (r : Result (Piece × ℕ) LexFault) (k : TokenKind) (a b : ℕ) → r ≡ Ok (Gap, a) → r ≡ Ok (Kind k, b) → ⊥
not_both r k a b e f = let g : Gap ≡ Kind k = ap (λ p. p.0) (pair (Gap, a) (Kind k, b) r e f) in cc

not_fault : (r : Result (Piece × ℕ) LexFault) (x : Piece × ℕ) (f : LexFault) → r ≡ Ok x → r ≡ Err f → ⊥
not_fault r x f e g = let h : Ok x ≡ Err f = sym e ∙ g in cc

shorter : (len : ℕ) (text : List ℕ) (n : ℕ) → 1 ≤ len → length text ≤ suc n → length (drop len text) ≤ n
shorter len text n some h = omega (arith, length-drop len text)

abbrev OneReading : ℕ → Type 0
OneReading n = (joined : Bool) (at : ℕ) (text : List ℕ) (ts us : List Token) → length text ≤ n → StandsFor joined at text ts → StandsFor joined at text us → ts ≡ us

empty : (text : List ℕ) (len : ℕ) → text ≡ [] → 1 ≤ len → len ≤ length text → ⊥
empty text len e some h = let g = ap length e in omega arith

same_front : (n : ℕ) → OneReading n → (joined : Bool) (at : ℕ) (text : List ℕ) (ts us : List Token) → length text ≤ suc n → View joined at text ts → View joined at text us → ts ≡ us
same_front n again joined at text ts us h (ended_view e f) (ended_view g i) = f ∙ sym i
same_front n again joined at text ts us h (ended_view e f) (gap_view len some w p s) = absurd (empty text len e some w)
same_front n again joined at text ts us h (ended_view e f) (kind_view len k more some w p t s) = absurd (empty text len e some w)
same_front n again joined at text ts us h (gap_view len some w p s) (ended_view e f) = absurd (empty text len e some w)
same_front n again joined at text ts us h (gap_view a some w p s) (gap_view b other x q t) =
    let P : ℕ → Type 0 = λ m. StandsFor false (at + m) (drop m text) us in
    again false (at + a) (drop a text) ts us (shorter a text n some h) s (subst P (same_gap (piece joined at text) b a q p) t)
same_front n again joined at text ts us h (gap_view a some w p s) (kind_view b k more other x q t u) = absurd (not_both (piece joined at text) k a b p q)
same_front n again joined at text ts us h (kind_view len k more some w p t s) (ended_view e f) = absurd (empty text len e some w)
same_front n again joined at text ts us h (kind_view a k more some w p t s) (gap_view b other x q u) = absurd (not_both (piece joined at text) k b a q p)
same_front n again joined at text ts us h (kind_view a k more some w p t s) (kind_view b j less other x q v u) =
    let P : ℕ → TokenKind → Type 0 = λ m i. StandsFor (joins i) (at + m) (drop m text) less in
    let lens : b ≡ a = same_len (piece joined at text) j k b a q p in
    let kinds : j ≡ k = same_kind (piece joined at text) j k b a q p in
    let moved = subst (λ (i : TokenKind). P a i) kinds (subst (λ (m : ℕ). P m j) lens u) in
    let rest : more ≡ less = again (joins k) (at + a) (drop a text) more less (shorter a text n some h) s moved in
    t ∙ ap (λ z. token k at (at + a) ∷ z) rest ∙ ap (λ i. token i at (at + a) ∷ less) (sym kinds) ∙ ap (λ m. token j at (at + m) ∷ less) (sym lens) ∙ sym v

nothing_left : (joined : Bool) (at : ℕ) (text : List ℕ) (ts us : List Token) → length text ≤ 0 → View joined at text ts → View joined at text us → ts ≡ us
nothing_left joined at text ts us h (ended_view e f) (ended_view g i) = f ∙ sym i
nothing_left joined at text ts us h (gap_view len some w p s) y = absurd (omega arith)
nothing_left joined at text ts us h (kind_view len k more some w p t s) y = absurd (omega arith)
nothing_left joined at text ts us h (ended_view e f) (gap_view len some w p s) = absurd (omega arith)
nothing_left joined at text ts us h (ended_view e f) (kind_view len k more some w p t s) = absurd (omega arith)

one_within : (n : ℕ) → OneReading n
one_within zero joined at text ts us h a b = nothing_left joined at text ts us h (view a) (view b)
one_within (suc n) joined at text ts us h a b = same_front n (one_within n) joined at text ts us h (view a) (view b)

-- the tokens that stand for a text are its only ones
pub one_reading : (joined : Bool) (at : ℕ) (text : List ℕ) (ts us : List Token) → StandsFor joined at text ts → StandsFor joined at text us → ts ≡ us
one_reading joined at text ts us a b = one_within (length text) joined at text ts us (omega arith) a b

abbrev NoFault : ℕ → Type 0
NoFault n = (joined : Bool) (at : ℕ) (text : List ℕ) (ts : List Token) (f : LexFault) → length text ≤ n → StandsFor joined at text ts → FirstFault joined at text f → ⊥

clash : (n : ℕ) → NoFault n → (joined : Bool) (at : ℕ) (text : List ℕ) (ts : List Token) (f : LexFault) → length text ≤ suc n → View joined at text ts → FaultView joined at text f → ⊥
clash n again joined at text ts f h (ended_view e g) (here_view w p) = empty text 1 e (omega arith) w
clash n again joined at text ts f h (ended_view e g) (gap_fault len some w p s) = empty text len e some w
clash n again joined at text ts f h (ended_view e g) (kind_fault len k some w p s) = empty text len e some w
clash n again joined at text ts f h (gap_view a some w p s) (here_view x q) = not_fault (piece joined at text) (Gap, a) f p q
clash n again joined at text ts f h (gap_view a some w p s) (gap_fault b other x q u) =
    let P : ℕ → Type 0 = λ m. FirstFault false (at + m) (drop m text) f in
    again false (at + a) (drop a text) ts f (shorter a text n some h) s (subst P (same_gap (piece joined at text) b a q p) u)
clash n again joined at text ts f h (gap_view a some w p s) (kind_fault b k other x q u) = not_both (piece joined at text) k a b p q
clash n again joined at text ts f h (kind_view a k more some w p t s) (here_view x q) = not_fault (piece joined at text) (Kind k, a) f p q
clash n again joined at text ts f h (kind_view a k more some w p t s) (gap_fault b other x q u) = not_both (piece joined at text) k b a q p
clash n again joined at text ts f h (kind_view a k more some w p t s) (kind_fault b j other x q u) =
    let P : ℕ → TokenKind → Type 0 = λ m i. FirstFault (joins i) (at + m) (drop m text) f in
    let moved = subst (λ (i : TokenKind). P a i) (same_kind (piece joined at text) j k b a q p) (subst (λ (m : ℕ). P m j) (same_len (piece joined at text) j k b a q p) u) in
    again (joins k) (at + a) (drop a text) more f (shorter a text n some h) s moved

no_fault_left : (joined : Bool) (at : ℕ) (text : List ℕ) (f : LexFault) → length text ≤ 0 → FaultView joined at text f → ⊥
no_fault_left joined at text f h (here_view w p) = omega arith
no_fault_left joined at text f h (gap_fault len some w p s) = omega arith
no_fault_left joined at text f h (kind_fault len k some w p s) = omega arith

no_fault_within : (n : ℕ) → NoFault n
no_fault_within zero joined at text ts f h a b = no_fault_left joined at text f h (fault_view b)
no_fault_within (suc n) joined at text ts f h a b = clash n (no_fault_within n) joined at text ts f h (view a) (fault_view b)

-- a text that tokens stand for has no fault
pub no_fault : (joined : Bool) (at : ℕ) (text : List ℕ) (ts : List Token) (f : LexFault) → StandsFor joined at text ts → FirstFault joined at text f → ⊥
no_fault joined at text ts f a b = no_fault_within (length text) joined at text ts f (omega arith) a b

abbrev OneFault : ℕ → Type 0
OneFault n = (joined : Bool) (at : ℕ) (text : List ℕ) (f g : LexFault) → length text ≤ n → FirstFault joined at text f → FirstFault joined at text g → f ≡ g

same_fault : (n : ℕ) → OneFault n → (joined : Bool) (at : ℕ) (text : List ℕ) (f g : LexFault) → length text ≤ suc n → FaultView joined at text f → FaultView joined at text g → f ≡ g
same_fault n again joined at text f g h (here_view w p) (here_view x q) = let e : Err f ≡ Err g = sym p ∙ q in cc
same_fault n again joined at text f g h (here_view w p) (gap_fault b other x q u) = absurd (not_fault (piece joined at text) (Gap, b) f q p)
same_fault n again joined at text f g h (here_view w p) (kind_fault b k other x q u) = absurd (not_fault (piece joined at text) (Kind k, b) f q p)
same_fault n again joined at text f g h (gap_fault a some w p s) (here_view x q) = absurd (not_fault (piece joined at text) (Gap, a) g p q)
same_fault n again joined at text f g h (gap_fault a some w p s) (gap_fault b other x q u) =
    let P : ℕ → Type 0 = λ m. FirstFault false (at + m) (drop m text) g in
    again false (at + a) (drop a text) f g (shorter a text n some h) s (subst P (same_gap (piece joined at text) b a q p) u)
same_fault n again joined at text f g h (gap_fault a some w p s) (kind_fault b k other x q u) = absurd (not_both (piece joined at text) k a b p q)
same_fault n again joined at text f g h (kind_fault a k some w p s) (here_view x q) = absurd (not_fault (piece joined at text) (Kind k, a) g p q)
same_fault n again joined at text f g h (kind_fault a k some w p s) (gap_fault b other x q u) = absurd (not_both (piece joined at text) k b a q p)
same_fault n again joined at text f g h (kind_fault a k some w p s) (kind_fault b j other x q u) =
    let P : ℕ → TokenKind → Type 0 = λ m i. FirstFault (joins i) (at + m) (drop m text) g in
    let moved = subst (λ (i : TokenKind). P a i) (same_kind (piece joined at text) j k b a q p) (subst (λ (m : ℕ). P m j) (same_len (piece joined at text) j k b a q p) u) in
    again (joins k) (at + a) (drop a text) f g (shorter a text n some h) s moved

one_fault_within : (n : ℕ) → OneFault n
one_fault_within zero joined at text f g h a b = absurd (no_fault_left joined at text f h (fault_view a))
one_fault_within (suc n) joined at text f g h a b = same_fault n (one_fault_within n) joined at text f g h (fault_view a) (fault_view b)

-- no two faults are the first of a text
pub one_fault : (joined : Bool) (at : ℕ) (text : List ℕ) (f g : LexFault) → FirstFault joined at text f → FirstFault joined at text g → f ≡ g
one_fault joined at text f g a b = one_fault_within (length text) joined at text f g (omega arith) a b

-- ---- what is answered

-- tokens that stand for the text are answered, unless memory ran out
pub gives : {X : Type 0} (items : X → List Token) (text whole : List ℕ) (r : Result X LexFault) → text ≡ whole → IfOk r (λ x. StandsFor false 0 text (items x)) → IfErr r (λ f. IsFaultOf text f)
    → (ts : List Token) → StandsFor false 0 whole ts → MatchResult r (λ x. items x ≡ ts) (λ f. f ≡ fault.Memory)
gives items text whole (Ok x) e a b ts s = let P : List ℕ → Type 0 = λ y. StandsFor false 0 y (items x) in one_reading false 0 whole (items x) ts (subst P e a) s
gives items text whole (Err fault.Memory) e a b ts s = refl
gives items text whole (Err f) e a b ts s = let P : List ℕ → Type 0 = λ y. StandsFor false 0 y ts in absurd (no_fault false 0 text ts f (subst P (sym e) s) b)

-- the first fault of the text is answered, unless memory ran out
pub refuses : {X : Type 0} (items : X → List Token) (text whole : List ℕ) (r : Result X LexFault) → text ≡ whole → IfOk r (λ x. StandsFor false 0 text (items x)) → IfErr r (λ f. IsFaultOf text f)
    → (f : LexFault) → FirstFault false 0 whole f → MatchResult r (λ x. ⊥) (λ g. IsFaultOrMemory g f)
refuses items text whole (Ok x) e a b f s = let P : List ℕ → Type 0 = λ y. FirstFault false 0 y f in no_fault false 0 text (items x) f a (subst P (sym e) s)
refuses items text whole (Err fault.Memory) e a b f s = tt
refuses items text whole (Err g) e a b f s = let P : List ℕ → Type 0 = λ y. FirstFault false 0 y f in one_fault false 0 text g f b (subst P (sym e) s)
