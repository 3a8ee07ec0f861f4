-- Each text has a reading: tokens that stand for it, or a first fault.
use Rattle.std.proofs.Common.{ℕ, zero, suc, ◌+◌, ◌≤◌, Bool, false, List, [], ◌∷◌, length, drop, Ok, Err, length-drop, ◌⊎◌, inl, inr, arith}
use Rattle.sql_tree.specs.declared.token.Token.{Token}
use Rattle.sql_tree.specs.declared.token.TokenKind.{TokenKind}
use Rattle.sql_lexer.specs.declared.fault.LexFault.{LexFault}
use Rattle.sql_lexer.specs.declared.piece.Piece.{Piece}
use Rattle.sql_lexer.specs.declared.piece.Piece.TheVariants.{Gap, Kind}
use Rattle.sql_lexer.specs.Front.{Front, piece}
use Rattle.sql_lexer.specs.Lexemes.{joins}
use Rattle.sql_lexer.specs.Tokens.{StandsFor, FirstFault, token}
use Rattle.sql_lexer.proofs.Sound.{GapFront, TokenFront, PieceFront, IsSound, piece_sound}
use Rattle.sql_lexer.proofs.Cuts.{gap_stands, kind_stands, gap_fault, kind_fault}
use Rattle.sql_lexer.proofs.Once.{gap_some, token_some}

abbrev Reading : Bool → ℕ → List ℕ → Type 0
Reading joined at text = ((ts : List Token) × StandsFor joined at text ts) ⊎ ((f : LexFault) × FirstFault joined at text f)

abbrev Within : ℕ → Type 0
Within n = (joined : Bool) (at : ℕ) (text : List ℕ) → length text ≤ n → Reading joined at text

following_gap : (joined : Bool) (at len : ℕ) (z : List ℕ) → GapFront z len → Reading false (at + len) (drop len z) → Reading joined at z
following_gap joined at len z g (inl r) = inl (r.0, gap_stands joined at len z r.0 g r.1)
following_gap joined at len z g (inr r) = inr (r.0, gap_fault joined at len z r.0 g r.1)

following_kind : (joined : Bool) (at len : ℕ) (z : List ℕ) (k : TokenKind) → TokenFront joined z len k → Reading (joins k) (at + len) (drop len z) → Reading joined at z
following_kind joined at len z k g (inl r) = inl (token k at (at + len) ∷ r.0, kind_stands joined at len z k r.0 g r.1)
following_kind joined at len z k g (inr r) = inr (r.0, kind_fault joined at len z k r.0 g r.1)

following : (n : ℕ) → Within n → (joined : Bool) (at : ℕ) (z : List ℕ) → length z ≤ suc n → (p : Piece) (len : ℕ) → PieceFront joined z p len → Reading joined at z
following n again joined at z h Gap len g = let some = gap_some g.is in let size = g.size in following_gap joined at len z g (again false (at + len) (drop len z) (omega (arith, length-drop len z)))
following n again joined at z h (Kind k) len g = let some = token_some g.is in let size = g.size in following_kind joined at len z k g (again (joins k) (at + len) (drop len z) (omega (arith, length-drop len z)))

in_front : (n : ℕ) → Within n → (joined : Bool) (at : ℕ) (z : List ℕ) → length z ≤ suc n → (r : Front) → IsSound joined at z r → Reading joined at z
in_front n again joined at z h (Ok p) s = following n again joined at z h p.0 p.1 s
in_front n again joined at z h (Err f) s = inr (f, FirstFault.here joined at z f s)

some_within : (n : ℕ) → Within n
some_within zero joined at [] h = inl ([], StandsFor.ended joined at)
some_within zero joined at (b ∷ z) h = absurd (omega arith)
some_within (suc n) joined at [] h = inl ([], StandsFor.ended joined at)
some_within (suc n) joined at (b ∷ z) h = in_front n (some_within n) joined at (b ∷ z) h (piece joined at (b ∷ z)) (piece_sound joined at b z)

-- tokens stand for the text, or it has a first fault
pub some_reading : (joined : Bool) (at : ℕ) (text : List ℕ) → ((ts : List Token) × StandsFor joined at text ts) ⊎ ((f : LexFault) × FirstFault joined at text f)
some_reading joined at text = some_within (length text) joined at text (omega arith)
