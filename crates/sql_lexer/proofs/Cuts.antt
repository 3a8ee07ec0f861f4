-- A text that is cut piece by piece.
use Rattle.std.proofs.Common.{◌≡◌, ℕ, ◌+◌, ◌≤◌, Bool, false, List, [], ◌∷◌, ◌++◌, length, drop, Ok, Err, ap, sym, ◌∙◌, subst, append_assoc, arith}
use Rattle.std.specs.Str.{IsUtf8}
use Rattle.std.proofs.lemmas.List.{drop-drop, drop_all, append-nil}
use Rattle.std.proofs.Math.Seq.{drop-append_seam}
use Rattle.sql_tree.specs.declared.token.Token.{Token}
use Rattle.sql_tree.specs.declared.token.TokenKind.{TokenKind}
use Rattle.sql_lexer.specs.declared.fault.LexFault.{LexFault}
use Rattle.sql_lexer.specs.declared.fault.LexFault.TheVariants as fault
use Rattle.sql_lexer.specs.declared.piece.Piece.TheVariants.{Gap, Kind}
use Rattle.sql_lexer.specs.Front.{Front, piece, Gives}
use Rattle.sql_lexer.specs.Lexemes.{joins}
use Rattle.sql_lexer.specs.Tokens.{StandsFor, FirstFault, IsFaultOf, token}
use Rattle.sql_lexer.proofs.Sound.{GapFront, TokenFront, IsSound, piece_sound}
use Rattle.sql_lexer.proofs.Utf8.{gap_after, token_after}

-- what is found in a text with a byte stands there
sound : (joined : Bool) (at : ℕ) (z : List ℕ) (r : Front) → 1 ≤ length z → piece joined at z ≡ r → IsSound joined at z r
sound joined at [] r some e = absurd (omega arith)
sound joined at (b ∷ z) r some e = let P : Front → Type 0 = λ f. IsSound joined at (b ∷ z) f in subst P e (piece_sound joined at b z)

rest_is : (z bytes after : List ℕ) (len : ℕ) → z ≡ bytes ++ after → len ≡ length bytes → drop len z ≡ after
rest_is z bytes after len e f = ap (λ y. drop len y) e ∙ ap (λ n. drop n (bytes ++ after)) f ∙ drop-append_seam bytes after

pub gap_stands : (joined : Bool) (at len : ℕ) (z : List ℕ) (ts : List Token) → GapFront z len → StandsFor false (at + len) (drop len z) ts → StandsFor joined at z ts
gap_stands joined at len z ts g st =
    let P : List ℕ → Type 0 = λ y. StandsFor joined at y ts in
    let Q : List ℕ → Type 0 = λ y. StandsFor false (at + len) y ts in
    let R : ℕ → Type 0 = λ n. StandsFor false (at + n) g.after ts in
    subst P (sym g.splits) (StandsFor.gap joined at g.bytes g.after ts g.is (subst R g.size (subst Q (rest_is z g.bytes g.after len g.splits g.size) st)))

pub kind_stands : (joined : Bool) (at len : ℕ) (z : List ℕ) (k : TokenKind) (ts : List Token) → TokenFront joined z len k → StandsFor (joins k) (at + len) (drop len z) ts → StandsFor joined at z (token k at (at + len) ∷ ts)
kind_stands joined at len z k ts g st =
    let P : List ℕ → Type 0 = λ y. StandsFor joined at y (token k at (at + len) ∷ ts) in
    let Q : List ℕ → Type 0 = λ y. StandsFor (joins k) (at + len) y ts in
    let R : ℕ → Type 0 = λ n. StandsFor (joins k) (at + n) g.after ts in
    let S : ℕ → Type 0 = λ n. StandsFor joined at (g.bytes ++ g.after) (token k at (at + n) ∷ ts) in
    subst P (sym g.splits) (subst S (sym g.size) (StandsFor.kind joined at g.bytes g.after k ts g.is (subst R g.size (subst Q (rest_is z g.bytes g.after len g.splits g.size) st))))

pub gap_fault : (joined : Bool) (at len : ℕ) (z : List ℕ) (f : LexFault) → GapFront z len → FirstFault false (at + len) (drop len z) f → FirstFault joined at z f
gap_fault joined at len z f g st =
    let P : List ℕ → Type 0 = λ y. FirstFault joined at y f in
    let Q : List ℕ → Type 0 = λ y. FirstFault false (at + len) y f in
    let R : ℕ → Type 0 = λ n. FirstFault false (at + n) g.after f in
    subst P (sym g.splits) (FirstFault.gap joined at g.bytes g.after f g.is (subst R g.size (subst Q (rest_is z g.bytes g.after len g.splits g.size) st)))

pub kind_fault : (joined : Bool) (at len : ℕ) (z : List ℕ) (k : TokenKind) (f : LexFault) → TokenFront joined z len k → FirstFault (joins k) (at + len) (drop len z) f → FirstFault joined at z f
kind_fault joined at len z k f g st =
    let P : List ℕ → Type 0 = λ y. FirstFault joined at y f in
    let Q : List ℕ → Type 0 = λ y. FirstFault (joins k) (at + len) y f in
    let R : ℕ → Type 0 = λ n. FirstFault (joins k) (at + n) g.after f in
    subst P (sym g.splits) (FirstFault.kind joined at g.bytes g.after k f g.is (subst R g.size (subst Q (rest_is z g.bytes g.after len g.splits g.size) st)))

gap_utf8 : (z : List ℕ) (len : ℕ) → GapFront z len → IsUtf8 z → IsUtf8 (drop len z)
gap_utf8 z len g u = let P : List ℕ → Type 0 = λ y. IsUtf8 y in subst P (sym (rest_is z g.bytes g.after len g.splits g.size)) (gap_after g.is (subst P g.splits u))

kind_utf8 : (joined : Bool) (z : List ℕ) (len : ℕ) (k : TokenKind) → TokenFront joined z len k → IsUtf8 z → IsUtf8 (drop len z)
kind_utf8 joined z len k g u = let P : List ℕ → Type 0 = λ y. IsUtf8 y in subst P (sym (rest_is z g.bytes g.after len g.splits g.size)) (token_after g.is (subst P g.splits u))

-- The tokens so far complete to those of the whole text by whatever stands for the rest, and a fault of the rest is the text's.
pub record CutSo (text : List ℕ) (joined : Bool) (at : ℕ) (found : List Token) : Type 0 where
  pub within : at ≤ length text
  pub utf8 : IsUtf8 (drop at text)
  pub stands : (ts : List Token) → StandsFor joined at (drop at text) ts → StandsFor false 0 text (found ++ ts)
  pub fault : (f : LexFault) → FirstFault joined at (drop at text) f → FirstFault false 0 text f

pub begun : (text : List ℕ) (found : List Token) → found ≡ [] → IsUtf8 text → CutSo text false 0 found
begun text found e u = record { within = omega arith; utf8 = u; stands = λ ts st. rw e st; fault = λ f st. st }

pub after_gap : (text : List ℕ) (joined next : Bool) (at len : ℕ) (found grown : List Token) → CutSo text joined at found → 1 ≤ length (drop at text) → at + len ≤ length text → piece joined at (drop at text) ≡ Ok (Gap, len)
    → next ≡ false → grown ≡ found → CutSo text next (at + len) grown
after_gap text joined next at len found grown c some within e n g =
    let front : GapFront (drop at text) len = sound joined at (drop at text) (Ok (Gap, len)) some e in
    record {
      within = within;
      utf8 = rw drop-drop at (gap_utf8 (drop at text) len front c.utf8);
      stands = λ ts st. rw g (c.stands ts (gap_stands joined at len (drop at text) ts front (rw (drop-drop len at text) (rw n at st))));
      fault = λ f st. c.fault f (gap_fault joined at len (drop at text) f front (rw (drop-drop len at text) (rw n at st)));
    }

pub after_kind : (text : List ℕ) (joined next : Bool) (at len : ℕ) (k : TokenKind) (found grown : List Token) → CutSo text joined at found → 1 ≤ length (drop at text) → at + len ≤ length text
    → piece joined at (drop at text) ≡ Ok (Kind k, len) → next ≡ joins k → grown ≡ found ++ token k at (at + len) ∷ [] → CutSo text next (at + len) grown
after_kind text joined next at len k found grown c some within e n g =
    let front : TokenFront joined (drop at text) len k = sound joined at (drop at text) (Ok (Kind k, len)) some e in
    record {
      within = within;
      utf8 = rw drop-drop at (kind_utf8 joined (drop at text) len k front c.utf8);
      stands = λ ts st. rw (g, append_assoc) (c.stands (token k at (at + len) ∷ ts) (kind_stands joined at len (drop at text) k ts front (rw (drop-drop len at text) (rw n at st))));
      fault = λ f st. c.fault f (kind_fault joined at len (drop at text) k f front (rw (drop-drop len at text) (rw n at st)));
    }

failed_at : (text : List ℕ) (joined : Bool) (at : ℕ) (found : List Token) (f : LexFault) → CutSo text joined at found → 1 ≤ length (drop at text) → piece joined at (drop at text) ≡ Err f → FirstFault false 0 text f
failed_at text joined at found f c some e = c.fault f (FirstFault.here joined at (drop at text) f (sound joined at (drop at text) (Err f) some e))

failed : (text : List ℕ) (joined : Bool) (at : ℕ) (found : List Token) (f : LexFault) → CutSo text joined at found → 1 ≤ length (drop at text) → Gives (piece joined at (drop at text)) (Err f) → IsFaultOf text f
failed text joined at found fault.Memory c some e = tt
failed text joined at found f c some e = failed_at text joined at found f c some e

pub failed_ahead : (text ahead : List ℕ) (joined : Bool) (at : ℕ) (found : List Token) (f : LexFault) → ahead ≡ drop at text → CutSo text joined at found → 1 ≤ length (drop at text) → Gives (piece joined at ahead) (Err f) → IsFaultOf text f
failed_ahead text ahead joined at found f same c some e = let P : List ℕ → Type 0 = λ y. Gives (piece joined at y) (Err f) in failed text joined at found f c some (subst P same e)

pub complete : (text : List ℕ) (joined : Bool) (at : ℕ) (found : List Token) → CutSo text joined at found → length text ≤ at → StandsFor false 0 text found
complete text joined at found c done =
    let none : drop at text ≡ [] = drop_all at text done in
    rw (append-nil found) at (c.stands [] (rw none (StandsFor.ended joined at)))
