-- The tokens of a text without a zero byte are plain, and the tables that it creates are sound.
use Rattle.std.proofs.Common.{ℕ, Bool, List, ◌∷◌, length, ◌+◌, All, arith}
use Rattle.std.proofs.lemmas.List.{length-map}
use Rattle.std.proofs.lemmas.List.Elements.{All-nil, All-cons, All-contains}
use Rattle.std.specs.Char.{to_ascii_lowercase}
use Rattle.sql_tree.specs.declared.token.Token.{Token}
use Rattle.sql_tree.specs.declared.token.TokenKind.{TokenKind}
use Rattle.sql_lexer.specs.Lexemes.{IsToken}
use Rattle.sql_lexer.specs.Tokens.{token, StandsFor}
use Rattle.cell_base.specs.Texts.{HasNoZero}
use Rattle.sql_grammar.specs.Limited.{IsPlainKind}
use Rattle.sound_text.specs.Laws.{TokensArePlain, BuiltIsSound}
use Rattle.sound_text.proofs.Zeros.{before, following, folded_free, quoted_free}

kind_plain : {joined : Bool} {bytes after : List ℕ} {k : TokenKind} → IsToken joined bytes after k → HasNoZero bytes → IsPlainKind k
kind_plain (IsToken.word joined b bytes after start all stops short free) h =
    let long = length-map (b ∷ bytes) to_ascii_lowercase in
    record { fits = omega (arith, long, short); no_zero = folded_free (b ∷ bytes) h }
kind_plain (IsToken.quoted joined name after stops some short) h = record { fits = short; no_zero = quoted_free 34 name h }
kind_plain (IsToken.string joined text after stops) h = quoted_free 39 text h
kind_plain (IsToken.number joined b bytes after start all stops whole small) h = tt
kind_plain (IsToken.parameter joined b bytes after start all short stops) h = tt
kind_plain (IsToken.sign joined b after s is stops) h = tt
kind_plain (IsToken.sign_of_two_bytes joined b c after s is) h = tt
kind_plain (IsToken.point joined after stops) h = tt

abbrev Plain : Token → Type 0
Plain t = IsPlainKind t.kind

all_plain : {joined : Bool} {at : ℕ} {text : List ℕ} {ts : List Token} → StandsFor joined at text ts → HasNoZero text → All Plain ts
all_plain (StandsFor.ended joined at) h = All-nil Plain
all_plain (StandsFor.gap joined at bytes after ts p s) h = all_plain s (following bytes after h)
all_plain (StandsFor.kind joined at bytes after k ts p s) h =
    All-cons Plain (token k at (at + length bytes)) ts (kind_plain p (before bytes after h)) (all_plain s (following bytes after h))

pub tokens_plain : TokensArePlain
tokens_plain text tokens h cut t at = All-contains Plain tokens t (all_plain cut h) at

pub built_sound : BuiltIsSound
built_sound text statements create table h read among built = record {
  tokens = read.tokens;
  plain = tokens_plain text read.tokens h read.cut;
  statements = statements;
  read = read.limited;
  create = create;
  among = among;
  built = built;
}
