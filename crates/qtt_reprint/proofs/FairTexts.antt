-- The words of each text can be written.
use Rattle.std.proofs.Common.{◌≡◌, ℕ, zero, suc, ◌^◌, ◌≤◌, ◌==◌, ◌&&◌, pos, negsuc, neg_ℤ, Bool, true, false, cond, List, [], ◌∷◌, ◌++◌, Option, Some, None, Ok, unwrap_or, encode_utf8, refl, sym, ap, subst, ◌∙◌, arith, codes, inl, inr}
use lib.Utf8.{encode}
use Rattle.std.proofs.lemmas.Str.{IsUtf8-append, IsUtf8-nil, IsUtf8-encode, IsUtf8-from_ascii, chars-IsAscii, chars_from_encodes, scalars-chars}
use Rattle.std.proofs.Math.Utf8.{scalar, scalars}
use Rattle.std.specs.Str.{IsUtf8, chars, encode_utf8_all}
use Rattle.qtt_base.specs.declared.place.Span.{Span}
use Rattle.qtt_base.specs.Parts.{has_long_part}
use Rattle.qtt_lexer.specs.Piece.{reserved, reserved_words, pairs, singles, names_hole}
use Rattle.qtt_lexer.specs.Place.{place_after}
use Rattle.qtt_lexer.specs.Lexed.{lexed}
use Rattle.qtt_lexer.specs.Forms.{IsName, Spells, IsToken, IsPart, Cut, AreLongest, AreSpelled, characters_of, with_token, tokens_of, IsText}
use Rattle.qtt_lexer.specs.Forms.Spells.{nothing, plain, escaped}
use Rattle.qtt_lexer.specs.Forms.IsToken.{word as a_word, hole as a_hole, number as a_number, negative as a_negative, text as a_text, one as a_single, two as a_pair}
use Rattle.qtt_lexer.specs.declared.place.Place.{Place}
use Rattle.qtt_lexer.specs.declared.token.Token.{Token}
use Rattle.qtt_lexer.specs.declared.token.TokenKind.{TokenKind}
use Rattle.qtt_lexer.specs.declared.token.TokenKind.TheVariants as kind
use Rattle.qtt_lexer.proofs.Ascii.{begins_part-ascii}
use Rattle.qtt_lexer.proofs.Cutting.{lexed-text, lexed-utf8}
use Rattle.qtt_layout.specs.Laws.{tokens_in, kept}
use Rattle.qtt_layout.specs.declared.laid.Laid.{Laid}
use Rattle.qtt_layout.specs.declared.laid.Laid.TheVariants as laid
use Rattle.qtt_syntax.specs.Words.Word.{named, numeral, type_at, quoted, hole_named}
use Rattle.qtt_grammar.specs.declared.class.Class.{Class}
use Rattle.qtt_grammar.specs.declared.class.Class.TheVariants as class
use Rattle.qtt_grammar.specs.Classes.{is_bound_or_name, is_number, is_hole, is_type, is_natural}
use Rattle.qtt_grammar.specs.declared.lexeme.Lexeme.{Lexeme}
use Rattle.qtt_grammar.specs.Lexeme.{name_class, number_class, token_lexeme, lexeme_of, takes_number, joined, lexemes}
use Rattle.qtt_grammar.specs.Limits.{number_of}
use Rattle.qtt_reprint.specs.Spelled.{HaveForms}
use Rattle.qtt_reprint.proofs.Allowed.{IsFair}
use Rattle.qtt_reprint.proofs.Gives.{Each}
use Rattle.qtt_reprint.proofs.Lexing.{both}
use Rattle.qtt_reprint.proofs.LexedWords.{ascii_list}
use Rattle.qtt_reprint.proofs.Steps.{Fit, Names, Hole_well}
use Rattle.qtt_reprint.proofs.TextForms.{listed_each, kept_each, heads_each, text_forms}
use Rattle.qtt_reprint.proofs.Tokens.{IsNumber, number_is}
use Rattle.qtt_reprint.proofs.Tokens.IsNumber.{zero_class, one_class, natural_class, negative_class}

-- the value of a token can be written
abbrev Kind_fit : TokenKind → Type 0
Kind_fit (kind.Name n) = Fit (named n)
Kind_fit (kind.Number z) = Fit (numeral z)
Kind_fit (kind.Text v) = Fit (quoted v)
Kind_fit (kind.Hole n) = Fit (hole_named n)
Kind_fit _ = Unit {0}

-- ---- tokens

reserved_fit : Each (λ p. Kind_fit p.1) reserved_words
reserved_fit = (tt, (tt, (tt, (tt, (tt, (tt, (tt, (tt, (tt, (tt, (tt, tt)))))))))))

utf8_of : (cs : List ℕ) → scalars cs ≡ true → IsUtf8 (encode_utf8_all cs)
utf8_of cs s = (cs, (s, refl))

names_of : (c : ℕ) (cs : List ℕ) → scalars (c ∷ cs) ≡ true → IsName c cs → Names (chars (encode_utf8_all (c ∷ cs)))
names_of c cs s h = record {
  head = c;
  tail = cs;
  are = sym (chars_from_encodes (c ∷ cs) (encode_utf8_all (c ∷ cs)) (utf8_of (c ∷ cs) s) refl);
  form = h;
}

word_fit : (o : Option TokenKind) (c : ℕ) (cs : List ℕ) → scalars (c ∷ cs) ≡ true → IsName c cs →
    reserved (encode_utf8_all (c ∷ cs)) ≡ o
    → Kind_fit (unwrap_or o (kind.Name (encode_utf8_all (c ∷ cs))))
unfolding reserved
word_fit None c cs s h e = record { utf8 = utf8_of (c ∷ cs) s; names = names_of c cs s h; free = inl e }
word_fit (Some k) c cs s h e = listed_each Kind_fit reserved_words (encode_utf8_all (c ∷ cs)) k reserved_fit e

negative_fit : (n : ℕ) → n ≤ 2 ^ 63 → Fit (numeral (neg_ℤ (pos n)))
negative_fit zero h = omega arith
negative_fit (suc n) h = h

scalar_of : (n k : ℕ) → Some n ≡ Some k → scalar n ≡ true → scalar k ≡ true
scalar_of n k e s = let same : n ≡ k = cc in subst (λ (m : ℕ). scalar m ≡ true) same s

escape_case : (a b c d : Bool) (k : ℕ) →
    cond a (Some 10) (cond b (Some 9) (cond c (Some 92) (cond d (Some 34) None))) ≡ Some k
    → scalar k ≡ true
escape_case true b c d k e = scalar_of 10 k e refl
escape_case false true c d k e = scalar_of 9 k e refl
escape_case false false true d k e = scalar_of 92 k e refl
escape_case false false false true k e = scalar_of 34 k e refl
escape_case false false false false k e = absurd cc

spelled_utf8 : (body value : List ℕ) → scalars body ≡ true → Spells body value → IsUtf8 value
spelled_utf8 body value s nothing = IsUtf8-nil
spelled_utf8 body value s (plain c more rest v h i j m e) =
    let g = both (scalar c) (scalars more) s in
    subst IsUtf8 (sym e) (IsUtf8-append (encode_utf8 c) rest (IsUtf8-encode c g.0) (spelled_utf8 more rest g.1 m))
spelled_utf8 body value s (escaped y c more rest v h k m e) =
    let g = both (scalar y) (scalars more) (both true (scalar y && scalars more) s).1 in
    subst IsUtf8 (sym e)
    (IsUtf8-append (encode_utf8 c) rest (IsUtf8-encode c (escape_case (y == 110) (y == 116) (y == 92) (y == 34) c k))
    (spelled_utf8 more rest g.1 m))

scalars_split : (cs ds : List ℕ) → scalars (cs ++ ds) ≡ true → (scalars cs ≡ true) × (scalars ds ≡ true)
scalars_split [] ds s = (refl, s)
scalars_split (c ∷ cs) ds s =
    let g = both (scalar c) (scalars (cs ++ ds)) s in
    let h = scalars_split cs ds g.1 in
    (rw (g.0, h.0) refl, h.1)

token_fit : (k : TokenKind) (cs : List ℕ) → scalars cs ≡ true → IsToken k cs → Kind_fit k
token_fit k cs s (a_word c ds j n e) =
    subst Kind_fit (sym e) (word_fit (reserved (encode_utf8_all (c ∷ ds))) c ds s n refl)
token_fit k cs s (a_hole c ds w n e h) =
    let t = (both true (scalars (c ∷ ds)) s).1 in
    subst (λ (v : List ℕ). Hole_well v) (sym e)
    (record { utf8 = utf8_of (c ∷ ds) t; names = names_of c ds t n; simple = ap names_hole (sym e) ∙ h })
token_fit k cs s (a_number c n ds a d e) = e
token_fit k cs s (a_negative c n ds a d e) = negative_fit n e
token_fit k cs s (a_text body value ds m e) =
    spelled_utf8 body value (scalars_split body (34 ∷ [])
    (both true (scalars (body ++ 34 ∷ [])) (ap scalars (sym e) ∙ s)).1).0 m
token_fit k cs s (a_single c j e) =
    listed_each Kind_fit singles (c ∷ []) j (tt, (tt, (tt, (tt, (tt, (tt, (tt, (tt, tt)))))))) e
token_fit k cs s (a_pair c d j e) = listed_each Kind_fit pairs (c ∷ d ∷ []) j (tt, (tt, (tt, (tt, tt)))) e

-- ---- tokens of a text

abbrev Token_fit : Token → Type 0
Token_fit t = Kind_fit t.kind

with_fit : (p : Place) (cut : Cut) (o : Option TokenKind) (ts : List Token) → scalars cut.characters ≡ true →
    IsPart o cut.characters
    → Each Token_fit ts → Each Token_fit (with_token p cut o ts)
with_fit p cut None ts s f e = e
with_fit p cut (Some k) ts s f e = (token_fit k cut.characters s f, e)

cuts_fit : (p : Place) (cuts : List Cut) → scalars (characters_of cuts) ≡ true → AreLongest cuts →
    Each Token_fit (tokens_of p cuts)
cuts_fit p [] s a = (tt, tt)
cuts_fit p (cut ∷ cuts) s a =
    let g =
    scalars_split cut.characters (characters_of cuts) s in with_fit p cut cut.kind _ g.0 a.0.form
    (cuts_fit (place_after p cut.characters) cuts g.1 a.1)

characters_scalar : (bytes cs : List ℕ) → IsUtf8 bytes → AreSpelled bytes cs → scalars cs ≡ true
characters_scalar bytes cs u (inl e) = ap scalars (chars_from_encodes cs bytes u e) ∙ scalars-chars bytes u
characters_scalar bytes cs u (inr e) =
    (both (scalar 0xFEFF) (scalars cs)
    (ap scalars (chars_from_encodes (0xFEFF ∷ cs) bytes u e) ∙ scalars-chars bytes u)).1

text_fit : (bytes : List ℕ) (ts : List Token) → IsUtf8 bytes → IsText bytes ts → Each Token_fit ts
text_fit bytes ts u t =
    subst (Each Token_fit) (sym t.parts.tokens)
    (cuts_fit _ t.parts.cuts (ap scalars t.parts.whole ∙ characters_scalar bytes t.characters u t.spelled)
    t.parts.longest)

-- ---- lexemes

underscore_short : has_long_part (encode_utf8_all (95 ∷ [])) ≡ false
unfolding encode
underscore_short = refl

pub wild : Fit (named (codes "_"))
wild = record {
  utf8 = IsUtf8-from_ascii (codes "_") (ascii_list (codes "_") refl);
  names =
      record {
        head = 95;
        tail = [];
        are = chars-IsAscii (codes "_") (ascii_list (codes "_") refl);
        form = record { begins = begins_part-ascii 95 (omega arith); goes_on = refl; short = underscore_short };
      };
  free = inr refl;
}

-- the words of a lexeme can be written
record Words_fit (x : Lexeme) : Type 0 where
  name : is_bound_or_name x.class ≡ true → Fit (named x.name)
  number : is_number x.class ≡ true → Fit (numeral x.number)
  text : x.class ≡ class.Text → Fit (quoted x.text)
  level : x.class ≡ class.Universe → Fit (type_at (number_of x.number))
  hole : is_hole x.class ≡ true → Fit (hole_named x.name)

-- the forms of names
pub data IsNamed : Class → Type 0 where
  small : IsNamed class.Small
  big : IsNamed class.Big
  small_path : IsNamed class.SmallPath
  big_path : IsNamed class.BigPath

cond_named : (b : Bool) (c d : Class) → IsNamed c → IsNamed d → IsNamed (cond b c d)
cond_named true c d i j = i
cond_named false c d i j = j

pub name_is : (n : List ℕ) → IsNamed (name_class n)
name_is n = cond_named _ _ _ (cond_named _ _ _ big small) (cond_named _ _ _ big_path small_path)

named_fit : (x : Lexeme) (c : Class) → x.class ≡ c → IsNamed c → Fit (named x.name) → Words_fit x
named_fit x c e small f = record {
  name = λ h. f;
  number = λ h. absurd cc;
  text = λ h. absurd cc;
  level = λ h. absurd cc;
  hole = λ h. absurd cc;
}
named_fit x c e big f = record {
  name = λ h. f;
  number = λ h. absurd cc;
  text = λ h. absurd cc;
  level = λ h. absurd cc;
  hole = λ h. absurd cc;
}
named_fit x c e small_path f = record {
  name = λ h. f;
  number = λ h. absurd cc;
  text = λ h. absurd cc;
  level = λ h. absurd cc;
  hole = λ h. absurd cc;
}
named_fit x c e big_path f = record {
  name = λ h. f;
  number = λ h. absurd cc;
  text = λ h. absurd cc;
  level = λ h. absurd cc;
  hole = λ h. absurd cc;
}

number_fit : (x : Lexeme) (c : Class) → x.class ≡ c → IsNumber c → Fit (numeral x.number) → Words_fit x
number_fit x c e zero_class f = record {
  name = λ h. absurd cc;
  number = λ h. f;
  text = λ h. absurd cc;
  level = λ h. absurd cc;
  hole = λ h. absurd cc;
}
number_fit x c e one_class f = record {
  name = λ h. absurd cc;
  number = λ h. f;
  text = λ h. absurd cc;
  level = λ h. absurd cc;
  hole = λ h. absurd cc;
}
number_fit x c e natural_class f = record {
  name = λ h. absurd cc;
  number = λ h. f;
  text = λ h. absurd cc;
  level = λ h. absurd cc;
  hole = λ h. absurd cc;
}
number_fit x c e negative_class f = record {
  name = λ h. absurd cc;
  number = λ h. f;
  text = λ h. absurd cc;
  level = λ h. absurd cc;
  hole = λ h. absurd cc;
}

-- a mark, or a token as it stands
lexeme_fit : (k : TokenKind) (s : Span) (t found : List ℕ) → Kind_fit k →
    Words_fit (record (token_lexeme k s t) { found = found })
lexeme_fit (kind.Name n) s t found f = named_fit _ (name_class n) refl (name_is n) f
lexeme_fit kind.Wildcard s t found f = record {
  name = λ h. wild;
  number = λ h. absurd cc;
  text = λ h. absurd cc;
  level = λ h. absurd cc;
  hole = λ h. absurd cc;
}
lexeme_fit (kind.Number z) s t found f = number_fit _ (number_class t z) refl (number_is t z) f
lexeme_fit (kind.Text v) s t found f = record {
  name = λ h. absurd cc;
  number = λ h. absurd cc;
  text = λ h. f;
  level = λ h. absurd cc;
  hole = λ h. absurd cc;
}
lexeme_fit (kind.Hole n) s t found f = record {
  name = λ h. absurd cc;
  number = λ h. absurd cc;
  text = λ h. absurd cc;
  level = λ h. absurd cc;
  hole = λ h. f;
}
lexeme_fit kind.Type s t found f = record {
  name = λ h. absurd cc;
  number = λ h. absurd cc;
  text = λ h. absurd cc;
  level = λ h. omega arith;
  hole = λ h. absurd cc;
}
lexeme_fit _ s t found f = record {
  name = λ h. absurd cc;
  number = λ h. absurd cc;
  text = λ h. absurd cc;
  level = λ h. absurd cc;
  hole = λ h. absurd cc;
}

laid_fit : (x : Laid) → Each Token_fit (tokens_in (x ∷ [])) → Words_fit (lexeme_of x)
laid_fit (laid.Open s) f = record {
  name = λ h. absurd cc;
  number = λ h. absurd cc;
  text = λ h. absurd cc;
  level = λ h. absurd cc;
  hole = λ h. absurd cc;
}
laid_fit (laid.Next s) f = record {
  name = λ h. absurd cc;
  number = λ h. absurd cc;
  text = λ h. absurd cc;
  level = λ h. absurd cc;
  hole = λ h. absurd cc;
}
laid_fit (laid.Close s) f = record {
  name = λ h. absurd cc;
  number = λ h. absurd cc;
  text = λ h. absurd cc;
  level = λ h. absurd cc;
  hole = λ h. absurd cc;
}
laid_fit (laid.Tok t) f = lexeme_fit t.kind t.span t.text t.text f.0

natural_number : (c : Class) → is_natural c ≡ true → is_number c ≡ true
natural_number class.Zero e = refl
natural_number class.One e = refl
natural_number class.Natural e = refl
natural_number _ e = absurd cc

type_number : (c : Class) → is_type c ≡ true → is_number c ≡ true → ⊥
type_number class.Universe e f = cc
type_number _ e f = absurd cc

level_of : (z : _) → Fit (numeral z) → Fit (type_at (number_of z))
level_of (pos n) f = f
level_of (negsuc n) f = omega arith

-- `Type` with the number behind it
taken_fit : (x y : Lexeme) → takes_number x y ≡ true → Words_fit x → Words_fit y
    → Words_fit (record x { number = y.number; number_place = y.place })
taken_fit x y e f g =
    let h = both (is_type x.class) (is_natural y.class) e in
    record {
      name = f.name;
      number = λ n. absurd (type_number x.class h.0 n);
      text = f.text;
      level = λ l. level_of y.number (g.number (natural_number y.class h.1));
      hole = f.hole;
    }

joined_case : (b : Bool) (x y : Lexeme) (ls : List Lexeme) → takes_number x y ≡ b → Words_fit x →
    Each Words_fit (y ∷ ls)
    → Each Words_fit (cond b (record x { number = y.number; number_place = y.place } ∷ ls) (x ∷ y ∷ ls))
joined_case true x y ls e f g = (taken_fit x y e f g.0, g.1)
joined_case false x y ls e f g = (f, g)

joined_fit : (x : Lexeme) (ls : List Lexeme) → Words_fit x → Each Words_fit ls → Each Words_fit (joined x ls)
joined_fit x [] f g = (f, tt)
joined_fit x (y ∷ ls) f g = joined_case (takes_number x y) x y ls refl f g

lexemes_fit : (ms : List Laid) → Each Token_fit (tokens_in ms) → Each Words_fit (lexemes ms)
lexemes_fit [] e = tt
lexemes_fit (x ∷ xs) e = let h =
    heads_each Token_fit x xs e in joined_fit (lexeme_of x) (lexemes xs) (laid_fit x h.0) (lexemes_fit xs h.1)

fair_lexemes : (ls : List Lexeme) → HaveForms ls → Each Words_fit ls → Each (IsFair Fit) ls
fair_lexemes [] h f = tt
fair_lexemes (x ∷ ls) h f = (
  record {
    named = λ e.
        (h.0 e, f.0.name e);
    number = f.0.number;
    text = f.0.text;
    level = f.0.level;
    hole = f.0.hole;
  },
  fair_lexemes ls h.1 f.1,
)

-- in the tokens of a text, laid out, each name has the form of its spelling, and each word can be written
pub fair_text : (bytes : List ℕ) (ts : List Token) (ms : List Laid) → lexed bytes ≡ Ok ts → tokens_in ms ≡ kept ts
    → Each (IsFair Fit) (lexemes ms)
fair_text bytes ts ms h e =
    let t = lexed-text bytes ts h in
    fair_lexemes (lexemes ms) (text_forms bytes ts ms t e)
    (lexemes_fit ms (subst (Each Token_fit) (sym e)
    (kept_each Token_fit ts (text_fit bytes ts (lexed-utf8 bytes ts h) t))))
