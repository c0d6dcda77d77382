-- The names of each text have the forms of their spellings.
use Rattle.std.proofs.Common.{◌≡◌, ℕ, Bool, true, false, cond, nat_eq, List, [], ◌∷◌, Option, Some, None, unwrap_or, refl, sym, ap, subst}
use Rattle.std.specs.Cmp.Lexicographic.{pointwise}
use Rattle.std.specs.Str.{encode_utf8_all}
use Rattle.qtt_base.specs.declared.place.Span.{Span}
use Rattle.qtt_lexer.specs.Piece.{listed, reserved, reserved_words, pairs, singles}
use Rattle.qtt_lexer.specs.Place.{place_after}
use Rattle.qtt_lexer.specs.Forms.{IsToken, IsPart, Cut, AreLongest, with_token, tokens_of, IsText}
use Rattle.qtt_lexer.specs.Forms.IsToken.{word, hole, number, negative, text, one, two}
use Rattle.qtt_lexer.specs.declared.place.Place.{Place}
use Rattle.qtt_lexer.specs.declared.token.Token.{Token}
use Rattle.qtt_lexer.specs.declared.token.TokenKind.{TokenKind}
use Rattle.qtt_lexer.specs.declared.token.TokenKind.TheVariants as kind
use Rattle.qtt_layout.specs.Laws.{tokens_in, kept, kept_by}
use Rattle.qtt_layout.specs.Rules.{role_of}
use Rattle.qtt_layout.specs.declared.role.Role.{Role}
use Rattle.qtt_layout.specs.declared.role.Role.TheVariants as role
use Rattle.qtt_layout.specs.declared.laid.Laid.{Laid}
use Rattle.qtt_layout.specs.declared.laid.Laid.TheVariants as laid
use Rattle.qtt_grammar.specs.declared.class.Class.{Class}
use Rattle.qtt_grammar.specs.declared.class.Class.TheVariants as class
use Rattle.qtt_grammar.specs.Classes.{is_bound_or_name}
use Rattle.qtt_grammar.specs.declared.lexeme.Lexeme.{Lexeme}
use Rattle.qtt_grammar.specs.Lexeme.{name_class, number_class, token_lexeme, lexeme_of, takes_number, joined, lexemes}
use Rattle.qtt_reprint.specs.Sketch.{named_class}
use Rattle.qtt_reprint.specs.Spelled.{HasForm, HaveForms}
use Rattle.qtt_reprint.proofs.Gives.{Each}
use Rattle.qtt_reprint.proofs.Tokens.{IsNumber, number_is}
use Rattle.qtt_reprint.proofs.Tokens.IsNumber.{zero_class, one_class, natural_class, negative_class}

-- the kind of a token is no name spelled `_`
abbrev Fine : TokenKind → Type 0
Fine (kind.Name n) = named_class n ≡ name_class n
Fine _ = Unit {0}

-- ---- what is looked up

listed_case : (P : TokenKind → Type 0) (b : Bool) (x k : TokenKind) (rest : Option TokenKind) → P x →
    (rest ≡ Some k → P k)
    → cond b (Some x) rest ≡ Some k → P k
listed_case P true x k rest f g e = subst P (let h = e in cc) f
listed_case P false x k rest f g e = g e

-- what holds of all kinds of a list holds of what is looked up there
pub listed_each : (P : TokenKind → Type 0) (ps : List (List ℕ × TokenKind)) (w : List ℕ) (k : TokenKind) →
    Each (λ p. P p.1) ps
    → listed ps w ≡ Some k → P k
listed_each P [] w k f e = absurd cc
listed_each P (p ∷ ps) w k f e =
    listed_case P (pointwise nat_eq w p.0) p.1 k (listed ps w) f.0 (λ h. listed_each P ps w k f.1 h) e

missed_case : {A : Type 0} (b : Bool) (x : A) (rest : Option A) → cond b (Some x) rest ≡ None →
    (b ≡ false) × (rest ≡ None)
missed_case true x rest e = absurd cc
missed_case false x rest e = (refl, e)

listed_miss : (ps : List (List ℕ × TokenKind)) (w : List ℕ) → listed ps w ≡ None →
    Each (λ p. pointwise nat_eq w p.0 ≡ false) ps
listed_miss [] w e = tt
listed_miss (p ∷ ps) w e = let m =
    missed_case (pointwise nat_eq w p.0) p.1 (listed ps w) e in (m.0, listed_miss ps w m.1)

reserved_fine : Each (λ p. Fine p.1) reserved_words
reserved_fine = (tt, (tt, (tt, (tt, (tt, (tt, (tt, (tt, (tt, (tt, (tt, tt)))))))))))

unreserved : (w : List ℕ) → listed reserved_words w ≡ None → named_class w ≡ name_class w
unreserved w e = let m = listed_miss reserved_words w e in ap (λ (b : Bool). cond b class.Wildcard (name_class w))
    m.1.1.1.1.1.1.1.1.1.1.0

word_case : (o : Option TokenKind) (w : List ℕ) → listed reserved_words w ≡ o → Fine (unwrap_or o (kind.Name w))
word_case None w e = unreserved w e
word_case (Some k) w e = listed_each Fine reserved_words w k reserved_fine e

word_fine : (w : List ℕ) → Fine (unwrap_or (reserved w) (kind.Name w))
unfolding reserved
word_fine w = word_case (listed reserved_words w) w refl

token_fine : (k : TokenKind) (cs : List ℕ) → IsToken k cs → Fine k
token_fine k cs (word c ds j n e) = subst Fine (sym e) (word_fine (encode_utf8_all (c ∷ ds)))
token_fine k cs (hole c ds w n e h) = tt
token_fine k cs (number c n ds a d e) = tt
token_fine k cs (negative c n ds a d e) = tt
token_fine k cs (text body value ds s e) = tt
token_fine k cs (one c j e) = listed_each Fine singles (c ∷ []) j (tt, (tt, (tt, (tt, (tt, (tt, (tt, (tt, tt)))))))) e
token_fine k cs (two c d j e) = listed_each Fine pairs (c ∷ d ∷ []) j (tt, (tt, (tt, (tt, tt)))) e

-- ---- tokens of a text

abbrev FineToken : Token → Type 0
FineToken t = Fine t.kind

with_fine : (p : Place) (cut : Cut) (o : Option TokenKind) (ts : List Token) → IsPart o cut.characters →
    Each FineToken ts → Each FineToken (with_token p cut o ts)
with_fine p cut None ts f e = e
with_fine p cut (Some k) ts f e = (token_fine k cut.characters f, e)

cuts_fine : (p : Place) (cuts : List Cut) → AreLongest cuts → Each FineToken (tokens_of p cuts)
cuts_fine p [] a = (tt, tt)
cuts_fine p (cut ∷ cuts) a = with_fine p cut cut.kind _ a.0.form (cuts_fine (place_after p cut.characters) cuts a.1)

text_fine : (bytes : List ℕ) (ts : List Token) → IsText bytes ts → Each FineToken ts
text_fine bytes ts t = subst (Each FineToken) (sym t.parts.tokens) (cuts_fine _ t.parts.cuts t.parts.longest)

kept_case : (P : Token → Type 0) (r : Role) (t : Token) (rest : List Token) → P t → Each P rest →
    Each P (kept_by r t rest)
kept_case P role.Opener t rest f e = (f, e)
kept_case P role.LeftBracket t rest f e = (f, e)
kept_case P role.RightBracket t rest f e = (f, e)
kept_case P role.Semicolon t rest f e = e
kept_case P role.End t rest f e = tt
kept_case P role.Plain t rest f e = (f, e)

-- what holds of all tokens holds of those that are kept
pub kept_each : (P : Token → Type 0) (ts : List Token) → Each P ts → Each P (kept ts)
kept_each P [] e = tt
kept_each P (t ∷ ts) e = kept_case P (role_of t.kind) t (kept ts) e.0 (kept_each P ts e.1)

-- ---- lexemes

no_number : (c d : Class) → IsNumber c → is_bound_or_name c ≡ true → d ≡ c
no_number c d zero_class e = absurd cc
no_number c d one_class e = absurd cc
no_number c d natural_class e = absurd cc
no_number c d negative_class e = absurd cc

kind_form : (k : TokenKind) (s : Span) (t : List ℕ) → Fine k → HasForm (token_lexeme k s t)
kind_form (kind.Name n) s t f = λ e. f
kind_form kind.Wildcard s t f = λ e. refl
kind_form (kind.Number z) s t f = λ e. no_number (number_class t z) _ (number_is t z) e
kind_form _ s t f = λ e. absurd cc

laid_form : (x : Laid) → Each FineToken (tokens_in (x ∷ [])) → HasForm (lexeme_of x)
laid_form (laid.Open s) f = λ e. absurd cc
laid_form (laid.Next s) f = λ e. absurd cc
laid_form (laid.Close s) f = λ e. absurd cc
laid_form (laid.Tok t) f = kind_form t.kind t.span t.text f.0

joined_case : (b : Bool) (x y : Lexeme) (ls : List Lexeme) → HasForm x → HaveForms (y ∷ ls) →
    HaveForms (cond b (record x { number = y.number; number_place = y.place } ∷ ls) (x ∷ y ∷ ls))
joined_case true x y ls f g = (f, g.1)
joined_case false x y ls f g = (f, g)

joined_forms : (x : Lexeme) (ls : List Lexeme) → HasForm x → HaveForms ls → HaveForms (joined x ls)
joined_forms x [] f g = (f, tt)
joined_forms x (y ∷ ls) f g = joined_case (takes_number x y) x y ls f g

pub heads_each : (P : Token → Type 0) (x : Laid) (xs : List Laid) → Each P (tokens_in (x ∷ xs))
    → Each P (tokens_in (x ∷ [])) × Each P (tokens_in xs)
heads_each P (laid.Open s) xs e = (tt, e)
heads_each P (laid.Next s) xs e = (tt, e)
heads_each P (laid.Close s) xs e = (tt, e)
heads_each P (laid.Tok t) xs e = ((e.0, tt), e.1)

lexeme_forms : (ms : List Laid) → Each FineToken (tokens_in ms) → HaveForms (lexemes ms)
lexeme_forms [] e = tt
lexeme_forms (x ∷ xs) e = let h =
    heads_each FineToken x xs e in joined_forms (lexeme_of x) (lexemes xs) (laid_form x h.0) (lexeme_forms xs h.1)

pub text_forms : (bytes : List ℕ) (ts : List Token) (ms : List Laid) → IsText bytes ts → tokens_in ms ≡ kept ts →
    HaveForms (lexemes ms)
text_forms bytes ts ms t e =
    lexeme_forms ms (subst (Each FineToken) (sym e) (kept_each FineToken ts (text_fine bytes ts t)))
