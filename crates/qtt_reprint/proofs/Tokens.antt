-- Single printed words, read back.
use Rattle.std.proofs.Common.{◌≡◌, ℕ, ℤ, pos, negsuc, Bool, true, false, cond, List, [], ◌∷◌, Some, None, refl, ap, ◌∙◌}
use Rattle.std.specs.Fmt.{digits, signed_decimal}
use Rattle.qtt_base.specs.declared.place.Span.{Span}
use Rattle.qtt_usage.specs.declared.mult.Mult.{Mult}
use Rattle.qtt_usage.specs.declared.mult.Mult.TheVariants.{Zero, One, Many}
use Rattle.qtt_syntax.specs.declared.expr.Target.TheVariants.{Unknown}
use Rattle.qtt_syntax.specs.declared.expr.Named as named_code
use Rattle.qtt_syntax.specs.declared.expr.Local.{Local}
use Rattle.qtt_syntax.specs.Tree.{Tree}
use Rattle.qtt_syntax.specs.Tree.Tree.{number, text, universe}
use Rattle.qtt_phrase.specs.Phrase.{Weighed, Token}
use Rattle.qtt_grammar.specs.declared.class.Class.{Class}
use Rattle.qtt_grammar.specs.declared.class.Class.TheVariants as class
use Rattle.qtt_grammar.specs.declared.class.Pass.{Pass}
use Rattle.qtt_grammar.specs.Classes.{is_word, is_digit, is_zero}
use Rattle.qtt_grammar.specs.declared.lexeme.Lexeme.{Lexeme}
use Rattle.qtt_grammar.specs.Lexeme.{type_lexeme, text_lexeme, number_class, sign_class}
use Rattle.qtt_grammar.specs.Limits.{word_excess, excess_of}
use Rattle.qtt_grammar.specs.Grammar.{of, place, Symbol, Opening, Locally, IsMark, local_of, named_of, mult_of, word_of}
use Rattle.qtt_reprint.specs.Sketch.{nowhere, unplaced, named_class}
use Rattle.qtt_reprint.specs.Unplaced.{bare, bare_named, bare_local}
use Rattle.qtt_reprint.proofs.Prints.{Prints, token, weighed, something, nothing}
use Rattle.qtt_reprint.proofs.Saying.{mark, named, numeral, say_mark}

-- ---- symbols and names

pub symbol : (is : Class → Bool) (c : Class) → is c ≡ true → Prints (Symbol is) (mark c ∷ []) (λ s. Unit {0})
symbol is c e = token is place (mark c) e (λ x h. tt)

pub opening : (is : Class → Bool) (c : Class) → is c ≡ true → Prints (Opening true is) (mark c ∷ []) (λ s. Unit {0})
opening is c e = token is place (mark c) e (λ x h. tt)

abbrev pub local_named : List ℕ → Local
local_named n = record { name = n; span = nowhere }

pub locally : (is : Class → Bool) (n : List ℕ) → is (named_class n) ≡ true →
    Prints (Locally is) (named n ∷ []) (λ l. bare_local l ≡ local_named n)
locally is n e = token is local_of (named n) e (λ x h. ap (λ (y : Lexeme). local_named y.name) h)

pub any_mark : (m : Mult) → Prints IsMark (say_mark m) (λ k. k ≡ m)
unfolding digits
any_mark Zero = something
    (token is_digit (λ x. mult_of x.class) (numeral (pos 0)) refl (λ x h. ap (λ (y : Lexeme). mult_of y.class) h))
any_mark One = something (token is_digit (λ x. mult_of x.class) (numeral (pos 1)) refl
    (λ x h. ap (λ (y : Lexeme). mult_of y.class) h))
any_mark Many = nothing Many refl

pub zero_token : Prints (Token (of is_zero) (λ x. mult_of x.class)) (numeral (pos 0) ∷ []) (λ k. k ≡ Zero)
unfolding digits
zero_token = token is_zero (λ x. mult_of x.class) (numeral (pos 0)) refl (λ x h. ap (λ (y : Lexeme). mult_of y.class) h)

-- ---- atoms that are no names

-- no fault is told, whatever it would be
pub excess_case : {F : Type 0} (b : Bool) (f g : F) → cond b (Some f) None ≡ None → cond b (Some g) None ≡ None
excess_case true f g e = absurd cc
excess_case false f g e = refl

excess_elsewhere : (pass : Pass) (c : Class) (x : Lexeme) → word_excess pass c (unplaced x) ≡ None →
    word_excess pass c x ≡ None
excess_elsewhere pass class.Text x e = excess_case _ _ _ e
excess_elsewhere pass class.Universe x e = excess_case _ _ _ e
excess_elsewhere pass _ x e = refl

bare_word : (c : Class) (x : Lexeme) → bare (word_of c x) ≡ bare (word_of c (unplaced x))
bare_word class.Text x = refl
bare_word class.Universe x = refl
bare_word _ x = refl

pub word_token : (pass : Pass) (w : Lexeme) (t : Tree) → is_word w.class ≡ true → excess_of pass w ≡ None →
    bare (word_of w.class w) ≡ bare t →
    Prints (Weighed (excess_of pass) (of is_word) (λ x. word_of x.class x)) (w ∷ []) (λ u. bare u ≡ bare t)
word_token pass w t e f g =
    weighed (excess_of pass) is_word (λ x. word_of x.class x) w e
    (λ x h. (
      excess_elsewhere pass x.class x (ap (λ (y : Lexeme). word_excess pass y.class y) h ∙ f),
      bare_word x.class x ∙ ap (λ (y : Lexeme). bare (word_of y.class y)) h ∙ g,
    ))

-- the forms of numbers
pub data IsNumber : Class → Type 0 where
  zero_class : IsNumber class.Zero
  one_class : IsNumber class.One
  natural_class : IsNumber class.Natural
  negative_class : IsNumber class.Negative

sign_number : (z : ℤ) → IsNumber (sign_class z)
sign_number (pos n) = natural_class
sign_number (negsuc n) = negative_class

cond_number : (b : Bool) (c d : Class) → IsNumber c → IsNumber d → IsNumber (cond b c d)
cond_number true c d i j = i
cond_number false c d i j = j

pub number_is : (bs : List ℕ) (z : ℤ) → IsNumber (number_class bs z)
number_is [] z = sign_number z
number_is (b ∷ []) z = cond_number _ _ _ zero_class (cond_number _ _ _ one_class (sign_number z))
number_is (b ∷ c ∷ bs) z = sign_number z

number_word : (c : Class) → IsNumber c → is_word c ≡ true
number_word c zero_class = refl
number_word c one_class = refl
number_word c natural_class = refl
number_word c negative_class = refl

number_excess : (pass : Pass) (c : Class) (x : Lexeme) → IsNumber c → word_excess pass c x ≡ None
number_excess pass c x zero_class = refl
number_excess pass c x one_class = refl
number_excess pass c x natural_class = refl
number_excess pass c x negative_class = refl

number_value : (c : Class) (x : Lexeme) → IsNumber c → word_of c x ≡ number x.number x.place
number_value c x zero_class = refl
number_value c x one_class = refl
number_value c x natural_class = refl
number_value c x negative_class = refl

pub number_token : (pass : Pass) (z : ℤ) (s : Span) →
    Prints (Weighed (excess_of pass) (of is_word) (λ x. word_of x.class x)) (numeral z ∷ [])
    (λ u. bare u ≡ bare (number z s))
number_token pass z s =
    let i = number_is (signed_decimal z) z in
    word_token pass (numeral z) (number z s) (number_word (numeral z).class i)
    (number_excess pass (numeral z).class (numeral z) i)
    (ap bare (number_value (numeral z).class (numeral z) i))

pub text_token : (pass : Pass) (v : List ℕ) (s : Span) → excess_of pass (text_lexeme nowhere v) ≡ None →
    Prints (Weighed (excess_of pass) (of is_word) (λ x. word_of x.class x)) (text_lexeme nowhere v ∷ [])
    (λ u. bare u ≡ bare (text v s))
text_token pass v s e = word_token pass (text_lexeme nowhere v) (text v s) refl e refl

pub type_token : (pass : Pass) (l : ℕ) (ls s : Span) → excess_of pass (type_lexeme nowhere l nowhere) ≡ None →
    Prints (Weighed (excess_of pass) (of is_word) (λ x. word_of x.class x)) (type_lexeme nowhere l nowhere ∷ [])
    (λ u. bare u ≡ bare (universe l ls s))
type_token pass l ls s e = word_token pass (type_lexeme nowhere l nowhere) (universe l ls s) refl e refl

pub named_token : (is : Class → Bool) (n : named_code.Named) → n.target ≡ Unknown →
    is (named_class n.path) ≡ true →
    Prints (Token (of is) named_of) (named n.path ∷ []) (λ u. bare_named u ≡ bare_named n)
named_token is n t e = token is named_of (named n.path) e
    (λ x h. ap (λ (y : Lexeme). bare_named (named_of y)) h ∙ rw t refl)
