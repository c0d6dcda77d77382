-- The names in generated modules can be written, and have the forms that the grammar asks for.
use Rattle.std.proofs.Common.{◌≡◌, ℕ, ◌<◌, ◌≤◌, ◌^◌, ◌==◌, ◌&&◌, nat_eq, Bool, true, false, cond, List, [], ◌∷◌, ◌++◌, length, codes, Some, None, refl, sym, ap, ◌∙◌, arith, inl}
use Rattle.std.proofs.lemmas.Bool.Decides.{nat_tests}
use Rattle.std.specs.Char.{is_ascii_alphabetic, is_ascii_alphanumeric, is_ascii_digit, is_ascii_uppercase}
use Rattle.std.specs.Cmp.Lexicographic.{pointwise}
use Rattle.std.specs.Fmt.{decimal}
use Rattle.std.specs.List.{list_all}
use Rattle.std.specs.Str.{all_ascii_digits}
use Rattle.qtt_lexer.specs.Names.{last_part, begins_big}
use Rattle.qtt_lexer.specs.Piece.{reserved}
use Rattle.qtt_lexer.specs.declared.token.TokenKind.TheVariants as kind
use Rattle.qtt_grammar.specs.declared.class.Class.{Class}
use Rattle.qtt_grammar.specs.declared.class.Class.TheVariants as class
use Rattle.qtt_grammar.specs.Lexeme.{name_class}
use Rattle.qtt_reprint.specs.Sketch.{named_class}
use Rattle.qtt_reprint.proofs.Lexing.{decimal_digits, digit_first}
use Rattle.qtt_reprint.proofs.Steps.{Named_well}
use Rattle.qtt_gen.specs.Generated.{numbered, module_name, function_name, proof_name}
use Rattle.qtt_gen_laws.proofs.Names.{Alphanumeric, name_utf8, name_chars, name_form, name_parts, numbers, numbers_all}
use Rattle.qtt_gen_laws.proofs.Lengths.{numbers_few}

-- ---- names of letters and digits

pub can_be_written : (c : ℕ) (cs : List ℕ) → Alphanumeric c cs → reserved (c ∷ cs) ≡ None → Named_well (c ∷ cs)
can_be_written c cs a e = record {
  utf8 = name_utf8 c cs a;
  names = record { head = c; tail = cs; are = name_chars c cs a; form = name_form c cs a };
  free = inl e;
}

class_of : (c : ℕ) (cs : List ℕ) → Alphanumeric c cs →
    name_class (c ∷ cs) ≡ cond (is_ascii_uppercase c) class.Big class.Small
class_of c cs a =
    ap (λ (ps : List (List ℕ)). cond (length ps == 1) (cond (begins_big (last_part ps)) class.Big class.Small)
    (cond (begins_big (last_part ps)) class.BigPath class.SmallPath))
    (name_parts c cs a)

word : (c : ℕ) (cs : List ℕ) → is_ascii_alphabetic c ≡ true → list_all is_ascii_alphanumeric cs ≡ true →
    length cs ≤ 254 → reserved (c ∷ cs) ≡ None → Named_well (c ∷ cs)
word c cs h all few e = can_be_written c cs (record { letter = h; rest = all; few = few }) e

-- ---- the words of Prim, of Main and of an argument

pub int : Named_well (codes "Int")
unfolding reserved
int = word 73 (codes "nt") refl refl (omega arith) refl

pub eq : Named_well (codes "Eq")
unfolding reserved
eq = word 69 (codes "q") refl refl (omega arith) refl

pub refl_word : Named_well (codes "Refl")
unfolding reserved
refl_word = word 82 (codes "efl") refl refl (omega arith) refl

pub add_int : Named_well (codes "addInt")
unfolding reserved
add_int = word 97 (codes "ddInt") refl refl (omega arith) refl

pub mul_int : Named_well (codes "mulInt")
unfolding reserved
mul_int = word 109 (codes "ulInt") refl refl (omega arith) refl

pub x_word : Named_well (codes "x")
unfolding reserved
x_word = word 120 [] refl refl (omega arith) refl

pub main_small : Named_well (codes "main")
unfolding reserved
main_small = word 109 (codes "ain") refl refl (omega arith) refl

pub main_big : Named_well (codes "Main")
unfolding reserved
main_big = word 77 (codes "ain") refl refl (omega arith) refl

pub io : Named_well (codes "IO")
unfolding reserved
io = word 73 (codes "O") refl refl (omega arith) refl

pub unit : Named_well (codes "Unit")
unfolding reserved
unit = word 85 (codes "nit") refl refl (omega arith) refl

pub put_line : Named_well (codes "putLine")
unfolding reserved
put_line = word 112 (codes "utLine") refl refl (omega arith) refl

pub show_int : Named_well (codes "showInt")
unfolding reserved
show_int = word 115 (codes "howInt") refl refl (omega arith) refl

-- ---- numbered names

-- a name that can be written, of this form
pub record Named_as (c : Class) (n : List ℕ) : Type 0 where
  pub class : named_class n ≡ c
  pub well : Named_well n

behind_letter : (c i j : ℕ) → i < 2 ^ 64 → j < 2 ^ 64 → is_ascii_alphabetic c ≡ true → Alphanumeric c (numbers i j)
behind_letter c i j h k e = record {
  letter = e;
  rest = numbers_all i j (decimal_digits i h).all (decimal_digits j k).all;
  few = omega (arith, numbers_few i j h k);
}

pub module_named : (i j : ℕ) → i < 2 ^ 64 → j < 2 ^ 64 → Named_as class.Big (module_name i j)
unfolding numbered reserved
module_named i j h k =
    let a = behind_letter 71 i j h k refl in
    record { class = class_of 71 (numbers i j) a; well = can_be_written 71 (numbers i j) a refl }

pub function_named : (i j : ℕ) → i < 2 ^ 64 → j < 2 ^ 64 → Named_as class.Small (function_name i j)
unfolding numbered reserved
function_named i j h k =
    let a = behind_letter 102 i j h k refl in
    record { class = class_of 102 (numbers i j) a; well = can_be_written 102 (numbers i j) a refl }

no_digit : (d : ℕ) → is_ascii_digit d ≡ true → nat_eq d 97 ≡ false
no_digit d h = grind (arith, nat_tests)

-- no digit goes on to `partial`
not_partial : (d : ℕ) (more : List ℕ) → is_ascii_digit d ≡ true → reserved (112 ∷ d ∷ more) ≡ None
unfolding reserved
not_partial d more h =
    ap (λ (b : Bool). cond (b && pointwise nat_eq more (codes "rtial")) (Some kind.Partial) None) (no_digit d h)

proof_free : (i j : ℕ) → i < 2 ^ 64 → reserved (112 ∷ numbers i j) ≡ None
proof_free i j h =
    let g = decimal_digits i h in
    ap (λ (ds : List ℕ). reserved (112 ∷ (ds ++ codes "x" ++ decimal j))) g.are ∙
    not_partial g.head (g.tail ++ codes "x" ++ decimal j)
    (digit_first g.head g.tail (ap all_ascii_digits (sym g.are) ∙ g.all))

pub proof_named : (i j : ℕ) → i < 2 ^ 64 → j < 2 ^ 64 → Named_as class.Small (proof_name i j)
unfolding numbered
proof_named i j h k =
    let a = behind_letter 112 i j h k refl in
    record { class = class_of 112 (numbers i j) a; well = can_be_written 112 (numbers i j) a (proof_free i j h) }
