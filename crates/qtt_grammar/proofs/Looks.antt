-- What an expression's reader does at the few tokens by which binders are told from expressions.
use Rattle.std.proofs.Common.{◌≡◌, Bool, true, false, List, [], ◌∷◌, refl, ◌∙◌}
use Rattle.qtt_syntax.specs.Tree.{Tree}
use Rattle.qtt_syntax.specs.Tree.Tree.{name}
use Rattle.qtt_syntax.specs.Tree.Argument.{argument}
use Rattle.qtt_syntax.specs.declared.expr.Mark.TheVariants.{Written}
use Rattle.qtt_phrase.specs.Reading.{begins}
use Rattle.qtt_phrase.specs.Reading.Kind.{unexpected}
use Rattle.qtt_phrase.specs.Reading.Read.{got, bad}
use Rattle.qtt_grammar.specs.declared.class.Class.{Class}
use Rattle.qtt_grammar.specs.declared.class.Class.TheVariants as class
use Rattle.qtt_grammar.specs.declared.class.Pass.{Pass}
use Rattle.qtt_grammar.specs.Classes.{is_let, is_wildcard, is_simple, is_digit}
use Rattle.qtt_grammar.specs.declared.lexeme.Lexeme.{Lexeme}
use Rattle.qtt_grammar.specs.Grammar.{of, named_of, word_of, app_of}
use Rattle.qtt_grammar.specs.Readers.{Reads, LevelReader, other_expr_at, expr_at, arrow_at, app_at, named_app_at, other_app_at, other_atom_at, atom_at, atoms_at, bracket_at}
use Rattle.qtt_grammar.proofs.Sets.{halts}
use Rattle.qtt_grammar.proofs.Decide.{apart}

pub record Looks (r : Reads Tree) : Type 0 where
  pub none : r [] ≡ bad unexpected []
  pub wild : (x : Lexeme) (w : List Lexeme) → of is_wildcard x ≡ true → r (x ∷ w) ≡ bad unexpected (x ∷ w)
  pub name_last : (x : Lexeme) → of is_simple x ≡ true → r (x ∷ []) ≡ got (name (named_of x)) []
  pub digit_last : (x : Lexeme) → of is_digit x ≡ true → r (x ∷ []) ≡ got (word_of x.class x) []
  pub name_then : (x y : Lexeme) (w : List Lexeme) → of is_simple x ≡ true → of halts y ≡ true →
      r (x ∷ y ∷ w) ≡ got (name (named_of x)) (y ∷ w)
  pub digit_then : (x y : Lexeme) (w : List Lexeme) → of is_digit x ≡ true → of halts y ≡ true →
      r (x ∷ y ∷ w) ≡ got (word_of x.class x) (y ∷ w)
  pub digit_name_then : (x y z : Lexeme) (w : List Lexeme) → of is_digit x ≡ true → of is_simple y ≡ true →
      of halts z ≡ true → r (x ∷ y ∷ z ∷ w) ≡ got
      (app_of x.place (word_of x.class x) (argument Written (name (named_of y)) ∷ [])) (z ∷ w)

module _ (pass : Pass) (may : Bool) (R : LevelReader) (tail : Bool) where
  wild_at : (c : Class) → is_wildcard c ≡ true → (x : Lexeme) (w : List Lexeme) → x.class ≡ c →
      other_expr_at pass may R tail (x ∷ w) ≡ bad unexpected (x ∷ w)
  unfolding other_expr_at arrow_at app_at other_app_at other_atom_at bracket_at
  wild_at class.Wildcard i x w e = rw e refl
  wild_at _ i x w e = absurd cc

  name_last_at : (c : Class) → is_simple c ≡ true →
      (x : Lexeme) → x.class ≡ c → other_expr_at pass may R tail (x ∷ []) ≡ got (name (named_of x)) []
  unfolding other_expr_at arrow_at app_at named_app_at atoms_at
  name_last_at class.Small i x e = rw e refl
  name_last_at class.Big i x e = rw e refl
  name_last_at _ i x e = absurd cc

  digit_last_at : (c : Class) → is_digit c ≡ true →
      (x : Lexeme) → x.class ≡ c → other_expr_at pass may R tail (x ∷ []) ≡ got (word_of x.class x) []
  unfolding other_expr_at arrow_at app_at other_app_at other_atom_at atoms_at
  digit_last_at class.Zero i x e = rw e refl
  digit_last_at class.One i x e = rw e refl
  digit_last_at _ i x e = absurd cc

  name_then_at : (c d : Class) → is_simple c ≡ true → halts d ≡ true →
      (x y : Lexeme) (w : List Lexeme) → x.class ≡ c → y.class ≡ d →
      other_expr_at pass may R tail (x ∷ y ∷ w) ≡ got (name (named_of x)) (y ∷ w)
  unfolding other_expr_at arrow_at app_at named_app_at atoms_at
  name_then_at class.Small class.Colon i h x y w e f = rw (e, f) refl
  name_then_at class.Small class.Wildcard i h x y w e f = rw (e, f) refl
  name_then_at class.Small class.RightParen i h x y w e f = rw (e, f) refl
  name_then_at class.Small class.LeftArrow i h x y w e f = rw (e, f) refl
  name_then_at class.Small _ i h x y w e f = absurd cc
  name_then_at class.Big class.Colon i h x y w e f = rw (e, f) refl
  name_then_at class.Big class.Wildcard i h x y w e f = rw (e, f) refl
  name_then_at class.Big class.RightParen i h x y w e f = rw (e, f) refl
  name_then_at class.Big class.LeftArrow i h x y w e f = rw (e, f) refl
  name_then_at class.Big _ i h x y w e f = absurd cc
  name_then_at _ d i h x y w e f = absurd cc

  digit_then_at : (c d : Class) → is_digit c ≡ true → halts d ≡ true →
      (x y : Lexeme) (w : List Lexeme) → x.class ≡ c → y.class ≡ d →
      other_expr_at pass may R tail (x ∷ y ∷ w) ≡ got (word_of x.class x) (y ∷ w)
  unfolding other_expr_at arrow_at app_at other_app_at other_atom_at atoms_at
  digit_then_at class.Zero class.Colon i h x y w e f = rw (e, f) refl
  digit_then_at class.Zero class.Wildcard i h x y w e f = rw (e, f) refl
  digit_then_at class.Zero class.RightParen i h x y w e f = rw (e, f) refl
  digit_then_at class.Zero class.LeftArrow i h x y w e f = rw (e, f) refl
  digit_then_at class.Zero _ i h x y w e f = absurd cc
  digit_then_at class.One class.Colon i h x y w e f = rw (e, f) refl
  digit_then_at class.One class.Wildcard i h x y w e f = rw (e, f) refl
  digit_then_at class.One class.RightParen i h x y w e f = rw (e, f) refl
  digit_then_at class.One class.LeftArrow i h x y w e f = rw (e, f) refl
  digit_then_at class.One _ i h x y w e f = absurd cc
  digit_then_at _ d i h x y w e f = absurd cc

  -- the digit's value is the same in both forms
  digit_name_at : (c b d : Class) → is_digit c ≡ true → is_simple b ≡ true → halts d ≡ true →
      (x y z : Lexeme) (w : List Lexeme) → x.class ≡ c → y.class ≡ b → z.class ≡ d →
      other_expr_at pass may R tail (x ∷ y ∷ z ∷ w) ≡ got
      (app_of x.place (word_of x.class x) (argument Written (name (named_of y)) ∷ [])) (z ∷ w)
  unfolding other_expr_at arrow_at app_at other_app_at other_atom_at atoms_at atom_at
  digit_name_at class.Zero class.Small class.Colon i k h x y z w e f g = rw (e, f, g) refl
  digit_name_at class.Zero class.Small class.Wildcard i k h x y z w e f g = rw (e, f, g) refl
  digit_name_at class.Zero class.Small class.RightParen i k h x y z w e f g = rw (e, f, g) refl
  digit_name_at class.Zero class.Small class.LeftArrow i k h x y z w e f g = rw (e, f, g) refl
  digit_name_at class.Zero class.Small _ i k h x y z w e f g = absurd cc
  digit_name_at class.Zero class.Big class.Colon i k h x y z w e f g = rw (e, f, g) refl
  digit_name_at class.Zero class.Big class.Wildcard i k h x y z w e f g = rw (e, f, g) refl
  digit_name_at class.Zero class.Big class.RightParen i k h x y z w e f g = rw (e, f, g) refl
  digit_name_at class.Zero class.Big class.LeftArrow i k h x y z w e f g = rw (e, f, g) refl
  digit_name_at class.Zero class.Big _ i k h x y z w e f g = absurd cc
  digit_name_at class.Zero _ d i k h x y z w e f g = absurd cc
  digit_name_at class.One class.Small class.Colon i k h x y z w e f g = rw (e, f, g) refl
  digit_name_at class.One class.Small class.Wildcard i k h x y z w e f g = rw (e, f, g) refl
  digit_name_at class.One class.Small class.RightParen i k h x y z w e f g = rw (e, f, g) refl
  digit_name_at class.One class.Small class.LeftArrow i k h x y z w e f g = rw (e, f, g) refl
  digit_name_at class.One class.Small _ i k h x y z w e f g = absurd cc
  digit_name_at class.One class.Big class.Colon i k h x y z w e f g = rw (e, f, g) refl
  digit_name_at class.One class.Big class.Wildcard i k h x y z w e f g = rw (e, f, g) refl
  digit_name_at class.One class.Big class.RightParen i k h x y z w e f g = rw (e, f, g) refl
  digit_name_at class.One class.Big class.LeftArrow i k h x y z w e f g = rw (e, f, g) refl
  digit_name_at class.One class.Big _ i k h x y z w e f g = absurd cc
  digit_name_at class.One _ d i k h x y z w e f g = absurd cc
  digit_name_at _ b d i k h x y z w e f g = absurd cc

  none_at : other_expr_at pass may R tail [] ≡ bad unexpected []
  unfolding other_expr_at arrow_at app_at other_app_at
  none_at = refl

  pub other_looks : Looks (other_expr_at pass may R tail)
  other_looks = record {
    none = none_at;
    wild = λ x w i. wild_at x.class i x w refl;
    name_last = λ x i. name_last_at x.class i x refl;
    digit_last = λ x i. digit_last_at x.class i x refl;
    name_then = λ x y w i h. name_then_at x.class y.class i h x y w refl refl;
    digit_then = λ x y w i h. digit_then_at x.class y.class i h x y w refl refl;
    digit_name_then = λ x y z w i k h. digit_name_at x.class y.class z.class i k h x y z w refl refl refl;
  }

  not_let : (ls : List Lexeme) → begins (of is_let) ls ≡ false →
      expr_at pass may R tail ls ≡ other_expr_at pass may R tail ls
  unfolding expr_at
  not_let ls e = rw e refl

  pub expr_looks : Looks (expr_at pass may R tail)
  expr_looks =
      let o = other_looks in
      record {
        none = not_let [] refl ∙ o.none;
        wild = λ x w i. not_let (x ∷ w) (apart is_let is_wildcard refl x i) ∙ o.wild x w i;
        name_last = λ x i. not_let (x ∷ []) (apart is_let is_simple refl x i) ∙ o.name_last x i;
        digit_last = λ x i. not_let (x ∷ []) (apart is_let is_digit refl x i) ∙ o.digit_last x i;
        name_then = λ x y w i h. not_let (x ∷ y ∷ w) (apart is_let is_simple refl x i) ∙ o.name_then x y w i h;
        digit_then = λ x y w i h. not_let (x ∷ y ∷ w) (apart is_let is_digit refl x i) ∙ o.digit_then x y w i h;
        digit_name_then = λ x y z w i k h. not_let (x ∷ y ∷ z ∷ w) (apart is_let is_digit refl x i) ∙
            o.digit_name_then x y z w i k h;
      }
