-- Binders are told from expressions in brackets, and statements that bind from expressions.
use Rattle.std.proofs.Common.{◌≡◌, Bool, true, false, cond, ◌&&◌, ◌||◌, List, [], ◌∷◌, ◌++◌, Option, Some, None, refl, sym, ap, subst, ◌∙◌, append_assoc, inl, inr, ◌⊎◌, codes}
use Rattle.std.proofs.lemmas.List.{append-nil}
use Rattle.qtt_base.specs.declared.place.Span.{Span}
use Rattle.qtt_usage.specs.declared.mult.Mult.{Mult}
use Rattle.qtt_syntax.specs.Tree.{Tree, Binder}
use Rattle.qtt_syntax.specs.Tree.Tree.{name}
use Rattle.qtt_syntax.specs.Tree.Argument.{argument}
use Rattle.qtt_syntax.specs.declared.expr.Mark.TheVariants.{Written}
use Rattle.qtt_phrase.specs.Reading.{Kind, Read, chain_at, then_at, making_at, either_at, placed_at}
use Rattle.qtt_phrase.specs.Reading.Kind.{unexpected, too_deep}
use Rattle.qtt_phrase.specs.Reading.Read.{got, bad, over}
use Rattle.qtt_phrase.proofs.Exact.{opens_both}
use Rattle.qtt_phrase.proofs.Chained.{Judged, Exact, Choice}
use Rattle.qtt_grammar.specs.declared.class.Class.{Class}
use Rattle.qtt_grammar.specs.declared.class.Class.TheVariants as class
use Rattle.qtt_grammar.specs.declared.class.Pass.{Pass}
use Rattle.qtt_grammar.specs.Classes.{is_arrow, is_wildcard, is_simple, is_digit, is_colon, is_left_paren, is_right_paren, is_bname}
use Rattle.qtt_grammar.specs.declared.lexeme.Lexeme.{Lexeme}
use Rattle.qtt_grammar.specs.Lexeme.{sign, word}
use Rattle.qtt_grammar.specs.declared.stop.Excess.{Excess}
use Rattle.qtt_grammar.specs.Grammar.{Says, of, place, named_of, word_of, app_of, arrow_of, pi_of, IsMark, Level, Typed, Pi, Arrow}
use Rattle.qtt_grammar.specs.Readers.{Reads, LevelReader, opener_at, codomain_at, named_binder, marked_binder, begins_binder, mark_at, typed_at, pi_at, arrow_at, app_at, other_app_at, other_atom_at, bracket_at, atoms_at}
use Rattle.qtt_grammar.proofs.Decide.{apart, among}
use Rattle.qtt_grammar.proofs.Sets.{goes, halts}
use Rattle.qtt_grammar.proofs.Looks.{Looks}
use Rattle.qtt_grammar.proofs.Levels.{Inner, arrow_reads}

abbrev nowhere : Span
nowhere = record { line = 0; col = 0; len = 0 }

-- ---- a test of two bits

pub or_true : (a b : Bool) → a || b ≡ true → (a ≡ true) ⊎ (b ≡ true)
or_true true b e = inl refl
or_true false b e = inr e

pub and_true : (a b : Bool) → a && b ≡ true → (a ≡ true) × (b ≡ true)
and_true true b e = (refl, e)
and_true false b e = absurd cc

-- ---- what settles the tests

-- without a name the next token alone decides
not_simple : (x : Lexeme) (r : List Lexeme) → of is_simple x ≡ false → named_binder (x ∷ r) ≡ of is_wildcard x
not_simple x [] e = refl
not_simple x (y ∷ r) e = rw e (or_false (of is_wildcard x))
  where
    or_false : (b : Bool) → b || false ≡ b
    or_false true = refl
    or_false false = refl

named_case : (x : Lexeme) (r s : List Lexeme) (b : Bool) → of is_simple x ≡ b →
    (named_binder (x ∷ r) ≡ named_binder (x ∷ s)) ⊎ (of is_simple x ≡ true)
named_case x r s true e = inr e
named_case x r s false e = inl (not_simple x r e ∙ sym (not_simple x s e))

-- a name where it is open whether another token makes it a binder's
named_first : (x : Lexeme) (r s : List Lexeme) → (named_binder (x ∷ r) ≡ named_binder (x ∷ s)) ⊎ (of is_simple x ≡ true)
named_first x r s = named_case x r s (is_simple x.class) refl

pub data Short : List Lexeme → Lexeme → Type 0 where
  paren : (x : Lexeme) → of is_left_paren x ≡ true → Short [] x
  one_name : (p x : Lexeme) → of is_left_paren p ≡ true → of is_simple x ≡ true → Short (p ∷ []) x
  one_digit : (p x : Lexeme) → of is_left_paren p ≡ true → of is_digit x ≡ true → Short (p ∷ []) x
  digit_and_name : (p d x : Lexeme) → of is_left_paren p ≡ true → of is_digit d ≡ true → of is_simple x ≡ true →
      Short (p ∷ d ∷ []) x

named_front : (y : Lexeme) (front : List Lexeme) (x : Lexeme) (r s : List Lexeme) →
    named_binder (y ∷ (front ++ x ∷ r)) ≡ named_binder (y ∷ (front ++ x ∷ s))
named_front y [] x r s = refl
named_front y (z ∷ front) x r s = refl

same_cond : (b c d : Bool) → c ≡ d → b && c ≡ b && d
same_cond b c d e = ap (λ (v : Bool). b && v) e

-- behind "("
marked_settled : (p : Lexeme) → of is_left_paren p ≡ true →
    (front : List Lexeme) (x : Lexeme) (r s : List Lexeme) →
    (marked_binder (front ++ x ∷ r) ≡ marked_binder (front ++ x ∷ s)) ⊎ Short (p ∷ front) x
marked_settled p l [] x r s = marked_one (of is_digit x) refl
  where
    marked_one : (b : Bool) → of is_digit x ≡ b → (marked_binder (x ∷ r) ≡ marked_binder (x ∷ s)) ⊎ Short (p ∷ []) x
    marked_one true e = inr (one_digit p x l e)
    marked_one false e = elim (named_first x r s) [ inl same ↦ inl (rw e same) | inr n ↦ inr (one_name p x l n) ]
marked_settled p l (y ∷ []) x r s = marked_two (of is_digit y) refl
  where
    marked_two : (b : Bool) → of is_digit y ≡ b →
        (marked_binder (y ∷ x ∷ r) ≡ marked_binder (y ∷ x ∷ s)) ⊎ Short (p ∷ y ∷ []) x
    marked_two true e = elim (named_first x r s)
        [ inl same ↦ inl (rw e same) | inr n ↦ inr (digit_and_name p y x l e n) ]
    marked_two false e = inl (rw e (named_front y [] x r s))
marked_settled p l (y ∷ z ∷ front) x r s = inl (marked_more (of is_digit y))
  where
    marked_more : (b : Bool) →
        cond b (named_binder (z ∷ (front ++ x ∷ r))) (named_binder (y ∷ z ∷ (front ++ x ∷ r))) ≡ cond b
        (named_binder (z ∷ (front ++ x ∷ s))) (named_binder (y ∷ z ∷ (front ++ x ∷ s)))
    marked_more true = named_front z front x r s
    marked_more false = named_front y (z ∷ front) x r s

binder_settled : (front : List Lexeme) (x : Lexeme) (r s : List Lexeme) →
    (begins_binder (front ++ x ∷ r) ≡ begins_binder (front ++ x ∷ s)) ⊎ Short front x
binder_settled [] x r s = settled_one (of is_left_paren x) refl
  where
    settled_one : (b : Bool) → of is_left_paren x ≡ b → (begins_binder (x ∷ r) ≡ begins_binder (x ∷ s)) ⊎ Short [] x
    settled_one true e = inr (paren x e)
    settled_one false e = inl (rw e refl)
binder_settled (p ∷ front) x r s = settled_more (of is_left_paren p) refl
  where
    settled_more : (b : Bool) → of is_left_paren p ≡ b →
        (begins_binder (p ∷ (front ++ x ∷ r)) ≡ begins_binder (p ∷ (front ++ x ∷ s))) ⊎ Short (p ∷ front) x
    settled_more true e = elim (marked_settled p e front x r s)
        [ inl same ↦ inl (ap (λ (v : Bool). of is_left_paren p && v) same) | inr h ↦ inr h ]
    settled_more false e = inl (rw e refl)

-- ---- the readers at a bracket

-- an application and what may stand behind it
abbrev pub app_first : {B C : Type 0} → ((Span × Tree) × B → C) → (Span × Tree → Reads B) → Pass → Bool →
    LevelReader → Reads C
app_first made more pass may R = making_at made (chain_at (placed_at place (app_at pass may R)) more)

-- a binder with a type and what stands behind it
abbrev pub binder_first : {K C : Type 0} → (Binder × K → C) → (Binder → Reads K) → Pass → Bool → LevelReader → Reads C
binder_first made more pass may R = making_at made (chain_at (typed_at pass may R) more)

module _ {B C : Type 0} (shape : (Span × Tree) × B → C) (behind : Span × Tree → Reads B) (pass : Pass)
    (R : LevelReader) where
  -- where no level may open
  arrow_deep : (x : Lexeme) (w : List Lexeme) → of is_left_paren x ≡ true →
      app_first shape behind pass false R (x ∷ w) ≡ bad too_deep (x ∷ w)
  unfolding app_at other_app_at other_atom_at bracket_at
  arrow_deep x w e = deep_at x.class e x refl
    where
      deep_at : (c : Class) → is_left_paren c ≡ true →
          (x : Lexeme) → x.class ≡ c → app_first shape behind pass false R (x ∷ w) ≡ bad too_deep (x ∷ w)
      deep_at class.LeftParen i x e = rw e refl
      deep_at _ i x e = absurd cc

  arrow_none : (may : Bool) → app_first shape behind pass may R [] ≡ bad unexpected []
  unfolding app_at other_app_at
  arrow_none may = refl

  paren_bad : (x : Lexeme) (ls : List Lexeme) (k : Kind) (rest : List Lexeme) → x.class ≡ class.LeftParen →
      R.expr false ls ≡ bad k rest → app_first shape behind pass true R (x ∷ ls) ≡ bad k rest
  unfolding app_at other_app_at other_atom_at bracket_at
  paren_bad x ls k rest c e = rw (c, e) refl

  paren_open : (x : Lexeme) (ls : List Lexeme) (t : Tree) (y : Lexeme) (w : List Lexeme) →
      x.class ≡ class.LeftParen → R.expr false ls ≡ got t (y ∷ w) → of is_right_paren y ≡ false →
      app_first shape behind pass true R (x ∷ ls) ≡ bad unexpected (y ∷ w)
  unfolding app_at other_app_at other_atom_at bracket_at
  paren_open x ls t y w c e f = rw (c, e, f) refl

  paren_last : (x : Lexeme) (ls : List Lexeme) (t : Tree) → x.class ≡ class.LeftParen →
      R.expr false ls ≡ got t [] → app_first shape behind pass true R (x ∷ ls) ≡ bad unexpected []
  unfolding app_at other_app_at other_atom_at bracket_at
  paren_last x ls t c e = rw (c, e) refl

  paren_closed : (none : Span × Tree → B) (ends : (c : Span × Tree) → behind c [] ≡ got (none c) []) (x : Lexeme)
      (ls : List Lexeme) (t : Tree) (y : Lexeme) → x.class ≡ class.LeftParen → R.expr false ls ≡ got t (y ∷ []) →
      of is_right_paren y ≡ true →
      app_first shape behind pass true R (x ∷ ls) ≡ got (shape ((x.place, t), none (x.place, t))) []
  unfolding app_at other_app_at other_atom_at bracket_at atoms_at
  paren_closed none ends x ls t y c e f = rw (c, e, f, ends (x.place, t)) refl

module _ {K C : Type 0} (shape : Binder × K → C) (behind : Binder → Reads K) (pass : Pass) (R : LevelReader) where
  pi_deep : (x : Lexeme) (w : List Lexeme) → of is_left_paren x ≡ true →
      binder_first shape behind pass false R (x ∷ w) ≡ bad too_deep (x ∷ w)
  unfolding typed_at
  pi_deep x w e = rw e refl

  pi_paren : (x : Lexeme) → of is_left_paren x ≡ true →
      binder_first shape behind pass true R (x ∷ []) ≡ bad unexpected []
  unfolding typed_at mark_at
  pi_paren x e = rw e refl

  pi_name : (p x : Lexeme) → of is_left_paren p ≡ true → of is_simple x ≡ true →
      binder_first shape behind pass true R (p ∷ x ∷ []) ≡ bad unexpected []
  unfolding typed_at mark_at
  pi_name p x e f = rw (e, apart is_digit is_simple refl x f, among is_simple is_bname refl x f) refl

  pi_digit : (p x : Lexeme) → of is_left_paren p ≡ true → of is_digit x ≡ true →
      binder_first shape behind pass true R (p ∷ x ∷ []) ≡ bad unexpected []
  unfolding typed_at mark_at
  pi_digit p x e f = rw (e, f) refl

  pi_digit_name : (p d x : Lexeme) → of is_left_paren p ≡ true → of is_digit d ≡ true → of is_simple x ≡ true →
      binder_first shape behind pass true R (p ∷ d ∷ x ∷ []) ≡ bad unexpected []
  unfolding typed_at mark_at
  pi_digit_name p d x e f g = rw (e, f, among is_simple is_bname refl x g) refl

paren_is : (c : Class) → is_left_paren c ≡ true → c ≡ class.LeftParen
paren_is class.LeftParen e = refl
paren_is _ e = absurd cc

-- what is not read
pub data Bad {A : Type 0} : Read Lexeme Excess A → Type 0 where
  bad_read : (k : Kind) (rest : List Lexeme) → Bad (bad k rest)

pub bad_by : {A : Type 0} (r : Read Lexeme Excess A) (k : Kind) (rest : List Lexeme) → r ≡ bad k rest → Bad r
bad_by r k rest e = subst (λ (v : Read Lexeme Excess _). Bad v) (sym e) (bad_read k rest)

bad_not_got : {A : Type 0} (r : Read Lexeme Excess A) (a : A) (rest : List Lexeme) → Bad r → r ≡ got a rest → ⊥
bad_not_got r a rest (bad_read k w) e = cc

bad_not_over : {A : Type 0} (r : Read Lexeme Excess A) (f : Excess) (rest : List Lexeme) → Bad r → r ≡ over f rest → ⊥
bad_not_over r f rest (bad_read k w) e = cc

pub bad_not_judged : {A : Type 0} (r : Read Lexeme Excess A) (o : Option Excess) (a : A) (rest : List Lexeme) →
    Bad r → Judged o a rest r → ⊥
bad_not_judged r None a rest b e = bad_not_got r a rest b e
bad_not_judged r (Some f) a rest b (w, e) = bad_not_over r f w b e

-- a bracket in which a binder begins is no expression
module _ {B C : Type 0} (shape : (Span × Tree) × B → C) (behind : Span × Tree → Reads B) (pass : Pass)
    (R : LevelReader) (looks : Looks (R.expr false)) where
  named_bad : (p y : Lexeme) (ls : List Lexeme) → of is_left_paren p ≡ true → named_binder (y ∷ ls) ≡ true →
      Bad (app_first shape behind pass true R (p ∷ y ∷ ls))
  named_bad p y [] e h = bad_by (app_first shape behind pass true R (p ∷ y ∷ [])) unexpected (y ∷ [])
      (paren_bad shape behind pass R p (y ∷ []) unexpected (y ∷ []) (paren_is p.class e) (looks.wild y [] h))
  named_bad p y (z ∷ w) e h = elim (or_true (of is_wildcard y) (of is_simple y && of is_colon z) h) [
    | inl k ↦ bad_by (app_first shape behind pass true R (p ∷ y ∷ z ∷ w)) unexpected (y ∷ z ∷ w)
        (paren_bad shape behind pass R p (y ∷ z ∷ w) unexpected (y ∷ z ∷ w) (paren_is p.class e)
        (looks.wild y (z ∷ w) k))
    | inr k ↦ let b = and_true (of is_simple y) (of is_colon z) k in
        bad_by (app_first shape behind pass true R (p ∷ y ∷ z ∷ w)) unexpected (z ∷ w)
        (paren_open shape behind pass R p (y ∷ z ∷ w) (name (named_of y)) z w (paren_is p.class e)
        (looks.name_then y z w b.0 (among is_colon halts refl z b.1)) (apart is_right_paren is_colon refl z b.1))
  ]

  digit_bad : (p d : Lexeme) (ls : List Lexeme) → of is_left_paren p ≡ true → of is_digit d ≡ true →
      named_binder ls ≡ true → Bad (app_first shape behind pass true R (p ∷ d ∷ ls))
  digit_bad p d [] e f h = absurd cc
  digit_bad p d (y ∷ []) e f h =
      bad_by (app_first shape behind pass true R (p ∷ d ∷ y ∷ [])) unexpected (y ∷ [])
      (paren_open shape behind pass R p (d ∷ y ∷ []) (word_of d.class d) y [] (paren_is p.class e)
      (looks.digit_then d y [] f (among is_wildcard halts refl y h)) (apart is_right_paren is_wildcard refl y h))
  digit_bad p d (y ∷ z ∷ w) e f h = elim (or_true (of is_wildcard y) (of is_simple y && of is_colon z) h) [
    | inl k ↦ bad_by (app_first shape behind pass true R (p ∷ d ∷ y ∷ z ∷ w)) unexpected (y ∷ z ∷ w)
        (paren_open shape behind pass R p (d ∷ y ∷ z ∷ w) (word_of d.class d) y (z ∷ w) (paren_is p.class e)
        (looks.digit_then d y (z ∷ w) f (among is_wildcard halts refl y k))
        (apart is_right_paren is_wildcard refl y k))
    | inr k ↦ let b = and_true (of is_simple y) (of is_colon z) k in
        bad_by (app_first shape behind pass true R (p ∷ d ∷ y ∷ z ∷ w)) unexpected (z ∷ w)
        (paren_open shape behind pass R p (d ∷ y ∷ z ∷ w)
        (app_of d.place (word_of d.class d) (argument Written (name (named_of y)) ∷ [])) z w (paren_is p.class e)
        (looks.digit_name_then d y z w f b.0 (among is_colon halts refl z b.1))
        (apart is_right_paren is_colon refl z b.1))
  ]

  marked_case : (p y : Lexeme) (ls : List Lexeme) (b : Bool) → of is_left_paren p ≡ true → of is_digit y ≡ b →
      cond b (named_binder ls) (named_binder (y ∷ ls)) ≡ true →
      Bad (app_first shape behind pass true R (p ∷ y ∷ ls))
  marked_case p y ls true e d h = digit_bad p y ls e d h
  marked_case p y ls false e d h = named_bad p y ls e h

  marked_bad : (p : Lexeme) (ls : List Lexeme) → of is_left_paren p ≡ true → marked_binder ls ≡ true →
      Bad (app_first shape behind pass true R (p ∷ ls))
  marked_bad p [] e h = absurd cc
  marked_bad p (y ∷ ls) e h = marked_case p y ls (of is_digit y) e refl h

arrow_bad : {B C : Type 0} (shape : (Span × Tree) × B → C) (behind : Span × Tree → Reads B) (pass : Pass)
    (may : Bool) (R : LevelReader) → (may ≡ true → Looks (R.expr false)) →
    (ls : List Lexeme) → begins_binder ls ≡ true → Bad (app_first shape behind pass may R ls)
arrow_bad shape behind pass may R looks [] h = absurd cc
arrow_bad shape behind pass true R looks (x ∷ ls) h = let b =
    and_true (of is_left_paren x) (marked_binder ls) h in marked_bad shape behind pass R (looks refl) x ls b.0 b.1
arrow_bad shape behind pass false R looks (x ∷ ls) h = let b =
    and_true (of is_left_paren x) (marked_binder ls) h in bad_by (app_first shape behind pass false R (x ∷ ls))
    too_deep (x ∷ ls) (arrow_deep shape behind pass R x ls b.0)

pub not_true : (b : Bool) → (b ≡ true → ⊥) → b ≡ false
not_true true h = absurd (h refl)
not_true false h = refl

cond_same : {A : Type 0} (b : Bool) (x y z : A) → x ≡ z → y ≡ z → cond b x y ≡ z
cond_same true x y z e f = e
cond_same false x y z e f = f

-- where it is open whether a binder begins, reading it or an expression goes on, unless no level may open
pub record Waits {A : Type 0} (may : Bool) (l : Reads A) : Type 0 where
  pub not_bad : may ≡ true → (front : List Lexeme) (x : Lexeme) (k : Kind) → Short front x →
      ((z : List Lexeme) → l (front ++ x ∷ z) ≡ bad k (x ∷ z)) → ⊥
  pub not_over : (front : List Lexeme) (x : Lexeme) (e : Excess) → Short front x →
      ((z : List Lexeme) → l (front ++ x ∷ z) ≡ over e z) → ⊥
  pub deep : may ≡ false → (x : Lexeme) (w : List Lexeme) → of is_left_paren x ≡ true → l (x ∷ w) ≡ bad too_deep (x ∷ w)

pub short_whole : (front : List Lexeme) (x : Lexeme) → Short front x → (s : List Lexeme) →
    (y : Lexeme) × (r : List Lexeme) × (of is_left_paren y ≡ true) × (front ++ x ∷ s ≡ y ∷ r)
short_whole front x (paren y e) s = (y, s, e, refl)
short_whole front x (one_name p y e f) s = (p, y ∷ s, e, refl)
short_whole front x (one_digit p y e f) s = (p, y ∷ s, e, refl)
short_whole front x (digit_and_name p d y e f g) s = (p, d ∷ y ∷ s, e, refl)

module _ {K C : Type 0} (shape : Binder × K → C) (behind : Binder → Reads K) (pass : Pass) (R : LevelReader) where
  short_pi : (front : List Lexeme) (x : Lexeme) → Short front x →
      binder_first shape behind pass true R (front ++ x ∷ []) ≡ bad unexpected []
  short_pi front x (paren y e) = pi_paren shape behind pass R y e
  short_pi front x (one_name p y e f) = pi_name shape behind pass R p y e f
  short_pi front x (one_digit p y e f) = pi_digit shape behind pass R p y e f
  short_pi front x (digit_and_name p d y e f g) = pi_digit_name shape behind pass R p d y e f g

  short_over : (may : Bool) (front : List Lexeme) (x : Lexeme) (e : Excess) → Short front x →
      ((z : List Lexeme) → binder_first shape behind pass may R (front ++ x ∷ z) ≡ over e z) → ⊥
  short_over true front x e sh j = let u = j [] in let v = short_pi front x sh in cc
  short_over false front x e sh j = let u = j [] in let d = short_whole front x sh [] in let v =
      ap (binder_first shape behind pass false R) d.3 ∙ pi_deep shape behind pass R d.0 d.1 d.2 in cc

  short_deep : (may : Bool) → may ≡ false → (x : Lexeme) (w : List Lexeme) → of is_left_paren x ≡ true →
      binder_first shape behind pass may R (x ∷ w) ≡ bad too_deep (x ∷ w)
  short_deep true m x w e = absurd cc
  short_deep false m x w e = pi_deep shape behind pass R x w e

  short_bad : (may : Bool) → may ≡ true → (front : List Lexeme) (x : Lexeme) (k : Kind) → Short front x →
      ((z : List Lexeme) → binder_first shape behind pass may R (front ++ x ∷ z) ≡ bad k (x ∷ z)) → ⊥
  short_bad true m front x k sh j = let u = j [] in let v = short_pi front x sh in cc
  short_bad false m front x k sh j = absurd cc

  pub binder_waits : (may : Bool) → Waits may (binder_first shape behind pass may R)
  binder_waits may = record { not_bad = short_bad may; not_over = short_over may; deep = short_deep may }

module _ {B C : Type 0} (shape : (Span × Tree) × B → C) (behind : Span × Tree → Reads B) (none : Span × Tree → B)
    (ends : (c : Span × Tree) → behind c [] ≡ got (none c) []) (pass : Pass) (R : LevelReader) where
  abbrev closing : Lexeme
  closing = sign class.RightParen nowhere

  abbrev some_name : Lexeme
  some_name = word class.Small nowhere (codes "a")

  record Closes (front : List Lexeme) (x : Lexeme) : Type 0 where
    more : List Lexeme
    value : C
    reads : app_first shape behind pass true R (front ++ x ∷ more) ≡ got value []

  short_closes : Looks (R.expr false) → (front : List Lexeme) (x : Lexeme) → Short front x → Closes front x
  short_closes looks front x (paren y e) =
      let t = name (named_of some_name) in
      record {
        more = some_name ∷ closing ∷ [];
        value = shape ((y.place, t), none (y.place, t));
        reads = paren_closed shape behind pass R none ends y (some_name ∷ closing ∷ []) t closing
            (paren_is y.class e) (looks.name_then some_name closing [] refl refl) refl;
      }
  short_closes looks front x (one_name p y e f) =
      let t = name (named_of y) in
      record {
        more = closing ∷ [];
        value = shape ((p.place, t), none (p.place, t));
        reads = paren_closed shape behind pass R none ends p (y ∷ closing ∷ []) t closing (paren_is p.class e)
            (looks.name_then y closing [] f refl) refl;
      }
  short_closes looks front x (one_digit p y e f) =
      let t = word_of y.class y in
      record {
        more = closing ∷ [];
        value = shape ((p.place, t), none (p.place, t));
        reads = paren_closed shape behind pass R none ends p (y ∷ closing ∷ []) t closing (paren_is p.class e)
            (looks.digit_then y closing [] f refl) refl;
      }
  short_closes looks front x (digit_and_name p d y e f g) =
      let t = app_of d.place (word_of d.class d) (argument Written (name (named_of y)) ∷ []) in
      record {
        more = closing ∷ [];
        value = shape ((p.place, t), none (p.place, t));
        reads = paren_closed shape behind pass R none ends p (d ∷ y ∷ closing ∷ []) t closing
            (paren_is p.class e) (looks.digit_name_then d y closing [] f g refl) refl;
      }

  -- the front alone is no expression
  short_open : Looks (R.expr false) → (front : List Lexeme) (x : Lexeme) → Short front x →
      Bad (app_first shape behind pass true R front)
  short_open looks front x (paren y e) =
      bad_by (app_first shape behind pass true R []) unexpected [] (arrow_none shape behind pass R true)
  short_open looks front x (one_name p y e f) =
      bad_by (app_first shape behind pass true R (p ∷ [])) unexpected []
      (paren_bad shape behind pass R p [] unexpected [] (paren_is p.class e) looks.none)
  short_open looks front x (one_digit p y e f) =
      bad_by (app_first shape behind pass true R (p ∷ [])) unexpected []
      (paren_bad shape behind pass R p [] unexpected [] (paren_is p.class e) looks.none)
  short_open looks front x (digit_and_name p d y e f g) =
      bad_by (app_first shape behind pass true R (p ∷ d ∷ [])) unexpected []
      (paren_last shape behind pass R p (d ∷ []) (word_of d.class d) (paren_is p.class e) (looks.digit_last d f))

  short_deep_open : (front : List Lexeme) (x : Lexeme) → Short front x → Bad (app_first shape behind pass false R front)
  short_deep_open front x (paren y e) =
      bad_by (app_first shape behind pass false R []) unexpected [] (arrow_none shape behind pass R false)
  short_deep_open front x (one_name p y e f) =
      bad_by (app_first shape behind pass false R (p ∷ [])) too_deep (p ∷ [])
      (arrow_deep shape behind pass R p [] e)
  short_deep_open front x (one_digit p y e f) =
      bad_by (app_first shape behind pass false R (p ∷ [])) too_deep (p ∷ [])
      (arrow_deep shape behind pass R p [] e)
  short_deep_open front x (digit_and_name p d y e f g) =
      bad_by (app_first shape behind pass false R (p ∷ d ∷ [])) too_deep (p ∷ d ∷ [])
      (arrow_deep shape behind pass R p (d ∷ []) e)

  choice_open : (may : Bool) → (may ≡ true → Looks (R.expr false)) → (front : List Lexeme) (x : Lexeme) →
      Short front x → Bad (app_first shape behind pass may R front)
  choice_open true looks front x sh = short_open (looks refl) front x sh
  choice_open false looks front x sh = short_deep_open front x sh

  choice_right_over : (may : Bool) → (may ≡ true → Looks (R.expr false)) →
      (front : List Lexeme) (x : Lexeme) (e : Excess) → Short front x →
      ((z : List Lexeme) → app_first shape behind pass may R (front ++ x ∷ z) ≡ over e z) → ⊥
  choice_right_over true looks front x e sh j = let c = short_closes (looks refl) front x sh in let u =
      j c.more in let v = c.reads in cc
  choice_right_over false looks front x e sh j = let u = j [] in let d = short_whole front x sh [] in let v =
      ap (app_first shape behind pass false R) d.3 ∙ arrow_deep shape behind pass R d.0 d.1 d.2 in cc

  -- both are too deep
  both_deep : (l : Reads C) → Waits false l → (front : List Lexeme) (x : Lexeme) → Short front x →
      (s : List Lexeme) → l (front ++ x ∷ s) ≡ app_first shape behind pass false R (front ++ x ∷ s)
  both_deep l w front x sh s = let d =
      short_whole front x sh s in (ap l d.3 ∙ w.deep refl d.0 d.1 d.2) ∙
      sym (ap (app_first shape behind pass false R) d.3 ∙ arrow_deep shape behind pass R d.0 d.1 d.2)

  choice_left_bad : (l : Reads C) (may : Bool) → Waits may l →
      (front : List Lexeme) (x : Lexeme) (s : List Lexeme) (k : Kind) → Short front x →
      ((z : List Lexeme) → l (front ++ x ∷ z) ≡ bad k (x ∷ z)) →
      either_at begins_binder l (app_first shape behind pass may R) (front ++ x ∷ s) ≡ bad k (x ∷ s)
  choice_left_bad l true w front x s k sh j = absurd (w.not_bad refl front x k sh j)
  choice_left_bad l false w front x s k sh j =
      cond_same (begins_binder (front ++ x ∷ s)) (l (front ++ x ∷ s))
      (app_first shape behind pass false R (front ++ x ∷ s)) (bad k (x ∷ s)) (j s)
      (sym (both_deep l w front x sh s) ∙ j s)

  choice_right_bad : (l : Reads C) (may : Bool) → Waits may l → (may ≡ true → Looks (R.expr false)) →
      (front : List Lexeme) (x : Lexeme) (s : List Lexeme) (k : Kind) → Short front x →
      ((z : List Lexeme) → app_first shape behind pass may R (front ++ x ∷ z) ≡ bad k (x ∷ z)) →
      either_at begins_binder l (app_first shape behind pass may R) (front ++ x ∷ s) ≡ bad k (x ∷ s)
  choice_right_bad l true w looks front x s k sh j =
      absurd (let c = short_closes (looks refl) front x sh in let u = j c.more in let v = c.reads in cc)
  choice_right_bad l false w looks front x s k sh j =
      cond_same (begins_binder (front ++ x ∷ s)) (l (front ++ x ∷ s))
      (app_first shape behind pass false R (front ++ x ∷ s)) (bad k (x ∷ s)) (both_deep l w front x sh s ∙ j s)
      (j s)

  front_whole : (front : List Lexeme) (a : C) (may : Bool) →
      app_first shape behind pass may R (front ++ []) ≡ got a [] → Bad (app_first shape behind pass may R front) →
      ⊥
  front_whole front a may e b =
      bad_not_got (app_first shape behind pass may R front) a [] b
      (sym (ap (app_first shape behind pass may R) (append-nil front)) ∙ e)

  -- a phrase with a binder is told from an application by the first tokens
  pub first_choice : {fresh : Excess → Type 0} (l : Reads C) (may : Bool) → Waits may l →
      (may ≡ true → Looks (R.expr false)) → (P Q : Says C) (g : Lexeme → Bool) →
      ((us rest : List Lexeme) (a : C) (o : Option Excess) → P us a o → begins_binder (us ++ rest) ≡ true) →
      Exact fresh Q g (app_first shape behind pass may R) →
      Choice begins_binder P l Q (app_first shape behind pass may R) g
  first_choice l may w looks P Q g left ex = record {
    left = left;
    right = λ us rest t o m e. not_true (begins_binder (us ++ rest))
        (λ b. bad_not_judged (app_first shape behind pass may R (us ++ rest)) o t rest
        (arrow_bad shape behind pass may R looks (us ++ rest) b) (ex.complete us t o rest m e));
    left_bad = λ front x r s k j b. elim (binder_settled front x s r) [
      | inl same ↦ (let f : begins_binder (front ++ x ∷ s) ≡ true = same ∙ b in rw f (j s))
      | inr sh ↦
          choice_left_bad l may w front x s k sh j
    ];
    left_over = λ front x r s f j b. elim (binder_settled front x s r) [
      | inl same ↦ (let g : begins_binder (front ++ x ∷ s) ≡ true = same ∙ b in rw g (j s))
      | inr sh ↦
          absurd (w.not_over front x f sh j)
    ];
    right_got = λ front x r s t m b. elim (binder_settled front x s r) [
      | inl same ↦ same ∙ b
      | inr sh ↦
          absurd (front_whole front t may (ex.complete front t None [] m refl) (choice_open may looks front x sh))
    ];
    right_bad = λ front x r s k j b. elim (binder_settled front x s r) [
      | inl same ↦ (let f : begins_binder (front ++ x ∷ s) ≡ false = same ∙ b in rw f (j s))
      | inr sh ↦
          choice_right_bad l may w looks front x s k sh j
    ];
    right_over = λ front x r s f j b. elim (binder_settled front x s r) [
      | inl same ↦ (let g : begins_binder (front ++ x ∷ s) ≡ false = same ∙ b in rw g (j s))
      | inr sh ↦
          absurd (choice_right_over may looks front x f sh j)
    ];
  }

-- ---- a binder begins as one

named_true : (n y : Lexeme) (w : List Lexeme) → (c : Class) → n.class ≡ c → is_bname c ≡ true →
    of is_colon y ≡ true → named_binder (n ∷ y ∷ w) ≡ true
named_true n y w class.Wildcard e i f = rw e refl
named_true n y w class.Small e i f = rw (e, f) refl
named_true n y w class.Big e i f = rw (e, f) refl
named_true n y w _ e i f = absurd cc

unmarked : (n : Lexeme) (w : List Lexeme) → of is_bname n ≡ true → marked_binder (n ∷ w) ≡ named_binder (n ∷ w)
unmarked n w e = rw (apart is_digit is_bname refl n e) refl

marked_true : (c : List Lexeme) (m : Mult) (o : Option Excess) → IsMark c m o →
    (n y : Lexeme) (w : List Lexeme) → of is_bname n ≡ true → of is_colon y ≡ true →
    marked_binder (c ++ n ∷ y ∷ w) ≡ true
marked_true c m o (inl (e, f, g)) n y w h k = rw e (unmarked n (y ∷ w) h ∙ named_true n y w n.class refl h k)
marked_true c m o (inr (d, e, f, v, i)) n y w h k = rw (e, f) (named_true n y w n.class refl h k)

binder_true : (x : Lexeme) (w : List Lexeme) → of is_left_paren x ≡ true → marked_binder w ≡ true →
    begins_binder (x ∷ w) ≡ true
binder_true x w e h = rw (e, h) refl

pub typed_left : (pass : Pass) (may : Bool) (L : Level) (us rest : List Lexeme) (b : Binder) (o : Option Excess) →
    Typed pass may L us b o → begins_binder (us ++ rest) ≡ true
typed_left pass may L us rest b o (
  v,
  (
    a1,
    b1,
    j1,
    k1,
    e1,
    (x, ex, opx, vx, ox),
    (
      c,
      d,
      j2,
      k2,
      e2,
      mark,
      (a3, f3, j3, k3, e3, (n, en, sn, vn, on), (a4, g, j4, k4, e4, (y, ey, sy, vy, oy), last, m4), m3),
      m2,
    ),
    m1,
  ),
  made,
) =
    let way : us ++ rest ≡ x ∷ (c ++ n ∷ y ∷ (g ++ rest)) =
    rw (e1, ex, e2, e3, en, e4, ey) (ap (λ (z : List Lexeme). x ∷ z) (append_assoc c (n ∷ y ∷ g) rest)) in
    rw way (binder_true x (c ++ n ∷ y ∷ (g ++ rest)) (opens_both may (of is_left_paren x) opx).1
    (marked_true c v.1.0 j2 mark n y (g ++ rest) sn sy))

pi_left : (pass : Pass) (may : Bool) (L : Level) (us rest : List Lexeme) (t : Tree) (o : Option Excess) →
    Pi pass may L us t o → begins_binder (us ++ rest) ≡ true
pi_left pass may L us rest t o (v, (ws, vs, j, k, e, m, more, f), made) =
    rw (e, append_assoc ws vs rest) (typed_left pass may L ws (vs ++ rest) v.0 j m)

pub binder_choice : {p : Span} (pass : Pass) (L : Level) (R : LevelReader) (inner : Inner p L R) (may : Bool) →
    (may ≡ true → Looks (R.expr false)) →
    Choice begins_binder (Pi pass may L) (pi_at pass may R) (Arrow pass may L) (arrow_at pass may R) (of goes)
unfolding pi_at arrow_at
binder_choice pass L R inner may looks =
    first_choice arrow_of (λ _. codomain_at pass may R) (λ _. None) (λ c. refl) pass R (pi_at pass may R) may
    (binder_waits pi_of (λ _. then_at (opener_at may is_arrow) (R.expr false)) pass R may) looks
    (Pi pass may L) (Arrow pass may L) (of goes) (pi_left pass may L) (arrow_reads pass may L R inner).exact
