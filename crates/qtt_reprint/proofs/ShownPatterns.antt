-- Types with braces, and patterns, are said by their printed words.
use Rattle.std.proofs.Common.{◌≡◌, ℕ, zero, suc, ◌≤◌, pos, true, false, List, [], ◌∷◌, ◌++◌, refl, sym, ap, ◌∙◌, arith, append_assoc, codes}
use Rattle.qtt_base.specs.declared.place.Span.{Span}
use Rattle.qtt_base.specs.declared.limits.Quantity.TheVariants as quantity
use Rattle.qtt_syntax.specs.declared.expr.Mark.TheVariants.{Written, Braced, Inserted}
use Rattle.qtt_syntax.specs.declared.expr.Target.TheVariants.{Unknown}
use Rattle.qtt_syntax.specs.declared.expr.Named as named_code
use Rattle.qtt_syntax.specs.Tree.{Tree, Shape, Shapes, shapes}
use Rattle.qtt_syntax.specs.Tree.Tree.{name, number, text, universe, hole, the, apply, pi, lambda, letting, doing}
use Rattle.qtt_syntax.specs.Tree.Shape.{variable, wildcard, constructor, dot}
use Rattle.qtt_syntax.specs.Tree.Shapes.{no_shape, shape_and}
use Rattle.qtt_syntax.specs.Words.{Word}
use Rattle.qtt_grammar.specs.declared.class.Class.{Class}
use Rattle.qtt_grammar.specs.declared.class.Class.TheVariants as class
use Rattle.qtt_grammar.specs.declared.class.Pass.{Pass}
use Rattle.qtt_grammar.specs.Classes.{same, is_constructor, is_pattern_word, is_left_paren, is_right_paren, is_dot_paren}
use Rattle.qtt_grammar.specs.declared.lexeme.Lexeme.{Lexeme}
use Rattle.qtt_grammar.specs.Grammar.{Counted, pattern_word, group_of, bracketed_of, dot_of, bare_of, IsTyping, IsPattern}
use Rattle.qtt_reprint.specs.Sketch.{nowhere, unplaced, named_class}
use Rattle.qtt_reprint.specs.Unplaced.{bare_named, bare_shape, bare_shapes}
use Rattle.qtt_reprint.proofs.Prints.{Prints, words_are, token, ◌then_prints◌, made, first_of, second_of, run_none, run_more}
use Rattle.qtt_reprint.proofs.Tokens.{symbol, opening, named_token}
use Rattle.qtt_reprint.proofs.Saying.{mark, named, numeral, wrapped, say, say_shape, say_shapes}
use Rattle.qtt_reprint.proofs.Formed as formed
use Rattle.qtt_reprint.proofs.Formed.{need, need_shape, need_shapes}
use Rattle.qtt_reprint.proofs.Forms.{Same, implicit_words}
use Rattle.qtt_reprint.proofs.Shown as shown
use Rattle.qtt_reprint.proofs.Shown.{may_at, inner_at, up_to_words, plain_ends}

-- the same pattern but for places
abbrev pub SameShape : Shape → Shape → Type 0
SameShape p q = bare_shape q ≡ bare_shape p

small_is : (c : Class) → same class.Small c ≡ true → c ≡ class.Small
small_is class.Small e = refl
small_is _ e = absurd cc

bare_pattern : (c : Class) (x : Lexeme) → bare_shape (pattern_word c x) ≡ bare_shape (pattern_word c (unplaced x))
bare_pattern class.Small x = refl
bare_pattern _ x = refl

group_value : (m n : named_code.Named) (l : List Shape) (p : Shape) (more : Shapes) (s : Span) →
    bare_named m ≡ bare_named n → bare_shapes (shapes l) ≡ bare_shapes (shape_and p more) →
    bare_shape (group_of (m, l) s) ≡ constructor Written (bare_named n) (bare_shapes (shape_and p more)) nowhere
group_value m n [] p more s e f = absurd cc
group_value m n (q ∷ l) p more s e f = let x = e in let y = f in cc

module _ (Fit : Word → Type 0) (pass : Pass) where
  -- ---- types

  as_expr : (t : Tree) → formed.Formed Fit pass t × formed.Plain t →
      (d : ℕ) → need t ≤ d → Prints (IsTyping pass (may_at d) (inner_at pass d)) (say t) (Same t)
  as_expr t f d h = second_of ((shown.shown Fit pass t f.0 d h).expr false (plain_ends t f.1))

  pub shown_typing : (t : Tree) → formed.Typing_formed Fit pass t →
      (d : ℕ) → need t ≤ d → Prints (IsTyping pass (may_at d) (inner_at pass d)) (say t) (Same t)
  shown_typing (pi Braced m n a b s) f zero h = absurd (omega arith)
  shown_typing (pi Braced m n a b s) f (suc d) h =
      rw f.0 (first_of (words_are
      (ap (λ (v : List Lexeme). mark class.LeftBrace ∷ numeral (pos 0) ∷ named n ∷ mark class.Colon ∷ v)
      (sym (append_assoc (say a) (mark class.RightBrace ∷ []) (mark class.Arrow ∷ say b))))
      (implicit_words pass (inner_at pass (suc d)) n a b s (say a) (say b) f.1.0.0
      ((shown.shown Fit pass a f.1.1.0.0 d (omega arith)).expr false (plain_ends a f.1.1.0.1))
      (shown_typing b f.1.1.1 d (omega arith)))))
  shown_typing (pi Written m n a b s) f d h = as_expr (pi Written m n a b s) f d h
  shown_typing (pi Inserted m n a b s) f d h = as_expr (pi Inserted m n a b s) f d h
  shown_typing (name n) f d h = as_expr (name n) f d h
  shown_typing (number z s) f d h = as_expr (number z s) f d h
  shown_typing (text v s) f d h = as_expr (text v s) f d h
  shown_typing (universe l ls s) f d h = as_expr (universe l ls s) f d h
  shown_typing (hole n s) f d h = as_expr (hole n s) f d h
  shown_typing (the t e s) f d h = as_expr (the t e s) f d h
  shown_typing (apply g args s) f d h = as_expr (apply g args s) f d h
  shown_typing (lambda bs t s) f d h = as_expr (lambda bs t s) f d h
  shown_typing (letting m n t e b s) f d h = as_expr (letting m n t e b s) f d h
  shown_typing (doing ss s) f d h = as_expr (doing ss s) f d h

  -- ---- patterns

  variable_words : (n : List ℕ) (s : Span) (d : ℕ) → same class.Small (named_class n) ≡ true →
      Prints (IsPattern pass (may_at d) (inner_at pass d)) (named n ∷ []) (SameShape (variable Written n s))
  variable_words n s d e =
      let c = small_is (named_class n) e in
      second_of (first_of (token is_pattern_word (λ x. pattern_word x.class x) (named n) (ap is_pattern_word c)
      (λ x h. bare_pattern x.class x ∙ ap (λ (y : Lexeme). bare_shape (pattern_word y.class y)) h ∙
      ap (λ (k : Class). bare_shape (pattern_word k (named n))) c)))

  wildcard_words : (s : Span) (d : ℕ) →
      Prints (IsPattern pass (may_at d) (inner_at pass d)) (named (codes "_") ∷ [])
      (SameShape (wildcard Written s))
  wildcard_words s d = second_of
      (first_of (token is_pattern_word (λ x. pattern_word x.class x) (named (codes "_")) refl
      (λ x h. bare_pattern x.class x ∙ ap (λ (y : Lexeme). bare_shape (pattern_word y.class y)) h)))

  bare_words : (n : named_code.Named) (s : Span) (d : ℕ) → n.target ≡ Unknown →
      is_constructor (named_class n.path) ≡ true →
      Prints (IsPattern pass (may_at d) (inner_at pass d)) (named n.path ∷ [])
      (SameShape (constructor Written n no_shape s))
  bare_words n s d t e = first_of (made bare_of (named_token is_constructor n t e) (λ a r. let x = r in cc))

  -- a list of patterns
  abbrev pub Shapes_words : ℕ → ℕ → Shapes → Type 0
  Shapes_words d n ps = Prints (Counted pass quantity.Parts n (IsPattern pass (may_at d) (inner_at pass d)))
      (say_shapes ps) (λ l. bare_shapes (shapes l) ≡ bare_shapes ps)

  group_words : (n : named_code.Named) (p : Shape) (more : Shapes) (s : Span) (d : ℕ) → n.target ≡ Unknown →
      is_constructor (named_class n.path) ≡ true → Shapes_words d 0 (shape_and p more) →
      Prints (IsPattern pass (may_at (suc d)) (inner_at pass (suc d)))
      (wrapped false (named n.path ∷ say_shapes (shape_and p more)))
      (SameShape (constructor Written n (shape_and p more) s))
  group_words n p more s d t e q =
      second_of (second_of (second_of
      (made bracketed_of (opening is_left_paren class.LeftParen refl then_prints first_of
      (made {S = λ f. (r : Span) →
      bare_shape (f r) ≡ constructor Written (bare_named n) (bare_shapes (shape_and p more)) nowhere} group_of
      (named_token is_constructor n t e then_prints q) (λ a r v. group_value a.0 n a.1 p more v r.0 r.1))
      then_prints symbol is_right_paren class.RightParen refl) (λ a r. r.1.0 a.0))))

  dot_words : (t : Tree) (s : Span) (d : ℕ) → formed.Formed Fit pass t × formed.Plain t → need t ≤ d →
      Prints (IsPattern pass (may_at (suc d)) (inner_at pass (suc d)))
      (mark class.DotParen ∷ (say t ++ mark class.RightParen ∷ [])) (SameShape (dot Written t s))
  dot_words t s d f h =
      second_of (second_of (first_of
      (made dot_of (opening is_dot_paren class.DotParen refl then_prints (shown.shown Fit pass t f.0 d h).expr
      false (plain_ends t f.1) then_prints symbol is_right_paren class.RightParen refl) (λ a r. let x =
      r.1.0 in cc))))

  shapes_more : (d n : ℕ) (p : Shape) (more : Shapes) → formed.Shapes_formed Fit pass n (shape_and p more) →
      Prints (IsPattern pass (may_at d) (inner_at pass d)) (say_shape p) (SameShape p) →
      Shapes_words d (suc n) more → Shapes_words d n (shape_and p more)
  shapes_more d n p more f q r =
      run_more n refl (up_to_words pass quantity.Parts n (IsPattern pass (may_at d) (inner_at pass d)) f.0 q)
      (λ a x. r) (λ a l x y. ap (λ (v : Shape). shape_and v (bare_shapes (shapes l))) x ∙
      ap (λ (v : Shapes). shape_and (bare_shape p) v) y)

  mutual
    pub shown_shape : (p : Shape) → formed.Shape_formed Fit pass p →
        (d : ℕ) → need_shape p ≤ d →
        Prints (IsPattern pass (may_at d) (inner_at pass d)) (say_shape p) (SameShape p)
    shown_shape (variable k n s) f d h = rw f.0 (variable_words n s d f.1.0)
    shown_shape (wildcard k s) f d h = rw f (wildcard_words s d)
    shown_shape (constructor k n no_shape s) f d h = rw f.0 (bare_words n s d f.1.0 f.1.1.0.0)
    shown_shape (constructor k n (shape_and p more) s) f zero h = absurd (omega arith)
    shown_shape (constructor k n (shape_and p more) s) f (suc d) h =
        rw f.0 (group_words n p more s d f.1.0 f.1.1.0.0
        (shown_shapes (shape_and p more) 0 f.1.1.1 d (omega arith)))
    shown_shape (dot k t s) f zero h = absurd (omega arith)
    shown_shape (dot k t s) f (suc d) h = rw f.0 (dot_words t s d f.1 (omega arith))

    pub shown_shapes : (ps : Shapes) (n : ℕ) → formed.Shapes_formed Fit pass n ps →
        (d : ℕ) → need_shapes ps ≤ d → Shapes_words d n ps
    shown_shapes no_shape n f d h = run_none n refl refl
    shown_shapes (shape_and p more) n f d h =
        shapes_more d n p more f (shown_shape p f.1.0 d (omega arith))
        (shown_shapes more (suc n) f.1.1 d (omega arith))
