-- A tree that the grammar allows is said by its printed words, within as many levels as these take.
use Rattle.std.proofs.Common.{◌≡◌, ℕ, zero, suc, ◌≤◌, Bool, true, false, cond, List, [], ◌∷◌, ◌++◌, refl, sym, ap, ◌∙◌, subst, arith, codes}
use Rattle.qtt_base.specs.declared.place.Span.{Span}
use Rattle.qtt_base.specs.declared.limits.Quantity.{Quantity}
use Rattle.qtt_base.specs.declared.limits.Quantity.TheVariants as quantity
use Rattle.qtt_usage.specs.declared.mult.Mult.{Mult}
use Rattle.qtt_usage.specs.declared.mult.Mult.TheVariants as mult
use Rattle.qtt_syntax.specs.declared.expr.Mark.{Mark}
use Rattle.qtt_syntax.specs.declared.expr.Mark.TheVariants.{Written, Braced, Inserted}
use Rattle.qtt_syntax.specs.Tree as tree
use Rattle.qtt_syntax.specs.Tree.{Tree, Annotation, Arguments, Binder, Binders, Statement, Statements, arguments, binders, statements}
use Rattle.qtt_syntax.specs.Tree.Tree.{name, number, text, universe, hole, the, apply, pi, lambda, letting, doing}
use Rattle.qtt_syntax.specs.Tree.Annotation.{untyped, typed}
use Rattle.qtt_syntax.specs.Tree.Argument.{argument}
use Rattle.qtt_syntax.specs.Tree.Arguments.{no_argument, argument_and}
use Rattle.qtt_syntax.specs.Tree.Binder.{plain, typed_binder}
use Rattle.qtt_syntax.specs.Tree.Binders.{no_binder, binder_and}
use Rattle.qtt_syntax.specs.Tree.Statement.{bind, local, run}
use Rattle.qtt_syntax.specs.Tree.Statements.{no_statement, statement_and}
use Rattle.qtt_syntax.specs.Words.{Word}
use Rattle.qtt_syntax.specs.Printing.{is_atom, is_app, is_arrow}
use Rattle.qtt_phrase.specs.Phrase.{◌then◌, Many, Some_of}
use Rattle.qtt_grammar.specs.declared.class.Class.TheVariants as class
use Rattle.qtt_grammar.specs.declared.class.Pass.{Pass}
use Rattle.qtt_grammar.specs.declared.class.Standing.{Standing}
use Rattle.qtt_grammar.specs.Classes.{is_next, is_hole, is_name, is_bname}
use Rattle.qtt_grammar.specs.declared.lexeme.Lexeme.{Lexeme}
use Rattle.qtt_grammar.specs.Limits.{is_full}
use Rattle.qtt_grammar.specs.Grammar.{Says, Level, Up_to, next_of, written_of, standing_of, may_go, ends_in_hole, last_in_hole, statement_in_hole, IsBinder, IsAnnotation, Lines, Block, OtherAtom, IsAtom, Atoms, Brace, IsApp, Arrow, OtherExpr, IsExpr, IsStatement, Shape_of, Simple_level, levels}
use Rattle.qtt_reprint.specs.Sketch.{nowhere, named_class, word_lexeme}
use Rattle.qtt_reprint.specs.Unplaced.{bare, bare_argument, bare_arguments, bare_binder, bare_binders, bare_statement, bare_statements}
use Rattle.qtt_reprint.proofs.Prints.{Prints, value_is, token, chain, ◌then_prints◌, made, first_of, second_of, many_none, many_more, many_then_more, run_none, run_more}
use Rattle.qtt_reprint.proofs.Tokens.{symbol, named_token, number_token, text_token, type_token}
use Rattle.qtt_reprint.proofs.Saying.{mark, named, wrapped, say_typed, say_domain, say, say_annotation, say_arguments, say_binders, say_binder, say_statements, say_more, say_statement}
use Rattle.qtt_reprint.proofs.Formed as formed
use Rattle.qtt_reprint.proofs.Formed.{wrapped_need, need, need_annotation, need_arguments, need_binders, need_binder, need_statements, need_statement}
use Rattle.qtt_reprint.proofs.Forms.{Same, SameAnnotation, SameStatement, SameArguments, SameBinders, Some_words, Some_arguments, same_names, typed_words, plain_words, lambda_words, untyped_words, annotation_words, let_words, letting_words, bracket_words, brace_words, doing_words, the_words, named_app_words, other_app_words, name_words, atom_app_words, app_words, arrow_words, pi_words, bind_words, run_words, local_words, let_run_words}

-- ---- levels

abbrev pub may_at : ℕ → Bool
may_at zero = false
may_at (suc d) = true

abbrev pub inner_at : Pass → ℕ → Level
inner_at pass zero = Simple_level
inner_at pass (suc d) = Shape_of pass (may_at d) (inner_at pass d)

pub levels_are : (pass : Pass) (d : ℕ) → levels pass d ≡ Shape_of pass (may_at d) (inner_at pass d)
unfolding levels
levels_are pass zero = refl
levels_are pass (suc d) = ap (λ (l : Level). Shape_of pass true l) (levels_are pass d)

-- ---- there are words

some_append : (us ws : List Lexeme) → Some_words us → Some_words (us ++ ws)
some_append us ws s = record { head = s.head; rest = s.rest ++ ws; are = ap (λ (v : List Lexeme). v ++ ws) s.are }

some_wrapped : (b : Bool) (ws : List Lexeme) → Some_words ws → Some_words (wrapped b ws)
some_wrapped true ws s = s
some_wrapped false ws s = record { head = _; rest = _; are = refl }

some_cond : (b : Bool) (us ws : List Lexeme) → Some_words us → Some_words ws → Some_words (cond b us ws)
some_cond true us ws s t = s
some_cond false us ws s t = t

some_domain : (k : Mark) (m : Mult) (n : List ℕ) (a : Tree) (ws : List Lexeme) → Some_words ws →
    Some_words (say_domain k m n a ws)
some_domain Written m n a ws s =
    some_cond (is_arrow Written m n) _ _ (some_wrapped (is_app a) ws s)
    (record { head = _; rest = _; are = refl })
some_domain Braced m n a ws s = record { head = _; rest = _; are = refl }
some_domain Inserted m n a ws s = record { head = _; rest = _; are = refl }

pub some_words : (t : Tree) → Some_words (say t)
some_words (apply f args s) = some_append _ _ (some_wrapped (is_atom f) (say f) (some_words f))
some_words (pi k m n a b s) = some_append _ _ (some_domain k m n a (say a) (some_words a))
some_words (name n) = record { head = _; rest = _; are = refl }
some_words (number z s) = record { head = _; rest = _; are = refl }
some_words (text v s) = record { head = _; rest = _; are = refl }
some_words (universe l ls s) = record { head = _; rest = _; are = refl }
some_words (hole n s) = record { head = _; rest = _; are = refl }
some_words (the t e s) = record { head = _; rest = _; are = refl }
some_words (lambda bs t s) = record { head = _; rest = _; are = refl }
some_words (letting m n t e b s) = record { head = _; rest = _; are = refl }
some_words (doing ss s) = record { head = _; rest = _; are = refl }

-- ---- holes

abbrev mutual
  pub hole_kept : (t : Tree) → ends_in_hole (bare t) ≡ ends_in_hole t
  hole_kept (name n) = refl
  hole_kept (number z s) = refl
  hole_kept (text v s) = refl
  hole_kept (universe l ls s) = refl
  hole_kept (hole n s) = refl
  hole_kept (the t e s) = refl
  hole_kept (apply f args s) = refl
  hole_kept (pi k m n a b s) = refl
  hole_kept (lambda bs t s) = hole_kept t
  hole_kept (letting m n t e b s) = hole_kept b
  hole_kept (doing ss s) = last_kept ss

  last_kept : (ss : Statements) → last_in_hole (bare_statements ss) ≡ last_in_hole ss
  last_kept no_statement = refl
  last_kept (statement_and s no_statement) = statement_kept s
  last_kept (statement_and s (statement_and t more)) = last_kept (statement_and t more)

  statement_kept : (s : Statement) → statement_in_hole (bare_statement s) ≡ statement_in_hole s
  statement_kept (bind n e) = refl
  statement_kept (local m n t e s) = refl
  statement_kept (run t s) = hole_kept t

standing_kept : (s : Statement) → standing_of (bare_statement s) ≡ standing_of s
standing_kept (bind n e) = refl
standing_kept (local m n t e s) = refl
standing_kept (run t s) = ap (λ (b : Bool). cond b Standing.Last Standing.Within) (hole_kept t)

standing_same : (s u : Statement) → SameStatement s u → standing_of s ≡ standing_of u
standing_same s u e = sym (standing_kept s) ∙ ap standing_of (sym e) ∙ standing_kept u

not_last_case : (n : ℕ) (b : Bool) → may_go (n, cond b Standing.Last Standing.Within) ≡ true → b ≡ false
not_last_case n true e = absurd cc
not_last_case n false e = refl

not_last : (n : ℕ) (s : Statement) → may_go (n, standing_of s) ≡ true → statement_in_hole s ≡ false
not_last n (bind m e) h = refl
not_last n (local m k t e s) h = refl
not_last n (run t s) h = not_last_case n (ends_in_hole t) h

-- ---- counts

-- a phrase below its limit
pub up_to_case : {A : Type 0} {ws : List Lexeme} {R : A → Type 0} (P Q : Says A) (b : Bool) → b ≡ false →
    Prints P ws R → Prints (cond b Q P) ws R
up_to_case P Q true e p = absurd cc
up_to_case P Q false e p = p

pub up_to_words : {A : Type 0} {ws : List Lexeme} {R : A → Type 0} (pass : Pass) (q : Quantity) (n : ℕ)
    (P : Says A) → is_full pass q n ≡ false → Prints P ws R → Prints (Up_to pass q n P) ws R
up_to_words pass q n P e p = up_to_case P _ (is_full pass q n) e p

-- where no hole ends a tree, it may stand outside a tail position
pub plain_ends : (t : Tree) → ends_in_hole t ≡ false → ends_in_hole t ≡ true → false ≡ true
plain_ends t e f = sym e ∙ f

module _ (Fit : Word → Type 0) (pass : Pass) where
  abbrev pub Formed : Tree → Type 0
  Formed = formed.Formed Fit pass

  abbrev pub Plain : Tree → Type 0
  Plain = formed.Plain

  abbrev is_named : Tree → Bool
  is_named = formed.is_named

  abbrev pub Ends : Bool → Tree → Type 0
  Ends tail t = ends_in_hole t ≡ true → tail ≡ true

  -- the tree is said at this level
  pub record Shown (d : ℕ) (t : Tree) : Type 0 where
    pub expr : (tail : Bool) → Ends tail t → Prints (IsExpr pass (may_at d) (inner_at pass d) tail) (say t) (Same t)
    pub statement : (tail : Bool) (r : Span) → Ends tail t →
        Prints (IsStatement pass (may_at d) (inner_at pass d) tail) (say t) (SameStatement (run t r))
    pub app : is_app t ≡ true → Prints (IsApp pass (may_at d) (inner_at pass d)) (say t) (Same t)

  from_other : (d : ℕ) (t : Tree) → (is_app t ≡ true → ⊥) →
      ((tail : Bool) → Ends tail t → Prints (OtherExpr pass (may_at d) (inner_at pass d) tail) (say t) (Same t)) →
      Shown d t
  from_other d t n p = record {
    expr = λ tail e. second_of (p tail e);
    statement = λ tail r e. run_words pass (inner_at pass d) (may_at d) tail t r (say t) (some_words t) (p tail e);
    app = λ e. absurd (n e);
  }

  in_arrow : (d : ℕ) (tail : Bool) (t : Tree) →
      Prints (Arrow pass (may_at d) (inner_at pass d)) (say t) (Same t) →
      Prints (OtherExpr pass (may_at d) (inner_at pass d) tail) (say t) (Same t)
  in_arrow d tail t p = second_of (second_of (second_of (second_of p)))

  from_app : (d : ℕ) (t : Tree) → Prints (IsApp pass (may_at d) (inner_at pass d)) (say t) (Same t) → Shown d t
  from_app d t p = record {
    expr = λ tail e. second_of
        (in_arrow d tail t (app_words pass (inner_at pass d) (may_at d) t (say t) (some_words t) p));
    statement = λ tail r e. run_words pass (inner_at pass d) (may_at d) tail t r (say t) (some_words t)
        (in_arrow d tail t (app_words pass (inner_at pass d) (may_at d) t (say t) (some_words t) p));
    app = λ e. p;
  }

  -- ---- atoms

  in_bracket : (t : Tree) (d : ℕ) → Plain t → ((e : ℕ) → need t ≤ e → Shown e t) → suc (need t) ≤ d →
      Prints (OtherAtom pass (may_at d) (inner_at pass d)) (wrapped false (say t)) (Same t)
  in_bracket t zero p r h = absurd (omega arith)
  in_bracket t (suc e) p r h =
      second_of (bracket_words pass (inner_at pass (suc e)) t (say t)
      ((r e (omega arith)).expr false (plain_ends t p)))

  other_atom : (t : Tree) (d : ℕ) → Formed t → Plain t → is_named t ≡ false → ((e : ℕ) → need t ≤ e → Shown e t) →
      wrapped_need (is_atom t) (need t) ≤ d →
      Prints (OtherAtom pass (may_at d) (inner_at pass d)) (wrapped (is_atom t) (say t)) (Same t)
  other_atom (name n) d f p n' r h = absurd cc
  other_atom (number z s) d f p n r h = first_of (number_token pass z s)
  other_atom (text v s) d f p n r h = first_of (text_token pass v s f.0)
  other_atom (universe l ls s) d f p n r h = first_of (type_token pass l ls s f.0)
  other_atom (hole n s) d f p n' r h = in_bracket (hole n s) d p r h
  other_atom (the t e s) d f p n r h = in_bracket (the t e s) d p r h
  other_atom (apply g args s) d f p n r h = in_bracket (apply g args s) d p r h
  other_atom (pi k m n a b s) d f p n' r h = in_bracket (pi k m n a b s) d p r h
  other_atom (lambda bs t s) d f p n r h = in_bracket (lambda bs t s) d p r h
  other_atom (letting m n t e b s) d f p n' r h = in_bracket (letting m n t e b s) d p r h
  other_atom (doing ss s) d f p n r h = in_bracket (doing ss s) d p r h

  name_atom : (t : Tree) (d : ℕ) → Formed t → is_named t ≡ true →
      Prints (IsAtom pass (may_at d) (inner_at pass d)) (wrapped (is_atom t) (say t)) (Same t)
  name_atom (name n) d f e = first_of (made name (named_token is_name n f.0 f.1.0) (λ a r. ap name r))
  name_atom (number z s) d f e = absurd cc
  name_atom (text v s) d f e = absurd cc
  name_atom (universe l ls s) d f e = absurd cc
  name_atom (hole n s) d f e = absurd cc
  name_atom (the t u s) d f e = absurd cc
  name_atom (apply g args s) d f e = absurd cc
  name_atom (pi k m n a b s) d f e = absurd cc
  name_atom (lambda bs t s) d f e = absurd cc
  name_atom (letting m n t u b s) d f e = absurd cc
  name_atom (doing ss s) d f e = absurd cc

  atom_case : (b : Bool) (t : Tree) (d : ℕ) → is_named t ≡ b → Formed t → Plain t →
      ((e : ℕ) → need t ≤ e → Shown e t) → wrapped_need (is_atom t) (need t) ≤ d →
      Prints (IsAtom pass (may_at d) (inner_at pass d)) (wrapped (is_atom t) (say t)) (Same t)
  atom_case true t d e f p r h = name_atom t d f e
  atom_case false t d e f p r h = second_of (other_atom t d f p e r h)

  atom : (t : Tree) (d : ℕ) → Formed t → Plain t → ((e : ℕ) → need t ≤ e → Shown e t) →
      wrapped_need (is_atom t) (need t) ≤ d →
      Prints (IsAtom pass (may_at d) (inner_at pass d)) (wrapped (is_atom t) (say t)) (Same t)
  atom t d f p r h = atom_case (is_named t) t d refl f p r h

  -- ---- applications and domains

  some_args : (args : Arguments) → formed.some_argument args ≡ true → Some_arguments args
  some_args no_argument e = absurd cc
  some_args (argument_and a more) e = record { head = a; rest = more; are = refl }

  name_apply : (f : Tree) (args : Arguments) (s : Span) (d : ℕ) → Formed f → is_named f ≡ true →
      Some_arguments args →
      Prints (Many (Brace pass (may_at d) (inner_at pass d)) then Atoms pass (may_at d) (inner_at pass d))
      (say_arguments args) (λ p. SameArguments args (p.0 ++ p.1)) →
      Prints (IsApp pass (may_at d) (inner_at pass d)) (wrapped (is_atom f) (say f) ++ say_arguments args)
      (Same (apply f args s))
  name_apply (name n) args s d f e k p =
      named_app_words pass (inner_at pass d) (may_at d) n args s (say_arguments args) f.0 f.1.0 k p
  name_apply (number z t) args s d f e k p = absurd cc
  name_apply (text v t) args s d f e k p = absurd cc
  name_apply (universe l ls t) args s d f e k p = absurd cc
  name_apply (hole n t) args s d f e k p = absurd cc
  name_apply (the t u r) args s d f e k p = absurd cc
  name_apply (apply g bs t) args s d f e k p = absurd cc
  name_apply (pi c m n a b t) args s d f e k p = absurd cc
  name_apply (lambda bs t r) args s d f e k p = absurd cc
  name_apply (letting m n t u b r) args s d f e k p = absurd cc
  name_apply (doing ss t) args s d f e k p = absurd cc

  apply_case : (b : Bool) (f : Tree) (args : Arguments) (s : Span) (d : ℕ) → is_named f ≡ b → Formed f → Plain f →
      Some_arguments args → formed.Arguments_formed Fit pass b args → ((e : ℕ) → need f ≤ e → Shown e f) →
      wrapped_need (is_atom f) (need f) ≤ d →
      (formed.Arguments_formed Fit pass true args →
      Prints (Many (Brace pass (may_at d) (inner_at pass d)) then Atoms pass (may_at d) (inner_at pass d))
      (say_arguments args) (λ p. SameArguments args (p.0 ++ p.1))) →
      (formed.Arguments_formed Fit pass false args →
      Prints (Atoms pass (may_at d) (inner_at pass d)) (say_arguments args) (SameArguments args)) →
      Prints (IsApp pass (may_at d) (inner_at pass d)) (wrapped (is_atom f) (say f) ++ say_arguments args)
      (Same (apply f args s))
  apply_case true f args s d e ff pf k g r h named atoms = name_apply f args s d ff e k (named g)
  apply_case false f args s d e ff pf k g r h named atoms =
      other_app_words pass (inner_at pass d) (may_at d) f args s (wrapped (is_atom f) (say f))
      (say_arguments args) (some_append _ _ (some_wrapped (is_atom f) (say f) (some_words f))) k
      (other_atom f d ff pf e r h) (atoms g)

  domain_app : (b : Bool) (a : Tree) (d : ℕ) → is_app a ≡ b → Plain a → ((e : ℕ) → need a ≤ e → Shown e a) →
      wrapped_need b (need a) ≤ d → Prints (IsApp pass (may_at d) (inner_at pass d)) (wrapped b (say a)) (Same a)
  domain_app true a d e p r h = (r d h).app e
  domain_app false a d e p r h =
      atom_app_words pass (inner_at pass d) (may_at d) a (wrapped false (say a))
      (record { head = _; rest = _; are = refl }) (in_bracket a d p r h)

  arrow_parts : (m : Mult) (n : List ℕ) → is_arrow Written m n ≡ true → (m ≡ mult.Many) × (n ≡ codes "_")
  arrow_parts mult.Many n e = (refl, same_names n (codes "_") e)
  arrow_parts mult.Zero n e = absurd cc
  arrow_parts mult.One n e = absurd cc

  -- a function type, whose right side opens a level
  pi_case : (v : Bool) (m : Mult) (n : List ℕ) (a b : Tree) (s : Span) (d : ℕ) (tail : Bool) →
      is_arrow Written m n ≡ v → is_bname (named_class n) ≡ true → Plain a → Plain b →
      ((e : ℕ) → need a ≤ e → Shown e a) → ((e : ℕ) → need b ≤ e → Shown e b) →
      cond v (wrapped_need (is_app a) (need a)) (suc (need a)) ≤ suc d → need b ≤ d →
      Prints (OtherExpr pass true (inner_at pass (suc d)) tail)
      (cond v (wrapped (is_app a) (say a)) (say_typed m n (say a)) ++ mark class.Arrow ∷ say b)
      (Same (pi Written m n a b s))
  pi_case true m n a b s d tail e f pa pb ra rb ha hb =
      let parts = arrow_parts m n e in
      rw (parts.0, parts.1) (second_of
      (second_of (second_of
      (second_of (arrow_words pass (inner_at pass (suc d)) a b s (wrapped (is_app a) (say a)) (say b)
      (some_wrapped (is_app a) (say a) (some_words a)) (domain_app (is_app a) a (suc d) refl pa ra ha)
      ((rb d hb).expr false (plain_ends b pb)))))))
  pi_case false m n a b s d tail e f pa pb ra rb ha hb =
      second_of (second_of (second_of
      (first_of (pi_words pass (inner_at pass (suc d)) m n a b s (say_typed m n (say a)) (say b)
      (typed_words pass (inner_at pass (suc d)) m n a s s (say a) f
      ((ra d (omega arith)).expr false (plain_ends a pa))) ((rb d hb).expr false (plain_ends b pb))))))

  hole_words : (n : List ℕ) (s : Span) (d : ℕ) (tail : Bool) → tail ≡ true →
      Prints (OtherExpr pass (may_at d) (inner_at pass d) tail) (word_lexeme (Word.hole_named n) ∷ [])
      (Same (hole n s))
  hole_words n s d true e =
      first_of (token is_hole (λ x. hole x.name x.place) (word_lexeme (Word.hole_named n)) refl
      (λ x h. ap (λ (y : Lexeme). hole y.name nowhere) h))
  hole_words n s d false e = absurd cc

  -- ---- arguments and binders

  atoms_more : (d : ℕ) (t : Tree) (more : Arguments) (us ws : List Lexeme) →
      Prints (IsAtom pass (may_at d) (inner_at pass d)) us (Same t) →
      Prints (Atoms pass (may_at d) (inner_at pass d)) ws (SameArguments more) →
      Prints (Atoms pass (may_at d) (inner_at pass d)) (us ++ ws)
      (SameArguments (argument_and (argument Written t) more))
  atoms_more d t more us ws p q =
      many_more (made {S = λ a. bare_argument a ≡ argument Written (bare t)} written_of p
      (λ a r. ap (λ (v : Tree). argument Written v) r)) q
      (λ a l r x. ap (λ (v : tree.Argument). argument_and v (bare_arguments (arguments l))) r ∙
      ap (λ (v : Arguments). argument_and (argument Written (bare t)) v) x)

  abbrev Named_words : ℕ → List Lexeme → Arguments → Type 0
  Named_words d ws args = Prints
      (Many (Brace pass (may_at d) (inner_at pass d)) then Atoms pass (may_at d) (inner_at pass d)) ws
      (λ p. SameArguments args (p.0 ++ p.1))

  without_braces : (d : ℕ) (args : Arguments) (ws : List Lexeme) →
      Prints (Atoms pass (may_at d) (inner_at pass d)) ws (SameArguments args) → Named_words d ws args
  without_braces d args ws p =
      value_is (λ a r. let e = r.0 in rw e r.1) (many_none {R = λ l. l ≡ []} refl then_prints p)

  brace_more : (d : ℕ) (t : Tree) (more : Arguments) (us ws : List Lexeme) →
      Prints (Brace pass (may_at d) (inner_at pass d)) us (λ a. bare_argument a ≡ argument Braced (bare t)) →
      Named_words d ws more → Named_words d (us ++ ws) (argument_and (argument Braced t) more)
  brace_more d t more us ws p q =
      many_then_more (Brace pass (may_at d) (inner_at pass d)) (Atoms pass (may_at d) (inner_at pass d))
      (λ p. SameArguments more (p.0 ++ p.1))
      (λ p. SameArguments (argument_and (argument Braced t) more) (p.0 ++ p.1)) p q
      (λ a c r x. ap (λ (v : tree.Argument). argument_and v (bare_arguments (arguments (c.0 ++ c.1)))) r ∙
      ap (λ (v : Arguments). argument_and (argument Braced (bare t)) v) x)

  binders_more : (d : ℕ) (b : Binder) (more : Binders) (us ws : List Lexeme) →
      Prints (IsBinder pass (may_at d) (inner_at pass d)) us (λ c. bare_binder c ≡ bare_binder b) →
      Prints (Many (IsBinder pass (may_at d) (inner_at pass d))) ws (SameBinders more) →
      Prints (Many (IsBinder pass (may_at d) (inner_at pass d))) (us ++ ws) (SameBinders (binder_and b more))
  binders_more d b more us ws p q =
      many_more p q (λ a l r x. ap (λ (v : Binder). binder_and v (bare_binders (binders l))) r ∙
      ap (λ (v : Binders). binder_and (bare_binder b) v) x)

  some_binders : (d : ℕ) (b : Binder) (more : Binders) →
      Prints (IsBinder pass (may_at d) (inner_at pass d)) (say_binder b) (λ c. bare_binder c ≡ bare_binder b) →
      Prints (Many (IsBinder pass (may_at d) (inner_at pass d))) (say_binders more) (SameBinders more) →
      Prints (Some_of (IsBinder pass (may_at d) (inner_at pass d))) (say_binders (binder_and b more))
      (λ p. SameBinders (binder_and b more) (p.0 ∷ p.1))
  some_binders d b more p q = value_is (λ a r. let x = r.0 in let y = r.1 in cc) (p then_prints q)

  -- ---- statements

  abbrev Block_words : ℕ → Bool → Statements → Type 0
  Block_words d tail ss = Prints (Block pass true (inner_at pass (suc d)) tail) (say_statements ss)
      (λ p. bare_statements (statements (p.0 ∷ p.1)) ≡ bare_statements ss)

  abbrev Lines_words : ℕ → Bool → ℕ → Standing → Statements → Type 0
  Lines_words d tail n st ss =
      Prints (Lines pass true (inner_at pass (suc d)) tail (n, st)) (say_more ss)
      (λ l. bare_statements (statements l) ≡ bare_statements ss)

  block_words : (d : ℕ) (tail : Bool) (s : Statement) (more : Statements) →
      Prints (IsStatement pass (may_at d) (inner_at pass d) tail) (say_statement s) (SameStatement s) →
      Lines_words d tail 1 (standing_of s) more → Block_words d tail (statement_and s more)
  block_words d tail s more p q =
      value_is (λ a r. let x = r.0 in let y = r.1 in cc)
      (chain p (λ u r. subst (λ (st : Standing). Lines_words d tail 1 st more) (standing_same s u r) q))

  lines_words : (d : ℕ) (tail : Bool) (n : ℕ) (st : Standing) (t : Statement) (rest : Statements) →
      may_go (n, st) ≡ true → is_full pass quantity.Statements n ≡ false →
      Prints (IsStatement pass (may_at d) (inner_at pass d) tail) (say_statement t) (SameStatement t) →
      Lines_words d tail (suc n) (standing_of t) rest → Lines_words d tail n st (statement_and t rest)
  lines_words d tail n st t rest g f p q =
      run_more (n, st) g (made next_of
      (symbol is_next class.Next refl then_prints up_to_words pass quantity.Statements n
      (IsStatement pass (may_at d) (inner_at pass d) tail) f p) (λ a r. r.1))
      (λ u r. subst (λ (w : Standing). Lines_words d tail (suc n) w rest) (standing_same t u r) q)
      (λ a l r x. let y = r in let z = x in cc)

  -- a hole ends a statement only where the block may end in one
  statement_ends : (n : ℕ) (t : Statement) (rest : Statements) (tail : Bool) →
      formed.Statements_formed Fit pass n (statement_and t rest) →
      (last_in_hole (statement_and t rest) ≡ true → tail ≡ true) → statement_in_hole t ≡ true → tail ≡ true
  statement_ends n t no_statement tail f e = e
  statement_ends n t (statement_and u rest) tail f e = λ h. absurd (let k = not_last n t f.1.0 in let j = h in cc)

  statement_formed : (n : ℕ) (t : Statement) (rest : Statements) →
      formed.Statements_formed Fit pass n (statement_and t rest) → formed.Statement_formed Fit pass t
  statement_formed n t no_statement f = f.0
  statement_formed n t (statement_and u rest) f = f.0

  mutual
    pub shown : (t : Tree) → Formed t → (d : ℕ) → need t ≤ d → Shown d t
    shown (name n) f d h = from_app d (name n) (name_words pass (inner_at pass d) (may_at d) n f.0 f.1.0)
    shown (number z s) f d h =
        from_app d (number z s)
        (atom_app_words pass (inner_at pass d) (may_at d) (number z s) _ (some_words (number z s))
        (first_of (number_token pass z s)))
    shown (text v s) f d h = from_app d (text v s)
        (atom_app_words pass (inner_at pass d) (may_at d) (text v s) _ (some_words (text v s))
        (first_of (text_token pass v s f.0)))
    shown (universe l ls s) f d h =
        from_app d (universe l ls s)
        (atom_app_words pass (inner_at pass d) (may_at d) (universe l ls s) _ (some_words (universe l ls s))
        (first_of (type_token pass l ls s f.0)))
    shown (hole n s) f d h = from_other d (hole n s) (λ e. absurd cc) (λ tail e. hole_words n s d tail (e refl))
    shown (the t e s) f d h =
        from_app d (the t e s) (the_words pass (inner_at pass d) (may_at d) t e s (wrapped (is_atom t) (say t))
        (wrapped (is_atom e) (say e)) (atom t d f.0.0 f.0.1 (shown t f.0.0) (omega arith))
        (atom e d f.1.0 f.1.1 (shown e f.1.0) (omega arith)))
    shown (apply g args s) f d h =
        from_app d (apply g args s)
        (apply_case (is_named g) g args s d refl f.0.0 f.0.1 (some_args args f.1.0) f.1.1 (shown g f.0.0)
        (omega arith) (λ k. shown_named args k d (omega arith)) (λ k. shown_atoms args k d (omega arith)))
    shown (pi Written m n a b s) f zero h = absurd (omega arith)
    shown (pi Written m n a b s) f (suc d) h =
        from_other (suc d) (pi Written m n a b s) (λ e. absurd cc)
        (λ tail e. pi_case (is_arrow Written m n) m n a b s d tail refl f.0.0 f.1.0.1 f.1.1.1 (shown a f.1.0.0)
        (shown b f.1.1.0) (omega arith) (omega arith))
    shown (pi Braced m n a b s) f d h = absurd f
    shown (pi Inserted m n a b s) f d h = absurd f
    shown (lambda bs t s) f zero h = absurd (omega arith)
    shown (lambda no_binder t s) f (suc d) h = absurd (let e = f.0 in cc)
    shown (lambda (binder_and b more) t s) f (suc d) h =
        from_other (suc d) (lambda (binder_and b more) t s) (λ e. absurd cc)
        (λ tail e. second_of (first_of
        (lambda_words pass (inner_at pass (suc d)) tail (binder_and b more) t s
        (say_binders (binder_and b more)) (say t)
        (some_binders d b more (shown_binder b f.1.0.0 d (omega arith))
        (shown_binders more f.1.0.1 d (omega arith))) ((shown t f.1.1 d (omega arith)).expr tail e))))
    shown (letting m n t e b s) f zero h = absurd (omega arith)
    shown (letting m n t e b s) f (suc d) h =
        let head = let_words pass (inner_at pass (suc d)) m n.name t e (say_annotation t) (say e) f.0.0
        (shown_annotation t f.1.0 d (omega arith))
        ((shown e f.1.1.0.0 d (omega arith)).expr false (plain_ends e f.1.1.0.1)) in
        record {
          expr = λ tail k. first_of
              (letting_words pass (inner_at pass (suc d)) tail m n t e b s _ (say b) head
              ((shown b f.1.1.1 d (omega arith)).expr tail k));
          statement = λ tail r k. let_run_words pass (inner_at pass (suc d)) tail m n t e b s r _ (say b) head
              ((shown b f.1.1.1 d (omega arith)).expr tail k);
          app = λ k. absurd cc;
        }
    shown (doing ss s) f zero h = absurd (omega arith)
    shown (doing no_statement s) f (suc d) h = absurd f
    shown (doing (statement_and u more) s) f (suc d) h =
        from_other (suc d) (doing (statement_and u more) s) (λ e. absurd cc)
        (λ tail e. second_of (second_of
        (first_of (doing_words pass (inner_at pass (suc d)) tail (statement_and u more) s
        (say_statements (statement_and u more))
        (block_words d tail u more
        (shown_statement u (statement_formed 1 u more f) d (omega arith) tail
        (statement_ends 1 u more tail f e)) (shown_lines 1 u more f d (omega arith) tail e))))))

    shown_annotation : (t : Annotation) → formed.Annotation_formed Fit pass t →
        (d : ℕ) → need_annotation t ≤ d →
        Prints (IsAnnotation pass true (inner_at pass (suc d))) (say_annotation t) (SameAnnotation t)
    shown_annotation untyped f d h = untyped_words pass (inner_at pass (suc d)) true
    shown_annotation (typed t) f d h =
        annotation_words pass (inner_at pass (suc d)) true t (say t)
        ((shown t f.0 d h).expr false (plain_ends t f.1))

    shown_atoms : (args : Arguments) → formed.Arguments_formed Fit pass false args →
        (d : ℕ) → need_arguments args ≤ d →
        Prints (Atoms pass (may_at d) (inner_at pass d)) (say_arguments args) (SameArguments args)
    shown_atoms no_argument f d h = many_none refl
    shown_atoms (argument_and (argument Written t) more) f d h =
        atoms_more d t more _ _ (atom t d f.0.0 f.0.1 (shown t f.0.0) (omega arith))
        (shown_atoms more f.1 d (omega arith))
    shown_atoms (argument_and (argument Braced t) more) f d h = absurd (let e = f.0 in cc)
    shown_atoms (argument_and (argument Inserted t) more) f d h = absurd f

    shown_named : (args : Arguments) → formed.Arguments_formed Fit pass true args →
        (d : ℕ) → need_arguments args ≤ d →
        Prints (Many (Brace pass (may_at d) (inner_at pass d)) then Atoms pass (may_at d) (inner_at pass d))
        (say_arguments args) (λ p. SameArguments args (p.0 ++ p.1))
    shown_named no_argument f d h = without_braces d no_argument [] (many_none refl)
    shown_named (argument_and (argument Written t) more) f d h =
        without_braces d (argument_and (argument Written t) more) _
        (atoms_more d t more _ _ (atom t d f.0.0 f.0.1 (shown t f.0.0) (omega arith))
        (shown_atoms more f.1 d (omega arith)))
    shown_named (argument_and (argument Braced t) more) f zero h = absurd (omega arith)
    shown_named (argument_and (argument Braced t) more) f (suc d) h =
        brace_more (suc d) t more _ _
        (brace_words pass (inner_at pass (suc d)) t (say t)
        ((shown t f.1.0.0 d (omega arith)).expr false (plain_ends t f.1.0.1)))
        (shown_named more f.1.1 (suc d) (omega arith))
    shown_named (argument_and (argument Inserted t) more) f d h = absurd f

    shown_binder : (b : Binder) → formed.Binder_formed Fit pass b →
        (d : ℕ) → need_binder b ≤ d →
        Prints (IsBinder pass (may_at d) (inner_at pass d)) (say_binder b) (λ c. bare_binder c ≡ bare_binder b)
    shown_binder (plain n) f d h = plain_words pass (inner_at pass d) (may_at d) n f.0
    shown_binder (typed_binder m n t s) f zero h = absurd (omega arith)
    shown_binder (typed_binder m n t s) f (suc d) h =
        second_of (typed_words pass (inner_at pass (suc d)) m n.name t s s (say t) f.0.0
        ((shown t f.1.0 d (omega arith)).expr false (plain_ends t f.1.1)))

    shown_binders : (bs : Binders) → formed.Binders_formed Fit pass bs →
        (d : ℕ) → need_binders bs ≤ d →
        Prints (Many (IsBinder pass (may_at d) (inner_at pass d))) (say_binders bs) (SameBinders bs)
    shown_binders no_binder f d h = many_none refl
    shown_binders (binder_and b more) f d h =
        binders_more d b more _ _ (shown_binder b f.0 d (omega arith)) (shown_binders more f.1 d (omega arith))

    shown_statement : (s : Statement) → formed.Statement_formed Fit pass s → (d : ℕ) → need_statement s ≤ d →
        (tail : Bool) → (statement_in_hole s ≡ true → tail ≡ true) →
        Prints (IsStatement pass (may_at d) (inner_at pass d) tail) (say_statement s) (SameStatement s)
    shown_statement (bind n e) f d h tail k =
        bind_words pass (inner_at pass d) (may_at d) tail n e (say e) f.0.0
        ((shown e f.1.0 d h).expr false (plain_ends e f.1.1))
    shown_statement (local m n t e s) f zero h tail k = absurd (omega arith)
    shown_statement (local m n t e s) f (suc d) h tail k =
        local_words pass (inner_at pass (suc d)) tail m n t e s _
        (let_words pass (inner_at pass (suc d)) m n.name t e (say_annotation t) (say e) f.0.0
        (shown_annotation t f.1.0 d (omega arith))
        ((shown e f.1.1.0 d (omega arith)).expr false (plain_ends e f.1.1.1)))
    shown_statement (run t s) f d h tail k = (shown t f d h).statement tail s k

    shown_lines : (n : ℕ) (s : Statement) (more : Statements) →
        formed.Statements_formed Fit pass n (statement_and s more) → (d : ℕ) → need_statements more ≤ d →
        (tail : Bool) → (last_in_hole (statement_and s more) ≡ true → tail ≡ true) →
        Lines_words d tail n (standing_of s) more
    shown_lines n s no_statement f d h tail k = run_none (n, standing_of s) f.1 refl
    shown_lines n s (statement_and t rest) f d h tail k =
        lines_words d tail n (standing_of s) t rest f.1.0 f.1.1.0
        (shown_statement t (statement_formed (suc n) t rest f.1.1.1) d (omega arith) tail
        (statement_ends (suc n) t rest tail f.1.1.1 k))
        (shown_lines (suc n) t rest f.1.1.1 d (omega arith) tail k)
