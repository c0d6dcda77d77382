-- What the grammar asks of a tree, and how many nesting levels its printed form takes.
use Rattle.std.proofs.Common.{◌≡◌, ℕ, suc, ◌≤◌, max, Bool, true, false, cond, List, [], ◌∷◌, None}
use Rattle.qtt_base.specs.declared.limits.Quantity.TheVariants as quantity
use Rattle.qtt_usage.specs.declared.mult.Mult.{Mult}
use Rattle.qtt_usage.specs.declared.mult.Mult.TheVariants.{Zero, One, Many}
use Rattle.qtt_syntax.specs.declared.expr.Target.TheVariants.{Unknown}
use Rattle.qtt_syntax.specs.declared.expr.Mark.{Mark}
use Rattle.qtt_syntax.specs.declared.expr.Mark.TheVariants.{Written, Braced, Inserted}
use Rattle.qtt_syntax.specs.Tree.{Tree, Annotation, Argument, Arguments, Binder, Binders, Statement, Statements, Shape, Shapes, Param, Con, Item, Module, shapes}
use Rattle.qtt_syntax.specs.Tree.Tree.{name, number, text, universe, hole, the, apply, pi, lambda, letting, doing}
use Rattle.qtt_syntax.specs.Tree.Annotation.{untyped, typed}
use Rattle.qtt_syntax.specs.Tree.Argument.{argument}
use Rattle.qtt_syntax.specs.Tree.Arguments.{no_argument, argument_and}
use Rattle.qtt_syntax.specs.Tree.Binder.{plain, typed_binder}
use Rattle.qtt_syntax.specs.Tree.Binders.{no_binder, binder_and}
use Rattle.qtt_syntax.specs.Tree.Statement.{bind, local, run}
use Rattle.qtt_syntax.specs.Tree.Statements.{no_statement, statement_and}
use Rattle.qtt_syntax.specs.Tree.Shape.{variable, wildcard, constructor, dot}
use Rattle.qtt_syntax.specs.Tree.Shapes.{no_shape, shape_and}
use Rattle.qtt_syntax.specs.Tree.Param.{param}
use Rattle.qtt_syntax.specs.Tree.Con.{con}
use Rattle.qtt_syntax.specs.Tree.Item.{family, signature, clause}
use Rattle.qtt_syntax.specs.Tree.Module.{module_text}
use Rattle.qtt_syntax.specs.declared.module.Import.{Import}
use Rattle.qtt_syntax.specs.Words.{Word}
use Rattle.qtt_syntax.specs.Printing.{is_atom, is_app, is_arrow, is_empty}
use Rattle.qtt_grammar.specs.declared.class.Class.{Class}
use Rattle.qtt_grammar.specs.declared.class.Class.TheVariants as class
use Rattle.qtt_grammar.specs.declared.class.Pass.{Pass}
use Rattle.qtt_grammar.specs.Classes.{same, is_name, is_simple, is_bname, is_big, is_constructor}
use Rattle.qtt_grammar.specs.Lexeme.{type_lexeme, text_lexeme}
use Rattle.qtt_grammar.specs.Limits.{is_full, excess_of}
use Rattle.qtt_grammar.specs.Grammar.{ends_in_hole, standing_of, may_end, may_go, Place, start, clauses_before, next_place}
use Rattle.qtt_grammar.specs.Grammar.Entry.{listed}
use Rattle.qtt_reprint.specs.Sketch.{nowhere, named_class}

-- ---- nesting levels

-- one more for brackets where they are needed
abbrev pub wrapped_need : Bool → ℕ → ℕ
wrapped_need true n = n
wrapped_need false n = suc n

abbrev pub domain_need : Mark → Mult → List ℕ → Tree → ℕ → ℕ
domain_need Written m n a k = cond (is_arrow Written m n) (wrapped_need (is_app a) k) (suc k)
domain_need _ m n a k = suc k

abbrev mutual
  pub need : Tree → ℕ
  need (name n) = 0
  need (number z s) = 0
  need (text v s) = 0
  need (universe l ls s) = 0
  need (hole n s) = 0
  need (the t e s) = max (wrapped_need (is_atom t) (need t)) (wrapped_need (is_atom e) (need e))
  need (apply f args s) = max (wrapped_need (is_atom f) (need f)) (need_arguments args)
  need (pi k m n a b s) = max (domain_need k m n a (need a)) (suc (need b))
  need (lambda bs t s) = max (suc (need_binders bs)) (suc (need t))
  need (letting m n t e b s) = max (suc (need_annotation t)) (max (suc (need e)) (suc (need b)))
  need (doing ss s) = suc (need_statements ss)

  pub need_annotation : Annotation → ℕ
  need_annotation untyped = 0
  need_annotation (typed t) = need t

  pub need_arguments : Arguments → ℕ
  need_arguments no_argument = 0
  need_arguments (argument_and a more) = max (need_argument a) (need_arguments more)

  pub need_argument : Argument → ℕ
  need_argument (argument Written t) = wrapped_need (is_atom t) (need t)
  need_argument (argument Braced t) = suc (need t)
  need_argument (argument Inserted t) = suc (need t)

  pub need_binders : Binders → ℕ
  need_binders no_binder = 0
  need_binders (binder_and b more) = max (need_binder b) (need_binders more)

  pub need_binder : Binder → ℕ
  need_binder (plain n) = 0
  need_binder (typed_binder m n t s) = suc (need t)

  pub need_statements : Statements → ℕ
  need_statements no_statement = 0
  need_statements (statement_and s more) = max (need_statement s) (need_statements more)

  pub need_statement : Statement → ℕ
  need_statement (bind n e) = need e
  need_statement (local m n t e s) = max (suc (need_annotation t)) (suc (need e))
  need_statement (run e s) = need e

abbrev mutual
  pub need_shape : Shape → ℕ
  need_shape (variable k n s) = 0
  need_shape (wildcard k s) = 0
  need_shape (constructor k n ps s) = wrapped_need (is_empty ps) (need_shapes ps)
  need_shape (dot k t s) = suc (need t)

  pub need_shapes : Shapes → ℕ
  need_shapes no_shape = 0
  need_shapes (shape_and p more) = max (need_shape p) (need_shapes more)

-- ---- forms

-- no hole ends the tree
abbrev pub Plain : Tree → Type 0
Plain t = ends_in_hole t ≡ false

abbrev pub is_named : Tree → Bool
is_named (name n) = true
is_named _ = false

abbrev pub some_argument : Arguments → Bool
some_argument no_argument = false
some_argument (argument_and a more) = true

abbrev pub some_binder : Binders → Bool
some_binder no_binder = false
some_binder (binder_and b more) = true

abbrev pub is_zero_or_many : Mult → Bool
is_zero_or_many Zero = true
is_zero_or_many One = false
is_zero_or_many Many = true

module _ (Fit : Word → Type 0) (pass : Pass) where
  -- a name of this form
  abbrev pub Named : (Class → Bool) → List ℕ → Type 0
  Named is n = (is (named_class n) ≡ true) × Fit (Word.named n)

  abbrev mutual
    pub Formed : Tree → Type 0
    Formed (name n) = (n.target ≡ Unknown) × Named is_name n.path
    Formed (number z s) = Fit (Word.numeral z)
    Formed (text v s) = (excess_of pass (text_lexeme nowhere v) ≡ None) × Fit (Word.quoted v)
    Formed (universe l ls s) = (excess_of pass (type_lexeme nowhere l nowhere) ≡ None) × Fit (Word.type_at l)
    Formed (hole n s) = Fit (Word.hole_named n)
    Formed (the t e s) = (Formed t × Plain t) × (Formed e × Plain e)
    Formed (apply f args s) = (Formed f × Plain f) × ((some_argument args ≡ true) × Arguments_formed (is_named f) args)
    Formed (pi Written m n a b s) = Named is_bname n × ((Formed a × Plain a) × (Formed b × Plain b))
    Formed (pi Braced m n a b s) = ⊥
    Formed (pi Inserted m n a b s) = ⊥
    Formed (lambda bs t s) = (some_binder bs ≡ true) × (Binders_formed bs × Formed t)
    Formed (letting m n t e b s) = Named is_bname n.name × (Annotation_formed t × ((Formed e × Plain e) × Formed b))
    Formed (doing ss s) = Statements_formed 1 ss

    pub Annotation_formed : Annotation → Type 0
    Annotation_formed untyped = Unit {0}
    Annotation_formed (typed t) = Formed t × Plain t

    -- braces may stand before the others, behind a name
    pub Arguments_formed : Bool → Arguments → Type 0
    Arguments_formed braces no_argument = Unit {0}
    Arguments_formed braces (argument_and (argument Written t) more) =
        (Formed t × Plain t) × Arguments_formed false more
    Arguments_formed braces (argument_and (argument Braced t) more) =
        (braces ≡ true) × ((Formed t × Plain t) × Arguments_formed braces more)
    Arguments_formed braces (argument_and (argument Inserted t) more) = ⊥

    pub Binders_formed : Binders → Type 0
    Binders_formed no_binder = Unit {0}
    Binders_formed (binder_and b more) = Binder_formed b × Binders_formed more

    pub Binder_formed : Binder → Type 0
    Binder_formed (plain n) = Named is_bname n.name
    Binder_formed (typed_binder m n t s) = Named is_bname n.name × (Formed t × Plain t)

    -- the first one is the statement with this number
    pub Statements_formed : ℕ → Statements → Type 0
    Statements_formed n no_statement = ⊥
    Statements_formed n (statement_and s no_statement) = Statement_formed s × (may_end (n, standing_of s) ≡ true)
    Statements_formed n (statement_and s (statement_and t more)) =
        Statement_formed s × ((may_go (n, standing_of s) ≡ true) ×
        ((is_full pass quantity.Statements n ≡ false) × Statements_formed (suc n) (statement_and t more)))

    pub Statement_formed : Statement → Type 0
    Statement_formed (bind n e) = Named is_bname n.name × (Formed e × Plain e)
    Statement_formed (local m n t e s) = Named is_bname n.name × (Annotation_formed t × (Formed e × Plain e))
    Statement_formed (run e s) = Formed e

  -- "{" .. "}" "->" before a type
  abbrev pub Typing_formed : Tree → Type 0
  Typing_formed (pi Braced m n a b s) = (m ≡ Zero) × (Named is_simple n × ((Formed a × Plain a) × Typing_formed b))
  Typing_formed t = Formed t × Plain t

  abbrev mutual
    pub Shape_formed : Shape → Type 0
    Shape_formed (variable k n s) = (k ≡ Written) × Named (same class.Small) n
    Shape_formed (wildcard k s) = k ≡ Written
    Shape_formed (constructor k n ps s) =
        (k ≡ Written) × ((n.target ≡ Unknown) × (Named is_constructor n.path × Shapes_formed 0 ps))
    Shape_formed (dot k t s) = (k ≡ Written) × (Formed t × Plain t)

    pub Shapes_formed : ℕ → Shapes → Type 0
    Shapes_formed n no_shape = Unit {0}
    Shapes_formed n (shape_and p more) =
        (is_full pass quantity.Parts n ≡ false) × (Shape_formed p × Shapes_formed (suc n) more)

  -- ---- items, of which the outermost level has so many levels inside, and a level inside it so many

  abbrev pub Within_levels : ℕ → Tree → Type 0
  Within_levels l t = (Formed t × Plain t) × (need t ≤ l)

  abbrev pub Param_formed : ℕ → Param → Type 0
  Param_formed l (param m n t s) = (is_zero_or_many m ≡ true) × (Named is_simple n × Within_levels l t)

  abbrev pub Params_formed : ℕ → ℕ → List Param → Type 0
  Params_formed l n [] = Unit {0}
  Params_formed l n (p ∷ more) =
      (is_full pass quantity.Parts n ≡ false) × (Param_formed l p × Params_formed l (suc n) more)

  abbrev pub Con_formed : ℕ → Con → Type 0
  Con_formed l (con n t s) = Named is_big n × (Typing_formed t × (need t ≤ l))

  abbrev pub More_cons_formed : ℕ → ℕ → List Con → Type 0
  More_cons_formed l n [] = Unit {0}
  More_cons_formed l n (k ∷ more) =
      (is_full pass quantity.Constructors n ≡ false) × (Con_formed l k × More_cons_formed l (suc n) more)

  abbrev pub Cons_formed : ℕ → List Con → Type 0
  Cons_formed l [] = Unit {0}
  Cons_formed l (k ∷ more) = Con_formed l k × More_cons_formed l 1 more

  abbrev pub Item_formed : ℕ → ℕ → Place → Item → Type 0
  Item_formed l i at (family n ns ps t cs s) =
      Named is_big n × (Params_formed i 0 ps × (Within_levels l t × Cons_formed l cs))
  Item_formed l i at (signature p m n ns t s) =
      (is_zero_or_many m ≡ true) × (Named is_simple n × (Typing_formed t × (need t ≤ l)))
  Item_formed l i at (clause n ps side s) =
      Named is_simple n × ((is_full pass quantity.Clauses (clauses_before at n) ≡ false) ×
      ((Shapes_formed 0 (shapes ps) × (need_shapes (shapes ps) ≤ l)) × (Formed side × (need side ≤ l))))

  -- each below the counts, where so many stand before
  abbrev pub Items_formed : ℕ → ℕ → Place → List Item → Type 0
  Items_formed l i at [] = Unit {0}
  Items_formed l i at (item ∷ more) =
      (is_full pass quantity.Items at.items ≡ false) ×
      (Item_formed l i at item × Items_formed l i (next_place at (listed item)) more)

  abbrev pub Imports_formed : List Import → Type 0
  Imports_formed [] = Unit {0}
  Imports_formed (i ∷ more) = Named is_name i.name × Imports_formed more

  abbrev pub Module_formed : ℕ → ℕ → Module → Type 0
  Module_formed l i (module_text s n ns is ts) = Named is_name n × (Imports_formed is × Items_formed l i start ts)
