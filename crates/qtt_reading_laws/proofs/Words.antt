-- Printing does not look at places.
use Rattle.std.proofs.Common.{◌≡◌, ℕ, ◌+◌, pos, negsuc, Bool, false, ◌&&◌, if◌then◌else◌, List, [], ◌∷◌, ◌++◌, codes, map, refl, sym, ap, ◌∙◌}
use Rattle.qtt_usage.specs.declared.mult.Mult.{Mult}
use Rattle.qtt_syntax.specs.declared.expr.Mark.{Mark}
use Rattle.qtt_syntax.specs.declared.expr.Mark.TheVariants.{Written, Braced, Inserted}
use Rattle.qtt_syntax.specs.declared.module.Import.{Import}
use Rattle.qtt_syntax.specs.Printing.{key, is_number, is_atom, is_app, in_brackets, bracketed, is_level_0, atom, number_first, ends_open, broken, parted, is_negative, app_negative, is_arrow, begins_negative, braced, binding, domain, let_head, annotation_open, expr, annotation, arguments, argument_words, binders, binder, statements, more_statements, statement, is_empty, pattern, patterns, params, con_words, more_cons, cons, partially, item, imports, items, module_words, printed}
use Rattle.qtt_syntax.specs.Tree.{Tree, Annotation, Argument, Arguments, Binder, Binders, Statement, Statements, Shape, Shapes, Param, Con, Item, Module, shapes}
use Rattle.qtt_syntax.specs.Tree.Tree.{name, number, text, universe, hole, the, apply, pi, lambda, letting, doing}
use Rattle.qtt_syntax.specs.Tree.Annotation.{untyped, typed}
use Rattle.qtt_syntax.specs.Tree.Argument.{argument}
use Rattle.qtt_syntax.specs.Tree.Arguments.{no_argument, argument_and}
use Rattle.qtt_syntax.specs.Tree.Binder.{plain, typed_binder}
use Rattle.qtt_syntax.specs.Tree.Binders.{no_binder, binder_and}
use Rattle.qtt_syntax.specs.Tree.Statement.{bind, local, run}
use Rattle.qtt_syntax.specs.Tree.Statements.{no_statement, statement_and}
use Rattle.qtt_syntax.specs.Tree.Shape.{variable, wildcard, constructor, dot}
use Rattle.qtt_syntax.specs.Tree.Shapes.{no_shape, shape_and}
use Rattle.qtt_syntax.specs.Tree.Param.{param}
use Rattle.qtt_syntax.specs.Tree.Con.{con}
use Rattle.qtt_syntax.specs.Tree.Item.{family, signature, clause}
use Rattle.qtt_syntax.specs.Tree.Module.{module_text}
use Rattle.qtt_syntax.specs.Words.{Printed, written}
use Rattle.qtt_syntax.specs.Words.Word.{named, type_at}
use Rattle.qtt_syntax.specs.Words.Printed.{word, blank, line, opened, next, closed}
use Rattle.qtt_reprint.specs.Unplaced.{bare, bare_annotation, bare_argument, bare_arguments, bare_binder, bare_binders, bare_statement, bare_statements, bare_shape, bare_shapes, bare_param, bare_con, bare_item, bare_import, bare_module}

both : {A B C : Type 0} (f : A → B → C) (a b : A) (c d : B) → a ≡ b → c ≡ d → f a c ≡ f b d
both f a b c d p q = ap (λ x. f x c) p ∙ ap (f b) q

-- ---- tests

number_same : (t : Tree) → is_number (bare t) ≡ is_number t
number_same (name n) = refl
number_same (number z s) = refl
number_same (text v s) = refl
number_same (universe l ls s) = refl
number_same (hole n s) = refl
number_same (the t e s) = refl
number_same (apply f args s) = refl
number_same (pi k m n a b s) = refl
number_same (lambda bs t s) = refl
number_same (letting m n t e b s) = refl
number_same (doing ss s) = refl

atom_same : (t : Tree) → is_atom (bare t) ≡ is_atom t
atom_same (name n) = refl
atom_same (number z s) = refl
atom_same (text v s) = refl
atom_same (universe l ls s) = refl
atom_same (hole n s) = refl
atom_same (the t e s) = refl
atom_same (apply f args s) = refl
atom_same (pi k m n a b s) = refl
atom_same (lambda bs t s) = refl
atom_same (letting m n t e b s) = refl
atom_same (doing ss s) = refl

app_same : (t : Tree) → is_app (bare t) ≡ is_app t
app_same (name n) = refl
app_same (number z s) = refl
app_same (text v s) = refl
app_same (universe l ls s) = refl
app_same (hole n s) = refl
app_same (the t e s) = refl
app_same (apply f args s) = refl
app_same (pi k m n a b s) = refl
app_same (lambda bs t s) = refl
app_same (letting m n t e b s) = refl
app_same (doing ss s) = refl

level_same : (t : Tree) → is_level_0 (bare t) ≡ is_level_0 t
level_same (name n) = refl
level_same (number z s) = refl
level_same (text v s) = refl
level_same (universe l ls s) = refl
level_same (hole n s) = refl
level_same (the t e s) = refl
level_same (apply f args s) = refl
level_same (pi k m n a b s) = refl
level_same (lambda bs t s) = refl
level_same (letting m n t e b s) = refl
level_same (doing ss s) = refl

open_same : (t : Tree) → ends_open (bare t) ≡ ends_open t
open_same (name n) = refl
open_same (number z s) = refl
open_same (text v s) = refl
open_same (universe l ls s) = refl
open_same (hole n s) = refl
open_same (the t e s) = refl
open_same (apply f args s) = refl
open_same (pi k m n a b s) = open_same b
open_same (lambda bs t s) = open_same t
open_same (letting m n t e b s) = open_same b
open_same (doing ss s) = refl

negative_same : (t : Tree) → is_negative (bare t) ≡ is_negative t
negative_same (name n) = refl
negative_same (number (pos n) s) = refl
negative_same (number (negsuc n) s) = refl
negative_same (text v s) = refl
negative_same (universe l ls s) = refl
negative_same (hole n s) = refl
negative_same (the t e s) = refl
negative_same (apply f args s) = refl
negative_same (pi k m n a b s) = refl
negative_same (lambda bs t s) = refl
negative_same (letting m n t e b s) = refl
negative_same (doing ss s) = refl

app_negative_same : (t : Tree) → app_negative (bare t) ≡ app_negative t
app_negative_same (apply f args s) = negative_same f
app_negative_same (name n) = refl
app_negative_same (number (pos n) s) = refl
app_negative_same (number (negsuc n) s) = refl
app_negative_same (text v s) = refl
app_negative_same (universe l ls s) = refl
app_negative_same (hole n s) = refl
app_negative_same (the t e s) = refl
app_negative_same (pi k m n a b s) = refl
app_negative_same (lambda bs t s) = refl
app_negative_same (letting m n t e b s) = refl
app_negative_same (doing ss s) = refl

begins_same : (t : Tree) → begins_negative (bare t) ≡ begins_negative t
begins_same (pi k m n a b s) = ap (λ (x : Bool). is_arrow k m n && x) (app_negative_same a)
begins_same (apply f args s) = negative_same f
begins_same (name n) = refl
begins_same (number (pos n) s) = refl
begins_same (number (negsuc n) s) = refl
begins_same (text v s) = refl
begins_same (universe l ls s) = refl
begins_same (hole n s) = refl
begins_same (the t e s) = refl
begins_same (lambda bs t s) = refl
begins_same (letting m n t e b s) = refl
begins_same (doing ss s) = refl

first_same : (args : Arguments) → number_first (bare_arguments args) ≡ number_first args
first_same no_argument = refl
first_same (argument_and (argument Written t) more) = number_same t
first_same (argument_and (argument Braced t) more) = refl
first_same (argument_and (argument Inserted t) more) = refl

annotation_open_same : (t : Annotation) → annotation_open (bare_annotation t) ≡ annotation_open t
annotation_open_same untyped = refl
annotation_open_same (typed t) = open_same t

empty_same : (ps : Shapes) → is_empty (bare_shapes ps) ≡ is_empty ps
empty_same no_shape = refl
empty_same (shape_and p more) = refl

-- ---- forms

atom_by : Bool → Bool → Bool → List Printed → List Printed
atom_by b l a ws = if b && l then word (type_at 0) ∷ [] else bracketed a ws

atom_words : (b d : Bool) (t : Tree) (ws vs : List Printed) → b ≡ d → ws ≡ vs → atom b (bare t) ws ≡ atom d t vs
unfolding atom_by
atom_words b d t ws vs e f =
    both (λ x y. atom_by x y (is_atom (bare t)) ws) b d (is_level_0 (bare t)) (is_level_0 t) e (level_same t) ∙
    both (λ x y. atom_by d (is_level_0 t) x y) (is_atom (bare t)) (is_atom t) ws vs (atom_same t) f

braced_words : (c : ℕ) (t : Tree) (ws vs : List Printed) → ws ≡ vs → braced c (bare t) ws ≡ braced c t vs
braced_words c t ws vs e =
    let shown : Bool → List Printed → Bool → List Printed =
    λ b w o. key (codes "{") ∷
    ((if b then blank ∷ [] else []) ++ (w ++ (broken c o ++ key (codes "}") ∷ []))) in
    both (λ x y. shown x y (ends_open (bare t))) (begins_negative (bare t)) (begins_negative t) ws vs
    (begins_same t) e ∙ ap (λ x. shown (begins_negative t) vs x) (open_same t)

open_domain : (c : ℕ) (m : Mult) (n : List ℕ) (a : Tree) (ws vs : List Printed) → ws ≡ vs →
    ◌≡◌ {A = List Printed}
    (key (codes "{") ∷ (binding m n ws ++ (broken c (ends_open (bare a)) ++ key (codes "}") ∷ [])))
    (key (codes "{") ∷ (binding m n vs ++ (broken c (ends_open a) ++ key (codes "}") ∷ [])))
open_domain c m n a ws vs e =
    both (λ x y. key (codes "{") ∷ (binding m n x ++ (broken c y ++ key (codes "}") ∷ []))) ws vs
    (ends_open (bare a)) (ends_open a) e (open_same a)

domain_words : (c : ℕ) (k : Mark) (m : Mult) (n : List ℕ) (a : Tree) (ws vs : List Printed) → ws ≡ vs →
    domain c k m n (bare a) ws ≡ domain c k m n a vs
domain_words c Written m n a ws vs e =
    both (λ x y. if is_arrow Written m n then bracketed x y else in_brackets (binding m n y))
    (is_app (bare a)) (is_app a) ws vs (app_same a) e
domain_words c Braced m n a ws vs e = open_domain c m n a ws vs e
domain_words c Inserted m n a ws vs e = open_domain c m n a ws vs e

head_words : (c : ℕ) (m : Mult) (n : List ℕ) (b d : Bool) (ts us es fs : List Printed) → b ≡ d → ts ≡ us → es ≡ fs →
    let_head c m n b ts es ≡ let_head c m n d us fs
head_words c m n b d ts us es fs p q r =
    both (λ x y. let_head c m n x y es) b d ts us p q ∙ ap (λ x. let_head c m n d us x) r

-- ---- expressions

mutual
  expr_same : (c : ℕ) (t : Tree) → expr c (bare t) ≡ expr c t
  expr_same c (name n) = refl
  expr_same c (number z s) = refl
  expr_same c (text v s) = refl
  expr_same c (universe l ls s) = refl
  expr_same c (hole n s) = refl
  expr_same c (the t e s) =
      both (λ x y. key (codes "the") ∷ blank ∷ (x ++ blank ∷ y))
      (atom (is_number (bare e)) (bare t) (expr c (bare t))) (atom (is_number e) t (expr c t))
      (atom false (bare e) (expr c (bare e))) (atom false e (expr c e))
      (atom_words (is_number (bare e)) (is_number e) t (expr c (bare t)) (expr c t) (number_same e) (expr_same c t))
      (atom_words false false e (expr c (bare e)) (expr c e) refl (expr_same c e))
  expr_same c (apply f args s) =
      both (λ x y. x ++ y) (atom (number_first (bare_arguments args)) (bare f) (expr c (bare f)))
      (atom (number_first args) f (expr c f)) (arguments c (bare_arguments args)) (arguments c args)
      (atom_words (number_first (bare_arguments args)) (number_first args) f (expr c (bare f)) (expr c f)
      (first_same args) (expr_same c f)) (arguments_same c args)
  expr_same c (pi k m n a b s) =
      both (λ x y. x ++ blank ∷ key (codes "->") ∷ blank ∷ y) (domain c k m n (bare a) (expr c (bare a)))
      (domain c k m n a (expr c a)) (expr c (bare b)) (expr c b)
      (domain_words c k m n a (expr c (bare a)) (expr c a) (expr_same c a)) (expr_same c b)
  expr_same c (lambda bs t s) =
      both (λ x y. key (codes "\\") ∷ (x ++ key (codes "=>") ∷ blank ∷ y)) (binders c (bare_binders bs))
      (binders c bs) (expr c (bare t)) (expr c t) (binders_same c bs) (expr_same c t)
  expr_same c (letting m n t e b s) =
      both (λ x y. x ++ y)
      (let_head c m n.name (annotation_open (bare_annotation t)) (annotation c (bare_annotation t)) (expr c (bare e)))
      (let_head c m n.name (annotation_open t) (annotation c t) (expr c e))
      (parted c (ends_open (bare e)) ++ key (codes "in") ∷ blank ∷ expr c (bare b))
      (parted c (ends_open e) ++ key (codes "in") ∷ blank ∷ expr c b)
      (head_words c m n.name (annotation_open (bare_annotation t)) (annotation_open t)
      (annotation c (bare_annotation t)) (annotation c t) (expr c (bare e)) (expr c e) (annotation_open_same t)
      (annotation_same c t) (expr_same c e))
      (both (λ x y. parted c x ++ key (codes "in") ∷ blank ∷ y) (ends_open (bare e)) (ends_open e) (expr c (bare b))
      (expr c b) (open_same e) (expr_same c b))
  expr_same c (doing ss s) =
      ap (λ x. key (codes "do") ∷ opened ∷ (x ++ closed ∷ [])) (statements_same (c + 2) ss)

  annotation_same : (c : ℕ) (t : Annotation) → annotation c (bare_annotation t) ≡ annotation c t
  annotation_same c untyped = refl
  annotation_same c (typed t) = ap (λ x. blank ∷ key (codes ":") ∷ blank ∷ x) (expr_same c t)

  arguments_same : (c : ℕ) (args : Arguments) → arguments c (bare_arguments args) ≡ arguments c args
  arguments_same c no_argument = refl
  arguments_same c (argument_and a more) =
      both (λ x y. blank ∷ (x ++ y)) (argument_words c (number_first (bare_arguments more)) (bare_argument a))
      (argument_words c (number_first more) a) (arguments c (bare_arguments more)) (arguments c more)
      (argument_same c (number_first (bare_arguments more)) (number_first more) a (first_same more))
      (arguments_same c more)

  argument_same : (c : ℕ) (b d : Bool) (a : Argument) → b ≡ d →
      argument_words c b (bare_argument a) ≡ argument_words c d a
  argument_same c b d (argument Written t) e = atom_words b d t (expr c (bare t)) (expr c t) e (expr_same c t)
  argument_same c b d (argument Braced t) e = braced_words c t (expr c (bare t)) (expr c t) (expr_same c t)
  argument_same c b d (argument Inserted t) e = braced_words c t (expr c (bare t)) (expr c t) (expr_same c t)

  binders_same : (c : ℕ) (bs : Binders) → binders c (bare_binders bs) ≡ binders c bs
  binders_same c no_binder = refl
  binders_same c (binder_and b more) =
      both (λ x y. x ++ blank ∷ y) (binder c (bare_binder b)) (binder c b) (binders c (bare_binders more))
      (binders c more) (binder_same c b) (binders_same c more)

  binder_same : (c : ℕ) (b : Binder) → binder c (bare_binder b) ≡ binder c b
  binder_same c (plain n) = refl
  binder_same c (typed_binder m n t s) = ap (λ x. in_brackets (binding m n.name x)) (expr_same c t)

  statements_same : (c : ℕ) (ss : Statements) → statements c (bare_statements ss) ≡ statements c ss
  statements_same c no_statement = refl
  statements_same c (statement_and s more) =
      both (λ x y. line c ∷ (x ++ y)) (statement c (bare_statement s)) (statement c s)
      (more_statements c (bare_statements more)) (more_statements c more) (statement_same c s)
      (more_statements_same c more)

  more_statements_same : (c : ℕ) (ss : Statements) → more_statements c (bare_statements ss) ≡ more_statements c ss
  more_statements_same c no_statement = refl
  more_statements_same c (statement_and s more) =
      both (λ x y. next ∷ line c ∷ (x ++ y)) (statement c (bare_statement s)) (statement c s)
      (more_statements c (bare_statements more)) (more_statements c more) (statement_same c s)
      (more_statements_same c more)

  statement_same : (c : ℕ) (s : Statement) → statement c (bare_statement s) ≡ statement c s
  statement_same c (bind n e) = ap (λ x. word (named n.name) ∷ blank ∷ key (codes "<-") ∷ blank ∷ x) (expr_same c e)
  statement_same c (local m n t e s) =
      head_words c m n.name (annotation_open (bare_annotation t)) (annotation_open t)
      (annotation c (bare_annotation t)) (annotation c t) (expr c (bare e)) (expr c e) (annotation_open_same t)
      (annotation_same c t) (expr_same c e)
  statement_same c (run e s) = expr_same c e

-- ---- patterns

mutual
  pattern_same : (p : Shape) → pattern (bare_shape p) ≡ pattern p
  pattern_same (variable k n s) = refl
  pattern_same (wildcard k s) = refl
  pattern_same (constructor k n ps s) =
      both (λ x y. bracketed x (word (named n.path) ∷ y)) (is_empty (bare_shapes ps)) (is_empty ps)
      (patterns (bare_shapes ps)) (patterns ps) (empty_same ps) (patterns_same ps)
  pattern_same (dot k t s) = ap (λ x. key (codes ".(") ∷ (x ++ key (codes ")") ∷ [])) (expr_same 0 t)

  patterns_same : (ps : Shapes) → patterns (bare_shapes ps) ≡ patterns ps
  patterns_same no_shape = refl
  patterns_same (shape_and p more) =
      both (λ x y. blank ∷ (x ++ y)) (pattern (bare_shape p)) (pattern p) (patterns (bare_shapes more))
      (patterns more) (pattern_same p) (patterns_same more)

listed_same : (ps : List Shape) → patterns (shapes (map bare_shape ps)) ≡ patterns (shapes ps)
listed_same [] = refl
listed_same (p ∷ more) =
    both (λ x y. blank ∷ (x ++ y)) (pattern (bare_shape p)) (pattern p) (patterns (shapes (map bare_shape more)))
    (patterns (shapes more)) (pattern_same p) (listed_same more)

-- ---- items

params_same : (ps : List Param) → params (map bare_param ps) ≡ params ps
params_same [] = refl
params_same (param m n t s ∷ more) =
    both (λ x y. blank ∷ (in_brackets (binding m n x) ++ y)) (expr 0 (bare t)) (expr 0 t)
    (params (map bare_param more)) (params more) (expr_same 0 t) (params_same more)

con_same : (k : Con) → con_words (bare_con k) ≡ con_words k
con_same (con n t s) = ap (λ x. word (named n) ∷ blank ∷ key (codes ":") ∷ blank ∷ x) (expr_same 2 t)

more_cons_same : (cs : List Con) → more_cons (map bare_con cs) ≡ more_cons cs
more_cons_same [] = refl
more_cons_same (k ∷ more) =
    both (λ x y. next ∷ line 2 ∷ (x ++ y)) (con_words (bare_con k)) (con_words k) (more_cons (map bare_con more))
    (more_cons more) (con_same k) (more_cons_same more)

cons_same : (cs : List Con) → cons (map bare_con cs) ≡ cons cs
cons_same [] = refl
cons_same (k ∷ more) =
    both (λ x y. line 2 ∷ (x ++ y)) (con_words (bare_con k)) (con_words k) (more_cons (map bare_con more))
    (more_cons more) (con_same k) (more_cons_same more)

item_same : (i : Item) → item (bare_item i) ≡ item i
item_same (family n ns ps t cs s) =
    let shown : List Printed → List Printed → Bool → List Printed → List Printed =
    λ w x y z. key (codes "data") ∷ blank ∷ word (named n) ∷ (w ++ blank ∷ key (codes ":") ∷ blank ∷ (x
    ++ (parted 0 y ++ key (codes "where") ∷ opened ∷ (z ++ closed ∷ [])))) in
    both (λ w x. shown w x (ends_open (bare t)) (cons (map bare_con cs))) (params (map bare_param ps)) (params ps)
    (expr 0 (bare t)) (expr 0 t) (params_same ps) (expr_same 0 t) ∙
    both (λ y z. shown (params ps) (expr 0 t) y z) (ends_open (bare t)) (ends_open t) (cons (map bare_con cs))
    (cons cs) (open_same t) (cons_same cs)
item_same (signature p m n ns t s) = ap (λ x. partially p ++ binding m n x) (expr_same 0 t)
item_same (clause n ps side s) =
    both (λ x y. word (named n) ∷ (x ++ blank ∷ key (codes "=") ∷ blank ∷ y)) (patterns (shapes (map bare_shape ps)))
    (patterns (shapes ps)) (expr 0 (bare side)) (expr 0 side) (listed_same ps) (expr_same 0 side)

imports_same : (is : List Import) → imports (map bare_import is) ≡ imports is
imports_same [] = refl
imports_same (i ∷ more) =
    ap (λ x. next ∷ line 0 ∷ key (codes "import") ∷ blank ∷ word (named i.name) ∷ x) (imports_same more)

items_same : (ts : List Item) → items (map bare_item ts) ≡ items ts
items_same [] = refl
items_same (i ∷ more) =
    both (λ x y. next ∷ line 0 ∷ (x ++ y)) (item (bare_item i)) (item i) (items (map bare_item more)) (items more)
    (item_same i) (items_same more)

words_same : (t : Module) → module_words (bare_module t) ≡ module_words t
words_same (module_text s n ns is ts) =
    both (λ x y. opened ∷ key (codes "module") ∷ blank ∷ word (named n) ∷ (x ++ (y ++ closed ∷ line 0 ∷ [])))
    (imports (map bare_import is)) (imports is) (items (map bare_item ts)) (items ts) (imports_same is) (items_same ts)

-- trees that are the same but for places print alike
pub printed_alike : (t u : Module) → bare_module u ≡ bare_module t → printed u ≡ printed t
printed_alike t u e = ap written (sym (words_same u) ∙ ap module_words e ∙ words_same t)
