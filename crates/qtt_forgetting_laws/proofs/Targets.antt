-- The targets of its names leave a text as it is written.
use Rattle.std.proofs.Common.{◌≡◌, ◌∙◌, ℕ, Bool, false, if◌then◌else◌, List, ◌∷◌, Ok, refl, ap, arith, sum_by}
use Rattle.std.proofs.lemmas.List.Sums.{sum_by-cons}
use Rattle.qtt_base.specs.declared.place.ModuleId.{ModuleId}
use Rattle.qtt_syntax.specs.declared.expr.Mark.TheVariants.{Written, Braced, Inserted}
use Rattle.qtt_syntax.specs.Tree.{Tree, Annotation, Argument, Arguments, Binder, Binders, Statement, Statements, Shape, Shapes, Param, Con, Item, Module}
use Rattle.qtt_names.specs.PrimNames.{scope_of}
use Rattle.qtt_names.specs.Resolved.{resolved}
use Rattle.qtt_names.specs.Scope.{Imported}
use Rattle.qtt_names_laws.specs.Sight.{Place}
use Rattle.qtt_names_laws.specs.Resolution.{Resolves, AnnotationResolves, ArgumentResolves, ArgumentsResolve, BinderResolves, BindersResolve, StatementResolves, StatementsResolve, ShapeResolves, ShapesResolve, PatternsResolve, ParamResolves, ParamsResolve, ChainResolves, ConResolves, ConsResolve, Before, ItemResolves, ItemsResolve, TextResolves}
use Rattle.qtt_names_laws.proofs.Items.{resolved_by_the_text}
use Rattle.qtt_implicit.specs.Moving.{weighed, weighed_annotation, weighed_argument, weighed_arguments, weighed_binder, weighed_binders, weighed_statement, weighed_statements}
use Rattle.qtt_implicit.specs.Walk.{is_written}
use Rattle.qtt_implicit.specs.Laws.{weighed_shape, weighed_shapes, weighed_param, weighed_con, weighed_item, weighed_text, unless, inserted, all_written, braces_first, has_argument, misplaced, IsWritten}

-- ---- arguments keep their marks

some_kept : {p : Place} {xs ys : Arguments} → ArgumentsResolve p xs ys → has_argument ys ≡ has_argument xs
some_kept ArgumentsResolve.no_arguments = refl
some_kept (ArgumentsResolve.argument_and_more h k) = refl

bare_kept : {p : Place} {xs ys : Arguments} → ArgumentsResolve p xs ys → all_written ys ≡ all_written xs
bare_kept ArgumentsResolve.no_arguments = refl
bare_kept (ArgumentsResolve.argument_and_more (ArgumentResolves.an_argument {k = k} h) more) =
    ap (λ (b : Bool). if is_written k then b else false) (bare_kept more)

first_kept : {p : Place} {xs ys : Arguments} → ArgumentsResolve p xs ys → braces_first ys ≡ braces_first xs
first_kept ArgumentsResolve.no_arguments = refl
first_kept (ArgumentsResolve.argument_and_more (ArgumentResolves.an_argument {k = Written} h) more) = bare_kept more
first_kept (ArgumentsResolve.argument_and_more (ArgumentResolves.an_argument {k = Braced} h) more) = first_kept more
first_kept (ArgumentsResolve.argument_and_more (ArgumentResolves.an_argument {k = Inserted} h) more) = refl

-- ---- expressions weigh the same

mutual
  tree_kept : {p : Place} {t u : Tree} → Resolves p t u → weighed misplaced u ≡ weighed misplaced t
  tree_kept (Resolves.a_name h) = refl
  tree_kept Resolves.a_number = refl
  tree_kept Resolves.a_text = refl
  tree_kept Resolves.a_universe = refl
  tree_kept Resolves.a_hole = refl
  tree_kept (Resolves.a_typing h k) = let a = tree_kept h in let b = tree_kept k in omega (arith, a, b)
  tree_kept (Resolves.an_application h k) =
      let a = tree_kept h in
      let b = arguments_kept k in
      let some = ap unless (some_kept k) in
      let first = ap unless (first_kept k) in
      omega (arith, a, b, some, first)
  tree_kept (Resolves.a_pi h k) = let a = tree_kept h in let b = tree_kept k in omega (arith, a, b)
  tree_kept (Resolves.a_lambda h k) = let a = binders_kept h in let b = tree_kept k in omega (arith, a, b)
  tree_kept (Resolves.a_let g h k) =
      let a = annotation_kept g in
      let b = tree_kept h in
      let c = tree_kept k in
      omega (arith, a, b, c)
  tree_kept (Resolves.a_do h) = let a = statements_kept h in omega (arith, a)

  annotation_kept : {p : Place} {t u : Annotation} → AnnotationResolves p t u →
      weighed_annotation misplaced u ≡ weighed_annotation misplaced t
  annotation_kept AnnotationResolves.no_type = refl
  annotation_kept (AnnotationResolves.a_type h) = tree_kept h

  argument_kept : {p : Place} {a b : Argument} → ArgumentResolves p a b →
      weighed_argument misplaced b ≡ weighed_argument misplaced a
  argument_kept (ArgumentResolves.an_argument h) = tree_kept h

  arguments_kept : {p : Place} {xs ys : Arguments} → ArgumentsResolve p xs ys →
      weighed_arguments misplaced ys ≡ weighed_arguments misplaced xs
  arguments_kept ArgumentsResolve.no_arguments = refl
  arguments_kept (ArgumentsResolve.argument_and_more h k) =
      let a = argument_kept h in let b = arguments_kept k in omega (arith, a, b)

  binder_kept : {p : Place} {a b : Binder} → BinderResolves p a b →
      weighed_binder misplaced b ≡ weighed_binder misplaced a
  binder_kept BinderResolves.by_name = refl
  binder_kept (BinderResolves.by_type h) = tree_kept h

  binders_kept : {p : Place} {xs ys : Binders} → BindersResolve p xs ys →
      weighed_binders misplaced ys ≡ weighed_binders misplaced xs
  binders_kept BindersResolve.no_binders = refl
  binders_kept (BindersResolve.binder_and_more h k) =
      let a = binder_kept h in let b = binders_kept k in omega (arith, a, b)

  statement_kept : {p : Place} {a b : Statement} → StatementResolves p a b →
      weighed_statement misplaced b ≡ weighed_statement misplaced a
  statement_kept (StatementResolves.a_bind h) = tree_kept h
  statement_kept (StatementResolves.a_let_statement g h) =
      let a = annotation_kept g in let b = tree_kept h in omega (arith, a, b)
  statement_kept (StatementResolves.a_run h) = tree_kept h

  statements_kept : {p : Place} {xs ys : Statements} → StatementsResolve p xs ys →
      weighed_statements misplaced ys ≡ weighed_statements misplaced xs
  statements_kept StatementsResolve.no_statements = refl
  statements_kept (StatementsResolve.statement_and_more h k) =
      let a = statement_kept h in let b = statements_kept k in omega (arith, a, b)

-- ---- patterns

mutual
  shape_kept : {p : Place} {before : List (List ℕ)} {a b : Shape} → ShapeResolves p before a b →
      weighed_shape misplaced inserted b ≡ weighed_shape misplaced inserted a
  shape_kept (ShapeResolves.a_variable h) = refl
  shape_kept ShapeResolves.a_wildcard = refl
  shape_kept (ShapeResolves.a_constructor h k) = shapes_kept k
  shape_kept (ShapeResolves.a_dot h) = tree_kept h

  shapes_kept : {p : Place} {before : List (List ℕ)} {a b : Shapes} → ShapesResolve p before a b →
      weighed_shapes misplaced inserted b ≡ weighed_shapes misplaced inserted a
  shapes_kept ShapesResolve.no_shapes = refl
  shapes_kept (ShapesResolve.shape_and_more h k) =
      let a = shape_kept h in let b = shapes_kept k in omega (arith, a, b)

-- ---- sums

sums : {A : Type 0} (w : A → ℕ) (x y : A) (xs ys : List A) → w y ≡ w x → sum_by w ys ≡ sum_by w xs →
    sum_by w (y ∷ ys) ≡ sum_by w (x ∷ xs)
sums w x y xs ys e f =
    let a = sum_by-cons w x xs in let b = sum_by-cons w y ys in omega (arith, a, b, e, f)

patterns_kept : {p : Place} {before : List (List ℕ)} {xs ys : List Shape} → PatternsResolve p before xs ys →
    sum_by (weighed_shape misplaced inserted) ys ≡ sum_by (weighed_shape misplaced inserted) xs
patterns_kept PatternsResolve.no_more = refl
patterns_kept (PatternsResolve.and_more {a = a} {a' = b} {more = xs} {more' = ys} h k) =
    sums (weighed_shape misplaced inserted) a b xs ys (shape_kept h) (patterns_kept k)

-- ---- items

param_kept : {p : Place} {a b : Param} → ParamResolves p a b → weighed_param misplaced b ≡ weighed_param misplaced a
param_kept (ParamResolves.a_param h) = tree_kept h

params_kept : {p : Place} {xs ys : List Param} → ParamsResolve p xs ys →
    sum_by (weighed_param misplaced) ys ≡ sum_by (weighed_param misplaced) xs
params_kept ParamsResolve.no_more = refl
params_kept (ParamsResolve.and_more {a = a} {a' = b} {more = xs} {more' = ys} h k) =
    sums (weighed_param misplaced) a b xs ys (param_kept h) (params_kept k)

chain_kept : {p : Place} {t u : Tree} → ChainResolves p t u → weighed misplaced u ≡ weighed misplaced t
chain_kept (ChainResolves.an_index h k) = let a = tree_kept h in let b = chain_kept k in omega (arith, a, b)
chain_kept (ChainResolves.an_end e h) = tree_kept h

con_kept : {p : Place} {taken : List (List ℕ)} {a b : Con} → ConResolves p taken a b →
    weighed_con misplaced b ≡ weighed_con misplaced a
con_kept (ConResolves.a_con h k) = tree_kept k

cons_kept : {p : Place} {taken : List (List ℕ)} {xs ys : List Con} → ConsResolve p taken xs ys →
    sum_by (weighed_con misplaced) ys ≡ sum_by (weighed_con misplaced) xs
cons_kept ConsResolve.no_more = refl
cons_kept (ConsResolve.and_more {c = a} {c' = b} {more = xs} {more' = ys} h k) =
    sums (weighed_con misplaced) a b xs ys (con_kept h) (cons_kept k)

item_kept : {b : Before} {i j : Item} → ItemResolves b i j →
    weighed_item misplaced inserted j ≡ weighed_item misplaced inserted i
item_kept (ItemResolves.a_family h x y z) =
    let a = params_kept x in
    let b = chain_kept y in
    let c = cons_kept z in
    omega (arith, a, b, c)
item_kept (ItemResolves.a_signature h x) = tree_kept x
item_kept (ItemResolves.a_clause d h x y z) =
    let a = patterns_kept x in let b = tree_kept y in omega (arith, a, b)

items_kept : {b : Before} {is js : List Item} → ItemsResolve b is js →
    sum_by (weighed_item misplaced inserted) js ≡ sum_by (weighed_item misplaced inserted) is
items_kept ItemsResolve.no_more = refl
items_kept (ItemsResolve.and_more {i = i} {i' = j} {more = is} {more' = js} h k) =
    sums (weighed_item misplaced inserted) i j is js (item_kept h) (items_kept k)

text_kept : {home : ModuleId} {imports : List Imported} {t u : Module} → TextResolves home imports t u →
    weighed_text misplaced inserted u ≡ weighed_text misplaced inserted t
text_kept (TextResolves.a_text k) = items_kept k

pub written_with_targets : (home : ModuleId) (imports : List Imported) (t u : Module) → IsWritten t →
    resolved (scope_of home t imports) t ≡ Ok u → IsWritten u
written_with_targets home imports t u h e = text_kept ((resolved_by_the_text.text home t u imports).0 e) ∙ h
