-- Where the faults of names stand: at places of the tree. The tree with the targets of its names keeps its places.
use Rattle.std.proofs.Common.{◌≡◌, ℕ, ◌+◌, Bool, true, false, cond, List, [], ◌∷◌, ◌++◌, Option, Some, None, Ok, Err, codes, subst}
use Rattle.qtt_base.specs.declared.place.Span.{Span}
use Rattle.qtt_syntax.specs.declared.expr.Local.{Local}
use Rattle.qtt_syntax.specs.declared.expr.Named.{Named}
use Rattle.qtt_syntax.specs.Tree.{Tree, Annotation, Argument, Arguments, Binder, Binders, Statement, Statements, Shape, Shapes, Param, Con, Item, Module}
use Rattle.qtt_syntax.specs.Tree.Tree.{name, number, text, universe, hole, the, apply, pi, lambda, letting, doing}
use Rattle.qtt_syntax.specs.Tree.Annotation.{untyped, typed}
use Rattle.qtt_syntax.specs.Tree.Argument.{argument}
use Rattle.qtt_syntax.specs.Tree.Arguments.{no_argument, argument_and}
use Rattle.qtt_syntax.specs.Tree.Binder.{plain, typed_binder}
use Rattle.qtt_syntax.specs.Tree.Binders.{no_binder, binder_and}
use Rattle.qtt_syntax.specs.Tree.Statement.{bind, local, run}
use Rattle.qtt_syntax.specs.Tree.Statements.{no_statement, statement_and}
use Rattle.qtt_syntax.specs.Tree.Shape.{variable, wildcard, constructor, dot}
use Rattle.qtt_syntax.specs.Tree.Shapes.{no_shape, shape_and}
use Rattle.qtt_syntax.specs.Tree.Param.{param}
use Rattle.qtt_syntax.specs.Tree.Con.{con}
use Rattle.qtt_syntax.specs.Tree.Item.{family, signature, clause}
use Rattle.qtt_syntax.specs.Tree.Module.{module_text}
use Rattle.qtt_names.specs.Answer.{Answer, Mistake, ◌>>=◌}
use Rattle.qtt_names.specs.Filled.{Names, filled, filled_annotation, filled_argument, filled_arguments, filled_binder, filled_binders, filled_statement, filled_statements, binder_names, behind_binder, behind_statement}
use Rattle.qtt_names.specs.InTurn.{in_turn}
use Rattle.qtt_names.specs.Patterns.{is_among, first_of, behind_shape, filled_shape, filled_shapes}
use Rattle.qtt_names.specs.Resolved.{Before, at_start, tail_hole, last_hole, statement_hole, new_hole, if_new, new_item, new_clause, goes_on, is_definition, filled_param, behind_param, filled_params, param_names, filled_chain, filled_con, behind_con, filled_cons, filled_patterns, variables_in, filled_item, behind, filled_items, resolved}
use Rattle.qtt_names.specs.Scope.{Scope}
use Rattle.qtt_names.specs.Target.{own_item, target, with_target, look_up}
use Rattle.qtt_names.specs.declared.scope.OwnItem.{OwnItem}
use Rattle.qtt_names.specs.declared.target.Found.{Found}
use Rattle.qtt_names.specs.declared.target.Found.TheVariants.{Nothing, One, Several}
use Rattle.qtt_reading_laws.specs.Standing.{Each, Stands, Annotation_stands, Argument_stands, Arguments_stand, Binder_stands, Binders_stand, Statement_stands, Statements_stand, Shape_stands, Shapes_stand, Param_stands, Con_stands, Item_stands, Module_stands}

module _ (P : Span → Type 0) where
  -- a value of which R holds, or a fault at such a place
  abbrev Ends : {A : Type 0} → (A → Type 0) → Answer A → Type 0
  Ends R (Ok a) = R a
  Ends R (Err m) = P m.span

  abbrev Done : Unit {0} → Type 0
  Done u = Unit {0}

  behind_ends : {A B : Type 0} (R : A → Type 0) (S : B → Type 0) (r : Answer A) (k : A → Answer B) → Ends R r →
      ((a : A) → R a → Ends S (k a)) → Ends S (r >>= k)
  unfolding ◌>>=◌
  behind_ends R S (Ok a) k h f = f a h
  behind_ends R S (Err m) k h f = h

  cond_ends : {A : Type 0} (R : A → Type 0) (b : Bool) (r q : Answer A) → Ends R r → Ends R q → Ends R (cond b r q)
  cond_ends R true r q f g = f
  cond_ends R false r q f g = g

  first_ends : (before : List (List ℕ)) (n : List ℕ) (s : Span) → P s → Ends Done (first_of before n s)
  first_ends before n s h = cond_ends Done (is_among n before) _ _ h tt

  abbrev Named_stands : Named → Type 0
  Named_stands n = P n.span

  target_ends : (n : Named) (f : Found) → P n.span → Ends Named_stands (with_target n f)
  target_ends n Nothing h = h
  target_ends n (One t) h = h
  target_ends n Several h = h

  look_up_ends : (s : Scope) (k : ℕ) (Γ : List (List ℕ)) (n : Named) → P n.span → Ends Named_stands (look_up s k Γ n)
  unfolding look_up
  look_up_ends s k Γ n h = target_ends n (target s k Γ n.path) h

  module _ (names : Names) (found : (Γ : List (List ℕ)) (n : Named) → P n.span → Ends Named_stands (names Γ n)) where
    mutual
      filled_ends : (t : Tree) → Stands P t → (Γ : List (List ℕ)) → Ends (Stands P) (filled names Γ t)
      filled_ends (name n) h Γ = behind_ends Named_stands (Stands P) (names Γ n) _ (found Γ n h) (λ n i. i)
      filled_ends (number n s) h Γ = h
      filled_ends (text v s) h Γ = h
      filled_ends (universe l ls s) h Γ = h
      filled_ends (hole n s) h Γ = h
      filled_ends (the t e s) h Γ =
          behind_ends (Stands P) (Stands P) (filled names Γ t) _ (filled_ends t h.0 Γ)
          (λ u i. behind_ends (Stands P) (Stands P) (filled names Γ e) _ (filled_ends e h.1 Γ) (λ v j. (i, j, h.2)))
      filled_ends (apply g xs s) h Γ =
          behind_ends (Stands P) (Stands P) (filled names Γ g) _ (filled_ends g h.0 Γ)
          (λ u i. behind_ends (Arguments_stand P) (Stands P) (filled_arguments names Γ xs) _
          (arguments_end xs h.1 Γ) (λ v j. (i, j, h.2)))
      filled_ends (pi k m n a b s) h Γ =
          behind_ends (Stands P) (Stands P) (filled names Γ a) _ (filled_ends a h.0 Γ)
          (λ u i. behind_ends (Stands P) (Stands P) (filled names (Γ ++ n ∷ []) b) _
          (filled_ends b h.1 (Γ ++ n ∷ [])) (λ v j. (i, j, h.2)))
      filled_ends (lambda bs b s) h Γ =
          behind_ends (Binders_stand P) (Stands P) (filled_binders names Γ bs) _ (binders_end bs h.0 Γ)
          (λ u i. behind_ends (Stands P) (Stands P) (filled names (Γ ++ binder_names bs) b) _
          (filled_ends b h.1 (Γ ++ binder_names bs)) (λ v j. (i, j, h.2)))
      filled_ends (letting m n t e b s) h Γ =
          behind_ends (Annotation_stands P) (Stands P) (filled_annotation names Γ t) _ (annotation_ends t h.1 Γ)
          (λ u i. behind_ends (Stands P) (Stands P) (filled names Γ e) _ (filled_ends e h.2 Γ)
          (λ v j. behind_ends (Stands P) (Stands P) (filled names (Γ ++ n.name ∷ []) b) _
          (filled_ends b h.3 (Γ ++ n.name ∷ [])) (λ w k. (h.0, i, j, k, h.4))))
      filled_ends (doing ss s) h Γ =
          behind_ends (Statements_stand P) (Stands P) (filled_statements names Γ ss) _ (statements_end ss h.0 Γ)
          (λ u i. (i, h.1))

      annotation_ends : (t : Annotation) → Annotation_stands P t → (Γ : List (List ℕ)) →
          Ends (Annotation_stands P) (filled_annotation names Γ t)
      annotation_ends untyped h Γ = tt
      annotation_ends (typed t) h Γ =
          behind_ends (Stands P) (Annotation_stands P) (filled names Γ t) _ (filled_ends t h Γ) (λ u i. i)

      argument_ends : (a : Argument) → Argument_stands P a → (Γ : List (List ℕ)) →
          Ends (Argument_stands P) (filled_argument names Γ a)
      argument_ends (argument k t) h Γ =
          behind_ends (Stands P) (Argument_stands P) (filled names Γ t) _ (filled_ends t h Γ) (λ u i. i)

      arguments_end : (xs : Arguments) → Arguments_stand P xs → (Γ : List (List ℕ)) →
          Ends (Arguments_stand P) (filled_arguments names Γ xs)
      arguments_end no_argument h Γ = tt
      arguments_end (argument_and a more) h Γ =
          behind_ends (Argument_stands P) (Arguments_stand P) (filled_argument names Γ a) _ (argument_ends a h.0 Γ)
          (λ u i. behind_ends (Arguments_stand P) (Arguments_stand P) (filled_arguments names Γ more) _
          (arguments_end more h.1 Γ) (λ v j. (i, j)))

      binder_ends : (b : Binder) → Binder_stands P b → (Γ : List (List ℕ)) →
          Ends (Binder_stands P) (filled_binder names Γ b)
      binder_ends (plain n) h Γ = h
      binder_ends (typed_binder m n t s) h Γ =
          behind_ends (Stands P) (Binder_stands P) (filled names Γ t) _ (filled_ends t h.1 Γ)
          (λ u i. (h.0, i, h.2))

      binders_end : (bs : Binders) → Binders_stand P bs → (Γ : List (List ℕ)) →
          Ends (Binders_stand P) (filled_binders names Γ bs)
      binders_end no_binder h Γ = tt
      binders_end (binder_and b more) h Γ =
          behind_ends (Binder_stands P) (Binders_stand P) (filled_binder names Γ b) _ (binder_ends b h.0 Γ)
          (λ u i. behind_ends (Binders_stand P) (Binders_stand P) (filled_binders names (behind_binder Γ b) more) _
          (binders_end more h.1 (behind_binder Γ b)) (λ v j. (i, j)))

      statement_ends : (s : Statement) → Statement_stands P s → (Γ : List (List ℕ)) →
          Ends (Statement_stands P) (filled_statement names Γ s)
      statement_ends (bind n e) h Γ =
          behind_ends (Stands P) (Statement_stands P) (filled names Γ e) _ (filled_ends e h.1 Γ) (λ u i. (h.0, i))
      statement_ends (local m n t e s) h Γ =
          behind_ends (Annotation_stands P) (Statement_stands P) (filled_annotation names Γ t) _
          (annotation_ends t h.1 Γ)
          (λ u i. behind_ends (Stands P) (Statement_stands P) (filled names Γ e) _ (filled_ends e h.2 Γ)
          (λ v j. (h.0, i, j, h.3)))
      statement_ends (run e s) h Γ =
          behind_ends (Stands P) (Statement_stands P) (filled names Γ e) _ (filled_ends e h.0 Γ) (λ u i. (i, h.1))

      statements_end : (ss : Statements) → Statements_stand P ss → (Γ : List (List ℕ)) →
          Ends (Statements_stand P) (filled_statements names Γ ss)
      statements_end no_statement h Γ = tt
      statements_end (statement_and s more) h Γ =
          behind_ends (Statement_stands P) (Statements_stand P) (filled_statement names Γ s) _ (statement_ends s h.0 Γ)
          (λ u i. behind_ends (Statements_stand P) (Statements_stand P)
          (filled_statements names (behind_statement Γ s) more) _ (statements_end more h.1 (behind_statement Γ s))
          (λ v j. (i, j)))

    chain_ends : (t : Tree) → Stands P t → (Γ : List (List ℕ)) → Ends (Stands P) (filled_chain names Γ t)
    chain_ends (pi k m n a b s) h Γ =
        behind_ends (Stands P) (Stands P) (filled names Γ a) _ (filled_ends a h.0 Γ)
        (λ u i. behind_ends (Stands P) (Stands P) (filled_chain names (Γ ++ codes "_" ∷ []) b) _
        (chain_ends b h.1 (Γ ++ codes "_" ∷ [])) (λ v j. (i, j, h.2)))
    chain_ends (name n) h Γ = filled_ends (name n) h Γ
    chain_ends (number n s) h Γ = h
    chain_ends (text v s) h Γ = h
    chain_ends (universe l ls s) h Γ = h
    chain_ends (hole n s) h Γ = h
    chain_ends (the t e s) h Γ = filled_ends (the t e s) h Γ
    chain_ends (apply g xs s) h Γ = filled_ends (apply g xs s) h Γ
    chain_ends (lambda bs b s) h Γ = filled_ends (lambda bs b s) h Γ
    chain_ends (letting m n t e b s) h Γ = filled_ends (letting m n t e b s) h Γ
    chain_ends (doing ss s) h Γ = filled_ends (doing ss s) h Γ

    mutual
      shape_ends : (p : Shape) → Shape_stands P p → (Γ before : List (List ℕ)) →
          Ends (Shape_stands P) (filled_shape names Γ before p)
      shape_ends (variable k n s) h Γ before =
          behind_ends Done (Shape_stands P) (first_of before n s) _ (first_ends before n s h) (λ u i. h)
      shape_ends (wildcard k s) h Γ before = h
      shape_ends (constructor k n ps s) h Γ before =
          behind_ends Named_stands (Shape_stands P) (names [] n) _ (found [] n h.0)
          (λ u i. behind_ends (Shapes_stand P) (Shape_stands P) (filled_shapes names Γ before ps) _
          (shapes_end ps h.1 Γ before) (λ v j. (i, j, h.2)))
      shape_ends (dot k e s) h Γ before =
          behind_ends (Stands P) (Shape_stands P) (filled names Γ e) _ (filled_ends e h.0 Γ) (λ u i. (i, h.1))

      shapes_end : (ps : Shapes) → Shapes_stand P ps → (Γ before : List (List ℕ)) →
          Ends (Shapes_stand P) (filled_shapes names Γ before ps)
      shapes_end no_shape h Γ before = tt
      shapes_end (shape_and p more) h Γ before =
          behind_ends (Shape_stands P) (Shapes_stand P) (filled_shape names Γ before p) _ (shape_ends p h.0 Γ before)
          (λ u i. behind_ends (Shapes_stand P) (Shapes_stand P) (filled_shapes names Γ (behind_shape before p) more) _
          (shapes_end more h.1 Γ (behind_shape before p)) (λ v j. (i, j)))

  -- ---- holes

  abbrev Hole_stands : Option Local → Type 0
  Hole_stands None = Unit {0}
  Hole_stands (Some h) = P h.span

  mutual
    tail_stands : (t : Tree) → Stands P t → Hole_stands (tail_hole t)
    tail_stands (name n) h = tt
    tail_stands (number n s) h = tt
    tail_stands (text v s) h = tt
    tail_stands (universe l ls s) h = tt
    tail_stands (hole n s) h = h
    tail_stands (the t e s) h = tt
    tail_stands (apply g xs s) h = tt
    tail_stands (pi k m n a b s) h = tt
    tail_stands (lambda bs b s) h = tail_stands b h.1
    tail_stands (letting m n t e b s) h = tail_stands b h.3
    tail_stands (doing ss s) h = last_stands ss h.0

    last_stands : (ss : Statements) → Statements_stand P ss → Hole_stands (last_hole ss)
    last_stands no_statement h = tt
    last_stands (statement_and s no_statement) h = run_stands s h.0
    last_stands (statement_and s (statement_and t more)) h = last_stands (statement_and t more) h.1

    run_stands : (s : Statement) → Statement_stands P s → Hole_stands (statement_hole s)
    run_stands (bind n e) h = tt
    run_stands (local m n t e s) h = tt
    run_stands (run e s) h = tail_stands e h.0

  hole_ends : (holes : List (List ℕ)) (o : Option Local) → Hole_stands o → Ends Done (new_hole holes o)
  hole_ends holes None h = tt
  hole_ends holes (Some n) h = first_ends holes n.name n.span h

  -- ---- items

  turn_ends : {S A B : Type 0} (each : S → A → Answer B) (next : S → A → S) (R : A → Type 0) (Q : B → Type 0) →
      ((s : S) (a : A) → R a → Ends Q (each s a)) →
      (s : S) (l : List A) → Each R l → Ends (Each Q) (in_turn each next s l)
  turn_ends each next R Q f s [] h = tt
  turn_ends each next R Q f s (a ∷ more) h =
      behind_ends Q (Each Q) (each s a) _ (f s a h.0)
      (λ b i. behind_ends (Each Q) (Each Q) (in_turn each next (next s a) more) _
      (turn_ends each next R Q f (next s a) more h.1) (λ bs j. (i, j)))

  new_ends : (o : Option OwnItem) (n : List ℕ) (s : Span) → P s → Ends Done (if_new o n s)
  new_ends None n s h = tt
  new_ends (Some item) n s h = h

  clause_ends : (s : Scope) (k : ℕ) (last : Option (List ℕ)) (groups : List (List ℕ)) (n : List ℕ) (span : Span) →
      P span → Ends Done (new_clause s k last groups n span)
  clause_ends s k last groups n span h =
      cond_ends Done (is_definition (own_item s k n)) _ _
      (cond_ends Done (goes_on last n) _ _ tt (first_ends groups n span h)) h

  module _ (s : Scope) where
    param_ends : (k : ℕ) (Γ : List (List ℕ)) (p : Param) → Param_stands P p →
        Ends (Param_stands P) (filled_param (look_up s k) Γ p)
    param_ends k Γ (param m n t span) h =
        behind_ends (Stands P) (Param_stands P) (filled (look_up s k) Γ t) _
        (filled_ends (look_up s k) (look_up_ends s k) t h.0 Γ) (λ u i. (i, h.1))

    con_ends : (j : ℕ) (Γ : List (List ℕ)) (k : ℕ) (c : Con) → Con_stands P c →
        Ends (Con_stands P) (filled_con s (look_up s j) Γ k c)
    con_ends j Γ k (con n t span) h =
        behind_ends Done (Con_stands P) (new_item s k n span) _ (new_ends (own_item s k n) n span h.1)
        (λ u i. behind_ends (Stands P) (Con_stands P) (filled (look_up s j) Γ t) _
        (filled_ends (look_up s j) (look_up_ends s j) t h.0 Γ) (λ v l. (l, h.1)))

    item_ends : (before : Before) (t : Item) → Item_stands P t → Ends (Item_stands P) (filled_item s before t)
    unfolding filled_item
    item_ends before (family n ns ps t cs span) h =
        let k = before.items in
        behind_ends Done (Item_stands P) (new_item s k n ns) _ (new_ends (own_item s k n) n ns h.0)
        (λ u a. behind_ends (Each (Param_stands P)) (Item_stands P) (filled_params (look_up s k) [] ps) _
        (turn_ends (filled_param (look_up s k)) behind_param (Param_stands P) (Param_stands P) (param_ends k) [] ps h.1)
        (λ v b. behind_ends (Stands P) (Item_stands P) (filled_chain (look_up s k) (param_names ps) t) _
        (chain_ends (look_up s k) (look_up_ends s k) t h.2 (param_names ps))
        (λ w c. behind_ends (Each (Con_stands P)) (Item_stands P)
        (filled_cons s (look_up s (k + 1)) (param_names ps) (k + 1) cs) _
        (turn_ends (filled_con s (look_up s (k + 1)) (param_names ps)) behind_con (Con_stands P) (Con_stands P)
        (con_ends (k + 1) (param_names ps)) (k + 1) cs h.3) (λ x d. (h.0, b, c, d, h.4)))))
    item_ends before (signature p m n ns t span) h =
        let k = before.items in
        behind_ends Done (Item_stands P) (new_item s k n ns) _ (new_ends (own_item s k n) n ns h.0)
        (λ u a. behind_ends (Stands P) (Item_stands P) (filled (look_up s k) [] t) _
        (filled_ends (look_up s k) (look_up_ends s k) t h.1 []) (λ v b. (h.0, b, h.2)))
    item_ends before (clause n ps side span) h =
        let k = before.items in
        behind_ends Done (Item_stands P) (new_clause s k before.last before.groups n span) _
        (clause_ends s k before.last before.groups n span h.2)
        (λ u a. behind_ends (Each (Shape_stands P)) (Item_stands P)
        (filled_patterns (look_up s k) (variables_in ps) [] ps) _
        (turn_ends (filled_shape (look_up s k) (variables_in ps)) behind_shape (Shape_stands P) (Shape_stands P)
        (λ before p g. shape_ends (look_up s k) (look_up_ends s k) p g (variables_in ps) before) [] ps h.0)
        (λ v b. behind_ends (Stands P) (Item_stands P) (filled (look_up s k) (variables_in ps) side) _
        (filled_ends (look_up s k) (look_up_ends s k) side h.1 (variables_in ps))
        (λ w c. behind_ends Done (Item_stands P) (new_hole before.holes (tail_hole side)) _
        (hole_ends before.holes (tail_hole side) (tail_stands side h.1)) (λ x d. (b, c, h.2)))))

    module_ends : (t : Module) → Module_stands P t → Ends (Module_stands P) (resolved s t)
    module_ends (module_text h n ns is items) f =
        behind_ends (Each (Item_stands P)) (Module_stands P) (filled_items s at_start items) _
        (turn_ends (filled_item s) behind (Item_stands P) (Item_stands P) item_ends at_start items f.3)
        (λ u i. (f.0, f.1, f.2, i))

    pub names_stand : (t : Module) (m : Mistake) → Module_stands P t → resolved s t ≡ Err m → P m.span
    names_stand t m h e = subst (Ends (Module_stands P)) e (module_ends t h)

    pub resolved_stands : (t u : Module) → Module_stands P t → resolved s t ≡ Ok u → Module_stands P u
    resolved_stands t u h e = subst (Ends (Module_stands P)) e (module_ends t h)
