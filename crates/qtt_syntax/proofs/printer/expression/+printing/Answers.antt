-- Each form writes its words one after the other.
use Rattle.std.proofs.Common.{◌≡◌, true, false, ℕ, ◌+◌, List, [], ◌∷◌, ◌++◌, map, drop, replicate, inl, inr, refl, ap, ◌∙◌, sym, append_assoc}
use Rattle.std.proofs.lemmas.List.{append-nil}
use Rattle.std.specs.Fmt.{digits}
use Rattle.qtt_syntax.specs.Tree as tree
use Rattle.qtt_syntax.specs.View.{tree_of, argument_of, binder_of, statement_of, written_type}
use Rattle.qtt_syntax.specs.Tree.Tree.{apply, lambda, letting, doing}
use Rattle.qtt_syntax.specs.Tree.Statement.{local}
use Rattle.qtt_syntax.specs.Words.{written}
use Rattle.qtt_syntax.specs.Words.Printed.{blank}
use Rattle.qtt_syntax.specs.Printing.{expr, annotation, annotation_open, arguments, binders, binder, statements, statement, argument_words, number_first, is_level_0, ends_open, let_head, braced, begins_negative}
use Rattle.qtt_syntax.proofs.Rows.{apply_view, lambda_view, do_view, let_view, local_view}
use Rattle.qtt_syntax.proofs.Written.{written-append, one_more, type_with_level, atom_of_itself, domain_of_arrow, domain_of_binder, domain_of_braces, domain_grows, lead, lead_grows, braced_grows, rest_taken, first_statement, let_head_grows, let_grows}
use Rattle.qtt_syntax.proofs.printer.expression.+printing.Goals as goal
use Rattle.qtt_syntax.proofs.printer.expression.+printing.Goals.{put_atom-else-number_follows-via-then-number_follows+else-is_level_0, put_atom-else-number_follows-via-else-number_follows, put_argument-then-begins_negative+in_ok-put-in-Braced-2, put_argument-else-begins_negative, put_binders-in-Plain+in_ok-put_name-in-Plain, put_binders-in-Typed+in_ok-put-in-Typed+in_ok-put_binding-in-Typed+in_ok-put_expr-in-Typed+in_ok-put-in-Typed-2}

pub put_argument-returns-in_ok-put_broken-in-Braced : goal.put_argument-returns-in_ok-put_broken-in-Braced
put_argument-returns-in_ok-put_broken-in-Braced t c =
    let t = tree_of c.in-Braced.tree in
    let shown : argument_words c.args.blanks c.args.number_follows (argument_of c.args.argument.now) ≡ braced
    c.args.blanks t (expr c.args.blanks t) = elim c.in-Braced.is [ inl e ↦ rw e refl | inr e ↦ rw e refl ] in
    let leads : c.if-begins_negative.out.items ≡ c.put.new.out.items ++ written (lead (begins_negative t)) =
    elim c.if-begins_negative.branch [
      | put_argument-then-begins_negative+in_ok-put-in-Braced-2 w ↦
          lead_grows (begins_negative t) c.put.new.out.items c.if-begins_negative.out.items
          (inl (
            sym c.begins_negative.ensures ∙ w.if-begins_negative.true,
            rw w.out-is w.in_ok-put-in-Braced-2.ensures,
          ))
      | put_argument-else-begins_negative w ↦ lead_grows (begins_negative t) c.put.new.out.items
          c.if-begins_negative.out.items
          (inr (sym c.begins_negative.ensures ∙ w.if-begins_negative.false, rw w.out-is refl))
    ] in
    let breaks = simp c.ends_open.ensures at c.in_ok-put_broken-in-Braced.ensures in
    rw shown (rw (braced_grows c.args.blanks t (expr c.args.blanks t) c.args.out.now.items c.put.new.out.items
    c.if-begins_negative.out.items c.put_expr.new.out.items c.put_broken.new.out.items
    c.in_ok-put-in-Braced.ensures leads c.in_ok-put_expr-in-Braced.ensures breaks) at c.put-in-Braced.ensures)

pub put_arguments-loop-i-preserved : goal.put_arguments-loop-i-preserved
put_arguments-loop-i-preserved t c =
    let rest = drop (c.loop-i.i + 1) c.args.list.now in
    let x = c.index-list-i.result in
    let first = argument_words c.args.blanks (number_first (tree.arguments (map argument_of rest))) (argument_of x) in
    let grows : c.put_argument.new.out.items ≡ c.loop-i.out.items ++ 32 ∷ written first =
    simp (c.in_ok-put.ensures, c.number_first.ensures, rest_taken, append_assoc) at
    c.in_ok-put_argument.ensures in
    one_more (λ xs. written (arguments c.args.blanks (tree.arguments (map argument_of xs)))) c.args.list.now
    c.loop-i.i x c.args.out.now.items c.loop-i.out.items c.put_argument.new.out.items
    (32 ∷ written first) c.loop-i-test.true c.index-list-i.is
    (ap (λ (v : List ℕ). 32 ∷ v)
    (written-append first (arguments c.args.blanks (tree.arguments (map argument_of rest)))))
    c.loop-i.invariant grows

pub put_atom-returns-then-is_level_0 : goal.put_atom-returns-then-is_level_0
unfolding digits
put_atom-returns-then-is_level_0 t c =
    rw (type_with_level c.args.number_follows (tree_of c.args.tree.now) _ c.if-number_follows.true
    (sym c.is_level_0.ensures ∙ c.if-is_level_0.true)) c.put.ensures

pub put_atom-returns : goal.put_atom-returns
put_atom-returns t c =
    let h : c.args.number_follows ≡ true → is_level_0 (tree_of c.args.tree.now) ≡ true → ⊥ =
    λ b l. elim c.else-number_follows.branch [
      | put_atom-else-number_follows-via-then-number_follows+else-is_level_0 w ↦ cc
      | put_atom-else-number_follows-via-else-number_follows w ↦ cc
    ] in
    rw (atom_of_itself c.args.number_follows false (tree_of c.args.tree.now) _
    (sym c.is_atom.ensures ∙ c.if-is_atom.false) h)
    (simp (c.in_ok-put.ensures, c.in_ok-put_expr.ensures, append_assoc, written-append)
    (simp (c.in_ok-put.ensures, c.in_ok-put_expr.ensures, append_assoc, written-append) at c.put-3.ensures))

pub put_binders-loop-binder-preserved : goal.put_binders-loop-binder-preserved
put_binders-loop-binder-preserved t c =
    let at = c.args.blanks in
    let rest = drop (c.loop-binder.binder-index + 1) c.args.list.now in
    let x = c.binder-item.result in
    let first = binder at (binder_of x) in
    let one : c.match-binder.out.items ≡ c.loop-binder.out.items ++ written first =
    elim c.match-binder.branch [
      | put_binders-in-Plain+in_ok-put_name-in-Plain w ↦ rw (w.out-is, w.in-Plain.is)
          (simp append-nil w.in_ok-put_name-in-Plain.ensures)
      | put_binders-in-Typed+in_ok-put-in-Typed+in_ok-put_binding-in-Typed+in_ok-put_expr-in-Typed+in_ok-put-in-Typed-2 w ↦
          rw (w.out-is, w.in-Typed.is)
          (simp (append_assoc, written-append)
          (simp (
            w.in_ok-put_expr-in-Typed.ensures,
            w.in_ok-put_binding-in-Typed.ensures,
            w.in_ok-put-in-Typed.ensures,
            append_assoc,
            written-append,
          ) at w.in_ok-put-in-Typed-2.ensures))
    ] in
    let grows : c.put-in-loop-binder.new.out.items ≡ c.loop-binder.out.items ++ (written first ++ 32 ∷ []) =
    c.in_ok-put.ensures ∙ ap (λ (v : List ℕ). v ++ 32 ∷ []) one ∙ append_assoc c.loop-binder.out.items
    (written first) (32 ∷ []) in
    let step = written-append first (blank ∷ binders at (tree.binders (map binder_of rest))) ∙
    sym (append_assoc (written first) (32 ∷ []) (written (binders at (tree.binders (map binder_of rest))))) in
    one_more (λ xs. written (binders at (tree.binders (map binder_of xs)))) c.args.list.now
    c.loop-binder.binder-index x c.args.out.now.items c.loop-binder.out.items
    c.put-in-loop-binder.new.out.items (written first ++ 32 ∷ []) c.loop-binder-test.true c.binder-item.is
    step c.loop-binder.invariant grows

pub put_domain-returns-then-is_arrow : goal.put_domain-returns-then-is_arrow
put_domain-returns-then-is_arrow t c =
    rw (domain_of_arrow c.args.blanks c.args.mark c.args.mult c.args.name.now false (tree_of c.args.tree.now) _
    (sym c.is_arrow.ensures ∙ c.if-is_arrow.true) (sym c.is_app.ensures ∙ c.if-is_app.false))
    (simp (c.in_ok-put.ensures, c.in_ok-put_expr.ensures, append_assoc, written-append)
    (simp (c.in_ok-put.ensures, c.in_ok-put_expr.ensures, append_assoc, written-append) at
    c.put-then-is_arrow.ensures))

pub put_domain-returns-in_ok-put_expr-in-Written : goal.put_domain-returns-in_ok-put_expr-in-Written
put_domain-returns-in_ok-put_expr-in-Written t c =
    rw (domain_of_binder c.args.blanks c.args.mark c.args.mult c.args.name.now (tree_of c.args.tree.now) _
    (sym c.is_arrow.ensures ∙ c.if-is_arrow.false) c.in-Written.is)
    (simp (append_assoc, written-append)
    (simp (
      c.in_ok-put_expr-in-Written.ensures,
      c.in_ok-put_binding-in-Written.ensures,
      c.in_ok-put-in-Written.ensures,
      append_assoc,
      written-append,
    ) at c.put-in-Written-2.ensures))

pub put_domain-returns-in_ok-put_broken-in-Braced : goal.put_domain-returns-in_ok-put_broken-in-Braced
put_domain-returns-in_ok-put_broken-in-Braced t c =
    let t = tree_of c.args.tree.now in
    let breaks = simp c.ends_open.ensures at c.in_ok-put_broken-in-Braced.ensures in
    rw (domain_of_braces c.args.blanks c.args.mark c.args.mult c.args.name.now t _ c.in-Braced.is)
    (rw (domain_grows c.args.blanks c.args.mult c.args.name.now t (expr c.args.blanks t) c.args.out.now.items
    c.put-in-Braced.new.out.items c.put_binding-in-Braced.new.out.items c.put_expr-in-Braced.new.out.items
    c.put_broken.new.out.items c.in_ok-put-in-Braced.ensures c.in_ok-put_binding-in-Braced.ensures
    c.in_ok-put_expr-in-Braced.ensures breaks) at c.put-in-Braced-2.ensures)

pub put_expr-returns-in_ok-put-in-The-2 : goal.put_expr-returns-in_ok-put-in-The-2
put_expr-returns-in_ok-put-in-The-2 t c =
    rw c.in-The.is (simp (
      c.in_ok-put-in-The-2.ensures,
      c.in_ok-put_atom-in-The.ensures,
      c.in_ok-put-in-The.ensures,
      c.is_number.ensures,
      c.deref-in-The.ensures,
      c.deref-in-The-2.ensures,
      c.deref-in-The-3.ensures,
      append_assoc,
      written-append,
    )
    (simp (
      c.in_ok-put-in-The-2.ensures,
      c.in_ok-put_atom-in-The.ensures,
      c.in_ok-put-in-The.ensures,
      c.is_number.ensures,
      c.deref-in-The.ensures,
      c.deref-in-The-2.ensures,
      c.deref-in-The-3.ensures,
      append_assoc,
      written-append,
    ) at c.put_atom-in-The.ensures))

pub put_expr-returns-in_ok-put_atom-in-Apply : goal.put_expr-returns-in_ok-put_atom-in-Apply
put_expr-returns-in_ok-put_atom-in-Apply t c =
    let view : tree_of c.args.tree.now ≡ apply (tree_of c.in-Apply.function.value)
    (tree.arguments (map argument_of c.in-Apply.arguments.items)) c.in-Apply.span =
    ap tree_of c.in-Apply.is ∙ apply_view c.in-Apply.function c.in-Apply.arguments c.in-Apply.span in
    rw view (simp (
      c.in_ok-put_atom-in-Apply.ensures,
      c.number_first.ensures,
      c.deref-in-Apply.ensures,
      c.deref-in-Apply-2.ensures.value,
      c.deref-in-Apply-3.ensures.value,
      append_assoc,
      written-append,
    )
    (simp (
      c.in_ok-put_atom-in-Apply.ensures,
      c.number_first.ensures,
      c.deref-in-Apply.ensures,
      c.deref-in-Apply-2.ensures.value,
      c.deref-in-Apply-3.ensures.value,
      append_assoc,
      written-append,
    ) at
    c.put_arguments.ensures))

pub put_expr-returns-in_ok-put-in-Pi : goal.put_expr-returns-in_ok-put-in-Pi
put_expr-returns-in_ok-put-in-Pi t c =
    rw c.in-Pi.is (simp (
      c.in_ok-put-in-Pi.ensures,
      c.in_ok-put_domain-in-Pi.ensures,
      c.deref-in-Pi.ensures,
      c.deref-in-Pi-2.ensures,
      append_assoc,
      written-append,
    )
    (simp (
      c.in_ok-put-in-Pi.ensures,
      c.in_ok-put_domain-in-Pi.ensures,
      c.deref-in-Pi.ensures,
      c.deref-in-Pi-2.ensures,
      append_assoc,
      written-append,
    ) at c.put_expr.ensures))

pub put_expr-returns-in_ok-put-in-Lambda-2 : goal.put_expr-returns-in_ok-put-in-Lambda-2
put_expr-returns-in_ok-put-in-Lambda-2 t c =
    let view : tree_of c.args.tree.now ≡ lambda (tree.binders (map binder_of c.in-Lambda.binders.items))
    (tree_of c.in-Lambda.body.value) c.in-Lambda.span =
    ap tree_of c.in-Lambda.is ∙ lambda_view c.in-Lambda.binders c.in-Lambda.body c.in-Lambda.span in
    rw view (simp (
      c.in_ok-put-in-Lambda-2.ensures,
      c.in_ok-put_binders-in-Lambda.ensures,
      c.in_ok-put-in-Lambda.ensures,
      c.deref-in-Lambda.ensures.value,
      c.deref-in-Lambda-2.ensures,
      append_assoc,
      written-append,
    ) (simp (
      c.in_ok-put-in-Lambda-2.ensures,
      c.in_ok-put_binders-in-Lambda.ensures,
      c.in_ok-put-in-Lambda.ensures,
      c.deref-in-Lambda.ensures.value,
      c.deref-in-Lambda-2.ensures,
      append_assoc,
      written-append,
    ) at
    c.put_expr-in-Lambda.ensures))

pub put_expr-returns-in_ok-put-in-Let-2 : goal.put_expr-returns-in_ok-put-in-Let-2
put_expr-returns-in_ok-put-in-Let-2 t c =
    let view : tree_of c.args.tree.now ≡ letting c.in-Let.mult c.in-Let.name (written_type c.in-Let.ty)
    (tree_of c.in-Let.value.value) (tree_of c.in-Let.body.value) c.in-Let.span =
    ap tree_of c.in-Let.is ∙ let_view c.in-Let.mult c.in-Let.name c.in-Let.ty c.in-Let.value c.in-Let.body
    c.in-Let.span in
    let at = c.args.blanks in
    let ty = written_type c.in-Let.ty in
    let value = tree_of c.in-Let.value.value in
    let first = simp (c.in_ok-put-in-Let.ensures, c.deref-in-Let.ensures) at c.in_ok-put_expr-in-Let.ensures in
    let parts = simp c.annotation_open.ensures at c.in_ok-put_parted-in-Let.ensures in
    let head : c.put_expr-in-Let.new.out.items ≡ c.args.out.now.items ++ written
    (let_head at c.in-Let.mult c.in-Let.name.name (annotation_open ty) (annotation at ty) (expr at value)) =
    first ∙ let_head_grows at c.in-Let.mult c.in-Let.name.name (annotation_open ty) (annotation at ty)
    (expr at value) c.args.out.now.items c.put_let.new.out.items c.put_annotation.new.out.items
    c.put_parted.new.out.items c.in_ok-put_let-in-Let.ensures c.in_ok-put_annotation-in-Let.ensures parts in
    let breaks = simp (c.ends_open.ensures, c.deref-in-Let-2.ensures) at c.in_ok-put_parted-in-Let-2.ensures in
    let last = simp (c.in_ok-put-in-Let-2.ensures, c.deref-in-Let-3.ensures) at c.put_expr-in-Let-2.ensures in
    rw view (rw (let_grows at (ends_open value)
    (let_head at c.in-Let.mult c.in-Let.name.name (annotation_open ty) (annotation at ty) (expr at value))
    (expr at (tree_of c.in-Let.body.value)) c.args.out.now.items c.put_expr-in-Let.new.out.items
    c.put_parted-in-Let.new.out.items head breaks) at last)

pub put_expr-returns-in_ok-put-in-Do : goal.put_expr-returns-in_ok-put-in-Do
put_expr-returns-in_ok-put-in-Do t c =
    let view : tree_of c.args.tree.now ≡ doing (tree.statements (map statement_of c.in-Do.statements.items))
    c.in-Do.span = ap tree_of c.in-Do.is ∙ do_view c.in-Do.statements c.in-Do.span in
    let inner : c.in-Some.inner ≡ c.args.blanks + 2 = c.in-Some.ensures.1 in
    rw view (simp (written-append, append_assoc, append-nil)
    (simp (inner, c.in_ok-put-in-Do.ensures, c.deref-in-Do.ensures.value, append_assoc, append-nil) at
    c.put_statements.ensures))

pub put_statement-returns-in_ok-put-in-Let : goal.put_statement-returns-in_ok-put-in-Let
put_statement-returns-in_ok-put-in-Let t c =
    let view : statement_of c.args.statement.now ≡ local c.in-Let.mult c.in-Let.name (written_type c.in-Let.ty)
    (tree_of c.in-Let.value) c.in-Let.span =
    ap statement_of c.in-Let.is ∙ local_view c.in-Let.mult c.in-Let.name c.in-Let.ty c.in-Let.value
    c.in-Let.span in
    rw view (simp (
      c.in_ok-put-in-Let.ensures,
      c.in_ok-put_parted-in-Let.ensures,
      c.in_ok-put_annotation-in-Let.ensures,
      c.in_ok-put_let-in-Let.ensures,
      c.annotation_open.ensures,
      append_assoc,
      written-append,
    )
    (simp (
      c.in_ok-put-in-Let.ensures,
      c.in_ok-put_parted-in-Let.ensures,
      c.in_ok-put_annotation-in-Let.ensures,
      c.in_ok-put_let-in-Let.ensures,
      c.annotation_open.ensures,
      append_assoc,
      written-append,
    ) at c.put_expr-in-Let.ensures))

pub put_statements-loop-statement-preserved : goal.put_statements-loop-statement-preserved
put_statements-loop-statement-preserved t c =
    let rest = drop (c.loop-statement.statement-index + 1) c.args.list.now in
    let x = c.statement-item.result in
    let first = statement c.args.blanks (statement_of x) in
    let grows : c.put_statement.new.out.items ≡ c.loop-statement.out.items ++
    (10 ∷ (replicate c.args.blanks 32 ++ written first)) =
    simp (c.in_ok-new_line.ensures, append_assoc, append-nil) at c.in_ok-put_statement.ensures in
    one_more (λ xs. written (statements c.args.blanks (tree.statements (map statement_of xs)))) c.args.list.now
    c.loop-statement.statement-index x c.args.out.now.items c.loop-statement.out.items
    c.put_statement.new.out.items (10 ∷ (replicate c.args.blanks 32 ++ written first))
    c.loop-statement-test.true c.statement-item.is
    (rw (first_statement c.args.blanks (tree.statements (map statement_of rest)) first)
    (ap (λ (v : List ℕ). 10 ∷ v)
    (sym (append_assoc (replicate c.args.blanks 32) (written first)
    (written (statements c.args.blanks (tree.statements (map statement_of rest))))))))
    c.loop-statement.invariant grows
