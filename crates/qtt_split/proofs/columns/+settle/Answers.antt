use Rattle.std.proofs.Common.{◌≡◌, ◌∙◌, ◌+◌, ◌<◌, ◌⊎◌, ◌++◌, [], ◌∷◌, length, map, true, ap, inl, inr, sym, subst, rules, arith}
use Rattle.qtt_match.specs.Constructors.{names_constructor}
use Rattle.qtt_syntax.specs.Tree.{shapes}
use Rattle.qtt_syntax.specs.Tree.Shape.{constructor}
use Rattle.qtt_syntax.specs.View.{shape_of}
use Rattle.qtt_syntax.proofs.Rows.{constructor_view}
use Rattle.qtt_usage.specs.declared.mult.Mult.{Mult}
use Rattle.qtt_term.specs.declared.term.Term as code_term
use Rattle.qtt_term.specs.declared.term.Term.{the_lemmas}
use Rattle.qtt_term.specs.Entries.{entries}
use Rattle.qtt_term.specs.Substitution.{sub}
use Rattle.qtt_term.specs.Telescopes.{filled}
use Rattle.qtt_term.specs.Term.{Form, node, ◌+++◌}
use Rattle.qtt_term.specs.View.{term, terms, side_by_side}
use Rattle.qtt_term.proofs.Binders.{if-ok}
use Rattle.qtt_unify.specs.View.{all_terms}
use Rattle.qtt_split.specs.Columns.{column_of, settled_of}
use Rattle.qtt_split.specs.Constructors.{fields_at}
use Rattle.qtt_split.specs.Node.{Settled, settle, settle_fields}
use Rattle.qtt_split.proofs.Settling.{Fields, FieldsSoFar, FieldAt, settled-con, one-field, too-many}
use Rattle.qtt_split.proofs.columns.+settle.Goals.{settle_fields-else-patterns-types-via-then-patterns-types+else-patterns-fields, settle_fields-else-patterns-types-via-else-patterns-types}
use Rattle.qtt_split.proofs.columns.+settle.Goals as goal

pub settle-returns-then-names_constructor : goal.settle-returns-then-names_constructor
settle-returns-then-names_constructor t c =
    let K = entries c.args.globals.now in
    let x = c.in-Constructor in
    let ps = map shape_of x.arguments.items in
    let con = c.in-Con.con in
    let qs = c.in-Con.params.items in
    let fs = c.in-Con.fields.items in
    let A = term c.args.ty.now in
    let form : shape_of c.args.pattern.now ≡ constructor x.mark x.head (shapes ps) x.span =
    ap shape_of x.is ∙ constructor_view x.mark x.head x.arguments x.span in
    let stands : term c.args.stands.now ≡ node (Form.con con.family con.place (length (terms qs)))
    (side_by_side (terms qs) +++ side_by_side (terms fs)) = search (rules, the_lemmas) in
    let names : names_constructor K.families x.head con.family con.place ≡ true =
    sym c.names_constructor.ensures ∙ c.if-names_constructor.true in
    let whole : settle_fields K (shapes (map shape_of c.deref.result.now))
    (filled c.deref-then-names_constructor.result.now) (fields_at K con.family con.place)
    (all_terms c.deref-then-names_constructor-2.result.now)
    ≡ settle K (shape_of c.args.pattern.now) (term c.args.stands.now) A =
    ap (λ xs. settle_fields K (shapes (map shape_of xs)) (filled c.deref-then-names_constructor.result.now)
    (fields_at K con.family con.place) (all_terms c.deref-then-names_constructor-2.result.now)) c.deref.ensures.value ∙
    ap (λ vs. settle_fields K (shapes ps) (filled vs) (fields_at K con.family con.place)
    (all_terms c.deref-then-names_constructor-2.result.now)) c.deref-then-names_constructor.ensures.value ∙
    ap (λ vs. settle_fields K (shapes ps) (filled qs) (fields_at K con.family con.place) (all_terms vs))
    c.deref-then-names_constructor-2.ensures.value ∙
    sym (settled-con K x.mark x.head (shapes ps) x.span con (terms qs) (terms fs) A names) ∙
    ap (λ p. settle K p (node (Form.con con.family con.place (length (terms qs)))
    (side_by_side (terms qs) +++ side_by_side (terms fs))) A) (sym form) ∙
    ap (λ u. settle K (shape_of c.args.pattern.now) u A) (sym stands) in
    if-ok (λ s. settled_of s ≡ settle_fields K (shapes (map shape_of c.deref.result.now))
    (filled c.deref-then-names_constructor.result.now) (fields_at K con.family con.place)
    (all_terms c.deref-then-names_constructor-2.result.now))
    (λ s. settled_of s ≡ settle K (shape_of c.args.pattern.now) (term c.args.stands.now) A) c.settle_fields.result
    (λ s h. h ∙ whole) c.settle_fields.ensures

pub settle_fields-loop-place-preserved : goal.settle_fields-loop-place-preserved
settle_fields-loop-place-preserved t c =
    let K = entries c.args.globals.now in
    let F : Fields = record {
      patterns = c.args.patterns.now;
      params = c.args.params.now;
      types = c.fields_at-types.result.now;
      fields = c.args.fields.now;
    } in
    let i = c.loop-place.place in
    let x = c.index-patterns-place.result in
    let b = c.index-types-place.result in
    let u = c.index-fields-place.result in
    let vs = c.loop-place.values.items in
    let more = c.in-Columns.more.items in
    let at : FieldAt F i x b u = record {
      in_patterns = c.loop-place-test.true;
      in_types = c.if-place-types.false;
      in_fields = c.if-place-fields.false;
      pattern = c.index-patterns-place.is;
      type = c.index-types-place.is;
      field = c.index-fields-place.is;
    } in
    let ty : term c.in_ok-ty.ty ≡ sub (filled vs) (term b.1) =
    c.in_ok-ty.ensures ∙
    ap (λ (y : Mult × code_term.Term). sub (filled c.deref.result.now) (term y.1)) (sym c.index-types-place.is) ∙
    ap (λ ws. sub (filled ws) (term b.1)) c.deref.ensures.value in
    let read : Settled.columns (map column_of more) ≡ settle K (shape_of x) (term u) (term c.in_ok-ty.ty) =
    ap settled_of (sym c.in-Columns.is) ∙ c.in_ok-more.ensures in
    let columns : c.append.new.self.items ≡ c.loop-place.columns.items ++ more = search rules in
    let values : c.push.new.self.items ≡ vs ++ c.in_ok-copy.field-0 ∷ [] = search rules in
    record {
      so =
          subst (λ ws. FieldsSoFar K F (i + 1) c.append.new.self.items ws) (sym values)
          (subst (λ cs. FieldsSoFar K F (i + 1) cs (vs ++ c.in_ok-copy.field-0 ∷ [])) (sym columns)
          (one-field K F i c.loop-place.columns.items more vs x b u c.in_ok-copy.field-0 at
          (record { ty = term c.in_ok-ty.ty; filled_in = ty; settled = read }) c.in_ok-copy.ensures
          c.loop-place.invariant.so));
      in_patterns = omega (arith, c.loop-place-test.true);
      in_types = omega (arith, c.if-place-types.false);
      in_fields = omega (arith, c.if-place-fields.false);
    }

pub settle_fields-returns : goal.settle_fields-returns
settle_fields-returns t c =
    let K = entries c.args.globals.now in
    let F : Fields = record {
      patterns = c.args.patterns.now;
      params = c.args.params.now;
      types = c.fields_at-types.result.now;
      fields = c.args.fields.now;
    } in
    let i = c.loop-place.place in
    let more : (i < length F.types) ⊎ (i < length F.fields) =
    elim c.else-patterns-types.branch [
      | settle_fields-else-patterns-types-via-then-patterns-types+else-patterns-fields w ↦
          inr (omega (
            arith,
            w.if-patterns-fields.false,
            c.loop-place.invariant.in_fields,
            c.loop-place.invariant.in_patterns,
            c.loop-place-test.false,
          ))
      | settle_fields-else-patterns-types-via-else-patterns-types w ↦
          inl (omega (
            arith,
            w.if-patterns-types.false,
            c.loop-place.invariant.in_types,
            c.loop-place.invariant.in_patterns,
            c.loop-place-test.false,
          ))
    ] in
    too-many K F i c.loop-place.columns.items c.loop-place.values.items c.loop-place-test.false more
    c.loop-place.invariant.so ∙
    ap (λ Θ. settle_fields K (shapes (map shape_of F.patterns)) (filled F.params) Θ (all_terms F.fields))
    c.fields_at-types.ensures
