-- What stops a clause.
use Rattle.std.proofs.Common.{◌≡◌, ℕ, List, ◌++◌, [], Ok, ap, map, ◌∙◌}
use Rattle.std.specs.List.{flat_map}
use Rattle.qtt_syntax.specs.declared.pattern.Pattern.{Pattern}
use Rattle.qtt_syntax.specs.View.{tree_of, shape_of}
use Rattle.qtt_names.specs.Patterns.{variables as variables_at}
use Rattle.qtt_names.specs.Filled.{filled}
use Rattle.qtt_names.specs.Resolved.{variables_in, filled_patterns, new_hole, tail_hole}
use Rattle.qtt_names.specs.View.{names_of, shape_list, clause_item, unchanged}
use Rattle.qtt_names.proofs.Passing.{Fails, fails, passed, here, later}
use Rattle.qtt_names.proofs.target.Resolver.clause.Goals as goal

pub returns-in_err-patterns-clause-gives : goal.returns-in_err-patterns-clause-gives
returns-in_err-patterns-clause-gives c =
    let e = c.in_err-patterns.field-0.0 in
    let ps = map shape_of c.args.source.now.patterns.items in
    let variables : c.push_all_variables.new.variables.items ≡ variables_in ps =
    c.in_ok-push_all_variables.ensures ∙
    ap (λ (l : List (List ℕ)). l ++ flat_map variables_at (map shape_of c.deref.result.now))
    c.new-variables.ensures.items ∙ ap (λ (xs : List Pattern). variables_in (map shape_of xs))
    c.deref.ensures.value in
    let stops : Fails e (filled_patterns (names_of c.args.self.now) (variables_in ps) [] ps) =
    rw (variables, c.new-before.ensures.empty, c.deref-2.ensures.value) at
    (fails shape_list e _ c.in_err-patterns.ensures.gives) in
    passed clause_item c.from_residual-in_err-patterns.result e _ c.from_residual-in_err-patterns.ensures.1
    (later e _ _ _ c.in_ok-new_clause.ensures.gives (here e _ _ stops))

pub returns-in_err-side-clause-gives : goal.returns-in_err-side-clause-gives
returns-in_err-side-clause-gives c =
    let e = c.in_err-side.field-0.0 in
    let ps = map shape_of c.args.source.now.patterns.items in
    let variables : c.push_all_variables.new.variables.items ≡ variables_in ps =
    c.in_ok-push_all_variables.ensures ∙
    ap (λ (l : List (List ℕ)). l ++ flat_map variables_at (map shape_of c.deref.result.now))
    c.new-variables.ensures.items ∙ ap (λ (xs : List Pattern). variables_in (map shape_of xs))
    c.deref.ensures.value in
    let patterns : filled_patterns (names_of c.args.self.now) (variables_in ps) [] ps ≡ Ok
    (map shape_of c.in_ok-patterns.patterns.items) =
    rw (variables, c.new-before.ensures.empty, c.deref-2.ensures.value) at c.in_ok-patterns.ensures.gives in
    let stops : Fails e (filled (names_of c.args.self.now) (variables_in ps) (tree_of c.args.source.now.side)) =
    rw (c.in_ok-patterns.ensures.kept, variables) at (fails tree_of e _ c.in_err-side.ensures.gives) in
    passed clause_item c.from_residual-in_err-side.result e _ c.from_residual-in_err-side.ensures.1
    (later e _ _ _ c.in_ok-new_clause.ensures.gives (later e _ _ _ patterns (here e _ _ stops)))

pub returns-in_err-new_hole-clause-gives : goal.returns-in_err-new_hole-clause-gives
returns-in_err-new_hole-clause-gives c =
    let e = c.in_err-new_hole.field-0.0 in
    let ps = map shape_of c.args.source.now.patterns.items in
    let variables : c.push_all_variables.new.variables.items ≡ variables_in ps =
    c.in_ok-push_all_variables.ensures ∙
    ap (λ (l : List (List ℕ)). l ++ flat_map variables_at (map shape_of c.deref.result.now))
    c.new-variables.ensures.items ∙ ap (λ (xs : List Pattern). variables_in (map shape_of xs))
    c.deref.ensures.value in
    let patterns : filled_patterns (names_of c.args.self.now) (variables_in ps) [] ps ≡ Ok
    (map shape_of c.in_ok-patterns.patterns.items) =
    rw (variables, c.new-before.ensures.empty, c.deref-2.ensures.value) at c.in_ok-patterns.ensures.gives in
    let side : filled (names_of c.args.self.now) (variables_in ps) (tree_of c.args.source.now.side) ≡ Ok
    (tree_of c.in_ok-side.side) =
    rw (c.in_ok-patterns.ensures.kept, variables) at c.in_ok-side.ensures.gives in
    let stops : Fails e (new_hole c.args.holes.now.keys (tail_hole (tree_of c.args.source.now.side))) =
    rw c.tail_hole.ensures at (fails unchanged e _ c.in_err-new_hole.ensures.gives) in
    passed clause_item c.from_residual-in_err-new_hole.result e _ c.from_residual-in_err-new_hole.ensures.1
    (later e _ _ _ c.in_ok-new_clause.ensures.gives (later e _ _ _ patterns (later e _ _ _ side (here e _ _ stops))))
