use Rattle.std.proofs.Common.{◌≡◌, ◌+◌, ◌∷◌, ◌++◌, [], suc, length, ◌∙◌, vec_len, arith}
use Rattle.qtt_erase.specs.Binding.{∅}
use Rattle.qtt_erase.specs.Erasure.{place_at}
use Rattle.qtt_erase.specs.View.{lean, leans}
use Rattle.qtt_term.specs.View.{action}
use Rattle.qtt_erase.specs.Erasure.{places}
use Rattle.qtt_erase.specs.Operator.{Ty}
use Rattle.qtt_closure.specs.View.{function, function_list, flat_term, flat_terms}
use Rattle.qtt_closure.specs.Conversion.{bound, captured, captures, closure_at, flat, functions}
use Rattle.qtt_closure.specs.Scopes.{slots, slot_list}
use Rattle.qtt_closure.proofs.Components.{conversions, fun_flat, thunk_flat, con_flat, call_flat, act_flat, con_functions, call_functions, act_functions, con_after, call_after, act_after, put_back}
use Rattle.qtt_closure.proofs.Scoping.{captured_count}
use Rattle.qtt_closure.specs.declared.flat.FlatTerm as flat_lemmas
use Rattle.std.proofs.lemmas.Grind.{common_steps}
use mathlib.Core.Path.{ap₂}
use Rattle.qtt_closure.proofs.converting.+converted.Goals as goal

pub converted-returns-in-Fun-clause-term : goal.converted-returns-in-Fun-clause-term
converted-returns-in-Fun-clause-term t c =
    let e : flat (c.args.first + vec_len c.args.functions.now) (slots c.args.scope.now) (lean c.args.source.now)
    ≡ closure_at (c.args.first + vec_len c.args.functions.now)
    (captured (captures 1 (lean c.deref.result.now) (slots c.args.scope.now))
    (place_at (slots c.args.scope.now)) ∅) =
    grind (
      arith,
      conversions,
      fun_flat (c.args.first + vec_len c.args.functions.now) (slots c.args.scope.now)
          (lean c.in-Fun.body.value),
      c.in-Fun.is,
      c.deref.ensures,
    ) in
    rw e c.closure.ensures.term

pub converted-returns-in-Thunk-clause-term : goal.converted-returns-in-Thunk-clause-term
converted-returns-in-Thunk-clause-term t c =
    let e : flat (c.args.first + vec_len c.args.functions.now) (slots c.args.scope.now) (lean c.args.source.now)
    ≡ closure_at (c.args.first + vec_len c.args.functions.now)
    (captured (captures 0 (lean c.deref-in-Thunk.result.now) (slots c.args.scope.now))
    (place_at (slots c.args.scope.now)) ∅) =
    grind (
      arith,
      conversions,
      thunk_flat (c.args.first + vec_len c.args.functions.now) (slots c.args.scope.now)
          (lean c.in-Thunk.body.value),
      c.in-Thunk.is,
      c.deref-in-Thunk.ensures,
    ) in
    rw e c.closure-in-Thunk.ensures.term

pub converted-returns-in_ok-fields-in-Con-clause-term : goal.converted-returns-in_ok-fields-in-Con-clause-term
converted-returns-in_ok-fields-in-Con-clause-term t c =
    let e = con_flat (c.args.first + vec_len c.args.functions.now) (slots c.args.scope.now) c.in-Con.tag
    (leans c.in-Con.fields.items) in
    grind (arith, conversions, e, c.in-Con.is, c.deref-in-Con.ensures.value, c.in_ok-fields-in-Con.ensures.terms)

pub converted-returns-in_ok-fields-in-Con-clause-functions : goal.converted-returns-in_ok-fields-in-Con-clause-functions
converted-returns-in_ok-fields-in-Con-clause-functions t c =
    let e = con_functions (c.args.first + vec_len c.args.functions.now) (slots c.args.scope.now) c.in-Con.tag
    (leans c.in-Con.fields.items) in
    grind (arith, conversions, e, c.in-Con.is, c.deref-in-Con.ensures.value, c.in_ok-fields-in-Con.ensures.functions)

pub converted-returns-in_ok-fields-in-Con-clause-count : goal.converted-returns-in_ok-fields-in-Con-clause-count
converted-returns-in_ok-fields-in-Con-clause-count t c =
    let e = con_after (c.args.first + vec_len c.args.functions.now) (slots c.args.scope.now) c.in-Con.tag
    (leans c.in-Con.fields.items) in
    grind (arith, conversions, e, c.in-Con.is, c.deref-in-Con.ensures.value, c.in_ok-fields-in-Con.ensures.count)

pub converted-returns-in_ok-args-in-Prim-clause-term : goal.converted-returns-in_ok-args-in-Prim-clause-term
converted-returns-in_ok-args-in-Prim-clause-term t c =
    let e = call_flat (c.args.first + vec_len c.args.functions.now) (slots c.args.scope.now) c.in-Prim.prim
    (leans c.in-Prim.args.items) in
    grind (arith, conversions, e, c.in-Prim.is, c.deref-in-Prim.ensures.value, c.in_ok-args-in-Prim.ensures.terms)

pub converted-returns-in_ok-args-in-Prim-clause-functions : goal.converted-returns-in_ok-args-in-Prim-clause-functions
converted-returns-in_ok-args-in-Prim-clause-functions t c =
    let e = call_functions (c.args.first + vec_len c.args.functions.now) (slots c.args.scope.now) c.in-Prim.prim
    (leans c.in-Prim.args.items) in
    grind (arith, conversions, e, c.in-Prim.is, c.deref-in-Prim.ensures.value, c.in_ok-args-in-Prim.ensures.functions)

pub converted-returns-in_ok-args-in-Prim-clause-count : goal.converted-returns-in_ok-args-in-Prim-clause-count
converted-returns-in_ok-args-in-Prim-clause-count t c =
    let e = call_after (c.args.first + vec_len c.args.functions.now) (slots c.args.scope.now) c.in-Prim.prim
    (leans c.in-Prim.args.items) in
    grind (arith, conversions, e, c.in-Prim.is, c.deref-in-Prim.ensures.value, c.in_ok-args-in-Prim.ensures.count)

pub converted-returns-in_ok-args-in-Act-clause-term : goal.converted-returns-in_ok-args-in-Act-clause-term
converted-returns-in_ok-args-in-Act-clause-term t c =
    let e = act_flat (c.args.first + vec_len c.args.functions.now) (slots c.args.scope.now) (action c.in-Act.kind)
    (leans c.in-Act.args.items) in
    grind (arith, conversions, e, c.in-Act.is, c.deref-in-Act.ensures.value, c.in_ok-args-in-Act.ensures.terms)

pub converted-returns-in_ok-args-in-Act-clause-functions : goal.converted-returns-in_ok-args-in-Act-clause-functions
converted-returns-in_ok-args-in-Act-clause-functions t c =
    let e = act_functions (c.args.first + vec_len c.args.functions.now) (slots c.args.scope.now)
    (action c.in-Act.kind) (leans c.in-Act.args.items) in
    grind (arith, conversions, e, c.in-Act.is, c.deref-in-Act.ensures.value, c.in_ok-args-in-Act.ensures.functions)

pub converted-returns-in_ok-args-in-Act-clause-count : goal.converted-returns-in_ok-args-in-Act-clause-count
converted-returns-in_ok-args-in-Act-clause-count t c =
    let e = act_after (c.args.first + vec_len c.args.functions.now) (slots c.args.scope.now)
    (action c.in-Act.kind) (leans c.in-Act.args.items) in
    grind (arith, conversions, e, c.in-Act.is, c.deref-in-Act.ensures.value, c.in_ok-args-in-Act.ensures.count)

pub closure-returns-clause-functions : goal.closure-returns-clause-functions
closure-returns-clause-functions t c =
    let n = c.args.first + vec_len c.args.functions.now in
    let b = lean c.args.body.now in
    let Δ = captures c.args.takes b (slots c.args.scope.now) in
    let old = function_list c.args.functions.now.items in
    let w = captured_count (flat_terms c.in_ok-values.values.items) (slot_list c.deref.result.now)
    (place_at (slots c.args.scope.now)) c.in_ok-values.ensures in
    let own : c.in_ok-captured.captured ≡ places Δ =
    grind (
      arith,
      common_steps,
      w,
      c.len.ensures,
      c.try_from-2.ensures,
      c.map_err-2.ensures.cases,
      c.in_ok-captured.ensures.cases,
      c.in_ok-values.values.ok,
      c.deref.ensures.value,
      c.in_ok-captures.ensures,
    )
    in
    let body : flat_term c.in_ok-body.body ≡ flat (suc n) (bound c.args.takes Δ) b =
    grind (
      arith,
      common_steps,
      c.in_ok-body.ensures.term,
      c.in_ok-push.ensures.len,
      c.deref-2.ensures.value,
      c.in_ok-captures.ensures,
    ) in
    let kept : length c.args.functions.now.items ≡ c.len-place.result =
    grind (arith, c.args.functions.now.ok, c.len-place.ensures) in
    let all : function_list c.converted.new.functions.items
    ≡ (old ++ record { captured = c.in_ok-captured.captured; takes = c.args.takes; body = Ty } ∷ []) ++ functions
    (suc n) (bound c.args.takes Δ) b =
    grind (
      arith,
      common_steps,
      flat_lemmas.the_lemmas,
      c.in_ok-body.ensures.functions,
      c.in_ok-push.ensures.items,
      c.in_ok-push.ensures.len,
      c.deref-2.ensures.value,
      c.in_ok-captures.ensures,
    )
    in
    put_back function c.args.functions.now.items c.converted.new.functions.items c.len-place.result _ _
    (functions (suc n) (bound c.args.takes Δ) b) kept all
    ∙ ap₂ (λ m u. old ++ record { captured = m; takes = c.args.takes; body = u } ∷ functions (suc n)
    (bound c.args.takes Δ) b) own body
