use Rattle.std.proofs.Common.{◌≡◌, ◌+◌, ◌++◌, drop, vec_len}
use Rattle.qtt_erase.specs.View.{leans, lean_branches}
use Rattle.qtt_closure.specs.Converted.{all_flat, all_functions, all_after, branches_flat, branches_functions, branches_after}
use Rattle.qtt_closure.specs.Scopes.{slots}
use Rattle.qtt_closure.specs.View.{flat_terms, flat_branches, function_list}
use Rattle.qtt_closure.proofs.converting.+converted.Given as goal

abbrev pub invariant-converted_all-loop-source : goal.invariant-converted_all-loop-source
invariant-converted_all-loop-source l = record {
  terms : flat_terms l.terms.items ++ all_flat (l.first + vec_len l.functions) (slots l.scope)
      (leans (drop l.source-index l.sources))
      ≡ all_flat (l.first + vec_len l.initial.functions) (slots l.scope) (leans l.sources);
  functions : function_list l.functions.items ++ all_functions (l.first + vec_len l.functions) (slots l.scope)
      (leans (drop l.source-index l.sources))
      ≡ function_list l.initial.functions.items ++ all_functions (l.first + vec_len l.initial.functions)
      (slots l.scope) (leans l.sources);
  count : all_after (l.first + vec_len l.functions) (leans (drop l.source-index l.sources)) ≡ all_after
      (l.first + vec_len l.initial.functions) (leans l.sources);
}

abbrev pub invariant-converted_branches-loop-source : goal.invariant-converted_branches-loop-source
invariant-converted_branches-loop-source l = record {
  terms : flat_branches l.branches.items ++ branches_flat (l.first + vec_len l.functions) (slots l.scope)
      (lean_branches (drop l.source-index l.sources))
      ≡ branches_flat (l.first + vec_len l.initial.functions) (slots l.scope) (lean_branches l.sources);
  functions : function_list l.functions.items ++ branches_functions (l.first + vec_len l.functions)
      (slots l.scope) (lean_branches (drop l.source-index l.sources))
      ≡ function_list l.initial.functions.items ++ branches_functions (l.first + vec_len l.initial.functions)
      (slots l.scope) (lean_branches l.sources);
  count : branches_after (l.first + vec_len l.functions) (lean_branches (drop l.source-index l.sources)) ≡
      branches_after (l.first + vec_len l.initial.functions) (lean_branches l.sources);
}
