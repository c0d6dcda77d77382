use Rattle.std.specs.Prelude.{refl}
use Rattle.qtt_grammar.specs.Readers.{mark_at, typed_at, binder_at, lambda_at, expr_at, other_expr_at, arrow_at, app_at, named_app_at, atoms_at, typing_at, signing_at, defining_at, item_at, import_at, entry_at, entries_at, module_at, levels_at}
use Rattle.qtt_grammar.proofs.examples.readings_as_worked.Goals as goal

pub returns : goal.returns
unfolding app_at arrow_at atoms_at binder_at defining_at entries_at entry_at expr_at import_at item_at lambda_at
    levels_at mark_at module_at named_app_at other_expr_at signing_at typed_at typing_at
returns c = record {
  reads_signature = refl;
  wants_name = refl;
  arrow_too_deep = refl;
  arrows_to_the_right = refl;
  bracket_too_deep = λ more. refl;
  bracket_inside_function = refl;
}
