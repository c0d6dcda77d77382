use Rattle.std.specs.Prelude.{refl}
use Rattle.qtt_grammar.specs.ChainReaders.{pi_chain_at, codomain_at_place, arrow_chain_at, binder_chain_at, expr_chain_at, implicit_chain_at, typing_chain_at, chains_at, item_chain_at, entry_chain_at, module_chain_at, text_chain_at}
use Rattle.qtt_grammar.specs.Readers.{mark_at, typed_at, bracket_at, other_atom_at, atom_at, atoms_at, brace_at, the_at, named_app_at, other_app_at, app_at, arrow_at, pi_at, other_expr_at, expr_at, implicit_at, typing_at, levels_at, signing_at, clause_patterns_at, equation_at, clause_at, defining_at, item_at, import_at, entry_at, entries_at, module_at, text_at}
use Rattle.qtt_forgetting_laws.proofs.examples.texts_as_written.Goals as goal

pub returns : goal.returns
unfolding app_at arrow_at arrow_chain_at atom_at atoms_at binder_chain_at brace_at bracket_at chains_at clause_at
    clause_patterns_at codomain_at_place defining_at entries_at entry_at entry_chain_at equation_at expr_at
    expr_chain_at implicit_at implicit_chain_at import_at item_at item_chain_at levels_at mark_at module_at
    module_chain_at named_app_at other_app_at other_atom_at other_expr_at pi_at pi_chain_at signing_at text_at
    text_chain_at the_at typed_at typing_at typing_chain_at
returns c = record {
  is_read = refl;
  braces_in_front = refl;
  braces_behind = refl;
  no_argument = refl;
  inserted_argument = refl;
  inserted_variable = refl;
}
