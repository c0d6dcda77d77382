use Rattle.std.specs.Prelude.{refl}
use Rattle.qtt_grammar.specs.Readers.{other_atom_at, bracket_at, app_at, named_app_at, other_app_at, atoms_at, expr_at, other_expr_at, arrow_at, levels_at}
use Rattle.qtt_grammar.specs.ChainReaders.{expr_chain_at, binder_chain_at, arrow_chain_at, codomain_at_place, chains_at}
use Rattle.qtt_grammar.proofs.examples.chains_as_worked.Goals as goal

pub returns : goal.returns
unfolding app_at arrow_at arrow_chain_at atoms_at binder_chain_at bracket_at chains_at codomain_at_place expr_at
    expr_chain_at levels_at named_app_at other_app_at other_atom_at other_expr_at
returns c = record {
  hundred_binders = refl;
  binder_behind_hundred = refl;
  hundredth = refl;
  settled_by_arrow = λ more. refl;
  settled_by_colon = λ more. refl;
  left_open_by_bracket = refl;
  settled_behind_bracket = λ more. refl;
}
