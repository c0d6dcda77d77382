use lib.Utf8.{encode}
use Rattle.std.specs.Prelude.{◌++◌, refl, codes}
use Rattle.std.specs.Str.{chars, is_utf8}
use Rattle.std.specs.Str.Lossy.{utf8_valid_len}
use Rattle.qtt_grammar.specs.ChainReaders.{pi_chain_at, codomain_at_place, arrow_chain_at, binder_chain_at, expr_chain_at, implicit_chain_at, typing_chain_at, chains_at, item_chain_at, entry_chain_at, module_chain_at, text_chain_at}
use Rattle.qtt_grammar.specs.Readers.{mark_at, typed_at, bracket_at, other_atom_at, atom_at, atoms_at, the_at, named_app_at, other_app_at, app_at, arrow_at, pi_at, other_expr_at, expr_at, implicit_at, typing_at, levels_at, signing_at, clause_patterns_at, equation_at, clause_at, defining_at, item_at, import_at, entry_at, entries_at, module_at, text_at}
use Rattle.qtt_reading_laws.specs.Examples.{header, ended, header_tree}
use Rattle.qtt_reading_laws.proofs.Computed.{header_tokens, header_lexed, header_laid, beyond}
use Rattle.qtt_reading_laws.proofs.Outcomes.{tree_read, first_read}
use Rattle.qtt_reading_laws.proofs.Printing.{parsed_again}
use Rattle.qtt_reading_laws.proofs.examples.readings_as_worked.Goals as goal

pub returns : goal.returns
unfolding app_at arrow_at arrow_chain_at atom_at atoms_at binder_chain_at bracket_at chains_at chars clause_at encode
    is_utf8 utf8_valid_len
    clause_patterns_at codomain_at_place defining_at entries_at entry_at entry_chain_at equation_at expr_at
    expr_chain_at implicit_at implicit_chain_at import_at item_at item_chain_at levels_at mark_at module_at
    module_chain_at named_app_at other_app_at other_atom_at other_expr_at pi_at pi_chain_at signing_at text_at
    text_chain_at the_at typed_at typing_at typing_chain_at
returns c = record {
  header_alone = tree_read _ _ refl;
  type_1 = tree_read _ _ refl;
  type_too_great = first_read _ _ refl;
  wants_type = first_read _ _ refl;
  arrow_alone = first_read _ _ refl;
  level_201 = first_read _ _ refl;
  printed_again =
      parsed_again (codes "module Main") header_tokens (header ++ ended 12) header_tree header_lexed header_laid refl;
  beyond_the_end = λ h. beyond h.before h.behind h.whole h.col;
}
