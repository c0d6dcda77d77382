-- The text, read by computing.
use Rattle.std.proofs.Common.{◌≡◌, ℕ, List, [], ◌∷◌, map, codes, Ok, refl}
use Rattle.std.specs.Prelude.{⊤, false}
use Rattle.std.specs.Char.{encode_utf8}
use Rattle.std.specs.Str.{chars, is_utf8}
use Rattle.std.specs.Str.Lossy.{utf8_valid_len}
use Rattle.ucd_table.specs.Rows.{in_ranges}
use Rattle.ucd_derived.specs.XidStartRanges.{xid_start_ranges}
use Rattle.ucd_derived.specs.XidContinueRanges.{xid_continue_ranges}
use Rattle.unicode_ident.specs.Ident.{is_xid_start, is_xid_continue}
use Rattle.qtt_usage.specs.Mult.{ω}
use Rattle.qtt_lexer.specs.Lexed.{tokens_from, lexed}
use Rattle.qtt_lexer.specs.Piece.{name_tail, reserved, name_at, hole_at, number_at, quoted, comment_tail, symbol_at, piece_at}
use Rattle.qtt_layout.specs.Rules.{put_from, laid}
use Rattle.qtt_syntax.specs.declared.expr.Mark.TheVariants.{Written}
use Rattle.qtt_syntax.specs.declared.expr.Target.TheVariants.{Unknown}
use Rattle.qtt_syntax.specs.Tree.{Tree, Statement, Module, arguments, statements}
use Rattle.qtt_syntax.specs.Tree.Argument.{argument}
use Rattle.qtt_syntax.specs.Tree.Statement.{bind, run}
use Rattle.qtt_syntax.specs.Tree.Item.{signature, clause}
use Rattle.qtt_syntax.specs.Tree.Module.{module_text}
use Rattle.qtt_grammar.specs.Readers.{mark_at, zero_at, typed_at, binder_at, lambda_at, annotation_at, let_head_at, letting_at, line_at, lines_at, doing_at, bracket_at, other_atom_at, atom_at, atoms_at, brace_at, the_at, named_app_at, other_app_at, app_at, arrow_at, pi_at, other_expr_at, expr_at, let_statement_at, binding_at, statement_at, implicit_at, typing_at, levels_at, signing_at, clause_patterns_at, equation_at, clause_at, defining_at, item_at, import_at, entry_at, entries_at, module_at, text_at}
use Rattle.qtt_grammar.specs.ChainReaders.{pi_chain_at, codomain_at_place, arrow_chain_at, binder_chain_at, expr_chain_at, implicit_chain_at, typing_chain_at, chains_at, item_chain_at, entry_chain_at, module_chain_at, text_chain_at}
use Rattle.qtt_graph.specs.Rows.{M}
use Rattle.qtt_load.specs.Reading.{tree_of_text, tree_of_module}
use Rattle.qtt_worked.specs.Handle.{text, place}

-- ---- its tree
abbrev name : List ℕ → ℕ → ℕ → ℕ → Tree
name n l c k = Tree.name (record { path = n; target = Unknown; span = place l c k })

abbrev call : List ℕ → List Tree → ℕ → ℕ → ℕ → Tree
call f es l c k = Tree.apply (name f l c k) (arguments (map (argument Written) es)) (place l c k)

abbrev string : List ℕ → ℕ → ℕ → Tree
string bytes l c = Tree.text bytes (place l c 3)

abbrev bound_to : List ℕ → ℕ → Tree → Statement
bound_to n l e = bind (record { name = n; span = place l 3 1 }) e

abbrev pub tree : Module
tree = module_text (place 1 1 6) M (place 1 8 4) [] (
    signature false ω (codes "main") (place 2 1 4) (call (codes "IO") (name (codes "Unit") 2 11 4 ∷ []) 2 8 2)
    (place 2 1 4)
    ∷ clause (codes "main") [] (Tree.doing (statements (
    bound_to (codes "h") 4 (call (codes "open") (string (codes "a") 4 13 ∷ []) 4 8 4)
    ∷ bound_to (codes "k") 5 (call (codes "write") (name (codes "h") 5 14 1 ∷ string (codes "x") 5 16 ∷ []) 5 8 5)
    ∷ run (call (codes "close") (name (codes "k") 6 9 1 ∷ []) 6 3 5) (place 6 3 5) ∷ [])) (place 3 8 2)) (place 3 1 4)
    ∷ [])

-- ---- what computes it
on_characters : ⊤
unfolding is_xid_start is_xid_continue in_ranges xid_start_ranges xid_continue_ranges utf8_valid_len chars is_utf8
    encode_utf8
on_characters = tt

unfoldable pub on_tokens : ⊤
unfolding on_characters lexed tokens_from piece_at name_at name_tail reserved hole_at number_at quoted comment_tail
    symbol_at laid put_from
on_tokens = tt

unfoldable pub on_trees : ⊤
unfolding mark_at zero_at typed_at binder_at lambda_at annotation_at let_head_at letting_at line_at lines_at doing_at
    bracket_at other_atom_at atom_at atoms_at brace_at the_at named_app_at other_app_at app_at arrow_at pi_at
    other_expr_at expr_at let_statement_at binding_at statement_at implicit_at typing_at levels_at signing_at
    clause_patterns_at equation_at clause_at defining_at item_at import_at entry_at entries_at module_at text_at
    pi_chain_at codomain_at_place arrow_chain_at binder_chain_at expr_chain_at implicit_chain_at typing_chain_at
    chains_at item_chain_at entry_chain_at module_chain_at text_chain_at
on_trees = tt

pub is_read : tree_of_module M text ≡ Ok tree
unfolding on_tokens on_trees tree_of_text tree_of_module
is_read = refl
