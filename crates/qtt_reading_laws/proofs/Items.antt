-- What the readers of items and of whole texts keep.
use Rattle.std.proofs.Common.{ℕ, suc, true, false, List, [], ◌∷◌, Option, Some, None, subst}
use Rattle.qtt_base.specs.declared.place.Span.{Span}
use Rattle.qtt_base.specs.declared.limits.Quantity.TheVariants as quantity
use Rattle.qtt_syntax.specs.declared.expr.Local.{Local}
use Rattle.qtt_syntax.specs.Tree.{Module}
use Rattle.qtt_phrase.specs.Phrase.{opens}
use Rattle.qtt_phrase.specs.Reading.{begins}
use Rattle.qtt_phrase.specs.Reading.Kind.{unexpected}
use Rattle.qtt_phrase.specs.Reading.Read.{got}
use Rattle.qtt_grammar.specs.declared.class.Pass.{Pass}
use Rattle.qtt_grammar.specs.declared.class.Pass.TheVariants.{Counts, Free}
use Rattle.qtt_grammar.specs.declared.lexeme.Lexeme.{Lexeme}
use Rattle.qtt_grammar.specs.Classes.{is_open, is_next, is_close, is_module, is_import, is_data, is_where, is_partial, is_zero, is_left_paren, is_right_paren, is_colon, is_equals, is_name, is_simple, is_big, starts_pattern, starts_item}
use Rattle.qtt_grammar.specs.Limits.{is_full, one_above}
use Rattle.qtt_grammar.specs.Grammar.{of, place, Place, start, Entry, imported, listed, clauses_before, next_place, imports_of, items_of, param_of, con_of, next_con_of, cons_of, family_of, partial_of, erased_of, signature_of, clause_of, second, import_of, module_of, IsText}
use Rattle.qtt_grammar.specs.Readers.{LevelReader, next_at, starts_equation, param_at, params_at, con_at, next_con_at, more_cons_at, cons_at, family_at, partial_at, erased_at, signing_at, clause_patterns_at, equation_at, clause_at, defining_at, item_at, import_at, entry_at, entries_at, module_at, levels_at, text_at}
use Rattle.qtt_grammar.proofs.Texts.{text_found, text_read}
use Rattle.qtt_reading_laws.specs.Standing.{Each, Shape_stands, Param_stands, Con_stands, Item_stands, Import_stands, Module_stands}
use Rattle.qtt_reading_laws.proofs.Keeping.{Reading, Fair, Kept, Keeps, token, symbol, a_local, opener, chain, ◌andthen◌, making, either, perhaps, counted, capped_or, up_to}
use Rattle.qtt_reading_laws.proofs.Levels.{Any, a_zero, Level_keeps, levels}

module _ (P : Span → Type 0) where
  abbrev Entry_stands : Entry → Type 0
  Entry_stands (imported i) = Import_stands P i
  Entry_stands (listed i) = Item_stands P i

  imports_stand : (es : List Entry) → Each Entry_stands es → Each (Import_stands P) (imports_of es)
  imports_stand [] e = tt
  imports_stand (imported i ∷ more) e = (e.0, imports_stand more e.1)
  imports_stand (listed i ∷ more) e = imports_stand more e.1

  items_stand : (es : List Entry) → Each Entry_stands es → Each (Item_stands P) (items_of es)
  items_stand [] e = tt
  items_stand (imported i ∷ more) e = items_stand more e.1
  items_stand (listed i ∷ more) e = (e.0, items_stand more e.1)

  a_next : Keeps P next_at next_at Any
  a_next = perhaps P {R = Any {A = Option Span}} (of is_next) None tt (making P Some (λ s r. tt) (symbol P is_next))

  module _ (pass : Pass) (T L T2 L2 : LevelReader) (top : Level_keeps P T T2) (inner : Level_keeps P L L2) where
    a_param : Keeps P (param_at pass T L) (param_at Free T2 L2) (Param_stands P)
    unfolding param_at
    a_param = making P param_of (λ c r. (r.1.1.1.1.0, r.0))
        (◌andthen◌ P (opener P true is_left_paren)
        (◌andthen◌ P (a_zero P) (◌andthen◌ P (a_local P is_simple)
        (◌andthen◌ P (symbol P is_colon) (◌andthen◌ P (inner.expr false) (symbol P is_right_paren))))))

    pub params : (n : ℕ) → Keeps P (params_at pass T L n) (params_at Free T2 L2 n) (Each (Param_stands P))
    unfolding params_at
    params n = counted P (λ n _. suc n) (of is_left_paren)
        (λ m. up_to P pass quantity.Parts m (of is_left_paren) (λ _. unexpected) a_param) n

    a_con : Keeps P (con_at pass T L) (con_at Free T2 L2) (Con_stands P)
    unfolding con_at
    a_con = making P con_of (λ c r. (r.1.1, r.0))
        (◌andthen◌ P (a_local P is_big) (◌andthen◌ P (symbol P is_colon) top.typing))

    next_con : (n : ℕ) → Keeps P (next_con_at pass T L n) (next_con_at Free T2 L2 n) (Con_stands P)
    unfolding next_con_at
    next_con n = making P next_con_of (λ c r. r.1)
        (◌andthen◌ P (symbol P is_next) (up_to P pass quantity.Constructors n (of is_big) (λ _. unexpected) a_con))

    more_cons : (n : ℕ) → Keeps P (more_cons_at pass T L n) (more_cons_at Free T2 L2 n) (Each (Con_stands P))
    unfolding more_cons_at
    more_cons n = counted P (λ n _. suc n) (of is_next) next_con n

    cons : Keeps P (cons_at pass T L) (cons_at Free T2 L2) (Each (Con_stands P))
    unfolding cons_at
    cons = perhaps P (of is_big) [] tt (making P cons_of (λ c r. r) (◌andthen◌ P a_con (more_cons 1)))

    a_family : Keeps P (family_at pass T L) (family_at Free T2 L2) (Item_stands P)
    unfolding family_at
    a_family = making P family_of (λ c r. (r.1.0, r.1.1.0, r.1.1.1.1.0, r.1.1.1.1.1.1.1.0, r.0))
        (◌andthen◌ P (symbol P is_data)
        (◌andthen◌ P (a_local P is_big)
        (◌andthen◌ P (params 0)
        (◌andthen◌ P (symbol P is_colon)
        (◌andthen◌ P (top.expr false)
        (◌andthen◌ P (symbol P is_where)
        (◌andthen◌ P (symbol P is_open) (◌andthen◌ P cons (symbol P is_close)))))))))

    pub a_partial : Keeps P (partial_at pass T L) (partial_at Free T2 L2) (Item_stands P)
    unfolding partial_at
    a_partial = making P partial_of (λ c r. (r.1.1.1.0, r.1.1.1.1.1, r.0))
        (◌andthen◌ P (symbol P is_partial)
        (◌andthen◌ P a_next (◌andthen◌ P (a_zero P)
        (◌andthen◌ P (a_local P is_simple) (◌andthen◌ P (symbol P is_colon) top.typing)))))

    pub an_erased : Keeps P (erased_at pass T L) (erased_at Free T2 L2) (Item_stands P)
    unfolding erased_at
    an_erased = making P erased_of (λ c r. (r.1.0, r.1.1.1, r.0))
        (◌andthen◌ P (symbol P is_zero)
        (◌andthen◌ P (a_local P is_simple) (◌andthen◌ P (symbol P is_colon) top.typing)))

    signing : (n : Local) → P n.span → Keeps P (signing_at pass T L n) (signing_at Free T2 L2 n) (Item_stands P)
    unfolding signing_at
    signing n h = making P (signature_of n) (λ c r. (h, r.1, h)) (◌andthen◌ P (symbol P is_colon) top.typing)

    clause_patterns : (n : ℕ) →
        Keeps P (clause_patterns_at pass T L n) (clause_patterns_at Free T2 L2 n) (Each (Shape_stands P))
    unfolding clause_patterns_at
    clause_patterns n = counted P (λ n _. suc n) (of starts_pattern)
        (λ m. up_to P pass quantity.Parts m T.starts_pattern T.bad_pattern top.pattern) n

    equation : (n : Local) → P n.span → Keeps P (equation_at pass T L n) (equation_at Free T2 L2 n) (Item_stands P)
    unfolding equation_at
    equation n h = making P (clause_of n) (λ c r. (r.0, r.1.1, h))
        (◌andthen◌ P (clause_patterns 0) (◌andthen◌ P (symbol P is_equals) (top.expr true)))

    a_clause : (at : Place) (n : Local) → P n.span →
        Keeps P (clause_at pass T L at n) (clause_at Free T2 L2 at n) (Item_stands P)
    unfolding clause_at
    a_clause at n h = capped_or P (is_full pass quantity.Clauses (clauses_before at n.name)) (of starts_equation)
        (λ _. unexpected) (λ _. one_above quantity.Clauses n.span) (λ x f. h) (equation n h)

    pub defining : (at : Place) → Keeps P (defining_at pass T L at) (defining_at Free T2 L2 at) (Item_stands P)
    unfolding defining_at
    defining at = making P second (λ c r. r.1)
        (chain P (a_local P is_simple) (λ n h. either P (begins (of is_colon)) (signing n h) (a_clause at n h)))

    an_item : (at : Place) → Keeps P (item_at pass T L at) (item_at Free T2 L2 at) (Item_stands P)
    unfolding item_at
    an_item at = either P (begins (of is_data)) a_family
        (either P (begins (of is_partial)) a_partial (either P (begins (of is_zero)) an_erased (defining at)))

    an_import : (at : Place) → Keeps P (import_at pass T L at) (import_at Free T2 L2 at) Entry_stands
    unfolding import_at
    an_import at = making P import_of (λ c r. r.0)
        (◌andthen◌ P {R = P} (token P (opens at.at_imports (of is_import)) place (λ x f. f.0)) (a_local P is_name))

    an_entry : (at : Place) → Keeps P (entry_at pass T L at) (entry_at Free T2 L2 at) Entry_stands
    unfolding entry_at
    an_entry at = making P second (λ c r. r.1)
        (◌andthen◌ P (symbol P is_next)
        (either P {R = Entry_stands} (begins (of is_import)) (an_import at)
        (making P {S = Entry_stands} listed (λ i r. r)
        (up_to P pass quantity.Items at.items (of starts_item) (λ _. unexpected) (an_item at)))))

    entries : (at : Place) → Keeps P (entries_at pass T L at) (entries_at Free T2 L2 at) (Each Entry_stands)
    unfolding entries_at
    entries at = counted P next_place (of is_next) an_entry at

    a_module : Keeps P (module_at pass T L) (module_at Free T2 L2) (Module_stands P)
    unfolding module_at
    a_module = making P module_of
        (λ c r. (r.1.0, r.1.1.0, imports_stand c.1.1.1.0 r.1.1.1.0, items_stand c.1.1.1.0 r.1.1.1.0))
        (◌andthen◌ P (symbol P is_open)
        (◌andthen◌ P (symbol P is_module)
        (◌andthen◌ P (a_local P is_name) (◌andthen◌ P (entries start) (symbol P is_close)))))

  pub a_text : (pass : Pass) → Keeps P (text_at pass) (text_at Free) (Module_stands P)
  unfolding text_at
  a_text pass = a_module pass (levels_at pass 200) (levels_at pass 199) (levels_at Free 200) (levels_at Free 199)
      (levels P pass 200) (levels P pass 199)

-- ---- a text is one also where nothing is counted

abbrev Anywhere : Span → Type 0
Anywhere s = Unit {0}

fair_anywhere : (ls : List Lexeme) → Each (Fair Anywhere) ls
fair_anywhere [] = tt
fair_anywhere (x ∷ ls) = ((tt, tt), fair_anywhere ls)

pub text_free : (ls : List Lexeme) (t : Module) → IsText Counts ls t None → IsText Free ls t None
text_free ls t m =
    let k : Kept Anywhere (Module_stands Anywhere) (got t []) (text_at Free ls) =
    subst (λ (r : Reading Module). Kept Anywhere (Module_stands Anywhere) r (text_at Free ls)) (text_read Counts ls t m)
    ((a_text Anywhere Counts).at ls (fair_anywhere ls)) in
    text_found Free ls t k.0
