-- The faults of names in items are kept, and so in modules.
use Rattle.std.proofs.Common.{◌≡◌, ℕ, suc, ◌+◌, List, [], ◌∷◌, Option, Some, None, Ok, Err, ap, subst}
use Rattle.qtt_base.specs.declared.place.Span.{Span}
use Rattle.qtt_lexer.specs.Lexed.{lexed}
use Rattle.qtt_lexer.specs.declared.token.Token.{Token}
use Rattle.qtt_layout.specs.Laws.{tokens_in, kept}
use Rattle.qtt_layout.specs.declared.laid.Laid.{Laid}
use Rattle.qtt_syntax.specs.Tree.{Shape, Param, Con, Item, Module, shapes}
use Rattle.qtt_syntax.specs.Tree.Param.{param}
use Rattle.qtt_syntax.specs.Tree.Con.{con}
use Rattle.qtt_syntax.specs.Tree.Item.{family, signature, clause}
use Rattle.qtt_syntax.specs.Tree.Module.{module_text}
use Rattle.qtt_phrase.specs.Reading.{Read}
use Rattle.qtt_phrase.specs.Reading.Read.{got, bad, over}
use Rattle.qtt_grammar.specs.declared.class.Pass.TheVariants.{Counts}
use Rattle.qtt_grammar.specs.declared.lexeme.Lexeme.{Lexeme}
use Rattle.qtt_grammar.specs.declared.stop.Excess.{Excess}
use Rattle.qtt_grammar.specs.Grammar.{Place, start, next_place, IsText}
use Rattle.qtt_grammar.specs.Grammar.Entry.{listed}
use Rattle.qtt_grammar.specs.Joined.{outcome_of, read_whole}
use Rattle.qtt_grammar.specs.Lexeme.{lexemes}
use Rattle.qtt_grammar.specs.Outcome.{HasOutcome}
use Rattle.qtt_grammar.specs.Parsed.{whole, parsed}
use Rattle.qtt_grammar.proofs.Outcomes.{outcome_is_read}
use Rattle.qtt_names.specs.Answer as names
use Rattle.qtt_names.specs.Answer.{Answer}
use Rattle.qtt_names.specs.Filled.{Names, filled}
use Rattle.qtt_names.specs.InTurn.{in_turn}
use Rattle.qtt_names.specs.Patterns.{behind_shape, filled_shape}
use Rattle.qtt_names.specs.Resolved.{Before, at_start, tail_hole, new_hole, if_new, new_item, new_clause, goes_on, is_definition, filled_param, behind_param, filled_params, param_names, filled_chain, filled_con, behind_con, filled_cons, filled_patterns, variables_in, filled_item, behind, filled_items, resolved}
use Rattle.qtt_names.specs.Scope.{Scope}
use Rattle.qtt_names.specs.Target.{own_item, look_up}
use Rattle.qtt_names.specs.declared.scope.OwnItem.{OwnItem}
use Rattle.qtt_reprint.proofs.Again.{formed_module}
use Rattle.qtt_reprint.proofs.FairTexts.{wild, fair_text}
use Rattle.qtt_reprint.proofs.Formed as formed
use Rattle.qtt_reprint.proofs.Steps.{Fit}
use Rattle.qtt_fault_laws.specs.Kept.{IsKept}
use Rattle.qtt_fault_laws.proofs.Names.{Spells, named_spells, Keeps, then_keeps, cond_keeps, unbound_kept, duplicate_kept, first_keeps, look_up_keeps}
use Rattle.qtt_fault_laws.proofs.Resolving.{filled_keeps, typing_keeps, chain_keeps, shape_keeps, Hole_spells, tail_spells}

-- one more in turn
turn_keeps : {S A B : Type 0} (each : S → A → Answer B) (next : S → A → S) (s : S) (a : A) (more : List A) →
    Keeps (each s a) → Keeps (in_turn each next (next s a) more) → Keeps (in_turn each next s (a ∷ more))
turn_keeps each next s a more h k =
    then_keeps (each s a) _ h (λ b. then_keeps (in_turn each next (next s a) more) _ k (λ bs. tt))

new_keeps : (o : Option OwnItem) (n : List ℕ) (s : Span) → Spells n → Keeps (if_new o n s)
new_keeps None n s e = tt
new_keeps (Some item) n s e = duplicate_kept n e

hole_keeps : (holes : List (List ℕ)) (o : Option _) → Hole_spells o → Keeps (new_hole holes o)
hole_keeps holes None e = tt
hole_keeps holes (Some h) e = first_keeps holes h.name h.span e

clause_keeps : (s : Scope) (k : ℕ) (last : Option (List ℕ)) (groups : List (List ℕ)) (n : List ℕ) (span : Span) →
    Spells n → Keeps (new_clause s k last groups n span)
clause_keeps s k last groups n span e =
    cond_keeps (is_definition (own_item s k n)) _ _
    (cond_keeps (goes_on last n) _ _ tt (first_keeps groups n span e)) (unbound_kept n e)

module _ (s : Scope) where
  found : ℕ → Names
  found k = look_up s k

  params_keep : (k i n : ℕ) (ps : List Param) → formed.Params_formed Fit Counts i n ps → (Γ : List (List ℕ)) →
      Keeps (filled_params (look_up s k) Γ ps)
  params_keep k i n [] f Γ = tt
  params_keep k i n (param m x t span ∷ more) f Γ =
      turn_keeps (filled_param (look_up s k)) behind_param Γ (param m x t span) more
      (then_keeps (filled (look_up s k) Γ t) _ (filled_keeps (look_up s k) (look_up_keeps s k) t f.1.0.1.1.0.0 Γ)
      (λ u. tt))
      (params_keep k i (suc n) more f.1.1 (behind_param Γ (param m x t span)))

  con_keeps : (j l : ℕ) (Γ : List (List ℕ)) (k : ℕ) (c : Con) → formed.Con_formed Fit Counts l c →
      Keeps (filled_con s (look_up s j) Γ k c)
  con_keeps j l Γ k (con n t span) f =
      then_keeps (new_item s k n span) _ (new_keeps (own_item s k n) n span (named_spells n f.0.1))
      (λ u. then_keeps (filled (look_up s j) Γ t) _ (typing_keeps (look_up s j) (look_up_keeps s j) t f.1.0 Γ)
      (λ v. tt))

  more_cons_keep : (j l : ℕ) (Γ : List (List ℕ)) (k n : ℕ) (cs : List Con) → formed.More_cons_formed Fit Counts l n cs →
      Keeps (filled_cons s (look_up s j) Γ k cs)
  more_cons_keep j l Γ k n [] f = tt
  more_cons_keep j l Γ k n (c ∷ more) f =
      turn_keeps (filled_con s (look_up s j) Γ) behind_con k c more (con_keeps j l Γ k c f.1.0)
      (more_cons_keep j l Γ (k + 1) (suc n) more f.1.1)

  cons_keep : (j l : ℕ) (Γ : List (List ℕ)) (k : ℕ) (cs : List Con) → formed.Cons_formed Fit Counts l cs →
      Keeps (filled_cons s (look_up s j) Γ k cs)
  cons_keep j l Γ k [] f = tt
  cons_keep j l Γ k (c ∷ more) f =
      turn_keeps (filled_con s (look_up s j) Γ) behind_con k c more (con_keeps j l Γ k c f.0)
      (more_cons_keep j l Γ (k + 1) 1 more f.1)

  patterns_keep : (k n : ℕ) (ps : List Shape) → formed.Shapes_formed Fit Counts n (shapes ps) →
      (Γ before : List (List ℕ)) → Keeps (filled_patterns (look_up s k) Γ before ps)
  patterns_keep k n [] f Γ before = tt
  patterns_keep k n (p ∷ more) f Γ before =
      turn_keeps (filled_shape (look_up s k) Γ) behind_shape before p more
      (shape_keeps (look_up s k) (look_up_keeps s k) p f.1.0 Γ before)
      (patterns_keep k (suc n) more f.1.1 Γ (behind_shape before p))

  item_keeps : (l i : ℕ) (place : Place) (before : Before) (t : Item) → formed.Item_formed Fit Counts l i place t →
      Keeps (filled_item s before t)
  unfolding filled_item
  item_keeps l i place before (family n ns ps t cs span) f =
      let k = before.items in
      then_keeps (new_item s k n ns) _ (new_keeps (own_item s k n) n ns (named_spells n f.0.1))
      (λ u. then_keeps (filled_params (look_up s k) [] ps) _ (params_keep k i 0 ps f.1.0 [])
      (λ v. then_keeps (filled_chain (look_up s k) (param_names ps) t) _
      (chain_keeps (look_up s k) (look_up_keeps s k) t f.1.1.0.0.0 (param_names ps))
      (λ w. then_keeps (filled_cons s (look_up s (k + 1)) (param_names ps) (k + 1) cs) _
      (cons_keep (k + 1) l (param_names ps) (k + 1) cs f.1.1.1) (λ x. tt))))
  item_keeps l i place before (signature p m n ns t span) f =
      let k = before.items in
      then_keeps (new_item s k n ns) _ (new_keeps (own_item s k n) n ns (named_spells n f.1.0.1))
      (λ u. then_keeps (filled (look_up s k) [] t) _ (typing_keeps (look_up s k) (look_up_keeps s k) t f.1.1.0 [])
      (λ v. tt))
  item_keeps l i place before (clause n ps side span) f =
      let k = before.items in
      then_keeps (new_clause s k before.last before.groups n span) _
      (clause_keeps s k before.last before.groups n span (named_spells n f.0.1))
      (λ u. then_keeps (filled_patterns (look_up s k) (variables_in ps) [] ps) _
      (patterns_keep k 0 ps f.1.1.0.0 (variables_in ps) [])
      (λ v. then_keeps (filled (look_up s k) (variables_in ps) side) _
      (filled_keeps (look_up s k) (look_up_keeps s k) side f.1.1.1.0 (variables_in ps))
      (λ w. then_keeps (new_hole before.holes (tail_hole side)) _
      (hole_keeps before.holes (tail_hole side) (tail_spells side f.1.1.1.0)) (λ x. tt))))

  items_keep : (l i : ℕ) (place : Place) (before : Before) (ts : List Item) →
      formed.Items_formed Fit Counts l i place ts → Keeps (filled_items s before ts)
  items_keep l i place before [] f = tt
  items_keep l i place before (t ∷ more) f =
      turn_keeps (filled_item s) behind before t more (item_keeps l i place before t f.1.0)
      (items_keep l i (next_place place (listed t)) (behind before t) more f.1.1)

  module_keeps : (t : Module) → formed.Module_formed Fit Counts 200 199 t → Keeps (resolved s t)
  module_keeps (module_text h n ns is items) f =
      then_keeps (filled_items s at_start items) _ (items_keep 200 199 start at_start items f.1.1) (λ u. tt)

-- ---- the tree of a text

whole_got : (r : Read Lexeme Excess Module) (t : Module) → whole r ≡ Ok t → r ≡ got t []
whole_got (got u []) t e = (let h : u ≡ t = (let g = e in cc) in ap (λ (v : Module). got v []) h)
whole_got (got u (x ∷ ls)) t e = absurd (let g = e in cc)
whole_got (bad k ls) t e = absurd (let g = e in cc)
whole_got (over f ls) t e = absurd (let g = e in cc)

parsed_text : (ms : List Laid) (t : Module) → parsed ms ≡ Ok t → IsText Counts (lexemes ms) t None
parsed_text ms t e =
    let ls = lexemes ms in
    let h : HasOutcome ls (outcome_of (got t [])) =
    subst (λ (r : Read Lexeme Excess Module). HasOutcome ls (outcome_of r)) (whole_got (read_whole ls) t e)
    (outcome_is_read ls) in
    h.0

tree_formed : (text : List ℕ) (ts : List Token) (ms : List Laid) (t : Module) → lexed text ≡ Ok ts →
    tokens_in ms ≡ kept ts → parsed ms ≡ Ok t → formed.Module_formed Fit Counts 200 199 t
unfolding IsText
tree_formed text ts ms t l k e =
    formed_module Fit wild Counts 200 199 (lexemes ms) t (fair_text text ts ms l k) (parsed_text ms t e)

pub names_kept : (text : List ℕ) (ts : List Token) (ms : List Laid) (t : Module) (s : Scope) (m : names.Mistake) →
    lexed text ≡ Ok ts → tokens_in ms ≡ kept ts → parsed ms ≡ Ok t → resolved s t ≡ Err m →
    IsKept m.kind m.word m.count
names_kept text ts ms t s m l k e r = subst Keeps r (module_keeps s t (tree_formed text ts ms t l k e))
