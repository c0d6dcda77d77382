-- Modules are said by their printed words.
use Rattle.std.proofs.Common.{◌≡◌, ℕ, suc, ◌≤◌, pos, Bool, true, false, List, [], ◌∷◌, ◌++◌, map, None, refl, sym, ap, ◌∙◌, subst, append_assoc, codes}
use Rattle.std.specs.Fmt.{digits}
use Rattle.qtt_base.specs.declared.place.Span.{Span}
use Rattle.qtt_base.specs.declared.limits.Quantity.TheVariants as quantity
use Rattle.qtt_usage.specs.declared.mult.Mult.{Mult}
use Rattle.qtt_usage.specs.declared.mult.Mult.TheVariants as mult
use Rattle.qtt_syntax.specs.declared.expr.Local.{Local}
use Rattle.qtt_syntax.specs.declared.module.Import.{Import}
use Rattle.qtt_syntax.specs.Tree.{Tree, Shape, Param, Con, Item, Module, shapes}
use Rattle.qtt_syntax.specs.Tree.Param.{param}
use Rattle.qtt_syntax.specs.Tree.Con.{con}
use Rattle.qtt_syntax.specs.Tree.Item.{family, signature, clause}
use Rattle.qtt_syntax.specs.Tree.Module.{module_text}
use Rattle.qtt_syntax.specs.Words.{Word, Printed}
use Rattle.qtt_syntax.specs.Printing as print
use Rattle.qtt_syntax.specs.Printing.{parted, ends_open}
use Rattle.qtt_phrase.specs.Phrase.{◌then◌, Token, Making, Run, Above, opens}
use Rattle.qtt_grammar.specs.declared.class.Class.TheVariants as class
use Rattle.qtt_grammar.specs.declared.class.Pass.{Pass}
use Rattle.qtt_grammar.specs.Classes.{is_open, is_next, is_close, is_module, is_import, is_data, is_where, is_partial, is_zero, is_left_paren, is_right_paren, is_colon, is_equals, is_name, is_simple, is_big}
use Rattle.qtt_grammar.specs.declared.lexeme.Lexeme.{Lexeme}
use Rattle.qtt_grammar.specs.Limits.{is_full, one_above}
use Rattle.qtt_grammar.specs.Grammar.{Says, of, place, Level, Symbol, IsZero, mult_of, Counted, Up_to, Place, Entry, start, clauses_before, next_place, param_of, con_of, next_con_of, cons_of, family_of, partial_of, erased_of, signature_of, clause_of, second, import_of, imports_of, items_of, module_of, IsParam, IsCon, Cons, Equation, IsItem, IsEntry, IsModule, Shape_of}
use Rattle.qtt_grammar.specs.Grammar.Entry.{imported, listed}
use Rattle.qtt_reprint.specs.Sketch.{nowhere, named_class, sketched}
use Rattle.qtt_reprint.specs.Unplaced.{bare, bare_local, bare_shape, bare_shapes, bare_param, bare_con, bare_item, bare_import, bare_module}
use Rattle.qtt_reprint.proofs.Prints.{Prints, token, chain, ◌then_prints◌, made, first_of, second_of, nothing, something, run_none, run_more}
use Rattle.qtt_reprint.proofs.Tokens.{symbol, opening, local_named, locally}
use Rattle.qtt_reprint.proofs.Saying.{mark, named, numeral, say, say_mark, say_typed, say_shapes, sketched-append, sketched-parted, sketched-marked, sketched-binding, says, says_shapes}
use Rattle.qtt_reprint.proofs.Formed as formed
use Rattle.qtt_reprint.proofs.Formed.{need, need_shapes}
use Rattle.qtt_reprint.proofs.Forms.{Same}
use Rattle.qtt_reprint.proofs.Shown as shown
use Rattle.qtt_reprint.proofs.Shown.{may_at, inner_at, up_to_case, up_to_words, plain_ends}
use Rattle.qtt_reprint.proofs.ShownPatterns as patterns

-- ---- what items say

abbrev pub say_params : List Param → List Lexeme
say_params [] = []
say_params (param m n t s ∷ more) = say_typed m n (say t) ++ say_params more

abbrev pub say_con : Con → List Lexeme
say_con (con n t s) = named n ∷ mark class.Colon ∷ say t

abbrev pub say_more : List Con → List Lexeme
say_more [] = []
say_more (k ∷ more) = (mark class.Next ∷ say_con k) ++ say_more more

abbrev pub say_cons : List Con → List Lexeme
say_cons [] = []
say_cons (k ∷ more) = say_con k ++ say_more more

abbrev pub say_partial : Bool → List Lexeme
say_partial true = mark class.Partial ∷ []
say_partial false = []

abbrev pub say_item : Item → List Lexeme
say_item (family n ns ps t cs s) =
    mark class.Data ∷ named n ∷
    (say_params ps ++ mark class.Colon ∷
    (say t ++ mark class.Where ∷ mark class.Open ∷ (say_cons cs ++ mark class.Close ∷ [])))
say_item (signature p m n ns t s) = say_partial p ++ (say_mark m ++ named n ∷ mark class.Colon ∷ say t)
say_item (clause n ps side s) = named n ∷ (say_shapes (shapes ps) ++ mark class.Equals ∷ say side)

abbrev pub say_imports : List Import → List Lexeme
say_imports [] = []
say_imports (i ∷ more) = mark class.Next ∷ mark class.Import ∷ named i.name ∷ say_imports more

abbrev pub say_items : List Item → List Lexeme
say_items [] = []
say_items (i ∷ more) = (mark class.Next ∷ say_item i) ++ say_items more

abbrev pub say_module : Module → List Lexeme
say_module (module_text s n ns is ts) =
    mark class.Open ∷ mark class.Module ∷ named n ∷ ((say_imports is ++ say_items ts) ++ mark class.Close ∷ [])

says_params : (ps : List Param) → sketched (print.params ps) ≡ say_params ps
says_params [] = refl
says_params (param m n t s ∷ more) =
    sketched-append (print.in_brackets (print.binding m n (print.expr 0 t))) (print.params more) ∙
    rw (sketched-binding m n (print.expr 0 t) (print.key (codes ")") ∷ []) (say t) (says 0 t), says_params more)
    refl

says_con : (k : Con) → sketched (print.con_words k) ≡ say_con k
says_con (con n t s) = ap (λ (v : List Lexeme). named n ∷ mark class.Colon ∷ v) (says 2 t)

says_more : (cs : List Con) → sketched (print.more_cons cs) ≡ say_more cs
says_more [] = refl
says_more (k ∷ more) = ap (λ (v : List Lexeme). mark class.Next ∷ v)
    (sketched-append (print.con_words k) (print.more_cons more) ∙ rw (says_con k, says_more more) refl)

says_cons : (cs : List Con) → sketched (print.cons cs) ≡ say_cons cs
says_cons [] = refl
says_cons (k ∷ more) = sketched-append (print.con_words k) (print.more_cons more) ∙ rw (says_con k, says_more more) refl

family_words : (n : List ℕ) (ps ts cs : List Printed) (b : Bool) (us vs ws : List Lexeme) → sketched ps ≡ us →
    sketched ts ≡ vs → sketched cs ≡ ws →
    sketched (print.key (codes "data") ∷ Printed.blank ∷ Printed.word (Word.named n) ∷
    (ps ++ Printed.blank ∷ print.key (codes ":") ∷ Printed.blank ∷
    (ts ++ (parted 0 b ++ print.key (codes "where") ∷ Printed.opened ∷ (cs ++ Printed.closed ∷ []))))) ≡ mark
    class.Data ∷ named n ∷
    (us ++ mark class.Colon ∷ (vs ++ mark class.Where ∷ mark class.Open ∷ (ws ++ mark class.Close ∷ [])))
family_words n ps ts cs b us vs ws e f g = simp (sketched-append, sketched-parted, e, f, g)

signature_words : (p : Bool) (m : Mult) (n : List ℕ) (ts : List Printed) (vs : List Lexeme) → sketched ts ≡ vs →
    sketched (print.partially p ++ print.binding m n ts) ≡ say_partial p ++
    (say_mark m ++ named n ∷ mark class.Colon ∷ vs)
signature_words true m n ts vs e = simp (sketched-append, sketched-marked, e)
signature_words false m n ts vs e = simp (sketched-append, sketched-marked, e)

clause_words : (n : List ℕ) (ps ts : List Printed) (us vs : List Lexeme) → sketched ps ≡ us → sketched ts ≡ vs →
    sketched (Printed.word (Word.named n) ∷ (ps ++ Printed.blank ∷ print.key (codes "=") ∷ Printed.blank ∷ ts)) ≡
    named n ∷ (us ++ mark class.Equals ∷ vs)
clause_words n ps ts us vs e f = simp (sketched-append, e, f)

says_item : (i : Item) → sketched (print.item i) ≡ say_item i
says_item (family n ns ps t cs s) =
    family_words n (print.params ps) (print.expr 0 t) (print.cons cs) (ends_open t) _ _ _ (says_params ps)
    (says 0 t) (says_cons cs)
says_item (signature p m n ns t s) = signature_words p m n (print.expr 0 t) (say t) (says 0 t)
says_item (clause n ps side s) =
    clause_words n (print.patterns (shapes ps)) (print.expr 0 side) _ _ (says_shapes (shapes ps)) (says 0 side)

says_imports : (is : List Import) → sketched (print.imports is) ≡ say_imports is
says_imports [] = refl
says_imports (i ∷ more) =
    ap (λ (v : List Lexeme). mark class.Next ∷ mark class.Import ∷ named i.name ∷ v) (says_imports more)

says_items : (ts : List Item) → sketched (print.items ts) ≡ say_items ts
says_items [] = refl
says_items (i ∷ more) = ap (λ (v : List Lexeme). mark class.Next ∷ v)
    (sketched-append (print.item i) (print.items more) ∙ rw (says_item i, says_items more) refl)

module_parts : (is ts : List Printed) (us vs : List Lexeme) → sketched is ≡ us → sketched ts ≡ vs →
    sketched (is ++ (ts ++ Printed.closed ∷ Printed.line 0 ∷ [])) ≡ (us ++ vs) ++ mark class.Close ∷ []
module_parts is ts us vs e f = simp (sketched-append, append_assoc, e, f)

pub says_module : (m : Module) → sketched (print.module_words m) ≡ say_module m
says_module (module_text s n ns is ts) =
    ap (λ (v : List Lexeme). mark class.Open ∷ mark class.Module ∷ named n ∷ v)
    (module_parts (print.imports is) (print.items ts) _ _ (says_imports is) (says_items ts))

-- ---- values

same_shapes : (l ps : List Shape) → bare_shapes (shapes l) ≡ bare_shapes (shapes ps) →
    map bare_shape l ≡ map bare_shape ps
same_shapes [] [] e = refl
same_shapes [] (p ∷ ps) e = absurd cc
same_shapes (q ∷ l) [] e = absurd cc
same_shapes (q ∷ l) (p ∷ ps) e =
    let rest = same_shapes l ps (let x = e in cc) in
    let head : bare_shape q ≡ bare_shape p = let x = e in cc in
    cc

place_kept : (at : Place) (i : Item) → next_place at (listed (bare_item i)) ≡ next_place at (listed i)
place_kept at (family n ns ps t cs s) = refl
place_kept at (signature p m n ns t s) = refl
place_kept at (clause n ps side s) = refl

next_same : (at : Place) (e : Entry) (a i : Item) → e ≡ listed a → bare_item a ≡ bare_item i →
    next_place at (listed i) ≡ next_place at e
next_same at e a i is same =
    rw is (sym (place_kept at i) ∙ ap (λ (v : Item). next_place at (listed v)) (sym same) ∙ place_kept at a)

first_step : (at : Place) (e : Entry) (j : Import) → e ≡ imported j → at ≡ next_place at e
first_step at e j is = rw is refl

name_of : (m : Local) (n : List ℕ) → bare_local m ≡ local_named n → m.name ≡ n
name_of m n e = ap (λ (v : Local). v.name) e

-- the bare forms of entries: this import or item
abbrev Is_import : Import → Entry → Type 0
Is_import i e = (j : Import) × ((e ≡ imported j) × (bare_import j ≡ bare_import i))

abbrev Is_item : Item → Entry → Type 0
Is_item i e = (a : Item) × ((e ≡ listed a) × (bare_item a ≡ bare_item i))

-- the entries after imports are these
abbrev Are_entries : List Import → List Item → List Entry → Type 0
Are_entries is ts es = (map bare_import (imports_of es) ≡ map bare_import is) ×
    (map bare_item (items_of es) ≡ map bare_item ts)

import_more : (i : Import) (is : List Import) (ts : List Item) (e : Entry) (es : List Entry) → Is_import i e →
    Are_entries is ts es → Are_entries (i ∷ is) ts (e ∷ es)
import_more i is ts e es (j, (f, g)) (h, k) =
    rw f (
      ap (λ (v : Import). v ∷ map bare_import (imports_of es)) g ∙
          ap (λ (v : List Import). bare_import i ∷ v) h,
      k,
    )

item_more : (i : Item) (ts : List Item) (e : Entry) (es : List Entry) → Is_item i e → Are_entries [] ts es →
    Are_entries [] (i ∷ ts) (e ∷ es)
item_more i ts e es (a, (f, g)) (h, k) =
    rw f (h, ap (λ (v : Item). v ∷ map bare_item (items_of es)) g ∙ ap (λ (v : List Item). bare_item i ∷ v) k)

zero_place : Prints (Symbol is_zero) (numeral (pos 0) ∷ []) (λ s. Unit {0})
unfolding digits
zero_place = token is_zero place (numeral (pos 0)) refl (λ x h. tt)

module _ (Fit : Word → Type 0) (pass : Pass) (l i : ℕ) where
  abbrev top : Level
  top = Shape_of pass (may_at l) (inner_at pass l)

  abbrev inner : Level
  inner = Shape_of pass (may_at i) (inner_at pass i)

  zero_mark : (m : Mult) → formed.is_zero_or_many m ≡ true → Prints IsZero (say_mark m) (λ k. k ≡ m)
  unfolding digits
  zero_mark mult.Zero e = something
      (token is_zero (λ x. mult_of x.class) (numeral (pos 0)) refl
      (λ x h. ap (λ (y : Lexeme). mult_of y.class) h))
  zero_mark mult.One e = absurd cc
  zero_mark mult.Many e = nothing mult.Many refl

  expr_words : (d : ℕ) (t : Tree) → formed.Within_levels Fit pass d t →
      Prints ((Shape_of pass (may_at d) (inner_at pass d)).expr false) (say t) (Same t)
  expr_words d t f = (shown.shown Fit pass t f.0.0 d f.1).expr false (plain_ends t f.0.1)

  typing_words : (t : Tree) → formed.Typing_formed Fit pass t × (need t ≤ l) → Prints top.typing (say t) (Same t)
  typing_words t f = patterns.shown_typing Fit pass t f.0 l f.1

  -- ---- families

  param_words : (m : Mult) (n : List ℕ) (t : Tree) (s : Span) → formed.Param_formed Fit pass i (param m n t s) →
      Prints (IsParam pass top inner) (say_typed m n (say t)) (λ q. bare_param q ≡ param m n (bare t) nowhere)
  param_words m n t s f =
      made param_of (opening is_left_paren class.LeftParen refl then_prints zero_mark m f.0 then_prints locally
      is_simple n f.1.0.0 then_prints symbol is_colon class.Colon refl then_prints expr_words i t f.1.1
      then_prints symbol is_right_paren class.RightParen refl) (λ a r. let x = r.1.0 in let y =
      name_of a.1.1.0 n r.1.1.0 in let z = r.1.1.1.1.0 in cc)

  params_words : (n : ℕ) (ps : List Param) → formed.Params_formed Fit pass i n ps →
      Prints (Counted pass quantity.Parts n (IsParam pass top inner)) (say_params ps)
      (λ q. map bare_param q ≡ map bare_param ps)
  params_words n [] f = run_none n refl refl
  params_words n (param m k t s ∷ more) f =
      run_more n refl (up_to_words pass quantity.Parts n (IsParam pass top inner) f.0 (param_words m k t s f.1.0))
      (λ a x. params_words (suc n) more f.1.1)
      (λ a q x y. ap (λ (v : Param). v ∷ map bare_param q) x ∙
      ap (λ (v : List Param). param m k (bare t) nowhere ∷ v) y)

  con_words : (k : Con) → formed.Con_formed Fit pass l k →
      Prints (IsCon pass top inner) (say_con k) (λ c. bare_con c ≡ bare_con k)
  con_words (con n t s) f =
      made con_of (locally is_big n f.0.0 then_prints symbol is_colon class.Colon refl then_prints typing_words t
      f.1) (λ a r. let x = name_of a.0 n r.0 in let y = r.1.1 in cc)

  more_words : (n : ℕ) (cs : List Con) → formed.More_cons_formed Fit pass l n cs →
      Prints (Run (λ _. true) (λ _. true) (λ k _. suc k)
      (λ k. Making next_con_of (Symbol is_next then Up_to pass quantity.Constructors k (IsCon pass top inner))) n)
      (say_more cs) (λ q. map bare_con q ≡ map bare_con cs)
  more_words n [] f = run_none n refl refl
  more_words n (k ∷ more) f =
      run_more n refl (made {S = λ c. bare_con c ≡ bare_con k} next_con_of
      (symbol is_next class.Next refl then_prints up_to_words pass quantity.Constructors n
      (IsCon pass top inner) f.0 (con_words k f.1.0)) (λ a r. r.1)) (λ a x. more_words (suc n) more f.1.1)
      (λ a q x y. ap (λ (v : Con). v ∷ map bare_con q) x ∙ ap (λ (v : List Con). bare_con k ∷ v) y)

  cons_words : (cs : List Con) → formed.Cons_formed Fit pass l cs →
      Prints (Cons pass top inner) (say_cons cs) (λ q. map bare_con q ≡ map bare_con cs)
  cons_words [] f = nothing [] refl
  cons_words (k ∷ more) f =
      something (made cons_of (con_words k f.0 then_prints more_words 1 more f.1)
      (λ a r. ap (λ (v : Con). v ∷ map bare_con a.1) r.0 ∙ ap (λ (v : List Con). bare_con k ∷ v) r.1))

  -- ---- items

  abbrev Item_words : Place → Item → Type 0
  Item_words at t = Prints (IsItem pass top inner at) (say_item t) (λ a. bare_item a ≡ bare_item t)

  family_item : (at : Place) (n : List ℕ) (ns : Span) (ps : List Param) (t : Tree) (cs : List Con) (s : Span) →
      formed.Item_formed Fit pass l i at (family n ns ps t cs s) → Item_words at (family n ns ps t cs s)
  family_item at n ns ps t cs s f =
      first_of (made family_of (symbol is_data class.Data refl then_prints locally is_big n f.0.0 then_prints
      params_words 0 ps f.1.0 then_prints symbol is_colon class.Colon refl then_prints expr_words l t f.1.1.0
      then_prints symbol is_where class.Where refl then_prints symbol is_open class.Open refl then_prints
      cons_words cs f.1.1.1 then_prints symbol is_close class.Close refl)
      (λ a r. let x = name_of a.1.0 n r.1.0 in let y = r.1.1.0 in let z = r.1.1.1.1.0 in
      let u = r.1.1.1.1.1.1.1.0 in cc))

  signature_item : (at : Place) (p : Bool) (m : Mult) (n : List ℕ) (ns : Span) (t : Tree) (s : Span) →
      formed.Item_formed Fit pass l i at (signature p m n ns t s) → Item_words at (signature p m n ns t s)
  signature_item at true m n ns t s f =
      second_of (first_of (made partial_of
      (symbol is_partial class.Partial refl then_prints nothing {R = λ o. Unit {0}} None tt then_prints
      zero_mark m f.0 then_prints locally is_simple n f.1.0.0 then_prints symbol is_colon class.Colon refl
      then_prints typing_words t f.1.1)
      (λ a r. let x = r.1.1.0 in let y = name_of a.1.1.1.0 n r.1.1.1.0 in let z = r.1.1.1.1.1 in cc)))
  signature_item at false mult.Zero n ns t s f =
      second_of (second_of (first_of
      (made erased_of (zero_place then_prints locally is_simple n f.1.0.0 then_prints symbol is_colon
      class.Colon refl then_prints typing_words t f.1.1)
      (λ a r. let y = name_of a.1.0 n r.1.0 in let z = r.1.1.1 in cc))))
  signature_item at false mult.One n ns t s f = absurd (let e = f.0 in cc)
  signature_item at false mult.Many n ns t s f =
      second_of (second_of (second_of
      (made second (chain {S = λ m a. bare_item a ≡ bare_item (signature false mult.Many n ns t s)}
      (locally is_simple n f.1.0.0)
      (λ m r. first_of (made (signature_of m)
      (symbol is_colon class.Colon refl then_prints typing_words t f.1.1)
      (λ a q. let y = name_of m n r in let z = q.1 in cc)))) (λ a r. r.1))))

  equation_words : (m : Local) (n : List ℕ) (ps : List Shape) (side : Tree) (s : Span) → m.name ≡ n →
      formed.Shapes_formed Fit pass 0 (shapes ps) × (need_shapes (shapes ps) ≤ l) →
      formed.Formed Fit pass side × (need side ≤ l) →
      Prints (Equation pass top inner m) (say_shapes (shapes ps) ++ mark class.Equals ∷ say side)
      (λ a. bare_item a ≡ bare_item (clause n ps side s))
  equation_words m n ps side s e f g =
      made (clause_of m) (patterns.shown_shapes Fit pass (shapes ps) 0 f.0 l f.1 then_prints symbol is_equals
      class.Equals refl then_prints (shown.shown Fit pass side g.0 l g.1).expr true (λ h. refl))
      (λ a r. let x = same_shapes a.0 ps r.0 in let y = r.1.1 in cc)

  clause_item : (at : Place) (n : List ℕ) (ps : List Shape) (side : Tree) (s : Span) →
      formed.Item_formed Fit pass l i at (clause n ps side s) → Item_words at (clause n ps side s)
  clause_item at n ps side s f =
      second_of (second_of (second_of
      (made second (chain {S = λ m a. bare_item a ≡ bare_item (clause n ps side s)}
      (locally is_simple n f.0.0)
      (λ m r. second_of (up_to_case (Equation pass top inner m)
      (Above (λ _. one_above quantity.Clauses m.span) (Equation pass top inner m))
      (is_full pass quantity.Clauses (clauses_before at m.name)) (rw (name_of m n r) f.1.0)
      (equation_words m n ps side s (name_of m n r) f.1.1.0 f.1.1.1)))) (λ a r. r.1))))

  item_words : (at : Place) (t : Item) → formed.Item_formed Fit pass l i at t → Item_words at t
  item_words at (family n ns ps t cs s) f = family_item at n ns ps t cs s f
  item_words at (signature p m n ns t s) f = signature_item at p m n ns t s f
  item_words at (clause n ps side s) f = clause_item at n ps side s f

  -- ---- modules

  abbrev Entries : Place → Says (List Entry)
  Entries at = Run (λ _. true) (λ _. true) next_place (IsEntry pass top inner) at

  items_words : (at : Place) (ts : List Item) → formed.Items_formed Fit pass l i at ts →
      Prints (Entries at) (say_items ts) (Are_entries [] ts)
  items_words at [] f = run_none at refl (refl, refl)
  items_words at (t ∷ more) f =
      run_more at refl
      (made {S = Is_item t} second
      (symbol is_next class.Next refl then_prints second_of
      (made {S = Is_item t} listed
      (up_to_words pass quantity.Items at.items (IsItem pass top inner at) f.0 (item_words at t f.1.0))
      (λ a r. (a, (refl, r))))) (λ a r. r.1))
      (λ e r. subst (λ (v : Place). Prints (Entries v) (say_items more) (Are_entries [] more))
      (next_same at e r.0 t r.1.0 r.1.1) (items_words (next_place at (listed t)) more f.1.1))
      (λ e es r q. item_more t more e es r q)

  import_words : (at : Place) (j : Import) → at.at_imports ≡ true → is_name (named_class j.name) ≡ true →
      Prints (IsEntry pass top inner at) (mark class.Next ∷ mark class.Import ∷ named j.name ∷ []) (Is_import j)
  import_words at j e f =
      made second (symbol is_next class.Next refl then_prints first_of
      (made {S = Is_import j} import_of (import_token at e then_prints locally is_name j.name f)
      (λ a r. (record { name = a.1.name; span = a.0 }, (refl, let x = name_of a.1 j.name r.1 in cc)))))
      (λ a r. r.1)
    where
      import_token : (at : Place) → at.at_imports ≡ true →
          Prints (Token (opens at.at_imports (of is_import)) place) (mark class.Import ∷ []) (λ s. Unit {0})
      import_token at e = rw e (opening is_import class.Import refl)

  entries_words : (at : Place) (is : List Import) (ts : List Item) → at.at_imports ≡ true →
      formed.Imports_formed Fit pass is → formed.Items_formed Fit pass l i at ts →
      Prints (Entries at) (say_imports is ++ say_items ts) (Are_entries is ts)
  entries_words at [] ts e f g = items_words at ts g
  entries_words at (j ∷ is) ts e f g =
      run_more at refl (import_words at j e f.0.0)
      (λ v r. subst (λ (w : Place). Prints (Entries w) (say_imports is ++ say_items ts) (Are_entries is ts))
      (first_step at v r.0 r.1.0) (entries_words at is ts e f.1 g))
      (λ v es r q. import_more j is ts v es r q)

  pub module_words : (m : Module) → formed.Module_formed Fit pass l i m →
      Prints (IsModule pass top inner) (say_module m) (λ u. bare_module u ≡ bare_module m)
  module_words (module_text s n ns is ts) f =
      made module_of (symbol is_open class.Open refl then_prints symbol is_module class.Module refl then_prints
      locally is_name n f.0.0 then_prints entries_words start is ts refl f.1.0 f.1.1 then_prints symbol
      is_close class.Close refl)
      (λ a r. let x = name_of a.1.1.0 n r.1.1.0 in let y = r.1.1.1.0.0 in let z = r.1.1.1.0.1 in cc)
