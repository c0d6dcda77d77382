-- The modules that the grammar gives have the forms that it asks.
use Rattle.std.proofs.Common.{◌≡◌, ℕ, suc, ◌≤◌, Bool, true, false, cond, List, [], ◌∷◌, Some, None, refl, ap, arith, codes}
use Rattle.qtt_base.specs.declared.place.Span.{Span}
use Rattle.qtt_base.specs.declared.limits.Quantity.TheVariants as quantity
use Rattle.qtt_usage.specs.declared.mult.Mult.{Mult}
use Rattle.qtt_usage.specs.declared.mult.Mult.TheVariants as mult
use Rattle.qtt_syntax.specs.declared.expr.Local.{Local}
use Rattle.qtt_syntax.specs.Tree.{Tree, Shape, Param, Con, Item, shapes}
use Rattle.qtt_syntax.specs.Tree.Item.{clause}
use Rattle.qtt_syntax.specs.Words.{Word}
use Rattle.qtt_phrase.specs.Phrase.{◌or◌, Above, opens}
use Rattle.qtt_phrase.proofs.Exact.{Among}
use Rattle.qtt_grammar.specs.declared.class.Class.{Class}
use Rattle.qtt_grammar.specs.declared.class.Pass.{Pass}
use Rattle.qtt_grammar.specs.declared.stop.Excess.{Excess}
use Rattle.qtt_grammar.specs.Classes.{is_open, is_next, is_close, is_module, is_import, is_data, is_where, is_partial, is_zero, is_left_paren, is_right_paren, is_colon, is_equals, is_name, is_simple, is_big, is_bound_or_name}
use Rattle.qtt_grammar.specs.declared.lexeme.Lexeme.{Lexeme}
use Rattle.qtt_grammar.specs.Limits.{is_full, one_above}
use Rattle.qtt_grammar.specs.Grammar.{Says, of, place, Level, Symbol, Locally, IsZero, mult_of, ends_in_hole, Place, Entry, start, clauses_before, next_place, param_of, con_of, next_con_of, cons_of, family_of, partial_of, erased_of, signature_of, clause_of, second, import_of, imports_of, items_of, module_of, IsParam, IsCon, Cons, IsFamily, Partial, Erased, Signing, Equation, Clause, Defining, IsItem, IsEntry, IsModule}
use Rattle.qtt_grammar.specs.Grammar.Entry.{imported, listed}
use Rattle.qtt_grammar.proofs.Decide.{among}
use Rattle.qtt_reprint.proofs.Formed as formed
use Rattle.qtt_reprint.proofs.Formed.{need, need_shapes}
use Rattle.qtt_reprint.proofs.Gives.{Each, Along, Gives, token_gives, chain_gives, ◌then_gives◌, made_gives, ◌or_gives◌, run_gives, perhaps_gives, opened_gives, up_to_gives}
use Rattle.qtt_reprint.proofs.Allowed.{IsFair, plain_case}
use Rattle.qtt_reprint.proofs.Allowed as allowed

module _ (Fit : Word → Type 0) (wild : Fit (Word.named (codes "_"))) (pass : Pass) (top inner : Level) (l i : ℕ)
    (outside : allowed.Inner_gives Fit wild pass top (suc l))
    (inside : allowed.Inner_gives Fit wild pass inner (suc i)) where
  abbrev Holds : {A : Type 0} → Says A → (A → Type 0) → Type 0
  Holds P R = Gives (IsFair Fit) P R

  abbrev Named : (Class → Bool) → List ℕ → Type 0
  Named = formed.Named Fit pass

  symbol : (is : Class → Bool) → Holds (Symbol is) (λ s. Unit {0})
  symbol = allowed.symbol Fit wild pass

  locally : (is : Class → Bool) → Among (of is) (of is_bound_or_name) → Holds (Locally is) (λ n. Named is n.name)
  locally = allowed.locally Fit wild pass

  simple_name : Holds (Locally is_simple) (λ n. Named is_simple n.name)
  simple_name = locally is_simple (among is_simple is_bound_or_name refl)

  big_name : Holds (Locally is_big) (λ n. Named is_big n.name)
  big_name = locally is_big (among is_big is_bound_or_name refl)

  any_name : Holds (Locally is_name) (λ n. Named is_name n.name)
  any_name = locally is_name (among is_name is_bound_or_name refl)

  abbrev Zero_or_many : Mult → Type 0
  Zero_or_many m = formed.is_zero_or_many m ≡ true

  zero_mark : Holds IsZero Zero_or_many
  zero_mark = perhaps_gives mult.Many refl
      (token_gives (of is_zero) (λ x. mult_of x.class)
      (λ x f e. ap (formed.is_zero_or_many) (allowed.zero_of Fit wild pass x.class e)))

  within : (k : ℕ) (t : Tree) → allowed.Inside Fit wild pass false (suc k) t → formed.Within_levels Fit pass k t
  within k t r = ((r.0, plain_case (ends_in_hole t) r.1.0), omega (arith, r.1.1))

  -- ---- families

  param_holds : Holds (IsParam pass top inner) (formed.Param_formed Fit pass i)
  param_holds =
      made_gives param_of (opened_gives true is_left_paren
      (λ m. zero_mark then_gives simple_name then_gives symbol is_colon then_gives inside.expr false
      then_gives symbol is_right_paren))
      (λ a r. (r.0, (r.1.0, within i a.1.1.1.1.0 r.1.1.1.0)))

  params_fit : (n : ℕ) (ps : List Param) →
      Along (λ _. true) (λ _. true) (λ k _. suc k)
      (λ k p. (is_full pass quantity.Parts k ≡ false) × formed.Param_formed Fit pass i p) n ps →
      formed.Params_formed Fit pass i n ps
  params_fit n [] e = tt
  params_fit n (p ∷ more) (go, ((full, f), e)) = (full, (f, params_fit (suc n) more e))

  con_holds : Holds (IsCon pass top inner) (formed.Con_formed Fit pass l)
  con_holds = made_gives con_of (big_name then_gives symbol is_colon then_gives outside.typing)
      (λ a r. (r.0, (r.1.1.0, omega (arith, r.1.1.1))))

  more_fit : (n : ℕ) (cs : List Con) →
      Along (λ _. true) (λ _. true) (λ k _. suc k)
      (λ k c. (is_full pass quantity.Constructors k ≡ false) × formed.Con_formed Fit pass l c) n cs →
      formed.More_cons_formed Fit pass l n cs
  more_fit n [] e = tt
  more_fit n (c ∷ more) (go, ((full, f), e)) = (full, (f, more_fit (suc n) more e))

  cons_hold : Holds (Cons pass top inner) (formed.Cons_formed Fit pass l)
  cons_hold =
      perhaps_gives [] tt (made_gives cons_of
      (con_holds then_gives run_gives _ _ _ _
      (λ k c. (is_full pass quantity.Constructors k ≡ false) × formed.Con_formed Fit pass l c)
      (λ n. made_gives next_con_of
      (symbol is_next then_gives up_to_gives pass quantity.Constructors n con_holds) (λ a r. r.1)) 1)
      (λ a r. (r.0, more_fit 1 a.1 r.1)))

  family_holds : (at : Place) → Holds (IsFamily pass top inner) (formed.Item_formed Fit pass l i at)
  family_holds at =
      made_gives family_of (symbol is_data then_gives big_name then_gives run_gives _ _ _ _
      (λ k p. (is_full pass quantity.Parts k ≡ false) × formed.Param_formed Fit pass i p)
      (λ n. up_to_gives pass quantity.Parts n param_holds) 0 then_gives symbol is_colon then_gives
      outside.expr false then_gives symbol is_where then_gives symbol is_open then_gives cons_hold then_gives
      symbol is_close)
      (λ a r. (r.1.0, (params_fit 0 a.1.1.0 r.1.1.0, (within l a.1.1.1.1.0 r.1.1.1.1.0, r.1.1.1.1.1.1.1.0))))

  -- ---- signatures and clauses

  partial_holds : (at : Place) → Holds (Partial pass top inner) (formed.Item_formed Fit pass l i at)
  partial_holds at =
      made_gives partial_of (symbol is_partial then_gives perhaps_gives {R = λ o. Unit {0}} None tt
      (made_gives Some (symbol is_next) (λ a r. tt)) then_gives zero_mark then_gives simple_name then_gives
      symbol is_colon then_gives outside.typing)
      (λ a r. (r.1.1.0, (r.1.1.1.0, (r.1.1.1.1.1.0, omega (arith, r.1.1.1.1.1.1)))))

  erased_holds : (at : Place) → Holds (Erased pass top inner) (formed.Item_formed Fit pass l i at)
  erased_holds at = made_gives erased_of
      (symbol is_zero then_gives simple_name then_gives symbol is_colon then_gives outside.typing)
      (λ a r. (refl, (r.1.0, (r.1.1.1.0, omega (arith, r.1.1.1.1)))))

  signing_holds : (at : Place) (n : Local) → Named is_simple n.name →
      Holds (Signing pass top inner n) (formed.Item_formed Fit pass l i at)
  signing_holds at n f = made_gives (signature_of n) (symbol is_colon then_gives outside.typing)
      (λ a r. (refl, (f, (r.1.0, omega (arith, r.1.1)))))

  equation_holds : (n : Local) →
      Holds (Equation pass top inner n)
      (λ c. (ps : List Shape) ×
      ((side : Tree) × ((s : Span) ×
      ((c ≡ clause n.name ps side s) ×
      ((formed.Shapes_formed Fit pass 0 (shapes ps) × (need_shapes (shapes ps) ≤ l)) ×
      (formed.Formed Fit pass side × (need side ≤ l)))))))
  equation_holds n =
      made_gives (clause_of n) (run_gives _ _ _ _ (allowed.Parts_hold Fit wild pass (suc l))
      (λ k. up_to_gives pass quantity.Parts k outside.pattern) 0 then_gives symbol is_equals then_gives
      outside.expr true)
      (λ a r. let all = allowed.shapes_fit Fit wild pass (suc l) 0 a.0 (omega arith) r.0 in
      (a.0, (a.1.1, (n.span, (refl, ((all.0, omega (arith, all.1)), (r.1.1.0, omega (arith, r.1.1.1.1))))))))

  clause_at : (at : Place) (n : Local) (b : Bool) (fault : Lexeme → Excess) → Named is_simple n.name →
      is_full pass quantity.Clauses (clauses_before at n.name) ≡ b →
      (ls : List Lexeme) (c : Item) → Each (IsFair Fit) ls →
      cond b (Above fault (Equation pass top inner n)) (Equation pass top inner n) ls c None →
      formed.Item_formed Fit pass l i at c
  clause_at at n true fault f e ls c fair (x, r, o, parts, d, g) = absurd cc
  clause_at at n false fault f e ls c fair d = let r =
      (equation_holds n).at ls c fair d in rw r.1.1.1.0 (f, (e, r.1.1.1.1))

  clause_holds : (at : Place) (n : Local) → Named is_simple n.name →
      Holds (Clause pass top inner at n) (formed.Item_formed Fit pass l i at)
  clause_holds at n f = record {
    at = λ ls c fair d. clause_at at n (is_full pass quantity.Clauses (clauses_before at n.name))
        (λ _. one_above quantity.Clauses n.span) f refl ls c fair d;
  }

  defining_holds : (at : Place) → Holds (Defining pass top inner at) (formed.Item_formed Fit pass l i at)
  defining_holds at = made_gives second
      (chain_gives (λ n. Signing pass top inner n or Clause pass top inner at n) simple_name
      (λ n f. signing_holds at n f or_gives clause_holds at n f)) (λ a r. r.1)

  item_holds : (at : Place) → Holds (IsItem pass top inner at) (formed.Item_formed Fit pass l i at)
  item_holds at = family_holds at or_gives partial_holds at or_gives erased_holds at or_gives defining_holds at

  -- ---- modules

  abbrev Entry_holds : Place → Entry → Type 0
  Entry_holds at (imported j) = Named is_name j.name
  Entry_holds at (listed t) = (is_full pass quantity.Items at.items ≡ false) × formed.Item_formed Fit pass l i at t

  entry_holds : (at : Place) → Holds (IsEntry pass top inner at) (Entry_holds at)
  entry_holds at =
      made_gives second (symbol is_next then_gives
      (made_gives import_of
      (token_gives {R = λ s. Unit {0}} (opens at.at_imports (of is_import)) place
      (λ x f e. tt) then_gives any_name) (λ a r. r.1) or_gives made_gives listed
      (up_to_gives pass quantity.Items at.items (item_holds at)) (λ a r. r)))
      (λ a r. r.1)

  entries_fit : (at : Place) (es : List Entry) → Along (λ _. true) (λ _. true) next_place Entry_holds at es →
      formed.Imports_formed Fit pass (imports_of es) × formed.Items_formed Fit pass l i at (items_of es)
  entries_fit at [] e = (tt, tt)
  entries_fit at (imported j ∷ more) (go, (f, e)) = let rest = entries_fit at more e in ((f, rest.0), rest.1)
  entries_fit at (listed t ∷ more) (go, (f, e)) = let rest =
      entries_fit (next_place at (listed t)) more e in (rest.0, (f.0, (f.1, rest.1)))

  pub module_holds : Holds (IsModule pass top inner) (formed.Module_formed Fit pass l i)
  module_holds =
      made_gives module_of (symbol is_open then_gives symbol is_module then_gives any_name then_gives run_gives _
      _ _ _ Entry_holds entry_holds start then_gives symbol is_close)
      (λ a r. (r.1.1.0, entries_fit start a.1.1.1.0 r.1.1.1.0))
