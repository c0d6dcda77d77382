-- Items and texts with the targets of their names, rule by rule.
use Rattle.std.proofs.Common.{◌≡◌, ℕ, ◌+◌, Bool, true, false, cond, List, [], ◌∷◌, ◌++◌, map, take, length, append_assoc, append-nil, Option, Some, None, Ok, refl, sym, ap, ◌∙◌, subst, arith, true≢false, inl, inr, codes, length-append}
use Rattle.std.specs.List.{flat_map}
use Rattle.std.proofs.lemmas.List.{reverse-append, map-append, length-map}
use Rattle.qtt_base.specs.declared.place.ModuleId.{ModuleId}
use Rattle.qtt_base.specs.declared.place.Span.{Span}
use Rattle.qtt_syntax.specs.declared.expr.Local.{Local}
use Rattle.qtt_syntax.specs.declared.expr.Named.{Named}
use Rattle.qtt_syntax.specs.Tree.{Tree, Shape, Param, Con, Item, Module}
use Rattle.qtt_syntax.specs.Tree.Tree.{name, number, text, universe, hole, the, apply, pi, lambda, letting, doing}
use Rattle.qtt_syntax.specs.Tree.Param.{param}
use Rattle.qtt_syntax.specs.Tree.Con.{con}
use Rattle.qtt_syntax.specs.Tree.Item.{family, signature, clause}
use Rattle.qtt_syntax.specs.Tree.Module.{module_text}
use Rattle.qtt_names.specs.Answer.{Answer, unbound, duplicate}
use Rattle.qtt_names.specs.declared.scope.OwnItem.{OwnItem}
use Rattle.qtt_names.specs.declared.target.Found.{Found}
use Rattle.qtt_names.specs.declared.target.Found.TheVariants.{Nothing, One, Several}
use Rattle.qtt_names.specs.Filled.{Names, filled}
use Rattle.qtt_names.specs.Patterns.{is_among, first_of, behind_shape, filled_shape}
use Rattle.qtt_names.specs.PrimNames.{prim_import, scope_of}
use Rattle.qtt_names.specs.Resolved as code
use Rattle.qtt_names.specs.Resolved.{at_start, tail_hole, new_hole, if_new, new_item, new_clause, new_group, with_group, goes_on, is_definition, filled_param, behind_param, filled_params, param_name, param_names, filled_chain, filled_con, filled_cons, variables_in, filled_patterns, filled_item, filled_items, resolved}
use Rattle.qtt_names.specs.Scope.{Scope, Imported, entry_of, own_items}
use Rattle.qtt_names.specs.Target as target_code
use Rattle.qtt_names.specs.Target.{if_earlier, look_up, with_target}
use Rattle.qtt_names_laws.specs.Sight.{Place, Sort, Absent, Entry, names}
use Rattle.qtt_names_laws.specs.Places.{binds, clause_binds, hole_of, constructor_of, declares, items_of, name_of, under, under_all, bare, under_index, under_param, under_params, con_name}
use Rattle.qtt_names_laws.specs.Resolution.{NameResolves, Resolves, PatternsResolve, ParamResolves, ParamsResolve, IsEnd, ChainResolves, ConResolves, ConsResolve, Before, GoesOnOrBegins, IsNewHole, ItemResolves, behind, ItemsResolve, start, TextResolves}
use Rattle.qtt_names_laws.specs.Faults.{Occurrence, AllRight, FirstFault, uses, pattern_uses, param_uses, params_uses, chain_uses, con_uses, cons_uses, hole_uses, item_uses, items_uses, text_uses}
use Rattle.qtt_names_laws.specs.Laws.{place, ResolvedByTheText}
use Rattle.qtt_names_laws.proofs.Lists.{same, same_from, entry_is, no_entry_is, first_absent, absent_append, absent_front, absent_last}
use Rattle.qtt_names_laws.proofs.Own.{defines, Owned, own_is}
use Rattle.qtt_names_laws.proofs.Sights.{Means, means, answer, answered, looked_up}
use Rattle.qtt_names_laws.proofs.Outcomes.{Outcome, then_outcome, done, then_is, mapped, right_then, value_of, fault_of, faulty}
use Rattle.qtt_names_laws.proofs.Parts.{clause_variables, same_hole, more_holes, more_variables}
use Rattle.qtt_names_laws.proofs.Trees.{among, not_among, new_outcome, new_is, outcome, is, shape_outcome, shape_is}

take_front : {A : Type 0} (xs ys : List A) → take (length xs) (xs ++ ys) ≡ xs
take_front [] ys = refl
take_front (x ∷ xs) ys = ap (λ l. x ∷ l) (take_front xs ys)

-- ---- groups of clauses

goes : (last : Option (List ℕ)) (n : List ℕ) → goes_on last n ≡ true → last ≡ Some n
goes None n e = absurd (true≢false (sym e))
goes (Some m) n e = ap Some (sym (same n m e))

stops : (last : Option (List ℕ)) (n : List ℕ) → goes_on last n ≡ false → last ≡ Some n → ⊥
stops last n e q = true≢false (sym (ap (λ o. goes_on o n) q ∙ same_from n n refl) ∙ e)

module _ (last : Option (List ℕ)) (groups clauses : List (List ℕ)) (n : List ℕ) (s : Span)
    (to : Absent n groups → Absent n clauses) (from : Absent n clauses → Absent n groups) where
  neither : goes_on last n ≡ false → is_among n groups ≡ true → GoesOnOrBegins last clauses n → ⊥
  neither e a (inl q) = stops last n e q
  neither e a (inr h) = among n groups a (from h)

  group_outcome : Outcome (λ u. GoesOnOrBegins last clauses n) (Occurrence.grouped last clauses n s ∷ [])
      (new_group last groups n s)
  group_outcome = by (goes_on last n) refl
    where
      good : {r : Answer (Unit {0})} → r ≡ Ok tt → GoesOnOrBegins last clauses n →
          Outcome (λ u. GoesOnOrBegins last clauses n) (Occurrence.grouped last clauses n s ∷ []) r
      good e h =
          subst (Outcome (λ u. GoesOnOrBegins last clauses n) (Occurrence.grouped last clauses n s ∷ [])) (sym e)
          (Outcome.ok h (AllRight.and_more h AllRight.none))

      first : goes_on last n ≡ false → (t : Bool) → is_among n groups ≡ t →
          Outcome (λ u. GoesOnOrBegins last clauses n) (Occurrence.grouped last clauses n s ∷ [])
          (cond t (duplicate {A = Unit {0}} n s) (Ok tt))
      first e true a = Outcome.err (FirstFault.here (neither e a, refl))
      first e false a = good refl (inr (to (not_among n groups a)))

      by : (t : Bool) → goes_on last n ≡ t →
          Outcome (λ u. GoesOnOrBegins last clauses n) (Occurrence.grouped last clauses n s ∷ [])
          (cond t (Ok tt) (first_of groups n s))
      by true e = good refl (inl (goes last n e))
      by false e = first e (is_among n groups) refl

  group_is : GoesOnOrBegins last clauses n → new_group last groups n s ≡ Ok tt
  group_is h = by (goes_on last n) refl h
    where
      by : (t : Bool) → goes_on last n ≡ t → GoesOnOrBegins last clauses n →
          cond t (Ok tt) (first_of groups n s) ≡ Ok tt
      by true e h = refl
      by false e (inl q) = absurd (stops last n e q)
      by false e (inr h) = new_is groups n s (from h)

-- ---- what is known of the clauses before an item

pub record Grouped (last : Option (List ℕ)) (groups clauses : List (List ℕ)) : Type 0 where
  pub to : (n : List ℕ) → Absent n groups → Absent n clauses
  pub from : (n : List ℕ) → Absent n clauses → Absent n groups
  pub there : (n : List ℕ) → last ≡ Some n → Absent n clauses → ⊥

grouped_other : (last : Option (List ℕ)) (groups clauses : List (List ℕ)) → Grouped last groups clauses →
    Grouped None groups clauses
grouped_other last groups clauses g = record { to = g.to; from = g.from; there = λ n e. absurd (cc e) }

some_name : (n m : List ℕ) → Some n ≡ Some m → n ≡ m
some_name n m e = cc

grouped_clause : (last : Option (List ℕ)) (groups clauses : List (List ℕ)) (n : List ℕ) → Grouped last groups clauses →
    Grouped (Some n) (with_group last groups n) (clauses ++ n ∷ [])
grouped_clause last groups clauses n g = record {
  to = λ m. to m (goes_on last n) refl;
  from = λ m. from m (goes_on last n) refl;
  there = λ m e h. absent_last m n clauses h (sym (some_name n m e));
}
  where
    to : (m : List ℕ) (t : Bool) → goes_on last n ≡ t → Absent m (cond t groups (groups ++ n ∷ [])) →
        Absent m (clauses ++ n ∷ [])
    to m true e h =
        absent_append m n clauses (g.to m h)
        (λ q. g.there n (goes last n e) (subst (λ (l : List ℕ). Absent l clauses) q (g.to m h)))
    to m false e h = absent_append m n clauses (g.to m (absent_front m n groups h)) (absent_last m n groups h)

    from : (m : List ℕ) (t : Bool) → goes_on last n ≡ t → Absent m (clauses ++ n ∷ []) →
        Absent m (cond t groups (groups ++ n ∷ []))
    from m true e h = g.from m (absent_front m n clauses h)
    from m false e h = absent_append m n groups (g.from m (absent_front m n clauses h)) (absent_last m n clauses h)

-- ---- holes

hole_outcome : (holes : List (List ℕ)) (o : Option Local) →
    Outcome (λ u. IsNewHole holes o) (hole_uses holes o) (new_hole holes o)
hole_outcome holes None = Outcome.ok tt AllRight.none
hole_outcome holes (Some h) = new_outcome holes h.name h.span

hole_is : (holes : List (List ℕ)) (o : Option Local) → IsNewHole holes o → new_hole holes o ≡ Ok tt
hole_is holes None h = refl
hole_is holes (Some l) h = new_is holes l.name l.span h

-- ---- own names

if_new_outcome : (n : List ℕ) (s : Span) (es : List (List ℕ × Sort)) (o : Option OwnItem) → Owned n es 0 o →
    Outcome (λ u. Absent n (names es)) (Occurrence.new (names es) n s ∷ []) (if_new o n s)
if_new_outcome n s es None h = Outcome.ok h (AllRight.and_more h AllRight.none)
if_new_outcome n s es (Some item) h =
    Outcome.err (FirstFault.here (λ a. first_absent n (names es) h.place h.first a, refl))

if_new_is : (n : List ℕ) (s : Span) (es : List (List ℕ × Sort)) (o : Option OwnItem) → Owned n es 0 o →
    Absent n (names es) → if_new o n s ≡ Ok tt
if_new_is n s es None h a = refl
if_new_is n s es (Some item) h a = absurd (first_absent n (names es) h.place h.first a)

defines_it : (s : Sort) → defines s ≡ true → s ≡ Sort.definition
defines_it Sort.family e = absurd (true≢false (sym e))
defines_it Sort.constructor e = absurd (true≢false (sym e))
defines_it Sort.definition e = refl

same_sort : (s r : Sort) → Some s ≡ Some r → s ≡ r
same_sort s r e = cc

defined_entry : (n : List ℕ) (es : List (List ℕ × Sort)) (o : Option OwnItem) → Owned n es 0 o →
    is_definition o ≡ true → Entry n Sort.definition es
defined_entry n es None h e = absurd (true≢false (sym e))
defined_entry n es (Some item) h e =
    subst (λ (s : Sort). Entry n s es) (defines_it h.sort (sym h.kind ∙ e)) h.entry

entry_defined : (n : List ℕ) (es : List (List ℕ × Sort)) (o : Option OwnItem) → Owned n es 0 o →
    Entry n Sort.definition es → is_definition o ≡ true
entry_defined n es None h k =
    let e : Some Sort.definition ≡ None = sym (entry_is n Sort.definition es k) ∙ no_entry_is n es h in
    absurd (cc e)
entry_defined n es (Some item) h k =
    h.kind ∙
    ap defines (same_sort h.sort Sort.definition (sym (entry_is n h.sort es h.entry) ∙ entry_is n Sort.definition es k))

-- ---- ends of chains

end_is : (t : Tree) → IsEnd t → (f : Names) (Γ : List (List ℕ)) → filled_chain f Γ t ≡ filled f Γ t
end_is (name n) d f Γ = refl
end_is (number v s) d f Γ = refl
end_is (text v s) d f Γ = refl
end_is (universe l ls s) d f Γ = refl
end_is (hole n s) d f Γ = refl
end_is (the t x s) d f Γ = refl
end_is (apply g xs s) d f Γ = refl
end_is (pi k m n a b s) d f Γ = absurd d
end_is (lambda bs b s) d f Γ = refl
end_is (letting m n t x b s) d f Γ = refl
end_is (doing ss s) d f Γ = refl

module _ (home : ModuleId) (m : Module) (imports : List Imported) where
  abbrev pub scope : Scope
  scope = scope_of home m imports

  abbrev pub at : ℕ → List (List ℕ) → Place
  at k Γ = place home m imports k Γ

  abbrev pub base : List (List ℕ × Sort) → Place
  base D = record { home = home; name = name_of m; earlier = D; binders = []; imports = prim_import ∷ imports }

  abbrev pub state : List (List ℕ × Sort) → Option (List ℕ) → List (List ℕ) → List (List ℕ) → Before
  state D last clauses holes = record { place = base D; last = last; clauses = clauses; holes = holes }

  step : (k : ℕ) (p : Place) (Γ : List (List ℕ)) (n : List ℕ) → p ≡ at k Γ → under p n ≡ at k (Γ ++ n ∷ [])
  step k p Γ n e =
      ap (λ (q : Place). under q n) e ∙
      ap (λ (bs : List (List ℕ)). record {
        home = home;
        name = name_of m;
        earlier = take k (items_of m);
        binders = bs;
        imports = prim_import ∷ imports;
      })
      (sym (reverse-append Γ (n ∷ [])))

  looked : (k : ℕ) (p : Place) (Γ : List (List ℕ)) (n : Named) → p ≡ at k Γ →
      Outcome (NameResolves p n) (Occurrence.use_of p n ∷ []) (look_up scope k Γ n)
  looked k p Γ n e =
      subst (Outcome (NameResolves p n) (Occurrence.use_of p n ∷ []))
      (sym (looked_up home m imports k Γ n ∙ ap (λ (q : Place). with_target n (answer q n.path)) (sym e)))
      (by (answer p n.path) (means p n.path))
    where
      by : (f : Found) → Means p n.path f →
          Outcome (NameResolves p n) (Occurrence.use_of p n ∷ []) (with_target n f)
      by Nothing h = Outcome.err (FirstFault.here (inl (h, refl)))
      by (One t) h = Outcome.ok (NameResolves.sees h) (AllRight.and_more (t, h) AllRight.none)
      by Several h = Outcome.err (FirstFault.here (inr (h, refl)))

  found : (k : ℕ) (p : Place) (Γ : List (List ℕ)) (n n' : Named) → p ≡ at k Γ → NameResolves p n n' →
      look_up scope k Γ n ≡ Ok n'
  found k p Γ n _ e (NameResolves.sees {t = t} h) =
      looked_up home m imports k Γ n ∙ ap (λ (q : Place). with_target n (answer q n.path)) (sym e) ∙
      ap (with_target n) (answered p n.path (One t) h)

  tree_outcome : (k : ℕ) (t : Tree) (p : Place) (Γ : List (List ℕ)) → p ≡ at k Γ →
      Outcome (Resolves p t) (uses p t) (filled (look_up scope k) Γ t)
  tree_outcome k = outcome (look_up scope k) (at k) (step k) (looked k) (found k)

  tree_is : (k : ℕ) (p : Place) (t u : Tree) → Resolves p t u → (Γ : List (List ℕ)) → p ≡ at k Γ →
      filled (look_up scope k) Γ t ≡ Ok u
  tree_is k = is (look_up scope k) (at k) (step k) (looked k) (found k)

  all_step : (k : ℕ) (ns : List (List ℕ)) (p : Place) (Γ : List (List ℕ)) → p ≡ at k Γ →
      under_all p ns ≡ at k (Γ ++ ns)
  all_step k [] p Γ e = e ∙ sym (ap (at k) (append-nil Γ))
  all_step k (n ∷ ns) p Γ e =
      all_step k ns (under p n) (Γ ++ n ∷ []) (step k p Γ n e) ∙ ap (at k) (append_assoc Γ (n ∷ []) ns)

  bare_all : (ns : List (List ℕ)) (p : Place) → bare (under_all p ns) ≡ bare p
  bare_all [] p = refl
  bare_all (n ∷ ns) p = bare_all ns (under p n)

  -- ---- patterns

  module _ (k : ℕ) (p : Place) (Γ : List (List ℕ)) (e : p ≡ at k Γ) (f : bare p ≡ at k []) where
    patterns_outcome : (ps : List Shape) (before known : List (List ℕ)) → before ≡ known →
        Outcome (PatternsResolve p before ps) (pattern_uses p before ps)
        (filled_patterns (look_up scope k) Γ known ps)
    patterns_outcome [] before known q = Outcome.ok PatternsResolve.no_more AllRight.none
    patterns_outcome (a ∷ more) before known q =
        then_outcome (filled_shape (look_up scope k) Γ known a) _
        (shape_outcome (look_up scope k) (at k) (step k) (looked k) (found k) p Γ e f a before known q)
        (λ a' h. done (filled_patterns (look_up scope k) Γ (behind_shape known a) more) _
        (patterns_outcome more (before ++ binds a) (behind_shape known a) (more_variables before known a q))
        (λ more' j. PatternsResolve.and_more h j))

  patterns_is : (k : ℕ) (p : Place) (before : List (List ℕ)) (ps qs : List Shape) → PatternsResolve p before ps qs →
      (known : List (List ℕ)) → before ≡ known → (Γ : List (List ℕ)) → p ≡ at k Γ → bare p ≡ at k [] →
      filled_patterns (look_up scope k) Γ known ps ≡ Ok qs
  patterns_is k p before _ _ PatternsResolve.no_more known q Γ e f = refl
  patterns_is k p before _ _ (PatternsResolve.and_more {a = a} {a' = a'} {more = more} {more' = more'} h j)
      known q Γ e f =
      then_is (filled_shape (look_up scope k) Γ known a) _
      (shape_is (look_up scope k) (at k) (step k) (looked k) (found k) p before a a' h known q Γ e f)
      (then_is (filled_patterns (look_up scope k) Γ (behind_shape known a) more) _
      (patterns_is k p (before ++ binds a) more more' j (behind_shape known a) (more_variables before known a q) Γ e f)
      refl)

  -- ---- parameters

  param_step : (k : ℕ) (a : Param) (p : Place) (Γ : List (List ℕ)) → p ≡ at k Γ →
      under_param p a ≡ at k (behind_param Γ a)
  param_step k (param q n t s) p Γ e = step k p Γ n e

  params_step : (k : ℕ) (ps : List Param) (p : Place) (Γ : List (List ℕ)) → p ≡ at k Γ →
      under_params p ps ≡ at k (Γ ++ param_names ps)
  params_step k [] p Γ e = e ∙ sym (ap (at k) (append-nil Γ))
  params_step k (a ∷ more) p Γ e =
      params_step k more (under_param p a) (behind_param Γ a) (param_step k a p Γ e) ∙
      ap (at k) (append_assoc Γ (param_name a ∷ []) (param_names more))

  param_outcome : (k : ℕ) (a : Param) (p : Place) (Γ : List (List ℕ)) → p ≡ at k Γ →
      Outcome (ParamResolves p a) (param_uses p a) (filled_param (look_up scope k) Γ a)
  param_outcome k (param q n t s) p Γ e =
      done (filled (look_up scope k) Γ t) _ (tree_outcome k t p Γ e) (λ t' h. ParamResolves.a_param h)

  params_outcome : (k : ℕ) (ps : List Param) (p : Place) (Γ : List (List ℕ)) → p ≡ at k Γ →
      Outcome (ParamsResolve p ps) (params_uses p ps) (filled_params (look_up scope k) Γ ps)
  params_outcome k [] p Γ e = Outcome.ok ParamsResolve.no_more AllRight.none
  params_outcome k (a ∷ more) p Γ e =
      then_outcome (filled_param (look_up scope k) Γ a) _ (param_outcome k a p Γ e)
      (λ a' h. done (filled_params (look_up scope k) (behind_param Γ a) more) _
      (params_outcome k more (under_param p a) (behind_param Γ a) (param_step k a p Γ e))
      (λ more' j. ParamsResolve.and_more h j))

  param_is : (k : ℕ) (p : Place) (a b : Param) → ParamResolves p a b → (Γ : List (List ℕ)) → p ≡ at k Γ →
      filled_param (look_up scope k) Γ a ≡ Ok b
  param_is k p _ _ (ParamResolves.a_param {t = t} {t' = t'} h) Γ e =
      then_is (filled (look_up scope k) Γ t) _ (tree_is k p t t' h Γ e) refl

  params_is : (k : ℕ) (p : Place) (ps qs : List Param) → ParamsResolve p ps qs → (Γ : List (List ℕ)) → p ≡ at k Γ →
      filled_params (look_up scope k) Γ ps ≡ Ok qs
  params_is k p _ _ ParamsResolve.no_more Γ e = refl
  params_is k p _ _ (ParamsResolve.and_more {a = a} {a' = a'} {more = more} {more' = more'} h j) Γ e =
      then_is (filled_param (look_up scope k) Γ a) _ (param_is k p a a' h Γ e)
      (then_is (filled_params (look_up scope k) (behind_param Γ a) more) _
      (params_is k (under_param p a) more more' j (behind_param Γ a) (param_step k a p Γ e)) refl)

  -- ---- the type of a family

  chain_outcome : (k : ℕ) (t : Tree) (p : Place) (Γ : List (List ℕ)) → p ≡ at k Γ →
      Outcome (ChainResolves p t) (chain_uses p t) (filled_chain (look_up scope k) Γ t)
  chain_outcome k (pi q x n a b s) p Γ e =
      then_outcome (filled (look_up scope k) Γ a) _ (tree_outcome k a p Γ e)
      (λ a' h. done (filled_chain (look_up scope k) (Γ ++ codes "_" ∷ []) b) _
      (chain_outcome k b (under_index p) (Γ ++ codes "_" ∷ []) (step k p Γ (codes "_") e))
      (λ b' j. ChainResolves.an_index h j))
  chain_outcome k (name n) p Γ e = mapped (λ t' h. ChainResolves.an_end tt h) (tree_outcome k (name n) p Γ e)
  chain_outcome k (number v s) p Γ e = mapped (λ t' h. ChainResolves.an_end tt h) (tree_outcome k (number v s) p Γ e)
  chain_outcome k (text v s) p Γ e = mapped (λ t' h. ChainResolves.an_end tt h) (tree_outcome k (text v s) p Γ e)
  chain_outcome k (universe l ls s) p Γ e =
      mapped (λ t' h. ChainResolves.an_end tt h) (tree_outcome k (universe l ls s) p Γ e)
  chain_outcome k (hole n s) p Γ e = mapped (λ t' h. ChainResolves.an_end tt h) (tree_outcome k (hole n s) p Γ e)
  chain_outcome k (the t x s) p Γ e = mapped (λ t' h. ChainResolves.an_end tt h) (tree_outcome k (the t x s) p Γ e)
  chain_outcome k (apply f xs s) p Γ e =
      mapped (λ t' h. ChainResolves.an_end tt h) (tree_outcome k (apply f xs s) p Γ e)
  chain_outcome k (lambda bs b s) p Γ e =
      mapped (λ t' h. ChainResolves.an_end tt h) (tree_outcome k (lambda bs b s) p Γ e)
  chain_outcome k (letting x n t y b s) p Γ e =
      mapped (λ t' h. ChainResolves.an_end tt h) (tree_outcome k (letting x n t y b s) p Γ e)
  chain_outcome k (doing ss s) p Γ e = mapped (λ t' h. ChainResolves.an_end tt h) (tree_outcome k (doing ss s) p Γ e)

  chain_is : (k : ℕ) (p : Place) (t u : Tree) → ChainResolves p t u → (Γ : List (List ℕ)) → p ≡ at k Γ →
      filled_chain (look_up scope k) Γ t ≡ Ok u
  chain_is k p _ _ (ChainResolves.an_index {a = a} {a' = a'} {b = b} {b' = b'} h j) Γ e =
      then_is (filled (look_up scope k) Γ a) _ (tree_is k p a a' h Γ e)
      (then_is (filled_chain (look_up scope k) (Γ ++ codes "_" ∷ []) b) _
      (chain_is k (under_index p) b b' j (Γ ++ codes "_" ∷ []) (step k p Γ (codes "_") e)) refl)
  chain_is k p _ _ (ChainResolves.an_end {t = t} {t' = t'} d h) Γ e =
      end_is t d (look_up scope k) Γ ∙ tree_is k p t t' h Γ e

  -- ---- own items

  standing : (D R : List (List ℕ × Sort)) (k : ℕ) → items_of m ≡ D ++ R → k ≡ length D → take k (items_of m) ≡ D
  standing D R k e l = ap (take k) e ∙ ap (λ (j : ℕ). take j (D ++ R)) l ∙ take_front D R

  based : (D : List (List ℕ × Sort)) (k : ℕ) → take k (items_of m) ≡ D → base D ≡ at k []
  based D k e = ap base (sym e)

  owned_at : (D : List (List ℕ × Sort)) (k : ℕ) → take k (items_of m) ≡ D → (n : List ℕ) →
      Owned n D 0 (target_code.own_item scope k n)
  owned_at D k e n =
      subst (λ (E : List (List ℕ × Sort)). Owned n E 0 (if_earlier k (entry_of n (own_items m)))) e (own_is m k n)

  item_outcome : (D : List (List ℕ × Sort)) (k : ℕ) → take k (items_of m) ≡ D → (n : List ℕ) (s : Span) →
      Outcome (λ u. Absent n (names D)) (Occurrence.new (names D) n s ∷ []) (new_item scope k n s)
  item_outcome D k e n s = if_new_outcome n s D (target_code.own_item scope k n) (owned_at D k e n)

  item_is : (D : List (List ℕ × Sort)) (k : ℕ) → take k (items_of m) ≡ D → (n : List ℕ) (s : Span) →
      Absent n (names D) → new_item scope k n s ≡ Ok tt
  item_is D k e n s a = if_new_is n s D (target_code.own_item scope k n) (owned_at D k e n) a

  -- ---- constructors

  module _ (f : ℕ) (p : Place) (Γ : List (List ℕ)) (e : p ≡ at f Γ) where
    con_outcome : (c : Con) (k : ℕ) (D : List (List ℕ × Sort)) (taken : List (List ℕ)) →
        take k (items_of m) ≡ D → taken ≡ names D →
        Outcome (ConResolves p taken c) (con_uses p taken c) (filled_con scope (look_up scope f) Γ k c)
    con_outcome (con n t s) k D taken l q =
        then_outcome (new_item scope k n s) _
        (subst (λ (ns : List (List ℕ)). Outcome (λ u. Absent n ns) (Occurrence.new ns n s ∷ []) (new_item scope k n s))
        (sym q) (item_outcome D k l n s))
        (λ u h. done (filled (look_up scope f) Γ t) _ (tree_outcome f t p Γ e) (λ t' j. ConResolves.a_con h j))

    con_is : (c d : Con) (k : ℕ) (D : List (List ℕ × Sort)) (taken : List (List ℕ)) → ConResolves p taken c d →
        take k (items_of m) ≡ D → taken ≡ names D → filled_con scope (look_up scope f) Γ k c ≡ Ok d
    con_is _ _ k D taken (ConResolves.a_con {n = n} {t = t} {t' = t'} {s = s} h j) l q =
        then_is (new_item scope k n s) _ (item_is D k l n s (subst (Absent n) q h))
        (then_is (filled (look_up scope f) Γ t) _ (tree_is f p t t' j Γ e) refl)

    one_further : (c : Con) (more : List Con) (D R : List (List ℕ × Sort)) →
        items_of m ≡ D ++ (map constructor_of (c ∷ more) ++ R) →
        items_of m ≡ (D ++ constructor_of c ∷ []) ++ (map constructor_of more ++ R)
    one_further c more D R i = i ∙ sym (append_assoc D (constructor_of c ∷ []) (map constructor_of more ++ R))

    one_longer : (c : Con) (D : List (List ℕ × Sort)) (k : ℕ) → k ≡ length D →
        k + 1 ≡ length (D ++ constructor_of c ∷ [])
    one_longer c D k l = ap (λ (j : ℕ). j + 1) l ∙ sym (length-append D (constructor_of c ∷ []))

    one_taken : (c : Con) (D : List (List ℕ × Sort)) (taken : List (List ℕ)) → taken ≡ names D →
        taken ++ con_name c ∷ [] ≡ names (D ++ constructor_of c ∷ [])
    one_taken (con n t s) D taken q =
        ap (λ (l : List (List ℕ)). l ++ n ∷ []) q ∙
        sym (map-append (λ (e : List ℕ × Sort). e.0) D ((n, Sort.constructor) ∷ []))

    cons_outcome : (cs : List Con) (k : ℕ) (D R : List (List ℕ × Sort)) (taken : List (List ℕ)) →
        items_of m ≡ D ++ (map constructor_of cs ++ R) → k ≡ length D → taken ≡ names D →
        Outcome (ConsResolve p taken cs) (cons_uses p taken cs) (filled_cons scope (look_up scope f) Γ k cs)
    cons_outcome [] k D R taken i l q = Outcome.ok ConsResolve.no_more AllRight.none
    cons_outcome (c ∷ more) k D R taken i l q =
        then_outcome (filled_con scope (look_up scope f) Γ k c) _
        (con_outcome c k D taken (standing D (map constructor_of (c ∷ more) ++ R) k i l) q)
        (λ c' h. done (filled_cons scope (look_up scope f) Γ (k + 1) more) _
        (cons_outcome more (k + 1) (D ++ constructor_of c ∷ []) R (taken ++ con_name c ∷ [])
        (one_further c more D R i) (one_longer c D k l) (one_taken c D taken q))
        (λ more' j. ConsResolve.and_more h j))

  cons_is : (f : ℕ) (p : Place) (taken : List (List ℕ)) (cs ds : List Con) → ConsResolve p taken cs ds →
      (Γ : List (List ℕ)) → p ≡ at f Γ → (k : ℕ) (D R : List (List ℕ × Sort)) →
      items_of m ≡ D ++ (map constructor_of cs ++ R) → k ≡ length D → taken ≡ names D →
      filled_cons scope (look_up scope f) Γ k cs ≡ Ok ds
  cons_is f p taken _ _ ConsResolve.no_more Γ e k D R i l q = refl
  cons_is f p taken _ _ (ConsResolve.and_more {c = c} {c' = c'} {more = more} {more' = more'} h j) Γ e k D R i l q =
      then_is (filled_con scope (look_up scope f) Γ k c) _
      (con_is f p Γ e c c' k D taken h (standing D (map constructor_of (c ∷ more) ++ R) k i l) q)
      (then_is (filled_cons scope (look_up scope f) Γ (k + 1) more) _
      (cons_is f p (taken ++ con_name c ∷ []) more more' j Γ e (k + 1) (D ++ constructor_of c ∷ []) R
      (one_further f p Γ e c more D R i) (one_longer f p Γ e c D k l) (one_taken f p Γ e c D taken q)) refl)

  -- ---- items

  clause_outcome : (D : List (List ℕ × Sort)) (k : ℕ) → take k (items_of m) ≡ D → (last : Option (List ℕ))
      (groups clauses : List (List ℕ)) → Grouped last groups clauses → (n : List ℕ) (s : Span) →
      Outcome (λ u. Entry n Sort.definition D × GoesOnOrBegins last clauses n)
      (Occurrence.defined D n s ∷ Occurrence.grouped last clauses n s ∷ []) (new_clause scope k last groups n s)
  clause_outcome D k e last groups clauses g n s = by (is_definition (target_code.own_item scope k n)) refl
    where
      by : (t : Bool) → is_definition (target_code.own_item scope k n) ≡ t →
          Outcome (λ u. Entry n Sort.definition D × GoesOnOrBegins last clauses n)
          (Occurrence.defined D n s ∷ Occurrence.grouped last clauses n s ∷ [])
          (cond t (new_group last groups n s) (unbound n s))
      by true q =
          let d : Entry n Sort.definition D =
          defined_entry n D (target_code.own_item scope k n) (owned_at D k e n) q in
          right_then d (mapped (λ u h. (d, h)) (group_outcome last groups clauses n s (g.to n) (g.from n)))
      by false q =
          Outcome.err (FirstFault.here
          (λ d. true≢false (sym (entry_defined n D (target_code.own_item scope k n) (owned_at D k e n) d) ∙ q), refl))

  clause_is : (D : List (List ℕ × Sort)) (k : ℕ) → take k (items_of m) ≡ D → (last : Option (List ℕ))
      (groups clauses : List (List ℕ)) → Grouped last groups clauses → (n : List ℕ) (s : Span) →
      Entry n Sort.definition D → GoesOnOrBegins last clauses n → new_clause scope k last groups n s ≡ Ok tt
  clause_is D k e last groups clauses g n s d h =
      ap (λ (t : Bool). cond t (new_group last groups n s) (unbound n s))
      (entry_defined n D (target_code.own_item scope k n) (owned_at D k e n) d) ∙
      group_is last groups clauses n s (g.to n) (g.from n) h

  module _ (D R : List (List ℕ × Sort)) (b : code.Before) (clauses : List (List ℕ))
      (l : b.items ≡ length D) (g : Grouped b.last b.groups clauses) where
    family_place : (n : List ℕ) (cs : List Con) → items_of m ≡ D ++ ((n, Sort.family) ∷ map constructor_of cs ++ R) →
        base (D ++ (n, Sort.family) ∷ []) ≡ at (b.items + 1) []
    family_place n cs i =
        based (D ++ (n, Sort.family) ∷ []) (b.items + 1)
        (standing (D ++ (n, Sort.family) ∷ []) (map constructor_of cs ++ R) (b.items + 1)
        (i ∙ sym (append_assoc D ((n, Sort.family) ∷ []) (map constructor_of cs ++ R)))
        (ap (λ (j : ℕ). j + 1) l ∙ sym (length-append D ((n, Sort.family) ∷ []))))

    each_outcome : (i : Item) → items_of m ≡ D ++ (declares i ++ R) →
        Outcome (ItemResolves (state D b.last clauses b.holes) i) (item_uses (state D b.last clauses b.holes) i)
        (filled_item scope b i)
    unfolding filled_item
    each_outcome (family n ns ps t cs s) i =
        let k = b.items in
        let e : take k (items_of m) ≡ D = standing D (declares (family n ns ps t cs s) ++ R) k i l in
        let q = based D k e in
        then_outcome (new_item scope k n ns) _ (item_outcome D k e n ns)
        (λ u h. then_outcome (filled_params (look_up scope k) [] ps) _ (params_outcome k ps (base D) [] q)
        (λ ps' x. then_outcome (filled_chain (look_up scope k) (param_names ps) t) _
        (chain_outcome k t (under_params (base D) ps) (param_names ps) (params_step k ps (base D) [] q))
        (λ t' y. done (filled_cons scope (look_up scope (k + 1)) (param_names ps) (k + 1) cs) _
        (cons_outcome (k + 1) (under_params (base (D ++ (n, Sort.family) ∷ [])) ps) (param_names ps)
        (params_step (k + 1) ps (base (D ++ (n, Sort.family) ∷ [])) [] (family_place n cs i)) cs (k + 1)
        (D ++ (n, Sort.family) ∷ []) R (names D ++ n ∷ [])
        (i ∙ sym (append_assoc D ((n, Sort.family) ∷ []) (map constructor_of cs ++ R)))
        (ap (λ (j : ℕ). j + 1) l ∙ sym (length-append D ((n, Sort.family) ∷ [])))
        (sym (map-append (λ (e : List ℕ × Sort). e.0) D ((n, Sort.family) ∷ []))))
        (λ cs' z. ItemResolves.a_family h x y z))))
    each_outcome (signature r x n ns t s) i =
        let k = b.items in
        let e : take k (items_of m) ≡ D = standing D (declares (signature r x n ns t s) ++ R) k i l in
        then_outcome (new_item scope k n ns) _ (item_outcome D k e n ns)
        (λ u h. done (filled (look_up scope k) [] t) _ (tree_outcome k t (base D) [] (based D k e))
        (λ t' j. ItemResolves.a_signature h j))
    each_outcome (clause n ps x s) i =
        let k = b.items in
        let e : take k (items_of m) ≡ D = standing D R k i l in
        let q = based D k e in
        let v = all_step k (clause_binds ps) (base D) [] q ∙ ap (at k) (clause_variables ps) in
        then_outcome (new_clause scope k b.last b.groups n s) _ (clause_outcome D k e b.last b.groups clauses g n s)
        (λ u h. then_outcome (filled_patterns (look_up scope k) (variables_in ps) [] ps) _
        (patterns_outcome k (under_all (base D) (clause_binds ps)) (variables_in ps) v
        (bare_all (clause_binds ps) (base D) ∙ q) ps [] [] refl)
        (λ ps' y. then_outcome (filled (look_up scope k) (variables_in ps) x) _
        (tree_outcome k x (under_all (base D) (clause_binds ps)) (variables_in ps) v)
        (λ x' z. done (new_hole b.holes (tail_hole x)) _
        (subst (λ (o : Option Local). Outcome (λ u. IsNewHole b.holes (hole_of x)) (hole_uses b.holes (hole_of x))
        (new_hole b.holes o)) (same_hole x) (hole_outcome b.holes (hole_of x)))
        (λ w j. ItemResolves.a_clause h.0 h.1 y z j))))

    each_is : (i i' : Item) → ItemResolves (state D b.last clauses b.holes) i i' → items_of m ≡ D ++ (declares i ++ R) →
        filled_item scope b i ≡ Ok i'
    unfolding filled_item
    each_is _ _ (ItemResolves.a_family {n = n} {ns = ns} {ps = ps} {ps' = ps'} {t = t} {t' = t'} {cs = cs} {cs' = cs'}
        {s = s} h x y z) i =
        let k = b.items in
        let e : take k (items_of m) ≡ D = standing D (declares (family n ns ps t cs s) ++ R) k i l in
        let q = based D k e in
        then_is (new_item scope k n ns) _ (item_is D k e n ns h)
        (then_is (filled_params (look_up scope k) [] ps) _ (params_is k (base D) ps ps' x [] q)
        (then_is (filled_chain (look_up scope k) (param_names ps) t) _
        (chain_is k (under_params (base D) ps) t t' y (param_names ps) (params_step k ps (base D) [] q))
        (then_is (filled_cons scope (look_up scope (k + 1)) (param_names ps) (k + 1) cs) _
        (cons_is (k + 1) (under_params (base (D ++ (n, Sort.family) ∷ [])) ps) (names D ++ n ∷ []) cs cs' z
        (param_names ps) (params_step (k + 1) ps (base (D ++ (n, Sort.family) ∷ [])) [] (family_place n cs i)) (k + 1)
        (D ++ (n, Sort.family) ∷ []) R (i ∙ sym (append_assoc D ((n, Sort.family) ∷ []) (map constructor_of cs ++ R)))
        (ap (λ (j : ℕ). j + 1) l ∙ sym (length-append D ((n, Sort.family) ∷ [])))
        (sym (map-append (λ (e : List ℕ × Sort). e.0) D ((n, Sort.family) ∷ [])))) refl)))
    each_is _ _ (ItemResolves.a_signature {q = r} {m = x} {n = n} {ns = ns} {t = t} {t' = t'} {s = s} h j) i =
        let k = b.items in
        let e : take k (items_of m) ≡ D = standing D (declares (signature r x n ns t s) ++ R) k i l in
        then_is (new_item scope k n ns) _ (item_is D k e n ns h)
        (then_is (filled (look_up scope k) [] t) _ (tree_is k (base D) t t' j [] (based D k e)) refl)
    each_is _ _ (ItemResolves.a_clause {n = n} {ps = ps} {ps' = ps'} {e = x} {e' = x'} {s = s} d h y z j) i =
        let k = b.items in
        let e : take k (items_of m) ≡ D = standing D R k i l in
        let q = based D k e in
        let v = all_step k (clause_binds ps) (base D) [] q ∙ ap (at k) (clause_variables ps) in
        then_is (new_clause scope k b.last b.groups n s) _ (clause_is D k e b.last b.groups clauses g n s d h)
        (then_is (filled_patterns (look_up scope k) (variables_in ps) [] ps) _
        (patterns_is k (under_all (base D) (clause_binds ps)) [] ps ps' y [] refl (variables_in ps) v
        (bare_all (clause_binds ps) (base D) ∙ q))
        (then_is (filled (look_up scope k) (variables_in ps) x) _
        (tree_is k (under_all (base D) (clause_binds ps)) x x' z (variables_in ps) v)
        (then_is (new_hole b.holes (tail_hole x)) _
        (ap (new_hole b.holes) (sym (same_hole x)) ∙ hole_is b.holes (hole_of x) j) refl)))

  -- ---- texts

  next_items : (D E R : List (List ℕ × Sort)) → items_of m ≡ D ++ (E ++ R) → items_of m ≡ (D ++ E) ++ R
  next_items D E R i = i ∙ sym (append_assoc D E R)

  family_count : (D : List (List ℕ × Sort)) (k : ℕ) (n : List ℕ) (cs : List Con) → k ≡ length D →
      k + (length cs + 1) ≡ length (D ++ (n, Sort.family) ∷ map constructor_of cs)
  family_count D k n cs l =
      let a = length-append D ((n, Sort.family) ∷ map constructor_of cs) in
      let c = length-map cs constructor_of in
      omega (arith, a, c, l)

  signature_count : (D : List (List ℕ × Sort)) (k : ℕ) (n : List ℕ) → k ≡ length D →
      k + 1 ≡ length (D ++ (n, Sort.definition) ∷ [])
  signature_count D k n l = ap (λ (j : ℕ). j + 1) l ∙ sym (length-append D ((n, Sort.definition) ∷ []))

  clause_count : (D : List (List ℕ × Sort)) (k : ℕ) → k ≡ length D → k + 0 ≡ length D
  clause_count D k l = omega arith

  items_outcome : (items : List Item) (D : List (List ℕ × Sort)) (b : code.Before) (clauses : List (List ℕ)) →
      items_of m ≡ D ++ flat_map declares items → b.items ≡ length D → Grouped b.last b.groups clauses →
      Outcome (ItemsResolve (state D b.last clauses b.holes) items) (items_uses (state D b.last clauses b.holes) items)
      (filled_items scope b items)
  items_outcome [] D b clauses i l g = Outcome.ok ItemsResolve.no_more AllRight.none
  items_outcome (family n ns ps t cs s ∷ more) D b clauses i l g =
      let here = family n ns ps t cs s in
      then_outcome (filled_item scope b here) _ (each_outcome D (flat_map declares more) b clauses l g here i)
      (λ i' h. done (filled_items scope (code.behind b here) more) _
      (items_outcome more (D ++ declares here) (code.behind b here) clauses
      (next_items D (declares here) (flat_map declares more) i) (family_count D b.items n cs l)
      (grouped_other b.last b.groups clauses g))
      (λ more' j. ItemsResolve.and_more h j))
  items_outcome (signature r x n ns t s ∷ more) D b clauses i l g =
      let here = signature r x n ns t s in
      then_outcome (filled_item scope b here) _ (each_outcome D (flat_map declares more) b clauses l g here i)
      (λ i' h. done (filled_items scope (code.behind b here) more) _
      (items_outcome more (D ++ declares here) (code.behind b here) clauses
      (next_items D (declares here) (flat_map declares more) i) (signature_count D b.items n l)
      (grouped_other b.last b.groups clauses g))
      (λ more' j. ItemsResolve.and_more h j))
  items_outcome (clause n ps x s ∷ more) D b clauses i l g =
      let here = clause n ps x s in
      then_outcome (filled_item scope b here) _ (each_outcome D (flat_map declares more) b clauses l g here i)
      (λ i' h. done (filled_items scope (code.behind b here) more) _
      (subst (λ (hs : List (List ℕ)). Outcome (ItemsResolve (state D (Some n) (clauses ++ n ∷ []) hs) more)
      (items_uses (state D (Some n) (clauses ++ n ∷ []) hs) more) (filled_items scope (code.behind b here) more))
      (sym (more_holes b.holes x))
      (items_outcome more D (code.behind b here) (clauses ++ n ∷ []) i (clause_count D b.items l)
      (grouped_clause b.last b.groups clauses n g)))
      (λ more' j. ItemsResolve.and_more h j))

  next_is : (i i' : Item) (more more' : List Item) (D : List (List ℕ × Sort)) (b : code.Before)
      (clauses : List (List ℕ)) → items_of m ≡ D ++ flat_map declares (i ∷ more) → b.items ≡ length D →
      Grouped b.last b.groups clauses → ItemResolves (state D b.last clauses b.holes) i i' →
      ((E : List (List ℕ × Sort)) (c : code.Before) (others : List (List ℕ)) →
      behind (state D b.last clauses b.holes) i ≡ state E c.last others c.holes →
      items_of m ≡ E ++ flat_map declares more → c.items ≡ length E → Grouped c.last c.groups others →
      filled_items scope c more ≡ Ok more') → filled_items scope b (i ∷ more) ≡ Ok (i' ∷ more')
  next_is (family n ns ps t cs s) i' more more' D b clauses i l g h rest =
      let here = family n ns ps t cs s in
      then_is (filled_item scope b here) _ (each_is D (flat_map declares more) b clauses l g here i' h i)
      (then_is (filled_items scope (code.behind b here) more) _
      (rest (D ++ declares here) (code.behind b here) clauses refl
      (next_items D (declares here) (flat_map declares more) i) (family_count D b.items n cs l)
      (grouped_other b.last b.groups clauses g)) refl)
  next_is (signature r x n ns t s) i' more more' D b clauses i l g h rest =
      let here = signature r x n ns t s in
      then_is (filled_item scope b here) _ (each_is D (flat_map declares more) b clauses l g here i' h i)
      (then_is (filled_items scope (code.behind b here) more) _
      (rest (D ++ declares here) (code.behind b here) clauses refl
      (next_items D (declares here) (flat_map declares more) i) (signature_count D b.items n l)
      (grouped_other b.last b.groups clauses g)) refl)
  next_is (clause n ps x s) i' more more' D b clauses i l g h rest =
      let here = clause n ps x s in
      then_is (filled_item scope b here) _ (each_is D (flat_map declares more) b clauses l g here i' h i)
      (then_is (filled_items scope (code.behind b here) more) _
      (rest D (code.behind b here) (clauses ++ n ∷ [])
      (ap (λ (hs : List (List ℕ)). state D (Some n) (clauses ++ n ∷ []) hs) (more_holes b.holes x)) i
      (clause_count D b.items l) (grouped_clause b.last b.groups clauses n g)) refl)

  items_are : (c : Before) (items items' : List Item) → ItemsResolve c items items' → (D : List (List ℕ × Sort))
      (b : code.Before) (clauses : List (List ℕ)) → c ≡ state D b.last clauses b.holes →
      items_of m ≡ D ++ flat_map declares items → b.items ≡ length D → Grouped b.last b.groups clauses →
      filled_items scope b items ≡ Ok items'
  items_are c _ _ ItemsResolve.no_more D b clauses e i l g = refl
  items_are c _ _ (ItemsResolve.and_more {i = here} {i' = here'} {more = more} {more' = more'} h j)
      D b clauses e i l g =
      next_is here here' more more' D b clauses i l g (subst (λ (q : Before). ItemResolves q here here') e h)
      (λ E d others q. items_are (behind c here) more more' j E d others
      (ap (λ (q : Before). behind q here) e ∙ q))

nothing_grouped : Grouped None [] []
nothing_grouped = record { to = λ n h. h; from = λ n h. h; there = λ n e. absurd (cc e) }

whole : (home : ModuleId) (m : Module) (imports : List Imported) →
    Outcome (TextResolves home imports m) (text_uses home imports m) (resolved (scope_of home m imports) m)
whole home (module_text h n ns is items) imports =
    let m = module_text h n ns is items in
    done (filled_items (scope_of home m imports) at_start items) _
    (items_outcome home m imports items [] at_start [] refl refl nothing_grouped) (λ items' j. TextResolves.a_text j)

text_is : (home : ModuleId) (m m' : Module) (imports : List Imported) → TextResolves home imports m m' →
    resolved (scope_of home m imports) m ≡ Ok m'
text_is home _ _ imports
    (TextResolves.a_text {h = h} {ns = ns} {n = n} {is = is} {items = items} {items' = items'} j) =
    let m = module_text h n ns is items in
    then_is (filled_items (scope_of home m imports) at_start items) _
    (items_are home m imports (start home n imports) items items' j [] at_start [] refl refl refl nothing_grouped)
    refl

pub resolved_by_the_text : ResolvedByTheText
resolved_by_the_text = record {
  text = λ home m n imports. (
    value_of (TextResolves home imports m) (text_uses home imports m) (resolved (scope_of home m imports) m) n
        (whole home m imports),
    text_is home m n imports,
  );
  fault = λ home m imports e. (
    fault_of (TextResolves home imports m) (text_uses home imports m) (resolved (scope_of home m imports) m) e
        (whole home m imports),
    faulty (TextResolves home imports m) (text_uses home imports m) (resolved (scope_of home m imports) m) e
        (whole home m imports),
  );
}
