-- The chains of types as phrases are the grammar, with the binder that is one too many in the tree.
use Rattle.std.proofs.Common.{◌≡◌, ℕ, zero, suc, Bool, true, false, cond, List, ◌∷◌, ◌++◌, Option, Some, None, refl, sym, ap, subst, ◌∙◌, inl, inr, codes}
use Rattle.qtt_base.specs.declared.place.Span.{Span}
use Rattle.qtt_base.specs.declared.limits.Quantity.TheVariants as quantity
use Rattle.qtt_syntax.specs.declared.expr.Mark.TheVariants.{Written}
use Rattle.qtt_usage.specs.declared.mult.Mult.{Mult}
use Rattle.qtt_usage.specs.declared.mult.Mult.TheVariants as mult
use Rattle.qtt_syntax.specs.declared.expr.Local.{Local}
use Rattle.qtt_syntax.specs.Tree.{Tree, Binder}
use Rattle.qtt_syntax.specs.Tree.Tree.{pi}
use Rattle.qtt_phrase.specs.Phrase.{Token, ◌then◌, Making, ◌or◌, Above, Placed, first}
use Rattle.qtt_phrase.proofs.Chained.{first-none}
use Rattle.qtt_grammar.specs.declared.class.Pass.TheVariants.{Counts, Free}
use Rattle.qtt_grammar.specs.declared.lexeme.Lexeme.{Lexeme}
use Rattle.qtt_grammar.specs.declared.stop.Excess.{Excess}
use Rattle.qtt_grammar.specs.Classes.{is_zero, is_arrow, is_colon, is_left_brace, is_right_brace, is_simple}
use Rattle.qtt_grammar.specs.Limits.{is_full, one_above}
use Rattle.qtt_grammar.specs.Grammar.{Says, of, place, Symbol, Opening, Locally, mult_of, Up_to, arrow_of, pi_of, implicit_of, second, Level, Typed, Lambda, Letting, Doing, IsApp, Arrow, Pi, IsExpr, Implicit, Shape_of, Simple_level, levels}
use Rattle.qtt_grammar.specs.Chain.{chain_excess}
use Rattle.qtt_grammar.specs.ChainReaders.{Pending, behind_type}
use Rattle.qtt_grammar.proofs.Faultless.{Faultless, FaultlessLevel, no_first, both_none, typed, lambda, letting, doing, app, hole_alone, simple_level, all_levels, opener, symbol, locally, tok}
use Rattle.qtt_grammar.proofs.Chains.{Chains, Codomain, PiStep, CodomainAt, ArrowChain, ExprChain, ImplicitStep, ChainLevel, Simple_chain, chains}

-- Two phrases are of the same tokens; what the second one says, without a fault, has to the first one's value and
-- fault the relation.
pub record Alike {A B : Type 0} (R : A → Option Excess → B → Type 0) (W : Says A) (G : Says B) : Type 0 where
  pub to : (us : List Lexeme) (a : A) (o : Option Excess) → W us a o → (b : B) × G us b None × R a o b
  pub back : (us : List Lexeme) (b : B) → G us b None → (a : A) × (o : Option Excess) × W us a o × R a o b

pub none_from : (j k o : Option Excess) → j ≡ None → first j k ≡ o → k ≡ o
none_from None k o e f = f
none_from (Some x) k o e f = absurd cc

pub alike_then : {A B C : Type 0} {R : A → Option Excess → B → Type 0} {P : Says C} {W : Says A} {G : Says B} →
    Faultless P → Alike R W G →
    Alike (λ (c : C × A) o (e : C × B). (c.0 ≡ e.0) × R c.1 o e.1) (P then W) (P then G)
alike_then {R} {P} {W} {G} p a = record {
  to = λ us c o m.
      let t = a.to m.1 c.1 m.3 m.6 in
      let fault = p.at m.0 c.0 m.2 m.5 in (
        (c.0, t.0),
        (m.0, m.1, None, None, m.4, subst (λ (z : Option Excess). P m.0 c.0 z) fault m.5, t.1, refl),
        (refl, subst (λ (z : Option Excess). R c.1 z t.0) (none_from m.2 m.3 o fault m.7) t.2),
      );
  back = λ us e m.
      let faults = both_none m.2 m.3 m.7 in
      let t = a.back m.1 e.1 (subst (λ (z : Option Excess). G m.1 e.1 z) faults.1 m.6) in (
        (e.0, t.0),
        t.1,
        (
          m.0,
          m.1,
          None,
          t.1,
          m.4,
          subst (λ (z : Option Excess). P m.0 e.0 z) faults.0 m.5,
          t.2,
          refl,
        ),
        (refl, t.3),
      );
}

-- the same with a phrase behind
pub alike_before : {A B C : Type 0} {R : A → Option Excess → B → Type 0} {P : Says C} {W : Says A} {G : Says B} →
    Faultless P → Alike R W G → Alike (λ (c : A × C) o (e : B × C). R c.0 o e.0) (W then P) (G then P)
alike_before {R} {P} {W} {G} p a = record {
  to = λ us c o m.
      let t = a.to m.0 c.0 m.2 m.5 in
      let fault = p.at m.1 c.1 m.3 m.6 in (
        (t.0, c.1),
        (m.0, m.1, None, None, m.4, t.1, subst (λ (z : Option Excess). P m.1 c.1 z) fault m.6, refl),
        subst (λ (z : Option Excess). R c.0 z t.0) (none_behind m.2 m.3 o fault m.7) t.2,
      );
  back = λ us e m.
      let faults = both_none m.2 m.3 m.7 in
      let t = a.back m.0 e.0 (subst (λ (z : Option Excess). G m.0 e.0 z) faults.0 m.5) in (
        (t.0, e.1),
        t.1,
        (
          m.0,
          m.1,
          t.1,
          None,
          m.4,
          t.2,
          subst (λ (z : Option Excess). P m.1 e.1 z) faults.1 m.6,
          first-none t.1,
        ),
        t.3,
      );
}
  where
    none_behind : (j k o : Option Excess) → k ≡ None → first j k ≡ o → j ≡ o
    none_behind None k o e f = sym e ∙ f
    none_behind (Some x) k o e f = f

-- values made of those of the first phrase, and of the second
pub alike_left : {A B C : Type 0} {R : A → Option Excess → B → Type 0} {S : C → Option Excess → B → Type 0}
    {W : Says A} {G : Says B} (f : A → C) → ((a : A) (o : Option Excess) (b : B) → R a o b → S (f a) o b) →
    Alike R W G → Alike S (Making f W) G
alike_left {S} f turn a = record {
  to = λ us c o m. let t = a.to us m.0 o m.1 in (t.0, t.1, subst (λ (z : _). S z o t.0) m.2 (turn m.0 o t.0 t.2));
  back = λ us b m. let t = a.back us b m in (f t.0, t.1, (t.0, t.2, refl), turn t.0 t.1 b t.3);
}

pub alike_right : {A B C : Type 0} {R : A → Option Excess → B → Type 0} {S : A → Option Excess → C → Type 0}
    {W : Says A} {G : Says B} (f : B → C) → ((a : A) (o : Option Excess) (b : B) → R a o b → S a o (f b)) →
    Alike R W G → Alike S W (Making f G)
alike_right {S} f turn a = record {
  to = λ us v o m. let t = a.to us v o m in (f t.0, (t.0, t.1, refl), turn v o t.0 t.2);
  back = λ us c m. let t = a.back us m.0 m.1 in
      (t.0, t.1, t.2, subst (λ (z : _). S t.0 t.1 z) m.2 (turn t.0 t.1 m.0 t.3));
}

to_case : {A B : Type 0} {R : A → Option Excess → B → Type 0} {W V : Says A} {G H : Says B} → Alike R W G →
    Alike R V H → (us : List Lexeme) (a : A) (o : Option Excess) → (W or V) us a o →
    (b : B) × (G or H) us b None × R a o b
to_case x y us a o (inl m) = let t = x.to us a o m in (t.0, inl t.1, t.2)
to_case x y us a o (inr m) = let t = y.to us a o m in (t.0, inr t.1, t.2)

back_case : {A B : Type 0} {R : A → Option Excess → B → Type 0} {W V : Says A} {G H : Says B} → Alike R W G →
    Alike R V H → (us : List Lexeme) (b : B) → (G or H) us b None →
    (a : A) × (o : Option Excess) × (W or V) us a o × R a o b
back_case x y us b (inl m) = let t = x.back us b m in (t.0, t.1, inl t.2, t.3)
back_case x y us b (inr m) = let t = y.back us b m in (t.0, t.1, inr t.2, t.3)

pub alike_or : {A B : Type 0} {R : A → Option Excess → B → Type 0} {W V : Says A} {G H : Says B} → Alike R W G →
    Alike R V H → Alike R (W or V) (G or H)
alike_or x y = record { to = to_case x y; back = back_case x y }

-- a phrase alone, of whose values a fact holds
pub alike_alone : {A B : Type 0} {R : A → Option Excess → B → Type 0} {G : Says B} (f : B → A) → Faultless G →
    ((us : List Lexeme) (b : B) → G us b None → R (f b) None b) → Alike R (Making f G) G
alike_alone {R} {G} f g fact = record {
  to = λ us a o m.
      let fault = g.at us m.0 o m.1 in
      let n = subst (λ (z : Option Excess). G us m.0 z) fault m.1 in (
        m.0,
        n,
        subst (λ (z : Option Excess). R a z m.0) (sym fault)
            (subst (λ (z : _). R z None m.0) m.2 (fact us m.0 n)),
      );
  back = λ us b m. (f b, None, (b, m, refl), fact us b m);
}

-- ---- a binder that may be one too many

when_true : {A : Type 0} (b : Bool) (x y : A) → b ≡ true → cond b x y ≡ x
when_true true x y e = refl
when_true false x y e = absurd cc

when_false : {A : Type 0} (b : Bool) (x y : A) → b ≡ false → cond b x y ≡ y
when_false true x y e = absurd cc
when_false false x y e = refl

-- the chain's excess at a tree that is a binder and what stands behind it
abbrev binder_excess : ℕ → Span → Tree → Option Excess
binder_excess n s u = cond (is_full Counts quantity.Parts n) (Some (one_above quantity.Parts s))
    (chain_excess (suc n) u)

-- what has the first excess of the chain: the fault, or else the value
abbrev pub Chained : {B : Type 0} → ℕ → (B → Tree) → Pending → Option Excess → B → Type 0
Chained n tree d o b = chain_excess n (tree b) ≡ first o d

module _ {B : Type 0} (n : ℕ) (tree body : B → Tree) (Step : Says Pending) (G : Says B)
    (step : Alike (Chained (suc n) body) Step G)
    (heads : (us : List Lexeme) (b : B) → G us b None →
    (x : Lexeme) × (r : List Lexeme) × (us ≡ x ∷ r) ×
    (chain_excess n (tree b) ≡ binder_excess n x.place (body b))) where
  full_to : (us : List Lexeme) (d : Pending) (o : Option Excess) → is_full Counts quantity.Parts n ≡ true →
      Above (λ x. one_above quantity.Parts x.place) Step us d o → (b : B) × G us b None × Chained n tree d o b
  full_to us d o e (x, r, q, parts, m, fault) =
      let t = step.to us d q m in
      let h = heads us t.0 t.1 in
      let same : h.0 ≡ x = (let w : h.0 ∷ h.1 ≡ x ∷ r = sym h.2 ∙ parts in cc) in (
        t.0,
        t.1,
        h.3 ∙ when_true (is_full Counts quantity.Parts n) (Some (one_above quantity.Parts h.0.place))
            (chain_excess (suc n) (body t.0)) e ∙
            ap (λ (z : Lexeme). first (Some (one_above quantity.Parts z.place)) d) same ∙
            ap (λ (z : Option Excess). first z d) fault,
      )

  full_back : (us : List Lexeme) (b : B) → is_full Counts quantity.Parts n ≡ true → G us b None →
      (d : Pending) × (o : Option Excess) × Above (λ x. one_above quantity.Parts x.place) Step us d o ×
      Chained n tree d o b
  full_back us b e m =
      let t = step.back us b m in
      let h = heads us b m in (
        t.0,
        Some (one_above quantity.Parts h.0.place),
        (h.0, h.1, t.1, h.2, t.2, refl),
        h.3 ∙ when_true (is_full Counts quantity.Parts n)
            (Some (one_above quantity.Parts h.0.place)) (chain_excess (suc n) (body b)) e,
      )

  below_to : (us : List Lexeme) (d : Pending) (o : Option Excess) → is_full Counts quantity.Parts n ≡ false →
      Step us d o → (b : B) × G us b None × Chained n tree d o b
  below_to us d o e m =
      let t = step.to us d o m in
      let h = heads us t.0 t.1 in (
        t.0,
        t.1,
        h.3 ∙ when_false (is_full Counts quantity.Parts n) (Some (one_above quantity.Parts h.0.place))
            (chain_excess (suc n) (body t.0)) e ∙ t.2,
      )

  below_back : (us : List Lexeme) (b : B) → is_full Counts quantity.Parts n ≡ false → G us b None →
      (d : Pending) × (o : Option Excess) × Step us d o × Chained n tree d o b
  below_back us b e m =
      let t = step.back us b m in
      let h = heads us b m in (
        t.0,
        t.1,
        t.2,
        h.3 ∙ when_false (is_full Counts quantity.Parts n)
            (Some (one_above quantity.Parts h.0.place)) (chain_excess (suc n) (body b)) e ∙ t.3,
      )

  counted_case : (v : Bool) → is_full Counts quantity.Parts n ≡ v →
      Alike (Chained n tree) (cond v (Above (λ x. one_above quantity.Parts x.place) Step) Step) G
  counted_case true e = record { to = λ us d o m. full_to us d o e m; back = λ us b m. full_back us b e m }
  counted_case false e = record { to = λ us d o m. below_to us d o e m; back = λ us b m. below_back us b e m }

  alike_counted : Alike (Chained n tree) (Up_to Counts quantity.Parts n Step) G
  alike_counted = counted_case (is_full Counts quantity.Parts n) refl

-- ---- the productions

-- chains of a level and the level's trees
pub record Trees (C : Chains) (L : Level) : Type 0 where
  pub expr : (n : ℕ) → Alike (Chained n (λ t. t)) (C.expr n) (L.expr false)
  pub typing : (n : ℕ) → Alike (Chained n (λ t. t)) (C.typing n) L.typing

module _ (may : Bool) (L : Level) (C : Chains) (free : FaultlessLevel L) (inner : Trees C L) where
  codomain : (n : ℕ) → Alike (Chained (suc n) (λ (e : Span × Tree). e.1)) (Codomain may L C n)
      (Opening may is_arrow then L.expr false)
  codomain n = alike_left second (λ a o b r. r.1) (alike_then (opener may is_arrow) (inner.expr (suc n)))

  abbrev Binders : Says (Binder × (Span × Tree))
  Binders = Typed Free may L then Opening may is_arrow then L.expr false

  pi_step : (n : ℕ) → Alike (Chained (suc n) (λ (e : Binder × (Span × Tree)). e.1.1)) (PiStep may L C n) Binders
  pi_step n = alike_left second (λ a o b r. r.1) (alike_then (typed may L free) (codomain n))

  pi_heads : (n : ℕ) (us : List Lexeme) (e : Binder × (Span × Tree)) → Binders us e None →
      (x : Lexeme) × (r : List Lexeme) × (us ≡ x ∷ r) × (chain_excess n (pi_of e) ≡ binder_excess n x.place e.1.1)
  pi_heads n us (b, (s, u))
      (ws, vs, j, k, parts, (raw, (as', bs, i, l, begun, (y, one, op, v, oy), more, f1), made), rest, f) = (
        y,
        bs ++ vs,
        parts ∙ ap (λ (z : List Lexeme). z ++ vs) (begun ∙ ap (λ (z : List Lexeme). z ++ bs) one),
        sym (ap (λ (z : Binder). chain_excess n (pi_of (z, (s, u)))) made) ∙
            sym (ap (λ (z : Span). binder_excess n z u) v),
      )

  pi_chain : (n : ℕ) → Alike (Chained n (λ t. t)) (Up_to Counts quantity.Parts n (PiStep may L C n)) (Pi Free may L)
  pi_chain n = alike_right pi_of (λ a o b r. r)
      (alike_counted n pi_of (λ e. e.1.1) (PiStep may L C n) Binders (pi_step n) (pi_heads n))

  -- behind an application that stands at a place
  module _ (n : ℕ) (s : Span) (t : Tree) where
    abbrev Behind : Pending → Option Excess → Span × Tree → Type 0
    Behind = Chained n (λ (e : Span × Tree). pi Written mult.Many (codes "_") t e.1 s)

    behind_case : (v : Bool) → is_full Counts quantity.Parts n ≡ v →
        Alike Behind (cond v (Above (λ _. one_above quantity.Parts s) (Codomain may L C n)) (Codomain may L C n))
        (Opening may is_arrow then L.expr false)
    behind_case true e = record {
      to = λ us d o m.
          let a = (codomain n).to us d m.2 m.4 in (
            a.0,
            a.1,
            when_true (is_full Counts quantity.Parts n) (Some (one_above quantity.Parts s))
                (chain_excess (suc n) a.0.1) e ∙ ap (λ (z : Option Excess). first z d) m.5,
          );
      back = λ us b m.
          let a = (codomain n).back us b m in (
            a.0,
            Some (one_above quantity.Parts s),
            (m.5.0, m.1, a.1, m.4 ∙ ap (λ (z : List Lexeme). z ++ m.1) m.5.1, a.2, refl),
            when_true (is_full Counts quantity.Parts n) (Some (one_above quantity.Parts s))
                (chain_excess (suc n) b.1) e,
          );
    }
    behind_case false e = record {
      to = λ us d o m. let a = (codomain n).to us d o m in (
        a.0,
        a.1,
        when_false (is_full Counts quantity.Parts n) (Some (one_above quantity.Parts s))
            (chain_excess (suc n) a.0.1) e ∙ a.2,
      );
      back = λ us b m. let a = (codomain n).back us b m in (
        a.0,
        a.1,
        a.2,
        when_false (is_full Counts quantity.Parts n) (Some (one_above quantity.Parts s))
            (chain_excess (suc n) b.1) e ∙ a.3,
      );
    }

    codomain_at : Alike Behind (CodomainAt may L C n s) (Opening may is_arrow then L.expr false)
    codomain_at = behind_case (is_full Counts quantity.Parts n) refl

  placed_free : (us : List Lexeme) (c : Span × Tree) (j : Option Excess) →
      Placed place (IsApp Free may L) us c j → j ≡ None
  placed_free us c j m = (app may L free).at us c.1 j m.4

  arrow_to : (n : ℕ) (us : List Lexeme) (d : Pending) (o : Option Excess) → ArrowChain may L C n us d o →
      (t : Tree) × Arrow Free may L us t None × Chained n (λ t. t) d o t
  arrow_to n us d o (((s, t), b), (ws, vs, j, k, e, placed, inl (none, v, h), f), made) =
      let fault = placed_free ws (s, t) j placed in
      let placed_none = subst (λ (z : Option Excess). Placed place (IsApp Free may L) ws (s, t) z) fault placed in
      let fault_none : o ≡ None = sym f ∙ no_first j k fault (sym h) in (
        t,
        (((s, t), None), (ws, vs, None, None, e, placed_none, inl (none, refl, refl), refl), refl),
        v ∙ made ∙ sym (ap (λ (z : Option Excess). first z d) fault_none),
      )
  arrow_to n us d o (((s, t), b), (ws, vs, j, k, e, placed, inr m, f), made) =
      let fault = placed_free ws (s, t) j placed in
      let placed_none = subst (λ (z : Option Excess). Placed place (IsApp Free may L) ws (s, t) z) fault placed in
      let a = (codomain_at n s t).to vs b k m in (
        pi Written mult.Many (codes "_") t a.0.1 s,
        (((s, t), Some a.0.1), (ws, vs, None, None, e, placed_none, inr (a.0, a.1, refl), refl), refl),
        a.2 ∙ ap (λ (z : Option Excess). first z b) (none_from j k o fault f) ∙
            ap (λ (z : Pending). first o z) made,
      )

  arrow_back : (n : ℕ) (us : List Lexeme) (t : Tree) → Arrow Free may L us t None →
      (d : Pending) × (o : Option Excess) × ArrowChain may L C n us d o × Chained n (λ t. t) d o t
  arrow_back n us t (((s, u), r), (ws, vs, j, k, e, placed, inl (none, v, h), f), made) =
      let fault = placed_free ws (s, u) j placed in
      let placed_none = subst (λ (z : Option Excess). Placed place (IsApp Free may L) ws (s, u) z) fault placed in
      let same : u ≡ t = ap (λ (z : Option Tree). arrow_of ((s, u), z)) v ∙ made in (
        chain_excess n u,
        None,
        (
          ((s, u), chain_excess n u),
          (ws, vs, None, None, e, placed_none, inl (none, refl, refl), refl),
          refl,
        ),
        ap (chain_excess n) (sym same),
      )
  arrow_back n us t (((s, u), r), (ws, vs, j, k, e, placed, inr (c, m, w), f), made) =
      let faults = both_none j k f in
      let placed_none = subst (λ (z : Option Excess). Placed place (IsApp Free may L) ws (s, u) z) faults.0 placed in
      let a = (codomain_at n s u).back vs c
      (subst (λ (z : Option Excess). (Opening may is_arrow then L.expr false) vs c z) faults.1 m) in
      let same : pi Written mult.Many (codes "_") u c.1 s ≡ t =
      ap (λ (z : Option Tree). arrow_of ((s, u), z)) w ∙ made in (
        a.0,
        a.1,
        (((s, u), a.0), (ws, vs, None, a.1, e, placed_none, inr a.2, refl), refl),
        ap (chain_excess n) (sym same) ∙ a.3,
      )

  let_chain : (n : ℕ) (us : List Lexeme) (t : Tree) → Letting Free may L false us t None →
      Chained n (λ t. t) None None t
  let_chain n us t (((s, (m, (x, (a, e)))), (z, b)), h, made) = ap (chain_excess n) (sym made)

  lambda_chain : (n : ℕ) (us : List Lexeme) (t : Tree) → Lambda Free may L false us t None →
      Chained n (λ t. t) None None t
  lambda_chain n us t ((s, ((b, more), (z, body))), h, made) = ap (chain_excess n) (sym made)

  do_chain : (n : ℕ) (us : List Lexeme) (t : Tree) → Doing Free may L false us t None → Chained n (λ t. t) None None t
  do_chain n us t ((s, (z, ((b, more), c))), h, made) = ap (chain_excess n) (sym made)

  expr_chain : (n : ℕ) → Alike (Chained n (λ t. t)) (ExprChain may L C n) (IsExpr Free may L false)
  expr_chain n =
      alike_or (alike_alone (λ _. None) (letting may L free false) (let_chain n))
      (alike_or (alike_alone (λ _. None) (hole_alone may L free false)
      (λ us t m. ap (chain_excess n) (sym m.3)))
      (alike_or (alike_alone (λ _. None) (lambda may L free false) (lambda_chain n))
      (alike_or (alike_alone (λ _. None) (doing may L free false) (do_chain n))
      (alike_or (pi_chain n) (record { to = arrow_to n; back = arrow_back n })))))

  abbrev Braced_parts : Type 0
  Braced_parts = Span × (Mult × (Local × (Span × (Tree × (Span × (Span × Tree))))))

  abbrev Braces : Says Braced_parts
  Braces = Opening may is_left_brace then Token (of is_zero) (λ x. mult_of x.class) then Locally is_simple
      then Symbol is_colon then L.expr false then Symbol is_right_brace then Opening may is_arrow then L.typing

  implicit_step : (n : ℕ) →
      Alike (Chained (suc n) (λ (e : Braced_parts). e.1.1.1.1.1.1.1)) (ImplicitStep may L C n) Braces
  implicit_step n =
      alike_left behind_type (λ a o b r. r.1.1.1.1.1.1.1)
      (alike_then (opener may is_left_brace)
      (alike_then (tok (of is_zero) (λ x. mult_of x.class))
      (alike_then (locally is_simple)
      (alike_then (symbol is_colon)
      (alike_then (free.expr false)
      (alike_then (symbol is_right_brace) (alike_then (opener may is_arrow) (inner.typing (suc n)))))))))

  implicit_heads : (n : ℕ) (us : List Lexeme) (e : Braced_parts) → Braces us e None →
      (x : Lexeme) × (r : List Lexeme) × (us ≡ x ∷ r) ×
      (chain_excess n (implicit_of e) ≡ binder_excess n x.place e.1.1.1.1.1.1.1)
  implicit_heads n us e (ws, vs, j, k, parts, (y, one, op, v, oy), rest, f) = (
    y,
    vs,
    parts ∙ ap (λ (z : List Lexeme). z ++ vs) one,
    sym (ap (λ (z : Span). binder_excess n z e.1.1.1.1.1.1.1) v),
  )

  implicit_chain : (n : ℕ) → Alike (Chained n (λ t. t)) (Up_to Counts quantity.Parts n (ImplicitStep may L C n))
      (Implicit Free may L)
  implicit_chain n = alike_right implicit_of (λ a o b r. r)
      (alike_counted n implicit_of (λ e. e.1.1.1.1.1.1.1) (ImplicitStep may L C n) Braces (implicit_step n)
      (implicit_heads n))

  pub level_trees : Trees (ChainLevel may L C) (Shape_of Free may L)
  level_trees = record { expr = expr_chain; typing = λ n. alike_or (implicit_chain n) (expr_chain n) }

simple_trees : Trees Simple_chain Simple_level
simple_trees = record {
  expr = λ n. alike_alone (λ _. None) simple_level.typing (λ us t m. ap (chain_excess n) (sym m.2));
  typing = λ n. alike_alone (λ _. None) simple_level.typing (λ us t m. ap (chain_excess n) (sym m.2));
}

pub chains_trees : (d : ℕ) → Trees (chains d) (levels Free d)
unfolding chains levels
chains_trees zero = level_trees false Simple_level Simple_chain simple_level simple_trees
chains_trees (suc d) = level_trees true (levels Free d) (chains d) (all_levels d) (chains_trees d)
