-- A chain that leaves something open goes on to one that leaves nothing open.
use Rattle.std.proofs.Common.{◌≡◌, ℕ, zero, suc, Bool, true, false, cond, List, [], ◌∷◌, ◌++◌, Option, None, refl, sym, ap, subst, ◌∙◌, append_assoc, inl, inr, ◌⊎◌, codes}
use Rattle.std.proofs.lemmas.List.{append-nil}
use Rattle.qtt_base.specs.declared.place.Span.{Span}
use Rattle.qtt_base.specs.declared.limits.Quantity.TheVariants as quantity
use Rattle.qtt_syntax.specs.Tree as tree
use Rattle.qtt_syntax.specs.Tree.{Tree}
use Rattle.qtt_syntax.specs.Tree.Tree.{name}
use Rattle.qtt_phrase.specs.Phrase.{◌then◌, Making, ◌or◌, Above, Placed, first}
use Rattle.qtt_grammar.specs.declared.class.Class.TheVariants as class
use Rattle.qtt_grammar.specs.declared.class.Pass.TheVariants.{Counts, Free}
use Rattle.qtt_grammar.specs.declared.lexeme.Lexeme.{Lexeme}
use Rattle.qtt_grammar.specs.declared.stop.Excess.{Excess}
use Rattle.qtt_grammar.specs.Lexeme.{word}
use Rattle.qtt_grammar.specs.Limits.{is_full, one_above}
use Rattle.qtt_grammar.specs.Grammar.{Says, place, named_of, app_of, written_of, second, IsApp, Level, Simple_level, levels}
use Rattle.qtt_grammar.specs.Chain.{chain_excess}
use Rattle.qtt_grammar.specs.ChainReaders.{Pending, behind_type}
use Rattle.qtt_grammar.proofs.Chains.{Chains, Unchained, Codomain, PiStep, CodomainAt, ArrowChain, ExprChain, ImplicitStep, ChainLevel, Simple_chain, chains}

-- with more tokens the phrase leaves nothing open and has the same fault
pub record Ends {A : Type 0} (f : A → Pending) (P : Says A) : Type 0 where
  pub goes_on : (us : List Lexeme) (a : A) (o : Option Excess) → P us a o →
      (more : List Lexeme) × (b : A) × P (us ++ more) b o × (f b ≡ None)

abbrev pub Closes : Says Pending → Type 0
Closes = Ends (λ d. d)

ends_then : {A B : Type 0} (P : Says A) {Q : Says B} (f : B → Pending) → Ends f Q →
    Ends (λ (c : A × B). f c.1) (P then Q)
ends_then P f q = record {
  goes_on = λ us c o m. let n = q.goes_on m.1 c.1 m.3 m.6 in (
    n.0,
    (c.0, n.1),
    (
      m.0,
      m.1 ++ n.0,
      m.2,
      m.3,
      ap (λ (z : List Lexeme). z ++ n.0) m.4 ∙
          append_assoc m.0 m.1 n.0,
      m.5,
      n.2,
      m.7,
    ),
    n.3,
  );
}

ends_making : {A B : Type 0} {P : Says A} (g : A → B) (f : B → Pending) → Ends (λ (a : A). f (g a)) P →
    Ends f (Making g P)
ends_making g f p = record
    { goes_on = λ us b o m. let n = p.goes_on us m.0 o m.1 in (n.0, g n.1, (n.1, n.2, refl), n.3) }

ends_above : {A : Type 0} {P : Says A} (fault : Lexeme → Excess) (f : A → Pending) → Ends f P → Ends f (Above fault P)
ends_above fault f p = record {
  goes_on = λ us a o m. let n = p.goes_on us a m.2 m.4 in
      (n.0, n.1, (m.0, m.1 ++ n.0, m.2, ap (λ (z : List Lexeme). z ++ n.0) m.3, n.2, m.5), n.3);
}

either_case : {P Q : Says Pending} → Closes P → Closes Q → (us : List Lexeme) (a : Pending) (o : Option Excess) →
    (P or Q) us a o → (more : List Lexeme) × (b : Pending) × (P or Q) (us ++ more) b o × (b ≡ None)
either_case p q us a o (inl m) = let n = p.goes_on us a o m in (n.0, n.1, inl n.2, n.3)
either_case p q us a o (inr m) = let n = q.goes_on us a o m in (n.0, n.1, inr n.2, n.3)

ends_either : {P Q : Says Pending} → Closes P → Closes Q → Closes (P or Q)
ends_either p q = record { goes_on = either_case p q }

ends_cond : (b : Bool) {P : Says Pending} (fault : Lexeme → Excess) → Closes P → Closes (cond b (Above fault P) P)
ends_cond true fault p = ends_above fault (λ d. d) p
ends_cond false fault p = p

ends_here : {A : Type 0} (P : Says A) → Closes (Unchained P)
ends_here P = record {
  goes_on = λ us d o m.
      ([], d, subst (λ (z : List Lexeme). Unchained P z d o) (sym (append-nil us)) m, sym m.2);
}

abbrev some_name : Lexeme
some_name = word class.Small (record { line = 0; col = 0; len = 0 }) (codes "a")

app_none : (n : ℕ) (s : Span) (t : Tree) (l : List tree.Argument) → chain_excess n t ≡ None →
    chain_excess n (app_of s t l) ≡ None
app_none n s t [] e = e
app_none n s t (a ∷ more) e = refl

module _ (may : Bool) (L : Level) where
  -- an application that may be a function type in brackets may be given an argument
  abbrev Extends : ℕ → List Lexeme → Tree → Option Excess → Type 0
  Extends n ws t j = (chain_excess n t ≡ None) ⊎
      ((u : Tree) × IsApp Free may L (ws ++ some_name ∷ []) u j × (chain_excess n u ≡ None))

  app_extends : (n : ℕ) (ws : List Lexeme) (t : Tree) (j : Option Excess) → IsApp Free may L ws t j → Extends n ws t j
  app_extends n ws t j (inl ((s, (f, a)), m, made)) = inl (sym (ap (chain_excess n) made))
  app_extends n ws t j (inr (inl ((k, (braces, atoms)), m, made))) =
      inl (sym (ap (chain_excess n) made) ∙ app_none n k.span (name k) (braces ++ atoms) refl)
  app_extends n ws t j (inr (inr ((s, (f, a ∷ more)), m, made))) = inl (sym (ap (chain_excess n) made))
  app_extends n ws t j (inr (inr ((s, (f, [])), (y, r, e, v, (us, vs, i, k, parts, atom, none, faults)), made))) =
      let x = some_name in
      let a = written_of (name (named_of x)) in
      let way : ws ++ x ∷ [] ≡ us ++ x ∷ [] =
      ap (λ (z : List Lexeme). z ++ x ∷ []) (parts ∙ ap (λ (z : List Lexeme). us ++ z) none.0 ∙ append-nil us)
      in
      let fault : first i None ≡ j = ap (λ (z : Option Excess). first i z) none.1 ∙ faults in
      inr (
        app_of s f (a ∷ []),
        inr (inr (
          (s, (f, a ∷ [])),
          (
            y,
            r ++ x ∷ [],
            ap (λ (z : List Lexeme). z ++ x ∷ []) e,
            v,
            (
              us,
              x ∷ [],
              i,
              None,
              way,
              atom,
              (
                x ∷ [],
                [],
                None,
                None,
                refl,
                (name (named_of x), inl (named_of x, (x, refl, refl, refl, refl), refl), refl),
                (refl, refl),
                refl,
              ),
              fault,
            ),
          ),
          refl,
        )),
        refl,
      )

-- all chains of a level
pub record ChainsEnd (C : Chains) : Type 0 where
  pub expr : (n : ℕ) → Closes (C.expr n)
  pub typing : (n : ℕ) → Closes (C.typing n)

module _ (may : Bool) (L : Level) (C : Chains) (inner : ChainsEnd C) where
  codomain_ends : (n : ℕ) → Closes (Codomain may L C n)
  codomain_ends n = ends_making second (λ d. d) (ends_then _ (λ d. d) (inner.expr (suc n)))

  pi_ends : (n : ℕ) → Closes (PiStep may L C n)
  pi_ends n = ends_making second (λ d. d) (ends_then _ (λ d. d) (codomain_ends n))

  codomain_at_ends : (n : ℕ) (s : Span) → Closes (CodomainAt may L C n s)
  codomain_at_ends n s = ends_cond (is_full Counts quantity.Parts n) (λ _. one_above quantity.Parts s) (codomain_ends n)

  abbrev Goes : ℕ → List Lexeme → Option Excess → Type 0
  Goes n us o = (more : List Lexeme) × (b : Pending) × ArrowChain may L C n (us ++ more) b o × (b ≡ None)

  arrow_alone : (n : ℕ) (us ws : List Lexeme) (c : Span × Tree) (j k o : Option Excess) → us ≡ ws →
      Placed place (IsApp Free may L) ws c j → None ≡ k → first j k ≡ o → Extends may L n ws c.1 j → Goes n us o
  arrow_alone n us ws c j k o e placed none faults (inl here) = (
    [],
    chain_excess n c.1,
    (
      (c, chain_excess n c.1),
      (ws, [], j, k, ap (λ (z : List Lexeme). z ++ []) e, placed, inl (refl, refl, none), faults),
      refl,
    ),
    here,
  )
  arrow_alone n us ws c j k o e (y, r, parts, v, m) none faults (inr (u, app, here)) = (
    some_name ∷ [],
    chain_excess n u,
    (
      ((c.0, u), chain_excess n u),
      (
        ws ++ some_name ∷ [],
        [],
        j,
        k,
        ap (λ (z : List Lexeme). z ++ some_name ∷ []) e ∙
            sym (append-nil (ws ++ some_name ∷ [])),
        (y, r ++ some_name ∷ [], ap (λ (z : List Lexeme). z ++ some_name ∷ []) parts, v, app),
        inl (refl, refl, none),
        faults,
      ),
      refl,
    ),
    here,
  )

  arrow_case : (n : ℕ) (us : List Lexeme) (d : Pending) (o : Option Excess) → ArrowChain may L C n us d o → Goes n us o
  arrow_case n us d o ((c, b), (ws, vs, j, k, e, placed, inl (none, v, f), faults), made) =
      arrow_alone n us ws c j k o (e ∙ ap (λ (z : List Lexeme). ws ++ z) none ∙ append-nil ws) placed f faults
      (app_extends may L n ws c.1 j placed.4)
  arrow_case n us d o ((c, b), (ws, vs, j, k, e, placed, inr m, faults), made) =
      let t = (codomain_at_ends n c.0).goes_on vs b k m in (
        t.0,
        t.1,
        (
          (c, t.1),
          (
            ws,
            vs ++ t.0,
            j,
            k,
            ap (λ (z : List Lexeme). z ++ t.0) e ∙ append_assoc ws vs t.0,
            placed,
            inr t.2,
            faults,
          ),
          refl,
        ),
        t.3,
      )

  expr_ends : (n : ℕ) → Closes (ExprChain may L C n)
  expr_ends n =
      ends_either (ends_here _)
      (ends_either (ends_here _)
      (ends_either (ends_here _)
      (ends_either (ends_here _)
      (ends_either (ends_cond (is_full Counts quantity.Parts n) (λ x. one_above quantity.Parts x.place)
      (pi_ends n)) (record { goes_on = arrow_case n })))))

  implicit_ends : (n : ℕ) → Closes (ImplicitStep may L C n)
  implicit_ends n =
      let one = ends_then _ (λ d. d) (inner.typing (suc n)) in
      ends_making behind_type (λ d. d)
      (ends_then _ (λ c. c.1.1.1.1.1.1)
      (ends_then _ (λ c. c.1.1.1.1.1)
      (ends_then _ (λ c. c.1.1.1.1)
      (ends_then _ (λ c. c.1.1.1) (ends_then _ (λ c. c.1.1) (ends_then _ (λ c. c.1) one))))))

  pub level_ends : ChainsEnd (ChainLevel may L C)
  level_ends = record {
    expr = expr_ends;
    typing = λ n. ends_either
        (ends_cond (is_full Counts quantity.Parts n) (λ x. one_above quantity.Parts x.place) (implicit_ends n))
        (expr_ends n);
  }

pub chains_end : (d : ℕ) → ChainsEnd (chains d)
unfolding chains
chains_end zero = level_ends false Simple_level Simple_chain
    (record { expr = λ n. ends_here (Simple_level.expr false); typing = λ n. ends_here Simple_level.typing })
chains_end (suc d) = level_ends true (levels Free d) (chains d) (chains_end d)
