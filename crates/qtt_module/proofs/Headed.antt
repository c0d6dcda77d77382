-- A family without its constructors, question by question within a budget.
use Rattle.std.proofs.Common.{◌≡◌, ℕ, List, [], ◌∷◌, length, take, drop, true, refl, sym, ap, subst, ◌∙◌}
use mathlib.Core.Path.{ap₂}
use Rattle.qtt_base.specs.declared.place.GlobalId.{GlobalId}
use Rattle.qtt_usage.specs.declared.mult.Mult.{Mult}
use Rattle.qtt_syntax.specs.Tree.{Tree, Param}
use Rattle.qtt_term.specs.declared.context.Ctx as code_ctx
use Rattle.qtt_term.specs.declared.term.Term as code
use Rattle.qtt_term.specs.Term.{Term}
use Rattle.qtt_term.specs.Entries.{Entries, env}
use Rattle.qtt_term.specs.Scope.{Scope, no_scope, scope_of}
use Rattle.qtt_term.specs.Telescopes.{tele}
use Rattle.qtt_term.specs.View.{terms}
use Rattle.qtt_rules.specs.declared.errors.ElabError.{ElabError}
use Rattle.qtt_rules.specs.Asks.{Asks}
use Rattle.qtt_bidi.specs.Answers.{Reaches, Refuses}
use Rattle.qtt_bidi.proofs.Within.{on, on_done, here, later, reached}
use Rattle.qtt_module.specs.Families.{Head, Opened, heading, pieces, end_of, parameters, behind_indices, indices, level}
use Rattle.qtt_module.specs.FamilyParts.{head, are_erased}
use Rattle.qtt_module.specs.FamilyView.{opened_behind}
use Rattle.qtt_module.proofs.Grown.{scope-same}

-- a context that is cut to so many names as stood in it before others were put behind them
module _ (before more cut : code_ctx.Ctx) (count : ℕ) (many : count ≡ length before.names.items)
    (vars : more.vars ≡ before.vars) (kept : take (length before.names.items) more.names.items ≡ before.names.items)
    (cut-vars : cut.vars ≡ more.vars) (cut-names : cut.names.items ≡ take count more.names.items) where
  pub names-back : cut.names.items ≡ before.names.items
  names-back = cut-names ∙ ap (λ i. take i more.names.items) many ∙ kept

  pub scope-back : scope_of cut ≡ scope_of before
  scope-back = scope-same cut before (cut-vars ∙ vars) names-back

pub none-erased : (vs : List (Mult × code.Term)) → length vs ≡ 0 → are_erased (tele vs) ≡ true
none-erased [] e = refl
none-erased (v ∷ vs) e = absurd (cc e)

abbrev opened_as : List (Mult × Term) → Scope → Opened
opened_as Θ S = record { binds = Θ; scope = S }

pub opened-back : (P Q : code_ctx.Ctx) → Q.vars ≡ P.vars → scope_of Q ≡ scope_of P →
    opened_behind 0 P ≡ opened_behind 0 Q
opened-back P Q v s = ap₂ opened_as (ap (λ vs. tele vs.items) (sym v)) (sym s)

module _ (G : Entries) (n : ℕ) (f : GlobalId) (M x : List ℕ) (ps : List Param) (t : Tree) (N : code_ctx.Ctx)
    (start : scope_of N ≡ no_scope) where
  abbrev whole : Asks Head
  whole = head G f M x ps t

  abbrev params_at : Scope → Asks Opened
  params_at S = parameters G x S ps

  pub params-refused : (e : ElabError) → Refuses (env G) n (params_at (scope_of N)) e → Refuses (env G) n whole e
  params-refused e h =
      here (env G) n (params_at no_scope) _ e (subst (λ S. Refuses (env G) n (params_at S) e) start h)

  module _ (P B : code_ctx.Ctx) (none : length N.vars.items ≡ 0)
      (h : Reaches (env G) n (params_at (scope_of N)) (opened_behind (length N.vars.items) P))
      (behind : scope_of B ≡ behind_indices (pieces t) (scope_of P)) (e : Tree) (E : e ≡ end_of t) where
    params-given : Reaches (env G) n (params_at no_scope) (opened_behind 0 P)
    params-given =
        subst (λ S. Reaches (env G) n (params_at S) (opened_behind 0 P)) start
        (subst (λ k. Reaches (env G) n (params_at (scope_of N)) (opened_behind k P)) none h)

    level-is : level G (scope_of B) e ≡ level G (behind_indices (pieces t) (scope_of P)) (end_of t)
    level-is = ap₂ (λ S e. level G S e) behind E

    pub level-refused : (r : ElabError) → Refuses (env G) n (level G (scope_of B) e) r → Refuses (env G) n whole r
    level-refused r k =
        later (env G) n (params_at no_scope) _ r params-given
        (here (env G) n (level G (behind_indices (pieces t) (scope_of P)) (end_of t)) _ r
        (subst (λ m. Refuses (env G) n m r) level-is k))

    module _ (l : ℕ) (k : Reaches (env G) n (level G (scope_of B) e) l) (C : code_ctx.Ctx)
        (back : scope_of C ≡ scope_of P) where
      level-given : Reaches (env G) n (level G (behind_indices (pieces t) (scope_of P)) (end_of t)) l
      level-given = subst (λ m. Reaches (env G) n m l) level-is k

      abbrev indices_at : Scope → Asks (List Term)
      indices_at S = indices G x S (pieces t)

      pub indices-refused : (r : ElabError) → Refuses (env G) n (indices_at (scope_of C)) r →
          Refuses (env G) n whole r
      indices-refused r i =
          later (env G) n (params_at no_scope) _ r params-given
          (later (env G) n (level G (behind_indices (pieces t) (scope_of P)) (end_of t)) _ r level-given
          (here (env G) n (indices_at (scope_of P)) _ r
          (subst (λ S. Refuses (env G) n (indices_at S) r) back i)))

      pub head-given : (ts us : List code.Term) → ts ≡ [] →
          Reaches (env G) n (indices_at (scope_of C)) (drop (length ts) (terms us)) → (Q : code_ctx.Ctx) →
          opened_behind 0 P ≡ opened_behind 0 Q → (y : List ℕ) → y ≡ x →
          Reaches (env G) n whole (heading f M y (opened_behind 0 Q) (terms us) l)
      head-given ts us none i Q q y same =
          let given : Reaches (env G) n (indices_at (scope_of P)) (terms us) =
          subst (λ S. Reaches (env G) n (indices_at S) (terms us)) back
          (subst (λ vs. Reaches (env G) n (indices_at (scope_of C)) (drop (length vs) (terms us))) none i) in
          reached (on _ params-given (on _ level-given (on _ given on_done)))
          (ap (λ O. heading f M x O (terms us) l) q
          ∙ ap (λ y. heading f M y (opened_behind 0 Q) (terms us) l) (sym same))
