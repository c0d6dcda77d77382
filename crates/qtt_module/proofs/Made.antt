-- A constructor that was made of its fields and its results, within a budget.
use Rattle.std.proofs.Common.{◌≡◌, ℕ, ◌-◌, List, length, map, drop, sym, ap, subst, ◌∙◌, arith}
use Rattle.std.proofs.lemmas.List.{length-drop, drop-map}
use mathlib.Core.Path.{ap₂}
use Rattle.qtt_base.specs.declared.place.Span.{Span}
use Rattle.qtt_usage.specs.declared.mult.Mult.{Mult}
use Rattle.qtt_syntax.specs.Tree.{Tree}
use Rattle.qtt_syntax.specs.Tree.Con.{con}
use Rattle.qtt_term.specs.declared.context.Ctx as code_ctx
use Rattle.qtt_term.specs.declared.items.Constructor as code_constructor
use Rattle.qtt_term.specs.declared.term.Term as code
use Rattle.qtt_term.specs.Term.{Terms}
use Rattle.qtt_term.specs.Entries.{Entries, env}
use Rattle.qtt_term.specs.Items.{ConstructorEntry, constructor_entry, field}
use Rattle.qtt_term.specs.Scope.{Scope, scope_of}
use Rattle.qtt_term.specs.Telescopes.{tele}
use Rattle.qtt_term.specs.View.{term, terms, side_by_side}
use Rattle.qtt_rules.specs.declared.errors.ElabError.{ElabError}
use Rattle.qtt_rules.specs.Asks.{Asks}
use Rattle.qtt_bidi.specs.Answers.{Reaches, Refuses}
use Rattle.qtt_bidi.proofs.Within.{on, on_done, here, later, reached, same-answer, same-refusal}
use Rattle.qtt_module.specs.declared.heads.FamilyHead.{FamilyHead}
use Rattle.qtt_module.specs.Families.{Opened, fields, pieces, end_of, labels, item_behind, qualified, constructor}
use Rattle.qtt_module.specs.FamilyParts.{results}
use Rattle.qtt_module.specs.FamilyView.{head_of, opened_behind}
use Rattle.qtt_module.proofs.Appended.{tele-long}
use Rattle.qtt_module.proofs.Staged.{staged, constructor-staged, entry-same}

-- a constructor of this family, as it is declared
module _ (G : Entries) (n : ℕ) (M : List ℕ) (H : FamilyHead) (k : ℕ) (x : List ℕ) (t : Tree) (s : Span)
    (P : code_ctx.Ctx) (params : scope_of P ≡ scope_of H.params)
    (many : length P.vars.items ≡ length H.params.vars.items) where
  abbrev whole : Asks ConstructorEntry
  whole = constructor G (head_of M H) k (con x t s)

  abbrev fields_at : Scope → Asks Opened
  fields_at S = fields G x H.level S (pieces t)

  staged-is : whole ≡ staged G (head_of M H) k x t
  staged-is = constructor-staged G (head_of M H) k x t s

  pub fields-refused : (e : ElabError) → Refuses (env G) n (fields_at (scope_of P)) e → Refuses (env G) n whole e
  fields-refused e h =
      same-refusal (env G) n (staged G (head_of M H) k x t) whole e staged-is
      (here (env G) n (fields_at (scope_of H.params)) _ e
      (subst (λ S. Refuses (env G) n (fields_at S) e) params h))

  module _ (Γ : code_ctx.Ctx)
      (h : Reaches (env G) n (fields_at (scope_of P)) (opened_behind (length P.vars.items) Γ)) (m j : ℕ)
      (J : j ≡ length H.params.vars.items) (m-is : m ≡ length Γ.vars.items - j) where
    abbrev opened_so : Opened
    opened_so = opened_behind (length P.vars.items) Γ

    fields-given : Reaches (env G) n (fields_at (scope_of H.params)) opened_so
    fields-given = subst (λ S. Reaches (env G) n (fields_at S) opened_so) params h

    abbrev results_at : ℕ → ℕ → Tree → Asks Terms
    results_at k m e = results G H.id k m (scope_of Γ) e

    params-many : length H.params.vars.items ≡ length (head_of M H).params.binds
    params-many = tele-long H.params.vars.items

    fields-many : m ≡ length opened_so.binds
    fields-many =
        let d = length-drop (length P.vars.items) (tele Γ.vars.items) in
        let v = tele-long Γ.vars.items in
        omega (arith, d, v, m-is, J, many)

    module _ (e : Tree) (E : e ≡ end_of t) where
      results-are : results_at (length H.params.vars.items) m e ≡
          results_at (length (head_of M H).params.binds) (length opened_so.binds) (end_of t)
      results-are =
          ap (λ e. results_at (length H.params.vars.items) m e) E
          ∙ ap₂ (λ k m. results_at k m (end_of t)) params-many fields-many

      pub results-refused : (r : ElabError) → Refuses (env G) n (results_at (length H.params.vars.items) m e) r →
          Refuses (env G) n whole r
      results-refused r f =
          same-refusal (env G) n (staged G (head_of M H) k x t) whole r staged-is
          (later (env G) n (fields_at (scope_of H.params)) _ r fields-given
          (here (env G) n _ _ r (subst (λ l. Refuses (env G) n l r) results-are f)))

      pub constructor-made : (us : Terms) (D : code_constructor.Constructor) →
          Reaches (env G) n (results_at (length H.params.vars.items) m e) us → D.id ≡ item_behind H.id k →
          D.name ≡ qualified M x → D.labels.items ≡ labels t → D.fields.items ≡ drop j Γ.vars.items →
          side_by_side (terms D.result.items) ≡ us → Reaches (env G) n whole (constructor_entry D)
      constructor-made us D f a b c d u =
          let moved : opened_so.binds ≡ map field D.fields.items =
          ap (λ i. drop i (tele Γ.vars.items)) (many ∙ sym J)
          ∙ drop-map (λ (b : Mult × code.Term). (b.0, term b.1)) j Γ.vars.items
          ∙ ap (map (λ (b : Mult × code.Term). (b.0, term b.1))) (sym d) in
          same-answer (staged G (head_of M H) k x t) whole _ staged-is
          (reached (on _ fields-given (on _ (subst (λ l. Reaches (env G) n l us) results-are f) on_done))
          (entry-same (sym a) (sym b) (sym c) moved
          ∙ ap (λ us. record {
            id = D.id;
            name = D.name;
            labels = D.labels.items;
            constructor = record { fields = map field D.fields.items; results = us };
          }) (sym u)))
