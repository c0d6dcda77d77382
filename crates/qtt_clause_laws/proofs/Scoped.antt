-- What the core judgement accepts under no variables mentions none.
use Rattle.std.proofs.Common.{◌≡◌, ℕ, suc, ◌+◌, true, ◌&&◌, eqb, List, [], ◌∷◌, length, Option, Some, None, slice_get, refl, sym, ◌∙◌, ap, subst, arith}
use Rattle.std.specs.Prelude.{nat_lt}
use mathlib.Core.Path.{subst₂}
use Rattle.std.proofs.lemmas.Bool.{eqb-true, ltb-true, and_parts}
use Rattle.qtt_base.specs.declared.place.GlobalId.{GlobalId}
use Rattle.qtt_usage.specs.declared.mult.Mult.{Mult}
use Rattle.qtt_term.specs.Term.{Named, Form, zeros, Term, Terms, var, node, ε, ◌▸◌, size, Pi, Lam, App, Fam, Delete, Trap}
use Rattle.qtt_term.specs.Substitution.{sub, cons, push, closed, Below, AllBelow}
use Rattle.qtt_term.specs.Signature.{Tele, ConSig, Env, EqTy, signature, fam_at}
use Rattle.qtt_term.specs.Question.{same_counts}
use Rattle.qtt_term.specs.Judgement.{Ctx, ext, sub_binds, scale, mult_at, Part, under}
use Rattle.qtt_term.specs.Ask.{◌>>=◌, Ask, Ending, Ends}
use Rattle.qtt_term.specs.Infer.{Premise, at, Inferred, inferred, infer, has, type_of, is_there, usable, named_there, Wanted, wanted, family_wants, constructor_wants, arguments, constructor_at, rule_of, field_counts, case_shaped, with_branch, CaseOf, case_params, case_branches}
use Rattle.qtt_term.specs.Premises.{need}
use Rattle.qtt_term.specs.declared.rule.Rule.TheVariants as rule
use Rattle.qtt_preserve.proofs.Travel.{length-scale}
use Rattle.qtt_preserve.proofs.Uses.{length-sub_binds}
use Rattle.qtt_core_check.proofs.Parts.{parts, never, holding}
use Rattle.qtt_core_check.proofs.Arguments.{length-wanted}
use Rattle.qtt_split.specs.Laws.{AcceptedIsClosed}

-- each variable of a term is one of the context, where the term is accepted
abbrev StaysIn : Env → Term → Type 0
StaysIn E t = (p : Part) (Γ : Ctx) (j : Inferred) → Ends E (infer E p Γ t) (Ending.ok j) → Below (length Γ) t

abbrev AllStayIn : Env → Terms → Type 0
AllStayIn E ε = Unit {0}
AllStayIn E (t ▸ ts) = StaysIn E t × AllStayIn E ts

-- ---- under binders
under-none : (n : ℕ) (t : Term) → Below n t → Below (0 + n) t
under-none n t h = let e : n ≡ 0 + n = omega arith in subst (λ m. Below m t) e h

under-one : (n : ℕ) (t : Term) → Below (suc n) t → Below (1 + n) t
under-one n t h = let e : suc n ≡ 1 + n = omega arith in subst (λ m. Below m t) e h

length-ext : (Γ : Ctx) (Θ : Tele) → length (ext Γ Θ) ≡ length Θ + length Γ
length-ext Γ [] = omega arith
length-ext Γ (b ∷ Θ) = let e : length (ext (b ∷ Γ) Θ) ≡ length Θ + length (b ∷ Γ) = length-ext (b ∷ Γ) Θ in omega arith

-- under the binders of a telescope of so many
under-all : (Γ : Ctx) (σ : ℕ → Term) (Θ : Tele) (n : ℕ) (t : Term) → length Θ ≡ n →
    Below (length (ext Γ (sub_binds σ Θ))) t → Below (n + length Γ) t
under-all Γ σ Θ n t e h =
    subst (λ m. Below m t)
    (length-ext Γ (sub_binds σ Θ) ∙ ap (λ k. k + length Γ) (length-sub_binds σ Θ ∙ e)) h

module _ {E : Env} where
  -- ---- components
  had-below : (p : Part) (Γ : Ctx) (t A : Term) (r : Premise) (us : List Mult) → StaysIn E t →
      Ends E (has Γ (infer E p Γ t) A r) (Ending.ok us) → Below (length Γ) t
  had-below p Γ t A r us g x = let a = parts _ _ _ x in g p Γ a.mid a.first

  type-below : (Γ : Ctx) (t : Term) (r : Premise) (l : ℕ) → StaysIn E t →
      Ends E (type_of Γ (infer E Part.erased Γ t) r) (Ending.ok l) → Below (length Γ) t
  type-below Γ t r l g x = let a = parts _ _ _ x in g Part.erased Γ a.mid a.first

  arguments-below : (ts : Terms) → AllStayIn E ts → (p : Part) (Γ : Ctx) (ws : List Wanted) (σ : ℕ → Term)
      (us : List Mult) → size ts ≡ length ws → Ends E (arguments E p Γ ws σ ts) (Ending.ok us) →
      AllBelow [] (length Γ) ts
  arguments-below ε g p Γ ws σ us s x = tt
  arguments-below (t ▸ ts) g p Γ [] σ us s x = absurd (cc s)
  arguments-below (t ▸ ts) g p Γ (w ∷ ws) σ us s x =
      let a = parts _ _ _ x in
      let b = parts _ _ _ a.after in (
        under-none (length Γ) t (had-below (under p w.mult) Γ t (sub σ w.type) _ a.mid g.0 a.first),
        arguments-below ts g.1 p Γ ws (cons t σ) b.mid (cc s) b.first,
      )

  -- ---- forms
  variable-stays : (i : ℕ) → StaysIn E (var i)
  variable-stays i p Γ j x =
      let a = parts _ _ _ x in
      let (h, m) = and_parts (nat_lt i (length Γ)) (usable p (mult_at Γ i)) (holding _ _ a.mid a.first) in
      ltb-true i (length Γ) h

  pi-stays : (q : Mult) (A B : Term) → StaysIn E A → StaysIn E B → StaysIn E (Pi q A B)
  pi-stays q A B gA gB p Γ j x =
      let a = parts _ _ _ x in
      let b = parts _ _ _ a.after in (
        under-none (length Γ) A (type-below Γ A _ a.mid gA a.first),
        (under-one (length Γ) B (type-below ((q, A) ∷ Γ) B _ b.mid gB b.first), tt),
      )

  lam-stays : (q : Mult) (A b : Term) → StaysIn E A → StaysIn E b → StaysIn E (Lam q A b)
  lam-stays q A b gA gb p Γ j x =
      let a = parts _ _ _ x in
      let c = parts _ _ _ a.after in (
        under-none (length Γ) A (type-below Γ A _ a.mid gA a.first),
        (under-one (length Γ) b (gb p ((q, A) ∷ Γ) c.mid c.first), tt),
      )

  app-stays : (q : Mult) (f a : Term) → StaysIn E f → StaysIn E a → StaysIn E (App q f a)
  app-stays q f a gf ga p Γ j x =
      let b = parts _ _ _ x in
      let c = parts _ _ _ b.after in
      let d = parts _ _ _ c.after in
      let e = parts _ _ _ d.after in (
        under-none (length Γ) f (gf p Γ b.mid b.first),
        (under-none (length Γ) a (had-below (under p q) Γ a c.mid.domain _ e.mid ga e.first), tt),
      )

  fam-stays : (f : GlobalId) (ts : Terms) → AllStayIn E ts → StaysIn E (Fam f ts)
  fam-stays f ts g p Γ j x =
      let a = parts _ _ _ x in
      let b = parts _ _ _ a.after in
      let (h, s) = and_parts (is_there (E.family f)) (eqb (size ts) (length (family_wants (fam_at E f))))
      (holding _ _ a.mid a.first) in
      arguments-below ts g p Γ (family_wants (fam_at E f)) closed b.mid (eqb-true (size ts) _ s) b.first

  con-found : (f : GlobalId) (n k : ℕ) (ts : Terms) → AllStayIn E ts →
      (p : Part) (Γ : Ctx) (j : Inferred) (o : Option ConSig) →
      Ends E (constructor_at o
      (λ c. need (eqb k (length (fam_at E f).params) && eqb (size ts) (length (constructor_wants (fam_at E f) c)))
      (at rule.Con 1)
      >>= (λ s. arguments E p Γ (constructor_wants (fam_at E f) c) closed ts >>=
      (λ u. Ask.done (inferred (sub (push ts closed) c.result) u))))) (Ending.ok j) → AllBelow [] (length Γ) ts
  con-found f n k ts g p Γ j None x = absurd (never x)
  con-found f n k ts g p Γ j (Some c) x =
      let a = parts _ _ _ x in
      let b = parts _ _ _ a.after in
      let (h, s) = and_parts (eqb k (length (fam_at E f).params))
      (eqb (size ts) (length (constructor_wants (fam_at E f) c))) (holding _ _ a.mid a.first) in
      arguments-below ts g p Γ (constructor_wants (fam_at E f) c) closed b.mid (eqb-true (size ts) _ s) b.first

  con-stays : (f : GlobalId) (n k : ℕ) (ts : Terms) → AllStayIn E ts → StaysIn E (node (Form.con f n k) ts)
  con-stays f n k ts g p Γ j x = con-found f n k ts g p Γ j (slice_get (fam_at E f).constructors n) x

  named-stays : (n : Named) (ts : Terms) → AllStayIn E ts → StaysIn E (node (Form.named n) ts)
  named-stays n ts g p Γ j x =
      let a = parts _ _ _ x in
      let b = parts _ _ _ a.after in
      let (h, w) = and_parts (named_there E n)
      (usable p (signature E n).mult && eqb (size ts) (length (signature E n).arguments))
      (holding _ _ a.mid a.first) in
      let (m, s) = and_parts (usable p (signature E n).mult) (eqb (size ts) (length (signature E n).arguments)) w in
      arguments-below ts g p Γ (wanted (at (rule_of n) 1) (signature E n).arguments) closed b.mid
      (eqb-true (size ts) _ s ∙ sym (length-wanted _ (signature E n).arguments)) b.first

  delete-stays : (q : Mult) (A s P b e : Term) → StaysIn E A → StaysIn E s → StaysIn E P → StaysIn E b → StaysIn E e →
      StaysIn E (Delete q A s P b e)
  delete-stays q A s P b e gA gs gP gb ge p Γ j x =
      let a₁ = parts _ _ _ x in
      let a₂ = parts _ _ _ a₁.after in
      let a₃ = parts _ _ _ a₂.after in
      let a₄ = parts _ _ _ a₃.after in
      let a₅ = parts _ _ _ a₄.after in
      let a₆ = parts _ _ _ a₅.after in (
        under-none (length Γ) A (had-below Part.erased Γ A _ _ a₂.mid gA a₂.first),
        (
          under-none (length Γ) s (had-below Part.erased Γ s _ _ a₃.mid gs a₃.first),
          (
            under-one (length Γ) P (type-below ((q, EqTy A s s) ∷ Γ) P _ a₄.mid gP a₄.first),
            (
              under-none (length Γ) b (had-below p Γ b _ _ a₅.mid gb a₅.first),
              (under-none (length Γ) e (had-below (under p q) Γ e _ _ a₆.mid ge a₆.first), tt),
            ),
          ),
        ),
      )

  trap-stays : (A : Term) → StaysIn E A → StaysIn E (Trap A)
  trap-stays A gA p Γ j x = let a = parts _ _ _ x in (under-none (length Γ) A (type-below Γ A _ a.mid gA a.first), tt)

  -- ---- the parts of a Case
  branches-below : (p : Part) (Γ : Ctx) (c : CaseOf) (σ : ℕ → Term) (P : Term) (ts : Terms) → AllStayIn E ts →
      (ds : List ConSig) (ns : List ℕ) → same_counts ns (field_counts ds) ≡ true → (joined : Option (List Mult))
      (j : Inferred) → Ends E (case_branches E p Γ c σ P ds ts joined) (Ending.ok j) → AllBelow ns (length Γ) ts
  branches-below p Γ c σ P ε g [] ns e joined j x = absurd (never x)
  branches-below p Γ c σ P ε g (d ∷ ds) ns e joined j x = absurd (never x)
  branches-below p Γ c σ P (s ▸ r ▸ ts) g [] ns e joined j x = absurd (never x)
  branches-below p Γ c σ P (s ▸ ε) g [] (n ∷ ns) e joined j x = absurd (cc e)
  branches-below p Γ c σ P (s ▸ ε) g [] [] e joined j x =
      let a = parts _ _ _ x in (under-none (length Γ) s (g.0 (under p c.mult) Γ a.mid a.first), tt)
  branches-below p Γ c σ P (b ▸ ts) g (d ∷ ds) [] e joined j x = absurd (cc e)
  branches-below p Γ c σ P (b ▸ ts) g (d ∷ ds) (n ∷ ns) e joined j x =
      let a = parts _ _ _ x in
      let h = parts _ _ _ a.after in
      let u = parts _ _ _ h.after in
      let (m, k) = and_parts (eqb n (length d.fields)) (same_counts ns (field_counts ds)) e in (
        under-all Γ σ (scale c.mult d.fields) n b (length-scale c.mult d.fields ∙ sym (eqb-true n _ m))
            (g.0 p (ext Γ (sub_binds σ (scale c.mult d.fields))) a.mid a.first),
        branches-below p Γ c σ P ts g.1 ds ns k (with_branch b u.mid joined) j u.after,
      )

  params-below : (p : Part) (Γ : Ctx) (c : CaseOf) (ts : Terms) → AllStayIn E ts → (Θ : Tele) (σ : ℕ → Term)
      (ns : List ℕ) → same_counts ns (field_counts c.family.constructors) ≡ true → (j : Inferred) →
      Ends E (case_params E p Γ c Θ σ ts) (Ending.ok j) →
      AllBelow (zeros (length Θ) (length c.family.motive ∷ ns)) (length Γ) ts
  params-below p Γ c ε g [] σ ns e j x = absurd (never x)
  params-below p Γ c ε g (b ∷ Θ) σ ns e j x = absurd (never x)
  params-below p Γ c (a ▸ ts) g (b ∷ Θ) σ ns e j x =
      let u = parts _ _ _ x in (
        under-none (length Γ) a (had-below Part.erased Γ a (sub σ b.1) _ u.mid g.0 u.first),
        params-below p Γ c ts g.1 Θ (cons a σ) ns e j u.after,
      )
  params-below p Γ c (P ▸ ts) g [] σ ns e j x =
      let u = parts _ _ _ x in (
        under-all Γ σ c.family.motive (length c.family.motive) P refl
            (type-below (ext Γ (sub_binds σ c.family.motive)) P _ u.mid g.0 u.first),
        branches-below p Γ c σ P ts g.1 c.family.constructors ns e None j u.after,
      )

  case-stays : (q : Mult) (f : GlobalId) (k m : ℕ) (ns : List ℕ) (ts : Terms) → AllStayIn E ts →
      StaysIn E (node (Form.case q f k m ns) ts)
  case-stays q f k m ns ts g p Γ j x =
      let a = parts _ _ _ x in
      let (h, w) = and_parts (is_there (E.family f)) (usable p q && case_shaped (fam_at E f) k m ns (size ts))
      (holding _ _ a.mid a.first) in
      let (i, v) = and_parts (usable p q) (case_shaped (fam_at E f) k m ns (size ts)) w in
      let (d, y) = and_parts (eqb k (length (fam_at E f).params)) _ v in
      let (e, u) = and_parts (eqb m (length (fam_at E f).motive)) _ y in
      let (c, s) = and_parts (same_counts ns (field_counts (fam_at E f).constructors)) _ u in
      subst₂ (λ k m. AllBelow (zeros k (m ∷ ns)) (length Γ) ts) (sym (eqb-true k _ d)) (sym (eqb-true m _ e))
      (params-below p Γ (record { mult = q; id = f; family = fam_at E f }) ts g (fam_at E f).params closed ns c j
      a.after)

  form-stays : (F : Form) (ts : Terms) → AllStayIn E ts → StaysIn E (node F ts)
  form-stays (Form.sort l) ε g = λ p Γ j x. tt
  form-stays (Form.pi q) (A ▸ B ▸ ε) g = pi-stays q A B g.0 g.1.0
  form-stays (Form.lam q) (A ▸ b ▸ ε) g = lam-stays q A b g.0 g.1.0
  form-stays (Form.app q) (f ▸ a ▸ ε) g = app-stays q f a g.0 g.1.0
  form-stays (Form.fam f) ts g = fam-stays f ts g
  form-stays (Form.con f n k) ts g = con-stays f n k ts g
  form-stays (Form.case q f k m ns) ts g = case-stays q f k m ns ts g
  form-stays (Form.delete q) (A ▸ s ▸ P ▸ b ▸ e ▸ ε) g =
      delete-stays q A s P b e g.0 g.1.0 g.1.1.0 g.1.1.1.0 g.1.1.1.1.0
  form-stays (Form.named n) ts g = named-stays n ts g
  form-stays Form.trap (A ▸ ε) g = trap-stays A g.0
  form-stays (Form.tape n) ε g = λ p Γ j x. tt
  form-stays _ ts g = λ p Γ j x. absurd (never x)

mutual
  stays : (E : Env) (t : Term) → StaysIn E t
  stays E (var i) = variable-stays i
  stays E (node F ts) = form-stays F ts (all-stay E ts)

  all-stay : (E : Env) (ts : Terms) → AllStayIn E ts
  all-stay E ε = tt
  all-stay E (t ▸ ts) = (stays E t, all-stay E ts)

pub accepted_is_closed_holds : (E : Env) → AcceptedIsClosed E
accepted_is_closed_holds E p t j e = stays E t p [] j e
