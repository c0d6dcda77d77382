-- What is in shape stays so: under renaming, substitution, contraction and growth.
use Rattle.std.proofs.Common.{◌≡◌, ℕ, zero, suc, ◌+◌, List, [], ◌∷◌, length, slice_get, Option, Some, None, Bool, true, false, ◌&&◌, cond, eqb, ◌⊎◌, inl, inr, refl, sym, ap, ◌∙◌, subst, arith}
use Rattle.std.specs.Bool.{Decides}
use Rattle.std.specs.List.{list_all}
use Rattle.std.proofs.lemmas.Bool.{and_parts, and_from, eqb-true, eq-eqb}
use Rattle.qtt_base.specs.declared.place.GlobalId.{GlobalId}
use Rattle.qtt_usage.specs.declared.mult.Mult.{Mult}
use Rattle.qtt_prims.specs.declared.lit.Lit.{Lit}
use Rattle.qtt_prims.specs.declared.lit.Lit.TheVariants as literal
use Rattle.qtt_prims.specs.declared.answer.PrimAnswer.{PrimAnswer}
use Rattle.qtt_prims.specs.declared.answer.PrimAnswer.TheVariants as answer
use Rattle.qtt_prims.specs.Apply.{apply}
use Rattle.qtt_term.specs.Term.{PrimTy, Named, Form, Term, Terms, var, node, ε, ◌▸◌, size, skip}
use Rattle.qtt_term.specs.Signature.{Constructor, Family, Definition, Env, There, family_of, definition_of, family_at, fam_sig, fam_at, con_sigs, bool_id, unit_family, bool_family, line_family, eq_family}
use Rattle.qtt_term.specs.Substitution.{sub, push}
use Rattle.qtt_term.specs.Question.{same_counts}
use Rattle.qtt_term.specs.Contraction.{chain, as_con, scrutinee, branch_at, select, iota, answer_term, contract}
use Rattle.qtt_term.specs.Infer.{is_there, field_counts, case_shaped}
use Rattle.qtt_term.specs.Items.{results_counted}
use Rattle.qtt_term.specs.PrimEnvironment.{prim_env}
use Rattle.qtt_term.specs.Shape.{made_in_shape, form_in_shape, FormInShape, InShape, in_shape, all_in_shape, binds_in_shape, constructor_in_shape, family_in_shape, definition_in_shape, EnvInShape, Extends, AddsInShape, ShapeLaws, CasesLaws}
use Rattle.qtt_term.proofs.Each.{each-to, each-decided, ren-each, sub-each, skip-each, scrutinee-each, step-each}
use Rattle.qtt_term.proofs.Options.{none≢some, some-injective}
use Rattle.qtt_term.proofs.Same.{id-same}

form-decided : (E : Env) (F : Form) (n : ℕ) → Decides (form_in_shape E F n) (FormInShape E F n)
form-decided E F n = (λ e. e, λ e. e)

pub shape-decided : (E : Env) (t : Term) → Decides (in_shape E t) (InShape E t)
shape-decided E t = each-decided (form_in_shape E) (FormInShape E) (form-decided E) t

-- ---- growth
and-to : (a b c d : Bool) → (a ≡ true → c ≡ true) → (b ≡ true → d ≡ true) → a && b ≡ true → c && d ≡ true
and-to a b c d f g e = let parts = and_parts a b e in and_from c d (f parts.0) (g parts.1)

all-to : {X : Type 0} (p q : X → Bool) → ((x : X) → p x ≡ true → q x ≡ true) →
    (xs : List X) → list_all p xs ≡ true → list_all q xs ≡ true
all-to p q f [] h = refl
all-to p q f (x ∷ xs) h = and-to (p x) (list_all p xs) (q x) (list_all q xs) (f x) (all-to p q f xs) h

module _ (D E : Env) (more : Extends D E) where
  -- a family that is there is the same
  same-family : (f : GlobalId) → is_there (D.family f) ≡ true → D.family f ≡ E.family f
  same-family f h = by_option (D.family f) refl h
    where
      by_option : (o : Option Family) → D.family f ≡ o → is_there o ≡ true → o ≡ E.family f
      by_option None e t = absurd (cc t)
      by_option (Some F) e t = sym (more.families f F e)

  there-to : (d : GlobalId) → is_there (D.definition d) ≡ true → is_there (E.definition d) ≡ true
  there-to d h = by_option (D.definition d) refl h
    where
      by_option : (o : Option Definition) → D.definition d ≡ o → is_there o ≡ true → is_there (E.definition d) ≡ true
      by_option None e t = absurd (cc t)
      by_option (Some A) e t = let w = more.definitions d A e in ap is_there w.1

  made-there : (f : GlobalId) (c k n : ℕ) →
      made_in_shape (length (family_at D f).params) (slice_get (family_at D f).constructors c) k n ≡ true →
      is_there (D.family f) ≡ true
  made-there f c k n h = by_option (D.family f) h
    where
      by_option : (o : Option Family) →
          made_in_shape (length (family_of o).params) (slice_get (family_of o).constructors c) k n ≡ true →
          is_there o ≡ true
      by_option None e = absurd (cc e)
      by_option (Some F) e = refl

  named-to : (m : Named) (n : ℕ) → FormInShape D (Form.named m) n → FormInShape E (Form.named m) n
  named-to (Named.def d) n h =
      and-to (is_there (D.definition d)) (eqb n 0) (is_there (E.definition d)) (eqb n 0) (there-to d) (λ e. e) h
  named-to (Named.lit (literal.Int z)) n h = h
  named-to (Named.lit (literal.Text s)) n h = h
  named-to (Named.prim_ty PrimTy.int) n h = h
  named-to (Named.prim_ty PrimTy.string) n h = h
  named-to (Named.prim_ty PrimTy.handle) n h = h
  named-to (Named.prim_ty (PrimTy.io_of m)) n h = h
  named-to (Named.prim p) n h = h
  named-to (Named.act a k) n h = h

  form-to : (F : Form) (n : ℕ) → FormInShape D F n → FormInShape E F n
  form-to (Form.sort l) n h = h
  form-to (Form.pi q) n h = h
  form-to (Form.lam q) n h = h
  form-to (Form.app q) n h = h
  form-to (Form.fam f) n h =
      let there = (and_parts (is_there (D.family f))
      (eqb n (length (family_at D f).params + length (family_at D f).indices)) h).0 in
      subst (λ (o : Option Family). is_there o && eqb n
      (length (family_of o).params + length (family_of o).indices) ≡ true) (same-family f there) h
  form-to (Form.con f c k) n h =
      subst (λ (o : Option Family). made_in_shape (length (family_of o).params)
      (slice_get (family_of o).constructors c) k n ≡ true)
      (same-family f (made-there f c k n h)) h
  form-to (Form.case q f k m ns) n h =
      let there = (and_parts (is_there (D.family f)) (case_shaped (fam_at D f) k m ns n) h).0 in
      subst (λ (o : Option Family). is_there o && case_shaped (fam_sig f (family_of o)) k m ns n ≡ true)
      (same-family f there) h
  form-to (Form.delete q) n h = h
  form-to (Form.named m) n h = named-to m n h
  form-to Form.trap n h = h
  form-to (Form.tape i) n h = h

  test-to : (t : Term) → in_shape D t ≡ true → in_shape E t ≡ true
  test-to t h = (shape-decided E t).1 (each-to (FormInShape D) (FormInShape E) form-to t ((shape-decided D t).0 h))

  tests-to : (ts : Terms) → all_in_shape D ts ≡ true → all_in_shape E ts ≡ true
  tests-to ε h = refl
  tests-to (t ▸ ts) h = and-to (in_shape D t) (all_in_shape D ts) (in_shape E t) (all_in_shape E ts) (test-to t)
      (tests-to ts) h

  binds-to : (Θ : List (Mult × Term)) → binds_in_shape D Θ ≡ true → binds_in_shape E Θ ≡ true
  binds-to Θ h = all-to (λ b. in_shape D b.1) (λ b. in_shape E b.1) (λ b. test-to b.1) Θ h

  constructor-to : (c : Constructor) → constructor_in_shape D c ≡ true → constructor_in_shape E c ≡ true
  constructor-to c h =
      and-to (binds_in_shape D c.fields) (all_in_shape D c.results) (binds_in_shape E c.fields)
      (all_in_shape E c.results)
      (binds-to c.fields) (tests-to c.results) h

  family-to : (F : Family) → family_in_shape D F ≡ true → family_in_shape E F ≡ true
  family-to F h =
      and-to (binds_in_shape D F.params) _ (binds_in_shape E F.params) _ (binds-to F.params)
      (and-to (list_all (in_shape D) F.indices) _ (list_all (in_shape E) F.indices) _
      (all-to (in_shape D) (in_shape E) test-to F.indices)
      (and-to (list_all (constructor_in_shape D) F.constructors) (results_counted F)
      (list_all (constructor_in_shape E) F.constructors) (results_counted F)
      (all-to (constructor_in_shape D) (constructor_in_shape E) constructor-to F.constructors) (λ e. e))) h

  definition-to : (A : Definition) → definition_in_shape D A ≡ true → definition_in_shape E A ≡ true
  definition-to A h =
      and-to (in_shape D A.type) (elim A.body [ None ↦ true | Some b ↦ in_shape D b ]) (in_shape E A.type)
      (elim A.body [ None ↦ true | Some b ↦ in_shape E b ])
      (test-to A.type) (body-to A.body) h
    where
      body-to : (o : Option Term) → elim o [ None ↦ true | Some b ↦ in_shape D b ] ≡ true →
          elim o [ None ↦ true | Some b ↦ in_shape E b ] ≡ true
      body-to None e = refl
      body-to (Some b) e = test-to b e

  environment-to : EnvInShape D → AddsInShape D E → EnvInShape E
  environment-to s adds = record {
    prims = record {
      units = more.families _ _ s.prims.units;
      truths = more.families _ _ s.prims.truths;
      lines = more.families _ _ s.prims.lines;
      equalities = more.families _ _ s.prims.equalities;
    };
    families = λ f F e. elim (adds.families f F e) [ inl d ↦ family-to F (s.families f F d) | inr n ↦ n ];
    definitions = λ d A e. elim (adds.definitions d A e) [ inl p ↦ definition-to A (s.definitions d A p) | inr n ↦ n ];
  }

-- ---- contraction
module _ (E : Env) (s : EnvInShape E) where
  body-in_shape : (d : GlobalId) (b : Term) → (definition_of (E.definition d)).body ≡ Some b → InShape E b
  body-in_shape d b e = by_option (E.definition d) refl e
    where
      by_body : (o : Option Term) → elim o [ None ↦ true | Some c ↦ in_shape E c ] ≡ true → o ≡ Some b → InShape E b
      by_body None h p = absurd (none≢some p)
      by_body (Some c) h p = (shape-decided E b).0 (subst (λ (t : Term). in_shape E t ≡ true) (some-injective p) h)

      by_option : (o : Option Definition) → E.definition d ≡ o → (definition_of o).body ≡ Some b → InShape E b
      by_option None h p = absurd (none≢some p)
      by_option (Some A) h p =
          by_body A.body (and_parts (in_shape E A.type) (elim A.body [ None ↦ true | Some c ↦ in_shape E c ])
          (s.definitions d A h)).1 p

  literal-in_shape : (l : Lit) → FormInShape E (Form.named (Named.lit l)) 0
  literal-in_shape (literal.Int z) = refl
  literal-in_shape (literal.Text t) = refl

  truth-in_shape : (c : ℕ) → made_in_shape 0 (slice_get bool_family.constructors c) 0 0 ≡ true →
      FormInShape E (Form.con bool_id c 0) 0
  truth-in_shape c h =
      subst (λ (o : Option Family). made_in_shape (length (family_of o).params)
      (slice_get (family_of o).constructors c) 0 0 ≡ true) (sym s.prims.truths) h

  answer-in_shape : (a : PrimAnswer) (t : Term) → answer_term a ≡ Some t → InShape E t
  answer-in_shape (answer.Value l) t e = subst (InShape E) (some-injective e) (literal-in_shape l, tt)
  answer-in_shape (answer.Truth true) t e = subst (InShape E) (some-injective e) (truth-in_shape 1 refl, tt)
  answer-in_shape (answer.Truth false) t e = subst (InShape E) (some-injective e) (truth-in_shape 0 refl, tt)
  answer-in_shape answer.DivisionByZero t e = absurd (none≢some e)
  answer-in_shape answer.IllTyped t e = absurd (none≢some e)

-- ---- Prim
first_or : (F G : Family) (b : Bool) (o : Option Family) → family_in_shape prim_env F ≡ true →
    (o ≡ Some G → family_in_shape prim_env G ≡ true) →
    cond b (Some F) o ≡ Some G → family_in_shape prim_env G ≡ true
first_or F G true o here others e = subst (λ (H : Family). family_in_shape prim_env H ≡ true) (some-injective e) here
first_or F G false o here others e = others e

prim-in_shape : EnvInShape prim_env
prim-in_shape = record {
  prims = record { units = refl; truths = refl; lines = refl; equalities = refl };
  families = λ f F e.
      first_or unit_family F _ _ refl (first_or bool_family F _ _ refl (first_or line_family F _ _ refl
      (first_or eq_family F _ _ refl (λ d. absurd (none≢some d))))) e;
  definitions = λ d D e. absurd (none≢some e);
}

pub shape-laws : ShapeLaws
shape-laws = record {
  renaming = λ E ρ t h. ren-each (FormInShape E) t ρ h;
  substitution = λ E σ t v h. sub-each (FormInShape E) t σ v h;
  contraction = λ E s t r d h.
      step-each (FormInShape E) E (body-in_shape E s) (λ p ts ls u k l a. answer-in_shape E s (apply p ls) u a) d h;
  growth = λ D E more t h. each-to (FormInShape D) (FormInShape E) (form-to D E more) t h;
  environments = λ D E s more adds. environment-to D E more s adds;
  prim = prim-in_shape;
}

-- ---- Cases
counts-at : (f : GlobalId) (k n : ℕ) (cs : List Constructor) (ns : List ℕ) →
    same_counts ns (field_counts (con_sigs f k n cs)) ≡ true →
    (c : ℕ) (d : Constructor) → slice_get cs c ≡ Some d → slice_get ns c ≡ Some (length d.fields)
counts-at f k n [] ns h c d e = absurd (none≢some e)
counts-at f k n (x ∷ xs) [] h c d e = absurd (cc h)
counts-at f k n (x ∷ xs) (m ∷ ns) h zero d e =
    let here = (and_parts (eqb m (length x.fields)) (same_counts ns (field_counts (con_sigs f k (suc n) xs))) h).0 in
    ap Some (eqb-true m (length x.fields) here ∙ ap (λ (z : Constructor). length z.fields) (some-injective e))
counts-at f k n (x ∷ xs) (m ∷ ns) h (suc c) d e =
    counts-at f k (suc n) xs ns
    (and_parts (eqb m (length x.fields)) (same_counts ns (field_counts (con_sigs f k (suc n) xs))) h).1 c d e

branch-counts : (E : Env) (q : Mult) (f : GlobalId) (k m : ℕ) (ns : List ℕ) (n : ℕ) →
    FormInShape E (Form.case q f k m ns) n →
    (c : ℕ) (d : Constructor) → slice_get (family_at E f).constructors c ≡ Some d →
    slice_get ns c ≡ Some (length d.fields)
branch-counts E q f k m ns n h =
    let S = fam_at E f in
    let shaped = (and_parts (is_there (E.family f)) (case_shaped S k m ns n) h).1 in
    let behind = (and_parts (eqb k (length S.params))
    (eqb m (length S.motive) && (same_counts ns (field_counts S.constructors) && eqb n (k + (2 + length ns))))
    shaped).1 in
    let counts = (and_parts (eqb m (length S.motive))
    (same_counts ns (field_counts S.constructors) && eqb n (k + (2 + length ns))) behind).1 in
    counts-at f (length (family_at E f).params) 0 (family_at E f).constructors ns
    (and_parts (same_counts ns (field_counts S.constructors)) (eqb n (k + (2 + length ns))) counts).0

size-skip : (k n : ℕ) (ts : Terms) → size ts ≡ k + n → size (skip k ts) ≡ n
size-skip zero n ts e = e ∙ omega arith
size-skip (suc k) n ε e = absurd (omega arith)
size-skip (suc k) n (t ▸ ts) e = size-skip k n ts (omega arith)

-- a constructor in shape has its number of fields
fields-counted : (p l : ℕ) (o : Option Constructor) (xs : Terms) → made_in_shape p o l (size xs) ≡ true →
    (d : Constructor) × (o ≡ Some d) × (size (skip l xs) ≡ length d.fields)
fields-counted p l None xs h = absurd (cc h)
fields-counted p l (Some d) xs h =
    let parts = and_parts (eqb l p) (eqb (size xs) (p + length d.fields)) h in
    let i : l ≡ p = eqb-true l p parts.0 in
    let e : size xs ≡ p + length d.fields = eqb-true (size xs) (p + length d.fields) parts.1 in
    (d, refl, size-skip l (length d.fields) xs (omega arith))

branch-there : (c : ℕ) (ns : List ℕ) (ts fs : Terms) (n : ℕ) (s : Term) → slice_get ns c ≡ Some n → size fs ≡ n →
    scrutinee ns ts ≡ Some s → There (branch_at c ns ts fs)
branch-there c [] ts fs n s e z r = absurd (none≢some e)
branch-there c (m ∷ ns) ε fs n s e z r = absurd (none≢some r)
branch-there zero (m ∷ ns) (b ▸ ts) fs n s e z r =
    subst (λ (t : Bool). There (cond t (Some (sub (push fs var) b)) None))
    (sym (eq-eqb (size fs) m (z ∙ sym (some-injective e)))) tt
branch-there (suc c) (m ∷ ns) (b ▸ ts) fs n s e z r = branch-there c ns ts fs n s e z r

skip-next : (k : ℕ) (ts : Terms) →
    (skip k ts ≡ ε) × (skip (suc k) ts ≡ ε) ⊎ ((t : Term) × (skip k ts ≡ t ▸ skip (suc k) ts))
skip-next zero ε = inl (refl, refl)
skip-next zero (t ▸ ts) = inr (t, refl)
skip-next (suc k) ε = inl (refl, refl)
skip-next (suc k) (t ▸ ts) = skip-next k ts

no-scrutinee : (ns : List ℕ) (s : Term) → scrutinee ns ε ≡ Some s → ⊥
no-scrutinee [] s e = none≢some e
no-scrutinee (n ∷ ns) s e = none≢some e

iota-there : (f : GlobalId) (ns : List ℕ) (P : Term) (ts : Terms) (c l n : ℕ) (xs : Terms) →
    scrutinee ns ts ≡ Some (node (Form.con f c l) xs) →
    slice_get ns c ≡ Some n → size (skip l xs) ≡ n → There (iota f ns (P ▸ ts))
iota-there f ns P ts c l n xs e at z =
    subst (λ (o : Option Term). There (chain o (λ s. chain (as_con s) (select f ns ts)))) (sym e)
    (subst (λ (t : Bool). There (cond t (branch_at c ns ts (skip l xs)) None)) (sym (id-same f))
    (branch-there c ns ts (skip l xs) n _ at z e))

case-contracts : (E : Env) (q : Mult) (f : GlobalId) (k m : ℕ) (ns : List ℕ) (ts : Terms) →
    InShape E (node (Form.case q f k m ns) ts) →
    (c l : ℕ) (xs : Terms) → scrutinee ns (skip (suc k) ts) ≡ Some (node (Form.con f c l) xs) →
    There (contract E (Form.case q f k m ns) ts)
unfolding contract
case-contracts E q f k m ns ts h c l xs e = by_skip (skip-next k ts)
  where
    made : InShape E (node (Form.con f c l) xs)
    made = scrutinee-each (FormInShape E) ns (skip (suc k) ts) _ (skip-each (FormInShape E) (suc k) ts h.1) e

    by_skip : (skip k ts ≡ ε) × (skip (suc k) ts ≡ ε) ⊎ ((t : Term) × (skip k ts ≡ t ▸ skip (suc k) ts)) →
        There (iota f ns (skip k ts))
    by_skip (inl p) = absurd (no-scrutinee ns _ (ap (scrutinee ns) (sym p.1) ∙ e))
    by_skip (inr (t, p)) =
        let w = fields-counted (length (family_at E f).params) l (slice_get (family_at E f).constructors c) xs made.0 in
        subst (λ (r : Terms). There (iota f ns r)) (sym p)
        (iota-there f ns t (skip (suc k) ts) c l (length w.0.fields) xs e
        (branch-counts E q f k m ns (size ts) h.0 c w.0 w.1) w.2)

pub cases-laws : CasesLaws
cases-laws = record {
  branches = λ E q f k m ns ts h. branch-counts E q f k m ns (size ts) h.0;
  contract = case-contracts;
}
