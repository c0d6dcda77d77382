-- A derivation stands in every larger environment.
use Rattle.std.proofs.Common.{◌≡◌, ℕ, suc, List, [], ◌∷◌, ◌++◌, length, Option, Some, None, refl, sym, subst}
use mathlib.Core.Path.{ap₂, subst₂, subst₃}
use Rattle.qtt_base.specs.declared.place.GlobalId.{GlobalId}
use Rattle.qtt_usage.specs.Uses.{Use, zero_use}
use Rattle.qtt_prims.specs.declared.lit.Lit.TheVariants as literal
use Rattle.qtt_term.specs.Term.{PrimTy, Named, Form, Term, Terms, Sort}
use Rattle.qtt_term.specs.Substitution.{sub, push, closed}
use Rattle.qtt_term.specs.Signature.{Constructor, Family, Definition, Env, family_of, definition_of, family_at, definition_at, There, NamedThere, ConSig, con_sigs, index_binders, fam_sig, fam_at, signature}
use Rattle.qtt_term.specs.Contraction.{Step, Steps, Conv}
use Rattle.qtt_term.specs.Judgement.{IsCon, Part, Ctx, Usable, erase_binds, Judged, Args, ParamsThenArgs, Cases, Rule, Typed, TypedAll, IsType}
use Rattle.qtt_term.specs.Environment.{Types, TypesBeside, TypesUpTo, ConstructorsFormed, FamilyFormed, DefinitionFormed}
use Rattle.qtt_term.proofs.Options.{none≢some}
use Rattle.qtt_confluence.proofs.Root.{Root, view, contracts}
use Rattle.qtt_preserve.specs.Grows.{FamiliesStay, FamilyGrows, DefinitionGrows, Grows, CaseIn, CasesIn, AllCasesIn}

-- ---- what is there
family-grew : (o r : Option Family) →
    ((F : Family) → o ≡ Some F → (G : Family) × (r ≡ Some G) × FamilyGrows F G) → There o →
    There r × FamilyGrows (family_of o) (family_of r)
family-grew None r h t = elim t [ ]
family-grew (Some F) r h t = let (G, e, g) =
    h F refl in subst (λ r. There r × FamilyGrows F (family_of r)) (sym e) (tt, g)

definition-grew : (o r : Option Definition) →
    ((A : Definition) → o ≡ Some A → (B : Definition) × (r ≡ Some B) × DefinitionGrows A B) → There o →
    There r × DefinitionGrows (definition_of o) (definition_of r)
definition-grew None r h t = elim t [ ]
definition-grew (Some A) r h t = let (B, e, g) =
    h A refl in subst (λ r. There r × DefinitionGrows A (definition_of r)) (sym e) (tt, g)

there-of-con : (o : Option Family) (f : GlobalId) (n : ℕ) (c : ConSig) →
    IsCon (fam_sig f (family_of o)).constructors n c → There o
there-of-con (Some F) f n c i = tt
there-of-con None f n c i = elim i [ ]

there-of-body : (o : Option Definition) (b : Term) → (definition_of o).body ≡ Some b → There o
there-of-body (Some D) b e = tt
there-of-body None b e = absurd (none≢some e)

-- constructors that come behind
is_con-more : (f : GlobalId) (k n : ℕ) (cs ds : List Constructor) (i : ℕ) (c : ConSig) →
    IsCon (con_sigs f k n cs) i c → IsCon (con_sigs f k n (cs ++ ds)) i c
is_con-more f k n [] ds i c h = elim h [ ]
is_con-more f k n (d ∷ cs) ds i c IsCon.here = IsCon.here
is_con-more f k n (d ∷ cs) ds i c (IsCon.there {n = e} h) = IsCon.there (is_con-more f k (suc n) cs ds e c h)

module _ {D E : Env} (g : Grows D E) where
  family_grown : (f : GlobalId) → There (D.family f) → There (E.family f) × FamilyGrows (family_at D f) (family_at E f)
  family_grown f w = family-grew (D.family f) (E.family f) (g.families f) w

  definition_grown : (d : GlobalId) → There (D.definition d) →
      There (E.definition d) × DefinitionGrows (definition_at D d) (definition_at E d)
  definition_grown d w = definition-grew (D.definition d) (E.definition d) (g.definitions d) w

  constructor_grown : (f : GlobalId) (n : ℕ) (c : ConSig) → IsCon (fam_at D f).constructors n c →
      IsCon (fam_at E f).constructors n c
  constructor_grown f n c i =
      let r = (family_grown f (there-of-con (D.family f) f n c i)).1 in
      subst₂ (λ Θ cs. IsCon (con_sigs f (length Θ) 0 cs) n c) r.params r.constructors
      (is_con-more f (length (family_at D f).params) 0 (family_at D f).constructors r.added n c i)

  body_grown : (d : GlobalId) (b : Term) → (definition_at D d).body ≡ Some b → (definition_at E d).body ≡ Some b
  body_grown d b e = (definition_grown d (there-of-body (D.definition d) b e)).1.body b e

  -- ---- contraction and conversion
  root-grows : {F : Form} {ts : Terms} {t : Term} → Root D F ts t → Root E F ts t
  root-grows Root.by_beta = Root.by_beta
  root-grows (Root.by_iota h e) = Root.by_iota h e
  root-grows Root.by_deletion = Root.by_deletion
  root-grows (Root.by_delta {d = d} {b = b} e) = Root.by_delta (body_grown d b e)
  root-grows (Root.by_prim d e) = Root.by_prim d e

  mutual
    step-grows : {t s : Term} → Step D t s → Step E t s
    step-grows (Step.here {F = F} {ts = ts} {t = t} e) = Step.here (contracts (root-grows (view D F ts t e)))
    step-grows (Step.inside h) = Step.inside (steps-grow h)

    steps-grow : {ts ss : Terms} → Steps D ts ss → Steps E ts ss
    steps-grow (Steps.at h) = Steps.at (step-grows h)
    steps-grow (Steps.after h) = Steps.after (steps-grow h)

  pub conv-grows : {t s : Term} → Conv D t s → Conv E t s
  conv-grows Conv.same = Conv.same
  conv-grows (Conv.by_step h) = Conv.by_step (step-grows h)
  conv-grows (Conv.back h) = Conv.back (conv-grows h)
  conv-grows (Conv.thence h k) = Conv.thence (conv-grows h) (conv-grows k)

  -- ---- rules
  named-grows : (n : Named) → NamedThere D n → NamedThere E n
  named-grows (Named.def d) w = (definition_grown d w).0
  named-grows (Named.lit l) w = tt
  named-grows (Named.prim_ty p) w = tt
  named-grows (Named.prim p) w = tt
  named-grows (Named.act a k) w = w

  signature-grows : (n : Named) → NamedThere D n → signature D n ≡ signature E n
  signature-grows (Named.def d) w = let r =
      (definition_grown d w).1 in ap₂ (λ A q. record { arguments = []; type = A; mult = q }) r.type r.mult
  signature-grows (Named.lit (literal.Int z)) w = refl
  signature-grows (Named.lit (literal.Text s)) w = refl
  signature-grows (Named.prim_ty PrimTy.int) w = refl
  signature-grows (Named.prim_ty PrimTy.string) w = refl
  signature-grows (Named.prim_ty PrimTy.handle) w = refl
  signature-grows (Named.prim_ty (PrimTy.io_of m)) w = refl
  signature-grows (Named.prim p) w = refl
  signature-grows (Named.act a k) w = refl

  rule-grows : {p : Part} {F : Form} {ts : Terms} {js : List Judged} {R : Term} {own : Use} → Rule D p F ts js R own →
      CaseIn (λ f. D.family f ≡ E.family f) F → Rule E p F ts js R own
  rule-grows Rule.sort k = Rule.sort
  rule-grows Rule.pi k = Rule.pi
  rule-grows Rule.lam k = Rule.lam
  rule-grows Rule.app k = Rule.app
  rule-grows Rule.trap k = Rule.trap
  rule-grows Rule.tape k = Rule.tape
  rule-grows (Rule.delete m) k = Rule.delete m
  rule-grows {ts = ts} {js = js} {R = R} (Rule.fam {f = f} w a) k =
      let (t, r) = family_grown f w in
      Rule.fam t (subst₃ (λ is Θ l. ParamsThenArgs (erase_binds (index_binders 0 is)) Θ closed ts js (Sort l) R)
      r.indices r.params r.level a)
  rule-grows {p} {ts = ts} {js = js} {R = R} (Rule.con {f = f} {n = n} {c = c} i a) k =
      let r = (family_grown f (there-of-con (D.family f) f n c i)).1 in
      subst (λ Θ. ParamsThenArgs c.fields Θ closed ts js c.result R →
      Rule E p (Form.con f n (length Θ)) ts js R zero_use)
      (sym r.params) (λ a. Rule.con (constructor_grown f n c i) a) a
  rule-grows {p} {ts = ts} {js = js} (Rule.named {n = n} w m a) k =
      subst (λ S. Rule E p (Form.named n) ts js (sub (push ts closed) S.type) zero_use) (sym (signature-grows n w))
      (Rule.named (named-grows n w) (subst (λ S. Usable p S.mult) (signature-grows n w) m)
      (subst (λ S. Args S.arguments closed ts js) (signature-grows n w) a))
  rule-grows {ts = ts} {js = js} {R = R} (Rule.case {q = q} {f = f} {k = x} {m = y} {ns = ns} w m a) k =
      Rule.case (family_grown f w).0 m
      (subst (λ o. Cases (fam_sig f (family_of o)) q (family_of o).params closed x y ns ts js R) k a)

  -- ---- the judgement
  mutual
    pub typed-grows : {p : Part} {Γ : Ctx} {t A : Term} {u : Use} → Typed D p Γ t A u →
        CasesIn (λ f. D.family f ≡ E.family f) t → Typed E p Γ t A u
    typed-grows (Typed.variable s m e) k = Typed.variable s m e
    typed-grows (Typed.by_rule r hs e) k = Typed.by_rule (rule-grows r k.0) (all-grow hs k.1) e
    typed-grows (Typed.conversion h c) k = Typed.conversion (typed-grows h k) (conv-grows c)

    all-grow : {p : Part} {Γ : Ctx} {ns : List ℕ} {ts : Terms} {js : List Judged} → TypedAll D p Γ ns ts js →
        AllCasesIn (λ f. D.family f ≡ E.family f) ts → TypedAll E p Γ ns ts js
    all-grow TypedAll.none k = TypedAll.none
    all-grow (TypedAll.more e h f hs) k = TypedAll.more e (typed-grows h k.0) f (all-grow hs k.1)

-- ---- the Cases of a typed term are of families that are there
case-there : {E : Env} {p : Part} {F : Form} {ts : Terms} {js : List Judged} {R : Term} {own : Use}
    (P : GlobalId → Type 0) → ((f : GlobalId) → There (E.family f) → P f) →
    Rule E p F ts js R own → CaseIn P F
case-there P h (Rule.case {f = f} w m a) = h f w
case-there P h Rule.sort = tt
case-there P h Rule.pi = tt
case-there P h Rule.lam = tt
case-there P h Rule.app = tt
case-there P h (Rule.fam w a) = tt
case-there P h (Rule.con i a) = tt
case-there P h (Rule.delete m) = tt
case-there P h (Rule.named w m a) = tt
case-there P h Rule.trap = tt
case-there P h Rule.tape = tt

mutual
  cases-there : {E : Env} {p : Part} {Γ : Ctx} {t A : Term} {u : Use} (P : GlobalId → Type 0) →
      ((f : GlobalId) → There (E.family f) → P f) →
      Typed E p Γ t A u → CasesIn P t
  cases-there P h (Typed.variable s m e) = tt
  cases-there P h (Typed.by_rule r hs e) = (case-there P h r, all-cases-there P h hs)
  cases-there P h (Typed.conversion d c) = cases-there P h d

  all-cases-there : {E : Env} {p : Part} {Γ : Ctx} {ns : List ℕ} {ts : Terms} {js : List Judged}
      (P : GlobalId → Type 0) → ((f : GlobalId) → There (E.family f) → P f) →
      TypedAll E p Γ ns ts js → AllCasesIn P ts
  all-cases-there P h TypedAll.none = tt
  all-cases-there P h (TypedAll.more e d f hs) = (cases-there P h d, all-cases-there P h hs)

-- ---- where the families that are there are the same, everything typed and formed stays so
module _ {D E : Env} (g : Grows D E) (same : FamiliesStay D E) where
  pub judged-grows : {p : Part} {Γ : Ctx} {t A : Term} {u : Use} → Typed D p Γ t A u → Typed E p Γ t A u
  judged-grows h = typed-grows g h (cases-there (λ f. D.family f ≡ E.family f) same h)

  type-grows : {Γ : Ctx} {A : Term} → IsType D Γ A → IsType E Γ A
  type-grows h = (h.0, judged-grows h.1)

  types-grow : {Γ : Ctx} {Θ : List _} → Types D Γ Θ → Types E Γ Θ
  types-grow Types.none = Types.none
  types-grow (Types.more h n hs) = Types.more (type-grows h) n (types-grow hs)

  beside-grow : {Γ : Ctx} {Ts : List Term} → TypesBeside D Γ Ts → TypesBeside E Γ Ts
  beside-grow TypesBeside.none = TypesBeside.none
  beside-grow (TypesBeside.more h n hs) = TypesBeside.more (type-grows h) n (beside-grow hs)

  up-to-grow : {l : ℕ} {Γ : Ctx} {Θ : List _} → TypesUpTo D l Γ Θ → TypesUpTo E l Γ Θ
  up-to-grow TypesUpTo.none = TypesUpTo.none
  up-to-grow (TypesUpTo.more h i n hs) = TypesUpTo.more (judged-grows h) i n (up-to-grow hs)

  constructors-grow : {F : Family} {cs : List Constructor} → ConstructorsFormed D F cs → ConstructorsFormed E F cs
  constructors-grow ConstructorsFormed.none = ConstructorsFormed.none
  constructors-grow (ConstructorsFormed.more h hs) =
      ConstructorsFormed.more (record {
        fields = up-to-grow h.fields;
        one_each = h.one_each;
        results = h.results;
        no_tapes = h.no_tapes;
      }) (constructors-grow hs)

  pub family-formed-grows : {f : GlobalId} {F : Family} → FamilyFormed D f F → FamilyFormed E f F
  family-formed-grows h = record {
    params = types-grow h.params;
    indices = beside-grow h.indices;
    constructors = constructors-grow h.constructors;
    positive = h.positive;
  }

  pub definition-formed-grows : {A : Definition} → DefinitionFormed D A → DefinitionFormed E A
  definition-formed-grows h = record {
    mult = h.mult;
    is_type = type-grows h.is_type;
    type_no_tape = h.type_no_tape;
    closed = h.closed;
    typed = λ b e. judged-grows (h.typed b e);
    no_tape = h.no_tape;
  }
