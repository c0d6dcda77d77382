-- A closed term of the run part is never stuck.
use Rattle.std.proofs.Common.{◌≡◌, ℕ, suc, ℤ, Bool, true, false, cond, List, [], ◌∷◌, length, Option, Some, refl, sym, ◌∙◌, ap, subst}
use mathlib.Core.Path.{ap₂, subst₂}
use Rattle.qtt_base.specs.declared.place.GlobalId.{GlobalId}
use Rattle.qtt_usage.specs.declared.mult.Mult.{Mult}
use Rattle.qtt_usage.specs.Mult.{𝟘, 𝟙, ω}
use Rattle.qtt_usage.specs.Uses.{Use}
use Rattle.qtt_prims.specs.declared.answer.PrimAnswer.TheVariants as answer
use Rattle.qtt_prims.specs.declared.lit.Lit.{Lit}
use Rattle.qtt_prims.specs.declared.prim.Primitive.{Primitive}
use Rattle.qtt_prims.specs.declared.lit.Lit.TheVariants as literal
use Rattle.qtt_prims.specs.declared.prim.Primitive.TheVariants as prim
use Rattle.qtt_term.specs.Signature.{Family, family_of, fam_sig, eq_id, eq_family, EqTy, family_at, Tele, Constructor, ConSig, con_sigs, FamSig, fam_at, Env, IntTy, StringTy, HandleTy, signature, prim_signature}
use Rattle.qtt_term.specs.FullStep.{answers, Outcome, Outcomes, behind, before, component, contracts_to, itself, finish, full_step, full_steps}
use Rattle.qtt_term.specs.Environment.{HasPrim}
use Rattle.qtt_term.specs.Term.{Io, PrimTy, Action, Named, Form, binders, zeros, Term, Terms, var, node, ε, ◌▸◌, size, skip, Sort, Pi, Lam, IntLit, TextLit}
use Rattle.qtt_term.specs.Substitution.{sub, push, closed}
use Rattle.qtt_term.specs.Contraction.{BodiesClosed, contract, Conv}
use Rattle.qtt_term.specs.Value.{mults, field_mults, kept, demanded}
use Rattle.qtt_term.specs.Judgement.{IsCon, Ctx, ext, Part, under, Usable, Judged, judged, scale, Args, ParamsThenArgs, Branches, Cases, Rule}
use Rattle.qtt_term.proofs.Evaluation.{contracts-value, primitive-value, behind-values, before-values}
use Rattle.qtt_confluence.proofs.Root.{ScrutineeAt, BranchAt, Picks, Root, contracts}
use Rattle.qtt_confluence.proofs.Confluence.{Stiff, stiff-nodes}
use Rattle.qtt_confluence.proofs.Injective.{stiff-sort, stiff-pi, stiff-fam, stiff-prim_ty}
use Rattle.qtt_confluence.proofs.Families.{is_con-sig}
use Rattle.qtt_preserve.specs.Within.{Has, HasAll}
use Rattle.qtt_preserve.proofs.Sound.{Bodied}
use Rattle.qtt_preserve.proofs.Uses.{length-sub_binds}
use Rattle.qtt_preserve.proofs.Travel.{length-scale}
use Rattle.qtt_preserve.proofs.Iota.{args-size}

abbrev pub Goes : Outcome → Type 0
Goes Outcome.stuck = ⊥
Goes _ = Unit {0}

abbrev pub AllGo : Outcomes → Type 0
AllGo Outcomes.sticks = ⊥
AllGo _ = Unit {0}

-- ---- what values are
abbrev value_form : Form → Bool
value_form (Form.app q) = false
value_form (Form.case q f k m ns) = false
value_form (Form.delete q) = false
value_form (Form.named (Named.def d)) = false
value_form (Form.named (Named.prim p)) = false
value_form Form.trap = false
value_form _ = true

pub itself-value : (E : Env) (F : Form) (ts : Terms) → itself E F ts ≡ Outcome.value → value_form F ≡ true
itself-value E (Form.app q) ts e = absurd (contracts-value _ e)
itself-value E (Form.case q f k m ns) ts e = absurd (contracts-value _ e)
itself-value E (Form.delete q) ts e = absurd (contracts-value _ e)
itself-value E (Form.named (Named.def d)) ts e = absurd (contracts-value _ e)
itself-value E (Form.named (Named.prim p)) ts e = absurd (primitive-value p _ e)
itself-value E Form.trap ts e = absurd (cc e)
itself-value E _ ts e = refl

finish-value : (E : Env) (F : Form) (ts : Terms) (o : Outcomes) → finish E F ts o ≡ Outcome.value → value_form F ≡ true
finish-value E F ts Outcomes.values e = itself-value E F ts e
finish-value E F ts (Outcomes.steps ss) e = absurd (cc e)
finish-value E F ts (Outcomes.traps k) e = absurd (cc e)
finish-value E F ts Outcomes.sticks e = absurd (cc e)

-- ---- heads of types
pub data Kind : Type 0 where
  universe : Kind
  function : Mult → Kind
  family : GlobalId → Kind
  primitive : PrimTy → Kind
  none : Kind

abbrev pub kind : Form → Kind
kind (Form.sort l) = Kind.universe
kind (Form.pi q) = Kind.function q
kind (Form.fam f) = Kind.family f
kind (Form.named (Named.prim_ty p)) = Kind.primitive p
kind _ = Kind.none

abbrev act_io : Action → Io
act_io (Action.pure m) = m
act_io (Action.bind m n) = n
act_io Action.put_line = Io.io
act_io Action.get_line = Io.io
act_io Action.opens = Io.io1
act_io Action.writes = Io.io1
act_io Action.closes = Io.io

abbrev lit_type : Lit → PrimTy
lit_type (literal.Int z) = PrimTy.int
lit_type (literal.Text s) = PrimTy.string

-- the head of the type of a value of this form
abbrev pub value_kind : Form → Kind
value_kind (Form.sort l) = Kind.universe
value_kind (Form.pi q) = Kind.universe
value_kind (Form.fam f) = Kind.universe
value_kind (Form.named (Named.prim_ty p)) = Kind.universe
value_kind (Form.lam q) = Kind.function q
value_kind (Form.con f c k) = Kind.family f
value_kind (Form.tape n) = Kind.primitive PrimTy.handle
value_kind (Form.named (Named.lit l)) = Kind.primitive (lit_type l)
value_kind (Form.named (Named.act a k)) = Kind.primitive (PrimTy.io_of (act_io a))
value_kind _ = Kind.none

record Headed (E : Env) (F : Form) (R : Term) : Type 0 where
  form : Form
  parts : Terms
  is : R ≡ node form parts
  stiff : Stiff E form
  same : value_kind F ≡ kind form

params-type : {Ξ Θ : Tele} {σ : ℕ → Term} {ts : Terms} {js : List Judged} {S R : Term} →
    ParamsThenArgs Ξ Θ σ ts js S R → (τ : ℕ → Term) × (R ≡ sub τ S)
params-type (ParamsThenArgs.param a) = params-type a
params-type (ParamsThenArgs.done {σ = σ} {ts = ts} a) = (push ts σ, refl)

fam-headed : {E : Env} {F : Form} {f : GlobalId} {S R : Term} (ss : Terms) → S ≡ node (Form.fam f) ss →
    value_kind F ≡ Kind.family f → (τ : ℕ → Term) → R ≡ sub τ S → Headed E F R
fam-headed {E} {f = f} ss e k τ d =
    record { form = Form.fam f; parts = _; is = d ∙ ap (sub τ) e; stiff = stiff-fam E f; same = k }

prim-headed : {E : Env} {F : Form} {R : Term} (p : PrimTy) (ss : Terms) →
    R ≡ node (Form.named (Named.prim_ty p)) ss → value_kind F ≡ Kind.primitive p → Headed E F R
prim-headed {E} p ss e k =
    record { form = Form.named (Named.prim_ty p); parts = ss; is = e; stiff = stiff-prim_ty E p; same = k }

sort-headed : {E : Env} {F : Form} {R : Term} (l : ℕ) → R ≡ Sort l → value_kind F ≡ Kind.universe → Headed E F R
sort-headed {E} l e k = record { form = Form.sort l; parts = ε; is = e; stiff = stiff-sort E l; same = k }

named-headed : {E : Env} (n : Named) (ts : Terms) → value_form (Form.named n) ≡ true →
    Headed E (Form.named n) (sub (push ts closed) (signature E n).type)
named-headed (Named.def d) ts v = absurd (cc v)
named-headed (Named.prim p) ts v = absurd (cc v)
named-headed (Named.lit (literal.Int z)) ts v = prim-headed PrimTy.int ε refl refl
named-headed (Named.lit (literal.Text s)) ts v = prim-headed PrimTy.string ε refl refl
named-headed (Named.prim_ty PrimTy.int) ts v = sort-headed 0 refl refl
named-headed (Named.prim_ty PrimTy.string) ts v = sort-headed 0 refl refl
named-headed (Named.prim_ty PrimTy.handle) ts v = sort-headed 0 refl refl
named-headed (Named.prim_ty (PrimTy.io_of m)) ts v = sort-headed 0 refl refl
named-headed (Named.act (Action.pure m) k) ts v = prim-headed (PrimTy.io_of m) _ refl refl
named-headed (Named.act (Action.bind m n) k) ts v = prim-headed (PrimTy.io_of n) _ refl refl
named-headed (Named.act Action.put_line k) ts v = prim-headed (PrimTy.io_of Io.io) _ refl refl
named-headed (Named.act Action.get_line k) ts v = prim-headed (PrimTy.io_of Io.io) _ refl refl
named-headed (Named.act Action.opens k) ts v = prim-headed (PrimTy.io_of Io.io1) _ refl refl
named-headed (Named.act Action.writes k) ts v = prim-headed (PrimTy.io_of Io.io1) _ refl refl
named-headed (Named.act Action.closes k) ts v = prim-headed (PrimTy.io_of Io.io) _ refl refl

rule-headed : {E : Env} {p : Part} {F : Form} {ts : Terms} {js : List Judged} {R : Term} {own : Use} →
    Rule E p F ts js R own → value_form F ≡ true → Headed E F R
rule-headed (Rule.sort {l = l}) v = sort-headed (suc l) refl refl
rule-headed Rule.pi v = sort-headed _ refl refl
rule-headed {E} (Rule.lam {q = q}) v =
    record { form = Form.pi q; parts = _; is = refl; stiff = stiff-pi E q; same = refl }
rule-headed Rule.app v = absurd (cc v)
rule-headed Rule.trap v = absurd (cc v)
rule-headed (Rule.case there m a) v = absurd (cc v)
rule-headed (Rule.delete m) v = absurd (cc v)
rule-headed Rule.tape v = prim-headed PrimTy.handle ε refl refl
rule-headed (Rule.fam there a) v = let (τ, d) = params-type a in sort-headed _ d refl
rule-headed {E} (Rule.con {f = f} {n = n} {c = c} i a) v =
    let (τ, d) = params-type a in
    let r = is_con-sig f (length (family_at E f).params) (family_at E f).constructors 0 n c i in
    fam-headed _ (ap (λ c. c.result) r.1) refl τ d
rule-headed (Rule.named {n = n} {ts = ts} there m a) v = named-headed n ts v

-- the form of a value of a type whose head never contracts
canonical : {E : Env} {p : Part} {F G : Form} {ts ss : Terms} {C : Term} {u : Use} → BodiesClosed E →
    Has E p [] (node F ts) C u → full_step E (node F ts) ≡ Outcome.value →
    C ≡ node G ss → Stiff E G → value_kind F ≡ kind G
canonical {E} {F} {G} {ts} {ss} bodies (Has.at_node {R = R} r hs c f) v e g =
    let h = rule-headed r (finish-value E F ts (full_steps E (demanded E F) ts) v) in
    h.same ∙ ap kind (stiff-nodes bodies h.stiff g (subst₂ (Conv E) h.is e c)).0

closed-node : {E : Env} {p : Part} {C : Term} {u : Use} (t : Term) → Has E p [] t C u →
    (F : Form) × (ts : Terms) × (t ≡ node F ts)
closed-node (var i) (Has.at_var s m c f) = absurd s
closed-node (node F ts) h = (F, ts, refl)

is-lam : (F : Form) (q : Mult) → value_kind F ≡ Kind.function q → F ≡ Form.lam q
is-lam (Form.lam r) q e = cc e
is-lam (Form.named (Named.def x)) q e = absurd (cc e)
is-lam (Form.named (Named.lit x)) q e = absurd (cc e)
is-lam (Form.named (Named.prim_ty x)) q e = absurd (cc e)
is-lam (Form.named (Named.prim x)) q e = absurd (cc e)
is-lam (Form.named (Named.act x k)) q e = absurd (cc e)
is-lam _ q e = absurd (cc e)

pub is-con : (F : Form) (f : GlobalId) → value_kind F ≡ Kind.family f → (c : ℕ) × (k : ℕ) × (F ≡ Form.con f c k)
is-con (Form.con g c k) f e = (c, k, cc e)
is-con (Form.named (Named.def x)) f e = absurd (cc e)
is-con (Form.named (Named.lit x)) f e = absurd (cc e)
is-con (Form.named (Named.prim_ty x)) f e = absurd (cc e)
is-con (Form.named (Named.prim x)) f e = absurd (cc e)
is-con (Form.named (Named.act x k)) f e = absurd (cc e)
is-con _ f e = absurd (cc e)

is-int : (F : Form) → value_kind F ≡ Kind.primitive PrimTy.int → (z : ℤ) × (F ≡ Form.named (Named.lit (literal.Int z)))
is-int (Form.named (Named.lit (literal.Int z))) e = (z, refl)
is-int _ e = absurd (cc e)

is-text : (F : Form) → value_kind F ≡ Kind.primitive PrimTy.string →
    (s : List ℕ) × (F ≡ Form.named (Named.lit (literal.Text s)))
is-text (Form.named (Named.lit (literal.Text s))) e = (s, refl)
is-text _ e = absurd (cc e)

pub is-tape : (F : Form) → value_kind F ≡ Kind.primitive PrimTy.handle → (n : ℕ) × (F ≡ Form.tape n)
is-tape (Form.tape n) e = (n, refl)
is-tape (Form.named (Named.def x)) e = absurd (cc e)
is-tape (Form.named (Named.lit (literal.Int z))) e = absurd (cc e)
is-tape (Form.named (Named.lit (literal.Text z))) e = absurd (cc e)
is-tape (Form.named (Named.prim_ty x)) e = absurd (cc e)
is-tape (Form.named (Named.prim x)) e = absurd (cc e)
is-tape (Form.named (Named.act x k)) e = absurd (cc e)
is-tape _ e = absurd (cc e)

-- ---- values of the types that are taken apart
no_args : {Θ : Tele} {σ : ℕ → Term} {ts : Terms} {js : List Judged} → Args Θ σ ts js → Θ ≡ [] → ts ≡ ε
no_args Args.none e = refl
no_args (Args.more a) e = absurd (cc e)

lit-args : (E : Env) (l : Lit) → (signature E (Named.lit l)).arguments ≡ []
lit-args E (literal.Int z) = refl
lit-args E (literal.Text s) = refl

lit-alone : {E : Env} {p : Part} {Γ : Ctx} {l : Lit} {ts : Terms} {C : Term} {u : Use} →
    Has E p Γ (node (Form.named (Named.lit l)) ts) C u → ts ≡ ε
lit-alone {E} {l = l} (Has.at_node (Rule.named there m a) hs c f) = no_args a (lit-args E l)

tape-alone : {E : Env} {p : Part} {Γ : Ctx} {n : ℕ} {ts : Terms} {C : Term} {u : Use} →
    Has E p Γ (node (Form.tape n) ts) C u → ts ≡ ε
tape-alone (Has.at_node Rule.tape hs c f) = refl

lam-parts : {E : Env} {p : Part} {Γ : Ctx} {q : Mult} {ts : Terms} {C : Term} {u : Use} →
    Has E p Γ (node (Form.lam q) ts) C u → (A : Term) × (b : Term) × (ts ≡ A ▸ b ▸ ε)
lam-parts (Has.at_node (Rule.lam {A = A} {b = b}) hs c f) = (A, b, refl)

module _ {E : Env} (bodies : BodiesClosed E) where
  pub value_at : {p : Part} {t : Term} {G : Form} {ss : Terms} {u : Use} → Has E p [] t (node G ss) u →
      full_step E t ≡ Outcome.value → Stiff E G →
      (F : Form) × (ts : Terms) × (t ≡ node F ts) × (value_kind F ≡ kind G)
  value_at {p} {t} {G} {ss} {u} h v g =
      let (F, ts, e) = closed-node t h in (
        F,
        ts,
        e,
        canonical bodies (subst (λ t. Has E p [] t (node G ss) u) e h)
            (subst (λ t. full_step E t ≡ Outcome.value) e v) refl g,
      )

  lam_value : {t A B : Term} {q : Mult} {u : Use} → Has E Part.run [] t (Pi q A B) u →
      full_step E t ≡ Outcome.value → (D : Term) × (b : Term) × (t ≡ Lam q D b)
  lam_value {t} {A} {B} {q} {u} h v =
      let (F, ts, e, k) = value_at h v (stiff-pi E q) in
      let d : t ≡ node (Form.lam q) ts = e ∙ ap (λ F. node F ts) (is-lam F q k) in
      let (D, b, g) = lam-parts (subst (λ t. Has E Part.run [] t (Pi q A B) u) d h) in
      (D, b, d ∙ ap (node (Form.lam q)) g)

  int_value : {t : Term} {u : Use} → Has E Part.run [] t IntTy u → full_step E t ≡ Outcome.value →
      (z : ℤ) × (t ≡ IntLit z)
  int_value {t} {u} h v =
      let (F, ts, e, k) = value_at h v (stiff-prim_ty E PrimTy.int) in
      let (z, g) = is-int F k in
      let d : t ≡ node (Form.named (Named.lit (literal.Int z))) ts = e ∙ ap (λ F. node F ts) g in (
        z,
        d ∙ ap (node (Form.named (Named.lit (literal.Int z))))
            (lit-alone (subst (λ t. Has E Part.run [] t IntTy u) d h)),
      )

  pub text_value : {t : Term} {u : Use} → Has E Part.run [] t StringTy u → full_step E t ≡ Outcome.value →
      (s : List ℕ) × (t ≡ TextLit s)
  text_value {t} {u} h v =
      let (F, ts, e, k) = value_at h v (stiff-prim_ty E PrimTy.string) in
      let (s, g) = is-text F k in
      let d : t ≡ node (Form.named (Named.lit (literal.Text s))) ts = e ∙ ap (λ F. node F ts) g in (
        s,
        d ∙ ap (node (Form.named (Named.lit (literal.Text s))))
            (lit-alone (subst (λ t. Has E Part.run [] t StringTy u) d h)),
      )

  pub tape_value : {t : Term} {u : Use} → Has E Part.run [] t HandleTy u → full_step E t ≡ Outcome.value →
      (n : ℕ) × (t ≡ node (Form.tape n) ε)
  tape_value {t} {u} h v =
      let (F, ts, e, k) = value_at h v (stiff-prim_ty E PrimTy.handle) in
      let (n, g) = is-tape F k in
      let d : t ≡ node (Form.tape n) ts = e ∙ ap (λ F. node F ts) g in
      (n, d ∙ ap (node (Form.tape n)) (tape-alone (subst (λ t. Has E Part.run [] t HandleTy u) d h)))

-- a value of family f is a constructor of it
record Constructed (E : Env) (f : GlobalId) (s : Term) : Type 0 where
  number : ℕ
  params : ℕ
  con : ConSig
  is_con : IsCon (fam_at E f).constructors number con
  arguments : Terms
  is : s ≡ node (Form.con f number params) arguments
  sized : size (skip params arguments) ≡ length con.fields

fields-sized : {Ξ Θ : Tele} {σ : ℕ → Term} {ts : Terms} {js : List Judged} {S R : Term} →
    ParamsThenArgs Ξ Θ σ ts js S R → size (skip (length Θ) ts) ≡ length Ξ
fields-sized (ParamsThenArgs.param a) = fields-sized a
fields-sized (ParamsThenArgs.done a) = args-size a

constructed : {E : Env} {p : Part} {Γ : Ctx} {f : GlobalId} {c k : ℕ} {ts : Terms} {C : Term} {u : Use} →
    Has E p Γ (node (Form.con f c k) ts) C u → Constructed E f (node (Form.con f c k) ts)
constructed {E} {f = f} {c = c} {ts = ts} (Has.at_node (Rule.con {c = d} i a) hs g h) =
    record {
      number = c;
      params = length (fam_at E f).params;
      con = d;
      is_con = i;
      arguments = ts;
      is = refl;
      sized = fields-sized a;
    }

con_value : {E : Env} {t : Term} {f : GlobalId} {ss : Terms} {u : Use} → BodiesClosed E →
    Has E Part.run [] t (node (Form.fam f) ss) u → full_step E t ≡ Outcome.value → Constructed E f t
con_value {E} {t} {f} {ss} {u} bodies h v =
    let (F, ts, e, k) = value_at bodies h v (stiff-fam E f) in
    let (c, l, g) = is-con F f k in
    let d : t ≡ node (Form.con f c l) ts = e ∙ ap (λ F. node F ts) g in
    subst (Constructed E f) (sym d) (constructed (subst (λ t. Has E Part.run [] t (node (Form.fam f) ss) u) d h))

-- ---- a Case
run-under : {E : Env} {Γ : Ctx} {t A : Term} {u : Use} (q : Mult) → Usable Part.run q →
    Has E (under Part.run q) Γ t A u → Has E Part.run Γ t A u
run-under 𝟘 m h = absurd m
run-under 𝟙 m h = h
run-under ω m h = h

record Last (E : Env) (f : GlobalId) (ns : List ℕ) (ts : Terms) : Type 0 where
  scrutinee : Term
  at : ScrutineeAt ns ts scrutinee
  made : Constructed E f scrutinee

last_made : {E : Env} {f : GlobalId} {q : Mult} {σ : ℕ → Term} {P : Term} {cs : List ConSig} {ns : List ℕ}
    {ts : Terms} {js : List Judged} {R : Term} → BodiesClosed E → Usable Part.run q →
    Branches (fam_at E f) q σ P cs ns ts js R → HasAll E Part.run [] ns ts js →
    full_steps E (kept (length ns) (𝟙 ∷ [])) ts ≡ Outcomes.values → Last E f ns ts
last_made {E} {q = q} bodies m (Branches.scrutinee {s = s} is e) (HasAll.more z h g hs) v =
    record {
      scrutinee = s;
      at = ScrutineeAt.end;
      made = con_value bodies (run-under q m h)
          (before-values (full_step E s) s ε Outcomes.values v).0;
    }
last_made bodies m (Branches.each {b = t} e b) (HasAll.more z h g hs) v =
    let r = last_made bodies m b hs (behind-values t _ v) in
    record { scrutinee = r.scrutinee; at = ScrutineeAt.later r.at; made = r.made }

branch_for : {E : Env} {Γ : Ctx} {p : Part} {S : FamSig} {q : Mult} {σ : ℕ → Term} {P : Term} {cs : List ConSig}
    {ns : List ℕ} {ts : Terms} {js : List Judged} {R s : Term} {c : ℕ} {k : ConSig} →
    Branches S q σ P cs ns ts js R → IsCon cs c k → ScrutineeAt ns ts s → HasAll E p Γ ns ts js →
    (n : ℕ) × (b : Term) × BranchAt c ns ts n b s × (length k.fields ≡ n)
branch_for (Branches.scrutinee xs e) i l hs = elim i [ ]
branch_for {q = q} {σ = σ} (Branches.each {c = k} {n = n} {b = t} e b) IsCon.here (ScrutineeAt.later l)
    (HasAll.more z h g hs) =
    (n, t, BranchAt.here l, sym (length-sub_binds σ (scale q k.fields) ∙ length-scale q k.fields) ∙ sym z)
branch_for (Branches.each e b) (IsCon.there i) (ScrutineeAt.later l) (HasAll.more z h g hs) =
    let (n, t, a, e) = branch_for b i l hs in (n, t, BranchAt.later a, e)

record Chosen (f : GlobalId) (k : ℕ) (ns : List ℕ) (ts : Terms) : Type 0 where
  place : ℕ
  params : ℕ
  arguments : Terms
  binds : ℕ
  body : Term
  at : Picks place k ns ts binds body (node (Form.con f place params) arguments)
  sized : size (skip params arguments) ≡ binds

chosen : {E : Env} {f : GlobalId} {q : Mult} {Θ : Tele} {σ : ℕ → Term} {k m : ℕ} {ns : List ℕ} {ts : Terms}
    {js : List Judged} {R : Term} → BodiesClosed E → Usable Part.run q →
    Cases (fam_at E f) q Θ σ k m ns ts js R → HasAll E Part.run [] (zeros k (m ∷ ns)) ts js →
    full_steps E (kept k (𝟘 ∷ kept (length ns) (𝟙 ∷ []))) ts ≡ Outcomes.values → Chosen f k ns ts
chosen bodies m (Cases.param {a = t} a) (HasAll.more z h g hs) v =
    let r = chosen bodies m a hs (behind-values t _ v) in
    record {
      place = r.place;
      params = r.params;
      arguments = r.arguments;
      binds = r.binds;
      body = r.body;
      at = Picks.param r.at;
      sized = r.sized;
    }
chosen {f = f} bodies m (Cases.motive {ns = ns} {P = P} {ts = ts} b) (HasAll.more z h g hs) v =
    let r = last_made bodies m b hs (behind-values P _ v) in
    let (n, t, a, e) = branch_for b r.made.is_con r.at hs in
    record {
      place = r.made.number;
      params = r.made.params;
      arguments = r.made.arguments;
      binds = n;
      body = t;
      at = Picks.motive (subst (λ s. BranchAt r.made.number ns ts n t s) r.made.is a);
      sized = r.made.sized ∙ e;
    }

-- ---- a Delete
-- Eq has one constructor
one-constructor : {F : Family} {c : ℕ} {k : ConSig} → F ≡ eq_family → IsCon (fam_sig eq_id F).constructors c k → c ≡ 0
one-constructor {c = c} {k = k} e i = only (subst (λ F. IsCon (fam_sig eq_id F).constructors c k) e i)
  where
    only : {c : ℕ} {k : ConSig} → IsCon (fam_sig eq_id eq_family).constructors c k → c ≡ 0
    only IsCon.here = refl
    only (IsCon.there h) = elim h [ ]

refl_value : {E : Env} {e A s : Term} {u : Use} → BodiesClosed E → HasPrim E →
    Has E Part.run [] e (EqTy A s s) u → full_step E e ≡ Outcome.value →
    (l : ℕ) × (xs : Terms) × (e ≡ node (Form.con eq_id 0 l) xs)
refl_value {E} {e} bodies prims h v =
    let m = con_value bodies h v in (
      m.params,
      m.arguments,
      m.is ∙ ap (λ c. node (Form.con eq_id c m.params) m.arguments)
          (one-constructor (ap family_of prims.equalities) m.is_con),
    )

-- ---- primitives
int-args : {E : Env} {ts : Terms} {js : List Judged} → BodiesClosed E →
    Args ((ω, IntTy) ∷ (ω, IntTy) ∷ []) closed ts js → HasAll E Part.run [] [] ts js →
    full_steps E (ω ∷ ω ∷ []) ts ≡ Outcomes.values → (a : ℤ) × (b : ℤ) × (ts ≡ IntLit a ▸ IntLit b ▸ ε)
int-args {E} bodies (Args.more {a = t} (Args.more {a = s} Args.none))
    (HasAll.more x h f (HasAll.more y k g HasAll.none)) v =
    let p = before-values (full_step E t) t (s ▸ ε) _ v in
    let q = before-values (full_step E s) s ε _ p.1 in
    let (a, d) = int_value bodies h p.0 in
    let (b, e) = int_value bodies k q.0 in
    (a, b, ap₂ (λ t s. t ▸ s ▸ ε) d e)

text-args : {E : Env} {ts : Terms} {js : List Judged} → BodiesClosed E →
    Args ((ω, StringTy) ∷ (ω, StringTy) ∷ []) closed ts js → HasAll E Part.run [] [] ts js →
    full_steps E (ω ∷ ω ∷ []) ts ≡ Outcomes.values → (a : List ℕ) × (b : List ℕ) × (ts ≡ TextLit a ▸ TextLit b ▸ ε)
text-args {E} bodies (Args.more {a = t} (Args.more {a = s} Args.none))
    (HasAll.more x h f (HasAll.more y k g HasAll.none)) v =
    let p = before-values (full_step E t) t (s ▸ ε) _ v in
    let q = before-values (full_step E s) s ε _ p.1 in
    let (a, d) = text_value bodies h p.0 in
    let (b, e) = text_value bodies k q.0 in
    (a, b, ap₂ (λ t s. t ▸ s ▸ ε) d e)

int-arg : {E : Env} {ts : Terms} {js : List Judged} → BodiesClosed E → Args ((ω, IntTy) ∷ []) closed ts js →
    HasAll E Part.run [] [] ts js →
    full_steps E (ω ∷ []) ts ≡ Outcomes.values → (a : ℤ) × (ts ≡ IntLit a ▸ ε)
int-arg {E} bodies (Args.more {a = t} Args.none) (HasAll.more x h f HasAll.none) v =
    let (a, d) = int_value bodies h (before-values (full_step E t) t ε _ v).0 in
    (a, ap (λ t. t ▸ ε) d)

divides : (b : Bool) (z : ℤ) → Goes (answers (cond b answer.DivisionByZero (answer.Value (literal.Int z))))
divides true z = tt
divides false z = tt

abbrev PrimGoes : Env → Primitive → Terms → Type 0
PrimGoes E p ts = Goes (itself E (Form.named (Named.prim p)) ts)

prim-goes : {E : Env} {ts : Terms} {js : List Judged} → BodiesClosed E →
    (p : Primitive) → Args (prim_signature p).arguments closed ts js → HasAll E Part.run [] [] ts js →
    full_steps E (mults (prim_signature p).arguments) ts ≡ Outcomes.values → PrimGoes E p ts
unfolding contract
prim-goes {E} bodies prim.AddInt a hs v = let (x, y, e) =
    int-args bodies a hs v in subst (PrimGoes E prim.AddInt) (sym e) tt
prim-goes {E} bodies prim.SubInt a hs v = let (x, y, e) =
    int-args bodies a hs v in subst (PrimGoes E prim.SubInt) (sym e) tt
prim-goes {E} bodies prim.MulInt a hs v = let (x, y, e) =
    int-args bodies a hs v in subst (PrimGoes E prim.MulInt) (sym e) tt
prim-goes {E} bodies prim.DivInt a hs v = let (x, y, e) =
    int-args bodies a hs v in subst (PrimGoes E prim.DivInt) (sym e) (divides _ _)
prim-goes {E} bodies prim.ModInt a hs v = let (x, y, e) =
    int-args bodies a hs v in subst (PrimGoes E prim.ModInt) (sym e) (divides _ _)
prim-goes {E} bodies prim.EqInt a hs v = let (x, y, e) =
    int-args bodies a hs v in subst (PrimGoes E prim.EqInt) (sym e) tt
prim-goes {E} bodies prim.LtInt a hs v = let (x, y, e) =
    int-args bodies a hs v in subst (PrimGoes E prim.LtInt) (sym e) tt
prim-goes {E} bodies prim.AppendString a hs v = let (x, y, e) =
    text-args bodies a hs v in subst (PrimGoes E prim.AppendString) (sym e) tt
prim-goes {E} bodies prim.EqString a hs v = let (x, y, e) =
    text-args bodies a hs v in subst (PrimGoes E prim.EqString) (sym e) tt
prim-goes {E} bodies prim.ShowInt a hs v = let (x, e) =
    int-arg bodies a hs v in subst (PrimGoes E prim.ShowInt) (sym e) tt

-- ---- the whole
some-goes : {o : Option Term} {t : Term} → o ≡ Some t → Goes (contracts_to o)
some-goes e = rw e tt

itself-goes : {E : Env} {F : Form} {ts : Terms} {js : List Judged} {R : Term} {own : Use} → BodiesClosed E →
    HasPrim E → Bodied E → Rule E Part.run F ts js R own →
    HasAll E Part.run [] (binders F) ts js → full_steps E (demanded E F) ts ≡ Outcomes.values → Goes (itself E F ts)
itself-goes bodies prims whole Rule.sort hs v = tt
itself-goes bodies prims whole Rule.pi hs v = tt
itself-goes bodies prims whole Rule.lam hs v = tt
itself-goes bodies prims whole (Rule.fam there a) hs v = tt
itself-goes bodies prims whole (Rule.con i a) hs v = tt
itself-goes bodies prims whole Rule.trap hs v = tt
itself-goes bodies prims whole Rule.tape hs v = tt
itself-goes {E} bodies prims whole (Rule.app {q = q} {f = t} {a = a}) (HasAll.more x h f hs) v =
    let (D, b, e) = lam_value bodies h (before-values (full_step E t) t (a ▸ ε) _ v).0 in
    subst (λ t. Goes (contracts_to (contract E (Form.app q) (t ▸ a ▸ ε)))) (sym e)
    (some-goes (contracts (Root.by_beta {A = D} {b = b} {a = a})))
itself-goes bodies prims whole (Rule.case there m a) hs v =
    let r = chosen bodies m a hs v in some-goes (contracts (Root.by_iota r.at r.sized))
itself-goes {E} bodies prims whole (Rule.named {n = Named.def d} {ts = ts} there m a) hs v =
    let (b, e) = whole d m in
    subst (λ ts. Goes (contracts_to (contract E (Form.named (Named.def d)) ts))) (sym (no_args a refl))
    (some-goes (contracts (Root.by_delta e)))
itself-goes bodies prims whole (Rule.named {n = Named.prim p} there m a) hs v = prim-goes bodies p a hs v
itself-goes bodies prims whole (Rule.named {n = Named.lit l} there m a) hs v = tt
itself-goes bodies prims whole (Rule.named {n = Named.prim_ty p} there m a) hs v = tt
itself-goes bodies prims whole (Rule.named {n = Named.act b k} there m a) hs v = tt
itself-goes {E} bodies prims whole (Rule.delete {q = q} {A = A} {s = s} {P = P} {b = b} {e = e} m)
    (HasAll.more e₁ h₁ f₁ (HasAll.more e₂ h₂ f₂
    (HasAll.more e₃ h₃ f₃ (HasAll.more e₄ h₄ f₄ (HasAll.more e₅ he f₅ HasAll.none))))) v =
    let (l, xs, d) = refl_value bodies prims (run-under q m he)
    (before-values (full_step E e) e ε _
    (behind-values b _ (behind-values P _ (behind-values s _ (behind-values A _ v))))).0 in
    subst (λ e. Goes (contracts_to (contract E (Form.delete q) (A ▸ s ▸ P ▸ b ▸ e ▸ ε)))) (sym d)
    (some-goes (contracts (Root.by_deletion {A = A} {s = s} {P = P} {b = b} {l = l} {xs = xs})))

-- a demanded component is closed and in the run part
data Demands : List Mult → List Judged → Type 0 where
  none : {js : List Judged} → Demands [] js
  skipped : {ms : List Mult} {j : Judged} {js : List Judged} → Demands ms js → Demands (𝟘 ∷ ms) (j ∷ js)
  taken : {m : Mult} {ms : List Mult} {j : Judged} {js : List Judged} → j.binds ≡ [] →
      under Part.run j.mult ≡ Part.run → Demands ms js → Demands (m ∷ ms) (j ∷ js)

args-demands : {Θ : Tele} {σ : ℕ → Term} {ts : Terms} {js : List Judged} → Args Θ σ ts js → Demands (mults Θ) js
args-demands Args.none = Demands.none
args-demands (Args.more {q = 𝟘} a) = Demands.skipped (args-demands a)
args-demands (Args.more {q = 𝟙} a) = Demands.taken refl refl (args-demands a)
args-demands (Args.more {q = ω} a) = Demands.taken refl refl (args-demands a)

params-demands : {Ξ Θ : Tele} {σ : ℕ → Term} {ts : Terms} {js : List Judged} {S R : Term} →
    ParamsThenArgs Ξ Θ σ ts js S R → Demands (kept (length Θ) (mults Ξ)) js
params-demands (ParamsThenArgs.param a) = Demands.skipped (params-demands a)
params-demands (ParamsThenArgs.done a) = args-demands a

field-mults-are : (f : GlobalId) (k : ℕ) (ds : List Constructor) (n c : ℕ) (s : ConSig) →
    IsCon (con_sigs f k n ds) c s → field_mults ds c ≡ mults s.fields
field-mults-are f k [] n c s h = elim h [ ]
field-mults-are f k (d ∷ ds) n c s IsCon.here = refl
field-mults-are f k (d ∷ ds) n c s (IsCon.there {n = e} h) = field-mults-are f k ds (suc n) e s h

run-part : (q : Mult) → Usable Part.run q → under Part.run q ≡ Part.run
run-part 𝟘 m = absurd m
run-part 𝟙 m = refl
run-part ω m = refl

branches-demands : {S : FamSig} {q : Mult} {σ : ℕ → Term} {P : Term} {cs : List ConSig} {ns : List ℕ} {ts : Terms}
    {js : List Judged} {R : Term} → Usable Part.run q →
    Branches S q σ P cs ns ts js R → Demands (kept (length ns) (𝟙 ∷ [])) js
branches-demands {q = q} m (Branches.scrutinee is e) = Demands.taken refl (run-part q m) Demands.none
branches-demands m (Branches.each e b) = Demands.skipped (branches-demands m b)

cases-demands : {S : FamSig} {q : Mult} {Θ : Tele} {σ : ℕ → Term} {k m : ℕ} {ns : List ℕ} {ts : Terms}
    {js : List Judged} {R : Term} → Usable Part.run q →
    Cases S q Θ σ k m ns ts js R → Demands (kept k (𝟘 ∷ kept (length ns) (𝟙 ∷ []))) js
cases-demands m (Cases.param a) = Demands.skipped (cases-demands m a)
cases-demands m (Cases.motive b) = Demands.skipped (branches-demands m b)

app-demands : (q : Mult) (A B : Term) (u w : Use) →
    Demands (𝟙 ∷ q ∷ []) (judged [] (Pi q A B) 𝟙 u ∷ judged [] A q w ∷ [])
app-demands 𝟘 A B u w = Demands.taken refl refl (Demands.skipped Demands.none)
app-demands 𝟙 A B u w = Demands.taken refl refl (Demands.taken refl refl Demands.none)
app-demands ω A B u w = Demands.taken refl refl (Demands.taken refl refl Demands.none)

rule-demands : {E : Env} {F : Form} {ts : Terms} {js : List Judged} {R : Term} {own : Use} →
    Rule E Part.run F ts js R own → Demands (demanded E F) js
rule-demands Rule.sort = Demands.none
rule-demands Rule.pi = Demands.none
rule-demands Rule.lam = Demands.none
rule-demands (Rule.fam there a) = Demands.none
rule-demands Rule.trap = Demands.none
rule-demands Rule.tape = Demands.none
rule-demands (Rule.app {q = q}) = app-demands q _ _ _ _
rule-demands {E} (Rule.con {f = f} {n = n} {c = c} {js = js} i a) =
    subst (λ ms. Demands (kept (length (fam_at E f).params) ms) js)
    (sym (field-mults-are f (length (fam_at E f).params) (family_at E f).constructors 0 n c i))
    (params-demands a)
rule-demands (Rule.case there m a) = cases-demands m a
rule-demands (Rule.delete {q = q} m) =
    Demands.skipped (Demands.skipped
    (Demands.skipped (Demands.skipped (Demands.taken refl (run-part q m) Demands.none))))
rule-demands (Rule.named there m a) = args-demands a

finish-goes : (E : Env) (F : Form) (ts : Terms) (o : Outcomes) → full_steps E (demanded E F) ts ≡ o → AllGo o →
    (full_steps E (demanded E F) ts ≡ Outcomes.values → Goes (itself E F ts)) → Goes (finish E F ts o)
finish-goes E F ts Outcomes.values e g h = h e
finish-goes E F ts (Outcomes.steps ss) e g h = tt
finish-goes E F ts (Outcomes.traps k) e g h = tt
finish-goes E F ts Outcomes.sticks e g h = g

behind-goes : (t : Term) (r : Outcomes) → AllGo r → AllGo (behind t r)
behind-goes t Outcomes.values g = tt
behind-goes t (Outcomes.steps ss) g = tt
behind-goes t (Outcomes.traps k) g = tt
behind-goes t Outcomes.sticks g = g

before-goes : (o : Outcome) (t : Term) (ts : Terms) (r : Outcomes) → Goes o → AllGo r → AllGo (before o t ts r)
before-goes Outcome.value t ts r g h = behind-goes t r h
before-goes (Outcome.step s) t ts r g h = tt
before-goes (Outcome.trap k) t ts r g h = tt
before-goes Outcome.stuck t ts r g h = g

component-goes : (m : Mult) (o : Outcome) (t : Term) (ts : Terms) (r : Outcomes) → Goes o → AllGo r →
    AllGo (component m o t ts r)
component-goes 𝟘 o t ts r g h = behind-goes t r h
component-goes 𝟙 o t ts r g h = before-goes o t ts r g h
component-goes ω o t ts r g h = before-goes o t ts r g h

module _ {E : Env} (bodies : BodiesClosed E) (prims : HasPrim E) (whole : Bodied E) where
  mutual
    pub progress : (t : Term) {A : Term} {u : Use} → Has E Part.run [] t A u → Goes (full_step E t)
    progress (var i) (Has.at_var s m c f) = absurd s
    progress (node F ts) (Has.at_node r hs c f) =
        finish-goes E F ts (full_steps E (demanded E F) ts) refl
        (all_progress ts (demanded E F) hs (rule-demands r)) (itself-goes bodies prims whole r hs)

    all_progress : (ts : Terms) (ms : List Mult) {ns : List ℕ} {js : List Judged} →
        HasAll E Part.run [] ns ts js → Demands ms js → AllGo (full_steps E ms ts)
    all_progress ε ms HasAll.none Demands.none = tt
    all_progress (t ▸ ts) ms (HasAll.more z h g hs) Demands.none = tt
    all_progress (t ▸ ts) (m ∷ ms) (HasAll.more z h g hs) (Demands.skipped d) =
        behind-goes t (full_steps E ms ts) (all_progress ts ms hs d)
    all_progress (t ▸ ts) (m ∷ ms) (HasAll.more {j = j} z h g hs) (Demands.taken b p d) =
        component-goes m (full_step E t) t ts (full_steps E ms ts)
        (progress t (subst₂ (λ p Γ. Has E p Γ t j.type j.uses) p (ap (ext []) b) h)) (all_progress ts ms hs d)
