-- What a contraction looks like.
use Rattle.std.proofs.Common.{◌≡◌, ℕ, zero, suc, List, [], ◌∷◌, refl, sym, subst, Some, eqb, ◌&&◌}
use Rattle.std.proofs.lemmas.Bool.{eq-eqb, eqb-true, and_parts}
use mathlib.Core.Path.{subst₂}
use Rattle.qtt_base.specs.declared.place.GlobalId.{GlobalId}
use Rattle.qtt_usage.specs.declared.mult.Mult.{Mult}
use Rattle.qtt_usage.specs.Mult.{same_mult}
use Rattle.qtt_prims.specs.declared.prim.Primitive.{Primitive}
use Rattle.qtt_prims.specs.declared.lit.Lit.{Lit}
use Rattle.qtt_term.specs.Term.{Named, Form, Term, Terms, var, node, ε, ◌▸◌, size, skip, Lam, same_id}
use Rattle.qtt_term.specs.Substitution.{sub, push, inst}
use Rattle.qtt_term.specs.Signature.{Env, definition_at, eq_id}
use Rattle.qtt_term.specs.Contraction.{chain, literals, Function, as_lam, call, beta, Made, as_con, scrutinee, branch_at, select, iota, when_refl, deletion, delta, computed, contract}
use Rattle.qtt_term.proofs.Options.{none≢some, some-injective, chain-some, cond-some}
use Rattle.qtt_term.proofs.Same.{same_mult-is, mult-same, same_id-is, id-same}

-- ---- a contraction, by the rule that makes it
-- what follows the branches
pub data ScrutineeAt : List ℕ → Terms → Term → Type 0 where
  end : {s : Term} → ScrutineeAt [] (s ▸ ε) s
  later : {n : ℕ} {ns : List ℕ} {b s : Term} {ts : Terms} → ScrutineeAt ns ts s → ScrutineeAt (n ∷ ns) (b ▸ ts) s

-- branch c, the number of its binders, and the scrutinee
pub data BranchAt : ℕ → List ℕ → Terms → ℕ → Term → Term → Type 0 where
  here : {n : ℕ} {ns : List ℕ} {b s : Term} {ts : Terms} → ScrutineeAt ns ts s → BranchAt zero (n ∷ ns) (b ▸ ts) n b s
  later : {c n m : ℕ} {ns : List ℕ} {d b s : Term} {ts : Terms} → BranchAt c ns ts n b s →
      BranchAt (suc c) (m ∷ ns) (d ▸ ts) n b s

-- the same of all components, parameters and motive among them
pub data Picks (c : ℕ) : ℕ → List ℕ → Terms → ℕ → Term → Term → Type 0 where
  motive : {ns : List ℕ} {n : ℕ} {P b s : Term} {ts : Terms} → BranchAt c ns ts n b s → Picks c zero ns (P ▸ ts) n b s
  param : {k : ℕ} {ns : List ℕ} {n : ℕ} {a b s : Term} {ts : Terms} → Picks c k ns ts n b s →
      Picks c (suc k) ns (a ▸ ts) n b s

-- a form with its components contracts to a term
pub data Root (E : Env) : Form → Terms → Term → Type 0 where
  by_beta : {q : Mult} {A b a : Term} → Root E (Form.app q) (Lam q A b ▸ a ▸ ε) (inst b a)
  by_iota : {q : Mult} {f : GlobalId} {c k l m n : ℕ} {ns : List ℕ} {ts xs : Terms} {b : Term} →
      Picks c k ns ts n b (node (Form.con f c l) xs) → size (skip l xs) ≡ n →
      Root E (Form.case q f k m ns) ts (sub (push (skip l xs) var) b)
  by_deletion : {q : Mult} {A s P b : Term} {l : ℕ} {xs : Terms} →
      Root E (Form.delete q) (A ▸ s ▸ P ▸ b ▸ node (Form.con eq_id zero l) xs ▸ ε) b
  by_delta : {d : GlobalId} {b : Term} → (definition_at E d).body ≡ Some b → Root E (Form.named (Named.def d)) ε b
  by_prim : {p : Primitive} {ts : Terms} {ls : List Lit} {t : Term} → literals ts ≡ Some ls → computed p ls ≡ Some t →
      Root E (Form.named (Named.prim p)) ts t

-- ---- from the function to the view
view-scrutinee : (ns : List ℕ) (ts : Terms) (s : Term) → scrutinee ns ts ≡ Some s → ScrutineeAt ns ts s
view-scrutinee [] (t ▸ ε) s e = subst (ScrutineeAt [] (t ▸ ε)) (some-injective e) ScrutineeAt.end
view-scrutinee [] ε s e = absurd (none≢some e)
view-scrutinee [] (t ▸ r ▸ ts) s e = absurd (none≢some e)
view-scrutinee (n ∷ ns) ε s e = absurd (none≢some e)
view-scrutinee (n ∷ ns) (b ▸ ts) s e = ScrutineeAt.later (view-scrutinee ns ts s e)

record Branched (c : ℕ) (ns : List ℕ) (ts fs : Terms) (s t : Term) : Type 0 where
  binds : ℕ
  body : Term
  at : BranchAt c ns ts binds body s
  sized : size fs ≡ binds
  is : t ≡ sub (push fs var) body

view-branch : (c : ℕ) (ns : List ℕ) (ts fs : Terms) (s t : Term) → ScrutineeAt ns ts s →
    branch_at c ns ts fs ≡ Some t → Branched c ns ts fs s t
view-branch zero (n ∷ ns) (b ▸ ts) fs s t (ScrutineeAt.later h) e =
    let r = cond-some (eqb (size fs) n) (Some (sub (push fs var) b)) t e in
    record {
      binds = n;
      body = b;
      at = BranchAt.here h;
      sized = eqb-true (size fs) n r.0;
      is = sym (some-injective r.1);
    }
view-branch (suc c) (n ∷ ns) (b ▸ ts) fs s t (ScrutineeAt.later h) e =
    let r = view-branch c ns ts fs s t h e in
    record { binds = r.binds; body = r.body; at = BranchAt.later r.at; sized = r.sized; is = r.is }
view-branch zero [] ts fs s t h e = absurd (none≢some e)
view-branch (suc c) [] ts fs s t h e = absurd (none≢some e)
view-branch zero (n ∷ ns) ε fs s t h e = elim h [ ]
view-branch (suc c) (n ∷ ns) ε fs s t h e = elim h [ ]

data IsMade : Term → Made → Type 0 where
  is_made : {f : GlobalId} {c k : ℕ} {ts : Terms} → IsMade (node (Form.con f c k) ts) (Made.made f c (skip k ts))

view-con : (s : Term) (m : Made) → as_con s ≡ Some m → IsMade s m
view-con (node (Form.con f c k) ts) m e = subst (IsMade (node (Form.con f c k) ts)) (some-injective e) is_made
view-con _ m e = absurd (none≢some e)

record Picked (f : GlobalId) (k : ℕ) (ns : List ℕ) (ts : Terms) (t : Term) : Type 0 where
  place : ℕ
  params : ℕ
  arguments : Terms
  binds : ℕ
  body : Term
  at : Picks place k ns ts binds body (node (Form.con f place params) arguments)
  sized : size (skip params arguments) ≡ binds
  is : t ≡ sub (push (skip params arguments) var) body

selected : (f : GlobalId) (ns : List ℕ) (P : Term) (ts : Terms) (s t : Term) (m : Made) → IsMade s m →
    ScrutineeAt ns ts s →
    select f ns ts m ≡ Some t → Picked f zero ns (P ▸ ts) t
selected f ns P ts s t m (is_made {f = g} {c = c} {k = l} {ts = xs}) h e =
    let r = cond-some (same_id f g) (branch_at c ns ts (skip l xs)) t e in
    let b = view-branch c ns ts (skip l xs) s t h r.1 in
    record {
      place = c;
      params = l;
      arguments = xs;
      binds = b.binds;
      body = b.body;
      at = Picks.motive (subst (λ d. BranchAt c ns ts b.binds b.body (node (Form.con d c l) xs))
          (sym (same_id-is f g r.0)) b.at);
      sized = b.sized;
      is = b.is;
    }

view-iota : (f : GlobalId) (k : ℕ) (ns : List ℕ) (ts : Terms) (t : Term) → iota f ns (skip k ts) ≡ Some t →
    Picked f k ns ts t
view-iota f zero ns ε t e = absurd (none≢some e)
view-iota f (suc k) ns ε t e = absurd (none≢some e)
view-iota f (suc k) ns (a ▸ ts) t e =
    let r = view-iota f k ns ts t e in
    record {
      place = r.place;
      params = r.params;
      arguments = r.arguments;
      binds = r.binds;
      body = r.body;
      at = Picks.param r.at;
      sized = r.sized;
      is = r.is;
    }
view-iota f zero ns (P ▸ ts) t e =
    let a = chain-some (scrutinee ns ts) (λ s. chain (as_con s) (select f ns ts)) t e in
    let b = chain-some (as_con a.0) (select f ns ts) t a.2 in
    selected f ns P ts a.0 t b.0 (view-con a.0 b.0 b.1) (view-scrutinee ns ts a.0 a.1) b.2

data IsLam : Term → Function → Type 0 where
  is_lam : {q : Mult} {A b : Term} → IsLam (Lam q A b) (Function.function q b)

view-lam : (g : Term) (f : Function) → as_lam g ≡ Some f → IsLam g f
view-lam (node (Form.lam q) (A ▸ b ▸ ε)) f e = subst (IsLam (Lam q A b)) (some-injective e) is_lam
view-lam _ f e = absurd (none≢some e)

called : (E : Env) (q : Mult) (g a t : Term) (f : Function) → IsLam g f → call q a f ≡ Some t →
    Root E (Form.app q) (g ▸ a ▸ ε) t
called E q g a t f (is_lam {q = r} {A = A} {b = b}) e =
    let c = cond-some (same_mult q r) (Some (inst b a)) t e in
    subst (Root E (Form.app q) (Lam r A b ▸ a ▸ ε)) (some-injective c.1)
    (subst (λ r. Root E (Form.app q) (Lam r A b ▸ a ▸ ε) (inst b a)) (same_mult-is q r c.0) Root.by_beta)

view-beta : (E : Env) (q : Mult) (ts : Terms) (t : Term) → beta q ts ≡ Some t → Root E (Form.app q) ts t
view-beta E q (g ▸ a ▸ ε) t e =
    let c = chain-some (as_lam g) (call q a) t e in
    called E q g a t c.0 (view-lam g c.0 c.1) c.2
view-beta E q _ t e = absurd (none≢some e)

view-delta : (E : Env) (d : GlobalId) (ts : Terms) (t : Term) → delta E d ts ≡ Some t →
    Root E (Form.named (Named.def d)) ts t
view-delta E d ε t e = Root.by_delta e
view-delta E d (a ▸ ts) t e = absurd (none≢some e)

deleted : (E : Env) (q : Mult) (A s P b e t : Term) (m : Made) → IsMade e m → when_refl b m ≡ Some t →
    Root E (Form.delete q) (A ▸ s ▸ P ▸ b ▸ e ▸ ε) t
deleted E q A s P b e t m (is_made {f = f} {c = c} {k = l} {ts = xs}) h =
    let r = cond-some (same_id f eq_id && eqb c 0) (Some b) t h in
    let p = and_parts (same_id f eq_id) (eqb c 0) r.0 in
    subst (Root E (Form.delete q) (A ▸ s ▸ P ▸ b ▸ node (Form.con f c l) xs ▸ ε)) (some-injective r.1)
    (subst₂ (λ f c. Root E (Form.delete q) (A ▸ s ▸ P ▸ b ▸ node (Form.con f c l) xs ▸ ε) b)
    (sym (same_id-is f eq_id p.0))
    (sym (eqb-true c 0 p.1)) Root.by_deletion)

view-deletion : (E : Env) (q : Mult) (ts : Terms) (t : Term) → deletion ts ≡ Some t → Root E (Form.delete q) ts t
view-deletion E q (A ▸ s ▸ P ▸ b ▸ e ▸ ε) t h =
    let c = chain-some (as_con e) (when_refl b) t h in
    deleted E q A s P b e t c.0 (view-con e c.0 c.1) c.2
view-deletion E q _ t h = absurd (none≢some h)

pub view : (E : Env) (F : Form) (ts : Terms) (t : Term) → contract E F ts ≡ Some t → Root E F ts t
unfolding contract
view E (Form.app q) ts t e = view-beta E q ts t e
view E (Form.case q f k m ns) ts t e =
    let r = view-iota f k ns ts t e in
    subst (Root E (Form.case q f k m ns) ts) (sym r.is) (Root.by_iota r.at r.sized)
view E (Form.delete q) ts t e = view-deletion E q ts t e
view E (Form.named (Named.def d)) ts t e = view-delta E d ts t e
view E (Form.named (Named.prim p)) ts t e =
    let c = chain-some (literals ts) (computed p) t e in Root.by_prim c.1 c.2
view E _ ts t e = absurd (none≢some e)

-- ---- and back
scrutinee-is : {ns : List ℕ} {ts : Terms} {s : Term} → ScrutineeAt ns ts s → scrutinee ns ts ≡ Some s
scrutinee-is ScrutineeAt.end = refl
scrutinee-is (ScrutineeAt.later h) = scrutinee-is h

branch-scrutinee : {c n : ℕ} {ns : List ℕ} {ts : Terms} {b s : Term} → BranchAt c ns ts n b s → scrutinee ns ts ≡ Some s
branch-scrutinee (BranchAt.here h) = scrutinee-is h
branch-scrutinee (BranchAt.later h) = branch-scrutinee h

branch-is : {c n : ℕ} {ns : List ℕ} {ts : Terms} {b s : Term} (fs : Terms) → BranchAt c ns ts n b s → size fs ≡ n →
    branch_at c ns ts fs ≡ Some (sub (push fs var) b)
branch-is {b = b} fs (BranchAt.here {n = n} h) e = rw (eq-eqb (size fs) n e) refl
branch-is fs (BranchAt.later h) e = branch-is fs h e

iota-is : {c k n : ℕ} {ns : List ℕ} {ts : Terms} {b s : Term} (f : GlobalId) (fs : Terms) → Picks c k ns ts n b s →
    as_con s ≡ Some (Made.made f c fs) → size fs ≡ n →
    iota f ns (skip k ts) ≡ Some (sub (push fs var) b)
iota-is f fs (Picks.param h) d e = iota-is f fs h d e
iota-is f fs (Picks.motive h) d e = rw (branch-scrutinee h, d, id-same f, branch-is fs h e) refl

pub contracts : {E : Env} {F : Form} {ts : Terms} {t : Term} → Root E F ts t → contract E F ts ≡ Some t
unfolding contract
contracts (Root.by_beta {q = q}) = rw (mult-same q) refl
contracts (Root.by_iota {f = f} {l = l} {xs = xs} h e) = iota-is f (skip l xs) h refl e
contracts Root.by_deletion = refl
contracts (Root.by_delta e) = e
contracts (Root.by_prim d e) = rw d e
