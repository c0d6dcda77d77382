-- Weak head normal forms and readings are where the contractions toward them end.
use Rattle.std.proofs.Common.{◌≡◌, ℕ, zero, suc, ◌+◌, ◌≤◌, List, length, refl, sym, ap, subst, Bool, true, false, Option, Some, None, arith}
use Rattle.qtt_prims.specs.declared.lit.Lit.{Lit}
use Rattle.qtt_term.specs.Term.{Named, Form, Term, Terms, var, node, ε, ◌▸◌}
use Rattle.qtt_term.specs.Signature.{Env, family_at}
use Rattle.qtt_term.specs.Contraction.{as_lit, literal_term, contract}
use Rattle.qtt_term.specs.Question.{wrap, argument_step, scrutinee_place, asked, head_step, step_at, arguments_step}
use Rattle.qtt_term.specs.Reading.{is_plain, at_fields, in_fields, read_step, fields_step}
use Rattle.qtt_term.proofs.Options.{none≢some}
use Rattle.qtt_confluence.proofs.Heads.{either-none, wrap-none}
use Rattle.qtt_conclusions.specs.NormalForms.{Behind, FirstOpen, WaitsFor, WeakHeadNormal, PlainField, IsRead}
use Rattle.qtt_conclusions.specs.Laws.{NormalFormsAreSo}

-- ---- places
place : (k : ℕ) (ns : List ℕ) → scrutinee_place k ns ≡ k + suc (length ns)
place zero ns = omega arith
place (suc k) ns = let i = place k ns in omega arith

behind-as : {n m : ℕ} {ts : Terms} {a : Term} → n ≡ m → Behind n ts a → Behind m ts a
behind-as {ts = ts} {a = a} e b = subst (λ n. Behind n ts a) e b

literal-is : (t : Term) (l : Lit) → as_lit t ≡ Some l → t ≡ literal_term l
literal-is (node (Form.named (Named.lit m)) ε) l e = ap literal_term (cc e)
literal-is _ l e = absurd (none≢some e)

past-literal : {t a : Term} {ts : Terms} {l : Lit} → as_lit t ≡ Some l → FirstOpen ts a → FirstOpen (t ▸ ts) a
past-literal {t} {a} {ts} {l} e b =
    subst (λ t. FirstOpen (t ▸ ts) a) (sym (literal-is t l e)) (FirstOpen.past b)

-- ---- a weak head normal form has no contraction toward its head
still-at : (E : Env) (ts : Terms) (n : ℕ) → ((a : Term) → Behind n ts a → head_step E a ≡ None) →
    step_at E ts n ≡ None
still-at E ε n h = refl
still-at E (t ▸ ts) zero h = rw (h t Behind.here) refl
still-at E (t ▸ ts) (suc n) h = rw (still-at E ts n (λ a b. h a (Behind.past b))) refl

still-argument : (E : Env) (t : Term) (ts : Terms) (o : Option Lit) → as_lit t ≡ o →
    ((a : Term) → FirstOpen (t ▸ ts) a → head_step E a ≡ None) →
    (((a : Term) → FirstOpen ts a → head_step E a ≡ None) → arguments_step E ts ≡ None) →
    argument_step o t ts (head_step E t) (arguments_step E ts) ≡ None
still-argument E t ts None e h more = rw (h t (FirstOpen.here e)) refl
still-argument E t ts (Some l) e h more = rw (more (λ a b. h a (past-literal e b))) refl

still-arguments : (E : Env) (ts : Terms) → ((a : Term) → FirstOpen ts a → head_step E a ≡ None) →
    arguments_step E ts ≡ None
still-arguments E ε h = refl
still-arguments E (t ▸ ts) h = still-argument E t ts (as_lit t) refl h (λ k. still-arguments E ts k)

still-asked : (E : Env) (F : Form) (ts : Terms) → ((a : Term) → WaitsFor F ts a → head_step E a ≡ None) →
    asked F (step_at E ts) (arguments_step E ts) ≡ None
still-asked E (Form.app q) ts h = still-at E ts 0 (λ a b. h a (WaitsFor.function b))
still-asked E (Form.case q f k m ns) ts h =
    still-at E ts (scrutinee_place k ns) (λ a b. h a (WaitsFor.scrutinee (behind-as (place k ns) b)))
still-asked E (Form.delete q) ts h = still-at E ts 4 (λ a b. h a (WaitsFor.proof b))
still-asked E (Form.named (Named.prim p)) ts h = still-arguments E ts (λ a b. h a (WaitsFor.argument b))
still-asked E (Form.named (Named.def d)) ts h = refl
still-asked E (Form.named (Named.lit l)) ts h = refl
still-asked E (Form.named (Named.prim_ty p)) ts h = refl
still-asked E (Form.named (Named.act a k)) ts h = refl
still-asked E _ ts h = refl

pub is-head : (E : Env) (t : Term) → WeakHeadNormal E t → head_step E t ≡ None
is-head E _ WeakHeadNormal.variable = refl
is-head E _ (WeakHeadNormal.form {F = F} {ts = ts} c w) =
    rw (c, still-asked E F ts (λ a b. is-head E a (w a b))) refl

-- ---- a term without a contraction toward its head is a weak head normal form
open-now : (o : Option Lit) (t : Term) (ts : Terms) (now : Option Term) (later : Option Terms) → o ≡ None →
    argument_step o t ts now later ≡ None → now ≡ None
open-now None t ts now later e h = wrap-none (λ s. s ▸ ts) now h
open-now (Some l) t ts now later e h = absurd (none≢some (sym e))

waited : (E : Env) (F : Form) (ts : Terms) →
    ((n : ℕ) → step_at E ts n ≡ None → (a : Term) → Behind n ts a → WeakHeadNormal E a) →
    (arguments_step E ts ≡ None → (a : Term) → FirstOpen ts a → WeakHeadNormal E a) →
    asked F (step_at E ts) (arguments_step E ts) ≡ None → (a : Term) → WaitsFor F ts a → WeakHeadNormal E a
waited E _ ts one more h a (WaitsFor.function b) = one 0 h a b
waited E _ ts one more h a (WaitsFor.scrutinee {k = k} {ns = ns} b) =
    one (scrutinee_place k ns) h a (behind-as (sym (place k ns)) b)
waited E _ ts one more h a (WaitsFor.proof b) = one 4 h a b
waited E _ ts one more h a (WaitsFor.argument b) = more h a b

module _ (E : Env) where
  mutual
    pub is-normal : (t : Term) → head_step E t ≡ None → WeakHeadNormal E t
    is-normal (var i) h = WeakHeadNormal.variable
    is-normal (node F ts) h =
        let c = either-none (contract E F ts) (wrap (node F) (asked F (step_at E ts) (arguments_step E ts))) h in
        WeakHeadNormal.form c.0
        (waited E F ts (λ n k a b. normal-at ts n k a b) (λ k a b. normal-argument ts k a b) (wrap-none (node F) _ c.1))

    normal-at : (ts : Terms) (n : ℕ) → step_at E ts n ≡ None → (a : Term) → Behind n ts a → WeakHeadNormal E a
    normal-at ε n h a b = elim b [ ]
    normal-at (t ▸ ts) zero h _ Behind.here = is-normal t (wrap-none (λ s. s ▸ ts) (head_step E t) h)
    normal-at (t ▸ ts) (suc n) h a (Behind.past b) =
        normal-at ts n (wrap-none (λ ss. t ▸ ss) (step_at E ts n) h) a b

    normal-argument : (ts : Terms) → arguments_step E ts ≡ None → (a : Term) → FirstOpen ts a → WeakHeadNormal E a
    normal-argument ε h a b = elim b [ ]
    normal-argument (t ▸ ts) h _ (FirstOpen.here e) =
        is-normal t (open-now (as_lit t) t ts (head_step E t) (arguments_step E ts) e h)
    normal-argument (_ ▸ ts) h a (FirstOpen.past {l = l} b) =
        normal-argument ts (wrap-none (λ ss. literal_term l ▸ ss) (arguments_step E ts) h) a b

-- ---- what is read has no contraction toward its reading
still-fields : (E : Env) (ts : Terms) (k : ℕ) →
    ((n : ℕ) (a : Term) → k ≤ n → Behind n ts a → read_step E a ≡ None) →
    fields_step E ts k ≡ None
still-fields E ε k h = refl
still-fields E (t ▸ ts) (suc k) h =
    rw (still-fields E ts k (λ n a l b. h (suc n) a (omega arith) (Behind.past b))) refl
still-fields E (t ▸ ts) zero h =
    rw (
      h 0 t (omega arith) Behind.here,
      still-fields E ts zero (λ n a l b. h (suc n) a (omega arith) (Behind.past b)),
    ) refl

still-plain : (E : Env) (ts : Terms) (b : Bool) (k : ℕ) → (b ≡ true → fields_step E ts k ≡ None) →
    at_fields b (fields_step E ts) k ≡ None
still-plain E ts true k h = h refl
still-plain E ts false k h = refl

still-in_fields : (E : Env) (F : Form) (ts : Terms) → ((a : Term) → PlainField E F ts a → read_step E a ≡ None) →
    in_fields E F (fields_step E ts) ≡ None
still-in_fields E (Form.con f c k) ts h =
    still-plain E ts (is_plain (family_at E f)) k (λ p. still-fields E ts k (λ n a l b. h a (PlainField.field p l b)))
still-in_fields E _ ts h = refl

pub no-reading_left : (E : Env) (t : Term) → IsRead E t → read_step E t ≡ None
no-reading_left E _ IsRead.variable = refl
no-reading_left E _ (IsRead.form {F = F} {ts = ts} w fs) =
    rw (is-head E (node F ts) w, still-in_fields E F ts (λ a b. no-reading_left E a (fs a b))) refl

-- ---- a term without a contraction toward its reading is read
plain-fields : (b : Bool) (behind : ℕ → Option Terms) (k : ℕ) → b ≡ true → at_fields b behind k ≡ None →
    behind k ≡ None
plain-fields true behind k p h = h
plain-fields false behind k p h = absurd (cc p)

fields-of : (E : Env) (F : Form) (ts : Terms) →
    ((k : ℕ) → fields_step E ts k ≡ None → (n : ℕ) (a : Term) → k ≤ n → Behind n ts a → IsRead E a) →
    in_fields E F (fields_step E ts) ≡ None → (a : Term) → PlainField E F ts a → IsRead E a
fields-of E _ ts one h a (PlainField.field {f = f} {k = k} {n = n} p l b) =
    one k (plain-fields (is_plain (family_at E f)) (fields_step E ts) k p h) n a l b

module _ (E : Env) where
  mutual
    pub is-read : (t : Term) → read_step E t ≡ None → IsRead E t
    is-read (var i) h = IsRead.variable
    is-read (node F ts) h =
        let c = either-none (head_step E (node F ts)) (wrap (node F) (in_fields E F (fields_step E ts))) h in
        IsRead.form (is-normal E (node F ts) c.0)
        (fields-of E F ts (λ k e n a l b. fields-read ts k e n a l b) (wrap-none (node F) _ c.1))

    fields-read : (ts : Terms) (k : ℕ) → fields_step E ts k ≡ None → (n : ℕ) (a : Term) → k ≤ n → Behind n ts a →
        IsRead E a
    fields-read ε k h n a l b = elim b [ ]
    fields-read (t ▸ ts) (suc k) h _ _ l Behind.here = absurd (omega arith)
    fields-read (t ▸ ts) (suc k) h _ a l (Behind.past {n = i} b) =
        fields-read ts k (wrap-none (λ ss. t ▸ ss) (fields_step E ts k) h) i a (omega arith) b
    fields-read (t ▸ ts) zero h _ _ l Behind.here =
        let c = either-none (wrap (λ s. s ▸ ts) (read_step E t)) (wrap (λ ss. t ▸ ss) (fields_step E ts zero)) h in
        is-read t (wrap-none (λ s. s ▸ ts) (read_step E t) c.0)
    fields-read (t ▸ ts) zero h _ a l (Behind.past {n = i} b) =
        let c = either-none (wrap (λ s. s ▸ ts) (read_step E t)) (wrap (λ ss. t ▸ ss) (fields_step E ts zero)) h in
        fields-read ts zero (wrap-none (λ ss. t ▸ ss) (fields_step E ts zero) c.1) i a (omega arith) b

pub normal-forms_are_so : (E : Env) → NormalFormsAreSo E
normal-forms_are_so E = record {
  heads = λ t. (λ w. is-head E t w, λ h. is-normal E t h);
  readings = λ t. (λ r. no-reading_left E t r, λ h. is-read E t h);
}
