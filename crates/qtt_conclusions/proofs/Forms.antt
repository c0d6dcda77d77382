-- No head of another form, and what refusals say.
use Rattle.std.proofs.Common.{◌≡◌, ◌≢◌, ℕ, Option, Some, None, refl, ap, subst, sym, ◌∙◌, true, false, eq-eqb, arith}
use Rattle.qtt_base.specs.declared.place.GlobalId.{GlobalId}
use Rattle.qtt_usage.specs.declared.mult.Mult.{Mult}
use Rattle.qtt_term.specs.Term.{Io, PrimTy, Named, Form, Term, Terms, var, node, ε, ◌▸◌, size, Sort, Pi, Fam}
use Rattle.qtt_term.specs.Signature.{Env, IoTy}
use Rattle.qtt_term.specs.Contraction.{Conv, contract}
use Rattle.qtt_term.specs.Ask.{Ending}
use Rattle.qtt_term.specs.Forms.{as_sort, as_function}
use Rattle.qtt_term.specs.Premises.{found, head_as, agree, alike}
use Rattle.qtt_term.specs.Infer.{as_family}
use Rattle.qtt_term.proofs.Same.{id-same}
use Rattle.qtt_confluence.specs.Heads.{outline}
use Rattle.qtt_confluence.specs.Injective.{Rigid}
use Rattle.qtt_conclusions.specs.NormalForms.{WaitsFor, WeakHeadNormal}
use Rattle.qtt_conclusions.specs.Conclusions.{HeadOf, Concludes}
use Rattle.qtt_conclusions.specs.Laws.{NoOtherForm, RefusalsAreSo}

-- ---- terms of forms that no rule contracts are weak head normal forms
rigid-waits : (E : Env) (F : Form) (ts : Terms) → Rigid F → (a : Term) → WaitsFor F ts a → WeakHeadNormal E a
rigid-waits E _ ts r a (WaitsFor.function b) = absurd r
rigid-waits E _ ts r a (WaitsFor.scrutinee b) = absurd r
rigid-waits E _ ts r a (WaitsFor.proof b) = absurd r
rigid-waits E _ ts r a (WaitsFor.argument b) = absurd r

rigid-contract : (E : Env) (F : Form) (ts : Terms) → Rigid F → contract E F ts ≡ None
unfolding contract
rigid-contract E (Form.app q) ts r = absurd r
rigid-contract E (Form.case q f k m ns) ts r = absurd r
rigid-contract E (Form.delete q) ts r = absurd r
rigid-contract E (Form.named (Named.def d)) ts r = absurd r
rigid-contract E (Form.named (Named.prim p)) ts r = absurd r
rigid-contract E (Form.named (Named.lit l)) ts r = refl
rigid-contract E (Form.named (Named.prim_ty p)) ts r = refl
rigid-contract E (Form.named (Named.act a k)) ts r = refl
rigid-contract E _ ts r = refl

pub rigid-normal : (E : Env) (F : Form) (ts : Terms) → Rigid F → WeakHeadNormal E (node F ts)
rigid-normal E F ts r = WeakHeadNormal.form (rigid-contract E F ts r) (rigid-waits E F ts r)

-- ---- the head of what is convertible to a term of such a form
record Formed (F : Form) (ts : Terms) (h : Term) : Type 0 where
  parts : Terms
  is : h ≡ node F parts
  sized : size ts ≡ size parts

formed : (F : Form) (ts : Terms) (h : Term) → outline (node F ts) ≡ outline h → Formed F ts h
formed F ts (var i) e = absurd (cc e)
formed F ts (node G ss) e =
    let f : F ≡ G = cc e in
    let z : size ts ≡ size ss = cc e in
    record { parts = ss; is = ap (λ F. node F ss) (sym f); sized = z }

head-formed : {E : Env} {t h : Term} (F : Form) (ts : Terms) → Rigid F → HeadOf E t h → Conv E t (node F ts) →
    Formed F ts h
head-formed {E} {h = h} F ts r x c = formed F ts h (x.alone (node F ts) (rigid-normal E F ts r) c).outlines

is-function : (q : Mult) (ss : Terms) → 2 ≡ size ss → as_function (node (Form.pi q) ss) ≡ None → ⊥
is-function q ε z n = omega arith
is-function q (A ▸ ε) z n = omega arith
is-function q (A ▸ B ▸ ε) z n = cc n
is-function q (A ▸ B ▸ C ▸ ss) z n = omega arith

is-sort : (l : ℕ) (ss : Terms) → 0 ≡ size ss → as_sort (node (Form.sort l) ss) ≡ None → ⊥
is-sort l ε z n = cc n
is-sort l (A ▸ ss) z n = omega arith

is-family : (f : GlobalId) (n : ℕ) (ss : Terms) → n ≡ size ss → as_family f n (Fam f ss) ≡ None → ⊥
is-family f n ss z e =
    let one : as_family f n (Fam f ss) ≡ Some ss = rw (id-same f, eq-eqb (size ss) n (sym z)) refl in
    let no : Some ss ≡ None = sym one ∙ e in cc no

is-action : (m : Io) (ss : Terms) → 1 ≡ size ss →
    ((B : Term) → node (Form.named (Named.prim_ty (PrimTy.io_of m))) ss ≡ IoTy m B → ⊥) → ⊥
is-action m ε z n = omega arith
is-action m (A ▸ ε) z n = n A refl
is-action m (A ▸ B ▸ ss) z n = omega arith

-- where the view of the head finds nothing
unlike-function : {E : Env} {t h : Term} → HeadOf E t h → as_function h ≡ None → (q : Mult) (A B : Term) →
    Conv E t (Pi q A B) → ⊥
unlike-function x n q A B c =
    let f = head-formed (Form.pi q) (A ▸ B ▸ ε) tt x c in
    is-function q f.parts f.sized (subst (λ h. as_function h ≡ None) f.is n)

unlike-sort : {E : Env} {t h : Term} → HeadOf E t h → as_sort h ≡ None → (l : ℕ) → Conv E t (Sort l) → ⊥
unlike-sort x n l c =
    let f = head-formed (Form.sort l) ε tt x c in
    is-sort l f.parts f.sized (subst (λ h. as_sort h ≡ None) f.is n)

unlike-family : {E : Env} {t h : Term} → HeadOf E t h → (f : GlobalId) (k : ℕ) → as_family f k h ≡ None →
    (ts : Terms) → size ts ≡ k → Conv E t (Fam f ts) → ⊥
unlike-family x f k n ts z c =
    let g = head-formed (Form.fam f) ts tt x c in
    is-family f k g.parts (sym z ∙ g.sized) (subst (λ h. as_family f k h ≡ None) g.is n)

pub no-other_form : (E : Env) (t h : Term) → HeadOf E t h → NoOtherForm E t h
no-other_form E t h x = record {
  function = λ n q A B c. unlike-function x n q A B c;
  universe = λ n l c. unlike-sort x n l c;
  family = λ f n ts c. let g = head-formed (Form.fam f) ts tt x c in n g.parts g.is;
  action = λ m n A c.
      let g = head-formed (Form.named (Named.prim_ty (PrimTy.io_of m))) (A ▸ ε) tt x c in
      is-action m g.parts g.sized (λ B e. n B (g.is ∙ e));
}

unlike-form : {E : Env} {A : Type 0} {t h : Term} → HeadOf E t h → (view : Term → Option A) (G : Form) (k : ℕ) →
    Rigid G → ((ss : Terms) → size ss ≡ k → view (node G ss) ≢ None) → view h ≡ None → (ts : Terms) → size ts ≡ k →
    Conv E t (node G ts) → ⊥
unlike-form x view G k r finds n ts z c =
    let g = head-formed G ts r x c in
    finds g.parts (sym g.sized ∙ z) (subst (λ h. view h ≡ None) g.is n)

-- a view that finds each action finds each term of its form
finds-action : {A : Type 0} (view : Term → Option A) (m : Io) → ((B : Term) → view (IoTy m B) ≢ None) →
    (ss : Terms) → size ss ≡ 1 → view (node (Form.named (Named.prim_ty (PrimTy.io_of m))) ss) ≢ None
finds-action view m finds ε z = omega arith
finds-action view m finds (B ▸ ε) z = finds B
finds-action view m finds (B ▸ C ▸ ss) z = omega arith

-- ---- lists
not-found : {F P A : Type 0} (E : Env) (o : Option A) (f g : F) →
    Concludes E {P = P} (found o f) (Ending.fails g) → o ≡ None
not-found E None f g c = refl
not-found E (Some a) f g c = elim c [ ]

record Refused (E : Env) {A : Type 0} (view : Term → Option A) (t : Term) : Type 0 where
  head : Term
  is : HeadOf E t head
  other : view head ≡ None

refused : {F P A : Type 0} (E : Env) (view : Term → Option A) (p : P) (n : ℕ) (t : Term) (f g : F) →
    Concludes E (head_as view p n t f) (Ending.fails g) → Refused E view t
refused E view p n t f g (Concludes.has_head {h = h} x c) =
    record { head = h; is = x; other = not-found E (view h) f g c }

mismatch : {F P : Type 0} (E : Env) (p : P) (n : ℕ) (t s : Term) (f g : F) →
    Concludes E (agree p n t s f) (Ending.fails g) → Conv E t s → ⊥
mismatch E p n t s f g (Concludes.are_convertible c w) d = elim w [ ]
mismatch E p n t s f g (Concludes.are_apart a w) d = a d

are-alike : {F P : Type 0} (E : Env) (p : P) (n : ℕ) (t s : Term) →
    Concludes E {F = F} (alike p n t s) (Ending.ok true) → Conv E t s
are-alike E p n t s (Concludes.are_convertible c w) = c
are-alike E p n t s (Concludes.are_apart a w) = elim w [ ]

are-unlike : {F P : Type 0} (E : Env) (p : P) (n : ℕ) (t s : Term) →
    Concludes E {F = F} (alike p n t s) (Ending.ok false) → Conv E t s → ⊥
are-unlike E p n t s (Concludes.are_convertible c w) d = elim w [ ]
are-unlike E p n t s (Concludes.are_apart a w) d = a d

pub refusals-are_so : {F P A : Type 0} (E : Env) → RefusalsAreSo F P A E
refusals-are_so E = record {
  head = λ view p n t f g c. let r = refused E view p n t f g c in (r.head, r.is, r.other);
  form = λ view G k i finds p n t f g c ts z d.
      let r = refused E view p n t f g c in unlike-form r.is view G k i finds r.other ts z d;
  function = λ p n t f g c. let r = refused E as_function p n t f g c in unlike-function r.is r.other;
  universe = λ p n t f g c. let r = refused E as_sort p n t f g c in unlike-sort r.is r.other;
  family = λ p n t f g id k c.
      let r = refused E (as_family id k) p n t f g c in unlike-family r.is id k r.other;
  action = λ view m finds p n t f g c B d.
      let r = refused E view p n t f g c in
      let F = Form.named (Named.prim_ty (PrimTy.io_of m)) in
      unlike-form r.is view F 1 tt (finds-action view m finds) r.other (B ▸ ε) refl d;
  mismatch = λ p n t s f g c. mismatch E p n t s f g c;
  equal = λ p n t s c. are-alike E p n t s c;
  different = λ p n t s c. are-unlike E p n t s c;
}
