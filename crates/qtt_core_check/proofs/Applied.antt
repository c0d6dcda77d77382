-- Forms with arguments, by what is found of their parts, as the code counts these.
use Rattle.std.proofs.Common.{◌≡◌, ℕ, ◌+◌, true, ◌&&◌, eqb, List, [], ◌++◌, length, Result, refl, sym, ◌∙◌, ap, subst}
use mathlib.Core.Path.{ap₂, subst₂}
use Rattle.std.proofs.lemmas.List.{length-map, length-append, map-append}
use Rattle.qtt_base.specs.declared.place.GlobalId.{GlobalId}
use Rattle.qtt_prims.specs.declared.lit.Lit.{Lit}
use Rattle.qtt_prims.specs.declared.lit.Lit.TheVariants as literal
use Rattle.qtt_usage.specs.declared.mult.Mult.{Mult}
use Rattle.qtt_usage.specs.Mult.{𝟘, ω}
use Rattle.qtt_usage.specs.Usage.{usage_sum, usage_scale, no_usage}
use Rattle.qtt_term.specs.declared.rule.Rule.TheVariants as rule
use Rattle.qtt_term.specs.declared.term.Term as code
use Rattle.qtt_term.specs.Term.{Io, Action, Named, Form, Term, node, ε, size, ◌+++◌, Sort, Act}
use Rattle.qtt_term.specs.Substitution.{sub, push, closed}
use Rattle.qtt_term.specs.Signature.{Tele, Env, fam_at, act_signature, IntTy, StringTy, HandleTy, IoTy}
use Rattle.qtt_term.specs.Judgement.{Ctx, Part, erase_binds}
use Rattle.qtt_term.specs.Ask.{Ask, ◌>>=◌}
use Rattle.qtt_term.specs.View.{term, terms, side_by_side}
use Rattle.qtt_term.specs.Infer.{Asks, Premise, at, wanted, has, usable, Inferred, inferred, infer, arguments}
use Rattle.qtt_term.specs.Premises.{need}
use Rattle.qtt_core_check.specs.declared.refusal.CoreRefusal.{CoreRefusal}
use Rattle.qtt_core_check.specs.declared.named_rows.Made as code_made
use Rattle.qtt_term.specs.declared.signatures.Signature as code_signature
use Rattle.qtt_term.specs.Telescopes.{tele, filled, signature as signature_of}
use Rattle.qtt_core_check.specs.Signatures.{lit_type, applies}
use Rattle.qtt_core_check.specs.Constructors.{IsMade}
use Rattle.qtt_core_check.specs.TwoLists.{con_parts, act_parts, act_shaped}
use Rattle.qtt_core_check.specs.Seen.{Reaches, Refuses, Gives, judged}
use Rattle.qtt_core_check.specs.declared.judged.Judged.{Judged}
use Rattle.qtt_confluence.proofs.Families.{size-append}
use Rattle.qtt_core_check.proofs.Arguments.{length-wanted}
use Rattle.qtt_core_check.proofs.Scopes.{length-tele}
use Rattle.qtt_core_check.proofs.Within.{on, on_done, here, later, holds, reached, tail}
use Rattle.qtt_core_check.proofs.ArgumentLists.{size-side, wanted-append, one-reaches}
use Rattle.qtt_term.proofs.Binders.{side-joined}
use Rattle.qtt_core_check.proofs.FormRows.{con_need, many-usable, named-asks, act-many, con-asks, con-refused}
use Rattle.qtt_core_check.proofs.ArgumentRows.{first-refused, second-refused, both-reach, both-filled}

-- questions that are the same have the same answers
pub given-as : (E : Env) (n : ℕ) {A X : Type 0} (m m' : Asks A) (view : X → A) (r : Result X CoreRefusal) →
    m ≡ m' → Gives E n m' view r → Gives E n m view r
given-as E n m m' view r e h = subst (λ m. Gives E n m view r) (sym e) h

-- ---- one list of arguments
module _ (E : Env) (n : ℕ) (p : Part) (Γ : Ctx) (counts : ℕ → Asks (Unit {0})) (r : Premise) (Θ : Tele) (A : Term)
    (ts : List code.Term) (k : ℕ) (l : k ≡ length ts) where
  abbrev pub one_list : Asks Inferred
  one_list = counts (length (terms ts)) >>= (λ u. applies E p Γ r Θ A (side_by_side (terms ts)))

  as-counted : k ≡ length (terms ts)
  as-counted = l ∙ sym (length-map ts term)

  pub one-uncounted : (e : CoreRefusal) → Refuses E n (counts k) e → Refuses E n one_list e
  one-uncounted e h = here E n _ _ e (subst (λ k. Refuses E n (counts k) e) as-counted h)

  pub one-answers : (bs : List (Mult × code.Term)) (ty : code.Term) → tele bs ≡ Θ → term ty ≡ A →
      Reaches E n (counts k) tt →
      (answer : Result Judged CoreRefusal) →
      Gives E n (applies E p Γ r (tele bs) (term ty) (side_by_side (terms ts))) judged answer →
      Gives E n one_list judged answer
  one-answers bs ty s a h answer g =
      tail E n _ _ judged answer (subst (λ k. Reaches E n (counts k) tt) as-counted h)
      (subst₂ (λ Θ A. Gives E n (applies E p Γ r Θ A (side_by_side (terms ts))) judged answer) s a g)

-- ---- two lists of arguments
module _ (E : Env) (n : ℕ) (p : Part) (Γ : Ctx) (counts : Asks (Unit {0})) (r q : Premise)
    (bs cs : List (Mult × code.Term)) (A : Term) (ts ss : List code.Term) where
  abbrev pub two_lists : Asks Inferred
  two_lists = do
    x ← counts
    u ← arguments E p Γ (wanted r (tele bs) ++ wanted q (tele cs)) closed
        (side_by_side (terms ts) +++ side_by_side (terms ss))
    Ask.done (inferred (sub (push (side_by_side (terms ts) +++ side_by_side (terms ss)) closed) A) u)

  module _ (none : List code.Term) (d : none ≡ []) (z : length bs ≡ length ts) (h : Reaches E n counts tt) where
    as-wanted : length ts ≡ length (wanted r (tele bs))
    as-wanted = sym (length-wanted r (tele bs) ∙ length-tele bs ∙ z)

    pub two-refused-first : (e : CoreRefusal) →
        Refuses E n (arguments E p Γ (wanted r (tele bs)) (filled none) (side_by_side (terms ts))) e →
        Refuses E n two_lists e
    two-refused-first e f =
        later E n _ _ e h (here E n _ _ e
        (first-refused E n p Γ (wanted r (tele bs)) (wanted q (tele cs)) none ts ts ss d as-wanted e f))

    module _ (vs : List code.Term) (us : List Mult) (v : terms vs ≡ terms none ++ terms ts)
        (f : Reaches E n (arguments E p Γ (wanted r (tele bs)) (filled none) (side_by_side (terms ts))) us) where
      pub two-refused-second : (e : CoreRefusal) →
          Refuses E n (arguments E p Γ (wanted q (tele cs)) (filled vs) (side_by_side (terms ss))) e →
          Refuses E n two_lists e
      two-refused-second e k =
          later E n _ _ e h (here E n _ _ e
          (second-refused E n p Γ (wanted r (tele bs)) (wanted q (tele cs)) none vs ts ss d as-wanted us f v e
          k))

      pub two-are : (ws : List code.Term) (os : List Mult) (ty : code.Term) → length os ≡ length Γ →
          terms ws ≡ terms vs ++ terms ss → term ty ≡ A →
          Reaches E n (arguments E p Γ (wanted q (tele cs)) (filled vs) (side_by_side (terms ss))) os →
          Reaches E n two_lists (inferred (sub (filled ws) (term ty)) (usage_sum us os))
      two-are ws os ty l w a k =
          reached (on _ h (on _ (both-reach E n p Γ (wanted r (tele bs)) (wanted q (tele cs)) none vs ts ss d
          as-wanted us f v os l k) on_done))
          (ap (λ B. inferred B (usage_sum us os)) (ap₂ sub (sym (both-filled none vs ws ts ss d v w)) (sym a)))

-- ---- constructors
side-sizes : (ts ss : List code.Term) →
    size (side_by_side (terms ts) +++ side_by_side (terms ss)) ≡ length ts + length ss
side-sizes ts ss =
    size-append (side_by_side (terms ts)) (side_by_side (terms ss)) ∙ ap₂ (λ a b. a + b)
    (size-side (terms ts) ∙ length-map ts term) (size-side (terms ss) ∙ length-map ss term)

con-needs : (E : Env) (f : GlobalId) (c : ℕ) (ts ss : List code.Term) (k m : ℕ) → k ≡ length ts → m ≡ length ss →
    con_need E f c k (k + m) ≡ con_need E f c (length (terms ts))
    (size (side_by_side (terms ts) +++ side_by_side (terms ss)))
con-needs E f c ts ss k m a b =
    ap₂ (con_need E f c) (a ∙ sym (length-map ts term)) (ap₂ (λ k m. k + m) a b ∙ sym (side-sizes ts ss))

pub con-uncounted-parts : (E : Env) (n : ℕ) (p : Part) (Γ : Ctx) (f : GlobalId) (c : ℕ) (ts ss : List code.Term)
    (k m : ℕ) → k ≡ length ts → m ≡ length ss → (e : CoreRefusal) →
    Refuses E n (con_need E f c k (k + m)) e → Refuses E n (infer E p Γ (con_parts f c ts ss)) e
con-uncounted-parts E n p Γ f c ts ss k m a b e h =
    con-refused E n p Γ f c (length (terms ts)) (side_by_side (terms ts) +++ side_by_side (terms ss)) e
    (subst (λ w. Refuses E n w e) (con-needs E f c ts ss k m a b) h)

abbrev con_applied : Env → Part → Ctx → List code.Term → List code.Term → Tele → Tele → Term → Asks Inferred
con_applied E p Γ ts ss Θ Ξ A = do
  u ← arguments E p Γ (wanted (at rule.Con 1) Θ ++ wanted (at rule.Con 2) Ξ) closed
      (side_by_side (terms ts) +++ side_by_side (terms ss))
  Ask.done (inferred (sub (push (side_by_side (terms ts) +++ side_by_side (terms ss)) closed) A) u)

pub con-lists : (E : Env) (p : Part) (Γ : Ctx) (f : GlobalId) (c : ℕ) (ts ss : List code.Term) (k m : ℕ) →
    k ≡ length ts → m ≡ length ss →
    (M : code_made.Made) → IsMade (fam_at E f) c M → (bs cs : List (Mult × code.Term)) → bs ≡ M.params.items →
    cs ≡ M.fields.items →
    infer E p Γ (con_parts f c ts ss) ≡ two_lists E 0 p Γ (con_need E f c k (k + m)) (at rule.Con 1)
    (at rule.Con 2) bs cs (term M.ty) ts ss
con-lists E p Γ f c ts ss k m a b M made bs cs i j =
    con-asks E p Γ f c (length (terms ts)) (side_by_side (terms ts) +++ side_by_side (terms ss)) made.sig made.there
    ∙ ap (λ w. w >>= (λ x. con_applied E p Γ ts ss (erase_binds (fam_at E f).params) made.sig.fields
    made.sig.result)) (sym (con-needs E f c ts ss k m a b))
    ∙ ap (λ w. con_need E f c k (k + m) >>= (λ x. w))
    (ap₂ (λ Θ Ξ. con_applied E p Γ ts ss Θ Ξ made.sig.result) (sym (ap tele i ∙ made.params))
    (sym (ap tele j ∙ made.fields))
    ∙ ap (con_applied E p Γ ts ss (tele bs) (tele cs)) (sym made.type))

-- ---- actions
abbrev pub act_need : Action → ℕ → ℕ → Asks (Unit {0})
act_need a k n = need (act_shaped a k n) (at rule.Act 1)

act-one : (E : Env) (p : Part) (Γ : Ctx) (a : Action) (ts ss : List code.Term) (k m : ℕ) → k ≡ length ts →
    m ≡ length ss →
    infer E p Γ (act_parts a ts ss)
    ≡ act_need a k (k + m) >>=
    (λ u. applies E p Γ (at rule.Act 1) (act_signature a).arguments (act_signature a).type
    (side_by_side (terms ts) +++ side_by_side (terms ss)))
act-one E p Γ a ts ss k m i j =
    let s = side-joined (terms ts) (terms ss) in
    let l : length (terms ts ++ terms ss) ≡ k + m =
    length-append (terms ts) (terms ss) ∙ ap₂ (λ k m. k + m) (length-map ts term ∙ sym i)
    (length-map ss term ∙ sym j) in
    let n : length (terms ts) ≡ k = length-map ts term ∙ sym i in
    ap (λ us. infer E p Γ (Act a (length (terms ts)) us)) (sym s)
    ∙ named-asks E p Γ (Named.act a (length (terms ts))) (terms ts ++ terms ss) (act-many a)
    ∙ ap₂ (λ w us. w >>= (λ u. applies E p Γ (at rule.Act 1) (act_signature a).arguments (act_signature a).type us))
    (ap₂ (act_need a) n l) s

pub act-uncounted : (E : Env) (n : ℕ) (p : Part) (Γ : Ctx) (a : Action) (ts ss : List code.Term) (k m : ℕ) →
    k ≡ length ts → m ≡ length ss → (e : CoreRefusal) →
    Refuses E n (act_need a k (k + m)) e → Refuses E n (infer E p Γ (act_parts a ts ss)) e
act-uncounted E n p Γ a ts ss k m i j e h =
    subst (λ w. Refuses E n w e) (sym (act-one E p Γ a ts ss k m i j)) (here E n _ _ e h)

pub act-lists : (E : Env) (p : Part) (Γ : Ctx) (a : Action) (ts ss : List code.Term) (k m : ℕ) → k ≡ length ts →
    m ≡ length ss →
    (S : code_signature.Signature) → signature_of S ≡ act_signature a →
    (bs cs : List (Mult × code.Term)) → S.arguments.items ≡ bs ++ cs →
    infer E p Γ (act_parts a ts ss) ≡ two_lists E 0 p Γ (act_need a k (k + m)) (at rule.Act 1)
    (at rule.Act 1) bs cs (term S.ty) ts ss
act-lists E p Γ a ts ss k m i j S s bs cs split =
    let w : wanted (at rule.Act 1) (act_signature a).arguments ≡ wanted (at rule.Act 1) (tele bs) ++ wanted
    (at rule.Act 1) (tele cs) =
    ap (λ S. wanted (at rule.Act 1) S.arguments) (sym s) ∙ ap (λ bs. wanted (at rule.Act 1) (tele bs)) split
    ∙ ap (wanted (at rule.Act 1)) (map-append (λ b. (b.0, term b.1)) bs cs) ∙ wanted-append (at rule.Act 1)
    (tele bs) (tele cs) in
    let t : (act_signature a).type ≡ term S.ty = ap (λ S. S.type) (sym s) in
    act-one E p Γ a ts ss k m i j
    ∙ ap₂ (λ ws A. act_need a k (k + m) >>=
    (λ x. arguments E p Γ ws closed (side_by_side (terms ts) +++ side_by_side (terms ss))
    >>= (λ u. Ask.done (inferred (sub (push (side_by_side (terms ts) +++ side_by_side (terms ss)) closed) A) u)))) w t

-- ---- primitive types and literals
module _ {E : Env} {n : ℕ} (Γ : Ctx) where
  pub lit-is : (p : Part) (l : Lit) →
      Reaches E n (infer E p Γ (node (Form.named (Named.lit l)) ε)) (inferred (lit_type l) (no_usage (length Γ)))
  lit-is Part.run (literal.Int z) = on _ (holds _ _ refl) (on _ on_done on_done)
  lit-is Part.run (literal.Text s) = on _ (holds _ _ refl) (on _ on_done on_done)
  lit-is Part.erased (literal.Int z) = on _ (holds _ _ refl) (on _ on_done on_done)
  lit-is Part.erased (literal.Text s) = on _ (holds _ _ refl) (on _ on_done on_done)

  pub int-is : (p : Part) → Reaches E n (infer E p Γ IntTy) (inferred (Sort 0) (no_usage (length Γ)))
  int-is Part.run = on _ (holds _ _ refl) (on _ on_done on_done)
  int-is Part.erased = on _ (holds _ _ refl) (on _ on_done on_done)

  pub string-is : (p : Part) → Reaches E n (infer E p Γ StringTy) (inferred (Sort 0) (no_usage (length Γ)))
  string-is Part.run = on _ (holds _ _ refl) (on _ on_done on_done)
  string-is Part.erased = on _ (holds _ _ refl) (on _ on_done on_done)

  pub handle-is : (p : Part) → Reaches E n (infer E p Γ HandleTy) (inferred (Sort 0) (no_usage (length Γ)))
  handle-is Part.run = on _ (holds _ _ refl) (on _ on_done on_done)
  handle-is Part.erased = on _ (holds _ _ refl) (on _ on_done on_done)

io-usable : (p : Part) → (true && (usable p ω && eqb 1 1)) ≡ true
io-usable p = rw (many-usable p) refl

abbrev pub io_has : Env → Ctx → Term → Asks (List Mult)
io_has E Γ A = has Γ (infer E Part.erased Γ A) (Sort 0) (at rule.PrimTy 1)

pub io-refused : (E : Env) (n : ℕ) (p : Part) (Γ : Ctx) (m : Io) (A : Term) (e : CoreRefusal) →
    Refuses E n (io_has E Γ A) e → Refuses E n (infer E p Γ (IoTy m A)) e
io-refused E n p Γ m A e h = later E n _ _ e (holds _ _ (io-usable p)) (here E n _ _ e (here E n _ _ e h))

pub io-is : {E : Env} {n : ℕ} (p : Part) (Γ : Ctx) (m : Io) (A : Term) (us : List Mult) → length us ≡ length Γ →
    Reaches E n (io_has E Γ A) us →
    Reaches E n (infer E p Γ (IoTy m A)) (inferred (Sort 0) (usage_scale 𝟘 us))
io-is p Γ m A us l h =
    on _ (holds _ _ (io-usable p))
    (on _ (one-reaches p Γ (record { premise = at rule.PrimTy 1; mult = 𝟘; type = Sort 0 }) closed A us l h)
    on_done)
