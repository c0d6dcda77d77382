-- The head of a term with its frames.
use Rattle.std.proofs.Common.{◌≡◌, ℕ, List, [], ◌∷◌, ◌++◌, map, length, Option, Some, None, refl, sym, ◌∙◌, ap}
use Rattle.std.proofs.lemmas.List.{length-map}
use Rattle.qtt_prims.specs.declared.lit.Lit.{Lit}
use Rattle.qtt_term.specs.Term.{Named, Form, Term, Terms, var, node, ε, ◌▸◌, ◌+++◌, skip}
use Rattle.qtt_term.specs.Signature.{Env}
use Rattle.qtt_term.specs.Contraction.{chain, as_lam, as_con, scrutinee, select, iota, when_refl, as_lit, literals, literal_term, computed, contract}
use Rattle.qtt_term.specs.Question.{either, wrap, scrutinee_place, asked, head_step, step_at, arguments_step}
use Rattle.qtt_term.specs.View.{term, terms, branches, side_by_side}
use Rattle.qtt_term.proofs.Options.{none≢some}
use Rattle.qtt_conv.specs.declared.frame.Frame.{Frame}
use Rattle.qtt_conv.specs.declared.frame.Frame.TheVariants as frame
use Rattle.qtt_conv.specs.Frames.{literal_terms, case_parts, delete_parts, form_of, parts_of, plug, plug_all, Fits}

-- ---- frames one in the other
pub plug_all-push : (fs : List Frame) (f : Frame) (t : Term) → plug_all (fs ++ f ∷ []) t ≡ plug_all fs (plug f t)
plug_all-push [] f t = refl
plug_all-push (g ∷ fs) f t = ap (plug g) (plug_all-push fs f t)

-- ---- what no rule contracts around
-- neither a function, nor a constructor, nor a literal
pub record IsNoValue (t : Term) : Type 0 where
  pub lam : as_lam t ≡ None
  pub con : as_con t ≡ None
  pub lit : as_lit t ≡ None

pub plugged-is_no_value : (f : Frame) (t : Term) → IsNoValue (plug f t)
plugged-is_no_value (frame.Argument q a) t = record { lam = refl; con = refl; lit = refl }
plugged-is_no_value (frame.Case c) t = record { lam = refl; con = refl; lit = refl }
plugged-is_no_value (frame.Delete d) t = record { lam = refl; con = refl; lit = refl }
plugged-is_no_value (frame.Prim p ls ts) t = record { lam = refl; con = refl; lit = refl }

-- what contracts toward its head is no value
contracting-is_no_value : (E : Env) (t s : Term) → head_step E t ≡ Some s → IsNoValue t
unfolding contract
contracting-is_no_value E (var i) s e = absurd (none≢some e)
contracting-is_no_value E (node (Form.sort l) ts) s e = absurd (none≢some e)
contracting-is_no_value E (node (Form.pi q) ts) s e = absurd (none≢some e)
contracting-is_no_value E (node (Form.lam q) ts) s e = absurd (none≢some e)
contracting-is_no_value E (node (Form.app q) ts) s e = record { lam = refl; con = refl; lit = refl }
contracting-is_no_value E (node (Form.fam f) ts) s e = absurd (none≢some e)
contracting-is_no_value E (node (Form.con f c k) ts) s e = absurd (none≢some e)
contracting-is_no_value E (node (Form.case q f k m ns) ts) s e = record { lam = refl; con = refl; lit = refl }
contracting-is_no_value E (node (Form.delete q) ts) s e = record { lam = refl; con = refl; lit = refl }
contracting-is_no_value E (node (Form.named (Named.def d)) ts) s e = record { lam = refl; con = refl; lit = refl }
contracting-is_no_value E (node (Form.named (Named.lit l)) ts) s e = absurd (none≢some e)
contracting-is_no_value E (node (Form.named (Named.prim_ty p)) ts) s e = absurd (none≢some e)
contracting-is_no_value E (node (Form.named (Named.prim p)) ts) s e = record { lam = refl; con = refl; lit = refl }
contracting-is_no_value E (node (Form.named (Named.act a k)) ts) s e = absurd (none≢some e)
contracting-is_no_value E (node Form.trap ts) s e = absurd (none≢some e)
contracting-is_no_value E (node (Form.tape n) ts) s e = absurd (none≢some e)

-- ---- the contraction of a frame around a term
-- what is behind the parameters
pub skip-front : (ts : List Term) (ss : Terms) → skip (length ts) (side_by_side ts +++ ss) ≡ ss
skip-front [] ss = refl
skip-front (t ∷ ts) ss = skip-front ts ss

-- what is behind the branches
pub scrutinee-last : (bs : List (ℕ × Term)) (t : Term) →
    scrutinee (map (λ b. b.0) bs) (side_by_side (map (λ b. b.1) bs) +++ (t ▸ ε)) ≡ Some t
scrutinee-last [] t = refl
scrutinee-last (b ∷ bs) t = scrutinee-last bs t

pub literals-stop : (ls : List Lit) (t : Term) (ts : Terms) → as_lit t ≡ None →
    literals (literal_terms ls +++ (t ▸ ts)) ≡ None
literals-stop [] t ts e = rw e refl
literals-stop (l ∷ ls) t ts e = rw (literals-stop ls t ts e) refl

-- ---- one contraction toward the head, around which stands a frame
wrap-wrap : {A B C : Type 0} (g : B → C) (h : A → B) (o : Option A) → wrap g (wrap h o) ≡ wrap (λ a. g (h a)) o
wrap-wrap g h None = refl
wrap-wrap g h (Some a) = refl

either-no_first : {A : Type 0} (o p : Option A) → o ≡ None → either o p ≡ p
either-no_first None p e = refl
either-no_first (Some a) p e = absurd (none≢some (sym e))

-- the step at the scrutinee, behind branches
step_at-last : (E : Env) (bs : List (ℕ × Term)) (t : Term) →
    step_at E (side_by_side (map (λ b. b.1) bs) +++ (t ▸ ε)) (length (map (λ b. b.0) bs)) ≡ wrap
    (λ s. side_by_side (map (λ b. b.1) bs) +++ (s ▸ ε)) (head_step E t)
step_at-last E [] t = refl
step_at-last E (b ∷ bs) t = ap (wrap (λ ss. b.1 ▸ ss)) (step_at-last E bs t) ∙ wrap-wrap _ _ (head_step E t)

-- and behind parameters and the motive
step_at-scrutinee : (E : Env) (ps : List Term) (m : Term) (bs : List (ℕ × Term)) (t : Term) →
    step_at E (side_by_side ps +++ (m ▸ (side_by_side (map (λ b. b.1) bs) +++ (t ▸ ε))))
    (scrutinee_place (length ps) (map (λ b. b.0) bs))
    ≡ wrap (λ s. side_by_side ps +++ (m ▸ (side_by_side (map (λ b. b.1) bs) +++ (s ▸ ε)))) (head_step E t)
step_at-scrutinee E [] m bs t = ap (wrap (λ ss. m ▸ ss)) (step_at-last E bs t) ∙ wrap-wrap _ _ (head_step E t)
step_at-scrutinee E (p ∷ ps) m bs t =
    ap (wrap (λ ss. p ▸ ss)) (step_at-scrutinee E ps m bs t) ∙ wrap-wrap _ _ (head_step E t)

-- the step at the first argument that is no literal
arguments_step-first : (E : Env) (ls : List Lit) (t : Term) (ts : Terms) → as_lit t ≡ None →
    arguments_step E (literal_terms ls +++ (t ▸ ts)) ≡ wrap (λ s. literal_terms ls +++ (s ▸ ts)) (head_step E t)
arguments_step-first E [] t ts e = rw e refl
arguments_step-first E (l ∷ ls) t ts e =
    ap (wrap (λ ss. literal_term l ▸ ss)) (arguments_step-first E ls t ts e) ∙ wrap-wrap _ _ (head_step E t)

asked-inside : (E : Env) (f : Frame) (t : Term) → Fits f t →
    asked (form_of f) (step_at E (parts_of f t)) (arguments_step E (parts_of f t)) ≡ wrap (parts_of f) (head_step E t)
asked-inside E (frame.Argument q a) t h = refl
asked-inside E (frame.Case c) t h =
    ap (λ n. step_at E (case_parts c.value t)
    (scrutinee_place n (map (λ b. b.0) (branches c.value.branches.items))))
    (sym (length-map c.value.params.items term)) ∙ step_at-scrutinee E (terms c.value.params.items)
    (term c.value.motive) (branches c.value.branches.items) t
asked-inside E (frame.Delete d) t h = by_step (head_step E t) refl
  where
    by_step : (o : Option Term) → head_step E t ≡ o →
        step_at E (delete_parts d.value t) 4 ≡ wrap (delete_parts d.value) (head_step E t)
    by_step None e = rw e refl
    by_step (Some s) e = rw e refl
asked-inside E (frame.Prim p ls ts) t h = arguments_step-first E ls.items t (side_by_side (terms ts.items)) h

-- where the frame with the term does not contract itself
pub step-inside : (E : Env) (f : Frame) (t : Term) → Fits f t → contract E (form_of f) (parts_of f t) ≡ None →
    head_step E (plug f t) ≡ wrap (plug f) (head_step E t)
step-inside E f t h e = either-no_first _ _ e ∙ ap (wrap (node (form_of f))) (asked-inside E f t h) ∙
    wrap-wrap _ _ (head_step E t)

-- ---- frames around a term that is no value
frame-waits : (E : Env) (f : Frame) (t : Term) → IsNoValue t → contract E (form_of f) (parts_of f t) ≡ None
unfolding contract
frame-waits E (frame.Argument q a) t v = rw v.lam refl
frame-waits E (frame.Case c) t v =
    let ps = terms c.value.params.items in
    let bs = branches c.value.branches.items in
    let rest : Terms = side_by_side (map (λ b. b.1) bs) +++ (t ▸ ε) in
    ap (iota c.value.family (map (λ b. b.0) bs))
    (ap (λ n. skip n (case_parts c.value t)) (sym (length-map c.value.params.items term)) ∙ skip-front ps
    (term c.value.motive ▸ rest))
    ∙ ap (λ o. chain o (λ s. chain (as_con s) (select c.value.family (map (λ b. b.0) bs) rest))) (scrutinee-last bs t)
    ∙ ap (λ o. chain o (select c.value.family (map (λ b. b.0) bs) rest)) v.con
frame-waits E (frame.Delete d) t v = ap (λ o. chain o (when_refl (term d.value.branch))) v.con
frame-waits E (frame.Prim p ls ts) t v =
    ap (λ o. chain o (computed p)) (literals-stop ls.items t (side_by_side (terms ts.items)) v.lit)

no_value-fits : (f : Frame) (t : Term) → IsNoValue t → Fits f t
no_value-fits (frame.Argument q a) t v = tt
no_value-fits (frame.Case c) t v = tt
no_value-fits (frame.Delete d) t v = tt
no_value-fits (frame.Prim p ls ts) t v = v.lit

-- ---- steps of the innermost term are steps of the whole
pub step-plugged : (E : Env) (fs : List Frame) (t s : Term) → head_step E t ≡ Some s →
    head_step E (plug_all fs t) ≡ Some (plug_all fs s)
step-plugged E [] t s e = e
step-plugged E (f ∷ fs) t s e =
    let inner = step-plugged E fs t s e in
    let v = contracting-is_no_value E (plug_all fs t) (plug_all fs s) inner in
    step-inside E f (plug_all fs t) (no_value-fits f (plug_all fs t) v) (frame-waits E f (plug_all fs t) v) ∙
    ap (wrap (plug f)) inner

plugged_all-is_no_value : (fs : List Frame) (t : Term) → IsNoValue t → IsNoValue (plug_all fs t)
plugged_all-is_no_value [] t v = v
plugged_all-is_no_value (f ∷ fs) t v = plugged-is_no_value f (plug_all fs t)

-- frames around a head that is no value make a head
pub head-plugged : (E : Env) (fs : List Frame) (t : Term) → IsNoValue t → head_step E t ≡ None →
    head_step E (plug_all fs t) ≡ None
head-plugged E [] t v e = e
head-plugged E (f ∷ fs) t v e =
    let w = plugged_all-is_no_value fs t v in
    step-inside E f (plug_all fs t) (no_value-fits f (plug_all fs t) w) (frame-waits E f (plug_all fs t) w) ∙
    ap (wrap (plug f)) (head-plugged E fs t v e)
