-- What single contractions come to where the free variables of code stand for something.
use Rattle.std.proofs.Common.{◌≡◌, ℕ, zero, suc, ◌+◌, ◌<◌, List, [], ◌∷◌, map, length, slice_get, Option, Some, None, option_map, Bool, true, false, cond, eqb, refl, sym, ◌∙◌, ap, ap₂, subst, arith}
use Rattle.std.proofs.lemmas.Bool.{eqb-true}
use Rattle.std.proofs.lemmas.List.{length-map}
use Rattle.std.proofs.lemmas.Option.{slice_get-map}
use mathlib.Core.Path.{fun_ext}
use Rattle.qtt_base.specs.declared.place.GlobalId.{GlobalId}
use Rattle.qtt_usage.specs.declared.mult.Mult.{Mult}
use Rattle.qtt_prims.specs.declared.prim.Primitive.{Primitive}
use Rattle.qtt_prims.specs.declared.lit.Lit.{Lit}
use Rattle.qtt_term.specs.declared.term.Term as code
use Rattle.qtt_term.specs.declared.term.Case.{Case, out-Case}
use Rattle.qtt_term.specs.declared.term.ConId.{ConId}
use Rattle.qtt_term.specs.Term.{Named, Form, Term, Terms, var, node, ε, ◌▸◌, ◌+++◌, size, skip, zeros, binders, Lam, App, Delete, Def, Call, same_id}
use Rattle.qtt_term.specs.Shift.{values_in, sub_branch}
use Rattle.qtt_term.specs.Signature.{Env, definition_at}
use Rattle.qtt_term.specs.Substitution.{sub, subs, lift, lifts, cons, push}
use Rattle.qtt_term.specs.Contraction.{Made, chain, as_lam, as_con, as_lit, beta, scrutinee, select, iota, deletion, when_refl, literals, literal_term, computed, contract}
use Rattle.qtt_term.specs.Question.{either, wrap, scrutinee_place, head_step}
use Rattle.qtt_term.specs.View.{term, terms, branches, side_by_side}
use Rattle.qtt_term.proofs.Components.{case_of}
use Rattle.qtt_term.proofs.Moves.{subs_side_by_side, subs_joined, subs_behind, subs_branches, sub_branches-binders}
use Rattle.qtt_term.proofs.Subst.{sub-sub, sub-var, push-lifts, subs-size}
use Rattle.qtt_conv.specs.Frames.{literal_terms, fitting_body, body_for}
use Rattle.qtt_conv.proofs.Contracting.{beta-fits, size-side_by_side, iota-chosen, iota-other, focus-steps}
use Rattle.qtt_conv.proofs.Plugging.{skip-front}
use Rattle.qtt_envconv.specs.declared.closure.Closure.{Closure}
use Rattle.qtt_envconv.specs.declared.spine.Focus.{Focus}
use Rattle.qtt_envconv.specs.declared.spine.Focus.TheVariants as focus_code
use Rattle.qtt_envconv.specs.Closures.{values, IsForm}
use Rattle.qtt_envconv.specs.Nodes.{put, over, put_in, over_in}
use Rattle.qtt_envconv.specs.Shapes.{literal}
use Rattle.qtt_envconv.specs.Frames.{TakesAt, Takes, IsCall, IsCallOf, IsAtRest, IsFocus, focus, contracted, case_rest}

-- ---- values for the newest variables
-- in code that stands under as many binders
pub pushed-under : (fs : Terms) (σ : ℕ → Term) (b : Term) →
    sub (push fs var) (sub (lifts (size fs) σ) b) ≡ sub (push fs σ) b
pushed-under fs σ b =
    sub-sub (push fs var) (lifts (size fs) σ) b
    ∙ ap (λ f. sub f b) (push-lifts fs var σ ∙ ap (push fs) (fun_ext (λ i. sub-var (σ i))))

-- ---- beta
pub lam-applied : (p q : Mult) (σ : ℕ → Term) (t A b a r : Term) → t ≡ Lam q A b → p ≡ q → r ≡ sub (cons a σ) b →
    Some r ≡ beta p (sub σ t ▸ a ▸ ε)
lam-applied p q σ t A b a r is same e =
    beta-fits p q (sub σ t) (sub σ A) (sub (lift σ) b) a r (ap (sub σ) is) same (e ∙ sym (pushed-under (a ▸ ε) σ b))

-- ---- iota
con-under : (τ : ℕ → Term) (t : Term) (f : GlobalId) (c : ℕ) (ps fs : List code.Term) →
    t ≡ node (Form.con f c (length ps)) (side_by_side (terms ps) +++ side_by_side (terms fs)) →
    Some (Made.made f c (side_by_side (map (sub τ) (terms fs)))) ≡ as_con (sub τ t)
con-under τ t f c ps fs is =
    let qs = map (sub τ) (terms ps) in
    let gs = side_by_side (map (sub τ) (terms fs)) in
    let count : length ps ≡ length qs = sym (length-map (terms ps) (sub τ) ∙ length-map ps term) in
    let all : subs [] τ (side_by_side (terms ps) +++ side_by_side (terms fs)) ≡ side_by_side qs +++ gs =
    subs_joined τ (terms ps) (side_by_side (terms fs)) ∙
    ap (λ ts. side_by_side qs +++ ts) (subs_side_by_side τ (terms fs)) in
    ap (λ ts. Some (Made.made f c ts)) (sym (ap₂ skip count all ∙ skip-front qs gs)) ∙ ap as_con (ap (sub τ) (sym is))

fitting-under : (σ : ℕ → Term) (n : ℕ) (b : ℕ × Term) →
    fitting_body n (sub_branch σ b) ≡ wrap (sub (lifts n σ)) (fitting_body n b)
fitting-under σ n b = by_test (eqb n b.0) refl
  where
    by_test : (c : Bool) → eqb n b.0 ≡ c →
        cond c (Some (sub (lifts b.0 σ) b.1)) None ≡ wrap (sub (lifts n σ)) (cond c (Some b.1) None)
    by_test true e = ap (λ m. Some (sub (lifts m σ) b.1)) (sym (eqb-true n b.0 e))
    by_test false e = refl

-- the body of a branch where the free variables of the whole stand for σ
body-under : (σ : ℕ → Term) (f : GlobalId) (bs : List (ℕ × Term)) (con : ConId) (n : ℕ) →
    body_for f (map (sub_branch σ) bs) con n ≡ wrap (sub (lifts n σ)) (body_for f bs con n)
body-under σ f bs con n =
    ap (λ o. cond (same_id f con.family) (chain o (fitting_body n)) None) (slice_get-map (sub_branch σ) bs con.place)
    ∙ by_branch (slice_get bs con.place) ∙ by_test (same_id f con.family)
  where
    by_branch : (o : Option (ℕ × Term)) →
        cond (same_id f con.family) (chain (option_map (sub_branch σ) o) (fitting_body n)) None ≡
        cond (same_id f con.family) (wrap (sub (lifts n σ)) (chain o (fitting_body n))) None
    by_branch None = refl
    by_branch (Some b) = ap (λ o. cond (same_id f con.family) o None) (fitting-under σ n b)

    by_test : (c : Bool) →
        cond c (wrap (sub (lifts n σ)) (chain (slice_get bs con.place) (fitting_body n))) None ≡ wrap (sub (lifts n σ))
        (cond c (chain (slice_get bs con.place) (fitting_body n)) None)
    by_test true = refl
    by_test false = refl

wrap-pushed : (fs : Terms) (σ : ℕ → Term) (o : Option Term) →
    wrap (sub (push fs σ)) o ≡ wrap (sub (push fs var)) (wrap (sub (lifts (size fs) σ)) o)
wrap-pushed fs σ None = refl
wrap-pushed fs σ (Some b) = ap Some (sym (pushed-under fs σ b))

binders-under : (σ : ℕ → Term) (c : Case) (t : Term) (o : Option Term) →
    o ≡ iota (out-Case c).family (map (λ b. b.0) (map (sub_branch σ) (branches (out-Case c).branches.items)))
    (case_rest σ c t) →
    o ≡ iota (out-Case c).family (map (λ b. b.0) (branches (out-Case c).branches.items)) (case_rest σ c t)
binders-under σ c t o e =
    e ∙ ap (λ ns. iota (out-Case c).family ns (case_rest σ c t))
    (sub_branches-binders σ (branches (out-Case c).branches.items))

pub chosen-body : (σ τ : ℕ → Term) (c : Case) (t : Term) (con : ConId) (ps fs : List code.Term) (n : ℕ)
    (o : Option Term) →
    t ≡ node (Form.con con.family con.place (length ps)) (side_by_side (terms ps) +++ side_by_side (terms fs)) →
    n ≡ length fs → o ≡ body_for (out-Case c).family (branches (out-Case c).branches.items) con n →
    wrap (sub (push (side_by_side (map (sub τ) (terms fs))) σ)) o ≡ iota (out-Case c).family
    (map (λ b. b.0) (branches (out-Case c).branches.items)) (case_rest σ c (sub τ t))
chosen-body σ τ c t con ps fs n o is count e =
    let k = out-Case c in
    let bs = branches k.branches.items in
    let gs = map (sub τ) (terms fs) in
    let counted : n ≡ length gs = count ∙ sym (length-map (terms fs) (sub τ) ∙ length-map fs term) in
    binders-under σ c (sub τ t) _
    (wrap-pushed (side_by_side gs) σ o
    ∙ ap₂ (λ m p. wrap (sub (values_in gs)) (wrap (sub (lifts m σ)) p)) (size-side_by_side gs)
    (e ∙ ap (body_for k.family bs con) counted)
    ∙ ap (wrap (sub (values_in gs))) (sym (body-under σ k.family bs con (length gs)))
    ∙ iota-chosen k.family (map (sub_branch σ) bs) (sub (lifts (k.indices + 1) σ) (term k.motive)) (sub τ t) con gs
    (con-under τ t con.family con.place ps fs is))

pub chosen-none : (σ : ℕ → Term) (c : Case) (t : Term) → None ≡ as_con t →
    None ≡ iota (out-Case c).family (map (λ b. b.0) (branches (out-Case c).branches.items)) (case_rest σ c t)
chosen-none σ c t e =
    let k = out-Case c in
    binders-under σ c t None
    (iota-other k.family (map (sub_branch σ) (branches k.branches.items))
    (sub (lifts (k.indices + 1) σ) (term k.motive)) t e)

-- ---- frames
pub argument-contracts : (E : Env) (σ : ℕ → Term) (u t : Term) (q : Mult) (g a : Term) (ls : List Lit) (k : ℕ)
    (o : Option Term) →
    u ≡ App q g a → Takes (sub σ u) ls k → o ≡ beta q (t ▸ sub σ a ▸ ε) →
    o ≡ contracted E (put_in k t (over_in ls (sub σ u)))
unfolding contract
argument-contracts E σ u t q g a ls k o is takes e =
    let P : Term → Type 0 = λ v. Takes (sub σ v) ls k → o ≡ contracted E (put_in k t (over_in ls (sub σ v))) in
    let whole = sub σ (App q g a) in
    subst P (sym is)
    (λ h. e ∙ sym (ap₂ (λ j xs. contracted E (put_in j t (over_in xs whole))) h.1 h.0)) takes

put-last_of : (bs : List (ℕ × Term)) (s t : Term) →
    put (length (map (λ b. b.0) bs)) t (side_by_side (map (λ b. b.1) bs) +++ (s ▸ ε)) ≡
    side_by_side (map (λ b. b.1) bs) +++ (t ▸ ε)
put-last_of [] s t = refl
put-last_of (b ∷ bs) s t = ap (λ ts. b.1 ▸ ts) (put-last_of bs s t)

put-scrutinee : (ps : List Term) (m : Term) (bs : List (ℕ × Term)) (s t : Term) →
    put (scrutinee_place (length ps) (map (λ b. b.0) bs)) t
    (side_by_side ps +++ (m ▸ (side_by_side (map (λ b. b.1) bs) +++ (s ▸ ε)))) ≡
    side_by_side ps +++ (m ▸ (side_by_side (map (λ b. b.1) bs) +++ (t ▸ ε)))
put-scrutinee [] m bs s t = ap (λ ts. m ▸ ts) (put-last_of bs s t)
put-scrutinee (p ∷ ps) m bs s t = ap (λ ts. p ▸ ts) (put-scrutinee ps m bs s t)

-- what is behind the parameters of a Case where the free variables of the whole stand for σ
rest-under : (σ : ℕ → Term) (ps : List Term) (i : ℕ) (m : Term) (bs : List (ℕ × Term)) (s t : Term) (k : ℕ) →
    k ≡ scrutinee_place (length ps) (map (λ b. b.0) bs) →
    skip (length ps) (put k t (subs (zeros (length ps) ((i + 1) ∷ map (λ b. b.0) bs)) σ
    (side_by_side ps +++ (m ▸ (side_by_side (map (λ b. b.1) bs) +++ (s ▸ ε)))))) ≡
    sub (lifts (i + 1) σ) m ▸ (side_by_side (map (λ b. b.1) (map (sub_branch σ) bs)) +++ (t ▸ ε))
rest-under σ ps i m bs s t k e =
    let qs = map (sub σ) ps in
    let cs = map (sub_branch σ) bs in
    let n = sub (lifts (i + 1) σ) m in
    let count : length ps ≡ length qs = sym (length-map ps (sub σ)) in
    let place : k ≡ scrutinee_place (length qs) (map (λ b. b.0) cs) =
    e ∙ ap₂ scrutinee_place count (sym (sub_branches-binders σ bs)) in
    let all : subs (zeros (length ps) ((i + 1) ∷ map (λ b. b.0) bs)) σ
    (side_by_side ps +++ (m ▸ (side_by_side (map (λ b. b.1) bs) +++ (s ▸ ε)))) ≡
    side_by_side qs +++ (n ▸ (side_by_side (map (λ b. b.1) cs) +++ (sub σ s ▸ ε))) =
    subs_behind σ ps ((i + 1) ∷ map (λ b. b.0) bs) (m ▸ (side_by_side (map (λ b. b.1) bs) +++ (s ▸ ε)))
    ∙ ap (λ ts. side_by_side qs +++ (n ▸ ts)) (subs_branches σ bs (s ▸ ε)) in
    ap₂ (λ j ts. skip (length ps) (put j t ts)) place all
    ∙ ap₂ skip count (put-scrutinee qs n cs (sub σ s) t)
    ∙ skip-front qs (n ▸ (side_by_side (map (λ b. b.1) cs) +++ (t ▸ ε)))

pub case-contracts : (E : Env) (σ : ℕ → Term) (u t : Term) (q : Mult) (f : GlobalId) (ps : List Term) (i : ℕ)
    (m : Term) (bs : List (ℕ × Term)) (s : Term) (ls : List Lit) (k : ℕ) (o : Option Term) →
    u ≡ case_of q f ps i m bs s → Takes (sub σ u) ls k →
    o ≡ iota f (map (λ b. b.0) bs)
    (sub (lifts (i + 1) σ) m ▸ (side_by_side (map (λ b. b.1) (map (sub_branch σ) bs)) +++ (t ▸ ε))) →
    o ≡ contracted E (put_in k t (over_in ls (sub σ u)))
unfolding contract
case-contracts E σ u t q f ps i m bs s ls k o is takes e =
    let P : Term → Type 0 = λ v. Takes (sub σ v) ls k → o ≡ contracted E (put_in k t (over_in ls (sub σ v))) in
    let whole = sub σ (case_of q f ps i m bs s) in
    subst P (sym is)
    (λ h. e ∙ sym (ap (λ xs. contracted E (put_in k t (over_in xs whole))) h.0
    ∙ ap (iota f (map (λ b. b.0) bs)) (rest-under σ ps i m bs s t k h.1))) takes

pub delete-contracts : (E : Env) (σ : ℕ → Term) (u t : Term) (q : Mult) (A s P b e : Term) (ls : List Lit) (k : ℕ)
    (o : Option Term) →
    u ≡ Delete q A s P b e → Takes (sub σ u) ls k → o ≡ chain (as_con t) (when_refl (sub σ b)) →
    o ≡ contracted E (put_in k t (over_in ls (sub σ u)))
unfolding contract
delete-contracts E σ u t q A s P b r ls k o is takes e =
    let Q : Term → Type 0 = λ v. Takes (sub σ v) ls k → o ≡ contracted E (put_in k t (over_in ls (sub σ v))) in
    let whole = sub σ (Delete q A s P b r) in
    subst Q (sym is)
    (λ h. e ∙ sym (ap₂ (λ j xs. contracted E (put_in j t (over_in xs whole))) h.1 h.0)) takes

-- ---- frames around what is no value
scrutinee-put : (ns : List ℕ) (ts : Terms) (t : Term) → size ts ≡ suc (length ns) →
    scrutinee ns (put (length ns) t ts) ≡ Some t
scrutinee-put ns ε t e = absurd (omega arith)
scrutinee-put [] (s ▸ ε) t e = refl
scrutinee-put [] (s ▸ r ▸ ts) t e = absurd (omega arith)
scrutinee-put (n ∷ ns) (s ▸ ts) t e = scrutinee-put ns ts t (omega arith)

iota-waits : (f : GlobalId) (n : ℕ) (ns : List ℕ) (ts : Terms) (t : Term) → size ts ≡ suc (scrutinee_place n ns) →
    None ≡ as_con t → None ≡ iota f ns (skip n (put (scrutinee_place n ns) t ts))
iota-waits f n ns ε t e none = absurd (omega arith)
iota-waits f zero ns (s ▸ ts) t e none =
    let ss = put (length ns) t ts in
    sym (ap (λ o. chain o (λ r. chain (as_con r) (select f ns ss))) (scrutinee-put ns ts t (omega arith))
    ∙ ap (λ o. chain o (select f ns ss)) (sym none))
iota-waits f (suc n) ns (s ▸ ts) t e none = iota-waits f n ns ts t (omega arith) none

literals-wait : (ls : List Lit) (t : Term) (ts : Terms) → length ls < size ts → as_lit t ≡ None →
    literals (put (length ls) t (over ls ts)) ≡ None
literals-wait ls t ε h none = absurd (omega arith)
literals-wait [] t (s ▸ ts) h none = rw none refl
literals-wait (l ∷ ls) t (s ▸ ts) h none = rw (literals-wait ls t ts (omega arith) none) refl

form-waits : (E : Env) (F : Form) (ts : Terms) (t : Term) (ls : List Lit) (k : ℕ) → TakesAt F ts ls k →
    (IsCall (node F ts) → as_lit t ≡ None) → None ≡ as_lam t → None ≡ as_con t →
    None ≡ contract E F (put k t (over ls ts))
unfolding contract
form-waits E (Form.app q) ts t ls k h lit lam con =
    by_parts ts h.2 ∙ sym (ap₂ (λ j xs. beta q (put j t (over xs ts))) h.1 h.0)
  where
    by_parts : (ss : Terms) → size ss ≡ 2 → None ≡ beta q (put 0 t ss)
    by_parts ε e = refl
    by_parts (s ▸ ε) e = refl
    by_parts (s ▸ r ▸ ε) e = rw (sym lam) refl
    by_parts (s ▸ r ▸ p ▸ ss) e = refl
form-waits E (Form.case q f n m ns) ts t ls k h lit lam con =
    iota-waits f n ns ts t (h.2 ∙ ap suc h.1) con
    ∙ sym (ap₂ (λ j xs. iota f ns (skip n (put j t (over xs ts)))) h.1 h.0)
form-waits E (Form.delete q) ts t ls k h lit lam con =
    by_parts ts ∙ sym (ap₂ (λ j xs. deletion (put j t (over xs ts))) h.1 h.0)
  where
    by_parts : (ss : Terms) → None ≡ deletion (put 4 t ss)
    by_parts ε = refl
    by_parts (s ▸ ε) = refl
    by_parts (s ▸ r ▸ ε) = refl
    by_parts (s ▸ r ▸ p ▸ ε) = refl
    by_parts (s ▸ r ▸ p ▸ u ▸ ε) = refl
    by_parts (s ▸ r ▸ p ▸ u ▸ v ▸ ε) = rw (sym con) refl
    by_parts (s ▸ r ▸ p ▸ u ▸ v ▸ w ▸ ss) = refl
form-waits E (Form.named (Named.prim p)) ts t ls k h lit lam con =
    let within : length ls < size ts = omega (arith, h.0, h.1) in
    sym (ap (λ j. chain (literals (put j t (over ls ts))) (computed p)) h.0
    ∙ ap (λ o. chain o (computed p)) (literals-wait ls t ts within (lit tt)))
form-waits E (Form.sort l) ts t ls k h lit lam con = absurd h
form-waits E (Form.pi q) ts t ls k h lit lam con = absurd h
form-waits E (Form.lam q) ts t ls k h lit lam con = absurd h
form-waits E (Form.fam f) ts t ls k h lit lam con = absurd h
form-waits E (Form.con f c n) ts t ls k h lit lam con = absurd h
form-waits E (Form.named (Named.def d)) ts t ls k h lit lam con = absurd h
form-waits E (Form.named (Named.lit l)) ts t ls k h lit lam con = absurd h
form-waits E (Form.named (Named.prim_ty p)) ts t ls k h lit lam con = absurd h
form-waits E (Form.named (Named.act a n)) ts t ls k h lit lam con = absurd h
form-waits E Form.trap ts t ls k h lit lam con = absurd h
form-waits E (Form.tape n) ts t ls k h lit lam con = absurd h

-- around neither a function nor a constructor, nor a literal among arguments
pub frame-waits : (E : Env) (u t : Term) (ls : List Lit) (k : ℕ) → Takes u ls k →
    (IsCall u → as_lit t ≡ None) → None ≡ as_lam t → None ≡ as_con t →
    None ≡ contracted E (put_in k t (over_in ls u))
frame-waits E (var i) t ls k h lit lam con = absurd h
frame-waits E (node F ts) t ls k h lit lam con = form-waits E F ts t ls k h lit lam con

-- ---- focuses
-- a definition
pub definition-steps : (E : Env) (σ : ℕ → Term) (t : Term) (d : GlobalId) (o : Option Term) → t ≡ Def d →
    o ≡ (definition_at E d).body → o ≡ head_step E (sub σ t)
unfolding contract
definition-steps E σ t d o is e =
    e ∙ sym (ap (λ u. head_step E (sub σ u)) is ∙ either-none (definition_at E d).body)
  where
    either-none : (p : Option Term) → either p None ≡ p
    either-none None = refl
    either-none (Some a) = refl

pub literal-rests : (E : Env) (l : Lit) → None ≡ head_step E (literal_term l)
unfolding contract
literal-rests E l = refl

abbrev pub IsDefinition : Term → Type 0
IsDefinition (node (Form.named (Named.def d)) ts) = Unit {0}
IsDefinition _ = ⊥

pub others-rest : (E : Env) (σ : ℕ → Term) (t : Term) → IsAtRest t → (IsDefinition t → ⊥) → None ≡ head_step E (sub σ t)
unfolding contract
others-rest E σ (var i) h none = absurd h
others-rest E σ (node (Form.sort l) ts) h none = refl
others-rest E σ (node (Form.pi q) ts) h none = refl
others-rest E σ (node (Form.lam q) ts) h none = refl
others-rest E σ (node (Form.app q) ts) h none = absurd h
others-rest E σ (node (Form.fam f) ts) h none = refl
others-rest E σ (node (Form.con f c n) ts) h none = refl
others-rest E σ (node (Form.case q f n m ns) ts) h none = absurd h
others-rest E σ (node (Form.delete q) ts) h none = absurd h
others-rest E σ (node (Form.named (Named.def d)) ts) h none = absurd (none tt)
others-rest E σ (node (Form.named (Named.lit l)) ts) h none = absurd h
others-rest E σ (node (Form.named (Named.prim_ty p)) ts) h none = refl
others-rest E σ (node (Form.named (Named.prim p)) ts) h none = absurd h
others-rest E σ (node (Form.named (Named.act a n)) ts) h none = refl
others-rest E σ (node Form.trap ts) h none = refl
others-rest E σ (node (Form.tape n) ts) h none = refl

over-all : (ls : List Lit) (ts : Terms) → size ts ≡ length ls → over ls ts ≡ literal_terms ls
over-all [] ε e = refl
over-all [] (t ▸ ts) e = absurd (omega arith)
over-all (l ∷ ls) ε e = absurd (omega arith)
over-all (l ∷ ls) (t ▸ ts) e = ap (λ ss. literal_term l ▸ ss) (over-all ls ts (omega arith))

literals-all : (ls : List Lit) → literals (literal_terms ls) ≡ Some ls
literals-all [] = refl
literals-all (l ∷ ls) = rw (literals-all ls) refl

-- a primitive all of whose arguments are literals
pub call-steps : (E : Env) (σ : ℕ → Term) (t : Term) (p : Primitive) (ts : Terms) (ls : List Lit) (n : ℕ)
    (o : Option Term) →
    t ≡ Call p ts → IsCallOf n t → n ≡ length ls → o ≡ computed p ls →
    o ≡ head_step E (over_in ls (sub σ t))
call-steps E σ t p ts ls n o is counted count e =
    let P : Term → Type 0 = IsCallOf n in
    let sized : size ts ≡ n = subst P is counted in
    e
    ∙ ap (λ xs. chain xs (computed p)) (sym (literals-all ls))
    ∙ sym (focus-steps E (Call p (literal_terms ls)) (ls, refl))
    ∙ ap (λ ss. head_step E (Call p ss)) (sym (over-all ls (subs [] σ ts) (subs-size ts [] σ ∙ sized ∙ count)))
    ∙ ap (λ u. head_step E (over_in ls (sub σ u))) (sym is)

-- ---- forms that take the head of one component
abbrev pub IsElimination : Term → Type 0
IsElimination (node (Form.app q) ts) = Unit {0}
IsElimination (node (Form.case q f n m ns) ts) = Unit {0}
IsElimination (node (Form.delete q) ts) = Unit {0}
IsElimination _ = ⊥

call-waits : (E : Env) (F : Form) (ts us : Terms) (t : Term) (ls : List Lit) (k : ℕ) → TakesAt F ts ls k →
    (IsElimination (node F us) → ⊥) → (IsCall (node F ts) → as_lit t ≡ None) →
    None ≡ contract E F (put k t (over ls ts))
unfolding contract
call-waits E (Form.app q) ts us t ls k h none lit = absurd (none tt)
call-waits E (Form.case q f n m ns) ts us t ls k h none lit = absurd (none tt)
call-waits E (Form.delete q) ts us t ls k h none lit = absurd (none tt)
call-waits E (Form.named (Named.prim p)) ts us t ls k h none lit =
    let within : length ls < size ts = omega (arith, h.0, h.1) in
    sym (ap (λ j. chain (literals (put j t (over ls ts))) (computed p)) h.0
    ∙ ap (λ o. chain o (computed p)) (literals-wait ls t ts within (lit tt)))
call-waits E (Form.sort l) ts us t ls k h none lit = absurd h
call-waits E (Form.pi q) ts us t ls k h none lit = absurd h
call-waits E (Form.lam q) ts us t ls k h none lit = absurd h
call-waits E (Form.fam f) ts us t ls k h none lit = absurd h
call-waits E (Form.con f c n) ts us t ls k h none lit = absurd h
call-waits E (Form.named (Named.def d)) ts us t ls k h none lit = absurd h
call-waits E (Form.named (Named.lit l)) ts us t ls k h none lit = absurd h
call-waits E (Form.named (Named.prim_ty p)) ts us t ls k h none lit = absurd h
call-waits E (Form.named (Named.act a n)) ts us t ls k h none lit = absurd h
call-waits E Form.trap ts us t ls k h none lit = absurd h
call-waits E (Form.tape n) ts us t ls k h none lit = absurd h

-- a primitive around what is no literal
pub others-wait : (E : Env) (σ : ℕ → Term) (u t : Term) (ls : List Lit) (k : ℕ) → IsForm u → Takes (sub σ u) ls k →
    (IsElimination u → ⊥) → (IsCall (sub σ u) → as_lit t ≡ None) →
    None ≡ contracted E (put_in k t (over_in ls (sub σ u)))
others-wait E σ (var i) t ls k form h none lit = absurd form
others-wait E σ (node F ts) t ls k form h none lit = call-waits E F (subs (binders F) σ ts) ts t ls k h none lit

-- ---- what stands in a frame's place and is no closure
called-is_no_value : (σ : ℕ → Term) (t : Term) (ls : List Lit) (n : ℕ) → IsCallOf n t →
    (None ≡ as_lam (over_in ls (sub σ t))) × (None ≡ as_con (over_in ls (sub σ t)))
called-is_no_value σ (var i) ls n h = absurd h
called-is_no_value σ (node (Form.named (Named.prim p)) ts) ls n h = (refl, refl)
called-is_no_value σ (node (Form.app q) ts) ls n h = absurd h
called-is_no_value σ (node (Form.case q f k m ns) ts) ls n h = absurd h
called-is_no_value σ (node (Form.delete q) ts) ls n h = absurd h
called-is_no_value σ (node (Form.sort l) ts) ls n h = absurd h
called-is_no_value σ (node (Form.pi q) ts) ls n h = absurd h
called-is_no_value σ (node (Form.lam q) ts) ls n h = absurd h
called-is_no_value σ (node (Form.fam f) ts) ls n h = absurd h
called-is_no_value σ (node (Form.con f c k) ts) ls n h = absurd h
called-is_no_value σ (node (Form.named (Named.def d)) ts) ls n h = absurd h
called-is_no_value σ (node (Form.named (Named.lit l)) ts) ls n h = absurd h
called-is_no_value σ (node (Form.named (Named.prim_ty p)) ts) ls n h = absurd h
called-is_no_value σ (node (Form.named (Named.act a k)) ts) ls n h = absurd h
called-is_no_value σ (node Form.trap ts) ls n h = absurd h
called-is_no_value σ (node (Form.tape k) ts) ls n h = absurd h

pub others-are_no_value : (f : Focus) → IsFocus f → ((c : Closure) → f ≡ focus_code.Closure c → ⊥) →
    (None ≡ as_lam (focus f)) × (None ≡ as_con (focus f))
others-are_no_value (focus_code.Variable i) h none = (refl, refl)
others-are_no_value (focus_code.Literal l) h none = (refl, refl)
others-are_no_value (focus_code.Closure c) h none = absurd (none c refl)
others-are_no_value (focus_code.Call c ls) h none =
    called-is_no_value (values c.values.now) (term c.code.now) (map literal ls.items) (length ls.items) h
