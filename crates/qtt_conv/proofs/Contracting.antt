-- What single contractions come to.
use Rattle.std.proofs.Common.{◌≡◌, ℕ, zero, suc, List, [], ◌∷◌, map, length, slice_get, Option, Some, None, option_map, Bool, true, false, cond, eqb, refl, sym, ◌∙◌, ap, subst, arith}
use Rattle.std.specs.Global.{Box, Vec}
use Rattle.std.proofs.lemmas.Bool.{eq-eqb, eqb-true}
use Rattle.std.proofs.lemmas.List.{length-map}
use Rattle.qtt_base.specs.declared.place.GlobalId.{GlobalId}
use Rattle.qtt_usage.specs.declared.mult.Mult.{Mult}
use Rattle.qtt_usage.specs.Mult.{same_mult}
use Rattle.qtt_prims.specs.declared.prim.Primitive.{Primitive}
use Rattle.qtt_prims.specs.declared.lit.Lit.{Lit}
use Rattle.qtt_term.specs.declared.term.Term as code
use Rattle.qtt_term.specs.declared.term.Branch as code_branch
use Rattle.qtt_term.specs.declared.term.Term.{the_lemmas}
use Rattle.qtt_term.specs.declared.term.ConId.{ConId}
use Rattle.qtt_term.specs.Term.{Named, Form, Term, Terms, var, node, ε, ◌▸◌, ◌+++◌, size, skip, Lam, same_id}
use Rattle.qtt_term.specs.Substitution.{sub, push, inst}
use Rattle.qtt_term.specs.Shift.{values_in}
use Rattle.qtt_term.specs.Signature.{Env}
use Rattle.qtt_term.specs.Contraction.{Made, chain, beta, as_con, branch_at, select, iota, deletion, literals, computed, contract}
use Rattle.qtt_term.specs.Question.{either, wrap, head_step, arguments_step}
use Rattle.qtt_term.specs.View.{term, terms, branch, branches, side_by_side}
use Rattle.qtt_term.proofs.Same.{mult-same}
use Rattle.qtt_conv.specs.declared.frame.Branching.{Branching}
use Rattle.qtt_conv.specs.declared.frame.Deletion.{Deletion}
use Rattle.qtt_conv.specs.declared.frame.Frame.{Frame}
use Rattle.qtt_conv.specs.declared.frame.Frame.TheVariants as frame
use Rattle.qtt_conv.specs.Frames.{form_of, parts_of, case_parts, delete_parts, Fits, literal_terms, starts_with_no_literal, IsFocus, fitting_body, body_for, focus_step}
use Rattle.qtt_conv.proofs.Plugging.{scrutinee-last, skip-front, literals-stop}

-- ---- beta
pub beta-fits : (p q : Mult) (t A b a r : Term) → t ≡ Lam q A b → p ≡ q → r ≡ inst b a → Some r ≡ beta p (t ▸ a ▸ ε)
beta-fits p q t A b a r is same e =
    ap Some e
    ∙ sym (ap (λ x. beta p (x ▸ a ▸ ε)) is ∙ ap (λ m. cond (same_mult p m) (Some (inst b a)) None) (sym same) ∙
    ap (λ c. cond c (Some (inst b a)) None) (mult-same p))

-- ---- iota
pub size-side_by_side : (ts : List Term) → size (side_by_side ts) ≡ length ts
size-side_by_side [] = refl
size-side_by_side (t ∷ ts) = ap suc (size-side_by_side ts)

-- a branch with the fields in their places, where it stands under as many
wrap-fitting : (fs : Terms) (b : ℕ × Term) →
    cond (eqb (size fs) b.0) (Some (sub (push fs var) b.1)) None ≡ wrap (sub (push fs var))
    (fitting_body (size fs) b)
wrap-fitting fs b = by_test (eqb (size fs) b.0)
  where
    by_test : (c : Bool) → cond c (Some (sub (push fs var) b.1)) None ≡ wrap (sub (push fs var))
        (cond c (Some b.1) None)
    by_test true = refl
    by_test false = refl

branch_at-get : (c : ℕ) (bs : List (ℕ × Term)) (ts fs : Terms) →
    branch_at c (map (λ b. b.0) bs) (side_by_side (map (λ b. b.1) bs) +++ ts) fs ≡ wrap (sub (push fs var))
    (chain (slice_get bs c) (fitting_body (size fs)))
branch_at-get zero [] ts fs = refl
branch_at-get (suc c) [] ts fs = refl
branch_at-get zero (b ∷ bs) ts fs = wrap-fitting fs b
branch_at-get (suc c) (b ∷ bs) ts fs = branch_at-get c bs ts fs

select-body : (f : GlobalId) (bs : List (ℕ × Term)) (ts : Terms) (con : ConId) (fs : Terms) →
    select f (map (λ b. b.0) bs) (side_by_side (map (λ b. b.1) bs) +++ ts) (Made.made con.family con.place fs) ≡
    wrap (sub (push fs var)) (body_for f bs con (size fs))
select-body f bs ts con fs =
    ap (λ o. cond (same_id f con.family) o None) (branch_at-get con.place bs ts fs) ∙
    by_test (same_id f con.family)
  where
    by_test : (c : Bool) → cond c
        (wrap (sub (push fs var)) (chain (slice_get bs con.place) (fitting_body (size fs)))) None ≡ wrap
        (sub (push fs var)) (cond c (chain (slice_get bs con.place) (fitting_body (size fs))) None)
    by_test true = refl
    by_test false = refl

-- of a motive, branches and a scrutinee
iota-scrutinee : (f : GlobalId) (bs : List (ℕ × Term)) (m t : Term) →
    iota f (map (λ b. b.0) bs) (m ▸ (side_by_side (map (λ b. b.1) bs) +++ (t ▸ ε))) ≡ chain (as_con t)
    (select f (map (λ b. b.0) bs) (side_by_side (map (λ b. b.1) bs) +++ (t ▸ ε)))
iota-scrutinee f bs m t =
    ap (λ o. chain o (λ s. chain (as_con s)
    (select f (map (λ b. b.0) bs) (side_by_side (map (λ b. b.1) bs) +++ (t ▸ ε))))) (scrutinee-last bs t)

pub iota-other : (f : GlobalId) (bs : List (ℕ × Term)) (m t : Term) → None ≡ as_con t →
    None ≡ iota f (map (λ b. b.0) bs) (m ▸ (side_by_side (map (λ b. b.1) bs) +++ (t ▸ ε)))
iota-other f bs m t e =
    sym (iota-scrutinee f bs m t ∙
    ap (λ o. chain o (select f (map (λ b. b.0) bs) (side_by_side (map (λ b. b.1) bs) +++ (t ▸ ε)))) (sym e))

pub iota-chosen : (f : GlobalId) (bs : List (ℕ × Term)) (m t : Term) (con : ConId) (fs : List Term) →
    Some (Made.made con.family con.place (side_by_side fs)) ≡ as_con t →
    wrap (sub (values_in fs)) (body_for f bs con (length fs)) ≡ iota f (map (λ b. b.0) bs)
    (m ▸ (side_by_side (map (λ b. b.1) bs) +++ (t ▸ ε)))
iota-chosen f bs m t con fs e =
    ap (λ n. wrap (sub (values_in fs)) (body_for f bs con n)) (sym (size-side_by_side fs))
    ∙ sym (select-body f bs (t ▸ ε) con (side_by_side fs))
    ∙ sym (iota-scrutinee f bs m t ∙
    ap (λ o. chain o (select f (map (λ b. b.0) bs) (side_by_side (map (λ b. b.1) bs) +++ (t ▸ ε)))) (sym e))

-- ---- branches of the code
get-seen : {A B : Type 0} (g : A → B) (xs : List A) (i : ℕ) → slice_get (map g xs) i ≡ option_map g (slice_get xs i)
get-seen g [] i = refl
get-seen g (x ∷ xs) zero = refl
get-seen g (x ∷ xs) (suc i) = get-seen g xs i

pub body-found : (f : GlobalId) (bs : List code_branch.Branch) (con : ConId) (n : ℕ) (b : code_branch.Branch) →
    same_id f con.family ≡ true → slice_get bs con.place ≡ Some b →
    body_for f (branches bs) con n ≡ fitting_body n (branch b)
body-found f bs con n b same at =
    ap (λ c. cond c (chain (slice_get (branches bs) con.place) (fitting_body n)) None) same
    ∙ ap (λ o. chain o (fitting_body n)) (get-seen branch bs con.place ∙ ap (option_map branch) at)

-- ---- what a focus contracts to
-- a primitive whose arguments are no literals from one on
pub call-stuck : (p : Primitive) (args : Terms) (ls : List Lit) (rest : List code.Term) →
    args ≡ literal_terms ls +++ side_by_side (terms rest) →
    starts_with_no_literal (side_by_side (terms rest)) →
    (length rest ≡ 0 → ⊥) → None ≡ chain (literals args) (computed p)
call-stuck p args ls [] parts stops some = absurd (some refl)
call-stuck p args ls (r ∷ rest) parts stops some =
    sym (ap (λ ts. chain (literals ts) (computed p)) parts ∙ ap (λ o. chain o (computed p))
    (literals-stop ls (term r) (side_by_side (terms rest)) stops))

either-none : {A : Type 0} (o : Option A) → either o None ≡ o
either-none None = refl
either-none (Some a) = refl

literals-still : (E : Env) (ls : List Lit) → arguments_step E (literal_terms ls) ≡ None
literals-still E [] = refl
literals-still E (l ∷ ls) = rw (literals-still E ls) refl

pub focus-steps : (E : Env) (t : Term) → IsFocus t → head_step E t ≡ focus_step E t
unfolding contract
focus-steps E (var i) h = refl
focus-steps E (node (Form.sort l) ts) h = refl
focus-steps E (node (Form.pi q) ts) h = refl
focus-steps E (node (Form.lam q) ts) h = refl
focus-steps E (node (Form.app q) ts) h = absurd h
focus-steps E (node (Form.fam f) ts) h = refl
focus-steps E (node (Form.con f c k) ts) h = refl
focus-steps E (node (Form.case q f k m ns) ts) h = absurd h
focus-steps E (node (Form.delete q) ts) h = absurd h
focus-steps E (node (Form.named (Named.def d)) ts) h = either-none _
focus-steps E (node (Form.named (Named.lit l)) ts) h = refl
focus-steps E (node (Form.named (Named.prim_ty p)) ts) h = refl
focus-steps E (node (Form.named (Named.prim p)) ts) h =
    ap (λ o. either (contract E (Form.named (Named.prim p)) ts) (wrap (node (Form.named (Named.prim p))) o))
    (ap (arguments_step E) h.1 ∙ literals-still E h.0) ∙ either-none _
focus-steps E (node (Form.named (Named.act a k)) ts) h = refl
focus-steps E (node Form.trap ts) h = refl
focus-steps E (node (Form.tape n) ts) h = refl

-- ---- constructors
pub con-seen : (t : Term) (f : GlobalId) (c : ℕ) (ps fs : List code.Term) →
    t ≡ node (Form.con f c (length ps)) (side_by_side (terms ps) +++ side_by_side (terms fs)) →
    Some (Made.made f c (side_by_side (terms fs))) ≡ as_con t
con-seen t f c ps fs is =
    ap (λ ts. Some (Made.made f c ts))
    (sym (ap (λ n. skip n (side_by_side (terms ps) +++ side_by_side (terms fs))) (sym (length-map ps term)) ∙
    skip-front (terms ps) (side_by_side (terms fs))))
    ∙ ap as_con (sym is)

pub body-fits : (n : ℕ) (b : code_branch.Branch) → n ≡ b.fields → Some (term b.body) ≡ fitting_body n (branch b)
body-fits n b e =
    let seen : branch b ≡ (b.fields, term b.body) = grind (arith, the_lemmas) in
    sym (ap (fitting_body n) seen ∙ ap (λ c. cond c (Some (term b.body)) None) (eq-eqb n b.fields e))

eqb-apart : (m n : ℕ) → (m ≡ n → ⊥) → eqb m n ≡ false
eqb-apart m n e = by_test (eqb m n) refl
  where
    by_test : (c : Bool) → eqb m n ≡ c → c ≡ false
    by_test true h = absurd (e (eqb-true m n h))
    by_test false h = refl

pub body-unfit : (n : ℕ) (b : code_branch.Branch) → (n ≡ b.fields → ⊥) → None ≡ fitting_body n (branch b)
body-unfit n b e =
    let seen : branch b ≡ (b.fields, term b.body) = grind (arith, the_lemmas) in
    sym (ap (fitting_body n) seen ∙ ap (λ c. cond c (Some (term b.body)) None) (eqb-apart n b.fields e))

-- ---- frames
pub argument-contracts : (E : Env) (f : Frame) (q : Mult) (a : code.Term) (t : Term) (o : Option Term) →
    f ≡ frame.Argument q a → o ≡ beta q (t ▸ term a ▸ ε) →
    o ≡ contract E (form_of f) (parts_of f t)
unfolding contract
argument-contracts E f q a t o is e = e ∙ sym (ap (λ g. contract E (form_of g) (parts_of g t)) is)

pub case-contracts : (E : Env) (f : Frame) (c : Box Branching) (t : Term) (o : Option Term) → f ≡ frame.Case c →
    o ≡ iota c.value.family (map (λ b. b.0) (branches c.value.branches.items))
    (term c.value.motive ▸ (side_by_side (map (λ b. b.1) (branches c.value.branches.items)) +++ (t ▸ ε))) →
    o ≡ contract E (form_of f) (parts_of f t)
unfolding contract
case-contracts E f c t o is e =
    e
    ∙ sym (ap (λ g. contract E (form_of g) (parts_of g t)) is
    ∙ ap (iota c.value.family (map (λ b. b.0) (branches c.value.branches.items)))
    (ap (λ n. skip n (case_parts c.value t)) (sym (length-map c.value.params.items term))
    ∙ skip-front (terms c.value.params.items) _))

pub delete-contracts : (E : Env) (f : Frame) (d : Box Deletion) (t : Term) (o : Option Term) →
    f ≡ frame.Delete d → o ≡ deletion (delete_parts d.value t) →
    o ≡ contract E (form_of f) (parts_of f t)
unfolding contract
delete-contracts E f d t o is e = e ∙ sym (ap (λ g. contract E (form_of g) (parts_of g t)) is)

pub call-waits : (E : Env) (f : Frame) (p : Primitive) (ls : Vec Lit) (ts : Vec code.Term) (t : Term) →
    f ≡ frame.Prim p ls ts → Fits f t →
    None ≡ contract E (form_of f) (parts_of f t)
unfolding contract
call-waits E f p ls ts t is fits =
    sym (ap (λ g. contract E (form_of g) (parts_of g t)) is
    ∙ ap (λ o. chain o (computed p))
    (literals-stop ls.items t (side_by_side (terms ts.items)) (subst (λ g. Fits g t) is fits)))
