-- Numbers of components, and uses of a branch's fields, one after another.
use Rattle.std.proofs.Common.{◌≡◌, ℕ, zero, suc, ◌+◌, ◌-◌, ◌<◌, ◌≤◌, Bool, true, false, ◌&&◌, ◌||◌, cond, eqb, List, [], ◌∷◌, ◌++◌, length, take, drop, map, get_or, refl, sym, ◌∙◌, ap, arith}
use mathlib.Core.Path.{ap₂}
use Rattle.std.proofs.lemmas.Bool.{eq-eqb, ne_eqb, eqb-true, eqb-false, and_parts}
use Rattle.std.proofs.lemmas.List.{length-map, length-append, map-append, drop_all, take_more}
use Rattle.std.proofs.Math.Seq.{drop-cons}
use Rattle.qtt_base.specs.declared.place.GlobalId.{GlobalId}
use Rattle.qtt_usage.specs.declared.mult.Mult.{Mult}
use Rattle.qtt_usage.specs.Mult.{𝟘, ω, fits}
use Rattle.qtt_term.specs.declared.term.Term as code
use Rattle.qtt_term.specs.declared.term.Branch as code_branch
use Rattle.qtt_term.specs.declared.items.Constructor as code_constructor
use Rattle.qtt_term.specs.declared.items.Family as code_family
use Rattle.qtt_term.specs.Term.{Term, skip}
use Rattle.qtt_term.specs.Signature.{Tele, Env, Constructor, con_sigs, fam_sig, self_of, index_binders}
use Rattle.qtt_term.specs.Judgement.{Part}
use Rattle.qtt_term.specs.Items.{family, constructor, field}
use Rattle.qtt_term.specs.Question.{same_counts}
use Rattle.qtt_term.specs.View.{term, terms, branch, branches, side_by_side}
use Rattle.qtt_term.specs.Accepted.{is_dead}
use Rattle.qtt_term.specs.Infer.{Premise, field_counts, binders_fit, mults_onto, unbound}
use Rattle.qtt_term.specs.Telescopes.{tele}
use Rattle.qtt_core_check.specs.Cases.{shaped, fits_within}
use Rattle.qtt_core_check.specs.Seen.{Reaches, Fails}
use Rattle.qtt_core_check.proofs.Within.{on, on_done, fails_here, holds, unmet}

-- ---- counts
pub counts-differ : (m n : ℕ) (ms ns : List ℕ) → (m ≡ n → ⊥) → same_counts (m ∷ ms) (n ∷ ns) ≡ false
counts-differ m n ms ns h = ap (λ b. b && same_counts ms ns) (ne_eqb m n h)

pub counts-agree : (m n : ℕ) (ms ns : List ℕ) → m ≡ n → same_counts (m ∷ ms) (n ∷ ns) ≡ same_counts ms ns
counts-agree m n ms ns e = ap (λ b. b && same_counts ms ns) (eq-eqb m n e)

pub counts-lengths : (ms ns : List ℕ) → (length ms ≡ length ns → ⊥) → same_counts ms ns ≡ false
counts-lengths [] [] h = absurd (h refl)
counts-lengths [] (n ∷ ns) h = refl
counts-lengths (m ∷ ms) [] h = refl
counts-lengths (m ∷ ms) (n ∷ ns) h = rw (counts-lengths ms ns (λ e. h (ap suc e))) (and-false (eqb m n))
  where
    and-false : (b : Bool) → (b && false) ≡ false
    and-false true = refl
    and-false false = refl

pub counts-length : (ms ns : List ℕ) → same_counts ms ns ≡ true → length ms ≡ length ns
counts-length [] [] e = refl
counts-length [] (n ∷ ns) e = absurd (cc e)
counts-length (m ∷ ms) [] e = absurd (cc e)
counts-length (m ∷ ms) (n ∷ ns) e = ap suc (counts-length ms ns (and_parts (eqb m n) (same_counts ms ns) e).1)

abbrev pub binders_of : List code_branch.Branch → List ℕ
binders_of bs = map (λ b. b.0) (branches bs)

abbrev pub fields_of : List code_constructor.Constructor → List ℕ
fields_of cs = map (λ c. length c.fields.items) cs

pub counts-at : (bs : List code_branch.Branch) (cs : List code_constructor.Constructor) (k : ℕ)
    (x : code_branch.Branch) (y : code_constructor.Constructor) →
    k < length bs → k < length cs → x ≡ get_or bs k x → y ≡ get_or cs k y →
    same_counts (binders_of (drop k bs)) (fields_of (drop k cs))
    ≡ same_counts ((branch x).0 ∷ binders_of (drop (k + 1) bs)) (length y.fields.items ∷ fields_of (drop (k + 1) cs))
counts-at bs cs k x y h i d e =
    let s : suc k ≡ k + 1 = omega arith in
    ap₂ (λ bs cs. same_counts (binders_of bs) (fields_of cs))
    (drop-cons bs k x h ∙ ap₂ (λ x j. x ∷ drop j bs) (sym d) s)
    (drop-cons cs k y i ∙ ap₂ (λ y j. y ∷ drop j cs) (sym e) s)

pub counts-end : (bs : List code_branch.Branch) (cs : List code_constructor.Constructor) (k : ℕ) → length bs ≤ k →
    length cs ≤ k →
    same_counts (binders_of (drop k bs)) (fields_of (drop k cs)) ≡ true
counts-end bs cs k h i = ap₂ (λ bs cs. same_counts (binders_of bs) (fields_of cs)) (drop_all k bs h) (drop_all k cs i)

pub counts-unequal : (bs : List code_branch.Branch) (cs : List code_constructor.Constructor) →
    (length bs ≡ length cs → ⊥) →
    same_counts (binders_of bs) (fields_of cs) ≡ false
counts-unequal bs cs h =
    counts-lengths (binders_of bs) (fields_of cs)
    (λ e. h (sym (length-map (branches bs) (λ b. b.0) ∙ length-map bs branch) ∙ e ∙ length-map cs
    (λ c. length c.fields.items)))

pub sig-fields : (f : GlobalId) (k n : ℕ) (cs : List Constructor) →
    field_counts (con_sigs f k n cs) ≡ map (λ c. length c.fields) cs
sig-fields f k n [] = refl
sig-fields f k n (c ∷ cs) = ap (λ ns. length c.fields ∷ ns) (sig-fields f k (suc n) cs)

pub length-indices : (n : ℕ) (ts : List Term) → length (index_binders n ts) ≡ length ts
length-indices n [] = refl
length-indices n (t ∷ ts) = ap suc (length-indices (suc n) ts)

pub skip-side : (k : ℕ) (ts : List code.Term) → skip k (side_by_side (terms ts)) ≡ side_by_side (terms (drop k ts))
skip-side zero ts = refl
skip-side (suc k) [] = refl
skip-side (suc k) (t ∷ ts) = skip-side k ts

eqb-one : (i n : ℕ) → eqb (i + 1) (n + 1) ≡ eqb i n
eqb-one i n = by_test (eqb i n) refl
  where
    by_test : (b : Bool) → eqb i n ≡ b → eqb (i + 1) (n + 1) ≡ eqb i n
    by_test true e = eq-eqb (i + 1) (n + 1) (ap (λ k. k + 1) (eqb-true i n e)) ∙ sym e
    by_test false e = ne_eqb (i + 1) (n + 1) (λ d. eqb-false i n e (omega arith)) ∙ sym e

-- the shape of a Case, as the code tests it
pub shape-seen : (f : GlobalId) (F : code_family.Family) (k i : ℕ) (ns : List ℕ) →
    shaped (fam_sig f (family F)) k (i + 1) ns
    ≡ (eqb k (length F.params.items) &&
    (eqb i (length F.indices.items) && same_counts ns (fields_of F.constructors.items)))
shape-seen f F k i ns =
    let p : length (family F).params ≡ length F.params.items =
    length-map (terms F.params.items) (λ t. (𝟘, t)) ∙ length-map F.params.items term in
    let m : length (fam_sig f (family F)).motive ≡ length F.indices.items + 1 =
    length-append (index_binders 0 (terms F.indices.items)) ((ω, self_of f (family F)) ∷ [])
    ∙ ap (λ n. n + 1) (length-indices 0 (terms F.indices.items) ∙ length-map F.indices.items term) in
    let c : field_counts (con_sigs f (length (family F).params) 0 (map constructor F.constructors.items)) ≡
    fields_of F.constructors.items =
    sig-fields f (length (family F).params) 0 (map constructor F.constructors.items) ∙
    code-fields F.constructors.items in
    ap₂ (λ a b. a && b) (ap (eqb k) p)
    (ap₂ (λ a b. a && b) (ap (eqb (i + 1)) m ∙ eqb-one i (length F.indices.items)) (ap (same_counts ns) c))
  where
    code-fields : (cs : List code_constructor.Constructor) →
        map (λ c. length c.fields) (map constructor cs) ≡ fields_of cs
    code-fields [] = refl
    code-fields (c ∷ cs) = ap₂ (λ n ns. n ∷ ns) (length-map c.fields.items field) (code-fields cs)

-- ---- a component under binders
cond-or : (d f : Bool) → cond d true f ≡ (d || f)
cond-or true f = refl
cond-or false f = refl

pub unbound-unfit : {E : Env} {n : ℕ} (p : Part) (Θ : Tele) (b : Term) (us : List Mult) (r : Premise) →
    fits_within p b (binders_fit (mults_onto [] Θ) us) ≡ false →
    Fails E n (unbound p Θ b us r) r
unfolding unbound
unbound-unfit Part.erased Θ b us r e = absurd (cc e)
unbound-unfit Part.run Θ b us r e =
    fails_here _ (unmet _ _ (cond-or (is_dead b) (binders_fit (mults_onto [] Θ) us) ∙ e))

pub unbound-fit : {E : Env} {n : ℕ} (p : Part) (Θ : Tele) (b : Term) (us : List Mult) (r : Premise) →
    fits_within p b (binders_fit (mults_onto [] Θ) us) ≡ true →
    Reaches E n (unbound p Θ b us r) (drop (length Θ) us)
unfolding unbound
unbound-fit Part.erased Θ b us r e = on_done
unbound-fit Part.run Θ b us r e = on _ (holds _ _ (cond-or (is_dead b) (binders_fit (mults_onto [] Θ) us) ∙ e)) on_done

-- ---- uses that fit, from the newest binder on
mults-last : (qs : List Mult) (Θ : Tele) (b : Mult × Term) → mults_onto qs (Θ ++ b ∷ []) ≡ b.0 ∷ mults_onto qs Θ
mults-last qs [] b = refl
mults-last qs (c ∷ Θ) b = mults-last (c.0 ∷ qs) Θ b

and-assoc : (a b c : Bool) → ((a && b) && c) ≡ (a && (b && c))
and-assoc true b c = refl
and-assoc false b c = refl

drop-next : {A : Type 0} (k : ℕ) (xs ys : List A) (y : A) → y ∷ ys ≡ drop k xs → ys ≡ drop (k + 1) xs
drop-next k xs ys y e = let s : suc k ≡ k + 1 = omega arith in tail-of k xs ys y e ∙ ap (λ k. drop k xs) s
  where
    tail-of : {A : Type 0} (k : ℕ) (xs ys : List A) (y : A) → y ∷ ys ≡ drop k xs → ys ≡ drop (suc k) xs
    tail-of zero [] ys y e = absurd (cc e)
    tail-of zero (x ∷ xs) ys y e = cc e
    tail-of (suc k) [] ys y e = absurd (cc e)
    tail-of (suc k) (x ∷ xs) ys y e = tail-of k xs ys y e

-- the newest of the first n - k binders
newest-binder : (bs : List (Mult × code.Term)) (b : Mult × code.Term) (k : ℕ) → k < length bs →
    b ≡ get_or bs (length bs - 1 - k) b →
    mults_onto [] (tele (take (length bs - k) bs)) ≡ b.0 ∷ mults_onto [] (tele (take (length bs - (k + 1)) bs))
newest-binder bs b k h e =
    let s : length bs - k ≡ (length bs - 1 - k) + 1 = omega arith in
    let j : length bs - 1 - k ≡ length bs - (k + 1) = omega arith in
    let t : take (length bs - k) bs ≡ take (length bs - 1 - k) bs ++ b ∷ [] =
    ap (λ n. take n bs) s ∙ take_more bs (length bs - 1 - k) b (omega arith) ∙
    ap (λ x. take (length bs - 1 - k) bs ++ x ∷ []) (sym e) in
    ap (λ bs. mults_onto [] (tele bs)) t ∙ ap (mults_onto [])
    (map-append (λ b. (b.0, term b.1)) (take (length bs - 1 - k) bs) (b ∷ []))
    ∙ mults-last [] (tele (take (length bs - 1 - k) bs)) (b.0, term b.1) ∙
    ap (λ n. b.0 ∷ mults_onto [] (tele (take n bs))) j

pub fit-next : (bs : List (Mult × code.Term)) (b : Mult × code.Term) (k : ℕ) (us ws all : List Mult) (u : Mult)
    (fit more G : Bool) → k < length bs →
    b ≡ get_or bs (length bs - 1 - k) b → us ≡ u ∷ ws → us ≡ drop k all → more ≡ (fit && fits u b.0) →
    (fit && binders_fit (mults_onto [] (tele (take (length bs - k) bs))) us) ≡ G →
    ((more && binders_fit (mults_onto [] (tele (take (length bs - (k + 1)) bs))) ws) ≡ G) × (ws ≡ drop (k + 1) all)
fit-next bs b k us ws all u fit more G h e d a m so = (
  ap (λ x. x && binders_fit (mults_onto [] (tele (take (length bs - (k + 1)) bs))) ws) m
      ∙ and-assoc fit (fits u b.0) (binders_fit (mults_onto [] (tele (take (length bs - (k + 1)) bs))) ws)
      ∙ ap₂ (λ qs us. fit && binders_fit qs us) (sym (newest-binder bs b k h e)) (sym d) ∙ so,
  drop-next k all ws u (sym d ∙ a),
)

pub fit-all : (bs : List (Mult × code.Term)) (k : ℕ) (us all : List Mult) (fit G : Bool) → k ≡ length bs →
    us ≡ drop k all →
    (fit && binders_fit (mults_onto [] (tele (take (length bs - k) bs))) us) ≡ G →
    (fit ≡ G) × (us ≡ drop (length (tele bs)) all)
fit-all bs k us all fit G e d so =
    let z : length bs - k ≡ 0 = omega arith in (
      sym (and-true fit) ∙ ap (λ n. fit && binders_fit (mults_onto [] (tele (take n bs))) us) (sym z) ∙ so,
      d ∙ ap (λ n. drop n all) (e ∙ sym (length-map bs (λ b. (b.0, term b.1)))),
    )
  where
    and-true : (b : Bool) → (b && true) ≡ b
    and-true true = refl
    and-true false = refl
