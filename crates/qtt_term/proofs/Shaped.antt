-- The tests of shape on the components that lists make.
use Rattle.std.proofs.Common.{◌≡◌, ℕ, zero, suc, ◌+◌, ◌<◌, ◌≤◌, List, [], ◌∷◌, ◌++◌, map, length, drop, get_or, slice_get, Option, Some, None, option_map, Bool, true, false, ◌&&◌, eqb, refl, sym, ap, ◌∙◌, arith}
use mathlib.Core.Path.{ap₂}
use Rattle.std.proofs.Math.Bool.{and-true}
use Rattle.std.proofs.lemmas.Option.{slice_get-map}
use Rattle.std.proofs.lemmas.Bool.{eq-eqb, ne_eqb, eqb-true, eqb-false}
use Rattle.std.proofs.lemmas.Grind.{common_steps}
use Rattle.std.proofs.lemmas.List.{length-map, length-append, drop_all}
use Rattle.std.proofs.Math.Seq.{drop-cons}
use Rattle.std.proofs.Math.ListN.{get_or-map}
use Rattle.qtt_base.specs.declared.place.GlobalId.{GlobalId}
use Rattle.qtt_usage.specs.declared.mult.Mult.{Mult}
use Rattle.qtt_usage.specs.Mult.{𝟘, ω}
use Rattle.qtt_term.specs.declared.term.Term as code
use Rattle.qtt_term.specs.declared.term.Term.{the_lemmas}
use Rattle.qtt_term.specs.declared.term.Branch as code_branch
use Rattle.qtt_term.specs.declared.items.Constructor as code_constructor
use Rattle.qtt_term.specs.declared.items.Family as code_family
use Rattle.qtt_term.specs.Term.{Form, Term, Terms, node, ε, ◌▸◌, ◌+++◌, size}
use Rattle.qtt_term.specs.Each.{each, each_in}
use Rattle.qtt_term.specs.Signature.{Env, Family, family_of, Constructor, con_sigs, fam_sig, self_of, index_binders}
use Rattle.qtt_term.specs.Items.{family, constructor, field}
use Rattle.qtt_term.specs.Infer.{is_there, field_counts, case_shaped}
use Rattle.qtt_term.specs.Shape.{made_in_shape, form_in_shape, in_shape, all_in_shape}
use Rattle.qtt_term.specs.Question.{same_counts}
use Rattle.qtt_term.specs.View.{term, terms, branch, branches, side_by_side}

-- ---- how many there are
pub size_joined : (ts ss : Terms) → size (ts +++ ss) ≡ size ts + size ss
size_joined ε ss = omega arith
size_joined (t ▸ ts) ss = let e : size (ts +++ ss) ≡ size ts + size ss = size_joined ts ss in omega arith

pub size_side_by_side : (ts : List Term) → size (side_by_side ts) ≡ length ts
size_side_by_side [] = refl
size_side_by_side (t ∷ ts) = ap suc (size_side_by_side ts)

-- ---- what holds of each
and-assoc : (a b c : Bool) → (a && (b && c)) ≡ ((a && b) && c)
and-assoc true b c = refl
and-assoc false b c = refl

pub each_joined : (p : Form → ℕ → Bool) (ts ss : Terms) → each_in p (ts +++ ss) ≡ (each_in p ts && each_in p ss)
each_joined p ε ss = refl
each_joined p (t ▸ ts) ss =
    ap (λ b. each p t && b) (each_joined p ts ss) ∙ and-assoc (each p t) (each_in p ts) (each_in p ss)

pub each_appended : (p : Form → ℕ → Bool) (ts ss : List Term) →
    each_in p (side_by_side (ts ++ ss)) ≡ (each_in p (side_by_side ts) && each_in p (side_by_side ss))
each_appended p [] ss = refl
each_appended p (t ∷ ts) ss =
    ap (λ b. each p t && b) (each_appended p ts ss) ∙ and-assoc (each p t) (each_in p (side_by_side ts))
    (each_in p (side_by_side ss))

-- one that fails among others
pub each_at : {X : Type 0} (p : Form → ℕ → Bool) (f : X → Term) (xs : List X) (i : ℕ) (d : X) → i < length xs →
    each p (f (get_or xs i d)) ≡ false →
    each_in p (side_by_side (map f xs)) ≡ false
each_at p f [] i d l h = absurd (omega arith)
each_at p f (x ∷ xs) zero d l h = ap (λ b. b && each_in p (side_by_side (map f xs))) h
each_at p f (x ∷ xs) (suc i) d l h =
    ap (λ b. each p (f x) && b) (each_at p f xs i d (omega arith) h) ∙ and-false (each p (f x))
  where
    and-false : (b : Bool) → (b && false) ≡ false
    and-false true = refl
    and-false false = refl

pub branches_at : (p : Form → ℕ → Bool) (xs : List code_branch.Branch) (i : ℕ) (x : code_branch.Branch) →
    i < length xs → x ≡ get_or xs i x →
    each p (branch x).1 ≡ false → each_in p (side_by_side (map (λ b. b.1) (branches xs))) ≡ false
branches_at p xs i x l e h =
    let bs = branches xs in
    let in_range : i < length bs = omega (arith, length-map xs branch) in
    each_at p (λ b. b.1) bs i (branch x) in_range
    (ap (λ b. each p b.1) (get_or-map branch xs i x ∙ ap branch (sym e)) ∙ h)

-- ---- counts
counts-differ : (m n : ℕ) (ms ns : List ℕ) → (m ≡ n → ⊥) → same_counts (m ∷ ms) (n ∷ ns) ≡ false
counts-differ m n ms ns h = ap (λ b. b && same_counts ms ns) (ne_eqb m n h)

counts-lengths : (ms ns : List ℕ) → (length ms ≡ length ns → ⊥) → same_counts ms ns ≡ false
counts-lengths [] [] h = absurd (h refl)
counts-lengths [] (n ∷ ns) h = refl
counts-lengths (m ∷ ms) [] h = refl
counts-lengths (m ∷ ms) (n ∷ ns) h =
    ap (λ b. eqb m n && b) (counts-lengths ms ns (λ e. h (ap suc e))) ∙ and-false (eqb m n)
  where
    and-false : (b : Bool) → (b && false) ≡ false
    and-false true = refl
    and-false false = refl

abbrev pub binders_of : List code_branch.Branch → List ℕ
binders_of bs = map (λ b. b.0) (branches bs)

abbrev pub fields_of : List code_constructor.Constructor → List ℕ
fields_of cs = map (λ c. length c.fields.items) cs

counts-step : (bs : List code_branch.Branch) (cs : List code_constructor.Constructor) (k : ℕ)
    (x : code_branch.Branch) (y : code_constructor.Constructor) →
    k < length bs → k < length cs → x ≡ get_or bs k x → y ≡ get_or cs k y →
    same_counts (binders_of (drop k bs)) (fields_of (drop k cs))
    ≡ same_counts ((branch x).0 ∷ binders_of (drop (k + 1) bs)) (length y.fields.items ∷ fields_of (drop (k + 1) cs))
counts-step bs cs k x y h i d e =
    let s : suc k ≡ k + 1 = omega arith in
    ap₂ (λ bs cs. same_counts (binders_of bs) (fields_of cs))
    (drop-cons bs k x h ∙ ap₂ (λ x j. x ∷ drop j bs) (sym d) s)
    (drop-cons cs k y i ∙ ap₂ (λ y j. y ∷ drop j cs) (sym e) s)

-- the counts at a place are the same, or they differ there
pub counts-same : (bs : List code_branch.Branch) (cs : List code_constructor.Constructor) (k : ℕ)
    (x : code_branch.Branch) (y : code_constructor.Constructor) →
    k < length bs → k < length cs → x ≡ get_or bs k x → y ≡ get_or cs k y → (branch x).0 ≡ length y.fields.items →
    same_counts (binders_of (drop k bs)) (fields_of (drop k cs)) ≡ same_counts (binders_of (drop (k + 1) bs))
    (fields_of (drop (k + 1) cs))
counts-same bs cs k x y h i d e same =
    counts-step bs cs k x y h i d e
    ∙ ap (λ b. b && same_counts (binders_of (drop (k + 1) bs)) (fields_of (drop (k + 1) cs)))
    (eq-eqb (branch x).0 (length y.fields.items) same)

pub counts-apart : (bs : List code_branch.Branch) (cs : List code_constructor.Constructor) (k : ℕ)
    (x : code_branch.Branch) (y : code_constructor.Constructor) →
    k < length bs → k < length cs → x ≡ get_or bs k x → y ≡ get_or cs k y → ((branch x).0 ≡ length y.fields.items → ⊥) →
    same_counts (binders_of (drop k bs)) (fields_of (drop k cs)) ≡ false
counts-apart bs cs k x y h i d e apart =
    counts-step bs cs k x y h i d e ∙ counts-differ (branch x).0 (length y.fields.items)
    (binders_of (drop (k + 1) bs)) (fields_of (drop (k + 1) cs)) apart

pub counts-end : (bs : List code_branch.Branch) (cs : List code_constructor.Constructor) (k : ℕ) → length bs ≤ k →
    length cs ≤ k →
    same_counts (binders_of (drop k bs)) (fields_of (drop k cs)) ≡ true
counts-end bs cs k h i = ap₂ (λ bs cs. same_counts (binders_of bs) (fields_of cs)) (drop_all k bs h) (drop_all k cs i)

pub counts-unequal : (bs : List code_branch.Branch) (cs : List code_constructor.Constructor) →
    (length bs ≡ length cs → ⊥) →
    same_counts (binders_of bs) (fields_of cs) ≡ false
counts-unequal bs cs h =
    counts-lengths (binders_of bs) (fields_of cs)
    (λ e. h (sym (length-map (branches bs) (λ b. b.0) ∙ length-map bs branch) ∙ e ∙ length-map cs
    (λ c. length c.fields.items)))

-- ---- what the forms ask of the code's families
sig-fields : (f : GlobalId) (k n : ℕ) (cs : List Constructor) →
    field_counts (con_sigs f k n cs) ≡ map (λ c. length c.fields) cs
sig-fields f k n [] = refl
sig-fields f k n (c ∷ cs) = ap (λ ns. length c.fields ∷ ns) (sig-fields f k (suc n) cs)

code-fields : (cs : List code_constructor.Constructor) → map (λ c. length c.fields) (map constructor cs) ≡ fields_of cs
code-fields [] = refl
code-fields (c ∷ cs) = ap₂ (λ n ns. n ∷ ns) (length-map c.fields.items field) (code-fields cs)

length-indices : (n : ℕ) (ts : List Term) → length (index_binders n ts) ≡ length ts
length-indices n [] = refl
length-indices n (t ∷ ts) = ap suc (length-indices (suc n) ts)

same-test : (a b c d : ℕ) → (a ≡ b → c ≡ d) → (c ≡ d → a ≡ b) → eqb a b ≡ eqb c d
same-test a b c d f g = by_test (eqb c d) refl
  where
    by_test : (t : Bool) → eqb c d ≡ t → eqb a b ≡ eqb c d
    by_test true e = eq-eqb a b (g (eqb-true c d e)) ∙ sym e
    by_test false e = ne_eqb a b (λ h. eqb-false c d e (f h)) ∙ sym e

module _ (E : Env) (f : GlobalId) (F : code_family.Family) (there : E.family f ≡ Some (family F)) where
  params-are : length (family F).params ≡ length F.params.items
  params-are = length-map (terms F.params.items) (λ t. (𝟘, t)) ∙ length-map F.params.items term

  indices-are : length (family F).indices ≡ length F.indices.items
  indices-are = length-map F.indices.items term

  pub fam-there : (n : ℕ) → form_in_shape E (Form.fam f) n ≡ eqb n (length F.params.items + length F.indices.items)
  fam-there n =
      ap (λ (o : Option Family). is_there o && eqb n (length (family_of o).params + length (family_of o).indices)) there
      ∙ ap₂ (λ a b. eqb n (a + b)) params-are indices-are

  pub con-there : (c k n : ℕ) (o : Option code_constructor.Constructor) → slice_get F.constructors.items c ≡ o →
      form_in_shape E (Form.con f c k)
      (k + n) ≡ elim o [
        | None ↦ false
        | Some C ↦ eqb k (length F.params.items) && eqb n
            (length C.fields.items)
      ]
  con-there c k n o at =
      ap (λ (o : Option Family). made_in_shape (length (family_of o).params)
      (slice_get (family_of o).constructors c) k (k + n)) there
      ∙ ap₂ (λ p x. made_in_shape p x k (k + n)) params-are
      (slice_get-map constructor F.constructors.items c ∙ ap (option_map constructor) at) ∙ by_option o
    where
      by_option : (o : Option code_constructor.Constructor) →
          made_in_shape (length F.params.items) (option_map constructor o) k (k + n) ≡
          elim o [ None ↦ false | Some C ↦ eqb k (length F.params.items) && eqb n (length C.fields.items) ]
      by_option None = refl
      by_option (Some C) =
          ap (λ m. eqb k (length F.params.items) && eqb (k + n) (length F.params.items + m))
          (length-map C.fields.items field)
          ∙ by_test (eqb k (length F.params.items)) refl
        where
          by_test : (b : Bool) → eqb k (length F.params.items) ≡ b →
              eqb k (length F.params.items) && eqb (k + n) (length F.params.items + length C.fields.items) ≡ eqb k
              (length F.params.items) && eqb n (length C.fields.items)
          by_test true e =
              let same : k ≡ length F.params.items = eqb-true k (length F.params.items) e in
              ap (λ b. eqb k (length F.params.items) && b)
              (same-test (k + n) (length F.params.items + length C.fields.items) n (length C.fields.items)
              (λ h. omega arith) (λ h. omega arith))
          by_test false e =
              ap (λ b. b && eqb (k + n) (length F.params.items + length C.fields.items)) e ∙
              sym (ap (λ b. b && eqb n (length C.fields.items)) e)

  pub case-there : (q : Mult) (k i : ℕ) (ns : List ℕ) (n : ℕ) → n ≡ length ns →
      form_in_shape E (Form.case q f k (i + 1) ns) (k + (2 + n)) ≡
      (eqb k (length F.params.items) &&
      (eqb i (length F.indices.items) && same_counts ns (fields_of F.constructors.items)))
  case-there q k i ns n e =
      ap (λ (o : Option Family). is_there o && case_shaped (fam_sig f (family_of o)) k (i + 1) ns (k + (2 + n))) there
      ∙ ap₂ (λ a b. a && b) (ap (eqb k) params-are)
      (ap₂ (λ a b. a && b) (ap (eqb (i + 1)) motive ∙ same-test (i + 1) (length F.indices.items + 1) i
      (length F.indices.items) (λ h. omega arith) (λ h. omega arith))
      (ap₂ (λ a b. a && b) (ap (same_counts ns)
      (sig-fields f (length (family F).params) 0 (map constructor F.constructors.items) ∙
      code-fields F.constructors.items))
      (eq-eqb (k + (2 + n)) (k + (2 + length ns)) (omega arith)) ∙
      and-true (same_counts ns (fields_of F.constructors.items))))
    where
      motive : length (fam_sig f (family F)).motive ≡ length F.indices.items + 1
      motive =
          length-append (index_binders 0 (terms F.indices.items)) ((ω, self_of f (family F)) ∷ [])
          ∙ ap (λ n. n + 1) (length-indices 0 (terms F.indices.items) ∙ length-map F.indices.items term)

-- nothing is in shape where its family is not there
pub fam-absent : (E : Env) (f : GlobalId) (n : ℕ) → E.family f ≡ None → form_in_shape E (Form.fam f) n ≡ false
fam-absent E f n e = ap (λ (o : Option Family). is_there o && eqb n
    (length (family_of o).params + length (family_of o).indices)) e

pub con-absent : (E : Env) (f : GlobalId) (c k n : ℕ) → E.family f ≡ None → form_in_shape E (Form.con f c k) n ≡ false
con-absent E f c k n e = ap
    (λ (o : Option Family). made_in_shape (length (family_of o).params) (slice_get (family_of o).constructors c) k
    n) e

pub case-absent : (E : Env) (q : Mult) (f : GlobalId) (k m : ℕ) (ns : List ℕ) (n : ℕ) → E.family f ≡ None →
    form_in_shape E (Form.case q f k m ns) n ≡ false
case-absent E q f k m ns n e =
    ap (λ (o : Option Family). is_there o && case_shaped (fam_sig f (family_of o)) k m ns n) e

-- a Case, part by part
pub case-seen : (E : Env) (q : Mult) (f : GlobalId) (i : ℕ) (ps : List Term) (M : Term) (bs : List (ℕ × Term))
    (s : Term) →
    in_shape E (node (Form.case q f (length ps) (i + 1) (map (λ b. b.0) bs))
    (side_by_side ps +++ (M ▸ (side_by_side (map (λ b. b.1) bs) +++ (s ▸ ε)))))
    ≡ (form_in_shape E (Form.case 𝟘 f (length ps) (i + 1) (map (λ b. b.0) bs)) (length ps + (2 + length bs))
    && (all_in_shape E (side_by_side ps) &&
    (in_shape E M && (all_in_shape E (side_by_side (map (λ b. b.1) bs)) && in_shape E s))))
case-seen E q f i ps M bs s =
    let p = form_in_shape E in
    let cs = side_by_side (map (λ b. b.1) bs) in
    let counted : size (side_by_side ps +++ (M ▸ (cs +++ (s ▸ ε)))) ≡ length ps + (2 + length bs) =
    size_joined (side_by_side ps) (M ▸ (cs +++ (s ▸ ε)))
    ∙ ap₂ (λ a b. a + suc b) (size_side_by_side ps)
    (size_joined cs (s ▸ ε) ∙ ap (λ n. n + 1) (size_side_by_side (map (λ b. b.1) bs) ∙ length-map bs (λ b. b.1)))
    ∙ omega arith in
    ap₂ (λ n b. p (Form.case q f (length ps) (i + 1) (map (λ b. b.0) bs)) n && b) counted
    (each_joined p (side_by_side ps) (M ▸ (cs +++ (s ▸ ε)))
    ∙ ap (λ b. each_in p (side_by_side ps) && (each p M && b))
    (each_joined p cs (s ▸ ε) ∙ ap (λ b. each_in p cs && b) (and-true (each p s))))

-- what was tested of a Case, over the code's lists
pub case-counts : (E : Env) (f : GlobalId) (i n : ℕ) (ps : List code.Term) (xs ys : List code_branch.Branch) →
    n ≡ length ps → xs ≡ ys →
    form_in_shape E (Form.case 𝟘 f n (i + 1) (binders_of xs)) (n + (2 + length xs))
    ≡ form_in_shape E (Form.case 𝟘 f (length (terms ps)) (i + 1) (binders_of ys))
    (length (terms ps) + (2 + length (branches ys)))
case-counts E f i n ps xs ys e g =
    ap₂ (λ m zs. form_in_shape E (Form.case 𝟘 f m (i + 1) (binders_of zs)) (m + (2 + length zs)))
    (e ∙ sym (length-map ps term)) g
    ∙ ap (λ k. form_in_shape E (Form.case 𝟘 f (length (terms ps)) (i + 1) (binders_of ys))
    (length (terms ps) + (2 + k))) (sym (length-map ys branch))

-- two and five tests at once
pub two-tests : (a b c d : Bool) → a ≡ c → b ≡ d → (a && b) ≡ (c && (d && true))
two-tests a b c d e f = ap₂ (λ x y. x && y) e f ∙ sym (ap (λ x. c && x) (and-true d))

pub five-tests : (a b c d e v w x y z : Bool) → a ≡ v → b ≡ w → c ≡ x → d ≡ y → e ≡ z →
    (a && (b && (c && (d && e)))) ≡ (v && (w && (x && (y && z))))
five-tests a b c d e v w x y z f g h i j =
    ap₂ (λ p q. p && q) f (ap₂ (λ p q. p && q) g (ap₂ (λ p q. p && q) h (ap₂ (λ p q. p && q) i j)))

pub ruleset shaped = (
  the_lemmas,
  common_steps,
  length-map,
  and-true,
  branches_at,
  size_joined,
  size_side_by_side,
  each_joined,
  each_appended,
  each_at,
)
