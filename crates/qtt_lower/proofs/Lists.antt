-- The code of a term's components, by the words of the code's lists.
use Rattle.std.proofs.Common.{◌≡◌, ℕ, zero, suc, ◌+◌, ◌-◌, ◌<◌, List, [], ◌∷◌, ◌++◌, length, map, drop, get_or, refl, ◌∙◌, ap, subst, arith, append_assoc}
use mathlib.Core.Path.{ap₂}
use Rattle.std.proofs.lemmas.List.{append-nil}
use Rattle.std.proofs.lemmas.Grind.{common_steps}
use Rattle.qtt_base.specs.declared.place.GlobalId.{GlobalId}
use Rattle.qtt_prims.specs.declared.prim.Primitive.{Primitive}
use Rattle.qtt_term.specs.Term.{Action}
use Rattle.qtt_erase.specs.Binding.{Tree, ∅, ◌◂◌, ◌◂◂◌, size}
use Rattle.qtt_erase.specs.Operator.{Operator, App, Force, Con, Call, Act}
use Rattle.qtt_erase.specs.View.{side_by_side}
use Rattle.qtt_closure.specs.declared.flat.FlatTerm as flat_lemmas
use Rattle.qtt_closure.specs.Flat.{Closure, FlatTerm, FlatTerms}
use Rattle.qtt_closure.specs.Conversion.{closure_at}
use Rattle.qtt_code.specs.Instruction.{Position, Instr}
use Rattle.qtt_lower.specs.Lowering.{given, own, branches, branches_from, joins, given_width, join_width, width, widths, branch_widths, branch_places, code, operands, branch_codes}
use Rattle.qtt_lower.specs.Lowered.{all_width, all_code, field_counts, branch_width, branches_width, branches_places, branches_code, switch_code}
use Rattle.qtt_lower.proofs.Parts.{joins-length}

no_more : (n : ℕ) → n + 0 ≡ n
no_more n = omega arith

-- ---- widths
pub list_widths : (ts : List FlatTerm) → widths 0 (side_by_side ts) ≡ all_width ts
list_widths [] = refl
list_widths (t ∷ ts) = ap (λ n. width Position.inner t + n) (list_widths ts)

abbrev pub case_components : List (ℕ × FlatTerm) → FlatTerm → FlatTerms
case_components bs s = side_by_side (map (λ b. b.1) bs) ◂◂ s ◂ ∅

abbrev pub case_of : List (ℕ × FlatTerm) → FlatTerm → FlatTerm
case_of bs s = Tree.node (Operator.case (field_counts bs)) (case_components bs s)

scrutinee-width : (bs : List (ℕ × FlatTerm)) (s : FlatTerm) →
    widths (length (field_counts bs)) (case_components bs s) ≡ width Position.inner s
scrutinee-width [] s = no_more (width Position.inner s)
scrutinee-width (b ∷ bs) s = scrutinee-width bs s

case-widths : (o : Position) (bs : List (ℕ × FlatTerm)) (s : FlatTerm) →
    branch_widths o (field_counts bs) (case_components bs s) ≡ branches_width o bs
case-widths o [] s = refl
case-widths o (b ∷ bs) s = ap (λ n. branch_width o b bs + n) (case-widths o bs s)

-- of an operator without branches
plain : (o : Position) (ts : List FlatTerm) (n : ℕ) → widths 0 (side_by_side ts) + n + 0 ≡ all_width ts + n
plain o ts n = let p = list_widths ts in omega (arith, p)

module _ (o : Position) where
  pub closure_width : (n : ℕ) (ts : List FlatTerm) →
      width o (closure_at n (side_by_side ts)) ≡ all_width ts + given_width o
  closure_width n ts = plain o ts (given_width o)

  pub con_width : (c : ℕ) (ts : List FlatTerm) → width o (Con c (side_by_side ts)) ≡ all_width ts + given_width o
  con_width c ts = plain o ts (given_width o)

  pub call_width : (p : Primitive) (ts : List FlatTerm) →
      width o (Call p (side_by_side ts)) ≡ all_width ts + given_width o
  call_width p ts = plain o ts (given_width o)

  pub act_width : (a : Action) (ts : List FlatTerm) → width o (Act a (side_by_side ts)) ≡ all_width ts + given_width o
  act_width a ts = plain o ts (given_width o)

  pub app_width : (f a : FlatTerm) → width o (App f a) ≡ width Position.inner f + width Position.inner a + 1
  app_width f a = omega arith

  pub force_width : (f : FlatTerm) → width o (Force f) ≡ width Position.inner f + 1
  force_width f = omega arith

  pub case_width : (bs : List (ℕ × FlatTerm)) (s : FlatTerm) →
      width o (case_of bs s) ≡ width Position.inner s + 1 + branches_width o bs
  case_width bs s = ap₂ (λ m n. m + 1 + n) (scrutinee-width bs s) (case-widths o bs s)

-- ---- along lists
next_branch : {X : Type 0} (f : X → ℕ × FlatTerm) (o : Position) (bs : List X) (k : ℕ) (d : X) → k < length bs →
    branches_width o (map f (drop k bs)) ≡ branch_width o (f (get_or bs k d))
    (map f (drop (suc k) bs)) + branches_width o (map f (drop (suc k) bs))
next_branch f o [] k d h = absurd (omega arith)
next_branch f o (b ∷ bs) zero d h = refl
next_branch f o (b ∷ bs) (suc k) d h = next_branch f o bs k d (omega arith)

next_place : {X : Type 0} (f : X → ℕ × FlatTerm) (o : Position) (p : ℕ) (bs : List X) (k : ℕ) (d : X) → k < length bs →
    branches_places o p (map f (drop k bs)) ≡ p ∷ branches_places o
    (p + branch_width o (f (get_or bs k d)) (map f (drop (suc k) bs))) (map f (drop (suc k) bs))
next_place f o p [] k d h = absurd (omega arith)
next_place f o p (b ∷ bs) zero d h = refl
next_place f o p (b ∷ bs) (suc k) d h = next_place f o p bs k d (omega arith)

pub one_more_width : {X : Type 0} (f : X → ℕ × FlatTerm) (o : Position) (bs : List X) (k : ℕ) (d : X) → k < length bs →
    branches_width o (map f (drop k bs)) ≡ branch_width o (f (get_or bs k d))
    (map f (drop (k + 1) bs)) + branches_width o (map f (drop (k + 1) bs))
one_more_width f o bs k d h =
    let e : suc k ≡ k + 1 = omega arith in
    subst (λ n. branches_width o (map f (drop k bs)) ≡ branch_width o (f (get_or bs k d))
    (map f (drop n bs)) + branches_width o (map f (drop n bs))) e (next_branch f o bs k d h)

pub one_more_place : {X : Type 0} (f : X → ℕ × FlatTerm) (o : Position) (p : ℕ) (bs : List X) (k : ℕ) (d : X) →
    k < length bs →
    branches_places o p (map f (drop k bs)) ≡ p ∷ branches_places o
    (p + branch_width o (f (get_or bs k d)) (map f (drop (k + 1) bs))) (map f (drop (k + 1) bs))
one_more_place f o p bs k d h =
    let e : suc k ≡ k + 1 = omega arith in
    subst (λ n. branches_places o p (map f (drop k bs)) ≡ p ∷ branches_places o
    (p + branch_width o (f (get_or bs k d)) (map f (drop n bs))) (map f (drop n bs))) e
    (next_place f o p bs k d h)

-- what the functions that count want
pub ruleset widths_of_forms = (
  flat_lemmas.the_lemmas,
  common_steps,
  list_widths,
  closure_width,
  con_width,
  call_width,
  act_width,
  app_width,
  force_width,
  case_width,
  one_more_width,
  one_more_place,
)

-- ---- codes
pub list_operands : (e : GlobalId → ℕ) (c d p : ℕ) (ts : List FlatTerm) →
    operands e c d p 0 (side_by_side ts) ≡ all_code e c d p ts
list_operands e c d p [] = refl
list_operands e c d p (t ∷ ts) =
    ap (λ is. code e c Position.inner d p t ++ is) (list_operands e c d (p + width Position.inner t) ts)

scrutinee-operands : (e : GlobalId → ℕ) (c d p : ℕ) (bs : List (ℕ × FlatTerm)) (s : FlatTerm) →
    operands e c d p (length (field_counts bs)) (case_components bs s) ≡ code e c Position.inner d p s
scrutinee-operands e c d p [] s = append-nil (code e c Position.inner d p s)
scrutinee-operands e c d p (b ∷ bs) s = scrutinee-operands e c d p bs s

case-places : (o : Position) (p : ℕ) (bs : List (ℕ × FlatTerm)) (s : FlatTerm) →
    branch_places o p (field_counts bs) (case_components bs s) ≡ branches_places o p bs
case-places o p [] s = refl
case-places o p (b ∷ bs) s =
    let e : p + width o b.1 + join_width o b.0 (field_counts bs) ≡ p + branch_width o b bs = omega arith in
    ap (λ n. p ∷ branch_places o n (field_counts bs) (case_components bs s)) e ∙ ap (λ qs. p ∷ qs)
    (case-places o (p + branch_width o b bs) bs s)

case-codes : (e : GlobalId → ℕ) (c : ℕ) (o : Position) (d p end : ℕ) (bs : List (ℕ × FlatTerm)) (s : FlatTerm) →
    branch_codes e c o d p end (field_counts bs) (case_components bs s) ≡ branches_code e c o d p end bs
case-codes e c o d p end [] s = refl
case-codes e c o d p end (b ∷ bs) s =
    let q : p + width o b.1 + join_width o b.0 (field_counts bs) ≡ p + branch_width o b bs = omega arith in
    ap (λ n. code e c o (b.0 + d) p b.1 ++ joins o b.0 (field_counts bs) end ++ branch_codes e c o d n end
    (field_counts bs) (case_components bs s)) q
    ∙ ap (λ is. code e c o (b.0 + d) p b.1 ++ joins o b.0 (field_counts bs) end ++ is)
    (case-codes e c o d (p + branch_width o b bs) end bs s)

pub side_size : (ts : List FlatTerm) → size (side_by_side ts) ≡ length ts
side_size [] = refl
side_size (t ∷ ts) = ap suc (side_size ts)

module _ (e : GlobalId → ℕ) (c : ℕ) (o : Position) (d p : ℕ) where
  plain_code : (ts : List FlatTerm) (i : ℕ → List Instr) →
      (operands e c d p 0 (side_by_side ts) ++ i (size (side_by_side ts))) ++ [] ≡ all_code e c d p ts ++ i (length ts)
  plain_code ts i = append-nil (operands e c d p 0 (side_by_side ts) ++ i (size (side_by_side ts))) ∙
      ap₂ (λ is n. is ++ i n) (list_operands e c d p ts) (side_size ts)

  pub closure_code : (n : ℕ) (ts : List FlatTerm) →
      code e c o d p (closure_at n (side_by_side ts)) ≡ all_code e c d p ts ++ given o
      (Instr.closure n (length ts))
  closure_code n ts = plain_code ts (λ k. given o (Instr.closure n k))

  pub con_code : (g : ℕ) (ts : List FlatTerm) →
      code e c o d p (Con g (side_by_side ts)) ≡ all_code e c d p ts ++ given o (Instr.con g (length ts))
  con_code g ts = plain_code ts (λ k. given o (Instr.con g k))

  pub call_code : (q : Primitive) (ts : List FlatTerm) →
      code e c o d p (Call q (side_by_side ts)) ≡ all_code e c d p ts ++ given o (Instr.prim q)
  call_code q ts = plain_code ts (λ k. given o (Instr.prim q))

  pub act_code : (a : Action) (ts : List FlatTerm) →
      code e c o d p (Act a (side_by_side ts)) ≡ all_code e c d p ts ++ given o (Instr.action a (length ts))
  act_code a ts = plain_code ts (λ k. given o (Instr.action a k))

  pub app_code : (f a : FlatTerm) → code e c o d p (App f a)
      ≡ (code e c Position.inner d p f ++ code e c Position.inner d (p + width Position.inner f) a) ++ Instr.call o ∷ []
  app_code f a =
      append-nil ((code e c Position.inner d p f ++
      (code e c Position.inner d (p + width Position.inner f) a ++ [])) ++ Instr.call o ∷ [])
      ∙ ap (λ is. (code e c Position.inner d p f ++ is) ++ Instr.call o ∷ [])
      (append-nil (code e c Position.inner d (p + width Position.inner f) a))

  pub force_code : (f : FlatTerm) → code e c o d p (Force f) ≡ code e c Position.inner d p f ++ Instr.force o ∷ []
  force_code f =
      append-nil ((code e c Position.inner d p f ++ []) ++ Instr.force o ∷ []) ∙
      ap (λ is. is ++ Instr.force o ∷ []) (append-nil (code e c Position.inner d p f))

  pub leaf_code : (F : Operator Closure) → branches F ≡ [] → code e c o d p (Tree.node F ∅) ≡ own e o F 0 []
  leaf_code F h = ap (λ ns. leaf ns) h ∙ append-nil (own e o F 0 [])
    where
      leaf : List ℕ → List Instr
      leaf ns = own e o F 0 (branch_places o (branches_from o p F ∅) ns ∅) ++ branch_codes e c o d
          (branches_from o p F ∅) (p + width o (Tree.node F ∅)) ns ∅

  pub case_code : (bs : List (ℕ × FlatTerm)) (s : FlatTerm) → code e c o d p (case_of bs s)
      ≡ code e c Position.inner d p s ++ switch_code e c o d (p + width Position.inner s + 1) bs
  case_code bs s =
      let w = scrutinee-width bs s in
      let q : p + widths (length (field_counts bs)) (case_components bs s) + 1 ≡ p + width Position.inner s + 1 =
      omega (arith, w) in
      let r : p + width o (case_of bs s) ≡ p + width Position.inner s + 1 + branches_width o bs = let v =
      case_width o bs s in omega (arith, v) in
      ap₂ (λ x y. operands e c d p (length (field_counts bs)) (case_components bs s) ++ Instr.switch
      (branch_places o x (field_counts bs) (case_components bs s)) ∷ []
      ++ branch_codes e c o d x y (field_counts bs) (case_components bs s)) q r
      ∙ append_assoc (operands e c d p (length (field_counts bs)) (case_components bs s)) _ _
      ∙ ap₂ ◌++◌ (scrutinee-operands e c d p bs s)
      (ap₂ (λ qs is. Instr.switch qs ∷ is) (case-places o (p + width Position.inner s + 1) bs s)
      (case-codes e c o d (p + width Position.inner s + 1)
      (p + width Position.inner s + 1 + branches_width o bs) bs s))

-- ---- along lists
next_code : {X : Type 0} (f : X → ℕ × FlatTerm) (e : GlobalId → ℕ) (c : ℕ) (o : Position) (d p end : ℕ)
    (bs : List X) (k : ℕ) (x : X) → k < length bs →
    branches_code e c o d p end (map f (drop k bs))
    ≡ code e c o ((f (get_or bs k x)).0 + d) p (f (get_or bs k x)).1 ++ joins o (f (get_or bs k x)).0
    (field_counts (map f (drop (suc k) bs))) end
    ++ branches_code e c o d (p + branch_width o (f (get_or bs k x)) (map f (drop (suc k) bs))) end
    (map f (drop (suc k) bs))
next_code f e c o d p end [] k x h = absurd (omega arith)
next_code f e c o d p end (b ∷ bs) zero x h = refl
next_code f e c o d p end (b ∷ bs) (suc k) x h = next_code f e c o d p end bs k x (omega arith)

pub one_more_code : {X : Type 0} (f : X → ℕ × FlatTerm) (e : GlobalId → ℕ) (c : ℕ) (o : Position) (d p end : ℕ)
    (bs : List X) (k : ℕ) (x : X) → k < length bs →
    branches_code e c o d p end (map f (drop k bs))
    ≡ code e c o ((f (get_or bs k x)).0 + d) p (f (get_or bs k x)).1 ++ joins o (f (get_or bs k x)).0
    (field_counts (map f (drop (k + 1) bs))) end
    ++ branches_code e c o d (p + branch_width o (f (get_or bs k x)) (map f (drop (k + 1) bs))) end
    (map f (drop (k + 1) bs))
one_more_code f e c o d p end bs k x h =
    let q : suc k ≡ k + 1 = omega arith in
    subst (λ n. branches_code e c o d p end (map f (drop k bs))
    ≡ code e c o ((f (get_or bs k x)).0 + d) p (f (get_or bs k x)).1 ++ joins o (f (get_or bs k x)).0
    (field_counts (map f (drop n bs))) end
    ++ branches_code e c o d (p + branch_width o (f (get_or bs k x)) (map f (drop n bs))) end (map f (drop n bs)))
    q (next_code f e c o d p end bs k x h)

-- what the functions that lower want
pub ruleset codes_of_forms = (
  widths_of_forms,
  append_assoc,
  append-nil,
  list_operands,
  side_size,
  closure_code,
  con_code,
  call_code,
  act_code,
  app_code,
  force_code,
  case_code,
  one_more_code,
  joins-length,
)
