-- The terms that trees are assembled to, with the right sides that leaves leave.
use Rattle.std.proofs.Common.{◌≡◌, ◌∙◌, ℕ, zero, suc, ◌+◌, ◌<◌, List, [], ◌∷◌, ◌++◌, length, get_or, map, take, drop, refl, sym, ap, arith, length-append}
use Rattle.std.proofs.lemmas.List.{map-append, take_more, drop-drop}
use Rattle.qtt_base.specs.declared.place.GlobalId.{GlobalId}
use Rattle.qtt_usage.specs.declared.mult.Mult.{Mult}
use Rattle.qtt_term.specs.declared.term.Term as code_term
use Rattle.qtt_term.specs.declared.term.Branch as code_case_branch
use Rattle.qtt_term.specs.Term.{Form, Term, Terms, var, node, ε, ◌▸◌, size, skip, ◌+++◌}
use Rattle.qtt_term.specs.View.{side_by_side, branch}
use Rattle.qtt_term.proofs.Binders.{side-joined}
use Rattle.qtt_term.proofs.Shaped.{size_side_by_side}
use Rattle.qtt_unify.specs.View.{all_terms}
use Rattle.qtt_split.specs.declared.tree.Branch as code_branch
use Rattle.qtt_split.specs.Tree.{Leaf, Splitting, Tree, Branches, leaves, all_leaves, lams, apps, field_counts, glue, glued}
use Rattle.qtt_split.specs.View.{Seen, in_order, branch_of, branches_of, branch_terms, split_to, BranchesGlued}

-- ---- components
pub skip-sides : (k : ℕ) (ts : List code_term.Term) → all_terms (drop k ts) ≡ skip k (all_terms ts)
skip-sides zero ts = refl
skip-sides (suc k) [] = refl
skip-sides (suc k) (t ∷ ts) = skip-sides k ts

pub joined-joined : (ts us vs : Terms) → (ts +++ us) +++ vs ≡ ts +++ (us +++ vs)
joined-joined ε us vs = refl
joined-joined (t ▸ ts) us vs = ap (λ xs. t ▸ xs) (joined-joined ts us vs)

-- ---- branches in order
-- one more behind
pub leaves-behind : (bs : List Seen) (b : Seen) →
    all_leaves (in_order (bs ++ b ∷ [])) ≡ all_leaves (in_order bs) ++ leaves b.tree
leaves-behind [] b = append-none (leaves b.tree)
  where
    append-none : (ls : List Leaf) → ls ++ [] ≡ [] ++ ls
    append-none [] = refl
    append-none (l ∷ ls) = ap (λ xs. l ∷ xs) (append-none ls)
leaves-behind (c ∷ bs) b =
    ap (λ ls. leaves c.tree ++ ls) (leaves-behind bs b) ∙
    sym (append-all (leaves c.tree) (all_leaves (in_order bs)) (leaves b.tree))
  where
    append-all : (xs ys zs : List Leaf) → (xs ++ ys) ++ zs ≡ xs ++ (ys ++ zs)
    append-all [] ys zs = refl
    append-all (x ∷ xs) ys zs = ap (λ ls. x ∷ ls) (append-all xs ys zs)

pub counts-behind : (bs : List Seen) (b : Seen) →
    field_counts (in_order (bs ++ b ∷ [])) ≡ field_counts (in_order bs) ++ b.fields ∷ []
counts-behind [] b = refl
counts-behind (c ∷ bs) b = ap (λ ns. c.fields ∷ ns) (counts-behind bs b)

skip-skip : (m n : ℕ) (ts : Terms) → skip n (skip m ts) ≡ skip (m + n) ts
skip-skip zero n ts = let e : 0 + n ≡ n = omega arith in ap (λ k. skip k ts) (sym e)
skip-skip (suc m) n ε = let e : suc m + n ≡ suc (m + n) = omega arith in skip-none n ∙ ap (λ k. skip k ε) (sym e)
  where
    skip-none : (k : ℕ) → skip k ε ≡ ε
    skip-none zero = refl
    skip-none (suc k) = refl
skip-skip (suc m) n (t ▸ ts) =
    let e : suc m + n ≡ suc (m + n) = omega arith in skip-skip m n ts ∙ ap (λ k. skip k (t ▸ ts)) (sym e)

pub glued-behind : (bs : List Seen) (b : Seen) (sides : Terms) →
    glued (in_order (bs ++ b ∷ [])) sides ε
    ≡ glued (in_order bs) sides ε +++ (lams b.again (glue b.tree (skip (length (all_leaves (in_order bs))) sides)) ▸ ε)
glued-behind [] b sides = refl
glued-behind (c ∷ bs) b sides =
    let n = length (leaves c.tree) in
    let k = length (all_leaves (in_order bs)) in
    let total : n + k ≡ length (leaves c.tree ++ all_leaves (in_order bs)) =
    sym (length-append (leaves c.tree) (all_leaves (in_order bs))) in
    ap (λ ts. lams c.again (glue c.tree sides) ▸ ts)
    (glued-behind bs b (skip n sides) ∙
    ap (λ ts. glued (in_order bs) (skip n sides) ε +++ (lams b.again (glue b.tree ts) ▸ ε))
    (skip-skip n k sides ∙ ap (λ m. skip m sides) total))

-- what stands behind the branches
pub glued-joined : (bs : Branches) (sides ts : Terms) → glued bs sides ts ≡ glued bs sides ε +++ ts
glued-joined Branches.no_branch sides ts = refl
glued-joined (Branches.branch_and n again T bs) sides ts =
    ap (λ us. lams again (glue T sides) ▸ us) (glued-joined bs (skip (length (leaves T)) sides) ts)

-- the Case of a split
pub split-glued : (s : Splitting) (bs : Branches) (sides : Terms) (made : List code_case_branch.Branch) →
    BranchesGlued bs sides made → split_to s (branch_terms made) ≡ glue (Tree.split s bs) sides
split-glued s bs sides made h =
    ap (λ ns. apps (node (Form.case s.mult s.family (size s.params) (suc s.indices) ns)
    (s.params +++ (s.motive ▸ (side_by_side (map (λ b. b.1) (branch_terms made)) +++ (var s.variable ▸ ε)))))
    s.reverted) h.counts ∙
    ap (λ ts. apps (node (Form.case s.mult s.family (size s.params) (suc s.indices) (field_counts bs))
    (s.params +++ (s.motive ▸ ts))) s.reverted)
    (ap (λ ts. ts +++ (var s.variable ▸ ε)) h.parts ∙ sym (glued-joined bs sides (var s.variable ▸ ε)))

-- the same Case, from its components
pub case-made : (q : Mult) (f : GlobalId) (ps qs : List Term) (i v : ℕ) (M N : Term) (bs : List (ℕ × Term)) →
    ps ≡ qs → M ≡ N →
    node (Form.case q f (length ps) (i + 1) (map (λ b. b.0) bs))
    (side_by_side ps +++ (M ▸ (side_by_side (map (λ b. b.1) bs) +++ (var v ▸ ε))))
    ≡ node (Form.case q f (size (side_by_side qs)) (suc i) (map (λ b. b.0) bs))
    (side_by_side qs +++ (N ▸ (side_by_side (map (λ b. b.1) bs) +++ (var v ▸ ε))))
case-made q f ps qs i v M N bs d e =
    let n : length ps ≡ size (side_by_side qs) = ap length d ∙ sym (size_side_by_side qs) in
    let s : i + 1 ≡ suc i = omega arith in
    ap (λ k. node (Form.case q f k (i + 1) (map (λ b. b.0) bs))
    (side_by_side ps +++ (M ▸ (side_by_side (map (λ b. b.1) bs) +++ (var v ▸ ε))))) n ∙
    ap (λ k. node (Form.case q f (size (side_by_side qs)) k (map (λ b. b.0) bs))
    (side_by_side ps +++ (M ▸ (side_by_side (map (λ b. b.1) bs) +++ (var v ▸ ε))))) s ∙
    ap (λ xs. node (Form.case q f (size (side_by_side qs)) (suc i) (map (λ b. b.0) bs))
    (side_by_side xs +++ (M ▸ (side_by_side (map (λ b. b.1) bs) +++ (var v ▸ ε))))) d ∙
    ap (λ t. node (Form.case q f (size (side_by_side qs)) (suc i) (map (λ b. b.0) bs))
    (side_by_side qs +++ (t ▸ (side_by_side (map (λ b. b.1) bs) +++ (var v ▸ ε))))) e

-- ---- through branches
pub record GluedSoFar (bs : List code_branch.Branch) (sides : List code_term.Term) (i : ℕ)
    (made : List code_case_branch.Branch) (behind : List code_term.Term) : Type 0 where
  pub branches : BranchesGlued (branches_of (take i bs)) (all_terms sides) made
  pub rest : behind ≡ drop (length (all_leaves (branches_of (take i bs)))) sides

pub none-glued : (bs : List code_branch.Branch) (sides : List code_term.Term) → GluedSoFar bs sides 0 [] sides
none-glued bs sides = record { branches = record { counts = refl; parts = refl }; rest = refl }

taken : (bs : List code_branch.Branch) (i : ℕ) (b : code_branch.Branch) → i < length bs → b ≡ get_or bs i b →
    map branch_of (take (i + 1) bs) ≡ map branch_of (take i bs) ++ branch_of b ∷ []
taken bs i b h e =
    ap (map branch_of) (take_more bs i b h ∙ ap (λ x. take i bs ++ x ∷ []) (sym e)) ∙
    map-append branch_of (take i bs) (b ∷ [])

-- one branch more
pub record OneGlued (b : code_branch.Branch) (behind after : List code_term.Term) (t : Term)
    (made : code_case_branch.Branch) : Type 0 where
  pub term : t ≡ glue (branch_of b).tree (all_terms behind)
  pub rest : after ≡ drop (length (leaves (branch_of b).tree)) behind
  pub branch : branch made ≡ ((branch_of b).fields, lams (branch_of b).again t)

pub one-glued : (bs : List code_branch.Branch) (sides behind after : List code_term.Term) (i : ℕ)
    (b : code_branch.Branch) (t : Term) (one : code_case_branch.Branch) (made : List code_case_branch.Branch) →
    i < length bs → b ≡ get_or bs i b → OneGlued b behind after t one → GluedSoFar bs sides i made behind →
    GluedSoFar bs sides (i + 1) (made ++ one ∷ []) after
one-glued bs sides behind after i b t one made h e o so =
    let ts = map branch_of (take i bs) in
    let x = branch_of b in
    let n = length (all_leaves (in_order ts)) in
    let more : branches_of (take (i + 1) bs) ≡ in_order (ts ++ x ∷ []) = ap in_order (taken bs i b h e) in
    let pairs : branch_terms (made ++ one ∷ []) ≡ branch_terms made ++ (x.fields, lams x.again t) ∷ [] =
    map-append branch made (one ∷ []) ∙ ap (λ y. branch_terms made ++ y ∷ []) o.branch in
    let behind_terms : all_terms behind ≡ skip n (all_terms sides) = ap all_terms so.rest ∙ skip-sides n sides in
    record {
      branches = record {
        counts =
            ap (map (λ b. b.0)) pairs ∙ map-append (λ b. b.0) (branch_terms made) ((x.fields, lams x.again t) ∷ []) ∙
            ap (λ ns. ns ++ x.fields ∷ []) so.branches.counts ∙ sym (counts-behind ts x) ∙ ap field_counts (sym more);
        parts =
            ap (λ ps. side_by_side (map (λ b. b.1) ps)) pairs ∙
            ap side_by_side (map-append (λ b. b.1) (branch_terms made) ((x.fields, lams x.again t) ∷ [])) ∙
            side-joined (map (λ b. b.1) (branch_terms made)) (lams x.again t ∷ []) ∙
            ap (λ us. us +++ (lams x.again t ▸ ε)) so.branches.parts ∙
            ap (λ u. glued (in_order ts) (all_terms sides) ε +++ (lams x.again u ▸ ε))
            (o.term ∙ ap (glue x.tree) behind_terms) ∙
            sym (glued-behind ts x (all_terms sides)) ∙ ap (λ cs. glued cs (all_terms sides) ε) (sym more);
      };
      rest =
          o.rest ∙ ap (drop (length (leaves x.tree))) so.rest ∙ drop-drop (length (leaves x.tree)) n sides ∙
          ap (λ k. drop k sides)
          (sym (length-append (all_leaves (in_order ts)) (leaves x.tree)) ∙ ap length (sym (leaves-behind ts x)) ∙
          ap (λ cs. length (all_leaves cs)) (sym more));
    }
