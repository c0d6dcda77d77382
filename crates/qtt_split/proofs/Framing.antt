-- Cases on constructors of targets, and what they are around.
use Rattle.std.proofs.Common.{◌≡◌, ◌∙◌, ℕ, suc, ◌+◌, ◌<◌, ◌≤◌, List, [], ◌∷◌, ◌++◌, length, get_or, map, drop, refl, sym, ap, arith, append_assoc, append-nil}
use Rattle.std.proofs.lemmas.List.{map-append, drop_more, drop_all}
use Rattle.qtt_usage.specs.Mult.{𝟘}
use Rattle.qtt_term.specs.declared.term.Branch as code_branch
use Rattle.qtt_term.specs.declared.items.Constructor as code_constructor
use Rattle.qtt_term.specs.Term.{Form, Term, Terms, var, node, ε, ◌▸◌, size, ◌+++◌, Sort, Pi, App}
use Rattle.qtt_term.specs.Signature.{Constructor, family_at}
use Rattle.qtt_term.specs.Items as items
use Rattle.qtt_term.specs.View.{branch, branches, side_by_side}
use Rattle.qtt_term.proofs.Binders.{side-joined}
use Rattle.qtt_split.specs.Motive.{Aim, first_place, scrutinee_type, indices_with, index_branches, field_counts}
use Rattle.qtt_split.specs.Ways.{Frame, case_in, branch_in, wrapped}
use Rattle.qtt_split.specs.Branch.{raised}
use Rattle.qtt_split.proofs.Gluing.{joined-joined}
use Rattle.qtt_split.proofs.Waying.{none-behind}

-- the branches of a frame, from constructor c on, and ts behind them
abbrev pub branches_from : Aim → Frame → Term → ℕ → List Constructor → Terms → Terms
branches_from a f b c ds ts = index_branches a f.way f.con.family f.params f.con.place (λ n con w. b) c ds ts

branches-behind : (a : Aim) (f : Frame) (b : Term) (c : ℕ) (ds : List Constructor) (ts : Terms) →
    branches_from a f b c ds ε +++ ts ≡ branches_from a f b c ds ts
branches-behind a f b c [] ts = refl
branches-behind a f b c (d ∷ ds) ts =
    ap (λ us. branch_in a f b c (length d.fields) ▸ us) (branches-behind a f b (suc c) ds ts)

-- ---- branch by branch
abbrev counts_of : List code_branch.Branch → List ℕ
counts_of bs = map (λ b. b.0) (branches bs)

abbrev bodies_of : List code_branch.Branch → Terms
bodies_of bs = side_by_side (map (λ b. b.1) (branches bs))

pub record BranchesSoFar (a : Aim) (f : Frame) (b : Term) (ds : List code_constructor.Constructor) (i : ℕ)
    (done : List code_branch.Branch) : Type 0 where
  pub counts : field_counts (map items.constructor ds)
      ≡ counts_of done ++ field_counts (map items.constructor (drop i ds))
  pub parts : branches_from a f b 0 (map items.constructor ds) ε
      ≡ bodies_of done +++ branches_from a f b i (map items.constructor (drop i ds)) ε

pub no-branch : (a : Aim) (f : Frame) (b : Term) (ds : List code_constructor.Constructor) →
    BranchesSoFar a f b ds 0 []
no-branch a f b ds = record { counts = refl; parts = refl }

pub one-branch : (a : Aim) (f : Frame) (b : Term) (ds : List code_constructor.Constructor) (i : ℕ)
    (done : List code_branch.Branch) (d : code_constructor.Constructor) (x : code_branch.Branch) (n : ℕ) →
    i < length ds → d ≡ get_or ds i d → n ≡ length (items.constructor d).fields →
    branch x ≡ (n, branch_in a f b i n) → BranchesSoFar a f b ds i done →
    BranchesSoFar a f b ds (i + 1) (done ++ x ∷ [])
one-branch a f b ds i done d x n h e m t so =
    let left : drop i ds ≡ d ∷ drop (i + 1) ds = drop_more ds i d h ∙ ap (λ y. y ∷ drop (i + 1) ds) (sym e) in
    let next : suc i ≡ i + 1 = omega arith in
    let rest = map items.constructor (drop (i + 1) ds) in
    let more = branches_from a f b (i + 1) rest ε in
    let now : branches (done ++ x ∷ []) ≡ branches done ++ (n, branch_in a f b i n) ∷ [] =
    map-append branch done (x ∷ []) ∙ ap (λ y. branches done ++ y ∷ []) t in
    record {
      counts =
          so.counts ∙
          ap (λ ns. counts_of done ++ ns)
          (ap (λ ys. field_counts (map items.constructor ys)) left ∙ ap (λ k. k ∷ field_counts rest) (sym m)) ∙
          sym (append_assoc (counts_of done) (n ∷ []) (field_counts rest)) ∙
          ap (λ ns. ns ++ field_counts rest)
          (sym (ap (map (λ y. y.0)) now ∙ map-append (λ y. y.0) (branches done) ((n, branch_in a f b i n) ∷ [])));
      parts =
          so.parts ∙
          ap (λ ts. bodies_of done +++ ts)
          (ap (λ ys. branches_from a f b i (map items.constructor ys) ε) left ∙
          ap (λ k. branch_in a f b i k ▸ branches_from a f b (suc i) rest ε) (sym m) ∙
          ap (λ k. branch_in a f b i n ▸ branches_from a f b k rest ε) next) ∙
          sym (joined-joined (bodies_of done) (branch_in a f b i n ▸ ε) more) ∙
          ap (λ ts. ts +++ more)
          (sym (ap (λ ys. side_by_side (map (λ y. y.1) ys)) now ∙
          ap side_by_side (map-append (λ y. y.1) (branches done) ((n, branch_in a f b i n) ∷ [])) ∙
          side-joined (map (λ y. y.1) (branches done)) (branch_in a f b i n ∷ [])));
    }

pub all-counts : (a : Aim) (f : Frame) (b : Term) (ds : List code_constructor.Constructor) (i : ℕ)
    (done : List code_branch.Branch) → length ds ≤ i → BranchesSoFar a f b ds i done →
    counts_of done ≡ field_counts (map items.constructor ds)
all-counts a f b ds i done h so =
    sym (so.counts ∙
    ap (λ ys. counts_of done ++ field_counts (map items.constructor ys)) (drop_all i ds h) ∙
    append-nil (counts_of done))

pub all-bodies : (a : Aim) (f : Frame) (b : Term) (ds : List code_constructor.Constructor) (i : ℕ)
    (done : List code_branch.Branch) → length ds ≤ i → BranchesSoFar a f b ds i done →
    bodies_of done ≡ branches_from a f b 0 (map items.constructor ds) ε
all-bodies a f b ds i done h so =
    sym (so.parts ∙
    ap (λ ys. bodies_of done +++ branches_from a f b i (map items.constructor ys) ε) (drop_all i ds h) ∙
    none-behind (bodies_of done))

-- ---- the Case, from its components
pub case-seen : (a : Aim) (f : Frame) (b : Term) (k : ℕ) (ps : Terms) (A : Term) (ns : List ℕ) (bs : Terms) →
    k ≡ size f.params → ps ≡ raised f.way.depth f.params →
    A ≡ scrutinee_type a.family a.params (suc f.way.depth) (indices_with 1 (var 0) f.way) →
    ns ≡ field_counts (family_at a.env f.con.family).constructors →
    bs ≡ branches_from a f b 0 (family_at a.env f.con.family).constructors ε →
    App 𝟘 (node (Form.case 𝟘 f.con.family k 1 ns)
    (ps +++ (Pi 𝟘 A (Sort a.level) ▸ (bs +++ (var (first_place f.way.places) ▸ ε))))) (var f.way.scrutinee)
    ≡ case_in a f b
case-seen a f b k ps A ns bs count params type counts parts =
    let e = f.con.family in
    let ds = (family_at a.env e).constructors in
    let last = var (first_place f.way.places) ▸ ε in
    let T = scrutinee_type a.family a.params (suc f.way.depth) (indices_with 1 (var 0) f.way) in
    let whole : Form → Terms → Term = λ F ts. App 𝟘 (node F ts) (var f.way.scrutinee) in
    ap (λ n. whole (Form.case 𝟘 e n 1 ns) (ps +++ (Pi 𝟘 A (Sort a.level) ▸ (bs +++ last)))) count ∙
    ap (λ m. whole (Form.case 𝟘 e (size f.params) 1 m) (ps +++ (Pi 𝟘 A (Sort a.level) ▸ (bs +++ last)))) counts ∙
    ap (λ us. whole (Form.case 𝟘 e (size f.params) 1 (field_counts ds))
    (us +++ (Pi 𝟘 A (Sort a.level) ▸ (bs +++ last))))
    params ∙
    ap (λ B. whole (Form.case 𝟘 e (size f.params) 1 (field_counts ds))
    (raised f.way.depth f.params +++ (Pi 𝟘 B (Sort a.level) ▸ (bs +++ last)))) type ∙
    ap (λ us. whole (Form.case 𝟘 e (size f.params) 1 (field_counts ds))
    (raised f.way.depth f.params +++ (Pi 𝟘 T (Sort a.level) ▸ us)))
    (ap (λ us. us +++ last) parts ∙ branches-behind a f b 0 ds last)

-- ---- Cases one in the other
pub wrapped-more : (a : Aim) (fs : List Frame) (f : Frame) (t : Term) →
    wrapped a (fs ++ f ∷ []) t ≡ wrapped a fs (case_in a f t)
wrapped-more a [] f t = refl
wrapped-more a (g ∷ fs) f t = ap (case_in a g) (wrapped-more a fs f t)
