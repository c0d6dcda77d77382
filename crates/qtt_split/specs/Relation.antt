-- How clauses make a case tree, as a relation by cases: the part of the rules on which the clause laws rest. What only
-- refusals and the typing of the body need is left out: multiplicities, levels, motives, uses.
use Rattle.std.specs.Prelude.{◌≡◌, ℕ, suc, false, ◌&&◌, eqb, List, [], ◌∷◌, ◌++◌, length, Option, None}
use Rattle.qtt_base.specs.declared.place.GlobalId.{GlobalId}
use Rattle.qtt_usage.specs.declared.mult.Mult.{Mult}
use Rattle.qtt_syntax.specs.Tree.{Shape}
use Rattle.qtt_term.specs.Term.{Form, Term, Terms, var, node, ε, ◌▸◌, size, skip, Fam, same_id}
use Rattle.qtt_term.specs.Signature.{Tele, Env, ConSig, fam_at, family_at, EqTy, Refl}
use Rattle.qtt_term.specs.Contraction.{Conv}
use Rattle.qtt_term.specs.Judgement.{Ctx, InScope, type_at}
use Rattle.qtt_term.specs.Entries.{Entries, env}
use Rattle.qtt_term.specs.Forms.{front}
use Rattle.qtt_split.specs.Tree.{Leaf, Splitting, Deleting, Tree, Branches}
use Rattle.qtt_split.specs.Node.{Row, Node, Decision, decide, examined}
use Rattle.qtt_split.specs.Branch.{made, stands, again, branch_node}
use Rattle.qtt_split.specs.Split.{results_of, fields_of, refl_id}
use Rattle.qtt_split.specs.Plan.{with_rows}

-- convertible one by one
pub data Convs (E : Env) : Terms → Terms → Type 0 where
  none : Convs E ε ε
  more : {t s : Term} {ts ss : Terms} → Conv E t s → Convs E ts ss → Convs E (t ▸ ts) (s ▸ ss)

-- ---- index equations, by conversion: targets against result indices
-- one equation, here or between fields, is of two constructors
pub data Clash (E : Env) : Terms → Terms → Type 0 where
  conflict : {f g : GlobalId} {c d k l : ℕ} {u : Term} {vs ws ts us : Terms} →
      Conv E u (node (Form.con g d l) ws) → same_id f g && eqb c d ≡ false →
      Clash E (node (Form.con f c k) vs ▸ ts) (u ▸ us)
  of_fields : {f : GlobalId} {c k l : ℕ} {u : Term} {vs ws ts us : Terms} →
      Conv E u (node (Form.con f c l) ws) → Clash E (skip k vs) (skip l ws) →
      Clash E (node (Form.con f c k) vs ▸ ts) (u ▸ us)
  later : {t u : Term} {ts us : Terms} → Clash E ts us → Clash E (t ▸ ts) (u ▸ us)

-- each equation solves a variable, or is of equal constructors, whose fields' equations take its place; what has
-- nothing beside it is no equation
pub data Solves (E : Env) : Terms → Terms → List (ℕ × Term) → Type 0 where
  no_target : {us : Terms} → Solves E ε us []
  no_result : {ts : Terms} → Solves E ts ε []
  solution : {i : ℕ} {u : Term} {ts us : Terms} {s : List (ℕ × Term)} → Solves E ts us s →
      Solves E (var i ▸ ts) (u ▸ us) ((i, u) ∷ s)
  injectivity : {f : GlobalId} {c k l : ℕ} {u : Term} {vs ws ts us : Terms} {s r : List (ℕ × Term)} →
      Conv E u (node (Form.con f c l) ws) → Solves E (skip k vs) (skip l ws) s → Solves E ts us r →
      Solves E (node (Form.con f c k) vs ▸ ts) (u ▸ us) (s ++ r)

-- ---- nodes
abbrev pub AllInScope : Ctx → List (Mult × ℕ) → Type 0
AllInScope Γ [] = Unit {0}
AllInScope Γ (b ∷ rs) = InScope Γ b.1 × AllInScope Γ rs

-- the constructor of a split with this number, of its fields
abbrev pub con_of : Splitting → ℕ → ConSig → Term
con_of w c d = made (record { family = w.family; place = c }) w.params (length d.fields)

abbrev pub node_of : Node → Splitting → List (Option (List ℕ)) → ℕ → ConSig → List (ℕ × Term) → Node
node_of N w names c d s =
    branch_node N (fields_of w.mult w.params d) names w.variable (record { family = w.family; place = c })
    (con_of w c d) s w.reverted

-- which terms may be the right side of a clause, whose columns are read, at a node
abbrev pub RightSides : Type 1
RightSides = Node → Row → Term → Type 0

-- the one that `side` gives
abbrev pub gives : (Node → Row → Term) → RightSides
gives side = λ N r t. t ≡ side N r

-- A tree is made at a node; its leaves take their right sides from the front of a list and leave the rest of it.
mutual
  pub data Made (K : Entries) (side : RightSides) : Node → Tree → Terms → Terms → Type 0 where
    none_left : {N : Node} {A : Term} {ps : List Shape} {sides : Terms} →
        decide K N.rows ≡ Decision.none_left → Made K side N (Tree.missing A ps) sides sides
    leaf : {N : Node} {r : Row} {rows : List Row} {l : Leaf} {t : Term} {sides : Terms} →
        decide K N.rows ≡ Decision.decides r rows → examined r.columns ≡ None → side N r t →
        Made K side N (Tree.leaf l) (t ▸ sides) sides
    -- a variable whose type is a family at parameters and indices; the targets are what the indices were read to
    split : {N : Node} {r : Row} {rows : List Row} {w : Splitting} {xs ts : Terms} {bs : Branches} {sides left : Terms}
        →
        decide K N.rows ≡ Decision.decides r rows → AllInScope N.context w.reverted →
        Conv (env K) (type_at N.context w.variable) (Fam w.family xs) →
        w.params ≡ front (length (family_at (env K) w.family).params) xs →
        Convs (env K) (skip (length (family_at (env K) w.family).params) xs) ts → size ts ≡ w.indices →
        MadeBranches K side (with_rows N (r ∷ rows)) w ts 0 (fam_at (env K) w.family).constructors bs sides left →
        Made K side N (Tree.split w bs) sides left
    -- a proof of Eq whose index is convertible to its point
    delete : {N : Node} {r : Row} {rows : List Row} {w : Deleting} {i : Term} {Θ : Tele} {T : Tree} {sides left : Terms}
        →
        decide K N.rows ≡ Decision.decides r rows → AllInScope N.context w.reverted →
        Conv (env K) (type_at N.context w.variable) (EqTy w.type w.point i) → Conv (env K) i w.point →
        Θ ≡ again N.context w.reverted (stands w.variable (Refl w.type w.point) [] 0) →
        Made K side (branch_node (with_rows N (r ∷ rows)) [] [] w.variable refl_id (Refl w.type w.point) [] w.reverted)
        T sides left →
        Made K side N (Tree.delete w Θ T) sides left

  -- one branch for each constructor, from number c on
  pub data MadeBranches (K : Entries) (side : RightSides) : Node → Splitting → Terms → ℕ → List ConSig → Branches →
      Terms → Terms → Type 0 where
    none : {N : Node} {w : Splitting} {ts : Terms} {c : ℕ} {sides : Terms} →
        MadeBranches K side N w ts c [] Branches.no_branch sides sides
    clashes : {N : Node} {w : Splitting} {ts : Terms} {c n : ℕ} {d : ConSig} {ds : List ConSig} {A : Term}
        {bs : Branches} {sides left : Terms} →
        n ≡ length d.fields → Clash (env K) ts (results_of w.params d) →
        MadeBranches K side N w ts (suc c) ds bs sides left →
        MadeBranches K side N w ts c (d ∷ ds) (Branches.branch_and n [] (Tree.absurd A) bs) sides left
    solved : {N : Node} {w : Splitting} {ts : Terms} {c n : ℕ} {d : ConSig} {ds : List ConSig} {s : List (ℕ × Term)}
        {Θ : Tele} {T : Tree} {bs : Branches} {sides rest left : Terms} (names : List (Option (List ℕ))) →
        n ≡ length d.fields → Solves (env K) ts (results_of w.params d) s →
        Θ ≡ again N.context w.reverted (stands w.variable (con_of w c d) s (length d.fields)) →
        Made K side (node_of N w names c d s) T sides rest → MadeBranches K side N w ts (suc c) ds bs rest left →
        MadeBranches K side N w ts c (d ∷ ds) (Branches.branch_and n Θ T bs) sides left
