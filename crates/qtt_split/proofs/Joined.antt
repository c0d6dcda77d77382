-- The branches of a split, made one after another.
use Rattle.std.proofs.Common.{◌≡◌, ◌∙◌, ℕ, suc, ◌+◌, ◌<◌, ◌≤◌, List, [], ◌∷◌, ◌++◌, length, get_or, map, drop, refl, sym, ap, arith}
use Rattle.std.proofs.lemmas.List.{map-append, drop_more, drop_all}
use mathlib.Core.Path.{fun_ext}
use Rattle.qtt_term.specs.declared.items.Constructor as code_constructor
use Rattle.qtt_term.specs.Items.{constructor}
use Rattle.qtt_term.specs.Judgement.{branch_type}
use Rattle.qtt_term.specs.Substitution.{push, closed}
use Rattle.qtt_term.specs.Signature.{Env, ConSig, Constructor, con_sig, con_sigs}
use Rattle.qtt_term.specs.Ask.{Ask, ◌>>=◌, Ending, within}
use Rattle.qtt_rules.specs.declared.errors.ElabError.{ElabError}
use Rattle.qtt_rules.specs.Asks.{Asks}
use Rattle.qtt_unify.specs.declared.equations.Verdict as code_verdict
use Rattle.qtt_unify.specs.Equations.{Verdict}
use Rattle.qtt_unify.specs.View.{verdict}
use Rattle.qtt_split.specs.declared.tree.Branch as code_branch
use Rattle.qtt_split.specs.declared.growing.GrownBranch as code_grown
use Rattle.qtt_split.specs.Answers.{Reaches, Refuses}
use Rattle.qtt_split.specs.Preparations.{grown_branch_of}
use Rattle.qtt_split.specs.Prepared.{GrownBranch, branch}
use Rattle.qtt_split.specs.Split.{Grows, Site, GrownBranches, count_leaf, with_branch, branches, solved_node}
use Rattle.qtt_split.specs.Tree.{Branches, Tree}
use Rattle.qtt_split.specs.View.{Seen, in_order, branch_of, branches_of}
use Rattle.qtt_split.proofs.Binding.{then-done}
use Rattle.qtt_split.proofs.Preparing.{changed}
use Rattle.qtt_split.proofs.Tried.{then-alike}
use Rattle.qtt_split.proofs.Within.{past, here, refuses-alike}

-- ---- one branch, and then the others
abbrev before : GrownBranch → GrownBranches → GrownBranches
before b bs = with_branch b.fields b.again b.tree bs

first-branch : (g : Grows) (W : Site) (c : ℕ) (d : ConSig) (ds : List ConSig) (v : Verdict) (vs : List Verdict)
    (left : ℕ) →
    branches g W c (d ∷ ds) (v ∷ vs) left
    ≡ (branch g W c d v left >>= (λ b. branches g W (suc c) ds vs b.left >>= (λ bs. Ask.done (before b bs))))
first-branch g W c d ds (Verdict.solved s) vs left =
    sym (changed (g (solved_node W c d s) left) _
    (λ b. branches g W (suc c) ds vs b.left >>= (λ bs. Ask.done (before b bs))))
first-branch g W c d ds Verdict.clash vs left =
    sym (changed (count_leaf W.group left) _
    (λ b. branches g W (suc c) ds vs b.left >>= (λ bs. Ask.done (before b bs))))
first-branch g W c d ds (Verdict.stuck k u t) vs left =
    sym (changed (count_leaf W.group left) _
    (λ b. branches g W (suc c) ds vs b.left >>= (λ bs. Ask.done (before b bs))))

-- ---- the branch of a constructor that clashes
abbrev pub absurd-at : Site → ConSig → ℕ → GrownBranch
absurd-at W d left = record {
  fields = length d.fields;
  again = [];
  tree = Tree.absurd (branch_type (push W.division.over.params closed) d W.motive);
  left = left;
}

-- ---- branches behind these
abbrev pub joined : List Seen → Branches → Branches
joined [] bs = bs
joined (b ∷ made) bs = Branches.branch_and b.fields b.again b.tree (joined made bs)

joined-more : (made : List Seen) (b : Seen) (bs : Branches) →
    joined (made ++ b ∷ []) bs ≡ joined made (Branches.branch_and b.fields b.again b.tree bs)
joined-more [] b bs = refl
joined-more (c ∷ made) b bs = ap (Branches.branch_and c.fields c.again c.tree) (joined-more made b bs)

joined-none : (made : List Seen) → joined made Branches.no_branch ≡ in_order made
joined-none [] = refl
joined-none (b ∷ made) = ap (Branches.branch_and b.fields b.again b.tree) (joined-none made)

module _ (E : Env) (n : ℕ) (g : Grows) (W : Site) (k : ℕ) where
  -- of a constructor by its number
  abbrev pub one : ℕ → Constructor → Verdict → ℕ → Asks GrownBranch
  one i d v left = branch g W i (con_sig W.division.family k i d) v left

  -- from number i on
  abbrev pub rest : ℕ → List Constructor → List Verdict → ℕ → Asks GrownBranches
  rest i ds vs left = branches g W i (con_sigs W.division.family k i ds) vs left

  abbrev pub behind : List Seen → GrownBranches → Asks GrownBranches
  behind made bs = Ask.done (record { branches = joined made bs.branches; left = bs.left })

  pub record BranchesSoFar (ds : List code_constructor.Constructor) (vs : List code_verdict.Verdict) (first i : ℕ)
      (made : List code_branch.Branch) (left : ℕ) : Type 0 where
    pub is : within E n (rest 0 (map constructor ds) (map verdict vs) first)
        ≡ within E n (rest i (map constructor (drop i ds)) (map verdict (drop i vs)) left
        >>= behind (map branch_of made))

  pub none-made : (ds : List code_constructor.Constructor) (vs : List code_verdict.Verdict) (first : ℕ) →
      BranchesSoFar ds vs first 0 [] first
  none-made ds vs first = record {
    is = sym (then-done E n (rest 0 (map constructor ds) (map verdict vs) first));
  }

  module _ (ds : List code_constructor.Constructor) (vs : List code_verdict.Verdict) (first i : ℕ)
      (made : List code_branch.Branch) (left : ℕ) where
    -- the others, behind one
    abbrev others : GrownBranch → Asks GrownBranches
    others b = rest (i + 1) (map constructor (drop (i + 1) ds)) (map verdict (drop (i + 1) vs)) b.left

    abbrev all-behind : GrownBranch → Asks GrownBranches
    all-behind b = others b >>= (λ bs. Ask.done (before b bs))

    -- at the next constructor
    turn : (d : code_constructor.Constructor) (v : code_verdict.Verdict) → i < length ds → d ≡ get_or ds i d →
        i < length vs → v ≡ get_or vs i v → BranchesSoFar ds vs first i made left →
        within E n (rest 0 (map constructor ds) (map verdict vs) first)
        ≡ within E n ((one i (constructor d) (verdict v) left >>= all-behind) >>= behind (map branch_of made))
    turn d v h e l f so =
        let next : suc i ≡ i + 1 = omega arith in
        let us = map verdict (drop (i + 1) vs) in
        let cs = map constructor (drop (i + 1) ds) in
        so.is ∙
        ap (λ xs. within E n (rest i (map constructor xs) (map verdict (drop i vs)) left
        >>= behind (map branch_of made)))
        (drop_more ds i d h ∙ ap (λ y. y ∷ drop (i + 1) ds) (sym e)) ∙
        ap (λ ys. within E n (rest i (constructor d ∷ cs) (map verdict ys) left >>= behind (map branch_of made)))
        (drop_more vs i v l ∙ ap (λ y. y ∷ drop (i + 1) vs) (sym f)) ∙
        ap (λ m. within E n (m >>= behind (map branch_of made)))
        (first-branch g W i (con_sig W.division.family k i (constructor d)) (con_sigs W.division.family k (suc i) cs)
        (verdict v) us left) ∙
        ap (λ j. within E n ((one i (constructor d) (verdict v) left >>=
        (λ b. rest j cs us b.left >>= (λ bs. Ask.done (before b bs)))) >>= behind (map branch_of made))) next

    pub one-made : (d : code_constructor.Constructor) (v : code_verdict.Verdict) (b : code_grown.GrownBranch) →
        i < length ds → d ≡ get_or ds i d → i < length vs → v ≡ get_or vs i v →
        Reaches E n (one i (constructor d) (verdict v) left) (grown_branch_of b) →
        BranchesSoFar ds vs first i made left → BranchesSoFar ds vs first (i + 1) (made ++ b.branch ∷ []) b.left
    one-made d v b h e l f r so = record {
      is =
          let x = grown_branch_of b in
          turn d v h e l f so ∙
          then-alike E n (one i (constructor d) (verdict v) left >>= all-behind) (all-behind x)
          (behind (map branch_of made)) (past E n (one i (constructor d) (verdict v) left) all-behind r) ∙
          ap (within E n) (changed (others x) (before x) (behind (map branch_of made))) ∙
          ap (λ f. within E n (others x >>= f))
          (fun_ext (λ (bs : GrownBranches). ap (λ cs. Ask.done (record { branches = cs; left = bs.left }))
          (sym (joined-more (map branch_of made) (branch_of b.branch) bs.branches) ∙
          ap (λ ms. joined ms bs.branches) (sym (map-append branch_of made (b.branch ∷ []))))));
    }

    pub one-refused : (d : code_constructor.Constructor) (v : code_verdict.Verdict) (r : ElabError) →
        i < length ds → d ≡ get_or ds i d → i < length vs → v ≡ get_or vs i v →
        Refuses E n (one i (constructor d) (verdict v) left) r → BranchesSoFar ds vs first i made left →
        Refuses E n (rest 0 (map constructor ds) (map verdict vs) first) r
    one-refused d v r h e l f s so =
        let m = one i (constructor d) (verdict v) left in
        refuses-alike E n ((m >>= all-behind) >>= behind (map branch_of made))
        (rest 0 (map constructor ds) (map verdict vs) first) r (turn d v h e l f so)
        (here E n (m >>= all-behind) (behind (map branch_of made)) r (here E n m all-behind r s))

    abbrev pub whole : GrownBranches
    whole = record { branches = branches_of made; left = left }

    no-more : within E n (Ask.done (record { branches = Branches.no_branch; left = left })
        >>= behind (map branch_of made)) ≡ Ending.ok whole
    unfolding within ◌>>=◌
    no-more = ap (λ bs. Ending.ok (record { branches = bs; left = left })) (joined-none (map branch_of made))

    pub all-made : length ds ≤ i → BranchesSoFar ds vs first i made left →
        Reaches E n (rest 0 (map constructor ds) (map verdict vs) first) whole
    all-made h so = record {
      is =
          so.is ∙
          ap (λ xs. within E n (rest i (map constructor xs) (map verdict (drop i vs)) left
          >>= behind (map branch_of made))) (drop_all i ds h) ∙ no-more;
    }

    none-behind : (ds : List ConSig) → branches g W i ds [] left ≡ Ask.done (record {
      branches = Branches.no_branch;
      left = left;
    })
    none-behind [] = refl
    none-behind (d ∷ ds) = refl

    pub all-decided : length vs ≤ i → BranchesSoFar ds vs first i made left →
        Reaches E n (rest 0 (map constructor ds) (map verdict vs) first) whole
    all-decided h so = record {
      is =
          so.is ∙
          ap (λ ys. within E n (rest i (map constructor (drop i ds)) (map verdict ys) left
          >>= behind (map branch_of made))) (drop_all i vs h) ∙
          ap (λ m. within E n (m >>= behind (map branch_of made)))
          (none-behind (con_sigs W.division.family k i (map constructor (drop i ds)))) ∙ no-more;
    }
