-- The splits of a typed tree have as many indices as their families.
use Rattle.std.proofs.Common.{◌≡◌, ℕ, suc, List, [], ◌∷◌, ◌++◌, length, refl, ◌∙◌, ap, arith}
use Rattle.qtt_base.specs.declared.place.GlobalId.{GlobalId}
use Rattle.qtt_usage.specs.declared.mult.Mult.{Mult}
use Rattle.qtt_usage.specs.Uses.{Use}
use Rattle.qtt_term.specs.Term.{Form, Term, Terms, var, node, ε, ◌▸◌, skip, ◌+++◌}
use Rattle.qtt_term.specs.Signature.{Tele, FamSig, Env, There, index_binders, family_at, fam_at}
use Rattle.qtt_term.specs.Judgement.{Ctx, Part, Judged, Cases, Rule}
use Rattle.qtt_term.specs.Entries.{Entries, env}
use Rattle.qtt_preserve.specs.Within.{Has, HasAll}
use Rattle.qtt_split.specs.Tree.{Tree, Branches, leaves, lams, apps, glue, glued}
use Rattle.qtt_split.specs.Laws.{Plain, AllPlain}
use Rattle.qtt_clause_laws.specs.Accepted.{Indexed, AllIndexed, Unindexed, AllUnindexed}

-- ---- a term has some type, wherever it stands
pub record SomeType (E : Env) (t : Term) : Type 0 where
  pub part : Part
  pub context : Ctx
  pub type : Term
  pub use_of_term : Use
  pub has : Has E part context t type use_of_term

data AllSome (E : Env) : Terms → Type 0 where
  none : AllSome E ε
  more : {t : Term} {ts : Terms} → SomeType E t → AllSome E ts → AllSome E (t ▸ ts)

all-some : {E : Env} {p : Part} {Γ : Ctx} {ns : List ℕ} {ts : Terms} {js : List Judged} → HasAll E p Γ ns ts js →
    AllSome E ts
all-some HasAll.none = AllSome.none
all-some (HasAll.more e h f hs) =
    AllSome.more (record { part = _; context = _; type = _; use_of_term = _; has = h }) (all-some hs)

some-parts : {E : Env} {p : Part} {Γ : Ctx} {F : Form} {ts : Terms} {C : Term} {u : Use} → Has E p Γ (node F ts) C u →
    AllSome E ts
some-parts (Has.at_node r hs c f) = all-some hs

first-some : {E : Env} {t : Term} {ts : Terms} → AllSome E (t ▸ ts) → SomeType E t
first-some (AllSome.more h hs) = h

rest-some : {E : Env} {t : Term} {ts : Terms} → AllSome E (t ▸ ts) → AllSome E ts
rest-some (AllSome.more h hs) = hs

behind-some : {E : Env} (ps : Terms) {ts : Terms} → AllSome E (ps +++ ts) → AllSome E ts
behind-some ε h = h
behind-some (p ▸ ps) h = behind-some ps (rest-some h)

pub under-lams : {E : Env} (Θ : Tele) {t : Term} → SomeType E (lams Θ t) → SomeType E t
under-lams [] h = h
under-lams (b ∷ Θ) h = under-lams Θ (first-some (rest-some (some-parts h.has)))

under-apps : {E : Env} (rs : List (Mult × ℕ)) {t : Term} → SomeType E (apps t rs) → SomeType E t
under-apps [] h = h
under-apps (b ∷ rs) h = first-some (some-parts (under-apps rs h).has)

-- ---- the number of a motive's binders
cases-count : {S : FamSig} {q : Mult} {Θ : Tele} {σ : ℕ → Term} {k m : ℕ} {ns : List ℕ} {ts : Terms} {js : List Judged}
    {R : Term} → Cases S q Θ σ k m ns ts js R → m ≡ length S.motive
cases-count (Cases.param h) = cases-count h
cases-count (Cases.motive h) = refl

case-counts : {E : Env} {p : Part} {Γ : Ctx} {q : Mult} {f : GlobalId} {k m : ℕ} {ns : List ℕ} {ts : Terms} {C : Term}
    {u : Use} → Has E p Γ (node (Form.case q f k m ns) ts) C u →
    There (E.family f) × (m ≡ length (fam_at E f).motive)
case-counts (Has.at_node (Rule.case t z cs) hs c f) = (t, cases-count cs)

binders-count : (n : ℕ) (Ts : List Term) (b : Mult × Term) → length (index_binders n Ts ++ b ∷ []) ≡ suc (length Ts)
binders-count n [] b = refl
binders-count n (T ∷ Ts) b = ap suc (binders-count (suc n) Ts b)

-- ---- trees
mutual
  pub tree-indexed : (K : Entries) (T : Tree) (sides : Terms) → SomeType (env K) (glue T sides) → Indexed K T
  tree-indexed K (Tree.leaf l) sides h = tt
  tree-indexed K (Tree.absurd A) sides h = tt
  tree-indexed K (Tree.missing A ps) sides h = tt
  tree-indexed K (Tree.split w bs) sides h =
      let c = under-apps w.reverted h in
      let n = case-counts c.has in
      let e : suc w.indices ≡ suc (length (family_at (env K) w.family).indices) =
      n.1 ∙ binders-count 0 (family_at (env K) w.family).indices _ in (
        n.0,
        omega arith,
        all-indexed K bs sides (var w.variable ▸ ε)
            (rest-some (behind-some w.params (some-parts c.has))),
      )
  tree-indexed K (Tree.delete w Θ T) sides h =
      let c = some-parts (under-apps w.reverted h).has in
      tree-indexed K T sides (under-lams Θ (first-some (rest-some (rest-some (rest-some c)))))

  all-indexed : (K : Entries) (bs : Branches) (sides scrutinee : Terms) → AllSome (env K) (glued bs sides scrutinee) →
      AllIndexed K bs
  all-indexed K Branches.no_branch sides scrutinee h = tt
  all-indexed K (Branches.branch_and n Θ T bs) sides scrutinee h = (
    tree-indexed K T sides (under-lams Θ (first-some h)),
    all-indexed K bs (skip (length (leaves T)) sides) scrutinee (rest-some h),
  )

-- ---- without indices
mutual
  pub plain-tree : (K L : Entries) (T : Tree) → Indexed K T → Unindexed K T → Plain L T
  plain-tree K L (Tree.leaf l) h k = tt
  plain-tree K L (Tree.absurd A) h k = tt
  plain-tree K L (Tree.missing A ps) h k = tt
  plain-tree K L (Tree.split w bs) h k = (h.1 ∙ ap length k.0, plain-branches K L bs h.2 k.1)
  plain-tree K L (Tree.delete w Θ T) h k = k

  plain-branches : (K L : Entries) (bs : Branches) → AllIndexed K bs → AllUnindexed K bs → AllPlain L bs
  plain-branches K L Branches.no_branch h k = tt
  plain-branches K L (Branches.branch_and n Θ T bs) h k = (plain-tree K L T h.0 k.0, plain-branches K L bs h.1 k.1)
