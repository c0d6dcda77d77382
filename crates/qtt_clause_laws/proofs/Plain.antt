-- Trees whose split families have no indices, without types.
use Rattle.std.proofs.Common.{◌≡◌, ℕ, zero, suc, ◌+◌, List, [], ◌∷◌, length, refl, sym, ◌∙◌, ap, subst, arith}
use Rattle.qtt_usage.specs.declared.mult.Mult.{Mult}
use Rattle.qtt_syntax.specs.Tree.{Shape}
use Rattle.qtt_term.specs.declared.term.ConId.{ConId}
use Rattle.qtt_term.specs.Term.{Form, Term, Terms, node, ε, ◌▸◌, size, skip}
use Rattle.qtt_term.specs.Substitution.{sub, cons, push, closed}
use Rattle.qtt_term.specs.Signature.{ConSig, Env, fam_at}
use Rattle.qtt_term.specs.Judgement.{IsCon}
use Rattle.qtt_term.specs.Entries.{Entries, env}
use Rattle.qtt_match.specs.Match.{first_from}
use Rattle.qtt_split.specs.Seen.{Seen, seen_deeper}
use Rattle.qtt_split.specs.Tree.{Splitting, Tree, Branches, glue}
use Rattle.qtt_split.specs.Node.{Clause, Node}
use Rattle.qtt_split.specs.Branch.{rebound, seen_as, stands, bound_again, again}
use Rattle.qtt_split.specs.Split.{fields_of}
use Rattle.qtt_split.specs.Relation.{RightSides, Clash, Solves, con_of, Made, MadeBranches}
use Rattle.qtt_split.specs.Laws.{Unsolved, Deep, AllDeep, Reaches, Follows, Plain, AllPlain, BranchOf, with_reverted, Examines}
use Rattle.qtt_clause_laws.proofs.Steps.{deep-value, AllValues, GluedAt, split-reaches}
use Rattle.qtt_clause_laws.proofs.Columns.{none-examined, parts-are}
use Rattle.qtt_clause_laws.proofs.Shown.{deep-fields, AllShown, all-shown-faith, SolutionsOpen, Point, all-shown-moved, again-point, Holds, split-point, are-meant}
use Rattle.qtt_clause_laws.proofs.Deciding.{Left, left-moved, decide-none, decide-some, first-is, follows-after, sides-left, con-fields, length-binds}

pub never-unfolds : (K : Entries) → SolutionsOpen K Unsolved
never-unfolds K f c k ts v r d = absurd r

no-targets : (ts : Terms) {n : ℕ} → size ts ≡ n → n ≡ 0 → ts ≡ ε
no-targets ε z e = refl
no-targets (t ▸ ts) z e = absurd (cc (z ∙ e))

none-solved : {E : Env} {ts us : Terms} {s : List (ℕ × Term)} → Solves E ts us s → ts ≡ ε → s ≡ []
none-solved Solves.no_target e = refl
none-solved Solves.no_result e = refl
none-solved (Solves.solution k) e = absurd (cc e)
none-solved (Solves.injectivity c k g) e = absurd (cc e)

none-clash : {E : Env} {ts us : Terms} → Clash E ts us → ts ≡ ε → ⊥
none-clash (Clash.conflict c n) e = cc e
none-clash (Clash.of_fields c k) e = cc e
none-clash (Clash.later k) e = cc e

pub deep-push : {E : Env} (fs : Terms) (σ : ℕ → Term) → ((i : ℕ) → Deep E (σ i)) → AllDeep E fs → (i : ℕ) →
    Deep E (push fs σ i)
deep-push ε σ h d = h
deep-push {E} (t ▸ fs) σ h (AllDeep.more d ds) = deep-push fs (cons t σ) go ds
  where
    go : (i : ℕ) → Deep E (cons t σ i)
    go zero = d
    go (suc i) = h i

deep-reverted : {E : Env} (rs : List (Mult × ℕ)) (σ π : ℕ → Term) → ((i : ℕ) → Deep E (σ i)) →
    ((i : ℕ) → Deep E (π i)) → (i : ℕ) → Deep E (with_reverted σ rs π i)
deep-reverted [] σ π h k = k
deep-reverted {E} (b ∷ rs) σ π h k = deep-reverted rs σ (cons (σ b.1) π) h go
  where
    go : (i : ℕ) → Deep E (cons (σ b.1) π i)
    go zero = h b.1
    go (suc i) = k i

deep-values : {E : Env} (rs : List (Mult × ℕ)) (σ : ℕ → Term) → ((i : ℕ) → Deep E (σ i)) → AllValues E σ rs
deep-values [] σ h = tt
deep-values (b ∷ rs) σ h = (deep-value (h b.1), deep-values rs σ h)

module _ (K : Entries) (side : RightSides) (all : List Clause) (vs : Terms) (deep : AllDeep (env K) vs) where
  abbrev Leads : ℕ → List (List Shape) → Term → Type 0
  Leads n ps t = Follows K Unsolved all side vs t (first_from K.families n ps vs)

  -- where a branch leads
  record Onward (w : Splitting) (σ : ℕ → Term) (fs : Terms) (c : ℕ) (bs : Branches) (sides : Terms)
      (Γ : List (Mult × Term)) (m : ℕ) (ps : List (List Shape)) (T : Tree) : Type 0 where
    count : ℕ
    counted : size fs ≡ count
    δ : ℕ → Term
    rest : Terms
    glued : GluedAt c bs sides count (again Γ w.reverted δ) T rest
    leads : Leads m ps (sub (with_reverted σ w.reverted (push fs σ)) (glue T rest))

  mutual
    pub plain-law : {N : Node} {T : Tree} {sides left : Terms} → Made K side N T sides left → Plain K T →
        (σ : ℕ → Term) → ((i : ℕ) → Deep (env K) (σ i)) → Examines K T σ →
        {ts : Terms} {m : ℕ} {ps : List (List Shape)} → AllShown K Unsolved σ N.seen ts vs →
        Left K all ts vs N.rows m ps → Leads m ps (sub σ (glue T sides))
    plain-law (Made.none_left {N = N} {A = A} d) pl σ g x {ts} {m} {ps} s l =
        subst (Follows K Unsolved all side vs _) (sym (decide-none K Unsolved (never-unfolds K) all ts vs σ
        (all-shown-faith K Unsolved s) deep l d))
        (Follows.trapped Reaches.there refl)
    plain-law (Made.leaf {N = N} {r = r} {rows = rows} {l = leaf} {t = t} d x e) pl σ g ex {ts} {m} {ps} s l =
        let f = all-shown-faith K Unsolved s in
        let q = decide-some K Unsolved (never-unfolds K) all ts vs σ f deep l r rows d in
        let a = none-examined r.columns q.1 x in
        let k = first-is K Unsolved (never-unfolds K) all ts vs σ f deep q.0 a in
        let w = are-meant K Unsolved s in
        subst (Follows K Unsolved all side vs (sub σ t)) (sym k.is)
        (Follows.at_leaf N r d x w.filled (parts-are σ k.reads a w.alike) e Reaches.there)
    plain-law (Made.split {N = N} {r = r} {rows = rows} {w = w} {ts = us} {bs = bs} d ir ct pf cs zi h) pl σ g
        (Examines.a_constructor {c = c} {k = k} {d = con} {ts = xs} {T = T} v at y b ex) {ts} {m} {ps} s l =
        let q = decide-some K Unsolved (never-unfolds K) all ts vs σ (all-shown-faith K Unsolved s) deep l r rows d in
        let df : AllDeep (env K) (skip k xs) = deep-fields (subst (Deep (env K)) v (g w.variable)) in
        let o = plain-branches h pl.1 (no-targets us zi pl.0) σ g s q.0 con c k xs v y df at c at (omega arith) b ex in
        follows-after (split-reaches w N.context o.δ σ v (deep-value (g w.variable)) o.counted o.glued
        (deep-values w.reverted σ g)) o.leads
    plain-law (Made.split {w = w} {bs = bs} d ir ct pf cs zi h) pl σ g (Examines.nothing other) s l =
        absurd (other w bs refl)
    plain-law (Made.delete d ir ct ci e h) pl σ g ex s l = absurd pl

    plain-branches : {N : Node} {w : Splitting} {us : Terms} {c : ℕ} {ds : List ConSig} {bs : Branches}
        {sides left : Terms} → MadeBranches K side N w us c ds bs sides left → AllPlain K bs → us ≡ ε →
        (σ : ℕ → Term) → ((i : ℕ) → Deep (env K) (σ i)) → {ts : Terms} {m : ℕ} {ps : List (List Shape)} →
        AllShown K Unsolved σ N.seen ts vs → Left K all ts vs N.rows m ps →
        (con : ConSig) (place k : ℕ) (xs : Terms) → σ w.variable ≡ node (Form.con w.family place k) xs →
        size (skip k xs) ≡ length con.fields → AllDeep (env K) (skip k xs) →
        IsCon (fam_at (env K) w.family).constructors place con → (n : ℕ) → IsCon ds n con → place ≡ n + c →
        {T : Tree} → BranchOf n bs T → Examines K T (with_reverted σ w.reverted (push (skip k xs) σ)) →
        Onward w σ (skip k xs) n bs sides N.context m ps T
    plain-branches MadeBranches.none pl et σ g s l con place k xs v y df at n i e b ex = elim i [ ]
    plain-branches (MadeBranches.clashes z cl h) pl et σ g s l con place k xs v y df at zero i e b ex =
        absurd (none-clash cl et)
    plain-branches (MadeBranches.clashes z cl h) pl et σ g s l con place k xs v y df at (suc n) (IsCon.there i) e
        (BranchOf.behind b) ex =
        let o = plain-branches h pl.1 et σ g s l con place k xs v y df at n i (omega arith) b ex in
        record {
          count = o.count;
          counted = o.counted;
          δ = o.δ;
          rest = o.rest;
          glued = GluedAt.behind o.glued;
          leads = o.leads;
        }
    plain-branches {N} {w = w} (MadeBranches.solved {bs = bs} names z so an made h) pl et σ g s l con place k xs v y df
        at (suc n) (IsCon.there i) e (BranchOf.behind {T = U} b) ex =
        let o = plain-branches h pl.1 et σ g s l con place k xs v y df at n i (omega arith) b ex in
        record {
          count = o.count;
          counted = o.counted;
          δ = o.δ;
          rest = o.rest;
          glued = GluedAt.behind (subst (λ ss. GluedAt n bs ss o.count (again N.context w.reverted o.δ) U o.rest)
              (sides-left made) o.glued);
          leads = o.leads;
        }
    plain-branches {N} {w} {us} {c} (MadeBranches.solved {n = count} {s = so-far} {T = T} {bs = bs} {sides = sides}
        names z so an made h) pl et σ g {ts} {m} {ps} s l con place k xs v y df at zero IsCon.here e BranchOf.here ex =
        record {
          count = count;
          counted = y ∙ sym z;
          δ = stands w.variable (con_of w c con) so-far (length con.fields);
          rest = sides;
          glued = subst (λ Θ. GluedAt 0 (Branches.branch_and count Θ T bs) sides count
              (again N.context w.reverted (stands w.variable (con_of w c con) so-far (length con.fields))) T sides)
              (sym an) GluedAt.here;
          leads = plain-law made pl.0 π (deep-reverted w.reverted σ (push (skip k xs) σ) g
              (deep-push (skip k xs) σ g df)) ex
              (all-shown-moved K Unsolved π σ ρ δ point (λ u v r. r) s) (left-moved δ l);
        }
      where
        id : ConId
        id = record { family = w.family; place = c }

        π : ℕ → Term
        π = with_reverted σ w.reverted (push (skip k xs) σ)

        wide : ℕ
        wide = length (fields_of w.mult w.params con)

        ρ : ℕ → Seen
        ρ = rebound (Seen.open_at 0) seen_deeper w.reverted (seen_as w.variable id so-far wide)

        δ : ℕ → Term
        δ = bound_again w.reverted (stands w.variable (con_of w c con) so-far wide)

        same : place ≡ c
        same = omega arith

        holds : Holds K Unsolved σ (push (skip k xs) σ) so-far
        holds = subst (Holds K Unsolved σ (push (skip k xs) σ)) (sym (none-solved so et)) Holds.none

        point : Point K Unsolved π ρ δ σ
        point = subst (λ n. Point K Unsolved π (rebound (Seen.open_at 0) seen_deeper w.reverted
            (seen_as w.variable id so-far n)) (bound_again w.reverted (stands w.variable (con_of w c con) so-far n)) σ)
            (sym (length-binds (push w.params closed) w.mult con.fields))
            (again-point K Unsolved w.reverted (push (skip k xs) σ) σ
            (stands w.variable (con_of w c con) so-far (length con.fields))
            (seen_as w.variable id so-far (length con.fields))
            (split-point K Unsolved id w.variable k w.params xs so-far σ (length con.fields) y
            (y ∙ ap length (con-fields K w.family c
            (subst (λ n. IsCon (fam_at (env K) w.family).constructors n con) same at)))
            (v ∙ ap (λ n. node (Form.con w.family n k) xs) same) holds))
