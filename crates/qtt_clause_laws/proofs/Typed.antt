-- A typed tree leads to the first clause that fits.
use Rattle.std.proofs.Common.{◌≡◌, ℕ, zero, suc, ◌+◌, List, [], ◌∷◌, length, slice_get, refl, sym, ◌∙◌, ap, subst, arith, ◌⊎◌, inl, inr}
use Rattle.qtt_usage.specs.Uses.{zero_use}
use Rattle.qtt_syntax.specs.Tree.{Shape}
use Rattle.qtt_term.specs.declared.term.ConId.{ConId}
use Rattle.qtt_term.specs.Term.{Form, Term, Terms, var, node, ε, ◌▸◌, size, skip, ◌+++◌, Fam}
use Rattle.qtt_term.specs.Substitution.{ren, sub, subs, push, closed}
use Rattle.qtt_term.specs.Signature.{ConSig, con_sig, family_of, family_at, fam_at, Env, EqTy, Refl}
use Rattle.qtt_term.specs.Contraction.{BodiesClosed, Step, Reduces, Conv}
use Rattle.qtt_term.specs.Judgement.{IsCon, InScope, Ctx, type_at, ext, Part, Judged, Args, sub_binds, scale}
use Rattle.qtt_term.specs.Environment.{HasPrim}
use Rattle.qtt_term.proofs.Subst.{push-then_sub, subs-size}
use Rattle.qtt_confluence.proofs.Confluence.{confluence, conv-sub, push-conv, conv-inside}
use Rattle.qtt_base.specs.declared.place.GlobalId.{GlobalId}
use Rattle.qtt_confluence.specs.Injective as injective
use Rattle.qtt_confluence.proofs.Injective.{stiff-fam}
use Rattle.qtt_preserve.specs.Within.{Has, HasAll}
use Rattle.qtt_preserve.proofs.Travel.{has_as}
use Rattle.qtt_term.specs.Entries.{Entries, env}
use Rattle.qtt_split.specs.Constructors as globals
use Rattle.qtt_match.specs.Match.{first_from}
use Rattle.qtt_split.specs.Seen.{Seen, Sights, seen_deeper}
use Rattle.qtt_split.specs.Tree.{Splitting, Tree, Branches, glue}
use Rattle.qtt_term.specs.Forms.{front}
use Rattle.qtt_split.specs.Node.{Clause, Node}
use Rattle.qtt_split.specs.Branch.{rebound, seen_as, stands, bound_again, again}
use Rattle.qtt_split.specs.Split.{fields_of, results_of, refl_id}
use Rattle.qtt_split.specs.Relation.{RightSides, AllInScope, Clash, Solves, con_of, Made, MadeBranches}
use Rattle.qtt_split.specs.Laws.{Deep, AllDeep, Reaches, Follows, with_reverted}
use Rattle.qtt_clause_laws.specs.OneSplit.{Hold}
use Rattle.qtt_clause_laws.proofs.Steps.{deep-value, GluedAt, split-reaches, delete-reaches}
use Rattle.qtt_clause_laws.proofs.Columns.{none-examined, parts-are}
use Rattle.qtt_clause_laws.proofs.Shown.{deep-fields, Shown, AllShown, all-shown-faith, Point, all-shown-moved, put-point, again-point, split-point-at, are-meant, all-filled-as, front-skip}
use Rattle.qtt_clause_laws.proofs.Deciding.{Left, left-moved, decide-none, decide-some, first-is, follows-after, sides-left, con-fields, length-binds}
use Rattle.qtt_clause_laws.proofs.OneSplit.{convs-of, family-sized, one-split, one-deletion}
use Rattle.qtt_clause_laws.proofs.Fitting.{Same, deep-is, same-opens, AllWhole, Fit, whole-fields, whole-reverted, all-values, fit-fields, Agrees, put-agrees, again-agrees, split-agrees, fit-again, hold-holds, same-moved}

skip-own : (own fs : Terms) (k : ℕ) → size own ≡ k → skip k (own +++ fs) ≡ fs
skip-own own fs k z = ap (λ k. skip k (own +++ fs)) (sym z) ∙ go own
  where
    go : (own : Terms) → skip (size own) (own +++ fs) ≡ fs
    go ε = refl
    go (t ▸ own) = go own

front-size : (k : ℕ) (xs : Terms) (n : ℕ) → size xs ≡ k + n → size (front k xs) ≡ k
front-size zero xs n e = refl
front-size (suc k) ε n e = omega arith
front-size (suc k) (x ▸ xs) n e = let e' : suc (size xs) ≡ suc k + n = e in
    let r : size (front k xs) ≡ k = front-size k xs n (omega arith) in omega arith

-- ---- a variable whose type is convertible to a family is in scope
reduces-var : {E : Env} {i : ℕ} {r : Term} → Reduces E (var i) r → r ≡ var i
reduces-var Reduces.done = refl
reduces-var (Reduces.then h hs) = elim h [ ]

family-stays : {E : Env} {f : GlobalId} {ts : Terms} {r : Term} → Reduces E (Fam f ts) r →
    (ss : Terms) × (r ≡ Fam f ss)
family-stays {ts = ts} Reduces.done = (ts, refl)
family-stays {E} {f} {ts} (Reduces.then (Step.here e) hs) = absurd (cc (sym (stiff-fam E f ts) ∙ e))
family-stays (Reduces.then (Step.inside h) hs) = family-stays hs

out-of-scope : (Γ : Ctx) (i : ℕ) → InScope Γ i ⊎ ((j : ℕ) × (type_at Γ i ≡ var j))
out-of-scope [] i = inr (i, refl)
out-of-scope (b ∷ Γ) zero = inl tt
out-of-scope (b ∷ Γ) (suc i) = elim (out-of-scope Γ i) [ inl h ↦ inl h | inr h ↦ inr (suc h.0, ap (ren suc) h.1) ]

has-scope : {E : Env} → BodiesClosed E → (Γ : Ctx) (i : ℕ) {f : GlobalId} {ts : Terms} →
    Conv E (type_at Γ i) (Fam f ts) → InScope Γ i
has-scope {E} bodies Γ i {f} {ts} c = elim (out-of-scope Γ i) [
  | inl h ↦ h
  | inr h ↦ (let m = confluence E bodies (var h.0) (Fam f ts) (subst (λ t. Conv E t (Fam f ts)) h.1 c) in
      let s = family-stays m.2 in
      absurd (cc (sym (reduces-var m.1) ∙ s.1)))
]

module _ (K : Entries) (prims : HasPrim (env K)) (bodies : BodiesClosed (env K)) (side : RightSides)
    (all : List Clause) (vs : Terms) (deep : AllDeep (env K) vs) where
  abbrev Leads : ℕ → List (List Shape) → Term → Type 0
  Leads n ps t = Follows K (Conv (env K)) all side vs t (first_from K.families n ps vs)

  abbrev Solution : Term → Term → Type 0
  Solution = Same (env K)

  -- what a split meets
  record Facts (w : Splitting) (us : Terms) (σ : ℕ → Term) (con : ConSig) (place : ℕ) (fs : Terms) : Type 0 where
    own : Terms
    own_sized : size own ≡ size w.params
    shape : σ w.variable ≡ node (Form.con w.family place (size w.params)) (own +++ fs)
    sized : size fs ≡ length con.fields
    params : injective.Convs (env K) own (subs [] σ w.params)
    asked : List Judged
    args : Args con.fields (push own closed) fs asked
    typed : HasAll (env K) Part.erased [] [] fs asked
    below : AllDeep (env K) fs
    no_clash : Clash (env K) us (results_of w.params con) → ⊥
    solutions : (s : List (ℕ × Term)) → Solves (env K) us (results_of w.params con) s → Hold (env K) σ (push fs σ) s

  -- where a branch leads
  record Onward (w : Splitting) (σ : ℕ → Term) (fs : Terms) (c : ℕ) (bs : Branches) (sides : Terms) (Γ : Ctx) (m : ℕ)
      (ps : List (List Shape)) : Type 0 where
    count : ℕ
    counted : size fs ≡ count
    δ : ℕ → Term
    tree : Tree
    rest : Terms
    glued : GluedAt c bs sides count (again Γ w.reverted δ) tree rest
    leads : Leads m ps (sub (with_reverted σ w.reverted (push fs σ)) (glue tree rest))

  mutual
    pub typed-law : {N : Node} {T : Tree} {sides left : Terms} → Made K side N T sides left → (σ : ℕ → Term) →
        AllWhole (env K) σ → Fit (env K) N.context σ →
        {ts : Terms} {m : ℕ} {ps : List (List Shape)} → AllShown K Solution σ N.seen ts vs →
        Left K all ts vs N.rows m ps → Leads m ps (sub σ (glue T sides))
    typed-law (Made.none_left {N = N} {A = A} d) σ a g {ts} {m} {ps} s l =
        subst (Follows K (Conv (env K)) all side vs _) (sym (decide-none K Solution (same-opens K bodies) all ts vs σ
        (all-shown-faith K Solution s) deep l d))
        (Follows.trapped Reaches.there refl)
    typed-law (Made.leaf {N = N} {r = r} {rows = rows} {l = leaf} {t = t} d x e) σ a g {ts} {m} {ps} s l =
        let f = all-shown-faith K Solution s in
        let q = decide-some K Solution (same-opens K bodies) all ts vs σ f deep l r rows d in
        let b = none-examined r.columns q.1 x in
        let k = first-is K Solution (same-opens K bodies) all ts vs σ f deep q.0 b in
        let w = are-meant K Solution s in
        subst (Follows K (Conv (env K)) all side vs (sub σ t)) (sym k.is)
        (Follows.at_leaf N r d x (all-filled-as (λ t v h. h.conv) w.filled) (parts-are σ k.reads b w.alike) e
        Reaches.there)
    typed-law (Made.split {N = N} {r = r} {rows = rows} {w = w} {xs = xs} {ts = us} {bs = bs} {sides = sides} d ir ct
        pf cs zi h) σ a g {ts} {m} {ps} s l =
        let q = decide-some K Solution (same-opens K bodies) all ts vs σ (all-shown-faith K Solution s) deep l r rows d
        in
        let dp : Deep (env K) (σ w.variable) = (a w.variable).deep in
        let k : ℕ = length (family_at (env K) w.family).params in
        let ix : InScope N.context w.variable = has-scope bodies N.context w.variable ct in
        let hf : Has (env K) Part.erased [] (σ w.variable) (Fam w.family (subs [] σ xs)) zero_use =
        has_as (env K) (sub σ (Fam w.family xs)) zero_use (g w.variable ix) (conv-sub bodies ct σ) tt in
        let enough = family-sized (subs [] σ xs) bodies (deep-is dp) hf in
        let z : size w.params ≡ k = ap size pf ∙ front-size k xs enough.0 (sym (subs-size xs [] σ) ∙ enough.1) in
        let is : Terms = skip k xs in
        let whole : w.params +++ is ≡ xs = ap (λ ps. ps +++ is) pf ∙ front-skip k xs in
        let o = one-split (env K) bodies Part.erased w.family w.params is us σ (σ w.variable) zero_use z cs
        (deep-is dp)
        (subst (λ ys. Has (env K) Part.erased [] (σ w.variable) (Fam w.family (subs [] σ ys)) zero_use) (sym whole) hf)
        in
        let t = o.0 in
        let sk : skip k (t.own +++ t.fields) ≡ t.fields = skip-own t.own t.fields k t.own_sized in
        let facts : Facts w us σ (con_sig w.family k t.place t.constructor_is) t.place t.fields = record {
          own = t.own;
          own_sized = t.own_sized ∙ sym z;
          shape = t.shape ∙ ap (λ n. node (Form.con w.family t.place n) (t.own +++ t.fields)) (sym z);
          sized = t.sized;
          params = convs-of t.params_agree;
          asked = t.asked;
          args = t.args;
          typed = t.typed;
          below = subst (AllDeep (env K)) sk (deep-fields (subst (Deep (env K)) t.shape dp));
          no_clash = o.1;
          solutions = o.2;
        } in
        let on = typed-branches h σ a g s q.0 ir (con_sig w.family k t.place t.constructor_is) t.place t.fields facts
        t.there t.place t.there (omega arith) in
        follows-after {s = sub (with_reverted σ w.reverted (push t.fields σ)) (glue on.tree on.rest)}
        (subst (λ fs. Reaches (env K) (sub σ (glue (Tree.split w bs) sides))
        (sub (with_reverted σ w.reverted (push fs σ)) (glue on.tree on.rest))) sk
        (split-reaches w {n = on.count} {T = on.tree} {ss = on.rest} N.context on.δ σ t.shape (deep-value dp)
        (ap size sk ∙ on.counted) on.glued
        (all-values w.reverted σ a)))
        on.leads
    typed-law (Made.delete {N = N} {r = r} {rows = rows} {w = w} {i = i} {T = T} {sides = sides} d ir ct ci an h) σ a g
        {ts} {m} {ps} s l =
        let q = decide-some K Solution (same-opens K bodies) all ts vs σ (all-shown-faith K Solution s) deep l r rows d
        in
        let dp : Deep (env K) (σ w.variable) = (a w.variable).deep in
        let ix : InScope N.context w.variable = has-scope bodies N.context w.variable ct in
        let o = one-deletion (sub σ w.type) (sub σ w.point) (sub σ i) prims bodies (deep-is dp)
        (has_as (env K) (sub σ (EqTy w.type w.point i)) zero_use (g w.variable ix) (conv-sub bodies ct σ) tt) in
        let δ : ℕ → Term = stands w.variable (Refl w.type w.point) [] 0 in
        let ρ : ℕ → Seen = seen_as w.variable refl_id [] 0 in
        let π : ℕ → Term = with_reverted σ w.reverted σ in
        let agrees : Agrees (env K) σ δ σ = put-agrees σ σ (λ j. var j) w.variable (Refl w.type w.point)
        (subst (Conv (env K) (Refl (sub σ w.type) (sub σ w.point))) (sym o.is)
        (conv-inside (injective.Convs.more (Conv.back o.same_type)
        (injective.Convs.more (Conv.back o.same_point) injective.Convs.none)))) (λ j. Conv.same) in
        let point : Point K Solution σ ρ δ σ = put-point K Solution σ σ (λ j. var j) (λ j. Seen.open_at j) w.variable
        (Seen.made_of refl_id Sights.no_sight) (Refl w.type w.point)
        (subst (Shown K Solution σ (Seen.made_of refl_id Sights.no_sight) (Refl w.type w.point)) (sym o.is)
        (Shown.examined (ap (λ F. length (globals.fields_of (slice_get F.constructors 0)))
        (sym (ap family_of prims.equalities))) AllShown.none)) (λ j. Shown.live refl) in
        let k = again-agrees w.reverted σ σ δ agrees in
        follows-after {s = sub π (glue T sides)}
        (subst (λ Θ. Reaches (env K) (sub σ (glue (Tree.delete w Θ T) sides)) (sub π (glue T sides))) (sym an)
        (delete-reaches w T sides N.context δ σ o.is (deep-value dp) (all-values w.reverted σ a)))
        (typed-law h π (whole-reverted w.reverted σ σ a a)
        (fit-again bodies N.context N.context w.reverted σ σ δ g g agrees ir)
        (all-shown-moved K Solution π σ (rebound (Seen.open_at 0) seen_deeper w.reverted ρ) (bound_again w.reverted δ)
        (again-point K Solution w.reverted σ σ δ ρ point) (same-moved bodies π σ (bound_again w.reverted δ) k) s)
        (left-moved (bound_again w.reverted δ) q.0))

    typed-branches : {N : Node} {w : Splitting} {us : Terms} {c : ℕ} {ds : List ConSig} {bs : Branches}
        {sides left : Terms} → MadeBranches K side N w us c ds bs sides left →
        (σ : ℕ → Term) → AllWhole (env K) σ → Fit (env K) N.context σ → {ts : Terms} {m : ℕ} {ps : List (List Shape)} →
        AllShown K Solution σ N.seen ts vs → Left K all ts vs N.rows m ps → AllInScope N.context w.reverted →
        (con : ConSig) (place : ℕ) (fs : Terms) → Facts w us σ con place fs →
        IsCon (fam_at (env K) w.family).constructors place con → (n : ℕ) → IsCon ds n con → place ≡ n + c →
        Onward w σ fs n bs sides N.context m ps
    typed-branches MadeBranches.none σ a g s l ir con place fs q at n i e = elim i [ ]
    typed-branches (MadeBranches.clashes z cl h) σ a g s l ir con place fs q at zero IsCon.here e =
        absurd (q.no_clash cl)
    typed-branches (MadeBranches.clashes z cl h) σ a g s l ir con place fs q at (suc n) (IsCon.there i) e =
        let o = typed-branches h σ a g s l ir con place fs q at n i (omega arith) in
        record {
          count = o.count;
          counted = o.counted;
          δ = o.δ;
          tree = o.tree;
          rest = o.rest;
          glued = GluedAt.behind
              o.glued;
          leads = o.leads;
        }
    typed-branches {N} {w = w} (MadeBranches.solved {bs = bs} names z so an made h) σ a g s l ir con place fs q at
        (suc n) (IsCon.there i) e =
        let o = typed-branches h σ a g s l ir con place fs q at n i (omega arith) in
        record {
          count = o.count;
          counted = o.counted;
          δ = o.δ;
          tree = o.tree;
          rest = o.rest;
          glued = GluedAt.behind (subst (λ ss. GluedAt n bs ss o.count (again N.context w.reverted o.δ) o.tree o.rest)
              (sides-left made) o.glued);
          leads = o.leads;
        }
    typed-branches {N} {w} {us} {c} (MadeBranches.solved {n = count} {s = solved-here} {T = T} {bs = bs}
        {sides = sides} names z so an made h) σ a g {ts} {m} {ps} s l ir con place fs q at zero IsCon.here e =
        record {
          count = count;
          counted = q.sized ∙ sym z;
          δ = stands w.variable (con_of w c con) solved-here (length con.fields);
          tree = T;
          rest = sides;
          glued = subst (λ Θ. GluedAt 0 (Branches.branch_and count Θ T bs) sides count
              (again N.context w.reverted (stands w.variable (con_of w c con) solved-here (length con.fields))) T
              sides) (sym an) GluedAt.here;
          leads = typed-law made π (whole-reverted w.reverted σ (push fs σ) a
              (whole-fields q.args q.typed q.below σ a)) fits
              (all-shown-moved K Solution π σ ρ δ point
              (same-moved bodies π σ δ (again-agrees w.reverted (push fs σ) σ (δ₀ wide) (agrees wide wide-is))) s)
              (left-moved δ l);
        }
      where
        id : ConId
        id = record { family = w.family; place = c }

        π : ℕ → Term
        π = with_reverted σ w.reverted (push fs σ)

        wide : ℕ
        wide = length (fields_of w.mult w.params con)

        wide-is : length con.fields ≡ wide
        wide-is = sym (length-binds (push w.params closed) w.mult con.fields)

        δ₀ : ℕ → ℕ → Term
        δ₀ n = stands w.variable (con_of w c con) solved-here n

        ρ : ℕ → Seen
        ρ = rebound (Seen.open_at 0) seen_deeper w.reverted (seen_as w.variable id solved-here wide)

        δ : ℕ → Term
        δ = bound_again w.reverted (δ₀ wide)

        same : place ≡ c
        same = omega arith

        shape : σ w.variable ≡ node (Form.con w.family c (size w.params)) (q.own +++ fs)
        shape = q.shape ∙ ap (λ n. node (Form.con w.family n (size w.params)) (q.own +++ fs)) same

        hold : Hold (env K) σ (push fs σ) solved-here
        hold = q.solutions solved-here so

        agrees : (n : ℕ) → length con.fields ≡ n → Agrees (env K) (push fs σ) (δ₀ n) σ
        agrees n e = subst (λ n. Agrees (env K) (push fs σ) (δ₀ n) σ) e
            (split-agrees id w.variable (size w.params) w.params q.own fs solved-here σ (length con.fields) q.sized
            refl shape q.params hold)

        point : Point K Solution π ρ δ σ
        point = subst (λ n. Point K Solution π (rebound (Seen.open_at 0) seen_deeper w.reverted
            (seen_as w.variable id solved-here n)) (bound_again w.reverted (δ₀ n)) σ) wide-is
            (again-point K Solution w.reverted (push fs σ) σ (δ₀ (length con.fields))
            (seen_as w.variable id solved-here (length con.fields))
            (split-point-at K Solution id w.variable (size w.params) w.params q.own fs solved-here σ
            (length con.fields) q.own_sized q.sized
            (q.sized ∙ ap length (con-fields K w.family c
            (subst (λ n. IsCon (fam_at (env K) w.family).constructors n con) same at))) shape (hold-holds a hold)))

        fits : Fit (env K) (ext (ext N.context (sub_binds (push w.params closed) (scale w.mult con.fields)))
            (again N.context w.reverted (δ₀ wide))) π
        fits = fit-again bodies N.context (ext N.context (sub_binds (push w.params closed) (scale w.mult con.fields)))
            w.reverted σ (push fs σ) (δ₀ wide) g
            (fit-fields bodies q.args q.typed w.mult N.context σ (push w.params closed) g
            (λ i. subst (λ ρ. Conv (env K) (push q.own closed i) (ρ i)) (sym (push-then_sub w.params σ closed))
            (push-conv q.params closed closed (λ i. Conv.same) i)))
            (agrees wide wide-is) ir
