-- The clauses that are left at a node, and the first clause that fits.
use Rattle.std.proofs.Common.{◌≡◌, ℕ, zero, suc, ◌+◌, List, [], ◌∷◌, ◌++◌, map, length, Option, Some, None, slice_get, false, cond, refl, sym, ◌∙◌, ap, subst, arith}
use Rattle.qtt_base.specs.declared.place.GlobalId.{GlobalId}
use Rattle.qtt_base.specs.declared.place.Span.{Span}
use Rattle.qtt_usage.specs.declared.mult.Mult.{Mult}
use Rattle.qtt_syntax.specs.Tree.{Shape, shapes}
use Rattle.qtt_term.specs.Term.{Term, Terms, ε, ◌▸◌, skip}
use Rattle.qtt_term.specs.Substitution.{lift, subs}
use Rattle.qtt_term.specs.Signature.{Tele, Constructor, ConSig, con_sigs, family_at, fam_at}
use Rattle.qtt_term.specs.Judgement.{IsCon, sub_binds, scale}
use Rattle.qtt_term.specs.Entries.{Entries, env}
use Rattle.qtt_split.specs.Constructors.{fields_of, fields_at}
use Rattle.qtt_match.specs.Match.{all_fit, first_from}
use Rattle.qtt_split.specs.Tree.{Splitting, Tree, Branches, leaves, all_leaves}
use Rattle.qtt_split.specs.Node.{Clause, Column, Row, Node, Settled, settle_all, Decision, decide}
use Rattle.qtt_split.specs.Branch.{moved_row}
use Rattle.qtt_split.specs.Plan.{patterns_at}
use Rattle.qtt_split.specs.Relation.{RightSides, Made, MadeBranches}
use Rattle.qtt_split.specs.Laws.{AllDeep, Reaches, Follows}
use Rattle.qtt_clause_laws.proofs.Steps.{reaches-join}
use Rattle.qtt_clause_laws.proofs.Columns.{Reads, reads-moved, settled-reads, settled-left, AllOnVariables, AllStand}
use Rattle.qtt_clause_laws.proofs.Shown.{AllFaith, SolutionsOpen, goes-unfit, stands-fit}

-- of these clauses, the first of which has this number, those that are not left do not fit; each that is left reads
-- its patterns
pub data Left (K : Entries) (all : List Clause) (ts vs : Terms) : List Row → ℕ → List (List Shape) → Type 0 where
  none : {n : ℕ} → Left K all ts vs [] n []
  gone : {rows : List Row} {n : ℕ} {p : List Shape} {ps : List (List Shape)} →
      all_fit K.families (shapes p) vs ≡ false → Left K all ts vs rows (suc n) ps → Left K all ts vs rows n (p ∷ ps)
  still : {r : Row} {rows : List Row} {n : ℕ} {p : List Shape} {ps : List (List Shape)} → r.clause ≡ n →
      p ≡ patterns_at all n → Reads K (shapes p) ts r.columns →
      Left K all ts vs rows (suc n) ps → Left K all ts vs (r ∷ rows) n (p ∷ ps)

pub left-moved : {K : Entries} {all : List Clause} {ts vs : Terms} {rows : List Row} {n : ℕ} {ps : List (List Shape)}
    (δ : ℕ → Term) →
    Left K all ts vs rows n ps → Left K all (subs [] δ ts) vs (map (moved_row δ) rows) n ps
left-moved δ Left.none = Left.none
left-moved δ (Left.gone f h) = Left.gone f (left-moved δ h)
left-moved δ (Left.still e p r h) = Left.still e p (reads-moved δ r) (left-moved δ h)

pub decide-columns : (K : Entries) (r : Row) (rows : List Row) (cs : List Column) →
    settle_all K r.columns ≡ Settled.columns cs →
    decide K (r ∷ rows) ≡ Decision.decides (record { clause = r.clause; columns = cs }) rows
decide-columns K r rows cs e = rw (decide, e) refl

pub decide-goes : (K : Entries) (r : Row) (rows : List Row) → settle_all K r.columns ≡ Settled.goes →
    decide K (r ∷ rows) ≡ decide K rows
decide-goes K r rows e = rw (decide, e) refl

pub decide-sticks : (K : Entries) (r : Row) (rows : List Row) (s : Span) (t : Term) →
    settle_all K r.columns ≡ Settled.sticks s t → decide K (r ∷ rows) ≡ Decision.stuck_on s t
decide-sticks K r rows s t e = rw (decide, e) refl

pub row-of : {r q : Row} {rows others : List Row} → Decision.decides r rows ≡ Decision.decides q others →
    (r ≡ q) × (rows ≡ others)
row-of e = (cc e, cc e)

no-first : (K : Entries) (vs : Terms) (n : ℕ) (p : List Shape) (ps : List (List Shape)) →
    all_fit K.families (shapes p) vs ≡ false → first_from K.families n (p ∷ ps) vs ≡
    first_from K.families (suc n) ps vs
no-first K vs n p ps f = ap (λ b. cond b (Some n) (first_from K.families (suc n) ps vs)) f

module _ (K : Entries) (R : Term → Term → Type 0) (opening : SolutionsOpen K R) (all : List Clause) (ts vs : Terms)
    (π : ℕ → Term) (faith : AllFaith K R π ts vs) (deep : AllDeep (env K) vs) where
  pub decide-none : {rows : List Row} {n : ℕ} {ps : List (List Shape)} → Left K all ts vs rows n ps →
      decide K rows ≡ Decision.none_left → first_from K.families n ps vs ≡ None
  decide-none Left.none e = refl
  decide-none (Left.gone {n = n} {p = p} {ps = ps} f h) e = no-first K vs n p ps f ∙ decide-none h e
  decide-none (Left.still {r = r} {rows = rows} {n = n} {p = p} {ps = ps} c q x h) e =
      go (decide-none h) (settle_all K r.columns) refl
    where
      go : (decide K rows ≡ Decision.none_left → first_from K.families (suc n) ps vs ≡ None) → (o : Settled) →
          settle_all K r.columns ≡ o → first_from K.families n (p ∷ ps) vs ≡ None
      go k (Settled.columns cs) d = absurd (cc (sym (decide-columns K r rows cs d) ∙ e))
      go k Settled.goes d = no-first K vs n p ps (goes-unfit K R opening π x d faith deep)
          ∙ k (sym (decide-goes K r rows d) ∙ e)
      go k (Settled.sticks s t) d = absurd (cc (sym (decide-sticks K r rows s t d) ∙ e))

  pub decide-some : {rows : List Row} {n : ℕ} {ps : List (List Shape)} → Left K all ts vs rows n ps →
      (q : Row) (others : List Row) → decide K rows ≡ Decision.decides q others →
      Left K all ts vs (q ∷ others) n ps × AllOnVariables q.columns
  decide-some Left.none q others e = absurd (cc e)
  decide-some (Left.gone f h) q others e = let r = decide-some h q others e in (Left.gone f r.0, r.1)
  decide-some (Left.still {r = r} {rows = rows} {n = n} {p = p} {ps = ps} c s x h) q others e =
      go (decide-some h q others) (settle_all K r.columns) refl
    where
      go : (decide K rows ≡ Decision.decides q others →
          Left K all ts vs (q ∷ others) (suc n) ps × AllOnVariables q.columns) →
          (o : Settled) → settle_all K r.columns ≡ o → Left K all ts vs (q ∷ others) n (p ∷ ps) ×
          AllOnVariables q.columns
      go k (Settled.columns cs) d =
          let a = row-of (sym (decide-columns K r rows cs d) ∙ e) in (
            subst (λ rows. Left K all ts vs (q ∷ rows) n (p ∷ ps)) a.1
                (subst (λ q. Left K all ts vs (q ∷ rows) n (p ∷ ps)) a.0 (Left.still c s (settled-reads K x cs d) h)),
            subst (λ (q : Row). AllOnVariables q.columns) a.0 (settled-left K r.columns cs d),
          )
      go k Settled.goes d = let r = k (sym (decide-goes K r rows d) ∙ e) in
          (Left.gone (goes-unfit K R opening π x d faith deep) r.0, r.1)
      go k (Settled.sticks y t) d = absurd (cc (sym (decide-sticks K r rows y t d) ∙ e))

  -- at a leaf
  pub record First (r : Row) (n : ℕ) (ps : List (List Shape)) : Type 0 where
    pub is : first_from K.families n ps vs ≡ Some r.clause
    pub reads : Reads K (shapes (patterns_at all r.clause)) ts r.columns

  at-first : {rs : List Row} {n : ℕ} {ps : List (List Shape)} → Left K all ts vs rs n ps →
      (r : Row) (rows : List Row) → rs ≡ r ∷ rows → AllStand r.columns → First r n ps
  at-first Left.none r rows e a = absurd (cc e)
  at-first (Left.gone {n = n} {p = p} {ps = ps} f h) r rows e a = let k = at-first h r rows e a in
      record { is = no-first K vs n p ps f ∙ k.is; reads = k.reads }
  at-first (Left.still {r = q} {n = n} {p = p} {ps = ps} c s x h) r rows e a =
      let same : q ≡ r = cc e in
      let x' : Reads K (shapes p) ts r.columns = subst (λ (q : Row). Reads K (shapes p) ts q.columns) same x in
      let c' : r.clause ≡ n = ap (λ (q : Row). q.clause) (sym same) ∙ c in
      record {
        is = ap (λ b. cond b (Some n) (first_from K.families (suc n) ps vs)) (stands-fit K R opening π x' a faith deep)
            ∙ ap Some (sym c');
        reads = subst (λ p. Reads K (shapes p) ts r.columns) (s ∙ ap (patterns_at all) (sym c')) x';
      }

  pub first-is : {r : Row} {rows : List Row} {n : ℕ} {ps : List (List Shape)} → Left K all ts vs (r ∷ rows) n ps →
      AllStand r.columns → First r n ps
  first-is {r} {rows} h a = at-first h r rows refl a

pub follows-after : {K : Entries} {same : Term → Term → Type 0} {cs : List Clause} {side : RightSides} {vs : Terms}
    {t s : Term} {o : Option ℕ} → Reaches (env K) t s → Follows K same cs side vs s o → Follows K same cs side vs t o
follows-after h (Follows.trapped k e) = Follows.trapped (reaches-join h k) e
follows-after h (Follows.at_leaf N r d x f a s k) = Follows.at_leaf N r d x f a s (reaches-join h k)

-- ---- the right sides that a tree leaves
skip-none : (n : ℕ) → skip n ε ≡ ε
skip-none zero = refl
skip-none (suc n) = refl

skip-more : (m n : ℕ) (ts : Terms) → skip (m + n) ts ≡ skip n (skip m ts)
skip-more zero n ts = ap (λ k. skip k ts) (omega arith)
skip-more (suc m) n ε = skip-none (suc m + n) ∙ sym (skip-none n)
skip-more (suc m) n (t ▸ ts) = let e : suc m + n ≡ suc (m + n) = omega arith in
    ap (λ k. skip k (t ▸ ts)) e ∙ skip-more m n ts

length-append : {A : Type 0} (xs ys : List A) → length (xs ++ ys) ≡ length xs + length ys
length-append [] ys = omega arith
length-append (x ∷ xs) ys = let e : length (xs ++ ys) ≡ length xs + length ys = length-append xs ys in omega arith

mutual
  pub sides-left : {K : Entries} {side : RightSides} {N : Node} {T : Tree} {sides left : Terms} →
      Made K side N T sides left → left ≡ skip (length (leaves T)) sides
  sides-left (Made.none_left d) = refl
  sides-left (Made.leaf d x e) = refl
  sides-left (Made.split d ir ct pf cs zi h) = all-left h
  sides-left (Made.delete d ir ct ci e h) = sides-left h

  all-left : {K : Entries} {side : RightSides} {N : Node} {w : Splitting} {ts : Terms} {c : ℕ} {ds : List ConSig}
      {bs : Branches} {sides left : Terms} → MadeBranches K side N w ts c ds bs sides left →
      left ≡ skip (length (all_leaves bs)) sides
  all-left MadeBranches.none = refl
  all-left (MadeBranches.clashes e c h) = all-left h
  all-left (MadeBranches.solved {T = T} {bs = bs} {sides = sides} {rest = rest} names e s t m h) =
      all-left h ∙ ap (skip (length (all_leaves bs))) (sides-left m)
      ∙ sym (skip-more (length (leaves T)) (length (all_leaves bs)) sides)
      ∙ ap (λ n. skip n sides) (sym (length-append (leaves T) (all_leaves bs)))

-- ---- constructors
slice_fields : (f : GlobalId) (k n : ℕ) (ds : List Constructor) (c : ℕ) {s : ConSig} → IsCon (con_sigs f k n ds) c s →
    s.fields ≡ fields_of (slice_get ds c)
slice_fields f k n [] c h = elim h [ ]
slice_fields f k n (d ∷ ds) c IsCon.here = refl
slice_fields f k n (d ∷ ds) c (IsCon.there {n = e} h) = slice_fields f k (suc n) ds e h

pub con-fields : (K : Entries) (f : GlobalId) (c : ℕ) {s : ConSig} → IsCon (fam_at (env K) f).constructors c s →
    s.fields ≡ fields_at K f c
con-fields K f c h = slice_fields f (length (family_at (env K) f).params) 0 (family_at (env K) f).constructors c h

pub length-binds : (σ : ℕ → Term) (q : Mult) (Θ : Tele) → length (sub_binds σ (scale q Θ)) ≡ length Θ
length-binds σ q [] = refl
length-binds σ q (b ∷ Θ) = ap suc (length-binds (lift σ) q Θ)
