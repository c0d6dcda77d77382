-- What is accepted is made by the relation.
use Rattle.std.proofs.Common.{◌≡◌, ℕ, ◌+◌, List, [], length, Bool, true, false, Some, slice_get, refl, sym, ◌∙◌, ap, subst, arith}
use Rattle.qtt_usage.specs.Uses.{Use}
use Rattle.qtt_term.specs.Term.{Term, Terms, var, ε}
use Rattle.qtt_term.specs.Substitution.{Closed}
use Rattle.qtt_term.specs.Signature.{Env, ConSig}
use Rattle.qtt_term.specs.Contraction.{Conv}
use Rattle.qtt_term.specs.Judgement.{ext, Typed}
use Rattle.qtt_term.specs.Environment.{ResultsCounted}
use Rattle.qtt_term.specs.Ask.{Ask, Ending, Ends, asked_at}
use Rattle.qtt_term.specs.Infer.{Inferred, infer}
use Rattle.qtt_term.specs.Entries.{Entries, env}
use Rattle.qtt_core_check.proofs.Sound.{sound}
use Rattle.qtt_rules.specs.Refusal.{Place}
use Rattle.qtt_rules.specs.Asks.{alike}
use Rattle.qtt_rules.specs.Judged.{Judges}
use Rattle.qtt_unify.proofs.Endings.{parts, ended}
use Rattle.qtt_split.specs.Tree.{Leaf, Splitting, Tree, Branches, leaves, lams, glue}
use Rattle.qtt_split.specs.Node.{Clause, Node, Row}
use Rattle.qtt_split.specs.Split.{Group}
use Rattle.qtt_split.specs.Plan.{start, leaf_of, Planned, plan}
use Rattle.qtt_split.specs.Group.{Defined, all_sides, in_order, side_at, or_body_refused, body_holds, tree_of, body_of}
use Rattle.qtt_split.specs.Relation.{RightSides, Made, MadeBranches}
use Rattle.qtt_split.specs.Laws.{Replies, Elaborated, MadeBody, BodiesAreMade}
use Rattle.qtt_clause_laws.specs.Planned.{right_sides}
use Rattle.qtt_clause_laws.proofs.Answering.{Answering, unbounded, budgeted}
use Rattle.qtt_clause_laws.proofs.Planned.{given-sides, plan-made}
use Rattle.qtt_clause_laws.proofs.Ordered.{leaves-below, start-below, At, at-below, at-get, there-is, SideIs, Listed, numbered, ordered, LeavesBelow}
use Rattle.qtt_clause_laws.proofs.Scoped.{accepted_is_closed_holds}

-- ---- right sides by another relation
mutual
  made-as : {K : Entries} {R S : RightSides} → ((N : Node) (r : Row) (t : Term) → R N r t → S N r t) →
      {N : Node} {T : Tree} {ts left : Terms} → Made K R N T ts left → Made K S N T ts left
  made-as h (Made.none_left d) = Made.none_left d
  made-as h (Made.leaf {N = N} {r = r} {t = t} d x s) = Made.leaf d x (h N r t s)
  made-as h (Made.split d ir ct pf cs zi m) = Made.split d ir ct pf cs zi (branches-as h m)
  made-as h (Made.delete d ir ct ci e m) = Made.delete d ir ct ci e (made-as h m)

  branches-as : {K : Entries} {R S : RightSides} →
      ((N : Node) (r : Row) (t : Term) → R N r t → S N r t) → {N : Node} {w : Splitting} {us : Terms} {c : ℕ}
      {ds : List ConSig} {bs : Branches} {ts left : Terms} → MadeBranches K R N w us c ds bs ts left →
      MadeBranches K S N w us c ds bs ts left
  branches-as h MadeBranches.none = MadeBranches.none
  branches-as h (MadeBranches.clashes e c m) = MadeBranches.clashes e c (branches-as h m)
  branches-as h (MadeBranches.solved names e s a m ms) =
      MadeBranches.solved names e s a (made-as h m) (branches-as h ms)

-- ---- the body is judged once more
pub record AskedOk {F P G Q A B : Type 0} (E : Env) (m : Ask F P A) (next : A → Ask G Q B) (b : B) : Type 0 where
  pub answer : A
  pub first : Ends E m (Ending.ok answer)
  pub after : Ends E (next answer) (Ending.ok b)

-- a core judgement that is asked at one place
asked-ok : {F P G Q A B : Type 0} {E : Env} (q : Q) (m : Ask F P A) (next : A → Ask G Q B)
    (otherwise : F → Ask G Q B) →
    ((f : F) (b : B) → Ends E (otherwise f) (Ending.ok b) → ⊥) → (b : B) →
    Ends E (asked_at q m next otherwise) (Ending.ok b) → AskedOk E m next b
unfolding asked_at
asked-ok q (Ask.done a) next otherwise bad b e = record { answer = a; first = Ends.is_done; after = e }
asked-ok q (Ask.fail f) next otherwise bad b e = absurd (bad f b e)
asked-ok q (Ask.head p d t g) next otherwise bad b (Ends.has_head {h = h} x e) =
    let r = asked-ok q (g h) next otherwise bad b e in
    record { answer = r.answer; first = Ends.has_head x r.first; after = r.after }
asked-ok q (Ask.read p d t g) next otherwise bad b (Ends.has_reading {r = h} x e) =
    let r = asked-ok q (g h) next otherwise bad b e in
    record { answer = r.answer; first = Ends.has_reading x r.first; after = r.after }
asked-ok q (Ask.compare p d t s m w) next otherwise bad b (Ends.are_equal x e) =
    let r = asked-ok q m next otherwise bad b e in
    record { answer = r.answer; first = Ends.are_equal x r.first; after = r.after }
asked-ok q (Ask.compare p d t s m w) next otherwise bad b (Ends.are_different x e) =
    let r = asked-ok q w next otherwise bad b e in
    record { answer = r.answer; first = Ends.are_different x r.first; after = r.after }

-- two terms that are found to be alike
found-alike : {E : Env} (p : Place) (n : ℕ) (t s : Term) (b : Bool) → Ends E (alike p n t s) (Ending.ok b) → b ≡ true →
    Conv E t s
found-alike p n t s b (Ends.are_equal c x) q = c
found-alike p n t s b (Ends.are_different c x) q = absurd (cc (ended false b x ∙ q))

not-refused : {E : Env} (D : Defined) (b : Bool) (u : Unit {0}) → Ends E (or_body_refused D b) (Ending.ok u) → b ≡ true
not-refused D true u e = refl
not-refused D false u e = elim e [ ]

record BodyJudged (D : Defined) (body : Term) : Type 0 where
  inferred : Inferred
  ends : Ends (env D.group.globals) (infer (env D.group.globals) D.group.part [] body) (Ending.ok inferred)
  alike : Conv (env D.group.globals) inferred.type D.type

body-judged : (D : Defined) (body : Term) (u : Unit {0}) →
    Ends (env D.group.globals) (body_holds D body) (Ending.ok u) → BodyJudged D body
unfolding body_holds
body-judged D body u e =
    let r = asked-ok _ (infer (env D.group.globals) D.group.part [] body) _ _ (λ f b x. elim x [ ]) u e in
    let a = parts _ _ u r.after in
    record {
      inferred = r.answer;
      ends = r.first;
      alike = found-alike _ 0 r.answer.type D.type a.mid a.first (not-refused D a.mid u a.after);
    }

-- ---- bodies
planned : (D : Defined) (P : Planned) → Ends (env D.group.globals) (tree_of D) (Ending.ok P) →
    Ends (env D.group.globals) (plan D.group D.type D.labels) (Ending.ok P)
unfolding tree_of
planned D P e =
    let a = parts (plan D.group D.type D.labels) _ P e in
    let b = parts _ _ P a.after in
    let c = parts _ _ P b.after in
    subst (λ P. Ends (env D.group.globals) (plan D.group D.type D.labels) (Ending.ok P)) (ended a.mid P c.after)
    a.first

-- the right side of the clause of a leaf, which is one of the tree's
record SideOfLeaf (says : Replies) (judge : Judges) (G : Group) (T : Tree) (l : Leaf) (t : Term) : Type 0 where
  number : ℕ
  leaf : slice_get (leaves T) number ≡ Some l
  clause : Clause
  there : slice_get G.clauses l.clause ≡ Some clause
  side : SideIs says judge G.part clause l t

elaborated : (says : Replies) (judge : Judges) (G : Group) (T : Tree) (N : Node) (r : Row) (t : Term) →
    SideOfLeaf says judge G T (leaf_of G N r) t → Elaborated says judge G T N r t
elaborated says judge G T N r t s = record {
  number = s.number;
  leaf = s.leaf;
  clause = s.clause;
  there = s.there;
  judged = s.side.judged;
  answered = s.side.answered;
  core = s.side.core;
}

pub body-made : (D : Defined) (W : Answering (env D.group.globals)) (judge : Judges) (body : Term) →
    W.says (body_of judge D) body → MadeBody W.says judge D body
unfolding body_of
body-made D W judge body e =
    let a = W.bound (tree_of D) _ body e in
    let T : Tree = a.mid.tree in
    let d = W.bound (all_sides (side_at judge D.group.part) 0 D.group.clauses (leaves T)) _ body a.after in
    let sides : Terms = in_order 0 (leaves T) d.mid in
    let h = W.bound (body_holds D (lams a.mid.opened (glue T sides))) _ body d.after in
    let P = plan-made D.group D.type D.labels a.mid (planned D a.mid (W.ends (tree_of D) a.mid a.first)) in
    let is : lams a.mid.opened (glue T sides) ≡ body = W.only _ body h.after in
    let j = body-judged D (lams a.mid.opened (glue T sides)) h.mid (W.ends _ h.mid h.first) in
    let below : LeavesBelow (length D.group.clauses) (leaves T) =
    leaves-below D.group.globals (length D.group.clauses) (start D.group D.labels P.opened) T
    (P.made (λ l t. t ≡ var l.clause) (right_sides (λ (l : Leaf). var l.clause) (leaves T) ε)
    (given-sides (λ (l : Leaf). var l.clause) (leaves T) ε))
    (start-below (ext [] P.opened.binders) 0 D.group.clauses (length D.group.clauses) (omega arith)) in
    record {
      opened = P.opened;
      tree = T;
      sides = sides;
      opens = P.opens;
      made = record {
        wide = P.wide;
        made = made-as (elaborated W.says judge D.group T)
            (P.made (SideOfLeaf W.says judge D.group T) sides
            (ordered (SideOfLeaf W.says judge D.group T) d.mid 0 (leaves T)
            (λ k l at. listed T d.mid d.first below k l at)));
        closed = subst (λ Θ. Closed (lams Θ (glue T sides))) P.is
            (accepted_is_closed_holds (env D.group.globals) D.group.part (lams a.mid.opened (glue T sides))
            j.inferred j.ends);
      };
      is = sym is ∙ ap (λ Θ. lams Θ (glue T sides)) P.is;
    }
  where
    listed : (T : Tree) (es : List (ℕ × Term)) →
        W.says (all_sides (side_at judge D.group.part) 0 D.group.clauses (leaves T)) es →
        LeavesBelow (length D.group.clauses) (leaves T) → (j : ℕ) (l : Leaf) → At (leaves T) j l →
        Listed (SideOfLeaf W.says judge D.group T l) (0 + j) es
    listed T es w below j l at =
        let c = there-is D.group.clauses l.clause (at-below below at) in
        let r = numbered (env D.group.globals) W judge D.group.part 0 D.group.clauses (leaves T) es w at l.clause c.0
        c.1
        (omega arith) in
        let z : j ≡ 0 + j = omega arith in
        subst (λ j. Listed (SideOfLeaf W.says judge D.group T l) j es) z
        (record {
          term = r.term;
          side = record { number = j; leaf = at-get at; clause = c.0; there = c.1; side = r.side };
          there = r.there;
        })

pub body-typed : (D : Defined) (W : Answering (env D.group.globals)) (judge : Judges) (body : Term) →
    ResultsCounted (env D.group.globals) → W.says (body_of judge D) body →
    (u : Use) × Typed (env D.group.globals) D.group.part [] body D.type u
unfolding body_of
body-typed D W judge body counted e =
    let a = W.bound (tree_of D) _ body e in
    let d = W.bound _ _ body a.after in
    let h = W.bound (body_holds D _) _ body d.after in
    let j = body-judged D _ h.mid (W.ends _ h.mid h.first) in
    let t = (sound (env D.group.globals) counted).has_uses D.group.part [] _ j.inferred j.ends in (
      t.use_of_term,
      subst (λ b. Typed (env D.group.globals) D.group.part [] b D.type t.use_of_term) (W.only _ body h.after)
          (Typed.conversion t.holds j.alike),
    )

pub bodies_are_made_holds : BodiesAreMade
bodies_are_made_holds = record {
  within_budget = λ judge D n body e. body-made D (budgeted (env D.group.globals) n) judge body e;
  without = λ judge D body e. body-made D (unbounded (env D.group.globals)) judge body e;
}
