-- What is said of each body that is accepted: its type, its tree, and both clause laws.
use Rattle.std.specs.Prelude.{◌≡◌, ℕ, List, [], length, Some}
use Rattle.qtt_base.specs.declared.place.GlobalId.{GlobalId}
use Rattle.qtt_usage.specs.declared.mult.Mult.{Mult}
use Rattle.qtt_usage.specs.Uses.{Use}
use Rattle.qtt_term.specs.Term.{Term, Terms, ε, ◌▸◌, size, Pi, Def}
use Rattle.qtt_term.specs.Substitution.{sub, push, inst, closed}
use Rattle.qtt_term.specs.Signature.{Tele, Env, There, family_at, definition_at}
use Rattle.qtt_term.specs.Contraction.{BodiesClosed, Conv}
use Rattle.qtt_term.specs.Judgement.{Part, under, Judged, Args, Typed, TypedAll}
use Rattle.qtt_term.specs.Environment.{HasPrim, ResultsCounted}
use Rattle.qtt_term.specs.Entries.{Entries, env}
use Rattle.qtt_rules.specs.Judged.{Judges}
use Rattle.qtt_match.specs.Match.{first_match}
use Rattle.qtt_split.specs.Seen.{Sights}
use Rattle.qtt_split.specs.Tree.{Tree, Branches}
use Rattle.qtt_split.specs.Group.{Defined, body_of}
use Rattle.qtt_split.specs.Laws.{AllDeep, AllFilled, Unsolved, Follows, all_patterns, applied_to, answers_within, answers, Replies, Elaborated, MadeBody, Examines}
use Rattle.qtt_clause_laws.specs.Larger.{Larger}

-- ---- each split is of a family that there is, and has as many indices
abbrev mutual
  pub Indexed : Entries → Tree → Type 0
  Indexed K (Tree.split w bs) =
      There ((env K).family w.family) × (w.indices ≡ length (family_at (env K) w.family).indices) × AllIndexed K bs
  Indexed K (Tree.delete w Θ T) = Indexed K T
  Indexed K _ = Unit {0}

  pub AllIndexed : Entries → Branches → Type 0
  AllIndexed K Branches.no_branch = Unit {0}
  AllIndexed K (Branches.branch_and n Θ T bs) = Indexed K T × AllIndexed K bs

-- ---- no split is of a family with indices; a deletion is one of Eq, which has an index
abbrev mutual
  pub Unindexed : Entries → Tree → Type 0
  Unindexed K (Tree.split w bs) = ((family_at (env K) w.family).indices ≡ []) × AllUnindexed K bs
  Unindexed K (Tree.delete w Θ T) = ⊥
  Unindexed K _ = Unit {0}

  pub AllUnindexed : Entries → Branches → Type 0
  AllUnindexed K Branches.no_branch = Unit {0}
  AllUnindexed K (Branches.branch_and n Θ T bs) = Unindexed K T × AllUnindexed K bs

-- ---- arguments of a type's argument types, one after another and up to conversion, in the run part; those at 0
-- erased
pub data Takes (E : Env) : Term → Terms → Type 0 where
  none : {A : Term} → Takes E A ε
  more : {A B C v : Term} {vs : Terms} {q : Mult} {u : Use} → Conv E A (Pi q B C) →
      Typed E (under Part.run q) [] v B u → Takes E (inst C v) vs → Takes E A (v ▸ vs)

-- ---- a term goes on in an environment as the first clause that fits these arguments, with right sides as they were
-- elaborated at the leaves; solutions are the same so as the values that they stand for
abbrev pub GoesOnAs : {says : Replies} {judge : Judges} {D : Defined} {body : Term} → MadeBody says judge D body →
    Entries → (Term → Term → Type 0) → Term → Terms → Type 0
GoesOnAs {says} {judge} {D} M L same t vs =
    Follows L same D.group.clauses (Elaborated says judge D.group M.tree) vs t
    (first_match L.families (all_patterns D.group.clauses) vs)

-- the body does, applied to them
abbrev pub BodyGoesOn : {says : Replies} {judge : Judges} {D : Defined} {body : Term} → MadeBody says judge D body →
    Entries → (Term → Term → Type 0) → Terms → Type 0
BodyGoesOn {body = body} M L same vs = GoesOnAs M L same (applied_to body M.opened.binders vs) vs

-- a definition has this type and this body
pub record Defines (E : Env) (d : GlobalId) (A b : Term) : Type 0 where
  pub type : (definition_at E d).type ≡ A
  pub body : (definition_at E d).body ≡ Some b

-- in the environment in which the body was accepted, and in each larger one
pub record AcceptedBody (says : Replies) (judge : Judges) (D : Defined) (body : Term) : Type 0 where
  pub made : MadeBody says judge D body
  pub use_of_body : Use
  pub has_type : Typed (env D.group.globals) D.group.part [] body D.type use_of_body
  pub indexed : Indexed D.group.globals made.tree
  -- without types, where no split is of a family with indices and a constructor stands wherever a split looks
  pub plain : Unindexed D.group.globals made.tree → (L : Entries) → Larger D.group.globals L D.group.clauses →
      (vs : Terms) → size vs ≡ length made.opened.binders → AllDeep (env L) vs →
      Examines L made.tree (push vs closed) → BodyGoesOn made L Unsolved vs
  -- for arguments of the opened types
  pub typed : (L : Entries) → Larger D.group.globals L D.group.clauses → HasPrim (env L) → BodiesClosed (env L) →
      (vs : Terms) (js : List Judged) → AllDeep (env L) vs → Args made.opened.binders closed vs js →
      TypedAll (env L) Part.run [] [] vs js → BodyGoesOn made L (Conv (env L)) vs
  -- for arguments of the definition's argument types, as a use of the definition has them
  pub at_its_type : (L : Entries) → Larger D.group.globals L D.group.clauses → HasPrim (env L) →
      BodiesClosed (env L) → (vs : Terms) → size vs ≡ length made.opened.binders → AllDeep (env L) vs →
      Takes (env L) (sub closed D.type) vs → BodyGoesOn made L (Conv (env L)) vs
  -- for typed applications of the definition itself, where it has this body; of Θ the multiplicities alone are looked
  -- at
  pub applied : (L : Entries) → Larger D.group.globals L D.group.clauses → HasPrim (env L) → BodiesClosed (env L) →
      (d : GlobalId) → Defines (env L) d D.type body → (Θ : Tele) (vs : Terms) → size vs ≡ length made.opened.binders →
      AllDeep (env L) vs → size vs ≡ length Θ → (C : Term) (u : Use) →
      Typed (env L) Part.run [] (applied_to (Def d) Θ vs) C u →
      GoesOnAs made L (Conv (env L)) (applied_to (Def d) Θ vs) vs

-- within a budget, and without one
pub record AcceptedBodiesGoOn : Type 0 where
  pub within_budget : (judge : Judges) (D : Defined) (n : ℕ) (body : Term) → ResultsCounted (env D.group.globals) →
      answers_within (env D.group.globals) n (body_of judge D) body →
      AcceptedBody (answers_within (env D.group.globals) n) judge D body
  pub without : (judge : Judges) (D : Defined) (body : Term) → ResultsCounted (env D.group.globals) →
      answers (env D.group.globals) (body_of judge D) body → AcceptedBody (answers (env D.group.globals)) judge D body

-- ---- what is asked of environments is so of each well-formed one
pub record Enough (E : Env) : Type 0 where
  pub prims : HasPrim E
  pub bodies : BodiesClosed E
  pub results : ResultsCounted E

-- ---- where no place is solved, as in the law without types, the values that are meant are those that are given
abbrev pub UnsolvedValuesStay : Type 0
UnsolvedValuesStay = (π : ℕ → Term) (ss : Sights) (vs ws : Terms) → AllFilled Unsolved π ss vs ws → ws ≡ vs
