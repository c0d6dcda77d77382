-- What a group of clauses gives as a relation, rule by rule.
use Rattle.std.specs.Prelude.{◌≡◌, ℕ, suc, ◌<◌, ◌⊎◌, true, List, [], ◌∷◌, ◌++◌, length, reverse, Any, None}
use Rattle.qtt_base.specs.declared.place.Span.{Span}
use Rattle.qtt_usage.specs.Mult.{fits}
use Rattle.qtt_syntax.specs.Tree.{Tree}
use Rattle.qtt_term.specs.Term.{Term}
use Rattle.qtt_term.specs.Contraction.{Conv}
use Rattle.qtt_term.specs.Judgement.{Part}
use Rattle.qtt_term.specs.Ask.{Ending, Ends}
use Rattle.qtt_term.specs.Infer.{Inferred, infer}
use Rattle.qtt_term.specs.Entries.{Entries, env}
use Rattle.qtt_rules.specs.Judged.{Judged, Mode}
use Rattle.qtt_split.specs.Tree.{Leaf, leaves}
use Rattle.qtt_split.specs.Missing.{uncovered}
use Rattle.qtt_split.specs.Node.{Clause}
use Rattle.qtt_split.specs.Plan.{Planned, plan}
use Rattle.qtt_split.specs.Group.{Defined, dots_of, scope_at, Numbered, body_with}
use Rattle.qtt_bidi.specs.Rules.{Elaborates}
use Rattle.qtt_holes.specs.Hole.{Hole}
use Rattle.qtt_holes.specs.Rules.{UsesPass, HasHole}
use Rattle.qtt_module.specs.Sides.{names_of, Side, holes_from, cores, Given}

-- ---- the tree
-- the clauses make this tree
abbrev pub Plans : Defined → Planned → Type 0
Plans D P = Ends (env D.group.globals) (plan D.group D.type D.labels) (Ending.ok P)

-- it covers all values, or the definition may miss some
abbrev pub Covers : Defined → Planned → Type 0
Covers D P = (uncovered P.tree ≡ None) ⊎ (D.may_miss ≡ true)

-- each clause has a leaf
abbrev pub IsReached : Planned → ℕ → Type 0
IsReached P n = Any (λ (l : Leaf). l.clause ≡ n) (leaves P.tree)

pub record HasTree (D : Defined) (P : Planned) : Type 0 where
  pub planned : Plans D P
  pub covers : Covers D P
  pub reached : (n : ℕ) → n < length D.group.clauses → IsReached P n

-- ---- a clause at a leaf
-- each dot pattern, in the erased part, is the term of its column
pub data DotsAgree (G : Entries) (l : Leaf) : List (Tree × Span) → List (Term × Term) → Type 0 where
  no_dot : {cs : List (Term × Term)} → DotsAgree G l [] cs
  no_column : {ds : List (Tree × Span)} → DotsAgree G l ds []
  more : {d : Tree × Span} {ds : List (Tree × Span)} {c : Term × Term} {cs : List (Term × Term)} {j : Judged} →
      Elaborates G Part.erased (scope_at l) (Mode.check c.1) d.0 j → Conv (env G) j.core c.0 → DotsAgree G l ds cs →
      DotsAgree G l (d ∷ ds) (c ∷ cs)

-- its right side against the leaf's goal, with uses that fit, or its hole
pub data GivesSide (G : Entries) (p : Part) (c : Clause) (l : Leaf) : Side → Type 0 where
  elaborates : {j : Judged} →
      DotsAgree G l (dots_of c.patterns) l.dots → Elaborates G p (scope_at l) (Mode.check l.goal) c.side j →
      UsesPass fits p l.context j.uses l.reported → GivesSide G p c l (Side.core j.core)
  has_hole : {h : Hole} →
      DotsAgree G l (dots_of c.patterns) l.dots →
      HasHole G p (scope_at l) (reverse (names_of c.patterns)) l.reported c.side l.goal h →
      GivesSide G p c l (Side.hole h)

-- clause n at each of its leaves in tree order, the first of which has number k
pub data GivesSides (G : Entries) (p : Part) (n : ℕ) (c : Clause) : ℕ → List Leaf → Numbered Side → Type 0 where
  none : {k : ℕ} → GivesSides G p n c k [] []
  its_own : {k : ℕ} {l : Leaf} {ls : List Leaf} {x : Side} {xs : Numbered Side} →
      l.clause ≡ n → GivesSide G p c l x → GivesSides G p n c (suc k) ls xs →
      GivesSides G p n c k (l ∷ ls) ((k, x) ∷ xs)
  another : {k : ℕ} {l : Leaf} {ls : List Leaf} {xs : Numbered Side} →
      (l.clause ≡ n → ⊥) → GivesSides G p n c (suc k) ls xs → GivesSides G p n c k (l ∷ ls) xs

-- clauses in text order, the first of which has number n
pub data GivesAllSides (G : Entries) (p : Part) (ls : List Leaf) : ℕ → List Clause → Numbered Side → Type 0 where
  none : {n : ℕ} → GivesAllSides G p ls n [] []
  more : {n : ℕ} {c : Clause} {cs : List Clause} {xs ys : Numbered Side} →
      GivesSides G p n c 0 ls xs → GivesAllSides G p ls (suc n) cs ys → GivesAllSides G p ls n (c ∷ cs) (xs ++ ys)

-- ---- the body
-- the core judgement accepts it, with a type that is convertible to the definition's
pub record BodyAccepted (D : Defined) (body : Term) : Type 0 where
  pub found : Inferred
  pub accepted : Ends (env D.group.globals) (infer (env D.group.globals) D.group.part [] body) (Ending.ok found)
  pub same_type : Conv (env D.group.globals) found.type D.type

-- a group gives its body, or, where a clause has a hole, its holes
pub data GivesGroup (D : Defined) : Given → Type 0 where
  has_body : {P : Planned} {xs : Numbered Side} →
      HasTree D P → GivesAllSides D.group.globals D.group.part (leaves P.tree) 0 D.group.clauses xs →
      holes_from [] xs ≡ [] → BodyAccepted D (body_with P (cores xs)) →
      GivesGroup D (Given.body (body_with P (cores xs)))
  has_holes : {P : Planned} {xs : Numbered Side} {h : Hole} {hs : List Hole} →
      HasTree D P → GivesAllSides D.group.globals D.group.part (leaves P.tree) 0 D.group.clauses xs →
      holes_from [] xs ≡ h ∷ hs → GivesGroup D (Given.holes (h ∷ hs))
