-- No Tape stands in the body that an accepted group of clauses gives.
use Rattle.std.proofs.Common.{◌≡◌, ℕ, zero, suc, Bool, true, false, cond, eqb, List, [], ◌∷◌, ◌++◌, reverse, length, Some, sym, subst}
use Rattle.std.proofs.lemmas.List.{reverse-append}
use Rattle.qtt_base.specs.declared.place.Span.{Span}
use Rattle.qtt_syntax.specs.Tree.{Shape}
use Rattle.qtt_term.specs.Term.{Term, Terms, ◌▸◌, Pi}
use Rattle.qtt_term.specs.Judgement.{Ctx, ext}
use Rattle.qtt_term.specs.Ask.{Ask, ◌>>=◌, Ending, Ends}
use Rattle.qtt_term.specs.Environment.{NoTape, NoTapes}
use Rattle.qtt_term.specs.Entries.{Entries, env}
use Rattle.qtt_term.specs.Forms.{Function, as_function}
use Rattle.qtt_term.proofs.Options.{none≢some, some-injective}
use Rattle.qtt_rules.specs.Judged.{Mode}
use Rattle.qtt_core_check.proofs.Parts.{parts, ended}
use Rattle.qtt_clause_laws.proofs.Asked.{found-is}
use Rattle.qtt_split.specs.Tree.{Leaf, Tree, Branches, glue, leaves, all_leaves}
use Rattle.qtt_split.specs.Node.{Clause, all_constructors}
use Rattle.qtt_split.specs.Seen.{oldest_first}
use Rattle.qtt_split.specs.Plan.{Opened, opened, start_columns, start_rows, start, Planned, plan}
use Rattle.qtt_split.specs.Group.{Defined, dots_of, dots_agree, scope_at, side_at, Numbered, sides_of, all_sides, with_number, in_order, tree_of, body_with, body_holds}
use Rattle.qtt_bidi.specs.Elaboration.{judge}
use Rattle.qtt_bidi.proofs.Derived.{derived}
use Rattle.qtt_holes.specs.Hole.{Hole}
use Rattle.qtt_holes.specs.Walk.{has_hole, walk}
use Rattle.qtt_module.specs.Sides.{names_of, Side, side_or_hole, cores, holes_from, Given, end_group, group_of}
use Rattle.qtt_accepted.specs.Tapeless.{TeleTapeless, Tapeless, NamesTapeless}
use Rattle.qtt_accepted.specs.Laws.{GroupsMakeNoTape}
use Rattle.qtt_accepted.proofs.Elaborated.{elaborated}
use Rattle.qtt_accepted.proofs.Motives.{type-clean}
use Rattle.qtt_accepted.proofs.Trees.{ColumnsTapeless, RowsTapeless, LeafTapeless, TreeTapeless, BranchesTapeless, lams-clean, glue-clean, ext-clean}
use Rattle.qtt_accepted.proofs.Growing.{head-answer, grow-clean}

-- ---- lists of names
names-joined : (xs ys : List (Term × Term)) → NamesTapeless xs → NamesTapeless ys → NamesTapeless (xs ++ ys)
names-joined [] ys h k = k
names-joined (x ∷ xs) ys h k = (h.0, names-joined xs ys h.1 k)

names-turned : (xs : List (Term × Term)) → NamesTapeless xs → NamesTapeless (reverse xs)
names-turned [] h = tt
names-turned (x ∷ xs) h =
    subst NamesTapeless (sym (reverse-append (x ∷ []) xs))
    (names-joined (reverse xs) (x ∷ []) (names-turned xs h.1) (h.0, tt))

-- ---- the leaves of a tree
abbrev LeavesTapeless : List Leaf → Type 0
LeavesTapeless [] = Unit {0}
LeavesTapeless (l ∷ ls) = LeafTapeless l × LeavesTapeless ls

leaves-joined : (ls ms : List Leaf) → LeavesTapeless ls → LeavesTapeless ms → LeavesTapeless (ls ++ ms)
leaves-joined [] ms h k = k
leaves-joined (l ∷ ls) ms h k = (h.0, leaves-joined ls ms h.1 k)

mutual
  leaves-clean : (T : Tree) → TreeTapeless T → LeavesTapeless (leaves T)
  leaves-clean (Tree.leaf l) h = (h, tt)
  leaves-clean (Tree.split w bs) h = all-leaves-clean bs h.1
  leaves-clean (Tree.delete w Θ T) h = leaves-clean T h.1.1
  leaves-clean (Tree.absurd A) h = tt
  leaves-clean (Tree.missing A ps) h = tt

  all-leaves-clean : (bs : Branches) → BranchesTapeless bs → LeavesTapeless (all_leaves bs)
  all-leaves-clean Branches.no_branch h = tt
  all-leaves-clean (Branches.branch_and n Θ T bs) h =
      leaves-joined (leaves T) (all_leaves bs) (leaves-clean T h.1.0) (all-leaves-clean bs h.1.1)

-- ---- right sides
abbrev SideTapeless : Side → Type 0
SideTapeless (Side.core t) = NoTape t
SideTapeless (Side.hole h) = Unit {0}

abbrev SidesTapeless : Numbered Side → Type 0
SidesTapeless [] = Unit {0}
SidesTapeless (x ∷ xs) = SideTapeless x.1 × SidesTapeless xs

abbrev CoresTapeless : Numbered Term → Type 0
CoresTapeless [] = Unit {0}
CoresTapeless (x ∷ xs) = NoTape x.1 × CoresTapeless xs

sides-joined : (xs ys : Numbered Side) → SidesTapeless xs → SidesTapeless ys → SidesTapeless (xs ++ ys)
sides-joined [] ys h k = k
sides-joined (x ∷ xs) ys h k = (h.0, sides-joined xs ys h.1 k)

cores-clean : (xs : Numbered Side) → SidesTapeless xs → CoresTapeless (cores xs)
cores-clean [] h = tt
cores-clean ((k, Side.core t) ∷ xs) h = (h.0, cores-clean xs h.1)
cores-clean ((k, Side.hole x) ∷ xs) h = cores-clean xs h.1

numbered-clean : (k : ℕ) (es : Numbered Term) (ts : Terms) → CoresTapeless es → NoTapes ts →
    NoTapes (with_number k es ts)
numbered-clean k [] ts h n = n
numbered-clean k (e ∷ es) ts h n = by_test (eqb e.0 k) (numbered-clean k es ts h.1 n)
  where
    by_test : (b : Bool) → NoTapes (with_number k es ts) → NoTapes (cond b (e.1 ▸ ts) (with_number k es ts))
    by_test true m = (h.0, n)
    by_test false m = m

order-clean : (k : ℕ) (ls : List Leaf) (es : Numbered Term) → CoresTapeless es → NoTapes (in_order k ls es)
order-clean k [] es h = tt
order-clean k (l ∷ ls) es h = numbered-clean k es (in_order (suc k) ls es) h (order-clean (suc k) ls es h)

-- ---- opened binders
record OpenedTapeless (O : Opened) : Type 0 where
  binders : TeleTapeless O.binders
  goal : NoTape O.goal

function-clean : (h : Term) (F : Function) → as_function h ≡ Some F → NoTape h → NoTape F.domain × NoTape F.codomain
function-clean (Pi q A B) F e n =
    subst (λ (X : Function). NoTape X.domain × NoTape X.codomain) (some-injective e) (n.1.0, n.1.1.0)
function-clean _ F e n = absurd (none≢some e)

columns-clean : (Γ : Ctx) (ps : List Shape) (is : List ℕ) → TeleTapeless Γ → ColumnsTapeless (start_columns Γ ps is)
columns-clean Γ [] is h = tt
columns-clean Γ (p ∷ ps) [] h = tt
columns-clean Γ (p ∷ ps) (i ∷ is) h =
    (record { term = tt; type = type-clean Γ i h }, columns-clean Γ ps is h)

rows-clean : (Γ : Ctx) (n : ℕ) (cs : List Clause) → TeleTapeless Γ → RowsTapeless (start_rows Γ n cs)
rows-clean Γ n [] h = tt
rows-clean Γ n (c ∷ cs) h =
    (columns-clean Γ c.patterns (oldest_first (length Γ)) h, rows-clean Γ (suc n) cs h)

-- ---- a group
module _ (D : Defined) (clean : Tapeless (env D.group.globals)) where
  G : Entries
  G = D.group.globals

  opened-clean : (s : Span) (k : ℕ) (Γ : Ctx) (A : Term) (O : Opened) → NoTape A →
      Ends (env D.group.globals) (opened s k Γ A) (Ending.ok O) → OpenedTapeless O
  opened-clean s zero Γ A O n x =
      subst OpenedTapeless (ended _ _ x) (record { binders = tt; goal = n })
  opened-clean s (suc k) Γ A O n x =
      let h = parts _ _ O x in
      let F = parts _ _ O h.after in
      let r = parts _ _ O F.after in
      let f = function-clean h.mid F.mid (found-is _ _ _ F.mid F.first)
      (head-answer D.group clean _ _ A h.mid n h.first) in
      let o = opened-clean s k _ F.mid.codomain r.mid f.1 r.first in
      subst OpenedTapeless (ended _ _ r.after) (record { binders = (f.0, o.binders); goal = o.goal })

  record PlannedTapeless (P : Planned) : Type 0 where
    opened : TeleTapeless P.opened
    tree : TreeTapeless P.tree

  plan-clean : (P : Planned) → NoTape D.type →
      Ends (env D.group.globals) (plan D.group D.type D.labels) (Ending.ok P) → PlannedTapeless P
  unfolding plan
  plan-clean P n x =
      let a = parts _ _ P x in
      let b = parts _ _ P a.after in
      let c = parts _ _ P b.after in
      let g = parts _ _ P c.after in
      let o = opened-clean _ _ [] D.type c.mid n c.first in
      let Γ = ext-clean [] c.mid.binders tt o.binders in
      let t = grow-clean D.group clean (all_constructors D.group.clauses) (start D.group D.labels c.mid) D.group.limit
      g.mid (record {
        context = Γ;
        goal = o.goal;
        rows = rows-clean (ext [] c.mid.binders) 0 D.group.clauses Γ;
      }) g.first in
      subst PlannedTapeless (ended _ _ g.after) (record { opened = o.binders; tree = t })

  tree-clean : (P : Planned) → NoTape D.type → Ends (env D.group.globals) (tree_of D) (Ending.ok P) →
      PlannedTapeless P
  unfolding tree_of
  tree-clean P n x =
      let a = parts (plan D.group D.type D.labels) _ P x in
      let b = parts _ _ P a.after in
      let c = parts _ _ P b.after in
      subst PlannedTapeless (ended _ _ c.after) (plan-clean a.mid n a.first)

  -- ---- its sides
  side-clean : (c : Clause) (l : Leaf) (t : Term) → LeafTapeless l →
      Ends (env D.group.globals) (side_at (judge D.group.globals) D.group.part c l) (Ending.ok t) → NoTape t
  unfolding side_at
  side-clean c l t h x =
      let a = parts _ _ t x in
      let e = parts (judge D.group.globals D.group.part (scope_at l) (Mode.check l.goal) c.side) _ t a.after in
      let u = parts _ _ t e.after in
      subst NoTape (ended _ _ u.after)
      (elaborated D.group.globals clean
      (derived c.side D.group.globals D.group.part (scope_at l) (Mode.check l.goal) e.mid e.first)
      (names-turned l.names h.names) h.goal).core

  side-or-hole-clean : (c : Clause) (l : Leaf) (s : Side) → LeafTapeless l →
      Ends (env D.group.globals) (side_or_hole D.group.globals D.group.part c l) (Ending.ok s) → SideTapeless s
  unfolding side_or_hole
  side-or-hole-clean c l s h x = by_test (has_hole c.side) x
    where
      core-clean : (t : Term) → NoTape t → (s : Side) → Side.core t ≡ s → SideTapeless s
      core-clean t n s e = subst SideTapeless e n

      hole-clean : (o : Hole) (s : Side) → Side.hole o ≡ s → SideTapeless s
      hole-clean o s e = subst SideTapeless e tt

      by_test : (b : Bool) → Ends (env D.group.globals) (elim b [
        | false ↦ side_at (judge D.group.globals) D.group.part c l >>= λ t. Ask.done (Side.core t)
        | true ↦ dots_agree (judge D.group.globals) l (dots_of c.patterns) l.dots >>= λ d.
            walk D.group.globals D.group.part (scope_at l) (reverse (names_of c.patterns)) l.reported c.side l.goal
            >>= λ h. Ask.done (Side.hole h)
      ]) (Ending.ok s) → SideTapeless s
      by_test false y =
          let a = parts (side_at (judge D.group.globals) D.group.part c l) _ s y in
          core-clean a.mid (side-clean c l a.mid h a.first) s (ended _ _ a.after)
      by_test true y =
          let a = parts _ _ s y in
          let b = parts _ _ s a.after in hole-clean b.mid s (ended _ _ b.after)

  sides-of-clean : (n : ℕ) (c : Clause) (k : ℕ) (ls : List Leaf) (xs : Numbered Side) → LeavesTapeless ls →
      Ends (env D.group.globals) (sides_of (side_or_hole D.group.globals D.group.part) n c k ls) (Ending.ok xs) →
      SidesTapeless xs
  sides-of-clean n c k [] xs h x = subst SidesTapeless (ended _ _ x) tt
  sides-of-clean n c k (l ∷ ls) xs h x =
      by_test (eqb l.clause n) (λ ys y. sides-of-clean n c (suc k) ls ys h.1 y) x
    where
      by_test : (b : Bool) →
          ((ys : Numbered Side) → Ends (env D.group.globals)
          (sides_of (side_or_hole D.group.globals D.group.part) n c (suc k) ls) (Ending.ok ys) → SidesTapeless ys) →
          Ends (env D.group.globals) (elim b [
            | true ↦ side_or_hole D.group.globals D.group.part c l >>= λ t.
                sides_of (side_or_hole D.group.globals D.group.part) n c (suc k) ls >>= λ ts. Ask.done ((k, t) ∷ ts)
            | false ↦ sides_of (side_or_hole D.group.globals D.group.part) n c (suc k) ls
          ]) (Ending.ok xs) → SidesTapeless xs
      by_test true rest y =
          let a = parts (side_or_hole D.group.globals D.group.part c l) _ xs y in
          let b = parts (sides_of (side_or_hole D.group.globals D.group.part) n c (suc k) ls) _ xs a.after in
          subst SidesTapeless (ended _ _ b.after) (side-or-hole-clean c l a.mid h.0 a.first, rest b.mid b.first)
      by_test false rest y = rest xs y

  all-sides-clean : (n : ℕ) (cs : List Clause) (ls : List Leaf) (xs : Numbered Side) → LeavesTapeless ls →
      Ends (env D.group.globals) (all_sides (side_or_hole D.group.globals D.group.part) n cs ls) (Ending.ok xs) →
      SidesTapeless xs
  all-sides-clean n [] ls xs h x = subst SidesTapeless (ended _ _ x) tt
  all-sides-clean n (c ∷ cs) ls xs h x =
      let a = parts (sides_of (side_or_hole D.group.globals D.group.part) n c 0 ls) _ xs x in
      let b = parts (all_sides (side_or_hole D.group.globals D.group.part) (suc n) cs ls) _ xs a.after in
      subst SidesTapeless (ended _ _ b.after)
      (sides-joined a.mid b.mid (sides-of-clean n c 0 ls a.mid h a.first)
      (all-sides-clean (suc n) cs ls b.mid h b.first))

  -- ---- its body
  end-clean : (P : Planned) (xs : Numbered Side) (hs : List Hole) (b : Term) → PlannedTapeless P → SidesTapeless xs →
      Ends (env D.group.globals) (end_group D P xs hs) (Ending.ok (Given.body b)) → NoTape b
  unfolding end_group
  end-clean P xs [] b p s x =
      let a = parts (body_holds D (body_with P (cores xs))) _ _ x in
      let e : Given.body (body_with P (cores xs)) ≡ Given.body b = ended _ _ a.after in
      let f : body_with P (cores xs) ≡ b = cc e in
      subst NoTape f
      (lams-clean P.opened (glue P.tree (in_order 0 (leaves P.tree) (cores xs))) p.opened
      (glue-clean P.tree (in_order 0 (leaves P.tree) (cores xs)) p.tree
      (order-clean 0 (leaves P.tree) (cores xs) (cores-clean xs s))))
  end-clean P xs (h ∷ hs) b p s x = let e : Given.holes (h ∷ hs) ≡ Given.body b = ended _ _ x in absurd (cc e)

  group-clean : (b : Term) → NoTape D.type → Ends (env D.group.globals) (group_of D) (Ending.ok (Given.body b)) →
      NoTape b
  unfolding group_of
  group-clean b n x =
      let p = parts (tree_of D) _ _ x in
      let s = parts (all_sides (side_or_hole D.group.globals D.group.part) 0 D.group.clauses (leaves p.mid.tree)) _ _
      p.after in
      let t = tree-clean p.mid n p.first in
      end-clean p.mid s.mid (holes_from [] s.mid) b t
      (all-sides-clean 0 D.group.clauses (leaves p.mid.tree) s.mid (leaves-clean p.mid.tree t.tree) s.first) s.after

pub groups_make_no_tape_holds : GroupsMakeNoTape
groups_make_no_tape_holds D b clean n x = group-clean D clean b n x
