-- The items of a module in turn end with what the rules derive.
use Rattle.std.proofs.Common.{◌≡◌, ℕ, Bool, true, false, List, [], ◌∷◌, cond, Option, Some, None, refl, sym, subst, All}
use Rattle.std.proofs.lemmas.List.Elements.{All-nil, All-cons, All-head, All-tail}
use Rattle.qtt_syntax.specs.Tree.{Item}
use Rattle.qtt_term.specs.Ask.{Ending, Ends}
use Rattle.qtt_term.specs.Entries.{Entries, env}
use Rattle.qtt_split.specs.Node.{Clause}
use Rattle.qtt_core_check.proofs.Parts.{parts, ended}
use Rattle.qtt_core_check.proofs.Answered.{ends-then as joined}
use Rattle.qtt_bidi.proofs.Endings.{Gives}
use Rattle.qtt_module.specs.Families.{family, signature}
use Rattle.qtt_module.specs.Declarations.{Declaration, declarations}
use Rattle.qtt_module.specs.Sides.{group_of}
use Rattle.qtt_module.specs.Module.{Home, item_of, Signed, Stage, start, after_group, signed_as, defined, group_for, declare, first_bare, or_bare, InTurn, Checked, Accepts}
use Rattle.qtt_module.specs.ModuleRules.{Declares, HasClauses, DeclaresAll, DeclaresModule}
use Rattle.qtt_module.proofs.Declared.{family_so, so_family, signature_so, so_signature}
use Rattle.qtt_module.proofs.Grouped.{group_so, so_group}

-- ---- behind the last item
no_bare : (xs : List Signed) → first_bare xs ≡ None → All HasClauses xs
no_bare [] e = All-nil HasClauses
no_bare (x ∷ xs) e = by x.has_clauses refl (λ d. no_bare xs d) e
  where
    by : (b : Bool) → x.has_clauses ≡ b → (first_bare xs ≡ None → All HasClauses xs) →
        cond (cond b false true) (Some x) (first_bare xs) ≡ None → All HasClauses (x ∷ xs)
    by true h rest d = All-cons HasClauses x xs h (rest d)
    by false h rest d = absurd (cc d)

bare_none : (xs : List Signed) → All HasClauses xs → first_bare xs ≡ None
bare_none [] h = refl
bare_none (x ∷ xs) h = by x.has_clauses (All-head HasClauses x xs h) (bare_none xs (All-tail HasClauses x xs h))
  where
    by : (b : Bool) → b ≡ true → first_bare xs ≡ None → cond (cond b false true) (Some x) (first_bare xs) ≡ None
    by true h d = d
    by false h d = absurd (cc h)

-- what behind the last item ends with is the stage itself, where no signature is bare
pub record Ready (S : Stage) (o : Option Signed) (T : Stage) : Type 0 where
  pub none : o ≡ None
  pub same : S ≡ T

ready_so : {E : _} (S : Stage) (o : Option Signed) (T : Stage) → Gives E (or_bare S o) T → Ready S o T
ready_so S None T x = record { none = refl; same = ended _ _ x }
ready_so S (Some y) T x = elim x [ ]

so_ready : {E : _} (S : Stage) (o : Option Signed) → o ≡ None → Gives E (or_bare S o) S
so_ready S None e = Ends.is_done
so_ready S (Some y) e = absurd (cc e)

-- ---- one item
module _ (M : Home) (S : Stage) where
  group_for_so : (n : List ℕ) (c : Clause) (cs : List Clause) (o : Option Signed) (T : Stage) →
      signed_as n S.signed ≡ o → Gives (env S.globals) (group_for o S n c cs) T →
      Declares M S (Declaration.group n c cs) T
  group_for_so n c cs None T e x = elim x [ ]
  group_for_so n c cs (Some y) T e x =
      let g = parts (group_of (defined S y c cs)) _ T x in
      subst (Declares M S (Declaration.group n c cs)) (ended _ _ g.after)
      (Declares.group e (group_so (defined S y c cs) g.mid g.first))

  pub declare_so : (d : Declaration) (T : Stage) → Gives (env S.globals) (declare M S d) T → Declares M S d T
  unfolding declare
  declare_so (Declaration.family n ps t cs) T x =
      let F = parts (family S.globals (item_of M S.next) M.name n ps t cs) _ T x in
      subst (Declares M S (Declaration.family n ps t cs)) (ended _ _ F.after)
      (Declares.family (family_so S.globals (item_of M S.next) M.name n ps t cs F.mid F.first))
  declare_so (Declaration.signature b q n s t) T x =
      let d = parts (signature S.globals (item_of M S.next) M.name n q t) _ T x in
      subst (Declares M S (Declaration.signature b q n s t)) (ended _ _ d.after)
      (Declares.signature (signature_so S.globals (item_of M S.next) M.name n q t d.mid d.first))
  declare_so (Declaration.group n c cs) T x = group_for_so n c cs (signed_as n S.signed) T refl x

  pub so_declare : (d : Declaration) (T : Stage) → Declares M S d T → Gives (env S.globals) (declare M S d) T
  unfolding declare
  so_declare _ _ (Declares.family {n = n} {ps = ps} {t = t} {cs = cs} {F = F} h) =
      joined (family S.globals (item_of M S.next) M.name n ps t cs) _
      (so_family S.globals (item_of M S.next) M.name n ps t cs F h) Ends.is_done
  so_declare _ _ (Declares.signature {q = q} {n = n} {t = t} {d = d} h) =
      joined (signature S.globals (item_of M S.next) M.name n q t) _
      (so_signature S.globals (item_of M S.next) M.name n q t d h) Ends.is_done
  so_declare _ _ (Declares.group {n = n} {c = c} {cs = cs} {x = x} {g = g} e h) =
      subst (λ o. Gives (env S.globals) (group_for o S n c cs) (after_group n x.id g S)) (sym e)
      (joined (group_of (defined S x c cs)) _ (so_group (defined S x c cs) g h) Ends.is_done)

-- ---- all items
pub turn_so : (M : Home) (S : Stage) (ds : List Declaration) (T : Stage) → InTurn M S ds (Ending.ok T) →
    DeclaresAll M S ds T
turn_so M S _ T (InTurn.last x) =
    let r = ready_so S (first_bare S.signed) T x in
    subst (DeclaresAll M S []) r.same (DeclaresAll.last (no_bare S.signed r.none))
turn_so M S _ T (InTurn.passes {T = U} {d = d} {ds = ds} x y) =
    DeclaresAll.more (declare_so M S d U x) (turn_so M U ds T y)

pub so_turn : (M : Home) (S : Stage) (ds : List Declaration) (T : Stage) → DeclaresAll M S ds T →
    InTurn M S ds (Ending.ok T)
so_turn M S _ _ (DeclaresAll.last h) = InTurn.last (so_ready S (first_bare S.signed) (bare_none S.signed h))
so_turn M S _ T (DeclaresAll.more {T = U} {d = d} {ds = ds} x y) =
    InTurn.passes (so_declare M S d U x) (so_turn M U ds T y)

pub module_so : (M : Home) (G : Entries) (is : List Item) (C : Checked) → Accepts M G is C → DeclaresModule M G is C
module_so M G is C a =
    subst (DeclaresModule M G is) a.is_checked
    (DeclaresModule.declares (turn_so M (start G) (declarations is) a.stage a.ends))

pub so_module : (M : Home) (G : Entries) (is : List Item) (C : Checked) → DeclaresModule M G is C → Accepts M G is C
so_module M G is _ (DeclaresModule.declares {S = S} d) =
    record { stage = S; ends = so_turn M (start G) (declarations is) S d; is_checked = refl }
