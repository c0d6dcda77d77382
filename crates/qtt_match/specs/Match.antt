-- The first clause that fits closed values, over the families of an environment. Each clause is tried whole; a case
-- tree examines one place at a time.
use Rattle.std.specs.Prelude.{◌≡◌, ℕ, suc, Bool, true, false, ◌&&◌, cond, List, [], ◌∷◌, Option, Some, None, take, slice_get}
use Rattle.qtt_base.specs.declared.place.GlobalId.{GlobalId}
use Rattle.qtt_base.specs.declared.place.Span.{Span}
use Rattle.qtt_syntax.specs.declared.expr.Mark.{Mark}
use Rattle.qtt_syntax.specs.declared.expr.Named.{Named}
use Rattle.qtt_syntax.specs.Tree.{Tree, Shape, Shapes, shapes}
use Rattle.qtt_syntax.specs.Tree.Shape.{variable, wildcard, constructor, dot}
use Rattle.qtt_syntax.specs.Tree.Shapes.{no_shape, shape_and}
use Rattle.qtt_term.specs.Items.{FamilyEntry}
use Rattle.qtt_term.specs.Term.{Form, Term, Terms, node, ε, ◌▸◌, skip, ◌+++◌}
use Rattle.qtt_match.specs.Constructors.{named_constructor, names_constructor}

-- a variable, a wildcard and a dot pattern fit every value; a constructor pattern fits a value of that constructor
-- whose fields fit its patterns
mutual
  pub data Fits (Fs : List FamilyEntry) : Shape → Term → Type 0 where
    variable_fits : {m : Mark} {n : List ℕ} {s : Span} {t : Term} → Fits Fs (variable m n s) t
    wildcard_fits : {m : Mark} {s : Span} {t : Term} → Fits Fs (wildcard m s) t
    dot_fits : {m : Mark} {e : Tree} {s : Span} {t : Term} → Fits Fs (dot m e s) t
    constructor_fits : {m : Mark} {h : Named} {ps : Shapes} {s : Span} {f : GlobalId} {c k : ℕ} {ts : Terms} →
        named_constructor Fs h.target ≡ Some (record { family = f; place = c }) → AllFit Fs ps (skip k ts) →
        Fits Fs (constructor m h ps s) (node (Form.con f c k) ts)

  -- as many values as patterns, each of which fits
  pub data AllFit (Fs : List FamilyEntry) : Shapes → Terms → Type 0 where
    none_left : AllFit Fs no_shape ε
    and_fits : {p : Shape} {ps : Shapes} {t : Term} {ts : Terms} → Fits Fs p t → AllFit Fs ps ts →
        AllFit Fs (shape_and p ps) (t ▸ ts)

abbrev pub NoneFits : List FamilyEntry → List (List Shape) → Terms → Type 0
NoneFits Fs [] ts = Unit {0}
NoneFits Fs (ps ∷ cs) ts = (AllFit Fs (shapes ps) ts → ⊥) × NoneFits Fs cs ts

-- clause i is the least all of whose patterns fit
pub record IsFirstMatch (Fs : List FamilyEntry) (cs : List (List Shape)) (ts : Terms) (i : ℕ) : Type 0 where
  pub patterns : List Shape
  pub there : slice_get cs i ≡ Some patterns
  pub fit : AllFit Fs (shapes patterns) ts
  pub none_before : NoneFits Fs (take i cs) ts

-- ---- the same as tests
abbrev mutual
  pub fits : List FamilyEntry → Shape → Term → Bool
  fits Fs (variable m n s) t = true
  fits Fs (wildcard m s) t = true
  fits Fs (dot m e s) t = true
  fits Fs (constructor m h ps s) (node (Form.con f c k) ts) = names_constructor Fs h f c && all_fit Fs ps (skip k ts)
  fits Fs (constructor m h ps s) _ = false

  pub all_fit : List FamilyEntry → Shapes → Terms → Bool
  all_fit Fs no_shape ε = true
  all_fit Fs (shape_and p ps) (t ▸ ts) = fits Fs p t && all_fit Fs ps ts
  all_fit Fs _ _ = false

-- the first of these clauses that fits, the first of them having this number
abbrev pub first_from : List FamilyEntry → ℕ → List (List Shape) → Terms → Option ℕ
first_from Fs n [] ts = None
first_from Fs n (ps ∷ cs) ts = cond (all_fit Fs (shapes ps) ts) (Some n) (first_from Fs (suc n) cs ts)

abbrev pub first_match : List FamilyEntry → List (List Shape) → Terms → Option ℕ
first_match Fs cs ts = first_from Fs 0 cs ts

-- ---- what the variables, wildcards and dot patterns of a pattern that fits stand for, in the order of the text
abbrev mutual
  pub parts : Shape → Term → Terms
  parts (variable m n s) t = t ▸ ε
  parts (wildcard m s) t = t ▸ ε
  parts (dot m e s) t = t ▸ ε
  parts (constructor m h ps s) (node (Form.con f c k) ts) = all_parts ps (skip k ts)
  parts (constructor m h ps s) _ = ε

  pub all_parts : Shapes → Terms → Terms
  all_parts (shape_and p ps) (t ▸ ts) = parts p t +++ all_parts ps ts
  all_parts _ _ = ε
