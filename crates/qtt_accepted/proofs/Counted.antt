-- A family that elaboration gives has all its arguments, where names stand for variables: an induction over its rules.
use Rattle.std.proofs.Common.{◌≡◌, ℕ, zero, suc, List, [], ◌∷◌, length, Some, slice_get, refl, sym, ap, subst, ◌∙◌}
use Rattle.qtt_base.specs.declared.place.GlobalId.{GlobalId}
use Rattle.qtt_syntax.specs.Tree.{Tree, Arguments, Binders, Statements}
use Rattle.qtt_term.specs.Term.{Term, Terms, var, node, size, Fam}
use Rattle.qtt_term.specs.Substitution.{ren}
use Rattle.qtt_term.specs.Signature.{Tele}
use Rattle.qtt_term.specs.Judgement.{Part}
use Rattle.qtt_term.proofs.Options.{none≢some, some-injective}
use Rattle.qtt_term.specs.Entries.{Entries}
use Rattle.qtt_term.specs.Scope.{Scope, shifted}
use Rattle.qtt_rules.specs.Judged.{Judged, Mode}
use Rattle.qtt_bidi.specs.Elaboration.{Given, family_telescope}
use Rattle.qtt_bidi.specs.Rules.{Found, Elaborates, Checked, Applied, FoundLambda, CheckedLambda, Runs}
use Rattle.qtt_accepted.specs.Scoped.{NamesAreVariables}

-- ---- names
abbrev IsVariable : Term → Type 0
IsVariable t = (i : ℕ) × (t ≡ var i)

named : (xs : List (Term × Term)) (i : ℕ) (x : Term × Term) → NamesAreVariables xs → slice_get xs i ≡ Some x →
    IsVariable x.0
named [] i x h e = absurd (none≢some e)
named (y ∷ xs) zero x h e = subst (λ z. IsVariable z.0) (some-injective e) h.0
named (y ∷ xs) (suc i) x h e = named xs i x h.1 e

all-shifted : (xs : List (Term × Term)) → NamesAreVariables xs → NamesAreVariables (shifted xs)
all-shifted [] h = tt
all-shifted (x ∷ xs) h = ((suc h.0.0, ap (ren suc) h.0.1), all-shifted xs h.1)

pub with-variable : (A : Term) (xs : List (Term × Term)) → NamesAreVariables xs →
    NamesAreVariables ((var 0, ren suc A) ∷ shifted xs)
with-variable A xs h = ((0, refl), all-shifted xs h)

-- ---- cores
abbrev Counts : Entries → Term → Type 0
Counts G t = (f : GlobalId) (ts : Terms) → t ≡ Fam f ts → size ts ≡ length (family_telescope G f)

checked-count : {G : Entries} {p : Part} {S : Scope} {Θ : Tele} {σ : ℕ → Term} {es : Arguments} {g : Given} →
    Checked G p S Θ σ es g → size g.cores ≡ length Θ
checked-count Checked.none = refl
checked-count (Checked.more e r) = ap suc (checked-count r)

family-counts : (G : Entries) (f : GlobalId) (ts : Terms) → size ts ≡ length (family_telescope G f) →
    Counts G (Fam f ts)
family-counts G f ts n g ss e =
    let i : f ≡ g = cc e in
    let s : ts ≡ ss = cc e in
    ap size (sym s) ∙ n ∙ ap (λ h. length (family_telescope G h)) i

module _ {G : Entries} where
  applied-counts : {p : Part} {S : Scope} {f j : Judged} {es : Arguments} → Applied G p S f es j → Counts G f.core →
      Counts G j.core
  applied-counts Applied.itself k = k
  applied-counts (Applied.to x e r) k = applied-counts r (λ g ss e. absurd (cc e))

  mutual
    found-counts : {p : Part} {S : Scope} {e : Tree} {j : Judged} → Found G p S e j → NamesAreVariables S.names →
        Counts G j.core
    found-counts (Found.variable t n u) h = λ g ss e. absurd (cc e)
    found-counts {S = S} (Found.stands {i = i} {F = F} {ts = ts} {A = A} t n u) h =
        let v = named S.names i (node F ts, A) h n in absurd (cc v.1)
    found-counts (Found.global t m u) h = λ g ss e. absurd (cc e)
    found-counts Found.sort h = λ g ss e. absurd (cc e)
    found-counts (Found.function_type a b) h = λ g ss e. absurd (cc e)
    found-counts (Found.application x f a) h = applied-counts a (elaborated-counts f h)
    found-counts (Found.family {f = f} {g = g} c a) h = family-counts G f g.cores (checked-count a)
    found-counts (Found.listed c a) h = λ g ss e. absurd (cc e)
    found-counts (Found.ascribed a e) h = elaborated-counts e h
    found-counts Found.integer h = λ g ss e. absurd (cc e)
    found-counts Found.string h = λ g ss e. absurd (cc e)

    pub elaborated-counts : {p : Part} {S : Scope} {m : Mode} {e : Tree} {j : Judged} → Elaborates G p S m e j →
        NamesAreVariables S.names → Counts G j.core
    elaborated-counts (Elaborates.found f) h = found-counts f h
    elaborated-counts (Elaborates.switch f c) h = found-counts f h
    elaborated-counts (Elaborates.lam_synth l) h = found-lambda l h
    elaborated-counts (Elaborates.lam_check l) h = checked-lambda l h
    elaborated-counts (Elaborates.con_synth n e z a) h = λ g ss e. absurd (cc e)
    elaborated-counts (Elaborates.con_check n e i a v) h = λ g ss e. absurd (cc e)
    elaborated-counts (Elaborates.pure c i a) h = λ g ss e. absurd (cc e)
    elaborated-counts (Elaborates.let_in x b f) h = λ g ss e. absurd (cc e)
    elaborated-counts (Elaborates.block r) h = runs-count r h

    found-lambda : {p : Part} {S : Scope} {bs : Binders} {e : Tree} {j : Judged} → FoundLambda G p S bs e j →
        NamesAreVariables S.names → Counts G j.core
    found-lambda (FoundLambda.found_body e) h = elaborated-counts e h
    found-lambda (FoundLambda.found_binder a l f) h = λ g ss e. absurd (cc e)

    checked-lambda : {p : Part} {S : Scope} {T : Term} {bs : Binders} {e : Tree} {j : Judged} →
        CheckedLambda G p S T bs e j → NamesAreVariables S.names → Counts G j.core
    checked-lambda (CheckedLambda.checked_body e) h = elaborated-counts e h
    checked-lambda (CheckedLambda.checked_binder x a l f) h = λ g ss e. absurd (cc e)

    runs-count : {p : Part} {S : Scope} {m : Mode} {ss : Statements} {j : Judged} → Runs G p S m ss j →
        NamesAreVariables S.names → Counts G j.core
    runs-count (Runs.last e) h = elaborated-counts e h
    runs-count (Runs.act a i e w r f) h = λ g ss e. absurd (cc e)
    runs-count (Runs.let_then x b f) h = λ g ss e. absurd (cc e)
