-- What contexts stand for, as they grow and are cut.
use Rattle.std.proofs.Common.{◌≡◌, ℕ, suc, List, [], ◌∷◌, ◌++◌, ◌+◌, ◌<◌, length, map, reverse, take, get_or, refl, sym, ap, ◌∙◌}
use Rattle.std.proofs.lemmas.List.{map-append, reverse-append, take_more}
use mathlib.Core.Path.{ap₂}
use Rattle.qtt_usage.specs.declared.mult.Mult.{Mult}
use Rattle.qtt_term.specs.declared.context.Ctx as code_ctx
use Rattle.qtt_term.specs.declared.term.Term as code
use Rattle.qtt_term.specs.Term.{Term, var, Sort}
use Rattle.qtt_term.specs.Substitution.{ren}
use Rattle.qtt_term.specs.Judgement.{Ctx}
use Rattle.qtt_term.specs.Scope.{Scope, scope_of, shifted, with_name, with_index}
use Rattle.qtt_term.specs.Telescopes.{tele}
use Rattle.qtt_term.specs.View.{term}
use Rattle.qtt_bidi.specs.Seen.{stands}
use Rattle.qtt_bidi.proofs.Scopes.{one-more-var}

abbrev scope : Ctx → List (Term × Term) → Scope
scope Γ ns = record { vars = Γ; names = ns }

pub scope-alike : (c d : code_ctx.Ctx) → tele c.vars.items ≡ tele d.vars.items →
    map stands c.names.items ≡ map stands d.names.items → scope_of c ≡ scope_of d
scope-alike c d v n = ap₂ (λ vs ns. scope (reverse vs) (reverse ns)) v n

pub scope-same : (c d : code_ctx.Ctx) → c.vars ≡ d.vars → c.names.items ≡ d.names.items → scope_of c ≡ scope_of d
scope-same c d v n = scope-alike c d (ap (λ vs. tele vs.items) v) (ap (map stands) n)

one-name-more : (ns : List (code.Term × code.Term)) (x : code.Term × code.Term) →
    reverse (map stands (ns ++ x ∷ [])) ≡ stands x ∷ reverse (map stands ns)
one-name-more ns x = ap reverse (map-append stands ns (x ∷ [])) ∙ reverse-append (map stands ns) (stands x ∷ [])

turned-along : (xs : List (Term × Term)) → reverse (shifted xs) ≡ shifted (reverse xs)
turned-along [] = refl
turned-along (x ∷ xs) =
    reverse-append ((ren suc x.0, ren suc x.1) ∷ []) (shifted xs)
    ∙ ap (λ ys. ys ++ (ren suc x.0, ren suc x.1) ∷ []) (turned-along xs)
    ∙ sym (map-append (λ (y : Term × Term). (ren suc y.0, ren suc y.1)) (reverse xs) (x ∷ []))
    ∙ ap shifted (sym (reverse-append (x ∷ []) xs))

-- names that are raised one by one
pub raised-next : (xs all more : List (code.Term × code.Term)) (x : code.Term × code.Term) (t u : code.Term) (i : ℕ) →
    i < length xs → x ≡ get_or xs i x → more ≡ all ++ (t, u) ∷ [] → term t ≡ ren suc (term x.0) →
    term u ≡ ren suc (term x.1) → map stands all ≡ shifted (map stands (take i xs)) →
    map stands more ≡ shifted (map stands (take (i + 1) xs))
raised-next xs all more x t u i h e p a b before =
    let next : take (i + 1) xs ≡ take i xs ++ x ∷ [] =
    take_more xs i x h ∙ ap (λ y. take i xs ++ y ∷ []) (sym e) in
    ap (map stands) p ∙ map-append stands all ((t, u) ∷ [])
    ∙ ap₂ (λ ys y. ys ++ y ∷ []) before (ap₂ (λ v w. (v, w)) a b)
    ∙ sym (ap (λ ys. shifted (map stands ys)) next ∙ ap shifted (map-append stands (take i xs) (x ∷ []))
    ∙ map-append (λ (y : Term × Term). (ren suc y.0, ren suc y.1)) (map stands (take i xs)) (stands x ∷ []))

-- under one variable more, with its name
pub named-scope : (c d : code_ctx.Ctx) (q : Mult) (A v B : code.Term) (ns : List (code.Term × code.Term)) →
    d.vars.items ≡ c.vars.items ++ (q, A) ∷ [] → d.names.items ≡ ns ++ (v, B) ∷ [] →
    map stands ns ≡ shifted (map stands c.names.items) → term v ≡ var 0 → term B ≡ ren suc (term A) →
    scope_of d ≡ with_name q (term A) (scope_of c)
named-scope c d q A v B ns a b s x y =
    ap₂ scope (ap (λ vs. reverse (tele vs)) a ∙ one-more-var c.vars.items (q, A))
    (ap (λ ms. reverse (map stands ms)) b ∙ one-name-more ns (v, B)
    ∙ ap₂ (λ z w. z ∷ w) (ap₂ (λ t u. (t, u)) x y) (ap reverse s ∙ turned-along (map stands c.names.items)))

-- with the name of an index
pub indexed-scope : (c d : code_ctx.Ctx) (x : code.Term × code.Term) → d.vars ≡ c.vars →
    d.names.items ≡ c.names.items ++ x ∷ [] → stands x ≡ (Sort 0, Sort 1) →
    scope_of d ≡ with_index (scope_of c)
indexed-scope c d x v n e =
    ap₂ scope (ap (λ vs. reverse (tele vs.items)) v)
    (ap (λ ms. reverse (map stands ms)) n ∙ one-name-more c.names.items x
    ∙ ap (λ z. z ∷ reverse (map stands c.names.items)) e)
